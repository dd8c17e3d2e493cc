-- What a machine keeps, as it is opened, and that it follows program order from the start.
use Rattle.std.proofs.Common.{ℕ, ap, ◌∙◌}
use Rattle.tss_model.specs.Memory.{Memory}
use Rattle.tss_model.specs.MainStep.{main_start}
use Rattle.tss_steps.specs.Placing.{beside_scratch}
use Rattle.tss_inorder.proofs.OpenLemmas.{beside_scratch-loaded}
use Rattle.tss_inorder.proofs.OrderLemmas.{follows-opened}
use Rattle.tss_inorder.proofs.flat.Flat.open.Goals as goal

pub invariant_of-result : goal.invariant_of-result
invariant_of-result c = record {
  are = c.range_at-first.ensures.ranges;
  beside =
      ap (λ (m : Memory). beside_scratch m.ranges) c.in_ok-space.ensures.space
      ∙ beside_scratch-loaded c.args.image.now c.entry-entry.ensures.accepted;
}

pub returns-clause-follows : goal.returns-clause-follows
returns-clause-follows c =
    follows-opened c.args.image.now c.args.limits.now c.in_ok-open-2.field-0 c.in_ok-space.code c.in_ok-space.space
    (c.in_ok-open-2.ensures ∙ ap (λ (entry : ℕ). record { limits = c.args.limits.now; main = main_start entry }) c.entry-entry.ensures.entry)
    c.in_ok-space.ensures.code c.in_ok-space.ensures.space
