-- A number in memory beside all spots.
use Rattle.std.proofs.Common.{sym, ◌∙◌}
use Rattle.tss_base.specs.Range.{meets}
use Rattle.tss_workers.proofs.RuleLemmas.{any_false}
use Rattle.tss_workers.proofs.SpotLemmas.{beside_number, not_covered}
use Rattle.tss_workers.proofs.accesses.fixed_number.Goals as goal

pub returns-else-meets_any-clause-exact : goal.returns-else-meets_any-clause-exact
returns-else-meets_any-clause-exact c =
    c.number.ensures.exact
    ∙ beside_number c.args.spots.now c.args.space.now c.args.buffers.now c.args.r.now (λ i s a e low high.
    not_covered s.object c.args.r.now a (any_false (λ s. meets s.object c.args.r.now) c.args.spots.now
    (sym c.meets_any.ensures ∙ c.if-meets_any.false) i s e) low high)
