-- A stretch leaves the ranges of memory.
use Rattle.std.proofs.Common.{sym, ap, subst, ◌∙◌}
use Rattle.tss_model.specs.MainStep.{Flat}
use Rattle.tss_steps.specs.Limited.{flat_of}
use Rattle.tss_program_order.proofs.FlatMain.{main_stretch-leaves}
use Rattle.tss_inorder.specs.Grounds.{IsGrounded}
use Rattle.tss_inorder.proofs.flat.Flat.event.Goals as goal

pub invariant_of-self : goal.invariant_of-self
invariant_of-self c =
    let i = c.self.inside in
    subst IsGrounded
    (sym (ap (λ (f : Flat). f.memory.ranges) c.stretch.ensures.exact
    ∙ (main_stretch-leaves i.code i.main.limits c.args.quantum (flat_of i.main i.space)).ranges))
    c.self.invariant
