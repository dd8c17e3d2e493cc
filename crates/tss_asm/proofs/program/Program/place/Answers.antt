use Rattle.std.proofs.Common.{◌≡◌, length, subst, sym, ap, ◌∙◌, arith}
use Rattle.tss_asm.specs.Labels.{AreWithin, placed}
use Rattle.tss_asm.proofs.LabelLemmas.{AreWithin-placed}
use Rattle.tss_asm.proofs.program.Program.place.Goals as goal

pub invariant_of-self : goal.invariant_of-self
invariant_of-self c =
    let labels = c.self.inside.labels in
    let n = length c.self.inside.text.items in
    let at : c.len.result ≡ n = omega arith in
    subst (λ now. AreWithin now n) (sym (c.place.ensures ∙ ap (placed labels c.args.label) at))
    (AreWithin-placed labels c.args.label n c.self.invariant)
