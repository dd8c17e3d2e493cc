use Rattle.std.proofs.Common.{◌≡◌, sym, ap, ◌∙◌, subst, false, not}
use Rattle.std.specs.List.{list_any}
use Rattle.tss_asm.specs.Faults.{has_far_target, has_bad_immediate, has_fit_fields}
use Rattle.tss_asm.proofs.ItemLemmas.{some_unfit}
use Rattle.tss_asm.proofs.program.Program.has_bad_immediate.Goals as goal

pub returns : goal.returns
returns c =
    let inside = c.self.inside in
    subst (λ p. has_far_target p ≡ false → c.some_unfit.result ≡ has_bad_immediate p) c.self.view_is
    (λ near. c.some_unfit.ensures ∙ ap (list_any (λ x. not (has_fit_fields x))) c.deref.ensures.value
    ∙ sym (some_unfit inside.text_at inside.labels 0 inside.text.items near)) c.requires
