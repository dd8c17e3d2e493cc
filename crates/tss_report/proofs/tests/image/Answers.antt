-- The three segments make an image.
use Rattle.std.proofs.Common.{rules, ◌≡◌, ap, sym, subst, ◌∙◌, [], ◌∷◌, ◌++◌, length}
use Rattle.tss_base.specs.Image.{IsAccepted}
use Rattle.tss_report.proofs.ImageLemmas.{IsAccepted-three}
use Rattle.tss_report.proofs.tests.image.Goals as goal

pub new-requires-4 : goal.new-requires-4
new-requires-4 c =
    let code : length c.in_ok-code.code.items ≡ 16 = search rules in
    let first : length c.in_ok-zeros.zeros.items ≡ 40 = search rules in
    let second : length c.in_ok-twos.twos.items ≡ 32 = search rules in
    subst (λ xs. IsAccepted (record { entry = 0x10000; segments = xs }))
    (sym (c.in_ok-push-3.ensures.items
    ∙ ap (λ xs. xs ++ c.new-3.result ∷ [])
    (c.in_ok-push-2.ensures.items
    ∙ ap (λ xs. xs ++ c.new-2.result ∷ [])
    (c.in_ok-push.ensures.items ∙ ap (λ xs. xs ++ c.new.result ∷ []) c.new-segments.ensures.items))
    ∙ (λ i. c.new.ensures i ∷ c.new-2.ensures i ∷ c.new-3.ensures i ∷ [])))
    (IsAccepted-three c.in_ok-code.code.items c.in_ok-zeros.zeros.items c.in_ok-twos.twos.items code first second)
