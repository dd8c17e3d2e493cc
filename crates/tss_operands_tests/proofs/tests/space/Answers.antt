-- The two segments make an image.
use Rattle.std.proofs.Common.{rules, ◌≡◌, ap, sym, subst, ◌∙◌, [], ◌∷◌, ◌++◌, length, arith}
use Rattle.tss_base.specs.Image.{IsAccepted}
use Rattle.tss_operands_tests.proofs.ImageLemmas.{IsAccepted-pair}
use Rattle.tss_operands_tests.proofs.tests.space.Goals as goal

pub new-requires-3 : goal.new-requires-3
new-requires-3 c =
    let few : length c.in_ok-code.code.items ≡ 64 = search rules in
    let many : length c.in_ok-data.data.items ≡ 4096 = search rules in
    subst (λ xs. IsAccepted (record { entry = 0x10000; segments = xs }))
    (sym (c.in_ok-push-2.ensures.items
    ∙ ap (λ xs. xs ++ c.new-2.result ∷ [])
    (c.in_ok-push.ensures.items ∙ ap (λ xs. xs ++ c.new.result ∷ []) c.new-segments.ensures.items)
    ∙ (λ i. c.new.ensures i ∷ c.new-2.ensures i ∷ [])))
    (IsAccepted-pair c.in_ok-code.code.items c.in_ok-data.data.items (omega (arith, few)) (omega (arith, few))
    (omega (arith, many)) (omega (arith, many)))
