-- The digits of each stretch go out after those before.
use Rattle.std.proofs.Common.{◌≡◌, ◌++◌, ℕ, List, refl, sym, ap, ◌∙◌, take, drop}
use Rattle.std.proofs.lemmas.List.{take-append-drop}
use Rattle.hex.specs.Hex.{encode_lower}
use Rattle.tss_text.proofs.PieceLemmas.{none_put, more_put, failed_put, all_put, same_text}
use Rattle.tss_state_lines.proofs.WordLemmas.{encode-append, no_digits}
use Rattle.tss_state_lines.proofs.bytes.put_hex.Goals as goal

-- the digits of a list are those of its two parts
parted : (k : ℕ) (xs front back : List ℕ) → front ≡ take k xs → back ≡ drop k xs →
    encode_lower xs ≡ encode_lower front ++ encode_lower back
parted k xs front back e f =
    ap encode_lower (sym (take-append-drop k xs) ∙ (λ i. sym e i ++ sym f i)) ∙ encode-append front back

pub loop-rest-init : goal.loop-rest-init
loop-rest-init g c = none_put g.K.Sink c.args.to.now _ _ refl

pub returns-in_err-put : goal.returns-in_err-put
returns-in_err-put g c =
    let front = c.split_at.result.0.now in
    let back = c.split_at.result.1.now in
    failed_put c.loop-rest.invariant (encode_lower front) (encode_lower back)
    (parted _ _ _ _ c.split_at.ensures.front c.split_at.ensures.back)
    (same_text c.write_hex.ensures c.in_err-put.ensures) c.from_residual.ensures.0

pub loop-rest-preserved : goal.loop-rest-preserved
loop-rest-preserved g c =
    let front = c.split_at.result.0.now in
    let back = c.split_at.result.1.now in
    more_put c.loop-rest.invariant (encode_lower front) (encode_lower back)
    (parted _ _ _ _ c.split_at.ensures.front c.split_at.ensures.back)
    (same_text c.write_hex.ensures c.in_ok-put.ensures)

pub returns : goal.returns
returns g c = all_put c.loop-rest.invariant (no_digits c.loop-rest.rest.now (sym c.is_empty.ensures ∙ c.loop-rest-test.false))
