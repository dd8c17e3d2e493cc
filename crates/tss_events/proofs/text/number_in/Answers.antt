-- A digit more, and none left.
use Rattle.std.proofs.Common.{◌≡◌, ◌+◌, ◌-◌, drop, get_or, length, sym, ap, ◌∙◌, arith}
use Rattle.std.proofs.Math.Seq.{drop-length}
use Rattle.tss_events.specs.Reading.{clipped}
use Rattle.tss_events.proofs.Clipping.{with_digit, number_from, clipped_sum, clipped_from, clipped_same, number_next}
use Rattle.tss_events.proofs.text.number_in.Goals as goal

pub loop-digit-preserved : goal.loop-digit-preserved
loop-digit-preserved c =
    let digits = c.args.digits.now in
    let at = c.loop-digit.digit-index in
    let digit = get_or digits at 0 in
    let sum = clipped_sum c.loop-digit.number (digit - 48) in
    let next : c.saturating_add-number.result ≡ clipped (with_digit c.loop-digit.number digit) =
    omega (arith, sum, c.saturating_add-number.ensures, c.saturating_mul.ensures, c.from.ensures, c.saturating_sub.ensures)
    in
    record {
      small = omega (arith, c.saturating_add-number.ensures);
      read =
          ap (λ n. clipped (number_from n (drop (at + 1) digits))) next
          ∙ clipped_from (drop (at + 1) digits) (with_digit c.loop-digit.number digit)
          ∙ ap clipped (sym (number_next c.loop-digit.number digits at 0 c.loop-digit-test.true))
          ∙ c.loop-digit.invariant.read;
    }

pub returns : goal.returns
returns c =
    let digits = c.args.digits.now in
    let end : c.loop-digit.digit-index ≡ length digits = omega (arith, c.loop-digit-test.false, c.loop-digit.auto.digit-index-end) in
    sym (clipped_same c.loop-digit.number c.loop-digit.invariant.small)
    ∙ ap (λ ds. clipped (number_from c.loop-digit.number ds)) (sym (ap (λ n. drop n digits) end ∙ drop-length digits))
    ∙ c.loop-digit.invariant.read
