-- The first place of a name among names.
use Rattle.std.proofs.Common.{◌≡◌, ◌≤◌, true, length, get_or, string_bytes, String, Global, sym, ap, ◌∙◌, arith}
use Rattle.std.specs.Str.{bytes_eq}
use Rattle.std.proofs.lemmas.List.Sums.{position_or_len_is}
use Rattle.tss_outside.proofs.RealLemmas.{all_fail}
use Rattle.tss_outside.proofs.real.first_place.Goals as goal

pub returns-then-eq : goal.returns-then-eq
returns-then-eq c =
    let is_name = λ (w : String Global). bytes_eq (string_bytes w) c.args.name.now in
    let w = c.index-names-i.result in
    let here : is_name (get_or c.args.names.now c.loop-i.i w) ≡ true =
    ap is_name (sym c.index-names-i.is) ∙ ap (λ b. bytes_eq b c.args.name.now) (sym c.as_str.ensures.value) ∙ sym c.if-eq.ensures in
    sym (position_or_len_is is_name c.args.names.now c.loop-i.i w (omega arith) (λ k below. c.loop-i.invariant k w below) (λ _. here))

pub returns : goal.returns
returns c =
    let past : length c.args.names.now ≤ c.loop-i.i = omega arith in
    sym (all_fail (λ w. bytes_eq (string_bytes w) c.args.name.now) c.args.names.now (λ k d below. c.loop-i.invariant k d (omega arith)))
