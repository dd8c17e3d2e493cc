-- The place of a count, among the first eight names.
use Rattle.std.proofs.Common.{◌≡◌, take, string_bytes, sym, ap, ◌∙◌, arith}
use Rattle.std.specs.List.{position_or_len}
use Rattle.std.specs.Str.{bytes_eq}
use Rattle.std.proofs.lemmas.List.{take-map, take_min}
use Rattle.tss_outside.proofs.RealLemmas.{position_or_len-map}
use Rattle.tss_outside.proofs.real.place_of.Goals as goal

pub returns : goal.returns
returns c =
    let names = c.args.names.now in
    let counted : take c.min.result names ≡ take 8 names =
    ap (λ k. take k names) (c.min.ensures ∙ omega arith) ∙ take_min 8 names in
    c.first_place.ensures
    ∙ ap (position_or_len (λ w. bytes_eq (string_bytes w) c.args.name.now)) counted
    ∙ sym (position_or_len-map string_bytes (λ w. bytes_eq w c.args.name.now) (take 8 names))
    ∙ ap (position_or_len (λ w. bytes_eq w c.args.name.now)) (sym (take-map string_bytes 8 names))
