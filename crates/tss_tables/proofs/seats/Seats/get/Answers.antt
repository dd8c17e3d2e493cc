-- What stands at a seat, or no seat.
use Rattle.std.proofs.Common.{◌<◌, length, get_or, None, sym, ap, ◌∙◌, arith}
use Rattle.std.specs.Prelude.{option_map}
use Rattle.std.proofs.lemmas.List.{get_or_past}
use Rattle.tss_tables.proofs.SeatsLemmas.{get-seen, read-seen}
use Rattle.tss_tables.proofs.seats.Seats.get.Goals as goal

pub returns-in_err-get : goal.returns-in_err-get
returns-in_err-get g c =
    let shown = c.in_err-get.ensures.lookup in
    let past = get_or_past c.self.inside.seats.items c.args.place None (omega (arith, shown.3, c.deref.ensures.len)) in
    ap (option_map (λ x. x.now)) c.from_residual.ensures
    ∙ sym past
    ∙ get-seen c.self.inside.seats.items _ c.self.view_is c.args.place

pub returns : goal.returns
returns g c =
    let seats = c.self.inside.seats.items in
    let shown = c.in_ok-get.ensures.lookup in
    let within : c.args.place < length seats = omega (arith, shown.3.0, c.deref.ensures.len) in
    let now = c.in_ok-get.field-0.now in
    let read = shown.1 ∙ ap (λ xs. get_or xs c.args.place now) c.deref.ensures.value in
    c.as_ref.ensures.value
    ∙ sym (read-seen seats _ c.self.view_is c.args.place now within read)
