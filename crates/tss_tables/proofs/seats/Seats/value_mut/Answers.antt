-- A taken seat, lent.
use Rattle.std.proofs.Common.{refl, ◌∙◌, arith, subst}
use Rattle.std.specs.Prelude.{IsSome}
use Rattle.tss_tables.proofs.SeatsLemmas.{AreSeats-written, seat_of, read-seen, put-seen}
use Rattle.tss_tables.proofs.seats.Seats.value_mut.Goals as goal

pub index_mut-requires : goal.index_mut-requires
index_mut-requires g c =
    let seat = seat_of c.self.inside.seats.items _ c.self.view_is c.args.place c.requires in
    let within = seat.1 in
    omega (arith, within)

pub value_in-requires : goal.value_in-requires
value_in-requires g c =
    let seat = seat_of c.self.inside.seats.items _ c.self.view_is c.args.place c.requires in
    let read = read-seen c.self.inside.seats.items _ c.self.view_is c.args.place _ seat.1 c.index_mut.ensures.value in
    subst IsSome read c.requires

pub invariant_of-self-lent : goal.invariant_of-self-lent
invariant_of-self-lent g c w =
    let seats = c.self.inside.seats.items in
    let seat = seat_of seats _ c.self.view_is c.args.place c.requires in
    AreSeats-written seats c.self.inside.taken c.args.place seat.0 w c.self.invariant seat.2

pub returns : goal.returns
returns g c =
    let seats = c.self.inside.seats.items in
    let seat = seat_of seats _ c.self.view_is c.args.place c.requires in
    let read = read-seen seats _ c.self.view_is c.args.place _ seat.1 c.index_mut.ensures.value in (
      (refl, λ w. put-seen seats _ c.self.view_is c.args.place w seat.1),
      record { writes_back = tt; value = read ∙ c.value_in.ensures.value },
    )
