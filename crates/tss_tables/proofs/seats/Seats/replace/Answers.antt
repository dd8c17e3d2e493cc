-- A value written at a taken seat.
use Rattle.std.proofs.Common.{set, sym, ap, ◌∙◌, arith, subst}
use Rattle.std.specs.Prelude.{is_some}
use Rattle.tss_tables.specs.Seats.{AreSeats, seats_of}
use Rattle.tss_tables.proofs.SeatsLemmas.{AreSeats-written, seat_of, read-seen, put-seen}
use Rattle.tss_tables.proofs.seats.Seats.replace.Goals as goal

pub index_mut-requires : goal.index_mut-requires
index_mut-requires g c =
    let seat = seat_of c.self.inside.seats.items _ c.self.view_is c.args.place c.requires in
    let within = seat.1 in
    omega (arith, within)

pub unreachable-requires : goal.unreachable-requires
unreachable-requires g c =
    let seat = seat_of c.self.inside.seats.items _ c.self.view_is c.args.place c.requires in
    let read = read-seen c.self.inside.seats.items _ c.self.view_is c.args.place _ seat.1 c.index_mut.ensures.value in
    let there = c.requires in
    let gone = ap is_some (read ∙ sym c.replace.ensures.value ∙ c.in-None.is) in
    cc

pub invariant_of-self : goal.invariant_of-self
invariant_of-self g c =
    let seats = c.self.inside.seats.items in
    let seat = seat_of seats _ c.self.view_is c.args.place c.requires in
    subst (λ y. AreSeats (set seats c.args.place y) c.self.inside.taken) (sym c.replace.ensures.after)
    (AreSeats-written seats c.self.inside.taken c.args.place seat.0 c.args.value c.self.invariant seat.2)

pub returns-clause-handed_back : goal.returns-clause-handed_back
returns-clause-handed_back g c =
    let seat = seat_of c.self.inside.seats.items _ c.self.view_is c.args.place c.requires in
    read-seen c.self.inside.seats.items _ c.self.view_is c.args.place _ seat.1 c.index_mut.ensures.value
    ∙ sym c.replace.ensures.value
    ∙ c.in-Some.is

pub returns-clause-written : goal.returns-clause-written
returns-clause-written g c =
    let seats = c.self.inside.seats.items in
    let seat = seat_of seats _ c.self.view_is c.args.place c.requires in
    ap (λ y. seats_of (set seats c.args.place y)) c.replace.ensures.after
    ∙ put-seen seats _ c.self.view_is c.args.place c.args.value seat.1
