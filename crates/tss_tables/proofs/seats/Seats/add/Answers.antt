-- A value put at a free seat.
use Rattle.std.proofs.Common.{◌+◌, ◌<◌, Some, length, set, sym, ap, ◌∙◌, arith, subst}
use Rattle.std.proofs.lemmas.Option.{none-some}
use Rattle.tss_tables.specs.Seats.{AreSeats, seats_of}
use Rattle.tss_tables.proofs.SeatsLemmas.{AreSeats-put, len-seats, size-seen, get-seen, read-seen, put-seen}
use Rattle.tss_tables.proofs.seats.Seats.add.Goals as goal

pub unreachable-requires : goal.unreachable-requires
unreachable-requires g c =
    let size = size-seen c.self.inside.seats.items _ c.self.view_is in
    let within : c.args.place < length c.self.inside.seats.items = omega (arith, size, c.requires.within) in
    let read = read-seen c.self.inside.seats.items _ c.self.view_is c.args.place _ within c.index_mut.ensures.value in
    none-some c.in-Some.field-0 (sym c.requires.free ∙ read ∙ sym c.replace.ensures.value ∙ c.in-Some.is)

pub overflow_add-self : goal.overflow_add-self
overflow_add-self g c =
    let seats = c.self.inside.seats.items in
    let size = size-seen seats _ c.self.view_is in
    let within : c.args.place < length seats = omega (arith, size, c.requires.within) in
    let free = get-seen seats _ c.self.view_is c.args.place ∙ c.requires.free in
    let more = AreSeats-put seats c.self.inside.taken c.args.place c.args.value c.self.invariant within free in
    let few = len-seats 0 (set seats c.args.place (Some c.args.value)) in
    omega (arith, more.count, more.short, few)

pub invariant_of-self : goal.invariant_of-self
invariant_of-self g c =
    let seats = c.self.inside.seats.items in
    let size = size-seen seats _ c.self.view_is in
    let within : c.args.place < length seats = omega (arith, size, c.requires.within) in
    let free = get-seen seats _ c.self.view_is c.args.place ∙ c.requires.free in
    subst (λ y. AreSeats (set seats c.args.place y) (c.self.inside.taken + 1)) (sym c.replace.ensures.after)
    (AreSeats-put seats c.self.inside.taken c.args.place c.args.value c.self.invariant within free)

pub returns : goal.returns
returns g c =
    let seats = c.self.inside.seats.items in
    let size = size-seen seats _ c.self.view_is in
    let within : c.args.place < length seats = omega (arith, size, c.requires.within) in
    ap (λ y. seats_of (set seats c.args.place y)) c.replace.ensures.after
    ∙ put-seen seats _ c.self.view_is c.args.place c.args.value within
