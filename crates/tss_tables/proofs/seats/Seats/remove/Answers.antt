-- A seat cleared, taken or not.
use Rattle.std.proofs.Common.{◌-◌, set, sym, ap, ◌∙◌, subst}
use Rattle.tss_tables.specs.Seats.{AreSeats, seats_of}
use Rattle.tss_tables.proofs.SeatsLemmas.{AreSeats-cleared, AreSeats-same, seat_at, get-seen, read-seen, cleared-seen}
use Rattle.tss_tables.proofs.seats.Seats.remove.Goals as goal

pub overflow_sub-self : goal.overflow_sub-self
overflow_sub-self g c =
    let seats = c.self.inside.seats.items in
    let within = seat_at seats _ c.self.view_is c.args.place c.requires in
    let read = read-seen seats _ c.self.view_is c.args.place _ within c.index_mut.ensures.value in
    let here = get-seen seats _ c.self.view_is c.args.place ∙ read ∙ sym c.take.ensures.value ∙ c.in-Some.is in
    (AreSeats-cleared seats c.self.inside.taken c.args.place c.in-Some.value c.self.invariant here).0

pub invariant_of-self : goal.invariant_of-self
invariant_of-self g c =
    let seats = c.self.inside.seats.items in
    let within = seat_at seats _ c.self.view_is c.args.place c.requires in
    let read = read-seen seats _ c.self.view_is c.args.place _ within c.index_mut.ensures.value in
    let here = get-seen seats _ c.self.view_is c.args.place ∙ read ∙ sym c.take.ensures.value ∙ c.in-Some.is in
    subst (λ y. AreSeats (set seats c.args.place y) (c.self.inside.taken - 1)) (sym c.take.ensures.after)
    (AreSeats-cleared seats c.self.inside.taken c.args.place c.in-Some.value c.self.invariant here).1

pub invariant_of-self-in-None : goal.invariant_of-self-in-None
invariant_of-self-in-None g c =
    let seats = c.self.inside.seats.items in
    let within = seat_at seats _ c.self.view_is c.args.place c.requires in
    let read = read-seen seats _ c.self.view_is c.args.place _ within c.index_mut.ensures.value in
    let free = get-seen seats _ c.self.view_is c.args.place ∙ read ∙ sym c.take.ensures.value ∙ c.in-None.is in
    subst (λ y. AreSeats (set seats c.args.place y) c.self.inside.taken) (sym c.take.ensures.after)
    (AreSeats-same seats c.self.inside.taken c.args.place c.self.invariant within free)

pub returns-in-Some-clause-exact : goal.returns-in-Some-clause-exact
returns-in-Some-clause-exact g c =
    let within = seat_at c.self.inside.seats.items _ c.self.view_is c.args.place c.requires in
    sym c.in-Some.is
    ∙ c.take.ensures.value
    ∙ sym (read-seen c.self.inside.seats.items _ c.self.view_is c.args.place _ within c.index_mut.ensures.value)

pub returns-in-Some-clause-others : goal.returns-in-Some-clause-others
returns-in-Some-clause-others g c =
    let seats = c.self.inside.seats.items in
    let within = seat_at seats _ c.self.view_is c.args.place c.requires in
    ap (λ y. seats_of (set seats c.args.place y)) c.take.ensures.after
    ∙ cleared-seen seats _ c.self.view_is c.args.place within

pub returns-in-None-clause-exact : goal.returns-in-None-clause-exact
returns-in-None-clause-exact g c =
    let within = seat_at c.self.inside.seats.items _ c.self.view_is c.args.place c.requires in
    sym c.in-None.is
    ∙ c.take.ensures.value
    ∙ sym (read-seen c.self.inside.seats.items _ c.self.view_is c.args.place _ within c.index_mut.ensures.value)

pub returns-in-None-clause-others : goal.returns-in-None-clause-others
returns-in-None-clause-others g c =
    let seats = c.self.inside.seats.items in
    let within = seat_at seats _ c.self.view_is c.args.place c.requires in
    ap (λ y. seats_of (set seats c.args.place y)) c.take.ensures.after
    ∙ cleared-seen seats _ c.self.view_is c.args.place within
