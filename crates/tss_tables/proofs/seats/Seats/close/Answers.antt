-- Nothing stands at any place, so each seat is free.
use Rattle.std.proofs.Common.{None, ◌∙◌, sym, refl}
use Rattle.std.proofs.lemmas.Option.{none-some, same_Some}
use Rattle.tss_maps.proofs.Entries.{absent_empty}
use Rattle.tss_tables.proofs.SeatsLemmas.{get-seen}
use Rattle.tss_tables.proofs.seats.Seats.close.Goals as goal

pub loop-seat-init : goal.loop-seat-init
loop-seat-init g c k =
    get-seen c.self.inside.seats.items _ c.self.view_is k ∙ absent_empty c.args.self.entries k c.requires

pub unreachable-requires : goal.unreachable-requires
unreachable-requires g c =
    let last = c.in-Some.ensures.value None (c.in-Some.ensures.variant.0 refl) in
    none-some c.in-Some-seat.field-0 (sym (c.loop-seat.invariant _) ∙ sym (same_Some _ _ last) ∙ c.in-Some-seat.is)
