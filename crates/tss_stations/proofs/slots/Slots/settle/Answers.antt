-- A slot less, where its task has left.
use Rattle.std.proofs.Common.{◌≡◌, ◌-◌, ◌≤◌, Some, sym, ap, subst, ◌∙◌, get_or, set}
use Rattle.std.specs.FinMap.{get, remove}
use Rattle.std.proofs.lemmas.Option.{same_Some}
use Rattle.tss_protocol.specs.Names.{station_of}
use Rattle.tss_protocol.specs.Stations.{is_gone}
use Rattle.tss_stations.specs.Views.{flying_of}
use Rattle.tss_stations.specs.Slots.{AreSlots}
use Rattle.tss_stations.proofs.RowLemmas.{remaining_kept}
use Rattle.tss_stations.proofs.KeptLemmas.{count_read, one_before, kept_freed}
use Rattle.tss_stations.proofs.slots.Slots.settle.Goals as goal

pub overflow_sub-self : goal.overflow_sub-self
overflow_sub-self c =
    let s = c.self.inside.sizes in
    let one = one_before s c.self.inside.counts c.self.inside.table c.self.invariant c.args.task c.in-Some.slot.now
    (sym c.in-Some.ensures) (get_or c.self.inside.counts (station_of s c.args.task) 0)
    (count_read s c.self.inside.counts c.self.inside.table c.self.invariant c.args.task 0) in
    subst (λ k. 1 ≤ get_or c.self.inside.counts k 0) (sym c.station_of.ensures.exact) one

pub invariant_of-self : goal.invariant_of-self
invariant_of-self c =
    let s = c.self.inside.sizes in
    subst (λ table. AreSlots s (set c.self.inside.counts c.station_of.result (get_or c.self.inside.counts c.station_of.result 0 - 1)) table)
    (sym c.remove.ensures.others)
    (subst (λ k. AreSlots s (set c.self.inside.counts k (get_or c.self.inside.counts k 0 - 1))
    (record (c.self.inside.table) { entries = remove c.self.inside.table.entries c.args.task })) (sym c.station_of.ensures.exact)
    (kept_freed s c.self.inside.counts c.self.inside.table c.self.invariant c.args.task c.in-Some.slot.now
    (sym c.in-Some.ensures) (get_or c.self.inside.counts (station_of s c.args.task) 0)
    (count_read s c.self.inside.counts c.self.inside.table c.self.invariant c.args.task 0)))

pub returns-else-is_gone : goal.returns-else-is_gone
returns-else-is_gone c = λ x ex.
    let same : Some c.in-Some.slot.now ≡ Some x = c.in-Some.ensures ∙ ap (λ s. get s.slots c.args.task) c.self.view_is ∙ ex in
    let stays = ap (λ y. is_gone (flying_of y)) (sym (same_Some c.in-Some.slot.now x same)) ∙ sym c.is_gone.ensures ∙ c.if-is_gone.false in
    ap (λ m. record (c.args.self.now) { slots = m }) (sym (remaining_kept c.args.self.now.slots c.args.task x ex stays))
