-- Every event but a worker's start and its stretches leaves what is brought home.
use Rattle.std.proofs.Common.{◌≡◌, ℕ, ◌≤◌, List, length, Some, sym, ap, ◌∙◌, arith}
use Rattle.std.specs.FinMap.{get, get-empty}
use Rattle.std.specs.Ordering.{nat_cmp}
use Rattle.std.proofs.lemmas.Option.{none-some}
use Rattle.tss_base.specs.declared.range.Range.{Range}
use Rattle.tss_base.specs.declared.operand.Task.{Task}
use Rattle.tss_base.specs.declared.machine.Machine.{Machine}
use Rattle.tss_base.specs.declared.event.Event.{Event}
use Rattle.tss_base.specs.declared.event.Event.TheVariants as event
use Rattle.tss_base.specs.Names.{name_cmp}
use Rattle.tss_base.specs.Image.{ImageState}
use Rattle.tss_protocol.specs.State.{State, CopyState, initial_state}
use Rattle.tss_protocol.specs.Buffers.{buffer_bytes}
use Rattle.tss_protocol.specs.Needs.{round_after_event}
use Rattle.tss_protocol.specs.UnitMachine.{IsEnabled, after_event}
use Rattle.tss_values.specs.Buffers.{HasBuffers}
use Rattle.tss_control.proofs.rounds.FitObjects.{HaveFitObjects}
use Rattle.tss_control.proofs.rounds.EntriesNames.{operand_of_object}
use Rattle.tss_values.proofs.Values.{HasStored, HasReturns, HasRoom}
use Rattle.tss_values.proofs.returns.Returns.{returns_kept, returns_left}
use Rattle.tss_values.proofs.ValuesRetire.{HasReturns-retire}
use Rattle.tss_values.proofs.ValuesGone.{HasReturns-gone}
use Rattle.tss_values.proofs.returns.Copy.{HasReturns-copy, copy_object}
use Rattle.tss_values.proofs.returns.Main.{HasReturns-main}
use Rattle.tss_control.proofs.rounds.Facts.{Facts}

module _ (m : Machine) (i : ImageState) (S : State) (facts : Facts m S) where
  open facts use {basis, all, ts, ground}

  -- a buffer that is copied has room for its object
  pub copied_room : HaveFitObjects m.limits all → HasRoom m ts S → (bank : ℕ) (c : CopyState)
      → get S.copies bank ≡ Some c → c.object.len ≤ length (buffer_bytes S.contents c.buffer)
  copied_room fit room bank c at =
      let p = operand_of_object ts c.version c.object (copy_object m S basis bank c at) in
      let o = ground.known.operands c.version p.0 p.1 in
      let small = (fit c.version.task o.task o.spawned c.version.place p.0 o.place).1 in
      let roomy = room.copies bank c at in
      let same = ap (λ (x : Range). x.len) p.2 in
      omega (arith, small, roomy, same)

  -- not a worker's start, and not one of its stretches
  abbrev IsBesideWorkers : Event → Type 0
  IsBesideWorkers (event.Start w) = ⊥
  IsBesideWorkers (event.Exec w) = ⊥
  IsBesideWorkers e = Unit {0}

  module _ (fit : HaveFitObjects m.limits all) (stored : HasStored m i ts S) (buffers : HasBuffers ts S)
      (room : HasRoom m ts S) (h : HasReturns m i ts S) where
    -- what is brought home after such an event
    pub HasReturns-beside : (e : Event) → IsBesideWorkers e → IsEnabled m S e
        → HasReturns m i (round_after_event m S ts e) (after_event m S e)
    HasReturns-beside event.Main q on = HasReturns-main m i S facts h
    HasReturns-beside (event.Start w) q on = absurd q
    HasReturns-beside (event.Exec w) q on = absurd q
    HasReturns-beside (event.Retire v) q on = HasReturns-retire m i S facts stored h v on
    HasReturns-beside (event.Copy b) q on = HasReturns-copy m i S facts (copied_room fit room) h b on
    HasReturns-beside (event.Gone v) q on = HasReturns-gone m i S basis buffers h v on
    HasReturns-beside e q on = returns_kept m i ts S (after_event m S e) (returns_left m S e tt) h

-- in the first state nothing comes home
pub HasReturns-initial_state : (m : Machine) (i : ImageState) (ts : List Task) → HasReturns m i ts (initial_state i)
HasReturns-initial_state m i ts = record {
  copied = λ bank c p s at known good. absurd (none-some c (sym (get-empty nat_cmp bank) ∙ at));
  within = λ bank c at. absurd (none-some c (sym (get-empty nat_cmp bank) ∙ at));
  moved = λ bank c k at small. absurd (none-some c (sym (get-empty nat_cmp bank) ∙ at));
  gone = λ v g p s at last known good. absurd (none-some g (sym (get-empty name_cmp v) ∙ at));
}
