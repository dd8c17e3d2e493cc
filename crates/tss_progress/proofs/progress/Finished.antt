-- In a drained state nothing is anywhere, and in a finished one no event is enabled.
use Rattle.std.proofs.Common.{◌≡◌, ℕ, Bool, true, false, None, ap, inl, inr}
use Rattle.std.specs.Prelude.{◌&&◌, ◌||◌, not, is_some}
use Rattle.std.specs.FinMap.{get}
use Rattle.std.proofs.lemmas.Bool.{and_parts, and_left, and_right, or_cases, not_from_true}
use Rattle.tss_base.specs.declared.operand.OpName.{OpName}
use Rattle.tss_base.specs.declared.machine.Machine.{Machine}
use Rattle.tss_base.specs.declared.event.Event.{Event}
use Rattle.tss_base.specs.declared.event.Event.TheVariants as event
use Rattle.tss_maps.proofs.Entries.{absent_empty}
use Rattle.tss_protocol.specs.State.{State}
use Rattle.tss_protocol.specs.MainEvent.{is_drained, call_next, may_call}
use Rattle.tss_protocol.specs.Result.{IsFinished}
use Rattle.tss_protocol.specs.Workers.{can_start, can_exec, can_finish}
use Rattle.tss_protocol.specs.UnitMachine.{is_enabled, can_take, can_decode_message, can_open_message, can_use_message}
use Rattle.tss_protocol.specs.UnitMachine.{can_retire}
use Rattle.tss_progress.specs.Progress.{FinishedLaw}
use Rattle.tss_protocol.proofs.DrainedStates.{nothing_drained, has_none}
use Rattle.tss_control.proofs.GroundworkEmpty.{IsBare, IsBare-drained}

-- nothing is where no bare state has anything: in the inbox, among the copies and the other messages
record IsEmpty (S : State) : Type 0 where
  bare : IsBare S
  inbox : S.inbox ≡ None
  copies : (b : ℕ) → get S.copies b ≡ None
  acks : (o : OpName) → get S.mail.acks o ≡ None
  idles : (v : OpName) → get S.mail.idles v ≡ None
  nacks : (v : OpName) → get S.mail.nacks v ≡ None
  retires : (v : OpName) → get S.mail.retires v ≡ None
  gones : (v : OpName) → get S.mail.gones v ≡ None

empty_when_drained : (S : State) → is_drained S ≡ true → IsEmpty S
empty_when_drained S drained =
    let h = nothing_drained S drained in
    let m = has_none S.mail h.messages in
    record {
      bare = IsBare-drained S drained;
      inbox = h.inbox;
      copies = λ b. absent_empty S.copies b h.copies;
      acks = λ o. absent_empty S.mail.acks o m.acks;
      idles = λ v. absent_empty S.mail.idles v m.idles;
      nacks = λ v. absent_empty S.mail.nacks v m.nacks;
      retires = λ v. absent_empty S.mail.retires v m.retires;
      gones = λ v. absent_empty S.mail.gones v m.gones;
    }

-- main that has ended, or finds a trap held, does nothing
main_over : (a b : Bool) (c : Bool) → (a || b) ≡ true → (not a && not b && c) ≡ false
main_over a b c e = elim (or_cases a b e) [
  | inl ended ↦ and_left (not a && not b) c (and_left (not a) (not b) (not_from_true a ended))
  | inr trapped ↦ and_left (not a && not b) c (and_right (not a) (not b) (not_from_true b trapped))
]

-- no event is enabled
nothing_enabled : (m : Machine) (S : State) → IsFinished S → (e : Event) → is_enabled m S e ≡ false
unfolding is_enabled
nothing_enabled m S finished e =
    let parts = and_parts (is_drained S) (is_some S.main.ending || is_some S.trap) finished in
    by (empty_when_drained S parts.0) parts.1 e
  where
    by : IsEmpty S → (is_some S.main.ending || is_some S.trap) ≡ true → (e : Event) → is_enabled m S e ≡ false
    by z over event.Main = main_over (is_some S.main.ending) (is_some S.trap) (may_call S (call_next m S)) over
    by z over event.Take = ap (can_take m S) z.inbox
    by z over (event.Decode o) = ap (can_decode_message m S o) (z.bare.decodes o)
    by z over (event.Ack o) = ap is_some (z.acks o)
    by z over (event.Open o) = ap (can_open_message S) (z.bare.opens o)
    by z over (event.Use o) = ap (can_use_message S) (z.bare.uses o)
    by z over (event.Ready o) = ap is_some (z.bare.readies o)
    by z over (event.Link o) = ap is_some (z.bare.links o)
    by z over (event.Start w) = ap (can_start m.sizes.workers w (get S.workers w)) z.bare.queue
    by z over (event.Exec w) = ap can_exec (z.bare.workers w)
    by z over (event.Finish w) = ap can_finish (z.bare.workers w)
    by z over (event.Release o) = ap is_some (z.bare.releases o)
    by z over (event.Bye o) = ap is_some (z.bare.byes o)
    by z over (event.Idle v) = ap is_some (z.idles v)
    by z over (event.Nack v) = ap is_some (z.nacks v)
    by z over (event.Retire v) =
        and_left (is_some (get S.mail.retires v)) (can_retire m S (get S.versions v)) (ap is_some (z.retires v))
    by z over (event.Copy b) = ap is_some (z.copies b)
    by z over (event.Gone v) = ap is_some (z.gones v)

-- so it is after every run
pub finished_of_runs : FinishedLaw
finished_of_runs m i es S accepted fit run finished e = nothing_enabled m S finished e
