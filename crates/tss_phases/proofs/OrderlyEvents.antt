-- At first all operands are in order, and each event keeps them so that finds what it needs.
use Rattle.std.proofs.Common.{◌≡◌, ℕ, Bool, true, false, None, refl, sym, ap, subst, nat_lt}
use Rattle.std.specs.Prelude.{is_some, ◌||◌}
use Rattle.std.specs.Ordering.{nat_cmp}
use Rattle.std.specs.FinMap.{get, get-empty}
use Rattle.tss_base.specs.declared.operand.OpName.{OpName}
use Rattle.tss_base.specs.declared.machine.Machine.{Machine}
use Rattle.tss_base.specs.declared.event.Event.{Event}
use Rattle.tss_base.specs.declared.event.Event.TheVariants as event
use Rattle.tss_base.specs.Image.{ImageState}
use Rattle.tss_base.specs.Names.{name_cmp}
use Rattle.tss_protocol.specs.State.{State, initial_state}
use Rattle.tss_protocol.specs.Workers.{can_finish}
use Rattle.tss_protocol.specs.UnitMachine.{is_enabled, IsEnabled, after_event, can_decode_message, can_open_message}
use Rattle.tss_protocol.specs.UnitMachine.{can_use_message}
use Rattle.tss_phases.specs.Phase.{LookUps, look_ups}
use Rattle.tss_phases.specs.Alone.{IsSilent}
use Rattle.tss_phases.specs.Orderly.{IsOrderly, AreOrderly, KeepsOrder, OpensForWaiting, ReadiesWaiting, LinksWaiting}
use Rattle.tss_phases.specs.Orderly.{FinishesReady, ReleasesRegistered}
use Rattle.tss_phases.proofs.Records.{record_in}
use Rattle.tss_phases.proofs.QuietEvents.{look_ups-ack, look_ups-exec, look_ups-idle, look_ups-retire, look_ups-copy}
use Rattle.tss_phases.proofs.QuietEvents.{look_ups-gone}
use Rattle.tss_phases.proofs.MainEvent.{look_ups-main}
use Rattle.tss_phases.proofs.StartEvent.{look_ups-start}
use Rattle.tss_phases.proofs.OrderlyLemmas.{orderly_absent, orderly_ahead}
use Rattle.tss_phases.proofs.OrderlyDecode.{orderly-take, orderly-decode}
use Rattle.tss_phases.proofs.OrderlyVersions.{orderly-open, orderly-use, orderly-release, orderly-nack}
use Rattle.tss_phases.proofs.OrderlyStations.{orderly-ready, orderly-link, orderly-bye}
use Rattle.tss_phases.proofs.OrderlyFinish.{orderly-finish}
use Rattle.tss_phases.proofs.Tests.{something}

-- ---- at first

-- no message is under way
silent_at_first : (i : ImageState) (q : OpName) → IsSilent (look_ups (initial_state i) q)
silent_at_first i q = record {
  decoding = get-empty name_cmp q;
  opening = get-empty name_cmp q;
  using = get-empty name_cmp q;
  telling = get-empty name_cmp q;
  releasing = get-empty name_cmp q;
  leaving = get-empty name_cmp q;
}

-- all operands are in order
pub orderly_at_first : (i : ImageState) → AreOrderly (initial_state i)
orderly_at_first i q = by (nat_lt 0 q.task || false) refl
  where
    l : LookUps
    l = look_ups (initial_state i) q

    absent : l.station ≡ None
    absent = ap (record_in q.place) (get-empty nat_cmp q.task)

    by : (b : Bool) → l.ahead ≡ b → IsOrderly l
    by true e = orderly_ahead l (silent_at_first i q) absent e
    by false e = orderly_absent l (silent_at_first i q) absent e

-- ---- the events

module _ (m : Machine) (S : State) (orderly : AreOrderly S) where
  unchanged : (T : State) → ((q : OpName) → look_ups T q ≡ look_ups S q) → AreOrderly T
  unchanged T same q = subst IsOrderly (sym (same q)) (orderly q)

  open_kept : (o : OpName) → IsEnabled m S (event.Open o) → OpensForWaiting S o
      → AreOrderly (after_event m S (event.Open o))
  unfolding is_enabled
  open_kept o enabled needs =
      let c = something (can_open_message S) (get S.mail.opens o) refl enabled in
      orderly-open m S o c.0 c.1 orderly (needs c.0 c.1)

  use_kept : (o : OpName) → IsEnabled m S (event.Use o) → AreOrderly (after_event m S (event.Use o))
  unfolding is_enabled
  use_kept o enabled =
      let v = something (can_use_message S) (get S.mail.uses o) refl enabled in
      orderly-use m S o v.0 v.1 orderly

  decode_kept : (o : OpName) → IsEnabled m S (event.Decode o) → AreOrderly (after_event m S (event.Decode o))
  unfolding is_enabled
  decode_kept o enabled =
      let x = something (can_decode_message m S o) (get S.mail.decodes o) refl enabled in
      orderly-decode m S o x.0 x.1 orderly

  ready_kept : (o : OpName) → IsEnabled m S (event.Ready o) → ReadiesWaiting S o
      → AreOrderly (after_event m S (event.Ready o))
  unfolding is_enabled
  ready_kept o enabled needs =
      let s = something is_some (get S.mail.readies o) refl enabled in
      orderly-ready m S o s.0 s.1 orderly (λ r kept. needs s.0 r s.1 kept)

  link_kept : (o : OpName) → IsEnabled m S (event.Link o) → LinksWaiting S o
      → AreOrderly (after_event m S (event.Link o))
  unfolding is_enabled
  link_kept o enabled needs =
      let next = something is_some (get S.mail.links o) refl enabled in
      let r = needs next.0 next.1 in
      orderly-link m S o next.0 r.0 next.1 r.1 orderly r.2

  finish_kept : (w : ℕ) → IsEnabled m S (event.Finish w) → FinishesReady S w
      → AreOrderly (after_event m S (event.Finish w))
  unfolding is_enabled
  finish_kept w enabled needs =
      let b = something can_finish (get S.workers w) refl enabled in
      let n = needs b.0 b.1 in
      orderly-finish m S b.0 n.0.0 n.0.1 orderly n.1 w b.1

  release_kept : (o : OpName) → IsEnabled m S (event.Release o) → ReleasesRegistered S o
      → AreOrderly (after_event m S (event.Release o))
  unfolding is_enabled
  release_kept o enabled needs =
      let r = something is_some (get S.mail.releases o) refl enabled in
      let n = needs r.0 r.1 in
      orderly-release m S o r.0 n.0.0 r.1 n.0.1 orderly n.1

  bye_kept : (o : OpName) → IsEnabled m S (event.Bye o) → AreOrderly (after_event m S (event.Bye o))
  unfolding is_enabled
  bye_kept o enabled =
      let p = something is_some (get S.mail.byes o) refl enabled in
      orderly-bye m S o p.0 p.1 orderly

  -- each event keeps all operands in order
  pub orderly-after_event : (e : Event) → IsEnabled m S e → KeepsOrder S e → AreOrderly (after_event m S e)
  orderly-after_event event.Main enabled needs =
      unchanged (after_event m S event.Main) (λ q. look_ups-main m S q enabled)
  orderly-after_event event.Take enabled needs = orderly-take m S orderly needs
  orderly-after_event (event.Decode o) enabled needs = decode_kept o enabled
  orderly-after_event (event.Ack o) enabled needs =
      unchanged (after_event m S (event.Ack o)) (look_ups-ack m S o)
  orderly-after_event (event.Open o) enabled needs = open_kept o enabled needs
  orderly-after_event (event.Use o) enabled needs = use_kept o enabled
  orderly-after_event (event.Ready o) enabled needs = ready_kept o enabled needs
  orderly-after_event (event.Link o) enabled needs = link_kept o enabled needs
  orderly-after_event (event.Start w) enabled needs =
      unchanged (after_event m S (event.Start w)) (look_ups-start m S w)
  orderly-after_event (event.Exec w) enabled needs =
      unchanged (after_event m S (event.Exec w)) (look_ups-exec m S w)
  orderly-after_event (event.Finish w) enabled needs = finish_kept w enabled needs
  orderly-after_event (event.Release o) enabled needs = release_kept o enabled needs
  orderly-after_event (event.Bye o) enabled needs = bye_kept o enabled
  orderly-after_event (event.Idle v) enabled needs =
      unchanged (after_event m S (event.Idle v)) (look_ups-idle m S v)
  orderly-after_event (event.Nack v) enabled needs = orderly-nack m S v orderly needs
  orderly-after_event (event.Retire v) enabled needs =
      unchanged (after_event m S (event.Retire v)) (look_ups-retire m S v)
  orderly-after_event (event.Copy b) enabled needs =
      unchanged (after_event m S (event.Copy b)) (look_ups-copy m S b)
  orderly-after_event (event.Gone v) enabled needs =
      unchanged (after_event m S (event.Gone v)) (look_ups-gone m S v)
