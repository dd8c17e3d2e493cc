-- What a link does to phases: where its operand is ready the next one is told, and where its operand awaited a promised
-- link it has left.
use Rattle.std.proofs.Common.{◌≡◌, ◌≢◌, Bool, true, false, Option, Some, None, refl, sym, ap, ◌∙◌, inl, inr}
use Rattle.std.specs.Prelude.{◌||◌, slice_get}
use Rattle.std.specs.FinMap.{get}
use Rattle.std.proofs.lemmas.Option.{none-some, same_Some}
use Rattle.tss_base.specs.declared.operand.OpName.{OpName}
use Rattle.tss_base.specs.declared.machine.Machine.{Machine}
use Rattle.tss_base.specs.declared.event.Event.TheVariants as event
use Rattle.tss_base.specs.declared.marks.Farewell.{Farewell}
use Rattle.tss_base.specs.declared.marks.Farewell.TheVariants as farewell
use Rattle.tss_base.specs.Names.{Numbered}
use Rattle.tss_maps.proofs.Keys.{nat_order, decide_key}
use Rattle.tss_protocol.specs.Names.{same_name}
use Rattle.tss_protocol.specs.Mail.{Source}
use Rattle.tss_protocol.specs.State.{State, OperandState, Flying, Outcome}
use Rattle.tss_protocol.specs.Stations.{operand_at, with_operand, remaining_tasks, farewell_after_link}
use Rattle.tss_protocol.specs.Stations.{operand_after_link, sent_by_link, linked_by, linked_in, after_link}
use Rattle.tss_protocol.specs.UnitMachine.{after_event, without, link_message_taken}
use Rattle.tss_phases.specs.Phase.{Phase, Decoding, Sent, Told, Releasing, Leaving, LookUps, look_ups, where_there}
use Rattle.tss_phases.specs.Phase.{told_phase, record_phase, station_phase, phase_at, is_ahead, phase_of}
use Rattle.tss_phases.specs.Told.{tells, phase_told, WaitsIfTold}
use Rattle.tss_phases.specs.Leaving.{phase_linked}
use Rattle.tss_phases.proofs.Received.{own_name, received_all, look_ups-sent}
use Rattle.tss_phases.proofs.News.{AreNews, untold}
use Rattle.tss_phases.proofs.Shown.{waiting_shows}
use Rattle.tss_phases.proofs.PhaseLemmas.{same_station}
use Rattle.tss_phases.proofs.SettlingLemmas.{name_from_test}
use Rattle.tss_phases.proofs.ToldPhases.{phase_news}
use Rattle.tss_phases.proofs.Records.{operand_in, task_of_record, own_record, other_record}
use Rattle.tss_phases.proofs.LeavingTasks.{remaining_beside, remaining_phase}
use Rattle.tss_phases.proofs.Tests.{or_false}

-- ---- what a link sends

-- it sends news
pub news_link : (source : Option Source) (next : OpName) → AreNews (sent_by_link source next)
news_link None next = tt
news_link (Some source) next = (tt, tt)

-- whom it tells: the next operand, where its own is ready
pub link_tells : (source : Option Source) (next q : OpName) → tells (sent_by_link source next) q ≡ true
    → (q ≡ next) × ((s : Source) × (source ≡ Some s))
link_tells None next q e = absurd (cc)
link_tells (Some s) next q e = (name_from_test q next (or_false (same_name q next) e), (s, refl))

-- and then it does
pub link_tells_next : (source : Option Source) (next : OpName) (s : Source) → source ≡ Some s
    → tells (sent_by_link source next) next ≡ true
link_tells_next source next s e = ap (λ x. tells (sent_by_link x next) next) e ∙ (λ i. own_name next i || false)

-- ---- a change of the record

told_linked : (source : Option Source) → phase_linked (told_phase source) ≡ told_phase source
told_linked None = refl
told_linked (Some s) = refl

-- the record of a linked operand has its phase, linked
pub record_linked : (f : Farewell) (source : Option Source)
    → record_phase (farewell_after_link f) source ≡ phase_linked (record_phase f source)
record_linked farewell.Nothing source = sym (told_linked source)
record_linked farewell.Promised source = refl
record_linked farewell.Left source = refl

through : {X : Type 0} (x : Option X) (p rest : Phase) → phase_linked p ≡ p
    → where_there x p (phase_linked rest) ≡ phase_linked (where_there x p rest)
through None p rest e = refl
through (Some x) p rest e = sym e

-- messages hide the record from a link as they do from the phase
pub linked_station : (l : LookUps) (x : Option OperandState)
    → station_phase x l.ahead ≡ phase_linked (station_phase l.station l.ahead)
    → phase_at (record l { station = x }) ≡ phase_linked (phase_at l)
linked_station l x e =
    let b = where_there l.leaving Leaving (station_phase l.station l.ahead) in
    let r = where_there l.releasing Releasing b in
    let t = where_there l.telling Told r in
    let u = where_there l.using Sent t in
    let o = where_there l.opening Sent u in
    (λ i. where_there l.decoding Decoding
    (where_there l.opening Sent
    (where_there l.using Sent
    (where_there l.telling Told (where_there l.releasing Releasing (where_there l.leaving Leaving (e i)))))))
    ∙ ap (λ p. where_there l.decoding Decoding
    (where_there l.opening Sent
    (where_there l.using Sent (where_there l.telling Told (where_there l.releasing Releasing p)))))
    (through l.leaving Leaving (station_phase l.station l.ahead) refl)
    ∙ ap (λ p. where_there l.decoding Decoding
    (where_there l.opening Sent (where_there l.using Sent (where_there l.telling Told p))))
    (through l.releasing Releasing b refl)
    ∙ ap (λ p. where_there l.decoding Decoding (where_there l.opening Sent (where_there l.using Sent p)))
    (through l.telling Told r refl)
    ∙ ap (λ p. where_there l.decoding Decoding (where_there l.opening Sent p)) (through l.using Sent t refl)
    ∙ ap (λ p. where_there l.decoding Decoding p) (through l.opening Sent u refl)
    ∙ through l.decoding Decoding o refl

-- ---- what it does to phases

module _ (m : Machine) (S : State) (o next : OpName) (r : OperandState)
    (there : get S.mail.links o ≡ Some next) (kept : operand_at S.flight o ≡ Some r) where
  -- the task with the linked operand
  abbrev pub linked_task : Flying
  linked_task = with_operand (task_of_record S.flight o r kept).0 o.place (operand_after_link r next)

  -- the tasks in flight after a link, and what it sends
  pub linked : after_link S.flight o next
      ≡ record { part = remaining_tasks S.flight o.task linked_task; sent = sent_by_link r.source next }
  linked =
      let t = task_of_record S.flight o r kept in
      ap (linked_in S.flight o next) t.1 ∙ ap (linked_by S.flight o next t.0) t.2

  -- what is looked up after a link
  pub look_ups-link : (q : OpName) → look_ups (after_event m S (event.Link o)) q
      ≡ received_all (sent_by_link r.source next) q (record (look_ups S q) {
        station = operand_at (remaining_tasks S.flight o.task linked_task) q;
      })
  unfolding after_event
  look_ups-link q =
      let T = without S (event.Link o) in
      let d = after_link S.flight o next in
      ap (λ x. look_ups (link_message_taken T o x) q) there
      ∙ look_ups-sent (record T { flight = d.part }) d.sent q
      ∙ ap (λ (d : Outcome (Numbered Flying)).
      received_all d.sent q (record (look_ups S q) { station = operand_at d.part q })) linked

  -- the tasks in flight after it
  pub flight-link : (after_event m S (event.Link o)).flight ≡ remaining_tasks S.flight o.task linked_task
  unfolding after_event
  flight-link =
      ap (λ x. (link_message_taken (without S (event.Link o)) o x).flight) there
      ∙ ap (λ (d : Outcome (Numbered Flying)). d.part) linked

  -- its operand isn't told by it, if it is waiting where it is
  pub link_untold : WaitsIfTold S (sent_by_link r.source next) o → tells (sent_by_link r.source next) o ≡ false
  link_untold waits = by (tells (sent_by_link r.source next) o) refl
    where
      clash : tells (sent_by_link r.source next) o ≡ true → ⊥
      clash t =
          let shown = (waiting_shows (look_ups S o) (waits t)).1 in
          let same = same_Some r shown.kept (sym kept ∙ shown.there) in
          let found = (link_tells r.source next o t).1 in
          none-some found.0 (sym (ap (λ (r : OperandState). r.source) same ∙ shown.told) ∙ found.1)

      by : (b : Bool) → tells (sent_by_link r.source next) o ≡ b → tells (sent_by_link r.source next) o ≡ false
      by false e = e
      by true e = absurd (clash e)

  -- the record of its operand in its task
  pub linked_record : slice_get linked_task.operands o.place ≡ Some (operand_after_link r next)
  linked_record =
      let t = task_of_record S.flight o r kept in
      own_record t.0 o (operand_after_link r next) r t.2

  -- those of the other operands of the task
  pub linked_record_other : (q : OpName) → q ≢ o → q.task ≡ o.task
      → slice_get linked_task.operands q.place ≡ operand_at S.flight q
  linked_record_other q apart same =
      let t = task_of_record S.flight o r kept in
      other_record t.0 o (operand_after_link r next) q apart same
      ∙ sym (operand_in S.flight q t.0 (ap (get S.flight) same ∙ t.1))

  own_station : is_ahead S o.task ≡ false
      → station_phase (operand_at (remaining_tasks S.flight o.task linked_task) o) (is_ahead S o.task)
      ≡ phase_linked (station_phase (operand_at S.flight o) (is_ahead S o.task))
  own_station taken =
      ap (station_phase (operand_at (remaining_tasks S.flight o.task linked_task) o)) taken
      ∙ remaining_phase S.flight o.task linked_task o refl
      ∙ ap (λ r. station_phase r false) linked_record
      ∙ record_linked r.farewell r.source
      ∙ ap (λ k. phase_linked (station_phase k (is_ahead S o.task))) (sym kept)

  -- its operand has left where it awaited a promised link, and stays as it was in every other phase
  pub phase_of-link : is_ahead S o.task ≡ false → WaitsIfTold S (sent_by_link r.source next) o
      → phase_of (after_event m S (event.Link o)) o ≡ phase_linked (phase_of S o)
  phase_of-link taken waits =
      let k = operand_at (remaining_tasks S.flight o.task linked_task) o in
      ap phase_at (look_ups-link o)
      ∙ ap phase_at (untold (sent_by_link r.source next) o (record (look_ups S o) { station = k })
      (news_link r.source next) (link_untold waits))
      ∙ linked_station (look_ups S o) k (own_station taken)

  -- the record of another operand gives the phase that it gave before
  pub link_station_other : is_ahead S o.task ≡ false → (q : OpName) → q ≢ o
      → station_phase (operand_at (remaining_tasks S.flight o.task linked_task) q) (is_ahead S q.task)
      ≡ station_phase (operand_at S.flight q) (is_ahead S q.task)
  link_station_other taken q apart =
      elim (decide_key nat_order q.task o.task) [
        | inl same ↦ ap (station_phase (operand_at (remaining_tasks S.flight o.task linked_task) q))
            (ap (is_ahead S) same ∙ taken)
            ∙ remaining_phase S.flight o.task linked_task q same
            ∙ ap (λ r. station_phase r false) (linked_record_other q apart same)
            ∙ ap (station_phase (operand_at S.flight q)) (sym (ap (is_ahead S) same ∙ taken))
        | inr other ↦ ap (λ r. station_phase r (is_ahead S q.task))
            (remaining_beside S.flight o.task linked_task q other)
      ]

  -- another operand is told, or stays as it was
  pub phase_of-link-other : is_ahead S o.task ≡ false → (q : OpName) → q ≢ o
      → WaitsIfTold S (sent_by_link r.source next) q
      → phase_of (after_event m S (event.Link o)) q
      ≡ phase_told (tells (sent_by_link r.source next) q) (phase_of S q)
  phase_of-link-other taken q apart waits =
      let ms = sent_by_link r.source next in
      let k = operand_at (remaining_tasks S.flight o.task linked_task) q in
      let same = same_station (look_ups S q) k (link_station_other taken q apart) in
      ap phase_at (look_ups-link q)
      ∙ phase_news ms q (record (look_ups S q) { station = k }) (news_link r.source next) (λ t. same ∙ waits t)
      ∙ ap (phase_told (tells ms q)) same
