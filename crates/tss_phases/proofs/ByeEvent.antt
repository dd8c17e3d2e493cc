-- What a bye does to phases: its operand goes from leaving to promised where a promised link is still to come, and else
-- to left.
use Rattle.std.proofs.Common.{◌≡◌, ◌≢◌, Bool, true, false, cond, Option, Some, None, refl, sym, ap, ◌∙◌, inl, inr}
use Rattle.std.specs.Prelude.{◌&&◌, not, if◌then◌else◌, slice_get}
use Rattle.std.specs.FinMap.{get}
use Rattle.tss_base.specs.declared.operand.OpName.{OpName}
use Rattle.tss_base.specs.declared.machine.Machine.{Machine}
use Rattle.tss_base.specs.declared.event.Event.TheVariants as event
use Rattle.tss_base.specs.declared.marks.Farewell.TheVariants as farewell
use Rattle.tss_maps.proofs.Keys.{nat_order, decide_key}
use Rattle.tss_protocol.specs.Mail.{Source}
use Rattle.tss_protocol.specs.State.{State, OperandState, Flying}
use Rattle.tss_protocol.specs.Stations.{operand_at, with_operand, remaining_tasks, has_passed, operand_after_bye}
use Rattle.tss_protocol.specs.Stations.{parted_by, parted_in, after_bye}
use Rattle.tss_protocol.specs.UnitMachine.{after_event, without, bye_message_taken}
use Rattle.tss_phases.specs.Phase.{Leaving, LookUps, look_ups, record_phase, station_phase, phase_at, is_ahead}
use Rattle.tss_phases.specs.Phase.{phase_of}
use Rattle.tss_phases.specs.Alone.{IsAlone}
use Rattle.tss_phases.specs.Leaving.{phase_parted}
use Rattle.tss_phases.proofs.Received.{own_name, other_name, missing, missing_other, look_ups-without}
use Rattle.tss_phases.proofs.PhaseLemmas.{phase_silent, phase_leaving, same_station, silent_station}
use Rattle.tss_phases.proofs.AloneLemmas.{silent_but_leaving}
use Rattle.tss_phases.proofs.Records.{operand_in, task_of_record, own_record, other_record}
use Rattle.tss_phases.proofs.LeavingTasks.{remaining_beside, remaining_phase}

-- the record of an operand after its bye has this phase
pub record_parted : (b : Bool) (source : Option Source)
    → record_phase (if b then farewell.Promised else farewell.Left) source ≡ phase_parted b
record_parted true source = refl
record_parted false source = refl

module _ (m : Machine) (S : State) (o : OpName) (promised : Bool) (r : OperandState)
    (there : get S.mail.byes o ≡ Some promised) (kept : operand_at S.flight o ≡ Some r) where
  -- the task with the operand that has said farewell
  abbrev pub parted_task : Flying
  parted_task = with_operand (task_of_record S.flight o r kept).0 o.place (operand_after_bye r promised)

  -- the tasks in flight after a bye
  parted : after_bye S.flight o promised ≡ remaining_tasks S.flight o.task parted_task
  parted =
      let t = task_of_record S.flight o r kept in
      ap (parted_in S.flight o promised) t.1 ∙ ap (parted_by S.flight o promised t.0) t.2

  -- what is looked up after a bye
  look_ups-bye : (q : OpName) → look_ups (after_event m S (event.Bye o)) q
      ≡ record (missing (event.Bye o) q (look_ups S q)) {
        station = operand_at (remaining_tasks S.flight o.task parted_task) q;
      }
  unfolding after_event
  look_ups-bye q =
      let T = without S (event.Bye o) in
      ap (λ x. look_ups (bye_message_taken T o x) q) there
      ∙ (λ i. record (look_ups-without S (event.Bye o) q i) { station = operand_at (parted i) q })

  -- the tasks in flight after it
  pub flight-bye : (after_event m S (event.Bye o)).flight ≡ remaining_tasks S.flight o.task parted_task
  unfolding after_event
  flight-bye = ap (λ x. (bye_message_taken (without S (event.Bye o)) o x).flight) there ∙ parted

  -- of its operand: the bye is gone
  pub look_ups-bye-own : look_ups (after_event m S (event.Bye o)) o ≡ record (look_ups S o) {
    leaving = None;
    station = operand_at (remaining_tasks S.flight o.task parted_task) o;
  }
  look_ups-bye-own =
      look_ups-bye o
      ∙ (λ i. record (look_ups S o) {
        leaving = cond (own_name o i) None (get S.mail.byes o);
        station = operand_at (remaining_tasks S.flight o.task parted_task) o;
      })

  -- of another operand: its record is gone where its task leaves
  pub look_ups-bye-other : (q : OpName) → q ≢ o → look_ups (after_event m S (event.Bye o)) q
      ≡ record (look_ups S q) { station = operand_at (remaining_tasks S.flight o.task parted_task) q }
  look_ups-bye-other q apart =
      look_ups-bye q
      ∙ (λ i. record (missing_other (event.Bye o) q (look_ups S q) (other_name q o apart) i) {
        station = operand_at (remaining_tasks S.flight o.task parted_task) q;
      })

  -- the record of its operand in its task
  pub parted_record : slice_get parted_task.operands o.place ≡ Some (operand_after_bye r promised)
  parted_record =
      let t = task_of_record S.flight o r kept in
      own_record t.0 o (operand_after_bye r promised) r t.2

  -- those of the other operands of the task
  pub parted_record_other : (q : OpName) → q ≢ o → q.task ≡ o.task
      → slice_get parted_task.operands q.place ≡ operand_at S.flight q
  parted_record_other q apart same =
      let t = task_of_record S.flight o r kept in
      other_record t.0 o (operand_after_bye r promised) q apart same
      ∙ sym (operand_in S.flight q t.0 (ap (get S.flight) same ∙ t.1))

  -- before it, its operand is leaving
  pub leaving_before : IsAlone S o → phase_of S o ≡ Leaving
  leaving_before alone =
      let s = silent_but_leaving (look_ups S o) promised alone there in
      phase_leaving (look_ups S o) promised s.decoding s.opening s.using s.telling s.releasing there

  -- after it, it awaits a promised link, or has left
  pub phase_of-bye : IsAlone S o → is_ahead S o.task ≡ false
      → phase_of (after_event m S (event.Bye o)) o ≡ phase_parted (promised && not (has_passed r.link))
  phase_of-bye alone taken =
      let k = operand_at (remaining_tasks S.flight o.task parted_task) o in
      let l : LookUps = record (look_ups S o) { leaving = None } in
      let silent = silent_but_leaving (look_ups S o) promised alone there in
      ap phase_at look_ups-bye-own
      ∙ phase_silent (record l { station = k }) (silent_station l k silent)
      ∙ ap (station_phase k) taken
      ∙ remaining_phase S.flight o.task parted_task o refl
      ∙ ap (λ r. station_phase r false) parted_record
      ∙ record_parted (promised && not (has_passed r.link)) r.source

  -- the record of another operand gives the phase that it gave before
  other_station : is_ahead S o.task ≡ false → (q : OpName) → q ≢ o
      → station_phase (operand_at (remaining_tasks S.flight o.task parted_task) q) (is_ahead S q.task)
      ≡ station_phase (operand_at S.flight q) (is_ahead S q.task)
  other_station taken q apart =
      elim (decide_key nat_order q.task o.task) [
        | inl same ↦ ap (station_phase (operand_at (remaining_tasks S.flight o.task parted_task) q))
            (ap (is_ahead S) same ∙ taken)
            ∙ remaining_phase S.flight o.task parted_task q same
            ∙ ap (λ r. station_phase r false) (parted_record_other q apart same)
            ∙ ap (station_phase (operand_at S.flight q)) (sym (ap (is_ahead S) same ∙ taken))
        | inr other ↦ ap (λ r. station_phase r (is_ahead S q.task))
            (remaining_beside S.flight o.task parted_task q other)
      ]

  -- no other operand's phase is changed, whether the task leaves or not
  pub phase_of-bye-other : is_ahead S o.task ≡ false → (q : OpName) → q ≢ o
      → phase_of (after_event m S (event.Bye o)) q ≡ phase_of S q
  phase_of-bye-other taken q apart =
      let k = operand_at (remaining_tasks S.flight o.task parted_task) q in
      ap phase_at (look_ups-bye-other q apart)
      ∙ same_station (look_ups S q) k (other_station taken q apart)
