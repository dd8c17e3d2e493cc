-- Operands stay in order where a task finishes.
use Rattle.std.proofs.Common.{◌≡◌, ℕ, Option, Some, None, refl, sym, ap, ◌∙◌, subst, inl, inr, arith}
use Rattle.std.specs.Prelude.{slice_get}
use Rattle.std.specs.FinMap.{get}
use Rattle.tss_base.specs.declared.operand.OpName.{OpName}
use Rattle.tss_base.specs.declared.machine.Machine.{Machine}
use Rattle.tss_base.specs.declared.event.Event.TheVariants as event
use Rattle.tss_base.specs.declared.marks.Stage.TheVariants as stage
use Rattle.tss_maps.proofs.Keys.{nat_order, decide_key}
use Rattle.tss_protocol.specs.State.{State, OperandState, Flying, Busy}
use Rattle.tss_protocol.specs.Stations.{operand_at, remaining_tasks, releases_from}
use Rattle.tss_protocol.specs.UnitMachine.{after_event}
use Rattle.tss_phases.specs.Phase.{Ready, LookUps, look_ups}
use Rattle.tss_phases.specs.Orderly.{IsInformed, IsOrderly, AreOrderly, AreReady}
use Rattle.tss_phases.proofs.Received.{received_all}
use Rattle.tss_phases.proofs.Shown.{ready_shows}
use Rattle.tss_phases.proofs.Records.{operand_in}
use Rattle.tss_phases.proofs.FinishEvent.{releases_own, releases_beyond, look_ups-finish, look_ups-finish-other}
use Rattle.tss_phases.proofs.OrderlyLemmas.{fits_at, orderly_releasing, same_informed}
use Rattle.tss_phases.proofs.OrderlyRecords.{orderly_remaining}

module _ (m : Machine) (S : State) (b : Busy) (x : Flying) (flying : get S.flight b.task.number ≡ Some x)
    (orderly : AreOrderly S) (ready : AreReady S b.task.number) where
  -- the task that has finished
  abbrev task_finished : Flying
  task_finished = record x { stage = stage.Finished }

  -- the record of an operand after the finish
  abbrev station_after : OpName → Option OperandState
  station_after q = operand_at (remaining_tasks S.flight b.task.number task_finished) q

  record_before : (q : OpName) → q.task ≡ b.task.number → operand_at S.flight q ≡ slice_get x.operands q.place
  record_before q same = operand_in S.flight q x (ap (get S.flight) same ∙ flying)

  no_operand : (q : OpName) → q.task ≡ b.task.number → slice_get x.operands q.place ≡ None
      → IsOrderly (received_all (releases_from b.task.number 0 x.operands) q
      (record (look_ups S q) { station = station_after q }))
  no_operand q same at =
      let l : LookUps = record (look_ups S q) { station = station_after q } in
      subst IsOrderly (sym (releases_beyond b.task.number 0 x.operands q.place q l at same (omega arith)))
      (orderly_remaining S.flight b.task.number task_finished q (look_ups S q) same
      (subst (λ k. IsOrderly (record (look_ups S q) { station = k })) (record_before q same) (orderly q)))

  ready_operand : (q : OpName) (r : OperandState) → q.task ≡ b.task.number → slice_get x.operands q.place ≡ Some r
      → IsOrderly (received_all (releases_from b.task.number 0 x.operands) q
      (record (look_ups S q) { station = station_after q }))
  ready_operand q r same at =
      let is_ready = ready q r same (record_before q same ∙ at) in
      let shown = ready_shows (look_ups S q) is_ready in
      let s = shown.0 in
      let h = shown.1.1 in
      let l : LookUps = record (look_ups S q) { station = station_after q } in
      let kept = sym (record_before q same) ∙ h.there in
      let has = releases_own b.task.number 0 x.operands q.place h.kept shown.1.0 q l kept h.told same (omega arith) in
      let k : LookUps = record (look_ups S q) { releasing = Some has.0 } in
      let j : LookUps = record k { station = slice_get x.operands q.place } in
      let informed : IsInformed (look_ups S q) = fits_at (look_ups S q) Ready (orderly q) is_ready in
      subst IsOrderly (sym has.1)
      (orderly_remaining S.flight b.task.number task_finished q k same
      (orderly_releasing j has.0 (record {
        decoding = s.decoding;
        opening = s.opening;
        using = s.using;
        telling = s.telling;
        releasing = refl;
        leaving = s.leaving;
      }) refl (same_informed (look_ups S q) j (sym (record_before q same)) refl informed)))

  finished_own : (q : OpName) → q.task ≡ b.task.number → (r : Option OperandState)
      → slice_get x.operands q.place ≡ r
      → IsOrderly (received_all (releases_from b.task.number 0 x.operands) q
      (record (look_ups S q) { station = station_after q }))
  finished_own q same None at = no_operand q same at
  finished_own q same (Some r) at = ready_operand q r same at

  -- finish
  pub orderly-finish : (w : ℕ) → get S.workers w ≡ Some b → AreOrderly (after_event m S (event.Finish w))
  orderly-finish w busy q = elim (decide_key nat_order q.task b.task.number) [
    | inl same ↦ subst IsOrderly (sym (look_ups-finish m S w b x busy flying q))
        (finished_own q same (slice_get x.operands q.place) refl)
    | inr other ↦ subst IsOrderly (sym (look_ups-finish-other m S w b x busy flying q other)) (orderly q)
  ]
