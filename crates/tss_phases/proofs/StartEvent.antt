-- A start changes a task's stage, and no phase.
use Rattle.std.proofs.Common.{◌≡◌, ℕ, List, [], ◌∷◌, Option, Some, None, refl, sym, ap, ◌∙◌, inl, inr}
use Rattle.std.specs.FinMap.{get}
use Rattle.tss_base.specs.declared.operand.OpName.{OpName}
use Rattle.tss_base.specs.declared.machine.Machine.{Machine}
use Rattle.tss_base.specs.declared.event.Event.TheVariants as event
use Rattle.tss_base.specs.declared.marks.Stage.TheVariants as stage
use Rattle.tss_maps.proofs.Keys.{nat_order, decide_key}
use Rattle.tss_protocol.specs.State.{State, Flying}
use Rattle.tss_protocol.specs.Stations.{operand_at, flight_after_start}
use Rattle.tss_protocol.specs.UnitMachine.{after_event, start_task, after_start}
use Rattle.tss_phases.specs.Phase.{look_ups, phase_at, phase_of}
use Rattle.tss_phases.proofs.Records.{operand_in, record_put, record_beside_put}

module _ (m : Machine) (S : State) (w : ℕ) where
  running_record : (t : ℕ) (x : Flying) (q : OpName) → get S.flight t ≡ Some x
      → operand_at (flight_after_start S.flight t x) q ≡ operand_at S.flight q
  running_record t x q e = elim (decide_key nat_order q.task t) [
    | inl same ↦ record_put S.flight t (record x { stage = stage.Running }) q same
        ∙ sym (operand_in S.flight q x (ap (get S.flight) same ∙ e))
    | inr other ↦ record_beside_put S.flight t (record x { stage = stage.Running }) q other
  ]

  started_task : (t : ℕ) (ts : List ℕ) (x : Option Flying) (q : OpName) → get S.flight t ≡ x
      → look_ups (start_task m S w t ts x) q ≡ look_ups S q
  started_task t ts None q e = refl
  started_task t ts (Some x) q e = λ i. record (look_ups S q) { station = running_record t x q e i }

  started : (queue : List ℕ) (q : OpName) → look_ups (after_start m S w queue) q ≡ look_ups S q
  started [] q = refl
  started (t ∷ ts) q = started_task t ts (get S.flight t) q refl

  -- start
  pub look_ups-start : (q : OpName) → look_ups (after_event m S (event.Start w)) q ≡ look_ups S q
  unfolding after_event
  look_ups-start q = started S.queue q

  -- no phase is changed by a start
  pub phase_of-start : (q : OpName) → phase_of (after_event m S (event.Start w)) q ≡ phase_of S q
  phase_of-start q = ap phase_at (look_ups-start q)
