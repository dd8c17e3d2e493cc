-- What an event finds in a state that a run leaves, and what every run has of it.
use Rattle.std.proofs.Common.{List, []}
use Rattle.tss_base.specs.declared.machine.Machine.{Machine}
use Rattle.tss_base.specs.declared.event.Event.{Event}
use Rattle.tss_base.specs.Image.{ImageState, IsAccepted}
use Rattle.tss_base.specs.Machine.{IsAdmissible}
use Rattle.tss_protocol.specs.State.{State, initial_state}
use Rattle.tss_protocol.specs.UnitMachine.{IsEnabled, after_event}
use Rattle.tss_protocol.specs.Needs.{round_after_event, round_of}
use Rattle.tss_protocol.specs.Run.{IsRun}
use Rattle.tss_names.specs.Tasks.{spawned_after_event, spawned_tasks}
use Rattle.tss_program_order.proofs.RunKeeps.{HasGround-run, after_events-keeps}
use Rattle.tss_program_order.proofs.FlatPieces.{NoneAfter}
use Rattle.tss_control.proofs.rounds.FitObjects.{HaveFitObjects, no_objects, HaveFitObjects-after_event}
use Rattle.tss_names.proofs.RunLemmas.{kept_after}
use Rattle.tss_values.proofs.ValuesJoin.{ValueFact, values_of_run}
use Rattle.tss_values.proofs.MainEndings.{EndsItself}
use Rattle.tss_values.proofs.home.Bytes.{HasBytes, HasBytes-initial_state, HasBytes-after_event, HavePlacedObjects}
use Rattle.tss_values.proofs.home.Bytes.{no_places, HavePlacedObjects-after_event}
use Rattle.tss_values.proofs.storages.FixedBytes.{HaveFitOperands, no_operands, HaveFitOperands-after_event, HasFixed}
use Rattle.tss_model.specs.Memory.{memory_ranges}
use Rattle.tss_values.proofs.Values.{HasValues}
use Rattle.tss_values.proofs.storages.FixedOutputs.{HasOutputs, HasOutputs-initial_state, HasOutputs-after_event}
use Rattle.tss_control.proofs.GroundworkControl.{Facts-Run}
use Rattle.tss_values.proofs.WorkerFacts.{WorkerFacts}

-- what an event that may happen finds in a state that a run leaves
pub record Finds (m : Machine) (i : ImageState) (S : State) : Type 0 where
  pub accepted : IsAccepted i
  pub admissible : IsAdmissible m
  pub work : WorkerFacts m i S
  pub open work use *
  pub pieces : NoneAfter S.main.spawned S.main.pieces
  pub fit : HaveFitObjects m.limits all
  pub own : EndsItself S.main
  pub bytes : HasBytes i S.home
  pub placed : HavePlacedObjects i all
  pub operands : HaveFitOperands m.limits (memory_ranges i) all
  pub outputs : HasOutputs ts S
  pub fixed : HasFixed i S
  pub values : HasValues m i all ts S

-- it keeps a part of the values
abbrev pub IsPartKept : Event → ValueFact → Type 0
IsPartKept e P =
    (m : Machine) (i : ImageState) (S : State) (f : Finds m i S)
    → IsEnabled m S e
    → P m i (spawned_after_event m S f.all e) (round_after_event m S f.ts e) (after_event m S e)

-- objects of spawned tasks are fit in every run
pub fit_run : (m : Machine) (i : ImageState) (es : List Event) (S : State) → IsRun m i es S
    → HaveFitObjects m.limits (spawned_tasks m i es)
fit_run m i es S run =
    kept_after (λ m all S. HaveFitObjects m.limits all)
    (λ m all S e fit on. HaveFitObjects-after_event m all S fit e) m es []
    (initial_state i) S (no_objects m.limits) run

-- memory has no fewer bytes than the image in every run
pub bytes_run : (m : Machine) (i : ImageState) (es : List Event) (S : State) → IsRun m i es S → HasBytes i S.home
bytes_run m i es S run =
    after_events-keeps (λ S. HasBytes i S.home) m (λ S e on bytes. HasBytes-after_event i m S e bytes) es
    (initial_state i) S (HasBytes-initial_state i) run

module _ (m : Machine) (i : ImageState) (accepted : IsAccepted i) (admissible : IsAdmissible m) (es : List Event)
    (S : State) (run : IsRun m i es S) where
  -- the objects of spawned tasks lie in the ranges of memory
  pub placed_run : HavePlacedObjects i (spawned_tasks m i es)
  placed_run =
      values_of_run (λ m i all ts S. HavePlacedObjects i all)
      (λ m i es S e accepted admissible run placed on.
      HavePlacedObjects-after_event m i (spawned_tasks m i es) S (HasGround-run m i es S run) placed e)
      m i accepted admissible (no_places i) es S run

  -- their operands are fit
  pub operands_run : HaveFitOperands m.limits (memory_ranges i) (spawned_tasks m i es)
  operands_run =
      values_of_run (λ m i all ts S. HaveFitOperands m.limits (memory_ranges i) all)
      (λ m i es S e accepted admissible run operands on.
      HaveFitOperands-after_event m i (spawned_tasks m i es) S (HasGround-run m i es S run) operands e)
      m i accepted admissible (no_operands m.limits (memory_ranges i)) es S run

  -- and buffers are held by outputs of the round
  pub outputs_run : HasOutputs (round_of m (initial_state i) es) S
  outputs_run =
      values_of_run (λ m i all ts S. HasOutputs ts S)
      (λ m i es S e accepted admissible run outputs on.
      let facts = Facts-Run m i es S run in
      HasOutputs-after_event m S facts.basis facts.control.orderly outputs e on)
      m i accepted admissible (HasOutputs-initial_state [] i) es S run
