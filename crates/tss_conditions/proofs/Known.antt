-- What the laws know of a reached state: the facts of the run that leaves it.
use Rattle.std.proofs.Common.{[], ◌∷◌, ◌++◌, refl}
use Rattle.tss_base.specs.declared.machine.Machine.{Machine}
use Rattle.tss_base.specs.Image.{ImageState}
use Rattle.tss_protocol.specs.State.{State, initial_state}
use Rattle.tss_protocol.specs.Run.{after_events}
use Rattle.tss_control.proofs.rounds.Facts.{Facts}
use Rattle.tss_control.proofs.GroundworkControl.{Facts-Run}
use Rattle.tss_values.specs.Buffers.{HasBuffers}
use Rattle.tss_values.proofs.ValuesJoin.{after_events-push}
use Rattle.tss_values.proofs.Values.{HasRoom, HasWorkers}
use Rattle.tss_values.proofs.ValuesEvents.{HasValues-Run}
use Rattle.tss_values.proofs.ValuesFinds.{operands_run, outputs_run}
use Rattle.tss_values.proofs.storages.FixedOutputs.{HasOutputs}
use Rattle.tss_values.proofs.storages.FixedBytes.{HaveFitOperands}
use Rattle.tss_model.specs.Memory.{memory_ranges}
use Rattle.tss_values.proofs.buffers.Events.{HasBuffers-Run}
use Rattle.tss_conditions.specs.Reached.{Reached, FirstLaw, ReachedLaw}
use Rattle.tss_conditions.proofs.Spawned.{CountRightly, counts_run}
use Rattle.tss_conditions.proofs.BufferBanks.{HoldsInBanks, banks_run}

-- the first state is reached
pub reached_first : FirstLaw
unfolding after_events
reached_first m i accepted admissible =
    record { accepted = accepted; admissible = admissible; reachable = ([], refl) }

-- the state after an enabled event is reached
pub reached_after : ReachedLaw
reached_after m i S e r on = record {
  accepted = r.accepted;
  admissible = r.admissible;
  reachable = (r.reachable.0 ++ e ∷ [], after_events-push m r.reachable.0 e (initial_state i) S r.reachable.1 on);
}

-- the facts of a reached state
pub facts_reached : (m : Machine) (i : ImageState) (S : State) → Reached m i S → Facts m S
facts_reached m i S r = Facts-Run m i r.reachable.0 S r.reachable.1

module _ (m : Machine) (i : ImageState) (S : State) (r : Reached m i S) where
  -- the tasks that were spawned count their operands rightly
  pub counts_reached : CountRightly m.limits (facts_reached m i S r).all
  unfolding facts_reached
  counts_reached = counts_run m i r.reachable.0 S r.reachable.1

  -- each buffer has one holder
  pub buffers_reached : HasBuffers (facts_reached m i S r).ts S
  unfolding facts_reached
  buffers_reached = HasBuffers-Run m i r.reachable.0 S r.reachable.1

  -- and is held in the bank of its operand's object
  pub banks_reached : HoldsInBanks m.sizes (facts_reached m i S r).all S.buffers
  unfolding facts_reached
  banks_reached = banks_run m i r.reachable.0 S r.accepted r.admissible r.reachable.1

  -- the operands of spawned tasks fit in memory
  pub operands_reached : HaveFitOperands m.limits (memory_ranges i) (facts_reached m i S r).all
  unfolding facts_reached
  operands_reached = operands_run m i r.accepted r.admissible r.reachable.0 S r.reachable.1

  -- buffers that are set have room
  pub room_reached : HasRoom m (facts_reached m i S r).ts S
  unfolding facts_reached
  room_reached = (HasValues-Run m i r.reachable.0 S r.accepted r.admissible r.reachable.1).room

  -- a worker has the task in flight, with the storages that it was told
  pub workers_reached : HasWorkers m i S
  workers_reached = (HasValues-Run m i r.reachable.0 S r.accepted r.admissible r.reachable.1).workers

  -- buffers are held by outputs
  pub outputs_reached : HasOutputs (facts_reached m i S r).ts S
  unfolding facts_reached
  outputs_reached = outputs_run m i r.accepted r.admissible r.reachable.0 S r.reachable.1
