-- The last spots are zeroed.
use Rattle.std.proofs.Common.{◌≡◌, ◌≤◌, length, drop}
use Rattle.tss_base.specs.declared.machine.Limits.{Limits}
use Rattle.tss_protocol.specs.Workers.{outputs_zeroed}
use Rattle.tss_workers.specs.Spots.{operands_at, storages_at, stores_of}
use Rattle.tss_workers.specs.Working.{HaveSameSizes}
use Rattle.tss_workers.proofs.starting.zero_outputs.Given as goal

abbrev pub invariant-loop-i : goal.invariant-loop-i
invariant-loop-i l = record {
  within : l.i ≤ length l.spots;
  zeroed : (limits : Limits) → limits.object_bytes ≡ l.initial.buffers.object_bytes
      → stores_of l.space l.buffers
      ≡ outputs_zeroed limits (stores_of l.initial.space l.initial.buffers) (operands_at (drop l.i l.spots)) (storages_at (drop l.i l.spots));
  sizes : HaveSameSizes l.initial.buffers l.buffers;
  ranges : l.space.ranges ≡ l.initial.space.ranges;
}

abbrev pub decreases-loop-i : goal.decreases-loop-i
decreases-loop-i l = l.i
