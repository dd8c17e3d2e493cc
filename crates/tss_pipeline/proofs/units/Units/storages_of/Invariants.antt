-- The storages before the place are found.
use Rattle.std.proofs.Common.{◌≡◌, ◌-◌, ◌<◌, ℕ, length, slice_get}
use Rattle.tss_base.specs.declared.bounds.TheConstants.{MAX_OPERANDS}
use Rattle.tss_pipeline.specs.Fit.{ground_of}
use Rattle.tss_pipeline.specs.Beginning.{IsStoredAt}
use Rattle.tss_pipeline.proofs.units.Units.storages_of.Given as goal

abbrev pub invariant-loop-place : goal.invariant-loop-place
invariant-loop-place l = record {
  long : length l.storages ≡ MAX_OPERANDS;
  found : (k : ℕ) → k < l.place → IsStoredAt (ground_of l.self) l.self.stations.slots l.task k (slice_get l.storages k);
}

abbrev pub decreases-loop-place : goal.decreases-loop-place
decreases-loop-place l = l.task.count - l.place
