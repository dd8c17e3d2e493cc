-- The first spots are those of the first operands.
use Rattle.std.proofs.Common.{◌≡◌, ◌<◌, ℕ, length, get_or}
use Rattle.tss_base.specs.declared.bounds.TheConstants.{MAX_OPERANDS}
use Rattle.tss_workers.specs.Spots.{spots_in}
use Rattle.tss_workers.specs.declared.spots.Spot.{Spot}
use Rattle.tss_workers.proofs.spots.spots_of.Given as goal

abbrev pub invariant-loop-i : goal.invariant-loop-i
invariant-loop-i l = record {
  count : length l.spots ≡ MAX_OPERANDS;
  filled : (k : ℕ) (d : Spot) → k < l.i → get_or l.spots k d ≡ get_or (spots_in l.banks l.task.operands l.storages) k d;
}
