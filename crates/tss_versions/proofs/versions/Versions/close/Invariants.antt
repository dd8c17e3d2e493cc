-- The versions that are left have tokens of the pools that have ended.
use Rattle.std.specs.Prelude.{◌≡◌, Some}
use Rattle.std.specs.FinMap.{get, len}
use Rattle.tss_base.specs.declared.operand.OpName.{OpName}
use Rattle.tss_versions.specs.declared.kept.Kept.{Kept}
use Rattle.tss_versions.specs.Known.{HasNumbers}
use Rattle.tss_versions.proofs.versions.Versions.close.Given as goal

abbrev pub invariant-loop-v : goal.invariant-loop-v
invariant-loop-v l =
    (v : OpName) (x : Kept) → get l.rest.versions v ≡ Some x → HasNumbers l.places l.buffers x

abbrev pub decreases-loop-v : goal.decreases-loop-v
decreases-loop-v l = len l.rest.versions
