use Rattle.std.proofs.Common.{◌≡◌, take, false}
use Rattle.tss_asm.specs.Faults.{any_from, is_far}
use Rattle.tss_asm.proofs.checking.some_far.Given as goal

-- each item so far is near
abbrev pub invariant-loop-at : goal.invariant-loop-at
invariant-loop-at l = any_from (is_far l.labels) 0 (take l.at l.text) ≡ false
