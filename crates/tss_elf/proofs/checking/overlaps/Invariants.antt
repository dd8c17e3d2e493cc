use Rattle.std.proofs.Common.{ℕ, ◌+◌, ◌<◌, ◌≤◌, get_or}
use Rattle.tss_base.specs.Range.{end_of}
use Rattle.tss_elf.specs.declared.header.ProgramHeader.{ProgramHeader}
use Rattle.tss_elf.specs.Fields.{range_of}
use Rattle.tss_elf.proofs.checking.overlaps.Given as goal

-- each segment so far ends before the next begins
abbrev pub invariant-loop-i : goal.invariant-loop-i
invariant-loop-i l =
    (k : ℕ) (d : ProgramHeader) → k + 1 < l.i
    → end_of (range_of (get_or l.kept k d)) ≤ (get_or l.kept (k + 1) d).address
