use Rattle.std.proofs.Common.{◌≡◌, take}
use Rattle.std.specs.Prelude.{map}
use Rattle.tss_elf.specs.Elf.{segment_of}
use Rattle.tss_elf.proofs.reading.segments.Given as goal

-- the segments of the headers so far
abbrev pub invariant-loop-header : goal.invariant-loop-header
invariant-loop-header l = l.segments.items ≡ map (segment_of l.bytes) (take l.header-index l.headers)
