use Rattle.std.proofs.Common.{◌≡◌, length, take, None}
use Rattle.std.specs.Prelude.{flat_map, filter}
use Rattle.tss_elf.specs.Fields.{headers, is_kept}
use Rattle.tss_elf.specs.Checks.{first_failing, header_checks}
use Rattle.tss_elf.proofs.reading.kept_headers.Given as goal

-- the headers so far pass, and those of them that are kept are gathered
abbrev pub invariant-loop-i : goal.invariant-loop-i
invariant-loop-i l = record {
  passed : first_failing (flat_map (header_checks (length l.bytes)) (take l.i (headers l.bytes))) ≡ None;
  kept : l.kept.items ≡ filter is_kept (take l.i (headers l.bytes));
}
