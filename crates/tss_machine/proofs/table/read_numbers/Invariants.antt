use Rattle.std.proofs.Common.{◌≡◌, length, take, drop}
use Rattle.toml.specs.View.{table_view}
use Rattle.tss_machine.specs.Table.{key_faults, numbers_of}
use Rattle.tss_machine.specs.Description.{first_fault}
use Rattle.tss_machine.proofs.table.read_numbers.Given as goal

abbrev pub invariant-loop-i : goal.invariant-loop-i
invariant-loop-i l = record {
  whole : length l.numbers ≡ 16;
  left : first_fault (drop l.i (key_faults (table_view l.table))) ≡ first_fault (key_faults (table_view l.table));
  read : take l.i l.numbers ≡ take l.i (numbers_of (table_view l.table));
}
