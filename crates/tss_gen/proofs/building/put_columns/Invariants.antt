use Rattle.std.proofs.Common.{◌≡◌, ◌+◌, ◌-◌}
use Rattle.std.specs.Prelude.{map, flat_map}
use Rattle.std.specs.List.{range_with_len}
use Rattle.tss_asm.specs.declared.item.Item.TheVariants.{Number}
use Rattle.tss_asm.specs.Program.{with_items}
use Rattle.tss_gen.specs.Workload.{column_record}
use Rattle.tss_gen.proofs.building.put_columns.Given as goal

-- the records of the rows so far
abbrev pub invariant-loop-i : goal.invariant-loop-i
invariant-loop-i l =
    l.program ≡ with_items l.initial.program
    (map Number (flat_map (column_record l.n l.k) (range_with_len (l.k + 1) (l.i - (l.k + 1)))))
