use Rattle.std.proofs.Common.{◌≡◌, ◌+◌, ◌-◌}
use Rattle.std.specs.Prelude.{map, flat_map}
use Rattle.std.specs.List.{range_with_len}
use Rattle.tss_asm.specs.declared.item.Item.TheVariants.{Number}
use Rattle.tss_asm.specs.Program.{with_items}
use Rattle.tss_gen.specs.Workload.{update_record}
use Rattle.tss_gen.proofs.building.put_row.Given as goal

-- the records of the blocks so far
abbrev pub invariant-loop-j : goal.invariant-loop-j
invariant-loop-j l =
    l.program ≡ with_items l.initial.program
    (map Number (flat_map (update_record l.k l.i) (range_with_len (l.k + 1) (l.j - (l.k + 1)))))
