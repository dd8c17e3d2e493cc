use Rattle.std.proofs.Common.{◌≡◌, ◌-◌}
use Rattle.std.specs.Prelude.{map, flat_map}
use Rattle.std.specs.List.{range_with_len}
use Rattle.tss_asm.specs.declared.item.Item.TheVariants.{Number}
use Rattle.tss_asm.specs.Program.{with_items}
use Rattle.tss_gen.specs.Workload.{records}
use Rattle.tss_gen.proofs.building.put_table.Given as goal

-- the records so far
abbrev pub invariant-loop-k : goal.invariant-loop-k
invariant-loop-k l =
    l.program ≡ with_items l.initial.program
    (map Number (flat_map (records l.n) (range_with_len 0 (l.k - 0))))
