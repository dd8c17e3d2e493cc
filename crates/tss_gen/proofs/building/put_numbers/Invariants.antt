use Rattle.std.proofs.Common.{◌≡◌, take}
use Rattle.std.specs.Prelude.{map}
use Rattle.tss_asm.specs.declared.item.Item.TheVariants.{Number}
use Rattle.tss_asm.specs.Program.{with_items}
use Rattle.tss_gen.proofs.building.put_numbers.Given as goal

-- the numbers so far are put
abbrev pub invariant-loop-number : goal.invariant-loop-number
invariant-loop-number l = l.program ≡ with_items l.initial.program (map Number (take l.number-index l.numbers))
