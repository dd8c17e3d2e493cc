use Rattle.std.proofs.Common.{◌≡◌, take}
use Rattle.std.specs.Prelude.{map}
use Rattle.tss_asm.specs.declared.item.Item.TheVariants.{Plain}
use Rattle.tss_asm.specs.Program.{with_items}
use Rattle.tss_gen.proofs.building.put_instructions.Given as goal

-- the instructions so far are put
abbrev pub invariant-loop-i : goal.invariant-loop-i
invariant-loop-i l = l.program ≡ with_items l.initial.program (map Plain (take l.i-index l.code))
