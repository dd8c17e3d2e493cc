use Rattle.std.proofs.Common.{ap, ◌∙◌}
use Rattle.std.specs.Prelude.{map}
use Rattle.tss_asm.specs.declared.item.Item.TheVariants.{Plain}
use Rattle.tss_asm.specs.Program.{with_items}
use Rattle.tss_gen.proofs.Chain.{workload_is_built}
use Rattle.tss_gen.proofs.building.program_of.Goals as goal

pub returns : goal.returns
returns c =
    workload_is_built c.args.form c.args.n c.in_ok-from.from c.in_ok-start.start c.open-program.result
    c.put_instructions.new.program c.label.new.self c.place.new.self c.put_table.new.program c.label-2.new.self
    c.place-2.new.self c.address.new.self c.address-2.new.self c.put_instructions-2.new.program
    c.put_blocks.new.program c.open-program.ensures
    (c.in_ok-put_instructions.ensures ∙ ap (λ is. with_items c.open-program.result (map Plain is)) c.tasks.ensures)
    c.in_ok-from.ensures.ok c.place.ensures.placed c.in_ok-put_table.ensures c.in_ok-start.ensures.fresh
    c.in_ok-start.ensures.ok c.place-2.ensures.placed c.in_ok-address.ensures.ok c.in_ok-address-2.ensures.ok
    c.in_ok-put_instructions-2.ensures c.in_ok-put_blocks.ensures
