use Rattle.std.proofs.Common.{ap, ◌∙◌}
use Rattle.toml.specs.Data.{get_member}
use Rattle.toml.specs.View.{table_view}
use Rattle.toml.proofs.Views.{table_get}
use Rattle.tss_machine.specs.Table.{number_at, number_from}
use Rattle.tss_machine.proofs.table.number_at.Goals as goal

pub returns : goal.returns
unfolding number_at
returns c =
    let found = table_get c.get.result c.name.result.now c.args.table.now.entries c.get.ensures.value in
    let named = ap (λ name. get_member name (table_view c.args.table.now)) c.name.ensures in
    c.number_from.ensures ∙ ap (number_from c.args.key) (found ∙ named)
