-- A row is an entry.
use Rattle.std.proofs.Common.{ap, ◌∙◌}
use Rattle.std.specs.Prelude.{is_some}
use Rattle.tss_maps.proofs.Keys.{nat_order}
use Rattle.tss_tables.proofs.TableLemmas.{get-seen, is_some-map}
use Rattle.tss_tables.proofs.table.Table.has.Goals as goal

pub returns : goal.returns
returns g c =
    c.is_some.ensures ∙ is_some-map (λ x. x.now) c.get.result
    ∙ ap is_some (c.get.ensures ∙ get-seen nat_order c.self.inside.rows _ c.self.view_is c.self.invariant c.args.key)
