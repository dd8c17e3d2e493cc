-- The search's clauses, read by the keys that rise.
use Rattle.tss_tables.proofs.RowsLemmas.{search_answer}
use Rattle.tss_tables.proofs.rows.place_of.Goals as goal

pub returns : goal.returns
returns g c =
    let keys = c.args.keys.now in
    let said = c.binary_search.ensures in
    search_answer g.met.K.Ord.total keys c.args.key.now c.requires c.binary_search.result said.bound said.position
