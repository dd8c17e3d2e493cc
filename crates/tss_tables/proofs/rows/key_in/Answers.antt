-- What `get` shows.
use Rattle.std.proofs.Common.{◌∙◌}
use Rattle.tss_tables.proofs.RowsLemmas.{copied-get}
use Rattle.tss_tables.proofs.rows.key_in.Goals as goal

pub returns : goal.returns
returns g c = c.copied.ensures ∙ copied-get c.args.keys.now c.args.place c.get.result c.get.ensures.lookup
