use Rattle.tss_names.proofs.TableLemmas.{tables_of_runs}
use Rattle.tss_laws.proofs.tables.Goals as goal

pub returns : goal.returns
returns c = tables_of_runs
