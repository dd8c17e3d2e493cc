use Rattle.tss_names.proofs.EnlistedNames.{names_of_runs}
use Rattle.tss_laws.proofs.names.Goals as goal

pub returns : goal.returns
returns c = names_of_runs
