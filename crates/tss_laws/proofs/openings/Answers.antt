use Rattle.tss_names.proofs.EnlistedNames.{openings_of_runs}
use Rattle.tss_laws.proofs.openings.Goals as goal

pub returns : goal.returns
returns c = openings_of_runs
