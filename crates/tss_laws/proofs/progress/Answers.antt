-- A state that isn't finished has an enabled event, and a finished one has none.
use Rattle.tss_laws.proofs.progress.Goals as goal
use Rattle.tss_control.proofs.GroundworkControl.{keeps_groups}
use Rattle.tss_progress.proofs.progress.Finished.{finished_of_runs}
use Rattle.tss_progress.proofs.progress.Runs.{enabled_of_runs}

pub returns-clause-enabled : goal.returns-clause-enabled
returns-clause-enabled c = enabled_of_runs keeps_groups

pub returns-clause-finished : goal.returns-clause-finished
returns-clause-finished c = finished_of_runs
