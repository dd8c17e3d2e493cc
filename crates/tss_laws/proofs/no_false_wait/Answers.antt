use Rattle.tss_progress.proofs.waits.Runs.{queued_of_runs}
use Rattle.tss_laws.proofs.no_false_wait.Goals as goal

pub returns : goal.returns
returns c = record { queued = queued_of_runs }
