use Rattle.tss_progress.proofs.bound.Runs.{events_of_runs}
use Rattle.tss_laws.proofs.bound.Goals as goal

pub returns : goal.returns
returns c = record { events = events_of_runs }
