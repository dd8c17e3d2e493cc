use Rattle.tss_schedule.proofs.laws.by_log.Goals as goal
use Rattle.tss_schedule.proofs.GivenRuns.{run_of_log}

pub returns : goal.returns
returns c = run_of_log
