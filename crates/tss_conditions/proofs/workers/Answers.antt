use Rattle.tss_conditions.proofs.Running.{may_start, is_running}
use Rattle.tss_conditions.proofs.workers.Goals as goal

pub returns-clause-start : goal.returns-clause-start
returns-clause-start c = may_start

pub returns-clause-exec : goal.returns-clause-exec
returns-clause-exec c = is_running
