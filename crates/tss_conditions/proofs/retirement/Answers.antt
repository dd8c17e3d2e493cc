use Rattle.tss_conditions.proofs.Retiring.{idle_of, nack_of, may_leave, engine_idle, gone_of}
use Rattle.tss_conditions.proofs.retirement.Goals as goal

pub returns-clause-idle_message : goal.returns-clause-idle_message
returns-clause-idle_message c = idle_of

pub returns-clause-nack_message : goal.returns-clause-nack_message
returns-clause-nack_message c = nack_of

pub returns-clause-retire_message : goal.returns-clause-retire_message
returns-clause-retire_message c = may_leave

pub returns-clause-gone_message : goal.returns-clause-gone_message
returns-clause-gone_message c = gone_of

pub returns-clause-engine : goal.returns-clause-engine
returns-clause-engine c = engine_idle
