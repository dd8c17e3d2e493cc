use Rattle.tss_conditions.proofs.Opening.{openable, uses_version}
use Rattle.tss_conditions.proofs.opens.Goals as goal

pub returns-clause-open_message : goal.returns-clause-open_message
returns-clause-open_message c = openable

pub returns-clause-use_message : goal.returns-clause-use_message
returns-clause-use_message c = uses_version
