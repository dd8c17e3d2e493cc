use Rattle.tss_conditions.proofs.Flying.{ready_tells, link_flies, bye_parts}
use Rattle.tss_conditions.proofs.stations.Goals as goal

pub returns-clause-ready_message : goal.returns-clause-ready_message
returns-clause-ready_message c = ready_tells

pub returns-clause-link_message : goal.returns-clause-link_message
returns-clause-link_message c = link_flies

pub returns-clause-bye_message : goal.returns-clause-bye_message
returns-clause-bye_message c = bye_parts
