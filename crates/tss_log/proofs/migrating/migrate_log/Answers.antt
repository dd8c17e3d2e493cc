-- The law of the definitions.
use Rattle.tss_protocol.proofs.MigrationLemmas.{keeps_run}
use Rattle.tss_log.proofs.migrating.migrate_log.Goals as goal

pub returns-in-Some-clause-keeps_run : goal.returns-in-Some-clause-keeps_run
returns-in-Some-clause-keeps_run c = keeps_run

pub returns-in-None-clause-keeps_run : goal.returns-in-None-clause-keeps_run
returns-in-None-clause-keeps_run c = keeps_run
