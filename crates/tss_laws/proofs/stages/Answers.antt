use Rattle.tss_names.proofs.StageEvents.{stages_of_runs}
use Rattle.tss_laws.proofs.stages.Goals as goal

pub returns : goal.returns
returns c = stages_of_runs
