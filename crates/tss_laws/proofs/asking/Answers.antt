use Rattle.tss_names.proofs.AskingEvents.{asking_of_runs}
use Rattle.tss_laws.proofs.asking.Goals as goal

pub returns : goal.returns
returns c = asking_of_runs
