use Rattle.tss_control.proofs.GroundworkControl.{round_of_runs}
use Rattle.tss_laws.proofs.round.Goals as goal

pub returns : goal.returns
returns c = round_of_runs
