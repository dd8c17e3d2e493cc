use Rattle.tss_control.proofs.GroundworkControl.{control_of_runs}
use Rattle.tss_laws.proofs.control.Goals as goal

pub returns : goal.returns
returns c = control_of_runs
