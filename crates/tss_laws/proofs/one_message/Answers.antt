use Rattle.tss_control.proofs.GroundworkControl.{one_message_of_runs}
use Rattle.tss_laws.proofs.one_message.Goals as goal

pub returns : goal.returns
returns c = one_message_of_runs
