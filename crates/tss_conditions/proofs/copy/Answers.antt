use Rattle.tss_conditions.proofs.Copying.{copying}
use Rattle.tss_conditions.proofs.copy.Goals as goal

pub returns : goal.returns
returns c = copying
