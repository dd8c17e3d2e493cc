use Rattle.tss_conditions.proofs.Releasing.{releasable}
use Rattle.tss_conditions.proofs.releases.Goals as goal

pub returns : goal.returns
returns c = releasable
