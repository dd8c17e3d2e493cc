use Rattle.tss_schedule.proofs.laws.going.Goals as goal
use Rattle.tss_schedule.proofs.Drawing.{enabled_count}

pub returns : goal.returns
returns c = enabled_count
