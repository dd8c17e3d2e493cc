use Rattle.tss_conditions.proofs.Posting.{may_post}
use Rattle.tss_conditions.proofs.messages.Goals as goal

pub returns : goal.returns
returns c = may_post
