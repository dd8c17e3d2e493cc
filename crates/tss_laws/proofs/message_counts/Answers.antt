use Rattle.tss_names.proofs.MessageLemmas.{messages_of_runs}
use Rattle.tss_laws.proofs.message_counts.Goals as goal

pub returns : goal.returns
returns c = messages_of_runs
