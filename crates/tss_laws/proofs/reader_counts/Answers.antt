use Rattle.tss_names.proofs.CountEvents.{readers_of_runs}
use Rattle.tss_laws.proofs.reader_counts.Goals as goal

pub returns : goal.returns
returns c = readers_of_runs
