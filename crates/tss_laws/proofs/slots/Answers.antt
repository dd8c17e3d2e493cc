use Rattle.tss_names.proofs.SlotLemmas.{slots_of_runs}
use Rattle.tss_laws.proofs.slots.Goals as goal

pub returns : goal.returns
returns c = slots_of_runs
