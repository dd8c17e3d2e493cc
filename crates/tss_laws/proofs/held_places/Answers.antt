use Rattle.tss_names.proofs.HeldEvents.{held_places_of_runs}
use Rattle.tss_laws.proofs.held_places.Goals as goal

pub returns : goal.returns
returns c = held_places_of_runs
