use Rattle.tss_conditions.proofs.Fitting.{event_fits}
use Rattle.tss_conditions.proofs.events.Goals as goal

pub returns : goal.returns
returns c = event_fits
