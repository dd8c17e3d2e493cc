use Rattle.tss_schedule.proofs.laws.by_seed.Goals as goal
use Rattle.tss_schedule.proofs.SeededRuns.{fits, faultless, run_of_seed}

pub returns : goal.returns
returns c = record { fits = fits; no_fault = faultless; run = run_of_seed }
