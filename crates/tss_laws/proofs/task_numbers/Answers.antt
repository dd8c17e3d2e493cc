use Rattle.tss_names.proofs.NumberLemmas.{numbers_of_runs}
use Rattle.tss_laws.proofs.task_numbers.Goals as goal

pub returns : goal.returns
returns c = numbers_of_runs
