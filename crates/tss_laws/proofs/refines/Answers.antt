-- Each clause is its lemma, of the values that every run has.
use Rattle.tss_control.proofs.GroundworkControl.{sizes_of_runs}
use Rattle.tss_values.proofs.ValuesEvents.{HasValues-Run, result_of_runs}
use Rattle.tss_values.proofs.ValuesMainLaw.{main_of_values}
use Rattle.tss_values.proofs.ValuesProducedLaw.{produced_of_values}
use Rattle.tss_values.proofs.ValuesWorkerLaw.{workers_of_values}
use Rattle.tss_laws.proofs.refines.Goals as goal

pub returns-clause-result : goal.returns-clause-result
returns-clause-result c = result_of_runs

pub returns-clause-sizes : goal.returns-clause-sizes
returns-clause-sizes c = sizes_of_runs

pub returns-clause-produced_bytes : goal.returns-clause-produced_bytes
returns-clause-produced_bytes c = produced_of_values HasValues-Run

pub returns-clause-worker_bytes : goal.returns-clause-worker_bytes
returns-clause-worker_bytes c = workers_of_values HasValues-Run

pub returns-clause-main_state : goal.returns-clause-main_state
returns-clause-main_state c = main_of_values HasValues-Run
