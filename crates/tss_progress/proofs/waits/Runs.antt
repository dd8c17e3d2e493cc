-- No false wait in every run.
use Rattle.tss_protocol.specs.State.{initial_state}
use Rattle.tss_protocol.specs.Needs.{round_of}
use Rattle.tss_names.specs.Tasks.{spawned_tasks}
use Rattle.tss_progress.specs.NoFalseWait.{QueuedLaw}
use Rattle.tss_control.specs.Readers.{arrivals_from, no_arrivals}
use Rattle.tss_control.proofs.GroundworkRuns.{HasGroundwork-Run}
use Rattle.tss_control.proofs.GroundworkControl.{keeps_groups}
use Rattle.tss_progress.proofs.progress.Runs.{can_progress_of_runs}
use Rattle.tss_progress.proofs.waits.Rising.{rising_of_runs}
use Rattle.tss_progress.proofs.waits.Law.{no_false_wait}
use Rattle.tss_control.proofs.rounds.Facts.{facts_of}

-- in every run no task waits needlessly
pub queued_of_runs : QueuedLaw
queued_of_runs m i es S accepted fit run =
    let h = can_progress_of_runs keeps_groups m i es S run in
    no_false_wait m S (facts_of m (spawned_tasks m i es) (round_of m (initial_state i) es)
    (arrivals_from m (initial_state i) no_arrivals es) S (HasGroundwork-Run m i es S run) h.0) h.1
    (rising_of_runs m i es S run)
