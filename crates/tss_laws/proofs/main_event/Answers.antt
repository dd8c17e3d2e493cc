-- Each clause is its lemma at the state that the run leaves.
use Rattle.tss_laws.proofs.main_event.Goals as goal
use Rattle.tss_program_order.proofs.MainEvent.{main_on-enabled, pieces-run, follows_main, main_rises, cut_off_rises}
use Rattle.tss_program_order.proofs.MainEvent.{main_stores}
use Rattle.tss_program_order.proofs.RunKeeps.{HasGround-run}

pub returns-clause-in_order : goal.returns-clause-in_order
returns-clause-in_order c m i es S accepted admissible run on follows =
    follows_main m i S (HasGround-run m i es S run) (main_on-enabled m S on) follows (pieces-run m i es S run)

pub returns-clause-cut_off : goal.returns-clause-cut_off
returns-clause-cut_off c m i es S accepted admissible run on cut =
    cut_off_rises i m.limits S.main _ (main_rises m S) cut

pub returns-clause-stores : goal.returns-clause-stores
returns-clause-stores c m i es S accepted admissible run a out = main_stores m S a out
