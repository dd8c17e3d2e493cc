-- Progress of every run, where each event keeps the groups of the control.
use Rattle.std.proofs.Common.{List, sym, ◌∙◌}
use Rattle.std.specs.Ordering.{nat_cmp}
use Rattle.std.specs.FinMap.{get-empty}
use Rattle.std.proofs.lemmas.Option.{none-some}
use Rattle.tss_base.specs.declared.machine.Machine.{Machine}
use Rattle.tss_base.specs.declared.event.Event.{Event}
use Rattle.tss_base.specs.Image.{ImageState}
use Rattle.tss_protocol.specs.State.{State, initial_state}
use Rattle.tss_protocol.specs.Run.{IsRun}
use Rattle.tss_protocol.specs.Needs.{round_of}
use Rattle.tss_phases.proofs.OrderlyEvents.{orderly_at_first}
use Rattle.tss_progress.specs.Progress.{EnabledLaw}
use Rattle.tss_names.specs.Tasks.{spawned_tasks}
use Rattle.tss_control.specs.Readers.{arrivals_from, no_arrivals}
use Rattle.tss_control.specs.Control.{IsControlled}
use Rattle.tss_control.proofs.GroundworkRuns.{RoundFact, IsKeptOnGround, ground_of_runs, HasGroundwork-Run}
use Rattle.tss_control.proofs.GroundworkEmpty.{IsControlled-bare, IsBare-initial_state}
use Rattle.tss_control.proofs.GroundworkJoin.{AreGroupsKept, IsControlled-event}
use Rattle.tss_progress.proofs.progress.Phases.{HasLetGo}
use Rattle.tss_progress.proofs.progress.LetGo.{HasLetGo-after_event}
use Rattle.tss_progress.proofs.progress.Drained.{HaveHolders}
use Rattle.tss_progress.proofs.progress.GoesOn.{goes_on}
use Rattle.tss_progress.proofs.progress.Buffers.{HaveHolders-after_event, HaveHolders-initial_state}
use Rattle.tss_control.proofs.rounds.Facts.{facts_of}

-- what progress needs of a state
abbrev CanProgress : RoundFact
CanProgress m all ts g S = IsControlled ts g S × HasLetGo S × HaveHolders S

-- nothing is in flight at first
let_go_at_first : (i : ImageState) → HasLetGo (initial_state i)
let_go_at_first i o r at finished = absurd (none-some finished.0 (sym (get-empty nat_cmp o.task) ∙ finished.1))

module _ (kept : (e : Event) → AreGroupsKept e) where
  -- each event keeps it
  CanProgress-after_event : IsKeptOnGround CanProgress
  CanProgress-after_event m all ts g S e ground h on =
      let facts = facts_of m all ts g S ground h.0 in
      let order = (kept e).order m S facts on in (
        IsControlled-event e (kept e) m S facts on order,
        HasLetGo-after_event m S h.0.orderly h.1 e on order,
        HaveHolders-after_event m S facts h.2 e on,
      )

  -- so it holds in every run
  pub can_progress_of_runs : (m : Machine) (i : ImageState) (es : List Event) (S : State) → IsRun m i es S
      → CanProgress m (spawned_tasks m i es) (round_of m (initial_state i) es)
      (arrivals_from m (initial_state i) no_arrivals es) S
  can_progress_of_runs m i es S run =
      (ground_of_runs CanProgress CanProgress-after_event
      (λ m i. (
        IsControlled-bare (initial_state i) (IsBare-initial_state i) no_arrivals (orderly_at_first i),
        let_go_at_first i,
        HaveHolders-initial_state i,
      )) m i es S run).1

  -- and a run that isn't over can go on
  pub enabled_of_runs : EnabledLaw
  enabled_of_runs m i es S accepted fit run =
      let h = can_progress_of_runs m i es S run in
      goes_on m S (facts_of m (spawned_tasks m i es) (round_of m (initial_state i) es)
      (arrivals_from m (initial_state i) no_arrivals es) S (HasGroundwork-Run m i es S run) h.0) h.1 h.2 fit
