-- What the events of tasks find, so that operands stay in order: those that are told wait, and a task that finishes has
-- all its operands ready.
use Rattle.std.proofs.Common.{◌≡◌, ℕ, zero, suc, Bool, true, false, List, [], ◌∷◌, Option, Some, None, refl, sym, ap}
use Rattle.std.proofs.Common.{◌∙◌, arith, true≢false}
use Rattle.std.specs.Prelude.{slice_get}
use Rattle.std.specs.List.{list_all}
use Rattle.std.specs.FinMap.{get}
use Rattle.std.proofs.lemmas.Option.{none-some, same_Some}
use Rattle.std.proofs.lemmas.Bool.{and_parts}
use Rattle.tss_base.specs.declared.operand.OpName.{OpName}
use Rattle.tss_base.specs.declared.operand.Task.{Task}
use Rattle.tss_base.specs.declared.machine.Machine.{Machine}
use Rattle.tss_base.specs.declared.marks.Stage.TheVariants as stage
use Rattle.tss_protocol.specs.Mail.{Source}
use Rattle.tss_protocol.specs.State.{State, OperandState, Flying}
use Rattle.tss_protocol.specs.Stations.{operand_at, is_ready, is_complete}
use Rattle.tss_phases.specs.Phase.{Phase, Ahead, Decoding, Sent, Waiting, Told, Ready, Releasing, Leaving, Promised}
use Rattle.tss_phases.specs.Phase.{Left, look_ups, phase_of}
use Rattle.tss_phases.specs.Alone.{HasRecord}
use Rattle.tss_phases.specs.Orderly.{FitsPhase, AreOrderly, TakesSpawned, ReadiesWaiting, LinksWaiting, FinishesReady}
use Rattle.tss_phases.specs.Orderly.{AreReady}
use Rattle.tss_phases.proofs.Records.{operand_in}
use Rattle.tss_phases.proofs.ReadyEvent.{ready_tells}
use Rattle.tss_phases.proofs.LinkEvent.{link_tells}
use Rattle.tss_names.specs.Tasks.{HasTaskNumbers}
use Rattle.tss_names.specs.Stages.{HasStages}
use Rattle.tss_control.specs.Readers.{Arrivals, HasReaders}
use Rattle.tss_control.specs.Holders.{HasHolders}
use Rattle.tss_control.specs.Runners.{HasRunners, is_late}
use Rattle.tss_names.proofs.StageLemmas.{running≢finished}
use Rattle.tss_control.proofs.holders.Runners.{one_stage}
use Rattle.tss_control.proofs.rounds.HoldersNext.{linking_waits, held_waits}

-- take
pub takes_spawned : (m : Machine) (all : List Task) (S : State) → HasTaskNumbers m all S → TakesSpawned S
takes_spawned m all S numbers t e = let a = (numbers.inbox t e).number in omega (arith, a)

-- ready
pub readies_waiting : (ts : List Task) (g : Arrivals) (S : State) → HasReaders ts g S → (o : OpName)
    → ReadiesWaiting S o
readies_waiting ts g S readers o s r there kept q t =
    (held_waits ts g S readers o q (r, kept, ready_tells r.link s q t)).waits

-- link
pub links_waiting : (ts : List Task) (g : Arrivals) (S : State) → HasReaders ts g S → HasHolders ts g S → (o : OpName)
    → LinksWaiting S o
links_waiting ts g S readers holders o next there =
    let found = holders.records o next there in (
      found.0,
      found.1,
      λ q t.
          ap (phase_of S) (link_tells found.0.source next q t).0
          ∙ (linking_waits ts g S readers o next there).waits,
    )

-- ---- finish

-- each operand of a complete task is ready
pub ready_in : (rs : List OperandState) (k : ℕ) (r : OperandState) → list_all is_ready rs ≡ true
    → slice_get rs k ≡ Some r
    → is_ready r ≡ true
ready_in [] k r all e = absurd (none-some r e)
ready_in (x ∷ rs) zero r all e =
    ap is_ready (sym (same_Some x r e)) ∙ (and_parts (is_ready x) (list_all is_ready rs) all).0
ready_in (x ∷ rs) (suc k) r all e = ready_in rs k r (and_parts (is_ready x) (list_all is_ready rs) all).1 e

module _ (S : State) (n : ℕ) (x : Flying) (flying : get S.flight n ≡ Some x) (complete : is_complete x ≡ true)
    (runs : x.stage ≡ stage.Running) (orderly : AreOrderly S) (runners : HasRunners S) where
  module _ (q : OpName) (r : OperandState) (same : q.task ≡ n) (kept : operand_at S.flight q ≡ Some r) where
    was_told : is_ready r ≡ true
    was_told =
        ready_in x.operands q.place r complete
        (sym (operand_in S.flight q x (ap (get S.flight) same ∙ flying)) ∙ kept)

    not_told : HasRecord (look_ups S q) None → ⊥
    not_told h =
        let is = same_Some h.kept r (sym h.there ∙ kept) in
        true≢false (sym was_told ∙ ap is_ready (sym is) ∙ ap (λ (s : Option Source). is_there s) h.told)
      where
        is_there : Option Source → Bool
        is_there None = false
        is_there (Some s) = true

    not_late : is_late (phase_of S q) ≡ true → ⊥
    not_late e =
        running≢finished
        (one_stage S.flight n q.task stage.Running stage.Finished (x, flying, runs) (runners.late q r kept e)
        (sym same))

    by_phase : (p : Phase) → phase_of S q ≡ p → FitsPhase p (look_ups S q) → phase_of S q ≡ Ready
    by_phase Ahead e h = absurd (none-some r (sym h.0 ∙ kept))
    by_phase Decoding e h = absurd (not_told h.0)
    by_phase Sent e h = absurd (not_told h.0)
    by_phase Waiting e h = absurd (not_told h.0)
    by_phase Told e h = absurd (not_told h.0)
    by_phase Ready e h = e
    by_phase Releasing e h = absurd (not_late (ap is_late e))
    by_phase Leaving e h = absurd (not_late (ap is_late e))
    by_phase Promised e h = absurd (not_late (ap is_late e))
    by_phase Left e h = absurd (not_late (ap is_late e))

  -- a task that runs has all its operands ready
  running_ready : AreReady S n
  running_ready q r same kept = by_phase q r same kept (phase_of S q) refl (orderly q).fits

-- so has one that finishes
pub finishes_ready : (m : Machine) (all : List Task) (S : State) → HasStages m all S → AreOrderly S → HasRunners S
    → (w : ℕ) → FinishesReady S w
finishes_ready m all S stages orderly runners w b e =
    let found = runners.running w b e in
    let ready = (stages.workers w b e).ready.complete found.0 found.1 in
    ((found.0, found.1), running_ready S b.task.number found.0 found.1 ready found.2 orderly runners)
