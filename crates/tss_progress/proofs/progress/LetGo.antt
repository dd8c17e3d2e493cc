-- The operands of a finished task have let go, whatever event happens.
use Rattle.std.proofs.Common.{◌≡◌, ◌≢◌, ℕ, Bool, true, false, List, [], ◌∷◌, Option, Some, None, refl, sym, ap, ◌∙◌}
use Rattle.std.proofs.Common.{subst, inl, inr, true≢false}
use Rattle.std.specs.Prelude.{slice_get, if◌then◌else◌}
use Rattle.std.specs.FinMap.{get, insert, remove}
use Rattle.tss_base.specs.declared.operand.OpName.{OpName}
use Rattle.tss_base.specs.declared.operand.Operand.{Operand}
use Rattle.tss_base.specs.declared.operand.Task.{Task}
use Rattle.tss_base.specs.declared.machine.Machine.{Machine}
use Rattle.tss_base.specs.declared.event.Event.{Event}
use Rattle.tss_base.specs.declared.event.Event.TheVariants as event
use Rattle.tss_base.specs.declared.marks.Stage.TheVariants as stage
use Rattle.tss_base.specs.Names.{Numbered}
use Rattle.tss_maps.proofs.Keys.{nat_order, decide_key}
use Rattle.tss_maps.proofs.Changes.{from_inserted, beside_inserted, beside_removed}
use Rattle.tss_model.specs.Access.{operands_of}
use Rattle.tss_protocol.specs.Mail.{Source}
use Rattle.tss_protocol.specs.State.{State, OperandState, Flying, Busy}
use Rattle.tss_protocol.specs.Stations.{operand_at, first_stage, entered, flight_after_take, is_complete, awaited}
use Rattle.tss_protocol.specs.Stations.{is_gone, remaining_tasks, task_after_ready, woken_by, woken_in}
use Rattle.tss_protocol.specs.UnitMachine.{without, can_take, is_enabled, IsEnabled, ready_message_taken, after_take}
use Rattle.tss_protocol.specs.UnitMachine.{start_task, after_start, after_event}
use Rattle.tss_protocol.specs.Workers.{can_finish}
use Rattle.tss_locality.proofs.KeptStages.{ChangesNoStage, StagesKept-after_event}
use Rattle.tss_locality.proofs.LeftFields.{Leaves-after_event}
use Rattle.tss_phases.specs.Phase.{Phase, Releasing, Leaving, Promised}
use Rattle.tss_phases.specs.Phase.{Left, phase_of}
use Rattle.tss_phases.specs.Forward.{may_follow}
use Rattle.tss_phases.specs.Orderly.{AreOrderly, KeepsOrder}
use Rattle.tss_phases.proofs.ForwardPhases.{GoesOnFrom}
use Rattle.tss_phases.proofs.ForwardEvents.{forward-after_event}
use Rattle.tss_phases.proofs.FinishEvent.{finished_task, flight-finish, phase_of-finish}
use Rattle.tss_phases.proofs.Records.{record_beside_put}
use Rattle.tss_phases.proofs.Tests.{something}
use Rattle.tss_control.specs.Runners.{is_late}
use Rattle.tss_protocol.proofs.FrontLemmas.{ComeFrom, all_come, KeepsFront, KeepsFront-after_event}
use Rattle.tss_names.proofs.StageLemmas.{waiting≢finished, queued≢finished, running≢finished}
use Rattle.tss_control.proofs.holders.Late.{record_came}
use Rattle.tss_progress.proofs.progress.Phases.{HasLetGo}

-- another task stays as it is
beside_remaining : (m : Numbered Flying) (n : ℕ) (y : Flying) (q : ℕ) → q ≢ n
    → get (remaining_tasks m n y) q ≡ get m q
beside_remaining m n y q other =
    elim (is_gone y) as (λ b. get (if b then remove m n else insert m n y) q ≡ get m q) [
      | true ↦ beside_removed nat_order m n q other
      | false ↦ beside_inserted nat_order m n y q other
    ]

-- ---- phases

-- what has let go doesn't come back
still_late : (p q : Phase) → is_late p ≡ true → may_follow p q ≡ true → is_late q ≡ true
still_late p Releasing late goes = refl
still_late p Leaving late goes = refl
still_late p Promised late goes = refl
still_late p Left late goes = refl
still_late Releasing q late goes = goes
still_late Leaving q late goes = goes
still_late Promised q late goes = goes
still_late Left q late goes = goes
still_late p q late goes = absurd (true≢false (sym late))

-- ---- stages

-- a task that has finished had finished before
abbrev FinishedBefore : Numbered Flying → Numbered Flying → Type 0
FinishedBefore f k =
    (n : ℕ) (y : Flying) → get k n ≡ Some y → y.stage ≡ stage.Finished
    → (x : Flying) × (get f n ≡ Some x) × (x.stage ≡ stage.Finished)

module _ (f : Numbered Flying) where
  before_same : FinishedBefore f f
  before_same n y there finished = (y, there, finished)

  -- a task is changed, which hasn't finished or had finished before
  before_inserted : (n : ℕ) (z : Flying)
      → (z.stage ≡ stage.Finished → (x : Flying) × (get f n ≡ Some x) × (x.stage ≡ stage.Finished))
      → FinishedBefore f (insert f n z)
  before_inserted n z own k y there finished = elim (from_inserted nat_order f n z k y there) [
    | inl new ↦
        let x = own (ap (λ (y : Flying). y.stage) (sym new.1) ∙ finished) in
        (x.0, ap (get f) new.0 ∙ x.1, x.2)
    | inr old ↦ (y, old.1, finished)
  ]

  awaited_finished : (x y : Flying) → y.stage ≡ x.stage → (b : Bool) → is_complete y ≡ b
      → (awaited y).stage ≡ stage.Finished → x.stage ≡ stage.Finished
  awaited_finished x y same true complete finished =
      absurd (queued≢finished
      (sym (ap (λ b. (if b then record y { stage = stage.Queued } else y).stage) complete) ∙ finished))
  awaited_finished x y same false complete finished =
      sym same ∙ sym (ap (λ b. (if b then record y { stage = stage.Queued } else y).stage) complete) ∙ finished

  before_woken_by : (o : OpName) (source : Source) (x : Flying) → get f o.task ≡ Some x → (r : Option OperandState)
      → FinishedBefore f (woken_by f o source x r).flight
  before_woken_by o source x there None = before_same
  before_woken_by o source x there (Some r) =
      let y = task_after_ready x o.place r source in
      before_inserted o.task (awaited y) (λ finished.
      (x, there, awaited_finished x y refl (is_complete y) refl finished))

  before_woken : (o : OpName) (source : Source) (x : Option Flying) → get f o.task ≡ x
      → FinishedBefore f (woken_in f o source x).flight
  before_woken o source None there = before_same
  before_woken o source (Some x) there = before_woken_by o source x there (slice_get x.operands o.place)

not_entered : (os : List Operand) → first_stage os ≡ stage.Finished → ⊥
not_entered [] e = queued≢finished e
not_entered (o ∷ os) e = waiting≢finished e

module _ (m : Machine) (S : State) where
  before_ready : (o : OpName) (s : Option Source)
      → FinishedBefore S.flight (ready_message_taken (without S (event.Ready o)) o s).flight
  before_ready o None = before_same S.flight
  before_ready o (Some s) = before_woken S.flight o s (get S.flight o.task) refl

  before_start_task : (w t : ℕ) (ts : List ℕ) (x : Option Flying)
      → FinishedBefore S.flight (start_task m S w t ts x).flight
  before_start_task w t ts None = before_same S.flight
  before_start_task w t ts (Some x) =
      before_inserted S.flight t (record x { stage = stage.Running }) (λ e. absurd (running≢finished e))

  before_start : (w : ℕ) (ts : List ℕ) → FinishedBefore S.flight (after_start m S w ts).flight
  before_start w [] = before_same S.flight
  before_start w (t ∷ ts) = before_start_task w t ts (get S.flight t)

  before_kept : (e : Event) → ChangesNoStage e → FinishedBefore S.flight (after_event m S e).flight
  before_kept e none n y there finished =
      let x = StagesKept-after_event m S e none n y there in
      (x.0, x.1, sym x.2 ∙ finished)

-- ---- events

-- what is known of a state after an event, so that finished tasks have let go
let_go_by : (S T : State) → HasLetGo S → FinishedBefore S.flight T.flight
    → ((o : OpName) (r : OperandState) → operand_at T.flight o ≡ Some r
    → (k : OperandState) × (operand_at S.flight o ≡ Some k))
    → ((q : OpName) → GoesOnFrom S T q) → HasLetGo T
let_go_by S T gone before came goes o r at finished =
    let x = before o.task finished.0 finished.1 finished.2 in
    let k = came o r at in
    still_late (phase_of S o) (phase_of T o) (gone o k.0 k.1 (x.0, x.1, x.2)) (goes o)

module _ (m : Machine) (S : State) (orderly : AreOrderly S) (gone : HasLetGo S) where
  by_come : (e : Event) → IsEnabled m S e → KeepsOrder S e → FinishedBefore S.flight (after_event m S e).flight
      → ComeFrom S.flight (after_event m S e).flight → HasLetGo (after_event m S e)
  by_come e on needs before come =
      let_go_by S (after_event m S e) gone before (record_came S (after_event m S e) come)
      (forward-after_event m S orderly e on needs)

  by_same : (e : Event) → IsEnabled m S e → KeepsOrder S e → ChangesNoStage e → (after_event m S e).flight ≡ S.flight
      → HasLetGo (after_event m S e)
  by_same e on needs none same =
      by_come e on needs (before_kept m S e none) (subst (ComeFrom S.flight) (sym same) (all_come S.flight))

  by_front : (e : Event) → IsEnabled m S e → KeepsOrder S e → ChangesNoStage e → KeepsFront S (after_event m S e)
      → HasLetGo (after_event m S e)
  by_front e on needs none front = by_come e on needs (before_kept m S e none) front.flight

  -- ---- take

  take_by : IsEnabled m S event.Take → KeepsOrder S event.Take → (t : Option Task) → S.inbox ≡ t
      → HasLetGo (after_event m S event.Take)
  unfolding after_event is_enabled
  take_by on needs None e o r at finished = absurd (true≢false (sym on ∙ ap (can_take m S) e))
  take_by on needs (Some t) e o r at finished =
      let flight : (after_take S S.inbox).flight ≡ flight_after_take S.flight t =
      ap (λ x. (after_take S x).flight) e in
      let y = ap (λ f. get f o.task) (sym flight) ∙ finished.1 in
      elim (from_inserted nat_order S.flight t.number (entered t) o.task finished.0 y) [
        | inl new ↦
            absurd (not_entered (operands_of t) (ap (λ (y : Flying). y.stage) (sym new.1) ∙ finished.2))
        | inr old ↦
            let k = sym (record_beside_put S.flight t.number (entered t) o old.0)
            ∙ ap (λ f. operand_at f o) (sym flight) ∙ at in
            still_late (phase_of S o) (phase_of (after_event m S event.Take) o)
            (gone o r k (finished.0, old.1, finished.2))
            (forward-after_event m S orderly event.Take on needs o)
      ]

  -- ---- finish

  finish_by : (w : ℕ) → IsEnabled m S (event.Finish w) → KeepsOrder S (event.Finish w) → (b : Busy)
      → get S.workers w ≡ Some b → HasLetGo (after_event m S (event.Finish w))
  finish_by w on needs b busy o r at finished =
      let x = (needs b busy).0.0 in
      let flying = (needs b busy).0.1 in
      let T = after_event m S (event.Finish w) in
      let come = (KeepsFront-after_event m S (event.Finish w) refl).flight in
      let k = record_came S T come o r at in
      elim (decide_key nat_order o.task b.task.number) [
        | inl same ↦
            ap is_late (phase_of-finish m S w b x busy flying o same ((needs b busy).1 o k.0 same k.1))
        | inr other ↦
            let beside = sym (ap (λ f. get f o.task) (flight-finish m S w b x busy flying)) ∙ finished.1 in
            still_late (phase_of S o) (phase_of T o)
            (gone o k.0 k.1 (
              finished.0,
              sym (beside_remaining S.flight b.task.number (finished_task m S w b x busy flying) o.task other) ∙ beside,
              finished.2,
            ))
            (forward-after_event m S orderly (event.Finish w) on needs o)
      ]

  take_kept : IsEnabled m S event.Take → KeepsOrder S event.Take → HasLetGo (after_event m S event.Take)
  take_kept on needs = take_by on needs S.inbox refl

  finish_kept : (w : ℕ) → IsEnabled m S (event.Finish w) → KeepsOrder S (event.Finish w)
      → HasLetGo (after_event m S (event.Finish w))
  unfolding is_enabled
  finish_kept w on needs =
      let b = something can_finish (get S.workers w) refl on in
      finish_by w on needs b.0 b.1

  ready_kept : (o : OpName) → IsEnabled m S (event.Ready o) → KeepsOrder S (event.Ready o)
      → HasLetGo (after_event m S (event.Ready o))
  unfolding after_event
  ready_kept o on needs =
      by_come (event.Ready o) on needs (before_ready m S o (get S.mail.readies o))
      (KeepsFront-after_event m S (event.Ready o) refl).flight

  start_kept : (w : ℕ) → IsEnabled m S (event.Start w) → KeepsOrder S (event.Start w)
      → HasLetGo (after_event m S (event.Start w))
  unfolding after_event
  start_kept w on needs =
      by_come (event.Start w) on needs (before_start m S w S.queue)
      (KeepsFront-after_event m S (event.Start w) refl).flight

  -- every event keeps it
  pub HasLetGo-after_event : (e : Event) → IsEnabled m S e → KeepsOrder S e → HasLetGo (after_event m S e)
  HasLetGo-after_event event.Take on needs = take_kept on needs
  HasLetGo-after_event (event.Ready o) on needs = ready_kept o on needs
  HasLetGo-after_event (event.Link o) on needs =
      by_front (event.Link o) on needs tt (KeepsFront-after_event m S (event.Link o) refl)
  HasLetGo-after_event (event.Start w) on needs = start_kept w on needs
  HasLetGo-after_event (event.Finish w) on needs = finish_kept w on needs
  HasLetGo-after_event (event.Bye o) on needs =
      by_front (event.Bye o) on needs tt (KeepsFront-after_event m S (event.Bye o) refl)
  HasLetGo-after_event e on needs = by_same e on needs tt (λ i. (Leaves-after_event m S e i).flight)
