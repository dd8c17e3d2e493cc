-- Every event keeps what is known of tasks that are queued, run, or have finished.
use Rattle.std.proofs.Common.{◌≡◌, ℕ, ◌≤◌, Bool, true, false, if◌then◌else◌, List, Option, Some, None, refl, sym, ap}
use Rattle.std.proofs.Common.{◌∙◌, subst, inl, inr, arith, true≢false}
use Rattle.std.specs.Prelude.{slice_get, option_map}
use Rattle.std.specs.FinMap.{get, insert, remove}
use Rattle.std.proofs.lemmas.Option.{none-some, same_Some}
use Rattle.tss_base.specs.declared.operand.OpName.{OpName}
use Rattle.tss_base.specs.declared.operand.Operand.{Operand}
use Rattle.tss_base.specs.declared.operand.Task.{Task}
use Rattle.tss_base.specs.declared.machine.Machine.{Machine}
use Rattle.tss_base.specs.declared.event.Event.{Event}
use Rattle.tss_base.specs.declared.event.Event.TheVariants as event
use Rattle.tss_base.specs.declared.marks.Stage.TheVariants as stage
use Rattle.tss_base.specs.Names.{Numbered}
use Rattle.tss_maps.proofs.Keys.{nat_order, decide_key}
use Rattle.tss_maps.proofs.Changes.{at_inserted, at_removed}
use Rattle.tss_model.specs.Access.{operands_of}
use Rattle.tss_protocol.specs.State.{State, OperandState, Flying, Busy}
use Rattle.tss_protocol.specs.Stations.{operand_at, is_gone, remaining_tasks, new_operand, entered, flight_after_take}
use Rattle.tss_protocol.specs.Workers.{can_finish}
use Rattle.tss_protocol.specs.UnitMachine.{is_enabled, IsEnabled, after_event}
use Rattle.tss_phases.specs.Phase.{phase_of}
use Rattle.tss_phases.specs.Orderly.{AreOrderly, FinishesReady, KeepsOrder}
use Rattle.tss_phases.proofs.Records.{task_of_record, record_beside_put}
use Rattle.tss_phases.proofs.MainEvent.{phase_of-main}
use Rattle.tss_phases.proofs.TakeEvent.{phase_of-take, phase_of-take-other}
use Rattle.tss_phases.proofs.QuietEvents.{phase_of-ack, phase_of-exec, phase_of-idle, phase_of-retire, phase_of-copy}
use Rattle.tss_phases.proofs.QuietEvents.{phase_of-gone}
use Rattle.tss_phases.proofs.StartEvent.{phase_of-start}
use Rattle.tss_phases.proofs.FinishEvent.{flight-finish, phase_of-finish-other}
use Rattle.tss_phases.proofs.OrderlyDecode.{new_record}
use Rattle.tss_phases.proofs.Tests.{something}
use Rattle.tss_locality.proofs.LeftFields.{Leaves-after_event}
use Rattle.tss_names.specs.Tasks.{HasTaskNumbers, spawned_after_event}
use Rattle.tss_names.specs.Stages.{HasStages}
use Rattle.tss_control.specs.Runners.{IsAtStage, is_late, HasRunners}
use Rattle.tss_protocol.proofs.FrontLemmas.{ComeFrom, all_come, KeepsFront, KeepsFront-after_event}
use Rattle.tss_names.proofs.TakeLemmas.{TakesTask, takes_take}
use Rattle.tss_control.proofs.holders.Stages.{RunsOn, runs_on}
use Rattle.tss_control.proofs.holders.Late.{NoLater, late_same, late_kept}
use Rattle.tss_control.proofs.holders.Later.{later-decode, later-open, later-use, later-ready, later-link}
use Rattle.tss_control.proofs.holders.Later.{later-release, later-bye, later-nack}

-- in a state each late operand is of a finished task
abbrev LateIsFinished : State → Type 0
LateIsFinished T =
    (o : OpName) (r : OperandState) → operand_at T.flight o ≡ Some r → is_late (phase_of T o) ≡ true
    → IsAtStage T.flight o.task stage.Finished

module _ (m : Machine) (all : List Task) (S : State) (numbers : HasTaskNumbers m all S) (stages : HasStages m all S)
    (orderly : AreOrderly S) (runners : HasRunners S) where
  after : (e : Event) → IsEnabled m S e → RunsOn S.flight m (spawned_after_event m S all e) (after_event m S e)
  after e on = runs_on S.flight m all S e (record {
    flight = refl;
    numbers = numbers;
    stages = stages;
    orderly = orderly;
    runs = record {
      queued = runners.queued;
      once = runners.once;
      running = runners.running;
      single = runners.single;
    };
  }) on

  -- where the tasks in flight come from those before, and no operand is late that wasn't
  by_phases : (e : Event) → IsEnabled m S e → ComeFrom S.flight (after_event m S e).flight
      → ((q : OpName) → NoLater S (after_event m S e) q) → HasRunners (after_event m S e)
  by_phases e on come later =
      let r = after e on in
      record {
        queued = r.runs.queued;
        once = r.runs.once;
        running = r.runs.running;
        single = r.runs.single;
        late = λ o k. late_kept S (after_event m S e) r.stay come runners.late o k (later o);
      }

  by_late : (e : Event) → IsEnabled m S e → LateIsFinished (after_event m S e) → HasRunners (after_event m S e)
  by_late e on late =
      let r = after e on in
      record {
        queued = r.runs.queued;
        once = r.runs.once;
        running = r.runs.running;
        single = r.runs.single;
        late = late;
      }

  same_flight : (T : State) → T.flight ≡ S.flight → ComeFrom S.flight T.flight
  same_flight T e = subst (ComeFrom S.flight) (sym e) (all_come S.flight)

  -- ---- take

  module _ (on : IsEnabled m S event.Take) where
    abbrev taken : State
    taken = after_event m S event.Take

    late_taken : TakesTask m S taken → LateIsFinished taken
    late_taken p o r kept late = elim (decide_key nat_order o.task p.task.number) [
      | inl same ↦ absurd (own same (slice_get (operands_of p.task) o.place) refl)
      | inr other ↦
          let before = sym (record_beside_put S.flight p.task.number (entered p.task) o other) ∙ now in
          let x = runners.late o r before (ap is_late (sym (phase_of-take-other m S p.task p.there o other)) ∙ late) in
          let y = task_of_record taken.flight o r kept in
          (y.0, y.1, (after event.Take on).stay o.task x.0 y.0 x.1 y.1 x.2)
    ]
      where
        flight : taken.flight ≡ flight_after_take S.flight p.task
        flight = λ i. (p.back i).flight

        now : operand_at (flight_after_take S.flight p.task) o ≡ Some r
        now = ap (λ f. operand_at f o) (sym flight) ∙ kept

        number : p.task.number ≤ S.main.spawned
        number = let a = (numbers.inbox p.task p.there).number in omega (arith, a)

        own : o.task ≡ p.task.number → (x : Option Operand) → slice_get (operands_of p.task) o.place ≡ x → ⊥
        own same None at =
            none-some r
            (sym (new_record m S orderly p.task p.there number o same ∙ ap (option_map new_operand) at) ∙ now)
        own same (Some q) at =
            true≢false (sym late ∙ ap is_late (phase_of-take m S p.task p.there o q same at))

  runners-take : IsEnabled m S event.Take → HasRunners (after_event m S event.Take)
  runners-take on = by_late event.Take on (late_taken on (takes_take m S on))

  -- ---- finish

  remaining_there : (f : Numbered Flying) (n : ℕ) (z y : Flying) → get (remaining_tasks f n z) n ≡ Some y → y ≡ z
  remaining_there f n z y = by (is_gone z)
    where
      by : (b : Bool) → get (if b then remove f n else insert f n z) n ≡ Some y → y ≡ z
      by true e = absurd (none-some y (sym (at_removed nat_order f n) ∙ e))
      by false e = same_Some y z (sym e ∙ at_inserted nat_order f n z)

  module _ (w : ℕ) (on : IsEnabled m S (event.Finish w)) (needs : FinishesReady S w) (b : Busy)
      (busy : get S.workers w ≡ Some b) where
    abbrev finished : State
    finished = after_event m S (event.Finish w)

    late_finished : LateIsFinished finished
    late_finished o r kept late =
        let x = (needs b busy).0.0 in
        let flying = (needs b busy).0.1 in
        let y = task_of_record finished.flight o r kept in
        elim (decide_key nat_order o.task b.task.number) [
          | inl same ↦
              let there = sym (ap (λ f. get f b.task.number) (flight-finish m S w b x busy flying))
              ∙ ap (get finished.flight) (sym same) ∙ y.1 in (
                y.0,
                y.1,
                ap (λ (x : Flying). x.stage)
                    (remaining_there S.flight b.task.number (record x { stage = stage.Finished }) y.0 there),
              )
          | inr other ↦
              late_kept S finished (after (event.Finish w) on).stay
              (KeepsFront-after_event m S (event.Finish w) refl).flight runners.late o r
              (late_same S finished o (phase_of-finish-other m S w b x busy flying o other)) kept late
        ]

  runners-finish : (w : ℕ) → IsEnabled m S (event.Finish w) → FinishesReady S w
      → HasRunners (after_event m S (event.Finish w))
  unfolding is_enabled
  runners-finish w on needs =
      let b = something can_finish (get S.workers w) refl on in
      by_late (event.Finish w) on (late_finished w on needs b.0 b.1)

  -- ---- all events

  by_front : (e : Event) → IsEnabled m S e → KeepsFront S (after_event m S e)
      → ((q : OpName) → NoLater S (after_event m S e) q) → HasRunners (after_event m S e)
  by_front e on k later = by_phases e on k.flight later

  -- each event keeps it
  pub HasRunners-after_event : (e : Event) → IsEnabled m S e → KeepsOrder S e → HasRunners (after_event m S e)
  HasRunners-after_event event.Main on needs =
      let e : Event = event.Main in
      by_phases e on (same_flight (after_event m S e) (λ i. (Leaves-after_event m S e i).flight))
      (λ q. late_same S (after_event m S e) q (phase_of-main m S q on))
  HasRunners-after_event event.Take on needs = runners-take on
  HasRunners-after_event (event.Decode o) on needs =
      let e = event.Decode o in
      by_phases e on (same_flight (after_event m S e) (λ i. (Leaves-after_event m S e i).flight))
      (later-decode m S orderly o on)
  HasRunners-after_event (event.Ack o) on needs =
      let e = event.Ack o in
      by_phases e on (same_flight (after_event m S e) (λ i. (Leaves-after_event m S e i).flight))
      (λ q. late_same S (after_event m S e) q (phase_of-ack m S o q))
  HasRunners-after_event (event.Open o) on needs =
      by_front (event.Open o) on (KeepsFront-after_event m S (event.Open o) refl) (later-open m S orderly o on needs)
  HasRunners-after_event (event.Use o) on needs =
      by_front (event.Use o) on (KeepsFront-after_event m S (event.Use o) refl) (later-use m S orderly o on)
  HasRunners-after_event (event.Ready o) on needs =
      by_front (event.Ready o) on (KeepsFront-after_event m S (event.Ready o) refl) (later-ready m S orderly o on needs)
  HasRunners-after_event (event.Link o) on needs =
      by_front (event.Link o) on (KeepsFront-after_event m S (event.Link o) refl) (later-link m S orderly o on needs)
  HasRunners-after_event (event.Start w) on needs =
      by_front (event.Start w) on (KeepsFront-after_event m S (event.Start w) refl)
      (λ q. late_same S (after_event m S (event.Start w)) q (phase_of-start m S w q))
  HasRunners-after_event (event.Exec w) on needs =
      by_front (event.Exec w) on (KeepsFront-after_event m S (event.Exec w) refl)
      (λ q. late_same S (after_event m S (event.Exec w)) q (phase_of-exec m S w q))
  HasRunners-after_event (event.Finish w) on needs = runners-finish w on needs
  HasRunners-after_event (event.Release o) on needs =
      by_front (event.Release o) on (KeepsFront-after_event m S (event.Release o) refl)
      (later-release m S orderly o on needs)
  HasRunners-after_event (event.Bye o) on needs =
      by_front (event.Bye o) on (KeepsFront-after_event m S (event.Bye o) refl) (later-bye m S orderly o on)
  HasRunners-after_event (event.Idle v) on needs =
      by_front (event.Idle v) on (KeepsFront-after_event m S (event.Idle v) refl)
      (λ q. late_same S (after_event m S (event.Idle v)) q (phase_of-idle m S v q))
  HasRunners-after_event (event.Nack v) on needs =
      by_front (event.Nack v) on (KeepsFront-after_event m S (event.Nack v) refl) (later-nack m S orderly v needs)
  HasRunners-after_event (event.Retire v) on needs =
      by_front (event.Retire v) on (KeepsFront-after_event m S (event.Retire v) refl)
      (λ q. late_same S (after_event m S (event.Retire v)) q (phase_of-retire m S v q))
  HasRunners-after_event (event.Copy b) on needs =
      by_front (event.Copy b) on (KeepsFront-after_event m S (event.Copy b) refl)
      (λ q. late_same S (after_event m S (event.Copy b)) q (phase_of-copy m S b q))
  HasRunners-after_event (event.Gone v) on needs =
      by_front (event.Gone v) on (KeepsFront-after_event m S (event.Gone v) refl)
      (λ q. late_same S (after_event m S (event.Gone v)) q (phase_of-gone m S v q))
