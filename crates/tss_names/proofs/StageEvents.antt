-- Every event leaves each task in flight where its stage says.
use Rattle.std.proofs.Common.{◌≡◌, false, ℕ, ◌≤◌, inl, inr, true, List, [], ◌∷◌, map, length, Option, Some, None, refl}
use Rattle.std.proofs.Common.{sym, ap, ◌∙◌, subst, arith, true≢false, suc}
use Rattle.std.specs.FinMap.{get, get-empty}
use Rattle.std.proofs.lemmas.Option.{none-some}
use Rattle.tss_base.specs.declared.operand.Operand.{Operand}
use Rattle.tss_base.specs.declared.operand.Task.{Task}
use Rattle.tss_base.specs.declared.machine.Machine.{Machine}
use Rattle.tss_base.specs.declared.marks.Stage.{Stage}
use Rattle.tss_base.specs.declared.marks.Stage.TheVariants as stage
use Rattle.tss_maps.proofs.Keys.{nat_order}
use Rattle.tss_maps.proofs.Changes.{from_inserted}
use Rattle.tss_model.specs.Access.{operands_of}
use Rattle.tss_protocol.specs.State.{Flying, State, initial_state}
use Rattle.tss_protocol.specs.Stations.{is_gone, is_complete, new_operand, first_stage, entered, flight_after_take}
use Rattle.tss_protocol.specs.Stations.{storages_of, task_after_ready}
use Rattle.tss_protocol.specs.UnitMachine.{queue_with, is_queued}
use Rattle.tss_names.specs.Tasks.{task_at, taken_by, HasTaskNumbers, IsInFlight}
use Rattle.tss_names.proofs.BackLemmas.{Standing, standing_by, standing_of, still_ready-slice_set, ReadiesOperand}
use Rattle.tss_names.proofs.BackLemmas.{ChangesTask, StartsTask, ExecutesTask, FinishesTask, kept_by_standing}
use Rattle.std.specs.Ordering.{nat_cmp}
use Rattle.std.proofs.lemmas.List.{length-map}
use Rattle.tss_base.specs.declared.operand.OpName.{OpName}
use Rattle.tss_base.specs.Image.{ImageState}
use Rattle.tss_names.specs.Stages.{HasStages, StagesLaw}
use Rattle.tss_protocol.proofs.FrontLemmas.{KeepsFront}
use Rattle.tss_names.proofs.SpawnLemmas.{SpawnsOne}
use Rattle.tss_names.proofs.TakeLemmas.{TakesTask}
use Rattle.tss_names.proofs.RunLemmas.{IsKept, law_from}
use Rattle.tss_names.proofs.NumberLemmas.{still_at, taken_newest, last_taken_now, last_taken_before, taken_itself}
use Rattle.tss_names.proofs.NumberLemmas.{numbers_same, numbers_spawned, numbers_take, numbers_kept}
use Rattle.tss_names.proofs.NumberLemmas.{HasTaskNumbers-initial_state}
use Rattle.tss_names.proofs.QueueLemmas.{in_queue, still_queued, now_queued, from_queue}
use Rattle.tss_names.proofs.StageLemmas.{TakenBy, CompleteAt, WaitsForOperands, Stages, works_now, waiting≢queued}
use Rattle.tss_names.proofs.StageLemmas.{waiting≢running, queued≢running, past_waiting, stages_readied_by}
use Rattle.tss_names.proofs.StageLemmas.{stages_went_on, stages_started, stages_executed, stages_finished_in}

-- ---- a task that is taken

-- a new task of these operands
abbrev entered_with : Task → List Operand → Flying
entered_with t os = record { task = t; stage = first_stage os; operands = map new_operand os }

-- a new task waits, or is queued where it has no operands
entered_waits : (t : Task) (os : List Operand) → operands_of t ≡ os → WaitsForOperands (entered t)
entered_waits t [] e =
    let at = ap first_stage e in
    past_waiting (entered t) (ap (λ os. is_complete (record (entered t) { operands = map new_operand os })) e)
    (λ w. waiting≢queued (sym w ∙ at))
entered_waits t (o ∷ os) e = (
  λ w. ap (λ os. is_complete (record (entered t) { operands = map new_operand os })) e,
  λ c. ap first_stage e,
)

-- it is in flight
entered_stays : (t : Task) (os : List Operand) → operands_of t ≡ os → is_gone (entered t) ≡ false
entered_stays t [] e = ap (λ os. is_gone (entered_with t os)) e
entered_stays t (o ∷ os) e = ap (λ os. is_gone (entered_with t os)) e

entered_never_runs : (t : Task) (os : List Operand) → operands_of t ≡ os → (entered t).stage ≡ stage.Running → ⊥
entered_never_runs t [] e at = queued≢running (sym (ap first_stage e) ∙ at)
entered_never_runs t (o ∷ os) e at = waiting≢running (sym (ap first_stage e) ∙ at)

-- the test of a queued task
pub queued_from_test : (s : Stage) → is_queued s ≡ true → s ≡ stage.Queued
queued_from_test stage.Waiting e = absurd (true≢false (sym e))
queued_from_test stage.Queued e = refl
queued_from_test stage.Running e = absurd (true≢false (sym e))
queued_from_test stage.Finished e = absurd (true≢false (sym e))

complete_where_queued : (t : Task) → is_queued (entered t).stage ≡ true → is_complete (entered t) ≡ true
complete_where_queued t e = by (operands_of t) refl
  where
    by : (os : List Operand) → operands_of t ≡ os → is_complete (entered t) ≡ true
    by [] is = ap (λ os. is_complete (record (entered t) { operands = map new_operand os })) is
    by (o ∷ os) is =
        absurd (waiting≢queued (sym (ap first_stage is) ∙ queued_from_test (entered t).stage e))

-- ---- spawn, take

module _ (m : Machine) (ts : List Task) (p : Standing) (h : Stages m ts p) where
  -- the counter and the inbox change, and no task that was taken is no longer
  stages_moved : (us : List Task) (spawned : ℕ) (inbox : Option Task)
      → ((n : ℕ) → TakenBy p n → (1 ≤ n) × (n ≤ taken_by inbox spawned))
      → ((n : ℕ) (t : Task) → task_at ts n ≡ Some t → task_at us n ≡ Some t)
      → Stages m us (record p { spawned = spawned; inbox = inbox })
  stages_moved us spawned inbox taken at = record {
    waiting = h.waiting;
    queued = h.queued;
    running = h.running;
    staying = h.staying;
    queue = λ n e. let r = h.queue n e in (taken n r.0, r.1);
    workers = λ w b e.
        works_now m ts us p (record p { spawned = spawned; inbox = inbox }) w b (h.workers w b e)
        (at b.task.number b.task) (taken b.task.number) (λ taken complete. complete);
  }

  -- take: a task comes into flight that wasn't taken before
  module _ (t : Task) (new : TakenBy p t.number → ⊥) (now : (1 ≤ t.number) × (t.number ≤ p.spawned))
      (taken : (n : ℕ) → TakenBy p n → (1 ≤ n) × (n ≤ p.spawned)) where
    abbrev after : Standing
    after = record p {
      inbox = None;
      flight = flight_after_take p.flight t;
      queue = queue_with p.queue t.number (is_queued (entered t).stage);
    }

    still_complete : (n : ℕ) → TakenBy p n → CompleteAt p.flight n → CompleteAt after.flight n
    still_complete n before complete x e =
        elim (from_inserted nat_order p.flight t.number (entered t) n x e) [
          | inl here ↦ absurd (new (subst (TakenBy p) here.0 before))
          | inr old ↦ complete x old.1
        ]

    entered_complete : is_queued (entered t).stage ≡ true → CompleteAt after.flight t.number
    entered_complete queued x e =
        elim (from_inserted nat_order p.flight t.number (entered t) t.number x e) [
          | inl here ↦ ap is_complete here.1 ∙ complete_where_queued t queued
          | inr old ↦ absurd (old.0 refl)
        ]

    -- it waits, or is queued
    stages_taken : Stages m ts after
    stages_taken = record {
      waiting = λ n x e. elim (from_inserted nat_order p.flight t.number (entered t) n x e) [
        | inl here ↦ subst WaitsForOperands (sym here.1) (entered_waits t (operands_of t) refl)
        | inr old ↦ h.waiting n x old.1
      ];
      queued = λ n x e at. elim (from_inserted nat_order p.flight t.number (entered t) n x e) [
        | inl here ↦
            let is = ap (λ (y : Flying). is_queued y.stage) (sym here.1) ∙ ap is_queued at in
            ap (λ n. in_queue n after.queue) here.0
            ∙ ap (λ c. in_queue t.number (queue_with p.queue t.number c)) is
            ∙ now_queued p.queue t.number
        | inr old ↦ still_queued p.queue t.number (is_queued (entered t).stage) n (h.queued n x old.1 at)
      ];
      running = λ n x e at. elim (from_inserted nat_order p.flight t.number (entered t) n x e) [
        | inl here ↦
            absurd (entered_never_runs t (operands_of t) refl (ap (λ (y : Flying). y.stage) (sym here.1) ∙ at))
        | inr old ↦ h.running n x old.1 at
      ];
      staying = λ n x e. elim (from_inserted nat_order p.flight t.number (entered t) n x e) [
        | inl here ↦ ap is_gone here.1 ∙ entered_stays t (operands_of t) refl
        | inr old ↦ h.staying n x old.1
      ];
      queue = λ n e. elim (from_queue p.queue t.number (is_queued (entered t).stage) n e) [
        | inl before ↦ let r = h.queue n before in (taken n r.0, still_complete n r.0 r.1)
        | inr last ↦ (
          subst (λ n. (1 ≤ n) × (n ≤ p.spawned)) (sym last.0) now,
          subst (CompleteAt after.flight) (sym last.0) (entered_complete last.1),
        )
      ];
      workers = λ w b e.
          works_now m ts ts p after w b (h.workers w b e) (λ at. at) (taken b.task.number)
          (still_complete b.task.number);
    }

-- ---- all events

-- with the tasks' numbers
abbrev pub IsStaged : Machine → List Task → State → Type 0
IsStaged m ts S = HasTaskNumbers m ts S × Stages m ts (standing_of S)

staged_spawned : (m : Machine) (ts us : List Task) (S T : State) → IsStaged m ts S → (p : SpawnsOne m ts us S T)
    → IsStaged m (p.task ∷ ts) T
staged_spawned m ts us S T h p = (
  numbers_spawned m ts us S T h.0 p,
  subst (Stages m (p.task ∷ ts)) (λ i. standing_by (sym p.front i) (sym p.back i))
      (stages_moved m ts (standing_of S) h.1 (p.task ∷ ts) (suc S.main.spawned) (Some p.task)
      (λ n taken. (
        taken.0,
        let a = ap (λ o. taken_by o S.main.spawned) p.empty in let b = taken.1 in omega (arith, a, b),
      ))
      (still_at p.task ts)),
)

staged_taken : (m : Machine) (ts : List Task) (S T : State) → IsStaged m ts S → TakesTask m S T → IsStaged m ts T
staged_taken m ts S T h p = (
  numbers_take m ts S T h.0 p,
  subst (Stages m ts) (λ i. standing_by (sym p.front i) (sym p.back i))
      (stages_taken m ts (standing_of S) h.1 p.task
      (λ taken.
      let a = last_taken_before m ts S T h.0 p in
      let b = (taken_newest m ts S T h.0 p).number in
      let c = taken.1 in
      omega (arith, a, b, c))
      (let r = taken_itself m ts S T h.0 p in
      let a = last_taken_now m ts S T h.0 p in let b = r.1 in (r.0, omega (arith, a, b)))
      (λ n taken.
      let a = last_taken_before m ts S T h.0 p in let b = taken.1 in (taken.0, omega (arith, a, b)))),
)

staged_readied : (m : Machine) (ts : List Task) (S T : State) (o : OpName) → IsStaged m ts S → KeepsFront S T
    → ReadiesOperand S T o → IsStaged m ts T
staged_readied m ts S T o h k c =
    let y = task_after_ready c.task o.place c.operand c.source in (
      numbers_kept m ts S T h.0 k,
      subst (Stages m ts) (λ i. standing_by (sym k.front i) (sym c.back i))
          (stages_readied_by m ts (standing_of S) h.1 o.task c.task y c.there (h.0.flight o.task c.task c.there).taken
          refl (λ all. still_ready-slice_set c.task.operands o.place _ all refl) (is_complete y) refl),
    )

staged_changed : (m : Machine) (ts : List Task) (S T : State) (n : ℕ) → IsStaged m ts S → KeepsFront S T
    → ChangesTask S T n → IsStaged m ts T
staged_changed m ts S T n h k c = (
  numbers_kept m ts S T h.0 k,
  subst (Stages m ts) (λ i. standing_by (sym k.front i) (sym c.back i))
      (stages_went_on m ts (standing_of S) h.1 n c.task c.changed c.there c.stage c.complete),
)

-- a task in flight has as many storages as operands
pub length-storages : (ts : List Task) (S : State) (n : ℕ) (x : Flying) → IsInFlight ts S n x
    → length (storages_of x) ≡ length (operands_of x.task)
length-storages ts S n x f =
    length-map x.operands _ ∙ sym (length-map x.operands (λ r. r.operand)) ∙ ap length f.operands

staged_started : (m : Machine) (ts : List Task) (S T : State) (w : ℕ) → IsStaged m ts S → KeepsFront S T
    → StartsTask m S T w → IsStaged m ts T
staged_started m ts S T w h k c =
    let f = h.0.flight c.number c.task c.there in (
      numbers_kept m ts S T h.0 k,
      subst (Stages m ts) (λ i. standing_by (sym k.front i) (sym c.back i))
          (stages_started m ts (standing_of S) h.1 w c.number c.rest c.task c.queue c.idle c.worker c.there
          (ap (task_at ts) f.number ∙ f.task) f.number (length-storages ts S c.number c.task f)),
    )

staged_executed : (m : Machine) (ts : List Task) (S T : State) (w : ℕ) → IsStaged m ts S → KeepsFront S T
    → ExecutesTask m S T w → IsStaged m ts T
staged_executed m ts S T w h k c = (
  numbers_kept m ts S T h.0 k,
  subst (Stages m ts) (λ i. standing_by (sym k.front i) (sym c.back i))
      (stages_executed m ts (standing_of S) h.1 w c.busy c.after c.there c.task c.storages c.within),
)

staged_finished : (m : Machine) (ts : List Task) (S T : State) (w : ℕ) → IsStaged m ts S → KeepsFront S T
    → FinishesTask S T w → IsStaged m ts T
staged_finished m ts S T w h k c = (
  numbers_kept m ts S T h.0 k,
  subst (Stages m ts) (λ i. standing_by (sym k.front i) (sym c.back i))
      (stages_finished_in m ts (standing_of S) h.1 w c.busy (get S.flight c.busy.task.number) c.there refl),
)

staged_still : (m : Machine) (ts : List Task) (S T : State) → IsStaged m ts S → standing_of T ≡ standing_of S
    → IsStaged m ts T
staged_still m ts S T h same = (
  numbers_same m ts S T h.0 (ap (λ p. p.spawned) same) (ap (λ p. p.inbox) same) (ap (λ p. p.flight) same),
  subst (Stages m ts) (sym same) h.1,
)

-- every event keeps it
pub IsStaged-after_event : IsKept IsStaged
IsStaged-after_event =
    kept_by_standing IsStaged IsStaged staged_spawned staged_taken staged_readied staged_changed staged_started
    staged_executed
    staged_finished staged_still

-- the first state has it
pub IsStaged-initial_state : (m : Machine) (i : ImageState) → IsStaged m [] (initial_state i)
IsStaged-initial_state m i = (
  HasTaskNumbers-initial_state m i,
  record {
    waiting = λ n x e. absurd (none-some x (sym (get-empty nat_cmp n) ∙ e));
    queued = λ n x e at. absurd (none-some x (sym (get-empty nat_cmp n) ∙ e));
    running = λ n x e at. absurd (none-some x (sym (get-empty nat_cmp n) ∙ e));
    staying = λ n x e. absurd (none-some x (sym (get-empty nat_cmp n) ∙ e));
    queue = λ n e. absurd (true≢false (sym e));
    workers = λ w b e. absurd (none-some b (sym (get-empty nat_cmp w) ∙ e));
  },
)

-- as the law says it
pub has_stages : (m : Machine) (ts : List Task) (S : State) → IsStaged m ts S → HasStages m ts S
has_stages m ts S h = record {
  waiting = h.1.waiting;
  queued = h.1.queued;
  running = h.1.running;
  staying = h.1.staying;
  queue = λ n e. let r = h.1.queue n e in record { taken = r.0; complete = r.1 };
  workers = λ w b e.
      let r = h.1.workers w b e in
      record {
        number = r.number;
        task = r.task;
        ready = record { taken = r.taken; complete = r.complete };
        storages = r.storages;
        budget = r.budget;
      };
}

-- the law
pub stages_of_runs : StagesLaw
stages_of_runs = law_from IsStaged HasStages IsStaged-initial_state IsStaged-after_event has_stages
