-- Each task in flight stands where its stage says, and what is queued or runs has its operands.
use Rattle.std.proofs.Common.{◌≡◌, ◌≢◌, ◌↔◌, ℕ, ◌<◌, ◌≤◌, ◌⊎◌, inl, inr, Bool, true, false, if◌then◌else◌, List, []}
use Rattle.std.proofs.Common.{◌∷◌, ◌++◌, length, Option, Some, None, refl, sym, ap, ◌∙◌, subst, arith, true≢false}
use Rattle.std.specs.List.{list_all}
use Rattle.std.specs.Prelude.{◌&&◌, ◌==◌}
use Rattle.std.specs.FinMap.{get, insert, remove}
use Rattle.std.proofs.lemmas.Bool.{or_right}
use Rattle.std.proofs.lemmas.Option.{none-some, same_Some}
use Rattle.tss_base.specs.declared.operand.Task.{Task}
use Rattle.tss_base.specs.declared.machine.Machine.{Machine}
use Rattle.tss_base.specs.declared.marks.Stage.TheVariants as stage
use Rattle.tss_base.specs.Names.{Numbered}
use Rattle.tss_maps.proofs.Keys.{nat_order, decide_key}
use Rattle.tss_maps.proofs.Changes.{at_inserted, beside_inserted, from_inserted, beside_removed, from_removed}
use Rattle.tss_model.specs.Access.{operands_of}
use Rattle.tss_protocol.specs.State.{Flying, Busy}
use Rattle.tss_protocol.specs.Stations.{is_complete, has_finished, has_left, is_gone, remaining_tasks}
use Rattle.tss_protocol.specs.Stations.{flight_after_start, finished_in, storages_of}
use Rattle.tss_protocol.specs.Workers.{busy_at_start}
use Rattle.tss_protocol.specs.UnitMachine.{queue_with}
use Rattle.tss_names.specs.Tasks.{task_at, taken_by}
use Rattle.tss_names.proofs.BackLemmas.{Standing}
use Rattle.tss_names.proofs.QueueLemmas.{in_queue, still_queued, now_queued, from_queue, from_rest, at_front}

-- ---- the invariant, over where tasks stand

-- the task of this number was taken
abbrev pub TakenBy : Standing → ℕ → Type 0
TakenBy p n = (1 ≤ n) × (n ≤ taken_by p.inbox p.spawned)

-- a worker has it
abbrev OnWorker : Numbered Busy → ℕ → Type 0
OnWorker workers n = (w : ℕ) × (b : Busy) × (get workers w ≡ Some b) × (b.task.number ≡ n)

-- as long as it is in flight its operands are ready
abbrev pub CompleteAt : Numbered Flying → ℕ → Type 0
CompleteAt flight n = (x : Flying) → get flight n ≡ Some x → is_complete x ≡ true

-- a task waits exactly where it isn't complete
abbrev pub WaitsForOperands : Flying → Type 0
WaitsForOperands x = (x.stage ≡ stage.Waiting) ↔ (is_complete x ≡ false)

-- a busy worker
pub record Works (m : Machine) (ts : List Task) (p : Standing) (w : ℕ) (b : Busy) : Type 0 where
  pub number : w < m.sizes.workers
  pub task : task_at ts b.task.number ≡ Some b.task
  pub taken : TakenBy p b.task.number
  pub complete : CompleteAt p.flight b.task.number
  pub storages : length b.storages ≡ length (operands_of b.task)
  pub budget : b.registers.done ≤ m.limits.task_budget

-- it does so in what came of where tasks stood
pub works_now : (m : Machine) (ts us : List Task) (p q : Standing) (w : ℕ) (b : Busy) → Works m ts p w b
    → (task_at ts b.task.number ≡ Some b.task → task_at us b.task.number ≡ Some b.task)
    → (TakenBy p b.task.number → TakenBy q b.task.number)
    → (TakenBy p b.task.number → CompleteAt p.flight b.task.number → CompleteAt q.flight b.task.number)
    → Works m us q w b
works_now m ts us p q w b r at taken complete = record {
  number = r.number;
  task = at r.task;
  taken = taken r.taken;
  complete = complete r.taken r.complete;
  storages = r.storages;
  budget = r.budget;
}

-- each task stands where its stage says
pub record Stages (m : Machine) (ts : List Task) (p : Standing) : Type 0 where
  pub waiting : (n : ℕ) (x : Flying) → get p.flight n ≡ Some x → WaitsForOperands x
  pub queued : (n : ℕ) (x : Flying) → get p.flight n ≡ Some x → x.stage ≡ stage.Queued → in_queue n p.queue ≡ true
  pub running : (n : ℕ) (x : Flying) → get p.flight n ≡ Some x → x.stage ≡ stage.Running → OnWorker p.workers n
  pub staying : (n : ℕ) (x : Flying) → get p.flight n ≡ Some x → is_gone x ≡ false
  pub queue : (n : ℕ) → in_queue n p.queue ≡ true → TakenBy p n × CompleteAt p.flight n
  pub workers : (w : ℕ) (b : Busy) → get p.workers w ≡ Some b → Works m ts p w b

-- ---- stages

-- a waiting task isn't queued
pub waiting≢queued : stage.Waiting ≡ stage.Queued → ⊥
waiting≢queued e = cc

-- a waiting task doesn't run
pub waiting≢running : stage.Waiting ≡ stage.Running → ⊥
waiting≢running e = cc

-- a queued task doesn't run
pub queued≢running : stage.Queued ≡ stage.Running → ⊥
queued≢running e = cc

-- a waiting task hasn't finished
pub waiting≢finished : stage.Waiting ≡ stage.Finished → ⊥
waiting≢finished e = cc

-- a queued task hasn't finished
pub queued≢finished : stage.Queued ≡ stage.Finished → ⊥
queued≢finished e = cc

-- a running task hasn't finished
pub running≢finished : stage.Running ≡ stage.Finished → ⊥
running≢finished e = cc

-- a complete task at another stage doesn't wait
pub past_waiting : (x : Flying) → is_complete x ≡ true → (x.stage ≡ stage.Waiting → ⊥) → WaitsForOperands x
past_waiting x complete past = (λ e. absurd (past e), λ e. absurd (true≢false (sym complete ∙ e)))

-- ---- a change of one task in flight

-- at n stands y, if anything, which stays in flight, and all others are as they were
abbrev ChangesAt : Numbered Flying → Numbered Flying → ℕ → Flying → Type 0
ChangesAt m k n y =
    (q : ℕ) (z : Flying)
    → get k q ≡ Some z
    → ((q ≡ n) × (z ≡ y) × (is_gone y ≡ false)) ⊎ ((q ≢ n) × (get m q ≡ Some z))

changes_inserted : (m : Numbered Flying) (n : ℕ) (y : Flying) → is_gone y ≡ false → ChangesAt m (insert m n y) n y
changes_inserted m n y stays q z e =
    elim (from_inserted nat_order m n y q z e) [
      | inl here ↦ inl (here.0, here.1, stays)
      | inr before ↦ inr before
    ]

changes_remaining : (m : Numbered Flying) (n : ℕ) (y : Flying) → ChangesAt m (remaining_tasks m n y) n y
changes_remaining m n y = by (is_gone y) refl
  where
    by : (b : Bool) → is_gone y ≡ b → ChangesAt m (if b then remove m n else insert m n y) n y
    by true gone q z e = inr (from_removed nat_order m n q z e)
    by false stays q z e = changes_inserted m n y stays q z e

-- where the change leaves it complete, a task that is complete stays so
complete_changed : (m k : Numbered Flying) (n : ℕ) (x y : Flying) → get m n ≡ Some x → ChangesAt m k n y
    → (is_complete x ≡ true → is_complete y ≡ true) → (q : ℕ) → CompleteAt m q → CompleteAt k q
complete_changed m k n x y there changes still q h z e =
    elim (changes q z e) [
      | inl here ↦ ap is_complete here.1 ∙ still (h x (ap (get m) here.0 ∙ there))
      | inr before ↦ h z before.1
    ]

-- ---- events

module _ (m : Machine) (ts : List Task) (p : Standing) (h : Stages m ts p) where
  -- a change of a task in flight, of the queue and of the workers
  module _ (n : ℕ) (x y : Flying) (there : get p.flight n ≡ Some x)
      (flight : Numbered Flying) (queue : List ℕ) (workers : Numbered Busy) (changes : ChangesAt p.flight flight n y)
      (waits : WaitsForOperands y) (still : is_complete x ≡ true → is_complete y ≡ true)
      (queued : y.stage ≡ stage.Queued → in_queue n queue ≡ true)
      (running : y.stage ≡ stage.Running → OnWorker workers n)
      (others_queued : (q : ℕ) → q ≢ n → in_queue q p.queue ≡ true → in_queue q queue ≡ true)
      (others_running : (q : ℕ) → q ≢ n → OnWorker p.workers q → OnWorker workers q)
      (from : (q : ℕ) → in_queue q queue ≡ true
      → (in_queue q p.queue ≡ true) ⊎ ((q ≡ n) × (is_complete y ≡ true) × TakenBy p n))
      (works : (w : ℕ) (b : Busy) → get workers w ≡ Some b → Works m ts p w b) where
    now_complete : is_complete y ≡ true → CompleteAt flight n
    now_complete complete z e =
        elim (changes n z e) [
          | inl here ↦ ap is_complete here.1 ∙ complete
          | inr other ↦ absurd (other.0 refl)
        ]

    stages_changed : Stages m ts (record p { flight = flight; queue = queue; workers = workers })
    stages_changed = record {
      waiting = λ q z e. elim (changes q z e) [
        | inl here ↦ subst WaitsForOperands (sym here.1) waits
        | inr before ↦ h.waiting q z before.1
      ];
      queued = λ q z e at. elim (changes q z e) [
        | inl here ↦
            ap (λ k. in_queue k queue) here.0 ∙ queued (ap (λ (w : Flying). w.stage) (sym here.1) ∙ at)
        | inr before ↦ others_queued q before.0 (h.queued q z before.1 at)
      ];
      running = λ q z e at. elim (changes q z e) [
        | inl here ↦
            subst (OnWorker workers) (sym here.0) (running (ap (λ (w : Flying). w.stage) (sym here.1) ∙ at))
        | inr before ↦ others_running q before.0 (h.running q z before.1 at)
      ];
      staying = λ q z e. elim (changes q z e) [
        | inl here ↦ ap is_gone here.1 ∙ here.2
        | inr before ↦ h.staying q z before.1
      ];
      queue = λ q e. elim (from q e) [
        | inl before ↦
            let r = h.queue q before in
            (r.0, complete_changed p.flight flight n x y there changes still q r.1)
        | inr new ↦ (
          subst (TakenBy p) (sym new.0) new.2,
          subst (CompleteAt flight) (sym new.0) (now_complete new.1),
        )
      ];
      workers = λ w b e.
          works_now m ts ts p (record p { flight = flight; queue = queue; workers = workers }) w b (works w b e)
          (λ at. at) (λ taken. taken)
          (λ taken. complete_changed p.flight flight n x y there changes still b.task.number);
    }

  -- ready: the task that is complete now is queued
  module _ (n : ℕ) (x y : Flying) (there : get p.flight n ≡ Some x) (taken : TakenBy p n)
      (same : y.stage ≡ x.stage) (still : is_complete x ≡ true → is_complete y ≡ true) where
    abbrev queued_if : Bool → Flying
    queued_if c = if c then record y { stage = stage.Queued } else y

    -- one that isn't complete wasn't before, so it waits
    not_before : is_complete y ≡ false → y.stage ≡ stage.Waiting
    not_before e = by (is_complete x) refl
      where
        by : (b : Bool) → is_complete x ≡ b → y.stage ≡ stage.Waiting
        by true before = absurd (true≢false (sym (still before) ∙ e))
        by false before = same ∙ (h.waiting n x there).1 before

    -- by whether it is complete
    pub stages_readied_by : (c : Bool) → is_complete y ≡ c
        → Stages m ts (record p {
          flight = insert p.flight n (queued_if c);
          queue = queue_with p.queue n c;
        })
    stages_readied_by true e =
        stages_changed n x (queued_if true) there
        (insert p.flight n (queued_if true)) (p.queue ++ n ∷ []) p.workers
        (changes_inserted p.flight n (queued_if true) refl)
        (past_waiting (queued_if true) e (λ w. waiting≢queued (sym w)))
        still (λ at. now_queued p.queue n) (λ at. absurd (queued≢running at))
        (λ q other. still_queued p.queue n true q) (λ q other on. on)
        (λ q i. elim (from_queue p.queue n true q i) [
          | inl before ↦ inl before
          | inr new ↦ inr (new.0, e, taken)
        ])
        h.workers
    stages_readied_by false e =
        stages_changed n x y there (insert p.flight n y) p.queue p.workers
        (changes_inserted p.flight n y
        (ap (λ s. has_finished s && list_all (λ r. has_left r.farewell) y.operands) (not_before e)))
        (λ at. e, not_before)
        still (λ at. absurd (waiting≢queued (sym (not_before e) ∙ at)))
        (λ at. absurd (waiting≢running (sym (not_before e) ∙ at)))
        (λ q other i. i) (λ q other on. on) (λ q i. inl i) h.workers

  -- link, bye: the task goes on at its stage
  pub stages_went_on : (n : ℕ) (x y : Flying) → get p.flight n ≡ Some x → y.stage ≡ x.stage
      → is_complete y ≡ is_complete x
      → Stages m ts (record p { flight = remaining_tasks p.flight n y })
  stages_went_on n x y there same complete =
      let before = h.waiting n x there in
      stages_changed n x y there (remaining_tasks p.flight n y) p.queue p.workers (changes_remaining p.flight n y)
      (λ at. complete ∙ before.0 (sym same ∙ at), λ e. same ∙ before.1 (sym complete ∙ e))
      (λ e. complete ∙ e) (λ at. h.queued n x there (sym same ∙ at)) (λ at. h.running n x there (sym same ∙ at))
      (λ q other i. i) (λ q other on. on) (λ q i. inl i) h.workers

  -- start: the front task is on a worker that was idle
  pub stages_started : (w t : ℕ) (rest : List ℕ) (x : Flying) → p.queue ≡ t ∷ rest → get p.workers w ≡ None
      → w < m.sizes.workers → get p.flight t ≡ Some x → task_at ts x.task.number ≡ Some x.task → x.task.number ≡ t
      → length (storages_of x) ≡ length (operands_of x.task)
      → Stages m ts (record p {
        flight = flight_after_start p.flight t x;
        queue = rest;
        workers = insert p.workers w (busy_at_start x);
      })
  stages_started w t rest x queue idle worker there spawned number storages =
      let at_t = ap (in_queue t) queue ∙ at_front t rest in
      let ready = h.queue t at_t in
      let y : Flying = record x { stage = stage.Running } in
      stages_changed t x y there (insert p.flight t y) rest (insert p.workers w (busy_at_start x))
      (changes_inserted p.flight t y refl)
      (past_waiting y (ready.1 x there) (λ e. waiting≢running (sym e)))
      (λ e. e) (λ e. absurd (queued≢running (sym e)))
      (λ e. (w, busy_at_start x, at_inserted nat_order p.workers w (busy_at_start x), number))
      (λ q other i. from_rest t rest q (ap (in_queue q) (sym queue) ∙ i) other)
      (λ q other on. (
        on.0,
        on.1,
        beside_inserted nat_order p.workers w (busy_at_start x) on.0
            (λ same. none-some on.1 (sym idle ∙ ap (get p.workers) (sym same) ∙ on.2))
            ∙ on.2,
        on.3,
      ))
      (λ q i. inl (ap (in_queue q) queue ∙ or_right (t == q) (in_queue q rest) i))
      (λ v b e. elim (from_inserted nat_order p.workers w (busy_at_start x) v b e) [
        | inl here ↦ subst (Works m ts p v) (sym here.1) (record {
          number = subst (λ v. v < m.sizes.workers) (sym here.0) worker;
          task = spawned;
          taken = subst (TakenBy p) (sym number) ready.0;
          complete = subst (CompleteAt p.flight) (sym number) ready.1;
          storages = storages;
          budget = omega arith;
        })
        | inr before ↦ h.workers v b before.1
      ])

  -- exec: a worker goes on with its task
  pub stages_executed : (w : ℕ) (b c : Busy) → get p.workers w ≡ Some b → c.task ≡ b.task → c.storages ≡ b.storages
      → (b.registers.done ≤ m.limits.task_budget → c.registers.done ≤ m.limits.task_budget)
      → Stages m ts (record p { workers = insert p.workers w c })
  stages_executed w b c there task storages within = record {
    waiting = h.waiting;
    queued = h.queued;
    staying = h.staying;
    running = λ n x e at.
        let on = h.running n x e at in
        elim (decide_key nat_order on.0 w) [
          | inl same ↦
              let is = same_Some b on.1 (sym there ∙ ap (get p.workers) (sym same) ∙ on.2) in (
                w,
                c,
                at_inserted nat_order p.workers w c,
                ap (λ (t : Task). t.number) task ∙ ap (λ (d : Busy). d.task.number) is ∙ on.3,
              )
          | inr other ↦ (on.0, on.1, beside_inserted nat_order p.workers w c on.0 other ∙ on.2, on.3)
        ];
    queue = h.queue;
    workers = λ v d e. elim (from_inserted nat_order p.workers w c v d e) [
      | inl here ↦
          let r = h.workers w b there in
          let number = ap (λ (t : Task). t.number) (sym task) in
          subst (Works m ts (record p { workers = insert p.workers w c }) v) (sym here.1) (record {
            number = subst (λ v. v < m.sizes.workers) (sym here.0) r.number;
            task = subst (λ (t : Task). task_at ts t.number ≡ Some t) (sym task) r.task;
            taken = subst (TakenBy p) number r.taken;
            complete = subst (CompleteAt p.flight) number r.complete;
            storages = ap length storages ∙ r.storages ∙ ap (λ t. length (operands_of t)) (sym task);
            budget = within r.budget;
          })
      | inr before ↦
          works_now m ts ts p (record p { workers = insert p.workers w c }) v d (h.workers v d before.1)
          (λ at. at) (λ taken. taken) (λ taken complete. complete)
    ];
  }

  -- finish: its worker is idle
  others_stay : (w n : ℕ) (b : Busy) → get p.workers w ≡ Some b → b.task.number ≡ n → (q : ℕ) → q ≢ n
      → OnWorker p.workers q → OnWorker (remove p.workers w) q
  others_stay w n b there number q other on =
      let apart : on.0 ≢ w = λ same.
      other (sym on.3
      ∙ ap (λ (c : Busy). c.task.number) (same_Some on.1 b (sym on.2 ∙ ap (get p.workers) same ∙ there))
      ∙ number) in
      (on.0, on.1, beside_removed nat_order p.workers w on.0 apart ∙ on.2, on.3)

  -- by the task in flight, if it is
  pub stages_finished_in : (w : ℕ) (b : Busy) (x : Option Flying) → get p.workers w ≡ Some b
      → get p.flight b.task.number ≡ x
      → Stages m ts (record p {
        flight = (finished_in p.flight b.task.number x).part;
        workers = remove p.workers w;
      })
  stages_finished_in w b None there e = record {
    waiting = h.waiting;
    queued = h.queued;
    running = λ n x f at.
        others_stay w b.task.number b there refl n
        (λ same. none-some x (sym e ∙ ap (get p.flight) (sym same) ∙ f)) (h.running n x f at);
    staying = h.staying;
    queue = h.queue;
    workers = λ v c f.
        works_now m ts ts p (record p { workers = remove p.workers w }) v c
        (h.workers v c (from_removed nat_order p.workers w v c f).1)
        (λ at. at) (λ taken. taken) (λ taken complete. complete);
  }
  stages_finished_in w b (Some x) there e =
      let y : Flying = record x { stage = stage.Finished } in
      let n = b.task.number in
      stages_changed n x y e (remaining_tasks p.flight n y) p.queue (remove p.workers w)
      (changes_remaining p.flight n y)
      (past_waiting y ((h.workers w b there).complete x e) (λ at. waiting≢finished (sym at)))
      (λ c. c) (λ at. absurd (queued≢finished (sym at))) (λ at. absurd (running≢finished (sym at)))
      (λ q other i. i) (others_stay w n b there refl) (λ q i. inl i)
      (λ v c f. h.workers v c (from_removed nat_order p.workers w v c f).1)
