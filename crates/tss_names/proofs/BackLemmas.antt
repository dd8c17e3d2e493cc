-- What each event does to where tasks stand: the counter and the inbox, the tasks in flight, the queue and the workers.
use Rattle.std.proofs.Common.{◌≡◌, ℕ, zero, suc, ◌<◌, ◌≤◌, ◌⊎◌, inl, inr, Bool, true, List, [], ◌∷◌, map, Option, Some}
use Rattle.std.proofs.Common.{None, refl, sym, ap, ◌∙◌, subst, true≢false}
use Rattle.std.specs.Prelude.{◌&&◌, nat_lt, is_none, slice_get, slice_set}
use Rattle.std.specs.List.{list_all}
use Rattle.std.specs.FinMap.{get, insert, remove}
use Rattle.std.proofs.lemmas.Bool.{and_parts, and_from, ltb-true}
use Rattle.tss_base.specs.declared.operand.OpName.{OpName}
use Rattle.tss_base.specs.declared.operand.Task.{Task}
use Rattle.tss_base.specs.declared.machine.Machine.{Machine}
use Rattle.tss_base.specs.declared.event.Event.TheVariants as event
use Rattle.tss_base.specs.Names.{Numbered}
use Rattle.tss_protocol.specs.Mail.{Source, StorageName, OpenContents, ReleaseContents, IdleContents, GoneContents}
use Rattle.tss_protocol.specs.State.{State, OperandState, Flying, Busy, Version, CopyState}
use Rattle.tss_protocol.specs.Stations.{is_ready, is_complete, storage_of, storages_of, awaited, with_operand}
use Rattle.tss_protocol.specs.Stations.{remaining_tasks, woken_in, woken_by, task_after_ready, linked_in, linked_by}
use Rattle.tss_protocol.specs.Stations.{operand_after_link, flight_after_start, flight_after_finish, parted_in}
use Rattle.tss_protocol.specs.Stations.{parted_by, operand_after_bye}
use Rattle.tss_protocol.specs.Workers.{can_start, busy_at_start, busy_after, can_exec, can_finish, exec_stretch}
use Rattle.tss_protocol.specs.Workers.{placed_in, worker_byte, worker_write, task_state_of}
use Rattle.tss_protocol.specs.MainEvent.{call_next}
use Rattle.tss_protocol.specs.UnitMachine.{is_enabled, after_event, queue_with, with_woken, with_flight, without}
use Rattle.tss_protocol.specs.UnitMachine.{stores_of, open_message_taken, use_message_taken, ready_message_taken}
use Rattle.tss_protocol.specs.UnitMachine.{link_message_taken, after_start, start_task, after_exec, after_finish}
use Rattle.tss_protocol.specs.UnitMachine.{release_message_taken, bye_message_taken, idle_message_taken, retire_version}
use Rattle.tss_protocol.specs.UnitMachine.{after_copy, gone_message_taken}
use Rattle.tss_model.specs.Access.{TaskActor, operands_of}
use Rattle.tss_names.proofs.PlainLemmas.{none_from_test}
use Rattle.tss_names.specs.Tasks.{TasksFact, spawned_by_main}
use Rattle.tss_protocol.proofs.FrontLemmas.{Front, front_of, Back, back_of, KeepsFront, KeepsFront-after_event}
use Rattle.tss_names.proofs.SpawnLemmas.{SpawnsOne, SpawnsAtMostOne, spawns_main}
use Rattle.tss_names.proofs.TakeLemmas.{TakesTask, takes_take, decodes_decode, acknowledges_ack}
use Rattle.tss_model.proofs.BudgetLemmas.{within-stretch}
use Rattle.tss_names.proofs.RunLemmas.{IsKeptAs}

-- where tasks stand
pub record Standing : Type 0 where
  pub spawned : ℕ
  pub inbox : Option Task
  pub flight : Numbered Flying
  pub queue : List ℕ
  pub workers : Numbered Busy

-- by the front and the rest
abbrev pub standing_by : Front → Back → Standing
standing_by f b =
    record { spawned = f.spawned; inbox = f.inbox; flight = b.flight; queue = b.queue; workers = b.workers }

-- in a state
abbrev pub standing_of : State → Standing
standing_of S = standing_by (front_of S) (back_of S)

-- ---- records of operands

-- a record that is written over with one that is ready as well, or as little
all_ready-slice_set : (rs : List OperandState) (i : ℕ) (r s : OperandState) → slice_get rs i ≡ Some r
    → is_ready s ≡ is_ready r → list_all is_ready (slice_set rs i s) ≡ list_all is_ready rs
all_ready-slice_set [] i r s e same = absurd (cc)
all_ready-slice_set (q ∷ rs) zero r s e same =
    let is : q ≡ r = cc in ap (λ b. b && list_all is_ready rs) (same ∙ ap is_ready (sym is))
all_ready-slice_set (q ∷ rs) (suc i) r s e same =
    ap (λ b. is_ready q && b) (all_ready-slice_set rs i r s e same)

-- where all are ready, they still are with one more that is
pub still_ready-slice_set : (rs : List OperandState) (i : ℕ) (s : OperandState) → list_all is_ready rs ≡ true
    → is_ready s ≡ true → list_all is_ready (slice_set rs i s) ≡ true
still_ready-slice_set [] i s all one = refl
still_ready-slice_set (q ∷ rs) zero s all one =
    and_from (is_ready s) (list_all is_ready rs) one (and_parts (is_ready q) (list_all is_ready rs) all).1
still_ready-slice_set (q ∷ rs) (suc i) s all one =
    let parts = and_parts (is_ready q) (list_all is_ready rs) all in
    and_from (is_ready q) _ parts.0 (still_ready-slice_set rs i s parts.1 one)

-- one that is written over with one that was told the same has the same storage
storages-slice_set : (rs : List OperandState) (i : ℕ) (r s : OperandState) → slice_get rs i ≡ Some r
    → storage_of s.source ≡ storage_of r.source
    → map (λ r. storage_of r.source) (slice_set rs i s) ≡ map (λ r. storage_of r.source) rs
storages-slice_set [] i r s e same = refl
storages-slice_set (q ∷ rs) zero r s e same =
    let is : q ≡ r = cc in
    ap (λ (x : StorageName). x ∷ map (λ r. storage_of r.source) rs)
    (same ∙ ap (λ (r : OperandState). storage_of r.source) (sym is))
storages-slice_set (q ∷ rs) (suc i) r s e same =
    ap (λ (xs : List StorageName). storage_of q.source ∷ xs) (storages-slice_set rs i r s e same)

-- ---- ready

-- an operand of a task in flight is told its version
pub record ReadiesOperand (S T : State) (o : OpName) : Type 0 where
  pub source : Source
  pub sent : get S.mail.readies o ≡ Some source
  pub task : Flying
  pub there : get S.flight o.task ≡ Some task
  pub operand : OperandState
  pub place : slice_get task.operands o.place ≡ Some operand
  pub back : back_of T
      ≡ record (back_of S) {
        flight = insert S.flight o.task (awaited (task_after_ready task o.place operand source));
        queue = queue_with S.queue o.task (is_complete (task_after_ready task o.place operand source));
      }

-- or nothing changes
abbrev ReadiesAtMost : State → State → OpName → Type 0
ReadiesAtMost S T o = (back_of T ≡ back_of S) ⊎ ReadiesOperand S T o

module _ (S : State) (o : OpName) (source : Source) (sent : get S.mail.readies o ≡ Some source) where
  readies_by : (x : Flying) → get S.flight o.task ≡ Some x → (r : Option OperandState)
      → slice_get x.operands o.place ≡ r
      → ReadiesAtMost S (with_woken (without S (event.Ready o)) o.task (woken_by S.flight o source x r)) o
  readies_by x there None e = inl refl
  readies_by x there (Some r) e = inr (record {
    source = source;
    sent = sent;
    task = x;
    there = there;
    operand = r;
    place = e;
    back = refl;
  })

  readies_in : (x : Option Flying) → get S.flight o.task ≡ x
      → ReadiesAtMost S (with_woken (without S (event.Ready o)) o.task (woken_in S.flight o source x)) o
  readies_in None there = inl refl
  readies_in (Some x) there = readies_by x there (slice_get x.operands o.place) refl

readies : (S : State) (o : OpName) (c : Option Source) → get S.mail.readies o ≡ c
    → ReadiesAtMost S (ready_message_taken (without S (event.Ready o)) o c) o
readies S o None e = inl refl
readies S o (Some source) e = readies_in S o source e (get S.flight o.task) refl

-- ---- link, bye

-- a task in flight goes on at its stage, with as many operands ready, and leaves where it may
pub record ChangesTask (S T : State) (n : ℕ) : Type 0 where
  pub task : Flying
  pub there : get S.flight n ≡ Some task
  pub changed : Flying
  pub stage : changed.stage ≡ task.stage
  pub complete : is_complete changed ≡ is_complete task
  pub itself : changed.task ≡ task.task
  pub storages : storages_of changed ≡ storages_of task
  pub back : back_of T ≡ record (back_of S) { flight = remaining_tasks S.flight n changed }

-- or nothing changes
abbrev ChangesAtMost : State → State → ℕ → Type 0
ChangesAtMost S T n = (back_of T ≡ back_of S) ⊎ ChangesTask S T n

module _ (S : State) (o : OpName) where
  links_by : (next : OpName) (x : Flying) → get S.flight o.task ≡ Some x → (r : Option OperandState)
      → slice_get x.operands o.place ≡ r
      → ChangesAtMost S (with_flight (without S (event.Link o)) (linked_by S.flight o next x r)) o.task
  links_by next x there None e = inl refl
  links_by next x there (Some r) e = inr (record {
    task = x;
    there = there;
    changed = with_operand x o.place (operand_after_link r next);
    stage = refl;
    complete = all_ready-slice_set x.operands o.place r (operand_after_link r next) e refl;
    itself = refl;
    storages = storages-slice_set x.operands o.place r (operand_after_link r next) e refl;
    back = refl;
  })

  links_in : (next : OpName) (x : Option Flying) → get S.flight o.task ≡ x
      → ChangesAtMost S (with_flight (without S (event.Link o)) (linked_in S.flight o next x)) o.task
  links_in next None there = inl refl
  links_in next (Some x) there = links_by next x there (slice_get x.operands o.place) refl

  links : (c : Option OpName) → ChangesAtMost S (link_message_taken (without S (event.Link o)) o c) o.task
  links None = inl refl
  links (Some next) = links_in next (get S.flight o.task) refl

  parts_by : (promised : Bool) (x : Flying) → get S.flight o.task ≡ Some x → (r : Option OperandState)
      → slice_get x.operands o.place ≡ r
      → ChangesAtMost S (record (without S (event.Bye o)) { flight = parted_by S.flight o promised x r }) o.task
  parts_by promised x there None e = inl refl
  parts_by promised x there (Some r) e = inr (record {
    task = x;
    there = there;
    changed = with_operand x o.place (operand_after_bye r promised);
    stage = refl;
    complete = all_ready-slice_set x.operands o.place r (operand_after_bye r promised) e refl;
    itself = refl;
    storages = storages-slice_set x.operands o.place r (operand_after_bye r promised) e refl;
    back = refl;
  })

  parts_in : (promised : Bool) (x : Option Flying) → get S.flight o.task ≡ x
      → ChangesAtMost S (record (without S (event.Bye o)) { flight = parted_in S.flight o promised x }) o.task
  parts_in promised None there = inl refl
  parts_in promised (Some x) there = parts_by promised x there (slice_get x.operands o.place) refl

  parts : (c : Option Bool) → ChangesAtMost S (bye_message_taken (without S (event.Bye o)) o c) o.task
  parts None = inl refl
  parts (Some promised) = parts_in promised (get S.flight o.task) refl

-- ---- start, exec, finish

-- the front task of the queue starts on an idle worker
pub record StartsTask (m : Machine) (S T : State) (w : ℕ) : Type 0 where
  pub number : ℕ
  pub rest : List ℕ
  pub queue : S.queue ≡ number ∷ rest
  pub idle : get S.workers w ≡ None
  pub worker : w < m.sizes.workers
  pub task : Flying
  pub there : get S.flight number ≡ Some task
  pub back : back_of T
      ≡ record {
        flight = flight_after_start S.flight number task;
        queue = rest;
        workers = insert S.workers w (busy_at_start task);
      }

module _ (m : Machine) (S : State) (w : ℕ) where
  starts_task : (t : ℕ) (ts : List ℕ) (x : Option Flying) → S.queue ≡ t ∷ ts → get S.flight t ≡ x
      → get S.workers w ≡ None → w < m.sizes.workers
      → (back_of (start_task m S w t ts x) ≡ back_of S) ⊎ StartsTask m S (start_task m S w t ts x) w
  starts_task t ts None q e idle within = inl refl
  starts_task t ts (Some x) q e idle within = inr (record {
    number = t;
    rest = ts;
    queue = q;
    idle = idle;
    worker = within;
    task = x;
    there = e;
    back = refl;
  })

  starts : (q : List ℕ) → S.queue ≡ q → can_start m.sizes.workers w (get S.workers w) q ≡ true
      → (back_of (after_start m S w q) ≡ back_of S) ⊎ StartsTask m S (after_start m S w q) w
  starts [] e on = absurd (true≢false (sym on))
  starts (t ∷ ts) e on =
      let may = and_parts (nat_lt w m.sizes.workers) (is_none (get S.workers w)) on in
      starts_task t ts (get S.flight t) e refl (none_from_test (get S.workers w) may.1) (ltb-true _ _ may.0)

-- a busy worker goes a stretch further
pub record ExecutesTask (m : Machine) (S T : State) (w : ℕ) : Type 0 where
  pub busy : Busy
  pub there : get S.workers w ≡ Some busy
  pub after : Busy
  pub task : after.task ≡ busy.task
  pub storages : after.storages ≡ busy.storages
  pub within : busy.registers.done ≤ m.limits.task_budget → after.registers.done ≤ m.limits.task_budget
  pub back : back_of T ≡ record (back_of S) { workers = insert S.workers w after }

executes : (m : Machine) (S : State) (w : ℕ) (b : Option Busy) → get S.workers w ≡ b → can_exec b ≡ true
    → ExecutesTask m S (after_exec m S w b) w
executes m S w None e on = absurd (true≢false (sym on))
executes m S w (Some b) e on =
    let placed = placed_in (operands_of b.task) b.storages in
    record {
      busy = b;
      there = e;
      after = busy_after b (exec_stretch S.code m.limits m.sizes.quantum b (stores_of S));
      task = refl;
      storages = refl;
      within =
          within-stretch (worker_byte placed) (worker_write placed) m.limits.task_budget S.code
          (TaskActor S.home.ranges (operands_of b.task)) m.sizes.quantum (task_state_of b (stores_of S));
      back = refl;
    }

-- a task finishes
pub record FinishesTask (S T : State) (w : ℕ) : Type 0 where
  pub busy : Busy
  pub there : get S.workers w ≡ Some busy
  pub back : back_of T
      ≡ record (back_of S) {
        flight = (flight_after_finish S.flight busy.task.number).part;
        workers = remove S.workers w;
      }

finishes : (S : State) (w : ℕ) (b : Option Busy) → get S.workers w ≡ b → can_finish b ≡ true
    → FinishesTask S (after_finish S w b) w
finishes S w None e on = absurd (true≢false (sym on))
finishes S w (Some b) e on = record { busy = b; there = e; back = refl }

-- ---- the events that leave all this alone

module _ (m : Machine) (S : State) where
  back_open : (o : OpName) (c : Option OpenContents)
      → back_of (open_message_taken (without S (event.Open o)) o c) ≡ back_of S
  back_open o None = refl
  back_open o (Some c) = refl

  back_use : (o : OpName) (c : Option OpName) → back_of (use_message_taken (without S (event.Use o)) o c) ≡ back_of S
  back_use o None = refl
  back_use o (Some c) = refl

  back_release : (o : OpName) (c : Option ReleaseContents)
      → back_of (release_message_taken (without S (event.Release o)) o c) ≡ back_of S
  back_release o None = refl
  back_release o (Some c) = refl

  back_idle : (v : OpName) (c : Option IdleContents)
      → back_of (idle_message_taken (without S (event.Idle v)) v c) ≡ back_of S
  back_idle v None = refl
  back_idle v (Some c) = refl

  back_retire : (v : OpName) (x : Option Version)
      → back_of (retire_version m (without S (event.Retire v)) v x) ≡ back_of S
  back_retire v None = refl
  back_retire v (Some x) = refl

  back_copy : (b : ℕ) (c : Option CopyState) → back_of (after_copy S b c) ≡ back_of S
  back_copy b None = refl
  back_copy b (Some c) = refl

  back_gone : (v : OpName) (c : Option GoneContents)
      → back_of (gone_message_taken (without S (event.Gone v)) v c) ≡ back_of S
  back_gone v None = refl
  back_gone v (Some c) = refl

-- ---- all events

-- where the front and the rest are as they were, tasks stand as they stood
standing_same : (S T : State) → KeepsFront S T → back_of T ≡ back_of S → standing_of T ≡ standing_of S
standing_same S T k b i = standing_by (k.front i) (b i)

-- a fact is kept by every event, maybe as another one, where it is by each of these changes, the front being left alone
module _ (I J : TasksFact)
    (spawns : (m : Machine) (ts us : List Task) (S T : State) → I m ts S → (p : SpawnsOne m ts us S T)
    → J m (p.task ∷ ts) T)
    (takes : (m : Machine) (ts : List Task) (S T : State) → I m ts S → TakesTask m S T → J m ts T)
    (readies_one : (m : Machine) (ts : List Task) (S T : State) (o : OpName) → I m ts S → KeepsFront S T
    → ReadiesOperand S T o → J m ts T)
    (changes : (m : Machine) (ts : List Task) (S T : State) (n : ℕ) → I m ts S → KeepsFront S T → ChangesTask S T n
    → J m ts T)
    (starts_one : (m : Machine) (ts : List Task) (S T : State) (w : ℕ) → I m ts S → KeepsFront S T
    → StartsTask m S T w → J m ts T)
    (executes_one : (m : Machine) (ts : List Task) (S T : State) (w : ℕ) → I m ts S → KeepsFront S T
    → ExecutesTask m S T w → J m ts T)
    (finishes_one : (m : Machine) (ts : List Task) (S T : State) (w : ℕ) → I m ts S → KeepsFront S T
    → FinishesTask S T w → J m ts T)
    (stands : (m : Machine) (ts : List Task) (S T : State) → I m ts S → standing_of T ≡ standing_of S → J m ts T)
  where
    module _ (m : Machine) (ts : List Task) (S : State) (h : I m ts S) where
      by_main : (us : List Task) (T : State) → SpawnsAtMostOne m ts us S T → J m us T
      by_main us T (inl q) =
          subst (λ us. J m us T) (sym q.list) (stands m ts S T h (λ i. standing_by (q.front i) (q.back i)))
      by_main us T (inr p) = subst (λ us. J m us T) (sym p.list) (spawns m ts us S T h p)

      by_ready : (o : OpName) (T : State) → KeepsFront S T → ReadiesAtMost S T o → J m ts T
      by_ready o T k (inl same) = stands m ts S T h (standing_same S T k same)
      by_ready o T k (inr c) = readies_one m ts S T o h k c

      by_change : (n : ℕ) (T : State) → KeepsFront S T → ChangesAtMost S T n → J m ts T
      by_change n T k (inl same) = stands m ts S T h (standing_same S T k same)
      by_change n T k (inr c) = changes m ts S T n h k c

      by_start : (w : ℕ) (T : State) → KeepsFront S T → (back_of T ≡ back_of S) ⊎ StartsTask m S T w → J m ts T
      by_start w T k (inl same) = stands m ts S T h (standing_same S T k same)
      by_start w T k (inr c) = starts_one m ts S T w h k c

      by_same : (T : State) → KeepsFront S T → back_of T ≡ back_of S → J m ts T
      by_same T k same = stands m ts S T h (standing_same S T k same)

    -- then every event keeps it
    pub kept_by_standing : IsKeptAs I J
    unfolding is_enabled after_event
    kept_by_standing m ts S event.Main h on =
        by_main m ts S h (spawned_by_main m S ts (call_next m S)) _ (spawns_main m ts S on)
    kept_by_standing m ts S event.Take h on = takes m ts S _ h (takes_take m S on)
    kept_by_standing m ts S (event.Decode o) h on =
        let d = decodes_decode m S o on in
        stands m ts S _ h (λ i. standing_by (d.front i) (d.back i))
    kept_by_standing m ts S (event.Ack o) h on =
        let a = acknowledges_ack m S o on in
        stands m ts S _ h (λ i. standing_by (a.front i) (a.back i))
    kept_by_standing m ts S (event.Open o) h on =
        by_same m ts S h _ (KeepsFront-after_event m S (event.Open o) refl) (back_open m S o (get S.mail.opens o))
    kept_by_standing m ts S (event.Use o) h on =
        by_same m ts S h _ (KeepsFront-after_event m S (event.Use o) refl) (back_use m S o (get S.mail.uses o))
    kept_by_standing m ts S (event.Ready o) h on =
        by_ready m ts S h o _ (KeepsFront-after_event m S (event.Ready o) refl)
        (readies S o (get S.mail.readies o) refl)
    kept_by_standing m ts S (event.Link o) h on =
        by_change m ts S h o.task _ (KeepsFront-after_event m S (event.Link o) refl) (links S o (get S.mail.links o))
    kept_by_standing m ts S (event.Start w) h on =
        by_start m ts S h w _ (KeepsFront-after_event m S (event.Start w) refl) (starts m S w S.queue refl on)
    kept_by_standing m ts S (event.Exec w) h on =
        executes_one m ts S _ w h (KeepsFront-after_event m S (event.Exec w) refl)
        (executes m S w (get S.workers w) refl on)
    kept_by_standing m ts S (event.Finish w) h on =
        finishes_one m ts S _ w h (KeepsFront-after_event m S (event.Finish w) refl)
        (finishes S w (get S.workers w) refl on)
    kept_by_standing m ts S (event.Release o) h on =
        by_same m ts S h _ (KeepsFront-after_event m S (event.Release o) refl)
        (back_release m S o (get S.mail.releases o))
    kept_by_standing m ts S (event.Bye o) h on =
        by_change m ts S h o.task _ (KeepsFront-after_event m S (event.Bye o) refl) (parts S o (get S.mail.byes o))
    kept_by_standing m ts S (event.Idle v) h on =
        by_same m ts S h _ (KeepsFront-after_event m S (event.Idle v) refl) (back_idle m S v (get S.mail.idles v))
    kept_by_standing m ts S (event.Nack v) h on =
        by_same m ts S h _ (KeepsFront-after_event m S (event.Nack v) refl) refl
    kept_by_standing m ts S (event.Retire v) h on =
        by_same m ts S h _ (KeepsFront-after_event m S (event.Retire v) refl) (back_retire m S v (get S.versions v))
    kept_by_standing m ts S (event.Copy b) h on =
        by_same m ts S h _ (KeepsFront-after_event m S (event.Copy b) refl) (back_copy m S b (get S.copies b))
    kept_by_standing m ts S (event.Gone v) h on =
        by_same m ts S h _ (KeepsFront-after_event m S (event.Gone v) refl) (back_gone m S v (get S.mail.gones v))
