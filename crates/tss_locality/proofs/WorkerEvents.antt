-- Start and exec concern a worker's task and the storages of its operands, and finish the task with the names of its
-- operands.
use Rattle.std.proofs.Common.{◌≡◌, ℕ, zero, suc, Bool, true, false, cond, List, [], ◌∷◌, Option, Some, None, refl, sym}
use Rattle.std.proofs.Common.{ap, ◌∙◌, subst}
use Rattle.std.specs.Prelude.{nat_lt, is_none, map, slice_get}
use Rattle.std.specs.FinMap.{get, insert, remove}
use Rattle.std.proofs.lemmas.Bool.{and_parts}
use Rattle.std.proofs.lemmas.Option.{none-some, same_Some}
use Rattle.tss_base.specs.declared.ending.Trap.{Trap}
use Rattle.tss_base.specs.declared.machine.Machine.{Machine}
use Rattle.tss_base.specs.declared.event.Event.TheVariants as event
use Rattle.tss_base.specs.declared.marks.Stage.TheVariants as stage
use Rattle.tss_maps.proofs.Keys.{nat_order}
use Rattle.tss_model.specs.Access.{operands_of}
use Rattle.tss_protocol.specs.Names.{operand_name}
use Rattle.tss_protocol.specs.Mail.{StorageName, Source}
use Rattle.tss_protocol.specs.State.{OperandState, Flying, Busy, HeldTrap, State}
use Rattle.tss_protocol.specs.Stations.{flight_after_start, flight_after_finish, storage_of, storages_of}
use Rattle.tss_protocol.specs.Workers.{placed_in, worker_byte, can_start, busy_at_start, stores_after_start}
use Rattle.tss_protocol.specs.Workers.{exec_stretch, task_state_of, busy_after, trap_after_finish}
use Rattle.tss_protocol.specs.UnitMachine.{stores_of, start_task, after_start, after_exec, finish_task, after_finish}
use Rattle.tss_protocol.specs.UnitMachine.{is_enabled, IsEnabled, after_event}
use Rattle.tss_locality.specs.Agreement.{Beyond, times_in}
use Rattle.tss_locality.specs.Scopes.{Scope, beyond, ChangesOnly, StorageIn, MaybeSourceIn, Closed}
use Rattle.tss_locality.specs.Concerns.{ConcernsFinish, ConcernsStart, ConcernsExec}
use Rattle.tss_locality.proofs.Agreements.{IsOther, other_none, other_some, same_for_inserted, same_for_removed}
use Rattle.tss_locality.proofs.States.{state_flight, state_queue, state_workers, state_trap}
use Rattle.tss_locality.proofs.Flights.{record_in, keeps_records, flight_inserted}
use Rattle.tss_locality.proofs.Sending.{changes_none, changes_sent}
use Rattle.tss_locality.proofs.Tasks.{times_in_front, finish_only, finish_sent}
use Rattle.tss_locality.proofs.stores.Stores.{stores_same, PlacedIn, outputs_only}
use Rattle.tss_locality.proofs.stores.Stretches.{stretch_only}
use Rattle.tss_locality.proofs.TaskEvents.{changes_stores}

module _ (c : Scope) where
  -- workers with tasks beyond the scope
  abbrev IsElsewhere : Busy → Type 0
  IsElsewhere b = Beyond c.tasks b.task.number

  -- a worker with a task of the scope isn't one
  here : (S : State) (w : ℕ) (b : Busy) → get S.workers w ≡ Some b → c.tasks b.task.number →
      IsOther IsElsewhere (get S.workers w)
  here S w b there own = subst (IsOther IsElsewhere) (sym there) (other_some IsElsewhere b (λ out. out own))

  -- nor is an idle one
  idle : (S : State) (w : ℕ) (b : Option Busy) → get S.workers w ≡ b → is_none b ≡ true →
      IsOther IsElsewhere (get S.workers w)
  idle S w None there free = subst (IsOther IsElsewhere) (sym there) (other_none IsElsewhere)
  idle S w (Some b) there free = absurd (cc)

module _ (c : Scope) (m : Machine) (S : State) (closed : Closed c S) where
  -- ---- start

  storage_in : (s : Option Source) → MaybeSourceIn c s → StorageIn c (storage_of s)
  storage_in None i = tt
  storage_in (Some s) i = i.1

  storages_in : (rs : List OperandState) (k : ℕ) (s : StorageName) →
      slice_get (map (λ r. storage_of r.source) rs) k ≡ Some s →
      ((r : OperandState) → slice_get rs k ≡ Some r → MaybeSourceIn c r.source) → StorageIn c s
  storages_in [] k s e told = absurd (none-some s e)
  storages_in (r ∷ rs) zero s e told = subst (StorageIn c) (same_Some (storage_of r.source) s e)
      (storage_in r.source (told r refl))
  storages_in (r ∷ rs) (suc k) s e told = storages_in rs k s e told

  placed_at_start : (t : ℕ) (x : Flying) → get S.flight t ≡ Some x → ConcernsStart c t x →
      PlacedIn c (operands_of x.task) (storages_of x)
  placed_at_start t x there p = record {
    objects = λ k o at. (p.operands k o at).1;
    storages = λ k o s at e. storages_in x.operands k s e (λ r is.
        (closed.flight (operand_name t k) r (p.operands k o at).0
        (ap (record_in k) there ∙ is)).source);
  }

  started : (w t : ℕ) (ts : List ℕ) (x : Flying) → S.queue ≡ t ∷ ts → get S.flight t ≡ Some x → ConcernsStart c t x →
      IsOther (IsElsewhere c) (get S.workers w) → ChangesOnly c S (start_task m S w t ts (Some x))
  started w t ts x front there p other =
      let flight = flight_after_start S.flight t x in
      let workers = insert S.workers w (busy_at_start x) in
      let A : State = record S { queue = ts } in
      let B : State = record A { flight = flight } in
      let own : c.tasks x.task.number = subst c.tasks (sym p.number) p.task in
      let in_queue = state_queue (beyond c) S S (changes_none c S) ts
      (λ n out. times_in_front n t (λ same. out (subst c.tasks same p.task)) ts ∙ ap (times_in n) (sym front)) in
      let in_flight = state_flight (beyond c) S A in_queue flight
      (flight_inserted c S.flight t x (record x { stage = stage.Running }) p.task there
      (keeps_records c t x (record x { stage = stage.Running }) refl refl)) in
      let in_workers = state_workers (beyond c) S B in_flight workers
      (same_for_inserted nat_order (IsElsewhere c) S.workers w other (busy_at_start x) (λ out. out own)) in
      changes_stores c S (record B { workers = workers }) in_workers (stores_after_start m.limits (stores_of S) x)
      (outputs_only c m.limits (stores_of S) (operands_of x.task) (storages_of x) (placed_at_start t x there p))

  start_of : (w t : ℕ) (ts : List ℕ) (x : Option Flying) → S.queue ≡ t ∷ ts → get S.flight t ≡ x →
      ((x : Flying) → get S.flight t ≡ Some x → ConcernsStart c t x) →
      IsOther (IsElsewhere c) (get S.workers w) → ChangesOnly c S (start_task m S w t ts x)
  start_of w t ts None front there p other = changes_none c S
  start_of w t ts (Some x) front there p other = started w t ts x front there (p x there) other

  start_by : (w : ℕ) (queue : List ℕ) → S.queue ≡ queue → can_start m.sizes.workers w (get S.workers w) queue ≡ true →
      ((t : ℕ) (ts : List ℕ) (x : Flying) → S.queue ≡ t ∷ ts → get S.flight t ≡ Some x → ConcernsStart c t x) →
      ChangesOnly c S (after_start m S w queue)
  start_by w [] front on p = changes_none c S
  start_by w (t ∷ ts) front on p =
      let free = (and_parts (nat_lt w m.sizes.workers) (is_none (get S.workers w)) on).1 in
      start_of w t ts (get S.flight t) front refl (λ x there. p t ts x front there)
      (idle c S w (get S.workers w) refl free)

  -- start changes only the front task, its worker, and the storages of the operands that become zeros
  pub ChangesOnly-start : (w : ℕ) → IsEnabled m S (event.Start w) →
      ((t : ℕ) (ts : List ℕ) (x : Flying) → S.queue ≡ t ∷ ts → get S.flight t ≡ Some x → ConcernsStart c t x) →
      ChangesOnly c S (after_event m S (event.Start w))
  unfolding after_event is_enabled
  ChangesOnly-start w on p = start_by w S.queue refl on p

  -- ---- exec

  placed_at_exec : (w : ℕ) (b : Busy) → get S.workers w ≡ Some b → ConcernsExec c b →
      PlacedIn c (operands_of b.task) b.storages
  placed_at_exec w b there p = record {
    objects = λ k o at. (p.operands k o at).1;
    storages = λ k o s at e. closed.workers w b there k s (p.operands k o at).0 e;
  }

  executed : (w : ℕ) (b : Option Busy) → get S.workers w ≡ b →
      ((b : Busy) → get S.workers w ≡ Some b → ConcernsExec c b) →
      ChangesOnly c S (after_exec m S w b)
  executed w None there p = changes_none c S
  executed w (Some b) there p =
      let concern = p b there in
      let s = stores_of S in
      let os = operands_of b.task in
      let after = exec_stretch S.code m.limits m.sizes.quantum b s in
      let workers = insert S.workers w (busy_after b after) in
      changes_stores c S (record S { workers = workers })
      (state_workers (beyond c) S S (changes_none c S) workers
      (same_for_inserted nat_order (IsElsewhere c) S.workers w (here c S w b there concern.task) (busy_after b after)
      (λ out. out concern.task)))
      after.memory
      (stretch_only c s os b.storages (placed_at_exec w b there concern) S.home.ranges
      (worker_byte (placed_in os b.storages))
      m.limits.task_budget S.code m.sizes.quantum (task_state_of b s) (stores_same c s))

  -- exec changes only its worker, and the storages of the task's operands
  pub ChangesOnly-exec : (w : ℕ) → ((b : Busy) → get S.workers w ≡ Some b → ConcernsExec c b) →
      ChangesOnly c S (after_event m S (event.Exec w))
  unfolding after_event
  ChangesOnly-exec w p = executed w (get S.workers w) refl p

module _ (c : Scope) (m : Machine) (S : State) where
  -- ---- finish

  lower_held : (n : ℕ) (t : Trap) (h k : HeldTrap) (b : Bool) → (n ≡ k.task → ⊥) →
      Some (cond b (record { task = n; trap = t }) h) ≡ Some k → Some h ≡ Some k
  lower_held n t h k true other e = absurd (other (ap (λ (k : HeldTrap). k.task) (same_Some _ k e)))
  lower_held n t h k false other e = e

  held_before : (held : Option HeldTrap) (n : ℕ) (t : Option Trap) (k : HeldTrap) → (n ≡ k.task → ⊥) →
      trap_after_finish held n t ≡ Some k → held ≡ Some k
  held_before held n None k other e = e
  held_before None n (Some t) k other e = absurd (other (ap (λ (k : HeldTrap). k.task) (same_Some _ k e)))
  held_before (Some h) n (Some t) k other e = lower_held n t h k (nat_lt n h.task) other e

  finished : (w : ℕ) (b : Busy) → get S.workers w ≡ Some b → ConcernsFinish c S b →
      ChangesOnly c S (finish_task S w b)
  finished w b there p =
      let n = b.task.number in
      let workers = remove S.workers w in
      let trap = trap_after_finish S.trap n b.trap in
      let d = flight_after_finish S.flight n in
      let A : State = record S { workers = workers } in
      let B : State = record A { trap = trap } in
      let in_workers = state_workers (beyond c) S S (changes_none c S) workers
      (same_for_removed nat_order (IsElsewhere c) S.workers w (here c S w b there p.task)) in
      let in_trap = state_trap (beyond c) S A in_workers trap
      (λ h out e. held_before S.trap n b.trap h (λ same. out (subst c.tasks same p.task)) e) in
      changes_sent c S (record B { flight = d.part })
      (state_flight (beyond c) S B in_trap d.part (finish_only c S.flight n p.task))
      d.sent (finish_sent c S.flight n p.task (λ k r e. p.names (operand_name n k) r refl e))

  finished_by : (w : ℕ) (b : Option Busy) → get S.workers w ≡ b →
      ((b : Busy) → get S.workers w ≡ Some b → ConcernsFinish c S b) → ChangesOnly c S (after_finish S w b)
  finished_by w None there p = changes_none c S
  finished_by w (Some b) there p = finished w b there (p b there)

  -- finish changes only its worker and the task, with the names of its operands
  pub ChangesOnly-finish : (w : ℕ) → ((b : Busy) → get S.workers w ≡ Some b → ConcernsFinish c S b) →
      ChangesOnly c S (after_event m S (event.Finish w))
  unfolding after_event
  ChangesOnly-finish w p = finished_by w (get S.workers w) refl p
