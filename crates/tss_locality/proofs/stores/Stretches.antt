-- A stretch of a worker writes to the storages of its task's operands alone.
use Rattle.std.proofs.Common.{◌≡◌, ℕ, zero, suc, ◌+◌, ◌-◌, ◌<◌, ◌≤◌, Bool, true, false, cond, List, [], ◌∷◌, length}
use Rattle.std.proofs.Common.{Option, Some, None, refl, sym, ◌∙◌, subst, inl, inr, arith}
use Rattle.std.specs.Prelude.{◌&&◌, nat_le, nat_lt, slice_get}
use Rattle.std.specs.List.{list_any}
use Rattle.std.proofs.lemmas.Bool.{and_parts, and_from, or_cases, le-leb, lt-ltb}
use Rattle.std.proofs.lemmas.Bool.Decides.{nat_tests}
use Rattle.std.proofs.lemmas.Option.{none-some, same_Some}
use Rattle.tss_base.specs.declared.range.Range.{Range}
use Rattle.tss_base.specs.declared.operand.Operand.{Operand}
use Rattle.tss_base.specs.Range.{end_of, contains, Covers}
use Rattle.tss_base.specs.Image.{SegmentState}
use Rattle.tss_model.specs.Memory.{MemoryRange, scratch_range, covers, list_put, code_word}
use Rattle.tss_model.specs.Access.{Granted, Denied, TaskActor, writes, task_may_store}
use Rattle.tss_model.specs.Registers.{trap_of}
use Rattle.tss_base.specs.declared.causes.TheConstants.{BUDGET_SPENT}
use Rattle.tss_model.specs.Core.{Write, Stepped, Executed, core_step}
use Rattle.tss_model.specs.TaskRun.{repeated, TaskState, is_over, task_byte, task_write, task_trapped, task_on}
use Rattle.tss_model.specs.TaskRun.{task_step}
use Rattle.tss_protocol.specs.Mail.{StorageName, Home, Buffer}
use Rattle.tss_protocol.specs.Workers.{Stores, Placed, placed_in, placed_at, storage_write, write_in, worker_write}
use Rattle.tss_protocol.specs.Buffers.{buffer_bytes}
use Rattle.tss_locality.specs.Scopes.{Scope, IsInside, StorageIn}
use Rattle.tss_locality.proofs.stores.Stores.{IsWrittenIn, StoresOnly, stores_home, stores_buffer, PlacedIn}
use Rattle.tss_locality.proofs.stores.Stores.{placed_rest}
use Rattle.tss_locality.proofs.stores.StoreSteps.{MayWrite, StoresWithin, core_step_within}

false_true : false ≡ true → ⊥
false_true e = cc

-- ---- where a task may write

module _ (c : Scope) where
  covered : (r : Range) (at n a : ℕ) → contains r (record { base = at; len = n }) ≡ true → at ≤ a → a < at + n →
      Covers r a
  covered r at n a e low high =
      let parts = and_parts (nat_le r.base at) (nat_le (at + n) (end_of r)) e in
      (grind (arith, nat_tests, parts), grind (arith, nat_tests, parts))

  covers_first : (r : Range) (at n a : ℕ) → contains r (record { base = at; len = n }) ≡ true → at ≤ a → a < at + n →
      covers r at ≡ true
  covers_first r at n a e low high =
      let first = covered r at n at e (omega arith) (omega arith) in
      and_from (nat_le r.base at) (nat_lt at (end_of r)) (le-leb r.base at first.0) (lt-ltb at (end_of r) first.1)

  inside_operand : (os : List Operand) (at n a : ℕ) →
      list_any (λ o. writes o.mode && contains o.object (record { base = at; len = n })) os ≡ true →
      ((k : ℕ) (o : Operand) → slice_get os k ≡ Some o → c.objects o.object) → at ≤ a → a < at + n → IsInside c a
  inside_operand [] at n a e objects low high = absurd (cc)
  inside_operand (o ∷ os) at n a e objects low high =
      elim (or_cases (writes o.mode && contains o.object (record { base = at; len = n }))
      (list_any (λ o. writes o.mode && contains o.object (record { base = at; len = n })) os) e) [
        | inl here ↦ (
          o.object,
          objects 0 o refl,
          covered o.object at n a
              (and_parts (writes o.mode) (contains o.object (record { base = at; len = n })) here).1 low high,
        )
        | inr there ↦ inside_operand os at n a there (λ k q e. objects (suc k) q e) low high
      ]

  -- a store that doesn't go to the scratch lies inside the objects of the operands
  store_inside : (os : List Operand) (w : Write) →
      ((k : ℕ) (o : Operand) → slice_get os k ≡ Some o → c.objects o.object) →
      task_may_store os (record { base = w.at; len = length w.bytes }) ≡ true → covers scratch_range w.at ≡ false →
      IsWrittenIn c w.at w.bytes
  store_inside os w objects may beside a low high =
      let n = length w.bytes in
      let r : Range = record { base = w.at; len = n } in
      elim (or_cases (contains scratch_range r) (list_any (λ o. writes o.mode && contains o.object r) os) may) [
        | inl scratch ↦ absurd (false_true (sym beside ∙ covers_first scratch_range w.at n a scratch low high))
        | inr operand ↦ inside_operand os w.at n a operand objects low high
      ]

  -- ---- storages

  -- each of these objects' storages
  abbrev AreStoredIn : List Placed → Type 0
  AreStoredIn [] = Unit {0}
  AreStoredIn (p ∷ ps) = StorageIn c p.storage × AreStoredIn ps

  stored_in : (os : List Operand) (ts : List StorageName) → PlacedIn c os ts → AreStoredIn (placed_in os ts)
  stored_in [] ts p = tt
  stored_in (o ∷ os) [] p = tt
  stored_in (o ∷ os) (t ∷ ts) p = (p.storages 0 o t refl refl, stored_in os ts (placed_rest c o t os ts p))

  found_if : (ps : List Placed) (p : Placed) (b : Bool) (rest : Option Placed) → StorageIn c p.storage →
      ((q : Placed) → rest ≡ Some q → StorageIn c q.storage) → (q : Placed) → cond b (Some p) rest ≡ Some
      q → StorageIn c q.storage
  found_if ps p true rest i more q e = subst (λ (p : Placed). StorageIn c p.storage) (same_Some p q e) i
  found_if ps p false rest i more q e = more q e

  found_in : (ps : List Placed) (a : ℕ) → AreStoredIn ps → (q : Placed) → placed_at ps a ≡ Some q →
      StorageIn c q.storage
  found_in [] a i q e = absurd (none-some q e)
  found_in (p ∷ ps) a i q e =
      found_if ps p (covers p.object a) (placed_at ps a) i.0 (found_in ps a i.1) q e

  module _ (s u : Stores) (f : StoresOnly c s u) (w : Write) (inside : IsWrittenIn c w.at w.bytes) where
    storage_only : (x : Range) (t : StorageName) → StorageIn c t → StoresOnly c s (storage_write u x t w)
    storage_only x Home i = stores_home c s u f w.at w.bytes inside
    storage_only x (Buffer n) i =
        stores_buffer c s u f n (list_put (buffer_bytes u.contents n) (w.at - x.base) w.bytes) i

    write_only : (p : Option Placed) → ((q : Placed) → p ≡ Some q → StorageIn c q.storage) →
        StoresOnly c s (write_in u p w)
    write_only None found = stores_home c s u f w.at w.bytes inside
    write_only (Some p) found = storage_only p.object p.storage (found p refl)

  -- ---- a stretch

  may_store : (os : List Operand) (r : Range) (may : Bool) → task_may_store os r ≡ may →
      cond may Granted Denied ≡ Granted →
      task_may_store os r ≡ true
  may_store os r true e granted = e
  may_store os r false e granted = absurd (cc)

  module _ (s : Stores) (os : List Operand) (ts : List StorageName) (placed : PlacedIn c os ts)
      (ranges : List MemoryRange) where
    -- its memory is changed in the scope alone
    abbrev TaskOnly : TaskState Stores → Type 0
    TaskOnly x = StoresOnly c s x.memory

    task_if : (b : Bool) (x y : TaskState Stores) → TaskOnly x → TaskOnly y → TaskOnly (cond b x y)
    task_if true x y p q = p
    task_if false x y p q = q

    write_by : (x : TaskState Stores) → TaskOnly x → (w : Write) → MayWrite (TaskActor ranges os) w → (b : Bool) →
        covers scratch_range w.at ≡ b →
        TaskOnly (cond b (record x { scratch = list_put x.scratch (w.at - scratch_range.base) w.bytes })
        (record x { memory = worker_write (placed_in os ts) x.memory w }))
    write_by x f w may true e = f
    write_by x f w may false e =
        let r : Range = record { base = w.at; len = length w.bytes } in
        write_only s x.memory f w (store_inside os w placed.objects (may_store os r (task_may_store os r) refl may)
        e) (placed_at (placed_in os ts) w.at)
        (found_in (placed_in os ts) w.at (stored_in os ts placed))

    write_task : (x : TaskState Stores) → TaskOnly x → (w : Write) → MayWrite (TaskActor ranges os) w →
        TaskOnly (task_write (worker_write (placed_in os ts)) x (Some w))
    write_task x f w may = write_by x f w may (covers scratch_range w.at) refl

    on_only : (x : TaskState Stores) → TaskOnly x → (y : Stepped) → StoresWithin (TaskActor ranges os) y →
        TaskOnly (task_on (worker_write (placed_in os ts)) x y)
    on_only x f (Executed r (Some w)) within = write_task x f w within
    on_only x f other within = f

    module _ (byte : Stores → ℕ → ℕ) (budget : ℕ) (code : List SegmentState) where
      step_only : (x : TaskState Stores) → TaskOnly x →
          TaskOnly (task_step byte (worker_write (placed_in os ts)) budget code (TaskActor ranges os) x)
      unfolding task_step
      step_only x f =
          let stepped = core_step (TaskActor ranges os) (task_byte byte x) (code_word code) x.registers in
          let trapped = task_trapped x (trap_of x.registers BUDGET_SPENT 0) in
          let on = task_on (worker_write (placed_in os ts)) x stepped in
          task_if (is_over x) x (cond (nat_le budget x.registers.done) trapped on) f
          (task_if (nat_le budget x.registers.done) trapped on f
          (on_only x f stepped (core_step_within (TaskActor ranges os) (task_byte byte x) (code_word code)
          x.registers)))

      -- so many steps
      pub stretch_only : (n : ℕ) (x : TaskState Stores) → TaskOnly x →
          TaskOnly (repeated (task_step byte (worker_write (placed_in os ts)) budget code (TaskActor ranges os)) n x)
      unfolding repeated
      stretch_only zero x f = f
      stretch_only (suc n) x f =
          stretch_only n (task_step byte (worker_write (placed_in os ts)) budget code (TaskActor ranges os) x)
          (step_only x f)
