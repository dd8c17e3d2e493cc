-- Workers over buffers under their names, and over the same under their places: they start and run alike.
use Rattle.std.proofs.Common.{◌≡◌, ℕ, zero, suc, ◌-◌, Bool, true, false, List, [], ◌∷◌, Option, Some, None, refl, sym, ap, subst, ◌∙◌, inl, inr}
use Rattle.std.specs.Prelude.{cond, ◌==◌, ◌||◌, is_some, nat_le, slice_index, unwrap_or}
use Rattle.std.specs.FinMap.{get, insert}
use Rattle.std.proofs.lemmas.Option.{same_Some}
use Rattle.tss_base.specs.declared.addresses.TheConstants.{END_PC}
use Rattle.tss_base.specs.declared.causes.TheConstants.{CALL_IN_TASK, BUDGET_SPENT}
use Rattle.tss_base.specs.declared.machine.Limits.{Limits}
use Rattle.tss_base.specs.declared.operand.OpName.{OpName}
use Rattle.tss_base.specs.declared.operand.Operand.{Operand}
use Rattle.tss_base.specs.declared.range.Range.{Range}
use Rattle.tss_base.specs.Image.{SegmentState}
use Rattle.tss_base.specs.Names.{Named}
use Rattle.tss_maps.proofs.Keys.{name_order, decide_key}
use Rattle.tss_maps.proofs.Changes.{at_inserted, beside_inserted}
use Rattle.tss_model.specs.Memory.{Memory, scratch_range, covers, byte_at, zeros, zeroed, list_put, code_word}
use Rattle.tss_model.specs.Registers.{Registers, register_at, trap_of}
use Rattle.tss_model.specs.Access.{Actor, TaskActor, operands_of, reads}
use Rattle.tss_model.specs.Core.{Write, Stepped, Executed, Called, Ended, Trapped, Touched, core_step}
use Rattle.tss_model.specs.TaskRun.{TaskState, repeated, is_over, task_byte, task_write, task_trapped, task_on, task_step, task_stretch, memory_write}
use Rattle.tss_protocol.specs.Mail.{StorageName, Home, Buffer}
use Rattle.tss_protocol.specs.State.{Busy}
use Rattle.tss_protocol.specs.Buffers.{buffer_bytes}
use Rattle.tss_protocol.specs.Workers.{Stores, Placed, placed_in, placed_at, storage_byte, byte_in, worker_byte, storage_write, write_in, worker_write, storage_zeroed, outputs_zeroed, exec_stretch, task_state_of}
use Rattle.tss_workers.specs.Agreement.{Agree, StoresAgree, StandsFor, StandFor, TasksAgree}

module _ (place_of : OpName → Option OpName) where
  -- ---- contents

  -- the same bytes put under a name and at its place
  pub agree_put : (contents placed : Named (List ℕ)) (n p : OpName) (x y : List ℕ) → place_of n ≡ Some p → x ≡ y
      → Agree place_of contents placed → Agree place_of (insert contents n x) (insert placed p y)
  agree_put contents placed n p x y there e h = record {
    one = h.one;
    same = λ m q at. elim (decide_key name_order m n) [
      | inl same ↦
          let place : q ≡ p = same_Some q p (sym at ∙ ap place_of same ∙ there) in
          ap (get (insert contents n x)) same
          ∙ at_inserted name_order contents n x
          ∙ ap Some e
          ∙ sym (ap (get (insert placed p y)) place ∙ at_inserted name_order placed p y)
      | inr apart ↦
          beside_inserted name_order contents n x m apart
          ∙ h.same m q at
          ∙ sym (beside_inserted name_order placed p y q (λ same. apart (h.one m n p (at ∙ ap Some same) there)))
    ];
  }

  -- the same stores with other homes
  agree_home : (s t : Stores) → StoresAgree place_of s t → (m n : Memory) → n ≡ m
      → StoresAgree place_of (record s { home = m }) (record t { home = n })
  agree_home s t h m n e = record { home = e; contents = h.contents }

  -- the bytes under a name
  agree_bytes : (s t : Stores) → StoresAgree place_of s t → (n p : OpName) → place_of n ≡ Some p
      → buffer_bytes s.contents n ≡ buffer_bytes t.contents p
  agree_bytes s t h n p there = ap (λ o. unwrap_or o []) (h.contents.same n p there)

  -- ---- start

  zeroed_agrees : (limits : Limits) (s t : Stores) → StoresAgree place_of s t → (object : Range) (x y : StorageName)
      → StandsFor place_of x y → StoresAgree place_of (storage_zeroed limits s object x) (storage_zeroed limits t object y)
  zeroed_agrees limits s t h object Home Home there =
      agree_home s t h (zeroed s.home object) (zeroed t.home object) (ap (λ m. zeroed m object) h.home)
  zeroed_agrees limits s t h object Home (Buffer p) there = absurd there
  zeroed_agrees limits s t h object (Buffer n) Home there = absurd there
  zeroed_agrees limits s t h object (Buffer n) (Buffer p) there = record {
    home = h.home;
    contents = agree_put s.contents t.contents n p (zeros limits.object_bytes) (zeros limits.object_bytes) there refl h.contents;
  }

  chosen : (b : Bool) (s t u v : Stores) → StoresAgree place_of s t → StoresAgree place_of u v
      → StoresAgree place_of (cond b s u) (cond b t v)
  chosen true s t u v h k = h
  chosen false s t u v h k = k

  -- zeros at the outputs
  pub start_agrees : (limits : Limits) (s t : Stores) (operands : List Operand) (names places : List StorageName)
      → StandFor place_of names places → StoresAgree place_of s t
      → StoresAgree place_of (outputs_zeroed limits s operands names) (outputs_zeroed limits t operands places)
  start_agrees limits s t [] names places there h = h
  start_agrees limits s t (o ∷ os) [] [] there h = h
  start_agrees limits s t (o ∷ os) [] (y ∷ ys) there h = absurd there
  start_agrees limits s t (o ∷ os) (x ∷ xs) [] there h = absurd there
  start_agrees limits s t (o ∷ os) (x ∷ xs) (y ∷ ys) there h =
      let rest = start_agrees limits s t os xs ys there.1 h in
      chosen (reads o.mode) _ _ _ _ rest (zeroed_agrees limits _ _ rest o.object x y there.0)

  -- ---- where an address lies

  abbrev pub FoundAgree : Option Placed → Option Placed → Type 0
  FoundAgree None None = Unit {0}
  FoundAgree None (Some q) = ⊥
  FoundAgree (Some p) None = ⊥
  FoundAgree (Some p) (Some q) = (q.object ≡ p.object) × StandsFor place_of p.storage q.storage

  found_by : (b : Bool) (f g f' g' : Option Placed) → FoundAgree f g → FoundAgree f' g' → FoundAgree (cond b f f') (cond b g g')
  found_by true f g f' g' h k = h
  found_by false f g f' g' h k = k

  found_agrees : (operands : List Operand) (names places : List StorageName) → StandFor place_of names places → (a : ℕ)
      → FoundAgree (placed_at (placed_in operands names) a) (placed_at (placed_in operands places) a)
  found_agrees [] names places there a = tt
  found_agrees (o ∷ os) [] [] there a = tt
  found_agrees (o ∷ os) [] (y ∷ ys) there a = absurd there
  found_agrees (o ∷ os) (x ∷ xs) [] there a = absurd there
  found_agrees (o ∷ os) (x ∷ xs) (y ∷ ys) there a =
      found_by (covers o.object a) _ _ _ _ (refl, there.0) (found_agrees os xs ys there.1 a)

  module _ (s t : Stores) (h : StoresAgree place_of s t) where
    -- ---- what is read

    storage_agrees : (object object' : Range) → object' ≡ object → (x y : StorageName) → StandsFor place_of x y → (a : ℕ)
        → storage_byte t object' y a ≡ storage_byte s object x a
    storage_agrees object object' e Home Home there a = ap (λ m. byte_at m a) h.home
    storage_agrees object object' e Home (Buffer p) there a = absurd there
    storage_agrees object object' e (Buffer n) Home there a = absurd there
    storage_agrees object object' e (Buffer n) (Buffer p) there a =
        let bytes = sym (agree_bytes s t h n p there) in
        λ i. slice_index (bytes i) (a - (e i).base)

    byte_agrees : (f g : Option Placed) → FoundAgree f g → (a : ℕ) → byte_in t g a ≡ byte_in s f a
    byte_agrees None None found a = ap (λ m. byte_at m a) h.home
    byte_agrees None (Some q) found a = absurd found
    byte_agrees (Some p) None found a = absurd found
    byte_agrees (Some p) (Some q) found a = storage_agrees p.object q.object found.0 p.storage q.storage found.1 a

    -- ---- what is written

    stored_agrees : (w : Write) (object object' : Range) → object' ≡ object → (x y : StorageName) → StandsFor place_of x y
        → StoresAgree place_of (storage_write s object x w) (storage_write t object' y w)
    stored_agrees w object object' e Home Home there =
        agree_home s t h (memory_write s.home w) (memory_write t.home w) (ap (λ m. memory_write m w) h.home)
    stored_agrees w object object' e Home (Buffer p) there = absurd there
    stored_agrees w object object' e (Buffer n) Home there = absurd there
    stored_agrees w object object' e (Buffer n) (Buffer p) there =
        let bytes = agree_bytes s t h n p there in
        let base = sym e in
        record {
          home = h.home;
          contents = agree_put s.contents t.contents n p _ _ there (λ i. list_put (bytes i) (w.at - (base i).base) w.bytes) h.contents;
        }

    write_agrees : (w : Write) (f g : Option Placed) → FoundAgree f g → StoresAgree place_of (write_in s f w) (write_in t g w)
    write_agrees w None None found =
        agree_home s t h (memory_write s.home w) (memory_write t.home w) (ap (λ m. memory_write m w) h.home)
    write_agrees w None (Some q) found = absurd found
    write_agrees w (Some p) None found = absurd found
    write_agrees w (Some p) (Some q) found = stored_agrees w p.object q.object found.0 p.storage q.storage found.1

  -- ---- a step of a task

  module _ (operands : List Operand) (names places : List StorageName) (there : StandFor place_of names places) where
    by_names : List Placed
    by_names = placed_in operands names

    by_places : List Placed
    by_places = placed_in operands places

    -- the task sees the same byte at each address
    sees_same : (s t : TaskState Stores) → TasksAgree place_of s t → (a : ℕ)
        → task_byte (worker_byte (placed_in operands places)) t a ≡ task_byte (worker_byte (placed_in operands names)) s a
    sees_same s t h a =
        λ i. cond (covers scratch_range a) (slice_index (h.scratch i) (a - scratch_range.base))
        (byte_agrees s.memory t.memory h.memory _ _ (found_agrees operands names places there a) a i)

    written_by : (b : Bool) (s t : TaskState Stores) → TasksAgree place_of s t → (w : Write)
        → TasksAgree place_of
        (cond b (record s { scratch = list_put s.scratch (w.at - scratch_range.base) w.bytes }) (record s { memory = worker_write (placed_in operands names) s.memory w }))
        (cond b (record t { scratch = list_put t.scratch (w.at - scratch_range.base) w.bytes }) (record t { memory = worker_write (placed_in operands places) t.memory w }))
    written_by true s t h w = record {
      registers = h.registers;
      scratch = ap (λ xs. list_put xs (w.at - scratch_range.base) w.bytes) h.scratch;
      trap = h.trap;
      memory = h.memory;
    }
    written_by false s t h w = record {
      registers = h.registers;
      scratch = h.scratch;
      trap = h.trap;
      memory = write_agrees s.memory t.memory h.memory w _ _ (found_agrees operands names places there w.at);
    }

    task_written : (s t : TaskState Stores) → TasksAgree place_of s t → (w : Option Write)
        → TasksAgree place_of (task_write (worker_write (placed_in operands names)) s w) (task_write (worker_write (placed_in operands places)) t w)
    task_written s t h None = h
    task_written s t h (Some w) = written_by (covers scratch_range w.at) s t h w

    trapped_agrees : (s t : TaskState Stores) → TasksAgree place_of s t → (cause value value' : ℕ) → value' ≡ value
        → TasksAgree place_of (task_trapped s (trap_of s.registers cause value)) (task_trapped t (trap_of t.registers cause value'))
    trapped_agrees s t h cause value value' e = record {
      registers = h.registers;
      scratch = h.scratch;
      trap = λ i. Some (trap_of (h.registers i) cause (e i));
      memory = h.memory;
    }

    on_agrees : (s t : TaskState Stores) → TasksAgree place_of s t → (o : Stepped)
        → TasksAgree place_of (task_on (worker_write (placed_in operands names)) s o) (task_on (worker_write (placed_in operands places)) t o)
    on_agrees s t h (Executed r w) =
        let left = task_written s t h w in
        record { registers = refl; scratch = left.scratch; trap = left.trap; memory = left.memory }
    on_agrees s t h Called =
        trapped_agrees s t h CALL_IN_TASK (register_at s.registers 17) (register_at t.registers 17) (ap (λ (r : Registers). register_at r 17) h.registers)
    on_agrees s t h Ended = h
    on_agrees s t h (Trapped x) = record { registers = h.registers; scratch = h.scratch; trap = refl; memory = h.memory }
    on_agrees s t h Touched = h

    either : (b c : Bool) → c ≡ b → (s t u v : TaskState Stores) → TasksAgree place_of s t → TasksAgree place_of u v
        → TasksAgree place_of (cond b s u) (cond c t v)
    either b c e s t u v h k =
        subst (λ (x : Bool). TasksAgree place_of (cond b s u) (cond x t v)) (sym e) (by b)
      where
        by : (b : Bool) → TasksAgree place_of (cond b s u) (cond b t v)
        by true = h
        by false = k

    step_agrees : (budget : ℕ) (code : List SegmentState) (a b : Actor) → b ≡ a → (s t : TaskState Stores) → TasksAgree place_of s t
        → TasksAgree place_of (task_step (worker_byte (placed_in operands names)) (worker_write (placed_in operands names)) budget code a s)
        (task_step (worker_byte (placed_in operands places)) (worker_write (placed_in operands places)) budget code b t)
    unfolding task_step
    step_agrees budget code a b e s t h =
        let same : core_step b (task_byte (worker_byte (placed_in operands places)) t) (code_word code) t.registers
        ≡ core_step a (task_byte (worker_byte (placed_in operands names)) s) (code_word code) s.registers =
        λ i. core_step (e i) (λ x. sees_same s t h x i) (code_word code) (h.registers i) in
        either (is_over s) (is_over t) (λ i. is_some (h.trap i) || ((h.registers i).pc == END_PC)) s t _ _ h
        (either (nat_le budget s.registers.done) (nat_le budget t.registers.done) (λ i. nat_le budget (h.registers i).done) _ _ _ _
        (trapped_agrees s t h BUDGET_SPENT 0 0 refl)
        (subst (λ (o : Stepped). TasksAgree place_of
        (task_on (worker_write (placed_in operands names)) s (core_step a (task_byte (worker_byte (placed_in operands names)) s) (code_word code) s.registers))
        (task_on (worker_write (placed_in operands places)) t o)) (sym same)
        (on_agrees s t h (core_step a (task_byte (worker_byte (placed_in operands names)) s) (code_word code) s.registers))))

    stretch_agrees : (budget : ℕ) (code : List SegmentState) (a b : Actor) → b ≡ a → (n : ℕ) (s t : TaskState Stores) → TasksAgree place_of s t
        → TasksAgree place_of (task_stretch (worker_byte (placed_in operands names)) (worker_write (placed_in operands names)) budget code a n s)
        (task_stretch (worker_byte (placed_in operands places)) (worker_write (placed_in operands places)) budget code b n t)
    unfolding repeated
    stretch_agrees budget code a b e zero s t h = h
    stretch_agrees budget code a b e (suc n) s t h =
        stretch_agrees budget code a b e n _ _ (step_agrees budget code a b e s t h)

  -- ---- exec

  -- a worker that knows its storages by names, and the same that knows them by places
  pub exec_agrees : (code : List SegmentState) (limits : Limits) (quantum : ℕ) (x : Busy) (places : List StorageName) (s t : Stores)
      → StandFor place_of x.storages places → StoresAgree place_of s t
      → TasksAgree place_of (exec_stretch code limits quantum x s) (exec_stretch code limits quantum (record x { storages = places }) t)
  exec_agrees code limits quantum x places s t there h =
      stretch_agrees (operands_of x.task) x.storages places there limits.task_budget code
      (TaskActor s.home.ranges (operands_of x.task)) (TaskActor t.home.ranges (operands_of x.task))
      (ap (λ (m : Memory). TaskActor m.ranges (operands_of x.task)) h.home) quantum (task_state_of x s) (task_state_of (record x { storages = places }) t)
      (record { registers = refl; scratch = refl; trap = refl; memory = h })
