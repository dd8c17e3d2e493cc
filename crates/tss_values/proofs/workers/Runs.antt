-- A busy worker stands where it stood in program order as long as the storages of its operands are left.
use Rattle.std.proofs.Common.{◌≡◌, ◌≢◌, ℕ, ◌≤◌, true, false, List, length, Some, refl, sym, ap, ◌∙◌, subst}
use Rattle.std.specs.Prelude.{slice_get}
use Rattle.std.specs.FinMap.{get}
use Rattle.std.proofs.lemmas.Option.{same_Some}
use Rattle.tss_base.specs.declared.range.Range.{Range}
use Rattle.tss_base.specs.declared.operand.OpName.{OpName}
use Rattle.tss_base.specs.declared.operand.Operand.{Operand}
use Rattle.tss_base.specs.declared.operand.Task.{Task}
use Rattle.tss_base.specs.declared.machine.Machine.{Machine}
use Rattle.tss_base.specs.declared.marks.Stage.TheVariants as stage
use Rattle.tss_base.specs.Image.{ImageState}
use Rattle.tss_model.specs.Memory.{MemoryRange, covers, byte_at, range_of}
use Rattle.tss_model.specs.Access.{operands_of}
use Rattle.tss_model.specs.InOrder.{Started, started_at}
use Rattle.tss_protocol.specs.Names.{operand_name}
use Rattle.tss_protocol.specs.Mail.{StorageName, Buffer, Source}
use Rattle.tss_protocol.specs.State.{State, Flying, Busy}
use Rattle.tss_protocol.specs.Stations.{is_complete, storages_of}
use Rattle.tss_protocol.specs.Buffers.{buffer_bytes}
use Rattle.tss_protocol.specs.Workers.{Stores, Placed, placed_in, storage_byte}
use Rattle.tss_protocol.specs.UnitMachine.{stores_of}
use Rattle.tss_program_order.proofs.FlatFixed.{IsFixed}
use Rattle.tss_program_order.proofs.FlatNumbers.{one_place}
use Rattle.tss_program_order.proofs.FlatStarted.{started-fit}
use Rattle.tss_names.proofs.StageLemmas.{running≢finished}
use Rattle.tss_values.proofs.storages.Shares.{HoldsStorage}
use Rattle.tss_program_order.proofs.StoreBytes.{IsPlaced, AreSeparate}
use Rattle.tss_program_order.proofs.StoreStart.{placed_in-parts}
use Rattle.tss_program_order.proofs.StoreFrames.{IsBeside}
use Rattle.tss_program_order.proofs.StoreFollows.{RunsInOrder, runs-beside}
use Rattle.tss_values.proofs.Values.{Starts}
use Rattle.tss_values.proofs.workers.Hold.{IsHeld}
use Rattle.tss_values.proofs.workers.Apart.{scope_left, held, task_separate, holder_beside}
use Rattle.tss_values.proofs.WorkerFacts.{WorkerFacts}

-- memory that can't be written shows at home what was loaded there
abbrev pub SameFixed : ImageState → State → State → Type 0
SameFixed i S T = (a : ℕ) → IsFixed i a → byte_at T.home a ≡ byte_at S.home a

-- the busy worker stands where program order has its task, if that starts it
abbrev pub RunsAt : Machine → ImageState → Stores → Busy → Type 0
RunsAt m i x b =
    (s : Started) → Starts m i b.task.number s
    → (r : RunsInOrder m i x b) × (s ≡ record { task = b.task; memory = r.memory })

-- all of them
abbrev pub AllRun : Machine → ImageState → State → Type 0
AllRun m i S = (w : ℕ) (b : Busy) → get S.workers w ≡ Some b → RunsAt m i (stores_of S) b

-- by its number program order starts a task once
pub runs_with : (m : Machine) (i : ImageState) (x : Stores) (b : Busy) → RunsInOrder m i x b → RunsAt m i x b
runs_with m i x b r s starts =
    let t : Started = record { task = b.task; memory = r.memory } in
    let same = one_place i m.limits starts.0 r.place s t starts.1 r.started starts.2 in
    (r, same_Some s t (sym starts.1 ∙ ap (started_at i m.limits) same ∙ r.started))

module _ (m : Machine) (i : ImageState) (S : State) (work : WorkerFacts m i S) where
  open work use {facts, buffers, image, workers, ts, g, ground, control}

  -- ---- what a worker has

  module _ (w : ℕ) (b : Busy) (there : get S.workers w ≡ Some b) where
    abbrev flying : Flying
    flying = (workers.told w b there).0

    flies : get S.flight b.task.number ≡ Some flying
    flies = (workers.told w b there).1

    complete : is_complete flying ≡ true
    complete = (ground.stages.workers w b there).ready.complete flying flies

    unfinished : flying.stage ≡ stage.Finished → ⊥
    unfinished e =
        let r = control.holders.runners.running w b there in
        let same = same_Some r.0 flying (sym r.1 ∙ flies) in
        running≢finished (sym r.2 ∙ ap (λ (x : Flying). x.stage) same ∙ e)

    -- its operands, in its own words
    pub worker_holds : (k : ℕ) (p : Operand) (storage : StorageName) → slice_get (operands_of b.task) k ≡ Some p
        → slice_get b.storages k ≡ Some storage → IsHeld ts g S b.task.number k p storage
    worker_holds k p storage at told =
        let t = workers.told w b there in
        held m S facts buffers b.task.number flying flies complete unfinished k p storage
        (ap (λ (t : Task). slice_get (operands_of t) k) t.2 ∙ at)
        (ap (λ (ss : List StorageName). slice_get ss k) (sym t.3) ∙ told)

    -- are apart
    pub worker_separate : AreSeparate (placed_in (operands_of b.task) b.storages)
    worker_separate =
        let t = workers.told w b there in
        subst (λ (u : Task). AreSeparate (placed_in (operands_of u) b.storages)) t.2
        (subst (λ (ss : List StorageName). AreSeparate (placed_in (operands_of flying.task) ss)) (sym t.3)
        (task_separate m S facts buffers b.task.number flying flies complete unfinished))

    beside_told : (other : StorageName) (a : ℕ) → IsBeside (operands_of flying.task) (storages_of flying) other a
        → IsBeside (operands_of b.task) b.storages other a
    beside_told other a beside =
        let t = workers.told w b there in
        subst (λ (u : Task). IsBeside (operands_of u) b.storages other a) t.2
        (subst (λ (ss : List StorageName). IsBeside (operands_of flying.task) ss other a) (sym t.3) beside)

    -- and lie beside what operands of other tasks hold, where it writes them
    pub worker_beside : (q : OpName) (r : Operand) (t : Source) → HoldsStorage ts g S q r t
        → q.task ≢ b.task.number → (a : ℕ) → covers r.object a ≡ true
        → IsBeside (operands_of b.task) b.storages t.storage a
    worker_beside q r t l apart a inside =
        beside_told t.storage a
        (holder_beside m S facts buffers b.task.number flying flies complete unfinished q r t l
        apart a inside)

  -- ---- the stores are left

  -- they are the same
  pub runs_same : (T : State) → T.home ≡ S.home → T.contents ≡ S.contents
      → ((w : ℕ) (b : Busy) → get T.workers w ≡ Some b → get S.workers w ≡ Some b) → AllRun m i T
  runs_same T home contents back w b there =
      subst (λ (x : Stores). RunsAt m i x b) (λ j. record { home = sym home j; contents = sym contents j })
      (λ s starts. workers.runs w b s (back w b there) starts)

  -- what the operands of a worker hold is left in other stores
  pub record LeavesHeld (x : Stores) (n : ℕ) : Type 0 where
    pub ranges : x.home.ranges ≡ S.home.ranges
    pub long : (q : OpName) (r : Operand) (t : Source) (b : OpName) → HoldsStorage ts g S q r t → q.task ≡ n
        → t.storage ≡ Buffer b → r.object.len ≤ m.limits.object_bytes
        → r.object.len ≤ length (buffer_bytes S.contents b) → r.object.len ≤ length (buffer_bytes x.contents b)
    pub bytes : (q : OpName) (r : Operand) (t : Source) → HoldsStorage ts g S q r t → q.task ≡ n → (a : ℕ)
        → covers r.object a ≡ true
        → storage_byte x r.object t.storage a ≡ storage_byte (stores_of S) r.object t.storage a
    pub fixed : (a : ℕ) → IsFixed i a → byte_at x.home a ≡ byte_at S.home a

  module _ (w : ℕ) (b : Busy) (there : get S.workers w ≡ Some b) (x : Stores) (left : LeavesHeld x b.task.number)
      (r : RunsInOrder m i (stores_of S) b) where
    placed : List Placed
    placed = placed_in (operands_of b.task) b.storages

    room_left : (k : ℕ) (p : Placed) (n : OpName) → IsPlaced (placed_in (operands_of b.task) b.storages) k p
        → p.storage ≡ Buffer n → p.object.len ≤ length (buffer_bytes x.contents n)
    room_left k p n at is =
        let o = placed_in-parts (operands_of b.task) b.storages k p at in
        let h = worker_holds w b there k o.0 p.storage o.1 o.2 in
        let fit = started-fit i m.limits r.place (record { task = b.task; memory = r.memory }) r.started k o.0 o.1 in
        subst (λ (z : Range). z.len ≤ length (buffer_bytes x.contents n)) o.3
        (left.long (operand_name b.task.number k) o.0 h.source n h.holds refl (h.told ∙ is) fit.short
        (subst (λ (z : Range). z.len ≤ length (buffer_bytes S.contents n)) (sym o.3)
        (r.alike.memory.room k p n at is)))

    owned_left : (k : ℕ) (p : Placed) → IsPlaced (placed_in (operands_of b.task) b.storages) k p → (a : ℕ)
        → covers p.object a ≡ true
        → storage_byte x p.object p.storage a ≡ storage_byte (stores_of S) p.object p.storage a
    owned_left k p at a inside =
        let o = placed_in-parts (operands_of b.task) b.storages k p at in
        let h = worker_holds w b there k o.0 p.storage o.1 o.2 in
        subst (λ (st : StorageName). storage_byte x p.object st a ≡ storage_byte (stores_of S) p.object st a) h.told
        (subst (λ (z : Range).
        storage_byte x z h.source.storage a ≡ storage_byte (stores_of S) z h.source.storage a) o.3
        (left.bytes (operand_name b.task.number k) o.0 h.source h.holds refl a
        (ap (λ (z : Range). covers z a) o.3 ∙ inside)))

    -- so the worker stands where it stood
    stays_there : RunsInOrder m i x b
    stays_there =
        runs-beside m i (stores_of S) x b r left.ranges room_left
        (scope_left (operands_of b.task) b.storages r.count (worker_separate w b there) (stores_of S) x S.home.ranges
        owned_left (λ q a placed covered.
        left.fixed a (q, subst (λ (rs : List MemoryRange). range_of rs q ≡ Some false) image.ranges placed, covered)))

  -- so each worker whose operands are left stands where it stood
  pub runs_left : (w : ℕ) (b : Busy) → get S.workers w ≡ Some b → (x : Stores) → LeavesHeld x b.task.number
      → RunsAt m i x b
  runs_left w b there x left s starts =
      runs_with m i x b (stays_there w b there x left (workers.runs w b s there starts).0) s starts
