-- Memory that can't be written stays at home as it was loaded.
use Rattle.std.proofs.Common.{◌≡◌, inr, ℕ, suc, Bool, true, false, List, [], ◌∷◌, length, Option, Some, None, refl, sym}
use Rattle.std.proofs.Common.{ap, subst, ◌∙◌}
use Rattle.std.specs.Prelude.{◌==◌, cond, slice_get, unwrap_or, Result, Ok, Err}
use Rattle.std.specs.FinMap.{get}
use Rattle.std.proofs.lemmas.Bool.{false_from_ne_true}
use Rattle.std.proofs.lemmas.Option.{none-some, same_Some}
use Rattle.tss_base.specs.declared.operand.OpName.{OpName}
use Rattle.tss_base.specs.declared.operand.Operand.{Operand}
use Rattle.tss_base.specs.declared.operand.Task.{Task}
use Rattle.tss_base.specs.declared.machine.Limits.{Limits}
use Rattle.tss_base.specs.declared.machine.Machine.{Machine}
use Rattle.tss_base.specs.declared.event.Event.{Event}
use Rattle.tss_base.specs.declared.event.Event.TheVariants as event
use Rattle.tss_base.specs.Image.{ImageState, IsAccepted}
use Rattle.tss_model.specs.Access.{operands_of, writes}
use Rattle.tss_model.specs.Memory.{MemoryRange, Memory, covers, byte_at, memory_ranges, loaded}
use Rattle.tss_model.specs.Spawn.{spawn_of}
use Rattle.tss_model.specs.MainStep.{MainState, Call, Spawn, main_call}
use Rattle.tss_model.specs.MainStep.{spawn_call, spawn_on}
use Rattle.tss_protocol.specs.Mail.{StorageName, Home, Buffer}
use Rattle.tss_protocol.specs.State.{State, Flying, Busy, CopyState, initial_state}
use Rattle.tss_protocol.specs.Stations.{storages_of}
use Rattle.tss_protocol.specs.Buffers.{buffer_bytes}
use Rattle.tss_protocol.specs.MainEvent.{flat_of, call_next, after_call, main_by}
use Rattle.tss_protocol.specs.UnitMachine.{after_event, start_task, after_start, after_exec, after_copy, stores_of}
use Rattle.tss_locality.proofs.LeftFields.{left_home}
use Rattle.tss_names.specs.Tasks.{task_at, with_spawned, spawned_by_main, spawned_after_event}
use Rattle.tss_program_order.proofs.FlatEpoch.{spawn_of-spawned}
use Rattle.tss_program_order.proofs.FlatFixed.{IsFixed, fixed_apart, fixed_unstored}
use Rattle.tss_program_order.proofs.FlatMain.{NeverStored, main_stretch-leaves}
use Rattle.tss_program_order.proofs.FlatOperands.{IsFit, spawned-fit}
use Rattle.tss_control.proofs.rounds.Spawned.{among_object}
use Rattle.tss_program_order.proofs.RunKeeps.{HasGround}
use Rattle.tss_program_order.proofs.StoreBytes.{covers_parts}
use Rattle.tss_program_order.proofs.StoreFrames.{IsBeside, exec_stretch-left, outputs_zeroed-left, copy-beside}
use Rattle.tss_values.proofs.Values.{HasReturns}
use Rattle.tss_values.proofs.workers.Runs.{worker_separate}
use Rattle.tss_values.proofs.storages.FixedOutputs.{HasOutputs}
use Rattle.tss_values.proofs.WorkerFacts.{WorkerFacts}

-- ---- operands of spawned tasks

-- a task whose operands are fit
abbrev HasFitOperands : Limits → List MemoryRange → Task → Type 0
HasFitOperands limits ranges t =
    (k : ℕ) (o : Operand) → slice_get (operands_of t) k ≡ Some o → IsFit limits ranges o

-- each spawned task is one
abbrev pub HaveFitOperands : Limits → List MemoryRange → List Task → Type 0
HaveFitOperands limits ranges all = (n : ℕ) (t : Task) → task_at all n ≡ Some t → HasFitOperands limits ranges t

-- none is spawned yet
pub no_operands : (limits : Limits) (ranges : List MemoryRange) → HaveFitOperands limits ranges []
no_operands limits ranges n t e = absurd (none-some t e)

module _ (m : Machine) (i : ImageState) (all : List Task) (S : State) (image : HasGround i S)
    (fit : HaveFitOperands m.limits (memory_ranges i) all) where
  one_more : (t : Task) → HasFitOperands m.limits (memory_ranges i) t
      → HaveFitOperands m.limits (memory_ranges i) (t ∷ all)
  one_more t own n u e = by (n == suc (length all)) e
    where
      by : (b : Bool) → cond b (Some t) (task_at all n) ≡ Some u → HasFitOperands m.limits (memory_ranges i) u
      by true e = subst (HasFitOperands m.limits (memory_ranges i)) (same_Some t u e) own
      by false e = fit n u e

  fit_by_spawn : (x : Result Task ℕ)
      → spawn_of (spawn_call S.main.registers) S.home S.main.epoch m.limits S.main.spawned ≡ x
      → HaveFitOperands m.limits (memory_ranges i) (with_spawned all (spawn_on S.main x).1)
  fit_by_spawn (Err n) e = fit
  fit_by_spawn (Ok t) e =
      let call = spawn_call S.main.registers in
      one_more t (λ k o at.
      subst (λ ranges. IsFit m.limits ranges o) image.ranges
      (spawned-fit m.limits S.home S.main.epoch t
      (spawn_of-spawned call S.home S.main.epoch m.limits S.main.spawned t e) k o at))

  fit_by_call : (c : Option Call) → HaveFitOperands m.limits (memory_ranges i) (spawned_by_main m S all c)
  fit_by_call (Some Spawn) =
      fit_by_spawn (spawn_of (spawn_call S.main.registers) S.home S.main.epoch m.limits S.main.spawned) refl
  fit_by_call other = fit

  -- after every event they are
  pub HaveFitOperands-after_event : (e : Event)
      → HaveFitOperands m.limits (memory_ranges i) (spawned_after_event m S all e)
  HaveFitOperands-after_event event.Main = fit_by_call (call_next m S)
  HaveFitOperands-after_event e = fit

-- ---- fixed memory

-- home has there what was loaded
abbrev pub HasFixed : ImageState → State → Type 0
HasFixed i S = (a : ℕ) → IsFixed i a → byte_at S.home a ≡ byte_at (loaded i) a

-- at first
pub HasFixed-initial_state : (i : ImageState) → HasFixed i (initial_state i)
HasFixed-initial_state i a fixed = refl

module _ (m : Machine) (i : ImageState) (accepted : IsAccepted i) (S : State) (work : WorkerFacts m i S)
    (returns : HasReturns m i work.ts S) (fit : HaveFitOperands m.limits (memory_ranges i) work.all)
    (outputs : HasOutputs work.ts S) where
  open work use {buffers, image, workers, all, ts, ground}

  -- a written object has no fixed address
  written_unfixed : (a : ℕ) → IsFixed i a → (o : Operand) → IsFit m.limits (memory_ranges i) o → writes o.mode ≡ true
      → covers o.object a ≡ false
  written_unfixed a fixed o own writer =
      false_from_ne_true (covers o.object a) (λ inside.
      fixed_apart i accepted a fixed o.object (own.placed ∙ ap Some (own.written writer))
      (covers_parts o.object a inside))

  -- so a fixed address at home is beside what a spawned task writes
  fixed_beside : (a : ℕ) → IsFixed i a → (n : ℕ) (t : Task) → task_at all n ≡ Some t → (ss : List StorageName)
      → IsBeside (operands_of t) ss Home a
  fixed_beside a fixed n t spawned ss k o storage at told writer = record {
    home = λ mine its. written_unfixed a fixed o (fit n t spawned k o at) writer;
    buffer = λ b mine its. absurd (apart b its);
  }
    where
      apart : (b : OpName) → Home ≡ Buffer b → ⊥
      apart b e = cc

  -- ---- main

  same-main : (a : ℕ) → IsFixed i a → (c : Option Call) → byte_at (main_by m S c).home a ≡ byte_at S.home a
  same-main a fixed None =
      ap (λ (x : Option ℕ). unwrap_or x 0)
      ((main_stretch-leaves S.code m.limits m.sizes.quantum (flat_of S)).bytes a
      (subst (λ ranges. NeverStored ranges S.main.epoch a) (sym image.ranges)
      (fixed_unstored i accepted a fixed S.main.epoch)))
  same-main a fixed (Some call) = by (main_call m.limits S.home S.main call)
    where
      by : (p : MainState × Option Task) → byte_at (after_call S p).home a ≡ byte_at S.home a
      by (s, None) = refl
      by (s, Some t) = refl

  -- ---- workers

  same-exec : (a : ℕ) → IsFixed i a → (w : ℕ) (b : Option Busy) → get S.workers w ≡ b
      → byte_at (after_exec m S w b).home a ≡ byte_at S.home a
  same-exec a fixed w None e = refl
  same-exec a fixed w (Some b) e =
      let busy = ground.stages.workers w b e in
      exec_stretch-left S.code m.limits m.sizes.quantum b (stores_of S) (fixed.0) Home a
      (worker_separate m i S work w b e) busy.storages
      (fixed_beside a fixed b.task.number b.task busy.task b.storages)

  same-start : (a : ℕ) → IsFixed i a → (w : ℕ) (queue : List ℕ) → S.queue ≡ queue
      → byte_at (after_start m S w queue).home a ≡ byte_at S.home a
  same-start a fixed w [] e = refl
  same-start a fixed w (t ∷ queue) e = by (get S.flight t) refl
    where
      by : (x : Option Flying) → get S.flight t ≡ x
          → byte_at (start_task m S w t queue x).home a ≡ byte_at S.home a
      by None at = refl
      by (Some x) at =
          outputs_zeroed-left m.limits (stores_of S) (operands_of x.task) (storages_of x) (fixed.0) Home a
          (fixed_beside a fixed t x.task (ground.numbers.flight t x at).task (storages_of x))

  -- ---- copies

  copied_unfixed : (a : ℕ) → IsFixed i a → (bank : ℕ) (c : CopyState) → get S.copies bank ≡ Some c
      → covers c.object a ≡ false
  copied_unfixed a fixed bank c e =
      let has = inr (inr (inr (bank, c, e, refl, refl))) in
      let own = buffers.own c.version c.buffer has in
      let held = buffers.held c.version c.buffer has in
      let output = outputs c.buffer held.0 held.1 in
      let object = among_object ts c.version c.object (ground.round.within.named.copies bank c e) in
      let p = same_Some own.0 object.0 (sym own.2 ∙ object.1) in
      let q = same_Some own.1 output.0 (sym own.3 ∙ output.1) in
      let same : (own.1).object ≡ c.object = own.4 ∙ ap (λ (r : Operand). r.object) p ∙ object.2 in
      let of = ground.known.operands c.buffer own.1 own.3 in
      let good = fit c.buffer.task of.task of.spawned c.buffer.place own.1 of.place in
      let writer = ap (λ (r : Operand). writes r.mode) q ∙ ap writes output.2 in
      subst (λ x. covers x a ≡ false) same (written_unfixed a fixed own.1 good writer)

  same-copy : (a : ℕ) → IsFixed i a → (bank : ℕ) (c : Option CopyState) → get S.copies bank ≡ c
      → byte_at (after_copy S bank c).home a ≡ byte_at S.home a
  same-copy a fixed bank None e = refl
  same-copy a fixed bank (Some c) e =
      copy-beside S.home c (buffer_bytes S.contents c.buffer) a (returns.within bank c e)
      (copied_unfixed a fixed bank c e)

  -- ---- all events

  same-home : (a : ℕ) (T : State) → T.home ≡ S.home → byte_at T.home a ≡ byte_at S.home a
  same-home a T same = ap (λ (x : Memory). byte_at x a) same

  -- every event leaves what stands there
  pub same_fixed : (a : ℕ) → IsFixed i a → (e : Event) → byte_at (after_event m S e).home a ≡ byte_at S.home a
  unfolding after_event
  same_fixed a fixed event.Main = same-main a fixed (call_next m S)
  same_fixed a fixed (event.Start w) = same-start a fixed w S.queue refl
  same_fixed a fixed (event.Exec w) = same-exec a fixed w (get S.workers w) refl
  same_fixed a fixed (event.Copy b) = same-copy a fixed b (get S.copies b) refl
  same_fixed a fixed e = same-home a (after_event m S e) (left_home m S e refl)
