-- A worker's stretch lowers the measure: each of its steps completes an instruction, or traps, until its task is over.
use Rattle.std.proofs.Common.{◌≡◌, ℕ, zero, suc, ◌+◌, ◌<◌, ◌≤◌, Bool, true, false, List, Option, Some, None, refl, sym}
use Rattle.std.proofs.Common.{ap, subst, arith}
use Rattle.std.specs.Prelude.{cond, ◌-◌, ◌==◌, not, is_some, nat_le}
use Rattle.std.specs.FinMap.{get}
use Rattle.std.proofs.lemmas.Bool.{both_ways, or_parts, leb-false}
use Rattle.tss_base.specs.declared.operand.Operand.{Operand}
use Rattle.tss_base.specs.declared.range.Range.{Range}
use Rattle.tss_base.specs.declared.ending.Trap.{Trap}
use Rattle.tss_base.specs.declared.machine.Key.TheVariants.{Quantum}
use Rattle.tss_base.specs.declared.machine.Machine.{Machine}
use Rattle.tss_base.specs.declared.event.Event.TheVariants as event
use Rattle.tss_base.specs.Image.{SegmentState}
use Rattle.tss_base.specs.Machine.{IsAdmissible}
use Rattle.tss_maps.proofs.Keys.{nat_order}
use Rattle.tss_maps.proofs.Sums.{sum_written}
use Rattle.tss_model.specs.Memory.{MemoryRange, range_of, scratch_range, covers, code_word, list_put}
use Rattle.tss_base.specs.declared.addresses.TheConstants.{END_PC}
use Rattle.tss_model.specs.Access.{TaskActor, Purpose, Touch, Granted, Denied, operands_of, task_access}
use Rattle.tss_model.specs.Access.{task_may_within}
use Rattle.tss_model.specs.Core.{Write, Stepped, Executed, Called, Ended, Trapped, Touched, core_step}
use Rattle.tss_model.specs.TaskRun.{TaskState, repeated, is_over, task_byte, task_write, task_on, task_step}
use Rattle.tss_protocol.specs.State.{State, Busy}
use Rattle.tss_protocol.specs.Workers.{placed_in, worker_byte, worker_write, can_exec, has_ended, task_state_of}
use Rattle.tss_protocol.specs.Workers.{busy_after, exec_stretch}
use Rattle.tss_protocol.specs.UnitMachine.{IsEnabled, is_enabled, after_event, after_exec, stores_of}
use Rattle.tss_program_order.proofs.FlatCore.{IsStep, core_step-step}
use Rattle.tss_program_order.proofs.FlatTaskAlike.{task_step-over, task_step-spent, task_step-core}
use Rattle.tss_progress.proofs.bound.Measure.{trap_left, busy_left, IsLowered}

-- no access of a task touches
never_touched : (ranges : List MemoryRange) (operands : List Operand) (purpose : Purpose) (q : Range)
    → task_access ranges operands purpose q ≡ Touch → ⊥
never_touched ranges operands purpose q e = by (task_may_within purpose operands q (range_of ranges q)) e
  where
    by : (b : Bool) → cond b Granted Denied ≡ Touch → ⊥
    by true e = cc
    by false e = cc

-- a task that hasn't trapped may
trap_one : (t : Option Trap) → is_some t ≡ false → trap_left t ≡ 1
trap_one None on = refl
trap_one (Some t) on = absurd (cc)

-- what is left of a task that runs
abbrev task_left : {M : Type 0} → ℕ → TaskState M → ℕ
task_left budget s = (budget - s.registers.done) + trap_left s.trap

module _ {M : Type 0} (byte : M → ℕ → ℕ) (write : M → Write → M) (budget : ℕ) (code : List SegmentState)
    (ranges : List MemoryRange) (operands : List Operand) where
  -- less is left after another state of it
  abbrev LeavesLess : TaskState M → TaskState M → Type 0
  LeavesLess s u = suc (task_left budget u) ≤ task_left budget s

  -- or no more
  abbrev LeavesNoMore : TaskState M → TaskState M → Type 0
  LeavesNoMore s u = task_left budget u ≤ task_left budget s

  -- a step
  abbrev step : TaskState M → TaskState M
  step s = task_step byte write budget code (TaskActor ranges operands) s

  write_keeps : (s : TaskState M) (w : Write) → (task_write write s (Some w)).trap ≡ s.trap
  write_keeps s w = by (covers scratch_range w.at)
    where
      by : (b : Bool) → (cond b (record s { scratch = list_put s.scratch (w.at - scratch_range.base) w.bytes })
          (record s { memory = write s.memory w })).trap ≡ s.trap
      by true = refl
      by false = refl

  on_less : (s : TaskState M) (x : Stepped) → is_over s ≡ false → IsStep (TaskActor ranges operands) s.registers x
      → s.registers.done < budget → trap_left s.trap ≡ 1 → LeavesLess s (task_on write s x)
  on_less s (Executed r None) on is left one = omega (arith, is, left)
  on_less s (Executed r (Some w)) on is left one =
      let same = ap trap_left (write_keeps s w) in omega (arith, is.0, left, same)
  on_less s Called on is left one = omega (arith, one)
  on_less s Ended on is left one =
      absurd (both_ways _ (or_parts (is_some s.trap) (s.registers.pc == END_PC) on).1 is)
  on_less s (Trapped t) on is left one = omega (arith, one)
  on_less s Touched on is left one = absurd (never_touched ranges operands is.0 is.1 is.2)

  on_most : (s : TaskState M) (x : Stepped) → IsStep (TaskActor ranges operands) s.registers x
      → LeavesNoMore s (task_on write s x)
  on_most s (Executed r None) is = omega (arith, is)
  on_most s (Executed r (Some w)) is = let same = ap trap_left (write_keeps s w) in omega (arith, is.0, same)
  on_most s Called is = omega arith
  on_most s Ended is = omega arith
  on_most s (Trapped t) is = omega arith
  on_most s Touched is = omega arith

  core_is : (s : TaskState M) → IsStep (TaskActor ranges operands) s.registers
      (core_step (TaskActor ranges operands) (task_byte byte s) (code_word code) s.registers)
  core_is s = core_step-step (TaskActor ranges operands) (task_byte byte s) s.registers (code_word code)

  step_most : (s : TaskState M) → LeavesNoMore s (step s)
  step_most s = by (is_over s) (nat_le budget s.registers.done) refl refl
    where
      by : (a b : Bool) → is_over s ≡ a → nat_le budget s.registers.done ≡ b → LeavesNoMore s (step s)
      by true b over spent =
          subst (LeavesNoMore s) (sym (task_step-over byte write budget code (TaskActor ranges operands) s over))
          (omega arith)
      by false true on spent =
          subst (LeavesNoMore s)
          (sym (task_step-spent byte write budget code (TaskActor ranges operands) s on spent)) (omega arith)
      by false false on left =
          subst (LeavesNoMore s)
          (sym (task_step-core byte write budget code (TaskActor ranges operands) s on left))
          (on_most s _ (core_is s))

  step_less : (s : TaskState M) → is_over s ≡ false → LeavesLess s (step s)
  step_less s on = by (nat_le budget s.registers.done) refl
    where
      one : trap_left s.trap ≡ 1
      one = trap_one s.trap (or_parts (is_some s.trap) (s.registers.pc == END_PC) on).0

      by : (b : Bool) → nat_le budget s.registers.done ≡ b → LeavesLess s (step s)
      by true spent =
          subst (LeavesLess s)
          (sym (task_step-spent byte write budget code (TaskActor ranges operands) s on spent)) (omega (arith, one))
      by false left =
          subst (LeavesLess s)
          (sym (task_step-core byte write budget code (TaskActor ranges operands) s on left))
          (on_less s _ on (core_is s) (leb-false budget s.registers.done left) one)

  stretch_most : (n : ℕ) (s : TaskState M) → LeavesNoMore s (repeated step n s)
  unfolding repeated
  stretch_most zero s = omega arith
  stretch_most (suc n) s =
      let rest = stretch_most n (step s) in let one = step_most s in omega (arith, rest, one)

  -- a stretch leaves less
  stretch_less : (n : ℕ) (s : TaskState M) → 1 ≤ n → is_over s ≡ false
      → LeavesLess s (repeated (task_step byte write budget code (TaskActor ranges operands)) n s)
  unfolding repeated
  stretch_less zero s some on = absurd (omega (arith, some))
  stretch_less (suc n) s some on =
      let rest = stretch_most n (step s) in let one = step_less s on in omega (arith, rest, one)

-- ---- the event

module _ (m : Machine) (S : State) (admissible : IsAdmissible m) (w : ℕ) where
  exec_less : (b : Option Busy) → get S.workers w ≡ b → can_exec b ≡ true → IsLowered m S (after_exec m S w b)
  exec_less None e can = absurd (cc)
  exec_less (Some b) e can =
      let placed = placed_in (operands_of b.task) b.storages in
      let some = (admissible.sizes Quantum m.sizes.quantum refl).0 in
      let s = exec_stretch S.code m.limits m.sizes.quantum b (stores_of S) in
      let less = stretch_less (worker_byte placed) (worker_write placed) m.limits.task_budget S.code S.home.ranges
      (operands_of b.task) m.sizes.quantum (task_state_of b (stores_of S)) some (not_over (has_ended b) can) in
      let sum = sum_written nat_order (busy_left m.limits.task_budget) S.workers w b (busy_after b s) e in
      omega (arith, less, sum)
    where
      not_over : (a : Bool) → not a ≡ true → a ≡ false
      not_over true e = absurd (cc)
      not_over false e = refl

  -- a stretch lowers the measure
  pub lowered_exec : IsEnabled m S (event.Exec w) → IsLowered m S (after_event m S (event.Exec w))
  unfolding is_enabled after_event
  lowered_exec on = exec_less (get S.workers w) refl on
