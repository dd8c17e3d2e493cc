-- The outputs of a task before it runs, and its run to its end.
use Rattle.std.proofs.Common.{◌≡◌, ℕ, suc, ◌+◌, ◌<◌, Bool, true, false, List, length, drop, get_or, Option, Some, None, refl, sym, ap, ◌∙◌, drop-cons, add-one}
use Rattle.std.specs.Prelude.{cond}
use Rattle.std.proofs.lemmas.Option.{slice_get-get_or}
use Rattle.tss_base.specs.declared.operand.Mode.{Mode}
use Rattle.tss_base.specs.declared.operand.Mode.TheVariants.{Input, Output, Inout}
use Rattle.tss_base.specs.declared.operand.Operand.{Operand}
use Rattle.tss_base.specs.declared.operand.Task.{Task}
use Rattle.tss_base.specs.declared.ending.Trap.{Trap}
use Rattle.tss_base.specs.declared.machine.Limits.{Limits}
use Rattle.tss_base.specs.Image.{SegmentState}
use Rattle.tss_model.specs.Memory.{MemoryRange, Memory, range_of, zeroed, zeros, scratch_range}
use Rattle.tss_model.specs.Registers.{Registers, task_registers}
use Rattle.tss_model.specs.Access.{reads, writes, operands_of}
use Rattle.tss_model.specs.TaskRun.{TaskState, zeroed_output, zeroed_outputs}
use Rattle.tss_program_order.proofs.FlatSteps.{repeated-add, repeated-still}
use Rattle.tss_steps.specs.Seen.{Terms}
use Rattle.tss_steps.specs.Tasks.{task_now, step_by, stretch_by}
use Rattle.tss_steps.specs.Placing.{is_placed, are_placed}
use Rattle.tss_steps.proofs.TaskLemmas.{step-over}
use Rattle.tss_inorder.specs.Home.{home_terms}
use Rattle.tss_inorder.specs.Ran.{end_of}
use Rattle.tss_inorder.specs.Left.{IsSameTask}
use Rattle.tss_inorder.specs.declared.views.HomeTask.{HomeTask}
use Rattle.tss_steps.proofs.PlaceLemmas.{all_at, placed_in}

-- ---- outputs

-- what isn't read is written
written_output : (mode : Mode) → reads mode ≡ false → writes mode ≡ true
written_output Input h = absurd (cc)
written_output Output h = refl
written_output Inout h = absurd (cc)

-- an output lies in memory that can be written
pub output_place : (ranges : List MemoryRange) (operands : List Operand) (i : ℕ) (d o : Operand) → are_placed ranges operands ≡ true → i < length operands
    → o ≡ get_or operands i d → reads o.mode ≡ false → range_of ranges o.object ≡ Some true
output_place ranges operands i d o placed within e unread =
    let there = all_at (is_placed ranges) operands i (get_or operands i d) placed (slice_get-get_or operands i d within) in
    let p = placed_in o.mode (range_of ranges o.object) (ap (is_placed ranges) e ∙ there) in
    p.1 ∙ ap Some (p.2 (written_output o.mode unread))

-- one operand more, from the last to the first
pub one_more_read : (m n : Memory) (operands : List Operand) (i j : ℕ) (d o : Operand) → j + 1 ≡ i → j < length operands → o ≡ get_or operands j d
    → n ≡ zeroed_outputs m (drop i operands) → reads o.mode ≡ true → n ≡ zeroed_outputs m (drop j operands)
one_more_read m n operands i j d o step within e zeroed_yet read =
    zeroed_yet
    ∙ sym (ap (λ (b : Bool). cond b (zeroed_outputs m (drop i operands)) (zeroed (zeroed_outputs m (drop i operands)) o.object)) read)
    ∙ ap (λ (x : Operand). zeroed_output (zeroed_outputs m (drop i operands)) x) e
    ∙ ap (λ (k : ℕ). zeroed_output (zeroed_outputs m (drop k operands)) (get_or operands j d)) (sym (sym (add-one j) ∙ step))
    ∙ ap (zeroed_outputs m) (sym (drop-cons operands j d within))

pub one_more_zeroed : (m n k : Memory) (operands : List Operand) (i j : ℕ) (d o : Operand) → j + 1 ≡ i → j < length operands → o ≡ get_or operands j d
    → n ≡ zeroed_outputs m (drop i operands) → reads o.mode ≡ false → k ≡ zeroed n o.object → k ≡ zeroed_outputs m (drop j operands)
one_more_zeroed m n k operands i j d o step within e zeroed_yet unread written =
    written
    ∙ ap (λ (x : Memory). zeroed x o.object) zeroed_yet
    ∙ sym (ap (λ (b : Bool). cond b (zeroed_outputs m (drop i operands)) (zeroed (zeroed_outputs m (drop i operands)) o.object)) unread)
    ∙ ap (λ (x : Operand). zeroed_output (zeroed_outputs m (drop i operands)) x) e
    ∙ ap (λ (k : ℕ). zeroed_output (zeroed_outputs m (drop k operands)) (get_or operands j d)) (sym (sym (add-one j) ∙ step))
    ∙ ap (zeroed_outputs m) (sym (drop-cons operands j d within))

-- ---- to its end

-- a view is of its own task
pub same_task : (v : HomeTask) → IsSameTask v v
same_task v = record { ranges = refl; reference = refl; scratch_reference = refl }

-- one step more
one_more : (t : Terms Memory) (budget : ℕ) (s x : TaskState Memory) → x ≡ stretch_by t budget budget s → stretch_by t budget 1 x ≡ stretch_by t budget (suc budget) s
one_more t budget s x e =
    ap (stretch_by t budget 1) e
    ∙ sym (repeated-add (step_by t budget) budget 1 s)
    ∙ ap (λ (k : ℕ). stretch_by t budget k s) (add-one budget)

module _ (t : Terms Memory) (budget : ℕ) (r q : Registers) (xs ys : List ℕ) (m n : Memory) where
  -- leaves a task that has trapped as it is
  pub run-trapped : (trap : Trap) → task_now q ys n (Some trap) ≡ stretch_by t budget budget (task_now r xs m None)
      → task_now q ys n (Some trap) ≡ stretch_by t budget (suc budget) (task_now r xs m None)
  run-trapped trap e =
      sym (repeated-still (step_by t budget) 1 (task_now q ys n (Some trap)) (step-over t budget (task_now q ys n (Some trap)) refl))
      ∙ one_more t budget (task_now r xs m None) (task_now q ys n (Some trap)) e

-- and else is the last
module _ (t u : Terms Memory) (same : u ≡ t) (budget : ℕ) (r q : Registers) (xs ys : List ℕ) (m n : Memory) where
  pub run-last : (p : Registers) (zs : List ℕ) (k : Memory) (trap : Option Trap) → task_now q ys n None ≡ stretch_by t budget budget (task_now r xs m None)
      → task_now p zs k trap ≡ stretch_by u budget 1 (task_now q ys n None) → task_now p zs k trap ≡ stretch_by t budget (suc budget) (task_now r xs m None)
  run-last p zs k trap e last =
      last
      ∙ ap (λ (x : Terms Memory). stretch_by x budget 1 (task_now q ys n None)) same
      ∙ one_more t budget (task_now r xs m None) (task_now q ys n None) e

-- a task that was started, with zeros at its outputs and in its scratch, and ran to its end
module _ (code : List SegmentState) (limits : Limits) (m z n : Memory) (t : Task) (r q : Registers) (scratch ys : List ℕ) (operands : List Operand) (trap : Option Trap)
    (regs : r ≡ task_registers t) (bytes : scratch ≡ zeros scratch_range.len) (listed : operands ≡ operands_of t)
    (zeroed : z ≡ zeroed_outputs m (operands_of t)) (ranges : z.ranges ≡ m.ranges)
    (ran : task_now q ys n trap ≡ stretch_by (home_terms code z.ranges operands) limits.task_budget (suc limits.task_budget) (task_now r scratch z None)) where
  pub ran_to_end : task_now q ys n trap ≡ end_of code limits m t
  ran_to_end =
      ran
      ∙ (λ i. stretch_by (home_terms code (ranges i) (listed i)) limits.task_budget (suc limits.task_budget) (task_now (regs i) (bytes i) (zeroed i) None))

  pub ran-memory : n ≡ (end_of code limits m t).memory
  ran-memory = ap (λ (s : TaskState Memory). s.memory) ran_to_end

  pub ran-trap : trap ≡ (end_of code limits m t).trap
  ran-trap = ap (λ (s : TaskState Memory). s.trap) ran_to_end

  pub ran-done : q.done ≡ (end_of code limits m t).registers.done
  ran-done = ap (λ (s : TaskState Memory). s.registers.done) ran_to_end
