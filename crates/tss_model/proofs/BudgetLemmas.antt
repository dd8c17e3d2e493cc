-- A step completes one instruction, so a task stays within its budget.
use Rattle.std.proofs.Common.{◌≡◌, ℕ, zero, suc, ◌+◌, ◌%◌, ◌<◌, ◌≤◌, Bool, true, false, List, Option, Some, None, refl}
use Rattle.std.proofs.Common.{ap, arith}
use Rattle.std.specs.Prelude.{◌==◌, nat_le, if◌then◌else◌, slice_set}
use Rattle.std.proofs.lemmas.Bool.{leb-false}
use Rattle.tss_base.specs.Image.{SegmentState}
use Rattle.tss_isa.specs.declared.instr.LoadKind.{LoadKind}
use Rattle.tss_isa.specs.declared.instr.StoreKind.{StoreKind}
use Rattle.tss_isa.specs.declared.instr.Instr.{Instr}
use Rattle.tss_isa.specs.declared.instr.Instr.TheVariants.{Lui, Auipc, Jal, Jalr, Branch, Load, Store, OpImm, Op, Fence}
use Rattle.tss_isa.specs.declared.instr.Instr.TheVariants.{Ecall, Ebreak}
use Rattle.tss_isa.specs.InstrTable.{instr_of}
use Rattle.tss_model.specs.Access.{Actor, Loads, Stores, Access, Granted, Denied, Touch, access_of}
use Rattle.tss_base.specs.declared.causes.TheConstants.{JUMP_MISALIGNED, LOAD_MISALIGNED, STORE_MISALIGNED}
use Rattle.tss_base.specs.declared.causes.TheConstants.{BUDGET_SPENT}
use Rattle.tss_model.specs.Registers.{Registers, register_at, with_register, next_pc, completed, trap_of}
use Rattle.tss_model.specs.Memory.{code_word}
use Rattle.tss_model.specs.Core.{Write, Stepped, Executed, Called, Ended, Trapped, Touched, result_in, jump_to}
use Rattle.tss_model.specs.Core.{branch_if, passes, load_on, load_from, loaded_value, load_range, load_width, store_on}
use Rattle.tss_model.specs.Core.{store_to, stored_value, store_range, store_width, execute, execute_word}
use Rattle.tss_model.specs.Core.{execute_fetched, moved, core_step}
use Rattle.tss_model.specs.TaskRun.{TaskState, is_over, repeated, task_byte, task_trapped, task_on, task_step}
use Rattle.tss_base.specs.declared.addresses.TheConstants.{END_PC}

-- an instruction that is executed is one more
abbrev CompletesOne : Registers → Stepped → Type 0
CompletesOne r (Executed q w) = q.done ≡ r.done + 1
CompletesOne r Called = Unit {0}
CompletesOne r Ended = Unit {0}
CompletesOne r (Trapped t) = Unit {0}
CompletesOne r Touched = Unit {0}

done-with_register : (r : Registers) (n v : ℕ) → (with_register r n v).done ≡ r.done
done-with_register r n v =
    elim (n == 0) as (λ b. (if b then r else record r { values = slice_set r.values n v }).done ≡ r.done) [
      | true ↦ refl
      | false ↦ refl
    ]

completes-result : (r : Registers) (rd v : ℕ) → CompletesOne r (result_in r rd v)
completes-result r rd v = ap (λ n. n + 1) (done-with_register r rd v)

completes-jump : (r : Registers) (rd target : ℕ) → CompletesOne r (jump_to r rd target)
completes-jump r rd target =
    elim (target % 4 == 0)
    as (λ b. CompletesOne r (if b then Executed (completed (with_register r rd (next_pc r)) target) None
    else Trapped (trap_of r JUMP_MISALIGNED target))) [
      | true ↦ ap (λ n. n + 1) (done-with_register r rd (next_pc r))
      | false ↦ tt
    ]

completes-branch : (taken : Bool) (r : Registers) (target : ℕ) → CompletesOne r (branch_if taken r target)
completes-branch true r target = completes-jump r 0 target
completes-branch false r target = refl

completes-load_on : (a : Access) (r : Registers) (rd at v : ℕ) → CompletesOne r (load_on a r rd at v)
completes-load_on Granted r rd at v = completes-result r rd v
completes-load_on Denied r rd at v = tt
completes-load_on Touch r rd at v = tt

completes-store_on : (a : Access) (r : Registers) (w : Write) → CompletesOne r (store_on a r w)
completes-store_on Granted r w = refl
completes-store_on Denied r w = tt
completes-store_on Touch r w = tt

module _ (actor : Actor) (byte : ℕ → ℕ) (r : Registers) where
  completes-load : (kind : LoadKind) (rd at : ℕ) → CompletesOne r (load_from actor byte r kind rd at)
  completes-load kind rd at =
      elim (at % load_width kind == 0)
      as (λ b. CompletesOne r (if b
      then load_on (access_of actor Loads (load_range kind at)) r rd at (loaded_value byte kind at)
      else Trapped (trap_of r LOAD_MISALIGNED at))) [
        | true ↦ completes-load_on (access_of actor Loads (load_range kind at)) r rd at (loaded_value byte kind at)
        | false ↦ tt
      ]

  completes-store : (kind : StoreKind) (at v : ℕ) → CompletesOne r (store_to actor r kind at v)
  completes-store kind at v =
      elim (at % store_width kind == 0)
      as (λ b. CompletesOne r (if b
      then store_on (access_of actor Stores (store_range kind at)) r (stored_value kind at v)
      else Trapped (trap_of r STORE_MISALIGNED at))) [
        | true ↦ completes-store_on (access_of actor Stores (store_range kind at)) r (stored_value kind at v)
        | false ↦ tt
      ]

  completes-execute : (i : Instr) → CompletesOne r (execute actor byte r i)
  completes-execute (Lui rd imm) = completes-result r rd _
  completes-execute (Auipc rd imm) = completes-result r rd _
  completes-execute (Jal rd offset) = completes-jump r rd _
  completes-execute (Jalr rd rs1 offset) = completes-jump r rd _
  completes-execute (Branch test rs1 rs2 offset) =
      completes-branch (passes test (register_at r rs1) (register_at r rs2)) r (moved r.pc offset)
  completes-execute (Load kind rd rs1 offset) = completes-load kind rd _
  completes-execute (Store kind rs2 rs1 offset) = completes-store kind _ _
  completes-execute (OpImm op rd rs1 imm) = completes-result r rd _
  completes-execute (Op op rd rs1 rs2) = completes-result r rd _
  completes-execute (Fence rd rs1 bits) = refl
  completes-execute Ecall = tt
  completes-execute Ebreak = tt

  completes-word : (w : ℕ) (i : Option Instr) → CompletesOne r (execute_word actor byte r w i)
  completes-word w (Some i) = completes-execute i
  completes-word w None = tt

  completes-fetched : (w : Option ℕ) → CompletesOne r (execute_fetched actor byte r w)
  completes-fetched (Some w) = completes-word w (instr_of w)
  completes-fetched None = tt

  -- so a step of a core is
  completes-core_step : (word : ℕ → Option ℕ) → CompletesOne r (core_step actor byte word r)
  unfolding core_step
  completes-core_step word =
      elim (r.pc == END_PC) as (λ b. CompletesOne r (if b then Ended else execute_fetched actor byte r (word r.pc))) [
        | true ↦ tt
        | false ↦ completes-fetched (word r.pc)
      ]

-- ---- a task

module _ {M : Type 0} (byte : M → ℕ → ℕ) (write : M → Write → M) (budget : ℕ) (code : List SegmentState)
    (actor : Actor) where
  -- what is executed below the budget is within it
  within-task_on : (s : TaskState M) (x : Stepped) → CompletesOne s.registers x → s.registers.done < budget
      → (task_on write s x).registers.done ≤ budget
  within-task_on s (Executed r w) one below = omega (arith, one, below)
  within-task_on s Called one below = omega (arith, below)
  within-task_on s Ended one below = omega (arith, below)
  within-task_on s (Trapped t) one below = omega (arith, below)
  within-task_on s Touched one below = omega (arith, below)

  within-task_step : (s : TaskState M) → s.registers.done ≤ budget
      → (task_step byte write budget code actor s).registers.done ≤ budget
  unfolding task_step
  within-task_step s within = by (is_over s) (nat_le budget s.registers.done) refl
    where
      by : (a b : Bool) → nat_le budget s.registers.done ≡ b
          → (if a then s
          else if b then task_trapped s (trap_of s.registers BUDGET_SPENT 0)
          else task_on write s (core_step actor (task_byte byte s)
          (code_word code) s.registers)).registers.done ≤ budget
      by true b e = within
      by false true e = within
      by false false e =
          within-task_on s (core_step actor (task_byte byte s) (code_word code) s.registers)
          (completes-core_step actor (task_byte byte s) s.registers (code_word code))
          (leb-false budget s.registers.done e)

  -- a stretch stays within the budget
  pub within-stretch : (n : ℕ) (s : TaskState M) → s.registers.done ≤ budget
      → (repeated (task_step byte write budget code actor) n s).registers.done ≤ budget
  unfolding repeated
  within-stretch zero s within = within
  within-stretch (suc n) s within =
      within-stretch n (task_step byte write budget code actor s) (within-task_step s within)
