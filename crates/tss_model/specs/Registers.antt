-- The registers of an actor with its pc and the number of instructions that it has completed.
use Rattle.std.specs.Prelude.{ℕ, ◌+◌, ◌-◌, ◌%◌, ◌^◌, ◌==◌, if◌then◌else◌, List, [], ◌∷◌, ◌++◌, take, replicate}
use Rattle.std.specs.Prelude.{slice_index, slice_set}
use Rattle.tss_base.specs.declared.addresses.TheConstants.{SCRATCH_END, STACK_END, END_PC}
use Rattle.tss_base.specs.declared.operand.Task.{Task}
use Rattle.tss_base.specs.declared.ending.Trap.{Trap}

-- x0 to x31, the pc, and the completed instructions. What stands at x0 is never read or written
pub record Registers : Type 0 where
  pub values : List ℕ
  pub pc : ℕ
  pub done : ℕ

-- a register: x0 is always 0
abbrev pub register_at : Registers → ℕ → ℕ
register_at r n = if n == 0 then 0 else slice_index r.values n

-- a register written, where x0 stays 0
abbrev pub with_register : Registers → ℕ → ℕ → Registers
with_register r n v = if n == 0 then r else record r { values = slice_set r.values n v }

-- the address of the next instruction
abbrev pub next_pc : Registers → ℕ
next_pc r = (r.pc + 4) % 2 ^ 32

-- an instruction completed, with the next one at this pc
abbrev pub completed : Registers → ℕ → Registers
completed r pc = record r { pc = pc; done = r.done + 1 }

-- an instruction completed that goes on to the next, as an accepted call of main does
abbrev pub onward : Registers → Registers
onward r = completed r (next_pc r)

-- main at first: x2 is the end of its stack, and the other registers are 0
abbrev pub main_registers : ℕ → Registers
main_registers entry = record { values = 0 ∷ 0 ∷ STACK_END ∷ replicate 29 0; pc = entry; done = 0 }

-- what a task has from x10 on: the bases of its operands as listed, and its argument
abbrev pub starting_words : Task → List ℕ
starting_words t = take t.listed t.bases ++ t.argument ∷ []

-- a task at first: x1 is where it ends, x2 the end of its scratch, its starting words from x10 on, and the other
-- registers are 0
abbrev pub task_registers : Task → Registers
task_registers t = record {
  values = (0 ∷ END_PC ∷ SCRATCH_END ∷ replicate 7 0) ++ starting_words t ++ replicate (21 - t.listed) 0;
  pc = t.entry;
  done = 0;
}

-- a trap of the instruction at the pc
abbrev pub trap_of : Registers → ℕ → ℕ → Trap
trap_of r cause value = record { pc = r.pc; cause = cause; value = value }
