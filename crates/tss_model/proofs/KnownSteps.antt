-- Single steps whose results are known from outside: what the words mean is in the manual.
use Rattle.std.proofs.Common.{refl}
use Rattle.std.specs.Prelude.{◌≡◌, ℕ, ◌+◌, ◌%◌, true, List, [], ◌∷◌, replicate, Some, None}
use Rattle.tss_base.specs.declared.operand.Mode.{Mode}
use Rattle.tss_base.specs.declared.operand.Mode.TheVariants.{Input, Output}
use Rattle.tss_base.specs.declared.operand.Operand.{Operand}
use Rattle.tss_isa.specs.InstrTable.{instr_of}
use Rattle.tss_model.specs.Memory.{MemoryRange}
use Rattle.tss_model.specs.Registers.{Registers}
use Rattle.tss_model.specs.Access.{Actor, MainActor, TaskActor}
use Rattle.tss_model.specs.Core.{Stepped, Executed, Called, Ended, Trapped, Touched, core_step}

-- x5, x6 and x7, with all other registers 0, at an address
abbrev at_pc : ℕ → ℕ → ℕ → ℕ → ℕ → Registers
at_pc pc done five six seven = record {
  values = 0 ∷ 0 ∷ 0 ∷ 0 ∷ 0 ∷ five ∷ six ∷ seven ∷ replicate 24 0;
  pc = pc;
  done = done;
}

abbrev at_start : ℕ → ℕ → ℕ → Registers
at_start = at_pc 0x10000 3

-- 32 bytes of memory, which can be written
abbrev ranges : List MemoryRange
ranges = record { range = record { base = 0x20000; len = 32 }; writable = true } ∷ []

-- main that has named the object of four bytes at 0x20010
abbrev main : Actor
main = MainActor ranges (record { base = 0x20010; len = 4 } ∷ [])

abbrev four_at : ℕ → Mode → Operand
four_at base mode = record { object = record { base = base; len = 4 }; mode = mode }

-- a task that reads four bytes at 0x20000 and writes four at 0x20004
abbrev task : Actor
task = TaskActor ranges (four_at 0x20000 Input ∷ four_at 0x20004 Output ∷ [])

-- one step of a word, where each byte of memory is 0x80 more than its address
abbrev step_of : Actor → ℕ → Registers → Stepped
step_of actor w r = core_step actor (λ a. (a + 0x80) % 256) (λ pc. Some w) r

-- the instruction is executed and leaves these registers
abbrev after : ℕ → ℕ → ℕ → ℕ → Stepped
after pc five six seven = Executed (at_pc pc 4 five six seven) None

-- it traps with this cause and value
abbrev trap : ℕ → ℕ → Stepped
trap cause value = Trapped (record { pc = 0x10000; cause = cause; value = value })

-- BEQ x0, x0, 2 is taken to an address that isn't a multiple of 4
branch_misaligned : step_of main 0x00000163 (at_start 0 0 0) ≡ trap 0 0x10002
unfolding core_step instr_of
branch_misaligned = refl

-- BNE x0, x0, 2 isn't taken, so its target doesn't matter
branch_passed : step_of main 0x00001163 (at_start 0 0 0) ≡ after 0x10004 0 0 0
unfolding core_step instr_of
branch_passed = refl

-- JALR x5, 1(x5) reads x5 before it writes it, and clears bit 0 of its target
jalr_reads_first : step_of main 0x001282E7 (at_start 0x10020 0 0) ≡ after 0x10020 0x10004 0 0
unfolding core_step instr_of
jalr_reads_first = refl

-- SLTIU x6, x5, -1 compares with the largest number
sltiu_five : step_of main 0xFFF2B313 (at_start 5 0 0) ≡ after 0x10004 5 1 0
unfolding core_step instr_of
sltiu_five = refl

sltiu_largest : step_of main 0xFFF2B313 (at_start 0xFFFFFFFF 7 0) ≡ after 0x10004 0xFFFFFFFF 0 0
unfolding core_step instr_of
sltiu_largest = refl

-- SRA x6, x5, x7 fills with the sign
sra_sign : step_of main 0x4072D333 (at_start 0x80000000 0 31) ≡ after 0x10004 0x80000000 0xFFFFFFFF 31
unfolding core_step instr_of
sra_sign = refl

-- SUB x6, x0, x5 wraps
sub_wraps : step_of main 0x40500333 (at_start 1 0 0) ≡ after 0x10004 1 0xFFFFFFFF 0
unfolding core_step instr_of
sub_wraps = refl

-- ADDI x0, x5, 1 changes no register
zero_stays : step_of main 0x00128013 (at_start 5 6 7) ≡ after 0x10004 5 6 7
unfolding core_step instr_of
zero_stays = refl

-- LB x6, 3(x5) extends the sign of its byte, and LHU x6, 2(x5) the bytes of its half by zeros
lb_sign : step_of main 0x00328303 (at_start 0x20000 0 0) ≡ after 0x10004 0x20000 0xFFFFFF83 0
unfolding core_step instr_of
lb_sign = refl

lhu_zeros : step_of main 0x0022D303 (at_start 0x20000 0 0) ≡ after 0x10004 0x20000 0x8382 0
unfolding core_step instr_of
lhu_zeros = refl

-- LW x6, 0(x5) of main: at no multiple of 4, outside, and at the object that it has named
lw_misaligned : step_of main 0x0002A303 (at_start 0x30002 0 0) ≡ trap 4 0x30002
unfolding core_step instr_of
lw_misaligned = refl

lw_denied : step_of main 0x0002A303 (at_start 0x20020 0 0) ≡ trap 5 0x20020
unfolding core_step instr_of
lw_denied = refl

lw_touches : step_of main 0x0002A303 (at_start 0x20010 0 0) ≡ Touched
unfolding core_step instr_of
lw_touches = refl

-- LW x6, 0(x5) of a task: inside its input, and beyond its operands
task_loads : step_of task 0x0002A303 (at_start 0x20000 0 0) ≡ after 0x10004 0x20000 0x83828180 0
unfolding core_step instr_of
task_loads = refl

task_load_denied : step_of task 0x0002A303 (at_start 0x20010 0 0) ≡ trap 5 0x20010
unfolding core_step instr_of
task_load_denied = refl

-- SH x6, 0(x5) of a task writes the two low bytes in its output, the lowest first, and may not write in its input
task_stores : step_of task 0x00629023 (at_start 0x20006 0x12345678 0)
    ≡ Executed (at_pc 0x10004 4 0x20006 0x12345678 0) (Some (record { at = 0x20006; bytes = 0x78 ∷ 0x56 ∷ [] }))
unfolding core_step instr_of
task_stores = refl

task_store_denied : step_of task 0x00629023 (at_start 0x20002 0x12345678 0) ≡ trap 7 0x20002
unfolding core_step instr_of
task_store_denied = refl

-- ECALL is left to the actor, and EBREAK traps
ecall_called : step_of main 0x00000073 (at_start 0 0 0) ≡ Called
unfolding core_step instr_of
ecall_called = refl

ebreak_traps : step_of main 0x00100073 (at_start 0 0 0) ≡ trap 3 0x10000
unfolding core_step instr_of
ebreak_traps = refl

-- where a task ends no word counts
ended : step_of task 0x00000013 (at_pc 0xFFFFFFF0 3 0 0 0) ≡ Ended
unfolding core_step
ended = refl
