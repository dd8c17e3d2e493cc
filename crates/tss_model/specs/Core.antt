-- One step of an actor. It reads by two functions, the byte at each address and the word at each pc, and answers with
-- the registers and the write that it leaves, or why it leaves nothing.
use Rattle.std.specs.Prelude.{ℕ, ◌+◌, ◌-◌, ◌*◌, ◌/◌, ◌%◌, ◌^◌, ◌==◌, nat_lt, nat_le, not, Bool, if◌then◌else◌, List}
use Rattle.std.specs.Prelude.{Option, Some, None, ℤ, pos, negsuc, ◌*ℤ◌, int_lt, int_div, int_rem, bit_and, bit_or}
use Rattle.std.specs.Prelude.{bit_xor}
use Rattle.std.specs.Int.{cast_signed, w32, bytes_low_first}
use Rattle.tss_base.specs.declared.range.Range.{Range}
use Rattle.tss_base.specs.declared.ending.Trap.{Trap}
use Rattle.tss_isa.specs.declared.instr.Test.{Test}
use Rattle.tss_isa.specs.declared.instr.Test.TheVariants.{Beq, Bne, Blt, Bge, Bltu, Bgeu}
use Rattle.tss_isa.specs.declared.instr.LoadKind.{LoadKind}
use Rattle.tss_isa.specs.declared.instr.LoadKind.TheVariants.{Lb, Lh, Lw, Lbu, Lhu}
use Rattle.tss_isa.specs.declared.instr.StoreKind.{StoreKind}
use Rattle.tss_isa.specs.declared.instr.StoreKind.TheVariants.{Sb, Sh, Sw}
use Rattle.tss_isa.specs.declared.instr.ImmOp.{ImmOp}
use Rattle.tss_isa.specs.declared.instr.ImmOp.TheVariants.{Addi, Slli, Slti, Sltiu, Xori, Srli, Srai, Ori, Andi}
use Rattle.tss_isa.specs.declared.instr.RegOp.{RegOp}
use Rattle.tss_isa.specs.declared.instr.RegOp.TheVariants.{Add, Sub, Sll, Slt, Sltu, Xor, Srl, Sra, Or, And, Mul, Mulh}
use Rattle.tss_isa.specs.declared.instr.RegOp.TheVariants.{Mulhsu, Mulhu, Div, Divu, Rem, Remu}
use Rattle.tss_isa.specs.declared.instr.Instr.{Instr}
use Rattle.tss_isa.specs.declared.instr.Instr.TheVariants.{Lui, Auipc, Jal, Jalr, Branch, Load, Store, OpImm, Op, Fence}
use Rattle.tss_isa.specs.declared.instr.Instr.TheVariants.{Ecall, Ebreak}
use Rattle.tss_isa.specs.Fields.{signed}
use Rattle.tss_isa.specs.InstrTable.{instr_of, twos}
use Rattle.tss_model.specs.Memory.{number_at}
use Rattle.tss_model.specs.Access.{Actor, Loads, Stores, Access, Granted, Denied, Touch, access_of}
use Rattle.tss_model.specs.Registers.{Registers, register_at, with_register, next_pc, completed, onward, trap_of}
use Rattle.tss_base.specs.declared.causes.TheConstants.{JUMP_MISALIGNED, FETCH_OUTSIDE, ILLEGAL, BREAKPOINT}
use Rattle.tss_base.specs.declared.causes.TheConstants.{LOAD_MISALIGNED, LOAD_DENIED, STORE_MISALIGNED, STORE_DENIED}
use Rattle.tss_base.specs.declared.addresses.TheConstants.{END_PC}

-- bytes to be written from an address on
pub record Write : Type 0 where
  pub at : ℕ
  pub bytes : List ℕ

-- what a step does: it executes an instruction, with a write where that is a store; it meets ECALL, which is left to
-- the actor; the actor stands where a task has ended; it traps; or main touches an object that it has named. But for
-- the first of these nothing changes
pub data Stepped : Type 0 where
  Executed : Registers → Option Write → Stepped
  Called : Stepped
  Ended : Stepped
  Trapped : Trap → Stepped
  Touched : Stepped

-- ---- arithmetic on numbers of 32 bits

-- a number moved by an offset
abbrev pub moved : ℕ → ℤ → ℕ
moved x offset = (x + twos offset) % 2 ^ 32

-- 1 where a test passes, and else 0
abbrev pub one_where : Bool → ℕ
one_where b = if b then 1 else 0

-- less, as numbers in two's complement
abbrev pub signed_lt : ℕ → ℕ → Bool
signed_lt x y = int_lt (cast_signed w32 x) (cast_signed w32 y)

-- an integer divided and rounded down
abbrev pub floor_div : ℤ → ℕ → ℤ
floor_div (pos n) d = pos (n / d)
floor_div (negsuc n) d = negsuc (n / d)

-- how far a register or an immediate shifts: by its low five bits
abbrev pub distance : ℕ → ℕ
distance y = y % 32

-- the upper half of a product of 64 bits: it is divided by 2 ^ 32 and rounded down
abbrev pub upper_half : ℤ → ℕ
upper_half product = twos (floor_div product (2 ^ 32))

-- a quotient, rounded towards zero: that by zero has all bits set. The least number by -1 is the least number again
abbrev pub signed_quotient : ℕ → ℕ → ℕ
signed_quotient x y = if y == 0 then 2 ^ 32 - 1 else twos (int_div (cast_signed w32 x) (cast_signed w32 y))

abbrev pub quotient : ℕ → ℕ → ℕ
quotient x y = if y == 0 then 2 ^ 32 - 1 else x / y

-- what a quotient leaves, with the dividend's sign: by zero it leaves the dividend
abbrev pub signed_remainder : ℕ → ℕ → ℕ
signed_remainder x y = if y == 0 then x else twos (int_rem (cast_signed w32 x) (cast_signed w32 y))

abbrev pub remainder : ℕ → ℕ → ℕ
remainder x y = if y == 0 then x else x % y

-- an operation on two registers' values
abbrev pub op_result : RegOp → ℕ → ℕ → ℕ
op_result Add x y = (x + y) % 2 ^ 32
op_result Sub x y = (x + (2 ^ 32 - y)) % 2 ^ 32
op_result Sll x y = x * 2 ^ distance y % 2 ^ 32
op_result Slt x y = one_where (signed_lt x y)
op_result Sltu x y = one_where (nat_lt x y)
op_result Xor x y = bit_xor x y
op_result Srl x y = x / 2 ^ distance y
op_result Sra x y = twos (floor_div (cast_signed w32 x) (2 ^ distance y))
op_result Or x y = bit_or x y
op_result And x y = bit_and x y
op_result Mul x y = x * y % 2 ^ 32
op_result Mulh x y = upper_half (cast_signed w32 x *ℤ cast_signed w32 y)
op_result Mulhsu x y = upper_half (cast_signed w32 x *ℤ pos y)
op_result Mulhu x y = x * y / 2 ^ 32
op_result Div x y = signed_quotient x y
op_result Divu x y = quotient x y
op_result Rem x y = signed_remainder x y
op_result Remu x y = remainder x y

-- the operation that one with an immediate is: its second value is the immediate in two's complement
abbrev pub op_of : ImmOp → RegOp
op_of Addi = Add
op_of Slli = Sll
op_of Slti = Slt
op_of Sltiu = Sltu
op_of Xori = Xor
op_of Srli = Srl
op_of Srai = Sra
op_of Ori = Or
op_of Andi = And

-- a branch's condition
abbrev pub passes : Test → ℕ → ℕ → Bool
passes Beq x y = x == y
passes Bne x y = not (x == y)
passes Blt x y = signed_lt x y
passes Bge x y = not (signed_lt x y)
passes Bltu x y = nat_lt x y
passes Bgeu x y = nat_le y x

-- the bytes that a load reads
abbrev pub load_width : LoadKind → ℕ
load_width Lb = 1
load_width Lh = 2
load_width Lw = 4
load_width Lbu = 1
load_width Lhu = 2

-- the bytes that a store writes
abbrev pub store_width : StoreKind → ℕ
store_width Sb = 1
store_width Sh = 2
store_width Sw = 4

-- what a load makes of the number that it reads: bytes and halves are extended, by sign or by zeros
abbrev pub extended : LoadKind → ℕ → ℕ
extended Lb n = twos (signed 8 n)
extended Lh n = twos (signed 16 n)
extended Lw n = n
extended Lbu n = n
extended Lhu n = n

-- the low bytes of a number, the lowest first
abbrev pub low_bytes : ℕ → ℕ → List ℕ
low_bytes width value = bytes_low_first 0 width value

-- ---- instructions

-- a value goes to a register
abbrev pub result_in : Registers → ℕ → ℕ → Stepped
result_in r rd v = Executed (onward (with_register r rd v)) None

-- a jump, which leaves the next pc in a register
abbrev pub jump_to : Registers → ℕ → ℕ → Stepped
jump_to r rd target =
    if target % 4 == 0 then Executed (completed (with_register r rd (next_pc r)) target) None
    else Trapped (trap_of r JUMP_MISALIGNED target)

-- a branch: x0 takes no next pc
abbrev pub branch_if : Bool → Registers → ℕ → Stepped
branch_if taken r target = if taken then jump_to r 0 target else Executed (onward r) None

-- a load that is answered
abbrev pub load_on : Access → Registers → ℕ → ℕ → ℕ → Stepped
load_on Granted r rd at v = result_in r rd v
load_on Denied r rd at v = Trapped (trap_of r LOAD_DENIED at)
load_on Touch r rd at v = Touched

-- what a load reads
abbrev pub loaded_value : (ℕ → ℕ) → LoadKind → ℕ → ℕ
loaded_value byte kind at = extended kind (number_at byte at (load_width kind))

-- where a load reads
abbrev pub load_range : LoadKind → ℕ → Range
load_range kind at = record { base = at; len = load_width kind }

-- a load from an address: whether that is a multiple of its width is tested before whether the actor may load there
abbrev pub load_from : Actor → (ℕ → ℕ) → Registers → LoadKind → ℕ → ℕ → Stepped
load_from actor byte r kind rd at =
    if at % load_width kind == 0
    then load_on (access_of actor Loads (load_range kind at)) r rd at (loaded_value byte kind at)
    else Trapped (trap_of r LOAD_MISALIGNED at)

-- a store that is answered
abbrev pub store_on : Access → Registers → Write → Stepped
store_on Granted r w = Executed (onward r) (Some w)
store_on Denied r w = Trapped (trap_of r STORE_DENIED w.at)
store_on Touch r w = Touched

-- what a store writes
abbrev pub stored_value : StoreKind → ℕ → ℕ → Write
stored_value kind at v = record { at = at; bytes = low_bytes (store_width kind) v }

-- where a store writes
abbrev pub store_range : StoreKind → ℕ → Range
store_range kind at = record { base = at; len = store_width kind }

-- a store to an address, with the same order of tests
abbrev pub store_to : Actor → Registers → StoreKind → ℕ → ℕ → Stepped
store_to actor r kind at v =
    if at % store_width kind == 0
    then store_on (access_of actor Stores (store_range kind at)) r (stored_value kind at v)
    else Trapped (trap_of r STORE_MISALIGNED at)

-- JALR clears bit 0 of its target
abbrev pub even : ℕ → ℕ
even n = n - n % 2

-- an instruction
abbrev pub execute : Actor → (ℕ → ℕ) → Registers → Instr → Stepped
execute actor byte r (Lui rd imm) = result_in r rd imm
execute actor byte r (Auipc rd imm) = result_in r rd ((r.pc + imm) % 2 ^ 32)
execute actor byte r (Jal rd offset) = jump_to r rd (moved r.pc offset)
execute actor byte r (Jalr rd rs1 offset) = jump_to r rd (even (moved (register_at r rs1) offset))
execute actor byte r (Branch test rs1 rs2 offset) =
    branch_if (passes test (register_at r rs1) (register_at r rs2)) r (moved r.pc offset)
execute actor byte r (Load kind rd rs1 offset) = load_from actor byte r kind rd (moved (register_at r rs1) offset)
execute actor byte r (Store kind rs2 rs1 offset) =
    store_to actor r kind (moved (register_at r rs1) offset) (register_at r rs2)
execute actor byte r (OpImm op rd rs1 imm) = result_in r rd (op_result (op_of op) (register_at r rs1) (twos imm))
execute actor byte r (Op op rd rs1 rs2) = result_in r rd (op_result op (register_at r rs1) (register_at r rs2))
execute actor byte r (Fence rd rs1 bits) = Executed (onward r) None
execute actor byte r Ecall = Called
execute actor byte r Ebreak = Trapped (trap_of r BREAKPOINT r.pc)

-- ---- a step

-- a word that was fetched, with what it decodes to
abbrev pub execute_word : Actor → (ℕ → ℕ) → Registers → ℕ → Option Instr → Stepped
execute_word actor byte r w (Some i) = execute actor byte r i
execute_word actor byte r w None = Trapped (trap_of r ILLEGAL w)

-- what was fetched at the pc
abbrev pub execute_fetched : Actor → (ℕ → ℕ) → Registers → Option ℕ → Stepped
execute_fetched actor byte r (Some w) = execute_word actor byte r w (instr_of w)
execute_fetched actor byte r None = Trapped (trap_of r FETCH_OUTSIDE r.pc)

-- one step: the first of these that applies. The pc is where a task has ended; there is no word at the pc; the word is
-- illegal; the instruction is executed or traps. Whether a budget is spent is tested before it by who takes the step
unfoldable pub core_step : Actor → (ℕ → ℕ) → (ℕ → Option ℕ) → Registers → Stepped
core_step actor byte word r = if r.pc == END_PC then Ended else execute_fetched actor byte r (word r.pc)
