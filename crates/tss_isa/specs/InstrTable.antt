-- The table of instructions by the fields of their words, in the manual's order, read in both directions.
use Rattle.std.specs.Prelude.{ℕ, ◌+◌, ◌*◌, ◌%◌, ◌^◌, Bool, true, false, ◌&&◌, ◌==◌, nat_lt, if◌then◌else◌, Option, Some, None, ℤ, pos, negsuc}
use Rattle.std.specs.Int.{cast_unsigned, w32}
use Rattle.tss_isa.specs.declared.instr.Test.{Test}
use Rattle.tss_isa.specs.declared.instr.Test.TheVariants.{Beq, Bne, Blt, Bge, Bltu, Bgeu}
use Rattle.tss_isa.specs.declared.instr.LoadKind.{LoadKind}
use Rattle.tss_isa.specs.declared.instr.LoadKind.TheVariants.{Lb, Lh, Lw, Lbu, Lhu}
use Rattle.tss_isa.specs.declared.instr.StoreKind.{StoreKind}
use Rattle.tss_isa.specs.declared.instr.StoreKind.TheVariants.{Sb, Sh, Sw}
use Rattle.tss_isa.specs.declared.instr.ImmOp.{ImmOp}
use Rattle.tss_isa.specs.declared.instr.ImmOp.TheVariants.{Addi, Slli, Slti, Sltiu, Xori, Srli, Srai, Ori, Andi}
use Rattle.tss_isa.specs.declared.instr.RegOp.{RegOp}
use Rattle.tss_isa.specs.declared.instr.RegOp.TheVariants.{Add, Sub, Sll, Slt, Sltu, Xor, Srl, Sra, Or, And, Mul, Mulh, Mulhsu, Mulhu, Div, Divu, Rem, Remu}
use Rattle.tss_isa.specs.declared.instr.Instr.{Instr}
use Rattle.tss_isa.specs.declared.instr.Instr.TheVariants.{Lui, Auipc, Jal, Jalr, Branch, Load, Store, OpImm, Op, Fence, Ecall, Ebreak}
use Rattle.tss_isa.specs.Fields.{field, opcode, rd, funct3, rs1, rs2, funct7, imm_i, imm_s, imm_b, imm_u, imm_j}

-- ---- from a word to its instruction

-- BRANCH by funct3
abbrev pub test_of : ℕ → Option Test
test_of f =
    if f == 0 then Some Beq
    else if f == 1 then Some Bne
    else if f == 4 then Some Blt
    else if f == 5 then Some Bge
    else if f == 6 then Some Bltu
    else if f == 7 then Some Bgeu
    else None

-- LOAD by funct3
abbrev pub load_kind_of : ℕ → Option LoadKind
load_kind_of f =
    if f == 0 then Some Lb
    else if f == 1 then Some Lh
    else if f == 2 then Some Lw
    else if f == 4 then Some Lbu
    else if f == 5 then Some Lhu
    else None

-- STORE by funct3
abbrev pub store_kind_of : ℕ → Option StoreKind
store_kind_of f =
    if f == 0 then Some Sb
    else if f == 1 then Some Sh
    else if f == 2 then Some Sw
    else None

-- OP-IMM by funct3, where a shift asks for its funct7 too
abbrev pub imm_op_of : ℕ → ℕ → Option ImmOp
imm_op_of f g =
    if f == 0 then Some Addi
    else if f == 1 then (if g == 0 then Some Slli else None)
    else if f == 2 then Some Slti
    else if f == 3 then Some Sltiu
    else if f == 4 then Some Xori
    else if f == 5 then (if g == 0 then Some Srli else if g == 32 then Some Srai else None)
    else if f == 6 then Some Ori
    else if f == 7 then Some Andi
    else None

-- OP by funct3 where funct7 is 0
abbrev pub plain_op_of : ℕ → Option RegOp
plain_op_of f =
    if f == 0 then Some Add
    else if f == 1 then Some Sll
    else if f == 2 then Some Slt
    else if f == 3 then Some Sltu
    else if f == 4 then Some Xor
    else if f == 5 then Some Srl
    else if f == 6 then Some Or
    else if f == 7 then Some And
    else None

-- OP by funct3 where funct7 is 1: the products and quotients
abbrev pub product_op_of : ℕ → Option RegOp
product_op_of f =
    if f == 0 then Some Mul
    else if f == 1 then Some Mulh
    else if f == 2 then Some Mulhsu
    else if f == 3 then Some Mulhu
    else if f == 4 then Some Div
    else if f == 5 then Some Divu
    else if f == 6 then Some Rem
    else if f == 7 then Some Remu
    else None

-- OP by funct3 where funct7 is 32
abbrev pub other_op_of : ℕ → Option RegOp
other_op_of f =
    if f == 0 then Some Sub
    else if f == 5 then Some Sra
    else None

-- OP by funct3 and funct7
abbrev pub reg_op_of : ℕ → ℕ → Option RegOp
reg_op_of f g =
    if g == 0 then plain_op_of f
    else if g == 1 then product_op_of f
    else if g == 32 then other_op_of f
    else None

-- the immediate of an operation: a shift's is the rs2 field, any other's is the I immediate
abbrev pub operand_of : ImmOp → ℕ → ℤ
operand_of Slli w = pos (rs2 w)
operand_of Srli w = pos (rs2 w)
operand_of Srai w = pos (rs2 w)
operand_of op w = imm_i w

-- JALR has funct3 0
abbrev pub jalr_of : ℕ → ℕ → Option Instr
jalr_of f w = if f == 0 then Some (Jalr (rd w) (rs1 w) (imm_i w)) else None

abbrev pub branch_of : Option Test → ℕ → Option Instr
branch_of (Some t) w = Some (Branch t (rs1 w) (rs2 w) (imm_b w))
branch_of None w = None

abbrev pub load_of : Option LoadKind → ℕ → Option Instr
load_of (Some k) w = Some (Load k (rd w) (rs1 w) (imm_i w))
load_of None w = None

abbrev pub store_of : Option StoreKind → ℕ → Option Instr
store_of (Some k) w = Some (Store k (rs2 w) (rs1 w) (imm_s w))
store_of None w = None

abbrev pub op_imm_of : Option ImmOp → ℕ → Option Instr
op_imm_of (Some op) w = Some (OpImm op (rd w) (rs1 w) (operand_of op w))
op_imm_of None w = None

abbrev pub op_of : Option RegOp → ℕ → Option Instr
op_of (Some op) w = Some (Op op (rd w) (rs1 w) (rs2 w))
op_of None w = None

-- FENCE has funct3 0, and all else in it is ignored
abbrev pub fence_of : ℕ → ℕ → Option Instr
fence_of f w = if f == 0 then Some (Fence (rd w) (rs1 w) (field w 20 12)) else None

-- SYSTEM has two words
abbrev pub system_of : ℕ → Option Instr
system_of w =
    if w == 0x00000073 then Some Ecall
    else if w == 0x00100073 then Some Ebreak
    else None

-- a word by its opcode: LUI, AUIPC, JAL, JALR, BRANCH, LOAD, STORE, OP-IMM, OP, MISC-MEM, SYSTEM
abbrev pub row_of : ℕ → ℕ → Option Instr
row_of o w =
    if o == 0x37 then Some (Lui (rd w) (imm_u w))
    else if o == 0x17 then Some (Auipc (rd w) (imm_u w))
    else if o == 0x6F then Some (Jal (rd w) (imm_j w))
    else if o == 0x67 then jalr_of (funct3 w) w
    else if o == 0x63 then branch_of (test_of (funct3 w)) w
    else if o == 0x03 then load_of (load_kind_of (funct3 w)) w
    else if o == 0x23 then store_of (store_kind_of (funct3 w)) w
    else if o == 0x13 then op_imm_of (imm_op_of (funct3 w) (funct7 w)) w
    else if o == 0x33 then op_of (reg_op_of (funct3 w) (funct7 w)) w
    else if o == 0x0F then fence_of (funct3 w) w
    else if o == 0x73 then system_of w
    else None

-- the instruction of a word of 32 bits, or none where the word is illegal
unfoldable pub instr_of : ℕ → Option Instr
instr_of w = row_of (opcode w) w

-- the instruction of a word that may be there
abbrev pub instr_at : Option ℕ → Option Instr
instr_at (Some w) = instr_of w
instr_at None = None

-- ---- from an instruction to its word

abbrev pub test_code : Test → ℕ
test_code Beq = 0
test_code Bne = 1
test_code Blt = 4
test_code Bge = 5
test_code Bltu = 6
test_code Bgeu = 7

abbrev pub load_code : LoadKind → ℕ
load_code Lb = 0
load_code Lh = 1
load_code Lw = 2
load_code Lbu = 4
load_code Lhu = 5

abbrev pub store_code : StoreKind → ℕ
store_code Sb = 0
store_code Sh = 1
store_code Sw = 2

abbrev pub imm_op_code : ImmOp → ℕ
imm_op_code Addi = 0
imm_op_code Slli = 1
imm_op_code Slti = 2
imm_op_code Sltiu = 3
imm_op_code Xori = 4
imm_op_code Srli = 5
imm_op_code Srai = 5
imm_op_code Ori = 6
imm_op_code Andi = 7

abbrev pub reg_op_code : RegOp → ℕ
reg_op_code Add = 0
reg_op_code Sub = 0
reg_op_code Sll = 1
reg_op_code Slt = 2
reg_op_code Sltu = 3
reg_op_code Xor = 4
reg_op_code Srl = 5
reg_op_code Sra = 5
reg_op_code Or = 6
reg_op_code And = 7
reg_op_code Mul = 0
reg_op_code Mulh = 1
reg_op_code Mulhsu = 2
reg_op_code Mulhu = 3
reg_op_code Div = 4
reg_op_code Divu = 5
reg_op_code Rem = 6
reg_op_code Remu = 7

-- funct7 of an operation of two registers
abbrev pub reg_op_high : RegOp → ℕ
reg_op_high Sub = 32
reg_op_high Sra = 32
reg_op_high Mul = 1
reg_op_high Mulh = 1
reg_op_high Mulhsu = 1
reg_op_high Mulhu = 1
reg_op_high Div = 1
reg_op_high Divu = 1
reg_op_high Rem = 1
reg_op_high Remu = 1
reg_op_high op = 0

-- a number in two's complement of 32 bits
abbrev pub twos : ℤ → ℕ
twos = cast_unsigned w32

-- bits 31 to 20 of an operation with an immediate: a shift has its funct7 above its distance
abbrev pub imm_op_high : ImmOp → ℤ → ℕ
imm_op_high Srai imm = 32 * 2 ^ 5 + field (twos imm) 0 5
imm_op_high op imm = field (twos imm) 0 12

-- a word of an opcode, the fields rd, funct3 and rs1, and bits 31 to 20
abbrev pub joined : ℕ → ℕ → ℕ → ℕ → ℕ → ℕ
joined o d f s high = o + d * 2 ^ 7 + f * 2 ^ 12 + s * 2 ^ 15 + high * 2 ^ 20

-- a word of an opcode, the field rd, and bits 31 to 12
abbrev pub joined_upper : ℕ → ℕ → ℕ → ℕ
joined_upper o d upper = o + d * 2 ^ 7 + upper * 2 ^ 12

-- what a B immediate has in the place of rd: its bits 4 to 1, then bit 11
abbrev pub low_b : ℕ → ℕ
low_b n = field n 1 4 * 2 + field n 11 1

-- and in that of funct7: its bit 12, then bits 10 to 5
abbrev pub high_b : ℕ → ℕ
high_b n = field n 12 1 * 2 ^ 6 + field n 5 6

-- bits 31 to 12 of a word with a J immediate: its bit 20, bits 10 to 1, bit 11, then bits 19 to 12
abbrev pub upper_j : ℕ → ℕ
upper_j n = field n 20 1 * 2 ^ 19 + field n 1 10 * 2 ^ 9 + field n 11 1 * 2 ^ 8 + field n 12 8

-- the words of a branch and of a store, whose immediates stand in the places of rd and funct7
abbrev pub branch_word : ℕ → ℕ → ℕ → ℕ → ℕ
branch_word f s r n = joined 0x63 (low_b n) f s (high_b n * 2 ^ 5 + r)

abbrev pub store_word : ℕ → ℕ → ℕ → ℕ → ℕ
store_word f s r n = joined 0x23 (field n 0 5) f s (field n 5 7 * 2 ^ 5 + r)

-- the word of an instruction
unfoldable pub word_of : Instr → ℕ
word_of (Lui d imm) = joined_upper 0x37 d (field imm 12 20)
word_of (Auipc d imm) = joined_upper 0x17 d (field imm 12 20)
word_of (Jal d offset) = joined_upper 0x6F d (upper_j (twos offset))
word_of (Jalr d s offset) = joined 0x67 d 0 s (field (twos offset) 0 12)
word_of (Branch t s r offset) = branch_word (test_code t) s r (twos offset)
word_of (Load k d s offset) = joined 0x03 d (load_code k) s (field (twos offset) 0 12)
word_of (Store k r s offset) = store_word (store_code k) s r (twos offset)
word_of (OpImm op d s imm) = joined 0x13 d (imm_op_code op) s (imm_op_high op imm)
word_of (Op op d s r) = joined 0x33 d (reg_op_code op) s (reg_op_high op * 2 ^ 5 + r)
word_of (Fence d s bits) = joined 0x0F d 0 s bits
word_of Ecall = 0x00000073
word_of Ebreak = 0x00100073

-- ---- which instructions have a word

abbrev pub is_register : ℕ → Bool
is_register n = nat_lt n 32

-- the immediate of LUI and AUIPC: 32 bits, the low twelve zero
abbrev pub is_upper : ℕ → Bool
is_upper n = n % 2 ^ 12 == 0 && nat_lt n (2 ^ 32)

-- it lies from -half to half - 1
abbrev pub is_within : ℕ → ℤ → Bool
is_within half (pos n) = nat_lt n half
is_within half (negsuc n) = nat_lt n half

abbrev pub is_even : ℤ → Bool
is_even (pos n) = n % 2 == 0
is_even (negsuc n) = n % 2 == 1

-- a distance of a shift
abbrev pub is_distance : ℤ → Bool
is_distance (pos n) = nat_lt n 32
is_distance (negsuc n) = false

abbrev pub is_operand : ImmOp → ℤ → Bool
is_operand Slli imm = is_distance imm
is_operand Srli imm = is_distance imm
is_operand Srai imm = is_distance imm
is_operand op imm = is_within (2 ^ 11) imm

-- each field of the instruction is in its range
abbrev pub fits : Instr → Bool
fits (Lui d imm) = is_register d && is_upper imm
fits (Auipc d imm) = is_register d && is_upper imm
fits (Jal d offset) = is_register d && is_within (2 ^ 20) offset && is_even offset
fits (Jalr d s offset) = is_register d && is_register s && is_within (2 ^ 11) offset
fits (Branch t s r offset) = is_register s && is_register r && is_within (2 ^ 12) offset && is_even offset
fits (Load k d s offset) = is_register d && is_register s && is_within (2 ^ 11) offset
fits (Store k r s offset) = is_register r && is_register s && is_within (2 ^ 11) offset
fits (OpImm op d s imm) = is_register d && is_register s && is_operand op imm
fits (Op op d s r) = is_register d && is_register s && is_register r
fits (Fence d s bits) = is_register d && is_register s && nat_lt bits (2 ^ 12)
fits Ecall = true
fits Ebreak = true
