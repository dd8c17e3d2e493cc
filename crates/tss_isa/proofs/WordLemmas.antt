-- The instruction that is read from an instruction's word is that instruction.
use Rattle.std.proofs.Common.{◌≡◌, ℕ, ◌+◌, ◌*◌, ◌%◌, ◌^◌, ◌<◌, ℤ, pos, negsuc, true, Option, Some, ap, refl, ◌∙◌, arith}
use Rattle.std.proofs.lemmas.Bool.{and_parts, ltb-true, eqb-true}
use Rattle.tss_isa.specs.declared.instr.Test.{Test}
use Rattle.tss_isa.specs.declared.instr.Test.TheVariants.{Beq, Bne, Blt, Bge, Bltu, Bgeu}
use Rattle.tss_isa.specs.declared.instr.LoadKind.{LoadKind}
use Rattle.tss_isa.specs.declared.instr.LoadKind.TheVariants.{Lb, Lh, Lw, Lbu, Lhu}
use Rattle.tss_isa.specs.declared.instr.StoreKind.{StoreKind}
use Rattle.tss_isa.specs.declared.instr.StoreKind.TheVariants.{Sb, Sh, Sw}
use Rattle.tss_isa.specs.declared.instr.ImmOp.{ImmOp}
use Rattle.tss_isa.specs.declared.instr.ImmOp.TheVariants.{Addi, Slli, Slti, Sltiu, Xori, Srli, Srai, Ori, Andi}
use Rattle.tss_isa.specs.declared.instr.RegOp.{RegOp}
use Rattle.tss_isa.specs.declared.instr.RegOp.TheVariants.{Add, Sub, Sll, Slt, Sltu, Xor, Srl, Sra, Or, And, Mul, Mulh, Mulhsu, Mulhu, Div, Divu, Rem, Remu}
use Rattle.tss_isa.specs.declared.instr.Instr.{Instr}
use Rattle.tss_isa.specs.declared.instr.Instr.TheVariants.{Lui, Auipc, Jal, Jalr, Branch, Load, Store, OpImm, Op, Fence, Ecall, Ebreak}
use Rattle.tss_isa.specs.Fields.{field, opcode, rd, rs2, funct7, signed, imm_i, imm_s, imm_b, imm_u, imm_j}
use Rattle.tss_isa.specs.InstrTable.{instr_of, row_of, branch_of, test_of, load_of, load_kind_of, store_of, store_kind_of, op_imm_of, imm_op_of, op_of, reg_op_of, jalr_of, fence_of, operand_of, word_of, test_code, load_code, store_code, imm_op_code, imm_op_high, reg_op_code, reg_op_high, twos, low_b, high_b, upper_j, joined, joined_upper, branch_word, store_word, fits, is_register, is_upper, is_within, is_operand, is_distance}
use Rattle.tss_isa.proofs.SignLemmas.{signed_12-twos, signed_13-twos, signed_21-twos, low_bit}
use Rattle.tss_isa.proofs.FieldLemmas.{HasFields, HasFields-joined}

-- a register's number is below 32
below_32 : (n : ℕ) → is_register n ≡ true → n < 32
below_32 n h = ltb-true n 32 h

-- the bits of a number below 2 ^ 12, in parts and as one
module _ (n : ℕ) where
  parts_s : field n 5 7 * 2 ^ 5 + field n 0 5 ≡ field n 0 12
  parts_s = omega arith

  parts_b : n % 2 ≡ 0
      → field n 12 1 * 2 ^ 12 + field n 11 1 * 2 ^ 11 + field n 5 6 * 2 ^ 5 + field n 1 4 * 2 ≡ field n 0 13
  parts_b even = omega arith

  parts_j : n % 2 ≡ 0
      → field n 20 1 * 2 ^ 20 + field n 12 8 * 2 ^ 12 + field n 11 1 * 2 ^ 11 + field n 1 10 * 2 ≡ field n 0 21
  parts_j even = omega arith

-- a word by its opcode
row : (w o : ℕ) → opcode w ≡ o → instr_of w ≡ row_of o w
unfolding instr_of
row w o e = ap (λ (k : ℕ). row_of k w) e

-- the instructions of the upper immediate
module _ (d u : ℕ) (hd : d < 32) (hu : u < 2 ^ 20) (o : ℕ) (ho : o < 128) where
  upper_opcode : opcode (joined_upper o d u) ≡ o
  upper_opcode = omega arith

  upper_rd : rd (joined_upper o d u) ≡ d
  upper_rd = omega arith

  upper_field : field (joined_upper o d u) 12 20 ≡ u
  upper_field = omega arith

-- the fields of a J immediate in its word
imm_j-upper_j : (d n : ℕ) → d < 32 → n % 2 ≡ 0 → imm_j (joined_upper 0x6F d (upper_j n)) ≡ signed 21 (field n 0 21)
imm_j-upper_j d n hd even =
    let w : ℕ = joined_upper 0x6F d (upper_j n) in
    let bit_20 : field w 31 1 ≡ field n 20 1 = omega arith in
    let bits_19_to_12 : field w 12 8 ≡ field n 12 8 = omega arith in
    let bit_11 : field w 20 1 ≡ field n 11 1 = omega arith in
    let bits_10_to_1 : field w 21 10 ≡ field n 1 10 = omega arith in
    (λ i. signed 21 (bit_20 i * 2 ^ 20 + bits_19_to_12 i * 2 ^ 12 + bit_11 i * 2 ^ 11 + bits_10_to_1 i * 2))
    ∙ ap (signed 21) (parts_j n even)

-- the instructions of a word that has these fields
module _ (w o d f s high : ℕ) (has : HasFields w o d f s high) where
  -- the I immediate of a number that it reaches
  imm_i_is : (z : ℤ) → is_within (2 ^ 11) z ≡ true → high ≡ field (twos z) 0 12 → imm_i w ≡ z
  imm_i_is z within e = ap (signed 12) (has.high_is ∙ e) ∙ signed_12-twos z within

  -- the register and funct7 in the high bits
  rs2_is : (g r : ℕ) → r < 32 → high ≡ g * 2 ^ 5 + r → rs2 w ≡ r
  rs2_is g r hr e = omega (arith, has.high_is)

  funct7_is : (g r : ℕ) → r < 32 → high ≡ g * 2 ^ 5 + r → funct7 w ≡ g
  funct7_is g r hr e = omega (arith, has.high_is)

-- an upper immediate is a multiple of 2 ^ 12
upper_imm : (imm : ℕ) → is_upper imm ≡ true → (field imm 12 20 < 2 ^ 20) × (field imm 12 20 * 2 ^ 12 ≡ imm)
upper_imm imm h =
    let fit = and_parts _ _ h in
    let low = eqb-true (imm % 2 ^ 12) 0 fit.0 in
    let word = ltb-true imm (2 ^ 32) fit.1 in
    (omega arith, omega arith)

lui : (d imm : ℕ) → fits (Lui d imm) ≡ true → instr_of (word_of (Lui d imm)) ≡ Some (Lui d imm)
unfolding word_of
lui d imm h =
    let fit = and_parts _ _ h in
    let hd = below_32 d fit.0 in
    let hu = upper_imm imm fit.1 in
    let u : ℕ = field imm 12 20 in
    let imm_is : imm_u (joined_upper 0x37 d u) ≡ imm =
    ap (λ (n : ℕ). n * 2 ^ 12) (upper_field d u hd hu.0 0x37 (omega arith)) ∙ hu.1 in
    row _ 0x37 (upper_opcode d u hd hu.0 0x37 (omega arith))
    ∙ (λ i. Some (Lui (upper_rd d u hd hu.0 0x37 (omega arith) i) (imm_is i)))

auipc : (d imm : ℕ) → fits (Auipc d imm) ≡ true → instr_of (word_of (Auipc d imm)) ≡ Some (Auipc d imm)
unfolding word_of
auipc d imm h =
    let fit = and_parts _ _ h in
    let hd = below_32 d fit.0 in
    let hu = upper_imm imm fit.1 in
    let u : ℕ = field imm 12 20 in
    let imm_is : imm_u (joined_upper 0x17 d u) ≡ imm =
    ap (λ (n : ℕ). n * 2 ^ 12) (upper_field d u hd hu.0 0x17 (omega arith)) ∙ hu.1 in
    row _ 0x17 (upper_opcode d u hd hu.0 0x17 (omega arith))
    ∙ (λ i. Some (Auipc (upper_rd d u hd hu.0 0x17 (omega arith) i) (imm_is i)))

jal : (d : ℕ) (offset : ℤ) → fits (Jal d offset) ≡ true → instr_of (word_of (Jal d offset)) ≡ Some (Jal d offset)
unfolding word_of
jal d offset h =
    let fit = and_parts _ _ h in
    let fit_left = and_parts _ _ fit.0 in
    let hd = below_32 d fit_left.0 in
    let u : ℕ = upper_j (twos offset) in
    let hu : u < 2 ^ 20 = omega arith in
    let imm_is : imm_j (joined_upper 0x6F d u) ≡ offset = imm_j-upper_j d (twos offset) hd (low_bit offset fit.1)
    ∙ signed_21-twos offset fit_left.1 in
    row _ 0x6F (upper_opcode d u hd hu 0x6F (omega arith))
    ∙ (λ i. Some (Jal (upper_rd d u hd hu 0x6F (omega arith) i) (imm_is i)))

jalr : (d s : ℕ) (offset : ℤ) → fits (Jalr d s offset) ≡ true
    → instr_of (word_of (Jalr d s offset)) ≡ Some (Jalr d s offset)
unfolding word_of
jalr d s offset h =
    let fit = and_parts _ _ h in
    let registers = and_parts _ _ fit.0 in
    let high : ℕ = field (twos offset) 0 12 in
    let has = HasFields-joined 0x67 d 0 s high (omega arith) (below_32 d registers.0) (omega arith)
    (below_32 s registers.1) (omega arith) in
    let w : ℕ = joined 0x67 d 0 s high in
    let imm_is = imm_i_is w 0x67 d 0 s high has offset fit.1 refl in
    row w 0x67 has.opcode_is
    ∙ ap (λ (f : ℕ). jalr_of f w) has.funct3_is
    ∙ (λ i. Some (Jalr (has.rd_is i) (has.rs1_is i) (imm_is i)))

-- the tables of funct3, read back
test_code_is : (t : Test) → (test_code t < 8) × (test_of (test_code t) ≡ Some t)
test_code_is Beq = (omega arith, refl)
test_code_is Bne = (omega arith, refl)
test_code_is Blt = (omega arith, refl)
test_code_is Bge = (omega arith, refl)
test_code_is Bltu = (omega arith, refl)
test_code_is Bgeu = (omega arith, refl)

load_code_is : (k : LoadKind) → (load_code k < 8) × (load_kind_of (load_code k) ≡ Some k)
load_code_is Lb = (omega arith, refl)
load_code_is Lh = (omega arith, refl)
load_code_is Lw = (omega arith, refl)
load_code_is Lbu = (omega arith, refl)
load_code_is Lhu = (omega arith, refl)

store_code_is : (k : StoreKind) → (store_code k < 8) × (store_kind_of (store_code k) ≡ Some k)
store_code_is Sb = (omega arith, refl)
store_code_is Sh = (omega arith, refl)
store_code_is Sw = (omega arith, refl)

branch : (t : Test) (s r : ℕ) (offset : ℤ) → fits (Branch t s r offset) ≡ true
    → instr_of (word_of (Branch t s r offset)) ≡ Some (Branch t s r offset)
unfolding word_of
branch t s r offset h =
    let fit = and_parts _ _ h in
    let fit_left = and_parts _ _ fit.0 in
    let registers = and_parts _ _ fit_left.0 in
    let n : ℕ = twos offset in
    let low : ℕ = low_b n in
    let top : ℕ = high_b n in
    let code = test_code_is t in
    let hr = below_32 r registers.1 in
    let has = HasFields-joined 0x63 low (test_code t) s (top * 2 ^ 5 + r) (omega arith) (omega arith) code.0
    (below_32 s registers.0) (omega arith) in
    let w : ℕ = branch_word (test_code t) s r n in
    let g = funct7_is w 0x63 low (test_code t) s (top * 2 ^ 5 + r) has top r hr refl in
    let bit_12 : field w 31 1 ≡ field n 12 1 = omega (arith, g) in
    let bit_11 : field w 7 1 ≡ field n 11 1 = omega (arith, has.rd_is) in
    let bits_10_to_5 : field w 25 6 ≡ field n 5 6 = omega (arith, g) in
    let bits_4_to_1 : field w 8 4 ≡ field n 1 4 = omega (arith, has.rd_is) in
    let imm_is : imm_b w ≡ offset =
    (λ i. signed 13 (bit_12 i * 2 ^ 12 + bit_11 i * 2 ^ 11 + bits_10_to_5 i * 2 ^ 5 + bits_4_to_1 i * 2))
    ∙ ap (signed 13) (parts_b n (low_bit offset fit.1)) ∙ signed_13-twos offset fit_left.1 in
    let r_is = rs2_is w 0x63 low (test_code t) s (top * 2 ^ 5 + r) has top r hr refl in
    row w 0x63 has.opcode_is
    ∙ ap (λ (f : ℕ). branch_of (test_of f) w) has.funct3_is
    ∙ ap (λ (o : Option Test). branch_of o w) code.1
    ∙ (λ i. Some (Branch t (has.rs1_is i) (r_is i) (imm_is i)))

load : (k : LoadKind) (d s : ℕ) (offset : ℤ) → fits (Load k d s offset) ≡ true
    → instr_of (word_of (Load k d s offset)) ≡ Some (Load k d s offset)
unfolding word_of
load k d s offset h =
    let fit = and_parts _ _ h in
    let registers = and_parts _ _ fit.0 in
    let code = load_code_is k in
    let high : ℕ = field (twos offset) 0 12 in
    let has = HasFields-joined 0x03 d (load_code k) s high (omega arith) (below_32 d registers.0) code.0
    (below_32 s registers.1) (omega arith) in
    let w : ℕ = joined 0x03 d (load_code k) s high in
    let imm_is = imm_i_is w 0x03 d (load_code k) s high has offset fit.1 refl in
    row w 0x03 has.opcode_is
    ∙ ap (λ (f : ℕ). load_of (load_kind_of f) w) has.funct3_is
    ∙ ap (λ (o : Option LoadKind). load_of o w) code.1
    ∙ (λ i. Some (Load k (has.rd_is i) (has.rs1_is i) (imm_is i)))

store : (k : StoreKind) (r s : ℕ) (offset : ℤ) → fits (Store k r s offset) ≡ true
    → instr_of (word_of (Store k r s offset)) ≡ Some (Store k r s offset)
unfolding word_of
store k r s offset h =
    let fit = and_parts _ _ h in
    let registers = and_parts _ _ fit.0 in
    let code = store_code_is k in
    let n : ℕ = twos offset in
    let low : ℕ = field n 0 5 in
    let top : ℕ = field n 5 7 in
    let hr = below_32 r registers.0 in
    let has = HasFields-joined 0x23 low (store_code k) s (top * 2 ^ 5 + r) (omega arith) (omega arith) code.0
    (below_32 s registers.1) (omega arith) in
    let w : ℕ = store_word (store_code k) s r n in
    let g = funct7_is w 0x23 low (store_code k) s (top * 2 ^ 5 + r) has top r hr refl in
    let imm_is : imm_s w ≡ offset = (λ i. signed 12 (g i * 2 ^ 5 + has.rd_is i)) ∙ ap (signed 12) (parts_s n)
    ∙ signed_12-twos offset fit.1 in
    let r_is = rs2_is w 0x23 low (store_code k) s (top * 2 ^ 5 + r) has top r hr refl in
    row w 0x23 has.opcode_is
    ∙ ap (λ (f : ℕ). store_of (store_kind_of f) w) has.funct3_is
    ∙ ap (λ (o : Option StoreKind). store_of o w) code.1
    ∙ (λ i. Some (Store k (r_is i) (has.rs1_is i) (imm_is i)))

-- an operation that is read from its funct3 and funct7
module _ (op : ImmOp) (d s : ℕ) (imm : ℤ) (hd : d < 32) (hs : s < 32) where
  op_imm_from : (high g : ℕ) → high < 2 ^ 12 → field (joined 0x13 d (imm_op_code op) s high) 25 7 ≡ g
      → imm_op_code op < 8 → imm_op_of (imm_op_code op) g ≡ Some op
      → operand_of op (joined 0x13 d (imm_op_code op) s high) ≡ imm
      → instr_of (joined 0x13 d (imm_op_code op) s high) ≡ Some (OpImm op d s imm)
  op_imm_from high g hh is_g small is_op imm_is =
      let w : ℕ = joined 0x13 d (imm_op_code op) s high in
      let has = HasFields-joined 0x13 d (imm_op_code op) s high (omega arith) hd small hs hh in
      row w 0x13 has.opcode_is
      ∙ (λ i. op_imm_of (imm_op_of (has.funct3_is i) (is_g i)) w)
      ∙ ap (λ (o : Option ImmOp). op_imm_of o w) is_op
      ∙ (λ i. Some (OpImm op (has.rd_is i) (has.rs1_is i) (imm_is i)))

-- an operation with an I immediate does not look at funct7
plain : (op : ImmOp) (d s : ℕ) (imm : ℤ) → d < 32 → s < 32 → is_within (2 ^ 11) imm ≡ true → imm_op_code op < 8
    → ((g : ℕ) → imm_op_of (imm_op_code op) g ≡ Some op) → ((w : ℕ) → operand_of op w ≡ imm_i w)
    → instr_of (joined 0x13 d (imm_op_code op) s (field (twos imm) 0 12)) ≡ Some (OpImm op d s imm)
plain op d s imm hd hs within small is_op is_imm =
    let high : ℕ = field (twos imm) 0 12 in
    let w : ℕ = joined 0x13 d (imm_op_code op) s high in
    let hh : high < 2 ^ 12 = omega arith in
    let has = HasFields-joined 0x13 d (imm_op_code op) s high (omega arith) hd small hs hh in
    let imm_is = is_imm w ∙ imm_i_is w 0x13 d (imm_op_code op) s high has imm within refl in
    op_imm_from op d s imm hd hs high (funct7 w) hh refl small (is_op (funct7 w)) imm_is

-- a shift has its funct7 above its distance
shift : (op : ImmOp) (d s r g : ℕ) → d < 32 → s < 32 → r < 32 → g < 128 → imm_op_code op < 8
    → imm_op_of (imm_op_code op) g ≡ Some op → ((w : ℕ) → operand_of op w ≡ pos (rs2 w))
    → instr_of (joined 0x13 d (imm_op_code op) s (g * 2 ^ 5 + r)) ≡ Some (OpImm op d s (pos r))
shift op d s r g hd hs hr hg small is_op is_distance =
    let high : ℕ = g * 2 ^ 5 + r in
    let w : ℕ = joined 0x13 d (imm_op_code op) s high in
    let hh : high < 2 ^ 12 = omega arith in
    let has = HasFields-joined 0x13 d (imm_op_code op) s high (omega arith) hd small hs hh in
    let r_is = rs2_is w 0x13 d (imm_op_code op) s high has g r hr refl in
    let g_is = funct7_is w 0x13 d (imm_op_code op) s high has g r hr refl in
    op_imm_from op d s (pos r) hd hs high g hh g_is small is_op (is_distance w ∙ ap pos r_is)

op_imm : (op : ImmOp) (d s : ℕ) (imm : ℤ) → d < 32 → s < 32 → is_operand op imm ≡ true
    → instr_of (joined 0x13 d (imm_op_code op) s (imm_op_high op imm)) ≡ Some (OpImm op d s imm)
op_imm Addi d s imm hd hs h = plain Addi d s imm hd hs h (omega arith) (λ g. refl) (λ w. refl)
op_imm Slli d s (pos r) hd hs h =
    let hr = below_32 r h in
    let e : field r 0 12 ≡ 0 * 2 ^ 5 + r = omega arith in
    ap (λ (n : ℕ). instr_of (joined 0x13 d 1 s n)) e
    ∙ shift Slli d s r 0 hd hs hr (omega arith) (omega arith) refl (λ w. refl)
op_imm Slli d s (negsuc r) hd hs h = absurd (cc)
op_imm Slti d s imm hd hs h = plain Slti d s imm hd hs h (omega arith) (λ g. refl) (λ w. refl)
op_imm Sltiu d s imm hd hs h = plain Sltiu d s imm hd hs h (omega arith) (λ g. refl) (λ w. refl)
op_imm Xori d s imm hd hs h = plain Xori d s imm hd hs h (omega arith) (λ g. refl) (λ w. refl)
op_imm Srli d s (pos r) hd hs h =
    let hr = below_32 r h in
    let e : field r 0 12 ≡ 0 * 2 ^ 5 + r = omega arith in
    ap (λ (n : ℕ). instr_of (joined 0x13 d 5 s n)) e
    ∙ shift Srli d s r 0 hd hs hr (omega arith) (omega arith) refl (λ w. refl)
op_imm Srli d s (negsuc r) hd hs h = absurd (cc)
op_imm Srai d s (pos r) hd hs h =
    let hr = below_32 r h in
    let e : 32 * 2 ^ 5 + field r 0 5 ≡ 32 * 2 ^ 5 + r = omega arith in
    ap (λ (n : ℕ). instr_of (joined 0x13 d 5 s n)) e
    ∙ shift Srai d s r 32 hd hs hr (omega arith) (omega arith) refl (λ w. refl)
op_imm Srai d s (negsuc r) hd hs h = absurd (cc)
op_imm Ori d s imm hd hs h = plain Ori d s imm hd hs h (omega arith) (λ g. refl) (λ w. refl)
op_imm Andi d s imm hd hs h = plain Andi d s imm hd hs h (omega arith) (λ g. refl) (λ w. refl)

op_code_is : (o : RegOp)
    → (reg_op_code o < 8) × (reg_op_high o < 128) × (reg_op_of (reg_op_code o) (reg_op_high o) ≡ Some o)
op_code_is Add = (omega arith, omega arith, refl)
op_code_is Sub = (omega arith, omega arith, refl)
op_code_is Sll = (omega arith, omega arith, refl)
op_code_is Slt = (omega arith, omega arith, refl)
op_code_is Sltu = (omega arith, omega arith, refl)
op_code_is Xor = (omega arith, omega arith, refl)
op_code_is Srl = (omega arith, omega arith, refl)
op_code_is Sra = (omega arith, omega arith, refl)
op_code_is Or = (omega arith, omega arith, refl)
op_code_is And = (omega arith, omega arith, refl)
op_code_is Mul = (omega arith, omega arith, refl)
op_code_is Mulh = (omega arith, omega arith, refl)
op_code_is Mulhsu = (omega arith, omega arith, refl)
op_code_is Mulhu = (omega arith, omega arith, refl)
op_code_is Div = (omega arith, omega arith, refl)
op_code_is Divu = (omega arith, omega arith, refl)
op_code_is Rem = (omega arith, omega arith, refl)
op_code_is Remu = (omega arith, omega arith, refl)

op : (o : RegOp) (d s r : ℕ) → fits (Op o d s r) ≡ true → instr_of (word_of (Op o d s r)) ≡ Some (Op o d s r)
unfolding word_of
op o d s r h =
    let fit = and_parts _ _ h in
    let registers = and_parts _ _ fit.0 in
    let code = op_code_is o in
    let hr = below_32 r fit.1 in
    let high : ℕ = reg_op_high o * 2 ^ 5 + r in
    let has = HasFields-joined 0x33 d (reg_op_code o) s high (omega arith) (below_32 d registers.0) code.0
    (below_32 s registers.1) (omega (arith, code.1)) in
    let w : ℕ = joined 0x33 d (reg_op_code o) s high in
    let r_is = rs2_is w 0x33 d (reg_op_code o) s high has (reg_op_high o) r hr refl in
    let g_is = funct7_is w 0x33 d (reg_op_code o) s high has (reg_op_high o) r hr refl in
    row w 0x33 has.opcode_is
    ∙ (λ i. op_of (reg_op_of (has.funct3_is i) (g_is i)) w)
    ∙ ap (λ (x : Option RegOp). op_of x w) code.2
    ∙ (λ i. Some (Op o (has.rd_is i) (has.rs1_is i) (r_is i)))

fence : (d s bits : ℕ) → fits (Fence d s bits) ≡ true → instr_of (word_of (Fence d s bits)) ≡ Some (Fence d s bits)
unfolding word_of
fence d s bits h =
    let fit = and_parts _ _ h in
    let registers = and_parts _ _ fit.0 in
    let has = HasFields-joined 0x0F d 0 s bits (omega arith) (below_32 d registers.0) (omega arith)
    (below_32 s registers.1) (ltb-true bits (2 ^ 12) fit.1) in
    let w : ℕ = joined 0x0F d 0 s bits in
    row w 0x0F has.opcode_is
    ∙ ap (λ (f : ℕ). fence_of f w) has.funct3_is
    ∙ (λ i. Some (Fence (has.rd_is i) (has.rs1_is i) (has.high_is i)))

-- the word of an instruction that fits is read as that instruction
pub instr_of-word_of : (i : Instr) → fits i ≡ true → instr_of (word_of i) ≡ Some i
unfolding word_of instr_of
instr_of-word_of (Lui d imm) h = lui d imm h
instr_of-word_of (Auipc d imm) h = auipc d imm h
instr_of-word_of (Jal d offset) h = jal d offset h
instr_of-word_of (Jalr d s offset) h = jalr d s offset h
instr_of-word_of (Branch t s r offset) h = branch t s r offset h
instr_of-word_of (Load k d s offset) h = load k d s offset h
instr_of-word_of (Store k r s offset) h = store k r s offset h
instr_of-word_of (OpImm op d s imm) h =
    let fit = and_parts _ _ h in
    let registers = and_parts _ _ fit.0 in
    op_imm op d s imm (below_32 d registers.0) (below_32 s registers.1) fit.1
instr_of-word_of (Op o d s r) h = op o d s r h
instr_of-word_of (Fence d s bits) h = fence d s bits h
instr_of-word_of Ecall h = refl
instr_of-word_of Ebreak h = refl

-- the same of a word that is the instruction's
pub read_from_word : (w : ℕ) (i : Instr) → fits i ≡ true → w ≡ word_of i → instr_of w ≡ Some i
read_from_word w i h e = ap instr_of e ∙ instr_of-word_of i h
