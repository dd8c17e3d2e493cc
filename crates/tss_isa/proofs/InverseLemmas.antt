-- The word of an instruction is the word that it was read from.
use Rattle.std.proofs.Common.{◌≡◌, ℕ, ◌+◌, ◌*◌, ◌%◌, ◌^◌, ◌<◌, ℤ, pos, true, ◌==◌, IsTrue, Option, IfSome, if◌then◌else◌, inl, inr, ap, sym, refl, ◌∙◌, arith}
use Rattle.std.proofs.lemmas.Bool.{cond_both, and_from, eqb-true, lt-ltb, eq-eqb}
use Rattle.tss_isa.specs.declared.instr.Test.{Test}
use Rattle.tss_isa.specs.declared.instr.Test.TheVariants.{Beq, Bne, Blt, Bge, Bltu, Bgeu}
use Rattle.tss_isa.specs.declared.instr.LoadKind.{LoadKind}
use Rattle.tss_isa.specs.declared.instr.LoadKind.TheVariants.{Lb, Lh, Lw, Lbu, Lhu}
use Rattle.tss_isa.specs.declared.instr.StoreKind.{StoreKind}
use Rattle.tss_isa.specs.declared.instr.StoreKind.TheVariants.{Sb, Sh, Sw}
use Rattle.tss_isa.specs.declared.instr.ImmOp.{ImmOp}
use Rattle.tss_isa.specs.declared.instr.ImmOp.TheVariants.{Addi, Slli, Slti, Sltiu, Xori, Srli, Srai, Ori, Andi}
use Rattle.tss_isa.specs.declared.instr.RegOp.{RegOp}
use Rattle.tss_isa.specs.declared.instr.RegOp.TheVariants.{Add, Sub, Sll, Slt, Sltu, Xor, Srl, Sra, Or, And, Mul, Mulh, Mulhsu, Mulhu, Div, Divu, Rem, Remu}
use Rattle.tss_isa.specs.declared.instr.Instr.{Instr}
use Rattle.tss_isa.specs.declared.instr.Instr.TheVariants.{Lui, Auipc, Jal, Jalr, Branch, Load, Store, OpImm, Op, Fence}
use Rattle.tss_isa.specs.Fields.{field, opcode, rd, funct3, rs1, rs2, funct7, signed, imm_i, imm_s, imm_b, imm_u, imm_j}
use Rattle.tss_isa.specs.InstrTable.{instr_of, row_of, branch_of, test_of, load_of, load_kind_of, store_of, store_kind_of, op_imm_of, imm_op_of, op_of, reg_op_of, plain_op_of, product_op_of, other_op_of, system_of, word_of, test_code, load_code, store_code, imm_op_code, imm_op_high, reg_op_code, reg_op_high, twos, low_b, high_b, upper_j, joined, joined_upper, fits, is_register, is_upper, is_within, is_operand, is_distance}
use Rattle.tss_isa.proofs.SignLemmas.{twos-signed, is_within-signed, is_even-signed}

-- the instruction has the word
abbrev pub IsOfWord : ℕ → Instr → Type 0
IsOfWord w i = IsTrue (fits i) × (word_of i ≡ w)

-- a choice by an equation of numbers
by_number : {A : Type 0} (P : A → Type 0) (m n : ℕ) {x y : A} → (m ≡ n → P x) → P y → P (if m == n then x else y)
by_number P m n {x} {y} same other = cond_both (m == n) x y P (λ e. same (eqb-true m n e)) (λ e. other)

-- a field of five bits names a register
register : (w low : ℕ) → is_register (field w low 5) ≡ true
register w low = let below : field w low 5 < 32 = omega arith in lt-ltb _ _ below

-- an extended number has the bits of the number
low_12-signed : (n : ℕ) → n < 2 ^ 12 → field (twos (signed 12 n)) 0 12 ≡ n
low_12-signed n h = elim (twos-signed 12 n (omega arith) h) [ inl e ↦ omega (arith, e) | inr e ↦ omega (arith, e) ]

low_s-signed : (n : ℕ) → n < 2 ^ 12 → field (twos (signed 12 n)) 0 5 ≡ field n 0 5
low_s-signed n h = elim (twos-signed 12 n (omega arith) h) [ inl e ↦ omega (arith, e) | inr e ↦ omega (arith, e) ]

high_s-signed : (n : ℕ) → n < 2 ^ 12 → field (twos (signed 12 n)) 5 7 ≡ field n 5 7
high_s-signed n h = elim (twos-signed 12 n (omega arith) h) [ inl e ↦ omega (arith, e) | inr e ↦ omega (arith, e) ]

low_b-signed : (n : ℕ) → n < 2 ^ 13 → low_b (twos (signed 13 n)) ≡ low_b n
low_b-signed n h = elim (twos-signed 13 n (omega arith) h) [ inl e ↦ ap low_b e | inr e ↦ ap low_b e ∙ omega arith ]

high_b-signed : (n : ℕ) → n < 2 ^ 13 → high_b (twos (signed 13 n)) ≡ high_b n
high_b-signed n h = elim (twos-signed 13 n (omega arith) h) [ inl e ↦ ap high_b e | inr e ↦ ap high_b e ∙ omega arith ]

upper_j-signed : (n : ℕ) → n < 2 ^ 21 → upper_j (twos (signed 21 n)) ≡ upper_j n
upper_j-signed n h =
    elim (twos-signed 21 n (omega arith) h) [ inl e ↦ ap upper_j e | inr e ↦ ap upper_j e ∙ omega arith ]

-- the parts of a B immediate
module _ (a b c d : ℕ) (ha : a < 2) (hb : b < 2) (hc : c < 64) (hd : d < 16) where
  low_b-parts : low_b (a * 2 ^ 12 + b * 2 ^ 11 + c * 2 ^ 5 + d * 2) ≡ d * 2 + b
  low_b-parts = omega arith

  high_b-parts : high_b (a * 2 ^ 12 + b * 2 ^ 11 + c * 2 ^ 5 + d * 2) ≡ a * 2 ^ 6 + c
  high_b-parts = omega arith

-- and of a J immediate
upper_j-parts : (a b c d : ℕ) → a < 2 → b < 256 → c < 2 → d < 1024
    → upper_j (a * 2 ^ 20 + b * 2 ^ 12 + c * 2 ^ 11 + d * 2) ≡ a * 2 ^ 19 + d * 2 ^ 9 + c * 2 ^ 8 + b
upper_j-parts a b c d ha hb hc hd = omega arith

module _ (w : ℕ) (word : w < 2 ^ 32) where
  imm_u_fits : is_upper (imm_u w) ≡ true
  imm_u_fits =
      let low : imm_u w % 2 ^ 12 ≡ 0 = omega arith in
      let below : imm_u w < 2 ^ 32 = omega arith in
      and_from _ _ (eq-eqb _ _ low) (lt-ltb _ _ below)

  imm_i_fits : is_within (2 ^ 11) (imm_i w) ≡ true
  imm_i_fits = is_within-signed 12 (field w 20 12) (omega arith) (omega arith)

  imm_i_is : field (twos (imm_i w)) 0 12 ≡ field w 20 12
  imm_i_is = low_12-signed (field w 20 12) (omega arith)

  lui : opcode w ≡ 0x37 → IsOfWord w (Lui (rd w) (imm_u w))
  unfolding word_of
  lui e = (and_from _ _ (register w 7) imm_u_fits, omega arith)

  auipc : opcode w ≡ 0x17 → IsOfWord w (Auipc (rd w) (imm_u w))
  unfolding word_of
  auipc e = (and_from _ _ (register w 7) imm_u_fits, omega arith)

  jal : opcode w ≡ 0x6F → IsOfWord w (Jal (rd w) (imm_j w))
  unfolding word_of
  jal e =
      let n : ℕ = field w 31 1 * 2 ^ 20 + field w 12 8 * 2 ^ 12 + field w 20 1 * 2 ^ 11 + field w 21 10 * 2 in
      let below : n < 2 ^ 21 = omega arith in
      let within = is_within-signed 21 n (omega arith) below in
      let even = is_even-signed 21 n (omega arith) below (omega arith) in
      let parts = upper_j-parts (field w 31 1) (field w 12 8) (field w 20 1) (field w 21 10) (omega arith)
      (omega arith) (omega arith) (omega arith) in
      let bits : upper_j (twos (imm_j w)) ≡ field w 12 20 = upper_j-signed n below ∙ parts ∙ omega arith in
      (and_from _ _ (and_from _ _ (register w 7) within) even, ap (joined_upper 0x6F (rd w)) bits ∙ omega arith)

  jalr : opcode w ≡ 0x67 → funct3 w ≡ 0 → IsOfWord w (Jalr (rd w) (rs1 w) (imm_i w))
  unfolding word_of
  jalr e f = (
    and_from _ _ (and_from _ _ (register w 7) (register w 15)) imm_i_fits,
    ap (joined 0x67 (rd w) 0 (rs1 w)) imm_i_is ∙ omega arith,
  )

  branch : (t : Test) → opcode w ≡ 0x63 → test_code t ≡ funct3 w → IsOfWord w (Branch t (rs1 w) (rs2 w) (imm_b w))
  unfolding word_of
  branch t e f =
      let n : ℕ = field w 31 1 * 2 ^ 12 + field w 7 1 * 2 ^ 11 + field w 25 6 * 2 ^ 5 + field w 8 4 * 2 in
      let below : n < 2 ^ 13 = omega arith in
      let within = is_within-signed 13 n (omega arith) below in
      let even = is_even-signed 13 n (omega arith) below (omega arith) in
      let low = low_b-parts (field w 31 1) (field w 7 1) (field w 25 6) (field w 8 4) (omega arith) (omega arith)
      (omega arith) (omega arith) in
      let high = high_b-parts (field w 31 1) (field w 7 1) (field w 25 6) (field w 8 4) (omega arith) (omega arith)
      (omega arith) (omega arith) in
      let low_is : low_b (twos (imm_b w)) ≡ rd w = low_b-signed n below ∙ low ∙ omega arith in
      let high_is : high_b (twos (imm_b w)) ≡ funct7 w = high_b-signed n below ∙ high ∙ omega arith in (
        and_from _ _ (and_from _ _ (and_from _ _ (register w 15) (register w 20)) within) even,
        (λ i. joined 0x63 (low_is i) (f i) (rs1 w) (high_is i * 2 ^ 5 + rs2 w)) ∙ omega arith,
      )

  load : (k : LoadKind) → opcode w ≡ 0x03 → load_code k ≡ funct3 w → IsOfWord w (Load k (rd w) (rs1 w) (imm_i w))
  unfolding word_of
  load k e f = (
    and_from _ _ (and_from _ _ (register w 7) (register w 15)) imm_i_fits,
    (λ i. joined 0x03 (rd w) (f i) (rs1 w) (imm_i_is i)) ∙ omega arith,
  )

  store : (k : StoreKind) → opcode w ≡ 0x23 → store_code k ≡ funct3 w → IsOfWord w (Store k (rs2 w) (rs1 w) (imm_s w))
  unfolding word_of
  store k e f =
      let n : ℕ = field w 25 7 * 2 ^ 5 + field w 7 5 in
      let below : n < 2 ^ 12 = omega arith in
      let within = is_within-signed 12 n (omega arith) below in
      let low_is : field (twos (imm_s w)) 0 5 ≡ rd w = low_s-signed n below ∙ omega arith in
      let high_is : field (twos (imm_s w)) 5 7 ≡ funct7 w = high_s-signed n below ∙ omega arith in (
        and_from _ _ (and_from _ _ (register w 20) (register w 15)) within,
        (λ i. joined 0x23 (low_is i) (f i) (rs1 w) (high_is i * 2 ^ 5 + rs2 w)) ∙ omega arith,
      )

  op_imm : (op : ImmOp) (imm : ℤ) → opcode w ≡ 0x13 → imm_op_code op ≡ funct3 w → imm_op_high op imm ≡ field w 20 12
      → is_operand op imm ≡ true → IsOfWord w (OpImm op (rd w) (rs1 w) imm)
  unfolding word_of
  op_imm op imm e f g operand = (
    and_from _ _ (and_from _ _ (register w 7) (register w 15)) operand,
    (λ i. joined 0x13 (rd w) (f i) (rs1 w) (g i)) ∙ omega arith,
  )

  op : (op : RegOp) → opcode w ≡ 0x33 → reg_op_code op ≡ funct3 w → reg_op_high op ≡ funct7 w
      → IsOfWord w (Op op (rd w) (rs1 w) (rs2 w))
  unfolding word_of
  op o e f g = (
    and_from _ _ (and_from _ _ (register w 7) (register w 15)) (register w 20),
    (λ i. joined 0x33 (rd w) (f i) (rs1 w) (g i * 2 ^ 5 + rs2 w)) ∙ omega arith,
  )

  fence : opcode w ≡ 0x0F → funct3 w ≡ 0 → IsOfWord w (Fence (rd w) (rs1 w) (field w 20 12))
  unfolding word_of
  fence e f =
      let small : field w 20 12 < 2 ^ 12 = omega arith in
      (and_from _ _ (and_from _ _ (register w 7) (register w 15)) (lt-ltb _ _ small), omega arith)

  -- the tables of the opcodes with several instructions
  branches : (f : ℕ) → funct3 w ≡ f → opcode w ≡ 0x63 → IfSome (branch_of (test_of f) w) (IsOfWord w)
  branches f g e =
      let P : Option Test → Type 0 = λ o. IfSome (branch_of o w) (IsOfWord w) in
      by_number P f 0 (λ k. branch Beq e (sym (g ∙ k)))
      (by_number P f 1 (λ k. branch Bne e (sym (g ∙ k)))
      (by_number P f 4 (λ k. branch Blt e (sym (g ∙ k)))
      (by_number P f 5 (λ k. branch Bge e (sym (g ∙ k)))
      (by_number P f 6 (λ k. branch Bltu e (sym (g ∙ k)))
      (by_number P f 7 (λ k. branch Bgeu e (sym (g ∙ k))) tt)))))

  loads : (f : ℕ) → funct3 w ≡ f → opcode w ≡ 0x03 → IfSome (load_of (load_kind_of f) w) (IsOfWord w)
  loads f g e =
      let P : Option LoadKind → Type 0 = λ o. IfSome (load_of o w) (IsOfWord w) in
      by_number P f 0 (λ k. load Lb e (sym (g ∙ k)))
      (by_number P f 1 (λ k. load Lh e (sym (g ∙ k)))
      (by_number P f 2 (λ k. load Lw e (sym (g ∙ k)))
      (by_number P f 4 (λ k. load Lbu e (sym (g ∙ k)))
      (by_number P f 5 (λ k. load Lhu e (sym (g ∙ k))) tt))))

  stores : (f : ℕ) → funct3 w ≡ f → opcode w ≡ 0x23 → IfSome (store_of (store_kind_of f) w) (IsOfWord w)
  stores f g e =
      let P : Option StoreKind → Type 0 = λ o. IfSome (store_of o w) (IsOfWord w) in
      by_number P f 0 (λ k. store Sb e (sym (g ∙ k)))
      (by_number P f 1 (λ k. store Sh e (sym (g ∙ k)))
      (by_number P f 2 (λ k. store Sw e (sym (g ∙ k))) tt))

  is_distance_rs2 : is_distance (pos (rs2 w)) ≡ true
  is_distance_rs2 = let below : rs2 w < 32 = omega arith in lt-ltb _ _ below

  immediates : (f g : ℕ) → funct3 w ≡ f → funct7 w ≡ g → opcode w ≡ 0x13
      → IfSome (op_imm_of (imm_op_of f g) w) (IsOfWord w)
  immediates f g is_f is_g e =
      let P : Option ImmOp → Type 0 = λ o. IfSome (op_imm_of o w) (IsOfWord w) in
      by_number P f 0 (λ k. op_imm Addi (imm_i w) e (sym (is_f ∙ k)) imm_i_is imm_i_fits)
      (by_number P f 1 (λ k. by_number P g 0
      (λ h. op_imm Slli (pos (rs2 w)) e (sym (is_f ∙ k)) (omega arith) is_distance_rs2) tt)
      (by_number P f 2 (λ k. op_imm Slti (imm_i w) e (sym (is_f ∙ k)) imm_i_is imm_i_fits)
      (by_number P f 3 (λ k. op_imm Sltiu (imm_i w) e (sym (is_f ∙ k)) imm_i_is imm_i_fits)
      (by_number P f 4 (λ k. op_imm Xori (imm_i w) e (sym (is_f ∙ k)) imm_i_is imm_i_fits)
      (by_number P f 5 (λ k. by_number P g 0
      (λ h. op_imm Srli (pos (rs2 w)) e (sym (is_f ∙ k)) (omega arith) is_distance_rs2)
      (by_number P g 32 (λ h. op_imm Srai (pos (rs2 w)) e (sym (is_f ∙ k)) (omega arith) is_distance_rs2) tt))
      (by_number P f 6 (λ k. op_imm Ori (imm_i w) e (sym (is_f ∙ k)) imm_i_is imm_i_fits)
      (by_number P f 7 (λ k. op_imm Andi (imm_i w) e (sym (is_f ∙ k)) imm_i_is imm_i_fits) tt)))))))

  plain_ops : (f : ℕ) → funct3 w ≡ f → funct7 w ≡ 0 → opcode w ≡ 0x33 → IfSome (op_of (plain_op_of f) w) (IsOfWord w)
  plain_ops f is_f g e =
      let P : Option RegOp → Type 0 = λ o. IfSome (op_of o w) (IsOfWord w) in
      by_number P f 0 (λ k. op Add e (sym (is_f ∙ k)) (sym g))
      (by_number P f 1 (λ k. op Sll e (sym (is_f ∙ k)) (sym g))
      (by_number P f 2 (λ k. op Slt e (sym (is_f ∙ k)) (sym g))
      (by_number P f 3 (λ k. op Sltu e (sym (is_f ∙ k)) (sym g))
      (by_number P f 4 (λ k. op Xor e (sym (is_f ∙ k)) (sym g))
      (by_number P f 5 (λ k. op Srl e (sym (is_f ∙ k)) (sym g))
      (by_number P f 6 (λ k. op Or e (sym (is_f ∙ k)) (sym g))
      (by_number P f 7 (λ k. op And e (sym (is_f ∙ k)) (sym g)) tt)))))))

  product_ops : (f : ℕ) → funct3 w ≡ f → funct7 w ≡ 1 → opcode w ≡ 0x33
      → IfSome (op_of (product_op_of f) w) (IsOfWord w)
  product_ops f is_f g e =
      let P : Option RegOp → Type 0 = λ o. IfSome (op_of o w) (IsOfWord w) in
      by_number P f 0 (λ k. op Mul e (sym (is_f ∙ k)) (sym g))
      (by_number P f 1 (λ k. op Mulh e (sym (is_f ∙ k)) (sym g))
      (by_number P f 2 (λ k. op Mulhsu e (sym (is_f ∙ k)) (sym g))
      (by_number P f 3 (λ k. op Mulhu e (sym (is_f ∙ k)) (sym g))
      (by_number P f 4 (λ k. op Div e (sym (is_f ∙ k)) (sym g))
      (by_number P f 5 (λ k. op Divu e (sym (is_f ∙ k)) (sym g))
      (by_number P f 6 (λ k. op Rem e (sym (is_f ∙ k)) (sym g))
      (by_number P f 7 (λ k. op Remu e (sym (is_f ∙ k)) (sym g)) tt)))))))

  other_ops : (f : ℕ) → funct3 w ≡ f → funct7 w ≡ 32 → opcode w ≡ 0x33 → IfSome (op_of (other_op_of f) w) (IsOfWord w)
  other_ops f is_f g e =
      let P : Option RegOp → Type 0 = λ o. IfSome (op_of o w) (IsOfWord w) in
      by_number P f 0 (λ k. op Sub e (sym (is_f ∙ k)) (sym g))
      (by_number P f 5 (λ k. op Sra e (sym (is_f ∙ k)) (sym g)) tt)

  operations : (f g : ℕ) → funct3 w ≡ f → funct7 w ≡ g → opcode w ≡ 0x33 → IfSome (op_of (reg_op_of f g) w) (IsOfWord w)
  operations f g is_f is_g e =
      let P : Option RegOp → Type 0 = λ o. IfSome (op_of o w) (IsOfWord w) in
      by_number P g 0 (λ k. plain_ops f is_f (is_g ∙ k) e)
      (by_number P g 1 (λ k. product_ops f is_f (is_g ∙ k) e)
      (by_number P g 32 (λ k. other_ops f is_f (is_g ∙ k) e) tt))

  system : IfSome (system_of w) (IsOfWord w)
  unfolding word_of
  system =
      let P : Option Instr → Type 0 = λ o. IfSome o (IsOfWord w) in
      by_number P w 0x73 (λ k. (refl, sym k)) (by_number P w 0x100073 (λ k. (refl, sym k)) tt)

  rows : (o : ℕ) → opcode w ≡ o → IfSome (row_of o w) (IsOfWord w)
  rows o e =
      let P : Option Instr → Type 0 = λ o. IfSome o (IsOfWord w) in
      by_number P o 0x37 (λ k. lui (e ∙ k))
      (by_number P o 0x17 (λ k. auipc (e ∙ k))
      (by_number P o 0x6F (λ k. jal (e ∙ k))
      (by_number P o 0x67 (λ k. by_number P (funct3 w) 0 (jalr (e ∙ k)) tt)
      (by_number P o 0x63 (λ k. branches (funct3 w) refl (e ∙ k))
      (by_number P o 0x03 (λ k. loads (funct3 w) refl (e ∙ k))
      (by_number P o 0x23 (λ k. stores (funct3 w) refl (e ∙ k))
      (by_number P o 0x13 (λ k. immediates (funct3 w) (funct7 w) refl refl (e ∙ k))
      (by_number P o 0x33 (λ k. operations (funct3 w) (funct7 w) refl refl (e ∙ k))
      (by_number P o 0x0F (λ k. by_number P (funct3 w) 0 (fence (e ∙ k)) tt)
      (by_number P o 0x73 (λ k. system) tt))))))))))

  -- the instruction of a word fits, and has this word
  pub instr_of-inverse : IfSome (instr_of w) (IsOfWord w)
  unfolding instr_of
  instr_of-inverse = rows (opcode w) refl
