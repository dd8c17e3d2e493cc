-- The instructions of the workload: its four tasks in two forms, and main.
use Rattle.std.specs.Prelude.{ℕ, ℤ, pos, negsuc, List, [], ◌∷◌, ◌++◌}
use Rattle.tss_isa.specs.declared.instr.Instr.{Instr}
use Rattle.tss_isa.specs.declared.instr.Instr.TheVariants.{Jalr, Branch, Load, Store, OpImm, Op, Ecall}
use Rattle.tss_isa.specs.declared.instr.Test.TheVariants.{Bne}
use Rattle.tss_isa.specs.declared.instr.LoadKind.TheVariants.{Lw}
use Rattle.tss_isa.specs.declared.instr.StoreKind.TheVariants.{Sw}
use Rattle.tss_isa.specs.declared.instr.ImmOp.TheVariants.{Addi, Slli, Srli}
use Rattle.tss_isa.specs.declared.instr.RegOp.TheVariants.{Add, Sub, Xor, Mul, Divu}
use Rattle.tss_gen.specs.declared.form.Form.{Form}
use Rattle.tss_gen.specs.declared.form.Form.TheVariants.{Shifts, Products}

-- the instructions that the code has, by their registers
abbrev pub addi : ℕ → ℕ → ℤ → Instr
addi d s n = OpImm Addi d s n

abbrev pub lw : ℕ → ℕ → Instr
lw d s = Load Lw d s (pos 0)

abbrev pub sw : ℕ → ℕ → Instr
sw r s = Store Sw r s (pos 0)

-- a branch back over so many instructions while the first operand's end isn't reached
abbrev pub again : ℤ → Instr
again offset = Branch Bne 10 6 offset

abbrev pub ret : Instr
ret = Jalr 0 1 (pos 0)

-- D adds to each word of its block what that is with three bits more, or over k + 1, and k
abbrev pub diagonal : Form → List Instr
diagonal Shifts =
    addi 6 10 (pos 64)
    ∷ lw 5 10 ∷ OpImm Slli 7 5 (pos 3) ∷ Op Add 5 5 7 ∷ Op Add 5 5 11 ∷ sw 5 10
    ∷ addi 10 10 (pos 4) ∷ again (negsuc 23) ∷ ret ∷ []
diagonal Products =
    addi 6 10 (pos 64) ∷ addi 11 11 (pos 1)
    ∷ lw 5 10 ∷ Op Divu 7 5 11 ∷ Op Add 5 5 7 ∷ sw 5 10
    ∷ addi 10 10 (pos 4) ∷ again (negsuc 19) ∷ ret ∷ []

-- E writes each word of d and k to T
abbrev pub extract : List Instr
extract =
    addi 6 10 (pos 64)
    ∷ lw 5 10 ∷ Op Add 5 5 12 ∷ sw 5 11
    ∷ addi 10 10 (pos 4) ∷ addi 11 11 (pos 4) ∷ again (negsuc 19) ∷ ret ∷ []

-- C adds T exclusive or k to c, or multiplies c by T and adds k
abbrev pub column : Form → List Instr
column Shifts =
    addi 6 10 (pos 64)
    ∷ lw 5 10 ∷ Op Xor 5 5 12 ∷ lw 7 11 ∷ Op Add 7 7 5 ∷ sw 7 11
    ∷ addi 10 10 (pos 4) ∷ addi 11 11 (pos 4) ∷ again (negsuc 27) ∷ ret ∷ []
column Products =
    addi 6 10 (pos 64)
    ∷ lw 5 10 ∷ lw 7 11 ∷ Op Mul 7 7 5 ∷ Op Add 7 7 12 ∷ sw 7 11
    ∷ addi 10 10 (pos 4) ∷ addi 11 11 (pos 4) ∷ again (negsuc 27) ∷ ret ∷ []

-- U is c exclusive or a and half of b, or c less a times b
abbrev pub update : Form → List Instr
update Shifts =
    addi 6 10 (pos 64)
    ∷ lw 5 11 ∷ OpImm Srli 5 5 (pos 1) ∷ lw 7 10 ∷ Op Add 5 5 7 ∷ lw 7 12 ∷ Op Xor 7 7 5 ∷ sw 7 12
    ∷ addi 10 10 (pos 4) ∷ addi 11 11 (pos 4) ∷ addi 12 12 (pos 4) ∷ again (negsuc 39) ∷ ret ∷ []
update Products =
    addi 6 10 (pos 64)
    ∷ lw 5 10 ∷ lw 7 11 ∷ Op Mul 5 5 7 ∷ lw 7 12 ∷ Op Sub 7 7 5 ∷ sw 7 12
    ∷ addi 10 10 (pos 4) ∷ addi 11 11 (pos 4) ∷ addi 12 12 (pos 4) ∷ again (negsuc 35) ∷ ret ∷ []

-- the four, one after the other
abbrev pub tasks : Form → List Instr
tasks form = diagonal form ++ extract ++ column form ++ update form

-- what main does for each record of the table, up to its end, and then: a barrier, and exit with 0
abbrev pub main_loop : List Instr
main_loop =
    lw 10 8 ∷ Load Lw 12 8 (pos 4) ∷ Load Lw 13 8 (pos 8) ∷ addi 11 8 (pos 12) ∷ addi 17 0 (pos 2) ∷ Ecall
    ∷ addi 8 8 (pos 48) ∷ Branch Bne 8 9 (negsuc 27)
    ∷ addi 17 0 (pos 3) ∷ Ecall ∷ addi 10 0 (pos 0) ∷ addi 17 0 (pos 1) ∷ Ecall ∷ []
