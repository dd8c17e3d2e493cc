-- The fields of a word that was put together from them, and a word from its fields.
use Rattle.std.proofs.Common.{◌≡◌, ℕ, ◌^◌, ◌<◌, arith}
use Rattle.tss_isa.specs.Fields.{field, opcode, rd, funct3, rs1}
use Rattle.tss_isa.specs.InstrTable.{joined, joined_upper}

-- what a word has in its fields, bits 31 to 20 in one
pub record HasFields (w o d f s high : ℕ) : Type 0 where
  pub opcode_is : opcode w ≡ o
  pub rd_is : rd w ≡ d
  pub funct3_is : funct3 w ≡ f
  pub rs1_is : rs1 w ≡ s
  pub high_is : field w 20 12 ≡ high

pub HasFields-joined : (o d f s high : ℕ) → o < 128 → d < 32 → f < 8 → s < 32 → high < 4096
    → HasFields (joined o d f s high) o d f s high
HasFields-joined o d f s high ho hd hf hs hh = record {
  opcode_is = omega arith;
  rd_is = omega arith;
  funct3_is = omega arith;
  rs1_is = omega arith;
  high_is = omega arith;
}

-- a word is what its fields put together
pub joined-fields : (w : ℕ) → w < 2 ^ 32 → joined (opcode w) (rd w) (funct3 w) (rs1 w) (field w 20 12) ≡ w
joined-fields w h = omega arith

pub joined_upper-fields : (w : ℕ) → w < 2 ^ 32 → joined_upper (opcode w) (rd w) (field w 12 20) ≡ w
joined_upper-fields w h = omega arith
