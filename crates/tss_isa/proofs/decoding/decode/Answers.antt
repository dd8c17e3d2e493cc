-- The instruction of a word, by the row of its opcode.
use Rattle.std.proofs.Common.{◌≡◌, ℕ, Option, IfSome, ap, sym, subst, ◌∙◌}
use Rattle.tss_isa.specs.declared.instr.Instr.{Instr}
use Rattle.tss_isa.specs.Fields.{opcode}
use Rattle.tss_isa.specs.InstrTable.{instr_of, row_of}
use Rattle.tss_isa.proofs.InverseLemmas.{IsOfWord, instr_of-inverse}
use Rattle.tss_isa.proofs.decoding.decode.Goals as goal

-- the row of a word's opcode is its instruction
read_by_row : (w o : ℕ) (r : Option Instr) → o ≡ opcode w → r ≡ row_of o w → r ≡ instr_of w
unfolding instr_of
read_by_row w o r e is = is ∙ ap (λ (k : ℕ). row_of k w) e

pub returns : goal.returns
returns c =
    let read = read_by_row c.args.word c.opcode.result c.row.result c.opcode.ensures c.row.ensures in
    record {
      exact = read;
      inverse = subst (λ (r : Option Instr). IfSome r (IsOfWord c.args.word)) (sym read)
          (instr_of-inverse c.args.word c.ranges.word.fits);
    }
