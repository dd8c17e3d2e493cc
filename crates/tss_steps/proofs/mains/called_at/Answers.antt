-- A step of these registers is a call where it executes ECALL.
use Rattle.std.proofs.Common.{Some, sym, ap, ◌∙◌}
use Rattle.std.specs.Prelude.{option_map}
use Rattle.std.proofs.lemmas.Bool.{eq-eqb, ne_eqb}
use Rattle.tss_model.specs.Memory.{code_word}
use Rattle.tss_model.specs.MainStep.{call_of}
use Rattle.tss_steps.proofs.CallLemmas.{called-ended, called-unfetched, called-illegal, called-ecall, called-other}
use Rattle.tss_steps.proofs.mains.called_at.Goals as goal

pub returns-then-pc-eq-END_PC-clause-exact : goal.returns-then-pc-eq-END_PC-clause-exact
returns-then-pc-eq-END_PC-clause-exact c actor byte =
    called-ended actor byte (code_word c.args.code.now) c.args.regs.now (eq-eqb c.args.regs.now.pc 4294967280 (sym c.pc.ensures ∙ c.if-pc-eq-END_PC.true))

pub returns-in_err-word-clause-exact : goal.returns-in_err-word-clause-exact
returns-in_err-word-clause-exact c actor byte =
    ap (option_map call_of) c.from_residual.ensures
    ∙ called-unfetched actor byte (code_word c.args.code.now) c.args.regs.now
    (ne_eqb c.args.regs.now.pc 4294967280 (λ e. c.if-pc-eq-END_PC.false (c.pc.ensures ∙ e)))
    (sym c.in_err-word.was ∙ c.fetch.ensures ∙ ap (code_word c.args.code.now) c.pc-2.ensures)

pub returns-in_err-decode-clause-exact : goal.returns-in_err-decode-clause-exact
returns-in_err-decode-clause-exact c actor byte =
    ap (option_map call_of) c.from_residual-in_err-decode.ensures
    ∙ called-illegal actor byte (code_word c.args.code.now) c.args.regs.now
    (ne_eqb c.args.regs.now.pc 4294967280 (λ e. c.if-pc-eq-END_PC.false (c.pc.ensures ∙ e))) c.in_ok-word.word
    (sym c.in_ok-word.was ∙ c.fetch.ensures ∙ ap (code_word c.args.code.now) c.pc-2.ensures)
    (sym c.in_err-decode.was ∙ c.decode.ensures.exact)

pub returns-in-Ecall-clause-exact : goal.returns-in-Ecall-clause-exact
returns-in-Ecall-clause-exact c actor byte =
    called-ecall actor byte (code_word c.args.code.now) c.args.regs.now
    (ne_eqb c.args.regs.now.pc 4294967280 (λ e. c.if-pc-eq-END_PC.false (c.pc.ensures ∙ e))) c.in_ok-word.word
    (sym c.in_ok-word.was ∙ c.fetch.ensures ∙ ap (code_word c.args.code.now) c.pc-2.ensures)
    (sym (ap Some c.in-Ecall.is) ∙ sym c.in_ok-decode.was ∙ c.decode.ensures.exact) c.get.result c.get.ensures

pub returns-in_default : goal.returns-in_default
returns-in_default c = record {
  exact = λ actor byte.
      called-other actor byte (code_word c.args.code.now) c.args.regs.now
      (ne_eqb c.args.regs.now.pc 4294967280 (λ e. c.if-pc-eq-END_PC.false (c.pc.ensures ∙ e))) c.in_ok-word.word
      (sym c.in_ok-word.was ∙ c.fetch.ensures ∙ ap (code_word c.args.code.now) c.pc-2.ensures) c.in_ok-decode.field-0
      (sym c.in_ok-decode.was ∙ c.decode.ensures.exact) c.in_default.not-Ecall;
  number = tt;
}
