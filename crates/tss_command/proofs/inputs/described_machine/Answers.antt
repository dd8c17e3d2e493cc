-- The machine, or the check that fails, is the description's.
use Rattle.std.proofs.Common.{inr, sym, ◌∙◌}
use Rattle.tss_command.proofs.AnswerLemmas.{described-ok, described-err, fault_given}
use Rattle.tss_command.proofs.inputs.described_machine.Goals as goal

pub returns-in-Ok-clause-exact : goal.returns-in-Ok-clause-exact
returns-in-Ok-clause-exact c = inr (described-ok c.args.bytes.now c.in-Ok.machine (c.in-Ok.ensures.exact))

pub returns-in-Some-clause-exact : goal.returns-in-Some-clause-exact
returns-in-Some-clause-exact c =
    let f = c.in-Err.fault in
    let bad = c.in-Some.bad in
    let is = sym c.new.ensures ∙ c.in-Some.is in
    inr (described-err c.args.bytes.now f bad is (fault_given f _ bad is c.in-Err.ensures.exact))
