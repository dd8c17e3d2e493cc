use Rattle.std.proofs.Common.{sym, ◌∙◌}
use Rattle.tss_asm.proofs.ImageLemmas.{accepted_from}
use Rattle.tss_asm.proofs.program.Program.finish.Goals as goal

pub returns-clause-accepted : goal.returns-clause-accepted
returns-clause-accepted c =
    accepted_from c.args.self c.args.entry c.image.result
    (sym c.is_laid_out.ensures ∙ c.if-not-is_laid_out.false) c.image.ensures.ok
