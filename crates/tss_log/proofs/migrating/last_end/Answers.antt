-- The last byte, if there is one.
use Rattle.std.proofs.Common.{sym, ap, ◌∙◌}
use Rattle.std.specs.Option.{option_copied}
use Rattle.tss_log.proofs.LineLemmas.{text_of-ended, text_of-unended, text_of-none}
use Rattle.tss_log.proofs.migrating.last_end.Goals as goal

pub returns-then-last-eq10 : goal.returns-then-last-eq10
returns-then-last-eq10 c =
    text_of-ended c.args.bytes.now c.in-Some.last.now (sym c.last.ensures.value ∙ ap option_copied c.in-Some.is)
    c.if-last-eq10.true

pub returns-else-last-eq10 : goal.returns-else-last-eq10
returns-else-last-eq10 c =
    text_of-unended c.args.bytes.now c.in-Some.last.now (sym c.last.ensures.value ∙ ap option_copied c.in-Some.is)
    c.if-last-eq10.false

pub returns-in-None : goal.returns-in-None
returns-in-None c = text_of-none c.args.bytes.now (sym c.last.ensures.value ∙ ap option_copied c.in-None.is)
