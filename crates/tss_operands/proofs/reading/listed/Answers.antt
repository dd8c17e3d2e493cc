-- An empty list passes.
use Rattle.std.proofs.Common.{ap, sym, ◌∙◌, Ok}
use Rattle.tss_operands.specs.Spawning.{call_of}
use Rattle.tss_operands.proofs.ReadingLemmas.{list_checked-none}
use Rattle.tss_operands.proofs.reading.listed.Goals as goal

pub returns-then-words-eq0 : goal.returns-then-words-eq0
returns-then-words-eq0 c =
    ap Ok c.new.ensures
    ∙ sym (list_checked-none (call_of c.args.words.now) c.args.space.now c.args.epoch.now.objects c.args.limits.now c.if-words-eq0.true)
