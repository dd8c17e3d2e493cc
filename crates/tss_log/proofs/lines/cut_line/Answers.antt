-- The first line feed, or the end.
use Rattle.std.proofs.Common.{sym, ◌∙◌}
use Rattle.tss_log.proofs.LineLemmas.{lines_found, lines_unfound}
use Rattle.tss_log.proofs.lines.cut_line.Goals as goal

pub returns-in-Some-clause-lines : goal.returns-in-Some-clause-lines
returns-in-Some-clause-lines c = lines_found c.args.bytes.now c.in-Some.end (sym c.line_end.ensures ∙ c.in-Some.is)

pub returns-in-None-clause-lines : goal.returns-in-None-clause-lines
returns-in-None-clause-lines c = lines_unfound c.args.bytes.now c.requires (sym c.line_end.ensures ∙ c.in-None.is)
