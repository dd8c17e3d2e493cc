-- None is left.
use Rattle.std.proofs.Common.{◌≡◌, [], sym, ap, ◌∙◌}
use Rattle.tss_log.specs.LogLines.{LinesLeft}
use Rattle.tss_log.proofs.LineLemmas.{no_lines}
use Rattle.tss_log.proofs.LogLineLemmas.{none_next}
use Rattle.tss_log.proofs.lines.Lines.next.Goals as goal

none_left : (c : goal.Then-is_empty) → c.args.self.now.left ≡ []
none_left c =
    ap (λ (s : LinesLeft). s.left) (sym c.self.view_is)
    ∙ no_lines c.self.inside.rest.now (sym c.is_empty.ensures ∙ c.if-is_empty.true)

pub returns-then-is_empty-clause-line : goal.returns-then-is_empty-clause-line
returns-then-is_empty-clause-line c = (none_next c.args.self.now (none_left c)).0

pub returns-then-is_empty-clause-left : goal.returns-then-is_empty-clause-left
returns-then-is_empty-clause-left c = (none_next c.args.self.now (none_left c)).1
