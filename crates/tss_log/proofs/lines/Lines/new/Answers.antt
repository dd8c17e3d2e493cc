-- A log without lines.
use Rattle.std.proofs.Common.{◌≡◌, [], sym, ◌∙◌}
use Rattle.tss_protocol.specs.State.{initial_state}
use Rattle.tss_protocol.specs.Text.{lines_of}
use Rattle.tss_log.proofs.LineLemmas.{no_lines}
use Rattle.tss_log.proofs.LogLineLemmas.{no_event_lines, none_judged}
use Rattle.tss_log.proofs.lines.Lines.new.Goals as goal

none : (c : goal.Then-is_empty) → lines_of c.args.bytes.now ≡ []
none c = no_lines c.args.bytes.now (sym c.is_empty.ensures ∙ c.if-is_empty.true)

pub returns-then-is_empty-clause-exact : goal.returns-then-is_empty-clause-exact
returns-then-is_empty-clause-exact c = no_event_lines (lines_of c.args.bytes.now) (none c)

pub returns-then-is_empty-clause-judged : goal.returns-then-is_empty-clause-judged
returns-then-is_empty-clause-judged c = λ m i. none_judged m (initial_state i) (lines_of c.args.bytes.now) (none c)
