-- No line is left.
use Rattle.std.proofs.Common.{length, sym, ap, ◌∙◌, arith}
use Rattle.tss_log.proofs.LineLemmas.{no_lines}
use Rattle.tss_log.proofs.lines.line_count.Goals as goal

pub returns : goal.returns
returns c =
    let none = ap length (no_lines c.loop-rest.rest.now (sym c.is_empty.ensures ∙ c.loop-rest-test.false)) in
    omega (arith, none, c.loop-rest.invariant.lines)
