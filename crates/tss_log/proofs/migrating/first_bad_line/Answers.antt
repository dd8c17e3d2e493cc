-- No line is left.
use Rattle.std.proofs.Common.{suc, sym, ap, ◌∙◌}
use Rattle.tss_protocol.specs.Migration.{first_bad_line}
use Rattle.tss_log.proofs.LineLemmas.{no_lines}
use Rattle.tss_log.proofs.migrating.first_bad_line.Goals as goal

pub returns : goal.returns
returns c =
    let none = no_lines c.loop-rest.rest.now (sym c.is_empty.ensures ∙ c.loop-rest-test.false) in
    sym (ap (first_bad_line (suc c.loop-rest.before)) none) ∙ c.loop-rest.invariant.bad
