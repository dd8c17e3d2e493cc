-- The log, or its first bad line, is the definition's.
use Rattle.std.proofs.Common.{◌∙◌, Err, inr, ap}
use Rattle.tss_command.proofs.AnswerLemmas.{migrated-ok, migrated-err}
use Rattle.tss_command.proofs.migration.migrated.Goals as goal

pub returns-in-Ok : goal.returns-in-Ok
returns-in-Ok c = inr (migrated-ok c.args.log.now c.in-Ok.log.items c.in-Ok.ensures.ok)

pub returns-in-Err-BadLine : goal.returns-in-Err-BadLine
returns-in-Err-BadLine c =
    let n = c.in-Err-BadLine.n in
    let is = c.in-Err-BadLine.is ∙ ap Err c.in-Err-BadLine.field-0-is in
    inr (migrated-err c.args.log.now n ((c.migrate_log.ensures.bad_line n).0 is))
