-- A piece begins where the one before ends.
use Rattle.std.proofs.Common.{arith}
use Rattle.tss_steps.proofs.PieceLemmas.{start_by}
use Rattle.tss_steps.proofs.printed.start_at.Goals as goal

pub returns-else-i-eq0 : goal.returns-else-i-eq0
returns-else-i-eq0 c =
    let some = c.if-i-eq0.false in
    start_by 0 c.args.marks.now c.args.i (record { before = 0; end = 0 }) (omega (arith, some)) c.requires
