-- The parts go out one after another.
use Rattle.std.proofs.Common.{refl}
use Rattle.tss_text.proofs.PieceLemmas.{none_put, more_put, failed_put, joined_from}
use Rattle.tss_text.proofs.writer.PieceWriter.put_all.Goals as goal

pub loop-part-init : goal.loop-part-init
loop-part-init g c = none_put g.K.Sink c.args.self.now _ _ refl

pub returns-in_err-put : goal.returns-in_err-put
returns-in_err-put g c =
    failed_put c.loop-part.invariant _ _ (joined_from c.args.parts.now c.loop-part.part-index _ c.loop-part-test.true)
    c.in_err-put.ensures c.from_residual.ensures.0

pub loop-part-preserved : goal.loop-part-preserved
loop-part-preserved g c =
    more_put c.loop-part.invariant _ _ (joined_from c.args.parts.now c.loop-part.part-index _ c.loop-part-test.true)
    c.in_ok-put.ensures
