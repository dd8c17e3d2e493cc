-- What came before the rest was put.
use Rattle.std.proofs.Common.{length}
use Rattle.tss_text.proofs.PieceLemmas.{HasPut}
use Rattle.tss_text.proofs.writer.PieceWriter.put.Given as goal

abbrev pub invariant-loop-rest : goal.invariant-loop-rest
invariant-loop-rest g l = HasPut g.K.Sink l.initial.self l.self l.initial.rest l.rest

abbrev pub decreases-loop-rest : goal.decreases-loop-rest
decreases-loop-rest g l = length l.rest
