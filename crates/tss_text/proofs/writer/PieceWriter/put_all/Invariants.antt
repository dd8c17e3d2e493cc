-- The parts before this one were put.
use Rattle.std.proofs.Common.{map, drop}
use Rattle.tss_text.specs.Pieces.{joined}
use Rattle.tss_text.proofs.PieceLemmas.{HasPut}
use Rattle.tss_text.proofs.writer.PieceWriter.put_all.Given as goal

abbrev pub invariant-loop-part : goal.invariant-loop-part
invariant-loop-part g l =
    HasPut g.K.Sink l.initial.self l.self (joined (map (λ b. b.now) l.parts))
    (joined (map (λ b. b.now) (drop l.part-index l.parts)))
