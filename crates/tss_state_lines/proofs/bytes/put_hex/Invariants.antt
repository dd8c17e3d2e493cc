-- The digits of the bytes before the rest were put.
use Rattle.std.proofs.Common.{length}
use Rattle.hex.specs.Hex.{encode_lower}
use Rattle.tss_text.proofs.PieceLemmas.{HasPut}
use Rattle.tss_state_lines.proofs.bytes.put_hex.Given as goal

abbrev pub invariant-loop-rest : goal.invariant-loop-rest
invariant-loop-rest g l = HasPut g.K.Sink l.initial.to l.to (encode_lower l.initial.rest) (encode_lower l.rest)

abbrev pub decreases-loop-rest : goal.decreases-loop-rest
decreases-loop-rest g l = length l.rest
