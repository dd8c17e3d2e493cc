-- The words before this one were put.
use Rattle.std.proofs.Common.{drop}
use Rattle.tss_text.proofs.PieceLemmas.{HasPut}
use Rattle.tss_state_lines.specs.Words.{spaced}
use Rattle.tss_state_lines.proofs.line.put_words.Given as goal

abbrev pub invariant-loop-word : goal.invariant-loop-word
invariant-loop-word g l =
    HasPut g.K.Sink l.initial.to l.to (spaced l.words) (spaced (drop l.word-index l.words))
