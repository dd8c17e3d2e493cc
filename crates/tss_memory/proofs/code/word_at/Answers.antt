-- The segment that is found has the word.
use Rattle.std.proofs.Common.{sym}
use Rattle.tss_memory.proofs.SegmentLemmas.{segment_has}
use Rattle.tss_memory.proofs.code.word_at.Goals as goal

pub word_in-requires : goal.word_in-requires
word_in-requires c = segment_has c.args.segments.now c.args.pc c.in_ok-segment.segment.now
    (sym c.in_ok-segment.ensures)
