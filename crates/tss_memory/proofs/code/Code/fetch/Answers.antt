-- The segments are in address order.
use Rattle.std.proofs.Common.{subst, sym}
use Rattle.tss_memory.specs.Segments.{AreApart}
use Rattle.tss_memory.proofs.code.Code.fetch.Goals as goal

pub word_at-requires : goal.word_at-requires
word_at-requires c = subst AreApart (sym c.as_slice.ensures.value) c.self.invariant.apart
