-- The segment that has a word, and the word in it.
use Rattle.std.proofs.Common.{◌≡◌, ℕ, ◌-◌, true, Some, List, length, get_or, ap, ◌∙◌, arith, zero-add}
use Rattle.std.specs.Prelude.{slice_index}
use Rattle.tss_base.specs.Range.{contains}
use Rattle.tss_base.specs.Image.{SegmentState}
use Rattle.tss_maps.proofs.Places.{find_there}
use Rattle.tss_model.specs.Memory.{number_at, segment_range, segment_word}
use Rattle.tss_memory.specs.Blocks.{part_of}
use Rattle.tss_memory.specs.Segments.{segment_with}
use Rattle.tss_memory.proofs.RangeLemmas.{contains_parts}
use Rattle.tss_memory.proofs.PartLemmas.{length-part_of, get_or-part_of}
use Rattle.tss_memory.proofs.ReadLemmas.{number_at-same}

-- the segment that is found has the word
pub segment_has : (segments : List SegmentState) (at : ℕ) (s : SegmentState) → segment_with segments at ≡ Some s →
    contains (segment_range s) (record { base = at; len = 4 }) ≡ true
segment_has segments at s e =
    let there = find_there (λ x. contains (segment_range x) (record { base = at; len = 4 })) segments s e in
    there.2

-- the word in four bytes of it
pub segment_word-part : (s : SegmentState) (at : ℕ) →
    contains (segment_range s) (record { base = at; len = 4 }) ≡ true →
    number_at (slice_index (part_of s.bytes (at - s.base) 4)) 0 (length (part_of s.bytes (at - s.base) 4))
    ≡ segment_word at s
segment_word-part s at held =
    let parts = contains_parts (segment_range s) (record { base = at; len = 4 }) held in
    ap (number_at (slice_index (part_of s.bytes (at - s.base) 4)) 0)
    (length-part_of s.bytes (at - s.base) 4 (omega arith))
    ∙ number_at-same (slice_index (part_of s.bytes (at - s.base) 4)) (slice_index s.bytes) 0 (at - s.base) 4
    (λ k h. ap (λ n. get_or (part_of s.bytes (at - s.base) 4) n 0) (zero-add k)
    ∙ get_or-part_of s.bytes (at - s.base) 4 k 0 h)
