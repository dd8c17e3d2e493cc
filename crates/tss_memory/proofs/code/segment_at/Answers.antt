-- The first segment that ends no sooner than the four bytes is the first that has them, or none has.
use Rattle.std.proofs.Common.{◌≡◌, ℕ, ◌+◌, ◌<◌, ◌≤◌, true, length, refl, subst, sym, ◌∙◌, arith, rules}
use Rattle.std.specs.List.Sorted.{IsPartitionPoint}
use Rattle.std.proofs.lemmas.Option.{slice_get_within, slice_get_read}
use Rattle.tss_base.specs.declared.range.Range.{Range}
use Rattle.tss_base.specs.Range.{contains}
use Rattle.tss_base.specs.Image.{SegmentState, segment_end}
use Rattle.tss_model.specs.Memory.{segment_range}
use Rattle.tss_memory.proofs.RangeLemmas.{contains_from, contains_not_base}
use Rattle.tss_memory.proofs.PlaceLemmas.{fails_read, holds_read, point_found, point_none}
use Rattle.tss_memory.proofs.code.segment_at.Goals as goal
use Rattle.tss_memory.proofs.code.segment_at.Goals.{else-i-segments-via-then-i-segments+else-base-at, else-i-segments-via-else-i-segments}

pub returns-then-base-at : goal.returns-then-base-at
returns-then-base-at c =
    let segments = c.args.segments.now in
    let r : Range = record { base = c.args.at; len = 4 } in
    let i = c.segments_before-i.result in
    let s = c.index-segments-i.result in
    let point = subst (λ (n : ℕ). IsPartitionPoint (λ x. segment_end x < n + 4)
    (λ x. n + 4 ≤ segment_end x) segments i) c.from.ensures c.segments_before-i.ensures in
    let ends : c.args.at + 4 ≤ segment_end s =
    subst (λ (x : SegmentState). c.args.at + 4 ≤ segment_end x) (sym c.index-segments-i.is)
    (point.1 i s (omega arith) (search rules)) in
    let has : contains (segment_range s) r ≡ true = contains_from (segment_range s) r (search rules) ends in
    sym (point_found segment_range segments c.requires r i point
    (holds_read segment_range segments r i s (search rules) c.index-segments-i.is has)
    ∙ slice_get_read segments (length segments) i c.index-segments-i-then-base-at.result refl
    (search rules) c.index-segments-i-then-base-at.is)

pub returns-else-i-segments : goal.returns-else-i-segments
returns-else-i-segments c =
    let segments = c.args.segments.now in
    let r : Range = record { base = c.args.at; len = 4 } in
    let i = c.segments_before-i.result in
    let point = subst (λ (n : ℕ). IsPartitionPoint (λ x. segment_end x < n + 4)
    (λ x. n + 4 ≤ segment_end x) segments i) c.from.ensures c.segments_before-i.ensures in
    sym (point_none segment_range segments c.requires r i point
    (λ s there. elim c.else-i-segments.branch [
      | else-i-segments-via-then-i-segments+else-base-at w ↦
          fails_read segment_range segments r i w.index-segments-i.result (search rules) w.index-segments-i.is
          (contains_not_base (segment_range w.index-segments-i.result) r (search rules)) s there
      | else-i-segments-via-else-i-segments w ↦ let within = slice_get_within segments i s there in absurd (omega arith)
    ]))
