-- Segments side by side, as the tests build them, make an accepted image.
use Rattle.std.proofs.Common.{◌≡◌, ℕ, ◌+◌, ◌<◌, ◌≤◌, true, List, [], ◌∷◌, ◌++◌, length, ◌∙◌, arith, length-append}
use Rattle.std.specs.Prelude.{sum_by, All, AllPairs, Any}
use Rattle.std.proofs.lemmas.List.{get_or_append_left}
use Rattle.std.proofs.lemmas.List.Elements.{All-get_or, All-push, All-weaker}
use Rattle.std.proofs.lemmas.List.Quantifiers.{all_pairs_push, Any-push}
use Rattle.std.proofs.lemmas.List.Sums.{sum_by-append}
use Rattle.tss_base.specs.Image.{SegmentState, IsSegment, HasCodeAt, segment_end}

-- segments side by side from 0x10000 up to an address
pub record AreStriped (segments : List SegmentState) (at : ℕ) : Type 0 where
  pub each : All IsSegment segments
  pub ordered : AllPairs (λ s t. segment_end s ≤ t.base) segments
  pub below : All (λ s. segment_end s ≤ at) segments
  pub sum : sum_by (λ s. length s.bytes) segments + 0x10000 ≡ at
  pub end : at ≤ 0x4010000
  pub first : 0 < length segments → Any (HasCodeAt 0x10000) segments

-- one that has the entry still has it with one segment more
any_more : (segments : List SegmentState) (s : SegmentState) → Any (HasCodeAt 0x10000) segments →
    Any (HasCodeAt 0x10000) (segments ++ s ∷ [])
any_more segments s h =
    let read = get_or_append_left segments (s ∷ []) h.1 h.0 h.2 ∙ h.3 in
    (h.0, h.1, omega (arith, length-append segments (s ∷ [])), read, h.4)

-- the first has the entry
any_first : (segments : List SegmentState) (at : ℕ) → AreStriped segments at → (s : SegmentState) → s.base ≡ at →
    s.code ≡ true → 4 ≤ length s.bytes → Any (HasCodeAt 0x10000) (segments ++ s ∷ [])
any_first [] at are s base code len =
    let sum : 0x10000 ≡ at = are.sum in
    Any-push (HasCodeAt 0x10000) [] s (code, omega arith, omega arith)
any_first (x ∷ xs) at are s base code len = any_more (x ∷ xs) s (are.first (omega arith))

-- one more
pub AreStriped-more : (segments : List SegmentState) (at : ℕ) → AreStriped segments at → (s : SegmentState) (n : ℕ) →
    s.base ≡ at → s.code ≡ true → 4 ≤ length s.bytes → at + length s.bytes ≡ n → n ≤ 0x4010000 →
    AreStriped (segments ++ s ∷ []) n
AreStriped-more segments at are s n base code len next limit = record {
  each = All-push IsSegment segments s are.each (omega arith, omega arith);
  ordered = all_pairs_push (λ x y. segment_end x ≤ y.base) segments s are.ordered
      (λ k d h. let low = All-get_or (λ x. segment_end x ≤ at) segments k d h are.below in omega arith);
  below = All-push (λ x. segment_end x ≤ n) segments s
      (All-weaker (λ x. segment_end x ≤ at) (λ x. segment_end x ≤ n) (λ x h. omega arith) segments are.below)
      (omega arith);
  sum = omega (arith, sum_by-append (λ (x : SegmentState). length x.bytes) segments (s ∷ []), are.sum);
  end = limit;
  first = λ h. any_first segments at are s base code len;
}
