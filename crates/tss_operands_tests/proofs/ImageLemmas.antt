-- The images of tests: some words of code, and some bytes that can be written.
use Rattle.std.proofs.Common.{ℕ, ◌≤◌, ◌<◌, true, false, List, [], ◌∷◌, length, refl, arith}
use Rattle.std.proofs.lemmas.List.Elements.{All-cons, All-nil}
use Rattle.std.proofs.lemmas.List.Quantifiers.{all_pairs_push}
use Rattle.tss_base.specs.Image.{SegmentState, IsAccepted, IsSegment, segment_end}

-- two such segments make an image
pub IsAccepted-pair : (xs ys : List ℕ) → 4 ≤ length xs → length xs ≤ 0x10000 → 0 < length ys → length ys ≤ 0x100000
    → IsAccepted (record {
      entry = 0x10000;
      segments =
          record { base = 0x10000; bytes = xs; writable = false; code = true }
          ∷ record { base = 0x20000; bytes = ys; writable = true; code = false }
          ∷ [];
    })
IsAccepted-pair xs ys word near some few =
    let a : SegmentState = record { base = 0x10000; bytes = xs; writable = false; code = true } in
    let b : SegmentState = record { base = 0x20000; bytes = ys; writable = true; code = false } in
    record {
      some = omega arith;
      few = omega arith;
      each = All-cons IsSegment a (b ∷ []) (omega arith, omega arith)
          (All-cons IsSegment b [] (omega arith, omega arith) (All-nil IsSegment));
      ordered = all_pairs_push (λ s t. segment_end s ≤ t.base) (a ∷ []) b (λ i j d low high. absurd (omega arith))
          (All-cons (λ s. segment_end s ≤ b.base) a [] (omega arith) (All-nil (λ s. segment_end s ≤ b.base)));
      small = omega arith;
      aligned = refl;
      entered = (0, a, omega arith, refl, (refl, omega arith, omega arith));
    }
