-- The image of the tests: 16 bytes of code, and side by side 40 bytes and 32 that can be written.
use Rattle.std.proofs.Common.{◌≡◌, ℕ, ◌≤◌, true, false, List, [], ◌∷◌, length, refl, arith}
use Rattle.std.specs.Prelude.{AllPairs}
use Rattle.std.proofs.lemmas.List.Elements.{All-cons, All-nil}
use Rattle.std.proofs.lemmas.List.Quantifiers.{all_pairs_push}
use Rattle.tss_base.specs.Image.{SegmentState, IsAccepted, IsSegment, segment_end}

module _ (xs ys zs : List ℕ) (code : length xs ≡ 16) (first : length ys ≡ 40) (second : length zs ≡ 32) where
  abbrev a : SegmentState
  a = record { base = 0x10000; bytes = xs; writable = false; code = true }

  abbrev b : SegmentState
  b = record { base = 0x20000; bytes = ys; writable = true; code = false }

  abbrev d : SegmentState
  d = record { base = 0x20028; bytes = zs; writable = true; code = false }

  -- the first two end before the next begins
  two_ordered : AllPairs (λ s t. segment_end s ≤ t.base) (a ∷ b ∷ [])
  two_ordered =
      all_pairs_push (λ s t. segment_end s ≤ t.base) (a ∷ []) b (λ i j d low high. absurd (omega arith))
      (All-cons (λ s. segment_end s ≤ b.base) a [] (omega arith) (All-nil (λ s. segment_end s ≤ b.base)))

  -- three such segments make an image
  pub IsAccepted-three : IsAccepted (record {
    entry = 0x10000;
    segments =
        record { base = 0x10000; bytes = xs; writable = false; code = true }
        ∷ record { base = 0x20000; bytes = ys; writable = true; code = false }
        ∷ record { base = 0x20028; bytes = zs; writable = true; code = false }
        ∷ [];
  })
  IsAccepted-three = record {
    some = omega arith;
    few = omega arith;
    each = All-cons IsSegment a (b ∷ d ∷ []) (omega (arith, code), omega (arith, code))
        (All-cons IsSegment b (d ∷ []) (omega (arith, first), omega (arith, first))
        (All-cons IsSegment d [] (omega (arith, second), omega (arith, second)) (All-nil IsSegment)));
    ordered = all_pairs_push (λ s t. segment_end s ≤ t.base) (a ∷ b ∷ []) d two_ordered
        (All-cons (λ s. segment_end s ≤ d.base) a (b ∷ []) (omega (arith, code))
        (All-cons (λ s. segment_end s ≤ d.base) b [] (omega (arith, first)) (All-nil (λ s. segment_end s ≤ d.base))));
    small = omega (arith, code, first, second);
    aligned = refl;
    entered = (0, a, omega arith, refl, (refl, omega arith, omega (arith, code)));
  }
