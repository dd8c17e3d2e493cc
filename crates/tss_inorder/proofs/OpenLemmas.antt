-- The memory of an accepted image lies beside a task's scratch.
use Rattle.std.proofs.Common.{◌≡◌, ℕ, suc, ◌<◌, ◌≤◌, Bool, true, List, [], ◌∷◌, length, map, get_or, refl, ◌∙◌, arith}
use Rattle.std.specs.Prelude.{not, max, min}
use Rattle.std.specs.List.{list_all}
use Rattle.std.proofs.lemmas.Bool.{and_from, le-ltb, not_from_false}
use Rattle.std.proofs.lemmas.List.Folds.{list_all-append, list_all-map}
use Rattle.tss_base.specs.Range.{end_of, meets}
use Rattle.tss_base.specs.Image.{SegmentState, ImageState, IsAccepted, segment_end}
use Rattle.tss_base.specs.declared.addresses.TheConstants.{SEGMENTS_END}
use Rattle.tss_model.specs.Memory.{loaded, memory_range, segment_range, scratch_range, stack_range}
use Rattle.tss_steps.specs.Placing.{beside_scratch}

-- what passes at each place passes as a whole
all_from : {A : Type 0} (p : A → Bool) (xs : List A) → ((i : ℕ) (d : A) → i < length xs → p (get_or xs i d) ≡ true) → list_all p xs ≡ true
all_from p [] each = refl
all_from p (x ∷ xs) each = and_from (p x) (list_all p xs) (each 0 x (omega arith)) (all_from p xs (λ i d h. each (suc i) d (omega arith)))

-- a segment ends before the scratch
segment_beside : (s : SegmentState) → segment_end s ≤ SEGMENTS_END → not (meets (segment_range s) scratch_range) ≡ true
segment_beside s h =
    not_from_false (meets (segment_range s) scratch_range)
    (le-ltb (max s.base scratch_range.base) (min (segment_end s) (end_of scratch_range)) (omega arith))

pub beside_scratch-loaded : (i : ImageState) → IsAccepted i → beside_scratch (loaded i).ranges ≡ true
unfolding loaded
beside_scratch-loaded i accepted =
    list_all-append (λ m. not (meets m.range scratch_range)) (map memory_range i.segments) (record { range = stack_range; writable = true } ∷ [])
    ∙ and_from (list_all (λ m. not (meets m.range scratch_range)) (map memory_range i.segments)) true
    (list_all-map (λ m. not (meets m.range scratch_range)) memory_range i.segments
    ∙ all_from (λ s. not (meets (segment_range s) scratch_range)) i.segments (λ j d h. segment_beside (get_or i.segments j d) (accepted.each j d h).1))
    refl
