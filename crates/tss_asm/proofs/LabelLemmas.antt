-- What stands in a slab of places stands in the map of labels.
use Rattle.std.proofs.Common.{◌≡◌, ◌≢◌, ℕ, zero, suc, ◌+◌, ◌<◌, ◌≤◌, List, [], ◌∷◌, get_or, cond, true, refl, sym, ap, subst, ◌∙◌, arith}
use Rattle.std.proofs.Common.{Option, Some, None, inl, inr}
use Rattle.std.specs.Prelude.{unwrap_or, IsSome, Result, Ok, Err, IfOk, OnErr}
use Rattle.std.specs.Ordering.{nat_cmp, eq_by_cmp}
use Rattle.std.specs.Cmp.{nat_cmp_total}
use Rattle.std.specs.FinMap.{find, get, insert, empty, get-from_entries, get-empty}
use Rattle.slab.specs.Slab.{Slab, Updates, ContainsKey, with_value, entries_from, entries}
use Rattle.slab.specs.Slab as slab
use Rattle.slab.proofs.SlabLemmas.{Updates-with_value}
use Rattle.tss_base.specs.Names.{Numbered}
use Rattle.tss_base.specs.declared.ending.NoMemory.{NoMemory}
use Rattle.tss_maps.proofs.Keys.{nat_order, same_key, other_key}
use Rattle.tss_maps.proofs.Changes.{same_at_key, at_inserted, beside_inserted, from_inserted}
use Rattle.tss_asm.specs.Labels.{labels_of, joined, place_of, placed, placed_over, label_place, AreWithin}

-- below the first key stands nothing
find_before : (slots : List (Option (Option ℕ))) (k q : ℕ) → q < k → find nat_cmp q (entries_from k slots) ≡ None
find_before [] k q below = refl
find_before (None ∷ slots) k q below = find_before slots (k + 1) q (omega arith)
find_before (Some place ∷ slots) k q below =
    let apart : q ≢ k = omega arith in
    ap (λ b. cond b (Some place) (find nat_cmp q (entries_from (k + 1) slots))) (other_key nat_order q k apart)
    ∙ find_before slots (k + 1) q (omega arith)

-- at a key stands what its slot has
find_at : (slots : List (Option (Option ℕ))) (k j q : ℕ) → q ≡ k + j
    → find nat_cmp q (entries_from k slots) ≡ get_or slots j None
find_at [] k zero q e = refl
find_at [] k (suc j) q e = refl
find_at (None ∷ slots) k zero q e = find_before slots (k + 1) q (omega arith)
find_at (None ∷ slots) k (suc j) q e = find_at slots (k + 1) j q (omega arith)
find_at (Some place ∷ slots) k zero q e =
    let here : q ≡ k = omega arith in
    let tied : eq_by_cmp nat_cmp q k ≡ true = ap (λ x. eq_by_cmp nat_cmp x k) here ∙ same_key nat_order k in
    ap (λ b. cond b (Some place) (find nat_cmp q (entries_from (k + 1) slots))) tied
find_at (Some place ∷ slots) k (suc j) q e =
    let apart : q ≢ k = omega arith in
    ap (λ b. cond b (Some place) (find nat_cmp q (entries_from (k + 1) slots))) (other_key nat_order q k apart)
    ∙ find_at slots (k + 1) j q (omega arith)

-- the map answers as the slab does
pub get-labels_of : (s : Slab (Option ℕ)) (q : ℕ) → get (labels_of s) q ≡ slab.get s q
get-labels_of s q = get-from_entries nat_cmp_total (entries s) q ∙ find_at s.slots 0 q q (omega arith)

-- a write at a key of the slab is one at that key of the map
pub labels_updated : (old new : Slab (Option ℕ)) (key : ℕ) (place : Option ℕ) → Updates old new key (Some place)
    → labels_of new ≡ insert (labels_of old) key place
labels_updated old new key place u =
    same_at_key nat_order (labels_of new) (insert (labels_of old) key place) key
    (get-labels_of new key ∙ u.changed ∙ sym (at_inserted nat_order (labels_of old) key place))
    (λ q apart. get-labels_of new q ∙ u.others q apart ∙ sym (get-labels_of old q)
    ∙ sym (beside_inserted nat_order (labels_of old) key place q apart))

-- a label that was given is placed by such a write, and one that wasn't by none
pub placed_updated : (old new : Slab (Option ℕ)) (key at : ℕ) (before : Option ℕ) → slab.get old key ≡ Some before
    → Updates old new key (Some (Some at)) → labels_of new ≡ placed (labels_of old) key at
placed_updated old new key at before e u =
    labels_updated old new key (Some at) u
    ∙ sym (ap (placed_over (labels_of old) key at) (get-labels_of old key ∙ e))

pub placed_nowhere : (old : Slab (Option ℕ)) (key at : ℕ) → slab.get old key ≡ None
    → labels_of old ≡ placed (labels_of old) key at
placed_nowhere old key at e = sym (ap (placed_over (labels_of old) key at) (get-labels_of old key ∙ e))

-- a key under which something stands is in the slab
contains : (s : Slab (Option ℕ)) (key : ℕ) (v : Option ℕ) → slab.get s key ≡ Some v → ContainsKey s key
contains s key v e = subst IsSome (sym e) refl

pub placed_some : (old new : Slab (Option ℕ)) (labels : Numbered (Option ℕ)) (key label at : ℕ) (before : Option ℕ)
    → labels_of old ≡ labels → key ≡ label → slab.get old key ≡ Some before → new ≡ with_value old key (Some at)
    → labels_of new ≡ placed labels label at
placed_some old new labels key label at before same named there written =
    ap labels_of written
    ∙ placed_updated old (with_value old key (Some at)) key at before there
    (Updates-with_value old key (Some at) (contains old key before there))
    ∙ (λ i. placed (same i) (named i) at)

pub placed_none : (old new : Slab (Option ℕ)) (labels : Numbered (Option ℕ)) (key label at : ℕ)
    → labels_of old ≡ labels → key ≡ label → slab.get old key ≡ None → new ≡ old
    → labels_of new ≡ placed labels label at
placed_none old new labels key label at same named there kept =
    ap labels_of kept ∙ placed_nowhere old key at there ∙ (λ i. placed (same i) (named i) at)

-- the place of a label is what its slot has
pub place_is : (s : Slab (Option ℕ)) (key : ℕ) (slot : Option (Option ℕ)) → slot ≡ slab.get s key
    → joined slot ≡ place_of (labels_of s) key
place_is s key slot e = ap joined (e ∙ sym (get-labels_of s key))

-- labels that are given and labels that are placed at the end of the text are within it too
AreWithin-given : (labels : Numbered (Option ℕ)) (key n : ℕ) → AreWithin labels n
    → AreWithin (insert labels key None) n
AreWithin-given labels key n within label at e =
    elim (from_inserted nat_order labels key None label (Some at) e) [
      | inl new ↦ absurd (impossible new.1)
      | inr old ↦ within label at old.1
    ]
  where
    impossible : {a : ℕ} → ◌≡◌ {A = Option ℕ} (Some a) None → ⊥
    impossible same = cc

-- after a label was given, or wasn't
pub AreWithin-give : (r : Result ℕ NoMemory) (old new : Numbered (Option ℕ)) (n : ℕ) → AreWithin old n
    → IfOk r (λ key. new ≡ insert old key None) → OnErr r (new ≡ old) → AreWithin new n
AreWithin-give (Ok key) old new n within given kept =
    subst (λ labels. AreWithin labels n) (sym given) (AreWithin-given old key n within)
AreWithin-give (Err e) old new n within given kept = subst (λ labels. AreWithin labels n) (sym kept) within

-- no label is within any text
pub AreWithin-empty : (labels : Numbered (Option ℕ)) (n : ℕ) → labels ≡ empty → AreWithin labels n
AreWithin-empty labels n none label at e =
    let both : ◌≡◌ {A = Option (Option ℕ)} (Some (Some at)) None =
    sym e ∙ ap (λ m. get m label) none ∙ get-empty nat_cmp label in
    absurd (cc)

AreWithin-over : (labels : Numbered (Option ℕ)) (key n : ℕ) (o : Option (Option ℕ)) → AreWithin labels n
    → AreWithin (placed_over labels key n o) n
AreWithin-over labels key n None within label at e = within label at e
AreWithin-over labels key n (Some before) within label at e =
    elim (from_inserted nat_order labels key (Some n) label (Some at) e) [
      | inl new ↦ at_end (new.1)
      | inr old ↦ within label at old.1
    ]
  where
    at_end : ◌≡◌ {A = Option ℕ} (Some at) (Some n) → at ≤ n
    at_end same = let e : at ≡ n = cc in omega arith

pub AreWithin-placed : (labels : Numbered (Option ℕ)) (key n : ℕ) → AreWithin labels n
    → AreWithin (placed labels key n) n
AreWithin-placed labels key n within = AreWithin-over labels key n (get labels key) within

-- a label's place is at most the end of the text
place_within : (n : ℕ) (o : Option (Option ℕ)) → ((at : ℕ) → o ≡ Some (Some at) → at ≤ n)
    → unwrap_or (joined o) 0 ≤ n
place_within n None h = omega arith
place_within n (Some None) h = omega arith
place_within n (Some (Some at)) h = h at refl

pub label_place_within : (labels : Numbered (Option ℕ)) (label n : ℕ) → AreWithin labels n
    → label_place labels label ≤ n
label_place_within labels label n within = place_within n (get labels label) (λ at e. within label at e)
