-- Objects in address order: the search for one, what its place tells, and a further object at its place.
use Rattle.std.proofs.Common.{◌≡◌, ℕ, ◌+◌, ◌-◌, ◌<◌, ◌≤◌, inl, inr, Bool, true, false, ◌&&◌, not, eqb, List, [], ◌∷◌, ◌++◌, length, take, drop, get_or, Option, Some, None, refl, sym, ap, ◌∙◌, subst, arith, Bor, option_copied}
use Rattle.std.specs.Prelude.{All, Contains, slice_get, insert}
use Rattle.std.specs.List.{list_any}
use Rattle.std.specs.Slice.{IsItemAt}
use Rattle.std.specs.List.Sorted.{IsNonDecreasingBy, IsPermutation}
use Rattle.std.proofs.lemmas.Bool.{cases_order, cases_Bool, ltb-true, lt-ltb, le-ltb, ltb-false, and_parts, and_from, and_left, eqb-true, eq-eqb, false_from_ne_true, not-true, not_from_false, true≢false}
use Rattle.std.proofs.lemmas.List.{get_or_default, length_push}
use Rattle.std.proofs.lemmas.List.Edits.{length-insert, get_or-insert_below, get_or-insert_at, get_or-insert_above}
use Rattle.std.proofs.lemmas.List.Elements.{All-append, All-take, All-drop, All-cons, All-contains}
use Rattle.std.proofs.lemmas.List.Folds.{list_any_at, list_any_none}
use Rattle.std.proofs.lemmas.List.Sorted.{IsPermutation-insert, IsPermutation-cons, IsPermutation-trans, IsPermutation-to_front, All-permutation, Contains-permutation}
use Rattle.std.proofs.lemmas.Option.{slice_get_cases, slice_get_past, slice_get_read}
use Rattle.tss_base.specs.declared.range.Range.{Range}
use Rattle.tss_base.specs.Range.{end_of, meets}
use Rattle.tss_model.specs.Access.{touches}
use Rattle.tss_model.specs.Spawn.{same_range, overlaps}
use Rattle.tss_operands.specs.Naming.{is_named}
use Rattle.tss_operands.specs.Placed.{AllEndBy, AreKept, ArePlaced, EndsBefore, IsBeside, IsFirstAfter, IsNeighbour}

-- ---- the search

-- what `get` lends is what stands there
pub copied_at : {X : Type 0} (xs : List X) (i : ℕ) (o : Option (Bor X)) → IsItemAt xs i o
    → option_copied o ≡ slice_get xs i
copied_at xs i None item = sym (slice_get_past xs i item.3)
copied_at xs i (Some x) item = sym (slice_get_read xs (length xs) i x.now refl item.3.0 (item.3.1 x.now))

-- later objects end later
pub ends_rise : (objects : List Range) → ArePlaced objects → IsNonDecreasingBy end_of objects
ends_rise objects placed i j d le within =
    elim (cases_order i j) [
      | inl same ↦ subst (λ k. end_of (get_or objects i d) ≤ end_of (get_or objects k d)) same (omega arith)
      | inr (inl below) ↦ let before = placed.ordered i j d below within in omega arith
      | inr (inr above) ↦ absurd (omega arith)
    ]

-- the object at the place where those that end at or before an address are over
pub neighbour_at : (objects : List Range) (at i : ℕ) → ArePlaced objects → EndsBefore objects at i
    → IsNeighbour objects at (slice_get objects i)
neighbour_at objects at i placed split =
    elim (slice_get_cases objects i).1 [
      | inl (n, within, is, read) ↦ subst (IsNeighbour objects at) (sym is) (record {
        there = (i, within, read);
        later = subst (λ r. at < end_of r) read (split.after i n (omega arith) within);
        each = placed.each;
        others = λ k d inside. elim (cases_order k i) [
          | inl same ↦ inr (inl (ap (λ j. get_or objects j d) same ∙ get_or_default objects i d n within ∙ read))
          | inr (inl below) ↦ inl (split.before k d (omega arith) below)
          | inr (inr above) ↦ inr (inr (subst (λ r. end_of r ≤ (get_or objects k d).base)
              (get_or_default objects i d n within ∙ read) (placed.ordered i k d above inside)))
        ];
      })
      | inr (past, is) ↦ subst (IsNeighbour objects at) (sym is) (record {
        each = placed.each;
        before = λ k d inside. split.before k d (omega arith) (omega arith);
      })
    ]

-- the same among these objects in another order
pub IsNeighbour-IsPermutation : (objects named : List Range) (at : ℕ) (o : Option Range) → IsPermutation objects named
    → IsNeighbour objects at o → IsNeighbour named at o
IsNeighbour-IsPermutation objects named at None same all = record {
  each = All-permutation (λ r. 0 < r.len) objects named same all.each;
  before = All-permutation (λ r. end_of r ≤ at) objects named same all.before;
}
IsNeighbour-IsPermutation objects named at (Some n) same first = record {
  there = Contains-permutation objects named n same first.there;
  later = first.later;
  each = All-permutation (λ r. 0 < r.len) objects named same first.each;
  others = All-permutation (IsBeside at n) objects named same first.others;
}

-- ---- what it tells

-- where one element passes a test if any does, it tells for all
list_any_by_one : {X : Type 0} (p : X → Bool) (xs : List X) (n : X) → Contains xs n
    → All (λ m. p m ≡ true → p n ≡ true) xs → list_any p xs ≡ p n
list_any_by_one p xs n there others =
    elim (cases_Bool (p n)) [
      | inl passes ↦ list_any_at p xs there.0 n there.1 (ap p there.2 ∙ passes) ∙ sym passes
      | inr fails ↦ list_any_none p xs
          (λ k d within. false_from_ne_true _ (λ holds. true≢false (sym (others k d within holds) ∙ fails))) ∙ sym fails
    ]

-- what ends at or before the range's base doesn't meet it
no_meeting : (m r : Range) → end_of m ≤ r.base → meets m r ≡ false
no_meeting m r before = le-ltb _ _ (omega arith)

-- two ranges that meet share an address
meeting : (m r : Range) → meets m r ≡ true
    → (m.base < end_of r) × (r.base < end_of m) × (m.base < end_of m) × (r.base < end_of r)
meeting m r holds =
    let shared = ltb-true _ _ holds in
    (omega arith, omega arith, omega arith, omega arith)

-- and the other way round
meets_from : (m r : Range) → m.base < end_of r → r.base < end_of m → m.base < end_of m → r.base < end_of r
    → meets m r ≡ true
meets_from m r a b c d = lt-ltb _ _ (omega arith)

-- the test of two ranges decides whether they are one
pub same_range-true : (r s : Range) → same_range r s ≡ true → r ≡ s
same_range-true r s holds =
    let parts = and_parts (eqb r.base s.base) (eqb r.len s.len) holds in
    λ i. record { base = eqb-true r.base s.base parts.0 i; len = eqb-true r.len s.len parts.1 i }

pub same_range-refl : (r : Range) → same_range r r ≡ true
same_range-refl r = and_from _ _ (eq-eqb r.base r.base refl) (eq-eqb r.len r.len refl)

module _ (n r : Range) (some : 0 < n.len) (later : r.base < end_of n) where
  -- where another object meets the range, so does the first that ends after its base
  meets_first : (m : Range) → IsBeside r.base n m → meets m r ≡ true → meets n r ≡ true
  meets_first m beside holds =
      let (a, b, e, f) = meeting m r holds in
      elim beside [
        | inl before ↦ absurd (omega arith)
        | inr (inl is) ↦ subst (λ x. meets x r ≡ true) is holds
        | inr (inr after) ↦ meets_from n r (omega arith) later (omega arith) f
      ]

  -- an object with the range's base is that first one
  same_first : (m : Range) → IsBeside r.base n m → 0 < m.len → same_range r m ≡ true → same_range r n ≡ true
  same_first m beside filled holds =
      let is = same_range-true r m holds in
      elim beside [
        | inl before ↦ absurd (let e = ap (λ (x : Range). x.base) is in omega arith)
        | inr (inl first) ↦ subst (λ x. same_range r x ≡ true) first holds
        | inr (inr after) ↦ absurd (let e = ap (λ (x : Range). x.base) is in omega arith)
      ]

  -- where another object meets the range in part, so does that first one
  overlaps_first : (m : Range) → IsBeside r.base n m → (meets m r && not (same_range m r)) ≡ true
      → (meets n r && not (same_range n r)) ≡ true
  overlaps_first m beside holds =
      let parts = and_parts _ _ holds in
      and_from _ _ (meets_first m beside parts.0) (not_from_false _ (false_from_ne_true _ (λ one.
      let is = same_range-true n r one in
      let shared = meeting m r parts.0 in
      elim beside [
        | inl before ↦ omega arith
        | inr (inl first) ↦ true≢false (sym (subst (λ x. same_range x r ≡ true) (sym first) one) ∙ not-true _ parts.1)
        | inr (inr after) ↦ let e : n.base ≡ r.base = ap (λ x. x.base) is in
            let f : n.len ≡ r.len = ap (λ x. x.len) is in omega arith
      ])))

-- ---- the tests

module _ (named : List Range) (r : Range) where
  -- where each object ends at or before a range's base, none touches it
  pub touches_none : AllEndBy named r.base → touches named r ≡ false
  touches_none all =
      list_any_none (λ m. meets m r) named (λ k d within. no_meeting (get_or named k d) r (all.before k d within))

  -- none is that range
  pub named_none : AllEndBy named r.base → is_named named r ≡ false
  named_none all =
      list_any_none (same_range r) named (λ k d within. false_from_ne_true _ (λ holds.
      let is : r.base ≡ (get_or named k d).base = ap (λ x. x.base) (same_range-true r (get_or named k d) holds) in
      let ends = all.before k d within in
      let filled = all.each k d within in
      omega arith))

  -- and none meets it in part
  pub overlaps_none : AllEndBy named r.base → overlaps named r ≡ false
  overlaps_none all =
      list_any_none (λ m. meets m r && not (same_range m r)) named
      (λ k d within. and_left _ _ (no_meeting (get_or named k d) r (all.before k d within)))

  module _ (n : Range) (first : IsFirstAfter named r.base n) where
    filled : 0 < n.len
    filled = All-contains (λ m. 0 < m.len) named n first.each first.there

    -- otherwise the first that ends later tells whether one touches it
    pub touches_some : touches named r ≡ meets n r
    touches_some =
        list_any_by_one (λ m. meets m r) named n first.there
        (λ k d within. meets_first n r filled first.later (get_or named k d) (first.others k d within))

    -- whether one is that range
    pub named_some : is_named named r ≡ same_range r n
    named_some =
        list_any_by_one (same_range r) named n first.there
        (λ k d within. same_first n r filled first.later (get_or named k d) (first.others k d within)
        (first.each k d within))

    -- and whether one meets it in part
    pub overlaps_some : overlaps named r ≡ (meets n r && not (same_range n r))
    overlaps_some =
        list_any_by_one (λ m. meets m r && not (same_range m r)) named n first.there
        (λ k d within. overlaps_first n r filled first.later (get_or named k d) (first.others k d within))

  -- an object that can be named and isn't named yet meets none
  pub apart_from : overlaps named r ≡ false → is_named named r ≡ false → All (λ m. meets m r ≡ false) named
  apart_from apart fresh k d within =
      let m = get_or named k d in
      false_from_ne_true _ (λ hit. elim (cases_Bool (same_range m r)) [
        | inl one ↦ true≢false
            (sym (list_any_at (same_range r) named k d within
            (subst (λ x. same_range r x ≡ true) (sym (same_range-true m r one)) (same_range-refl r))) ∙ fresh)
        | inr two ↦ true≢false
            (sym (list_any_at (λ m. meets m r && not (same_range m r)) named k d within
            (and_from _ _ hit (not_from_false _ two))) ∙ apart)
      ])

-- ---- a further object

-- ranges in order, under other names
in_order : (x y u v : Range) → x ≡ u → y ≡ v → end_of u ≤ v.base → end_of x ≤ y.base
in_order x y u v p q below = subst (λ w. end_of w ≤ y.base) (sym p) (subst (λ w. end_of u ≤ w.base) (sym q) below)

module _ (objects : List Range) (object : Range) (i : ℕ) (placed : ArePlaced objects)
    (split : EndsBefore objects object.base i) (filled : 0 < object.len)
    (apart : All (λ m. meets m object ≡ false) objects) where
  -- the objects from its place on begin at or after its end
  after_it : (k : ℕ) (d : Range) → i ≤ k → k < length objects → end_of object ≤ (get_or objects k d).base
  after_it k d at within =
      let m = get_or objects k d in
      let later : object.base < end_of m = split.after k d at within in
      let some : 0 < m.len = placed.each k d within in
      let clear = ltb-false _ _ (apart k d within) in
      omega arith

  -- the one above the place, as it was one place lower
  read_above : (k : ℕ) (d : Range) → i < k → get_or (insert objects i object) k d ≡ get_or objects (k - 1) d
  read_above k d above =
      let e : k ≡ (k - 1) + 1 = omega arith in
      ap (λ j. get_or (insert objects i object) j d) e
      ∙ get_or-insert_above objects i object d (k - 1) (omega arith) split.within

  -- with it at its place they are in address order
  pub ArePlaced-insert : ArePlaced (insert objects i object)
  ArePlaced-insert = record {
    each = All-append (λ r. 0 < r.len) (take i objects) (object ∷ drop i objects)
        (All-take (λ r. 0 < r.len) i objects placed.each)
        (All-cons (λ r. 0 < r.len) object (drop i objects) filled (All-drop (λ r. 0 < r.len) i objects placed.each));
    ordered = λ a b d below inside.
        let size = length-insert objects i object split.within in
        let x = get_or (insert objects i object) a d in
        let y = get_or (insert objects i object) b d in
        elim (cases_order b i) [
          | inl at ↦ in_order x y (get_or objects a d) object
              (get_or-insert_below objects i object d a (omega arith) split.within)
              (ap (λ j. get_or (insert objects i object) j d) at ∙ get_or-insert_at objects i object d split.within)
              (split.before a d (omega arith) (omega arith))
          | inr (inl low) ↦ in_order x y (get_or objects a d) (get_or objects b d)
              (get_or-insert_below objects i object d a (omega arith) split.within)
              (get_or-insert_below objects i object d b low split.within)
              (placed.ordered a b d below (omega (arith, split.within)))
          | inr (inr high) ↦ elim (cases_order a i) [
            | inl at ↦ in_order x y object (get_or objects (b - 1) d)
                (ap (λ j. get_or (insert objects i object) j d) at ∙ get_or-insert_at objects i object d split.within)
                (read_above b d high) (after_it (b - 1) d (omega arith) (omega arith))
            | inr (inl low) ↦ in_order x y (get_or objects a d) (get_or objects (b - 1) d)
                (get_or-insert_below objects i object d a low split.within)
                (read_above b d high) (placed.ordered a (b - 1) d (omega arith) (omega arith))
            | inr (inr over) ↦ in_order x y (get_or objects (a - 1) d) (get_or objects (b - 1) d)
                (read_above a d over) (read_above b d high)
                (placed.ordered (a - 1) (b - 1) d (omega arith) (omega arith))
          ]
        ];
  }

-- a further object at the end of one list and at a place of the other
IsPermutation-named : (named objects : List Range) (object : Range) (i : ℕ) → IsPermutation named objects
    → IsPermutation (named ++ object ∷ []) (insert objects i object)
IsPermutation-named named objects object i same =
    IsPermutation-trans _ (object ∷ named) _ (IsPermutation-to_front named object)
    (IsPermutation-trans _ (object ∷ objects) _ (IsPermutation-cons object named objects same)
    (IsPermutation-insert objects i object))

-- an epoch that names it keeps its lists
pub AreKept-name : (limit : ℕ) (named objects : List Range) (room base_room : ℕ)
    → AreKept limit named objects room base_room
    → (object : Range) (i : ℕ) → EndsBefore objects object.base i → 0 < object.len
    → overlaps named object ≡ false → is_named named object ≡ false → length named < limit
    → (more inserted : List Range) → more ≡ named ++ object ∷ [] → inserted ≡ insert objects i object
    → (more_room inserted_room : ℕ) → more_room ≡ room → base_room ≤ inserted_room
    → AreKept limit more inserted more_room inserted_room
AreKept-name limit named objects room base_room kept object i split filled apart fresh spare more inserted p q
    more_room inserted_room same_room larger =
    record {
      word = kept.word;
      few = let e : length more ≡ length (named ++ object ∷ []) = ap length p in omega (arith, length_push named object);
      fits = omega (arith, kept.fits);
      base_fits = omega (arith, kept.base_fits);
      same = subst (λ xs. IsPermutation xs inserted) (sym p)
          (subst (λ xs. IsPermutation (named ++ object ∷ []) xs) (sym q) (IsPermutation-named named objects object i kept.same));
      placed = subst ArePlaced (sym q)
          (ArePlaced-insert objects object i kept.placed split filled
          (All-permutation (λ m. meets m object ≡ false) named objects kept.same (apart_from named object apart fresh)));
    }
