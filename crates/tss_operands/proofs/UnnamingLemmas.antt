-- The object with a base: which one the search finds, and what an epoch keeps when that one leaves.
use Rattle.std.proofs.Common.{◌≡◌, ℕ, zero, suc, ◌<◌, ◌≤◌, inl, inr, Bool, true, false, not, eqb, cond, List, [], ◌∷◌, length, get_or, set, swap, Option, Some, None, refl, sym, ap, ◌∙◌, subst, arith, Bor, option_copied}
use Rattle.std.specs.Prelude.{All, filter, find, remove, slice_get}
use Rattle.std.specs.Slice.{IsItemAt}
use Rattle.std.specs.List.Sorted.{IsPermutation}
use Rattle.std.proofs.lemmas.Bool.{cases_order, cases_Bool, cond-true, cond-false, eqb-true, eq-eqb, ne_eqb, not_from_true, not_from_false}
use Rattle.std.proofs.lemmas.List.Elements.{All-filter, All-head, All-tail}
use Rattle.std.proofs.lemmas.List.Filters.{length-filter_both}
use Rattle.std.proofs.lemmas.List.Kept.{AllPairs-filter}
use Rattle.std.proofs.lemmas.List.Sorted.{IsPermutation-refl, IsPermutation-cons, IsPermutation-swap, IsPermutation-sym, IsPermutation-trans, IsPermutation-keeps}
use Rattle.std.proofs.lemmas.Option.{none-some}
use Rattle.tss_base.specs.declared.range.Range.{Range}
use Rattle.tss_base.specs.Range.{end_of}
use Rattle.tss_model.specs.Spawn.{named_at, unnamed}
use Rattle.tss_operands.specs.Naming.{EpochState}
use Rattle.tss_operands.specs.Placed.{AllEndBy, AreKept, ArePlaced, EndsBefore, IsBeside, IsFirstAfter, IsNeighbour}
use Rattle.tss_operands.proofs.PlacedLemmas.{copied_at, neighbour_at, IsNeighbour-IsPermutation}

-- ---- the object that is found

-- where no element passes, none is found
find_none : {X : Type 0} (p : X → Bool) (xs : List X) → All (λ x. p x ≡ false) xs → find p xs ≡ None
find_none p [] fails = refl
find_none p (x ∷ xs) fails =
    cond-false (p x) (Some x) (find p xs) (All-head (λ y. p y ≡ false) x xs fails)
    ∙ find_none p xs (All-tail (λ y. p y ≡ false) x xs fails)

-- where one element alone passes, it is found
find_only : {X : Type 0} (p : X → Bool) (xs : List X) (n : X) (k : ℕ) → k < length xs → get_or xs k n ≡ n
    → p n ≡ true → All (λ m. p m ≡ true → m ≡ n) xs → find p xs ≡ Some n
find_only p [] n k within is passes only = absurd (omega arith)
find_only p (x ∷ xs) n zero within is passes only =
    cond-true (p x) (Some x) (find p xs) (ap p is ∙ passes) ∙ ap Some is
find_only p (x ∷ xs) n (suc k) within is passes only =
    elim (cases_Bool (p x)) [
      | inl holds ↦ cond-true (p x) (Some x) (find p xs) holds
          ∙ ap Some (All-head (λ m. p m ≡ true → m ≡ n) x xs only holds)
      | inr fails ↦ cond-false (p x) (Some x) (find p xs) fails
          ∙ find_only p xs n k (omega arith) is passes (All-tail (λ m. p m ≡ true → m ≡ n) x xs only)
    ]

module _ (named : List Range) (base : ℕ) where
  -- where each object ends at or before an address, none has that base
  pub named_at_none : AllEndBy named base → named_at named base ≡ None
  named_at_none all =
      find_none (λ r. eqb r.base base) named (λ k d within. ne_eqb (get_or named k d).base base (λ e.
      let ends = all.before k d within in
      let filled = all.each k d within in
      omega arith))

  module _ (n : Range) (first : IsFirstAfter named base n) where
    -- an object with the base is the first that ends later
    same_base : (m : Range) → 0 < m.len → IsBeside base n m → m.base ≡ base → m ≡ n
    same_base m filled beside e =
        elim beside [
          | inl before ↦ absurd (omega arith)
          | inr (inl is) ↦ is
          | inr (inr after) ↦ absurd (let later = first.later in omega arith)
        ]

    -- so that one is found, where it has the base
    pub named_at_some : n.base ≡ base → named_at named base ≡ Some n
    named_at_some e =
        find_only (λ r. eqb r.base base) named n first.there.0 first.there.1 first.there.2 (eq-eqb n.base base e)
        (λ k d within holds. same_base (get_or named k d) (first.each k d within) (first.others k d within)
        (eqb-true (get_or named k d).base base holds))

    -- and none, where it hasn't
    pub named_at_other : (n.base ≡ base → ⊥) → named_at named base ≡ None
    named_at_other other =
        find_none (λ r. eqb r.base base) named (λ k d within. ne_eqb (get_or named k d).base base (λ e.
        other (subst (λ (r : Range). r.base ≡ base)
        (same_base (get_or named k d) (first.each k d within) (first.others k d within) e) e)))

-- what stands where the search for a base stops tells of the named objects
module _ (named objects lent : List Range) (base place : ℕ) (e : lent ≡ objects) (same : IsPermutation named objects)
    (placed : ArePlaced objects) (split : EndsBefore objects base place) where
  stops_at : (o : Option (Bor Range)) → IsItemAt lent place o → IsNeighbour named base (option_copied o)
  stops_at o item =
      subst (IsNeighbour named base) (sym (copied_at lent place o item ∙ ap (λ xs. slice_get xs place) e))
      (IsNeighbour-IsPermutation objects named base (slice_get objects place) (IsPermutation-sym named objects same)
      (neighbour_at objects base place placed split))

  pub found_past : IsItemAt lent place None → named_at named base ≡ None
  found_past item = named_at_none named base (stops_at None item)

  module _ (x : Bor Range) (item : IsItemAt lent place (Some x)) where
    pub found_other : (x.now.base ≡ base → ⊥) → named_at named base ≡ None
    found_other other = named_at_other named base x.now (stops_at (Some x) item) other

    pub found_there : x.now.base ≡ base → named_at named base ≡ Some x.now
    found_there at = named_at_some named base x.now (stops_at (Some x) item) at

-- what is lent stands at its place
pub item_at : (lent objects : List Range) (place base : ℕ) (x : Bor Range) → lent ≡ objects
    → IsItemAt lent place (Some x) → x.now.base ≡ base
    → (place < length objects) × ((d : Range) → (get_or objects place d).base ≡ base)
item_at lent objects place base x e item at =
    subst (λ xs. (place < length xs) × ((d : Range) → (get_or xs place d).base ≡ base)) e
    (item.3.0, λ d. ap (λ (r : Range). r.base) (sym (item.3.1 d)) ∙ at)

-- ---- the objects that stay

-- where each element passes, all stay
filter_all : {X : Type 0} (p : X → Bool) (xs : List X) → All (λ x. p x ≡ true) xs → filter p xs ≡ xs
filter_all p [] each = refl
filter_all p (x ∷ xs) each =
    cond-true (p x) (x ∷ filter p xs) (filter p xs) (All-head (λ y. p y ≡ true) x xs each)
    ∙ ap (λ ys. x ∷ ys) (filter_all p xs (All-tail (λ y. p y ≡ true) x xs each))

-- where each element but one passes, that one leaves
filter_but_one : {X : Type 0} (p : X → Bool) (xs : List X) (i : ℕ) → i < length xs
    → ((d : X) → p (get_or xs i d) ≡ false)
    → ((k : ℕ) (d : X) → (k ≡ i → ⊥) → k < length xs → p (get_or xs k d) ≡ true)
    → filter p xs ≡ remove xs i
filter_but_one p [] i within fails others = absurd (omega arith)
filter_but_one p (x ∷ xs) zero within fails others =
    cond-false (p x) (x ∷ filter p xs) (filter p xs) (fails x)
    ∙ filter_all p xs (λ k d inside. others (suc k) d (λ e. omega arith) (omega arith))
filter_but_one p (x ∷ xs) (suc i) within fails others =
    cond-true (p x) (x ∷ filter p xs) (filter p xs) (others 0 x (λ e. omega arith) (omega arith))
    ∙ ap (λ ys. x ∷ ys) (filter_but_one p xs i (omega arith) fails
    (λ k d other inside. others (suc k) d (λ e. other (omega arith)) (omega arith)))

-- an object that doesn't have the base
abbrev pub is_elsewhere : ℕ → Range → Bool
is_elsewhere base r = not (eqb r.base base)

-- where no object has the base, all stay
pub unnamed_none : (named : List Range) (base : ℕ) → named_at named base ≡ None → unnamed named base ≡ named
unnamed_none [] base none = refl
unnamed_none (r ∷ named) base none =
    elim (cases_Bool (eqb r.base base)) [
      | inl at ↦ absurd (none-some r (sym none ∙ cond-true (eqb r.base base) (Some r) (named_at named base) at))
      | inr other ↦
          cond-true (is_elsewhere base r) (r ∷ unnamed named base) (unnamed named base) (not_from_false _ other)
          ∙ ap (λ rs. r ∷ rs) (unnamed_none named base
          (sym (cond-false (eqb r.base base) (Some r) (named_at named base) other) ∙ none))
    ]

-- among objects in address order no other has the base of one
pub unnamed_placed : (objects : List Range) (i base : ℕ) → ArePlaced objects → i < length objects
    → ((d : Range) → (get_or objects i d).base ≡ base) → unnamed objects base ≡ remove objects i
unnamed_placed objects i base placed within at =
    filter_but_one (is_elsewhere base) objects i within (λ d. not_from_true _ (eq-eqb _ _ (at d)))
    (λ k d other inside. not_from_false _ (ne_eqb (get_or objects k d).base base (λ e.
    let filled = placed.each k d inside in
    let wide = placed.each i d within in
    let there = at d in
    elim (cases_order k i) [
      | inl same ↦ other same
      | inr (inl below) ↦ let before = placed.ordered k i d below within in omega arith
      | inr (inr above) ↦ let after = placed.ordered i k d above inside in omega arith
    ])))

-- ---- the same objects stay in another order

module _ {X : Type 0} (p : X → Bool) where
  -- what stays of one list is what stays of the other, in some order
  abbrev SameLeft : List X → List X → Type 0
  SameLeft xs ys = IsPermutation (filter p xs) (filter p ys)

  same_behind : (x : X) (xs ys : List X) → SameLeft xs ys → SameLeft (x ∷ xs) (x ∷ ys)
  same_behind x xs ys same =
      elim (p x) as (λ b. IsPermutation (cond b (x ∷ filter p xs) (filter p xs)) (cond b (x ∷ filter p ys) (filter p ys))) [
        | true ↦ IsPermutation-cons x (filter p xs) (filter p ys) same
        | false ↦ same
      ]

  -- two elements in turn
  turned : (x y : X) (us : List X) (b c : Bool)
      → IsPermutation (cond b (x ∷ cond c (y ∷ us) us) (cond c (y ∷ us) us))
      (cond c (y ∷ cond b (x ∷ us) us) (cond b (x ∷ us) us))
  turned x y us true true = IsPermutation-swap (x ∷ y ∷ us) (y ∷ x ∷ us) 0 1 (omega arith) (omega arith) refl
  turned x y us true false = IsPermutation-refl (x ∷ us)
  turned x y us false true = IsPermutation-refl (y ∷ us)
  turned x y us false false = IsPermutation-refl us

  same_turned : (x y : X) (xs : List X) → SameLeft (x ∷ y ∷ xs) (y ∷ x ∷ xs)
  same_turned x y xs = turned x y (filter p xs) (p x) (p y)

  same_chain : (xs ys zs : List X) → SameLeft xs ys → SameLeft ys zs → SameLeft xs zs
  same_chain xs ys zs = IsPermutation-trans (filter p xs) (filter p ys) (filter p zs)

  -- the first element and a later one
  to_head : (l : List X) (j : ℕ) (x d : X) → j < length l → SameLeft (x ∷ l) (get_or l j d ∷ set l j x)
  to_head [] j x d h = absurd (omega arith)
  to_head (y ∷ l) zero x d h = same_turned x y l
  to_head (y ∷ l) (suc j) x d h =
      let v = get_or l j d in
      let rest = set l j x in
      same_chain (x ∷ y ∷ l) (y ∷ x ∷ l) (v ∷ y ∷ rest) (same_turned x y l)
      (same_chain (y ∷ x ∷ l) (y ∷ v ∷ rest) (v ∷ y ∷ rest)
      (same_behind y (x ∷ l) (v ∷ rest) (to_head l j x d (omega arith))) (same_turned y v rest))

  -- any two
  exchanged : (l : List X) (i j : ℕ) (d : X) → i < length l → j < length l
      → SameLeft l (set (set l i (get_or l j d)) j (get_or l i d))
  exchanged [] i j d a b = absurd (omega arith)
  exchanged (x ∷ l) zero zero d a b = IsPermutation-refl (filter p (x ∷ l))
  exchanged (x ∷ l) zero (suc j) d a b = to_head l j x d (omega arith)
  exchanged (x ∷ l) (suc i) zero d a b = to_head l i x d (omega arith)
  exchanged (x ∷ l) (suc i) (suc j) d a b =
      same_behind x l (set (set l i (get_or l j d)) j (get_or l i d)) (exchanged l i j d (omega arith) (omega arith))

  swapped : (l : List X) (i j : ℕ) → i < length l → j < length l → SameLeft l (swap l i j)
  swapped [] i j a b = absurd (omega arith)
  swapped (x ∷ l) i j a b = exchanged (x ∷ l) i j x a b

  IsPermutation-filter : (xs ys : List X) → IsPermutation xs ys → IsPermutation (filter p xs) (filter p ys)
  IsPermutation-filter xs =
      IsPermutation-keeps xs (SameLeft xs) (IsPermutation-refl (filter p xs))
      (λ l i j a b same. same_chain xs l (swap l i j) same (swapped l i j a b))

-- an epoch that unnames an object keeps its lists
pub AreKept-unname : (limit : ℕ) (named objects : List Range) (room base_room : ℕ)
    → AreKept limit named objects room base_room
    → (base i : ℕ) → i < length objects → ((d : Range) → (get_or objects i d).base ≡ base)
    → (left removed : List Range) → left ≡ unnamed named base → removed ≡ remove objects i
    → (left_room removed_room : ℕ) → left_room ≡ room → removed_room ≡ base_room
    → AreKept limit left removed left_room removed_room
AreKept-unname limit named objects room base_room kept base i within at left removed p q left_room removed_room e f =
    let stays : removed ≡ unnamed objects base = q ∙ sym (unnamed_placed objects i base kept.placed within at) in
    record {
      word = kept.word;
      few =
          let count = ap length p in
          let parts = length-filter_both (is_elsewhere base) (λ r. not (is_elsewhere base r)) (λ r. refl) named in
          let few = kept.few in
          omega arith;
      fits = let fits = kept.fits in omega arith;
      base_fits = let fits = kept.base_fits in omega arith;
      same = subst (λ xs. IsPermutation xs removed) (sym p)
          (subst (λ xs. IsPermutation (unnamed named base) xs) (sym stays)
          (IsPermutation-filter (is_elsewhere base) named objects kept.same));
      placed = subst ArePlaced (sym stays) (record {
        each = All-filter (is_elsewhere base) (λ r. 0 < r.len) objects kept.placed.each;
        ordered = AllPairs-filter (λ r s. end_of r ≤ s.base) (is_elsewhere base) objects kept.placed.ordered;
      });
    }

-- ---- what a contract sees

-- an epoch as a contract sees it
abbrev seen : ℕ → List Range → EpochState
seen limit objects = record { limit = limit; objects = objects }

-- after an object is unnamed
pub seen_left : (limit : ℕ) (named left : List Range) (base : ℕ) (old : EpochState) → seen limit named ≡ old
    → left ≡ unnamed named base → seen limit left ≡ seen old.limit (unnamed old.objects base)
seen_left limit named left base old e p =
    ap (seen limit) p ∙ ap (λ (s : EpochState). seen s.limit (unnamed s.objects base)) e

-- and where none has the base
pub seen_same : (old : EpochState) (base : ℕ) → named_at old.objects base ≡ None
    → old ≡ seen old.limit (unnamed old.objects base)
seen_same old base none = ap (seen old.limit) (sym (unnamed_none old.objects base none))
