-- What stands at a key of joined maps, and what a change of one bank's map makes of them.
use Rattle.std.proofs.Common.{get_or, map, ◌≡◌, ◌≢◌, ◌⊎◌, ◌<◌, ℕ, zero, suc, true, false, cond, List, [], ◌∷◌, ◌++◌}
use Rattle.std.proofs.Common.{length, set, Option, Some, None, refl, sym, ap, ◌∙◌, subst, inl, inr, arith}
use Rattle.std.specs.List.{flat_map}
use Rattle.std.specs.declared.cmp.Ordering.{Ordering}
use Rattle.std.specs.Ordering.{eq_by_cmp}
use Rattle.std.specs.FinMap.{FinMap, empty, get, insert, remove, entries, get-entries, get-from_entries, get-empty}
use Rattle.std.specs.FinMap.Entries.{find}
use Rattle.std.proofs.lemmas.Option.{none-some}
use Rattle.std.proofs.lemmas.List.{get_or-set_same, get_or-set_other, set-get_or}
use Rattle.tss_maps.proofs.Keys.{IsKeyOrder, nat_order, decide_key}
use Rattle.tss_maps.proofs.Changes.{decide_get, same_by_get, same_at_key, at_inserted, beside_inserted, at_removed}
use Rattle.tss_maps.proofs.Changes.{beside_removed, from_inserted, from_removed}
use Rattle.tss_banks.specs.Joined.{bank, joined, AreApart, IsInNoOther, HaveKeysOf}

-- the first of two values, where it is there
abbrev pub option_first : {X : Type 0} → Option X → Option X → Option X
option_first None b = b
option_first (Some x) b = Some x

-- a part of the one at a place, where past the end it is that of the default
pub get_or-part : {X Y : Type 0} (f : X → Y) (d : X) (xs : List X) (i : ℕ)
    → get_or (map f xs) i (f d) ≡ f (get_or xs i d)
get_or-part f d [] i = refl
get_or-part f d (x ∷ xs) zero = refl
get_or-part f d (x ∷ xs) (suc i) = get_or-part f d xs i

suc_same : (i j : ℕ) → suc i ≡ suc j → i ≡ j
suc_same i j e = omega (arith, e)

zero_suc : (i : ℕ) → zero ≡ suc i → ⊥
zero_suc i e = omega (arith, e)

module _ {K X : Type 0} (R : K → K → Ordering) where
  find_either : (q : K) (es fs : List (K × X)) → find R q (es ++ fs) ≡ option_first (find R q es) (find R q fs)
  find_either q [] fs = refl
  find_either q (e ∷ es) fs =
      elim (eq_by_cmp R q e.0) as (λ b. cond b (Some e.1) (find R q (es ++ fs))
      ≡ option_first (cond b (Some e.1) (find R q es)) (find R q fs)) [
        | true ↦ refl
        | false ↦ find_either q es fs
      ]

  -- without banks there is nothing
  pub get-joined_nil : (k : K) → get (joined {X = X} {R = R} []) k ≡ None
  unfolding joined
  get-joined_nil k = get-empty R k

  -- in no bank there is no key
  pub get-no_bank : (b : ℕ) (k : K) → get (bank {X = X} {R = R} [] b) k ≡ None
  get-no_bank b k = get-empty R k

module _ {K X : Type 0} {R : K → K → Ordering} where
  -- banks that are all empty have no key
  pub in_no_empty : (ms : List (FinMap R X)) → ((i : ℕ) → bank ms i ≡ empty) → (i : ℕ) (k : K) (x : X)
      → get (bank ms i) k ≡ Some x → ⊥
  in_no_empty ms none i k x e = none-some x (sym (get-empty R k) ∙ ap (λ m. get m k) (sym (none i)) ∙ e)

  -- and so they are apart
  pub apart_empties : (ms : List (FinMap R X)) → ((i : ℕ) → bank ms i ≡ empty) → AreApart ms
  apart_empties ms none i j k x y e f = absurd (in_no_empty ms none i k x e)

  -- ---- a bank of a written list

  module _ (ms : List (FinMap R X)) (b : ℕ) (n : FinMap R X) where
    -- that bank has it
    pub bank_set : b < length ms → bank (set ms b n) b ≡ n
    bank_set within = get_or-set_same ms b n empty within

    -- the others have theirs
    bank_set_beside : (i : ℕ) → i ≢ b → bank (set ms b n) i ≡ bank ms i
    bank_set_beside i apart = get_or-set_other ms b i n empty apart

    -- a key that is in no other bank is in none
    pub alone_set : (k : K) → IsInNoOther ms b k → IsInNoOther (set ms b n) b k
    alone_set k only i apart = ap (λ m. get m k) (bank_set_beside i apart) ∙ only i apart

  module _ (ms : List (FinMap R X)) (b : ℕ) where
    -- a bank's own map in its place leaves the banks as they were
    pub same_banks : set ms b (bank ms b) ≡ ms
    same_banks = set-get_or ms b empty

    -- and the joined map
    pub joined_unchanged : joined (set ms b (bank ms b)) ≡ joined ms
    joined_unchanged = ap joined same_banks

  -- ---- keys of banks that are apart

  module _ (ms : List (FinMap R X)) (apart : AreApart ms) where
    -- a key of a bank is in no other
    pub alone_there : (b : ℕ) (k : K) (x : X) → get (bank ms b) k ≡ Some x → IsInNoOther ms b k
    alone_there b k x e i other = elim (decide_get (bank ms i) k) [
      | inl none ↦ none
      | inr there ↦ absurd (other (apart i b k there.0 x there.1 e))
    ]

  -- the banks but the first are apart
  pub apart_rest : (m : FinMap R X) (ms : List (FinMap R X)) → AreApart (m ∷ ms) → AreApart ms
  apart_rest m ms apart i j k x y e f = suc_same i j (apart (suc i) (suc j) k x y e f)

  -- a key of the first is in none of the others
  pub apart_first : (m : FinMap R X) (ms : List (FinMap R X)) → AreApart (m ∷ ms) → (k : K) (x : X)
      → get m k ≡ Some x → (i : ℕ) → get (bank ms i) k ≡ None
  apart_first m ms apart k x e i = elim (decide_get (bank ms i) k) [
    | inl none ↦ none
    | inr there ↦ absurd (zero_suc i (apart zero (suc i) k x there.0 e there.1))
  ]

  -- ---- one bank's map is written

  module _ (ms : List (FinMap R X)) (b : ℕ) (within : b < length ms) where
    -- what holds of each entry by its bank holds after a write of one bank, where it holds of the new map's
    pub each_set : (Q : ℕ → K → X → Type 0) (n : FinMap R X)
        → ((i : ℕ) (k : K) (x : X) → get (bank ms i) k ≡ Some x → Q i k x)
        → ((k : K) (x : X) → get n k ≡ Some x → Q b k x)
        → (i : ℕ) (k : K) (x : X) → get (bank (set ms b n) i) k ≡ Some x → Q i k x
    each_set Q n before new i k x e = elim (decide_key nat_order i b) [
      | inl is ↦
          subst (λ i. Q i k x) (sym is)
          (new k x
          (ap (λ m. get m k) (sym (bank_set ms b n within)) ∙ ap (λ i. get (bank (set ms b n) i) k) (sym is) ∙ e))
      | inr other ↦ before i k x (ap (λ m. get m k) (sym (bank_set_beside ms b n i other)) ∙ e)
    ]

    -- banks stay apart where each key of the new map is in no other bank
    pub apart_set : AreApart ms → (n : FinMap R X) → ((k : K) (x : X) → get n k ≡ Some x → IsInNoOther ms b k)
        → AreApart (set ms b n)
    apart_set apart n only i j k x y e f = by (decide_key nat_order i b) (decide_key nat_order j b)
      where
        -- what the bank has
        own : (i : ℕ) → i ≡ b → (x : X) → get (bank (set ms b n) i) k ≡ Some x → get n k ≡ Some x
        own i is x e =
            ap (λ m. get m k) (sym (bank_set ms b n within)) ∙ ap (λ i. get (bank (set ms b n) i) k) (sym is) ∙ e

        -- what another has
        others : (i : ℕ) → i ≢ b → (x : X) → get (bank (set ms b n) i) k ≡ Some x → get (bank ms i) k ≡ Some x
        others i other x e = ap (λ m. get m k) (sym (bank_set_beside ms b n i other)) ∙ e

        by : (i ≡ b) ⊎ (i ≢ b) → (j ≡ b) ⊎ (j ≢ b) → i ≡ j
        by (inl p) (inl q) = p ∙ sym q
        by (inl p) (inr q) = absurd (none-some y (sym (only k x (own i p x e) j q) ∙ others j q y f))
        by (inr p) (inl q) = absurd (none-some x (sym (only k y (own j q y f) i p) ∙ others i p x e))
        by (inr p) (inr q) = apart i j k x y (others i p x e) (others j q y f)

module _ {K X Y : Type 0} {R : K → K → Ordering} (ms : List (FinMap R X)) (ns : List (FinMap R Y))
    (have : HaveKeysOf ms ns) where
  -- and a key of no other bank there is in no other here
  pub alone_within : (b : ℕ) (k : K) → IsInNoOther ns b k → IsInNoOther ms b k
  alone_within b k only i other = elim (decide_get (bank ms i) k) [
    | inl none ↦ none
    | inr there ↦ let t = have i k there.0 there.1 in absurd (none-some t.0 (sym (only i other) ∙ t.1))
  ]

module _ {K X : Type 0} {R : K → K → Ordering} (order : IsKeyOrder R) where
  -- ---- at a key

  -- what the first bank has, or else what the others have
  pub get-joined_cons : (m : FinMap R X) (ms : List (FinMap R X)) (k : K)
      → get (joined (m ∷ ms)) k ≡ option_first (get m k) (get (joined ms) k)
  unfolding joined
  get-joined_cons m ms k =
      get-from_entries order.total (entries m ++ flat_map entries ms) k
      ∙ find_either R k (entries m) (flat_map entries ms)
      ∙ (λ i. option_first (sym (get-entries m k) i) (sym (get-from_entries order.total (flat_map entries ms) k) i))

  joined_first : (m : FinMap R X) (ms : List (FinMap R X)) (k : K) (x : X) → get m k ≡ Some x
      → get (joined (m ∷ ms)) k ≡ Some x
  joined_first m ms k x e = get-joined_cons m ms k ∙ ap (λ o. option_first o (get (joined ms) k)) e

  -- where the first bank has nothing
  pub joined_later : (m : FinMap R X) (ms : List (FinMap R X)) (k : K) → get m k ≡ None
      → get (joined (m ∷ ms)) k ≡ get (joined ms) k
  joined_later m ms k e = get-joined_cons m ms k ∙ ap (λ o. option_first o (get (joined ms) k)) e

  -- what stands in the joined map stands in some bank
  pub joined_somewhere : (ms : List (FinMap R X)) (k : K) (x : X) → get (joined ms) k ≡ Some x
      → (i : ℕ) × (get (bank ms i) k ≡ Some x)
  joined_somewhere [] k x e = absurd (none-some x (sym (get-joined_nil R k) ∙ e))
  joined_somewhere (m ∷ ms) k x e = elim (decide_get m k) [
    | inl none ↦
        let t = joined_somewhere ms k x (sym (joined_later m ms k none) ∙ e) in
        (suc t.0, t.1)
    | inr there ↦ (zero, there.1 ∙ sym (joined_first m ms k there.0 there.1) ∙ e)
  ]

  -- what isn't in the joined map is in no bank
  pub absent_in_banks : (ms : List (FinMap R X)) (k : K) → get (joined ms) k ≡ None → (i : ℕ)
      → get (bank ms i) k ≡ None
  absent_in_banks [] k e i = get-no_bank R i k
  absent_in_banks (m ∷ ms) k e zero = elim (decide_get m k) [
    | inl none ↦ none
    | inr there ↦ absurd (none-some there.0 (sym e ∙ joined_first m ms k there.0 there.1))
  ]
  absent_in_banks (m ∷ ms) k e (suc i) = elim (decide_get m k) [
    | inl none ↦ absent_in_banks ms k (sym (joined_later m ms k none) ∙ e) i
    | inr there ↦ absurd (none-some there.0 (sym e ∙ joined_first m ms k there.0 there.1))
  ]

  -- and the other way round
  pub absent_in_joined : (ms : List (FinMap R X)) (k : K) → ((i : ℕ) → get (bank ms i) k ≡ None)
      → get (joined ms) k ≡ None
  absent_in_joined ms k absent = elim (decide_get (joined ms) k) [
    | inl none ↦ none
    | inr there ↦
        let t = joined_somewhere ms k there.0 there.1 in
        absurd (none-some there.0 (sym (absent t.0) ∙ t.1))
  ]

  -- a key that isn't in the joined map may be taken in any bank
  pub alone_absent : (ms : List (FinMap R X)) (b : ℕ) (k : K) → get (joined ms) k ≡ None → IsInNoOther ms b k
  alone_absent ms b k e i apart = absent_in_banks ms k e i

  -- at a key that is in no other bank the joined map has what the bank has
  pub get-joined : (ms : List (FinMap R X)) (b : ℕ) (k : K) → IsInNoOther ms b k
      → get (joined ms) k ≡ get (bank ms b) k
  get-joined ms b k only = elim (decide_get (joined ms) k) [
    | inl none ↦ none ∙ sym (absent_in_banks ms k none b)
    | inr there ↦ there.1 ∙ sym (in_bank there.0 (joined_somewhere ms k there.0 there.1))
  ]
    where
      in_bank : (x : X) → (i : ℕ) × (get (bank ms i) k ≡ Some x) → get (bank ms b) k ≡ Some x
      in_bank x t = elim (decide_key nat_order t.0 b) [
        | inl same ↦ ap (λ i. get (bank ms i) k) (sym same) ∙ t.1
        | inr apart ↦ absurd (none-some x (sym (only t.0 apart) ∙ t.1))
      ]

  module _ (ms : List (FinMap R X)) (apart : AreApart ms) where
    -- what stands in a bank stands in the joined map
    pub joined_there : (b : ℕ) (k : K) (x : X) → get (bank ms b) k ≡ Some x → get (joined ms) k ≡ Some x
    joined_there b k x e = get-joined ms b k (alone_there ms apart b k x e) ∙ e

    alone_by : (b : ℕ) (k : K) (x : X) → (i : ℕ) × (get (bank ms i) k ≡ Some x)
        → IsInNoOther ms b k ⊎ (IsInNoOther ms b k → ⊥)
    alone_by b k x t = elim (decide_key nat_order t.0 b) [
      | inl same ↦ inl (alone_there ms apart b k x (ap (λ i. get (bank ms i) k) (sym same) ∙ t.1))
      | inr other ↦ inr (λ only. none-some x (sym (only t.0 other) ∙ t.1))
    ]

    -- a key is in another bank, or it isn't
    pub decide_alone : (b : ℕ) (k : K) → IsInNoOther ms b k ⊎ (IsInNoOther ms b k → ⊥)
    decide_alone b k = elim (decide_get (joined ms) k) [
      | inl none ↦ inl (alone_absent ms b k none)
      | inr there ↦ alone_by b k there.0 (joined_somewhere ms k there.0 there.1)
    ]

  -- ---- two lists of banks

  -- banks that answer alike at a key, joined, do so too
  joined_alike : (ms ns : List (FinMap R X)) (k : K) → ((i : ℕ) → get (bank ms i) k ≡ get (bank ns i) k)
      → get (joined ms) k ≡ get (joined ns) k
  joined_alike [] [] k alike = refl
  joined_alike [] (n ∷ ns) k alike =
      get-joined_nil R k ∙ sym (absent_in_joined (n ∷ ns) k (λ i. sym (alike i) ∙ get-no_bank R i k))
  joined_alike (m ∷ ms) [] k alike =
      absent_in_joined (m ∷ ms) k (λ i. alike i ∙ get-no_bank R i k) ∙ sym (get-joined_nil R k)
  joined_alike (m ∷ ms) (n ∷ ns) k alike =
      get-joined_cons m ms k
      ∙ (λ i. option_first (alike zero i) (joined_alike ms ns k (λ j. alike (suc j)) i))
      ∙ sym (get-joined_cons n ns k)

  -- banks that are all empty have nothing together
  pub joined_empties : (ms : List (FinMap R X)) → ((i : ℕ) → bank ms i ≡ empty) → joined ms ≡ empty
  joined_empties ms none =
      same_by_get order _ _ (λ k.
      absent_in_joined ms k (λ i. ap (λ m. get m k) (none i) ∙ get-empty R k) ∙ sym (get-empty R k))

  -- ---- a bank's map is written

  module _ (ms : List (FinMap R X)) (b : ℕ) (within : b < length ms) where
    -- at a key that is in no other bank stands what the new map has
    get-joined_set : (n : FinMap R X) (k : K) → IsInNoOther ms b k → get (joined (set ms b n)) k ≡ get n k
    get-joined_set n k only =
        get-joined (set ms b n) b k (alone_set ms b n k only) ∙ ap (λ m. get m k) (bank_set ms b n within)

    -- at a key where the new map has what the old one had stands what stood there
    beside_joined_set : (n : FinMap R X) (k : K) → get n k ≡ get (bank ms b) k
        → get (joined (set ms b n)) k ≡ get (joined ms) k
    beside_joined_set n k same = joined_alike (set ms b n) ms k (λ i. elim (decide_key nat_order i b) [
      | inl is ↦
          ap (λ i. get (bank (set ms b n) i) k) is
          ∙ ap (λ m. get m k) (bank_set ms b n within)
          ∙ same
          ∙ ap (λ i. get (bank ms i) k) (sym is)
      | inr apart ↦ ap (λ m. get m k) (bank_set_beside ms b n i apart)
    ])

    -- an insertion in the bank is one in the joined map
    pub joined_insert : (k : K) (x : X) → IsInNoOther ms b k
        → joined (set ms b (insert (bank ms b) k x)) ≡ insert (joined ms) k x
    joined_insert k x only =
        same_at_key order _ _ k
        (get-joined_set (insert (bank ms b) k x) k only
        ∙ at_inserted order (bank ms b) k x
        ∙ sym (at_inserted order (joined ms) k x))
        (λ q apart.
        beside_joined_set (insert (bank ms b) k x) q (beside_inserted order (bank ms b) k x q apart)
        ∙ sym (beside_inserted order (joined ms) k x q apart))

    -- and so is a removal
    pub joined_remove : (k : K) → IsInNoOther ms b k
        → joined (set ms b (remove (bank ms b) k)) ≡ remove (joined ms) k
    joined_remove k only =
        same_at_key order _ _ k
        (get-joined_set (remove (bank ms b) k) k only
        ∙ at_removed order (bank ms b) k
        ∙ sym (at_removed order (joined ms) k))
        (λ q apart.
        beside_joined_set (remove (bank ms b) k) q (beside_removed order (bank ms b) k q apart)
        ∙ sym (beside_removed order (joined ms) k q apart))

    module _ (apart : AreApart ms) where
      -- a change that agrees with the old map at each key of another bank is one of the joined map. Each key is in
      -- another bank, or has what the joined map of the new banks has
      pub joined_set_is : (n all : FinMap R X) → ((k : K) → IsInNoOther ms b k → get all k ≡ get n k)
          → ((k : K) → (IsInNoOther ms b k → ⊥) → (get n k ≡ get (bank ms b) k) × (get all k ≡ get (joined ms) k))
          → all ≡ joined (set ms b n)
      joined_set_is n all inside beyond = same_by_get order _ _ (λ k. elim (decide_alone ms apart b k) [
        | inl only ↦ inside k only ∙ sym (get-joined_set n k only)
        | inr other ↦ (beyond k other).1 ∙ sym (beside_joined_set n k (beyond k other).0)
      ])

      -- after an insertion of a key that is in no other bank
      pub apart_inserted : (k : K) (v : X) → IsInNoOther ms b k → AreApart (set ms b (insert (bank ms b) k v))
      apart_inserted k v only = apart_set ms b within apart (insert (bank ms b) k v) (λ q x e.
          elim (from_inserted order (bank ms b) k v q x e) [
            | inl new ↦ subst (IsInNoOther ms b) (sym new.0) only
            | inr old ↦ alone_there ms apart b q x old.1
          ])

      -- after a removal
      pub apart_removed : (k : K) → AreApart (set ms b (remove (bank ms b) k))
      apart_removed k = apart_set ms b within apart (remove (bank ms b) k) (λ q x e.
          alone_there ms apart b q x (from_removed order (bank ms b) k q x e).1)
