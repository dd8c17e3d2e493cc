-- The entry of a map of versions that comes next after a name, and the entries that are left from one on.
use Rattle.std.proofs.Common.{◌≡◌, ℕ, zero, suc, ◌+◌, ◌<◌, ◌≤◌, Bool, true, false, cond, List, [], ◌∷◌, drop, Option, Some, None, refl, sym, ap, ◌∙◌, inl, inr, ◌⊎◌, arith}
use Rattle.std.specs.Prelude.{not, filter, find, slice_get, option_map}
use Rattle.std.specs.Ordering.{is_lt}
use Rattle.std.specs.declared.cmp.Ordering.{Ordering}
use Rattle.std.specs.declared.cmp.Ordering.TheVariants.{Less, Equal, Greater}
use Rattle.std.specs.Cmp.{tied_itself}
use Rattle.std.specs.FinMap.{get, entries, entries_sorted}
use Rattle.std.proofs.lemmas.Option.{none-some, same_Some, slice_get_within, get_or_from_slice_get}
use Rattle.std.proofs.lemmas.List.{drop_more}
use Rattle.tss_base.specs.declared.operand.OpName.{OpName}
use Rattle.tss_base.specs.Names.{Named, name_cmp}
use Rattle.tss_maps.proofs.Keys.{name_order, compare_keys, turned, below_from_less, nat_order}
use Rattle.tss_maps.proofs.Places.{find_there, find_nowhere, find_first, rising}
use Rattle.tss_maps.proofs.OrderedLemmas.{get_from_place, place_from_get}
use Rattle.tss_protocol.specs.State.{Version}
use Rattle.tss_state_text.specs.Versions.{is_above, next_entry}

-- ---- the first of some entries

-- of the entries that pass a test, none is there, or this is the first
abbrev pub IsFirst : Named Version → (OpName → Version → Type 0) → Option (OpName × Version) → Type 0
IsFirst vs Q None = (k : OpName) (x : Version) → get vs k ≡ Some x → Q k x → ⊥
IsFirst vs Q (Some e) = (get vs e.0 ≡ Some e.1) × Q e.0 e.1
    × ((k : OpName) (x : Version) → get vs k ≡ Some x → Q k x → (k ≡ e.0) ⊎ (name_cmp e.0 k ≡ Less))

above_from_less : (last : Option OpName) (k : OpName) (o : Ordering) → o ≡ Less → is_lt o ≡ true
above_from_less last k Less e = refl
above_from_less last k Equal e = absurd (cc)
above_from_less last k Greater e = absurd (cc)

module _ (vs : Named Version) (last : Option OpName) where
  -- it is above the name
  abbrev pub IsAbove : OpName → Version → Type 0
  IsAbove k x = is_above last k ≡ true

  after_place : (i j : ℕ) (e : OpName × Version) (k : OpName) (x : Version) → slice_get (entries vs) i ≡ Some e →
      slice_get (entries vs) j ≡ Some (k, x) → (j < i → is_above last k ≡ false) → is_above last k ≡ true →
      (k ≡ e.0) ⊎ (name_cmp e.0 k ≡ Less)
  after_place i j e k x at_i at_j before up = elim (compare_keys nat_order i j) [
    | inl below ↦ inr (rising name_cmp (entries vs) i j e.0 k e.1 x (entries_sorted vs) (below_from_less i j below) at_i at_j)
    | inr (inl same) ↦ inl (ap (λ (p : OpName × Version). p.0) (same_Some (k, x) e (sym at_j ∙ ap (slice_get (entries vs)) (sym same) ∙ at_i)))
    | inr (inr above) ↦ absurd (not_both (sym (before (below_from_less j i above)) ∙ up))
  ]
    where
      not_both : false ≡ true → ⊥
      not_both h = cc

  next_by : (o : Option (OpName × Version)) → next_entry vs last ≡ o → IsFirst vs IsAbove o
  next_by None e = λ k x there up.
      let t = place_from_get name_order vs k x there in
      not_both (sym (find_nowhere (λ (e : OpName × Version). is_above last e.0) (entries vs) e t.0 (k, x) t.1) ∙ up)
    where
      not_both : false ≡ true → ⊥
      not_both h = cc
  next_by (Some n) e =
      let f = find_there (λ (e : OpName × Version). is_above last e.0) (entries vs) n e in (
        get_from_place name_order vs f.0 n.0 n.1 f.1,
        f.2,
        λ k x there up.
            let t = place_from_get name_order vs k x there in
            after_place f.0 t.0 n k x f.1 t.1 (λ l. f.3 t.0 (k, x) l t.1) up,
      )

  -- the next entry is the first above the name
  pub next_is_first : IsFirst vs IsAbove (next_entry vs last)
  next_is_first = next_by (next_entry vs last) refl

-- ---- one first

module _ (vs : Named Version) (Q : OpName → Version → Type 0) where
  not_less : (q k : OpName) → name_cmp q k ≡ Less → name_cmp k q ≡ Less → ⊥
  not_less q k up down = clash (name_cmp k q) down (turned name_order q k Less up)
    where
      clash : (o : Ordering) → o ≡ Less → o ≡ Greater → ⊥
      clash o less greater = cc

  same_entry : (e f : OpName × Version) → IsFirst vs Q (Some e) → IsFirst vs Q (Some f) → e.0 ≡ f.0 → e ≡ f
  same_entry e f a b same =
      let value : e.1 ≡ f.1 = same_Some e.1 f.1 (sym a.0 ∙ ap (get vs) same ∙ b.0) in
      λ i. (same i, value i)

  -- two firsts are the same
  pub one_first : (a b : Option (OpName × Version)) → IsFirst vs Q a → IsFirst vs Q b → a ≡ b
  one_first None None a b = refl
  one_first None (Some f) a b = absurd (a f.0 f.1 b.0 b.1)
  one_first (Some e) None a b = absurd (b e.0 e.1 a.0 a.1)
  one_first (Some e) (Some f) a b = elim (a.2 f.0 f.1 b.0 b.1) [
    | inl same ↦ ap Some (same_entry e f a b (sym same))
    | inr up ↦ elim (b.2 e.0 e.1 a.0 a.1) [
      | inl same ↦ ap Some (same_entry e f a b same)
      | inr down ↦ absurd (not_less e.0 f.0 up down)
    ]
  ]

-- ---- the entries from a name on

-- the entries that aren't below the name, and none where there is no name
unfoldable pub left_of : Named Version → Option OpName → List (OpName × Version)
left_of vs None = []
left_of vs (Some k) = filter (λ e. not (is_lt (name_cmp e.0 k))) (entries vs)

filter_drop : {A : Type 0} (p : A → Bool) (es : List A) (i : ℕ)
    → ((j : ℕ) (e : A) → j < i → slice_get es j ≡ Some e → p e ≡ false)
    → ((j : ℕ) (e : A) → i ≤ j → slice_get es j ≡ Some e → p e ≡ true)
    → filter p es ≡ drop i es
filter_drop p [] zero before from = refl
filter_drop p [] (suc i) before from = refl
filter_drop p (e ∷ es) zero before from =
    ap (λ b. cond b (e ∷ filter p es) (filter p es)) (from 0 e (omega arith) refl)
    ∙ ap (λ l. e ∷ l)
    (filter_drop p es 0 (λ j x l at. absurd (omega (arith, l))) (λ j x l at. from (suc j) x (omega arith) at))
filter_drop p (e ∷ es) (suc i) before from =
    ap (λ b. cond b (e ∷ filter p es) (filter p es)) (before 0 e (omega arith) refl)
    ∙ filter_drop p es i (λ j x l at. before (suc j) x (omega (arith, l)) at) (λ j x l at. from (suc j) x (omega (arith, l)) at)

module _ (vs : Named Version) where
  below_by : (o : Ordering) → o ≡ Less → not (is_lt o) ≡ false
  below_by Less e = refl
  below_by Equal e = absurd (cc)
  below_by Greater e = absurd (cc)

  not_below : (q k : OpName) → (q ≡ k) ⊎ (name_cmp k q ≡ Less) → not (is_lt (name_cmp q k)) ≡ true
  not_below q k (inl same) = by (name_cmp q k) refl
    where
      by : (o : Ordering) → name_cmp q k ≡ o → not (is_lt o) ≡ true
      by Less e = absurd (clash (name_cmp q k) e (ap (λ x. name_cmp x k) same ∙ tied k))
        where
          tied : (k : OpName) → name_cmp k k ≡ Equal
          tied k = tied_itself name_order.total k

          clash : (o : Ordering) → o ≡ Less → o ≡ Equal → ⊥
          clash o less equal = cc
      by Equal e = refl
      by Greater e = refl
  not_below q k (inr up) = ap (λ o. not (is_lt o)) (turned name_order k q Less up)

  -- from the entry at a place on
  pub left_at : (i : ℕ) (k : OpName) (x : Version) → slice_get (entries vs) i ≡ Some (k, x) →
      left_of vs (Some k) ≡ drop i (entries vs)
  unfolding left_of
  left_at i k x at =
      filter_drop (λ (e : OpName × Version). not (is_lt (name_cmp e.0 k))) (entries vs) i
      (λ j e l there. below_by (name_cmp e.0 k) (rising name_cmp (entries vs) j i e.0 k e.1 x (entries_sorted vs) l there at))
      (λ j e l there. not_below e.0 k (from j e l there))
    where
      from : (j : ℕ) (e : OpName × Version) → i ≤ j → slice_get (entries vs) j ≡ Some e → (e.0 ≡ k) ⊎ (name_cmp k e.0 ≡ Less)
      from j e l there = elim (compare_keys nat_order i j) [
        | inl below ↦ inr (rising name_cmp (entries vs) i j k e.0 x e.1 (entries_sorted vs) (below_from_less i j below) at there)
        | inr (inl same) ↦ inl (ap (λ (p : OpName × Version). p.0) (same_Some e (k, x) (sym there ∙ ap (slice_get (entries vs)) (sym same) ∙ at)))
        | inr (inr above) ↦ let h = below_from_less j i above in absurd (omega (arith, h, l))
      ]

  drop_by : (i : ℕ) (o : Option (OpName × Version)) → slice_get (entries vs) i ≡ o →
      drop i (entries vs) ≡ left_of vs (option_map (λ (e : OpName × Version). e.0) o)
  unfolding left_of
  drop_by i None at = past (entries vs) i at
    where
      past : {A : Type 0} (es : List A) (i : ℕ) → slice_get es i ≡ None → drop i es ≡ []
      past [] zero e = refl
      past [] (suc i) e = refl
      past (y ∷ ys) zero e = absurd (none-some y (sym e))
      past (y ∷ ys) (suc i) e = past ys i e
  drop_by i (Some (k, x)) at = sym (left_at i k x at)

  find_any : {A : Type 0} (es : List A) → find (λ e. true) es ≡ slice_get es 0
  find_any [] = refl
  find_any (e ∷ es) = refl

  -- from the first on all are left
  pub first_left : entries vs ≡ left_of vs (option_map (λ e. e.0) (next_entry vs None))
  first_left =
      drop_by 0 (slice_get (entries vs) 0) refl
      ∙ ap (λ o. left_of vs (option_map (λ (e : OpName × Version). e.0) o)) (sym (find_any (entries vs)))

  next_place : (i : ℕ) (k : OpName) (x : Version) → slice_get (entries vs) i ≡ Some (k, x) →
      next_entry vs (Some k) ≡ slice_get (entries vs) (suc i)
  next_place i k x at =
      find_first (λ (e : OpName × Version). is_lt (name_cmp k e.0)) (entries vs) (suc i)
      (λ j e l there. not_up j e l there)
      (λ e there. ap is_lt (rising name_cmp (entries vs) i (suc i) k e.0 x e.1 (entries_sorted vs) (omega arith) at there))
    where
      not_up : (j : ℕ) (e : OpName × Version) → j < suc i → slice_get (entries vs) j ≡ Some e → is_lt (name_cmp k e.0) ≡ false
      not_up j e l there = elim (compare_keys nat_order j i) [
        | inl below ↦ ap is_lt (turned name_order e.0 k Less
            (rising name_cmp (entries vs) j i e.0 k e.1 x (entries_sorted vs) (below_from_less j i below) there at))
        | inr (inl same) ↦
            let here = ap (λ (p : OpName × Version). p.0) (same_Some e (k, x) (sym there ∙ ap (slice_get (entries vs)) same ∙ at)) in
            ap is_lt (ap (name_cmp k) here ∙ tied_itself name_order.total k)
        | inr (inr above) ↦ let h = below_from_less i j above in absurd (omega (arith, h, l))
      ]

  -- after an entry those from the next on are left
  pub next_left : (k : OpName) (x : Version) → get vs k ≡ Some x →
      left_of vs (Some k) ≡ (k, x) ∷ left_of vs (option_map (λ e. e.0) (next_entry vs (Some k)))
  next_left k x there =
      let t = place_from_get name_order vs k x there in
      left_at t.0 k x t.1
      ∙ drop_more (entries vs) t.0 (k, x) (slice_get_within (entries vs) t.0 (k, x) t.1)
      ∙ (λ i. get_or_from_slice_get (entries vs) t.0 (k, x) (k, x) t.1 i ∷ rest t.0 (next_place t.0 k x t.1) i)
    where
      rest : (i : ℕ) → next_entry vs (Some k) ≡ slice_get (entries vs) (suc i) →
          drop (i + 1) (entries vs) ≡ left_of vs (option_map (λ (e : OpName × Version). e.0) (next_entry vs (Some k)))
      rest i e =
          let on : i + 1 ≡ suc i = omega arith in
          ap (λ n. drop n (entries vs)) on
          ∙ drop_by (suc i) (slice_get (entries vs) (suc i)) refl
          ∙ ap (λ o. left_of vs (option_map (λ (e : OpName × Version). e.0) o)) (sym e)
