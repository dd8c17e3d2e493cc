-- Lists of entries in the order of their keys, by place, and the first of a list that passes a test.
use Rattle.std.proofs.Common.{◌≡◌, option_map, ℕ, zero, suc, ◌<◌, Bool, true, false, cond, Option, Some, None, refl}
use Rattle.std.proofs.Common.{sym, ap, ◌∙◌, arith}
use Rattle.std.specs.Prelude.{T, length, ◌&&◌, slice_get, map, List, [], ◌∷◌}
use Rattle.std.specs.declared.cmp.Ordering.{Ordering}
use Rattle.std.specs.declared.cmp.Ordering.TheVariants.{Less, Equal, Greater}
use Rattle.std.specs.Ordering.{is_eq, is_lt, eq_by_cmp}
use Rattle.std.specs.List.{find as find_if}
use Rattle.std.specs.FinMap.Entries.{find, is_sorted, below_all}
use Rattle.std.proofs.lemmas.Option.{none-some, same_Some, slice_get-map}
use Rattle.tss_maps.proofs.Keys.{IsKeyOrder, same_key, other_key, apart_below}

first : (a b : Bool) → T (a && b) → T a
first true b p = tt
first false b p = p

second : (a b : Bool) → T (a && b) → T b
second true b p = p
second false b p = absurd p

less : (o : Ordering) → T (is_lt o) → o ≡ Less
less Less p = refl
less Equal p = absurd p
less Greater p = absurd p

-- at a place within a list something stands
pub not_past : {A : Type 0} (xs : List A) (i : ℕ) → i < length xs → slice_get xs i ≡ None → ⊥
not_past [] i h e = omega arith
not_past (x ∷ xs) zero h e = none-some x (sym e)
not_past (x ∷ xs) (suc i) h e = not_past xs i (omega arith) e

-- what find answers stands at the first place that passes
pub find_first : {A : Type 0} (p : A → Bool) (xs : List A) (j : ℕ) →
    ((i : ℕ) (x : A) → i < j → slice_get xs i ≡ Some x → p x ≡ false) →
    ((x : A) → slice_get xs j ≡ Some x → p x ≡ true) → find_if p xs ≡ slice_get xs j
find_first p [] j before at = refl
find_first p (x ∷ xs) zero before at = ap (λ b. cond b (Some x) (find_if p xs)) (at x refl)
find_first p (x ∷ xs) (suc j) before at =
    ap (λ b. cond b (Some x) (find_if p xs)) (before 0 x (omega arith) refl)
    ∙ find_first p xs j (λ i y h e. before (suc i) y (omega arith) e) at

-- y passes and stands at a place of the list, and none before it passes
abbrev PassesFirst : {A : Type 0} → (A → Bool) → List A → A → Type 0
PassesFirst {A} p xs y =
    (i : ℕ) × (slice_get xs i ≡ Some y) × (p y ≡ true) × ((j : ℕ) (x : A) → j < i → slice_get xs j ≡ Some x →
    p x ≡ false)

before_one : {A : Type 0} (p : A → Bool) (x : A) (xs : List A) (i : ℕ) → p x ≡ false →
    ((j : ℕ) (z : A) → j < i → slice_get xs j ≡ Some z → p z ≡ false) →
    (j : ℕ) (z : A) → j < suc i → slice_get (x ∷ xs) j ≡ Some z → p z ≡ false
before_one p x xs i fails before zero z h e = ap p (sym (same_Some x z e)) ∙ fails
before_one p x xs i fails before (suc j) z h e = before j z (omega arith) e

find_by : {A : Type 0} (p : A → Bool) (x : A) (xs : List A) (y : A) (b : Bool) → p x ≡ b →
    (find_if p xs ≡ Some y → PassesFirst p xs y) → cond b (Some x) (find_if p xs) ≡ Some y → PassesFirst p (x ∷ xs) y
find_by p x xs y true passes later e = (0, e, ap p (sym (same_Some x y e)) ∙ passes, λ j z h g. absurd (omega arith))
find_by p x xs y false fails later e =
    let r = later e in
    (suc r.0, r.1, r.2, before_one p x xs r.0 fails r.3)

-- what find answers is the first that passes
pub find_there : {A : Type 0} (p : A → Bool) (xs : List A) (y : A) → find_if p xs ≡ Some y → PassesFirst p xs y
find_there p [] y e = absurd (none-some y (e))
find_there p (x ∷ xs) y e = find_by p x xs y (p x) refl (find_there p xs y) e

none_by : {A : Type 0} (p : A → Bool) (x : A) (xs : List A) (b : Bool) → p x ≡ b →
    cond b (Some x) (find_if p xs) ≡ None →
    (p x ≡ false) × (find_if p xs ≡ None)
none_by p x xs true passes e = absurd (none-some x (sym e))
none_by p x xs false fails e = (fails, e)

-- where find answers none, none passes
pub find_nowhere : {A : Type 0} (p : A → Bool) (xs : List A) → find_if p xs ≡ None → (i : ℕ) (y : A) →
    slice_get xs i ≡ Some y →
    p y ≡ false
find_nowhere p [] none i y e = absurd (none-some y e)
find_nowhere p (x ∷ xs) none zero y e = ap p (sym (same_Some x y e)) ∙ (none_by p x xs (p x) refl none).0
find_nowhere p (x ∷ xs) none (suc i) y e = find_nowhere p xs (none_by p x xs (p x) refl none).1 i y e

module _ {K X : Type 0} where
  entry_by : (es : List (K × X)) (i : ℕ) (k : K) (o : Option (K × X)) → slice_get es i ≡ o →
      option_map (λ e. e.0) o ≡ Some k →
      (x : X) × (slice_get es i ≡ Some (k, x))
  entry_by es i k None e h = absurd (none-some k h)
  entry_by es i k (Some p) e h = (p.1, e ∙ (λ i. Some (same_Some p.0 k h i, p.1)))

  -- where a key stands among the keys of a list, its entry stands in the list
  pub entry_of_key : (es : List (K × X)) (i : ℕ) (k : K) → slice_get (map (λ e. e.0) es) i ≡ Some k →
      (x : X) × (slice_get es i ≡ Some (k, x))
  entry_of_key es i k e = entry_by es i k (slice_get es i) refl (sym (slice_get-map (λ e. e.0) es i) ∙ e)

module _ {K X : Type 0} (R : K → K → Ordering) where
  -- a key that is below all of a list is below the one at each place
  below_at : (k : K) (es : List (K × X)) (i : ℕ) (q : K) (x : X) → T (below_all R k es) →
      slice_get es i ≡ Some (q, x) →
      R k q ≡ Less
  below_at k [] i q x h e = absurd (none-some (q, x) e)
  below_at k (p ∷ es) zero q x h e =
      let same = same_Some p (q, x) e in
      ap (R k) (λ i. (sym same i).0) ∙ less (R k p.0) (first (is_lt (R k p.0)) (below_all R k es) h)
  below_at k (p ∷ es) (suc i) q x h e = below_at k es i q x (second (is_lt (R k p.0)) (below_all R k es) h) e

  -- of two places of a list in order, the later has the key above
  pub rising : (es : List (K × X)) (i j : ℕ) (k q : K) (x y : X) → T (is_sorted R es) → i < j →
      slice_get es i ≡ Some (k, x) →
      slice_get es j ≡ Some (q, y) → R k q ≡ Less
  rising [] i j k q x y h l e g = absurd (none-some (k, x) e)
  rising (p ∷ es) zero zero k q x y h l e g = absurd (omega arith)
  rising (p ∷ es) zero (suc j) k q x y h l e g =
      let same = same_Some p (k, x) e in
      (λ i. R (sym same i).0 q) ∙ below_at p.0 es j q y (first (below_all R p.0 es) (is_sorted R es) h) g
  rising (p ∷ es) (suc i) zero k q x y h l e g = absurd (omega arith)
  rising (p ∷ es) (suc i) (suc j) k q x y h l e g =
      rising es i j k q x y (second (below_all R p.0 es) (is_sorted R es) h) (omega arith) e g

module _ {K X : Type 0} {R : K → K → Ordering} (order : IsKeyOrder R) where
  -- in a list in order, what stands at a place is found under its key
  pub find_at : (es : List (K × X)) (i : ℕ) (k : K) (x : X) → T (is_sorted R es) → slice_get es i ≡ Some (k, x) →
      find R k es ≡ Some x
  find_at [] i k x h e = absurd (none-some (k, x) e)
  find_at (p ∷ es) zero k x h e =
      let same = same_Some p (k, x) e in
      (λ i. cond (eq_by_cmp R k (same i).0) (Some (same i).1) (find R k es))
      ∙ ap (λ b. cond b (Some x) (find R k es)) (same_key order k)
  find_at (p ∷ es) (suc i) k x h e =
      let below = below_at R p.0 es i k x (first (below_all R p.0 es) (is_sorted R es) h) e in
      let apart = other_key order k p.0 (λ same. apart_below order p.0 k below (sym same)) in
      ap (λ b. cond b (Some p.1) (find R k es)) apart
      ∙ find_at es i k x (second (below_all R p.0 es) (is_sorted R es) h) e

  place_by : (p : K × X) (es : List (K × X)) (k : K) (x : X) (r : Ordering) → R k p.0 ≡ r →
      (find R k es ≡ Some x → (i : ℕ) × (slice_get es i ≡ Some (k, x))) →
      cond (is_eq r) (Some p.1) (find R k es) ≡ Some x →
      (i : ℕ) × (slice_get (p ∷ es) i ≡ Some (k, x))
  place_by p es k x Less e later found = let t = later found in (suc t.0, t.1)
  place_by p es k x Greater e later found = let t = later found in (suc t.0, t.1)
  place_by p es k x Equal e later found =
      (0, λ i. Some (sym (order.exact k p.0 e) i, same_Some p.1 x found i))

  -- what is found under a key stands with it at a place
  pub place_of : (es : List (K × X)) (k : K) (x : X) → find R k es ≡ Some x → (i : ℕ) × (slice_get es i ≡ Some (k, x))
  place_of [] k x e = absurd (none-some x e)
  place_of (p ∷ es) k x e = place_by p es k x (R k p.0) refl (place_of es k x) e
