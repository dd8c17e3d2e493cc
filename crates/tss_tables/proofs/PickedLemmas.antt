-- Rows of places, seen as the rows of what stands there: what is found, and what a change leaves.
use Rattle.std.proofs.Common.{◌≡◌, ◌≢◌, ℕ, suc, Bool, true, false, cond, List, [], ◌∷◌, length, Option, Some, None, refl, sym, ap, ◌∙◌, subst}
use Rattle.std.specs.Prelude.{T, ◌&&◌, not, map}
use Rattle.std.specs.declared.cmp.Ordering.{Ordering}
use Rattle.std.specs.declared.cmp.Ordering.TheVariants.{Less, Equal, Greater}
use Rattle.std.specs.Ordering.{nat_cmp, is_eq, is_lt, eq_by_cmp}
use Rattle.std.specs.Cmp.{IsTotalOrder}
use Rattle.std.specs.FinMap.{FinMap, get, insert}
use Rattle.std.specs.FinMap.Entries.{put, find, is_sorted, below_all, by_order}
use Rattle.std.proofs.lemmas.Option.{none-some, same_Some}
use Rattle.tss_maps.proofs.Keys.{nat_order}
use Rattle.tss_maps.proofs.Changes.{still_inserted}
use Rattle.tss_tables.specs.Rows.{without}
use Rattle.tss_tables.specs.Store.{row_before, picked, AreHeld, IsElsewhere, ArePlacedApart}

less : (o : Ordering) → T (is_lt o) → o ≡ Less
less Less p = refl
less Equal p = absurd p
less Greater p = absurd p

first : (a b : Bool) → T (a && b) → T a
first true b p = tt
first false b p = p

second : (a b : Bool) → T (a && b) → T b
second true b p = p
second false b p = absurd p

-- what stands at the place of a row that is found
abbrev pub at_place : {X : Type 0} → FinMap nat_cmp X → Option ℕ → Option X
at_place m None = None
at_place m (Some p) = get m p

module _ {X : Type 0} (m : FinMap nat_cmp X) where
  found_by : (b : Bool) (p : ℕ) (x : X) (o : Option ℕ) (r : Option X) → get m p ≡ Some x → r ≡ at_place m o →
      cond b (Some x) r ≡ at_place m (cond b (Some p) o)
  found_by true p x o r here rest = sym here
  found_by false p x o r here rest = rest

  missed_by : (b : Bool) (p : ℕ) (x : X) (o : Option ℕ) (r : Option X) → (r ≡ None → o ≡ None) →
      cond b (Some x) r ≡ None → cond b (Some p) o ≡ None
  missed_by true p x o r rest none = absurd (none-some x (sym none))
  missed_by false p x o r rest none = rest none

  there_by : (b : Bool) (q : ℕ) (x : X) (o : Option ℕ) (p : ℕ) → get m q ≡ Some x →
      (o ≡ Some p → (y : X) × (get m p ≡ Some y)) → cond b (Some q) o ≡ Some p → (y : X) × (get m p ≡ Some y)
  there_by true q x o p here later is = (x, ap (get m) (sym (same_Some q p is)) ∙ here)
  there_by false q x o p here later is = later is

  elsewhere_one : (q p : ℕ) (x : X) → get m q ≡ Some x → get m p ≡ None → q ≢ p
  elsewhere_one q p x there none same = none-some x (sym none ∙ ap (get m) (sym same) ∙ there)

module _ {K X : Type 0} (m : FinMap nat_cmp X) where
  -- the rows are as many, and of the same keys
  pub length-picked : (es : List (K × ℕ)) → AreHeld m es → length (picked m es) ≡ length es
  length-picked [] held = refl
  length-picked (e ∷ es) held =
      ap (λ o. length (row_before e.0 o (picked m es))) held.0.1 ∙ ap suc (length-picked es held.1)

  pub keys-picked : (es : List (K × ℕ)) → AreHeld m es → map (λ e. e.0) (picked m es) ≡ map (λ e. e.0) es
  keys-picked [] held = refl
  keys-picked (e ∷ es) held =
      ap (λ o. map (λ (e : K × X). e.0) (row_before e.0 o (picked m es))) held.0.1
      ∙ ap (λ ks. e.0 ∷ ks) (keys-picked es held.1)

  below-picked : (R : K → K → Ordering) (k : K) (es : List (K × ℕ)) → AreHeld m es →
      below_all R k (picked m es) ≡ below_all R k es
  below-picked R k [] held = refl
  below-picked R k (e ∷ es) held =
      ap (λ o. below_all R k (row_before e.0 o (picked m es))) held.0.1
      ∙ ap (λ b. is_lt (R k e.0) && b) (below-picked R k es held.1)

  -- so they are in order where the places are
  pub sorted-picked : (R : K → K → Ordering) (es : List (K × ℕ)) → AreHeld m es →
      is_sorted R (picked m es) ≡ is_sorted R es
  sorted-picked R [] held = refl
  sorted-picked R (e ∷ es) held =
      ap (λ o. is_sorted R (row_before e.0 o (picked m es))) held.0.1
      ∙ (λ i. below-picked R e.0 es held.1 i && sorted-picked R es held.1 i)

  -- what is found is what stands at the place that is found
  pub find-picked : (R : K → K → Ordering) (k : K) (es : List (K × ℕ)) → AreHeld m es →
      find R k (picked m es) ≡ at_place m (find R k es)
  find-picked R k [] held = refl
  find-picked R k (e ∷ es) held =
      ap (λ o. find R k (row_before e.0 o (picked m es))) held.0.1
      ∙ found_by m (eq_by_cmp R k e.0) e.1 held.0.0 (find R k es) (find R k (picked m es)) held.0.1
      (find-picked R k es held.1)

  -- where no value is found, no place is
  pub not_found : (R : K → K → Ordering) (k : K) (es : List (K × ℕ)) → AreHeld m es → find R k (picked m es) ≡ None →
      find R k es ≡ None
  not_found R k [] held none = refl
  not_found R k (e ∷ es) held none =
      missed_by m (eq_by_cmp R k e.0) e.1 held.0.0 (find R k es) (find R k (picked m es)) (not_found R k es held.1)
      (ap (λ o. find R k (row_before e.0 o (picked m es))) (sym held.0.1) ∙ none)

  -- where a place is found, something stands
  pub found_there : (R : K → K → Ordering) (k : K) (es : List (K × ℕ)) (p : ℕ) → AreHeld m es → find R k es ≡ Some p →
      (x : X) × (get m p ≡ Some x)
  found_there R k [] p held is = absurd (none-some p is)
  found_there R k (e ∷ es) p held is =
      there_by m (eq_by_cmp R k e.0) e.1 held.0.0 (find R k es) p held.0.1 (λ later. found_there R k es p held.1 later) is

  -- where maps agree at the places of the rows, the rows are the same
  pub picked-beside : (n : FinMap nat_cmp X) (p : ℕ) → ((q : ℕ) → q ≢ p → get n q ≡ get m q) → (es : List (K × ℕ)) →
      IsElsewhere p es → picked n es ≡ picked m es
  picked-beside n p beside [] apart = refl
  picked-beside n p beside (e ∷ es) apart =
      λ i. row_before e.0 (beside e.1 apart.0 i) (picked-beside n p beside es apart.1 i)

  -- and what is held is held
  pub held-beside : (n : FinMap nat_cmp X) (p : ℕ) → ((q : ℕ) → q ≢ p → get n q ≡ get m q) → (es : List (K × ℕ)) →
      IsElsewhere p es → AreHeld m es → AreHeld n es
  held-beside n p beside [] apart held = tt
  held-beside n p beside (e ∷ es) apart held =
      ((held.0.0, beside e.1 apart.0 ∙ held.0.1), held-beside n p beside es apart.1 held.1)

  -- what is held is held where a value is written
  pub held-written : (p : ℕ) (v : X) (es : List (K × ℕ)) → AreHeld m es → AreHeld (insert m p v) es
  held-written p v [] held = tt
  held-written p v (e ∷ es) held =
      (still_inserted nat_order m p v e.1 held.0.0 held.0.1, held-written p v es held.1)

  -- a place where nothing stands is none of the rows'
  pub elsewhere : (p : ℕ) (es : List (K × ℕ)) → get m p ≡ None → AreHeld m es → IsElsewhere p es
  elsewhere p [] none held = tt
  elsewhere p (e ∷ es) none held = (elsewhere_one m e.1 p held.0.0 held.0.1 none, elsewhere p es none held.1)

module _ {K : Type 0} (R : K → K → Ordering) where
  apart_by : (q : ℕ) (e : K × ℕ) (b : Bool) (o : Option ℕ) (p : ℕ) → e.1 ≢ q → (o ≡ Some p → p ≢ q) →
      cond b (Some e.1) o ≡ Some p → p ≢ q
  apart_by q e true o p here later is = λ same. here (same_Some e.1 p is ∙ same)
  apart_by q e false o p here later is = later is

  -- the place of a row that is found is none that is elsewhere
  pub apart_found : (q : ℕ) (k : K) (es : List (K × ℕ)) (p : ℕ) → IsElsewhere q es → find R k es ≡ Some p → p ≢ q
  apart_found q k [] p apart is = absurd (none-some p is)
  apart_found q k (e ∷ es) p apart is =
      apart_by q e (eq_by_cmp R k e.0) (find R k es) p apart.0 (apart_found q k es p apart.1) is

  elsewhere_kept : (p : ℕ) (e : K × ℕ) (es : List (K × ℕ)) (b : Bool) → e.1 ≢ p → IsElsewhere p es →
      IsElsewhere p (cond b (e ∷ es) es)
  elsewhere_kept p e es true here rest = (here, rest)
  elsewhere_kept p e es false here rest = rest

  -- a place that is none of the rows' is none of those that are left
  pub elsewhere-without : (p : ℕ) (k : K) (es : List (K × ℕ)) → IsElsewhere p es → IsElsewhere p (without R k es)
  elsewhere-without p k [] apart = tt
  elsewhere-without p k (e ∷ es) apart =
      elsewhere_kept p e (without R k es) (not (eq_by_cmp R k e.0)) apart.0 (elsewhere-without p k es apart.1)

  apart_kept : (e : K × ℕ) (es : List (K × ℕ)) (b : Bool) → IsElsewhere e.1 es → ArePlacedApart es →
      ArePlacedApart (cond b (e ∷ es) es)
  apart_kept e es true here rest = (here, rest)
  apart_kept e es false here rest = rest

  -- the rows that are left have places of their own
  pub apart-without : (k : K) (es : List (K × ℕ)) → ArePlacedApart es → ArePlacedApart (without R k es)
  apart-without k [] apart = tt
  apart-without k (e ∷ es) apart =
      apart_kept e (without R k es) (not (eq_by_cmp R k e.0)) (elsewhere-without e.1 k es apart.0)
      (apart-without k es apart.1)

  gone_by : (k : K) (e : K × ℕ) (es : List (K × ℕ)) (p : ℕ) (b : Bool) → IsElsewhere e.1 es →
      (find R k es ≡ Some p → IsElsewhere p (without R k es)) → cond b (Some e.1) (find R k es) ≡ Some p →
      IsElsewhere p (cond (not b) (e ∷ without R k es) (without R k es))
  gone_by k e es p true apart later is =
      subst (λ q. IsElsewhere q (without R k es)) (same_Some e.1 p is) (elsewhere-without e.1 k es apart)
  gone_by k e es p false apart later is =
      (λ same. apart_found e.1 k es p apart is (sym same), later is)

  -- the place of a row that is taken out is none of those that are left
  pub elsewhere_gone : (k : K) (es : List (K × ℕ)) (p : ℕ) → ArePlacedApart es → find R k es ≡ Some p →
      IsElsewhere p (without R k es)
  elsewhere_gone k [] p apart is = absurd (none-some p is)
  elsewhere_gone k (e ∷ es) p apart is =
      gone_by k e es p (eq_by_cmp R k e.0) apart.0 (elsewhere_gone k es p apart.1) is

  elsewhere_put_by : (q : ℕ) (k : K) (p : ℕ) (e : K × ℕ) (es : List (K × ℕ)) (r : Ordering) → p ≢ q → e.1 ≢ q →
      IsElsewhere q es → IsElsewhere q (put R k p es) →
      IsElsewhere q (by_order r ((k, p) ∷ e ∷ es) ((e.0, p) ∷ es) (e ∷ put R k p es))
  elsewhere_put_by q k p e es Less new here rest later = (new, (here, rest))
  elsewhere_put_by q k p e es Equal new here rest later = (new, rest)
  elsewhere_put_by q k p e es Greater new here rest later = (here, later)

  elsewhere-put : (q : ℕ) (k : K) (p : ℕ) (es : List (K × ℕ)) → p ≢ q → IsElsewhere q es → IsElsewhere q (put R k p es)
  elsewhere-put q k p [] new apart = (new, tt)
  elsewhere-put q k p (e ∷ es) new apart =
      elsewhere_put_by q k p e es (R k e.0) new apart.0 apart.1 (elsewhere-put q k p es new apart.1)

  apart_put_by : (k : K) (p : ℕ) (e : K × ℕ) (es : List (K × ℕ)) (r : Ordering) → e.1 ≢ p → IsElsewhere p es →
      IsElsewhere e.1 es → ArePlacedApart es → ArePlacedApart (put R k p es) →
      ArePlacedApart (by_order r ((k, p) ∷ e ∷ es) ((e.0, p) ∷ es) (e ∷ put R k p es))
  apart_put_by k p e es Less new others here rest later = ((new, others), (here, rest))
  apart_put_by k p e es Equal new others here rest later = (others, rest)
  apart_put_by k p e es Greater new others here rest later =
      (elsewhere-put e.1 k p es (λ same. new (sym same)) here, later)

  -- rows keep places of their own where a new place is put
  pub apart-put : (k : K) (p : ℕ) (es : List (K × ℕ)) → IsElsewhere p es → ArePlacedApart es →
      ArePlacedApart (put R k p es)
  apart-put k p [] new apart = (tt, tt)
  apart-put k p (e ∷ es) new apart =
      apart_put_by k p e es (R k e.0) new.0 new.1 apart.0 apart.1 (apart-put k p es new.1 apart.1)

module _ {K : Type 0} {R : K → K → Ordering} (o : IsTotalOrder R) where
  -- below the first of the rows nothing is found
  find_past : (k q : K) (es : List (K × ℕ)) → R k q ≡ Less → T (below_all R q es) → find R k es ≡ None
  find_past k q [] low below = refl
  find_past k q (e ∷ es) low below =
      let here = o.trans k q e.0 low (less (R q e.0) (first (is_lt (R q e.0)) (below_all R q es) below)) in
      ap (λ r. cond (is_eq r) (Some e.1) (find R k es)) here
      ∙ find_past k q es low (second (is_lt (R q e.0)) (below_all R q es) below)

module _ {K X : Type 0} (R : K → K → Ordering) where
  held_put_by : (m : FinMap nat_cmp X) (k : K) (p : ℕ) (v : X) (e : K × ℕ) (es : List (K × ℕ)) (r : Ordering) →
      get m p ≡ Some v → (x : X) × (get m e.1 ≡ Some x) → AreHeld m es → AreHeld m (put R k p es) →
      AreHeld m (by_order r ((k, p) ∷ e ∷ es) ((e.0, p) ∷ es) (e ∷ put R k p es))
  held_put_by m k p v e es Less new here rest later = ((v, new), (here, rest))
  held_put_by m k p v e es Equal new here rest later = ((v, new), rest)
  held_put_by m k p v e es Greater new here rest later = (here, later)

  -- a row put at a place where something stands
  pub held-put : (m : FinMap nat_cmp X) (k : K) (p : ℕ) (v : X) (es : List (K × ℕ)) → get m p ≡ Some v → AreHeld m es →
      AreHeld m (put R k p es)
  held-put m k p v [] new held = ((v, new), tt)
  held-put m k p v (e ∷ es) new held =
      held_put_by m k p v e es (R k e.0) new held.0 held.1 (held-put m k p v es new held.1)

module _ {K X : Type 0} {R : K → K → Ordering} (o : IsTotalOrder R) (m : FinMap nat_cmp X) where
  added_by : (k : K) (p : ℕ) (v x : X) (e : K × ℕ) (es : List (K × ℕ)) (n : FinMap nat_cmp X) (r : Ordering) →
      get n p ≡ Some v → get n e.1 ≡ Some x → picked n es ≡ picked m es →
      cond (is_eq r) (Some e.1) (find R k es) ≡ None →
      (find R k es ≡ None → put R k v (picked m es) ≡ picked n (put R k p es)) →
      by_order r ((k, v) ∷ (e.0, x) ∷ picked m es) ((e.0, v) ∷ picked m es) ((e.0, x) ∷ put R k v (picked m es))
      ≡ picked n (by_order r ((k, p) ∷ e ∷ es) ((e.0, p) ∷ es) (e ∷ put R k p es))
  added_by k p v x e es n Less new here same none later =
      λ i. row_before k (sym new i) (row_before e.0 (sym here i) (sym same i))
  added_by k p v x e es n Equal new here same none later = absurd (none-some e.1 (sym none))
  added_by k p v x e es n Greater new here same none later =
      λ i. row_before e.0 (sym here i) (later none i)

  -- a value at a new place, under a new key
  pub added : (k : K) (p : ℕ) (v : X) (n : FinMap nat_cmp X) → get n p ≡ Some v → ((q : ℕ) → q ≢ p → get n q ≡ get m q) →
      (es : List (K × ℕ)) → IsElsewhere p es → AreHeld m es → find R k es ≡ None →
      put R k v (picked m es) ≡ picked n (put R k p es)
  added k p v n new beside [] apart held none = λ i. row_before k (sym new i) []
  added k p v n new beside (e ∷ es) apart held none =
      ap (λ o. put R k v (row_before e.0 o (picked m es))) held.0.1
      ∙ added_by k p v held.0.0 e es n (R k e.0) new (beside e.1 apart.0 ∙ held.0.1)
      (picked-beside m n p beside es apart.1) none (added k p v n new beside es apart.1 held.1)

  written_by : (k : K) (p : ℕ) (v x : X) (e : K × ℕ) (es : List (K × ℕ)) (n : FinMap nat_cmp X) (r : Ordering) →
      R k e.0 ≡ r → get n p ≡ Some v → ((q : ℕ) → q ≢ p → get n q ≡ get m q) → get m e.1 ≡ Some x →
      IsElsewhere e.1 es → T (below_all R e.0 es) → cond (is_eq r) (Some e.1) (find R k es) ≡ Some p →
      (find R k es ≡ Some p → put R k v (picked m es) ≡ picked n es) →
      by_order r ((k, v) ∷ (e.0, x) ∷ picked m es) ((e.0, v) ∷ picked m es) ((e.0, x) ∷ put R k v (picked m es))
      ≡ picked n (e ∷ es)
  written_by k p v x e es n Less order new beside here apart below is later =
      absurd (none-some p (sym (find_past o k e.0 es order below) ∙ is))
  written_by k p v x e es n Equal order new beside here apart below is later =
      let at : e.1 ≡ p = same_Some e.1 p is in
      let new_here = ap (get n) at ∙ new in
      let others = picked-beside m n p beside es (subst (λ q. IsElsewhere q es) at apart) in
      λ i. row_before e.0 (sym new_here i) (sym others i)
  written_by k p v x e es n Greater order new beside here apart below is later =
      let still = beside e.1 (λ same. apart_found R e.1 k es p apart is (sym same)) ∙ here in
      λ i. row_before e.0 (sym still i) (later is i)

  -- a value written at the place of its key
  pub written : (k : K) (p : ℕ) (v : X) (n : FinMap nat_cmp X) → get n p ≡ Some v → ((q : ℕ) → q ≢ p → get n q ≡ get m q) →
      (es : List (K × ℕ)) → AreHeld m es → ArePlacedApart es → T (is_sorted R es) → find R k es ≡ Some p →
      put R k v (picked m es) ≡ picked n es
  written k p v n new beside [] held apart sorted is = absurd (none-some p is)
  written k p v n new beside (e ∷ es) held apart sorted is =
      ap (λ o. put R k v (row_before e.0 o (picked m es))) held.0.1
      ∙ written_by k p v held.0.0 e es n (R k e.0) refl new beside held.0.1 apart.0
      (first (below_all R e.0 es) (is_sorted R es) sorted) is
      (written k p v n new beside es held.1 apart.1 (second (below_all R e.0 es) (is_sorted R es) sorted))

  kept_by : (e : K × ℕ) (es : List (K × ℕ)) (x : X) (b : Bool) (rest : List (K × X)) → get m e.1 ≡ Some x →
      rest ≡ picked m es → cond b ((e.0, x) ∷ rest) rest ≡ picked m (cond b (e ∷ es) es)
  kept_by e es x true rest here same = λ i. row_before e.0 (sym here i) (same i)
  kept_by e es x false rest here same = same

  -- the rows without a key are those of the places without it
  pub without-picked : (k : K) (es : List (K × ℕ)) → AreHeld m es →
      without R k (picked m es) ≡ picked m (without R k es)
  without-picked k [] held = refl
  without-picked k (e ∷ es) held =
      ap (λ o. without R k (row_before e.0 o (picked m es))) held.0.1
      ∙ kept_by e (without R k es) held.0.0 (not (eq_by_cmp R k e.0)) (without R k (picked m es)) held.0.1
      (without-picked k es held.1)

  held_kept : (e : K × ℕ) (es : List (K × ℕ)) (b : Bool) → (x : X) × (get m e.1 ≡ Some x) → AreHeld m es →
      AreHeld m (cond b (e ∷ es) es)
  held_kept e es true here rest = (here, rest)
  held_kept e es false here rest = rest

  pub held-without : (k : K) (es : List (K × ℕ)) → AreHeld m es → AreHeld m (without R k es)
  held-without k [] held = tt
  held-without k (e ∷ es) held =
      held_kept e (without R k es) (not (eq_by_cmp R k e.0)) held.0 (held-without k es held.1)
