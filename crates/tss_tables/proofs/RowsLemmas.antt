-- Keys beside values, seen as rows: what a search found, and what an edit at its place leaves.
use Rattle.std.proofs.Common.{◌≡◌, ℕ, zero, suc, ◌+◌, ◌<◌, ◌≤◌, false, cond, List, [], ◌∷◌, length, get_or, set, Option, Some, None, Result, Ok, Err, refl, sym, ap, ◌∙◌, subst, arith, inl, inr, ◌⊎◌}
use Rattle.std.specs.Prelude.{T, IsSome, not, slice_get, map}
use Rattle.std.specs.List.{zip, insert, remove, find as find_if, HoldsAt, IsItemAtMut}
use Rattle.std.specs.List.Sorted.{IsNonDecreasingBy, IsPartitionPoint, IsSearchInRange, IsBinarySearchResult}
use Rattle.std.specs.declared.cmp.Ordering.{Ordering}
use Rattle.std.specs.declared.cmp.Ordering.TheVariants.{Less, Equal, Greater}
use Rattle.std.specs.Ordering.{is_eq, is_lt, ordering_index, ordering_reverse}
use Rattle.std.specs.Cmp.{IsTotalOrder, tied_back, alike_right}
use Rattle.std.specs.FinMap.Entries.{put, find, is_sorted, by_order}
use borrow.Follows.Closed.{read_of}
use Rattle.std.specs.Option.{option_copied, option_copied_mut, ghost_name_of}
use Rattle.std.specs.Slice.{IsItemAt}
use Rattle.std.specs.Borrow.{Bor, MutBor}
use Rattle.std.proofs.lemmas.Option.{slice_get_past, slice_get_read, none-some, same_Some, slice_get_within, slice_get-get_or, get_or_from_slice_get}
use Rattle.std.proofs.lemmas.List.Sorted.{searchable_from_sorted}
use Rattle.tss_maps.proofs.Places.{not_past, find_first, entry_of_key, rising}
use Rattle.tss_tables.specs.Rows.{RowsState, rows_of, without, Rises, IsFound, IsGap, MatchSearch}

-- what `get` shows of a slice
pub copied-get : {A : Type 0} (xs : List A) (i : ℕ) (r : Option (Bor A)) → IsItemAt xs i r →
    option_copied r ≡ slice_get xs i
copied-get xs i None is = sym (slice_get_past xs i is.3)
copied-get xs i (Some x) is = sym (slice_get_read xs (length xs) i x.now refl is.3.0 is.1)

-- and `get_mut`
pub copied_mut-get : {A : Type 0} (xs : List A) (i : ℕ) (r : Option (MutBor A)) → IsItemAtMut xs i r →
    option_copied_mut r ≡ slice_get xs i
copied_mut-get xs i None is = sym (slice_get_past xs i is.3)
copied_mut-get xs i (Some x) is = sym (slice_get_read xs (length xs) i x.now refl is.3.0 is.1)

-- a lender that ends alike where a part was lent, and is alike where none was
pub lends_alike : {D E : Type 0} (r : Option (MutBor E)) (F G : E → D) (u v : D) → (IsSome r → (w : E) → F w ≡ G w) →
    u ≡ v →
    read_of (ghost_name_of r) F u ≡ read_of (ghost_name_of r) G v
lends_alike None F G u v lent e = ap inr e
lends_alike (Some x) F G u v lent e = λ i. inl (x.ghost_name, λ w. lent refl w i)

module _ {A : Type 0} {R : A → A → Ordering} where
  -- what was found in a list was found in an equal one
  pub found_in : {ks js : List A} {k : A} {i : ℕ} → ks ≡ js → IsFound R ks k i → IsFound R js k i
  found_in {k = k} {i = i} same found = subst (λ ks. IsFound R ks k i) same found

  -- and so a gap
  pub gap_in : {ks js : List A} {k : A} {i : ℕ} → ks ≡ js → IsGap R ks k i → IsGap R js k i
  gap_in {k = k} {i = i} same gap = subst (λ ks. IsGap R ks k i) same gap

  -- a place that was found is within the keys
  pub found_within : (ks : List A) (k : A) (i : ℕ) → IsFound R ks k i → i < length ks
  found_within ks k i found = slice_get_within ks i found.there.0 found.there.1

module _ {K X : Type 0} where
  -- each key has its row
  pub length-zip : (ks : List K) (vs : List X) → length ks ≡ length vs → length (zip ks vs) ≡ length ks
  length-zip [] vs e = refl
  length-zip (k ∷ ks) [] e = absurd (omega arith)
  length-zip (k ∷ ks) (v ∷ vs) e = ap suc (length-zip ks vs (omega arith))

  -- the keys of the rows are the keys
  pub keys-zip : (ks : List K) (vs : List X) → length ks ≡ length vs → map (λ e. e.0) (zip ks vs) ≡ ks
  keys-zip [] vs e = refl
  keys-zip (k ∷ ks) [] e = absurd (omega arith)
  keys-zip (k ∷ ks) (v ∷ vs) e = ap (λ js. k ∷ js) (keys-zip ks vs (omega arith))

  -- the keys of rows in order rise
  pub Rises-keys : (R : K → K → Ordering) (es : List (K × X)) → T (is_sorted R es) → Rises R (map (λ e. e.0) es)
  Rises-keys R es sorted i j x y l e g =
      let a = entry_of_key es i x e in let b = entry_of_key es j y g in rising R es i j x y a.0 b.0 sorted l a.1 b.1

module _ {K X : Type 0} (size : ℕ) (ks : List K) (vs : List X) (s : RowsState K X) (is : rows_of size ks vs ≡ s)
    (paired : length ks ≡ length vs) where
  -- as many rows are seen as there are keys
  pub length-seen : length s.entries ≡ length ks
  length-seen = (λ i. length (sym is i).entries) ∙ length-zip ks vs paired

  -- the keys that are seen are the keys
  pub keys-seen : map (λ e. e.0) s.entries ≡ ks
  keys-seen = (λ i. map (λ (e : K × X). e.0) (sym is i).entries) ∙ keys-zip ks vs paired

  -- where the rows that are seen are in order, the keys rise
  pub Rises-seen : (R : K → K → Ordering) → T (is_sorted R s.entries) → Rises R ks
  Rises-seen R sorted = subst (Rises R) keys-seen (Rises-keys R s.entries sorted)

module _ {K : Type 0} {R : K → K → Ordering} (o : IsTotalOrder R) where
  reversed : (x y : K) (r : Ordering) → R x y ≡ r → R y x ≡ ordering_reverse r
  reversed x y r e = o.antisymm y x ∙ ap ordering_reverse e

  -- what `binary_search` asks of keys that rise
  searchable : (ks : List K) (k : K) → Rises R ks → IsNonDecreasingBy (λ y. ordering_index (R y k)) ks
  searchable ks k rises =
      searchable_from_sorted o (λ x. x) ks k (λ i d low high.
      let this = slice_get-get_or ks i d (omega arith) in
      let next = slice_get-get_or ks (i + 1) d (omega arith) in
      let below = rises i (i + 1) (get_or ks i d) (get_or ks (i + 1) d) (omega arith) this next in
      ap is_lt (reversed (get_or ks i d) (get_or ks (i + 1) d) Less below))

  -- a search that missed
  pub gap_from_search : (ks : List K) (k : K) (i : ℕ) → Rises R ks → i ≤ length ks →
      (IsNonDecreasingBy (λ y. ordering_index (R y k)) ks →
      IsPartitionPoint (λ y. R y k ≡ Less) (λ y. R y k ≡ Greater) ks i) →
      IsGap R ks k i
  gap_from_search ks k i rises within splits =
      let point = splits (searchable ks k rises) in
      record {
        within = within;
        before = λ j x l e.
            let below = subst (λ y. R y k ≡ Less) (get_or_from_slice_get ks j x x e) (point.0 j x (omega arith) l) in
            reversed x k Less below;
        after = λ j x l e.
            let within = slice_get_within ks j x e in
            let above = subst (λ y. R y k ≡ Greater) (get_or_from_slice_get ks j x x e) (point.1 j x l within) in
            reversed x k Greater above;
      }

  -- a search that hit
  pub found_from_search : (ks : List K) (k : K) (i : ℕ) → Rises R ks → i < length ks →
      HoldsAt (λ y. R y k ≡ Equal) ks i → IsFound R ks k i
  found_from_search ks k i rises within hit = record {
    there = (x, at, tied_back o x k (hit k));
    before = λ j y l e. reversed y k Less (sym (alike_right o x k y (hit k)) ∙ rises j i y x l e at);
    after = λ j y l e. o.congr k x y (tied_back o x k (hit k)) ∙ rises i j x y l at e;
  }
    where
      x : K
      x = get_or ks i k

      at : slice_get ks i ≡ Some x
      at = slice_get-get_or ks i k within

  -- what a search among keys that rise answers
  pub search_answer : (ks : List K) (k : K) → Rises R ks → (r : Result ℕ ℕ) → IsSearchInRange r (length ks) →
      IsBinarySearchResult (λ y. R y k) ks r → MatchSearch R ks k r
  search_answer ks k rises (Ok i) bound position = found_from_search ks k i rises bound position
  search_answer ks k rises (Err i) bound position = gap_from_search ks k i rises bound position

below_or_at : (i j : ℕ) → j < i + 1 → (j < i) ⊎ (j ≡ i)
below_or_at i j h = grind arith

module _ {K : Type 0} {R : K → K → Ordering} where
  gap_tail : (x : K) (ks : List K) (k : K) (i : ℕ) → IsGap R (x ∷ ks) k (suc i) → IsGap R ks k i
  gap_tail x ks k i gap = record {
    within = let w = gap.within in omega arith;
    before = λ j y l e. gap.before (suc j) y (omega arith) e;
    after = λ j y l e. gap.after (suc j) y (omega arith) e;
  }

  found_tail : (x : K) (ks : List K) (k : K) (i : ℕ) → IsFound R (x ∷ ks) k (suc i) → IsFound R ks k i
  found_tail x ks k i found = record {
    there = found.there;
    before = λ j y l e. found.before (suc j) y (omega arith) e;
    after = λ j y l e. found.after (suc j) y (omega arith) e;
  }

  gap_later : (x : K) (ks : List K) (k : K) → IsGap R (x ∷ ks) k 0 → IsGap R ks k 0
  gap_later x ks k gap = record {
    within = omega arith;
    before = λ j y l e. absurd (omega arith);
    after = λ j y l e. gap.after (suc j) y (omega arith) e;
  }

  found_later : (x : K) (ks : List K) (k : K) → IsFound R (x ∷ ks) k 0 → IsGap R ks k 0
  found_later x ks k found = record {
    within = omega arith;
    before = λ j y l e. absurd (omega arith);
    after = λ j y l e. found.after (suc j) y (omega arith) e;
  }

  -- the key at a place that was found ties
  at_found : (x : K) (ks : List K) (k : K) → IsFound R (x ∷ ks) k 0 → R k x ≡ Equal
  at_found x ks k found = ap (R k) (same_Some x found.there.0 found.there.1) ∙ found.there.2

  not_above : (ks : List K) (k : K) (i : ℕ) → IsFound R ks k i → (j : ℕ) (x : K) → j < i + 1 → slice_get ks j ≡ Some x →
      is_lt (R k x) ≡ false
  not_above ks k i found j x l e = elim (below_or_at i j l) [
    | inl below ↦ ap is_lt (found.before j x below e)
    | inr same ↦
        let here = same_Some x found.there.0 (sym e ∙ ap (slice_get ks) same ∙ found.there.1) in
        ap is_lt (ap (R k) here ∙ found.there.2)
  ]

  -- where the key isn't, the least key above it is at its gap
  pub find_above-gap : (ks : List K) (k : K) (i : ℕ) → IsGap R ks k i → find_if (λ q. is_lt (R k q)) ks ≡ slice_get ks i
  find_above-gap ks k i gap =
      find_first (λ q. is_lt (R k q)) ks i (λ j x l e. ap is_lt (gap.before j x l e))
      (λ x e. ap is_lt (gap.after i x (omega arith) e))

  -- where it is, at the next place
  pub find_above-found : (ks : List K) (k : K) (i : ℕ) → IsFound R ks k i →
      find_if (λ q. is_lt (R k q)) ks ≡ slice_get ks (i + 1)
  find_above-found ks k i found =
      find_first (λ q. is_lt (R k q)) ks (i + 1) (not_above ks k i found)
      (λ x e. ap is_lt (found.after (i + 1) x (omega arith) e))

-- the rows without a key, by how the key stands to the first
abbrev kept_or_not : {K X : Type 0} → (K → K → Ordering) → K × X → List (K × X) → K → Ordering → List (K × X)
kept_or_not R e es k r = cond (not (is_eq r)) (e ∷ without R k es) (without R k es)

module _ {K X : Type 0} {R : K → K → Ordering} where
  -- where the key isn't, nothing is found
  pub find-gap : (ks : List K) (vs : List X) (k : K) (i : ℕ) → IsGap R ks k i → find R k (zip ks vs) ≡ None
  find-gap [] vs k i gap = refl
  find-gap (x ∷ ks) [] k i gap = refl
  find-gap (x ∷ ks) (v ∷ vs) k zero gap =
      ap (λ r. cond (is_eq r) (Some v) (find R k (zip ks vs))) (gap.after 0 x (omega arith) refl)
      ∙ find-gap ks vs k zero (gap_later x ks k gap)
  find-gap (x ∷ ks) (v ∷ vs) k (suc i) gap =
      ap (λ r. cond (is_eq r) (Some v) (find R k (zip ks vs))) (gap.before 0 x (omega arith) refl)
      ∙ find-gap ks vs k i (gap_tail x ks k i gap)

  -- where the key is, its value is found
  pub find-found : (ks : List K) (vs : List X) (k : K) (i : ℕ) → length ks ≡ length vs → IsFound R ks k i →
      find R k (zip ks vs) ≡ slice_get vs i
  find-found [] vs k i e found = absurd (none-some found.there.0 found.there.1)
  find-found (x ∷ ks) [] k i e found = absurd (omega arith)
  find-found (x ∷ ks) (v ∷ vs) k zero e found =
      ap (λ r. cond (is_eq r) (Some v) (find R k (zip ks vs))) (at_found x ks k found)
  find-found (x ∷ ks) (v ∷ vs) k (suc i) e found =
      ap (λ r. cond (is_eq r) (Some v) (find R k (zip ks vs))) (found.before 0 x (omega arith) refl)
      ∙ find-found ks vs k i (omega arith) (found_tail x ks k i found)

  -- a new row at the gap is the row put in its place
  pub put-gap : (ks : List K) (vs : List X) (k : K) (v : X) (i : ℕ) → length ks ≡ length vs → IsGap R ks k i →
      put R k v (zip ks vs) ≡ zip (insert ks i k) (insert vs i v)
  put-gap [] [] k v zero e gap = refl
  put-gap [] [] k v (suc i) e gap = absurd (let w = gap.within in omega arith)
  put-gap [] (w ∷ vs) k v i e gap = absurd (omega arith)
  put-gap (x ∷ ks) [] k v i e gap = absurd (omega arith)
  put-gap (x ∷ ks) (w ∷ vs) k v zero e gap =
      ap (λ r. by_order r ((k, v) ∷ (x, w) ∷ zip ks vs) ((x, v) ∷ zip ks vs) ((x, w) ∷ put R k v (zip ks vs)))
      (gap.after 0 x (omega arith) refl)
  put-gap (x ∷ ks) (w ∷ vs) k v (suc i) e gap =
      ap (λ r. by_order r ((k, v) ∷ (x, w) ∷ zip ks vs) ((x, v) ∷ zip ks vs) ((x, w) ∷ put R k v (zip ks vs)))
      (gap.before 0 x (omega arith) refl)
      ∙ ap (λ es. (x, w) ∷ es) (put-gap ks vs k v i (omega arith) (gap_tail x ks k i gap))

  -- a value written at the key's place is the row put in its place
  pub put-found : (ks : List K) (vs : List X) (k : K) (v : X) (i : ℕ) → length ks ≡ length vs → IsFound R ks k i →
      put R k v (zip ks vs) ≡ zip ks (set vs i v)
  put-found [] vs k v i e found = absurd (none-some found.there.0 found.there.1)
  put-found (x ∷ ks) [] k v i e found = absurd (omega arith)
  put-found (x ∷ ks) (w ∷ vs) k v zero e found =
      ap (λ r. by_order r ((k, v) ∷ (x, w) ∷ zip ks vs) ((x, v) ∷ zip ks vs) ((x, w) ∷ put R k v (zip ks vs)))
      (at_found x ks k found)
  put-found (x ∷ ks) (w ∷ vs) k v (suc i) e found =
      ap (λ r. by_order r ((k, v) ∷ (x, w) ∷ zip ks vs) ((x, v) ∷ zip ks vs) ((x, w) ∷ put R k v (zip ks vs)))
      (found.before 0 x (omega arith) refl)
      ∙ ap (λ es. (x, w) ∷ es) (put-found ks vs k v i (omega arith) (found_tail x ks k i found))

  -- where the key isn't, all rows are without it
  pub without-gap : (ks : List K) (vs : List X) (k : K) (i : ℕ) → IsGap R ks k i → without R k (zip ks vs) ≡ zip ks vs
  without-gap [] vs k i gap = refl
  without-gap (x ∷ ks) [] k i gap = refl
  without-gap (x ∷ ks) (v ∷ vs) k zero gap =
      ap (kept_or_not R (x, v) (zip ks vs) k) (gap.after 0 x (omega arith) refl)
      ∙ ap (λ es. (x, v) ∷ es) (without-gap ks vs k zero (gap_later x ks k gap))
  without-gap (x ∷ ks) (v ∷ vs) k (suc i) gap =
      ap (kept_or_not R (x, v) (zip ks vs) k) (gap.before 0 x (omega arith) refl)
      ∙ ap (λ es. (x, v) ∷ es) (without-gap ks vs k i (gap_tail x ks k i gap))

  -- where it is, the rows without it are those but the one at its place
  pub without-found : (ks : List K) (vs : List X) (k : K) (i : ℕ) → length ks ≡ length vs → IsFound R ks k i →
      without R k (zip ks vs) ≡ zip (remove ks i) (remove vs i)
  without-found [] vs k i e found = absurd (none-some found.there.0 found.there.1)
  without-found (x ∷ ks) [] k i e found = absurd (omega arith)
  without-found (x ∷ ks) (v ∷ vs) k zero e found =
      ap (kept_or_not R (x, v) (zip ks vs) k) (at_found x ks k found)
      ∙ without-gap ks vs k zero (found_later x ks k found)
  without-found (x ∷ ks) (v ∷ vs) k (suc i) e found =
      ap (kept_or_not R (x, v) (zip ks vs) k) (found.before 0 x (omega arith) refl)
      ∙ ap (λ es. (x, v) ∷ es) (without-found ks vs k i (omega arith) (found_tail x ks k i found))

-- the same of the rows that are seen, where s is what is seen of keys beside values
module _ {K X : Type 0} {R : K → K → Ordering} (size : ℕ) (ks : List K) (vs : List X) (s : RowsState K X)
    (is : rows_of size ks vs ≡ s) (paired : length ks ≡ length vs) where
  -- the value at a place that was found
  pub find-seen_found : (k : K) (i : ℕ) (x : X) → IsFound R ks k i → x ≡ get_or vs i x → find R k s.entries ≡ Some x
  find-seen_found k i x found read =
      (λ j. find R k (sym is j).entries) ∙ find-found ks vs k i paired found
      ∙ slice_get_read vs (length ks) i x paired (found_within ks k i found) read

  -- and as a look-up
  pub find-seen_place : (k : K) (i : ℕ) → IsFound R ks k i → find R k s.entries ≡ slice_get vs i
  find-seen_place k i found = (λ j. find R k (sym is j).entries) ∙ find-found ks vs k i paired found

  -- a place that was found has a value
  pub found_there : (k : K) (i : ℕ) → IsFound R ks k i → find R k s.entries ≡ None → ⊥
  found_there k i found none =
      let within = found_within ks k i found in
      not_past vs i (omega (arith, within, paired))
      (sym (find-found ks vs k i paired found) ∙ (λ j. find R k (is j).entries) ∙ none)

  -- where there is a gap nothing is found
  pub find-seen_gap : (k : K) (i : ℕ) → IsGap R ks k i → find R k s.entries ≡ None
  find-seen_gap k i gap = (λ j. find R k (sym is j).entries) ∙ find-gap ks vs k i gap

  -- a row put at its gap
  pub put-seen_gap : (k : K) (v : X) (i : ℕ) → IsGap R ks k i → (js : List K) (ws : List X) → js ≡ insert ks i k →
      ws ≡ insert vs i v → rows_of size js ws ≡ record { size = s.size; entries = put R k v s.entries }
  put-seen_gap k v i gap js ws new_keys new_values =
      let new = (λ j. zip (new_keys j) (new_values j)) ∙ sym (put-gap ks vs k v i paired gap) in
      let entries = new ∙ (λ j. put R k v (is j).entries) in
      λ j. record { size = (is j).size; entries = entries j }

  -- a value written at its key's place
  pub put-seen_found : (k : K) (v w : X) (i : ℕ) → IsFound R ks k i → w ≡ v →
      rows_of size ks (set vs i w) ≡ record { size = s.size; entries = put R k v s.entries }
  put-seen_found k v w i found written =
      let new = ap (λ w. zip ks (set vs i w)) written ∙ sym (put-found ks vs k v i paired found) in
      let entries = new ∙ (λ j. put R k v (is j).entries) in
      λ j. record { size = (is j).size; entries = entries j }

  -- a row taken out
  pub without-seen_found : (k : K) (i : ℕ) → IsFound R ks k i → (js : List K) (ws : List X) → js ≡ remove ks i →
      ws ≡ remove vs i → rows_of size js ws ≡ record { size = s.size; entries = without R k s.entries }
  without-seen_found k i found js ws new_keys new_values =
      let new = (λ j. zip (new_keys j) (new_values j)) ∙ sym (without-found ks vs k i paired found) in
      let entries = new ∙ (λ j. without R k (is j).entries) in
      λ j. record { size = (is j).size; entries = entries j }

  -- no row taken out
  pub without-seen_gap : (k : K) (i : ℕ) → IsGap R ks k i →
      s ≡ record { size = s.size; entries = without R k s.entries }
  without-seen_gap k i gap =
      let entries = (λ j. (sym is j).entries) ∙ sym (without-gap ks vs k i gap) ∙ (λ j. without R k (is j).entries) in
      λ j. record { size = s.size; entries = entries j }
