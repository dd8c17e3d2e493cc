-- A store, seen as its rows: what is found, and what a change leaves.
use Rattle.std.proofs.Common.{◌≡◌, ℕ, ◌+◌, ◌<◌, ◌≤◌, Bool, true, false, cond, List, [], ◌∷◌, ◌++◌, length, Some, None, refl, sym, ap, ◌∙◌, subst, arith, inl, inr}
use Rattle.std.specs.Prelude.{T, not, map, is_some}
use Rattle.std.specs.Global.{Vec}
use Rattle.std.specs.Vec.{vec_capacity, vec_len}
use Rattle.std.specs.declared.cmp.Ordering.{Ordering}
use Rattle.std.specs.Ordering.{nat_cmp, eq_by_cmp}
use Rattle.std.specs.Cmp.{IsTotalOrder}
use Rattle.std.specs.FinMap.{FinMap, get, insert, remove, empty, get-empty, len-empty}
use Rattle.std.specs.FinMap.Entries.{put, find, is_sorted, length-put, length_without}
use Rattle.std.proofs.lemmas.Option.{none-some}
use Rattle.std.proofs.lemmas.List.{length-append}
use Rattle.tss_maps.proofs.Keys.{nat_order}
use Rattle.tss_maps.proofs.Changes.{at_inserted, beside_inserted, beside_removed, at_removed, from_inserted, from_removed}
use Rattle.tss_maps.proofs.Entries.{len_added, len_written, len_removed}
use Rattle.tss_tables.specs.Rows.{RowsState, without}
use Rattle.tss_tables.specs.Table.{TableState}
use Rattle.tss_tables.specs.Store.{picked, stored_of, AreHeld, ArePlacedApart, AreFree, AreStored}
use Rattle.tss_tables.proofs.PickedLemmas.{held-without, at_place, length-picked, keys-picked, sorted-picked, find-picked, not_found, found_there, picked-beside, held-beside, held-written, elsewhere, apart-without, elsewhere_gone, apart-put, held-put, added, written, without-picked}
use Rattle.tss_tables.proofs.FreeLemmas.{AreFree-pop, AreFree-beside, not_free, AreFree-push}

module _ {K X : Type 0} (index : RowsState K ℕ) (seats : TableState nat_cmp X) (s : RowsState K X)
    (is : stored_of index seats ≡ s) (held : AreHeld seats.entries index.entries) where
  -- the size
  pub size-seen : index.size ≡ s.size
  size-seen = λ i. (is i).size

  entries-seen : picked seats.entries index.entries ≡ s.entries
  entries-seen = λ i. (is i).entries

  -- as many rows are seen as there are places
  pub length-seen : length index.entries ≡ length s.entries
  length-seen = sym (length-picked seats.entries index.entries held) ∙ ap length entries-seen

  -- the keys that are seen
  pub keys-seen : map (λ e. e.0) index.entries ≡ map (λ e. e.0) s.entries
  keys-seen =
      sym (keys-picked seats.entries index.entries held) ∙ (λ i. map (λ (e : K × X). e.0) (is i).entries)

  -- where the rows that are seen are in order, the places are
  pub sorted-seen : (R : K → K → Ordering) → T (is_sorted R s.entries) → T (is_sorted R index.entries)
  sorted-seen R sorted =
      subst T (ap (is_sorted R) (sym entries-seen) ∙ sorted-picked seats.entries R index.entries held) sorted

  -- what is found is what stands at the place that is found
  pub find-seen : (R : K → K → Ordering) (k : K) →
      at_place seats.entries (find R k index.entries) ≡ find R k s.entries
  find-seen R k = sym (find-picked seats.entries R k index.entries held) ∙ ap (find R k) entries-seen

  -- where no value is found, no place is
  pub fresh-seen : (R : K → K → Ordering) (k : K) → find R k s.entries ≡ None → find R k index.entries ≡ None
  fresh-seen R k none =
      not_found seats.entries R k index.entries held (ap (find R k) entries-seen ∙ none)

module _ {K X : Type 0} {R : K → K → Ordering} (o : IsTotalOrder R) (index : RowsState K ℕ)
    (seats : TableState nat_cmp X) (s : RowsState K X) (is : stored_of index seats ≡ s)
    (held : AreHeld seats.entries index.entries) where
  -- a value at a free place, under a new key
  pub added-seen : (k : K) (p : ℕ) (v : X) → get seats.entries p ≡ None → find R k index.entries ≡ None →
      stored_of (record { size = index.size; entries = put R k p index.entries })
      (record { size = seats.size; entries = insert seats.entries p v })
      ≡ record { size = s.size; entries = put R k v s.entries }
  added-seen k p v none fresh =
      let new = at_inserted nat_order seats.entries p v in
      let beside = beside_inserted nat_order seats.entries p v in
      let apart = elsewhere seats.entries p index.entries none held in
      let entries = sym (added o seats.entries k p v (insert seats.entries p v) new beside index.entries apart held fresh)
      ∙ (λ i. put R k v (is i).entries) in
      λ i. record { size = (is i).size; entries = entries i }

  -- a value written at the place of its key
  pub written-seen : (k : K) (p : ℕ) (v : X) → ArePlacedApart index.entries → T (is_sorted R index.entries) →
      find R k index.entries ≡ Some p →
      stored_of index (record { size = seats.size; entries = insert seats.entries p v })
      ≡ record { size = s.size; entries = put R k v s.entries }
  written-seen k p v apart sorted found =
      let new = at_inserted nat_order seats.entries p v in
      let beside = beside_inserted nat_order seats.entries p v in
      let entries =
      sym (written o seats.entries k p v (insert seats.entries p v) new beside index.entries held apart sorted found)
      ∙ (λ i. put R k v (is i).entries) in
      λ i. record { size = (is i).size; entries = entries i }

  -- a row taken out with its value
  pub removed-seen : (k : K) (p : ℕ) → ArePlacedApart index.entries → find R k index.entries ≡ Some p →
      stored_of (record { size = index.size; entries = without R k index.entries })
      (record { size = seats.size; entries = remove seats.entries p })
      ≡ record { size = s.size; entries = without R k s.entries }
  removed-seen k p apart found =
      let beside = beside_removed nat_order seats.entries p in
      let gone = elsewhere_gone R k index.entries p apart found in
      let entries = picked-beside seats.entries (remove seats.entries p) p beside (without R k index.entries) gone
      ∙ sym (without-picked o seats.entries k index.entries held) ∙ (λ i. without R k (is i).entries) in
      λ i. record { size = (is i).size; entries = entries i }

  -- the rows without a key beside the same values
  pub gone-seen : (k : K) →
      stored_of (record { size = index.size; entries = without R k index.entries }) seats
      ≡ record { size = s.size; entries = without R k s.entries }
  gone-seen k =
      let entries = sym (without-picked o seats.entries k index.entries held) ∙ (λ i. without R k (is i).entries) in
      λ i. record { size = (is i).size; entries = entries i }

none_by : {K : Type 0} (R : K → K → Ordering) (k : K) (e : K × ℕ) (es : List (K × ℕ)) (b : Bool) →
    (find R k es ≡ None → without R k es ≡ es) → cond b (Some e.1) (find R k es) ≡ None →
    cond (not b) (e ∷ without R k es) (without R k es) ≡ e ∷ es
none_by R k e es true later none = absurd (none-some e.1 (sym none))
none_by R k e es false later none = ap (λ fs. e ∷ fs) (later none)

without_absent : {K : Type 0} (R : K → K → Ordering) (k : K) (es : List (K × ℕ)) → find R k es ≡ None →
    without R k es ≡ es
without_absent R k [] none = refl
without_absent R k (e ∷ es) none = none_by R k e es (eq_by_cmp R k e.0) (without_absent R k es) none

-- where no place is found, no row is taken out
pub without_none : {K : Type 0} (R : K → K → Ordering) (index : RowsState K ℕ) (k : K) → find R k index.entries ≡ None →
    record { size = index.size; entries = without R k index.entries } ≡ index
without_none R index k none =
    λ i. record { size = index.size; entries = without_absent R k index.entries none i }

within_put : {X : Type 0} (m : FinMap nat_cmp X) (n p : ℕ) (v : X) → p < n →
    ((q : ℕ) (x : X) → get m q ≡ Some x → q < n) → (q : ℕ) (x : X) → get (insert m p v) q ≡ Some x → q < n
within_put m n p v below within q x there = elim (from_inserted nat_order m p v q x there) [
  | inl new ↦ let same = new.0 in omega (arith, same, below)
  | inr old ↦ within q x old.1
]

module _ {K X : Type 0} {R : K → K → Ordering} (o : IsTotalOrder R) (index : RowsState K ℕ)
    (seats : TableState nat_cmp X) where
  length-added : (k : K) (p : ℕ) → T (is_sorted R index.entries) → find R k index.entries ≡ None →
      length (put R k p index.entries) ≡ length index.entries + 1
  length-added k p sorted fresh =
      length-put R o k p index.entries sorted
      ∙ ap (λ o. cond (is_some o) (length index.entries) (length index.entries + 1)) fresh

  length-removed : (k : K) (p : ℕ) → T (is_sorted R index.entries) → find R k index.entries ≡ Some p →
      1 + length (without R k index.entries) ≡ length index.entries
  length-removed k p sorted found =
      ap (λ o. cond (is_some o) 1 0 + length (without R k index.entries)) (sym found)
      ∙ length_without R o k index.entries sorted

  -- a free place is taken for a new key
  pub AreStored-added : (free rest : Vec ℕ) → AreStored index seats free → (k : K) (p : ℕ) (v : X) →
      T (is_sorted R index.entries) → find R k index.entries ≡ None → free.items ≡ rest.items ++ p ∷ [] →
      vec_capacity free ≤ vec_capacity rest →
      AreStored (record { size = index.size; entries = put R k p index.entries })
      (record { size = seats.size; entries = insert seats.entries p v }) rest
  AreStored-added free rest ok k p v sorted fresh last room =
      let popped = AreFree-pop index.size seats.entries rest.items p
      (subst (AreFree index.size seats.entries) last ok.free) in
      let more = length-added k p sorted fresh in
      let places = ap length last in
      let one = length-append rest.items (p ∷ []) in
      let longer = len_added nat_order seats.entries p v popped.1.1.0 in
      let beside = beside_inserted nat_order seats.entries p v in
      let apart = elsewhere seats.entries p index.entries popped.1.1.0 ok.held in
      let below : p < seats.size = omega (arith, popped.1.0, ok.size) in
      record {
        size = ok.size;
        count = omega (arith, ok.count, more, places, one);
        taken = omega (arith, ok.taken, more, longer);
        within = within_put seats.entries seats.size p v below ok.within;
        held =
            held-put R (insert seats.entries p v) k p v index.entries (at_inserted nat_order seats.entries p v)
            (held-beside seats.entries (insert seats.entries p v) p beside index.entries apart ok.held);
        apart = apart-put R k p index.entries apart ok.apart;
        free =
            AreFree-beside index.size seats.entries (insert seats.entries p v) p beside rest.items popped.1.1.1 popped.0;
        room = omega (arith, ok.room, room);
      }

  -- a value is written at the place of a key
  pub AreStored-written : (free : Vec ℕ) → AreStored index seats free → (k : K) (p : ℕ) (v : X) →
      find R k index.entries ≡ Some p →
      AreStored index (record { size = seats.size; entries = insert seats.entries p v }) free
  AreStored-written free ok k p v found =
      let there = found_there seats.entries R k index.entries p ok.held found in
      let same = len_written nat_order seats.entries p there.0 v there.1 in
      let beside = beside_inserted nat_order seats.entries p v in
      let apart = not_free index.size seats.entries p there.0 there.1 free.items ok.free in
      record {
        size = ok.size;
        count = ok.count;
        taken = omega (arith, ok.taken, same);
        within =
            within_put seats.entries seats.size p v (ok.within p there.0 there.1) ok.within;
        held = held-written seats.entries p v index.entries ok.held;
        apart = ok.apart;
        free = AreFree-beside index.size seats.entries (insert seats.entries p v) p beside free.items apart ok.free;
        room = ok.room;
      }

  -- a row is taken out, and its place is free
  pub AreStored-removed : (free more : Vec ℕ) → AreStored index seats free → (k : K) (p : ℕ) →
      T (is_sorted R index.entries) → find R k index.entries ≡ Some p → more.items ≡ free.items ++ p ∷ [] →
      vec_capacity free ≤ vec_capacity more →
      AreStored (record { size = index.size; entries = without R k index.entries })
      (record { size = seats.size; entries = remove seats.entries p }) more
  AreStored-removed free more ok k p sorted found last room =
      let there = found_there seats.entries R k index.entries p ok.held found in
      let less = length-removed k p sorted found in
      let places = ap length last in
      let one = length-append free.items (p ∷ []) in
      let shorter = len_removed nat_order seats.entries p there.0 there.1 in
      let beside = beside_removed nat_order seats.entries p in
      let apart = not_free index.size seats.entries p there.0 there.1 free.items ok.free in
      let gone = elsewhere_gone R k index.entries p ok.apart found in
      let within = ok.within p there.0 there.1 in
      let below : p < index.size = omega (arith, within, ok.size) in
      let kept = AreFree-beside index.size seats.entries (remove seats.entries p) p beside free.items apart ok.free in
      let none = at_removed nat_order seats.entries p in
      record {
        size = ok.size;
        count = omega (arith, ok.count, less, places, one);
        taken = omega (arith, ok.taken, less, shorter);
        within = λ q x still. ok.within q x (from_removed nat_order seats.entries p q x still).1;
        held =
            held-beside seats.entries (remove seats.entries p) p beside (without R k index.entries) gone
            (held-without o seats.entries k index.entries ok.held);
        apart = apart-without R k index.entries ok.apart;
        free =
            subst (AreFree index.size (remove seats.entries p)) (sym last)
            (AreFree-push index.size (remove seats.entries p) p free.items below none apart kept);
        room = omega (arith, ok.room, room);
      }

-- no rows, and all places free
pub AreStored-open : {K X : Type 0} (size : ℕ) (places : Vec ℕ) (index : RowsState K ℕ) (seats : TableState nat_cmp X) →
    index ≡ record { size = size; entries = [] } → seats ≡ record { size = size; entries = empty } →
    AreFree {X = X} size empty places.items → vec_len places ≡ size → size ≤ vec_capacity places →
    AreStored index seats places
AreStored-open {K} {X} size places index seats no_rows no_seats free count room =
    subst (λ (t : RowsState K ℕ × TableState nat_cmp X). AreStored t.0 t.1 places)
    (λ i. (sym no_rows i, sym no_seats i))
    (record {
      size = refl;
      count = omega (arith, count);
      taken = len-empty nat_cmp X;
      within = λ p x there. absurd (none-some x (sym (get-empty nat_cmp p) ∙ there));
      held = tt;
      apart = tt;
      free = free;
      room = room;
    })
