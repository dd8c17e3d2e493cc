-- Rows in order, seen as a finite map.
use Rattle.std.proofs.Common.{◌≡◌, ℕ, Bool, true, false, cond, Option, Some, None, refl, sym, ap, ◌∙◌}
use Rattle.std.specs.Prelude.{T, is_some, option_map, not, slice_get, map, List, [], length}
use Rattle.std.specs.List.{find as find_if}
use Rattle.std.specs.declared.cmp.Ordering.{Ordering}
use Rattle.std.specs.declared.cmp.Ordering.TheVariants.{Equal}
use Rattle.std.specs.Ordering.{is_lt, eq_by_cmp}
use Rattle.std.specs.Cmp.{eq_by_cmp_equiv}
use Rattle.std.specs.FinMap.{get, insert, remove, len, entries, from_sorted, entries-from_sorted, entries-insert, get-from_sorted, get-remove, len-entries, same_entries_map, empty_of_len, empty}
use Rattle.std.specs.FinMap.Entries.{put, find, is_sorted, is_sorted-put, is_sorted-where_key, find-where_key}
use Rattle.tss_maps.specs.Ordered.{key_at, least_above}
use Rattle.tss_maps.proofs.Keys.{IsKeyOrder}
use Rattle.tss_maps.proofs.Changes.{same_by_get}
use Rattle.tss_tables.specs.Rows.{RowsState, without}
use Rattle.tss_tables.specs.Table.{TableState, table_of}

turned_cond : {A : Type 0} (b : Bool) (x y : A) → cond (not b) x y ≡ cond b y x
turned_cond true x y = refl
turned_cond false x y = refl

-- keys that tie are kept alike
alike : {K : Type 0} {R : K → K → Ordering} (order : IsKeyOrder R) (k q x : K) → R q x ≡ Equal →
    not (eq_by_cmp R k x) ≡ not (eq_by_cmp R k q)
alike {R = R} order k q x tie = ap (λ y. not (eq_by_cmp R k y)) (sym (order.exact q x tie))

module _ {K X : Type 0} {R : K → K → Ordering} (order : IsKeyOrder R) where
  -- a put keeps the order
  pub sorted_put : (k : K) (v : X) (es : List (K × X)) → T (is_sorted R es) → T (is_sorted R (put R k v es))
  sorted_put k v es sorted = is_sorted-put R order.total k v es sorted

  -- the map of a put
  from_sorted-put : (k : K) (v : X) (es : List (K × X)) → T (is_sorted R es) →
      from_sorted (put R k v es) ≡ insert (from_sorted {R = R} es) k v
  from_sorted-put k v es sorted =
      same_entries_map _ _ (entries-from_sorted R (put R k v es) (sorted_put k v es sorted)
      ∙ ap (put R k v) (sym (entries-from_sorted R es sorted)) ∙ sym (entries-insert order.total (from_sorted es) k v))

  -- what is left without a key keeps the order
  pub sorted_without : (k : K) (es : List (K × X)) → T (is_sorted R es) → T (is_sorted R (without R k es))
  sorted_without k es sorted = is_sorted-where_key R (λ x. not (eq_by_cmp R k x)) es sorted

  -- the map of what is left without a key
  from_sorted-without : (k : K) (es : List (K × X)) → T (is_sorted R es) →
      from_sorted (without R k es) ≡ remove (from_sorted {R = R} es) k
  from_sorted-without k es sorted = same_by_get order _ _ (λ q.
      get-from_sorted R (without R k es) q (sorted_without k es sorted)
      ∙ find-where_key R (λ x. not (eq_by_cmp R k x)) q (alike order k q) es
      ∙ turned_cond (eq_by_cmp R k q) (find R q es) None
      ∙ (λ i. cond ((eq_by_cmp_equiv order.total).symm k q i) None (sym (get-from_sorted R es q sorted) i))
      ∙ sym (get-remove order.total (from_sorted es) k q))

module _ {K X : Type 0} {R : K → K → Ordering} (order : IsKeyOrder R) (rows : RowsState K X) (t : TableState R X)
    (is : table_of R rows ≡ t) (sorted : T (is_sorted R rows.entries)) where
  -- the size
  pub size-seen : rows.size ≡ t.size
  size-seen = λ i. (is i).size

  -- the rows are the entries
  pub entries-seen : rows.entries ≡ entries t.entries
  entries-seen = sym (entries-from_sorted R rows.entries sorted) ∙ (λ i. entries (is i).entries)

  -- as many rows as entries
  pub len-seen : length rows.entries ≡ len t.entries
  len-seen = ap length entries-seen ∙ sym (len-entries t.entries)

  -- a row is found under its key
  pub get-seen : (k : K) → find R k rows.entries ≡ get t.entries k
  get-seen k = sym (get-from_sorted R rows.entries k sorted) ∙ (λ i. get (is i).entries k)

  -- a put is an insertion
  pub insert-seen : (k : K) (v : X) →
      table_of R (record { size = rows.size; entries = put R k v rows.entries })
      ≡ record t { entries = insert t.entries k v }
  insert-seen k v =
      let entries = from_sorted-put order k v rows.entries sorted ∙ (λ i. insert (is i).entries k v) in
      λ i. record { size = (is i).size; entries = entries i }

  -- what is left without a key is what a removal leaves
  pub remove-seen : (k : K) →
      table_of R (record { size = rows.size; entries = without R k rows.entries })
      ≡ record t { entries = remove t.entries k }
  remove-seen k =
      let entries = from_sorted-without order k rows.entries sorted ∙ (λ i. remove (is i).entries k) in
      λ i. record { size = (is i).size; entries = entries i }

  -- the keys of the rows are the keys
  pub key_at-seen : (i : ℕ) → slice_get (map (λ e. e.0) rows.entries) i ≡ key_at t.entries i
  unfolding key_at
  key_at-seen i = ap (λ (es : List (K × X)). slice_get (map (λ e. e.0) es) i) entries-seen

  -- and so is the first above another
  pub least_above-seen : (k : K) →
      find_if (λ q. is_lt (R k q)) (map (λ e. e.0) rows.entries) ≡ least_above R t.entries k
  unfolding least_above
  least_above-seen k = ap (λ (es : List (K × X)). find_if (λ q. is_lt (R k q)) (map (λ e. e.0) es)) entries-seen

-- no rows are the empty map
pub from_sorted-none : {K : Type 0} (R : K → K → Ordering) (X : Type 0) → from_sorted {X = X} {R = R} [] ≡ empty
from_sorted-none R X =
    empty_of_len (from_sorted []) (len-entries (from_sorted []) ∙ ap length (entries-from_sorted R [] tt))

-- whether there is something behind a reference
pub is_some-map : {A B : Type 0} (f : A → B) (o : Option A) → is_some o ≡ is_some (option_map f o)
is_some-map f None = refl
is_some-map f (Some x) = refl
