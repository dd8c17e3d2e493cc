-- Seats as a finite map from their numbers, and what a write at one leaves.
use Rattle.std.proofs.Common.{◌≡◌, ℕ, zero, suc, ◌+◌, ◌-◌, ◌<◌, ◌≤◌, List, [], ◌∷◌, length, get_or, set, Option, Some, None, refl, sym, ap, ◌∙◌, arith}
use Rattle.std.specs.Prelude.{IsSome}
use Rattle.std.proofs.lemmas.Bool.{false≢true}
use Rattle.std.specs.Ordering.{nat_cmp}
use Rattle.std.specs.FinMap.{get, insert, remove, empty, len, get-empty, len-empty}
use Rattle.std.proofs.Math.ListN.{replicate}
use Rattle.std.proofs.lemmas.List.{get_or-set_same, get_or-set_other, get_or_default, length-set}
use Rattle.std.proofs.lemmas.Option.{none-some}
use Rattle.tss_maps.proofs.Keys.{nat_order}
use Rattle.tss_maps.proofs.Changes.{at_inserted, beside_inserted, at_removed, beside_removed, same_at_key, absent_removed}
use Rattle.tss_maps.proofs.Entries.{len_added, len_written, len_removed, len_inserted}
use Rattle.tss_tables.specs.Table.{TableState}
use Rattle.tss_tables.specs.Seats.{seats_from, seats_of, AreSeats}

module _ {X : Type 0} where
  below : (i : ℕ) (xs : List (Option X)) (q : ℕ) → q < i → get (seats_from i xs) q ≡ None
  below i [] q h = get-empty nat_cmp q
  below i (None ∷ xs) q h = below (suc i) xs q (omega arith)
  below i (Some x ∷ xs) q h = beside_inserted nat_order _ i x q (omega arith) ∙ below (suc i) xs q (omega arith)

  at : (i : ℕ) (xs : List (Option X)) (k : ℕ) → get (seats_from i xs) (i + k) ≡ get_or xs k None
  at i [] k = get-empty nat_cmp (i + k)
  at i (None ∷ xs) zero = below (suc i) xs (i + 0) (omega arith)
  at i (Some x ∷ xs) zero =
      let e : i + 0 ≡ i = omega arith in ap (get (insert (seats_from (suc i) xs) i x)) e ∙ at_inserted nat_order _ i x
  at i (None ∷ xs) (suc k) =
      let e : i + suc k ≡ suc i + k = omega arith in ap (get (seats_from (suc i) xs)) e ∙ at (suc i) xs k
  at i (Some x ∷ xs) (suc k) =
      let e : i + suc k ≡ suc i + k = omega arith in
      beside_inserted nat_order _ i x (i + suc k) (omega arith) ∙ ap (get (seats_from (suc i) xs)) e ∙ at (suc i) xs k

  -- what stands at a seat stands under its number
  pub get-seats : (xs : List (Option X)) (k : ℕ) → get (seats_from 0 xs) k ≡ get_or xs k None
  get-seats xs k = let e : k ≡ 0 + k = omega arith in ap (get (seats_from 0 xs)) e ∙ at 0 xs k

  -- a value put at a seat
  pub seats-put : (xs : List (Option X)) (i : ℕ) (x : X) → i < length xs →
      seats_from 0 (set xs i (Some x)) ≡ insert (seats_from 0 xs) i x
  seats-put xs i x h = same_at_key nat_order _ _ i
      (get-seats (set xs i (Some x)) i ∙ get_or-set_same xs i (Some x) None h ∙ sym (at_inserted nat_order _ i x))
      (λ q apart. get-seats (set xs i (Some x)) q ∙ get_or-set_other xs i q (Some x) None apart ∙ sym (get-seats xs q)
      ∙ sym (beside_inserted nat_order _ i x q apart))

  -- a seat cleared
  pub seats-cleared : (xs : List (Option X)) (i : ℕ) → i < length xs →
      seats_from 0 (set xs i None) ≡ remove (seats_from 0 xs) i
  seats-cleared xs i h = same_at_key nat_order _ _ i
      (get-seats (set xs i None) i ∙ get_or-set_same xs i None None h ∙ sym (at_removed nat_order _ i))
      (λ q apart. get-seats (set xs i None) q ∙ get_or-set_other xs i q None None apart ∙ sym (get-seats xs q)
      ∙ sym (beside_removed nat_order _ i q apart))

  -- seats that are all free
  pub seats-free : (i n : ℕ) → seats_from {X = X} i (replicate n None) ≡ empty
  seats-free i zero = refl
  seats-free i (suc n) = seats-free (suc i) n

  -- no more stand than there are seats
  pub len-seats : (i : ℕ) (xs : List (Option X)) → len (seats_from i xs) ≤ length xs
  len-seats i [] = let z = len-empty nat_cmp X in omega (arith, z)
  len-seats i (None ∷ xs) = let rest = len-seats (suc i) xs in omega (arith, rest)
  len-seats i (Some x ∷ xs) =
      let rest = len-seats (suc i) xs in
      let one = len_inserted nat_order (seats_from (suc i) xs) i x in omega (arith, rest, one)

  -- where something stands there is a seat
  pub seat_within : (xs : List (Option X)) (i : ℕ) (x : X) → get_or xs i None ≡ Some x → i < length xs
  seat_within [] i x e = absurd (none-some x e)
  seat_within (y ∷ xs) zero x e = omega arith
  seat_within (y ∷ xs) (suc i) x e = let h = seat_within xs i x e in omega (arith, h)

  -- the count after a value is put at a free seat
  pub AreSeats-put : (xs : List (Option X)) (n i : ℕ) (x : X) → AreSeats xs n → i < length xs →
      get_or xs i None ≡ None →
      AreSeats (set xs i (Some x)) (n + 1)
  AreSeats-put xs n i x seats h free = record {
    count =
        let more = len_added nat_order (seats_from 0 xs) i x (get-seats xs i ∙ free) in
        let new = ap len (seats-put xs i x h) in
        omega (arith, more, new, seats.count);
    short = let same = length-set xs i (Some x) in omega (arith, same, seats.short);
  }

  -- after a write at a taken one
  pub AreSeats-written : (xs : List (Option X)) (n i : ℕ) (u x : X) → AreSeats xs n → get_or xs i None ≡ Some u →
      AreSeats (set xs i (Some x)) n
  AreSeats-written xs n i u x seats taken = record {
    count =
        let same = len_written nat_order (seats_from 0 xs) i u x (get-seats xs i ∙ taken) in
        let new = ap len (seats-put xs i x (seat_within xs i u taken)) in
        omega (arith, same, new, seats.count);
    short = let same = length-set xs i (Some x) in omega (arith, same, seats.short);
  }

  -- after a taken one is cleared
  pub AreSeats-cleared : (xs : List (Option X)) (n i : ℕ) (u : X) → AreSeats xs n → get_or xs i None ≡ Some u →
      (1 ≤ n) × AreSeats (set xs i None) (n - 1)
  AreSeats-cleared xs n i u seats taken =
      let less = len_removed nat_order (seats_from 0 xs) i u (get-seats xs i ∙ taken) in
      let new = ap len (seats-cleared xs i (seat_within xs i u taken)) in
      let same = length-set xs i None in (
        omega (arith, less, seats.count),
        record { count = omega (arith, less, new, seats.count); short = omega (arith, same, seats.short) },
      )

  -- a free one cleared
  pub AreSeats-same : (xs : List (Option X)) (n i : ℕ) → AreSeats xs n → i < length xs → get_or xs i None ≡ None →
      AreSeats (set xs i None) n
  AreSeats-same xs n i seats h free = record {
    count =
        let same = ap len (seats-cleared xs i h
        ∙ absent_removed nat_order (seats_from 0 xs) i (get-seats xs i ∙ free)) in
        omega (arith, same, seats.count);
    short = let same = length-set xs i None in omega (arith, same, seats.short);
  }

module _ {X : Type 0} (xs : List (Option X)) (t : TableState nat_cmp X) (is : seats_of xs ≡ t) where
  -- as many seats as the size
  pub size-seen : length xs ≡ t.size
  size-seen = λ i. (is i).size

  -- as many stand as entries
  pub len-seen : len (seats_from 0 xs) ≡ len t.entries
  len-seen = λ i. len (is i).entries

  -- what stands at a place
  pub get-seen : (k : ℕ) → get_or xs k None ≡ get t.entries k
  get-seen k = sym (get-seats xs k) ∙ (λ i. get (is i).entries k)

  -- a value put at a place
  pub put-seen : (i : ℕ) (x : X) → i < length xs →
      seats_of (set xs i (Some x)) ≡ record t { entries = insert t.entries i x }
  put-seen i x h =
      let size = length-set xs i (Some x) ∙ size-seen in
      let entries = seats-put xs i x h ∙ (λ j. insert (is j).entries i x) in
      λ j. record { size = size j; entries = entries j }

  -- a place cleared
  pub cleared-seen : (i : ℕ) → i < length xs → seats_of (set xs i None) ≡ record t { entries = remove t.entries i }
  cleared-seen i h =
      let size = length-set xs i None ∙ size-seen in
      let entries = seats-cleared xs i h ∙ (λ j. remove (is j).entries i) in
      λ j. record { size = size j; entries = entries j }

  -- what an index showed
  pub read-seen : (i : ℕ) (now : Option X) → i < length xs → now ≡ get_or xs i now → get t.entries i ≡ now
  read-seen i now h e = sym (get-seen i) ∙ get_or_default xs i None now h ∙ sym e

  seat_by : (k : ℕ) (o : Option X) → get t.entries k ≡ o → IsSome o →
      (x : X) × (k < length xs) × (get_or xs k None ≡ Some x)
  seat_by k None e there = absurd (false≢true there)
  seat_by k (Some x) e there = let here = get-seen k ∙ e in (x, seat_within xs k x here, here)

  -- the seat at which something stands
  pub seat_of : (k : ℕ) → IsSome (get t.entries k) → (x : X) × (k < length xs) × (get_or xs k None ≡ Some x)
  seat_of k there = seat_by k (get t.entries k) refl there

  -- a place has a seat
  pub seat_at : (k : ℕ) → k < t.size → k < length xs
  seat_at k h = let size = size-seen in omega (arith, size, h)
