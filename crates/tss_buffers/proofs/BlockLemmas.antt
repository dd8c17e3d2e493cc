-- A block cut in parts, under the places of the buffers, and what a write in one part leaves.
use Rattle.std.proofs.Common.{◌≡◌, ℕ, zero, suc, ◌+◌, ◌*◌, ◌/◌, ◌%◌, ◌<◌, ◌≤◌, ◌≢◌, Bool, true, false, List, [], ◌∷◌, ◌++◌, length, take, drop, replicate, get_or, set, Option, Some, None, refl, sym, ap, ◌∙◌, arith, length-append, length-drop}
use Rattle.std.proofs.Math.Nat.{mul-add-div_right, mul-add-mod_self_right, div-eq_of_lt, mod-eq_of_lt}
use Rattle.std.proofs.lemmas.Nat.{div-add-mod', column_fits}
use Rattle.std.proofs.lemmas.List.{length-take-le, length-replicate, length-set, drop-drop}
use Rattle.std.specs.FinMap.{get, insert, remove, empty, get-empty}
use Rattle.tss_base.specs.declared.operand.OpName.{OpName}
use Rattle.tss_maps.proofs.Keys.{name_order}
use Rattle.tss_maps.proofs.Changes.{at_inserted, beside_inserted, insert_again, insert_apart, absent_removed, remove_inserted, remove_apart}
use Rattle.tss_model.specs.Memory.{zeros, list_put}
use Rattle.tss_buffers.specs.Contents.{seat}
use Rattle.tss_buffers.specs.Block.{seat_of, seated, where_set, parts_of, contents_of, with_part, IsBlock}

-- ---- places

-- the number of a place, and its place
pub seat_of-number : (each bank place : ℕ) → place < each → seat_of each (bank * each + place) ≡ seat bank place
seat_of-number each bank place h =
    let some : 0 < each = omega arith in
    let row : (bank * each + place) / each ≡ bank =
    mul-add-div_right some bank place ∙ ap (λ n. bank + n) (div-eq_of_lt h) ∙ omega arith in
    let column : (bank * each + place) % each ≡ place =
    mul-add-mod_self_right bank each place ∙ mod-eq_of_lt h in
    λ i. seat (row i) (column i)

-- counted from the first
seat_of-first : (each bank place : ℕ) → place < each → seat_of each (0 + (bank * each + place)) ≡ seat bank place
seat_of-first each bank place h =
    let same : 0 + (bank * each + place) ≡ bank * each + place = omega arith in
    ap (seat_of each) same ∙ seat_of-number each bank place h

-- numbers of the same place are equal
seat_of-exact : (each i j : ℕ) → seat_of each i ≡ seat_of each j → i ≡ j
seat_of-exact each i j e =
    sym (div-add-mod' i each)
    ∙ (λ t. (e t).task * each + (e t).place)
    ∙ div-add-mod' j each

-- a place is one of all banks'
pub number_within : (banks each bank place : ℕ) → bank < banks → place < each → bank * each + place < banks * each
number_within banks each bank place b p =
    let fits : each * bank + each ≤ each * banks = column_fits each bank each banks b (omega arith) in
    omega (arith, fits, p)

-- and its part lies in the block
pub part_within : (count n k : ℕ) → k < count → k * n + n ≤ count * n
part_within count n k h =
    let fits : n * k + n ≤ n * count = column_fits n k n count h (omega arith) in
    omega (arith, fits)

-- ---- what stands under the places of numbers

module _ (f : ℕ → OpName) (exact : (i j : ℕ) → f i ≡ f j → i ≡ j) where
  apart : (i k : ℕ) → f i ≢ f (i + suc k)
  apart i k e = let same = exact i (i + suc k) e in omega (arith, same)

  later : (i k : ℕ) → f (i + suc k) ≡ f (suc i + k)
  later i k = let e : i + suc k ≡ suc i + k = omega arith in ap f e

  here : (i : ℕ) → f (i + 0) ≡ f i
  here i = let e : i + 0 ≡ i = omega arith in ap f e

module _ {X : Type 0} (f : ℕ → OpName) (exact : (i j : ℕ) → f i ≡ f j → i ≡ j) where
  -- nothing stands below the first
  below : (i : ℕ) (xs : List (Option X)) (q : ℕ) → q < i → get (seated f i xs) (f q) ≡ None
  below i [] q h = get-empty _ (f q)
  below i (None ∷ xs) q h = below (suc i) xs q (omega arith)
  below i (Some x ∷ xs) q h =
      beside_inserted name_order _ (f i) x (f q) (λ e. let same = exact q i e in omega (arith, same, h))
      ∙ below (suc i) xs q (omega arith)

  seated-at : (i : ℕ) (xs : List (Option X)) (k : ℕ) → get (seated f i xs) (f (i + k)) ≡ get_or xs k None
  seated-at i [] k = get-empty _ (f (i + k))
  seated-at i (None ∷ xs) zero = ap (get (seated f (suc i) xs)) (here f exact i) ∙ below (suc i) xs i (omega arith)
  seated-at i (Some x ∷ xs) zero =
      ap (get (insert (seated f (suc i) xs) (f i) x)) (here f exact i) ∙ at_inserted name_order _ (f i) x
  seated-at i (None ∷ xs) (suc k) = ap (get (seated f (suc i) xs)) (later f exact i k) ∙ seated-at (suc i) xs k
  seated-at i (Some x ∷ xs) (suc k) =
      beside_inserted name_order _ (f i) x (f (i + suc k)) (λ e. apart f exact i k (sym e))
      ∙ ap (get (seated f (suc i) xs)) (later f exact i k)
      ∙ seated-at (suc i) xs k

  seated-put : (i : ℕ) (xs : List (Option X)) (k : ℕ) (x : X) → k < length xs
      → seated f i (set xs k (Some x)) ≡ insert (seated f i xs) (f (i + k)) x
  seated-put i [] k x h = absurd (omega arith)
  seated-put i (None ∷ xs) zero x h = ap (λ n. insert (seated f (suc i) xs) n x) (sym (here f exact i))
  seated-put i (Some y ∷ xs) zero x h =
      sym (insert_again name_order _ (f i) y x)
      ∙ ap (λ n. insert (insert (seated f (suc i) xs) (f i) y) n x) (sym (here f exact i))
  seated-put i (None ∷ xs) (suc k) x h =
      seated-put (suc i) xs k x (omega arith) ∙ ap (λ n. insert (seated f (suc i) xs) n x) (sym (later f exact i k))
  seated-put i (Some y ∷ xs) (suc k) x h =
      ap (λ m. insert m (f i) y)
      (seated-put (suc i) xs k x (omega arith) ∙ ap (λ n. insert (seated f (suc i) xs) n x) (sym (later f exact i k)))
      ∙ sym (insert_apart name_order _ (f i) (f (i + suc k)) y x (apart f exact i k))

  seated-cleared : (i : ℕ) (xs : List (Option X)) (k : ℕ) → k < length xs
      → seated f i (set xs k None) ≡ remove (seated f i xs) (f (i + k))
  seated-cleared i [] k h = absurd (omega arith)
  seated-cleared i (None ∷ xs) zero h =
      sym (absent_removed name_order _ (f i) (below (suc i) xs i (omega arith)))
      ∙ ap (remove (seated f (suc i) xs)) (sym (here f exact i))
  seated-cleared i (Some y ∷ xs) zero h =
      sym (remove_inserted name_order _ (f i) y (below (suc i) xs i (omega arith)))
      ∙ ap (remove (insert (seated f (suc i) xs) (f i) y)) (sym (here f exact i))
  seated-cleared i (None ∷ xs) (suc k) h =
      seated-cleared (suc i) xs k (omega arith) ∙ ap (remove (seated f (suc i) xs)) (sym (later f exact i k))
  seated-cleared i (Some y ∷ xs) (suc k) h =
      ap (λ m. insert m (f i) y)
      (seated-cleared (suc i) xs k (omega arith) ∙ ap (remove (seated f (suc i) xs)) (sym (later f exact i k)))
      ∙ sym (remove_apart name_order _ (f i) (f (i + suc k)) y (apart f exact i k))

-- ---- parts of a block

-- a put keeps the length
pub length-list_put : (bs xs : List ℕ) (at : ℕ) → length (list_put xs at bs) ≡ length xs
length-list_put [] xs at = refl
length-list_put (b ∷ bs) xs at = length-set (list_put xs (suc at) bs) at b ∙ length-list_put bs xs (suc at)

-- so many zeros
pub length-zeros : (n : ℕ) → length (zeros n) ≡ n
unfolding zeros
length-zeros n = length-replicate n 0

pub length-parts_of : (n : ℕ) (bs : List Bool) (bytes : List ℕ) → length (parts_of n bs bytes) ≡ length bs
length-parts_of n [] bytes = refl
length-parts_of n (b ∷ bs) bytes = ap suc (length-parts_of n bs (drop n bytes))

-- the part with a number
pub part_at : (n : ℕ) (bs : List Bool) (bytes : List ℕ) (k : ℕ)
    → get_or (parts_of n bs bytes) k None ≡ where_set (get_or bs k false) (take n (drop (k * n) bytes))
part_at n [] bytes k = refl
part_at n (b ∷ bs) bytes zero =
    let none : 0 ≡ 0 * n = omega arith in
    ap (λ m. where_set b (take n (drop m bytes))) none
part_at n (b ∷ bs) bytes (suc k) =
    let next : n + k * n ≡ suc k * n = omega arith in
    part_at n bs (drop n bytes) k
    ∙ ap (λ xs. where_set (get_or bs k false) (take n xs)) (drop-drop (k * n) n bytes)
    ∙ ap (λ m. where_set (get_or bs k false) (take n (drop m bytes))) next

pub take_front : (n : ℕ) (xs ys : List ℕ) → length xs ≡ n → take n (xs ++ ys) ≡ xs
take_front zero [] ys e = refl
take_front (suc n) [] ys e = absurd (omega arith)
take_front zero (x ∷ xs) ys e = absurd (omega arith)
take_front (suc n) (x ∷ xs) ys e = ap (λ (rest : List ℕ). x ∷ rest) (take_front n xs ys (omega arith))

drop_front : (n : ℕ) (xs ys : List ℕ) → length xs ≡ n → drop n (xs ++ ys) ≡ ys
drop_front zero [] ys e = refl
drop_front (suc n) [] ys e = absurd (omega arith)
drop_front zero (x ∷ xs) ys e = absurd (omega arith)
drop_front (suc n) (x ∷ xs) ys e = drop_front n xs ys (omega arith)

-- as many bytes as before
pub length-with_part : (xs : List ℕ) (at : ℕ) (ys : List ℕ) → at + length ys ≤ length xs → length (with_part xs at ys) ≡ length xs
length-with_part xs at ys h =
    let first = length-take-le at xs (omega arith) in
    let outer = length-append (take at xs) (ys ++ drop (length ys) (drop at xs)) in
    let inner = length-append ys (drop (length ys) (drop at xs)) in
    let last = length-drop (length ys) (drop at xs) in
    let behind = length-drop at xs in
    omega arith

-- the first bytes of one with a part further on, and the rest
take_with_part : (n at m : ℕ) (xs ys : List ℕ) → n + at ≡ m → m ≤ length xs → take n (with_part xs m ys) ≡ take n xs
take_with_part zero at m xs ys e h = refl
take_with_part (suc n) at zero xs ys e h = absurd (omega arith)
take_with_part (suc n) at (suc m) [] ys e h = absurd (omega arith)
take_with_part (suc n) at (suc m) (x ∷ xs) ys e h =
    ap (λ (rest : List ℕ). x ∷ rest) (take_with_part n at m xs ys (omega arith) (omega arith))

drop_with_part : (n at m : ℕ) (xs ys : List ℕ) → n + at ≡ m → m ≤ length xs
    → drop n (with_part xs m ys) ≡ with_part (drop n xs) at ys
drop_with_part zero at m xs ys e h = let same : m ≡ at = omega arith in ap (λ k. with_part xs k ys) same
drop_with_part (suc n) at zero xs ys e h = absurd (omega arith)
drop_with_part (suc n) at (suc m) [] ys e h = absurd (omega arith)
drop_with_part (suc n) at (suc m) (x ∷ xs) ys e h = drop_with_part n at m xs ys (omega arith) (omega arith)

-- a part written, with its mark
pub parts_written : (n : ℕ) (bs : List Bool) (bytes : List ℕ) (k : ℕ) (b : Bool) (ys : List ℕ) → k < length bs
    → length bytes ≡ length bs * n → length ys ≡ n
    → parts_of n (set bs k b) (with_part bytes (k * n) ys) ≡ set (parts_of n bs bytes) k (where_set b ys)
parts_written n [] bytes k b ys h long same = absurd (omega arith)
parts_written n (c ∷ bs) bytes zero b ys h long same =
    let none : 0 * n ≡ 0 = omega arith in
    let front = take_front n ys (drop (length ys) bytes) same in
    let rest = drop_front n ys (drop (length ys) bytes) same ∙ ap (λ m. drop m bytes) same in
    ap (λ m. parts_of n (b ∷ bs) (with_part bytes m ys)) none
    ∙ (λ i. where_set b (front i) ∷ parts_of n bs (rest i))
parts_written n (c ∷ bs) bytes (suc k) b ys h long same =
    let inner = part_within (length bs) n k (omega arith) in
    let next : n + k * n ≡ suc k * n = omega arith in
    let within : suc k * n ≤ length bytes = omega (arith, inner, long) in
    let left = length-drop n bytes in
    let front = take_with_part n (k * n) (suc k * n) bytes ys next within in
    let rest =
    ap (parts_of n (set bs k b)) (drop_with_part n (k * n) (suc k * n) bytes ys next within)
    ∙ parts_written n bs (drop n bytes) k b ys (omega arith) (omega (arith, left, long)) same in
    λ i. where_set c (front i) ∷ rest i

-- a mark taken away
pub parts_unset : (n : ℕ) (bs : List Bool) (bytes : List ℕ) (k : ℕ)
    → parts_of n (set bs k false) bytes ≡ set (parts_of n bs bytes) k None
parts_unset n [] bytes k = refl
parts_unset n (b ∷ bs) bytes zero = refl
parts_unset n (b ∷ bs) bytes (suc k) = ap (λ xs. where_set b (take n bytes) ∷ xs) (parts_unset n bs (drop n bytes) k)

-- ---- the contents

module _ (banks each n : ℕ) (bs : List Bool) (bytes : List ℕ) (is : IsBlock banks each n bs bytes) (bank place : ℕ)
    (b : bank < banks) (p : place < each) where
  number : ℕ
  number = bank * each + place

  pub marked : bank * each + place < length bs
  marked = let h = number_within banks each bank place b p in omega (arith, h, is.marks)

  pub fits : (bank * each + place) * n + n ≤ length bytes
  fits =
      let h = part_within (banks * each) n (bank * each + place) (number_within banks each bank place b p) in
      omega (arith, h, is.parts)

  long : length bytes ≡ length bs * n
  long = is.parts ∙ ap (λ m. m * n) (sym is.marks)

  -- what stands under a place
  pub get-contents : get (contents_of each n bs bytes) (seat bank place)
      ≡ where_set (get_or bs (bank * each + place) false) (take n (drop ((bank * each + place) * n) bytes))
  get-contents =
      ap (get (contents_of each n bs bytes)) (sym (seat_of-first each bank place p))
      ∙ seated-at (seat_of each) (seat_of-exact each) 0 (parts_of n bs bytes) (bank * each + place)
      ∙ part_at n bs bytes (bank * each + place)

  -- the contents after a part is written and set
  pub contents-written : (ys : List ℕ) → length ys ≡ n
      → contents_of each n (set bs (bank * each + place) true) (with_part bytes ((bank * each + place) * n) ys)
      ≡ insert (contents_of each n bs bytes) (seat bank place) ys
  contents-written ys same =
      let there = length-parts_of n bs bytes in
      ap (seated (seat_of each) 0) (parts_written n bs bytes (bank * each + place) true ys marked long same)
      ∙ seated-put (seat_of each) (seat_of-exact each) 0 (parts_of n bs bytes) (bank * each + place) ys
      (omega (arith, marked, there))
      ∙ ap (λ k. insert (contents_of each n bs bytes) k ys) (seat_of-first each bank place p)

  -- and after its mark is taken away
  pub contents-unset : contents_of each n (set bs (bank * each + place) false) bytes
      ≡ remove (contents_of each n bs bytes) (seat bank place)
  contents-unset =
      let there = length-parts_of n bs bytes in
      ap (seated (seat_of each) 0) (parts_unset n bs bytes (bank * each + place))
      ∙ seated-cleared (seat_of each) (seat_of-exact each) 0 (parts_of n bs bytes) (bank * each + place)
      (omega (arith, marked, there))
      ∙ ap (remove (contents_of each n bs bytes)) (seat_of-first each bank place p)

-- marks that are all away
pub unset_parts : (n : ℕ) (k : ℕ) (bytes : List ℕ) (f : ℕ → OpName) (i : ℕ) → seated f i (parts_of n (replicate k false) bytes) ≡ empty
unset_parts n zero bytes f i = refl
unset_parts n (suc k) bytes f i = unset_parts n k (drop n bytes) f (suc i)
