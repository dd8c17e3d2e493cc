-- Lists of at most seven operands, filled up.
use Rattle.std.proofs.Common.{◌≡◌, ℕ, zero, suc, ◌+◌, ◌-◌, ◌<◌, ◌≤◌, List, [], ◌∷◌, ◌++◌, length, map, take, drop, refl, sym, ap, ◌∙◌, arith}
use Rattle.std.proofs.Math.ListN.{set, replicate}
use Rattle.std.proofs.lemmas.List.{append_assoc, drop-drop, drop-replicate, drop_at, length-append, length-map, length-replicate, length-take, length_push, map-append, set_split, take_at, take_more_set}
use Rattle.tss_base.specs.declared.operand.Operand.{Operand}
use Rattle.tss_model.specs.Spawn.{no_operand, seven}
use Rattle.tss_operands.specs.Listing.{IsListing}

-- seven of them
pub length-seven : {X : Type 0} (x : X) (xs : List X) → length xs ≤ 7 → length (seven x xs) ≡ 7
length-seven x xs few =
    omega (arith, length-append xs (replicate (7 - length xs) x), length-replicate (7 - length xs) x)

-- the first are those that were filled up
pub take-seven : {X : Type 0} (x : X) (xs : List X) → take (length xs) (seven x xs) ≡ xs
take-seven x xs = take_at xs (replicate (7 - length xs) x) (length xs) refl

-- each of a list of copies changed
map-replicate : {X Y : Type 0} (f : X → Y) (n : ℕ) (x : X) → map f (replicate n x) ≡ replicate n (f x)
map-replicate f zero x = refl
map-replicate f (suc n) x = ap (λ ys. f x ∷ ys) (map-replicate f n x)

-- each of seven changed
pub map-seven : {X Y : Type 0} (f : X → Y) (x : X) (xs : List X) → map f (seven x xs) ≡ seven (f x) (map f xs)
map-seven f x xs =
    map-append f xs (replicate (7 - length xs) x)
    ∙ ap (λ ys. map f xs ++ ys)
    (map-replicate f (7 - length xs) x ∙ ap (λ n. replicate (7 - n) (f x)) (sym (length-map xs f)))

-- one more in the place of the first that is free
seven-push : {X : Type 0} (x y : X) (xs : List X) → length xs < 7 → set (seven x xs) (length xs) y ≡ seven x (xs ++ y ∷ [])
seven-push x y xs room =
    let free = replicate (7 - length xs) x in
    let rest : drop (suc (length xs)) (seven x xs) ≡ replicate (7 - length (xs ++ y ∷ [])) x =
    ap (λ k. drop k (seven x xs)) (let e : suc (length xs) ≡ length xs + 1 = omega arith in e)
    ∙ sym (drop-drop 1 (length xs) (seven x xs))
    ∙ ap (drop 1) (drop_at xs free (length xs) refl)
    ∙ drop-replicate 1 (7 - length xs) x
    ∙ ap (λ k. replicate k x) (let e = length_push xs y in omega arith) in
    set_split (seven x xs) (length xs) y (omega (arith, length-seven x xs))
    ∙ ap (λ ys. ys ++ y ∷ drop (suc (length xs)) (seven x xs)) (take-seven x xs)
    ∙ ap (λ ys. xs ++ y ∷ ys) rest
    ∙ sym (append_assoc xs (y ∷ []) (replicate (7 - length (xs ++ y ∷ [])) x))

module _ (count : ℕ) (items : List Operand) (kept : IsListing count items) where
  -- there are seven places
  pub length-items : length items ≡ 7
  length-items =
      ap length kept.rest
      ∙ length-seven no_operand (take count items) (omega (arith, length-take count items, kept.few))

  -- with one more the places are still filled up
  pub IsListing-push : (o : Operand) → count < 7 → IsListing (count + 1) (set items count o)
  IsListing-push o room = record {
    few = omega arith;
    rest =
        let taken = take count items in
        let many : length taken ≡ count = length-take count items ∙ omega (arith, length-items) in
        ap (λ ys. set ys count o) kept.rest
        ∙ ap (λ k. set (seven no_operand taken) k o) (sym many)
        ∙ seven-push no_operand o taken (omega arith)
        ∙ ap (seven no_operand) (sym (take_more_set items count o (omega (arith, length-items))));
  }
