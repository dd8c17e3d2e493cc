-- How many entries a map has at least where it has each key of other maps, and at most where they fall into parts.
use Rattle.std.proofs.Common.{◌≡◌, ◌≢◌, ℕ, zero, suc, ◌+◌, ◌*◌, ◌≤◌, ◌⊎◌, inl, inr, Bool, true, false, Some, None, refl}
use Rattle.std.proofs.Common.{ap, ◌∙◌, arith, suc-mul}
use Rattle.std.specs.Prelude.{◌==◌, nat_lt}
use Rattle.std.specs.declared.cmp.Ordering.{Ordering}
use Rattle.std.specs.FinMap.{FinMap, get, insert, remove, len, len-empty}
use Rattle.std.proofs.lemmas.Bool.Decides.{nat_tests}
use Rattle.tss_base.specs.declared.operand.OpName.{OpName}
use Rattle.tss_base.specs.Names.{name_cmp, Named}
use Rattle.tss_maps.specs.Sums.{count_of, one_if}
use Rattle.tss_maps.proofs.Keys.{IsKeyOrder, name_order}
use Rattle.tss_maps.proofs.Changes.{at_inserted, beside_inserted, apart_absent, beside_removed}
use Rattle.tss_maps.proofs.Entries.{map_induction, len_added, len_removed}
use Rattle.tss_maps.proofs.Sums.{sum_both, sum_same, sum_zeros}

-- something stands there
abbrev pub IsAt : {X : Type 0} → Named X → OpName → Type 0
IsAt {X} m k = (x : X) × (get m k ≡ Some x)

-- where something stands under each of these names, so much stands there at least
abbrev HasRoom : Type 0 → (OpName → Type 0) → ℕ → Type 0
HasRoom Z Q c = (places : Named Z) → ((k : OpName) → Q k → IsAt places k) → c ≤ len places

-- those of another map beside them
module _ {X : Type 0} (Z : Type 0) (Q : OpName → Type 0) (c : ℕ) where
  abbrev Grows : Named X → Type 0
  Grows m = ((k : OpName) → Q k → IsAt m k → ⊥) → HasRoom Z (λ k. Q k ⊎ IsAt m k) (c + len m)

  room_one : (m : Named X) (k : OpName) (v : X) → get m k ≡ None → Grows m → Grows (insert m k v)
  room_one m k v new before beside places has =
      let here = has k (inr (v, at_inserted name_order m k v)) in
      let rest = before
      (λ q a b.
      beside q a (b.0, beside_inserted name_order m k v q (apart_absent m q k b.0 b.1 new) ∙ b.1))
      (remove places k)
      (λ q a. elim a [
        | inl kept ↦
            let there = has q (inl kept) in
            let other : q ≢ k = λ same.
            beside q kept (v, ap (get (insert m k v)) same ∙ at_inserted name_order m k v) in
            (there.0, beside_removed name_order places k q other ∙ there.1)
        | inr old ↦
            let other = apart_absent m q k old.0 old.1 new in
            let there = has q (inr (old.0, beside_inserted name_order m k v q other ∙ old.1)) in
            (there.0, beside_removed name_order places k q other ∙ there.1)
      ]) in
      let more = len_added name_order m k v new in
      let less = len_removed name_order places k here.0 here.1 in
      omega (arith, rest, more, less)

  -- so there is room for both
  pub room_more : (m : Named X) → ((k : OpName) → Q k → IsAt m k → ⊥) → HasRoom Z Q c
      → HasRoom Z (λ k. Q k ⊎ IsAt m k) (c + len m)
  room_more m beside room =
      map_induction name_order Grows
      (λ none places has.
      let z = len-empty name_cmp X in
      let a = room places (λ k q. has k (inl q)) in
      omega (arith, z, a))
      room_one m beside

-- ---- parts

not_below_zero : (b : ℕ) → nat_lt b 0 ≡ false
not_below_zero b = grind (arith, nat_tests)

below_next : (b n : ℕ) → one_if (nat_lt b (suc n)) ≡ one_if (nat_lt b n) + one_if (b == n)
below_next b n = by (nat_lt b n) (b == n) (nat_lt b (suc n)) refl refl refl
  where
    by : (x y z : Bool) → nat_lt b n ≡ x → (b == n) ≡ y → nat_lt b (suc n) ≡ z → one_if z ≡ one_if x + one_if y
    by true true z ex ey ez = absurd (grind (arith, nat_tests))
    by true false true ex ey ez = omega arith
    by true false false ex ey ez = absurd (grind (arith, nat_tests))
    by false true true ex ey ez = omega arith
    by false true false ex ey ez = absurd (grind (arith, nat_tests))
    by false false true ex ey ez = absurd (grind (arith, nat_tests))
    by false false false ex ey ez = omega arith

module _ {K X : Type 0} {R : K → K → Ordering} (order : IsKeyOrder R) (part : K → X → ℕ) (size : ℕ) (m : FinMap R X)
    (each : (b : ℕ) → count_of (λ k x. part k x == b) m ≤ size) where
  -- parts below n, each with at most so many entries
  pub parts_below : (n : ℕ) → count_of (λ k x. nat_lt (part k x) n) m ≤ n * size
  parts_below zero =
      let none = sum_same order (λ k x. one_if (nat_lt (part k x) 0)) (λ k x. 0) m
      (λ k x e. ap one_if (not_below_zero (part k x)))
      ∙ sum_zeros order m in
      omega (arith, none)
  parts_below (suc n) =
      let both =
      sum_same order (λ k x. one_if (nat_lt (part k x) (suc n)))
      (λ k x. one_if (nat_lt (part k x) n) + one_if (part k x == n)) m (λ k x e. below_next (part k x) n)
      ∙ sum_both order (λ k x. one_if (nat_lt (part k x) n)) (λ k x. one_if (part k x == n)) m in
      let rest = parts_below n in
      let one = each n in
      let step = suc-mul n size in
      omega (arith, both, rest, one, step)
