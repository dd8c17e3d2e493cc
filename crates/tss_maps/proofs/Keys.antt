-- What a finite map asks of the order of its keys, the orders of this repository, and when keys are equal.
use Rattle.std.proofs.Common.{◌≡◌, ℕ, ◌<◌, ◌≢◌, true, false, refl, sym, ap, ◌∙◌, subst, inl, inr, ◌⊎◌}
use Rattle.std.specs.declared.cmp.Ordering.{Ordering}
use Rattle.std.specs.declared.cmp.Ordering.TheVariants.{Less, Equal, Greater}
use Rattle.std.specs.Ordering.{nat_cmp, eq_by_cmp, is_eq, ordering_reverse}
use Rattle.std.specs.Cmp.{IsTotalOrder, nat_cmp_total, tied_itself, ranked, nat_cmp_is}
use Rattle.std.specs.FinMap.{IsAntisymmetric, nat_cmp-IsAntisymmetric}
use Rattle.tss_base.specs.Names.{name_cmp, name_cmp_total, name_cmp-IsAntisymmetric}

-- a total order in which only equal keys tie
pub record IsKeyOrder {K : Type 0} (R : K → K → Ordering) : Type 0 where
  pub total : IsTotalOrder R
  pub exact : IsAntisymmetric R

-- numbers are such keys
pub nat_order : IsKeyOrder nat_cmp
nat_order = record { total = nat_cmp_total; exact = nat_cmp-IsAntisymmetric }

-- names of operands are such keys
pub name_order : IsKeyOrder name_cmp
name_order = record { total = name_cmp_total; exact = name_cmp-IsAntisymmetric }

-- numbers in order are below one another
pub below_from_less : (i j : ℕ) → nat_cmp i j ≡ Less → i < j
below_from_less i j e = ranked i j Less (sym e)

-- and the other way round
pub less_from_below : (i j : ℕ) → i < j → nat_cmp i j ≡ Less
less_from_below i j h = sym (nat_cmp_is i j Less h)

module _ {K : Type 0} {R : K → K → Ordering} (order : IsKeyOrder R) where
  -- a key ties with itself
  pub same_key : (k : K) → eq_by_cmp R k k ≡ true
  same_key k = ap is_eq (tied_itself order.total k)

  -- a key that is below another isn't that key
  pub apart_below : (q k : K) → R q k ≡ Less → q ≢ k
  apart_below q k below same = not_both _ below (subst (λ x. R q x ≡ Equal) same (tied_itself order.total q))
    where
      not_both : (r : Ordering) → r ≡ Less → r ≡ Equal → ⊥
      not_both r less equal = cc

  -- of two keys that are turned, the order is turned
  pub turned : (q k : K) (r : Ordering) → R q k ≡ r → R k q ≡ ordering_reverse r
  turned q k r e = order.total.antisymm k q ∙ ap ordering_reverse e

  compare_by : (q k : K) (r : Ordering) → R q k ≡ r → (R q k ≡ Less) ⊎ ((q ≡ k) ⊎ (R k q ≡ Less))
  compare_by q k Less e = inl e
  compare_by q k Equal e = inr (inl (order.exact q k e))
  compare_by q k Greater e = inr (inr (turned q k Greater e))

  -- two keys: the first is below, they are equal, or the second is below
  pub compare_keys : (q k : K) → (R q k ≡ Less) ⊎ ((q ≡ k) ⊎ (R k q ≡ Less))
  compare_keys q k = compare_by q k (R q k) refl

  -- two keys are equal, or they aren't
  pub decide_key : (q k : K) → (q ≡ k) ⊎ (q ≢ k)
  decide_key q k = elim (compare_keys q k) [
    | inl below ↦ inr (apart_below q k below)
    | inr (inl same) ↦ inl same
    | inr (inr above) ↦ inr (λ same. apart_below k q above (sym same))
  ]

  other_by : (q k : K) (r : Ordering) → R q k ≡ r → q ≢ k → is_eq r ≡ false
  other_by q k Less e apart = refl
  other_by q k Equal e apart = absurd (apart (order.exact q k e))
  other_by q k Greater e apart = refl

  -- keys that differ don't tie
  pub other_key : (q k : K) → q ≢ k → eq_by_cmp R q k ≡ false
  other_key q k apart = other_by q k (R q k) refl apart
