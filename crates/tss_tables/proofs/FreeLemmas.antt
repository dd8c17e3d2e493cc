-- The places that are free.
use Rattle.std.proofs.Common.{◌≡◌, ◌≢◌, ℕ, ◌<◌, ◌≤◌, List, [], ◌∷◌, ◌++◌, Some, None, sym, ap, ◌∙◌, arith}
use Rattle.std.specs.Ordering.{nat_cmp}
use Rattle.std.specs.FinMap.{FinMap, get}
use Rattle.std.proofs.lemmas.Option.{none-some}
use Rattle.tss_tables.specs.Store.{IsNotIn, AreFree}

-- the free places
before_last : (q p : ℕ) (ps : List ℕ) → IsNotIn q (ps ++ p ∷ []) → IsNotIn q ps × (p ≢ q)
before_last q p [] apart = (tt, apart.0)
before_last q p (x ∷ ps) apart = let rest = before_last q p ps apart.1 in ((apart.0, rest.0), rest.1)

after_last : (q p : ℕ) (ps : List ℕ) → IsNotIn q ps → p ≢ q → IsNotIn q (ps ++ p ∷ [])
after_last q p [] apart last = (last, tt)
after_last q p (x ∷ ps) apart last = (apart.0, after_last q p ps apart.1 last)

module _ {X : Type 0} (size : ℕ) where
  -- the last is free, and not among the others
  pub AreFree-pop : (m : FinMap nat_cmp X) (ps : List ℕ) (p : ℕ) → AreFree size m (ps ++ p ∷ []) →
      AreFree size m ps × ((p < size) × ((get m p ≡ None) × IsNotIn p ps))
  AreFree-pop m [] p free = (tt, (free.0, (free.1.0, tt)))
  AreFree-pop m (q ∷ ps) p free =
      let rest = AreFree-pop m ps p free.1.1.1 in
      let apart = before_last q p ps free.1.1.0 in (
        (free.0, (free.1.0, (apart.0, rest.0))),
        (rest.1.0, (rest.1.1.0, (λ same. apart.1 (sym same), rest.1.1.1))),
      )

  -- places other than p stay free where only p changes
  pub AreFree-beside : (m n : FinMap nat_cmp X) (p : ℕ) → ((q : ℕ) → q ≢ p → get n q ≡ get m q) → (ps : List ℕ) →
      IsNotIn p ps → AreFree size m ps → AreFree size n ps
  AreFree-beside m n p beside [] apart free = tt
  AreFree-beside m n p beside (q ∷ ps) apart free = (
    free.0,
    (beside q apart.0 ∙ free.1.0, (free.1.1.0, AreFree-beside m n p beside ps apart.1 free.1.1.1)),
  )

  free_one : (m : FinMap nat_cmp X) (q p : ℕ) (x : X) → get m q ≡ None → get m p ≡ Some x → q ≢ p
  free_one m q p x none there same = none-some x (sym none ∙ ap (get m) same ∙ there)

  -- a place where something stands is not free
  pub not_free : (m : FinMap nat_cmp X) (p : ℕ) (x : X) → get m p ≡ Some x → (ps : List ℕ) → AreFree size m ps →
      IsNotIn p ps
  not_free m p x there [] free = tt
  not_free m p x there (q ∷ ps) free = (free_one m q p x free.1.0 there, not_free m p x there ps free.1.1.1)

  -- a place that is none of them is freed
  pub AreFree-push : (m : FinMap nat_cmp X) (p : ℕ) (ps : List ℕ) → p < size → get m p ≡ None → IsNotIn p ps →
      AreFree size m ps → AreFree size m (ps ++ p ∷ [])
  AreFree-push m p [] within none apart free = (within, (none, (tt, tt)))
  AreFree-push m p (q ∷ ps) within none apart free = (
    free.0,
    (
      free.1.0,
      (
        after_last q p ps free.1.1.0 (λ same. apart.0 (sym same)),
        AreFree-push m p ps within none apart.1 free.1.1.1,
      ),
    ),
  )

-- each place of a list is at or above a number
abbrev pub AreFrom : ℕ → List ℕ → Type 0
AreFrom n [] = Unit {0}
AreFrom n (p ∷ ps) = (n ≤ p) × AreFrom n ps

AreFrom-less : (n m : ℕ) (ps : List ℕ) → m ≤ n → AreFrom n ps → AreFrom m ps
AreFrom-less n m [] below from = tt
AreFrom-less n m (p ∷ ps) below from = (omega (arith, below, from.0), AreFrom-less n m ps below from.1)

-- the next lower place
pub AreFrom-push : (n m : ℕ) (ps : List ℕ) → m ≤ n → AreFrom n ps → AreFrom m (ps ++ m ∷ [])
AreFrom-push n m [] below from = (omega arith, tt)
AreFrom-push n m (p ∷ ps) below from = (omega (arith, below, from.0), AreFrom-push n m ps below from.1)

-- a lower place is none of them
pub below_from : (n p : ℕ) (ps : List ℕ) → p < n → AreFrom n ps → IsNotIn p ps
below_from n p [] below from = tt
below_from n p (q ∷ ps) below from = ((let h = from.0 in λ same. omega (arith, below, h, same)), below_from n p ps below from.1)
