-- How many readers of a list have released their version.
use Rattle.std.proofs.Common.{◌≡◌, ◌≢◌, ℕ, suc, ◌≤◌, inl, inr, Bool, true, false, cond, List, [], ◌∷◌, length, Some}
use Rattle.std.proofs.Common.{None, refl, sym, ap, ◌∙◌, subst, arith}
use Rattle.tss_base.specs.declared.operand.OpName.{OpName}
use Rattle.tss_protocol.specs.State.{State}
use Rattle.tss_phases.specs.Phase.{phase_of, has_released}
use Rattle.tss_control.specs.Readers.{Has, AreOnce, released_among, tail_of}

-- one more where a test passes
abbrev counted_if : Bool → ℕ → ℕ
counted_if b n = cond {A = ℕ} b (suc n) n

at_most_one : (b : Bool) (n k : ℕ) → n ≤ k → counted_if b n ≤ suc k
at_most_one true n k h = omega (arith, h)
at_most_one false n k h = omega (arith, h)

-- no more have released it than there are
pub few_released : (S : State) (xs : List OpName) → released_among S xs ≤ length xs
few_released S [] = omega arith
few_released S (x ∷ xs) =
    at_most_one (has_released (phase_of S x)) (released_among S xs) (length xs) (few_released S xs)

both_full : (b : Bool) (n k : ℕ) → n ≤ k → suc k ≤ counted_if b n → (b ≡ true) × (k ≤ n)
both_full true n k h full = (refl, omega (arith, full))
both_full false n k h full = absurd (too_few n k h full)
  where
    too_few : (n k : ℕ) → n ≤ k → suc k ≤ n → ⊥
    too_few n k h full = omega (arith, h, full)

-- where as many have, each has
pub all_released : (S : State) (xs : List OpName) → length xs ≤ released_among S xs → (a : OpName) → Has a xs
    → has_released (phase_of S a) ≡ true
all_released S [] full a h = absurd h
all_released S (x ∷ xs) full a (inl e) =
    ap (λ a. has_released (phase_of S a)) (sym e)
    ∙ (both_full (has_released (phase_of S x)) (released_among S xs) (length xs) (few_released S xs) full).0
all_released S (x ∷ xs) full a (inr h) =
    all_released S xs
    (both_full (has_released (phase_of S x)) (released_among S xs) (length xs) (few_released S xs) full).1 a h

-- a state in which the same have released it counts the same
pub same_released : (S T : State) (xs : List OpName)
    → ((a : OpName) → Has a xs → has_released (phase_of T a) ≡ has_released (phase_of S a))
    → released_among T xs ≡ released_among S xs
same_released S T [] same = refl
same_released S T (x ∷ xs) same = λ i.
    cond {A = ℕ} (same x (inl refl) i) (suc (same_released S T xs (λ a h. same a (inr h)) i))
    (same_released S T xs (λ a h. same a (inr h)) i)

-- one more has where one of them has released it now
pub one_more_released : (S T : State) (o : OpName) (xs : List OpName) → AreOnce xs → Has o xs
    → has_released (phase_of S o) ≡ false → has_released (phase_of T o) ≡ true
    → ((a : OpName) → a ≢ o → Has a xs → has_released (phase_of T a) ≡ has_released (phase_of S a))
    → released_among T xs ≡ suc (released_among S xs)
one_more_released S T o [] once h before now same = absurd h
one_more_released S T o (x ∷ xs) once (inl e) before now same =
    let rest = same_released S T xs
    (λ a h. same a (λ is. once.0 (subst (λ z. Has z xs) (is ∙ sym e) h)) (inr h)) in
    ap (λ b. counted_if b (released_among T xs)) (ap (λ a. has_released (phase_of T a)) e ∙ now)
    ∙ ap suc rest
    ∙ ap (λ b. suc (counted_if b (released_among S xs)))
    (sym (ap (λ a. has_released (phase_of S a)) e ∙ before))
one_more_released S T o (x ∷ xs) once (inr h) before now same =
    let apart : x ≢ o = λ is. once.0 (subst (λ z. Has z xs) (sym is) h) in
    ap (λ b. counted_if b (released_among T xs)) (same x apart (inl refl))
    ∙ ap (counted_if (has_released (phase_of S x)))
    (one_more_released S T o xs once.1 h before now (λ a apart k. same a apart (inr k)))
    ∙ later (has_released (phase_of S x)) (released_among S xs)
  where
    later : (b : Bool) (n : ℕ) → counted_if b (suc n) ≡ suc (counted_if b n)
    later true n = refl
    later false n = refl

-- a state in which the newest has released it as before has the same tail
pub same_tail : (S T : State) (xs : List OpName)
    → ((a : OpName) → Has a xs → has_released (phase_of T a) ≡ has_released (phase_of S a))
    → tail_of T xs ≡ tail_of S xs
same_tail S T [] same = refl
same_tail S T (x ∷ xs) same = λ i. cond (same x (inl refl) i) None (Some x)
