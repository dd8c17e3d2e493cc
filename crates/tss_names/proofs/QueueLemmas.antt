-- Numbers in the ready queue.
use Rattle.std.proofs.Common.{◌≡◌, ◌≢◌, ℕ, ◌⊎◌, inl, inr, Bool, true, false, List, [], ◌∷◌, ◌++◌, refl, sym, ◌∙◌, arith}
use Rattle.std.proofs.Common.{true≢false}
use Rattle.std.specs.Prelude.{◌==◌}
use Rattle.std.specs.List.{list_any}
use Rattle.std.proofs.lemmas.Bool.{or_cases, or_left, or_right}
use Rattle.std.proofs.lemmas.Bool.Decides.{nat_tests}
use Rattle.std.proofs.lemmas.List.Folds.{list_any-append}
use Rattle.tss_protocol.specs.UnitMachine.{queue_with}

-- a number stands in it
abbrev pub in_queue : ℕ → List ℕ → Bool
in_queue n queue = list_any (λ k. k == n) queue

-- with one more, where it is queued
pub still_queued : (queue : List ℕ) (t : ℕ) (c : Bool) (n : ℕ) → in_queue n queue ≡ true
    → in_queue n (queue_with queue t c) ≡ true
still_queued queue t true n e =
    list_any-append (λ k. k == n) queue (t ∷ []) ∙ or_left (in_queue n queue) (in_queue n (t ∷ [])) e
still_queued queue t false n e = e

-- the new number stands in it
pub now_queued : (queue : List ℕ) (t : ℕ) → in_queue t (queue ++ t ∷ []) ≡ true
now_queued queue t =
    let same : (t == t) ≡ true = grind (arith, nat_tests) in
    list_any-append (λ k. k == t) queue (t ∷ [])
    ∙ or_right (in_queue t queue) (in_queue t (t ∷ [])) (or_left (t == t) false same)

-- what stands in it stood there before, or is the new number
pub from_queue : (queue : List ℕ) (t : ℕ) (c : Bool) (n : ℕ) → in_queue n (queue_with queue t c) ≡ true
    → (in_queue n queue ≡ true) ⊎ ((n ≡ t) × (c ≡ true))
from_queue queue t false n e = inl e
from_queue queue t true n e =
    elim (or_cases (in_queue n queue) (in_queue n (t ∷ [])) (sym (list_any-append (λ k. k == n) queue (t ∷ [])) ∙ e)) [
      | inl before ↦ inl before
      | inr last ↦ elim (or_cases (t == n) false last) [
        | inl same ↦ inr (grind (arith, nat_tests), refl)
        | inr none ↦ absurd (true≢false (sym none))
      ]
    ]

-- behind the front
pub from_rest : (t : ℕ) (ts : List ℕ) (n : ℕ) → in_queue n (t ∷ ts) ≡ true → n ≢ t → in_queue n ts ≡ true
from_rest t ts n e other =
    elim (or_cases (t == n) (in_queue n ts) e) [
      | inl same ↦ let is : n ≡ t = grind (arith, nat_tests) in absurd (other is)
      | inr rest ↦ rest
    ]

-- the front does
pub at_front : (t : ℕ) (ts : List ℕ) → in_queue t (t ∷ ts) ≡ true
at_front t ts = let same : (t == t) ≡ true = grind (arith, nat_tests) in or_left (t == t) (in_queue t ts) same
