-- Zeros before a place, and zeros from it on.
use Rattle.std.proofs.Common.{◌≡◌, ℕ, zero, suc, ◌+◌, ◌-◌, ◌≤◌, List, [], ◌∷◌, ◌++◌, length, take, drop, replicate, ap, refl, subst, sym, ◌∙◌, arith}
use Rattle.std.proofs.lemmas.List.{append-nil, replicate-append-replicate, length-replicate, get_or-replicate}
use Rattle.tss_model.specs.Memory.{zeros, list_put, scratch_range}
use Rattle.tss_core.proofs.PutLemmas.{list_put-below}
use Rattle.tss_steps.specs.Scratches.{AreZero, IsScratch}

-- the places before one, where zeros stand
take_zero : (bytes : List ℕ) (low : ℕ) → low ≤ length bytes → AreZero bytes low → take low bytes ≡ replicate low 0
take_zero bytes zero within zeros = refl
take_zero [] (suc low) within zeros = absurd (omega arith)
take_zero (b ∷ bytes) (suc low) within zeros =
    let rest = take_zero bytes low (omega arith) (λ k h. zeros (suc k) (omega arith)) in
    let first = zeros 0 (omega arith) in
    λ i. first i ∷ rest i

-- nothing is left after the last
nothing_left : (xs : List ℕ) (low n : ℕ) → low + n ≡ length xs → drop n (drop low xs) ≡ []
nothing_left [] zero zero e = refl
nothing_left [] zero (suc n) e = refl
nothing_left [] (suc low) n e = absurd (omega arith)
nothing_left (x ∷ xs) zero zero e = absurd (omega arith)
nothing_left (x ∷ xs) zero (suc n) e = nothing_left xs zero n (omega arith)
nothing_left (x ∷ xs) (suc low) n e = nothing_left xs low n (omega arith)

-- with zeros from there on all are zeros
pub zeros_from : (bytes ys : List ℕ) (low : ℕ) → low ≤ length bytes → AreZero bytes low
    → ys ≡ zeros (length bytes - low)
    → take low bytes ++ (ys ++ drop (length bytes - low) (drop low bytes)) ≡ zeros (length bytes)
unfolding zeros
zeros_from bytes ys low within blank e =
    let n : ℕ = length bytes - low in
    let whole : low + n ≡ length bytes = omega arith in
    (λ i. take_zero bytes low within blank i ++ (e i ++ nothing_left bytes low n whole i))
    ∙ ap (λ (xs : List ℕ). replicate low 0 ++ xs) (append-nil (replicate n 0))
    ∙ replicate-append-replicate low n 0
    ∙ ap (λ (m : ℕ). replicate m 0) whole

-- zeros alone
pub IsScratch-zeros : IsScratch (zeros scratch_range.len) scratch_range.len
unfolding zeros
IsScratch-zeros =
    let len = length-replicate {A = ℕ} 65536 0 in
    record { len = len; within = omega (arith, len); zero = λ k h. get_or-replicate 65536 k 0 0 h }

-- the first of a list, as many as its first part has
first_part : (n : ℕ) (xs ys : List ℕ) → length xs ≡ n → take n (xs ++ ys) ≡ xs
first_part zero [] ys e = refl
first_part (suc n) [] ys e = absurd (omega arith)
first_part zero (x ∷ xs) ys e = absurd (omega arith)
first_part (suc n) (x ∷ xs) ys e = ap (λ (rest : List ℕ). x ∷ rest) (first_part n xs ys (omega arith))

-- zeros in the place of the first part
pub IsScratch-cleared : (n m : ℕ) (new ys : List ℕ) → new ≡ zeros m → m ≡ scratch_range.len → n ≡ scratch_range.len
    → IsScratch (take n (new ++ ys)) scratch_range.len
unfolding zeros
IsScratch-cleared n m new ys e many all =
    let long : length new ≡ n = ap length e ∙ length-replicate m 0 ∙ many ∙ sym all in
    subst (λ (xs : List ℕ). IsScratch xs scratch_range.len)
    (sym (first_part n new ys long ∙ e ∙ ap zeros many)) IsScratch-zeros

-- bytes that are put at a place or after it leave those before it
pub AreZero-list_put : (bs xs : List ℕ) (low at : ℕ) → AreZero xs low → (new : ℕ) → new ≤ low → new ≤ at
    → AreZero (list_put xs at bs) new
AreZero-list_put bs xs low at zeros new less before k h = list_put-below bs xs at k (omega arith) ∙ zeros k (omega arith)
