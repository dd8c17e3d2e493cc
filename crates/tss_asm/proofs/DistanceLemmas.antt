-- Distances between places, and the two parts of an address.
use Rattle.std.proofs.Common.{◌≡◌, ℕ, suc, ◌+◌, ◌-◌, ◌*◌, ◌/◌, ◌%◌, ◌^◌, ◌<◌, ◌≤◌, Bool, true, false, refl, sym, ap, ◌∙◌}
use Rattle.std.proofs.Common.{arith, ◌⊎◌, inl, inr}
use Rattle.std.specs.Prelude.{pos, negsuc, ◌==◌, nat_lt, nat_le, if◌then◌else◌}
use Rattle.std.proofs.lemmas.Bool.Decides.{nat_tests}
use Rattle.std.proofs.lemmas.Int.{ints}
use Rattle.tss_isa.specs.Fields.{signed}
use Rattle.tss_isa.specs.InstrTable.{is_within, is_even, is_upper}
use Rattle.tss_asm.specs.Words.{distance, upper_part, lower_part}

pub forward : (from to d : ℕ) → to ≡ from + d → distance from to ≡ pos (4 * d)
forward from to d e = omega (arith, ints)

pub backward : (from to d : ℕ) → from ≡ to + (d + 1) → distance from to ≡ negsuc (4 * d + 3)
backward from to d e = omega (arith, ints)

four_times : (d n : ℕ) → nat_lt d n ≡ nat_lt (4 * d) (4 * n)
four_times d n = grind (arith, nat_tests)

four_times_less : (d n e : ℕ) → e ≡ d + 1 → nat_le e n ≡ nat_lt (4 * d + 3) (4 * n)
four_times_less d n e is = grind (arith, nat_tests)

-- the tests of whole places
pub reach_forward : (from to reach : ℕ) → from ≤ to → nat_lt (to - from) reach ≡ is_within (4 * reach) (distance from to)
reach_forward from to reach h =
    four_times (to - from) reach ∙ sym (ap (is_within (4 * reach)) (forward from to (to - from) (omega arith)))

pub reach_backward : (from to reach : ℕ) → to < from → nat_le (from - to) reach ≡ is_within (4 * reach) (distance from to)
reach_backward from to reach h =
    let d = from - to - 1 in
    four_times_less d reach (from - to) (omega arith)
    ∙ sym (ap (is_within (4 * reach)) (backward from to d (omega arith)))

-- one of two numbers is at most the other, or above it
pub sides : (m n : ℕ) → (m ≤ n) ⊎ (n < m)
sides m n = grind (arith, nat_tests)

-- a distance is a multiple of 4
even_forward : (d : ℕ) → is_even (pos (4 * d)) ≡ true
even_forward d = let e : (4 * d) % 2 ≡ 0 = omega arith in ap (λ r. r == 0) e

even_backward : (d : ℕ) → is_even (negsuc (4 * d + 3)) ≡ true
even_backward d = let e : (4 * d + 3) % 2 ≡ 1 = omega arith in ap (λ r. r == 1) e

pub is_even-distance : (from to : ℕ) → is_even (distance from to) ≡ true
is_even-distance from to =
    elim (sides from to) [
      | inl h ↦ ap is_even (forward from to (to - from) (omega arith)) ∙ even_forward (to - from)
      | inr h ↦ ap is_even (backward from to (from - to - 1) (omega arith)) ∙ even_backward (from - to - 1)
    ]

-- how far apart two places are that are near
pub near_forward : (from to reach : ℕ) → from ≤ to → is_within (4 * reach) (distance from to) ≡ true → to - from < reach
near_forward from to reach h near =
    let e : nat_lt (to - from) reach ≡ true = reach_forward from to reach h ∙ near in
    grind (arith, nat_tests)

pub near_backward : (from to reach : ℕ) → to < from → is_within (4 * reach) (distance from to) ≡ true → from - to ≤ reach
near_backward from to reach h near =
    let e : nat_le (from - to) reach ≡ true = reach_backward from to reach h ∙ near in
    grind (arith, nat_tests)

-- the upper part is a multiple of 2 ^ 12 of 32 bits
upper_from : (v : ℕ) → v < 2 ^ 20 → is_upper (v * 2 ^ 12) ≡ true
upper_from v small = grind (arith, nat_tests)

pub is_upper-upper_part : (address : ℕ) → is_upper (upper_part address) ≡ true
is_upper-upper_part address = upper_from ((address + 2 ^ 11) / 2 ^ 12 % 2 ^ 20) (omega arith)

-- the lower part has twelve bits with sign
lower_from : (n : ℕ) → n < 2 ^ 12 → is_within (2 ^ 11) (signed 12 n) ≡ true
lower_from n small = by (nat_lt n (2 ^ 11)) refl
  where
    by : (b : Bool) → nat_lt n (2 ^ 11) ≡ b → is_within (2 ^ 11) (if b then pos n else negsuc (2 ^ 12 - suc n)) ≡ true
    by true e = e
    by false e = grind (arith, nat_tests)

pub is_within-lower_part : (address : ℕ) → is_within (2 ^ 11) (lower_part address) ≡ true
is_within-lower_part address = lower_from (address % 2 ^ 12) (omega arith)
