-- Numbers in two's complement: what a shift to the top and back gives.
use Rattle.std.proofs.Common.{◌≡◌, ℕ, suc, ◌+◌, ◌-◌, ◌*◌, ◌/◌, ◌%◌, ◌^◌, ◌<◌, ◌≤◌, ℤ, pos, negsuc, to_z, w32, ap, sym, subst, ◌∙◌, arith, true, inl, inr, ◌⊎◌, mul-le-mul_right}
use Rattle.std.specs.Int.Signed.{shr_z}
use Rattle.std.proofs.lemmas.Nat.{pow-add, shl-shr, shl_whole, shr_high, pow_pos, shl_below}
use Rattle.std.proofs.lemmas.Bool.{cases_lt, lt-ltb, eq-eqb, eqb-true}
use Rattle.std.proofs.Math.Nat.{pow-succ'}
use Rattle.std.proofs.lemmas.Bool.Decides.{nat_tests}
use Rattle.tss_isa.specs.Fields.{field, signed}
use Rattle.tss_isa.specs.InstrTable.{twos, is_within, is_even}

-- a number whose highest bit is clear is itself
pub signed_low : (count n : ℕ) → n < 2 ^ (count - 1) → signed count n ≡ pos n
signed_low count n h = grind (arith, nat_tests)

-- and where it is set, 2 ^ count less
pub signed_high : (count n : ℕ) → 2 ^ (count - 1) ≤ n → signed count n ≡ negsuc (2 ^ count - suc n)
signed_high count n h = grind (arith, nat_tests)

-- the top half of 32 bits begins at 2 ^ 31
to_z_low : (m : ℕ) → m < 2 ^ 31 → to_z w32 m ≡ pos m
to_z_low m h = grind (arith, nat_tests)

to_z_high : (m : ℕ) → 2 ^ 31 ≤ m → to_z w32 m ≡ negsuc (2 ^ 32 - suc m)
to_z_high m h = grind (arith, nat_tests)

-- what is left of the top after a number that was shifted up
above : (n d q : ℕ) → 0 < q → (suc n + d) * q - suc (n * q) ≡ d * q + (q - 1)
above n d q some = omega arith

above_shifted : (c n q : ℕ) → 0 < q → suc n ≤ c → c * q - suc (n * q) ≡ (c - suc n) * q + (q - 1)
above_shifted c n q some h =
    let e : suc n + (c - suc n) ≡ c = omega arith in
    subst (λ (x : ℕ). x * q - suc (n * q) ≡ (c - suc n) * q + (q - 1)) e (above n (c - suc n) q some)

module _ (count n k : ℕ) (some : 0 < count) (word : count + k ≡ 32) (within : n < 2 ^ count) where
  -- the halves of a number's range, shifted up, are those of a word's
  half : 2 ^ (count - 1) * 2 ^ k ≡ 2 ^ 31
  half =
      let e : count - 1 + k ≡ 31 = omega arith in
      sym (pow-add 2 (count - 1) k) ∙ ap (λ (x : ℕ). 2 ^ x) e

  full : 2 ^ count * 2 ^ k ≡ 2 ^ 32
  full = sym (pow-add 2 count k) ∙ ap (λ (x : ℕ). 2 ^ x) word

  shifted_low : n < 2 ^ (count - 1) → shr_z (to_z w32 (n * 2 ^ k)) (2 ^ k) ≡ signed count n
  shifted_low low =
      let e : count - 1 + k ≡ 31 = omega arith in
      let below : n * 2 ^ k < 2 ^ 31 = subst (λ (x : ℕ). n * 2 ^ k < 2 ^ x) e (shl_below n (count - 1) k low) in
      ap (λ (z : ℤ). shr_z z (2 ^ k)) (to_z_low (n * 2 ^ k) below)
      ∙ ap pos (shl-shr n k)
      ∙ sym (signed_low count n low)

  shifted_high : 2 ^ (count - 1) ≤ n → shr_z (to_z w32 (n * 2 ^ k)) (2 ^ k) ≡ signed count n
  shifted_high high =
      let above : 2 ^ 31 ≤ n * 2 ^ k = subst (λ (x : ℕ). x ≤ n * 2 ^ k) half (mul-le-mul_right (2 ^ k) high) in
      let rest = above_shifted (2 ^ count) n (2 ^ k) (pow_pos k) within in
      let top : 2 ^ 32 - suc (n * 2 ^ k) ≡ (2 ^ count - suc n) * 2 ^ k + (2 ^ k - 1) =
      ap (λ (x : ℕ). x - suc (n * 2 ^ k)) (sym full) ∙ rest in
      let last : 2 ^ k - 1 < 2 ^ k = omega (arith, pow_pos k) in
      ap (λ (z : ℤ). shr_z z (2 ^ k)) (to_z_high (n * 2 ^ k) above)
      ∙ ap (λ (x : ℕ). negsuc (x / 2 ^ k)) top
      ∙ ap negsuc (shr_high (2 ^ count - suc n) k (2 ^ k - 1) last)
      ∙ sym (signed_high count n high)

  pub shifted : shr_z (to_z w32 (n * 2 ^ k % 2 ^ 32)) (2 ^ k) ≡ signed count n
  shifted = ap (λ (m : ℕ). shr_z (to_z w32 m) (2 ^ k)) (shl_whole n count k 32 within (omega arith))
      ∙ elim (cases_lt n (2 ^ (count - 1))) [ inl low ↦ shifted_low low | inr high ↦ shifted_high high ]

-- a number that `count` bits reach is that of its low bits, at each size of an immediate
pub signed_12-twos : (z : ℤ) → is_within (2 ^ 11) z ≡ true → signed 12 (field (twos z) 0 12) ≡ z
signed_12-twos (pos n) h = grind (arith, nat_tests)
signed_12-twos (negsuc n) h = grind (arith, nat_tests)

pub signed_13-twos : (z : ℤ) → is_within (2 ^ 12) z ≡ true → signed 13 (field (twos z) 0 13) ≡ z
signed_13-twos (pos n) h = grind (arith, nat_tests)
signed_13-twos (negsuc n) h = grind (arith, nat_tests)

pub signed_21-twos : (z : ℤ) → is_within (2 ^ 20) z ≡ true → signed 21 (field (twos z) 0 21) ≡ z
signed_21-twos (pos n) h = grind (arith, nat_tests)
signed_21-twos (negsuc n) h = grind (arith, nat_tests)

-- the lowest bit of an even number is clear
pub low_bit : (z : ℤ) → is_even z ≡ true → twos z % 2 ≡ 0
low_bit (pos n) h = grind (arith, nat_tests)
low_bit (negsuc n) h = let odd : n % 2 ≡ 1 = eqb-true (n % 2) 1 h in omega arith

-- in 32 bits a number of fewer bits has these, and below its sign only these
pub twos-signed : (count n : ℕ) → 2 ^ count ≤ 2 ^ 32 → n < 2 ^ count
    → (twos (signed count n) ≡ n) ⊎ (twos (signed count n) ≡ n + (2 ^ 32 - 2 ^ count))
twos-signed count n small within =
    elim (cases_lt n (2 ^ (count - 1))) [
      | inl low ↦ inl (ap twos (signed_low count n low))
      | inr high ↦
          let e : 2 ^ 32 - suc (2 ^ count - suc n) ≡ n + (2 ^ 32 - 2 ^ count) = omega arith in
          inr (ap twos (signed_high count n high) ∙ e)
    ]

module _ (count n : ℕ) (some : 0 < count) (within : n < 2 ^ count) where
  double : 2 ^ count ≡ 2 * 2 ^ (count - 1)
  double =
      let e : count ≡ suc (count - 1) = omega arith in
      ap (λ (k : ℕ). 2 ^ k) e ∙ pow-succ' 2 (count - 1)

  -- a number of `count` bits fits its place
  pub is_within-signed : is_within (2 ^ (count - 1)) (signed count n) ≡ true
  is_within-signed =
      elim (cases_lt n (2 ^ (count - 1))) [
        | inl low ↦ ap (is_within (2 ^ (count - 1))) (signed_low count n low) ∙ lt-ltb _ _ low
        | inr high ↦
            let below : 2 ^ count - suc n < 2 ^ (count - 1) = omega (arith, double) in
            ap (is_within (2 ^ (count - 1))) (signed_high count n high) ∙ lt-ltb _ _ below
      ]

  -- and is even where its lowest bit is clear
  pub is_even-signed : n % 2 ≡ 0 → is_even (signed count n) ≡ true
  is_even-signed even =
      elim (cases_lt n (2 ^ (count - 1))) [
        | inl low ↦ ap is_even (signed_low count n low) ∙ eq-eqb _ _ even
        | inr high ↦
            let odd : (2 ^ count - suc n) % 2 ≡ 1 = omega (arith, double) in
            ap is_even (signed_high count n high) ∙ eq-eqb _ _ odd
      ]
