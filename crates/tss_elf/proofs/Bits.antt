-- A number's bits, by the masks that the code tests them with.
use Rattle.std.proofs.Common.{◌≡◌, ℕ, ◌*◌, not, ◌||◌, arith}
use Rattle.std.specs.Prelude.{nat_eq, bit_and}
use Rattle.std.specs.Int.{bit_at}
use Rattle.std.proofs.lemmas.Bool.Decides.{nat_tests}
use Rattle.std.proofs.lemmas.Nat.Bits.{and_pow, and_high, bit_at-lt}

-- the bit of value 2
pub second_bit : (n : ℕ) → not (nat_eq (bit_and n 2) 0) ≡ nat_eq (bit_at n 1) 1
second_bit n =
    let e : bit_and n 2 ≡ bit_at n 1 * 2 = and_pow n 1 in
    let l = bit_at-lt n 1 in
    grind (arith, nat_tests)

-- the bits of value 2 and 4
pub middle_bits : (n : ℕ) → not (nat_eq (bit_and n 6) 0) ≡ (nat_eq (bit_at n 1) 1 || nat_eq (bit_at n 2) 1)
middle_bits n =
    let e = and_high n 2 1 in
    grind (arith, nat_tests)
