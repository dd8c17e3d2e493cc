-- What the order of two numbers of tasks says.
use Rattle.std.proofs.Common.{◌≡◌, ◌≢◌, ℕ, ◌<◌, ◌≤◌, arith}

-- no number is below itself
pub below_self : (n : ℕ) → n < n → ⊥
below_self n h = omega (arith, h)

-- it is at most itself
pub itself : (n : ℕ) → n ≤ n
itself n = omega arith

-- one that is below another isn't above it
pub crossed : (a b : ℕ) → a < b → b ≤ a → ⊥
crossed a b h k = omega (arith, h, k)

-- and isn't it
pub apart_below : (a b : ℕ) → a < b → a ≡ b → ⊥
apart_below a b h e = omega (arith, h, e)

-- two that are at most one another are one
pub meets_at : (a b : ℕ) → a ≤ b → b ≤ a → a ≡ b
meets_at a b h k = omega (arith, h, k)

-- one that is at most another and isn't it is below it
pub below : (a b : ℕ) → a ≤ b → a ≢ b → a < b
below a b h k = omega (arith, h, k)

-- one that is below another is at most it
pub at_most : (a b : ℕ) → a < b → a ≤ b
at_most a b h = omega (arith, h)
