-- Ranges of addresses: their ends, whether two share an address, and whether one lies inside another.
use Rattle.std.specs.Prelude.{ℕ, ◌+◌, ◌≤◌, ◌<◌, max, min, Bool, ◌&&◌, nat_lt, nat_le}
use Rattle.tss_base.specs.declared.range.Range.{Range}

-- the address after the last
abbrev pub end_of : Range → ℕ
end_of r = r.base + r.len

-- the address lies in the range
abbrev pub Covers : Range → ℕ → Type 0
Covers r a = (r.base ≤ a) × (a < end_of r)

-- an address lies in both
abbrev pub Meets : Range → Range → Type 0
Meets r s = (a : ℕ) × Covers r a × Covers s a

-- the same as a test
abbrev pub meets : Range → Range → Bool
meets r s = nat_lt (max r.base s.base) (min (end_of r) (end_of s))

-- the second lies wholly inside the first, where it is empty too
abbrev pub contains : Range → Range → Bool
contains r s = nat_le r.base s.base && nat_le (end_of s) (end_of r)
