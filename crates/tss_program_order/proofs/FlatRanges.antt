-- Ranges inside one another, and options that a function maps.
use Rattle.std.proofs.Common.{◌≡◌, ◌≤◌, true, Option, Some, None, refl, nat_le}
use Rattle.std.specs.Prelude.{option_map}
use Rattle.std.proofs.lemmas.Bool.{and_parts, and_from, leb-true, le-leb}
use Rattle.std.proofs.lemmas.Option.{none-some, same_Some}
use Rattle.tss_base.specs.declared.range.Range.{Range}
use Rattle.tss_base.specs.Range.{end_of, contains}

-- a range that contains another
pub contains_parts : (r s : Range) → contains r s ≡ true → (r.base ≤ s.base) × (end_of s ≤ end_of r)
contains_parts r s h =
    let p = and_parts (nat_le r.base s.base) (nat_le (end_of s) (end_of r)) h in
    (leb-true r.base s.base p.0, leb-true (end_of s) (end_of r) p.1)

-- and what it takes to contain it
pub contains_from : (r s : Range) → r.base ≤ s.base → end_of s ≤ end_of r → contains r s ≡ true
contains_from r s low high =
    and_from (nat_le r.base s.base) (nat_le (end_of s) (end_of r)) (le-leb r.base s.base low)
    (le-leb (end_of s) (end_of r) high)

-- an option whose image is some
pub some_mapped : {A B : Type 0} (f : A → B) (o : Option A) (y : B) → option_map f o ≡ Some y →
    (x : A) × (o ≡ Some x) × (f x ≡ y)
some_mapped f (Some x) y e = (x, refl, same_Some (f x) y e)
some_mapped f None y e = absurd (none-some y e)
