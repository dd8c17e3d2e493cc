-- Tests that pass, or fail, and what then is there.
use Rattle.std.proofs.Common.{◌≡◌, Bool, true, false, Option, Some, None, refl}
use Rattle.std.specs.Prelude.{◌&&◌, ◌||◌}

-- a test doesn't pass and fail
pub not_both : (b : Bool) → b ≡ true → b ≡ false → ⊥
not_both b t f = cc

-- a test that passes, where the other one fails
pub or_false : (b : Bool) → b || false ≡ true → b ≡ true
or_false true e = refl
or_false false e = e

-- both fail where neither passes
pub neither : (a b : Bool) → a || b ≡ false → (a ≡ false) × (b ≡ false)
neither true b e = absurd (cc)
neither false b e = (refl, e)

-- both pass
pub both : (a b : Bool) → a && b ≡ true → (a ≡ true) × (b ≡ true)
both true b e = (refl, e)
both false b e = absurd (cc)

-- where a test passes that nothing passes, something is there
pub something : {X : Type 0} (t : Option X → Bool) (x : Option X) → t None ≡ false → t x ≡ true
    → (y : X) × (x ≡ Some y)
something t None none e = absurd (not_both (t None) e none)
something t (Some y) none e = (y, refl)
