-- The places of a list of at most four.
use Rattle.std.specs.Prelude.{◌≡◌, List, [], ◌∷◌, Option, None, Some}

-- what stands in a place, as a list
abbrev pub listed : {X : Type 0} → Option X → List X
listed None = []
listed (Some x) = x ∷ []

-- what comes later is there only where what comes before is
abbrev pub IsFilled : {X : Type 0} → Option X → Option X → Option X → Option X → Type 0
IsFilled a b c d = (a ≡ None → b ≡ None) × (b ≡ None → c ≡ None) × (c ≡ None → d ≡ None)
