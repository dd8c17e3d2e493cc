-- What is put after what was there, where it is told, and counts of faults.
use Rattle.std.specs.Prelude.{◌≡◌, ◌≢◌, ◌⊎◌, ℕ, ◌+◌, ◌-◌, ◌^◌, ◌≤◌, min, Bool, true, List, [], ◌++◌, Option, Some, IfSome, unwrap_or, Result, Ok, Err, false}
use Rattle.tss_outside.specs.declared.files.FileFault.{FileFault}
use Rattle.tss_outside.specs.declared.files.FileFault.TheVariants.{Failed, TooLong, NoMemory}

-- what each file holds, by its name: none where there is no such file
abbrev pub Held : Type 0
Held = List ℕ → Option (List ℕ)

-- a count of 64 bits after one more fault: at its end it stands still
abbrev pub risen : ℕ → ℕ
risen n = min (n + 1) (2 ^ 64 - 1)

-- the count rose; at its end it is taken as risen
abbrev pub Rose : ℕ → ℕ → Type 0
Rose before now = risen before ≤ now

-- the first is what the second begins with
abbrev pub IsPrefix : List ℕ → List ℕ → Type 0
IsPrefix p xs = (rest : List ℕ) × (xs ≡ p ++ rest)

-- what is told now is what was told before, with these bytes after it
abbrev pub AppendsWhereTold : Option (List ℕ) → Option (List ℕ) → List ℕ → Type 0
AppendsWhereTold old new bytes = IfSome new (λ b. (a : List ℕ) × (old ≡ Some a) × (b ≡ a ++ bytes))

-- the same with a prefix of the bytes
abbrev pub PutsPrefix : Option (List ℕ) → Option (List ℕ) → List ℕ → Type 0
PutsPrefix old new bytes = (p : List ℕ) × IsPrefix p bytes × AppendsWhereTold old new p

-- no other file has changed
abbrev pub SameOthers : Held → Held → List ℕ → Type 0
SameOthers old new name = (n : List ℕ) → n ≢ name → new n ≡ old n

-- where the files are told now, they were told before, and this one has these bytes after what it held
abbrev pub AppendsTo : Option Held → Option Held → List ℕ → List ℕ → Type 0
AppendsTo old new name bytes =
    IfSome new (λ b. (a : Held) × (old ≡ Some a) × (b name ≡ Some (unwrap_or (a name) [] ++ bytes)) × SameOthers a b name)

-- a file has a prefix of the bytes after what it held, or it is as it was
abbrev pub HoldsPrefix : Option (List ℕ) → Option (List ℕ) → List ℕ → Type 0
HoldsPrefix old new bytes =
    (new ≡ old) ⊎ ((p : List ℕ) × IsPrefix p bytes × (new ≡ Some (unwrap_or old [] ++ p)))

-- the same with a prefix of the bytes. A file of which nothing is known to be put is as it was, or is there with what it
-- held
abbrev pub PutsPrefixTo : Option Held → Option Held → List ℕ → List ℕ → Type 0
PutsPrefixTo old new name bytes =
    IfSome new (λ b. (a : Held) × (old ≡ Some a) × HoldsPrefix (a name) (b name) bytes × SameOthers a b name)

-- counts by name: none has fallen, and that of no known name but this one has changed
pub record RaisesOnly (knows : List ℕ → Bool) (old new : List ℕ → ℕ) (name : List ℕ) : Type 0 where
  pub never_falls : (n : List ℕ) → old n ≤ new n
  pub others : (n : List ℕ) → knows n ≡ true → n ≢ name → new n ≡ old n

-- the answer is that reading failed
abbrev pub is_failed : {T : Type 0} → Result T FileFault → Bool
is_failed (Ok v) = false
is_failed (Err Failed) = true
is_failed (Err (TooLong n)) = false
is_failed (Err NoMemory) = false
