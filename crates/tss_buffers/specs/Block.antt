-- How the buffers stand in one block of bytes. No public clause speaks of it.
use Rattle.std.specs.Prelude.{◌≡◌, ℕ, suc, ◌*◌, ◌/◌, ◌%◌, ◌≤◌, Bool, true, false, List, [], ◌∷◌, ◌++◌, length, take, drop, Option, Some, None}
use Rattle.std.specs.FinMap.{empty, insert}
use Rattle.tss_base.specs.declared.bounds.TheConstants.{MAX_BANKS, MAX_BUFFERS, MAX_OBJECT_BYTES}
use Rattle.tss_base.specs.declared.operand.OpName.{OpName}
use Rattle.tss_base.specs.Names.{Named}
use Rattle.tss_buffers.specs.Contents.{seat}

-- the place of the buffer with a number among those of all banks
abbrev pub seat_of : ℕ → ℕ → OpName
seat_of each k = seat (k / each) (k % each)

-- what stands in a list, from the number i on, under the places of the numbers
abbrev pub seated : {X : Type 0} → (ℕ → OpName) → ℕ → List (Option X) → Named X
seated f i [] = empty
seated f i (None ∷ xs) = seated f (suc i) xs
seated f i (Some x ∷ xs) = insert (seated f (suc i) xs) (f i) x

-- bytes that are set, or none
abbrev pub where_set : Bool → List ℕ → Option (List ℕ)
where_set true bytes = Some bytes
where_set false bytes = None

-- a block cut in parts of n bytes, each with whether it is set
abbrev pub parts_of : ℕ → List Bool → List ℕ → List (Option (List ℕ))
parts_of n [] bytes = []
parts_of n (b ∷ bs) bytes = where_set b (take n bytes) ∷ parts_of n bs (drop n bytes)

-- bytes with others from a place on, as many as there were
abbrev pub with_part : List ℕ → ℕ → List ℕ → List ℕ
with_part xs at ys = take at xs ++ (ys ++ drop (length ys) (drop at xs))

-- the contents of the buffers
abbrev pub contents_of : ℕ → ℕ → List Bool → List ℕ → Named (List ℕ)
contents_of each n set bytes = seated (seat_of each) 0 (parts_of n set bytes)

-- a mark and a part for each buffer, and not too many
pub record IsBlock (banks each n : ℕ) (set : List Bool) (bytes : List ℕ) : Type 0 where
  pub few : banks ≤ MAX_BANKS
  pub fewer : each ≤ MAX_BUFFERS
  pub short : n ≤ MAX_OBJECT_BYTES
  pub marks : length set ≡ banks * each
  pub parts : length bytes ≡ (banks * each) * n
