-- The labels of a program: a finite map from the number of each to its place, or to none while it isn't placed.
use Rattle.std.specs.Prelude.{◌≡◌, ℕ, ◌≤◌, Option, None, Some, unwrap_or}
use Rattle.std.specs.FinMap.{from_entries, get, insert}
use Rattle.slab.specs.Slab.{Slab, entries}
use Rattle.tss_base.specs.Names.{Numbered}

-- what a slab of places is
abbrev pub labels_of : Slab (Option ℕ) → Numbered (Option ℕ)
labels_of slab = from_entries (entries slab)

-- a label's place, if it was given and is placed
abbrev pub joined : Option (Option ℕ) → Option ℕ
joined None = None
joined (Some place) = place

abbrev pub place_of : Numbered (Option ℕ) → ℕ → Option ℕ
place_of labels label = joined (get labels label)

-- a label is placed here, if it was given
abbrev pub placed_over : Numbered (Option ℕ) → ℕ → ℕ → Option (Option ℕ) → Numbered (Option ℕ)
placed_over labels label at None = labels
placed_over labels label at (Some before) = insert labels label (Some at)

abbrev pub placed : Numbered (Option ℕ) → ℕ → ℕ → Numbered (Option ℕ)
placed labels label at = placed_over labels label at (get labels label)

-- the place of a label that is placed
abbrev pub label_place : Numbered (Option ℕ) → ℕ → ℕ
label_place labels label = unwrap_or (place_of labels label) 0

-- no label is placed after the end of a text of so many words
abbrev pub AreWithin : Numbered (Option ℕ) → ℕ → Type 0
AreWithin labels len = (label at : ℕ) → get labels label ≡ Some (Some at) → at ≤ len
