-- Who holds the places of versions.
use Rattle.std.specs.Prelude.{◌≡◌, ◌⊎◌, ℕ, List, Some, None}
use Rattle.std.specs.FinMap.{get}
use Rattle.tss_base.specs.declared.operand.OpName.{OpName}
use Rattle.tss_base.specs.declared.operand.Task.{Task}
use Rattle.tss_base.specs.declared.machine.Sizes.{Sizes}
use Rattle.tss_base.specs.declared.machine.Machine.{Machine}
use Rattle.tss_base.specs.Names.{Named, Numbered}
use Rattle.tss_protocol.specs.Names.{bank_of}
use Rattle.tss_protocol.specs.Mail.{OpenContents, GoneContents}
use Rattle.tss_protocol.specs.State.{State, Version, CopyState}
use Rattle.tss_names.specs.Tasks.{OverTasks}

-- a bank copies the version of this name
abbrev pub IsCopied : Numbered CopyState → OpName → Type 0
IsCopied copies v = (bank : ℕ) × (c : CopyState) × (get copies bank ≡ Some c) × (c.version ≡ v)

-- a place is held under the name of an open under way, of a version, of a copy, or of a version that is gone with its
-- message under way, in the bank of its object. Under one name there is one of these at most, and each holds a place
pub record HoldsPlaces (sizes : Sizes) (places : Named ℕ) (copies : Numbered CopyState) (vs : Named Version)
    (os : Named OpenContents) (gs : Named GoneContents) : Type 0 where
  pub held : (v : OpName) (bank : ℕ) → get places v ≡ Some bank
      → ((c : OpenContents) × (get os v ≡ Some c))
      ⊎ (((x : Version) × (get vs v ≡ Some x)) ⊎ (((g : GoneContents) × (get gs v ≡ Some g)) ⊎ IsCopied copies v))
  pub opens : (v : OpName) (c : OpenContents) → get os v ≡ Some c
      → (get places v ≡ Some (bank_of sizes c.operand.object))
      × (get vs v ≡ None)
      × (get gs v ≡ None)
      × (IsCopied copies v → ⊥)
  pub versions : (v : OpName) (x : Version) → get vs v ≡ Some x
      → (get places v ≡ Some (bank_of sizes x.object))
      × (get os v ≡ None)
      × (get gs v ≡ None)
      × (IsCopied copies v → ⊥)
  pub gones : (v : OpName) (g : GoneContents) → get gs v ≡ Some g
      → (get places v ≡ Some (bank_of sizes g.object)) × (IsCopied copies v → ⊥)
  pub copied : (bank : ℕ) (c : CopyState) → get copies bank ≡ Some c
      → (get places c.version ≡ Some bank) × (bank_of sizes c.object ≡ bank)

-- in a state
abbrev pub HasHeldPlaces : Machine → List Task → State → Type 0
HasHeldPlaces m ts S = HoldsPlaces m.sizes S.places S.copies S.versions S.mail.opens S.mail.gones

-- every run leaves such a state
abbrev pub HeldPlacesLaw : Type 0
HeldPlacesLaw = OverTasks HasHeldPlaces
