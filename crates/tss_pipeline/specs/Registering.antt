-- In which bank a version is registered, and where its value lies.
use Rattle.std.specs.Prelude.{◌≡◌, ℕ, Bool, true, false, List, Option, Some, None, IsSome, slice_get}
use Rattle.std.specs.FinMap.{get}
use Rattle.tss_base.specs.declared.operand.OpName.{OpName}
use Rattle.tss_base.specs.declared.operand.Storage.{Storage}
use Rattle.tss_base.specs.declared.operand.Storage.TheVariants as storage
use Rattle.tss_events.specs.declared.message.Gone.{Gone}
use Rattle.tss_events.specs.declared.message.HeldBuffer.{HeldBuffer}
use Rattle.tss_versions.specs.declared.kept.Kept.{Kept}
use Rattle.tss_versions.specs.Known.{storage_in}
use Rattle.tss_pipeline.specs.declared.bank.Bank.{Bank}

-- a version is registered in this one of the banks
pub record IsIn (bs : List Bank) (v : OpName) (n : ℕ) : Type 0 where
  pub bank : Bank
  pub there : slice_get bs n ≡ Some bank
  pub registered : IsSome (get bank.versions.versions v)

-- the bank with a version, or none
abbrev pub IsBankWith : List Bank → OpName → Option ℕ → Type 0
IsBankWith bs v None = (n : ℕ) (b : Bank) → slice_get bs n ≡ Some b → get b.versions.versions v ≡ None
IsBankWith bs v (Some n) = IsIn bs v n

-- a value lies at home
abbrev pub lies_home : Option Storage → Bool
lies_home None = false
lies_home (Some storage.Home) = true
lies_home (Some (storage.Buffer place name)) = false

-- a version's does
abbrev pub is_home : Option Kept → Bool
is_home None = false
is_home (Some x) = lies_home (storage_in x.store)

-- a version that has retired is gone at once where it lies at home. Else its bank, which copies nothing, begins to copy
-- it home
abbrev pub CanBringHome : Bank → Option HeldBuffer → Type 0
CanBringHome b None = Unit {0}
CanBringHome b (Some h) = (b.engine ≡ None) × (b.job ≡ None)

abbrev pub BringsHome : Bank → Gone → Option HeldBuffer → Option Gone → Bank → Type 0
BringsHome b g None result new = (result ≡ Some g) × (new ≡ b)
BringsHome b g (Some h) result new = (result ≡ None) × (new ≡ record b {
  engine = Some (record { buffer = h.token; object = g.object; moved = 0 });
  job = Some (record { version = g.version; object = g.object; place = g.place; buffer = h.name });
})
