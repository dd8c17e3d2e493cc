-- How a bank keeps its versions: at places, with the places under the names.
use Rattle.std.specs.Prelude.{◌≡◌, ℕ, ◌<◌, Option, Some, None}
use Rattle.std.specs.Ordering.{nat_cmp}
use Rattle.std.specs.FinMap.{get}
use Rattle.tss_base.specs.declared.operand.OpName.{OpName}
use Rattle.tss_base.specs.Names.{name_cmp, Named, Numbered}
use Rattle.tss_maps.specs.Mapped.{mapped}
use Rattle.tss_tables.specs.Table.{TableState}
use Rattle.tss_versions.specs.declared.kept.Kept.{Kept}
use Rattle.tss_versions.specs.declared.kept.Seat.{Seat}
use Rattle.tss_versions.specs.Known.{behind_status, HaveSites}

-- a version that is never met, for places without one
abbrev pub no_version : Kept
no_version = record {
  status = behind_status (record { base = 0; len = 0 }) None;
  store = None;
  place = record { number = 0; place = 0 };
}

-- the version at a place
abbrev pub kept_in : Option Seat → Kept
kept_in None = no_version
kept_in (Some s) = s.kept

-- the versions under the names
abbrev pub versions_at : Numbered Seat → Named ℕ → Named Kept
versions_at seats index = mapped (λ p. kept_in (get seats p)) index

-- the version of a name stands at a place, which is that of its token
pub record IsSeated (seats : Numbered Seat) (v : OpName) (p : ℕ) : Type 0 where
  pub seat : Seat
  pub there : get seats p ≡ Some seat
  pub name : seat.name ≡ v
  pub place : seat.kept.place.place ≡ p

-- each place under a name has the version of that name, and each version stands under its name
pub record AreVersions (seats : TableState nat_cmp Seat) (index : TableState name_cmp ℕ) : Type 0 where
  pub room : index.size ≡ seats.size
  pub indexed : (v : OpName) (p : ℕ) → get index.entries v ≡ Some p → IsSeated seats.entries v p
  pub seated : (p : ℕ) (s : Seat) → get seats.entries p ≡ Some s → (get index.entries s.name ≡ Some p) × (p < seats.size)
  pub sites : (v : OpName) (x : Kept) → get (versions_at seats.entries index.entries) v ≡ Some x
      → HaveSites (versions_at seats.entries index.entries) x.status
