-- The versions of all banks, each in the bank of its object, and rows that stay within a bank.
use Rattle.std.specs.Prelude.{◌≡◌, ℕ, List, slice_set, Some}
use Rattle.std.specs.FinMap.{get}
use Rattle.tss_base.specs.declared.range.Range.{Range}
use Rattle.tss_base.specs.declared.operand.OpName.{OpName}
use Rattle.tss_base.specs.declared.marks.Follow.{Follow}
use Rattle.tss_base.specs.declared.machine.Sizes.{Sizes}
use Rattle.tss_base.specs.Names.{Named}
use Rattle.tss_protocol.specs.Names.{bank_of}
use Rattle.tss_protocol.specs.State.{Version}
use Rattle.tss_protocol.specs.Versions.{Versioned}
use Rattle.tss_banks.specs.Joined.{bank, joined, AreApart, IsInNoOther}

-- ---- two maps of versions that are changed alike at some names

-- a version of an object of the kind, with links to the names alone
pub record IsOfKind (P : OpName → Type 0) (A : Range → Type 0) (x : Version) : Type 0 where
  pub object : A x.object
  pub predecessor : (p : OpName) → x.predecessor ≡ Some p → P p
  pub successor : (f : Follow) → x.successor ≡ Some f → P f.version

-- at the names both have the same, of the kind. At no other name has one of the two been changed
pub record AreAlike (P : OpName → Type 0) (A : Range → Type 0) (all own ws vs : Named Version) : Type 0 where
  pub same : (q : OpName) → P q → get ws q ≡ get vs q
  pub beyond_all : (q : OpName) → (P q → ⊥) → get ws q ≡ get all q
  pub beyond_own : (q : OpName) → (P q → ⊥) → get vs q ≡ get own q
  pub of_kind : (q : OpName) (x : Version) → P q → get vs q ≡ Some x → IsOfKind P A x

-- such maps, with the same messages
pub record AreRowsAlike (P : OpName → Type 0) (A : Range → Type 0) (all own : Named Version) (d e : Versioned)
    : Type 0 where
  pub part : AreAlike P A all own d.part e.part
  pub sent : d.sent ≡ e.sent

-- ---- banks

-- each version stands in the bank of its object, and none in two
pub record VersionsInBanks (sizes : Sizes) (ms : List (Named Version)) : Type 0 where
  pub apart : AreApart ms
  pub own : (b : ℕ) (v : OpName) (x : Version) → get (bank ms b) v ≡ Some x → bank_of sizes x.object ≡ b

-- the links of a version stay in a bank: what they name is registered there, or nowhere
pub record IsLinkedIn (ms : List (Named Version)) (b : ℕ) (x : Version) : Type 0 where
  pub predecessor : (p : OpName) → x.predecessor ≡ Some p → IsInNoOther ms b p
  pub successor : (f : Follow) → x.successor ≡ Some f → IsInNoOther ms b f.version

-- those of all of a bank's versions
abbrev pub LinksIn : List (Named Version) → ℕ → Type 0
LinksIn ms b = (v : OpName) (x : Version) → get (bank ms b) v ≡ Some x → IsLinkedIn ms b x

-- the links of the versions stay within their objects
pub record LinksWithinObjects (vs : Named Version) : Type 0 where
  pub predecessor : (v p : OpName) (x y : Version) → get vs v ≡ Some x → x.predecessor ≡ Some p → get vs p ≡ Some y
      → y.object ≡ x.object
  pub successor : (v : OpName) (f : Follow) (x y : Version) → get vs v ≡ Some x → x.successor ≡ Some f
      → get vs f.version ≡ Some y → y.object ≡ x.object

-- what a row leaves of all versions is what it leaves of its bank's, with the same messages
pub record IsRowOf (sizes : Sizes) (ms : List (Named Version)) (b : ℕ) (all own : Versioned) : Type 0 where
  pub part : all.part ≡ joined (slice_set ms b own.part)
  pub sent : all.sent ≡ own.sent
  pub banks : VersionsInBanks sizes (slice_set ms b own.part)
  pub links : LinksIn (slice_set ms b own.part) b
