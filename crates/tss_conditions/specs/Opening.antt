-- What open and use find in the versioning tables, and how versions stand there.
use Rattle.std.specs.Prelude.{◌≡◌, ℕ, ◌⊎◌, ◌-◌, ◌^◌, ◌<◌, ◌==◌, Option, Some, None}
use Rattle.std.specs.FinMap.{get}
use Rattle.tss_base.specs.declared.range.Range.{Range}
use Rattle.tss_base.specs.declared.operand.OpName.{OpName}
use Rattle.tss_base.specs.declared.operand.Mode.TheVariants.{Output, Inout}
use Rattle.tss_base.specs.declared.machine.Sizes.{Sizes}
use Rattle.tss_base.specs.declared.machine.Machine.{Machine}
use Rattle.tss_base.specs.declared.marks.How.TheVariants.{Beside, Over}
use Rattle.tss_base.specs.declared.marks.Follow.{Follow}
use Rattle.tss_base.specs.Image.{ImageState}
use Rattle.tss_base.specs.Names.{Named}
use Rattle.tss_maps.specs.Sums.{count_of}
use Rattle.tss_protocol.specs.Names.{bank_of}
use Rattle.tss_protocol.specs.Mail.{Home, Buffer, OpenContents}
use Rattle.tss_protocol.specs.State.{State, OperandState, Version}
use Rattle.tss_protocol.specs.Stations.{operand_at}
use Rattle.tss_protocol.specs.Settled.{IsSettled}
use Rattle.tss_conditions.specs.Reached.{Reached}

-- ---- versions

-- a version of an object stands next in its chain: it is registered, younger, and stands behind the one before. Over
-- that one it has no storage yet
pub record IsNextOf (S : State) (whole : Range) (v : OpName) (f : Follow) : Type 0 where
  pub version : Version
  pub there : get S.versions f.version ≡ Some version
  pub object : version.object ≡ whole
  pub younger : v.task < f.version.task
  pub back : version.predecessor ≡ Some v
  pub bare : f.how ≡ Over → version.storage ≡ None

-- one stands before another: it is registered, older, and followed by that one
pub record IsBeforeOf (S : State) (whole : Range) (v q : OpName) : Type 0 where
  pub version : Version
  pub there : get S.versions q ≡ Some version
  pub object : version.object ≡ whole
  pub older : q.task < v.task
  pub follow : Follow
  pub link : version.successor ≡ Some follow
  pub back : follow.version ≡ v

-- a registered version: it is settled, its neighbours are registered, it has room for one more reader, and its place
-- and its buffer are held in the bank of its object
pub record IsRegistered (m : Machine) (S : State) (v : OpName) (x : Version) : Type 0 where
  pub settled : IsSettled x
  pub after : (f : Follow) → x.successor ≡ Some f → IsNextOf S x.object v f
  pub before : (q : OpName) → x.predecessor ≡ Some q → IsBeforeOf S x.object v q
  pub readers : x.registered < 2 ^ 32 - 1
  pub place : get S.places v ≡ Some (bank_of m.sizes x.object)
  pub buffer : (b : OpName) → x.storage ≡ Some (Buffer b) → get S.buffers b ≡ Some (bank_of m.sizes x.object)

-- in every reached state
abbrev pub RegisteredLaw : Type 0
RegisteredLaw =
    (m : Machine) (i : ImageState) (S : State) (v : OpName) (x : Version)
    → Reached m i S
    → get S.versions v ≡ Some x
    → IsRegistered m S v x

-- the links of versions stay within their objects
pub record LinkWithinObjects (vs : Named Version) : Type 0 where
  pub predecessor : (v q : OpName) (x y : Version) → get vs v ≡ Some x → x.predecessor ≡ Some q → get vs q ≡ Some y
      → y.object ≡ x.object
  pub successor : (v : OpName) (f : Follow) (x y : Version) → get vs v ≡ Some x → x.successor ≡ Some f
      → get vs f.version ≡ Some y → y.object ≡ x.object

-- in every reached state
abbrev pub LinksLaw : Type 0
LinksLaw = (m : Machine) (i : ImageState) (S : State) → Reached m i S → LinkWithinObjects S.versions

-- ---- open

-- the storage of an open, by what it follows: home where it follows nothing, none for an inout over another version,
-- and a buffer of its own name for an output beside another one
abbrev pub HasOpenForm : OpName → OpenContents → Option Follow → Type 0
HasOpenForm o c None = c.storage ≡ Some Home
HasOpenForm o c (Some f) =
    ((c.operand.mode ≡ Inout) × (f.how ≡ Over) × (c.storage ≡ None))
    ⊎ ((c.operand.mode ≡ Output) × (f.how ≡ Beside) × (c.storage ≡ Some (Buffer o)))

-- a version that an open follows, where it is registered, is of the same object, is older and has no successor
pub record IsLastOf (S : State) (o : OpName) (c : OpenContents) (x : Version) (f : Follow) : Type 0 where
  pub object : x.object ≡ c.operand.object
  pub last : x.successor ≡ None
  pub older : f.version.task < o.task

-- the versions of a bank
abbrev pub versions_in : Sizes → ℕ → Named Version → ℕ
versions_in sizes bank versions = count_of (λ v x. bank_of sizes x.object == bank) versions

-- an open: no version has its name, a place of its object's bank is held under it, and so is its buffer, it has a form
-- that decode sends, and the versions of its bank are fewer than the places
pub record IsOpenable (m : Machine) (S : State) (o : OpName) (c : OpenContents) : Type 0 where
  pub fresh : get S.versions o ≡ None
  pub place : get S.places o ≡ Some (bank_of m.sizes c.operand.object)
  pub buffer : (b : OpName) → c.storage ≡ Some (Buffer b) → get S.buffers b ≡ Some (bank_of m.sizes c.operand.object)
  pub form : HasOpenForm o c c.follows
  pub bare : (f : Follow) → c.follows ≡ Some f → f.how ≡ Over → c.storage ≡ None
  pub follows : (f : Follow) (x : Version) → c.follows ≡ Some f → get S.versions f.version ≡ Some x → IsLastOf S o c x f
  pub room : versions_in m.sizes (bank_of m.sizes c.operand.object) S.versions < m.sizes.versions

-- in every reached state
abbrev pub OpeningLaw : Type 0
OpeningLaw =
    (m : Machine) (i : ImageState) (S : State) (o : OpName) (c : OpenContents)
    → Reached m i S
    → get S.mail.opens o ≡ Some c
    → IsOpenable m S o c

-- ---- use

-- a use: its operand has a record, and the version that it names, where that is registered, is of the operand's object
-- and older
pub record IsUsable (S : State) (o v : OpName) : Type 0 where
  pub operand : OperandState
  pub there : operand_at S.flight o ≡ Some operand
  pub object : (x : Version) → get S.versions v ≡ Some x → x.object ≡ operand.operand.object
  pub older : v.task < o.task

-- in every reached state
abbrev pub UsingLaw : Type 0
UsingLaw =
    (m : Machine) (i : ImageState) (S : State) (o v : OpName)
    → Reached m i S
    → get S.mail.uses o ≡ Some v
    → IsUsable S o v
