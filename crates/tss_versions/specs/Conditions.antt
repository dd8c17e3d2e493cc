-- What the calls ask of the versions of their bank.
use Rattle.std.specs.Prelude.{◌≡◌, ◌≢◌, ℕ, ◌<◌, Some, None}
use Rattle.std.specs.FinMap.{get}
use Rattle.tss_base.specs.declared.operand.OpName.{OpName}
use Rattle.tss_base.specs.declared.marks.How.TheVariants.{Over}
use Rattle.tss_base.specs.declared.marks.Follow.{Follow}
use Rattle.tss_base.specs.Names.{Named}
use Rattle.tss_protocol.specs.State.{Version}
use Rattle.tss_protocol.specs.Settled.{IsSettled}
use Rattle.tss_events.specs.declared.message.Opening.{Opening}
use Rattle.tss_versions.specs.declared.kept.Kept.{Kept}
use Rattle.tss_versions.specs.declared.status.Site.{Site}
use Rattle.tss_versions.specs.declared.status.Next.{Next}
use Rattle.tss_versions.specs.Known.{VersionsState, IsAt, IsHeld}

-- ---- of the definitions' versions: what holds in every state that a run leaves

-- the version that follows another is registered and younger, and has no storage yet where it is to take that one's
pub record IsNext (vs : Named Version) (v : OpName) (f : Follow) : Type 0 where
  pub version : Version
  pub there : get vs f.version ≡ Some version
  pub younger : v.task < f.version.task
  pub bare : f.how ≡ Over → version.storage ≡ None

-- the version before another is registered and older
pub record IsBefore (vs : Named Version) (v q : OpName) : Type 0 where
  pub version : Version
  pub there : get vs q ≡ Some version
  pub older : q.task < v.task

-- each version is settled, and its neighbours are registered, an older one before it and a younger one after it
pub record AreChained (vs : Named Version) : Type 0 where
  pub settled : (v : OpName) (y : Version) → get vs v ≡ Some y → IsSettled y
  pub before : (v q : OpName) (y : Version) → get vs v ≡ Some y → y.predecessor ≡ Some q → IsBefore vs v q
  pub after : (v : OpName) (y : Version) (f : Follow) → get vs v ≡ Some y → y.successor ≡ Some f → IsNext vs v f

-- the same of one version
pub record IsChainedAt (vs : Named Version) (v : OpName) : Type 0 where
  pub settled : (y : Version) → get vs v ≡ Some y → IsSettled y
  pub before : (q : OpName) (y : Version) → get vs v ≡ Some y → y.predecessor ≡ Some q → IsBefore vs v q
  pub after : (y : Version) (f : Follow) → get vs v ≡ Some y → y.successor ≡ Some f → IsNext vs v f

-- ---- of the versions with their tokens, as the steps of a settle ask it

-- a version stands between the one before it, if any, and the next
pub record IsBetween (vs : Named Kept) (v next : Site) : Type 0 where
  pub here : IsAt vs v
  pub ahead : IsAt vs next
  pub apart : next.name ≢ v.name
  pub before : (x : Kept) (s : Site) → get vs v.name ≡ Some x → x.status.predecessor ≡ Some s
      → IsAt vs s × (s.name ≢ v.name)

-- a version has no storage yet
abbrev pub IsUnstored : Named Kept → OpName → Type 0
IsUnstored vs v = (y : Kept) → get vs v ≡ Some y → y.store ≡ None

-- the version after another one, as that is settled: another one than it and than the one before it
pub record IsBehind (vs : Named Version) (v : OpName) (y : Version) (f : Follow) : Type 0 where
  pub version : Version
  pub there : get vs f.version ≡ Some version
  pub apart : f.version ≢ v
  pub after : y.predecessor ≡ Some f.version → ⊥
  pub bare : f.how ≡ Over → version.storage ≡ None

-- versions that stand where they stood, with the stores that they had
abbrev pub Remain : Named Kept → Named Kept → Type 0
Remain vs ws = (v : OpName) (x : Kept) → get vs v ≡ Some x
    → (y : Kept) × (get ws v ≡ Some y) × (y.store ≡ x.store) × (y.place ≡ x.place)

-- a version may be settled: its neighbours, if any, are registered and other ones than it
pub record MaySettle (vs : Named Version) (v : OpName) : Type 0 where
  pub before : (y : Version) (q : OpName) → get vs v ≡ Some y → y.predecessor ≡ Some q
      → ((z : Version) × (get vs q ≡ Some z)) × (q ≢ v)
  pub after : (y : Version) (f : Follow) → get vs v ≡ Some y → y.successor ≡ Some f → IsBehind vs v y f

-- no version has a link to this one
pub record IsUnnamed (vs : Named Kept) (v : OpName) : Type 0 where
  pub before : (w : OpName) (x : Kept) (s : Site) → get vs w ≡ Some x → x.status.predecessor ≡ Some s → s.name ≢ v
  pub after : (w : OpName) (x : Kept) (n : Next) → get vs w ≡ Some x → x.status.successor ≡ Some n → n.site.name ≢ v

-- no version stands at this place
abbrev pub IsFree : Named Kept → ℕ → Type 0
IsFree vs place = (w : OpName) (x : Kept) → get vs w ≡ Some x → x.place.place ≢ place

-- a version that is to take the storage of the one that it follows has none of its own
abbrev pub OpensBare : Opening → Type 0
OpensBare m = (f : Follow) → m.follows ≡ Some f → f.how ≡ Over → m.storage ≡ None

-- a new version may be opened: its buffer's token is there exactly where its storage is a buffer, its place is one of
-- the bank's and free, and no version has its name
pub record MayOpen (s : VersionsState) (m : Opening) : Type 0 where
  pub held : IsHeld m.storage m.buffer
  pub within : m.place.place < s.size
  pub free : IsFree s.versions m.place.place
  pub fresh : get s.versions m.o ≡ None
