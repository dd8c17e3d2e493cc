-- Entries: the latest version of an object with the readers that were directed to it, and how an object leaves.
use Rattle.std.specs.Prelude.{◌≡◌, ◌≢◌, ℕ, ◌<◌, ◌≤◌, true, false, ◌⊎◌, List, Some, None}
use Rattle.std.specs.FinMap.{get}
use Rattle.tss_base.specs.declared.range.Range.{Range}
use Rattle.tss_base.specs.declared.operand.OpName.{OpName}
use Rattle.tss_base.specs.declared.operand.Operand.{Operand}
use Rattle.tss_base.specs.declared.operand.Task.{Task}
use Rattle.tss_protocol.specs.Mail.{GoneContents}
use Rattle.tss_protocol.specs.State.{State, Entry, Version, CopyState}
use Rattle.tss_protocol.specs.Settled.{IsSettled}
use Rattle.tss_phases.specs.Phase.{phase_of, is_decoded}
use Rattle.tss_control.specs.Members.{operand_among, IsWriterOn, IsVersionOf, IsOpenOf, IsMember, total}

-- ---- how an object leaves

-- its last version may retire
abbrev pub MayRetire : State → Range → OpName → Type 0
MayRetire S x v = (get S.mail.retires v ≡ Some tt) × IsVersionOf S x v

-- it is copied home, or is gone and was the last
abbrev pub IsGoingHome : State → Range → OpName → Type 0
IsGoingHome S x v =
    ((b : ℕ) × (c : CopyState) × (get S.copies b ≡ Some c) × (c.version ≡ v) × (c.object ≡ x))
    ⊎ ((g : GoneContents) × (get S.mail.gones v ≡ Some g) × (g.retired ≡ true) × (g.object ≡ x))

-- one of these
abbrev pub IsLeaving : State → Range → OpName → Type 0
IsLeaving S x v = MayRetire S x v ⊎ IsGoingHome S x v

-- a use of the object is under way
abbrev pub IsUsed : List Task → State → Range → Type 0
IsUsed ts S x =
    (o v : OpName) × (p : Operand) × (get S.mail.uses o ≡ Some v) × (operand_among ts o ≡ Some p) × (p.object ≡ x)

-- ---- entries

-- the entry of an object: it stands at the object's base, and is of that very object
pub record HasEntryOf (S : State) (x : Range) : Type 0 where
  pub entry : Entry
  pub there : get S.entries x.base ≡ Some entry
  pub object : entry.object ≡ x

-- an object without an entry has no version, no use, and doesn't leave
pub record IsAbsent (ts : List Task) (S : State) (x : Range) : Type 0 where
  pub members : (v : OpName) → IsMember S x v → ⊥
  pub unused : IsUsed ts S x → ⊥
  pub stays : (v : OpName) → IsLeaving S x v → ⊥

-- a live entry knows the latest version, and how many readers were directed to it
pub record IsLive (S : State) (x : Range) (e : Entry) : Type 0 where
  pub member : IsMember S x e.latest
  pub latest : (v : OpName) → IsMember S x v → v.task ≤ e.latest.task
  pub sent : e.sent ≡ total S e.latest
  pub stays : (v : OpName) → IsLeaving S x v → ⊥

-- the last version of an object that may retire is alone, and all its readers have released it
pub record IsLastVersion (S : State) (x : Range) (e : Entry) (y : Version) : Type 0 where
  pub only : (v : OpName) → IsVersionOf S x v → v ≡ e.latest
  pub asked : y.asked ≡ Some e.sent
  pub registered : y.registered ≡ e.sent
  pub released : y.released ≡ e.sent

-- an entry that retires: its latest version is the only one that leaves
pub record IsRetiring (ts : List Task) (S : State) (x : Range) (e : Entry) : Type 0 where
  pub no_open : (v : OpName) → IsOpenOf S x v → ⊥
  pub unused : IsUsed ts S x → ⊥
  pub leaving : IsLeaving S x e.latest
  pub only : (v : OpName) → IsLeaving S x v → v ≡ e.latest
  pub last : (y : Version) → get S.mail.retires e.latest ≡ Some tt → get S.versions e.latest ≡ Some y
      → IsLastVersion S x e y
  pub none : IsGoingHome S x e.latest → (v : OpName) → IsVersionOf S x v → ⊥

-- the entries of the objects of a round
pub record HasEntries (ts : List Task) (S : State) : Type 0 where
  pub absent : (o : OpName) (p : Operand) → operand_among ts o ≡ Some p → (HasEntryOf S p.object → ⊥)
      → IsAbsent ts S p.object
  pub operand : (b : ℕ) (e : Entry) → get S.entries b ≡ Some e
      → (e.object.base ≡ b) × ((p : Operand) × (operand_among ts e.latest ≡ Some p) × (p.object ≡ e.object))
  pub live : (b : ℕ) (e : Entry) → get S.entries b ≡ Some e → e.retiring ≡ false → IsLive S e.object e
  pub retiring : (b : ℕ) (e : Entry) → get S.entries b ≡ Some e → e.retiring ≡ true → IsRetiring ts S e.object e
  pub decoded : (b : ℕ) (e : Entry) (o : OpName) → get S.entries b ≡ Some e → IsWriterOn ts e.object o
      → is_decoded (phase_of S o) ≡ true → o.task ≤ e.latest.task

-- ---- asking to retire

-- a version that asks is produced, the oldest, and has at least as many released readers as it asked for
pub record AsksRightly (S : State) (v : OpName) (y : Version) (count : ℕ) : Type 0 where
  pub produced : y.produced ≡ true
  pub oldest : y.predecessor ≡ None
  pub released : count ≤ y.released

-- a refusal has a cause: the version isn't the latest any more, or more readers were directed to it
abbrev pub HasCause : State → OpName → Version → ℕ → Type 0
HasCause S v y count =
    (e : Entry) × (get S.entries y.object.base ≡ Some e) × ((e.latest ≢ v) ⊎ (count < e.sent))

-- in a state
pub record HasRetirement (S : State) : Type 0 where
  pub asked : (v : OpName) (y : Version) (count : ℕ) → get S.versions v ≡ Some y → y.asked ≡ Some count
      → AsksRightly S v y count
  pub refused : (v : OpName) (y : Version) (count : ℕ) → get S.versions v ≡ Some y → y.refused ≡ Some count
      → HasCause S v y count
  pub refusing : (v : OpName) (y : Version) (count : ℕ) → get S.versions v ≡ Some y → y.asked ≡ Some count
      → get S.mail.nacks v ≡ Some tt → HasCause S v y count
  pub settled : (v : OpName) (y : Version) → get S.versions v ≡ Some y → IsSettled y
