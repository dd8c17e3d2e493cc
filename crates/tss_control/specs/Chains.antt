-- The versions of an object in their order: each with its neighbours, those that are being opened behind them, and the
-- readers that are on their way to one.
use Rattle.std.specs.Prelude.{◌≡◌, ◌<◌, ◌≤◌, false, ◌⊎◌, List, Some, None}
use Rattle.std.proofs.Common.{◌↔◌}
use Rattle.std.specs.FinMap.{get}
use Rattle.tss_base.specs.declared.range.Range.{Range}
use Rattle.tss_base.specs.declared.operand.OpName.{OpName}
use Rattle.tss_base.specs.declared.operand.Mode.TheVariants.{Input, Output, Inout}
use Rattle.tss_base.specs.declared.operand.Operand.{Operand}
use Rattle.tss_base.specs.declared.operand.Task.{Task}
use Rattle.tss_base.specs.declared.marks.How.TheVariants.{Beside, Over}
use Rattle.tss_base.specs.declared.marks.Follow.{Follow}
use Rattle.tss_protocol.specs.Mail.{Home, Buffer, OpenContents}
use Rattle.tss_protocol.specs.State.{State, Version}
use Rattle.tss_control.specs.Members.{operand_among, IsOn, NoWriterBetween, IsVersionOf, IsMember, total}

-- ---- neighbours

-- v comes right after q among the registered versions of its object
pub record IsAfter (S : State) (v : OpName) (y : Version) (q : OpName) : Type 0 where
  pub version : Version
  pub there : get S.versions q ≡ Some version
  pub object : version.object ≡ y.object
  pub older : q.task < v.task
  pub follow : Follow
  pub link : version.successor ≡ Some follow
  pub back : follow.version ≡ v

-- the one that follows v
pub record IsFollowed (S : State) (v : OpName) (y : Version) (f : Follow) : Type 0 where
  pub version : Version
  pub there : get S.versions f.version ≡ Some version
  pub object : version.object ≡ y.object
  pub younger : v.task < f.version.task
  pub back : version.predecessor ≡ Some v
  pub last : f.last ≡ total S v
  pub near : (q : OpName) → IsVersionOf S y.object q → (q.task ≤ v.task) ⊎ (f.version.task ≤ q.task)

-- a registered version stands between its neighbours, and is the oldest or the youngest where it has none
pub record IsLinked (S : State) (v : OpName) (y : Version) : Type 0 where
  pub after : (q : OpName) → y.predecessor ≡ Some q → IsAfter S v y q
  pub followed : (f : Follow) → y.successor ≡ Some f → IsFollowed S v y f
  pub oldest : y.predecessor ≡ None → (q : OpName) → IsVersionOf S y.object q → v.task ≤ q.task
  pub youngest : y.successor ≡ None → (q : OpName) → IsVersionOf S y.object q → q.task ≤ v.task

-- ---- storages

-- its predecessor is followed over
abbrev pub IsOver : State → Version → Type 0
IsOver S y =
    (q : OpName) × (z : Version) × (f : Follow)
    × (y.predecessor ≡ Some q)
    × (get S.versions q ≡ Some z)
    × (z.successor ≡ Some f)
    × (f.how ≡ Over)

-- a version has no storage exactly where it is to take over that of its predecessor. Then it is an inout's and open.
-- Only the oldest is at home, and a version that an input has opened is the oldest
pub record HasStorage (ts : List Task) (S : State) (v : OpName) (y : Version) : Type 0 where
  pub over : (y.storage ≡ None) ↔ IsOver S y
  pub waits : y.storage ≡ None → (y.produced ≡ false) × IsOn ts y.object Inout v
  pub home : y.storage ≡ Some Home → y.predecessor ≡ None
  pub input : IsOn ts y.object Input v → y.predecessor ≡ None
  pub alone : (f : Follow) → y.successor ≡ Some f → f.how ≡ Over → NoWriterBetween ts y.object v f.version

-- ---- opens and uses

-- what an open that follows nothing says: its version is to be at home, and no other of its object is older
pub record OpensFirst (S : State) (o : OpName) (c : OpenContents) : Type 0 where
  pub storage : c.storage ≡ Some Home
  pub first : (q : OpName) → IsMember S c.operand.object q → o.task ≤ q.task

-- how an open follows, by its mode
abbrev pub FollowsAs : OpName → OpenContents → Follow → Type 0
FollowsAs o c f =
    ((c.operand.mode ≡ Inout) × (f.how ≡ Over) × (c.storage ≡ None))
    ⊎ ((c.operand.mode ≡ Output) × (f.how ≡ Beside) × (c.storage ≡ Some (Buffer o)))

-- what one that follows another says: that is the version right before it
pub record OpensAfter (ts : List Task) (S : State) (o : OpName) (c : OpenContents) (f : Follow) : Type 0 where
  pub member : IsMember S c.operand.object f.version
  pub older : f.version.task < o.task
  pub near : (q : OpName) → IsMember S c.operand.object q → (q.task ≤ f.version.task) ⊎ (o.task ≤ q.task)
  pub last : f.last ≡ total S f.version
  pub way : FollowsAs o c f
  pub alone : NoWriterBetween ts c.operand.object f.version o

-- an open comes behind all registered versions of its object, and behind the one that it follows
pub record IsOpenInOrder (ts : List Task) (S : State) (o : OpName) (c : OpenContents) : Type 0 where
  pub operand : operand_among ts o ≡ Some (c.operand)
  pub behind : (q : OpName) → IsVersionOf S c.operand.object q → q.task < o.task
  pub first : c.follows ≡ None → OpensFirst S o c
  pub after : (f : Follow) → c.follows ≡ Some f → OpensAfter ts S o c f

-- a use is of an input, and names an older version of its object, with no writer between
pub record IsUseInOrder (ts : List Task) (S : State) (o v : OpName) : Type 0 where
  pub operand : Operand
  pub there : operand_among ts o ≡ Some operand
  pub mode : operand.mode ≡ Input
  pub member : IsMember S operand.object v
  pub older : v.task < o.task
  pub alone : NoWriterBetween ts operand.object v o

-- ---- the whole

-- two versions of one object, registered or being opened, with one task are one. Each is of its operand
pub record HasChains (ts : List Task) (S : State) : Type 0 where
  pub one : (x : Range) (v w : OpName) → IsMember S x v → IsMember S x w → v.task ≡ w.task → v ≡ w
  pub opener : (v : OpName) (y : Version) → get S.versions v ≡ Some y
      → (p : Operand) × (operand_among ts v ≡ Some p) × (p.object ≡ y.object)
  pub linked : (v : OpName) (y : Version) → get S.versions v ≡ Some y → IsLinked S v y
  pub storages : (v : OpName) (y : Version) → get S.versions v ≡ Some y → HasStorage ts S v y
  pub opens : (o : OpName) (c : OpenContents) → get S.mail.opens o ≡ Some c → IsOpenInOrder ts S o c
  pub uses : (o v : OpName) → get S.mail.uses o ≡ Some v → IsUseInOrder ts S o v
