-- The readers of a version in the order in which they came, which no field of the state shows: who waits, and who wakes
-- it.
use Rattle.std.specs.Prelude.{◌≡◌, ◌≢◌, ℕ, ◌<◌, Bool, true, false, cond, ◌⊎◌, suc, List, [], ◌∷◌, length, Option, Some}
use Rattle.std.specs.Prelude.{None}
use Rattle.std.specs.FinMap.{get}
use Rattle.tss_base.specs.declared.operand.OpName.{OpName}
use Rattle.tss_base.specs.declared.operand.Mode.{Mode}
use Rattle.tss_base.specs.declared.operand.Mode.TheVariants.{Input, Output, Inout}
use Rattle.tss_base.specs.declared.operand.Task.{Task}
use Rattle.tss_base.specs.declared.machine.Machine.{Machine}
use Rattle.tss_base.specs.declared.event.Event.{Event}
use Rattle.tss_base.specs.declared.event.Event.TheVariants as event
use Rattle.tss_base.specs.declared.marks.Follow.{Follow}
use Rattle.tss_base.specs.declared.marks.LinkState.TheVariants as link
use Rattle.tss_protocol.specs.Names.{same_name}
use Rattle.tss_protocol.specs.Mail.{OpenContents}
use Rattle.tss_protocol.specs.State.{State, OperandState, Version}
use Rattle.tss_protocol.specs.Stations.{operand_at}
use Rattle.tss_protocol.specs.UnitMachine.{after_event}
use Rattle.tss_phases.specs.Phase.{Phase, Waiting, Told, phase_of, has_released}
use Rattle.tss_phases.specs.Openers.{knows_version}
use Rattle.tss_control.specs.Members.{IsOn, NoWriterBetween}

-- ---- arrivals

-- the readers that have registered at each version, the newest first
abbrev pub Arrivals : Type 0
Arrivals = OpName → List OpName

-- with others at one version
abbrev pub set_arrivals : Arrivals → OpName → List OpName → Arrivals
set_arrivals g v xs = λ q. cond (same_name q v) xs (g q)

-- those of a version that is opened: an input that follows nothing is its first reader
abbrev pub first_arrivals : OpName → Mode → Option Follow → List OpName
first_arrivals o Input None = o ∷ []
first_arrivals o Input (Some f) = []
first_arrivals o Output follows = []
first_arrivals o Inout follows = []

-- after an open, by its message
abbrev pub arrivals_opened : Arrivals → OpName → Option OpenContents → Arrivals
arrivals_opened g o None = g
arrivals_opened g o (Some c) = set_arrivals g o (first_arrivals o c.operand.mode c.follows)

-- after a use, by its message
abbrev pub arrivals_used : Arrivals → OpName → Option OpName → Arrivals
arrivals_used g o None = g
arrivals_used g o (Some v) = set_arrivals g v (o ∷ g v)

-- only open and use change them
abbrev pub arrivals_after_event : State → Arrivals → Event → Arrivals
arrivals_after_event S g (event.Open o) = arrivals_opened g o (get S.mail.opens o)
arrivals_after_event S g (event.Use o) = arrivals_used g o (get S.mail.uses o)
arrivals_after_event S g e = g

-- after events
unfoldable pub arrivals_from : Machine → State → Arrivals → List Event → Arrivals
arrivals_from m S g [] = g
arrivals_from m S g (e ∷ es) = arrivals_from m (after_event m S e) (arrivals_after_event S g e) es

-- nobody has come
abbrev pub no_arrivals : Arrivals
no_arrivals v = []

-- ---- who they are

-- a member of a list
abbrev pub Has : OpName → List OpName → Type 0
Has a [] = ⊥
Has a (b ∷ bs) = (b ≡ a) ⊎ Has a bs

-- no name stands twice
abbrev pub AreOnce : List OpName → Type 0
AreOnce [] = Unit {0}
AreOnce (b ∷ bs) = (Has b bs → ⊥) × AreOnce bs

-- the oldest
abbrev pub oldest_of : List OpName → Option OpName
oldest_of [] = None
oldest_of (b ∷ []) = Some b
oldest_of (b ∷ c ∷ bs) = oldest_of (c ∷ bs)

-- how many have released the version
abbrev pub released_among : State → List OpName → ℕ
released_among S [] = 0
released_among S (a ∷ bs) = cond {A = ℕ} (has_released (phase_of S a)) (suc (released_among S bs)) (released_among S bs)

-- an arrival has come, and hasn't gone back
abbrev pub has_arrived : Phase → Bool
has_arrived Waiting = true
has_arrived p = knows_version p

-- a reader of a version: an input on its object of a later task, with no writer between, and the opener itself where
-- that reads
pub record IsArrival (ts : List Task) (S : State) (v : OpName) (y : Version) (a : OpName) : Type 0 where
  pub on : IsOn ts y.object Input a
  pub arrived : has_arrived (phase_of S a) ≡ true
  pub younger : (v ≡ a) ⊎ (v.task < a.task)
  pub alone : NoWriterBetween ts y.object v a

-- ---- heads and tails

-- the reader that waits for the version to be produced
abbrev pub head_of : Bool → List OpName → Option OpName
head_of true bs = None
head_of false bs = oldest_of bs

-- the newest, where it hasn't released the version
abbrev pub tail_of : State → List OpName → Option OpName
tail_of S [] = None
tail_of S (a ∷ bs) = cond (has_released (phase_of S a)) None (Some a)

-- ---- who wakes whom

-- the link that one holds, or that is under way for it
abbrev pub Holds : State → OpName → OpName → Type 0
Holds S a b = (r : OperandState) × (operand_at S.flight a ≡ Some r) × (r.link ≡ link.Held b)

-- a link is under way
abbrev pub IsLinking : State → OpName → OpName → Type 0
IsLinking S a b = get S.mail.links a ≡ Some b

-- the newer of two neighbours waits exactly where the older has its link: under way, or held, and never both. Else the
-- older isn't waiting itself or about to be told, and its link has passed unless it has released the version
pub record AreNeighbours (S : State) (a b : OpName) : Type 0 where
  pub waits : phase_of S b ≡ Waiting → IsLinking S a b ⊎ Holds S a b
  pub linking : (c : OpName) → IsLinking S a c → (c ≡ b) × (phase_of S b ≡ Waiting) × ((d : OpName) → Holds S a d → ⊥)
  pub holding : (c : OpName) → Holds S a c → (c ≡ b) × (phase_of S b ≡ Waiting)
  pub woken : (phase_of S b ≡ Waiting → ⊥) → (phase_of S a ≢ Waiting) × (phase_of S a ≢ Told)
  pub passed : (r : OperandState) → (phase_of S b ≡ Waiting → ⊥) → operand_at S.flight a ≡ Some r
      → has_released (phase_of S a) ≡ false → r.link ≡ link.Passed

-- nobody comes after the newest
pub record IsNewest (S : State) (a : OpName) : Type 0 where
  pub linking : (c : OpName) → IsLinking S a c → ⊥
  pub record_link : (r : OperandState) → operand_at S.flight a ≡ Some r → r.link ≡ link.Nothing

-- all neighbours of a list, the newest first
abbrev pub AreChained : State → List OpName → Type 0
AreChained S [] = Unit {0}
AreChained S (b ∷ []) = Unit {0}
AreChained S (b ∷ a ∷ bs) = AreNeighbours S a b × AreChained S (a ∷ bs)

-- the newest of a list
abbrev pub NewestIs : State → List OpName → Type 0
NewestIs S [] = Unit {0}
NewestIs S (a ∷ bs) = IsNewest S a

-- ---- the whole

-- the readers of a registered version are these, the newest first
pub record HasArrivals (ts : List Task) (xs : List OpName) (S : State) (v : OpName) (y : Version) : Type 0 where
  pub once : AreOnce xs
  pub each : (a : OpName) → Has a xs → IsArrival ts S v y a
  pub opener : IsOn ts y.object Input v → oldest_of xs ≡ Some v
  pub own : Has v xs → oldest_of xs ≡ Some v
  pub registered : y.registered ≡ length xs
  pub released : y.released ≡ released_among S xs
  pub head : y.head ≡ head_of y.produced xs
  pub tail : y.tail ≡ tail_of S xs
  pub first : (a : OpName) → oldest_of xs ≡ Some a
      → (phase_of S a ≡ Waiting → y.produced ≡ false) × (y.produced ≡ false → phase_of S a ≡ Waiting)
  pub chained : AreChained S xs
  pub newest : NewestIs S xs

-- each registered version has its readers, and no reader has come to two of them. A link is between two readers of one
-- version
pub record HasReaders (ts : List Task) (g : Arrivals) (S : State) : Type 0 where
  pub versions : (v : OpName) (y : Version) → get S.versions v ≡ Some y → HasArrivals ts (g v) S v y
  pub apart : (v w a : OpName) (y z : Version) → get S.versions v ≡ Some y → get S.versions w ≡ Some z
      → Has a (g v) → Has a (g w) → v ≡ w
  pub links : (a b : OpName) → IsLinking S a b
      → (v : OpName) × (y : Version) × (get S.versions v ≡ Some y) × Has a (g v)
  pub held : (a b : OpName) → Holds S a b
      → (v : OpName) × (y : Version) × (get S.versions v ≡ Some y) × Has a (g v)
