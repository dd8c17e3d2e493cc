-- The objects of the tasks of a round and those that main has named, and what holds of them in every run.
use Rattle.std.specs.Prelude.{◌≡◌, ◌⊎◌, ℕ, ◌<◌, ◌≤◌, true, List, [], ◌∷◌, slice_get, Option, Some, None}
use Rattle.std.specs.FinMap.{get}
use Rattle.tss_base.specs.declared.range.Range.{Range}
use Rattle.tss_base.specs.declared.operand.OpName.{OpName}
use Rattle.tss_base.specs.declared.operand.Operand.{Operand}
use Rattle.tss_base.specs.declared.operand.Task.{Task}
use Rattle.tss_base.specs.Range.{meets}
use Rattle.tss_model.specs.Access.{operands_of}
use Rattle.tss_protocol.specs.State.{Flying, Busy, Entry, State}
use Rattle.tss_locality.specs.Agreement.{operand_in}
use Rattle.tss_locality.specs.Objects.{Objects, IsWithinObjects}

-- the object of an operand that is there, or another
abbrev pub object_or : Option Operand → Option Range → Option Range
object_or None x = x
object_or (Some p) x = Some p.object

-- the object of each operand of the tasks of a list
abbrev pub object_in : List Task → Objects
object_in [] o = None
object_in (t ∷ ts) o = object_or (operand_in (Some t) o) (object_in ts o)

-- a member of a list
abbrev pub IsIn : Range → List Range → Type 0
IsIn x [] = ⊥
IsIn x (y ∷ ys) = (y ≡ x) ⊎ IsIn x ys

-- each has an address, and two that share an address are one
pub record AreSeparate (xs : List Range) : Type 0 where
  pub some : (x : Range) → IsIn x xs → 0 < x.len
  pub one : (x y : Range) → IsIn x xs → IsIn y xs → meets x y ≡ true → x ≡ y

-- a task of a list
abbrev pub IsTaskOf : List Task → Task → Type 0
IsTaskOf ts t = (k : ℕ) × (slice_get ts k ≡ Some t)

-- a task of a list under its number
abbrev pub IsNumberOf : List Task → ℕ → Task → Type 0
IsNumberOf ts n t = (t.number ≡ n) × IsTaskOf ts t

-- objects that are named while they are in use: those of the inbox's operands, of the operands that are to be decoded,
-- and of entries
pub record AreInUse (named : List Range) (S : State) : Type 0 where
  pub arriving : (t : Task) → S.inbox ≡ Some t → (j : ℕ) (p : Operand) → slice_get (operands_of t) j ≡ Some p →
      IsIn p.object named
  pub decoding : (o : OpName) (p : Operand) → get S.mail.decodes o ≡ Some p → IsIn p.object named
  pub entered : (b : ℕ) (e : Entry) → get S.entries b ≡ Some e → IsIn e.object named

-- the tasks since the last barrier: each has its own number, and none a number above that of main's last. The objects
-- in use are named, and named objects are separate. The inbox has the last of the tasks, each task in flight is one of
-- them that stands under its number, below that of the inbox's task, and each worker's task is one of them. Each name
-- and each link stays within its object. An object that main has awaited is no longer named, though tasks since the
-- last barrier have it, and may be named anew with other bounds
pub record IsRounded (S : State) (ts : List Task) : Type 0 where
  pub numbers : (k : ℕ) (t : Task) → slice_get ts k ≡ Some t → t.number ≤ S.main.spawned
  pub one : (j k : ℕ) (t u : Task) → slice_get ts j ≡ Some t → slice_get ts k ≡ Some u → t.number ≡ u.number → t ≡ u
  pub named : AreInUse S.main.epoch S
  pub separate : AreSeparate S.main.epoch
  pub arrived : (t : Task) → S.inbox ≡ Some t → IsNumberOf ts S.main.spawned t
  pub flying : (n : ℕ) (x : Flying) → get S.flight n ≡ Some x → IsNumberOf ts n x.task
  pub below : (t : Task) → S.inbox ≡ Some t → (n : ℕ) (x : Flying) → get S.flight n ≡ Some x → n < t.number
  pub busy : (w : ℕ) (b : Busy) → get S.workers w ≡ Some b → IsTaskOf ts b.task
  pub within : IsWithinObjects (object_in ts) S
