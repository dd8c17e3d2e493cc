-- Where maps, optional values, messages and tasks agree.
use Rattle.std.specs.Prelude.{◌≡◌, ◌↔◌, ◌⊎◌, ℕ, suc, ◌==◌, true, cond, List, [], ◌∷◌, length, slice_get, Option, Some}
use Rattle.std.specs.Prelude.{None}
use Rattle.std.specs.declared.cmp.Ordering.{Ordering}
use Rattle.std.specs.FinMap.{FinMap, get}
use Rattle.tss_base.specs.declared.operand.OpName.{OpName}
use Rattle.tss_base.specs.declared.operand.Operand.{Operand}
use Rattle.tss_base.specs.declared.operand.Task.{Task}
use Rattle.tss_model.specs.Access.{operands_of}
use Rattle.tss_protocol.specs.Mail.{Mail}
use Rattle.tss_protocol.specs.State.{OperandState, Flying}
use Rattle.tss_protocol.specs.Stations.{has_left}

-- all that isn't P
abbrev pub Beyond : {K : Type 0} → (K → Type 0) → K → Type 0
Beyond P q = P q → ⊥

-- after a change a map has at each of these keys what it had before
abbrev pub AgreeAt : {K X : Type 0} {R : K → K → Ordering} → (K → Type 0) → FinMap R X → FinMap R X → Type 0
AgreeAt {K} A m n = (q : K) → A q → get n q ≡ get m q

-- what stands under these names is of this kind
abbrev pub ClosedAt : {K X : Type 0} {R : K → K → Ordering} → (K → Type 0) → (X → Type 0) → FinMap R X → Type 0
ClosedAt {K} {X} P Q m = (k : K) (x : X) → P k → get m k ≡ Some x → Q x

-- each value of this kind is there after a change exactly where it was there before
abbrev pub SameFor : {X : Type 0} → (X → Type 0) → Option X → Option X → Type 0
SameFor {X} A a b = (x : X) → A x → (a ≡ Some x) ↔ (b ≡ Some x)

-- the messages agree. A message of the first six kinds is sent by an event of its own operand's task, and any other may
-- be sent by another operand of the object
pub record MailAgrees (names own : OpName → Type 0) (m n : Mail) : Type 0 where
  pub decodes : AgreeAt own m.decodes n.decodes
  pub acks : AgreeAt own m.acks n.acks
  pub opens : AgreeAt own m.opens n.opens
  pub uses : AgreeAt own m.uses n.uses
  pub releases : AgreeAt own m.releases n.releases
  pub byes : AgreeAt own m.byes n.byes
  pub readies : AgreeAt names m.readies n.readies
  pub links : AgreeAt names m.links n.links
  pub idles : AgreeAt names m.idles n.idles
  pub nacks : AgreeAt names m.nacks n.nacks
  pub retires : AgreeAt names m.retires n.retires
  pub gones : AgreeAt names m.gones n.gones

-- its farewell is done
abbrev pub IsOut : Option OperandState → Type 0
IsOut None = ⊥
IsOut (Some r) = has_left r.farewell ≡ true

-- an operand's record is the same, or an operand that had left has gone with its task
abbrev pub SameOperand : Option OperandState → Option OperandState → Type 0
SameOperand a b = (b ≡ a) ⊎ (IsOut a × (b ≡ None))

-- a task that stays in flight is the same task with as many operands
abbrev pub SameShape : Option Flying → Option Flying → Type 0
SameShape None b = Unit {0}
SameShape (Some x) None = Unit {0}
SameShape (Some x) (Some y) = (y.task ≡ x.task) × (length y.operands ≡ length x.operands)

-- the operand of a name in the inbox's task
abbrev pub operand_in : Option Task → OpName → Option Operand
operand_in None o = None
operand_in (Some t) o = cond (t.number == o.task) (slice_get (operands_of t) o.place) None

-- how often a number stands in a list
abbrev pub times_in : ℕ → List ℕ → ℕ
times_in n [] = 0
times_in n (q ∷ qs) = cond (q == n) (suc (times_in n qs)) (times_in n qs)
