-- The operands of a round by their names, who writes an object, and which versions an object has: those that are
-- registered, and those whose open is under way.
use Rattle.std.specs.Prelude.{◌≡◌, ℕ, ◌+◌, ◌<◌, true, ◌⊎◌, List, [], ◌∷◌, Option, Some, None}
use Rattle.std.specs.FinMap.{get}
use Rattle.tss_base.specs.declared.range.Range.{Range}
use Rattle.tss_base.specs.declared.operand.OpName.{OpName}
use Rattle.tss_base.specs.declared.operand.Mode.{Mode}
use Rattle.tss_base.specs.declared.operand.Mode.TheVariants.{Input, Output, Inout}
use Rattle.tss_base.specs.declared.operand.Operand.{Operand}
use Rattle.tss_base.specs.declared.operand.Task.{Task}
use Rattle.tss_base.specs.declared.marks.Follow.{Follow}
use Rattle.tss_base.specs.Names.{Named}
use Rattle.tss_maps.specs.Sums.{count_of}
use Rattle.tss_model.specs.Access.{writes}
use Rattle.tss_protocol.specs.Names.{same_name}
use Rattle.tss_protocol.specs.Mail.{OpenContents}
use Rattle.tss_protocol.specs.State.{State, Version}
use Rattle.tss_locality.specs.Agreement.{operand_in}

-- ---- operands

-- the first of two that is there
abbrev pub first_there : Option Operand → Option Operand → Option Operand
first_there None p = p
first_there (Some q) p = Some q

-- the operand of a name, among those of the tasks of a list
abbrev pub operand_among : List Task → OpName → Option Operand
operand_among [] o = None
operand_among (t ∷ ts) o = first_there (operand_in (Some t) o) (operand_among ts o)

-- a name is that of an operand of this mode on this object
pub record IsOn (ts : List Task) (x : Range) (mode : Mode) (o : OpName) : Type 0 where
  pub operand : Operand
  pub there : operand_among ts o ≡ Some operand
  pub object : operand.object ≡ x
  pub is_mode : operand.mode ≡ mode

-- of one that writes it
pub record IsWriterOn (ts : List Task) (x : Range) (o : OpName) : Type 0 where
  pub operand : Operand
  pub there : operand_among ts o ≡ Some operand
  pub object : operand.object ≡ x
  pub writer : writes operand.mode ≡ true

-- no task strictly between those of two names writes the object
abbrev pub NoWriterBetween : List Task → Range → OpName → OpName → Type 0
NoWriterBetween ts x a b = (o : OpName) → a.task < o.task → o.task < b.task → IsWriterOn ts x o → ⊥

-- ---- versions

-- a version of an object is registered
abbrev pub IsVersionOf : State → Range → OpName → Type 0
IsVersionOf S x v = (y : Version) × (get S.versions v ≡ Some y) × (y.object ≡ x)

-- one is being opened
abbrev pub IsOpenOf : State → Range → OpName → Type 0
IsOpenOf S x v = (c : OpenContents) × (get S.mail.opens v ≡ Some c) × (c.operand.object ≡ x)

-- either
abbrev pub IsMember : State → Range → OpName → Type 0
IsMember S x v = IsVersionOf S x v ⊎ IsOpenOf S x v

-- ---- how many readers were directed to a version

-- those that are registered
abbrev pub registered_of : Option Version → ℕ
registered_of None = 0
registered_of (Some x) = x.registered

-- an input that opens the first version of its object is its first reader
abbrev pub first_reader : Mode → Option Follow → ℕ
first_reader Input None = 1
first_reader Input (Some f) = 0
first_reader Output follows = 0
first_reader Inout follows = 0

-- by its open
abbrev pub opening_reader : Option OpenContents → ℕ
opening_reader None = 0
opening_reader (Some c) = first_reader c.operand.mode c.follows

-- those whose use is under way
abbrev pub uses_of : Named OpName → OpName → ℕ
uses_of uses v = count_of (λ o w. same_name w v) uses

-- all of them
abbrev pub total : State → OpName → ℕ
total S v = registered_of (get S.versions v) + opening_reader (get S.mail.opens v) + uses_of S.mail.uses v
