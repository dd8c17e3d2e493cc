-- In a state with a round an event of an operand or version leaves the part of every object apart from its own.
use Rattle.std.proofs.Common.{◌≡◌, ℕ, List, Some}
use Rattle.tss_base.specs.declared.range.Range.{Range}
use Rattle.tss_base.specs.declared.operand.OpName.{OpName}
use Rattle.tss_base.specs.declared.operand.Task.{Task}
use Rattle.tss_base.specs.declared.machine.Machine.{Machine}
use Rattle.tss_base.specs.declared.event.Event.{Event}
use Rattle.tss_base.specs.Range.{Covers}
use Rattle.tss_protocol.specs.State.{State}
use Rattle.tss_protocol.specs.UnitMachine.{IsEnabled, after_event}
use Rattle.tss_locality.specs.Extents.{SameOn, object_part}
use Rattle.tss_locality.specs.Objects.{subject}
use Rattle.tss_locality.specs.Rounds.{object_in, IsRounded}
use Rattle.tss_locality.proofs.Subjects.{other_object-subject}
use Rattle.tss_locality.proofs.RoundObjects.{finds_own}

module _ (m : Machine) (S : State) (ts : List Task) (r : IsRounded S ts) where
  -- so an object with another base and other addresses has the same part after it
  pub other_object_same : (e : Event) (o : OpName) (x y : Range) → subject e ≡ Some o → object_in ts o ≡ Some x →
      (x.base ≡ y.base → ⊥) → ((a : ℕ) → Covers x a → Covers y a → ⊥) → IsEnabled m S e →
      SameOn (object_part (λ p. object_in ts p ≡ Some y) y) S (after_event m S e)
  other_object_same e o x y is in_x bases addresses on =
      other_object-subject (object_in ts) m S r.within.links (finds_own S ts r) e o x y is in_x on bases addresses
