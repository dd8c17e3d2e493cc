-- An event of an operand or version concerns its object and its task alone, so every other object has the same part
-- after it.
use Rattle.std.proofs.Common.{◌≡◌, ℕ, cond, inl, inr, Some, None, sym, ap, ◌∙◌}
use Rattle.std.specs.Prelude.{slice_get}
use Rattle.std.proofs.lemmas.Option.{none-some, same_Some}
use Rattle.tss_base.specs.declared.range.Range.{Range}
use Rattle.tss_base.specs.declared.operand.OpName.{OpName}
use Rattle.tss_base.specs.declared.operand.Operand.{Operand}
use Rattle.tss_base.specs.declared.operand.Task.{Task}
use Rattle.tss_base.specs.declared.machine.Machine.{Machine}
use Rattle.tss_base.specs.declared.event.Event.{Event}
use Rattle.tss_base.specs.declared.event.Event.TheVariants as event
use Rattle.tss_base.specs.Range.{Covers}
use Rattle.tss_maps.proofs.Keys.{nat_order, decide_key}
use Rattle.tss_model.specs.Access.{operands_of}
use Rattle.tss_protocol.specs.State.{State}
use Rattle.tss_protocol.specs.UnitMachine.{IsEnabled, after_event}
use Rattle.tss_locality.specs.Agreement.{operand_in}
use Rattle.tss_locality.specs.Extents.{SameOn, object_part}
use Rattle.tss_locality.specs.Scopes.{Scope, ChangesOnly, Closed}
use Rattle.tss_locality.specs.Concerns.{Concerns, FindsOwn}
use Rattle.tss_locality.specs.Objects.{Objects, object_scope, LinksStay, subject}
use Rattle.tss_locality.proofs.Parts.{same_object}
use Rattle.tss_locality.proofs.EachEvent.{ChangesOnly-after_event}
use Rattle.tss_locality.proofs.Tasks.{other_number}
use Rattle.tss_locality.proofs.OtherParts.{closed_tasks, apart_object}

-- an operand in the inbox's task has the task's number
pub arrival_task : (t : Task) (o : OpName) (p : Operand) → operand_in (Some t) o ≡ Some p → o.task ≡ t.number
arrival_task t o p e = elim (decide_key nat_order t.number o.task) [
  | inl same ↦ sym same
  | inr other ↦ absurd (none-some p (sym (ap (λ b. cond b (slice_get (operands_of t) o.place) None)
      (other_number t.number o.task other)) ∙ e))
]

module _ (f : Objects) (m : Machine) (S : State) (links : LinksStay f S) where
  -- the task of a name
  abbrev OfTask : OpName → ℕ → Type 0
  OfTask o n = n ≡ o.task

  -- the scope of an operand: its object and its task
  abbrev operand_scope : OpName → Range → Scope
  operand_scope o x = object_scope f x (OfTask o)

  -- its links stay in it
  closed_operand : (o : OpName) (x : Range) → f o ≡ Some x → Closed (operand_scope o x) S
  closed_operand o x fo = closed_tasks f x (OfTask o) S (links o x fo)

  -- an event of an operand or version concerns its object and its task alone, where decodes find entries of their own
  -- objects
  ChangesOnly-subject : ((o : OpName) → FindsOwn S o) → (e : Event) (o : OpName) (x : Range) → subject e ≡ Some o →
      f o ≡ Some x → IsEnabled m S e → ChangesOnly (operand_scope o x) S (after_event m S e)
  ChangesOnly-subject finds e o x is fo on =
      ChangesOnly-after_event (operand_scope o x) m S (closed_operand o x fo) e on
      (concerns e is)
    where
      own : (q : OpName) → Some q ≡ Some o → (f q ≡ Some x) × (q.task ≡ o.task)
      own q e = (ap f (same_Some q o e) ∙ fo, ap (λ (q : OpName). q.task) (same_Some q o e))

      concerns : (e : Event) → subject e ≡ Some o → Concerns (operand_scope o x) m S e
      concerns (event.Decode q) is = (own q is, finds q)
      concerns (event.Ack q) is = own q is
      concerns (event.Open q) is = own q is
      concerns (event.Use q) is = own q is
      concerns (event.Ready q) is = own q is
      concerns (event.Link q) is = own q is
      concerns (event.Release q) is = own q is
      concerns (event.Bye q) is = own q is
      concerns (event.Idle q) is = (own q is).0
      concerns (event.Nack q) is = (own q is).0
      concerns (event.Retire q) is = (own q is).0
      concerns (event.Gone q) is = (own q is).0
      concerns e is = absurd (none-some o is)

  -- so the part of another object is the same
  pub other_object-subject : ((o : OpName) → FindsOwn S o) → (e : Event) (o : OpName) (x y : Range) →
      subject e ≡ Some o → f o ≡ Some x → IsEnabled m S e →
      (x.base ≡ y.base → ⊥) → ((a : ℕ) → Covers x a → Covers y a → ⊥) →
      SameOn (object_part (λ q. f q ≡ Some y) y) S (after_event m S e)
  other_object-subject finds e o x y is fo on bases addresses =
      same_object (operand_scope o x) (λ q. f q ≡ Some y) y S (after_event m S e)
      (apart_object f x (OfTask o) y bases addresses) (ChangesOnly-subject finds e o x is fo on)
