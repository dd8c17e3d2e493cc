-- What slots know, as the definitions read it.
use Rattle.std.proofs.Common.{◌≡◌, ℕ, ◌<◌, Bool, true, false, length, Option, Some, None, refl, sym, ap, ◌∙◌, arith, option_map}
use Rattle.std.specs.Prelude.{map, slice_get, ◌==◌, if◌then◌else◌, option_and_then}
use Rattle.std.specs.FinMap.{get, insert, remove}
use Rattle.std.proofs.Math.Seq.{take-set-lt}
use Rattle.std.proofs.lemmas.List.{map-set, length-take}
use Rattle.std.proofs.lemmas.Option.{slice_get-map, slice_get_within, none-some}
use Rattle.tss_base.specs.declared.operand.OpName.{OpName}
use Rattle.tss_base.specs.declared.marks.Stage.TheVariants as stage
use Rattle.tss_base.specs.declared.machine.Sizes.{Sizes}
use Rattle.tss_base.specs.Names.{Numbered}
use Rattle.tss_maps.proofs.Keys.{nat_order}
use Rattle.tss_maps.proofs.MappedLemmas.{get-mapped, mapped-insert, mapped-remove, count_of-mapped}
use Rattle.tss_protocol.specs.Names.{station_of}
use Rattle.tss_protocol.specs.State.{Flying}
use Rattle.tss_protocol.specs.Stations.{operand_at, with_operand, is_complete, is_gone, awaited, remaining_tasks, tasks_in}
use Rattle.tss_stations.specs.declared.operand_view.OperandView.{OperandView}
use Rattle.tss_stations.specs.declared.slot.Slot.{Slot}
use Rattle.tss_stations.specs.Views.{state_of, views_of, flying_of, flight_of, view_at, view_in, with_view}
use Rattle.tss_stations.specs.Slots.{awaited_slot, remaining_slots, taken_in}

-- ---- a slot

-- an operand that a slot knows is one of its task's
pub view_within : (x : Slot) (place : ℕ) (r : OperandView) → view_at place x ≡ Some r →
    (place < x.task.count) × (place < length x.operands)
view_within x place r e =
    let l = slice_get_within (views_of x) place r e in
    let n = length-take x.task.count x.operands in
    (omega (arith, l, n), omega (arith, l, n))

-- a changed operand changes its record
pub flying-with_view : (x : Slot) (place : ℕ) (q r : OperandView) → view_at place x ≡ Some q →
    flying_of (with_view x place r) ≡ with_operand (flying_of x) place (state_of r)
flying-with_view x place q r e = λ i. record {
  task = x.task;
  stage = x.stage;
  operands =
      (ap (map state_of) (take-set-lt x.task.count x.operands place r (view_within x place q e).0)
      ∙ map-set state_of (views_of x) place r) i;
}

awaited_by : (b : Bool) (x : Slot) →
    flying_of (if b then record x { stage = stage.Queued } else x)
    ≡ (if b then record (flying_of x) { stage = stage.Queued } else flying_of x)
awaited_by true x = refl
awaited_by false x = refl

-- a complete task is queued
pub flying-awaited_slot : (x : Slot) → flying_of (awaited_slot x) ≡ awaited (flying_of x)
flying-awaited_slot x = awaited_by (is_complete (flying_of x)) x

-- the record of an operand
pub state_found : (x : Slot) (place : ℕ) (r : OperandView) → view_at place x ≡ Some r →
    slice_get (flying_of x).operands place ≡ Some (state_of r)
state_found x place r e = slice_get-map state_of (views_of x) place ∙ ap (option_map state_of) e

-- ---- slots

module _ (slots : Numbered Slot) where
  remaining_by : (b : Bool) (task : ℕ) (x : Slot) →
      flight_of (if b then remove slots task else insert slots task x)
      ≡ (if b then remove (flight_of slots) task else insert (flight_of slots) task (flying_of x))
  remaining_by true task x = mapped-remove nat_order flying_of slots task
  remaining_by false task x = mapped-insert nat_order flying_of slots task x

  -- a task that has left is no longer in flight
  pub flight-remaining_slots : (task : ℕ) (x : Slot) →
      flight_of (remaining_slots slots task x) ≡ remaining_tasks (flight_of slots) task (flying_of x)
  flight-remaining_slots task x = remaining_by (is_gone (flying_of x)) task x

  -- a slot's task is in flight
  pub flight_found : (task : ℕ) (x : Slot) → get slots task ≡ Some x → get (flight_of slots) task ≡ Some (flying_of x)
  flight_found task x e = get-mapped flying_of slots task ∙ ap (option_map flying_of) e

  -- and no other
  pub flight_absent : (task : ℕ) → get slots task ≡ None → get (flight_of slots) task ≡ None
  flight_absent task e = get-mapped flying_of slots task ∙ ap (option_map flying_of) e

  -- what is known of an operand is its record
  pub operand_at-flight_of : (o : OpName) → option_map state_of (view_in slots o) ≡ operand_at (flight_of slots) o
  operand_at-flight_of o =
      by (get slots o.task)
      ∙ ap (option_and_then (λ (x : Flying). slice_get x.operands o.place)) (sym (get-mapped flying_of slots o.task))
    where
      by : (m : Option Slot) →
          option_map state_of (option_and_then (view_at o.place) m)
          ≡ option_and_then (λ (x : Flying). slice_get x.operands o.place) (option_map flying_of m)
      by None = refl
      by (Some x) = sym (slice_get-map state_of (views_of x) o.place)

  -- an operand that is known is one of a slot
  pub view_found : (o : OpName) (r : OperandView) → view_in slots o ≡ Some r →
      (x : Slot) × (get slots o.task ≡ Some x) × (view_at o.place x ≡ Some r)
  view_found o r e = by (get slots o.task) refl e
    where
      by : (m : Option Slot) → get slots o.task ≡ m → option_and_then (view_at o.place) m ≡ Some r →
          (x : Slot) × (get slots o.task ≡ Some x) × (view_at o.place x ≡ Some r)
      by None em e = absurd (none-some r e)
      by (Some x) em e = (x, em, e)

  -- as many slots of a station are taken as tasks in flight have it
  pub tasks_in-flight_of : (sizes : Sizes) (k : ℕ) → tasks_in sizes k (flight_of slots) ≡ taken_in sizes slots k
  tasks_in-flight_of sizes k = count_of-mapped flying_of (λ task x. station_of sizes task == k) slots
