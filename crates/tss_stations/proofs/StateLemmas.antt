-- What the calls that a row makes leave together.
use Rattle.std.proofs.Common.{◌≡◌, ℕ, zero, suc, Bool, true, false, List, [], ◌∷◌, Option, Some, None, refl, sym, ap, ◌∙◌, option_map, length, arith, Bor}
use Rattle.std.specs.Prelude.{◌==◌, map, take, is_some}
use Rattle.std.proofs.lemmas.Bool.Decides.{nat_tests}
use Rattle.std.proofs.lemmas.Option.{none-some}
use Rattle.std.proofs.lemmas.List.{length-map}
use Rattle.std.specs.FinMap.{get, insert}
use Rattle.tss_base.specs.declared.operand.OpName.{OpName}
use Rattle.tss_base.specs.declared.operand.Operand.{Operand}
use Rattle.tss_base.specs.declared.operand.Storage.{Storage}
use Rattle.tss_base.specs.declared.operand.Task.{Task}
use Rattle.tss_base.specs.declared.marks.Stage.{Stage}
use Rattle.tss_base.specs.declared.marks.Stage.TheVariants as stage
use Rattle.tss_base.specs.Names.{Numbered}
use Rattle.tss_maps.proofs.Keys.{nat_order}
use Rattle.tss_maps.proofs.Changes.{at_inserted}
use Rattle.tss_maps.proofs.MappedLemmas.{get-mapped}
use Rattle.tss_model.specs.Access.{operands_of}
use Rattle.tss_protocol.specs.State.{Flying}
use Rattle.tss_protocol.specs.Stations.{new_operand, entered, first_stage, is_complete, after_ready}
use Rattle.tss_events.specs.Events.{source_of}
use Rattle.tss_stations.specs.declared.operand_view.OperandView.{OperandView}
use Rattle.tss_stations.specs.declared.slot.Slot.{Slot}
use Rattle.tss_stations.specs.Views.{state_of, views_of, flying_of, flight_of, view_in, with_view, new_view, new_slot, told_view, linked_view, parted_view}
use Rattle.tss_stations.specs.Slots.{StationsState, awaited_slot, remaining_slots, slots_after_ready, slots_after_link, slots_after_bye, start_in, slots_after_start, finish_in, slots_after_finish}
use Rattle.tss_stations.specs.Reading.{shown, found_in}
use Rattle.tss_stations.proofs.ViewLemmas.{view_found}
use Rattle.tss_stations.proofs.RowLemmas.{settled_written, awaited_written, ready_known, ready_queued, link_known, bye_known}

-- ---- a task that enters

-- what is known of its operands at first is their first records
entered_operands : (n : ℕ) (os : List Operand) → map state_of (take n (map new_view os)) ≡ map new_operand (take n os)
entered_operands zero os = refl
entered_operands (suc n) [] = refl
entered_operands (suc n) (o ∷ os) = ap (λ rs. new_operand o ∷ rs) (entered_operands n os)

-- and they are as many
entered_length : (n : ℕ) (os : List Operand) → length (take n (map new_view os)) ≡ length (take n os)
entered_length zero os = refl
entered_length (suc n) [] = refl
entered_length (suc n) (o ∷ os) = ap suc (entered_length n os)

first_queued : (os : List Operand) → (length os == 0) ≡ true → stage.Queued ≡ first_stage os
first_queued [] e = refl
first_queued (o ∷ os) e = absurd (grind (arith, nat_tests, e))

first_waiting : (os : List Operand) → (length os == 0) ≡ false → stage.Waiting ≡ first_stage os
first_waiting [] e = absurd (grind (arith, nat_tests, e))
first_waiting (o ∷ os) e = refl

-- the first stage, by what is known
module _ (t : Task) (rs : List OperandView) (e : rs ≡ take t.count (map new_view t.operands)) where
  none_known : (b : Bool) → (length rs == 0) ≡ b → (length (operands_of t) == 0) ≡ b
  none_known b h = ap (λ n. n == 0) (sym (ap length e ∙ entered_length t.count t.operands)) ∙ h

  pub enters_queued : (length rs == 0) ≡ true → stage.Queued ≡ first_stage (operands_of t)
  enters_queued h = first_queued (operands_of t) (none_known true h)

  pub enters_waiting : (length rs == 0) ≡ false → stage.Waiting ≡ first_stage (operands_of t)
  enters_waiting h = first_waiting (operands_of t) (none_known false h)

pub flying-new_slot : (t : Task) → flying_of (new_slot t) ≡ entered t
flying-new_slot t = λ i. record {
  task = t;
  stage = (entered t).stage;
  operands = entered_operands t.count t.operands i;
}

-- ---- what is read

-- a slot that was found
pub slot_there : (r : Option (Bor Slot)) (m : Option Slot) → option_map (λ x. x.now) r ≡ m → is_some r ≡ true →
    (x : Slot) × (m ≡ Some x)
slot_there None m e h = absurd (cc)
slot_there (Some x) m e h = (x.now, sym e)

-- and one that wasn't
pub slot_absent : (r : Option (Bor Slot)) (m : Option Slot) → option_map (λ x. x.now) r ≡ m → is_some r ≡ false → m ≡ None
slot_absent None m e h = sym e
slot_absent (Some x) m e h = absurd (cc)

-- a slot's task with its stage
abbrev pub slot_shown : Slot → Task × Stage
slot_shown x = (x.task, x.stage)

-- and one behind a reference
abbrev pub lent_shown : Bor Task × Stage → Task × Stage
lent_shown t = (t.0.now, t.1)

module _ (slots : Numbered Slot) (task : ℕ) where
  -- a task in flight has a slot
  pub found-flight_of : found_in (flight_of slots) task ≡ option_map slot_shown (get slots task)
  found-flight_of = ap (option_map shown) (get-mapped flying_of slots task) ∙ by (get slots task)
    where
      by : (m : Option Slot) → option_map shown (option_map flying_of m) ≡ option_map slot_shown m
      by None = refl
      by (Some x) = refl

  -- with as many operands
  pub operands-flight_of : option_map (λ (x : Flying). length x.operands) (get (flight_of slots) task)
      ≡ option_map (λ (x : Slot). length (views_of x)) (get slots task)
  operands-flight_of =
      ap (option_map (λ (x : Flying). length x.operands)) (get-mapped flying_of slots task) ∙ by (get slots task)
    where
      by : (m : Option Slot) → option_map (λ (x : Flying). length x.operands) (option_map flying_of m)
          ≡ option_map (λ (x : Slot). length (views_of x)) m
      by None = refl
      by (Some x) = ap Some (length-map (views_of x) state_of)

  pub has-flight_of : is_some (get (flight_of slots) task) ≡ is_some (get slots task)
  has-flight_of = ap is_some (get-mapped flying_of slots task) ∙ by (get slots task)
    where
      by : (m : Option Slot) → is_some (option_map flying_of m) ≡ is_some m
      by None = refl
      by (Some x) = refl

  -- a task that isn't in flight has none
  pub slot_free : get (flight_of slots) task ≡ None → get slots task ≡ None
  slot_free e = by (get slots task) (sym (get-mapped flying_of slots task) ∙ e)
    where
      by : (m : Option Slot) → option_map flying_of m ≡ None → m ≡ None
      by None e = refl
      by (Some x) e = absurd (none-some (flying_of x) (sym e))

-- the same option behind a reference
pub seen_some : (r : Option (Bor Slot)) → is_some (option_map (λ x. x.now) r) ≡ is_some r
seen_some None = refl
seen_some (Some x) = refl

-- ---- the calls of a row

-- a slot is written
abbrev pub Writes : StationsState → StationsState → ℕ → (Slot → Slot) → Type 0
Writes s t task f =
    (x : Slot) → get s.slots task ≡ Some x → t ≡ record s { slots = insert s.slots task (f x) }

-- it is settled
abbrev pub Settles : StationsState → StationsState → ℕ → Type 0
Settles s t task = (x : Slot) → get s.slots task ≡ Some x → t ≡ record s { slots = remaining_slots s.slots task x }

module _ (s t u : StationsState) where
  -- what stands there after a slot was written
  pub read_written : (task : ℕ) (y : Slot) → t ≡ record s { slots = insert s.slots task y } → get t.slots task ≡ Some y
  read_written task y e = ap (λ v. get v.slots task) e ∙ at_inserted nat_order s.slots task y

  settled_state : (task : ℕ) (y : Slot) → t ≡ record s { slots = insert s.slots task y } → Settles t u task →
      u ≡ record s { slots = remaining_slots s.slots task y }
  settled_state task y e settles =
      settles y (read_written task y e)
      ∙ ap (λ (v : StationsState). record v { slots = remaining_slots v.slots task y }) e
      ∙ ap (λ m. record s { slots = m }) (settled_written s.slots task y)

  module _ (o : OpName) (r q : OperandView) (known : view_in s.slots o ≡ Some r)
      (writes : Writes s t o.task (λ x. with_view x o.place q)) where
    written_state : (p : OperandView) → q ≡ p → (x : Slot) → get s.slots o.task ≡ Some x →
        t ≡ record s { slots = insert s.slots o.task (with_view x o.place p) }
    written_state p e x ex = writes x ex ∙ (λ i. record s { slots = insert s.slots o.task (with_view x o.place (e i)) })

    -- there is a slot to wake or settle
    pub written_there : (x : Slot) × (get t.slots o.task ≡ Some x)
    written_there =
        let f = view_found s.slots o r known in
        (with_view f.0 o.place q, read_written o.task (with_view f.0 o.place q) (writes f.0 f.1))

    pub ready_state : (v : OpName) (storage : Storage) → q ≡ told_view v storage r → Writes t u o.task awaited_slot →
        u ≡ record s { slots = slots_after_ready s.slots o v storage }
    ready_state v storage told wakes =
        let f = view_found s.slots o r known in
        let y : Slot = with_view f.0 o.place (told_view v storage r) in
        let e = written_state (told_view v storage r) told f.0 f.1 in
        wakes y (read_written o.task y e)
        ∙ ap (λ (w : StationsState). record w { slots = insert w.slots o.task (awaited_slot y) }) e
        ∙ ap (λ m. record s { slots = m }) (awaited_written s.slots o.task y ∙ sym (ready_known s.slots o v storage f.0 r f.1 f.2))

    pub ready_flag : (v : OpName) (storage : Storage) (b : Bool) → q ≡ told_view v storage r →
        ((x : Slot) → get t.slots o.task ≡ Some x → b ≡ is_complete (flying_of x)) →
        b ≡ (after_ready (flight_of s.slots) o (source_of v storage)).queued
    ready_flag v storage b told complete =
        let f = view_found s.slots o r known in
        let y : Slot = with_view f.0 o.place (told_view v storage r) in
        complete y (read_written o.task y (written_state (told_view v storage r) told f.0 f.1))
        ∙ ready_queued s.slots o v storage f.0 r f.1 f.2

    pub link_state : (next : OpName) → q ≡ linked_view next r → Settles t u o.task →
        u ≡ record s { slots = slots_after_link s.slots o next }
    link_state next linked settles =
        let f = view_found s.slots o r known in
        settled_state o.task (with_view f.0 o.place (linked_view next r)) (written_state (linked_view next r) linked f.0 f.1) settles
        ∙ ap (λ m. record s { slots = m }) (sym (link_known s.slots o next f.0 r f.1 f.2))

    pub bye_state : (promised : Bool) → q ≡ parted_view promised r → Settles t u o.task →
        u ≡ record s { slots = slots_after_bye s.slots o promised }
    bye_state promised parted settles =
        let f = view_found s.slots o r known in
        settled_state o.task (with_view f.0 o.place (parted_view promised r)) (written_state (parted_view promised r) parted f.0 f.1) settles
        ∙ ap (λ m. record s { slots = m }) (sym (bye_known s.slots o promised f.0 r f.1 f.2))

  pub finish_state : (task : ℕ) (x : Slot) → get s.slots task ≡ Some x →
      Writes s t task (λ x. record x { stage = stage.Finished }) → Settles t u task →
      u ≡ record s { slots = slots_after_finish s.slots task }
  finish_state task x ex writes settles =
      settled_state task (record x { stage = stage.Finished }) (writes x ex) settles
      ∙ ap (λ m. record s { slots = m }) (sym (ap (finish_in s.slots task) ex))

module _ (s t : StationsState) where
  pub start_state : (task : ℕ) (x : Slot) → get s.slots task ≡ Some x → Writes s t task (λ x. record x { stage = stage.Running }) →
      t ≡ record s { slots = slots_after_start s.slots task }
  start_state task x ex writes = writes x ex ∙ ap (λ m. record s { slots = m }) (sym (ap (start_in s.slots task) ex))

  -- a task that isn't in flight changes nothing
  pub start_absent : (task : ℕ) → get s.slots task ≡ None → s ≡ record s { slots = slots_after_start s.slots task }
  start_absent task e = ap (λ m. record s { slots = m }) (sym (ap (start_in s.slots task) e))

  pub finish_absent : (task : ℕ) → get s.slots task ≡ None → s ≡ record s { slots = slots_after_finish s.slots task }
  finish_absent task e = ap (λ m. record s { slots = m }) (sym (ap (finish_in s.slots task) e))
