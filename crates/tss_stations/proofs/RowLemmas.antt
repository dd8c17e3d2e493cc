-- What each row leaves of the slots is what it leaves of the tasks in flight.
use Rattle.std.proofs.Common.{◌≡◌, ℕ, Bool, true, false, [], Option, Some, None, refl, sym, ap, ◌∙◌, option_map}
use Rattle.std.specs.Prelude.{slice_get, option_and_then, if◌then◌else◌}
use Rattle.std.specs.FinMap.{get, insert, remove}
use Rattle.tss_base.specs.declared.operand.OpName.{OpName}
use Rattle.tss_base.specs.declared.operand.Storage.{Storage}
use Rattle.tss_base.specs.declared.marks.Stage.TheVariants as stage
use Rattle.tss_base.specs.declared.marks.LinkState.{LinkState}
use Rattle.tss_base.specs.declared.marks.LinkState.TheVariants as link
use Rattle.tss_base.specs.Names.{Numbered}
use Rattle.tss_maps.proofs.Keys.{nat_order}
use Rattle.tss_maps.proofs.Changes.{insert_same, insert_again, remove_written}
use Rattle.tss_maps.proofs.MappedLemmas.{get-mapped, mapped-insert}
use Rattle.tss_protocol.specs.State.{Flying}
use Rattle.tss_protocol.specs.Stations.{is_complete, is_gone, remaining_tasks, sent_by_ready, sent_by_link, woken_by, woken_in, after_ready, task_after_ready, awaited, linked_by, linked_in, after_link, parted_by, parted_in, after_bye, finished_in, flight_after_finish}
use Rattle.tss_events.specs.Events.{source_of, messages_of}
use Rattle.tss_stations.specs.declared.operand_view.OperandView.{OperandView}
use Rattle.tss_stations.specs.declared.slot.Slot.{Slot}
use Rattle.tss_stations.specs.Views.{source_by, state_of, flying_of, flight_of, view_at, view_in, with_view, told_view, linked_view, parted_view}
use Rattle.tss_stations.specs.Slots.{awaited_slot, remaining_slots, ready_by, ready_in, slots_after_ready, link_by, link_in, slots_after_link, bye_by, bye_in, slots_after_bye, start_in, slots_after_start, finish_in, slots_after_finish}
use Rattle.tss_stations.specs.Passing.{passed_by, told_by, sent_on_ready, sent_on_link}
use Rattle.tss_stations.specs.Reading.{started_by, started}
use Rattle.tss_stations.proofs.ViewLemmas.{flying-with_view, flying-awaited_slot, flight-remaining_slots, flight_found, state_found, operand_at-flight_of, view_found}

module _ (slots : Numbered Slot) where
  -- an operand that isn't known has no record
  absent : (o : OpName) → view_in slots o ≡ None →
      option_and_then (λ (x : Flying). slice_get x.operands o.place) (get (flight_of slots) o.task) ≡ None
  absent o e = sym (operand_at-flight_of slots o) ∙ ap (option_map state_of) e

  -- ---- ready

  module _ (o v : OpName) (s : Storage) where
    -- an operand that isn't known changes nothing
    pub ready_absent : view_in slots o ≡ None → slots_after_ready slots o v s ≡ slots
    ready_absent e = by (get slots o.task) e
      where
        by : (m : Option Slot) → option_and_then (view_at o.place) m ≡ None → ready_in slots o v s m ≡ slots
        by None e = refl
        by (Some x) e = ap (ready_by slots o v s x) e

    pub woken_absent : view_in slots o ≡ None →
        after_ready (flight_of slots) o (source_of v s)
        ≡ record { flight = flight_of slots; sent = []; queued = false }
    woken_absent e = by (get (flight_of slots) o.task) (absent o e)
      where
        by : (m : Option Flying) → option_and_then (λ (x : Flying). slice_get x.operands o.place) m ≡ None →
            woken_in (flight_of slots) o (source_of v s) m ≡ record { flight = flight_of slots; sent = []; queued = false }
        by None e = refl
        by (Some y) e = ap (woken_by (flight_of slots) o (source_of v s) y) e

    module _ (x : Slot) (r : OperandView) (ex : get slots o.task ≡ Some x) (er : view_at o.place x ≡ Some r) where
      pub ready_known : slots_after_ready slots o v s ≡ insert slots o.task (awaited_slot (with_view x o.place (told_view v s r)))
      ready_known = ap (ready_in slots o v s) ex ∙ ap (ready_by slots o v s x) er

      pub woken_known :
          after_ready (flight_of slots) o (source_of v s)
          ≡ woken_by (flight_of slots) o (source_of v s) (flying_of x) (Some (state_of r))
      woken_known =
          ap (woken_in (flight_of slots) o (source_of v s)) (flight_found slots o.task x ex)
          ∙ ap (woken_by (flight_of slots) o (source_of v s) (flying_of x)) (state_found x o.place r er)

      pub told_flying :
          flying_of (with_view x o.place (told_view v s r))
          ≡ task_after_ready (flying_of x) o.place (state_of r) (source_of v s)
      told_flying = flying-with_view x o.place r (told_view v s r) er

      -- the task is queued where it is complete
      pub ready_queued :
          is_complete (flying_of (with_view x o.place (told_view v s r)))
          ≡ (after_ready (flight_of slots) o (source_of v s)).queued
      ready_queued = ap is_complete told_flying ∙ sym (ap (λ w. w.queued) woken_known)

      ready_flight_known : flight_of (slots_after_ready slots o v s) ≡ (after_ready (flight_of slots) o (source_of v s)).flight
      ready_flight_known =
          ap flight_of ready_known
          ∙ mapped-insert nat_order flying_of slots o.task (awaited_slot (with_view x o.place (told_view v s r)))
          ∙ ap (insert (flight_of slots) o.task) (flying-awaited_slot (with_view x o.place (told_view v s r)) ∙ ap awaited told_flying)
          ∙ sym (ap (λ w. w.flight) woken_known)

    pub ready_flight : flight_of (slots_after_ready slots o v s) ≡ (after_ready (flight_of slots) o (source_of v s)).flight
    ready_flight = by (view_in slots o) refl
      where
        by : (q : Option OperandView) → view_in slots o ≡ q →
            flight_of (slots_after_ready slots o v s) ≡ (after_ready (flight_of slots) o (source_of v s)).flight
        by None e = ap flight_of (ready_absent e) ∙ sym (ap (λ w. w.flight) (woken_absent e))
        by (Some r) e = let f = view_found slots o r e in ready_flight_known f.0 r f.1 f.2

    -- the readies that are sent are the definitions'
    pub ready_sent : messages_of (sent_on_ready v s (view_in slots o)) ≡ (after_ready (flight_of slots) o (source_of v s)).sent
    ready_sent = by (view_in slots o) refl
      where
        passed : (l : LinkState) → messages_of (passed_by v s l) ≡ sent_by_ready l (source_of v s)
        passed link.Nothing = refl
        passed (link.Held next) = refl
        passed link.Passed = refl

        by : (q : Option OperandView) → view_in slots o ≡ q →
            messages_of (sent_on_ready v s q) ≡ (after_ready (flight_of slots) o (source_of v s)).sent
        by None e = sym (ap (λ w. w.sent) (woken_absent e))
        by (Some r) e =
            let f = view_found slots o r e in
            passed r.link ∙ sym (ap (λ w. w.sent) (woken_known f.0 r f.1 f.2))

  -- ---- link

  module _ (o next : OpName) where
    pub link_absent : view_in slots o ≡ None → slots_after_link slots o next ≡ slots
    link_absent e = by (get slots o.task) e
      where
        by : (m : Option Slot) → option_and_then (view_at o.place) m ≡ None → link_in slots o next m ≡ slots
        by None e = refl
        by (Some x) e = ap (link_by slots o next x) e

    pub linked_absent : view_in slots o ≡ None →
        after_link (flight_of slots) o next ≡ record { part = flight_of slots; sent = [] }
    linked_absent e = by (get (flight_of slots) o.task) (absent o e)
      where
        by : (m : Option Flying) → option_and_then (λ (x : Flying). slice_get x.operands o.place) m ≡ None →
            linked_in (flight_of slots) o next m ≡ record { part = flight_of slots; sent = [] }
        by None e = refl
        by (Some y) e = ap (linked_by (flight_of slots) o next y) e

    module _ (x : Slot) (r : OperandView) (ex : get slots o.task ≡ Some x) (er : view_at o.place x ≡ Some r) where
      pub link_known : slots_after_link slots o next ≡ remaining_slots slots o.task (with_view x o.place (linked_view next r))
      link_known = ap (link_in slots o next) ex ∙ ap (link_by slots o next x) er

      pub linked_known :
          after_link (flight_of slots) o next
          ≡ linked_by (flight_of slots) o next (flying_of x) (Some (state_of r))
      linked_known =
          ap (linked_in (flight_of slots) o next) (flight_found slots o.task x ex)
          ∙ ap (linked_by (flight_of slots) o next (flying_of x)) (state_found x o.place r er)

      link_flight_known : flight_of (slots_after_link slots o next) ≡ (after_link (flight_of slots) o next).part
      link_flight_known =
          ap flight_of link_known
          ∙ flight-remaining_slots slots o.task (with_view x o.place (linked_view next r))
          ∙ ap (remaining_tasks (flight_of slots) o.task) (flying-with_view x o.place r (linked_view next r) er)
          ∙ sym (ap (λ w. w.part) linked_known)

    pub link_flight : flight_of (slots_after_link slots o next) ≡ (after_link (flight_of slots) o next).part
    link_flight = by (view_in slots o) refl
      where
        by : (q : Option OperandView) → view_in slots o ≡ q →
            flight_of (slots_after_link slots o next) ≡ (after_link (flight_of slots) o next).part
        by None e = ap flight_of (link_absent e) ∙ sym (ap (λ w. w.part) (linked_absent e))
        by (Some r) e = let f = view_found slots o r e in link_flight_known f.0 r f.1 f.2

    -- the readies that are sent are the definitions'
    pub link_sent : messages_of (sent_on_link next (view_in slots o)) ≡ (after_link (flight_of slots) o next).sent
    link_sent = by (view_in slots o) refl
      where
        told : (v : Option OpName) (s : Option Storage) → messages_of (told_by next v s) ≡ sent_by_link (source_by v s) next
        told None s = refl
        told (Some v) None = refl
        told (Some v) (Some s) = refl

        by : (q : Option OperandView) → view_in slots o ≡ q →
            messages_of (sent_on_link next q) ≡ (after_link (flight_of slots) o next).sent
        by None e = sym (ap (λ w. w.sent) (linked_absent e))
        by (Some r) e =
            let f = view_found slots o r e in
            told r.version r.storage ∙ sym (ap (λ w. w.sent) (linked_known f.0 r f.1 f.2))

  -- ---- bye

  module _ (o : OpName) (promised : Bool) where
    pub bye_absent : view_in slots o ≡ None → slots_after_bye slots o promised ≡ slots
    bye_absent e = by (get slots o.task) e
      where
        by : (m : Option Slot) → option_and_then (view_at o.place) m ≡ None → bye_in slots o promised m ≡ slots
        by None e = refl
        by (Some x) e = ap (bye_by slots o promised x) e

    parted_absent : view_in slots o ≡ None → after_bye (flight_of slots) o promised ≡ flight_of slots
    parted_absent e = by (get (flight_of slots) o.task) (absent o e)
      where
        by : (m : Option Flying) → option_and_then (λ (x : Flying). slice_get x.operands o.place) m ≡ None →
            parted_in (flight_of slots) o promised m ≡ flight_of slots
        by None e = refl
        by (Some y) e = ap (parted_by (flight_of slots) o promised y) e

    module _ (x : Slot) (r : OperandView) (ex : get slots o.task ≡ Some x) (er : view_at o.place x ≡ Some r) where
      pub bye_known : slots_after_bye slots o promised ≡ remaining_slots slots o.task (with_view x o.place (parted_view promised r))
      bye_known = ap (bye_in slots o promised) ex ∙ ap (bye_by slots o promised x) er

      bye_flight_known : flight_of (slots_after_bye slots o promised) ≡ after_bye (flight_of slots) o promised
      bye_flight_known =
          ap flight_of bye_known
          ∙ flight-remaining_slots slots o.task (with_view x o.place (parted_view promised r))
          ∙ ap (remaining_tasks (flight_of slots) o.task) (flying-with_view x o.place r (parted_view promised r) er)
          ∙ sym (ap (parted_in (flight_of slots) o promised) (flight_found slots o.task x ex)
          ∙ ap (parted_by (flight_of slots) o promised (flying_of x)) (state_found x o.place r er))

    pub bye_flight : flight_of (slots_after_bye slots o promised) ≡ after_bye (flight_of slots) o promised
    bye_flight = by (view_in slots o) refl
      where
        by : (q : Option OperandView) → view_in slots o ≡ q →
            flight_of (slots_after_bye slots o promised) ≡ after_bye (flight_of slots) o promised
        by None e = ap flight_of (bye_absent e) ∙ sym (parted_absent e)
        by (Some r) e = let f = view_found slots o r e in bye_flight_known f.0 r f.1 f.2

  -- ---- start and finish

  module _ (task : ℕ) where
    pub start_flight : flight_of (slots_after_start slots task) ≡ started (flight_of slots) task
    start_flight = by (get slots task) ∙ ap (started_by (flight_of slots) task) (sym (get-mapped flying_of slots task))
      where
        by : (m : Option Slot) →
            flight_of (start_in slots task m) ≡ started_by (flight_of slots) task (option_map flying_of m)
        by None = refl
        by (Some x) = mapped-insert nat_order flying_of slots task (record x { stage = stage.Running })

    pub finish_flight : flight_of (slots_after_finish slots task) ≡ (flight_after_finish (flight_of slots) task).part
    finish_flight =
        by (get slots task) ∙ ap (λ m. (finished_in (flight_of slots) task m).part) (sym (get-mapped flying_of slots task))
      where
        by : (m : Option Slot) →
            flight_of (finish_in slots task m) ≡ (finished_in (flight_of slots) task (option_map flying_of m)).part
        by None = refl
        by (Some x) = flight-remaining_slots slots task (record x { stage = stage.Finished })

  -- ---- a slot that was written, and then settled

  settled_by : (b : Bool) (task : ℕ) (x : Slot) →
      (if b then remove (insert slots task x) task else insert (insert slots task x) task x)
      ≡ (if b then remove slots task else insert slots task x)
  settled_by true task x = remove_written nat_order slots task x
  settled_by false task x = insert_again nat_order slots task x x

  pub settled_written : (task : ℕ) (x : Slot) → remaining_slots (insert slots task x) task x ≡ remaining_slots slots task x
  settled_written task x = settled_by (is_gone (flying_of x)) task x

  -- a slot whose task hasn't left stays
  pub remaining_kept : (task : ℕ) (x : Slot) → get slots task ≡ Some x → is_gone (flying_of x) ≡ false →
      remaining_slots slots task x ≡ slots
  remaining_kept task x there e =
      ap (λ b. if b then remove slots task else insert slots task x) e ∙ insert_same nat_order slots task x there

  -- one that was written, and then queued
  pub awaited_written : (task : ℕ) (x : Slot) →
      insert (insert slots task x) task (awaited_slot x) ≡ insert slots task (awaited_slot x)
  awaited_written task x = insert_again nat_order slots task x (awaited_slot x)
