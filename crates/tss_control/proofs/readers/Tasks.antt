-- Decode, take, finish and bye change no version and no link of a reader that has come.
use Rattle.std.proofs.Common.{◌≡◌, ◌≢◌, inl, inr, Bool, true, false, List, Option, Some, None, refl, sym, ap, ◌∙◌}
use Rattle.std.proofs.Common.{subst}
use Rattle.std.specs.Prelude.{slice_get, option_map}
use Rattle.std.specs.FinMap.{get}
use Rattle.std.proofs.lemmas.Option.{none-some, same_Some}
use Rattle.tss_base.specs.declared.operand.OpName.{OpName}
use Rattle.tss_base.specs.declared.operand.Operand.{Operand}
use Rattle.tss_base.specs.declared.operand.Task.{Task}
use Rattle.tss_base.specs.declared.machine.Machine.{Machine}
use Rattle.tss_base.specs.declared.event.Event.TheVariants as event
use Rattle.tss_base.specs.declared.marks.LinkState.TheVariants as link
use Rattle.tss_maps.proofs.Keys.{nat_order, name_order, decide_key}
use Rattle.tss_model.specs.Access.{operands_of}
use Rattle.tss_protocol.specs.State.{State, OperandState}
use Rattle.tss_protocol.specs.Stations.{operand_at, new_operand, entered, flight_after_take}
use Rattle.tss_protocol.specs.UnitMachine.{IsEnabled, is_enabled, after_event, after_take, can_decode_message}
use Rattle.tss_phases.specs.Phase.{Phase, Decoding, Sent, Ready, Releasing, Leaving, look_ups, phase_of}
use Rattle.tss_phases.specs.Leaving.{phase_parted}
use Rattle.tss_phases.specs.Orderly.{AreOrderly, TakesSpawned}
use Rattle.tss_phases.proofs.Tests.{something, not_both}
use Rattle.tss_phases.proofs.Records.{record_beside_put}
use Rattle.tss_phases.proofs.OrderlyLemmas.{ahead_by_test}
use Rattle.tss_phases.proofs.OrderlyDecode.{new_record}
use Rattle.tss_phases.proofs.DecodeEvent.{decoding_before, phase_of-decode, phase_of-decode-other}
use Rattle.tss_phases.proofs.TakeEvent.{inbox_is_ahead, phase_of-take-other}
use Rattle.tss_locality.proofs.LeftFields.{Leaves-after_event}
use Rattle.tss_control.specs.Members.{operand_among}
use Rattle.tss_control.specs.Readers.{Arrivals, Holds, HasReaders, has_arrived}
use Rattle.tss_control.proofs.rounds.ReadersKept.{SameReader, LooksAlike, alike_same, same_version}
use Rattle.tss_control.proofs.rounds.ReadersStates.{nothing_held, readers_kept}
use Rattle.tss_control.proofs.readers.Links.{links-decode, links-take}

-- ---- phases that look alike

-- phases that are known, and look alike
pub alike_by : (p q a b : Phase) → p ≡ a → q ≡ b → LooksAlike a b → LooksAlike p q
alike_by p q a b e f h = subst (λ p. LooksAlike p q) (sym e) (subst (LooksAlike a) (sym f) h)

-- as do these
sent_alike : LooksAlike Decoding Sent
sent_alike = record { waiting = refl; told = refl; released = refl; arrived = refl }

-- nor between one that is ready and one that releases
pub releasing_alike : LooksAlike Ready Releasing
releasing_alike = record { waiting = refl; told = refl; released = refl; arrived = refl }

-- nor between one that leaves and one that has parted
pub parted_alike : (b : Bool) → LooksAlike Leaving (phase_parted b)
parted_alike true = record { waiting = refl; told = refl; released = refl; arrived = refl }
parted_alike false = record { waiting = refl; told = refl; released = refl; arrived = refl }

module _ (ts : List Task) (g : Arrivals) (S T : State) (h : HasReaders ts g S) where
  -- the same versions and links, where readers that have come stay as they were
  pub readers_by : T.versions ≡ S.versions → T.mail.links ≡ S.mail.links
      → ((a : OpName) (p : Operand) → operand_among ts a ≡ Some p → has_arrived (phase_of S a) ≡ true
      → SameReader S T a)
      → ((a b : OpName) → Holds T a b → Holds S a b) → HasReaders ts g T
  readers_by versions links each held = readers_kept ts g S T (record {
    versions = λ v z e. (z, sym (ap (λ vs. get vs v) versions) ∙ e, same_version z z refl);
    stay = λ v y e. (y, ap (λ vs. get vs v) versions ∙ e);
    each = λ v y a e k.
        let arrival = (h.versions v y e).each a k in
        each a arrival.on.operand arrival.on.there arrival.arrived;
    links = λ a b e. sym (ap (λ ls. get ls a) links) ∙ e;
    held = held;
  }) h

-- ---- decode

module _ (m : Machine) (ts : List Task) (g : Arrivals) (S : State) (h : HasReaders ts g S) where
  module _ (o : OpName) (operand : Operand) (there : get S.mail.decodes o ≡ Some operand) where
    abbrev Decoded : State
    Decoded = after_event m S (event.Decode o)

    decode_alike : (a : OpName) → LooksAlike (phase_of S a) (phase_of Decoded a)
    decode_alike a = elim (decide_key name_order a o) [
      | inl same ↦ alike_by (phase_of S a) (phase_of Decoded a) Decoding Sent
          (ap (phase_of S) same ∙ decoding_before m S o operand there)
          (ap (phase_of Decoded) same ∙ phase_of-decode m S o operand there) sent_alike
      | inr apart ↦ alike_same (phase_of S a) (phase_of Decoded a)
          (phase_of-decode-other m S o operand there a apart)
    ]

    decode_flight : Decoded.flight ≡ S.flight
    decode_flight = λ i. (Leaves-after_event m S (event.Decode o) i).flight

    readers_decoded : HasReaders ts g Decoded
    readers_decoded =
        readers_by ts g S Decoded h (λ i. (Leaves-after_event m S (event.Decode o) i).versions) (links-decode m S o)
        (λ a p at arrived. record {
          phase = decode_alike a;
          links = ap (λ ls. get ls a) (links-decode m S o);
          holds = λ c k. (k.0, ap (λ f. operand_at f a) decode_flight ∙ k.1, k.2);
          station = λ r e. (r, sym (ap (λ f. operand_at f a) decode_flight) ∙ e, refl);
        })
        (λ a b k. (k.0, sym (ap (λ f. operand_at f a) decode_flight) ∙ k.1, k.2))

  -- decode
  pub HasReaders-decode : (o : OpName) → IsEnabled m S (event.Decode o)
      → HasReaders ts g (after_event m S (event.Decode o))
  unfolding is_enabled
  HasReaders-decode o enabled =
      let x = something (can_decode_message m S o) (get S.mail.decodes o) refl enabled in
      readers_decoded o x.0 x.1

  -- ---- take

  module _ (orderly : AreOrderly S) (t : Task) (inbox : S.inbox ≡ Some t) (spawned : TakesSpawned S) where
    abbrev Taken : State
    Taken = after_event m S event.Take

    taken_flight : (q : OpName) → operand_at Taken.flight q ≡ operand_at (flight_after_take S.flight t) q
    unfolding after_event
    taken_flight q = ap (λ x. operand_at (after_take S x).flight q) inbox

    taken_record : (q : OpName) → q.task ≢ t.number → operand_at Taken.flight q ≡ operand_at S.flight q
    taken_record q other = taken_flight q ∙ record_beside_put S.flight t.number (entered t) q other

    new_link : (x : Option Operand) (r : OperandState) → option_map new_operand x ≡ Some r → r.link ≡ link.Nothing
    new_link None r e = absurd (none-some r e)
    new_link (Some p) r e = sym (ap (λ (r : OperandState). r.link) (same_Some (new_operand p) r e))

    taken_held : (a b : OpName) → Holds Taken a b → Holds S a b
    taken_held a b k = elim (decide_key nat_order a.task t.number) [
      | inr other ↦ (k.0, sym (taken_record a other) ∙ k.1, k.2)
      | inl same ↦ absurd (nothing_held k.0.link b (new_link (slice_get (operands_of t) a.place) k.0
          (sym (new_record m S orderly t inbox (spawned t inbox) a same) ∙ sym (taken_flight a) ∙ k.1)) k.2)
    ]

    not_arrived : (a : OpName) → has_arrived (phase_of S a) ≡ true → a.task ≢ t.number
    not_arrived a arrived same =
        not_both (has_arrived (phase_of S a)) arrived
        (ap has_arrived (ahead_by_test (look_ups S a) (orderly a) (inbox_is_ahead m S t inbox a same)))

    readers_taken : HasReaders ts g Taken
    readers_taken =
        readers_by ts g S Taken h (λ i. (Leaves-after_event m S event.Take i).versions) (links-take m S)
        (λ a p at arrived.
        let other = not_arrived a arrived in
        record {
          phase = alike_same (phase_of S a) (phase_of Taken a) (phase_of-take-other m S t inbox a other);
          links = ap (λ ls. get ls a) (links-take m S);
          holds = λ c k. (k.0, taken_record a other ∙ k.1, k.2);
          station = λ r e. (r, sym (taken_record a other) ∙ e, refl);
        })
        taken_held

  -- take
  pub HasReaders-take : AreOrderly S → TakesSpawned S → HasReaders ts g (after_event m S event.Take)
  unfolding after_event
  HasReaders-take orderly spawned = by S.inbox refl
    where
      by : (x : Option Task) → S.inbox ≡ x → HasReaders ts g (after_take S S.inbox)
      by None e = subst (λ x. HasReaders ts g (after_take S x)) (sym e) h
      by (Some t) e = readers_taken orderly t e spawned
