-- What is in use after each event but those of main: operands that are still to be decoded, and entries.
use Rattle.std.proofs.Common.{◌≡◌, ℕ, suc, ◌⊎◌, false, List, [], ◌∷◌, Option, Some, None, refl, sym, ap, ◌∙◌, subst}
use Rattle.std.proofs.Common.{inl, inr}
use Rattle.std.specs.Prelude.{slice_get}
use Rattle.std.proofs.lemmas.Option.{none-some}
use Rattle.std.specs.FinMap.{get}
use Rattle.tss_base.specs.declared.operand.OpName.{OpName}
use Rattle.tss_base.specs.declared.operand.Mode.{Mode}
use Rattle.tss_base.specs.declared.operand.Mode.TheVariants.{Input, Output, Inout}
use Rattle.tss_base.specs.declared.operand.Operand.{Operand}
use Rattle.tss_base.specs.declared.operand.Task.{Task}
use Rattle.tss_base.specs.declared.machine.Machine.{Machine}
use Rattle.tss_base.specs.declared.event.Event.{Event}
use Rattle.tss_base.specs.declared.event.Event.TheVariants as event
use Rattle.tss_maps.proofs.Keys.{name_order}
use Rattle.tss_maps.proofs.Changes.{from_inserted, from_removed}
use Rattle.tss_model.specs.Access.{operands_of}
use Rattle.tss_protocol.specs.Names.{operand_name}
use Rattle.tss_protocol.specs.Mail.{Mail, Decode, posted, posted_all, taken}
use Rattle.tss_protocol.specs.Gateway.{decodes_from}
use Rattle.tss_protocol.specs.Renaming.{live_message, sent_by_decode}
use Rattle.tss_protocol.specs.State.{Entry, State}
use Rattle.tss_protocol.specs.UnitMachine.{without, decode_message_taken, after_take, after_event}
use Rattle.tss_locality.specs.Rounds.{IsIn, AreInUse, IsRounded}
use Rattle.tss_protocol.proofs.FrontLemmas.{Front, is_of_front, KeepsFront-after_event}
use Rattle.tss_locality.proofs.LeftFields.{Leaves-after_event}
use Rattle.tss_locality.proofs.EntryChanges.{object_found, decoded_object, entries_decoded, entries_idle, entries_gone}

-- ---- what decode and take leave to be decoded

live_decodes : (m : Mail) (o : OpName) (p : Operand) (e : Entry) (mode : Mode) →
    (posted m (live_message o p e mode)).decodes ≡ m.decodes
live_decodes m o p e Input = refl
live_decodes m o p e Output = refl
live_decodes m o p e Inout = refl

sent_decodes : (m : Mail) (o : OpName) (p : Operand) (e : Option Entry) →
    (posted_all m (sent_by_decode o p e)).decodes ≡ m.decodes
sent_decodes m o p None = refl
sent_decodes m o p (Some e) = live_decodes m o p e p.mode

module _ (m : Machine) (S : State) where
  decodes_by : (o : OpName) (x : Option Operand) (q : OpName) (p : Operand) →
      get (decode_message_taken m (without S (event.Decode o)) o x).mail.decodes q ≡ Some p →
      get S.mail.decodes q ≡ Some p
  decodes_by o None q p e = (from_removed name_order S.mail.decodes o q p e).1
  decodes_by o (Some x) q p e =
      let same = sent_decodes (taken S.mail (event.Decode o)) o x (get S.entries x.object.base) in
      (from_removed name_order S.mail.decodes o q p (ap (λ ds. get ds q) (sym same) ∙ e)).1

  decodes_left : (o q : OpName) (p : Operand) → get (after_event m S (event.Decode o)).mail.decodes q ≡ Some p →
      get S.mail.decodes q ≡ Some p
  unfolding after_event
  decodes_left o = decodes_by o (get S.mail.decodes o)

-- an operand that is to be decoded after a take is one of the task's, or was to be decoded before
from_decodes_sent : (m : Mail) (task place : ℕ) (os : List Operand) (o : OpName) (p : Operand) →
    get (posted_all m (decodes_from task place os)).decodes o ≡ Some p →
    ((j : ℕ) × (slice_get os j ≡ Some p)) ⊎ (get m.decodes o ≡ Some p)
from_decodes_sent m task place [] o p e = inr e
from_decodes_sent m task place (x ∷ os) o p e =
    elim (from_decodes_sent (posted m (Decode (operand_name task place) x)) task (suc place) os o p e) [
      | inl own ↦ inl (suc own.0, own.1)
      | inr here ↦ elim (from_inserted name_order m.decodes (operand_name task place) x o p here) [
        | inl new ↦ inl (0, ap Some (sym new.1))
        | inr old ↦ inr old.1
      ]
    ]

module _ (m : Machine) (S : State) (ts : List Task) (r : IsRounded S ts) where
  -- where no operand comes to be decoded
  left_in_use : (e : Event) → ((t : Task) → (after_event m S e).inbox ≡ Some t → S.inbox ≡ Some t) →
      ((o : OpName) (p : Operand) → get (after_event m S e).mail.decodes o ≡ Some p →
      get S.mail.decodes o ≡ Some p) →
      ((b : ℕ) (y : Entry) → get (after_event m S e).entries b ≡ Some y → IsIn y.object S.main.epoch) →
      AreInUse S.main.epoch (after_event m S e)
  left_in_use e inbox decodes entered = record {
    arriving = λ t there. r.named.arriving t (inbox t there);
    decoding = λ o p at. r.named.decoding o p (decodes o p at);
    entered = entered;
  }

  -- an event that leaves the front, by its entries
  front_in_use : (e : Event) → is_of_front e ≡ false →
      ((b : ℕ) (y : Entry) → get (after_event m S e).entries b ≡ Some y → IsIn y.object S.main.epoch) →
      AreInUse S.main.epoch (after_event m S e)
  front_in_use e quiet entered =
      let k = KeepsFront-after_event m S e quiet in
      left_in_use e (λ t there. sym (ap (λ (f : Front). f.inbox) k.front) ∙ there)
      (λ o p at. sym (ap (λ (f : Front). get f.decodes o) k.front) ∙ at) entered

  -- and leaves the entries
  pub quiet_in_use : (e : Event) → is_of_front e ≡ false → (after_event m S e).entries ≡ S.entries →
      AreInUse S.main.epoch (after_event m S e)
  quiet_in_use e quiet same =
      front_in_use e quiet (λ b y at. r.named.entered b y (ap (λ es. get es b) (sym same) ∙ at))

  pub idle_in_use : (v : OpName) → AreInUse S.main.epoch (after_event m S (event.Idle v))
  idle_in_use v = front_in_use (event.Idle v) refl (λ b y at. elim (entries_idle m S v b y at) [
    | inl was ↦ r.named.entered b y was
    | inr d ↦ subst (λ x. IsIn x S.main.epoch) (sym d.object) (r.named.entered b d.entry d.there)
  ])

  pub gone_in_use : (v : OpName) → AreInUse S.main.epoch (after_event m S (event.Gone v))
  gone_in_use v = front_in_use (event.Gone v) refl (λ b y at. r.named.entered b y (entries_gone m S v b y at))

  acked_decodes : (o : OpName) → (after_event m S (event.Ack o)).mail.decodes ≡ S.mail.decodes
  unfolding after_event
  acked_decodes o = refl

  pub acked_in_use : (o : OpName) → AreInUse S.main.epoch (after_event m S (event.Ack o))
  acked_in_use o = left_in_use (event.Ack o)
      (λ t there. sym (λ i. (Leaves-after_event m S (event.Ack o) i).inbox) ∙ there)
      (λ q p at. ap (λ ds. get ds q) (sym (acked_decodes o)) ∙ at)
      (λ b y at. r.named.entered b y
      (ap (λ es. get es b) (sym (λ i. (Leaves-after_event m S (event.Ack o) i).entries)) ∙ at))

  found_named : (p : Operand) (e : Option Entry) → IsIn p.object S.main.epoch →
      ((y : Entry) → e ≡ Some y → IsIn y.object S.main.epoch) → IsIn (object_found p.object e) S.main.epoch
  found_named p None own entered = own
  found_named p (Some y) own entered = entered y refl

  pub decoded_in_use : (o : OpName) → AreInUse S.main.epoch (after_event m S (event.Decode o))
  decoded_in_use o = left_in_use (event.Decode o)
      (λ t there. sym (λ i. (Leaves-after_event m S (event.Decode o) i).inbox) ∙ there)
      (decodes_left m S o)
      (λ b y at. elim (entries_decoded m S o b y at) [
        | inl was ↦ r.named.entered b y was
        | inr d ↦
            let p = d.operand in
            let e = get S.entries p.object.base in
            subst (λ x. IsIn x S.main.epoch)
            (sym (ap (λ (y : Entry). y.object) d.entry ∙ decoded_object o p e))
            (found_named p e (r.named.decoding o p d.there) (λ y at. r.named.entered p.object.base y at))
      ])

  taken_by : (i : Option Task) → S.inbox ≡ i → AreInUse S.main.epoch (after_take S i)
  taken_by None there = r.named
  taken_by (Some t) there = record {
    arriving = λ u e. absurd (none-some u e);
    decoding = λ o p e. elim (from_decodes_sent S.mail t.number 0 (operands_of t) o p e) [
      | inl own ↦ r.named.arriving t there own.0 p own.1
      | inr old ↦ r.named.decoding o p old
    ];
    entered = r.named.entered;
  }

  pub taken_in_use : AreInUse S.main.epoch (after_event m S event.Take)
  unfolding after_event
  taken_in_use = taken_by S.inbox refl
