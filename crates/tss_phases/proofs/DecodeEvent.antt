-- What a decode does to phases: its operand goes from decoding to sent.
use Rattle.std.proofs.Common.{◌≡◌, ◌≢◌, cond, Option, Some, None, refl, ap, ◌∙◌}
use Rattle.std.specs.FinMap.{get}
use Rattle.tss_base.specs.declared.operand.OpName.{OpName}
use Rattle.tss_base.specs.declared.operand.Mode.{Mode}
use Rattle.tss_base.specs.declared.operand.Mode.TheVariants.{Input, Output, Inout}
use Rattle.tss_base.specs.declared.operand.Operand.{Operand}
use Rattle.tss_base.specs.declared.machine.Machine.{Machine}
use Rattle.tss_base.specs.declared.event.Event.TheVariants as event
use Rattle.tss_base.specs.declared.marks.How.TheVariants.{Beside, Over}
use Rattle.tss_protocol.specs.Mail.{Home, Buffer, OpenContents, Open, Use}
use Rattle.tss_protocol.specs.State.{State, Entry}
use Rattle.tss_protocol.specs.Renaming.{after_decode, decode_message, live_message, follows_latest, sent_by_decode}
use Rattle.tss_protocol.specs.UnitMachine.{after_event, without, tables_of, with_tables, decode_message_taken}
use Rattle.tss_phases.specs.Phase.{Decoding, Sent, LookUps, look_ups, phase_at, phase_of}
use Rattle.tss_phases.proofs.Received.{own_name, other_name, received, receiver, received_all, received_other}
use Rattle.tss_phases.proofs.Received.{look_ups-sent, missing, missing_other, look_ups-without}
use Rattle.tss_phases.proofs.PhaseLemmas.{phase_decoding, phase_opening, phase_using}

for_itself : (o : OpName) (operand : Operand) (e : Entry) (mode : Mode)
    → receiver (live_message o operand e mode) ≡ o
for_itself o operand e Input = refl
for_itself o operand e Output = refl
for_itself o operand e Inout = refl

-- the message of a decode is for its operand
receiver-decode : (o : OpName) (operand : Operand) (entry : Option Entry)
    → receiver (decode_message o operand entry) ≡ o
receiver-decode o operand None = refl
receiver-decode o operand (Some e) = for_itself o operand e operand.mode

sent_open : (o : OpName) (c : OpenContents) (l : LookUps) → l.decoding ≡ None
    → phase_at (received (Open o c) o l) ≡ Sent
sent_open o c l d = phase_opening (received (Open o c) o l) c d (λ i. cond (own_name o i) (Some c) l.opening)

sent_live : (o : OpName) (operand : Operand) (e : Entry) (mode : Mode) (l : LookUps) → l.decoding ≡ None
    → phase_at (received (live_message o operand e mode) o l) ≡ Sent
sent_live o operand e Input l d =
    phase_using (received (Use o e.latest) o l) e.latest d (λ i. cond (own_name o i) (Some e.latest) l.using)
sent_live o operand e Output l d =
    let follows = Some (follows_latest e Beside) in
    sent_open o (record { operand = operand; storage = Some (Buffer o); follows = follows }) l d
sent_live o operand e Inout l d =
    sent_open o (record { operand = operand; storage = None; follows = Some (follows_latest e Over) }) l d

sent_then : (o : OpName) (operand : Operand) (entry : Option Entry) (l : LookUps) → l.decoding ≡ None
    → phase_at (received (decode_message o operand entry) o l) ≡ Sent
sent_then o operand None l d = sent_open o (record { operand = operand; storage = Some Home; follows = None }) l d
sent_then o operand (Some e) l d = sent_live o operand e operand.mode l d

module _ (m : Machine) (S : State) (o : OpName) (operand : Operand) (there : get S.mail.decodes o ≡ Some operand) where
  -- what is looked up after a decode
  look_ups-decode : (q : OpName) → look_ups (after_event m S (event.Decode o)) q
      ≡ received_all (sent_by_decode o operand (get S.entries operand.object.base)) q
      (missing (event.Decode o) q (look_ups S q))
  unfolding after_event
  look_ups-decode q =
      let T = without S (event.Decode o) in
      let d = after_decode m.sizes (tables_of T) o operand in
      ap (λ x. look_ups (decode_message_taken m T o x) q) there
      ∙ look_ups-sent (with_tables T d.part) d.sent q
      ∙ ap (received_all d.sent q) (look_ups-without S (event.Decode o) q)

  -- of its operand: the decode is gone, and there is an open or a use
  pub look_ups-decode-own : look_ups (after_event m S (event.Decode o)) o
      ≡ received (decode_message o operand (get S.entries operand.object.base)) o
      (record (look_ups S o) { decoding = None })
  look_ups-decode-own =
      look_ups-decode o
      ∙ (λ i. received (decode_message o operand (get S.entries operand.object.base)) o (record (look_ups S o) {
        decoding = cond (own_name o i) None (get S.mail.decodes o);
      }))

  -- before it, its operand is decoding
  pub decoding_before : phase_of S o ≡ Decoding
  decoding_before = phase_decoding (look_ups S o) operand there

  -- after it, it is sent
  pub phase_of-decode : phase_of (after_event m S (event.Decode o)) o ≡ Sent
  phase_of-decode =
      ap phase_at look_ups-decode-own
      ∙ sent_then o operand (get S.entries operand.object.base) (record (look_ups S o) { decoding = None }) refl

  -- nothing is changed of another operand
  pub look_ups-decode-other : (q : OpName) → q ≢ o
      → look_ups (after_event m S (event.Decode o)) q ≡ look_ups S q
  look_ups-decode-other q apart =
      let entry = get S.entries operand.object.base in
      look_ups-decode q
      ∙ received_other (decode_message o operand entry) q (missing (event.Decode o) q (look_ups S q))
      (λ e. apart (e ∙ receiver-decode o operand entry))
      ∙ missing_other (event.Decode o) q (look_ups S q) (other_name q o apart)

  -- nor its phase
  pub phase_of-decode-other : (q : OpName) → q ≢ o → phase_of (after_event m S (event.Decode o)) q ≡ phase_of S q
  phase_of-decode-other q apart = ap phase_at (look_ups-decode-other q apart)
