-- Every decode keeps the entries, and the causes of refusals.
use Rattle.std.proofs.Common.{◌≡◌, ◌≢◌, Bool, true, false, Option, Some, None, refl, sym, ap, ◌∙◌, true≢false}
use Rattle.std.specs.Prelude.{is_none}
use Rattle.std.specs.FinMap.{get, insert}
use Rattle.tss_base.specs.declared.operand.OpName.{OpName}
use Rattle.tss_base.specs.declared.operand.Mode.{Mode}
use Rattle.tss_base.specs.declared.operand.Mode.TheVariants.{Input, Output, Inout}
use Rattle.tss_base.specs.declared.operand.Operand.{Operand}
use Rattle.tss_base.specs.declared.machine.Machine.{Machine}
use Rattle.tss_base.specs.declared.event.Event.TheVariants as event
use Rattle.tss_base.specs.declared.marks.How.TheVariants.{Beside, Over}
use Rattle.tss_protocol.specs.Names.{bank_of}
use Rattle.tss_protocol.specs.Mail.{Home, Buffer, OpenContents, Message, Ack, Open, Use, Mail, posted, taken}
use Rattle.tss_protocol.specs.State.{State, Entry}
use Rattle.tss_protocol.specs.Renaming.{Wait, Retiring, live_wait, decode_wait, wait_or, fill_of, first_readers}
use Rattle.tss_protocol.specs.Renaming.{live_entry, entry_after_decode, follows_latest, live_message, decode_message}
use Rattle.tss_protocol.specs.UnitMachine.{IsEnabled, is_enabled, after_event, without, can_decode_message}
use Rattle.tss_protocol.specs.UnitMachine.{decode_message_taken, tables_of}
use Rattle.tss_protocol.proofs.TurnLemmas.{decode_finds_room}
use Rattle.tss_phases.specs.Phase.{phase_of, is_decoded}
use Rattle.tss_phases.specs.Orderly.{AreOrderly}
use Rattle.tss_phases.proofs.DecodeEvent.{phase_of-decode-other}
use Rattle.tss_phases.proofs.Tests.{something}
use Rattle.tss_locality.proofs.LeftFields.{Leaves-after_event}
use Rattle.tss_control.specs.Chains.{HasChains}
use Rattle.tss_control.specs.Entries.{HasEntries}
use Rattle.tss_control.specs.Members.{first_reader}
use Rattle.tss_control.proofs.rounds.EntriesLeaving.{SameLeaving}
use Rattle.tss_control.proofs.rounds.EntriesNames.{object_of_entry}
use Rattle.tss_control.proofs.rounds.EntriesDecodeOpen.{DecodesOpen, entries_opened}
use Rattle.tss_control.proofs.rounds.EntriesDecodeUse.{DecodesUse, entries_used}
use Rattle.tss_control.proofs.rounds.Facts.{Basis}

module _ (m : Machine) (S : State) (o : OpName) (p : Operand) (there : get S.mail.decodes o ≡ Some p) where
  -- the messages after a decode, but for the ack
  abbrev mail_with : Message → Mail
  mail_with x = posted (posted (taken S.mail (event.Decode o)) x) (Ack o)

  -- the state after it
  abbrev T : State
  T = after_event m S (event.Decode o)

  -- the messages
  pub mail_decoded : T.mail ≡ mail_with (decode_message o p (get S.entries p.object.base))
  unfolding after_event
  mail_decoded = ap (λ x. (decode_message_taken m (without S (event.Decode o)) o x).mail) there

  entries_decoded : T.entries ≡ insert S.entries p.object.base (entry_after_decode o p (get S.entries p.object.base))
  unfolding after_event
  entries_decoded = ap (λ x. (decode_message_taken m (without S (event.Decode o)) o x).entries) there

  decoded_others : (q : OpName) → q ≢ o → is_decoded (phase_of T q) ≡ true → is_decoded (phase_of S q) ≡ true
  decoded_others q apart d = ap is_decoded (sym (phase_of-decode-other m S o p there q apart)) ∙ d

  -- what leaves, where the message is an open or a use
  leaving_decoded : (x : Message) → T.mail ≡ mail_with x → (mail_with x).retires ≡ S.mail.retires
      → (mail_with x).gones ≡ S.mail.gones → SameLeaving S T
  leaving_decoded x mail retires gones = record {
    versions = λ i. (Leaves-after_event m S (event.Decode o) i).versions;
    copies = λ i. (Leaves-after_event m S (event.Decode o) i).copies;
    retires = ap (λ (m : Mail). m.retires) mail ∙ retires;
    gones = ap (λ (m : Mail). m.gones) mail ∙ gones;
  }

  -- a decode that sends an open
  sends_open : (c : OpenContents) (n : Entry) → T.mail ≡ mail_with (Open o c)
      → T.entries ≡ insert S.entries p.object.base n
      → c.operand ≡ p → n.object ≡ p.object → n.latest ≡ o → n.sent ≡ first_reader c.operand.mode c.follows
      → n.retiring ≡ false → DecodesOpen S T o p c n
  sends_open c n mail entries operand object latest sent live = record {
    leaving = leaving_decoded (Open o c) mail refl refl;
    opens = ap (λ (m : Mail). m.opens) mail;
    uses = ap (λ (m : Mail). m.uses) mail;
    entries = entries;
    operand = operand;
    object = object;
    latest = latest;
    sent = sent;
    live = live;
    decoded = decoded_others;
  }

  -- ---- an object without an entry

  first_alike : (mode : Mode) → first_readers mode ≡ first_reader mode None
  first_alike Input = refl
  first_alike Output = refl
  first_alike Inout = refl

  -- sends an open that follows nothing
  pub sends_first : get S.entries p.object.base ≡ None
      → DecodesOpen S T o p (record { operand = p; storage = Some Home; follows = None }) (entry_after_decode o p None)
  sends_first none =
      sends_open (record { operand = p; storage = Some Home; follows = None }) (entry_after_decode o p None)
      (mail_decoded ∙ ap (λ x. mail_with (decode_message o p x)) none)
      (entries_decoded ∙ ap (λ x. insert S.entries p.object.base (entry_after_decode o p x)) none) refl refl refl
      (first_alike p.mode) refl

  -- ---- a live entry

  module _ (e : Entry) (at : get S.entries p.object.base ≡ Some e) (object : e.object ≡ p.object)
      (live : e.retiring ≡ false) where
    mail_live : (mode : Mode) → p.mode ≡ mode → T.mail ≡ mail_with (live_message o p e mode)
    mail_live mode is =
        mail_decoded
        ∙ ap (λ x. mail_with (decode_message o p x)) at
        ∙ ap (λ mode. mail_with (live_message o p e mode)) is

    entries_live : (mode : Mode) → p.mode ≡ mode → T.entries ≡ insert S.entries p.object.base (live_entry o e mode)
    entries_live mode is =
        entries_decoded
        ∙ ap (λ x. insert S.entries p.object.base (entry_after_decode o p x)) at
        ∙ ap (λ mode. insert S.entries p.object.base (live_entry o e mode)) is

    -- what an output's open says
    abbrev beside_contents : OpenContents
    beside_contents =
        record { operand = p; storage = Some (Buffer o); follows = Some (follows_latest e Beside) }

    -- and an inout's
    abbrev over_contents : OpenContents
    over_contents = record { operand = p; storage = None; follows = Some (follows_latest e Over) }

    -- an output opens a version beside the latest
    pub sends_beside : p.mode ≡ Output → DecodesOpen S T o p beside_contents (live_entry o e Output)
    sends_beside is =
        sends_open beside_contents (live_entry o e Output) (mail_live Output is)
        (entries_live Output is) refl object refl
        (ap (λ mode. first_reader mode (Some (follows_latest e Beside))) (sym is)) live

    -- an inout over it
    pub sends_over : p.mode ≡ Inout → DecodesOpen S T o p over_contents (live_entry o e Inout)
    sends_over is =
        sends_open over_contents (live_entry o e Inout) (mail_live Inout is) (entries_live Inout is) refl object refl
        (ap (λ mode. first_reader mode (Some (follows_latest e Over))) (sym is)) live

    -- and an input uses it
    pub sends_use : p.mode ≡ Input → DecodesUse S T o p e
    sends_use is = record {
      leaving = leaving_decoded (Use o e.latest) (mail_live Input is) refl refl;
      opens = ap (λ (m : Mail). m.opens) (mail_live Input is);
      uses = ap (λ (m : Mail). m.uses) (mail_live Input is);
      entries = entries_live Input is;
      there = at;
      live = live;
      mode = is;
      decoded = decoded_others;
    }

  -- an entry that retires is waited for
  not_retiring : (e : Entry) (rest : Option Wait) (b : Bool) → is_none (wait_or b Retiring rest) ≡ true → b ≡ false
  not_retiring e rest true h = absurd (true≢false (sym h))
  not_retiring e rest false h = refl

  -- so that of an enabled decode doesn't
  pub entry_awake : IsEnabled m S (event.Decode o) → (e : Entry) → get S.entries p.object.base ≡ Some e
      → e.retiring ≡ false
  unfolding is_enabled
  entry_awake on e at =
      let sizes = m.sizes in
      let fill = fill_of sizes (tables_of S) (bank_of sizes p.object) in
      not_retiring e (live_wait sizes fill p.mode) e.retiring
      (sym (ap (λ x. is_none (decode_wait sizes fill x p.mode)) at) ∙ decode_finds_room m S o p there on)

-- ---- entries

module _ (m : Machine) (S : State) (basis : Basis m S) (orderly : AreOrderly S) (chains : HasChains basis.ts S)
    (h : HasEntries basis.ts S) (o : OpName) (on : IsEnabled m S (event.Decode o)) where
  open basis use {ts}

  module _ (p : Operand) (there : get S.mail.decodes o ≡ Some p) where
    opened : (c : OpenContents) (n : Entry) → DecodesOpen S (after_event m S (event.Decode o)) o p c n
        → HasEntries ts (after_event m S (event.Decode o))
    opened c n d =
        entries_opened m S basis orderly chains h o p there (after_event m S (event.Decode o)) c n d
        (entry_awake m S o p there on)

    decoded_live : (e : Entry) → get S.entries p.object.base ≡ Some e → (mode : Mode) → p.mode ≡ mode
        → HasEntries ts (after_event m S (event.Decode o))
    decoded_live e at Input is =
        entries_used m S basis orderly h o p there (after_event m S (event.Decode o)) e
        (sends_use m S o p there e at (object_of_entry m S basis orderly h o p there e at)
        (entry_awake m S o p there on e at) is)
    decoded_live e at Output is =
        opened _ _ (sends_beside m S o p there e at (object_of_entry m S basis orderly h o p there e at)
        (entry_awake m S o p there on e at) is)
    decoded_live e at Inout is =
        opened _ _ (sends_over m S o p there e at (object_of_entry m S basis orderly h o p there e at)
        (entry_awake m S o p there on e at) is)

    decoded_entries : (x : Option Entry) → get S.entries p.object.base ≡ x
        → HasEntries ts (after_event m S (event.Decode o))
    decoded_entries None none = opened _ _ (sends_first m S o p there none)
    decoded_entries (Some e) at = decoded_live e at p.mode refl

  -- entries after a decode
  pub HasEntries-decode : HasEntries ts (after_event m S (event.Decode o))
  unfolding is_enabled
  HasEntries-decode =
      let p = something (can_decode_message m S o) (get S.mail.decodes o) refl on in
      decoded_entries p.0 p.1 (get S.entries p.0.object.base) refl
