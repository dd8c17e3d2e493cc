-- Every event leaves one holder under each held place.
use Rattle.std.proofs.Common.{◌≡◌, ℕ, suc, ◌+◌, inl, inr, Bool, true, false, List, [], ◌∷◌, Option, Some, None, refl}
use Rattle.std.proofs.Common.{sym, ap, ◌∙◌, subst, true≢false}
use Rattle.std.specs.Prelude.{is_some}
use Rattle.std.specs.Ordering.{nat_cmp}
use Rattle.std.specs.FinMap.{get, insert, remove, get-empty}
use Rattle.std.proofs.lemmas.Option.{none-some}
use Rattle.std.proofs.lemmas.Bool.{and_parts}
use Rattle.tss_base.specs.declared.operand.OpName.{OpName}
use Rattle.tss_base.specs.declared.operand.Mode.{Mode}
use Rattle.tss_base.specs.declared.operand.Mode.TheVariants.{Input, Output, Inout}
use Rattle.tss_base.specs.declared.operand.Operand.{Operand}
use Rattle.tss_base.specs.declared.operand.Task.{Task}
use Rattle.tss_base.specs.declared.machine.Machine.{Machine}
use Rattle.tss_base.specs.declared.event.Event.{Event}
use Rattle.tss_base.specs.declared.event.Event.TheVariants as event
use Rattle.tss_base.specs.Names.{name_cmp}
use Rattle.tss_base.specs.Image.{ImageState}
use Rattle.tss_maps.proofs.Changes.{decide_get}
use Rattle.tss_model.specs.Access.{operands_of}
use Rattle.tss_model.specs.MainStep.{MainState, Call, main_call}
use Rattle.tss_protocol.specs.Names.{bank_of}
use Rattle.tss_protocol.specs.Mail.{StorageName, Home, Buffer, Source, OpenContents, ReleaseContents, IdleContents}
use Rattle.tss_protocol.specs.Mail.{GoneContents, Message, Open}
use Rattle.tss_protocol.specs.Mail.{Gone, Mail, posted, posted_all, taken}
use Rattle.tss_protocol.specs.State.{State, Flying, Busy, Entry, Version, CopyState, initial_state}
use Rattle.tss_protocol.specs.Gateway.{decodes_from}
use Rattle.tss_protocol.specs.Renaming.{takes_place, places_after_decode, live_message, decode_message, may_retire}
use Rattle.tss_protocol.specs.Renaming.{idle_by}
use Rattle.tss_protocol.specs.Versions.{put_version, refused_once, nacked_at, retired}
use Rattle.tss_protocol.specs.Buffers.{can_retire_from, sent_by_retire, copies_after_retire, is_last_piece, piece_len}
use Rattle.tss_protocol.specs.Buffers.{copies_after_copy, sent_by_copy}
use Rattle.tss_protocol.specs.MainEvent.{call_next, main_by, after_call}
use Rattle.tss_protocol.specs.UnitMachine.{IsEnabled, is_enabled, after_event, without, after_take, can_open_message}
use Rattle.tss_protocol.specs.UnitMachine.{decode_message_taken, open_message_taken, use_message_taken}
use Rattle.tss_protocol.specs.UnitMachine.{ready_message_taken, link_message_taken, after_start, start_task, after_exec}
use Rattle.tss_protocol.specs.UnitMachine.{after_finish, release_message_taken, bye_message_taken, idle_message_taken}
use Rattle.tss_protocol.specs.UnitMachine.{can_retire, retire_version, after_copy, gone_message_taken}
use Rattle.tss_names.specs.Tasks.{TasksFact}
use Rattle.tss_names.specs.Held.{IsCopied, HoldsPlaces, HasHeldPlaces, HeldPlacesLaw}
use Rattle.tss_protocol.proofs.SentLemmas.{AllSent, after_ready-all, after_link-all, flight_after_finish-all}
use Rattle.tss_names.proofs.RunLemmas.{IsKept, law_from}
use Rattle.tss_names.proofs.OpeningLemmas.{AreOpeningsSound, no_version_yet}
use Rattle.tss_names.proofs.EnlistedNames.{AreOpeningsSound-after_event, AreOpeningsSound-initial_state}
use Rattle.tss_names.proofs.JointLemmas.{joint_settled, joint_open, joint_use, joint_release}
use Rattle.tss_names.proofs.HeldLemmas.{Holding, IsJoint-Holding, held_decoded, held_opened, held_written, held_dies}
use Rattle.tss_names.proofs.HeldLemmas.{held_copied, held_moved, held_home, held_gone}
use Rattle.tss_names.proofs.PlainLemmas.{none_from_test}

-- ---- messages that hold nothing

-- neither open nor gone
abbrev pub HoldsNothing : Message → Type 0
HoldsNothing (Open o c) = ⊥
HoldsNothing (Gone v g) = ⊥
HoldsNothing other = Unit {0}

-- opens and gone messages are as they were
posted-nothing : (m : Mail) (x : Message) → HoldsNothing x
    → ((posted m x).opens ≡ m.opens) × ((posted m x).gones ≡ m.gones)
posted-nothing m (Open o c) h = absurd h
posted-nothing m (Gone v g) h = absurd h
posted-nothing m other h = (refl, refl)

-- and so do messages of which none holds a buffer
pub posted_all-nothing : (m : Mail) (xs : List Message) → AllSent HoldsNothing xs
    → ((posted_all m xs).opens ≡ m.opens) × ((posted_all m xs).gones ≡ m.gones)
posted_all-nothing m [] h = (refl, refl)
posted_all-nothing m (x ∷ xs) h =
    let one = posted-nothing m x h.0 in
    let rest = posted_all-nothing (posted m x) xs h.1 in
    (rest.0 ∙ one.0, rest.1 ∙ one.1)

-- those of take
pub decodes_nothing : (n place : ℕ) (os : List Operand) → AllSent HoldsNothing (decodes_from n place os)
decodes_nothing n place [] = tt
decodes_nothing n place (o ∷ os) = (tt, decodes_nothing n (suc place) os)

-- ---- all events

-- of a state
abbrev HoldingOf : Machine → State → Type 0
HoldingOf m S = Holding m.sizes S.places S.copies S.versions S.mail

module _ (m : Machine) (ts : List Task) (S : State) (s : AreOpeningsSound m ts S) (h : HoldingOf m S) where
  -- the mail with more messages that hold nothing
  hold_sent : (n : Mail) (xs : List Message) → AllSent HoldsNothing xs
      → Holding m.sizes S.places S.copies S.versions n
      → Holding m.sizes S.places S.copies S.versions (posted_all n xs)
  hold_sent n xs nothing k =
      let same = posted_all-nothing n xs nothing in
      subst (λ os. HoldsPlaces m.sizes S.places S.copies S.versions os (posted_all n xs).gones) (sym same.0)
      (subst (λ gs. HoldsPlaces m.sizes S.places S.copies S.versions n.opens gs) (sym same.1) k)

  hold_call : (d : MainState × Option Task) → HoldingOf m (after_call S d)
  hold_call (main, None) = h
  hold_call (main, Some t) = h

  hold_main : (c : Option Call) → HoldingOf m (main_by m S c)
  hold_main None = h
  hold_main (Some call) = hold_call (main_call m.limits S.home S.main call)

  hold_take : (t : Option Task) → HoldingOf m (after_take S t)
  hold_take None = h
  hold_take (Some t) = hold_sent S.mail _ (decodes_nothing t.number 0 (operands_of t)) h

  -- ---- decode

  module _ (o : OpName) (operand : Operand) (there : get S.mail.decodes o ≡ Some operand) where
    undecoded : get S.mail.decodes o ≡ None → ⊥
    undecoded e = none-some operand (sym e ∙ there)

    no_gone_yet : get S.mail.gones o ≡ None
    no_gone_yet = elim (decide_get S.mail.gones o) [
      | inl e ↦ e
      | inr g ↦ absurd (undecoded (s.0.1.8.10 o g.0 g.1).0.0.2)
    ]

    no_copy_yet : IsCopied S.copies o → ⊥
    no_copy_yet k =
        undecoded (ap (get S.mail.decodes) (sym k.3) ∙ (s.0.1.7 k.0 k.1 k.2).0.0.2)

    hold_opens : (c : OpenContents) → c.operand ≡ operand
        → HoldsPlaces m.sizes (insert S.places o (bank_of m.sizes operand.object)) S.copies S.versions
        (insert S.mail.opens o c) S.mail.gones
    hold_opens c is =
        subst (λ (p : Operand). HoldsPlaces m.sizes (insert S.places o (bank_of m.sizes p.object)) S.copies S.versions
        (insert S.mail.opens o c) S.mail.gones) is
        (held_decoded m.sizes S.places S.copies S.versions S.mail.opens S.mail.gones h o c
        (no_version_yet m ts S s.0 o operand there) no_gone_yet no_copy_yet)

    -- with the operand's message and place
    abbrev HoldsWith : Option Entry → Mode → Message → Type 0
    HoldsWith entry mode x =
        Holding m.sizes
        (places_after_decode S.places o (bank_of m.sizes operand.object) (takes_place entry mode)) S.copies
        S.versions (posted (taken S.mail (event.Decode o)) x)

    hold_live : (e : Entry) (mode : Mode) → HoldsWith (Some e) mode (live_message o operand e mode)
    hold_live e Input = h
    hold_live e Output = hold_opens _ refl
    hold_live e Inout = hold_opens _ refl

    hold_decoded : (entry : Option Entry) → HoldsWith entry operand.mode (decode_message o operand entry)
    hold_decoded None = hold_opens _ refl
    hold_decoded (Some e) = hold_live e operand.mode

  hold_decode : (o : OpName) (c : Option Operand) → get S.mail.decodes o ≡ c
      → HoldingOf m (decode_message_taken m (without S (event.Decode o)) o c)
  hold_decode o None e = h
  hold_decode o (Some operand) e = hold_decoded o operand e (get S.entries operand.object.base)

  -- ---- the others

  hold_open : (o : OpName) (c : Option OpenContents) → get S.mail.opens o ≡ c → is_some c ≡ true
      → HoldingOf m (open_message_taken (without S (event.Open o)) o c)
  hold_open o None e on = absurd (true≢false (sym on))
  hold_open o (Some c) e on =
      joint_open (Holding m.sizes S.places S.copies) (IsJoint-Holding m.sizes S.places S.copies) S.versions
      (taken S.mail (event.Open o)) o c
      (λ x object quiet.
      held_opened m.sizes S.places S.copies S.versions S.mail.opens S.mail.gones h o c e x object)

  hold_use : (o : OpName) (v : Option OpName) → HoldingOf m (use_message_taken (without S (event.Use o)) o v)
  hold_use o None = h
  hold_use o (Some v) =
      joint_use (Holding m.sizes S.places S.copies) (IsJoint-Holding m.sizes S.places S.copies) S.versions
      (taken S.mail (event.Use o)) h o v

  hold_ready : (o : OpName) (c : Option Source) → HoldingOf m (ready_message_taken (without S (event.Ready o)) o c)
  hold_ready o None = h
  hold_ready o (Some source) =
      hold_sent (taken S.mail (event.Ready o)) _
      (after_ready-all HoldsNothing (λ o source. tt) (λ o r. tt) S.flight o source) h

  hold_link : (o : OpName) (next : Option OpName) → HoldingOf m (link_message_taken (without S (event.Link o)) o next)
  hold_link o None = h
  hold_link o (Some next) =
      hold_sent (taken S.mail (event.Link o)) _
      (after_link-all HoldsNothing (λ o source. tt) (λ o r. tt) S.flight o next) h

  hold_bye : (o : OpName) (c : Option Bool) → HoldingOf m (bye_message_taken (without S (event.Bye o)) o c)
  hold_bye o None = h
  hold_bye o (Some promised) = h

  hold_start_task : (w t : ℕ) (ts : List ℕ) (x : Option Flying) → HoldingOf m (start_task m S w t ts x)
  hold_start_task w t ts None = h
  hold_start_task w t ts (Some x) = h

  hold_start : (w : ℕ) (queue : List ℕ) → HoldingOf m (after_start m S w queue)
  hold_start w [] = h
  hold_start w (t ∷ ts) = hold_start_task w t ts (get S.flight t)

  hold_exec : (w : ℕ) (b : Option Busy) → HoldingOf m (after_exec m S w b)
  hold_exec w None = h
  hold_exec w (Some b) = h

  hold_finish : (w : ℕ) (b : Option Busy) → HoldingOf m (after_finish S w b)
  hold_finish w None = h
  hold_finish w (Some b) =
      hold_sent S.mail _ (flight_after_finish-all HoldsNothing (λ o source. tt) (λ o r. tt) S.flight b.task.number) h

  hold_release : (o : OpName) (c : Option ReleaseContents)
      → HoldingOf m (release_message_taken (without S (event.Release o)) o c)
  hold_release o None = h
  hold_release o (Some r) =
      joint_release (Holding m.sizes S.places S.copies) (IsJoint-Holding m.sizes S.places S.copies) S.versions
      (taken S.mail (event.Release o)) h o r

  hold_idle_by : (v : OpName) (i : IdleContents) (may : Bool)
      → Holding m.sizes S.places S.copies S.versions
      (posted_all (taken S.mail (event.Idle v)) (idle_by S.entries v i.base (get S.entries i.base) may).sent)
  hold_idle_by v i true = h
  hold_idle_by v i false = h

  hold_idle : (v : OpName) (c : Option IdleContents)
      → HoldingOf m (idle_message_taken (without S (event.Idle v)) v c)
  hold_idle v None = h
  hold_idle v (Some i) = hold_idle_by v i (may_retire v i.count (get S.entries i.base))

  hold_nack_by : (v : OpName) (x : Option Version) → get S.versions v ≡ x
      → Holding m.sizes S.places S.copies (nacked_at S.versions v x).part
      (posted_all (taken S.mail (event.Nack v)) (nacked_at S.versions v x).sent)
  hold_nack_by v None e = h
  hold_nack_by v (Some x) e =
      joint_settled (Holding m.sizes S.places S.copies) (IsJoint-Holding m.sizes S.places S.copies)
      (put_version S.versions v (refused_once x)) (taken S.mail (event.Nack v)) v
      (held_written m.sizes S.places S.copies S.versions S.mail.opens S.mail.gones h v x (refused_once x) e refl)

  hold_retired : (v : OpName) (x : Version) → get S.versions v ≡ Some x → (storage : Option StorageName)
      → can_retire_from storage (get S.copies (bank_of m.sizes x.object)) ≡ true
      → Holding m.sizes S.places (copies_after_retire S.copies (bank_of m.sizes x.object) v x.object storage)
      (remove S.versions v) (posted_all (taken S.mail (event.Retire v)) (sent_by_retire v x.object storage))
  hold_retired v x e None on = absurd (true≢false (sym on))
  hold_retired v x e (Some Home) on =
      held_dies m.sizes S.places S.copies S.versions S.mail.opens S.mail.gones h v x (retired x.object None) e refl
  hold_retired v x e (Some (Buffer n)) on =
      held_copied m.sizes S.places S.copies S.versions S.mail.opens S.mail.gones h v x n e
      (none_from_test (get S.copies (bank_of m.sizes x.object)) on)

  hold_retire : (v : OpName) (x : Option Version) → get S.versions v ≡ x → can_retire m S x ≡ true
      → HoldingOf m (retire_version m (without S (event.Retire v)) v x)
  hold_retire v None e on = absurd (true≢false (sym on))
  hold_retire v (Some x) e on = hold_retired v x e x.storage on

  hold_copied : (b : ℕ) (c : CopyState) → get S.copies b ≡ Some c → (last : Bool)
      → Holding m.sizes S.places (copies_after_copy S.copies b c last) S.versions
      (posted_all S.mail (sent_by_copy c last))
  hold_copied b c e true =
      held_home m.sizes S.places S.copies S.versions S.mail.opens S.mail.gones h b c
      (retired c.object (Some c.buffer)) e
      refl
  hold_copied b c e false =
      held_moved m.sizes S.places S.copies S.versions S.mail.opens S.mail.gones h b c
      (record c { moved = c.moved + piece_len c }) e refl refl

  hold_copy : (b : ℕ) (c : Option CopyState) → get S.copies b ≡ c → HoldingOf m (after_copy S b c)
  hold_copy b None e = h
  hold_copy b (Some c) e = hold_copied b c e (is_last_piece c)

  hold_gone : (v : OpName) (c : Option GoneContents) → get S.mail.gones v ≡ c → is_some c ≡ true
      → HoldingOf m (gone_message_taken (without S (event.Gone v)) v c)
  hold_gone v None e on = absurd (true≢false (sym on))
  hold_gone v (Some g) e on = held_gone m.sizes S.places S.copies S.versions S.mail.opens S.mail.gones h v g e

  -- an open that may happen is there
  open_there : (c : Option OpenContents) → can_open_message S c ≡ true → is_some c ≡ true
  open_there None on = on
  open_there (Some c) on = refl

  hold_after_event : (e : Event) → IsEnabled m S e → HoldingOf m (after_event m S e)
  unfolding is_enabled after_event
  hold_after_event event.Main on = hold_main (call_next m S)
  hold_after_event event.Take on = hold_take S.inbox
  hold_after_event (event.Decode o) on = hold_decode o (get S.mail.decodes o) refl
  hold_after_event (event.Ack o) on = h
  hold_after_event (event.Open o) on =
      hold_open o (get S.mail.opens o) refl (open_there (get S.mail.opens o) on)
  hold_after_event (event.Use o) on = hold_use o (get S.mail.uses o)
  hold_after_event (event.Ready o) on = hold_ready o (get S.mail.readies o)
  hold_after_event (event.Link o) on = hold_link o (get S.mail.links o)
  hold_after_event (event.Start w) on = hold_start w S.queue
  hold_after_event (event.Exec w) on = hold_exec w (get S.workers w)
  hold_after_event (event.Finish w) on = hold_finish w (get S.workers w)
  hold_after_event (event.Release o) on = hold_release o (get S.mail.releases o)
  hold_after_event (event.Bye o) on = hold_bye o (get S.mail.byes o)
  hold_after_event (event.Idle v) on = hold_idle v (get S.mail.idles v)
  hold_after_event (event.Nack v) on = hold_nack_by v (get S.versions v) refl
  hold_after_event (event.Retire v) on =
      let both = and_parts (is_some (get S.mail.retires v)) (can_retire m S (get S.versions v)) on in
      hold_retire v (get S.versions v) refl both.1
  hold_after_event (event.Copy b) on = hold_copy b (get S.copies b) refl
  hold_after_event (event.Gone v) on = hold_gone v (get S.mail.gones v) refl on

-- with the openings
abbrev pub IsHoldingSound : TasksFact
IsHoldingSound m ts S = AreOpeningsSound m ts S × HoldingOf m S

-- every event keeps it
pub IsHoldingSound-after_event : IsKept IsHoldingSound
IsHoldingSound-after_event m ts S e h on =
    (AreOpeningsSound-after_event m ts S e h.0 on, hold_after_event m ts S h.0 h.1 e on)

-- the first state has it
pub IsHoldingSound-initial_state : (m : Machine) (i : ImageState) → IsHoldingSound m [] (initial_state i)
IsHoldingSound-initial_state m i = (
  AreOpeningsSound-initial_state m i,
  record {
    held = λ v b e. absurd (none-some b (sym (get-empty name_cmp v) ∙ e));
    opens = λ v c e. absurd (none-some c (sym (get-empty name_cmp v) ∙ e));
    versions = λ v x e. absurd (none-some x (sym (get-empty name_cmp v) ∙ e));
    gones = λ v g e. absurd (none-some g (sym (get-empty name_cmp v) ∙ e));
    copied = λ b c e. absurd (none-some c (sym (get-empty nat_cmp b) ∙ e));
  },
)

-- the law
pub held_places_of_runs : HeldPlacesLaw
held_places_of_runs =
    law_from IsHoldingSound HasHeldPlaces IsHoldingSound-initial_state IsHoldingSound-after_event (λ m ts S h. h.1)
