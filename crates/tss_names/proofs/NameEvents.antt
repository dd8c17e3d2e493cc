-- Every event keeps a fact of each name, where it holds of the operand that is decoded.
use Rattle.std.proofs.Common.{◌≡◌, ℕ, ◌⊎◌, inl, inr, suc, Bool, List, [], ◌∷◌, Option, Some, None, refl}
use Rattle.std.specs.FinMap.{get}
use Rattle.tss_base.specs.declared.operand.OpName.{OpName}
use Rattle.tss_base.specs.declared.operand.Operand.{Operand}
use Rattle.tss_base.specs.declared.operand.Task.{Task}
use Rattle.tss_base.specs.declared.machine.Machine.{Machine}
use Rattle.tss_base.specs.declared.event.Event.{Event}
use Rattle.tss_base.specs.declared.event.Event.TheVariants as event
use Rattle.tss_base.specs.Image.{ImageState}
use Rattle.tss_base.specs.Names.{Numbered}
use Rattle.tss_maps.proofs.Keys.{nat_order, name_order}
use Rattle.tss_model.specs.Access.{TaskActor, operands_of}
use Rattle.tss_model.specs.MainStep.{MainState, Call, main_call}
use Rattle.tss_protocol.specs.Names.{bank_of}
use Rattle.tss_protocol.specs.Mail.{Source, OpenContents, ReleaseContents, IdleContents, GoneContents, Message}
use Rattle.tss_protocol.specs.Mail.{posted_all, taken}
use Rattle.tss_protocol.specs.State.{State, Flying, Busy, Version, CopyState, initial_state}
use Rattle.tss_protocol.specs.Gateway.{decodes_from}
use Rattle.tss_protocol.specs.Stations.{storages_of}
use Rattle.tss_protocol.specs.Workers.{Stores, busy_at_start, busy_after, exec_stretch, placed_in, worker_byte}
use Rattle.tss_protocol.specs.Workers.{worker_write, task_state_of}
use Rattle.tss_protocol.specs.Renaming.{takes_place, takes_buffer, may_retire, sent_by_decode}
use Rattle.tss_protocol.specs.Buffers.{is_last_piece}
use Rattle.tss_protocol.specs.MainEvent.{call_next, main_by, after_call}
use Rattle.tss_protocol.specs.UnitMachine.{after_event, stores_of, without, after_take, decode_message_taken}
use Rattle.tss_protocol.specs.UnitMachine.{open_message_taken, use_message_taken, ready_message_taken}
use Rattle.tss_protocol.specs.UnitMachine.{link_message_taken, after_start, start_task, after_exec, after_finish}
use Rattle.tss_protocol.specs.UnitMachine.{release_message_taken, bye_message_taken, idle_message_taken}
use Rattle.tss_protocol.specs.UnitMachine.{nack_message_taken, retire_version, after_copy, gone_message_taken}
use Rattle.tss_names.specs.Names.{EachEntry, EachOf, StorageNames, MessageNames, EachName}
use Rattle.tss_protocol.proofs.SentLemmas.{AllSent}
use Rattle.tss_names.proofs.NameLemmas.{EachSent, each_inserted, each_removed, each_empty, each_posted_all, each_taken}
use Rattle.tss_names.proofs.NameLemmas.{each_no_mail, each_message}
use Rattle.tss_names.proofs.VersionNames.{VersionsNames, names_open, names_use, names_release, names_nack, names_retire}
use Rattle.tss_names.proofs.StationNames.{FlightNames, names_taken, names_after_ready, names_after_link}
use Rattle.tss_names.proofs.StationNames.{names_after_bye, names_after_finish, names_started, names_storages_of}
use Rattle.tss_names.proofs.UnitNames.{ContentsNames, EntriesNames, HeldNames, CopiesNames, memory_stretch}
use Rattle.tss_names.proofs.UnitNames.{names_outputs_zeroed, names_written, names_entry, names_held}
use Rattle.tss_names.proofs.UnitNames.{names_sent_by_decode, latest_at, names_idle_by, names_buffers_gone}
use Rattle.tss_names.proofs.UnitNames.{names_contents_gone, names_entries_gone, names_copies_retired, names_copied}

module _ (P E : OpName → Type 0) where
  -- of the names in each worker's storages
  abbrev WorkersNames : Numbered Busy → Type 0
  WorkersNames workers = EachEntry (λ w (b : Busy). EachOf (StorageNames P) b.storages) workers

  -- of all names, in this order: tasks in flight, workers, entries, held places, held buffers, contents of buffers,
  -- versions, copies, and messages
  abbrev pub StateNames : State → Type 0
  StateNames S =
      FlightNames P E S.flight
      × WorkersNames S.workers
      × EntriesNames P E S.entries
      × HeldNames P E S.places
      × HeldNames P E S.buffers
      × ContentsNames P E S.contents
      × VersionsNames P E S.versions
      × CopiesNames P E S.copies
      × EachSent (MessageNames P E) S.mail

  decodes_sent : (n place : ℕ) (os : List Operand) → AllSent (MessageNames P E) (decodes_from n place os)
  decodes_sent n place [] = tt
  decodes_sent n place (o ∷ os) = (tt, decodes_sent n (suc place) os)

  module _ (m : Machine) (S : State) (h : StateNames S) where
    -- the mail after an event took its message
    mail_left : (e : Event) → EachSent (MessageNames P E) (taken S.mail e)
    mail_left e = each_taken (MessageNames P E) S.mail e h.8

    -- and sent others
    mail_after : (e : Event) (ms : List Message) → AllSent (MessageNames P E) ms
        → EachSent (MessageNames P E) (posted_all (taken S.mail e) ms)
    mail_after e ms new = each_posted_all (MessageNames P E) (taken S.mail e) ms (mail_left e) new

    -- where only the mail changed
    with_mail : (e : Event) → StateNames (without S e)
    with_mail e = (h.0, h.1, h.2, h.3, h.4, h.5, h.6, h.7, mail_left e)

    names_call : (d : MainState × Option Task) → StateNames (after_call S d)
    names_call (main, None) = h
    names_call (main, Some t) = h

    names_main : (c : Option Call) → StateNames (main_by m S c)
    names_main None = h
    names_main (Some call) = names_call (main_call m.limits S.home S.main call)

    names_take : (t : Option Task) → StateNames (after_take S t)
    names_take None = h
    names_take (Some t) = (
      names_taken P E S.flight t h.0,
      h.1,
      h.2,
      h.3,
      h.4,
      h.5,
      h.6,
      h.7,
      each_posted_all (MessageNames P E) S.mail (decodes_from t.number 0 (operands_of t)) h.8
          (decodes_sent t.number 0 (operands_of t)),
    )

    names_decode : (o : OpName) → P o → (c : Option Operand)
        → StateNames (decode_message_taken m (without S (event.Decode o)) o c)
    names_decode o name None = with_mail (event.Decode o)
    names_decode o name (Some operand) =
        let base = operand.object.base in
        let entry = get S.entries base in
        let bank = bank_of m.sizes operand.object in
        let latest = latest_at P E S.entries h.2 base entry refl in (
          h.0,
          h.1,
          each_inserted nat_order (λ base e. P e.latest) S.entries base _ h.2
              (names_entry P E o name operand entry latest),
          names_held P E o name S.places bank (takes_place entry operand.mode) h.3,
          names_held P E o name S.buffers bank (takes_buffer entry operand.mode) h.4,
          h.5,
          h.6,
          h.7,
          mail_after (event.Decode o) (sent_by_decode o operand entry)
              (names_sent_by_decode P E o name operand entry latest),
        )

    names_of_open : (o : OpName) → E o → (c : Option OpenContents) → get S.mail.opens o ≡ c
        → StateNames (open_message_taken (without S (event.Open o)) o c)
    names_of_open o name None e = with_mail (event.Open o)
    names_of_open o name (Some c) e =
        let told = h.8.1 o c e in
        let d = names_open P E S.versions o c h.6 name told.1 told.2 in
        (h.0, h.1, h.2, h.3, h.4, h.5, d.part, h.7, mail_after (event.Open o) _ d.sent)

    names_of_use : (o : OpName) → E o → (v : Option OpName) → get S.mail.uses o ≡ v
        → StateNames (use_message_taken (without S (event.Use o)) o v)
    names_of_use o name None e = with_mail (event.Use o)
    names_of_use o name (Some v) e =
        let d = names_use P E S.versions o v h.6 name in
        (h.0, h.1, h.2, h.3, h.4, h.5, d.part, h.7, mail_after (event.Use o) _ d.sent)

    names_of_ready : (o : OpName) (c : Option Source) → get S.mail.readies o ≡ c
        → StateNames (ready_message_taken (without S (event.Ready o)) o c)
    names_of_ready o None e = with_mail (event.Ready o)
    names_of_ready o (Some source) e =
        let d = names_after_ready P E S.flight o h.0 source (h.8.3 o source e) in
        (d.flight, h.1, h.2, h.3, h.4, h.5, h.6, h.7, mail_after (event.Ready o) _ d.sent)

    names_of_link : (o : OpName) (next : Option OpName) → get S.mail.links o ≡ next
        → StateNames (link_message_taken (without S (event.Link o)) o next)
    names_of_link o None e = with_mail (event.Link o)
    names_of_link o (Some next) e =
        let d = names_after_link P E S.flight o h.0 next (h.8.4 o next e).1 in
        (d.part, h.1, h.2, h.3, h.4, h.5, h.6, h.7, mail_after (event.Link o) _ d.sent)

    names_of_bye : (o : OpName) (c : Option Bool) → StateNames (bye_message_taken (without S (event.Bye o)) o c)
    names_of_bye o None = with_mail (event.Bye o)
    names_of_bye o (Some promised) = (
      names_after_bye P E S.flight o h.0 promised,
      h.1,
      h.2,
      h.3,
      h.4,
      h.5,
      h.6,
      h.7,
      mail_left (event.Bye o),
    )

    names_start_task : (w t : ℕ) (ts : List ℕ) (x : Option Flying) → get S.flight t ≡ x
        → StateNames (start_task m S w t ts x)
    names_start_task w t ts None e = h
    names_start_task w t ts (Some x) e =
        let storages = names_storages_of P E t x (h.0 t x e) in (
          names_started P E S.flight t x e h.0,
          each_inserted nat_order (λ w (b : Busy). EachOf (StorageNames P) b.storages) S.workers w (busy_at_start x) h.1
              storages,
          h.2,
          h.3,
          h.4,
          names_outputs_zeroed P E m.limits (stores_of S) (operands_of x.task) (storages_of x) h.5 storages,
          h.6,
          h.7,
          h.8,
        )

    names_start : (w : ℕ) (queue : List ℕ) → StateNames (after_start m S w queue)
    names_start w [] = h
    names_start w (t ∷ ts) = names_start_task w t ts (get S.flight t) refl

    names_exec : (w : ℕ) (b : Option Busy) → get S.workers w ≡ b → StateNames (after_exec m S w b)
    names_exec w None e = h
    names_exec w (Some b) e =
        let placed = placed_in (operands_of b.task) b.storages in (
          h.0,
          each_inserted nat_order (λ w (b : Busy). EachOf (StorageNames P) b.storages) S.workers w
              (busy_after b (exec_stretch S.code m.limits m.sizes.quantum b (stores_of S))) h.1 (h.1 w b e),
          h.2,
          h.3,
          h.4,
          memory_stretch (worker_byte placed) (worker_write placed) m.limits.task_budget S.code
              (TaskActor S.home.ranges (operands_of b.task)) (λ (s : Stores). ContentsNames P E s.contents)
              (names_written P E (operands_of b.task) b.storages (h.1 w b e)) m.sizes.quantum
              (task_state_of b (stores_of S)) h.5,
          h.6,
          h.7,
          h.8,
        )

    names_finish : (w : ℕ) (b : Option Busy) → StateNames (after_finish S w b)
    names_finish w None = h
    names_finish w (Some b) =
        let d = names_after_finish P E S.flight b.task.number h.0 in (
          d.part,
          each_removed nat_order (λ w (b : Busy). EachOf (StorageNames P) b.storages) S.workers w h.1,
          h.2,
          h.3,
          h.4,
          h.5,
          h.6,
          h.7,
          each_posted_all (MessageNames P E) S.mail _ h.8 d.sent,
        )

    names_of_release : (o : OpName) (c : Option ReleaseContents) → get S.mail.releases o ≡ c
        → StateNames (release_message_taken (without S (event.Release o)) o c)
    names_of_release o None e = with_mail (event.Release o)
    names_of_release o (Some r) e =
        let d = names_release P E S.versions o r h.6 (h.8.5 o r e).0 in
        (h.0, h.1, h.2, h.3, h.4, h.5, d.part, h.7, mail_after (event.Release o) _ d.sent)

    names_of_idle : (v : OpName) (c : Option IdleContents) → get S.mail.idles v ≡ c
        → StateNames (idle_message_taken (without S (event.Idle v)) v c)
    names_of_idle v None e = with_mail (event.Idle v)
    names_of_idle v (Some i) e =
        let d = names_idle_by P E S.entries v i.base (may_retire v i.count (get S.entries i.base)) h.2 (h.8.7 v i e) in
        (h.0, h.1, d.0, h.3, h.4, h.5, h.6, h.7, mail_after (event.Idle v) _ d.1)

    names_of_nack : (v : OpName) → StateNames (nack_message_taken (without S (event.Nack v)) v)
    names_of_nack v =
        let d = names_nack P E S.versions v h.6 in
        (h.0, h.1, h.2, h.3, h.4, h.5, d.part, h.7, mail_after (event.Nack v) _ d.sent)

    names_of_retire : (v : OpName) (x : Option Version) → get S.versions v ≡ x
        → StateNames (retire_version m (without S (event.Retire v)) v x)
    names_of_retire v None e = with_mail (event.Retire v)
    names_of_retire v (Some x) e =
        let here = h.6 v x e in
        let d = names_copies_retired P E S.copies
        (bank_of m.sizes x.object) v x.object x.storage h.7 here.0 here.1.storage in
        (h.0, h.1, h.2, h.3, h.4, h.5, names_retire P E S.versions v h.6, d.0, mail_after (event.Retire v) _ d.1)

    names_copy : (b : ℕ) (c : Option CopyState) → get S.copies b ≡ c → StateNames (after_copy S b c)
    names_copy b None e = h
    names_copy b (Some c) e =
        let d = names_copied P E S.copies b c (is_last_piece c) h.7 (h.7 b c e) in (
          h.0,
          h.1,
          h.2,
          h.3,
          h.4,
          h.5,
          h.6,
          d.0,
          each_posted_all (MessageNames P E) S.mail _ h.8 d.1,
        )

    names_of_gone : (v : OpName) (c : Option GoneContents)
        → StateNames (gone_message_taken (without S (event.Gone v)) v c)
    names_of_gone v None = with_mail (event.Gone v)
    names_of_gone v (Some g) = (
      h.0,
      h.1,
      names_entries_gone P E S.entries g.object.base g.retired h.2,
      each_removed name_order (λ v bank. P v) S.places v h.3,
      names_buffers_gone P E S.buffers g.buffer h.4,
      names_contents_gone P E S.contents g.buffer h.5,
      h.6,
      h.7,
      mail_left (event.Gone v),
    )

    -- every event
    pub StateNames-after_event : (e : Event) → ((o : OpName) → e ≡ event.Decode o → P o)
        → ((o : OpName) → (e ≡ event.Open o) ⊎ (e ≡ event.Use o) → E o) → StateNames (after_event m S e)
    unfolding after_event
    StateNames-after_event event.Main decoded enlisted = names_main (call_next m S)
    StateNames-after_event event.Take decoded enlisted = names_take S.inbox
    StateNames-after_event (event.Decode o) decoded enlisted = names_decode o (decoded o refl) (get S.mail.decodes o)
    StateNames-after_event (event.Ack o) decoded enlisted = with_mail (event.Ack o)
    StateNames-after_event (event.Open o) decoded enlisted =
        names_of_open o (enlisted o (inl refl)) (get S.mail.opens o) refl
    StateNames-after_event (event.Use o) decoded enlisted =
        names_of_use o (enlisted o (inr refl)) (get S.mail.uses o) refl
    StateNames-after_event (event.Ready o) decoded enlisted = names_of_ready o (get S.mail.readies o) refl
    StateNames-after_event (event.Link o) decoded enlisted = names_of_link o (get S.mail.links o) refl
    StateNames-after_event (event.Start w) decoded enlisted = names_start w S.queue
    StateNames-after_event (event.Exec w) decoded enlisted = names_exec w (get S.workers w) refl
    StateNames-after_event (event.Finish w) decoded enlisted = names_finish w (get S.workers w)
    StateNames-after_event (event.Release o) decoded enlisted = names_of_release o (get S.mail.releases o) refl
    StateNames-after_event (event.Bye o) decoded enlisted = names_of_bye o (get S.mail.byes o)
    StateNames-after_event (event.Idle v) decoded enlisted = names_of_idle v (get S.mail.idles v) refl
    StateNames-after_event (event.Nack v) decoded enlisted = names_of_nack v
    StateNames-after_event (event.Retire v) decoded enlisted = names_of_retire v (get S.versions v) refl
    StateNames-after_event (event.Copy b) decoded enlisted = names_copy b (get S.copies b) refl
    StateNames-after_event (event.Gone v) decoded enlisted = names_of_gone v (get S.mail.gones v)

  -- there is no name at first
  pub StateNames-initial_state : (i : ImageState) → StateNames (initial_state i)
  StateNames-initial_state i = (
    each_empty nat_order _,
    each_empty nat_order _,
    each_empty nat_order _,
    each_empty name_order _,
    each_empty name_order _,
    each_empty name_order _,
    each_empty name_order _,
    each_empty nat_order _,
    each_no_mail (MessageNames P E),
  )

  -- as the law says it
  pub each_name : (S : State) → StateNames S → EachName P E S
  each_name S h = record {
    flight = h.0;
    workers = h.1;
    entries = h.2;
    places = h.3;
    buffers = h.4;
    contents = h.5;
    versions = h.6;
    copies = h.7;
    mail = each_message (MessageNames P E) S.mail h.8;
  }
