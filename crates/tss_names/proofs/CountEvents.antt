-- Every event keeps the counts of readers.
use Rattle.std.proofs.Common.{◌≡◌, ℕ, ◌+◌, ◌≤◌, inl, inr, Bool, true, false, if◌then◌else◌, List, [], ◌∷◌, length}
use Rattle.std.proofs.Common.{Option, Some, None, refl, sym, ap, ◌∙◌, subst, arith, mul-le-mul_right}
use Rattle.std.specs.FinMap.{get, remove, len, get-empty, len-empty}
use Rattle.std.specs.Ordering.{nat_cmp}
use Rattle.std.proofs.lemmas.Option.{none-some}
use Rattle.tss_base.specs.declared.operand.OpName.{OpName}
use Rattle.tss_base.specs.declared.operand.Operand.{Operand}
use Rattle.tss_base.specs.declared.operand.Task.{Task}
use Rattle.tss_base.specs.declared.machine.Machine.{Machine}
use Rattle.tss_base.specs.declared.event.Event.{Event}
use Rattle.tss_base.specs.declared.event.Event.TheVariants as event
use Rattle.tss_base.specs.Names.{name_cmp, Named, Numbered}
use Rattle.tss_base.specs.Image.{ImageState}
use Rattle.tss_maps.proofs.Keys.{nat_order, name_order}
use Rattle.tss_maps.proofs.Changes.{from_inserted, from_removed, absent_removed}
use Rattle.tss_maps.proofs.Entries.{len_removed}
use Rattle.tss_model.specs.Access.{operands_of}
use Rattle.tss_model.specs.MainStep.{MainState, Call, main_call}
use Rattle.tss_protocol.specs.Mail.{Source, OpenContents, ReleaseContents, IdleContents, GoneContents, Message, Mail}
use Rattle.tss_protocol.specs.Mail.{taken}
use Rattle.tss_protocol.specs.State.{State, Flying, Busy, Entry, Version, CopyState, initial_state}
use Rattle.tss_protocol.specs.Renaming.{may_retire, retiring_entry, idle_by, after_idle}
use Rattle.tss_protocol.specs.Versions.{after_open, after_use, after_release, after_nack, after_retire}
use Rattle.tss_protocol.specs.Buffers.{is_last_piece}
use Rattle.tss_protocol.specs.MainEvent.{call_next, main_by, after_call}
use Rattle.tss_protocol.specs.UnitMachine.{IsEnabled, is_enabled, after_event, with_sent, without, after_take}
use Rattle.tss_protocol.specs.UnitMachine.{decode_message_taken, open_message_taken, use_message_taken}
use Rattle.tss_protocol.specs.UnitMachine.{ready_message_taken, link_message_taken, after_start, start_task, after_exec}
use Rattle.tss_protocol.specs.UnitMachine.{after_finish, release_message_taken, bye_message_taken, idle_message_taken}
use Rattle.tss_protocol.specs.UnitMachine.{nack_message_taken, retire_version, after_copy, gone_message_taken}
use Rattle.tss_names.specs.Tasks.{TasksFact, spawned_after_event, spawned_by_main, HasTaskNumbers}
use Rattle.tss_names.specs.UseCounts.{CountsReaders, ReadersLaw}
use Rattle.tss_protocol.proofs.SentLemmas.{AllSent, IsLater, posted_all-later, after_open-later, after_use-later}
use Rattle.tss_protocol.proofs.SentLemmas.{after_release-later, after_nack-later, after_ready-later, after_link-later}
use Rattle.tss_protocol.proofs.SentLemmas.{flight_after_finish-later, after_idle-later, sent_by_retire-later}
use Rattle.tss_protocol.proofs.SentLemmas.{sent_by_copy-later}
use Rattle.tss_names.proofs.SpawnLemmas.{SpawnsAtMostOne, spawns_main}
use Rattle.tss_names.proofs.TakeLemmas.{TakesTask, takes_take, decode_message-front}
use Rattle.tss_names.proofs.RunLemmas.{IsKept, law_from}
use Rattle.tss_names.proofs.NumberLemmas.{HasTaskNumbers-after_event, HasTaskNumbers-initial_state}
use Rattle.tss_names.proofs.OpeningFrames.{posted_all-taken}
use Rattle.tss_names.proofs.VersionFacts.{each_release, each_nack, each_retire}
use Rattle.tss_names.proofs.CountLemmas.{operands_in, operands_waiting, operands_few, Counts, counts_less, counts_still}
use Rattle.tss_names.proofs.CountLemmas.{readers_of_each, len-spread, len_message, counts_decoded, counts_opened}
use Rattle.tss_names.proofs.CountLemmas.{counts_used}

-- all of which the counts speak
record Load : Type 0 where
  inbox : Option Task
  decodes : Named Operand
  opens : Named OpenContents
  uses : Named OpName
  entries : Numbered Entry
  versions : Named Version

-- that of a state
abbrev load_of : State → Load
load_of S = record {
  inbox = S.inbox;
  decodes = S.mail.decodes;
  opens = S.mail.opens;
  uses = S.mail.uses;
  entries = S.entries;
  versions = S.versions;
}

-- operands that are still to be decoded
abbrev undecoded_in : Load → ℕ
undecoded_in l = operands_waiting l.inbox + len l.decodes

-- opens and uses under way
abbrev enlisting_in : Load → ℕ
enlisting_in l = len l.opens + len l.uses

-- its counts
abbrev CountsBy : List Task → Load → Type 0
CountsBy ts l = Counts (operands_in ts) (undecoded_in l) (enlisting_in l) l.entries l.versions

-- those of a state
abbrev CountsOf : List Task → State → Type 0
CountsOf ts S = CountsBy ts (load_of S)

-- later messages change none
counts_sent : (ts : List Task) (T : State) (ms : List Message) → AllSent IsLater ms → CountsOf ts T
    → CountsOf ts (with_sent T ms)
counts_sent ts T ms later h =
    let k = posted_all-later T.mail ms later in
    subst (CountsBy ts)
    (sym (λ i. record (load_of T) { decodes = k.decodes i; opens = k.opens i; uses = k.uses i })) h

-- with other versions, each with no more readers
module _ (ts : List Task) (S : State) (h : CountsOf ts S) where
  -- a version's readers are within the bound
  abbrev Within : OpName → Version → Type 0
  Within v x = x.registered + (undecoded_in (load_of S) + enlisting_in (load_of S)) ≤ operands_in ts

  counts_versions : (vs : Named Version) → ((v : OpName) (x : Version) → get vs v ≡ Some x → Within v x)
      → CountsBy ts (record (load_of S) { versions = vs })
  counts_versions vs each = record { fits = h.fits; sent = h.sent; registered = each }

  counts_entries : (es : Numbered Entry)
      → ((base : ℕ) (e : Entry) → get es base ≡ Some e → e.sent + undecoded_in (load_of S) ≤ operands_in ts)
      → CountsBy ts (record (load_of S) { entries = es })
  counts_entries es each = record { fits = h.fits; sent = each; registered = h.registered }

  -- ---- main, take

  load_call : (d : MainState × Option Task) → CountsBy ts (record (load_of (after_call S d)) { inbox = S.inbox })
  load_call (main, None) = h
  load_call (main, Some t) = h

  load_main : (m : Machine) (c : Option Call) → CountsBy ts (record (load_of (main_by m S c)) { inbox = S.inbox })
  load_main m None = h
  load_main m (Some call) = load_call (main_call m.limits S.home S.main call)

  counts_main : (m : Machine) (us : List Task) (T : State) → SpawnsAtMostOne m ts us S T
      → CountsBy ts (record (load_of T) { inbox = S.inbox }) → CountsOf us T
  counts_main m us T (inl q) k =
      subst (λ us. CountsOf us T) (sym q.list)
      (subst (λ i. CountsBy ts (record (load_of T) { inbox = i })) (ap (λ f. f.inbox) (sym q.front)) k)
  counts_main m us T (inr p) k =
      let more = length (operands_of p.task) in
      let none = ap operands_waiting p.empty in
      let total : operands_in ts + more ≡ operands_in (p.task ∷ ts) = omega arith in
      subst (λ us. CountsOf us T) (sym p.list)
      (subst (λ i. CountsBy (p.task ∷ ts) (record (load_of T) { inbox = i })) (ap (λ f. f.inbox) (sym p.front))
      (subst (λ n. Counts n (more + len T.mail.decodes) (enlisting_in (load_of T)) T.entries T.versions) total
      (counts_less (operands_in ts) more (operands_waiting S.inbox + len T.mail.decodes) (more + len T.mail.decodes)
      (enlisting_in (load_of T)) (enlisting_in (load_of T)) T.entries T.versions k (omega (arith, none))
      (omega (arith, none)))))

  counts_take : (m : Machine) (t : Option Task) → S.inbox ≡ t → TakesTask m S (after_take S t)
      → CountsOf ts (after_take S t)
  counts_take m None e p = h
  counts_take m (Some t) e p =
      let same = posted_all-taken S.mail t.number 0 (operands_of t) in
      let front = ap (λ f. len f.decodes) p.front in
      let few = len-spread (λ o. o) S.mail.decodes p.task.number 0 (operands_of p.task) in
      let waits = ap operands_waiting p.there in
      let opens = ap len same.0 in
      let uses = ap len same.1 in
      counts_still (operands_in ts) (undecoded_in (load_of S)) _ (enlisting_in (load_of S)) _ S.entries S.versions h
      (omega (arith, front, few, waits)) (omega (arith, front, few, waits, opens, uses))

  -- ---- decode, open, use

  counts_decode : (m : Machine) (o : OpName) (c : Option Operand) → get S.mail.decodes o ≡ c
      → CountsOf ts (decode_message_taken m (without S (event.Decode o)) o c)
  counts_decode m o None e =
      subst (λ ds. CountsBy ts (record (load_of S) { decodes = ds }))
      (sym (absent_removed name_order S.mail.decodes o e)) h
  counts_decode m o (Some operand) e =
      let entry = get S.entries operand.object.base in
      let mail : Mail = taken S.mail (event.Decode o) in
      let front = ap len (decode_message-front mail o operand entry).0 in
      let less = len_removed name_order S.mail.decodes o operand e in
      counts_decoded (operands_in ts) (undecoded_in (load_of S)) _ (enlisting_in (load_of S)) _ S.entries S.versions h
      (omega (arith, front, less)) (len_message mail o operand entry) o operand entry refl

  counts_open : (o : OpName) (c : Option OpenContents) → get S.mail.opens o ≡ c
      → CountsOf ts (open_message_taken (without S (event.Open o)) o c)
  counts_open o None e =
      subst (λ os. CountsBy ts (record (load_of S) { opens = os })) (sym (absent_removed name_order S.mail.opens o e)) h
  counts_open o (Some c) e =
      let less = len_removed name_order S.mail.opens o c e in
      counts_sent ts (record (without S (event.Open o)) { versions = (after_open S.versions o c).part }) _
      (after_open-later S.versions o c)
      (counts_opened (operands_in ts) (undecoded_in (load_of S)) (enlisting_in (load_of S))
      (len (remove S.mail.opens o) + len S.mail.uses) S.entries S.versions h (omega (arith, less)) o c)

  counts_use : (o : OpName) (v : Option OpName) → get S.mail.uses o ≡ v
      → CountsOf ts (use_message_taken (without S (event.Use o)) o v)
  counts_use o None e =
      subst (λ us. CountsBy ts (record (load_of S) { uses = us })) (sym (absent_removed name_order S.mail.uses o e)) h
  counts_use o (Some v) e =
      let less = len_removed name_order S.mail.uses o v e in
      counts_sent ts (record (without S (event.Use o)) { versions = (after_use S.versions o v).part }) _
      (after_use-later S.versions o v)
      (counts_used (operands_in ts) (undecoded_in (load_of S)) (enlisting_in (load_of S))
      (len S.mail.opens + len (remove S.mail.uses o)) S.entries S.versions h (omega (arith, less)) o v)

  -- ---- the others

  counts_ready : (o : OpName) (c : Option Source) → CountsOf ts (ready_message_taken (without S (event.Ready o)) o c)
  counts_ready o None = h
  counts_ready o (Some source) = counts_sent ts (without S (event.Ready o)) _ (after_ready-later S.flight o source) h

  counts_link : (o : OpName) (c : Option OpName) → CountsOf ts (link_message_taken (without S (event.Link o)) o c)
  counts_link o None = h
  counts_link o (Some next) = counts_sent ts (without S (event.Link o)) _ (after_link-later S.flight o next) h

  counts_bye : (o : OpName) (c : Option Bool) → CountsOf ts (bye_message_taken (without S (event.Bye o)) o c)
  counts_bye o None = h
  counts_bye o (Some promised) = h

  counts_start_task : (m : Machine) (w t : ℕ) (q : List ℕ) (x : Option Flying) → CountsOf ts (start_task m S w t q x)
  counts_start_task m w t q None = h
  counts_start_task m w t q (Some x) = h

  counts_start : (m : Machine) (w : ℕ) (queue : List ℕ) → CountsOf ts (after_start m S w queue)
  counts_start m w [] = h
  counts_start m w (t ∷ q) = counts_start_task m w t q (get S.flight t)

  counts_exec : (m : Machine) (w : ℕ) (b : Option Busy) → CountsOf ts (after_exec m S w b)
  counts_exec m w None = h
  counts_exec m w (Some b) = h

  counts_finish : (w : ℕ) (b : Option Busy) → CountsOf ts (after_finish S w b)
  counts_finish w None = h
  counts_finish w (Some b) = counts_sent ts S _ (flight_after_finish-later S.flight b.task.number) h

  counts_release : (o : OpName) (c : Option ReleaseContents)
      → CountsOf ts (release_message_taken (without S (event.Release o)) o c)
  counts_release o None = h
  counts_release o (Some r) =
      counts_sent ts (record (without S (event.Release o)) { versions = (after_release S.versions o r).part }) _
      (after_release-later S.versions o r)
      (counts_versions (after_release S.versions o r).part
      (each_release Within (readers_of_each _ _) S.versions h.registered o r))

  counts_retiring : (base : ℕ) (e : Option Entry) → get S.entries base ≡ e
      → CountsBy ts (record (load_of S) { entries = retiring_entry S.entries base e })
  counts_retiring base None is = h
  counts_retiring base (Some e) is =
      counts_entries _ (λ b f there. elim (from_inserted nat_order S.entries base (record e {
        retiring =
            true;
      }) b f there) [
        | inl here ↦
            let a = ap (λ (f : Entry). f.sent) here.1 in
            let k = h.sent base e is in
            omega (arith, a, k)
        | inr before ↦ h.sent b f before.1
      ])

  counts_idle_by : (v : OpName) (base : ℕ) (may : Bool)
      → CountsBy ts (record (load_of S) { entries = (idle_by S.entries v base (get S.entries base) may).part })
  counts_idle_by v base true = counts_retiring base (get S.entries base) refl
  counts_idle_by v base false = h

  counts_idle : (v : OpName) (c : Option IdleContents)
      → CountsOf ts (idle_message_taken (without S (event.Idle v)) v c)
  counts_idle v None = h
  counts_idle v (Some i) =
      counts_sent ts (record (without S (event.Idle v)) { entries = (after_idle S.entries v i.base i.count).part }) _
      (after_idle-later S.entries v i.base i.count)
      (counts_idle_by v i.base (may_retire v i.count (get S.entries i.base)))

  counts_nack : (v : OpName) → CountsOf ts (nack_message_taken (without S (event.Nack v)) v)
  counts_nack v =
      counts_sent ts (record (without S (event.Nack v)) { versions = (after_nack S.versions v).part }) _
      (after_nack-later S.versions v)
      (counts_versions (after_nack S.versions v).part
      (each_nack Within (readers_of_each _ _) S.versions h.registered v))

  counts_retire : (m : Machine) (v : OpName) (x : Option Version)
      → CountsOf ts (retire_version m (without S (event.Retire v)) v x)
  counts_retire m v None = h
  counts_retire m v (Some x) =
      counts_sent ts (record (without S (event.Retire v)) { versions = after_retire S.versions v }) _
      (sent_by_retire-later v x.object x.storage)
      (counts_versions (after_retire S.versions v)
      (each_retire Within (readers_of_each _ _) S.versions h.registered v))

  counts_copy : (b : ℕ) (c : Option CopyState) → CountsOf ts (after_copy S b c)
  counts_copy b None = h
  counts_copy b (Some c) = counts_sent ts S _ (sent_by_copy-later c (is_last_piece c)) h

  counts_entries_gone : (base : ℕ) (retired : Bool)
      → CountsBy ts (record (load_of S) { entries = if retired then remove S.entries base else S.entries })
  counts_entries_gone base true =
      counts_entries _ (λ b f there. h.sent b f (from_removed nat_order S.entries base b f there).1)
  counts_entries_gone base false = h

  counts_gone : (v : OpName) (c : Option GoneContents) → CountsOf ts (gone_message_taken (without S (event.Gone v)) v c)
  counts_gone v None = h
  counts_gone v (Some g) = counts_entries_gone g.object.base g.retired

-- every event
counts_after_event : (m : Machine) (ts : List Task) (S : State) → CountsOf ts S → (e : Event) → IsEnabled m S e
    → CountsOf (spawned_after_event m S ts e) (after_event m S e)
unfolding is_enabled after_event
counts_after_event m ts S h event.Main on =
    counts_main ts S h m (spawned_by_main m S ts (call_next m S)) _ (spawns_main m ts S on)
    (load_main ts S h m (call_next m S))
counts_after_event m ts S h event.Take on = counts_take ts S h m S.inbox refl (takes_take m S on)
counts_after_event m ts S h (event.Decode o) on = counts_decode ts S h m o (get S.mail.decodes o) refl
counts_after_event m ts S h (event.Ack o) on = h
counts_after_event m ts S h (event.Open o) on = counts_open ts S h o (get S.mail.opens o) refl
counts_after_event m ts S h (event.Use o) on = counts_use ts S h o (get S.mail.uses o) refl
counts_after_event m ts S h (event.Ready o) on = counts_ready ts S h o (get S.mail.readies o)
counts_after_event m ts S h (event.Link o) on = counts_link ts S h o (get S.mail.links o)
counts_after_event m ts S h (event.Start w) on = counts_start ts S h m w S.queue
counts_after_event m ts S h (event.Exec w) on = counts_exec ts S h m w (get S.workers w)
counts_after_event m ts S h (event.Finish w) on = counts_finish ts S h w (get S.workers w)
counts_after_event m ts S h (event.Release o) on = counts_release ts S h o (get S.mail.releases o)
counts_after_event m ts S h (event.Bye o) on = counts_bye ts S h o (get S.mail.byes o)
counts_after_event m ts S h (event.Idle v) on = counts_idle ts S h v (get S.mail.idles v)
counts_after_event m ts S h (event.Nack v) on = counts_nack ts S h v
counts_after_event m ts S h (event.Retire v) on = counts_retire ts S h m v (get S.versions v)
counts_after_event m ts S h (event.Copy b) on = counts_copy ts S h b (get S.copies b)
counts_after_event m ts S h (event.Gone v) on = counts_gone ts S h v (get S.mail.gones v)

-- with the tasks' numbers
abbrev AreReadersCounted : TasksFact
AreReadersCounted m ts S = HasTaskNumbers m ts S × CountsOf ts S

-- it is kept
AreReadersCounted-after_event : IsKept AreReadersCounted
AreReadersCounted-after_event m ts S e h on =
    (HasTaskNumbers-after_event m ts S e h.0 on, counts_after_event m ts S h.1 e on)

-- the first state has it
AreReadersCounted-initial_state : (m : Machine) (i : ImageState) → AreReadersCounted m [] (initial_state i)
AreReadersCounted-initial_state m i = (
  HasTaskNumbers-initial_state m i,
  record {
    fits =
        let a = len-empty name_cmp Operand in
        let b = len-empty name_cmp OpenContents in
        let c = len-empty name_cmp OpName in
        omega (arith, a, b, c);
    sent = λ base e there. absurd (none-some e (sym (get-empty nat_cmp base) ∙ there));
    registered = λ v x there. absurd (none-some x (sym (get-empty name_cmp v) ∙ there));
  },
)

-- the counts are within what a run may have
counts_readers : (m : Machine) (ts : List Task) (S : State) → AreReadersCounted m ts S → CountsReaders m ts S
counts_readers m ts S h =
    let few = operands_few m.limits.max_operands ts (λ n t e. (h.0.each n t e).operands) in
    let tasks : length ts ≤ m.limits.max_tasks = let a = h.0.spawned in let b = h.0.few in omega (arith, a, b) in
    let most = mul-le-mul_right m.limits.max_operands tasks in
    record {
      sent = λ base e there. let a = h.1.sent base e there in omega (arith, a, few, most);
      registered = λ v x there. let a = h.1.registered v x there in omega (arith, a, few, most);
    }

-- the law
pub readers_of_runs : ReadersLaw
readers_of_runs =
    law_from AreReadersCounted CountsReaders AreReadersCounted-initial_state AreReadersCounted-after_event
    counts_readers
