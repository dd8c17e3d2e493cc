-- Each name has its object after what each event does to the state.
use Rattle.std.proofs.Common.{◌≡◌, ℕ, ◌+◌, Bool, true, false, List, [], ◌∷◌, Option, Some, None, refl, sym, ap, ◌∙◌}
use Rattle.std.proofs.Common.{subst, inl, inr}
use Rattle.std.specs.Prelude.{is_some, slice_get}
use Rattle.std.specs.FinMap.{get, insert}
use Rattle.std.proofs.lemmas.Bool.{and_parts}
use Rattle.std.proofs.lemmas.Option.{none-some}
use Rattle.tss_base.specs.declared.range.Range.{Range}
use Rattle.tss_base.specs.declared.operand.OpName.{OpName}
use Rattle.tss_base.specs.declared.operand.Operand.{Operand}
use Rattle.tss_base.specs.declared.operand.Task.{Task}
use Rattle.tss_base.specs.declared.machine.Machine.{Machine}
use Rattle.tss_base.specs.declared.event.Event.{Event}
use Rattle.tss_base.specs.declared.event.Event.TheVariants as event
use Rattle.tss_base.specs.declared.marks.Stage.TheVariants as stage
use Rattle.tss_maps.proofs.Keys.{nat_order, decide_key}
use Rattle.tss_maps.proofs.Changes.{at_inserted, beside_inserted, from_inserted, from_removed}
use Rattle.tss_model.specs.Access.{operands_of}
use Rattle.tss_model.specs.MainStep.{MainState, Call, main_call}
use Rattle.tss_protocol.specs.Names.{operand_name, bank_of}
use Rattle.tss_protocol.specs.Mail.{StorageName, Home, Buffer, OpenContents}
use Rattle.tss_protocol.specs.State.{Busy, OperandState, Flying, Version, CopyState, State}
use Rattle.tss_protocol.specs.Gateway.{sent_by_take}
use Rattle.tss_protocol.specs.Stations.{storage_of, operand_at, new_operand, entered}
use Rattle.tss_protocol.specs.Buffers.{new_copy, copies_after_retire, copies_after_copy, is_last_piece, piece_len}
use Rattle.tss_protocol.specs.Workers.{busy_at_start, busy_after, exec_stretch}
use Rattle.tss_protocol.specs.MainEvent.{after_call, main_by}
use Rattle.tss_protocol.specs.UnitMachine.{stores_of, after_exec, after_finish, can_decode_message, can_open_message}
use Rattle.tss_protocol.specs.UnitMachine.{can_use_message, can_retire, take_task, after_take, start_task, after_start}
use Rattle.tss_protocol.specs.UnitMachine.{without, retire_version, after_copy, is_enabled, IsEnabled}
use Rattle.tss_locality.specs.Agreement.{operand_in}
use Rattle.tss_locality.specs.Scopes.{Scope, ChangesOnly, Closed}
use Rattle.tss_locality.specs.Objects.{Objects, object_scope, Every, HasObject, HasObjects, StandNumbered, IsFitting}
use Rattle.tss_locality.specs.Objects.{WorkerNamed, EntriesNamed, IsNamed}
use Rattle.tss_locality.proofs.Messages.{mail_same, mail_posted_all}
use Rattle.tss_locality.proofs.Flights.{record_in, from_mapped, keeps_records, flight_inserted}
use Rattle.tss_locality.proofs.Tasks.{from_zero, decodes_sent}
use Rattle.tss_locality.proofs.TakeEvent.{own_arrival}
use Rattle.tss_locality.proofs.closed.ApartScopes.{OthersWere}
use Rattle.tss_locality.proofs.SeparateObjects.{decide_range}
use Rattle.tss_locality.proofs.KeptLinks.{IsKnown}
use Rattle.tss_locality.proofs.named.NamedStates.{named_agree, records_named, mail_named}

module _ (f : Objects) (m : Machine) (S : State) (named : IsNamed f S) where
  -- ---- the event's operand or version has an object

  some_there : {X : Type 0} (x : Option X) → is_some x ≡ true → (y : X) × (x ≡ Some y)
  some_there None e = absurd (cc)
  some_there (Some y) e = (y, refl)

  decode_there : (o : OpName) (x : Option Operand) → can_decode_message m S o x ≡ true → (y : Operand) × (x ≡ Some y)
  decode_there o None e = absurd (cc)
  decode_there o (Some y) e = (y, refl)

  open_there : (x : Option OpenContents) → can_open_message S x ≡ true → (y : OpenContents) × (x ≡ Some y)
  open_there None e = absurd (cc)
  open_there (Some y) e = (y, refl)

  use_there : (x : Option OpName) → can_use_message S x ≡ true → (y : OpName) × (x ≡ Some y)
  use_there None e = absurd (cc)
  use_there (Some y) e = (y, refl)

  -- an enabled event is of a name with an object
  pub known : (e : Event) → IsEnabled m S e → IsFitting f m S e → IsKnown f m S e
  unfolding is_enabled
  known event.Main on fit = fit
  known event.Take on fit = tt
  known (event.Decode o) on fit =
      let t = decode_there o (get S.mail.decodes o) on in (named.mail.decodes o t.0 t.1, fit)
  known (event.Ack o) on fit = let t = some_there (get S.mail.acks o) on in named.mail.acks o t.0 t.1
  known (event.Open o) on fit = let t = open_there (get S.mail.opens o) on in named.mail.opens o t.0 t.1
  known (event.Use o) on fit = let t = use_there (get S.mail.uses o) on in named.mail.uses o t.0 t.1
  known (event.Ready o) on fit = let t = some_there (get S.mail.readies o) on in named.mail.readies o t.0 t.1
  known (event.Link o) on fit = let t = some_there (get S.mail.links o) on in named.mail.links o t.0 t.1
  known (event.Start w) on fit = fit
  known (event.Exec w) on fit = tt
  known (event.Finish w) on fit = tt
  known (event.Release o) on fit = let t = some_there (get S.mail.releases o) on in named.mail.releases o t.0 t.1
  known (event.Bye o) on fit = let t = some_there (get S.mail.byes o) on in named.mail.byes o t.0 t.1
  known (event.Idle v) on fit = let t = some_there (get S.mail.idles v) on in named.mail.idles v t.0 t.1
  known (event.Nack v) on fit = let t = some_there (get S.mail.nacks v) on in named.mail.nacks v t.0 t.1
  known (event.Retire v) on fit =
      let t = some_there (get S.mail.retires v)
      (and_parts (is_some (get S.mail.retires v)) (can_retire m S (get S.versions v)) on).0 in
      named.mail.retires v t.0 t.1
  known (event.Copy b) on fit = named.copies b
  known (event.Gone v) on fit = let t = some_there (get S.mail.gones v) on in named.mail.gones v t.0 t.1

  -- ---- names

  -- a change that concerns names with objects alone
  pub named_after : (c : Scope) → ((o : OpName) → c.names o → HasObject f o) → (T : State) → ChangesOnly c S T →
      T.inbox ≡ S.inbox → ((w : ℕ) (b : Busy) → get T.workers w ≡ Some b → WorkerNamed f b) → EntriesNamed f T.entries →
      ((b : ℕ) (k : CopyState) → get T.copies b ≡ Some k → f k.version ≡ Some k.object) → IsNamed f T
  named_after c less T only inbox workers entries copies = record {
    arrivals = subst (HasObjects f) (sym inbox) named.arrivals;
    records = records_named f c.names S.flight T.flight less only.operands named.records;
    workers = workers;
    entries = entries;
    places = named_agree f c.names S.places T.places less only.places named.places;
    buffers = named_agree f c.names S.buffers T.buffers less only.buffers named.buffers;
    versions = named_agree f c.names S.versions T.versions less only.versions named.versions;
    mail = mail_named f c S.mail T.mail less only.mail named.mail;
    copies = copies;
  }

  -- workers that are the same
  pub workers_same : (T : State) → T.workers ≡ S.workers → (w : ℕ) (b : Busy) → get T.workers w ≡ Some b →
      WorkerNamed f b
  workers_same T same w b there = named.workers w b (ap (λ c. get c w) (sym same) ∙ there)

  -- the entries after a change that concerns one object, which is closed after it, and makes no entry of another
  pub entries_after : (x : Range) (T : State) → ChangesOnly (object_scope f x Every) S T →
      OthersWere (object_scope f x Every) S T → Closed (object_scope f x Every) T → EntriesNamed f T.entries
  entries_after x T only were closed b e there = elim (decide_range e.object x) [
    | inr other ↦ named.entries b e (were b e there other)
    | inl same ↦ elim (decide_key nat_order b x.base) [
      | inl base ↦
          (closed.entries b e there same ∙ ap Some (sym same), ap (λ (r : Range). r.base) same ∙ sym base)
      | inr far ↦
          named.entries b e (sym (only.entries b (λ base. far (base.2 ∙ ap (λ (r : Range). r.base) base.1))) ∙ there)
    ]
  ]

  -- copies that are the same
  pub copies_same : (T : State) → T.copies ≡ S.copies → (b : ℕ) (k : CopyState) → get T.copies b ≡ Some k →
      f k.version ≡ Some k.object
  copies_same T same b k there = named.copies b k (ap (λ c. get c b) (sym same) ∙ there)

  -- every name with an object
  abbrev pub all_named : Scope
  all_named = record { names = HasObject f; objects = λ x. ⊥; tasks = Every }

  -- ---- take

  take_records : (t : Task) → S.inbox ≡ Some t → (o : OpName) (r : OperandState) →
      operand_at (insert S.flight t.number (entered t)) o ≡ Some r → HasObject f o
  take_records t there o r e = elim (decide_key nat_order o.task t.number) [
    | inl same ↦
        let made = from_mapped new_operand (operands_of t) o.place r (sym (ap (record_in o.place)
        (ap (get (insert S.flight t.number (entered t))) same ∙ at_inserted nat_order S.flight t.number (entered t)))
        ∙ e) in
        subst (λ n. HasObject f (operand_name n o.place)) (sym same) (
          made.0.object,
          named.arrivals (operand_name t.number o.place) made.0
              (ap (λ i. operand_in i (operand_name t.number o.place)) there ∙ own_arrival t o.place ∙ made.1),
        )
    | inr other ↦ named.records o r (sym (ap (record_in o.place)
        (beside_inserted nat_order S.flight t.number (entered t) o.task other)) ∙ e)
  ]

  -- the tasks in flight and the messages after take
  pub take_named : (t : Option Task) → S.inbox ≡ t → IsNamed f (after_take S t)
  take_named None there = named
  take_named (Some t) there =
      let c = all_named in
      let T = take_task S t in
      let names : (j : ℕ) (o : Operand) → slice_get (operands_of t) j ≡ Some o → HasObject f
      (operand_name t.number (0 + j)) = λ j o e.
      subst (λ j. HasObject f (operand_name t.number j)) (sym (from_zero j)) (
        o.object,
        named.arrivals (operand_name t.number j) o
            (ap (λ i. operand_in i (operand_name t.number j)) there ∙ own_arrival t j ∙ e),
      ) in
      record {
        arrivals = λ o p e. absurd (none-some p e);
        records = take_records t there;
        workers = named.workers;
        entries = named.entries;
        places = named.places;
        buffers = named.buffers;
        versions = named.versions;
        mail = mail_named f c S.mail T.mail (λ o p. p)
            (mail_posted_all c S.mail S.mail (mail_same _ _ S.mail) (sent_by_take t)
            (decodes_sent c S.flight t.number tt 0 (operands_of t) names)) named.mail;
        copies = named.copies;
      }

  -- ---- start

  worker_put : (w : ℕ) (b : Busy) → WorkerNamed f b → (q : ℕ) (x : Busy) → get (insert S.workers w b) q ≡ Some x →
      WorkerNamed f x
  worker_put w b i q x there = elim (from_inserted nat_order S.workers w b q x there) [
    | inl new ↦ subst (WorkerNamed f) (sym new.1) i
    | inr old ↦ named.workers q x old.1
  ]

  started_worker : (t : ℕ) (x : Flying) → get S.flight t ≡ Some x → x.task.number ≡ t → WorkerNamed f (busy_at_start x)
  started_worker t x there number k s e =
      let told = from_mapped (λ r. storage_of r.source) x.operands k s e in
      subst (λ n. HasObject f (operand_name n k)) (sym number)
      (named.records (operand_name t k) told.0 (ap (record_in k) there ∙ told.1))

  start_task_named : (w t : ℕ) (ts : List ℕ) (x : Option Flying) → get S.flight t ≡ x → StandNumbered S →
      IsNamed f (start_task m S w t ts x)
  start_task_named w t ts None there numbered = named
  start_task_named w t ts (Some x) there numbered =
      let c = all_named in
      let y : Flying = record x { stage = stage.Running } in
      let flight = flight_inserted c S.flight t x y tt there (keeps_records c t x y refl refl) in
      record {
        arrivals = named.arrivals;
        records = records_named f c.names S.flight (insert S.flight t y) (λ o p. p) flight.operands named.records;
        workers = worker_put w (busy_at_start x) (started_worker t x there (numbered t x there));
        entries = named.entries;
        places = named.places;
        buffers = named.buffers;
        versions = named.versions;
        mail = named.mail;
        copies = named.copies;
      }

  -- what start leaves
  pub start_named : (w : ℕ) (queue : List ℕ) → StandNumbered S → IsNamed f (after_start m S w queue)
  start_named w [] numbered = named
  start_named w (t ∷ ts) numbered = start_task_named w t ts (get S.flight t) refl numbered

  -- ---- exec, finish

  -- what exec leaves
  pub exec_named : (w : ℕ) (b : Option Busy) → get S.workers w ≡ b → IsNamed f (after_exec m S w b)
  exec_named w None there = named
  exec_named w (Some b) there = record {
    arrivals = named.arrivals;
    records = named.records;
    workers = worker_put w (busy_after b (exec_stretch S.code m.limits m.sizes.quantum b (stores_of S)))
        (named.workers w b there);
    entries = named.entries;
    places = named.places;
    buffers = named.buffers;
    versions = named.versions;
    mail = named.mail;
    copies = named.copies;
  }

  -- the workers after finish
  pub finish_workers : (w : ℕ) (b : Option Busy) → (q : ℕ) (x : Busy) → get (after_finish S w b).workers q ≡ Some x →
      WorkerNamed f x
  finish_workers w None q x e = named.workers q x e
  finish_workers w (Some b) q x e = named.workers q x (from_removed nat_order S.workers w q x e).1

  -- ---- main

  called_named : (r : MainState × Option Task) → ((t : Task) → r.1 ≡ Some t → HasObjects f (Some t)) →
      IsNamed f (after_call S r)
  called_named (main, None) spawns =
      record {
        arrivals = named.arrivals;
        records = named.records;
        workers = named.workers;
        entries = named.entries;
        places = named.places;
        buffers = named.buffers;
        versions = named.versions;
        mail = named.mail;
        copies = named.copies;
      }
  called_named (main, Some t) spawns =
      record {
        arrivals = spawns t refl;
        records = named.records;
        workers = named.workers;
        entries = named.entries;
        places = named.places;
        buffers = named.buffers;
        versions = named.versions;
        mail = named.mail;
        copies = named.copies;
      }

  -- what main leaves
  pub main_named : (call : Option Call) →
      ((x : Call) → call ≡ Some x → (t : Task) → (main_call m.limits S.home S.main x).1 ≡ Some t →
      HasObjects f (Some t)) →
      IsNamed f (main_by m S call)
  main_named None spawns =
      record {
        arrivals = named.arrivals;
        records = named.records;
        workers = named.workers;
        entries = named.entries;
        places = named.places;
        buffers = named.buffers;
        versions = named.versions;
        mail = named.mail;
        copies = named.copies;
      }
  main_named (Some x) spawns = called_named (main_call m.limits S.home S.main x) (spawns x refl)

  -- ---- copies

  retired_copies : (b : ℕ) (v : OpName) (x : Range) (s : Option StorageName) → f v ≡ Some x → (q : ℕ) (k : CopyState) →
      get (copies_after_retire S.copies b v x s) q ≡ Some k → f k.version ≡ Some k.object
  retired_copies b v x None fv q k e = named.copies q k e
  retired_copies b v x (Some Home) fv q k e = named.copies q k e
  retired_copies b v x (Some (Buffer n)) fv q k e = elim (from_inserted nat_order S.copies b (new_copy v x n) q k e) [
    | inl new ↦ subst (λ (k : CopyState). f k.version ≡ Some k.object) (sym new.1) fv
    | inr old ↦ named.copies q k old.1
  ]

  moved_copies : (b : ℕ) (k : CopyState) → get S.copies b ≡ Some k → (last : Bool) → (q : ℕ) (l : CopyState) →
      get (copies_after_copy S.copies b k last) q ≡ Some l → f l.version ≡ Some l.object
  moved_copies b k there true q l e = named.copies q l (from_removed nat_order S.copies b q l e).1
  moved_copies b k there false q l e =
      elim (from_inserted nat_order S.copies b (record k { moved = k.moved + piece_len k }) q l e) [
        | inl new ↦ subst (λ (l : CopyState). f l.version ≡ Some l.object) (sym new.1) (named.copies b k there)
        | inr old ↦ named.copies q l old.1
      ]

  -- the copies after retire
  pub retire_version_copies : (v : OpName) (y : Range) → f v ≡ Some y → (x : Option Version) →
      ((x : Version) → get S.versions v ≡ Some x → x.object ≡ y) → get S.versions v ≡ x → (q : ℕ) (k : CopyState) →
      get (retire_version m (without S (event.Retire v)) v x).copies q ≡ Some k → f k.version ≡ Some k.object
  retire_version_copies v y fv None object there q k e = named.copies q k e
  retire_version_copies v y fv (Some x) object there q k e =
      retired_copies (bank_of m.sizes x.object) v x.object x.storage (fv ∙ ap Some (sym (object x there))) q k e

  -- the copies after copy
  pub copy_copies : (b : ℕ) (k : Option CopyState) → get S.copies b ≡ k → (q : ℕ) (l : CopyState) →
      get (after_copy S b k).copies q ≡ Some l → f l.version ≡ Some l.object
  copy_copies b None there q l e = named.copies q l e
  copy_copies b (Some k) there q l e = moved_copies b k there (is_last_piece k) q l e
