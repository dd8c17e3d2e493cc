-- A closed scope stays closed after an event of one of its operands or versions.
use Rattle.std.proofs.Common.{◌≡◌, ℕ, ◌+◌, Bool, true, false, cond, List, Option, Some, None, refl, sym, subst, inl}
use Rattle.std.proofs.Common.{inr}
use Rattle.std.specs.FinMap.{get, insert, remove}
use Rattle.tss_base.specs.declared.range.Range.{Range}
use Rattle.tss_base.specs.declared.operand.OpName.{OpName}
use Rattle.tss_base.specs.declared.operand.Mode.{Mode}
use Rattle.tss_base.specs.declared.operand.Mode.TheVariants.{Input, Output, Inout}
use Rattle.tss_base.specs.declared.operand.Operand.{Operand}
use Rattle.tss_base.specs.declared.machine.Machine.{Machine}
use Rattle.tss_base.specs.declared.event.Event.{Event}
use Rattle.tss_base.specs.declared.event.Event.TheVariants as event
use Rattle.tss_maps.proofs.Keys.{nat_order, name_order}
use Rattle.tss_maps.proofs.Changes.{from_inserted, from_removed}
use Rattle.tss_protocol.specs.Names.{bank_of}
use Rattle.tss_protocol.specs.Mail.{StorageName, Home, Buffer, Source, OpenContents, ReleaseContents, IdleContents}
use Rattle.tss_protocol.specs.Mail.{GoneContents, Message, posted_all, taken}
use Rattle.tss_protocol.specs.State.{Entry, Version, CopyState, State}
use Rattle.tss_protocol.specs.Renaming.{live_entry, entry_after_decode, decoded_by, may_retire, idle_by}
use Rattle.tss_protocol.specs.Versions.{Versioned, after_open, after_use, after_release, after_nack, after_retire}
use Rattle.tss_protocol.specs.Buffers.{sent_by_retire, new_copy, copies_after_retire, copies_after_copy, is_last_piece}
use Rattle.tss_protocol.specs.Buffers.{sent_by_copy, piece_len, home_after_copy, buffer_bytes}
use Rattle.tss_protocol.specs.Stations.{after_ready, after_link}
use Rattle.tss_protocol.specs.UnitMachine.{tables_of, without, with_sent, with_versioned, with_entries, with_decoded}
use Rattle.tss_protocol.specs.UnitMachine.{queue_with, decode_message_taken, open_message_taken, use_message_taken}
use Rattle.tss_protocol.specs.UnitMachine.{ready_message_taken, link_message_taken, release_message_taken}
use Rattle.tss_protocol.specs.UnitMachine.{idle_message_taken, retire_version, after_copy, gone_message_taken}
use Rattle.tss_protocol.specs.UnitMachine.{after_event}
use Rattle.tss_locality.specs.Concerns.{FindsOwn}
use Rattle.tss_locality.specs.Scopes.{Scope, IsOwn, MaybeStorageIn, VersionIn, ClosedEntries, ClosedCopies, CopyIn}
use Rattle.tss_locality.specs.Scopes.{Closed}
use Rattle.tss_locality.proofs.Agreements.{closed_removed}
use Rattle.tss_locality.proofs.closed.ClosedMessages.{KeepAllIn, closed_taken, closed_posted_all, keep_all_from_in}
use Rattle.tss_locality.proofs.closed.ClosedStates.{closed_by, closed_mail, closed_versions, closed_flight}
use Rattle.tss_locality.proofs.closed.ClosedStates.{closed_entries}
use Rattle.tss_locality.proofs.closed.ClosedFlights.{closed_ready, closed_link}
use Rattle.tss_locality.proofs.Tasks.{ready_only, link_only}
use Rattle.tss_locality.proofs.VersionChanges.{StaysIn}
use Rattle.tss_locality.proofs.VersionEvents.{stays_open, stays_use, stays_release, stays_nack}
use Rattle.tss_locality.proofs.ObjectEvents.{decode_message_in}

module _ (c : Scope) where
  -- the message of an event is taken
  pub closed_without : (S : State) → Closed c S → (e : Event) → Closed c (without S e)
  closed_without S f e = closed_mail c S f (taken S.mail e) (closed_taken c S.mail f.mail e)

  -- messages are sent
  pub closed_sent : (S : State) → Closed c S → (ms : List Message) → KeepAllIn c ms → Closed c (with_sent S ms)
  closed_sent S f ms p = closed_mail c S f (posted_all S.mail ms) (closed_posted_all c S.mail f.mail ms p)

  -- versions are changed and messages sent
  closed_versioned : (S : State) → Closed c S → (e : Event) → (d : Versioned) → StaysIn c S.versions d →
      Closed c (with_versioned (without S e) d)
  closed_versioned S f e d s =
      closed_sent (record (without S e) { versions = d.part })
      (closed_versions c (without S e) (closed_without S f e) d.part s.versions.closed) d.sent
      (keep_all_from_in c d.sent s.sent)

module _ (c : Scope) (m : Machine) (S : State) (closed : Closed c S) where
  -- ---- open, use, release, nack

  open_closed : (o : OpName) → IsOwn c o → (x : Option OpenContents) → get S.mail.opens o ≡ x →
      Closed c (open_message_taken (without S (event.Open o)) o x)
  open_closed o own None there = closed_without c S closed (event.Open o)
  open_closed o own (Some x) there =
      closed_versioned c S closed (event.Open o) (after_open S.versions o x)
      (stays_open c S.versions closed.versions o x own.0 (closed.mail.opens o x own.0 there))

  -- a closed scope with its operand stays closed after open
  pub Closed-open : (o : OpName) → IsOwn c o → Closed c (after_event m S (event.Open o))
  unfolding after_event
  Closed-open o own = open_closed o own (get S.mail.opens o) refl

  use_closed : (o : OpName) → IsOwn c o → (v : Option OpName) → get S.mail.uses o ≡ v →
      Closed c (use_message_taken (without S (event.Use o)) o v)
  use_closed o own None there = closed_without c S closed (event.Use o)
  use_closed o own (Some v) there =
      closed_versioned c S closed (event.Use o) (after_use S.versions o v)
      (stays_use c S.versions closed.versions o v own.0 (closed.mail.uses o v own.0 there))

  -- a closed scope with its operand stays closed after use
  pub Closed-use : (o : OpName) → IsOwn c o → Closed c (after_event m S (event.Use o))
  unfolding after_event
  Closed-use o own = use_closed o own (get S.mail.uses o) refl

  release_closed : (o : OpName) → IsOwn c o → (r : Option ReleaseContents) → get S.mail.releases o ≡ r →
      Closed c (release_message_taken (without S (event.Release o)) o r)
  release_closed o own None there = closed_without c S closed (event.Release o)
  release_closed o own (Some r) there =
      closed_versioned c S closed (event.Release o) (after_release S.versions o r)
      (stays_release c S.versions closed.versions o r own (closed.mail.releases o r own.0 there))

  -- a closed scope with its operand stays closed after release
  pub Closed-release : (o : OpName) → IsOwn c o → Closed c (after_event m S (event.Release o))
  unfolding after_event
  Closed-release o own = release_closed o own (get S.mail.releases o) refl

  -- a closed scope with its version stays closed after nack
  pub Closed-nack : (v : OpName) → c.names v → Closed c (after_event m S (event.Nack v))
  unfolding after_event
  Closed-nack v p =
      closed_versioned c S closed (event.Nack v) (after_nack S.versions v) (stays_nack c S.versions closed.versions v p)

  -- ---- ready, link

  ready_closed : (o : OpName) → IsOwn c o → (s : Option Source) → get S.mail.readies o ≡ s →
      Closed c (ready_message_taken (without S (event.Ready o)) o s)
  ready_closed o own None there = closed_without c S closed (event.Ready o)
  ready_closed o own (Some s) there =
      let i = closed.mail.readies o s own.0 there in
      let w = after_ready S.flight o s in
      let T = without S (event.Ready o) in
      let in_flight = closed_flight c T (closed_without c S closed (event.Ready o)) w.flight
      (closed_ready c S.flight closed.flight o s i) in
      let A : State = record T { flight = w.flight } in
      closed_sent c (record A { queue = queue_with S.queue o.task w.queued })
      (closed_by c (record A { queue = queue_with S.queue o.task w.queued }) in_flight.arrivals in_flight.flight
      in_flight.workers in_flight.entries in_flight.versions in_flight.mail in_flight.copies)
      w.sent (keep_all_from_in c w.sent (ready_only c S.flight closed.flight o s own i).sent)

  -- a closed scope with its operand stays closed after ready
  pub Closed-ready : (o : OpName) → IsOwn c o → Closed c (after_event m S (event.Ready o))
  unfolding after_event
  Closed-ready o own = ready_closed o own (get S.mail.readies o) refl

  link_closed : (o : OpName) → IsOwn c o → (next : Option OpName) → get S.mail.links o ≡ next →
      Closed c (link_message_taken (without S (event.Link o)) o next)
  link_closed o own None there = closed_without c S closed (event.Link o)
  link_closed o own (Some next) there =
      let p = closed.mail.links o next own.0 there in
      let d = after_link S.flight o next in
      let T = without S (event.Link o) in
      closed_sent c (record T { flight = d.part })
      (closed_flight c T (closed_without c S closed (event.Link o)) d.part
      (closed_link c S.flight closed.flight o next p))
      d.sent (keep_all_from_in c d.sent (link_only c S.flight closed.flight o next own p).sent)

  -- a closed scope with its operand stays closed after link
  pub Closed-link : (o : OpName) → IsOwn c o → Closed c (after_event m S (event.Link o))
  unfolding after_event
  Closed-link o own = link_closed o own (get S.mail.links o) refl

  -- ---- decode

  live_latest : (o : OpName) (e : Entry) (mode : Mode) → c.names o → c.names e.latest →
      c.names (live_entry o e mode).latest
  live_latest o e Input p q = q
  live_latest o e Output p q = p
  live_latest o e Inout p q = p

  decoded_latest : (o : OpName) (p : Operand) (e : Option Entry) → get S.entries p.object.base ≡ e →
      ((y : Entry) → get S.entries p.object.base ≡ Some y → y.object ≡ p.object) → c.names o →
      c.objects p.object → c.names (entry_after_decode o p e).latest
  decoded_latest o p None there found own object = own
  decoded_latest o p (Some e) there found own object =
      live_latest o e p.mode own
      (closed.entries p.object.base e there (subst c.objects (sym (found e there)) object))

  entries_put : (b : ℕ) (e : Entry) → (c.objects e.object → c.names e.latest) → ClosedEntries c (insert S.entries b e)
  entries_put b e p a y there object = elim (from_inserted nat_order S.entries b e a y there) [
    | inl new ↦
        subst (λ (e : Entry). c.names e.latest) (sym new.1) (p (subst (λ (e : Entry). c.objects e.object) new.1 object))
    | inr old ↦ closed.entries a y old.1 object
  ]

  decoded_closed : (o : OpName) (p : Operand) (bank : ℕ) (e : Option Entry) → get S.entries p.object.base ≡ e →
      ((y : Entry) → get S.entries p.object.base ≡ Some y → y.object ≡ p.object) → IsOwn c o →
      c.objects p.object → Closed c (with_decoded (without S (event.Decode o)) (decoded_by (tables_of S) o p bank e))
  decoded_closed o p bank e there found own object =
      let d = decoded_by (tables_of S) o p bank e in
      let T = without S (event.Decode o) in
      let f = closed_without c S closed (event.Decode o) in
      let A : State = record T { entries = d.part.entries; places = d.part.places; buffers = d.part.buffers } in
      closed_sent c A
      (closed_by c A f.arrivals f.flight f.workers
      (entries_put p.object.base (entry_after_decode o p e) (λ in_c. decoded_latest o p e there found own.0 object))
      f.versions f.mail f.copies)
      d.sent (keep_all_from_in c d.sent (decode_message_in c m S closed o p e there found own object, (own, tt)))

  decode_closed : (o : OpName) → IsOwn c o → FindsOwn S o → (p : Option Operand) → get S.mail.decodes o ≡ p →
      Closed c (decode_message_taken m (without S (event.Decode o)) o p)
  decode_closed o own found None there = closed_without c S closed (event.Decode o)
  decode_closed o own found (Some p) there =
      decoded_closed o p (bank_of m.sizes p.object) (get S.entries p.object.base) refl (λ y e. found p y there e) own
      (closed.mail.decodes o p own.0 there)

  -- a closed scope with its operand stays closed after decode
  pub Closed-decode : (o : OpName) → IsOwn c o → FindsOwn S o → Closed c (after_event m S (event.Decode o))
  unfolding after_event
  Closed-decode o own found = decode_closed o own found (get S.mail.decodes o) refl

  -- ---- idle

  answered_closed : (v : OpName) (b : ℕ) (e : Option Entry) (may : Bool) → get S.entries b ≡ e →
      Closed c (with_entries (without S (event.Idle v)) (idle_by S.entries v b e may))
  answered_closed v b (Some e) true there =
      let T = without S (event.Idle v) in
      closed_sent c (record T { entries = insert S.entries b (record e { retiring = true }) })
      (closed_entries c T (closed_without c S closed (event.Idle v))
      (insert S.entries b (record e { retiring = true }))
      (entries_put b (record e { retiring = true }) (closed.entries b e there)))
      (idle_by S.entries v b (Some e) true).sent (tt, tt)
  answered_closed v b None true there =
      closed_sent c (without S (event.Idle v)) (closed_without c S closed (event.Idle v))
      (idle_by S.entries v b None true).sent (tt, tt)
  answered_closed v b e false there =
      closed_sent c (without S (event.Idle v)) (closed_without c S closed (event.Idle v))
      (idle_by S.entries v b e false).sent (tt, tt)

  idle_closed : (v : OpName) (i : Option IdleContents) → Closed c (idle_message_taken (without S (event.Idle v)) v i)
  idle_closed v None = closed_without c S closed (event.Idle v)
  idle_closed v (Some i) =
      answered_closed v i.base (get S.entries i.base) (may_retire v i.count (get S.entries i.base)) refl

  -- every closed scope stays closed after idle
  pub Closed-idle : (v : OpName) → Closed c (after_event m S (event.Idle v))
  unfolding after_event
  Closed-idle v = idle_closed v (get S.mail.idles v)

  -- ---- gone

  entries_left : (b : ℕ) (retired : Bool) → ClosedEntries c (cond retired (remove S.entries b) S.entries)
  entries_left b true a e there object = closed.entries a e (from_removed nat_order S.entries b a e there).1 object
  entries_left b false a e there object = closed.entries a e there object

  gone_closed : (v : OpName) (g : Option GoneContents) → Closed c (gone_message_taken (without S (event.Gone v)) v g)
  gone_closed v None = closed_without c S closed (event.Gone v)
  gone_closed v (Some g) =
      let f = closed_without c S closed (event.Gone v) in
      closed_by c (gone_message_taken (without S (event.Gone v)) v (Some g)) f.arrivals f.flight f.workers
      (entries_left g.object.base g.retired) f.versions f.mail f.copies

  -- every closed scope stays closed after gone
  pub Closed-gone : (v : OpName) → Closed c (after_event m S (event.Gone v))
  unfolding after_event
  Closed-gone v = gone_closed v (get S.mail.gones v)

  -- ---- retire

  copies_retired : (b : ℕ) (v : OpName) (x : Range) (s : Option StorageName) → c.names v → MaybeStorageIn c s →
      ClosedCopies c (copies_after_retire S.copies b v x s)
  copies_retired b v x None p i q k object there = closed.copies q k object there
  copies_retired b v x (Some Home) p i q k object there = closed.copies q k object there
  copies_retired b v x (Some (Buffer n)) p i q k object there =
      elim (from_inserted nat_order S.copies b (new_copy v x n) q k there) [
        | inl new ↦ subst (CopyIn c) (sym new.1) (record { version = p; buffer = i })
        | inr old ↦ closed.copies q k object old.1
      ]

  retire_keeps : (v : OpName) (x : Range) (s : Option StorageName) → c.objects x → KeepAllIn c (sent_by_retire v x s)
  retire_keeps v x None object = tt
  retire_keeps v x (Some Home) object = (λ p. record { object = object; buffer = tt }, tt)
  retire_keeps v x (Some (Buffer n)) object = tt

  retire_closed : (v : OpName) → c.names v → (x : Option Version) → get S.versions v ≡ x →
      Closed c (retire_version m (without S (event.Retire v)) v x)
  retire_closed v p None there = closed_without c S closed (event.Retire v)
  retire_closed v p (Some x) there =
      let i : VersionIn c x = closed.versions v x p there in
      let T = without S (event.Retire v) in
      let f = closed_without c S closed (event.Retire v) in
      let copies = copies_after_retire S.copies (bank_of m.sizes x.object) v x.object x.storage in
      let A : State = record T { versions = after_retire S.versions v; copies = copies } in
      closed_sent c A
      (closed_by c A f.arrivals f.flight f.workers f.entries
      (closed_removed name_order c.names (VersionIn c) S.versions v closed.versions) f.mail
      (copies_retired (bank_of m.sizes x.object) v x.object x.storage p i.storage))
      (sent_by_retire v x.object x.storage) (retire_keeps v x.object x.storage i.object)

  -- a closed scope with its version stays closed after retire
  pub Closed-retire : (v : OpName) → c.names v → Closed c (after_event m S (event.Retire v))
  unfolding after_event
  Closed-retire v p = retire_closed v p (get S.versions v) refl

  -- ---- copy

  copies_moved : (b : ℕ) (k : CopyState) → CopyIn c k → (last : Bool) →
      ClosedCopies c (copies_after_copy S.copies b k last)
  copies_moved b k i true q l object there = closed.copies q l object (from_removed nat_order S.copies b q l there).1
  copies_moved b k i false q l object there =
      elim (from_inserted nat_order S.copies b (record k { moved = k.moved + piece_len k }) q l there) [
        | inl new ↦ subst (CopyIn c) (sym new.1) (record { version = i.version; buffer = i.buffer })
        | inr old ↦ closed.copies q l object old.1
      ]

  copy_keeps : (k : CopyState) (last : Bool) → CopyIn c k → c.objects k.object → KeepAllIn c (sent_by_copy k last)
  copy_keeps k true i object = (λ p. record { object = object; buffer = i.buffer }, tt)
  copy_keeps k false i object = tt

  copy_closed : (b : ℕ) (k : Option CopyState) → get S.copies b ≡ k →
      ((k : CopyState) → get S.copies b ≡ Some k → c.objects k.object) → Closed c (after_copy S b k)
  copy_closed b None there p = closed
  copy_closed b (Some k) there p =
      let object = p k there in
      let i = closed.copies b k object there in
      let copies = copies_after_copy S.copies b k (is_last_piece k) in
      let home = home_after_copy S.home k (buffer_bytes S.contents k.buffer) in
      let A : State = record S { home = home; copies = copies } in
      closed_sent c A
      (closed_by c A closed.arrivals closed.flight closed.workers closed.entries closed.versions closed.mail
      (copies_moved b k i (is_last_piece k)))
      (sent_by_copy k (is_last_piece k)) (copy_keeps k (is_last_piece k) i object)

  -- a closed scope with the copied object stays closed after copy
  pub Closed-copy : (b : ℕ) → ((k : CopyState) → get S.copies b ≡ Some k → c.objects k.object) →
      Closed c (after_event m S (event.Copy b))
  unfolding after_event
  Closed-copy b p = copy_closed b (get S.copies b) refl p
