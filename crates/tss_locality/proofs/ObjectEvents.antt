-- Each event of the versioning and renaming tables, and of the gateway, concerns its operand or version alone.
use Rattle.std.proofs.Common.{◌≡◌, ℕ, Bool, true, false, cond, Option, Some, None, refl, sym, subst}
use Rattle.std.specs.FinMap.{get, remove}
use Rattle.tss_base.specs.declared.operand.OpName.{OpName}
use Rattle.tss_base.specs.declared.operand.Mode.{Mode}
use Rattle.tss_base.specs.declared.operand.Mode.TheVariants.{Input, Output, Inout}
use Rattle.tss_base.specs.declared.operand.Operand.{Operand}
use Rattle.tss_base.specs.declared.machine.Machine.{Machine}
use Rattle.tss_base.specs.declared.event.Event.TheVariants as event
use Rattle.tss_base.specs.Names.{Numbered}
use Rattle.tss_maps.proofs.Keys.{nat_order, name_order}
use Rattle.tss_protocol.specs.Names.{bank_of}
use Rattle.tss_protocol.specs.Mail.{OpenContents, ReleaseContents, IdleContents, GoneContents}
use Rattle.tss_protocol.specs.State.{Entry, State}
use Rattle.tss_protocol.specs.Gateway.{gateway_after_ack}
use Rattle.tss_protocol.specs.Renaming.{entry_after_decode, takes_place, takes_buffer, places_after_decode}
use Rattle.tss_protocol.specs.Renaming.{buffers_after_decode, live_message, decode_message, decoded_by, may_retire}
use Rattle.tss_protocol.specs.Renaming.{retiring_entry, idle_by, buffers_after_gone}
use Rattle.tss_protocol.specs.Versions.{after_open, after_use, after_release, after_nack}
use Rattle.tss_protocol.specs.Buffers.{contents_after_gone}
use Rattle.tss_protocol.specs.UnitMachine.{tables_of, without, with_entries, with_decoded, decode_message_taken}
use Rattle.tss_protocol.specs.UnitMachine.{open_message_taken, use_message_taken, release_message_taken}
use Rattle.tss_protocol.specs.UnitMachine.{idle_message_taken, gone_message_taken, after_event}
use Rattle.tss_locality.specs.Agreement.{Beyond, AgreeAt}
use Rattle.tss_locality.specs.Concerns.{FindsOwn}
use Rattle.tss_locality.specs.Scopes.{Scope, IsOwn, IsBase, beyond, ChangesOnly, NameIn, GoingIn, MessageIn, Closed}
use Rattle.tss_locality.proofs.Agreements.{agree_same, agree_inserted, agree_removed}
use Rattle.tss_locality.proofs.Messages.{named_from_in}
use Rattle.tss_locality.proofs.States.{state_gateway, state_entries, state_places, state_buffers, state_contents}
use Rattle.tss_locality.proofs.Sending.{changes_taken, changes_sent, changes_versioned}
use Rattle.tss_locality.proofs.VersionEvents.{stays_open, stays_use, stays_release, stays_nack}

module _ (c : Scope) (m : Machine) (S : State) (closed : Closed c S) where
  -- ---- ack

  -- ack changes only what its operand's scope has
  pub ChangesOnly-ack : (o : OpName) → IsOwn c o → ChangesOnly c S (after_event m S (event.Ack o))
  unfolding after_event
  ChangesOnly-ack o own =
      state_gateway (beyond c) S (without S (event.Ack o)) (changes_taken c S (event.Ack o) own)
      (gateway_after_ack S.gateway o)
      (agree_removed name_order (IsOwn c) S.gateway o own)

  -- ---- open, use, release, nack

  open_taken : (o : OpName) → IsOwn c o → (x : Option OpenContents) → get S.mail.opens o ≡ x →
      ChangesOnly c S (open_message_taken (without S (event.Open o)) o x)
  open_taken o own None there = changes_taken c S (event.Open o) own
  open_taken o own (Some x) there =
      changes_versioned c S (event.Open o) own (after_open S.versions o x)
      (stays_open c S.versions closed.versions o x own.0 (closed.mail.opens o x own.0 there))

  -- open changes only what its operand's scope has
  pub ChangesOnly-open : (o : OpName) → IsOwn c o → ChangesOnly c S (after_event m S (event.Open o))
  unfolding after_event
  ChangesOnly-open o own = open_taken o own (get S.mail.opens o) refl

  use_taken : (o : OpName) → IsOwn c o → (v : Option OpName) → get S.mail.uses o ≡ v →
      ChangesOnly c S (use_message_taken (without S (event.Use o)) o v)
  use_taken o own None there = changes_taken c S (event.Use o) own
  use_taken o own (Some v) there =
      changes_versioned c S (event.Use o) own (after_use S.versions o v)
      (stays_use c S.versions closed.versions o v own.0 (closed.mail.uses o v own.0 there))

  -- use changes only what its operand's scope has
  pub ChangesOnly-use : (o : OpName) → IsOwn c o → ChangesOnly c S (after_event m S (event.Use o))
  unfolding after_event
  ChangesOnly-use o own = use_taken o own (get S.mail.uses o) refl

  release_taken : (o : OpName) → IsOwn c o → (r : Option ReleaseContents) → get S.mail.releases o ≡ r →
      ChangesOnly c S (release_message_taken (without S (event.Release o)) o r)
  release_taken o own None there = changes_taken c S (event.Release o) own
  release_taken o own (Some r) there =
      changes_versioned c S (event.Release o) own (after_release S.versions o r)
      (stays_release c S.versions closed.versions o r own (closed.mail.releases o r own.0 there))

  -- release changes only what its operand's scope has
  pub ChangesOnly-release : (o : OpName) → IsOwn c o → ChangesOnly c S (after_event m S (event.Release o))
  unfolding after_event
  ChangesOnly-release o own = release_taken o own (get S.mail.releases o) refl

  -- nack changes only what its version's scope has
  pub ChangesOnly-nack : (v : OpName) → c.names v → ChangesOnly c S (after_event m S (event.Nack v))
  unfolding after_event
  ChangesOnly-nack v p =
      changes_versioned c S (event.Nack v) p (after_nack S.versions v) (stays_nack c S.versions closed.versions v p)

  -- ---- decode

  places_if : (o : OpName) (bank : ℕ) (takes : Bool) → c.names o →
      AgreeAt (Beyond c.names) S.places (places_after_decode S.places o bank takes)
  places_if o bank true p = agree_inserted name_order c.names S.places o bank p
  places_if o bank false p = agree_same (Beyond c.names) S.places

  buffers_if : (o : OpName) (bank : ℕ) (takes : Bool) → c.names o →
      AgreeAt (Beyond c.names) S.buffers (buffers_after_decode S.buffers o bank takes)
  buffers_if o bank true p = agree_inserted name_order c.names S.buffers o bank p
  buffers_if o bank false p = agree_same (Beyond c.names) S.buffers

  live_in : (o : OpName) (p : Operand) (e : Entry) (mode : Mode) → IsOwn c o → c.objects p.object → c.names e.latest →
      MessageIn c (live_message o p e mode)
  live_in o p e Input own object latest = (own, latest)
  live_in o p e Output own object latest = (own, record { object = object; storage = own.0; follows = latest })
  live_in o p e Inout own object latest = (own, record { object = object; storage = tt; follows = latest })

  -- what a decode sends
  pub decode_message_in : (o : OpName) (p : Operand) (e : Option Entry) → get S.entries p.object.base ≡ e →
      ((y : Entry) → get S.entries p.object.base ≡ Some y → y.object ≡ p.object) → IsOwn c o →
      c.objects p.object → MessageIn c (decode_message o p e)
  decode_message_in o p None there found own object = (own, record { object = object; storage = tt; follows = tt })
  decode_message_in o p (Some e) there found own object =
      live_in o p e p.mode own object
      (closed.entries p.object.base e there (subst c.objects (sym (found e there)) object))

  decoded : (o : OpName) (p : Operand) (bank : ℕ) (e : Option Entry) → get S.entries p.object.base ≡ e →
      ((y : Entry) → get S.entries p.object.base ≡ Some y → y.object ≡ p.object) → IsOwn c o → c.objects p.object →
      ChangesOnly c S (with_decoded (without S (event.Decode o)) (decoded_by (tables_of S) o p bank e))
  decoded o p bank e there found own object =
      let d = decoded_by (tables_of S) o p bank e in
      let T = without S (event.Decode o) in
      let A : State = record T { entries = d.part.entries } in
      let B : State = record A { places = d.part.places } in
      let base : IsBase c p.object.base = (p.object, object, refl) in
      let in_entries = state_entries (beyond c) S T (changes_taken c S (event.Decode o) own) d.part.entries
      (agree_inserted nat_order (IsBase c) S.entries p.object.base (entry_after_decode o p e) base) in
      let in_places =
      state_places (beyond c) S A in_entries d.part.places (places_if o bank (takes_place e p.mode) own.0) in
      changes_sent c S (record B { buffers = d.part.buffers })
      (state_buffers (beyond c) S B in_places d.part.buffers (buffers_if o bank (takes_buffer e p.mode) own.0))
      d.sent (named_from_in c (decode_message o p e) (decode_message_in o p e there found own object), (own, tt))

  decode_taken : (o : OpName) → IsOwn c o → FindsOwn S o → (p : Option Operand) → get S.mail.decodes o ≡ p →
      ChangesOnly c S (decode_message_taken m (without S (event.Decode o)) o p)
  decode_taken o own found None there = changes_taken c S (event.Decode o) own
  decode_taken o own found (Some p) there =
      decoded o p (bank_of m.sizes p.object) (get S.entries p.object.base) refl (λ y e. found p y there e) own
      (closed.mail.decodes o p own.0 there)

  -- decode changes only what its operand's scope has, where it finds an entry of its own object or none
  pub ChangesOnly-decode : (o : OpName) → IsOwn c o → FindsOwn S o → ChangesOnly c S (after_event m S (event.Decode o))
  unfolding after_event
  ChangesOnly-decode o own found = decode_taken o own found (get S.mail.decodes o) refl

  -- ---- idle

  entries_retiring : (base : ℕ) (e : Option Entry) → IsBase c base →
      AgreeAt (Beyond (IsBase c)) S.entries (retiring_entry S.entries base e)
  entries_retiring base None p = agree_same (Beyond (IsBase c)) S.entries
  entries_retiring base (Some e) p = agree_inserted nat_order (IsBase c) S.entries base (record e { retiring = true }) p

  idle_answered : (v : OpName) (base : ℕ) (e : Option Entry) (may : Bool) → c.names v → IsBase c base →
      ChangesOnly c S (with_entries (without S (event.Idle v)) (idle_by S.entries v base e may))
  idle_answered v base e true p base_in =
      let T = without S (event.Idle v) in
      let x = retiring_entry S.entries base e in
      changes_sent c S (record T { entries = x })
      (state_entries (beyond c) S T (changes_taken c S (event.Idle v) p) x (entries_retiring base e base_in))
      (idle_by S.entries v base e true).sent (p, tt)
  idle_answered v base e false p base_in =
      changes_sent c S (without S (event.Idle v)) (changes_taken c S (event.Idle v) p)
      (idle_by S.entries v base e false).sent (p, tt)

  idle_taken : (v : OpName) → c.names v → (i : Option IdleContents) → get S.mail.idles v ≡ i →
      ChangesOnly c S (idle_message_taken (without S (event.Idle v)) v i)
  idle_taken v p None there = changes_taken c S (event.Idle v) p
  idle_taken v p (Some i) there =
      idle_answered v i.base (get S.entries i.base) (may_retire v i.count (get S.entries i.base)) p
      (closed.mail.idles v i p there)

  -- idle changes only what its version's scope has
  pub ChangesOnly-idle : (v : OpName) → c.names v → ChangesOnly c S (after_event m S (event.Idle v))
  unfolding after_event
  ChangesOnly-idle v p = idle_taken v p (get S.mail.idles v) refl

  -- ---- gone

  entries_if : (base : ℕ) (retired : Bool) → IsBase c base →
      AgreeAt (Beyond (IsBase c)) S.entries (cond retired (remove S.entries base) S.entries)
  entries_if base true p = agree_removed nat_order (IsBase c) S.entries base p
  entries_if base false p = agree_same (Beyond (IsBase c)) S.entries

  contents_freed : (b : Option OpName) → NameIn c b →
      AgreeAt (Beyond c.names) S.contents (contents_after_gone S.contents b)
  contents_freed None p = agree_same (Beyond c.names) S.contents
  contents_freed (Some b) p = agree_removed name_order c.names S.contents b p

  buffers_freed : (b : Option OpName) → NameIn c b → AgreeAt (Beyond c.names) S.buffers (buffers_after_gone S.buffers b)
  buffers_freed None p = agree_same (Beyond c.names) S.buffers
  buffers_freed (Some b) p = agree_removed name_order c.names S.buffers b p

  gone_taken : (v : OpName) → c.names v → (g : Option GoneContents) → get S.mail.gones v ≡ g →
      ChangesOnly c S (gone_message_taken (without S (event.Gone v)) v g)
  gone_taken v p None there = changes_taken c S (event.Gone v) p
  gone_taken v p (Some g) there =
      let i : GoingIn c g = closed.mail.gones v g p there in
      let T = without S (event.Gone v) in
      let A : State = record T { contents = contents_after_gone S.contents g.buffer } in
      let entries : Numbered Entry = cond g.retired (remove S.entries g.object.base) S.entries in
      let B : State = record A { entries = entries } in
      let C : State = record B { places = remove S.places v } in
      let in_contents = state_contents (beyond c) S T (changes_taken c S (event.Gone v) p)
      (contents_after_gone S.contents g.buffer) (contents_freed g.buffer i.buffer) in
      let in_entries = state_entries (beyond c) S A in_contents entries
      (entries_if g.object.base g.retired (g.object, i.object, refl)) in
      let in_places = state_places (beyond c) S B in_entries (remove S.places v)
      (agree_removed name_order c.names S.places v p) in
      state_buffers (beyond c) S C in_places (buffers_after_gone S.buffers g.buffer) (buffers_freed g.buffer i.buffer)

  -- gone changes only what its version's scope has
  pub ChangesOnly-gone : (v : OpName) → c.names v → ChangesOnly c S (after_event m S (event.Gone v))
  unfolding after_event
  ChangesOnly-gone v p = gone_taken v p (get S.mail.gones v) refl
