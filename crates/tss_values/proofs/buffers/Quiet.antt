-- Holders of buffers after the events that settle no version and decode nothing.
use Rattle.std.proofs.Common.{◌≡◌, inl, inr, ℕ, Bool, true, false, List, Option, Some, None, refl, sym, ap, ◌∙◌, subst}
use Rattle.std.specs.Prelude.{is_some}
use Rattle.std.specs.FinMap.{get}
use Rattle.std.proofs.lemmas.Option.{none-some, same_Some}
use Rattle.tss_base.specs.declared.operand.OpName.{OpName}
use Rattle.tss_base.specs.declared.operand.Task.{Task}
use Rattle.tss_base.specs.declared.machine.Machine.{Machine}
use Rattle.tss_base.specs.declared.event.Event.{Event}
use Rattle.tss_base.specs.declared.event.Event.TheVariants as event
use Rattle.tss_base.specs.Names.{Named}
use Rattle.tss_maps.proofs.Keys.{nat_order, name_order}
use Rattle.tss_maps.proofs.Changes.{from_inserted, from_removed, beside_removed}
use Rattle.tss_protocol.specs.Names.{bank_of}
use Rattle.tss_protocol.specs.Mail.{StorageName, Home, Buffer, IdleContents, GoneContents, posted_all, taken}
use Rattle.tss_protocol.specs.State.{State, Entry, Version, CopyState}
use Rattle.tss_protocol.specs.Renaming.{idle_by, may_retire, buffers_after_gone}
use Rattle.tss_protocol.specs.Versions.{Versioned, enlisted, used_alone, used_behind, used_at, ready_with}
use Rattle.tss_protocol.specs.Buffers.{can_retire_from, sent_by_retire, copies_after_retire, copies_after_copy}
use Rattle.tss_protocol.specs.Buffers.{sent_by_copy, is_last_piece}
use Rattle.tss_protocol.specs.UnitMachine.{IsEnabled, is_enabled, after_event, without, use_message_taken}
use Rattle.tss_protocol.specs.UnitMachine.{idle_message_taken, can_retire, retire_version, after_copy}
use Rattle.tss_protocol.specs.UnitMachine.{gone_message_taken}
use Rattle.tss_phases.proofs.Tests.{both}
use Rattle.tss_locality.proofs.LeftFields.{Leaves-after_event}
use Rattle.tss_names.specs.Held.{HasHeldPlaces}
use Rattle.tss_values.specs.Buffers.{HasBuffer, HasBuffers}
use Rattle.tss_protocol.proofs.SentLemmas.{AllSent}
use Rattle.tss_names.proofs.HeldEvents.{HoldsNothing, posted_all-nothing}
use Rattle.tss_control.proofs.rounds.EntriesQuiet.{IsQuietEvent, quiet_objects}
use Rattle.tss_values.proofs.buffers.Settled.{KeepsStorages, written_storages}
use Rattle.tss_values.proofs.buffers.Kept.{PassesBuffers, had_before, buffers_kept, HasBuffers-same}

-- ---- quiet events

same_storages : (vs us : Named Version) → us ≡ vs → KeepsStorages vs us
same_storages vs us e w z at = (z, sym (ap (λ vs. get vs w) e) ∙ at, refl)

quiet_buffers : (m : Machine) (S : State) (e : Event) → IsQuietEvent e → (after_event m S e).buffers ≡ S.buffers
quiet_buffers m S event.Take q = λ i. (Leaves-after_event m S event.Take i).buffers
quiet_buffers m S (event.Ack o) q = λ i. (Leaves-after_event m S (event.Ack o) i).buffers
quiet_buffers m S (event.Ready o) q = λ i. (Leaves-after_event m S (event.Ready o) i).buffers
quiet_buffers m S (event.Link o) q = λ i. (Leaves-after_event m S (event.Link o) i).buffers
quiet_buffers m S (event.Start w) q = λ i. (Leaves-after_event m S (event.Start w) i).buffers
quiet_buffers m S (event.Exec w) q = λ i. (Leaves-after_event m S (event.Exec w) i).buffers
quiet_buffers m S (event.Finish w) q = λ i. (Leaves-after_event m S (event.Finish w) i).buffers
quiet_buffers m S (event.Bye o) q = λ i. (Leaves-after_event m S (event.Bye o) i).buffers
quiet_buffers m S e q = absurd q

-- take, ack, ready, link, start, exec, finish and bye
pub HasBuffers-quiet : (m : Machine) (ts : List Task) (S : State) → HasBuffers ts S → (e : Event) → IsQuietEvent e
    → HasBuffers ts (after_event m S e)
HasBuffers-quiet m ts S h e q =
    let s = quiet_objects m S e q in
    HasBuffers-same ts S (after_event m S e) (record {
      opens = s.opens;
      versions = same_storages S.versions (after_event m S e).versions s.versions;
      gones = s.gones;
      copies = s.copies;
      buffers = quiet_buffers m S e q;
    }) h

-- ---- use

-- a ready holds nothing
pub ready_nothing : (o v : OpName) (s : Option StorageName) → AllSent HoldsNothing (ready_with o v s)
ready_nothing o v None = tt
ready_nothing o v (Some s) = (tt, tt)

-- a use changes no storage, and sends nothing that holds one
abbrev UsesNone : Named Version → Versioned → Type 0
UsesNone vs d = KeepsStorages vs d.part × AllSent HoldsNothing d.sent

module _ (vs : Named Version) (o v : OpName) where
  alone_none : (x : Version) → get vs v ≡ Some x → (b : Bool) → UsesNone vs (used_alone vs o v x b)
  alone_none x e true = (written_storages vs v x (enlisted x o) e refl, ready_nothing o v x.storage)
  alone_none x e false = (written_storages vs v x (record (enlisted x o) { head = Some o }) e refl, tt)

  behind_none : (x : Version) → get vs v ≡ Some x → (t : Option OpName) → UsesNone vs (used_behind vs o v x t)
  behind_none x e None = alone_none x e x.produced
  behind_none x e (Some last) = (written_storages vs v x (enlisted x o) e refl, (tt, tt))

  at_none : (x : Option Version) → get vs v ≡ x → UsesNone vs (used_at vs o v x)
  at_none None e = (same_storages vs vs refl, tt)
  at_none (Some x) e = behind_none x e x.tail

module _ (m : Machine) (ts : List Task) (S : State) (h : HasBuffers ts S) where
  used_by : (o : OpName) (v : Option OpName) → HasBuffers ts (use_message_taken (without S (event.Use o)) o v)
  used_by o None = HasBuffers-same ts S _
      (record {
        opens = refl;
        versions = same_storages S.versions S.versions refl;
        gones = refl;
        copies = refl;
        buffers = refl;
      }) h
  used_by o (Some v) =
      let u = at_none S.versions o v (get S.versions v) refl in
      let k = posted_all-nothing (taken S.mail (event.Use o)) (used_at S.versions o v (get S.versions v)).sent u.1 in
      HasBuffers-same ts S (use_message_taken (without S (event.Use o)) o (Some v))
      (record { opens = k.0; versions = u.0; gones = k.1; copies = refl; buffers = refl }) h

  -- use
  pub HasBuffers-use : (o : OpName) → HasBuffers ts (after_event m S (event.Use o))
  unfolding after_event
  HasBuffers-use o = used_by o (get S.mail.uses o)

  -- ---- idle

  answered : (v : OpName) (i : IdleContents) (e : Option Entry) (b : Bool)
      → AllSent HoldsNothing (idle_by S.entries v i.base e b).sent
  answered v i e true = (tt, tt)
  answered v i e false = (tt, tt)

  idled_by : (v : OpName) (i : Option IdleContents) → HasBuffers ts (idle_message_taken (without S (event.Idle v)) v i)
  idled_by v None = HasBuffers-same ts S _
      (record {
        opens = refl;
        versions = same_storages S.versions S.versions refl;
        gones = refl;
        copies = refl;
        buffers = refl;
      }) h
  idled_by v (Some i) =
      let e = get S.entries i.base in
      let k = posted_all-nothing (taken S.mail (event.Idle v)) _ (answered v i e (may_retire v i.count e)) in
      HasBuffers-same ts S (idle_message_taken (without S (event.Idle v)) v (Some i)) (record {
        opens = k.0;
        versions = same_storages S.versions S.versions refl;
        gones = k.1;
        copies = refl;
        buffers = refl;
      }) h

  -- idle
  pub HasBuffers-idle : (v : OpName) → HasBuffers ts (after_event m S (event.Idle v))
  unfolding after_event
  HasBuffers-idle v = idled_by v (get S.mail.idles v)

  -- ---- retire

  module _ (v : OpName) (x : Version) (there : get S.versions v ≡ Some x) where
    abbrev Retired : State
    Retired = retire_version m (without S (event.Retire v)) v (Some x)

    passes_home : x.storage ≡ Some Home → PassesBuffers S (record Retired {
      copies = S.copies;
      mail = posted_all (taken S.mail (event.Retire v)) (sent_by_retire v x.object (Some Home));
    })
    passes_home e = record {
      opens = λ w b t. inl t;
      versions = λ w b t. inr (inl (t.0, (from_removed name_order S.versions v w t.0 t.1).1, t.2));
      gones = λ w b t. elim (from_inserted name_order S.mail.gones v _ w t.0 t.1) [
        | inl new ↦ absurd (none-some b (sym (ap (λ (g : GoneContents). g.buffer) new.1) ∙ t.2))
        | inr old ↦ inr (inr (inl (t.0, old.1, t.2)))
      ];
      copies = λ w b t. inr (inr (inr t));
    }

    passes_buffer : (n : OpName) → x.storage ≡ Some (Buffer n) → PassesBuffers S (record Retired {
      copies = copies_after_retire S.copies (bank_of m.sizes x.object) v x.object (Some (Buffer n));
      mail = posted_all (taken S.mail (event.Retire v)) (sent_by_retire v x.object (Some (Buffer n)));
    })
    passes_buffer n e = record {
      opens = λ w b t. inl t;
      versions = λ w b t. inr (inl (t.0, (from_removed name_order S.versions v w t.0 t.1).1, t.2));
      gones = λ w b t. inr (inr (inl t));
      copies = λ w b t. elim (from_inserted nat_order S.copies (bank_of m.sizes x.object) _ t.0 t.1 t.2) [
        | inl new ↦
            let is : v ≡ w = sym (ap (λ (c : CopyState). c.version) new.1) ∙ t.3 in
            let buffer : n ≡ b = sym (ap (λ (c : CopyState). c.buffer) new.1) ∙ t.4 in
            inr (inl (x, ap (get S.versions) (sym is) ∙ there, e ∙ ap (λ n. Some (Buffer n)) buffer))
        | inr old ↦ inr (inr (inr (t.0, t.1, old.1, t.3, t.4)))
      ];
    }

    retired_by : (s : Option StorageName) → x.storage ≡ s
        → can_retire_from s (get S.copies (bank_of m.sizes x.object)) ≡ true
        → HasBuffers ts (record Retired {
          copies = copies_after_retire S.copies (bank_of m.sizes x.object) v x.object s;
          mail = posted_all (taken S.mail (event.Retire v)) (sent_by_retire v x.object s);
        })
    retired_by None e on = absurd (cc)
    retired_by (Some Home) e on = buffers_kept ts S _ h (passes_home e) (λ w b bank t f. f)
    retired_by (Some (Buffer n)) e on = buffers_kept ts S _ h (passes_buffer n e) (λ w b bank t f. f)

  retire_by : (v : OpName) (x : Option Version) → get S.versions v ≡ x → can_retire m S x ≡ true
      → HasBuffers ts (retire_version m (without S (event.Retire v)) v x)
  retire_by v None e on = absurd (cc)
  retire_by v (Some x) e on = retired_by v x e x.storage refl on

  -- retire
  pub HasBuffers-retire : (v : OpName) → IsEnabled m S (event.Retire v)
      → HasBuffers ts (after_event m S (event.Retire v))
  unfolding after_event is_enabled
  HasBuffers-retire v on =
      let t = both (is_some (get S.mail.retires v)) (can_retire m S (get S.versions v)) on in
      retire_by v (get S.versions v) refl t.1

  -- ---- copy

  module _ (k : ℕ) (c : CopyState) (there : get S.copies k ≡ Some c) where
    abbrev Copied : Bool → State
    Copied last = record (after_copy S k (Some c)) {
      copies = copies_after_copy S.copies k c last;
      mail = posted_all S.mail (sent_by_copy c last);
    }

    copied_by : (last : Bool) → PassesBuffers S (Copied last)
    copied_by true = record {
      opens = λ w b t. inl t;
      versions = λ w b t. inr (inl t);
      gones = λ w b t. elim (from_inserted name_order S.mail.gones c.version _ w t.0 t.1) [
        | inl new ↦ inr (inr (inr (
          k,
          c,
          there,
          sym new.0,
          same_Some c.buffer b (sym (ap (λ (g : GoneContents). g.buffer) new.1) ∙ t.2),
        )))
        | inr old ↦ inr (inr (inl (t.0, old.1, t.2)))
      ];
      copies = λ w b t. inr (inr (inr (t.0, t.1, (from_removed nat_order S.copies k t.0 t.1 t.2).1, t.3, t.4)));
    }
    copied_by false = record {
      opens = λ w b t. inl t;
      versions = λ w b t. inr (inl t);
      gones = λ w b t. inr (inr (inl t));
      copies = λ w b t. elim (from_inserted nat_order S.copies k _ t.0 t.1 t.2) [
        | inl new ↦ inr (inr (inr (
          k,
          c,
          there,
          sym (ap (λ (c : CopyState). c.version) new.1) ∙ t.3,
          sym (ap (λ (c : CopyState). c.buffer) new.1) ∙ t.4,
        )))
        | inr old ↦ inr (inr (inr (t.0, t.1, old.1, t.3, t.4)))
      ];
    }

    copied : HasBuffers ts (after_copy S k (Some c))
    copied = buffers_kept ts S (Copied (is_last_piece c)) h (copied_by (is_last_piece c)) (λ w b bank t f. f)

  copy_by : (k : ℕ) (c : Option CopyState) → get S.copies k ≡ c → HasBuffers ts (after_copy S k c)
  copy_by k None e = h
  copy_by k (Some c) e = copied k c e

  -- copy
  pub HasBuffers-copy : (k : ℕ) → HasBuffers ts (after_event m S (event.Copy k))
  unfolding after_event
  HasBuffers-copy k = copy_by k (get S.copies k) refl

  -- ---- gone

  module _ (all : List Task) (places : HasHeldPlaces m all S) (v : OpName) (g : GoneContents)
      (there : get S.mail.gones v ≡ Some g) where
    abbrev Gone : State
    Gone = gone_message_taken (without S (event.Gone v)) v (Some g)

    gone_passes : PassesBuffers S Gone
    gone_passes = record {
      opens = λ w b t. inl t;
      versions = λ w b t. inr (inl t);
      gones = λ w b t. inr (inr (inl (t.0, (from_removed name_order S.mail.gones v w t.0 t.1).1, t.2)));
      copies = λ w b t. inr (inr (inr t));
    }

    no_more : (b : OpName) → HasBuffer Gone v b → ⊥
    no_more b (inl t) = none-some g (sym (places.opens v t.0 t.1).2 ∙ there)
    no_more b (inr (inl t)) = none-some g (sym (places.versions v t.0 t.1).2 ∙ there)
    no_more b (inr (inr (inl t))) = (from_removed name_order S.mail.gones v v t.0 t.1).0 refl
    no_more b (inr (inr (inr t))) = (places.gones v g there).1 (t.0, t.1, t.2, t.3)

    still_by : (n : Option OpName) → g.buffer ≡ n → (w b : OpName) (bank : ℕ) → HasBuffer Gone w b
        → get S.buffers b ≡ Some bank → get (buffers_after_gone S.buffers n) b ≡ Some bank
    still_by None e w b bank t f = f
    still_by (Some n) e w b bank t f =
        beside_removed name_order S.buffers n b (λ same.
        let one = h.one w v b (had_before S Gone gone_passes w b t)
        (inr (inr (inl (g, there, e ∙ ap Some (sym same))))) in
        no_more b (subst (λ w. HasBuffer Gone w b) one t))
        ∙ f

    gone_kept : HasBuffers ts Gone
    gone_kept = buffers_kept ts S Gone h gone_passes (still_by g.buffer refl)

  gone_by : (all : List Task) → HasHeldPlaces m all S → (v : OpName) (g : Option GoneContents) → get S.mail.gones v ≡ g
      → is_some g ≡ true → HasBuffers ts (gone_message_taken (without S (event.Gone v)) v g)
  gone_by all places v None e on = absurd (cc)
  gone_by all places v (Some g) e on = gone_kept all places v g e

  -- gone
  pub HasBuffers-gone : (all : List Task) → HasHeldPlaces m all S → (v : OpName) → IsEnabled m S (event.Gone v)
      → HasBuffers ts (after_event m S (event.Gone v))
  unfolding after_event is_enabled
  HasBuffers-gone all places v on = gone_by all places v (get S.mail.gones v) refl on
