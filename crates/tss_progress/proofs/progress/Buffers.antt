-- Each held buffer is that of an open under way, of a version, of one that is gone with its message under way, or of
-- one that is copied home. Every event keeps this.
use Rattle.std.proofs.Common.{◌≡◌, ℕ, ◌+◌, Bool, true, false, Option, Some, None, refl, sym, ap, ◌∙◌, inl, inr}
use Rattle.std.proofs.Common.{true≢false}
use Rattle.std.specs.Prelude.{is_some}
use Rattle.std.specs.FinMap.{get, remove, get-empty}
use Rattle.std.proofs.lemmas.Bool.{and_parts}
use Rattle.std.proofs.lemmas.Option.{none-some, same_Some}
use Rattle.tss_base.specs.declared.operand.OpName.{OpName}
use Rattle.tss_base.specs.declared.machine.Machine.{Machine}
use Rattle.tss_base.specs.declared.event.Event.{Event}
use Rattle.tss_base.specs.declared.event.Event.TheVariants as event
use Rattle.tss_base.specs.Names.{name_cmp}
use Rattle.tss_base.specs.Image.{ImageState}
use Rattle.tss_maps.proofs.Keys.{nat_order, name_order, decide_key}
use Rattle.tss_maps.proofs.Changes.{at_inserted, beside_inserted, beside_removed, from_removed}
use Rattle.tss_protocol.specs.Names.{bank_of}
use Rattle.tss_protocol.specs.Mail.{StorageName, Home, Buffer, GoneContents, posted_all, taken}
use Rattle.tss_protocol.specs.State.{State, Version, CopyState, initial_state}
use Rattle.tss_protocol.specs.Renaming.{buffers_after_gone}
use Rattle.tss_protocol.specs.Versions.{retired}
use Rattle.tss_protocol.specs.Buffers.{can_retire_from, sent_by_retire, new_copy, copies_after_retire, is_last_piece}
use Rattle.tss_protocol.specs.Buffers.{piece_len, copies_after_copy, sent_by_copy}
use Rattle.tss_protocol.specs.MainEvent.{call_next}
use Rattle.tss_protocol.specs.UnitMachine.{IsEnabled, is_enabled, after_event, without, can_retire, retire_version}
use Rattle.tss_protocol.specs.UnitMachine.{after_copy, gone_message_taken}
use Rattle.tss_names.proofs.PlainLemmas.{name_apart, none_from_test}
use Rattle.tss_progress.proofs.progress.Drained.{HaveHolders}
use Rattle.tss_progress.proofs.progress.Holders.{Holder, Held, same_buffer, no_home}
use Rattle.tss_progress.proofs.progress.TableBuffers.{buffers_main, buffers_take, buffers_ready, buffers_link}
use Rattle.tss_progress.proofs.progress.TableBuffers.{buffers_bye, buffers_start, buffers_exec, buffers_finish}
use Rattle.tss_progress.proofs.progress.TableBuffers.{buffers_idle, buffers_decode}
use Rattle.tss_progress.proofs.progress.VersionBuffers.{buffers_open, buffers_use, buffers_release, nacked_holder}
use Rattle.tss_control.proofs.rounds.Facts.{Facts}

module _ (m : Machine) (S : State) (facts : Facts m S) (h : HaveHolders S) where
  open facts use {all, ground}

  -- of a state
  abbrev Keeps : State → Type 0
  Keeps T = HaveHolders T

  no_gone : (v : OpName) (x : Version) → get S.versions v ≡ Some x → get S.mail.gones v ≡ None
  no_gone v x e = (ground.places.versions v x e).2

  -- ---- retire, copy, gone

  retired_holder : (v : OpName) (x : Version) → get S.versions v ≡ Some x → (s : Option StorageName) → x.storage ≡ s
      → can_retire_from s (get S.copies (bank_of m.sizes x.object)) ≡ true → (n : OpName)
      → Holder S.mail.opens S.versions S.mail.gones S.copies n
      → Holder (posted_all (taken S.mail (event.Retire v)) (sent_by_retire v x.object s)).opens (remove S.versions v)
      (posted_all (taken S.mail (event.Retire v)) (sent_by_retire v x.object s)).gones
      (copies_after_retire S.copies (bank_of m.sizes x.object) v x.object s) n
  retired_holder v x there None stored on n k = absurd (true≢false (sym on))
  retired_holder v x there (Some Home) stored on n (inl d) = inl d
  retired_holder v x there (Some Home) stored on n (inr (inl k)) = elim (decide_key name_order k.0 v) [
    | inl is ↦
        let one = same_Some k.1 x (sym k.2 ∙ ap (get S.versions) is ∙ there) in
        absurd (no_home n (sym stored ∙ ap (λ (x : Version). x.storage) (sym one) ∙ k.3))
    | inr other ↦ inr (inl (k.0, k.1, beside_removed name_order S.versions v k.0 other ∙ k.2, k.3))
  ]
  retired_holder v x there (Some Home) stored on n (inr (inr (inl k))) =
      let other = name_apart S.mail.gones k.0 v k.1 k.2 (no_gone v x there) in
      inr (inr (inl (
        k.0,
        k.1,
        beside_inserted name_order S.mail.gones v (retired x.object None) k.0 other ∙ k.2,
        k.3,
      )))
  retired_holder v x there (Some Home) stored on n (inr (inr (inr k))) = inr (inr (inr k))
  retired_holder v x there (Some (Buffer b)) stored on n (inl d) = inl d
  retired_holder v x there (Some (Buffer b)) stored on n (inr (inl k)) = elim (decide_key name_order k.0 v) [
    | inl is ↦
        let bank = bank_of m.sizes x.object in
        let one = same_Some k.1 x (sym k.2 ∙ ap (get S.versions) is ∙ there) in
        inr (inr (inr (
          bank,
          new_copy v x.object b,
          at_inserted nat_order S.copies bank (new_copy v x.object b),
          same_buffer b n (sym stored ∙ ap (λ (x : Version). x.storage) (sym one) ∙ k.3),
        )))
    | inr other ↦ inr (inl (k.0, k.1, beside_removed name_order S.versions v k.0 other ∙ k.2, k.3))
  ]
  retired_holder v x there (Some (Buffer b)) stored on n (inr (inr (inl k))) = inr (inr (inl k))
  retired_holder v x there (Some (Buffer b)) stored on n (inr (inr (inr k))) =
      let bank = bank_of m.sizes x.object in
      let none = none_from_test (get S.copies bank) on in
      inr (inr (inr (
        k.0,
        k.1,
        beside_inserted nat_order S.copies bank (new_copy v x.object b) k.0
            (λ is. none-some k.1 (sym none ∙ ap (get S.copies) (sym is) ∙ k.2)) ∙ k.2,
        k.3,
      )))

  buffers_retire : (v : OpName) (x : Option Version) → get S.versions v ≡ x → can_retire m S x ≡ true
      → Keeps (retire_version m (without S (event.Retire v)) v x)
  buffers_retire v None there on = absurd (true≢false (sym on))
  buffers_retire v (Some x) there on = λ n bank e. retired_holder v x there x.storage refl on n (h n bank e)

  copied_holder : (b : ℕ) (c : CopyState) → get S.copies b ≡ Some c → (last : Bool) → (n : OpName)
      → Holder S.mail.opens S.versions S.mail.gones S.copies n
      → Holder (posted_all S.mail (sent_by_copy c last)).opens S.versions
      (posted_all S.mail (sent_by_copy c last)).gones
      (copies_after_copy S.copies b c last) n
  copied_holder b c there true n (inl d) = inl d
  copied_holder b c there true n (inr (inl k)) = inr (inl k)
  copied_holder b c there true n (inr (inr (inl k))) =
      let gone = retired c.object (Some c.buffer) in
      inr (inr (inl (
        k.0,
        k.1,
        beside_inserted name_order S.mail.gones c.version gone k.0
            (λ is. (ground.places.gones k.0 k.1 k.2).1 (b, c, there, sym is)) ∙ k.2,
        k.3,
      )))
  copied_holder b c there true n (inr (inr (inr k))) = elim (decide_key nat_order k.0 b) [
    | inl is ↦
        let one = same_Some k.1 c (sym k.2 ∙ ap (get S.copies) is ∙ there) in
        let gone = retired c.object (Some c.buffer) in
        inr (inr (inl (
          c.version,
          gone,
          at_inserted name_order S.mail.gones c.version gone,
          ap (λ (c : CopyState). Some c.buffer) (sym one) ∙ ap Some k.3,
        )))
    | inr other ↦ inr (inr (inr (k.0, k.1, beside_removed nat_order S.copies b k.0 other ∙ k.2, k.3)))
  ]
  copied_holder b c there false n (inl d) = inl d
  copied_holder b c there false n (inr (inl k)) = inr (inl k)
  copied_holder b c there false n (inr (inr (inl k))) = inr (inr (inl k))
  copied_holder b c there false n (inr (inr (inr k))) =
      let more : CopyState = record c { moved = c.moved + piece_len c } in
      elim (decide_key nat_order k.0 b) [
        | inl is ↦
            let one = same_Some k.1 c (sym k.2 ∙ ap (get S.copies) is ∙ there) in
            inr (inr (inr (
              b,
              more,
              at_inserted nat_order S.copies b more,
              ap (λ (c : CopyState). c.buffer) (sym one) ∙ k.3,
            )))
        | inr other ↦
            inr (inr (inr (k.0, k.1, beside_inserted nat_order S.copies b more k.0 other ∙ k.2, k.3)))
      ]

  buffers_copy : (b : ℕ) (c : Option CopyState) → get S.copies b ≡ c → Keeps (after_copy S b c)
  buffers_copy b None e = h
  buffers_copy b (Some c) e = λ n bank at. copied_holder b c e (is_last_piece c) n (h n bank at)

  -- what stays of a buffer that isn't freed
  gone_holder : (v : OpName) (x : GoneContents) → get S.mail.gones v ≡ Some x → (n : OpName)
      → (x.buffer ≡ Some n → ⊥) → Holder S.mail.opens S.versions S.mail.gones S.copies n
      → Holder S.mail.opens S.versions (remove S.mail.gones v) S.copies n
  gone_holder v x there n kept (inl d) = inl d
  gone_holder v x there n kept (inr (inl k)) = inr (inl k)
  gone_holder v x there n kept (inr (inr (inl k))) = elim (decide_key name_order k.0 v) [
    | inl is ↦
        let one = same_Some k.1 x (sym k.2 ∙ ap (get S.mail.gones) is ∙ there) in
        absurd (kept (ap (λ (x : GoneContents). x.buffer) (sym one) ∙ k.3))
    | inr other ↦ inr (inr (inl (k.0, k.1, beside_removed name_order S.mail.gones v k.0 other ∙ k.2, k.3)))
  ]
  gone_holder v x there n kept (inr (inr (inr k))) = inr (inr (inr k))

  gone_by : (v : OpName) (x : GoneContents) → get S.mail.gones v ≡ Some x → (b : Option OpName) → x.buffer ≡ b
      → Held (buffers_after_gone S.buffers b) S.mail.opens S.versions (remove S.mail.gones v) S.copies
  gone_by v x there None is n bank e =
      gone_holder v x there n (λ s. none-some n (sym is ∙ s)) (h n bank e)
  gone_by v x there (Some b) is n bank e =
      let old = from_removed name_order S.buffers b n bank e in
      gone_holder v x there n (λ s. old.0 (same_Some n b (sym s ∙ is))) (h n bank old.1)

  buffers_gone : (v : OpName) (c : Option GoneContents) → get S.mail.gones v ≡ c → is_some c ≡ true
      → Keeps (gone_message_taken (without S (event.Gone v)) v c)
  buffers_gone v None e on = absurd (true≢false (sym on))
  buffers_gone v (Some x) e on = gone_by v x e x.buffer refl

  -- ---- all events

  -- every event keeps it
  pub HaveHolders-after_event : (e : Event) → IsEnabled m S e → HaveHolders (after_event m S e)
  unfolding is_enabled after_event
  HaveHolders-after_event event.Main on = buffers_main m S facts h (call_next m S)
  HaveHolders-after_event event.Take on = buffers_take m S facts h S.inbox
  HaveHolders-after_event (event.Decode o) on =
      buffers_decode m S facts h o (get S.mail.decodes o) refl
  HaveHolders-after_event (event.Ack o) on = h
  HaveHolders-after_event (event.Open o) on = buffers_open m S facts h o (get S.mail.opens o) refl on
  HaveHolders-after_event (event.Use o) on = buffers_use m S facts h o (get S.mail.uses o)
  HaveHolders-after_event (event.Ready o) on = buffers_ready m S facts h o (get S.mail.readies o)
  HaveHolders-after_event (event.Link o) on = buffers_link m S facts h o (get S.mail.links o)
  HaveHolders-after_event (event.Start w) on = buffers_start m S facts h w S.queue
  HaveHolders-after_event (event.Exec w) on = buffers_exec m S facts h w (get S.workers w)
  HaveHolders-after_event (event.Finish w) on = buffers_finish m S facts h w (get S.workers w)
  HaveHolders-after_event (event.Release o) on = buffers_release m S facts h o (get S.mail.releases o)
  HaveHolders-after_event (event.Bye o) on = buffers_bye m S facts h o (get S.mail.byes o)
  HaveHolders-after_event (event.Idle v) on = buffers_idle m S facts h v (get S.mail.idles v)
  HaveHolders-after_event (event.Nack v) on =
      λ n bank e. nacked_holder m S facts h v (get S.versions v) refl n (h n bank e)
  HaveHolders-after_event (event.Retire v) on =
      let both = and_parts (is_some (get S.mail.retires v)) (can_retire m S (get S.versions v)) on in
      buffers_retire v (get S.versions v) refl both.1
  HaveHolders-after_event (event.Copy b) on = buffers_copy b (get S.copies b) refl
  HaveHolders-after_event (event.Gone v) on = buffers_gone v (get S.mail.gones v) refl on

-- the first state holds none
pub HaveHolders-initial_state : (i : ImageState) → HaveHolders (initial_state i)
HaveHolders-initial_state i n bank e = absurd (none-some bank (sym (get-empty name_cmp n) ∙ e))
