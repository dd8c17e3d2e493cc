-- An open, a use, a release and a nack leave each held buffer a holder.
use Rattle.std.proofs.Common.{◌≡◌, Bool, true, false, List, [], ◌∷◌, ◌++◌, Option, Some, None, refl, sym, ap, ◌∙◌}
use Rattle.std.proofs.Common.{subst, inl, inr, true≢false}
use Rattle.std.specs.Prelude.{not, is_some}
use Rattle.std.specs.FinMap.{get, insert, remove}
use Rattle.std.proofs.lemmas.Option.{same_Some}
use Rattle.tss_base.specs.declared.operand.OpName.{OpName}
use Rattle.tss_base.specs.declared.machine.Machine.{Machine}
use Rattle.tss_base.specs.declared.event.Event.{Event}
use Rattle.tss_base.specs.declared.event.Event.TheVariants as event
use Rattle.tss_base.specs.declared.marks.How.{How}
use Rattle.tss_base.specs.declared.marks.How.TheVariants.{Beside, Over}
use Rattle.tss_base.specs.declared.marks.Follow.{Follow}
use Rattle.tss_maps.proofs.Keys.{name_order, decide_key}
use Rattle.tss_maps.proofs.Changes.{at_inserted, beside_inserted, beside_removed}
use Rattle.tss_protocol.specs.Mail.{OpenContents, ReleaseContents, Message, Bye, posted_all, taken}
use Rattle.tss_protocol.specs.State.{State, Version}
use Rattle.tss_protocol.specs.Versions.{Versioned, put_version, ready_with, first_version, new_version, followed}
use Rattle.tss_protocol.specs.Versions.{opened_how, opened_by, is_followable, enlisted, used_alone, used_behind}
use Rattle.tss_protocol.specs.Versions.{used_at, head_ready, produced_now, released_once, released_by, released_at}
use Rattle.tss_protocol.specs.Versions.{is_last, refused_once, nacked_at, settled}
use Rattle.tss_protocol.specs.UnitMachine.{without, can_open_message, open_message_taken, use_message_taken}
use Rattle.tss_protocol.specs.UnitMachine.{release_message_taken}
use Rattle.tss_protocol.proofs.SentLemmas.{AllSent, AllSent-append}
use Rattle.tss_names.proofs.PlainLemmas.{name_apart}
use Rattle.tss_names.proofs.HeldEvents.{HoldsNothing}
use Rattle.tss_progress.proofs.progress.Drained.{HaveHolders}
use Rattle.tss_progress.proofs.progress.Settled.{put_holds, can_settle_written, can_settle_followed}
use Rattle.tss_progress.proofs.progress.Holders.{Holder, sent_nothing, settle_holder, settled_after, ready_nothing}
use Rattle.tss_progress.proofs.progress.Holders.{head_nothing, change_holds, first_stored}
use Rattle.tss_control.proofs.rounds.Facts.{Facts}

module _ (m : Machine) (S : State) (facts : Facts m S) (h : HaveHolders S) where
  open facts use {ts, ground, control}

  -- of a state
  abbrev Keeps : State → Type 0
  Keeps T = HaveHolders T

  no_gone : (v : OpName) (x : Version) → get S.versions v ≡ Some x → get S.mail.gones v ≡ None
  no_gone v x e = (ground.places.versions v x e).2

  -- ---- open

  module _ (o : OpName) (c : OpenContents) (opening : get S.mail.opens o ≡ Some c) where
    fresh : get S.versions o ≡ None
    fresh = (ground.openings.opens o c opening).no_version

    -- a version with the storage of the open stands under its name
    opened_holder : (y : Version) → y.storage ≡ c.storage → (n : OpName)
        → Holder S.mail.opens S.versions S.mail.gones S.copies n
        → Holder (remove S.mail.opens o) (insert S.versions o y) S.mail.gones S.copies n
    opened_holder y stored n (inl d) = elim (decide_key name_order d.0 o) [
      | inl is ↦
          let one = same_Some d.1 c (sym d.2 ∙ ap (get S.mail.opens) is ∙ opening) in
          inr (inl (
            o,
            y,
            at_inserted name_order S.versions o y,
            stored ∙ ap (λ (c : OpenContents). c.storage) (sym one) ∙ d.3,
          ))
      | inr other ↦ inl (d.0, d.1, beside_removed name_order S.mail.opens o d.0 other ∙ d.2, d.3)
    ]
    opened_holder y stored n (inr (inl v)) =
        inr (inl (
          v.0,
          v.1,
          beside_inserted name_order S.versions o y v.0
              (name_apart S.versions v.0 o v.1 v.2 fresh) ∙ v.2,
          v.3,
        ))
    opened_holder y stored n (inr (inr rest)) = inr (inr rest)

    followed_holder : (f : Follow) (n : OpName) → Holder S.mail.opens S.versions S.mail.gones S.copies n
        → Holder (remove S.mail.opens o) (followed S.versions o c f) S.mail.gones S.copies n
    followed_holder f n k =
        let y = record (new_version c.operand.object c.storage) { predecessor = Some f.version } in
        by f (opened_holder y refl n k)
      where
        by : (f : Follow)
            → Holder (remove S.mail.opens o)
            (insert S.versions o (record (new_version c.operand.object c.storage) { predecessor = Some f.version }))
            S.mail.gones S.copies n
            → Holder (remove S.mail.opens o) (followed S.versions o c f) S.mail.gones S.copies n
        by f (inl d) = inl d
        by f (inr (inl v)) = inr (inl (change_holds _ f.version _ (λ y. refl) n v))
        by f (inr (inr rest)) = inr (inr rest)

    abbrev after_opened : Versioned → OpName → Type 0
    after_opened d n =
        Holder (posted_all (taken S.mail (event.Open o)) d.sent).opens d.part
        (posted_all (taken S.mail (event.Open o)) d.sent).gones S.copies n

    no_gone_now : (f : Follow) (u : Version) → get S.versions f.version ≡ Some u → get S.mail.gones f.version ≡ None
    no_gone_now f u there = no_gone f.version u there

    opened_how_holder : (f : Follow) → c.follows ≡ Some f → (u : Version) → get S.versions f.version ≡ Some u
        → (how : How) → (n : OpName) → Holder S.mail.opens S.versions S.mail.gones S.copies n
        → after_opened (opened_how S.versions o c f how) n
    opened_how_holder f follows u there Beside n k =
        settled_after S.copies (followed S.versions o c f) n (taken S.mail (event.Open o)) (ready_with o o c.storage)
        f.version (ready_nothing o o c.storage)
        (can_settle_followed ts S control.chains control.retirement o c f opening follows fresh u there)
        (λ x e. no_gone_now f u there) (followed_holder f n k)
    opened_how_holder f follows u there Over n k =
        settle_holder S.copies (followed S.versions o c f) n (taken S.mail (event.Open o)) f.version
        (can_settle_followed ts S control.chains control.retirement o c f opening follows fresh u there)
        (λ x e. no_gone_now f u there) (followed_holder f n k)

    opened_behind : (f : Follow) → c.follows ≡ Some f → (u : Option Version) → get S.versions f.version ≡ u
        → is_some u ≡ true → (n : OpName) → Holder S.mail.opens S.versions S.mail.gones S.copies n
        → after_opened (opened_how S.versions o c f f.how) n
    opened_behind f follows None there on n k = absurd (true≢false (sym on))
    opened_behind f follows (Some u) there on n k = opened_how_holder f follows u there f.how n k

    opened_by_holder : (s : Option Follow) → c.follows ≡ s → can_open_message S (Some c) ≡ true → (n : OpName)
        → Holder S.mail.opens S.versions S.mail.gones S.copies n → after_opened (opened_by S.versions o c s) n
    opened_by_holder None follows on n k =
        let y = first_version o c.operand.object c.storage c.operand.mode in
        sent_nothing S.copies (put_version S.versions o y) n (taken S.mail (event.Open o)) (ready_with o o c.storage)
        (ready_nothing o o c.storage) (opened_holder y (first_stored o c c.operand.mode) n k)
    opened_by_holder (Some f) follows on n k =
        opened_behind f follows (get S.versions f.version) refl
        (ap (λ s. is_followable S.versions s) (sym follows) ∙ on) n k

  -- open leaves each held buffer a holder
  pub buffers_open : (o : OpName) (c : Option OpenContents) → get S.mail.opens o ≡ c → can_open_message S c ≡ true
      → Keeps (open_message_taken (without S (event.Open o)) o c)
  buffers_open o None e on = absurd (true≢false (sym on))
  buffers_open o (Some c) e on = λ n bank at. opened_by_holder o c e c.follows refl on n (h n bank at)

  -- ---- use

  abbrev after_versioned : Event → Versioned → OpName → Type 0
  after_versioned e d n =
      Holder (posted_all (taken S.mail e) d.sent).opens d.part (posted_all (taken S.mail e) d.sent).gones S.copies n

  written_holder : (v : OpName) (x y : Version) → get S.versions v ≡ Some x → y.storage ≡ x.storage → (n : OpName)
      → Holder S.mail.opens S.versions S.mail.gones S.copies n
      → Holder S.mail.opens (put_version S.versions v y) S.mail.gones S.copies n
  written_holder v x y there same n (inl d) = inl d
  written_holder v x y there same n (inr (inl k)) = inr (inl (put_holds S.versions v x y n there same k))
  written_holder v x y there same n (inr (inr rest)) = inr (inr rest)

  used_alone_holder : (o v : OpName) (x : Version) → get S.versions v ≡ Some x → (b : Bool) → (n : OpName)
      → Holder S.mail.opens S.versions S.mail.gones S.copies n
      → after_versioned (event.Use o) (used_alone S.versions o v x b) n
  used_alone_holder o v x there true n k =
      sent_nothing S.copies (put_version S.versions v (enlisted x o)) n (taken S.mail (event.Use o))
      (ready_with o v x.storage) (ready_nothing o v x.storage) (written_holder v x (enlisted x o) there refl n k)
  used_alone_holder o v x there false n k =
      written_holder v x (record (enlisted x o) { head = Some o }) there refl n k

  used_behind_holder : (o v : OpName) (x : Version) → get S.versions v ≡ Some x → (t : Option OpName) → (n : OpName)
      → Holder S.mail.opens S.versions S.mail.gones S.copies n
      → after_versioned (event.Use o) (used_behind S.versions o v x t) n
  used_behind_holder o v x there None n k = used_alone_holder o v x there x.produced n k
  used_behind_holder o v x there (Some last) n k = written_holder v x (enlisted x o) there refl n k

  used_at_holder : (o v : OpName) (x : Option Version) → get S.versions v ≡ x → (n : OpName)
      → Holder S.mail.opens S.versions S.mail.gones S.copies n
      → after_versioned (event.Use o) (used_at S.versions o v x) n
  used_at_holder o v None there n k = k
  used_at_holder o v (Some x) there n k = used_behind_holder o v x there x.tail n k

  -- use leaves each held buffer a holder
  pub buffers_use : (o : OpName) (c : Option OpName) → Keeps (use_message_taken (without S (event.Use o)) o c)
  buffers_use o None = h
  buffers_use o (Some v) = λ n bank e. used_at_holder o v (get S.versions v) refl n (h n bank e)

  -- ---- release, nack

  written_settled : (e : Event) → (taken S.mail e).opens ≡ S.mail.opens → (taken S.mail e).gones ≡ S.mail.gones
      → (v : OpName) (x y : Version) → get S.versions v ≡ Some x → y.storage ≡ x.storage
      → y.successor ≡ x.successor → y.predecessor ≡ x.predecessor → (xs : List Message) → AllSent HoldsNothing xs
      → (n : OpName) → Holder S.mail.opens S.versions S.mail.gones S.copies n
      → Holder (posted_all (taken S.mail e) (xs ++ (settled (put_version S.versions v y) v).sent)).opens
      (settled (put_version S.versions v y) v).part
      (posted_all (taken S.mail e) (xs ++ (settled (put_version S.versions v y) v).sent)).gones S.copies n
  written_settled e opens gones v x y there stored after before xs none n k =
      settled_after S.copies (put_version S.versions v y) n (taken S.mail e) xs v none
      (can_settle_written ts S control.chains control.retirement v x y there after before)
      (λ z at. ap (λ gs. get gs v) gones ∙ no_gone v x there)
      (subst (λ os. Holder os (put_version S.versions v y) (taken S.mail e).gones S.copies n) (sym opens)
      (subst (λ gs. Holder S.mail.opens (put_version S.versions v y) gs S.copies n) (sym gones)
      (written_holder v x y there stored n k)))

  released_holder : (o v : OpName) (x : Version) → get S.versions v ≡ Some x → (producer : Bool) → (n : OpName)
      → Holder S.mail.opens S.versions S.mail.gones S.copies n
      → after_versioned (event.Release o) (released_by S.versions o v x producer) n
  released_holder o v x there true n k =
      written_settled (event.Release o) refl refl v x (produced_now x) there refl refl refl
      (head_ready v x x.head ++ Bye o false ∷ [])
      (AllSent-append HoldsNothing (head_ready v x x.head) (Bye o false ∷ []) (head_nothing v x x.head) (tt, tt)) n k
  released_holder o v x there false n k =
      written_settled (event.Release o) refl refl v x (released_once x o) there refl refl refl
      (Bye o (not (is_last o x.tail)) ∷ []) (tt, tt) n k

  released_at_holder : (o v : OpName) (producer : Bool) (x : Option Version) → get S.versions v ≡ x → (n : OpName)
      → Holder S.mail.opens S.versions S.mail.gones S.copies n
      → after_versioned (event.Release o) (released_at S.versions o v producer x) n
  released_at_holder o v producer None there n k = k
  released_at_holder o v producer (Some x) there n k = released_holder o v x there producer n k

  -- release leaves each held buffer a holder
  pub buffers_release : (o : OpName) (c : Option ReleaseContents)
      → Keeps (release_message_taken (without S (event.Release o)) o c)
  buffers_release o None = h
  buffers_release o (Some r) =
      λ n bank e. released_at_holder o r.version r.producer (get S.versions r.version) refl n (h n bank e)

  -- so does nack
  pub nacked_holder : (v : OpName) (x : Option Version) → get S.versions v ≡ x → (n : OpName)
      → Holder S.mail.opens S.versions S.mail.gones S.copies n
      → after_versioned (event.Nack v) (nacked_at S.versions v x) n
  nacked_holder v None there n k = k
  nacked_holder v (Some x) there n k =
      written_settled (event.Nack v) refl refl v x (refused_once x) there refl refl refl [] tt n k
