-- The messages of the versioning tables may be posted.
use Rattle.std.proofs.Common.{◌≡◌, ◌≢◌, ℕ, zero, suc, Bool, true, false, cond, List, [], ◌∷◌, ◌++◌, Option, Some, None}
use Rattle.std.proofs.Common.{refl, sym, ap, ◌∙◌, subst, inl, inr, arith}
use Rattle.std.specs.Prelude.{◌==◌, option_map, is_none, not}
use Rattle.std.specs.FinMap.{get, len}
use Rattle.std.proofs.lemmas.Bool.{and_parts}
use Rattle.std.proofs.lemmas.Bool.Decides.{nat_tests}
use Rattle.std.proofs.lemmas.Option.{none-some, same_Some}
use Rattle.tss_base.specs.declared.operand.OpName.{OpName}
use Rattle.tss_base.specs.declared.machine.Machine.{Machine}
use Rattle.tss_base.specs.declared.event.Event.TheVariants as event
use Rattle.tss_base.specs.declared.marks.How.{How}
use Rattle.tss_base.specs.declared.marks.How.TheVariants.{Beside, Over}
use Rattle.tss_base.specs.declared.marks.Follow.{Follow}
use Rattle.tss_base.specs.Names.{Named}
use Rattle.tss_maps.proofs.Keys.{name_order}
use Rattle.tss_maps.proofs.Changes.{at_inserted, beside_inserted, decide_get, one_value}
use Rattle.tss_protocol.specs.Mail.{StorageName, Home, Buffer, OpenContents, ReleaseContents, Ready, Link, Bye, Gone}
use Rattle.tss_protocol.specs.Mail.{Mail, posted_all, taken}
use Rattle.tss_protocol.specs.State.{State, Version}
use Rattle.tss_protocol.specs.Versions.{put_version, ready_with, settled, may_die, unlinked, new_version, followed}
use Rattle.tss_protocol.specs.Versions.{opened_how, opened_by, after_open, used_alone, used_behind, used_at, after_use}
use Rattle.tss_protocol.specs.Versions.{head_ready, produced_now, released_once, is_last, released_by, released_at}
use Rattle.tss_protocol.specs.Versions.{after_release, refused_once, nacked_at, after_nack}
use Rattle.tss_protocol.specs.Buffers.{sent_by_retire}
use Rattle.tss_protocol.specs.Settled.{GivesWay}
use Rattle.tss_protocol.proofs.SettleCases.{moved_up, at_changed, beside_changed, at_unlinked}
use Rattle.tss_phases.specs.Phase.{Waiting, look_ups, phase_of, has_released}
use Rattle.tss_phases.specs.Settling.{SettleTells}
use Rattle.tss_phases.proofs.Shown.{waiting_shows}
use Rattle.tss_phases.proofs.OrderlyLemmas.{opening_stands, using_stands, releasing_stands}
use Rattle.tss_names.specs.Names.{EachEntry}
use Rattle.tss_control.specs.Members.{registered_of}
use Rattle.tss_control.specs.Readers.{oldest_of, head_of, tail_of, NewestIs}
use Rattle.tss_control.proofs.holders.KeepsOrder.{head_waits}
use Rattle.tss_control.proofs.holders.Told.{settle_tells_waiting, settle_tells_own}
use Rattle.tss_control.proofs.rounds.Facts.{Facts}
use Rattle.tss_control.proofs.rounds.ReleaseFacts.{released_fewer}
use Rattle.tss_control.proofs.rounds.ReadersLists.{has_oldest}
use Rattle.tss_conditions.specs.Posting.{ArePostable}
use Rattle.tss_conditions.proofs.Postable.{postable_append}
use Rattle.tss_conditions.proofs.PostingSettled.{IsUnsaid, unsaid_put, unsaid_changed, AreUntold, postable_settle}

-- ---- a ready

-- of a version that may have a storage
postable_ready : (m : Mail) (o v : OpName) (s : Option StorageName) → get m.readies o ≡ None
    → ArePostable m (ready_with o v s)
postable_ready m o v None e = tt
postable_ready m o v (Some s) e = (ap (option_map (Ready o)) e, tt)

-- it leaves what isn't said
unsaid_ready : (m : Mail) (o v : OpName) (s : Option StorageName) (vs : Named Version) → EachEntry (IsUnsaid m) vs
    → EachEntry (IsUnsaid (posted_all m (ready_with o v s))) vs
unsaid_ready m o v None vs each = each
unsaid_ready m o v (Some s) vs each = each

module _ (m : Machine) (S : State) (facts : Facts m S) where
  open facts use {all, ts, g, ground, control as h}

  -- ---- what is known of the mail

  -- no message says that a registered version is gone, or asks for one that doesn't ask
  all_unsaid : EachEntry (IsUnsaid S.mail) S.versions
  all_unsaid v x at = (
    (ground.places.versions v x at).2,
    λ quiet. elim (decide_get S.mail.idles v) [
      | inl none ↦ none
      | inr i ↦
          let a = (ground.asking.idles v i.0 i.1).0 in
          absurd (none-some i.0.count (sym quiet
          ∙ ap (λ (z : Version). z.asked) (one_value S.versions v x a.0 at a.1)
          ∙ a.2))
    ],
  )

  -- who waits isn't told yet
  pub waiting_untold : (q : OpName) → phase_of S q ≡ Waiting → get S.mail.readies q ≡ None
  waiting_untold q waits = (waiting_shows (look_ups S q) waits).0.telling

  -- ---- open

  module _ (o : OpName) (c : OpenContents) (there : get S.mail.opens o ≡ Some c) where
    own_untold : get S.mail.readies o ≡ None
    own_untold = (opening_stands (look_ups S o) c (h.orderly o) there).0.telling

    own_unsaid : (x : Version) → x.asked ≡ None → IsUnsaid S.mail o x
    own_unsaid x quiet = (
      (ground.places.opens o c there).2,
      λ e. elim (decide_get S.mail.idles o) [
        | inl none ↦ none
        | inr i ↦
            let a = (ground.asking.idles o i.0 i.1).0 in
            absurd (none-some a.0 (sym (ground.places.opens o c there).1 ∙ a.1))
      ],
    )

    module _ (f : Follow) (to : c.follows ≡ Some f) (x : Version) (front : get S.versions f.version ≡ Some x) where
      abbrev opened : Named Version
      opened = followed S.versions o c f

      abbrev the_new : Version
      the_new = record (new_version c.operand.object c.storage) { predecessor = Some f.version }

      opened_unsaid : EachEntry (IsUnsaid S.mail) opened
      opened_unsaid =
          unsaid_changed S.mail (λ p. record p { successor = Some (record f { version = o }) }) (λ x. refl)
          (put_version S.versions o the_new) f.version
          (unsaid_put S.mail S.versions o the_new all_unsaid (own_unsaid the_new refl))

      older : f.version.task ≢ o.task
      older e = let a = ((h.chains.opens o c there).after f to).older in omega (arith, a, e)

      apart : f.version ≢ o
      apart e = older (ap (λ (o : OpName). o.task) e)

      at_front : get opened f.version ≡ Some (record x { successor = Some (record f { version = o }) })
      at_front =
          at_changed (λ p. record p { successor = Some (record f { version = o }) })
          (put_version S.versions o the_new) f.version x
          (beside_inserted name_order S.versions o the_new f.version apart ∙ front)

      at_own : get opened o ≡ Some the_new
      at_own =
          beside_changed (λ p. record p { successor = Some (record f { version = o }) })
          (put_version S.versions o the_new) f.version o (λ e. apart (sym e))
          ∙ at_inserted name_order S.versions o the_new

      behind : x.predecessor ≡ Some o → ⊥
      behind e =
          let a = ((h.chains.linked f.version x front).after o e).older in
          let b = ((h.chains.opens o c there).after f to).older in
          omega (arith, a, b)

      beside_over : Beside ≡ Over → ⊥
      beside_over e = cc

      -- the one that is opened gives way to none
      stays : (y : Version) → y ≡ record x { successor = Some (record f { version = o }) } → (w : Version) (k : Follow)
          (how : How) → GivesWay (unlinked opened f.version y o) o w k how → ⊥
      stays y is w k how gives =
          let stands = at_unlinked opened f.version y o (λ e. apart (sym e))
          (λ e. behind (ap (λ (z : Version). z.predecessor) (sym is) ∙ e)) the_new at_own in
          let same = one_value (unlinked opened f.version y o) o w (moved_up y the_new) gives.there stands in
          none-some k (ap (λ (z : Version). z.successor) (sym same) ∙ gives.next)

      -- so where it follows beside another, the settle tells nobody
      tells_none : f.how ≡ Beside → (n : ℕ) (q : OpName) → SettleTells n opened f.version q → ⊥
      tells_none way zero q t = t
      tells_none way (suc n) q t = elim t [
        | inl over ↦
            let is = one_value opened f.version over.version _ over.gives.there at_front in
            let next = same_Some over.follow (record f { version = o })
            (sym over.gives.next ∙ ap (λ (z : Version). z.successor) is) in
            beside_over (sym way ∙ ap (λ (k : Follow). k.how) (sym next) ∙ over.gives.way)
        | inr goes ↦
            let is = one_value opened f.version goes.version _ goes.gives.there at_front in
            let next = same_Some goes.follow (record f { version = o })
            (sym goes.gives.next ∙ ap (λ (z : Version). z.successor) is) in
            on n goes.version is
            (subst (λ (k : Follow). SettleTells n (unlinked opened f.version goes.version k.version) k.version q) next
            goes.on)
      ]
        where
          on : (n : ℕ) (y : Version) → y ≡ record x { successor = Some (record f { version = o }) }
              → SettleTells n (unlinked opened f.version y o) o q → ⊥
          on zero y is t = t
          on (suc n) y is t = elim t [
            | inl over ↦ stays y is over.version over.follow Over over.gives
            | inr goes ↦ stays y is goes.version goes.follow Beside goes.gives
          ]

      followed_how : (how : How) → f.how ≡ how
          → ArePostable (taken S.mail (event.Open o)) (opened_how S.versions o c f how).sent
      followed_how Beside way =
          postable_append (taken S.mail (event.Open o)) (ready_with o o c.storage) (settled opened f.version).sent
          (postable_ready (taken S.mail (event.Open o)) o o c.storage own_untold)
          (postable_settle (suc (len opened)) (posted_all (taken S.mail (event.Open o)) (ready_with o o c.storage))
          opened f.version (unsaid_ready (taken S.mail (event.Open o)) o o c.storage opened opened_unsaid)
          (λ q t. absurd (tells_none way (suc (len opened)) q t)))
      followed_how Over way =
          postable_settle (suc (len opened)) (taken S.mail (event.Open o)) opened f.version opened_unsaid
          (λ q t. ap (get S.mail.readies) (settle_tells_own ts S h.chains o c there f to (suc (len opened)) q t)
          ∙ own_untold)

    -- what an open sends
    pub postable_open : ((f : Follow) → c.follows ≡ Some f → (x : Version) × (get S.versions f.version ≡ Some x))
        → ArePostable (taken S.mail (event.Open o)) (after_open S.versions o c).sent
    postable_open front = by c.follows refl
      where
        by : (f : Option Follow) → c.follows ≡ f
            → ArePostable (taken S.mail (event.Open o)) (opened_by S.versions o c f).sent
        by None to = postable_ready (taken S.mail (event.Open o)) o o c.storage own_untold
        by (Some f) to = let x = front f to in followed_how f to x.0 x.1 f.how refl

  -- ---- use

  -- nobody comes after the last reader yet
  tail_unlinked : (v : OpName) (x : Version) → get S.versions v ≡ Some x → (last : OpName) → x.tail ≡ Some last
      → get S.mail.links last ≡ None
  tail_unlinked v x at last tail =
      by (g v) (sym (h.readers.versions v x at).tail ∙ tail) (h.readers.versions v x at).newest
    where
      newest : (a : OpName) (b : Bool) → cond b None (Some a) ≡ Some last → a ≡ last
      newest a true e = absurd (none-some last e)
      newest a false e = same_Some a last e

      by : (xs : List OpName) → tail_of S xs ≡ Some last → NewestIs S xs → get S.mail.links last ≡ None
      by [] e n = absurd (none-some last e)
      by (a ∷ xs) e n = elim (decide_get S.mail.links last) [
        | inl none ↦ none
        | inr next ↦
            absurd (n.linking next.0 (ap (get S.mail.links) (newest a (has_released (phase_of S a)) e) ∙ next.1))
      ]

  -- what a use sends
  pub postable_use : (o v : OpName) → get S.mail.uses o ≡ Some v
      → ArePostable (taken S.mail (event.Use o)) (after_use S.versions o v).sent
  postable_use o v there = at (get S.versions v) refl
    where
      untold : get S.mail.readies o ≡ None
      untold = (using_stands (look_ups S o) v (h.orderly o) there).0.telling

      alone : (x : Version) (b : Bool) → ArePostable (taken S.mail (event.Use o)) (used_alone S.versions o v x b).sent
      alone x true = postable_ready (taken S.mail (event.Use o)) o v x.storage untold
      alone x false = tt

      behind : (x : Version) → get S.versions v ≡ Some x → (t : Option OpName) → x.tail ≡ t
          → ArePostable (taken S.mail (event.Use o)) (used_behind S.versions o v x t).sent
      behind x e None tail = alone x x.produced
      behind x e (Some last) tail = (ap (option_map (Link last)) (tail_unlinked v x e last tail), tt)

      at : (x : Option Version) → get S.versions v ≡ x
          → ArePostable (taken S.mail (event.Use o)) (used_at S.versions o v x).sent
      at None e = tt
      at (Some x) e = behind x e x.tail refl

  -- ---- release

  module _ (o : OpName) (c : ReleaseContents) (there : get S.mail.releases o ≡ Some c) (x : Version)
      (at : get S.versions c.version ≡ Some x) where
    abbrev before : Mail
    before = taken S.mail (event.Release o)

    -- the versions with the one that is released
    abbrev written : Version → Named Version
    written z = put_version S.versions c.version z

    no_bye : get S.mail.byes o ≡ None
    no_bye = (releasing_stands (look_ups S o) c (h.orderly o) there).0.leaving

    written_unsaid : (z : Version) → z.asked ≡ x.asked → EachEntry (IsUnsaid S.mail) (written z)
    written_unsaid z asks =
        let own = all_unsaid c.version x at in
        unsaid_put S.mail S.versions c.version z all_unsaid (own.0, λ quiet. own.1 (sym asks ∙ quiet))

    -- a version whose first reader waits doesn't give way
    head_stays : (q : OpName) → x.head ≡ Some q → (f : Follow) → x.successor ≡ Some f
        → may_die (produced_now x) f.last ≡ true → ⊥
    head_stays q head f to done =
        let waits = head_waits ts g S h.readers c.version x at q head in
        let oldest = by x.produced (sym (h.readers.versions c.version x at).head ∙ head) in
        let has = has_oldest q (g c.version) oldest in
        let fewer = released_fewer ts g S h.readers c.version q x at has (ap has_released waits) in
        let last = ((h.chains.linked c.version x at).followed f to).last in
        let own = ap registered_of at in
        let full = equal_from x.released f.last (and_parts (x.released == f.last) (is_none x.asked) done).0 in
        omega (arith, fewer, last, own, full)
      where
        by : (b : Bool) → head_of b (g c.version) ≡ Some q → oldest_of (g c.version) ≡ Some q
        by true e = absurd (none-some q e)
        by false e = e

        equal_from : (a b : ℕ) → (a == b) ≡ true → a ≡ b
        equal_from a b e = grind (arith, nat_tests, e)

    -- so its settle tells nobody
    head_silent : (q : OpName) → x.head ≡ Some q → (s : OpName)
        → SettleTells (suc (len (written (produced_now x))))
        (written (produced_now x)) c.version s → ⊥
    head_silent q head s t = elim t [
      | inl over ↦ none over.version over.follow Over over.gives
      | inr goes ↦ none goes.version goes.follow Beside goes.gives
    ]
      where
        vs : Named Version
        vs = written (produced_now x)

        none : (y : Version) (f : Follow) (how : How) → GivesWay vs c.version y f how → ⊥
        none y f how gives =
            let is = one_value vs c.version y (produced_now x) gives.there
            (at_inserted name_order S.versions c.version (produced_now x)) in
            head_stays q head f (ap (λ (z : Version). z.successor) (sym is) ∙ gives.next)
            (ap (λ z. may_die z f.last) (sym is) ∙ gives.done)

    -- what is sent after the bye
    rest_postable : (m : Mail) (z : Version) → z.asked ≡ x.asked → m.gones ≡ S.mail.gones → m.idles ≡ S.mail.idles
        → AreUntold m (suc (len (written z))) (written z) c.version
        → ArePostable m (settled (written z) c.version).sent
    rest_postable m z asks gones idles untold =
        postable_settle (suc (len (written z))) m (written z) c.version
        (λ v y e.
        let k = written_unsaid z asks v y e in
        (ap (λ m. get m v) gones ∙ k.0, λ quiet. ap (λ m. get m v) idles ∙ k.1 quiet))
        untold

    -- whom the settle tells waits
    settle_untold : (z : Version) → z.successor ≡ x.successor → z.predecessor ≡ x.predecessor
        → AreUntold S.mail (suc (len (written z))) (written z) c.version
    settle_untold z after ahead q t =
        waiting_untold q
        (settle_tells_waiting ts g S h.chains h.holders h.retirement c.version x z at after ahead q t)

    by_reader : ArePostable before (released_by S.versions o c.version x false).sent
    by_reader = (
      ap (option_map (Bye o)) no_bye,
      rest_postable (posted_all before (Bye o (not (is_last o x.tail)) ∷ [])) (released_once x o) refl refl refl
          (settle_untold (released_once x o) refl refl),
    )

    by_producer : ArePostable before (released_by S.versions o c.version x true).sent
    by_producer = with_head x.head refl
      where
        z : Version
        z = produced_now x

        after : (m : Mail) → m.byes ≡ S.mail.byes → m.gones ≡ S.mail.gones → m.idles ≡ S.mail.idles
            → AreUntold m (suc (len (written z))) (written z) c.version
            → ArePostable m (Bye o false ∷ (settled (written z) c.version).sent)
        after m byes gones idles untold = (
          ap (λ m. option_map (Bye o) (get m o)) byes ∙ ap (option_map (Bye o)) no_bye,
          rest_postable (posted_all m (Bye o false ∷ [])) z refl gones idles untold,
        )

        with_head : (q : Option OpName) → x.head ≡ q
            → ArePostable before
            ((head_ready c.version x q ++ Bye o false ∷ []) ++ (settled (written z) c.version).sent)
        with_head None head = after before refl refl refl (settle_untold z refl refl)
        with_head (Some q) head = by x.storage
          where
            by : (s : Option StorageName)
                → ArePostable before
                ((ready_with q c.version s ++ Bye o false ∷ [])
                ++ (settled (written z) c.version).sent)
            by None = after before refl refl refl (settle_untold z refl refl)
            by (Some s) = (
              ap (option_map (Ready q)) (waiting_untold q (head_waits ts g S h.readers c.version x at q head)),
              after (posted_all before (ready_with q c.version (Some s))) refl refl refl
                  (λ w t. absurd (head_silent q head w t)),
            )

    release_by : (b : Bool) → ArePostable before (released_by S.versions o c.version x b).sent
    release_by true = by_producer
    release_by false = by_reader

    -- what a release sends
    pub postable_release : ArePostable before (after_release S.versions o c).sent
    postable_release =
        subst (λ y. ArePostable before (released_at S.versions o c.version c.producer y).sent) (sym at)
        (release_by c.producer)

  -- ---- nack

  -- what a nack sends
  pub postable_nack : (v : OpName) → get S.mail.nacks v ≡ Some tt
      → ArePostable (taken S.mail (event.Nack v)) (after_nack S.versions v).sent
  postable_nack v there = at (get S.versions v) refl
    where
      at : (x : Option Version) → get S.versions v ≡ x
          → ArePostable (taken S.mail (event.Nack v)) (nacked_at S.versions v x).sent
      at None e = tt
      at (Some x) e =
          let vs = put_version S.versions v (refused_once x) in
          postable_settle (suc (len vs)) (taken S.mail (event.Nack v)) vs v
          (unsaid_put S.mail S.versions v (refused_once x) all_unsaid ((all_unsaid v x e).0, λ quiet. no_idle))
          (λ q t. waiting_untold q
          (settle_tells_waiting ts g S h.chains h.holders h.retirement v x (refused_once x) e refl refl q t))
        where
          no_idle : get S.mail.idles v ≡ None
          no_idle = elim (decide_get S.mail.idles v) [
            | inl none ↦ none
            | inr i ↦ absurd (none-some tt (sym (ground.asking.idles v i.0 i.1).1 ∙ there))
          ]

  -- ---- retire

  -- what a retire sends
  pub postable_retire : (v : OpName) (x : Version) → get S.versions v ≡ Some x
      → ArePostable (taken S.mail (event.Retire v)) (sent_by_retire v x.object x.storage)
  postable_retire v x e = by x.storage
    where
      by : (s : Option StorageName) → ArePostable (taken S.mail (event.Retire v)) (sent_by_retire v x.object s)
      by None = tt
      by (Some Home) = (ap (option_map (Gone v)) (all_unsaid v x e).0, tt)
      by (Some (Buffer b)) = tt
