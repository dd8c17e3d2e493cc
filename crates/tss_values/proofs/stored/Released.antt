-- The bytes in the storages of versions after a release and after a nack.
use Rattle.std.proofs.Common.{◌≡◌, ◌⊎◌, Bool, true, false, Some, refl, sym, ap, ◌∙◌, subst, inl, inr}
use Rattle.std.specs.Prelude.{is_some}
use Rattle.std.specs.FinMap.{get}
use Rattle.std.proofs.lemmas.Option.{none-some, same_Some}
use Rattle.tss_base.specs.declared.operand.OpName.{OpName}
use Rattle.tss_base.specs.declared.operand.Operand.{Operand}
use Rattle.tss_base.specs.declared.machine.Machine.{Machine}
use Rattle.tss_base.specs.declared.event.Event.TheVariants as event
use Rattle.tss_base.specs.Image.{ImageState}
use Rattle.tss_model.specs.Access.{writes}
use Rattle.tss_model.specs.InOrder.{Started}
use Rattle.tss_protocol.specs.Mail.{StorageName, ReleaseContents}
use Rattle.tss_protocol.specs.State.{State, Version}
use Rattle.tss_protocol.specs.Versions.{put_version, settled, produced_now, released_once, released_by, released_at}
use Rattle.tss_protocol.specs.Versions.{refused_once, nacked_at}
use Rattle.tss_protocol.specs.UnitMachine.{IsEnabled, is_enabled, after_event, with_versioned, without}
use Rattle.tss_protocol.specs.UnitMachine.{release_message_taken}
use Rattle.tss_phases.specs.Phase.{Told, Ready, Releasing, phase_of}
use Rattle.tss_phases.specs.Orderly.{KeepsOrder}
use Rattle.tss_phases.proofs.ForwardEvents.{forward-after_event}
use Rattle.tss_phases.proofs.Tests.{something}
use Rattle.tss_locality.proofs.LeftFields.{Leaves-after_event}
use Rattle.tss_control.specs.Members.{operand_among}
use Rattle.tss_control.specs.Holders.{IsOwnOrRead}
use Rattle.tss_names.proofs.PlainLemmas.{some_unit}
use Rattle.tss_control.proofs.chains.Released.{produced_like, released_like, refused_like}
use Rattle.tss_control.proofs.rounds.ReleaseFacts.{Releases, releases_facts}
use Rattle.tss_control.proofs.holders.Later.{later-release, later-nack}
use Rattle.tss_control.proofs.holders.Settled.{HeldAlike}
use Rattle.tss_values.proofs.Values.{content, bytes_after, IsGood, IsKnown, HasStored}
use Rattle.tss_values.proofs.stored.Frames.{IsStored, stored_at, stored_kept, opener_holds, told_before}
use Rattle.tss_values.proofs.stored.Quiet.{LeavesBytes, content_left, keeps_alike}
use Rattle.tss_values.proofs.stored.Settled.{FindsLeft, HasStored-settled}
use Rattle.tss_control.proofs.rounds.Facts.{Facts}

told_not_releasing : (Releasing ≡ Told) ⊎ (Releasing ≡ Ready) → ⊥
told_not_releasing (inl e) = cc
told_not_releasing (inr e) = cc

module _ (m : Machine) (i : ImageState) (S : State) (facts : Facts m S) (h : HasStored m i facts.ts S)
    (finds : FindsLeft m i facts.ts S) where
  open facts use {ts, g, ground, control as k}

  -- ---- release

  module _ (o : OpName) (on : IsEnabled m S (event.Release o)) (order : KeepsOrder S (event.Release o))
      (c : ReleaseContents) (there : get S.mail.releases o ≡ Some c) where
    abbrev T : State
    T = after_event m S (event.Release o)

    f : Releases ts g S o c
    f = releases_facts ts g S ground.round k.orderly k.holders o c there

    left : LeavesBytes S T
    left =
        let same = Leaves-after_event m S (event.Release o) in
        record { home = λ i. (same i).home; contents = λ i. (same i).contents; workers = λ i. (same i).workers }

    state : T ≡ with_versioned (without S (event.Release o)) (released_by S.versions o c.version f.version c.producer)
    unfolding after_event
    state =
        ap (release_message_taken (without S (event.Release o)) o) there
        ∙ ap (λ x. with_versioned (without S (event.Release o)) (released_at S.versions o c.version c.producer x))
        f.there

    -- a reader's release
    by_reader : T.versions ≡ (settled (put_version S.versions c.version (released_once f.version o)) c.version).part
        → HasStored m i ts T
    by_reader versions =
        HasStored-settled m i ts g S T k h finds left (forward-after_event m S k.orderly (event.Release o) on order)
        (later-release m S k.orderly o on order) c.version f.version (released_once f.version o) f.there
        (released_like f.version o) refl versions
        (λ made st q t at known good. h.produced c.version f.version st q t f.there made at known good)
        (λ z like.
        stored_kept m i ts S T c.version f.version z
        (keeps_alike m i ts g S T k left (forward-after_event m S k.orderly (event.Release o) on order)
        (later-release m S k.orderly o on order) c.version f.version z f.there
        (record { object = like.object; produced = like.produced; storage = like.storage }))
        (stored_at m i ts S h c.version f.version f.there))
        (λ none. refl)

    -- a producer's
    module _ (own : c.version ≡ o) (writer : writes f.operand.mode ≡ true) where
      lets_go : phase_of S c.version ≡ Releasing
      lets_go = ap (phase_of S) own ∙ f.phase

      writes_it : (q : Operand) (t : Started) → IsKnown m i ts c.version q t → writes q.mode ≡ true
      writes_it q t known =
          ap (λ (p : Operand). writes p.mode)
          (same_Some q f.operand (sym known.operand ∙ ap (operand_among ts) own ∙ f.among))
          ∙ writer

      leaves : (st : StorageName) (q : Operand) (t : Started) → f.version.storage ≡ Some st
          → IsKnown m i ts c.version q t → IsGood m i t q → content S f.version.object st ≡ bytes_after m i t q
      leaves st q t at known good =
          let w = writes_it q t known in
          h.releasing c.version f.version st q t f.there at known w lets_go (good w)

      own_stored : (z : Version) → HeldAlike (produced_now f.version) z → IsStored m i ts T c.version z
      own_stored z like =
          let bytes : (st : StorageName) (q : Operand) (t : Started) → z.storage ≡ Some st
          → IsKnown m i ts c.version q t → IsGood m i t q → content T z.object st ≡ bytes_after m i t q =
          λ st q t at known good.
          ap (λ x. content T x st) like.object
          ∙ content_left S T left f.version.object st
          ∙ leaves st q t (sym like.storage ∙ at) known good in
          record {
            produced = λ st q t made at known good. bytes st q t at known good;
            awaited = λ st q t at known mode waits idle.
                let w = ap writes mode in
                absurd (told_not_releasing
                (subst (λ p. (p ≡ Told) ⊎ (p ≡ Ready)) lets_go
                (told_before S T c.version (forward-after_event m S k.orderly (event.Release o) on order c.version)
                (opener_holds f.version q.mode st (phase_of S c.version) (sym like.storage ∙ at) w
                (k.holders.openers c.version f.version q f.there known.operand)) waits)));
            releasing = λ st q t at known w lets ends. bytes st q t at known (λ writer. ends);
          }

      by_producer : T.versions ≡ (settled (put_version S.versions c.version (produced_now f.version)) c.version).part
          → HasStored m i ts T
      by_producer versions =
          HasStored-settled m i ts g S T k h finds left (forward-after_event m S k.orderly (event.Release o) on order)
          (later-release m S k.orderly o on order) c.version f.version (produced_now f.version) f.there
          (produced_like f.version (λ none. none-some f.storage (sym none ∙ f.stored))) refl versions
          (λ made. leaves) own_stored (λ none. absurd (none-some f.storage (sym none ∙ f.stored)))

    by : (b : Bool) → c.producer ≡ b → HasStored m i ts T
    by true is =
        let writer = sym f.producer ∙ is in
        by_producer (subst (λ b. IsOwnOrRead g o b c.version) writer f.own) writer
        ((λ j. (state j).versions) ∙ ap (λ b. (released_by S.versions o c.version f.version b).part) is)
    by false is =
        by_reader ((λ j. (state j).versions) ∙ ap (λ b. (released_by S.versions o c.version f.version b).part) is)

  -- release
  pub HasStored-release : (o : OpName) → IsEnabled m S (event.Release o) → KeepsOrder S (event.Release o)
      → HasStored m i ts (after_event m S (event.Release o))
  unfolding is_enabled
  HasStored-release o on order =
      let c = something is_some (get S.mail.releases o) refl on in
      by o on order c.0 c.1 c.0.producer refl

  -- ---- nack

  module _ (v : OpName) (on : IsEnabled m S (event.Nack v)) (order : KeepsOrder S (event.Nack v)) (x : Version)
      (there : get S.versions v ≡ Some x) where
    nack_left : LeavesBytes S (after_event m S (event.Nack v))
    nack_left =
        let same = Leaves-after_event m S (event.Nack v) in
        record { home = λ i. (same i).home; contents = λ i. (same i).contents; workers = λ i. (same i).workers }

    nack_versions : (after_event m S (event.Nack v)).versions
        ≡ (settled (put_version S.versions v (refused_once x)) v).part
    unfolding after_event
    nack_versions = ap (λ y. (nacked_at S.versions v y).part) there

    nack_stored : HasStored m i ts (after_event m S (event.Nack v))
    nack_stored =
        let U = after_event m S (event.Nack v) in
        let forward = forward-after_event m S k.orderly (event.Nack v) on order in
        let late = later-nack m S k.orderly v order in
        HasStored-settled m i ts g S U k h finds nack_left forward late v x (refused_once x) there (refused_like x) refl
        nack_versions (λ made st q t at known good. h.produced v x st q t there made at known good)
        (λ z like.
        stored_kept m i ts S U v x z
        (keeps_alike m i ts g S U k nack_left forward late v x z there
        (record { object = like.object; produced = like.produced; storage = like.storage }))
        (stored_at m i ts S h v x there))
        (λ none. refl)

  -- nack
  pub HasStored-nack : (v : OpName) → IsEnabled m S (event.Nack v) → KeepsOrder S (event.Nack v)
      → HasStored m i ts (after_event m S (event.Nack v))
  unfolding is_enabled
  HasStored-nack v on order =
      let a = (ground.asking.nacks v (some_unit (get S.mail.nacks v) on)).0.1 in
      nack_stored v on order a.0 a.1
