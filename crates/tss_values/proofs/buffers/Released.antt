-- Holders of buffers after a release and a nack, which write a version and settle it.
use Rattle.std.proofs.Common.{◌≡◌, Bool, true, false, List, [], ◌∷◌, Option, Some, None, refl, sym, ◌∙◌, subst}
use Rattle.std.specs.Prelude.{◌++◌, is_some, not}
use Rattle.std.specs.FinMap.{get}
use Rattle.std.proofs.lemmas.Option.{none-some}
use Rattle.tss_base.specs.declared.operand.OpName.{OpName}
use Rattle.tss_base.specs.declared.machine.Machine.{Machine}
use Rattle.tss_base.specs.declared.event.Event.TheVariants as event
use Rattle.tss_base.specs.Names.{Named}
use Rattle.tss_protocol.specs.Mail.{ReleaseContents, Message, Bye, Mail, posted_all, taken}
use Rattle.tss_protocol.specs.State.{State, Version}
use Rattle.tss_protocol.specs.Versions.{Versioned, put_version, head_ready, produced_now, released_once, is_last}
use Rattle.tss_protocol.specs.Versions.{released_by, released_at, refused_once, nacked_at, settled}
use Rattle.tss_protocol.specs.UnitMachine.{IsEnabled, is_enabled, after_event, without, with_versioned}
use Rattle.tss_protocol.specs.UnitMachine.{release_message_taken}
use Rattle.tss_control.specs.Chains.{HasChains}
use Rattle.tss_values.specs.Buffers.{HasBuffers}
use Rattle.tss_protocol.proofs.SentLemmas.{AllSent, AllSent-append, posted_all-later, settled-later}
use Rattle.tss_names.proofs.JointLemmas.{posted_all-append}
use Rattle.tss_names.proofs.HeldEvents.{HoldsNothing, posted_all-nothing}
use Rattle.tss_control.proofs.chains.Alike.{AreAlike}
use Rattle.tss_control.proofs.chains.Settled.{with_versions, HasChains-written}
use Rattle.tss_control.proofs.chains.Released.{others_written, produced_like, released_like, refused_like}
use Rattle.tss_control.proofs.rounds.ReleaseFacts.{Releases, releases_facts}
use Rattle.tss_values.proofs.buffers.Settled.{written_storages}
use Rattle.tss_values.proofs.buffers.Kept.{HasBuffers-same, buffers_settled}
use Rattle.tss_values.proofs.buffers.Quiet.{ready_nothing}
use Rattle.tss_control.proofs.readers.Settled.{some_unit}
use Rattle.tss_control.proofs.rounds.Facts.{Facts}

head_nothing : (v : OpName) (x : Version) (h : Option OpName) → AllSent HoldsNothing (head_ready v x h)
head_nothing v x None = tt
head_nothing v x (Some o) = ready_nothing o v x.storage

module _ (m : Machine) (S : State) (facts : Facts m S) (h : HasBuffers facts.ts S) where
  open facts use {ts, g, ground, control as c}

  -- ---- a version is written and settled

  module _ (v : OpName) (x z : Version) (there : get S.versions v ≡ Some x) (like : AreAlike x z)
      (registered : z.registered ≡ x.registered) (k : Mail) (opens : k.opens ≡ S.mail.opens)
      (gones : k.gones ≡ S.mail.gones)
      (ms : List Message) (nothing : AllSent HoldsNothing ms) where
    abbrev vs : Named Version
    vs = put_version S.versions v z

    abbrev Written : State
    Written = with_versions S vs

    chains_written : HasChains ts Written
    chains_written =
        HasChains-written S Written v x z (record {
          there = there;
          put = refl;
          like = like;
          registered = registered;
          opens = refl;
          uses = refl;
        }) ts c.chains

    buffers_written : HasBuffers ts Written
    buffers_written = HasBuffers-same ts S Written (record {
      opens = refl;
      versions = written_storages S.versions v x z there like.storage;
      gones = refl;
      copies = refl;
      buffers = refl;
    }) h

    -- the mail after the messages before the settle
    abbrev Sent : Mail
    Sent = posted_all k ms

    abbrev Settled : State
    Settled = record S { versions = (settled vs v).part; mail = posted_all k (ms ++ (settled vs v).sent) }

    -- the whole
    buffers_then : HasBuffers ts Settled
    buffers_then =
        let same = posted_all-nothing k ms nothing in
        let sent = posted_all-append k ms (settled vs v).sent in
        let place = ground.places.versions v x there in
        buffers_settled ts Written Settled v Sent buffers_written chains_written (record {
          versions = refl;
          opens =
              (λ i. (sent i).opens)
              ∙ (posted_all-later Sent (settled vs v).sent (settled-later vs v)).opens
              ∙ same.0
              ∙ opens;
          copies = refl;
          buffers = refl;
          gones = λ i. (sent i).gones;
          before = same.1 ∙ gones;
          no_open = λ y e. place.1;
          no_copy = λ y e. place.3;
        }) (others_written S c.retirement v z)

  -- ---- release

  module _ (o : OpName) (r : ReleaseContents) (f : Releases ts g S o r) where
    abbrev v : OpName
    v = r.version

    abbrev x : Version
    x = f.version

    abbrev After : Versioned → State
    After d = record S { versions = d.part; mail = posted_all (taken S.mail (event.Release o)) d.sent }

    stored : x.storage ≡ None → ⊥
    stored none = none-some f.storage (sym none ∙ f.stored)

    release_by : (b : Bool) → HasBuffers ts (After (released_by S.versions o v x b))
    release_by true =
        buffers_then v x (produced_now x) f.there (produced_like x stored) refl (taken S.mail (event.Release o)) refl
        refl (head_ready v x x.head ++ Bye o false ∷ [])
        (AllSent-append HoldsNothing (head_ready v x x.head) (Bye o false ∷ []) (head_nothing v x x.head) (tt, tt))
    release_by false =
        buffers_then v x (released_once x o) f.there (released_like x o) refl (taken S.mail (event.Release o)) refl refl
        (Bye o (not (is_last o x.tail)) ∷ []) (tt, tt)

    released : HasBuffers ts (release_message_taken (without S (event.Release o)) o (Some r))
    released =
        subst (λ y. HasBuffers ts (After (released_at S.versions o v r.producer y))) (sym f.there)
        (release_by r.producer)

  released_of : (o : OpName) (r : Option ReleaseContents) → get S.mail.releases o ≡ r → is_some r ≡ true
      → HasBuffers ts (release_message_taken (without S (event.Release o)) o r)
  released_of o None e on = absurd (cc)
  released_of o (Some r) e on = released o r (releases_facts ts g S ground.round c.orderly c.holders o r e)

  -- release
  pub HasBuffers-release : (o : OpName) → IsEnabled m S (event.Release o)
      → HasBuffers ts (after_event m S (event.Release o))
  unfolding is_enabled after_event
  HasBuffers-release o on = released_of o (get S.mail.releases o) refl on

  -- ---- nack

  abbrev Nacked : OpName → Option Version → State
  Nacked v x = with_versioned (without S (event.Nack v)) (nacked_at S.versions v x)

  nacked_by : (v : OpName) (x : Version) → get S.versions v ≡ Some x → HasBuffers ts (Nacked v (Some x))
  nacked_by v x e =
      buffers_then v x (refused_once x) e (refused_like x) refl (taken S.mail (event.Nack v)) refl refl [] tt

  nacked_of : (v : OpName) → ((x : Version) × (get S.versions v ≡ Some x)) → HasBuffers ts (Nacked v (get S.versions v))
  nacked_of v x = subst (λ y. HasBuffers ts (Nacked v y)) (sym x.1) (nacked_by v x.0 x.1)

  -- nack
  pub HasBuffers-nack : (v : OpName) → IsEnabled m S (event.Nack v) → HasBuffers ts (after_event m S (event.Nack v))
  unfolding is_enabled after_event
  HasBuffers-nack v on =
      let a = (ground.asking.nacks v (some_unit (get S.mail.nacks v) on)).0 in
      nacked_of v (a.1.0, a.1.1)
