-- A release keeps the entries, and asking and refusing.
use Rattle.std.proofs.Common.{◌≡◌, ℕ, suc, ◌≤◌, inl, inr, Bool, true, false, List, [], ◌∷◌, ◌++◌, Option, Some, None}
use Rattle.std.proofs.Common.{refl, sym, ap, ◌∙◌, subst, arith, true≢false}
use Rattle.std.specs.Prelude.{is_some, not}
use Rattle.std.specs.FinMap.{get}
use Rattle.std.proofs.lemmas.Option.{none-some, same_Some}
use Rattle.tss_base.specs.declared.operand.OpName.{OpName}
use Rattle.tss_base.specs.declared.operand.Mode.{Mode}
use Rattle.tss_base.specs.declared.operand.Mode.TheVariants.{Input, Output, Inout}
use Rattle.tss_base.specs.declared.operand.Task.{Task}
use Rattle.tss_base.specs.declared.machine.Machine.{Machine}
use Rattle.tss_base.specs.declared.event.Event.TheVariants as event
use Rattle.tss_model.specs.Access.{writes}
use Rattle.tss_protocol.specs.Mail.{ReleaseContents, Message, Bye, taken}
use Rattle.tss_protocol.specs.State.{State, Entry, Version}
use Rattle.tss_protocol.specs.Versions.{put_version, head_ready, is_last, produced_now, released_once, settled, sending}
use Rattle.tss_protocol.specs.Versions.{released_by, released_at}
use Rattle.tss_protocol.specs.UnitMachine.{IsEnabled, is_enabled, after_event, without, with_versioned}
use Rattle.tss_protocol.specs.UnitMachine.{release_message_taken}
use Rattle.tss_phases.specs.Phase.{Releasing, phase_of, has_released}
use Rattle.tss_phases.specs.Openers.{produced_opener, opener_by, version_opener}
use Rattle.tss_phases.specs.Orderly.{AreOrderly}
use Rattle.tss_phases.proofs.Tests.{something}
use Rattle.tss_control.specs.Members.{operand_among}
use Rattle.tss_control.specs.Chains.{HasChains}
use Rattle.tss_control.specs.Entries.{IsLeaving, IsRetiring, HasEntries, HasRetirement}
use Rattle.tss_control.specs.Holders.{IsOwnOrRead}
use Rattle.tss_protocol.proofs.SentLemmas.{AllSent, AllSent-append}
use Rattle.tss_control.proofs.chains.Alike.{AreAlike}
use Rattle.tss_control.proofs.chains.Settled.{HasChains-written}
use Rattle.tss_control.proofs.chains.Released.{others_written, produced_like, released_like}
use Rattle.tss_control.proofs.rounds.ReleaseFacts.{Releases, releases_facts, released_fewer}
use Rattle.tss_control.proofs.rounds.EntriesFrames.{DecodesNoMore}
use Rattle.tss_control.proofs.entries.Decoded.{later_decodes_none}
use Rattle.tss_control.proofs.entries.Written.{total_written, entries_written}
use Rattle.tss_control.proofs.entries.SettleCases.{IsOfSettle, KeepsSettled, posted_all_settled, ready_of_settle}
use Rattle.tss_control.proofs.entries.SettleCases.{settles_with}
use Rattle.tss_control.proofs.entries.Settled.{AsksSoundly}
use Rattle.tss_control.proofs.entries.RetirementWritten.{AsksAlike, sound_written, AfterSettle, entries_then}
use Rattle.tss_control.proofs.entries.RetirementWritten.{retirement_then}
use Rattle.tss_control.proofs.rounds.Facts.{Facts}

-- what an event leaves that writes a version over and then settles it
record WritesAndSettles (ts : List Task) (S T : State) (v : OpName) (y : Version) : Type 0 where
  pub versions : T.versions ≡ (settled (put_version S.versions v y) v).part
  pub copies : T.copies ≡ S.copies
  pub entries : T.entries ≡ S.entries
  pub mail : KeepsSettled v S.mail T.mail
  pub decoded : DecodesNoMore ts S T

module _ (m : Machine) (S : State) (facts : Facts m S) (v : OpName) (x y : Version)
    (at : get S.versions v ≡ Some x) (like : AreAlike x y) (registered : y.registered ≡ x.registered)
    (asks : AsksAlike x y)
    (awake : (e : Entry) → get S.entries x.object.base ≡ Some e → e.object ≡ x.object → e.retiring ≡ false)
    (T : State) (d : WritesAndSettles facts.ts S T v y) where
  open facts use {ts, ground, control as h}

  -- the state before the settle
  abbrev U : State
  U = record S { versions = put_version S.versions v y }

  chains : HasChains ts U
  chains =
      HasChains-written S U v x y
      (record { there = at; put = refl; like = like; registered = registered; opens = refl; uses = refl }) ts h.chains

  entries : HasEntries ts U
  entries =
      entries_written ts S U h.chains h.entries v x y
      (record {
        there = at;
        versions = refl;
        object = like.object;
        copies = refl;
        opens = refl;
        uses = λ o w e. e;
        retires = refl;
        gones = refl;
        entries = refl;
        totals = total_written S U v x y at refl registered refl refl;
        decoded = λ o p among e. e;
      })
      awake

  sound : AsksSoundly U
  sound = sound_written S U v x y at asks refl refl refl (λ w n. (ground.asking.nacks w n).0) h.retirement

  settles : AfterSettle ts U T v
  settles = record {
    versions = d.versions;
    copies = d.copies;
    entries = d.entries;
    mail = record {
      opens = d.mail.opens;
      uses = d.mail.uses;
      nacks = d.mail.nacks;
      retires = d.mail.retires;
      back = d.mail.back;
      still = d.mail.still;
    };
    stays = (ground.places.versions v x at).2;
    decoded = d.decoded;
  }

  -- entries after it, and asking and refusing
  written_settled : HasEntries ts T × HasRetirement T
  written_settled =
      let others = others_written S h.retirement v y in (
        entries_then ts U T v settles chains others entries,
        retirement_then ts U T v settles chains others sound,
      )

-- ---- release

produced_asks : (x : Version) → AsksAlike x (produced_now x)
produced_asks x = record {
  object = refl;
  asked = refl;
  refused = refl;
  oldest = refl;
  produced = λ p. refl;
  released = omega arith;
}

released_asks : (x : Version) (o : OpName) → AsksAlike x (released_once x o)
released_asks x o = record {
  object = refl;
  asked = refl;
  refused = refl;
  oldest = refl;
  produced = λ p. p;
  released = omega arith;
}

head_of_settle : (v w : OpName) (x : Version) (head : Option OpName) → AllSent (IsOfSettle v) (head_ready w x head)
head_of_settle v w x None = tt
head_of_settle v w x (Some o) = ready_of_settle v o w x.storage

-- a writer that hasn't released its version hasn't produced it
writer_open : (mode : Mode) → writes mode ≡ true → produced_opener mode Releasing ≡ true → ⊥
writer_open Input w e = true≢false (sym w)
writer_open Output w e = true≢false (sym e)
writer_open Inout w e = true≢false (sym e)

too_many : (a b c : ℕ) → suc a ≤ b → b ≡ c → a ≡ c → ⊥
too_many a b c p q r = omega (arith, p, q, r)

module _ (m : Machine) (S : State) (facts : Facts m S) (o : OpName) (c : ReleaseContents)
    (there : get S.mail.releases o ≡ Some c) where
  open facts use {all, ts, g, ground, control as h}

  abbrev T : State
  T = after_event m S (event.Release o)

  f : Releases ts g S o c
  f = releases_facts ts g S ground.round h.orderly h.holders o c there

  abbrev v : OpName
  v = c.version

  abbrev x : Version
  x = f.version

  -- ---- its object doesn't retire

  -- a version that may retire has all its readers back, and is produced
  not_back : (e : Entry) → (x.asked ≡ Some e.sent) → x.registered ≡ e.sent → x.released ≡ e.sent → (b : Bool)
      → writes f.operand.mode ≡ b → IsOwnOrRead g o b v → ⊥
  not_back e asked registered released false reads own =
      too_many x.released x.registered e.sent
      (released_fewer ts g S h.readers v o x f.there own (ap has_released f.phase)) registered released
  not_back e asked registered released true wrote own =
      let produced = (h.retirement.asked v x e.sent f.there asked).produced in
      let opener = h.holders.openers v x f.operand f.there (ap (operand_among ts) own ∙ f.among) in
      let here : version_opener x f.operand.mode Releasing ≡ true =
      ap (version_opener x f.operand.mode) (sym f.phase ∙ ap (phase_of S) (sym own)) ∙ opener in
      writer_open f.operand.mode wrote (ap (opener_by x f.operand.mode Releasing) (sym produced) ∙ here)

  clash : (e : Entry) → e.object ≡ x.object → IsRetiring ts S e.object e → IsLeaving S e.object e.latest → ⊥
  clash e object r (inr going) = r.none going v (x, f.there, sym object)
  clash e object r (inl may) =
      let l = r.last may.1.0 may.0 may.1.1 in
      let same = l.only v (x, f.there, sym object) in
      let one = same_Some may.1.0 x (sym may.1.1 ∙ ap (get S.versions) (sym same) ∙ f.there) in
      not_back e (ap (λ (x : Version). x.asked) (sym one) ∙ l.asked)
      (ap (λ (x : Version). x.registered) (sym one) ∙ l.registered)
      (ap (λ (x : Version). x.released) (sym one) ∙ l.released) (writes f.operand.mode) refl f.own

  awake : (e : Entry) → get S.entries x.object.base ≡ Some e → e.object ≡ x.object → e.retiring ≡ false
  awake e entry object = by e.retiring refl
    where
      by : (b : Bool) → e.retiring ≡ b → e.retiring ≡ false
      by false off = off
      by true on =
          let r = h.entries.retiring x.object.base e entry on in absurd (clash e object r r.leaving)

  -- ---- what it leaves

  release_state : T ≡ with_versioned (without S (event.Release o)) (released_by S.versions o v x c.producer)
  unfolding after_event
  release_state =
      ap (release_message_taken (without S (event.Release o)) o) there
      ∙ ap (λ x. with_versioned (without S (event.Release o)) (released_at S.versions o v c.producer x)) f.there

  module _ (after : AreOrderly T) (y : Version) (ms : List Message) (news : AllSent (IsOfSettle v) ms)
      (like : AreAlike x y) (registered : y.registered ≡ x.registered) (asks : AsksAlike x y)
      (is : T ≡ with_versioned (without S (event.Release o))
      (sending ms (settled (put_version S.versions v y) v))) where
    abbrev W : State
    W = record S { versions = put_version S.versions v y }

    w_chains : HasChains ts W
    w_chains =
        HasChains-written S W v x y
        (record { there = f.there; put = refl; like = like; registered = registered; opens = refl; uses = refl }) ts
        h.chains

    kept : KeepsSettled v (taken S.mail (event.Release o)) T.mail
    kept =
        let d = settled (put_version S.versions v y) v in
        let w = settles_with ts W w_chains v (others_written S h.retirement v y) in
        subst (KeepsSettled v (taken S.mail (event.Release o))) (sym (λ i. (is i).mail))
        (posted_all_settled v (taken S.mail (event.Release o)) (ms ++ d.sent)
        (AllSent-append (IsOfSettle v) ms d.sent news w.sent))

    released : HasEntries ts T × HasRetirement T
    released =
        written_settled m S facts v x y f.there like registered asks awake T (record {
          versions = λ i. (is i).versions;
          copies = λ i. (is i).copies;
          entries = λ i. (is i).entries;
          mail = record {
            opens = kept.opens;
            uses = kept.uses;
            nacks = kept.nacks;
            retires = kept.retires;
            back = kept.back;
            still = kept.still;
          };
          decoded = λ q p among e. later_decodes_none m all S h.orderly (event.Release o) refl after q e;
        })

  release_by : AreOrderly T → (b : Bool) → c.producer ≡ b → HasEntries ts T × HasRetirement T
  release_by after true is =
      released after (produced_now x) (head_ready v x x.head ++ Bye o false ∷ [])
      (AllSent-append (IsOfSettle v) (head_ready v x x.head) (Bye o false ∷ []) (head_of_settle v v x x.head) (tt, tt))
      (produced_like x (λ e. none-some f.storage (sym e ∙ f.stored))) refl (produced_asks x)
      (release_state ∙ ap (λ b. with_versioned (without S (event.Release o)) (released_by S.versions o v x b)) is)
  release_by after false is =
      released after (released_once x o) (Bye o (not (is_last o x.tail)) ∷ []) (tt, tt) (released_like x o) refl
      (released_asks x o)
      (release_state ∙ ap (λ b. with_versioned (without S (event.Release o)) (released_by S.versions o v x b)) is)

module _ (m : Machine) (S : State) (facts : Facts m S) (o : OpName) where
  open facts use {ts}

  -- entries after a release
  pub HasEntries-release : IsEnabled m S (event.Release o) → AreOrderly (after_event m S (event.Release o))
      → HasEntries ts (after_event m S (event.Release o))
  unfolding is_enabled
  HasEntries-release on after =
      let c = something is_some (get S.mail.releases o) refl on in
      (release_by m S facts o c.0 c.1 after c.0.producer refl).0

  -- asking and refusing after a release
  pub HasRetirement-release : IsEnabled m S (event.Release o) → AreOrderly (after_event m S (event.Release o))
      → HasRetirement (after_event m S (event.Release o))
  unfolding is_enabled
  HasRetirement-release on after =
      let c = something is_some (get S.mail.releases o) refl on in
      (release_by m S facts o c.0 c.1 after c.0.producer refl).1
