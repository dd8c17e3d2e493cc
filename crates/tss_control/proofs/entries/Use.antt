-- A use keeps the entries, and asking and refusing.
use Rattle.std.proofs.Common.{◌≡◌, ℕ, suc, ◌≤◌, inl, inr, Bool, true, false, Option, Some, None, refl, sym, ap, ◌∙◌}
use Rattle.std.proofs.Common.{subst, arith}
use Rattle.std.proofs.lemmas.Bool.Decides.{nat_tests}
use Rattle.std.specs.Prelude.{is_some, ◌&&◌, ◌==◌, is_none, not}
use Rattle.std.specs.FinMap.{get, insert, remove}
use Rattle.std.proofs.lemmas.Option.{none-some, same_Some}
use Rattle.tss_base.specs.declared.range.Range.{Range}
use Rattle.tss_base.specs.declared.operand.OpName.{OpName}
use Rattle.tss_base.specs.declared.operand.Operand.{Operand}
use Rattle.tss_base.specs.declared.machine.Machine.{Machine}
use Rattle.tss_base.specs.declared.event.Event.TheVariants as event
use Rattle.tss_base.specs.Names.{Named}
use Rattle.tss_maps.proofs.Keys.{name_order}
use Rattle.tss_maps.proofs.Changes.{from_inserted, from_removed}
use Rattle.tss_protocol.specs.Mail.{StorageName, Mail, posted_all, taken}
use Rattle.tss_protocol.specs.State.{State, Entry, Version}
use Rattle.tss_protocol.specs.Versions.{Versioned, ready_with, enlisted, is_count, used_alone, used_behind, used_at}
use Rattle.tss_protocol.specs.UnitMachine.{IsEnabled, is_enabled, after_event, without, with_versioned, can_use_message}
use Rattle.tss_protocol.specs.UnitMachine.{use_message_taken}
use Rattle.tss_phases.specs.Orderly.{AreOrderly}
use Rattle.tss_phases.proofs.Tests.{something}
use Rattle.tss_control.specs.Members.{operand_among, IsMember}
use Rattle.tss_control.specs.Entries.{HasEntries, HasRetirement}
use Rattle.tss_protocol.specs.Settled.{IsSettled}
use Rattle.tss_protocol.proofs.SentLemmas.{AllSent}
use Rattle.tss_names.proofs.AskingLemmas.{IsAside}
use Rattle.tss_control.proofs.chains.Alike.{AreAlike}
use Rattle.tss_control.proofs.chains.Use.{IsUsed, used_total}
use Rattle.tss_control.proofs.entries.Decoded.{later_decodes_none}
use Rattle.tss_control.proofs.rounds.EntriesQuiet.{IsQuiet, mail_posted_all}
use Rattle.tss_control.proofs.entries.QuietEvents.{nacks_aside}
use Rattle.tss_control.proofs.entries.OfVersions.{released_within}
use Rattle.tss_control.proofs.entries.Written.{WritesVersion, entries_written}
use Rattle.tss_control.proofs.entries.Settled.{AsksSoundly}
use Rattle.tss_control.proofs.entries.RetirementWritten.{AsksAlike, sound_written}
use Rattle.tss_control.proofs.rounds.Facts.{Facts}

-- ---- the version with one more reader

-- what is left of it, and what is sent
record UsedThen (vs : Named Version) (v : OpName) (x : Version) (d : Versioned) : Type 0 where
  pub used : IsUsed vs v x d
  pub asks : AsksAlike x used.version
  pub produced : used.version.produced ≡ x.produced
  pub released : used.version.released ≡ x.released
  pub successor : used.version.successor ≡ x.successor
  pub quiet : AllSent IsQuiet d.sent
  pub aside : AllSent IsAside d.sent

-- a ready is quiet
pub ready_quiet : (o v : OpName) (s : Option StorageName) → AllSent IsQuiet (ready_with o v s)
ready_quiet o v None = tt
ready_quiet o v (Some s) = (tt, tt)

ready_aside : (o v : OpName) (s : Option StorageName) → AllSent IsAside (ready_with o v s)
ready_aside o v None = tt
ready_aside o v (Some s) = (tt, tt)

itself : (a : ℕ) → a ≤ a
itself a = omega arith

module _ (vs : Named Version) (o v : OpName) (x : Version) where
  like : AreAlike x (enlisted x o)
  like = record { object = refl; storage = refl; predecessor = refl; successor = refl; produced = λ e. refl }

  asks : AsksAlike x (enlisted x o)
  asks = record {
    object = refl;
    asked = refl;
    refused = refl;
    oldest = refl;
    produced = λ e. e;
    released = itself x.released;
  }

  alone_then : (b : Bool) → UsedThen vs v x (used_alone vs o v x b)
  alone_then true = record {
    used = record {
      version = enlisted x o;
      put = refl;
      more = record { like = like; registered = refl; produced = refl };
    };
    asks = asks;
    produced = refl;
    released = refl;
    successor = refl;
    quiet = ready_quiet o v x.storage;
    aside = ready_aside o v x.storage;
  }
  alone_then false = record {
    used = record {
      version = record (enlisted x o) { head = Some o };
      put = refl;
      more = record {
        like = record { object = refl; storage = refl; predecessor = refl; successor = refl; produced = λ e. refl };
        registered = refl;
        produced = refl;
      };
    };
    asks = record {
      object = refl;
      asked = refl;
      refused = refl;
      oldest = refl;
      produced = λ e. e;
      released = itself x.released;
    };
    produced = refl;
    released = refl;
    successor = refl;
    quiet = tt;
    aside = tt;
  }

  used_then : (tail : Option OpName) → UsedThen vs v x (used_behind vs o v x tail)
  used_then None = alone_then x.produced
  used_then (Some last) = record {
    used = record {
      version = enlisted x o;
      put = refl;
      more = record { like = like; registered = refl; produced = refl };
    };
    asks = asks;
    produced = refl;
    released = refl;
    successor = refl;
    quiet = (tt, tt);
    aside = (tt, tt);
  }

-- ---- it is settled

more_than : (r l : ℕ) → l ≤ r → (l == suc r) ≡ false
more_than r l h = grind (arith, nat_tests)

none_asks : (p n a c : Bool) (r l : ℕ) → (l == r) ≡ false → (p && (l == r) && n && a && c) ≡ false
none_asks true true true c r l e = ap (λ b. b && true && true && c) e
none_asks true true false c r l e = ap (λ b. b && true && false && c) e
none_asks true false a c r l e = ap (λ b. b && false && a && c) e
none_asks false n a c r l e = refl

module _ (x y : Version) (s : IsSettled x) (registered : y.registered ≡ suc x.registered)
    (few : x.released ≤ x.registered) (produced : y.produced ≡ x.produced) (released : y.released ≡ x.released)
    (asked : y.asked ≡ x.asked) (successor : y.successor ≡ x.successor) where
  settled_more : IsSettled y
  settled_more = record {
    dies = λ f to.
        (λ i. produced i && (released i == f.last) && is_none (asked i)) ∙ s.dies f (sym successor ∙ to);
    asks = λ last.
        none_asks y.produced (is_none y.predecessor) (is_none y.asked) (not (is_count y.refused y.registered))
        y.registered y.released
        ((λ i. released i == registered i) ∙ more_than x.registered x.released few);
  }

-- ---- the event

module _ (m : Machine) (S : State) (facts : Facts m S) (o : OpName) where
  open facts use {all, ts, ground, control as h}

  abbrev T : State
  T = after_event m S (event.Use o)

  module _ (v : OpName) (there : get S.mail.uses o ≡ Some v) (x : Version) (at : get S.versions v ≡ Some x) where
    abbrev d : Versioned
    d = used_behind S.versions o v x x.tail

    k : UsedThen S.versions v x d
    k = used_then S.versions o v x x.tail

    use_state : T ≡ with_versioned (without S (event.Use o)) d
    unfolding after_event
    use_state =
        ap (use_message_taken (without S (event.Use o)) o) there
        ∙ ap (λ x. with_versioned (without S (event.Use o)) (used_at S.versions o v x)) at

    versions : T.versions ≡ insert S.versions v k.used.version
    versions = (λ i. (use_state i).versions) ∙ k.used.put

    mail : T.mail ≡ posted_all (taken S.mail (event.Use o)) d.sent
    mail = λ i. (use_state i).mail

    -- the version is of the operand's object
    object_by : (r : Range) → IsMember S r v → r ≡ x.object
    object_by r (inl y) = sym y.2 ∙ ap (λ (x : Version). x.object) (same_Some y.0 x (sym y.1 ∙ at))
    object_by r (inr c) = absurd (none-some x (sym (ground.openings.opens v c.0 c.1).no_version ∙ at))

    -- the object of a use doesn't retire
    not_retiring : (e : Entry) → get S.entries x.object.base ≡ Some e → e.object ≡ x.object → e.retiring ≡ false
    not_retiring e entry object = by e.retiring refl
      where
        p : (p : Operand) × (operand_among ts o ≡ Some p) × (p.object ≡ e.object)
        p =
            let u = h.chains.uses o v there in
            (u.operand, u.there, object_by u.operand.object u.member ∙ sym object)

        by : (b : Bool) → e.retiring ≡ b → e.retiring ≡ false
        by false off = off
        by true on =
            absurd ((h.entries.retiring x.object.base e entry on).unused (o, v, p.0, there, p.1, p.2))

    abbrev left : Mail
    left = taken S.mail (event.Use o)

    opens : T.mail.opens ≡ S.mail.opens
    opens = ap (λ (m : Mail). m.opens) mail ∙ (mail_posted_all left d.sent k.quiet).opens

    uses : T.mail.uses ≡ remove S.mail.uses o
    uses = ap (λ (m : Mail). m.uses) mail ∙ (mail_posted_all left d.sent k.quiet).uses

    writes : AreOrderly T → WritesVersion ts S T v x k.used.version
    writes after = record {
      there = at;
      versions = versions;
      object = k.asks.object;
      copies = λ i. (use_state i).copies;
      opens = opens;
      uses = λ q w e. (from_removed name_order S.mail.uses o q w (ap (λ m. get m q) (sym uses) ∙ e)).1;
      retires = ap (λ (m : Mail). m.retires) mail ∙ (mail_posted_all left d.sent k.quiet).retires;
      gones = ap (λ (m : Mail). m.gones) mail ∙ (mail_posted_all left d.sent k.quiet).gones;
      entries = λ i. (use_state i).entries;
      totals = used_total ts S T o v x at there d k.used (λ i. (use_state i).versions) opens uses;
      decoded = λ q p among e. later_decodes_none m all S h.orderly (event.Use o) refl after q e;
    }

    use_entries : AreOrderly T → HasEntries ts T
    use_entries after =
        entries_written ts S T h.chains h.entries v x k.used.version (writes after) not_retiring

    sound : AsksSoundly T
    sound =
        sound_written S T v x k.used.version at k.asks versions (λ i. (use_state i).entries)
        (ap (λ (m : Mail). m.nacks) mail ∙ nacks_aside left d.sent k.aside)
        (λ w nack. (ground.asking.nacks w nack).0) h.retirement

    use_retirement : HasRetirement T
    use_retirement = record {
      asked = sound.asked;
      refused = sound.refused;
      refusing = sound.refusing;
      settled = λ w z e.
          elim (from_inserted name_order S.versions v k.used.version w z (ap (λ m. get m w) (sym versions) ∙ e)) [
            | inl new ↦
                subst IsSettled (sym new.1)
                (settled_more x k.used.version (h.retirement.settled v x at) k.used.more.registered
                (released_within m S facts v x at) k.produced k.released k.asks.asked k.successor)
            | inr old ↦ h.retirement.settled w z old.1
          ];
    }

  -- what a use finds
  record FindsUsed : Type 0 where
    pub of : OpName
    pub there : get S.mail.uses o ≡ Some of
    pub version : Version
    pub at : get S.versions of ≡ Some version

  finds : IsEnabled m S (event.Use o) → FindsUsed
  unfolding is_enabled
  finds on =
      let v = something (can_use_message S) (get S.mail.uses o) refl on in
      let there = sym (ap (can_use_message S) v.1) ∙ on in
      let x = something is_some (get S.versions v.0) refl there in
      record { of = v.0; there = v.1; version = x.0; at = x.1 }

  -- entries after a use
  pub HasEntries-use : IsEnabled m S (event.Use o) → AreOrderly T → HasEntries ts T
  HasEntries-use on after = let f = finds on in use_entries f.of f.there f.version f.at after

  -- asking and refusing after a use
  pub HasRetirement-use : IsEnabled m S (event.Use o) → HasRetirement T
  HasRetirement-use on = let f = finds on in use_retirement f.of f.there f.version f.at
