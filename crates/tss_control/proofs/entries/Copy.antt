-- A copy keeps the entries: what it has copied home is gone then, as the last of its object.
use Rattle.std.proofs.Common.{◌≡◌, ◌≢◌, ℕ, ◌+◌, inl, inr, Bool, true, false, List, Some, refl, sym, ap, ◌∙◌}
use Rattle.std.specs.Prelude.{is_some}
use Rattle.std.specs.FinMap.{get, insert}
use Rattle.std.proofs.lemmas.Option.{same_Some}
use Rattle.tss_base.specs.declared.range.Range.{Range}
use Rattle.tss_base.specs.declared.operand.OpName.{OpName}
use Rattle.tss_base.specs.declared.operand.Task.{Task}
use Rattle.tss_base.specs.declared.machine.Machine.{Machine}
use Rattle.tss_base.specs.declared.event.Event.TheVariants as event
use Rattle.tss_maps.proofs.Keys.{nat_order, name_order, decide_key}
use Rattle.tss_maps.proofs.Changes.{at_inserted, beside_inserted, from_inserted, beside_removed, from_removed}
use Rattle.tss_protocol.specs.Mail.{GoneContents, Mail, posted_all}
use Rattle.tss_protocol.specs.State.{State, CopyState}
use Rattle.tss_protocol.specs.Versions.{retired}
use Rattle.tss_protocol.specs.Buffers.{piece_len, is_last_piece, copies_after_copy, sent_by_copy}
use Rattle.tss_protocol.specs.UnitMachine.{IsEnabled, is_enabled, after_event, after_copy}
use Rattle.tss_phases.specs.Orderly.{AreOrderly}
use Rattle.tss_phases.proofs.Tests.{something}
use Rattle.tss_locality.proofs.LeftFields.{Leaves-after_event}
use Rattle.tss_control.specs.Members.{IsVersionOf, IsOpenOf, IsMember, total}
use Rattle.tss_control.specs.Entries.{IsGoingHome, IsLeaving, IsUsed, HasEntries, HasRetirement}
use Rattle.tss_control.proofs.rounds.EntriesFrames.{KeepsEntries, DecodesNoMore, entries_kept}
use Rattle.tss_control.proofs.entries.Decoded.{later_decodes_none}
use Rattle.tss_control.proofs.rounds.RetirementFrames.{HasRetirement-same}
use Rattle.tss_control.proofs.rounds.Facts.{Basis}

-- ---- where the same versions go home

-- versions, opens, uses and retires are left, and the same versions go home
pub record SameGoing (S T : State) : Type 0 where
  pub versions : T.versions ≡ S.versions
  pub opens : T.mail.opens ≡ S.mail.opens
  pub uses : T.mail.uses ≡ S.mail.uses
  pub retires : T.mail.retires ≡ S.mail.retires
  pub back : (x : Range) (v : OpName) → IsGoingHome T x v → IsGoingHome S x v
  pub still : (x : Range) (v : OpName) → IsGoingHome S x v → IsGoingHome T x v

-- the other way round
going_turned : (S T : State) → SameGoing S T → SameGoing T S
going_turned S T s = record {
  versions = sym s.versions;
  opens = sym s.opens;
  uses = sym s.uses;
  retires = sym s.retires;
  back = s.still;
  still = s.back;
}

module _ (S T : State) (s : SameGoing S T) where
  going_version : (x : Range) (v : OpName) → IsVersionOf T x v → IsVersionOf S x v
  going_version x v h = (h.0, ap (λ m. get m v) (sym s.versions) ∙ h.1, h.2)

  going_open : (x : Range) (v : OpName) → IsOpenOf T x v → IsOpenOf S x v
  going_open x v h = (h.0, ap (λ m. get m v) (sym s.opens) ∙ h.1, h.2)

  going_member : (x : Range) (v : OpName) → IsMember T x v → IsMember S x v
  going_member x v (inl h) = inl (going_version x v h)
  going_member x v (inr h) = inr (going_open x v h)

  going_use : (ts : List Task) (x : Range) → IsUsed ts T x → IsUsed ts S x
  going_use ts x u = (u.0, u.1, u.2, ap (λ m. get m u.0) (sym s.uses) ∙ u.3, u.4, u.5)

  going_leaving : (x : Range) (v : OpName) → IsLeaving T x v → IsLeaving S x v
  going_leaving x v (inl r) = inl (ap (λ m. get m v) (sym s.retires) ∙ r.0, going_version x v r.1)
  going_leaving x v (inr g) = inr (s.back x v g)

  going_total : (v : OpName) → total T v ≡ total S v
  going_total v = λ i. total (record S {
    versions = s.versions i;
    mail = record S.mail { opens = s.opens i; uses = s.uses i };
  }) v

-- entries are kept then
pub going_entries : (ts : List Task) (S T : State) → SameGoing S T → T.entries ≡ S.entries → DecodesNoMore ts S T
    → KeepsEntries ts S T
going_entries ts S T s es decoded = record {
  entries = es;
  more = record {
    members = going_member S T s;
    opens = going_open S T s;
    uses = going_use S T s ts;
    leaving = going_leaving S T s;
  };
  live = λ b e there l. record {
    member = going_member T S (going_turned S T s) e.object e.latest l.member;
    sent = going_total S T s e.latest;
  };
  retiring = λ b e there on r. record {
    leaving = going_leaving T S (going_turned S T s) e.object e.latest r.leaving;
    last = λ y retires version.
        let l = r.last y (ap (λ m. get m e.latest) (sym s.retires) ∙ retires)
        (ap (λ m. get m e.latest) (sym s.versions) ∙ version) in
        record {
          only = λ v h. l.only v (going_version S T s e.object v h);
          asked = l.asked;
          registered = l.registered;
          released = l.released;
        };
    none = λ g v h. r.none (s.back e.object e.latest g) v (going_version S T s e.object v h);
  };
  decoded = decoded;
}

-- ---- a piece is copied

module _ (m : Machine) (S : State) (basis : Basis m S) (b : ℕ) (c : CopyState) (there : get S.copies b ≡ Some c) where
  open basis use {ground}

  abbrev T : State
  T = after_event m S (event.Copy b)

  module _ (last : Bool) (is : is_last_piece c ≡ last) where
    copied_copies : T.copies ≡ copies_after_copy S.copies b c last
    unfolding after_event
    copied_copies = ap (λ x. (after_copy S b x).copies) there ∙ ap (copies_after_copy S.copies b c) is

    copied_mail : T.mail ≡ posted_all S.mail (sent_by_copy c last)
    unfolding after_event
    copied_mail =
        ap (λ x. (after_copy S b x).mail) there ∙ ap (λ last. posted_all S.mail (sent_by_copy c last)) is

  -- a piece before the last
  module _ (is : is_last_piece c ≡ false) where
    abbrev moved : CopyState
    moved = record c { moved = c.moved + piece_len c }

    more_back : (x : Range) (v : OpName) → IsGoingHome T x v → IsGoingHome S x v
    more_back x v (inr g) = inr (g.0, ap (λ (m : Mail). get m.gones v) (sym (copied_mail false is)) ∙ g.1, g.2, g.3)
    more_back x v (inl k) =
        elim (from_inserted nat_order S.copies b moved k.0 k.1
        (ap (λ m. get m k.0) (sym (copied_copies false is)) ∙ k.2)) [
          | inl new ↦
              inl (
                b,
                c,
                there,
                ap (λ (c : CopyState). c.version) (sym new.1) ∙ k.3,
                ap (λ (c : CopyState). c.object) (sym new.1) ∙ k.4,
              )
          | inr old ↦ inl (k.0, k.1, old.1, k.3, k.4)
        ]

    more_still : (x : Range) (v : OpName) → IsGoingHome S x v → IsGoingHome T x v
    more_still x v (inr g) = inr (g.0, ap (λ (m : Mail). get m.gones v) (copied_mail false is) ∙ g.1, g.2, g.3)
    more_still x v (inl k) = elim (decide_key nat_order k.0 b) [
      | inl same ↦
          let one = same_Some c k.1 (sym there ∙ ap (get S.copies) (sym same) ∙ k.2) in
          inl (
            b,
            moved,
            ap (λ m. get m b) (copied_copies false is) ∙ at_inserted nat_order S.copies b moved,
            ap (λ (c : CopyState). c.version) one ∙ k.3,
            ap (λ (c : CopyState). c.object) one ∙ k.4,
          )
      | inr other ↦
          inl (
            k.0,
            k.1,
            ap (λ m. get m k.0) (copied_copies false is) ∙ beside_inserted nat_order S.copies b moved k.0 other ∙ k.2,
            k.3,
            k.4,
          )
    ]

    more_going : SameGoing S T
    more_going = record {
      versions = λ i. (Leaves-after_event m S (event.Copy b) i).versions;
      opens = ap (λ (m : Mail). m.opens) (copied_mail false is);
      uses = ap (λ (m : Mail). m.uses) (copied_mail false is);
      retires = ap (λ (m : Mail). m.retires) (copied_mail false is);
      back = more_back;
      still = more_still;
    }

  -- the last piece
  module _ (is : is_last_piece c ≡ true) where
    abbrev gone : GoneContents
    gone = retired c.object (Some c.buffer)

    gones : T.mail.gones ≡ insert S.mail.gones c.version gone
    gones = ap (λ (m : Mail). m.gones) (copied_mail true is)

    last_back : (x : Range) (v : OpName) → IsGoingHome T x v → IsGoingHome S x v
    last_back x v (inl k) =
        inl (
          k.0,
          k.1,
          (from_removed nat_order S.copies b k.0 k.1 (ap (λ m. get m k.0) (sym (copied_copies true is)) ∙ k.2)).1,
          k.3,
          k.4,
        )
    last_back x v (inr g) =
        elim (from_inserted name_order S.mail.gones c.version gone v g.0 (ap (λ m. get m v) (sym gones) ∙ g.1)) [
          | inl new ↦ inl (b, c, there, sym new.0, ap (λ (g : GoneContents). g.object) (sym new.1) ∙ g.3)
          | inr old ↦ inr (g.0, old.1, g.2, g.3)
        ]

    last_still : (x : Range) (v : OpName) → IsGoingHome S x v → IsGoingHome T x v
    last_still x v (inl k) = elim (decide_key nat_order k.0 b) [
      | inl same ↦
          let one = same_Some c k.1 (sym there ∙ ap (get S.copies) (sym same) ∙ k.2) in
          inr (
            gone,
            ap (get T.mail.gones) (sym k.3 ∙ ap (λ (c : CopyState). c.version) (sym one))
                ∙ ap (λ m. get m c.version) gones ∙ at_inserted name_order S.mail.gones c.version gone,
            refl,
            ap (λ (c : CopyState). c.object) one ∙ k.4,
          )
      | inr other ↦
          inl (
            k.0,
            k.1,
            ap (λ m. get m k.0) (copied_copies true is) ∙ beside_removed nat_order S.copies b k.0 other ∙ k.2,
            k.3,
            k.4,
          )
    ]
    last_still x v (inr g) =
        let apart : v ≢ c.version = λ same. (ground.places.gones v g.0 g.1).1 (b, c, there, sym same) in
        inr (
          g.0,
          ap (λ m. get m v) gones ∙ beside_inserted name_order S.mail.gones c.version gone v apart
              ∙ g.1,
          g.2,
          g.3,
        )

    last_going : SameGoing S T
    last_going = record {
      versions = λ i. (Leaves-after_event m S (event.Copy b) i).versions;
      opens = ap (λ (m : Mail). m.opens) (copied_mail true is);
      uses = ap (λ (m : Mail). m.uses) (copied_mail true is);
      retires = ap (λ (m : Mail). m.retires) (copied_mail true is);
      back = last_back;
      still = last_still;
    }

  copied_going : (last : Bool) → is_last_piece c ≡ last → SameGoing S T
  copied_going true is = last_going is
  copied_going false is = more_going is

  copied_nacks : (last : Bool) → is_last_piece c ≡ last → T.mail.nacks ≡ S.mail.nacks
  copied_nacks true is = ap (λ (m : Mail). m.nacks) (copied_mail true is)
  copied_nacks false is = ap (λ (m : Mail). m.nacks) (copied_mail false is)

module _ (m : Machine) (S : State) (basis : Basis m S) (b : ℕ) (on : IsEnabled m S (event.Copy b)) where
  open basis use {all, ts}

  -- entries after a copy
  pub HasEntries-copy : AreOrderly S → AreOrderly (after_event m S (event.Copy b)) → HasEntries ts S
      → HasEntries ts (after_event m S (event.Copy b))
  unfolding is_enabled
  HasEntries-copy before after h =
      let c = something is_some (get S.copies b) refl on in
      entries_kept ts S (after_event m S (event.Copy b)) h
      (going_entries ts S (after_event m S (event.Copy b))
      (copied_going m S basis b c.0 c.1 (is_last_piece c.0) refl)
      (λ i. (Leaves-after_event m S (event.Copy b) i).entries)
      (λ o p at. later_decodes_none m all S before (event.Copy b) refl after o))

  -- asking and refusing after a copy
  pub HasRetirement-copy : HasRetirement S → HasRetirement (after_event m S (event.Copy b))
  unfolding is_enabled
  HasRetirement-copy h =
      let c = something is_some (get S.copies b) refl on in
      HasRetirement-same S (after_event m S (event.Copy b)) (λ i. (Leaves-after_event m S (event.Copy b) i).versions)
      (λ i. (Leaves-after_event m S (event.Copy b) i).entries)
      (copied_nacks m S basis b c.0 c.1 (is_last_piece c.0) refl) h
