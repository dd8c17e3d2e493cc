-- The chains after a retire: its version was the only one of its object, and nothing was directed to it.
use Rattle.std.proofs.Common.{◌≡◌, ◌≢◌, ◌+◌, Bool, true, false, List, Option, Some, None, refl, sym, ap, ◌∙◌, subst}
use Rattle.std.proofs.Common.{inl, inr}
use Rattle.std.specs.FinMap.{get, remove}
use Rattle.std.proofs.lemmas.Option.{same_Some}
use Rattle.tss_base.specs.declared.range.Range.{Range}
use Rattle.tss_base.specs.declared.operand.OpName.{OpName}
use Rattle.tss_base.specs.declared.operand.Task.{Task}
use Rattle.tss_base.specs.declared.machine.Machine.{Machine}
use Rattle.tss_base.specs.declared.event.Event.TheVariants as event
use Rattle.tss_base.specs.declared.marks.Follow.{Follow}
use Rattle.tss_maps.proofs.Keys.{name_order}
use Rattle.tss_maps.proofs.Changes.{beside_removed, from_removed}
use Rattle.tss_protocol.specs.Mail.{OpenContents, taken}
use Rattle.tss_protocol.specs.State.{State, Entry, Version}
use Rattle.tss_protocol.specs.Buffers.{sent_by_retire}
use Rattle.tss_protocol.specs.UnitMachine.{after_event, without, retire_version}
use Rattle.tss_control.proofs.rounds.EntryOf.{decide_entry_of}
use Rattle.tss_control.specs.Members.{IsVersionOf, IsOpenOf, IsMember, registered_of, opening_reader, uses_of, total}
use Rattle.tss_control.specs.Chains.{IsAfter, IsFollowed, IsLinked, IsOver, HasStorage, IsOpenInOrder, IsUseInOrder}
use Rattle.tss_control.specs.Chains.{HasChains}
use Rattle.tss_control.specs.Entries.{HasEntryOf, IsUsed, IsRetiring, IsLastVersion}
use Rattle.tss_protocol.proofs.SentLemmas.{posted_all-later, sent_by_retire-later}
use Rattle.tss_control.proofs.chains.Alike.{object_of_member}
use Rattle.tss_control.proofs.chains.Frames.{HasChains-same}
use Rattle.tss_control.proofs.rounds.Facts.{Facts}

-- ---- a version that may retire

-- it is the only version of its object, and none is being opened or used
record IsAlone (ts : List Task) (S : State) (v : OpName) (x : Version) : Type 0 where
  pub only : (q : OpName) → IsVersionOf S x.object q → q ≡ v
  pub no_open : (q : OpName) → IsOpenOf S x.object q → ⊥
  pub unused : IsUsed ts S x.object → ⊥

-- its entry, which retires
record HasRetiringEntry (ts : List Task) (S : State) (v : OpName) (x : Version) : Type 0 where
  pub entry : Entry
  pub there : get S.entries x.object.base ≡ Some entry
  pub object : entry.object ≡ x.object
  pub latest : entry.latest ≡ v
  pub retires : entry.retiring ≡ true
  pub retiring : IsRetiring ts S x.object entry
  pub last : IsLastVersion S x.object entry x

module _ (m : Machine) (S : State) (facts : Facts m S) (v : OpName) (x : Version)
    (there : get S.versions v ≡ Some x) (may : get S.mail.retires v ≡ Some tt) where
  open facts use {basis, ts, control as k}

  retiring_by : (e : Entry) → get S.entries x.object.base ≡ Some e → e.object ≡ x.object → (b : Bool) → e.retiring ≡ b
      → HasRetiringEntry ts S v x
  retiring_by e at object false on =
      absurd ((k.entries.live x.object.base e at on).stays v (inl (may, (x, there, sym object))))
  retiring_by e at object true on =
      let r = subst (λ o. IsRetiring ts S o e) object (k.entries.retiring x.object.base e at on) in
      let latest = r.only v (inl (may, (x, there, refl))) in
      record {
        entry = e;
        there = at;
        object = object;
        latest = sym latest;
        retires = on;
        retiring = r;
        last = r.last x (ap (λ q. get S.mail.retires q) (sym latest) ∙ may)
            (ap (λ q. get S.versions q) (sym latest) ∙ there);
      }

  -- a version that may retire has an entry that retires
  retiring_entry_of : HasRetiringEntry ts S v x
  retiring_entry_of =
      let p = k.chains.opener v x there in
      elim (decide_entry_of S x.object) [
        | inl f ↦ retiring_by f.entry f.there f.object f.entry.retiring refl
        | inr none ↦
            absurd ((k.entries.absent v p.0 p.1 (λ f. none (subst (HasEntryOf S) p.2 f))).stays v
            (inl (may, (x, there, sym p.2))))
      ]

  -- and is alone
  retires_alone : IsAlone ts S v x
  retires_alone =
      let r = retiring_entry_of in
      record {
        only = λ q h. r.last.only q h ∙ r.latest;
        no_open = r.retiring.no_open;
        unused = r.retiring.unused;
      }

-- ---- the chains without it

module _ (ts : List Task) (S T : State) (h : HasChains ts S) (v : OpName) (x : Version)
    (there : get S.versions v ≡ Some x) (alone : IsAlone ts S v x) (removed : T.versions ≡ remove S.versions v)
    (opens : T.mail.opens ≡ S.mail.opens) (uses : T.mail.uses ≡ S.mail.uses) where
  -- each other version was there and is there
  was_there : (w : OpName) (y : Version) → get T.versions w ≡ Some y → (w ≢ v) × (get S.versions w ≡ Some y)
  was_there w y e = from_removed name_order S.versions v w y (sym (ap (λ m. get m w) removed) ∙ e)

  is_there : (w : OpName) (y : Version) → w ≢ v → get S.versions w ≡ Some y → get T.versions w ≡ Some y
  is_there w y far e = ap (λ m. get m w) removed ∙ beside_removed name_order S.versions v w far ∙ e

  -- none is of that object
  elsewhere : (w : OpName) (y : Version) → w ≢ v → get S.versions w ≡ Some y → y.object ≢ x.object
  elsewhere w y far e same = far (alone.only w (y, e, same))

  version_was : (r : Range) (w : OpName) → IsVersionOf T r w → IsVersionOf S r w
  version_was r w m = (m.0, (was_there w m.0 m.1).1, m.2)

  open_was : (r : Range) (w : OpName) → IsOpenOf T r w → IsOpenOf S r w
  open_was r w m = (m.0, sym (ap (λ os. get os w) opens) ∙ m.1, m.2)

  member_was : (r : Range) (w : OpName) → IsMember T r w → IsMember S r w
  member_was r w (inl m) = inl (version_was r w m)
  member_was r w (inr m) = inr (open_was r w m)

  member_is : (r : Range) (w : OpName) → w ≢ v → IsMember S r w → IsMember T r w
  member_is r w far (inl m) = inl (m.0, is_there w m.0 far m.1, m.2)
  member_is r w far (inr m) = inr (m.0, ap (λ os. get os w) opens ∙ m.1, m.2)

  total_left : (w : OpName) → w ≢ v → total T w ≡ total S w
  total_left w far = λ i.
      registered_of ((ap (λ m. get m w) removed ∙ beside_removed name_order S.versions v w far) i)
      + opening_reader (get (opens i) w)
      + uses_of (uses i) w

  -- a member of the name v is of that object
  member_object : (r : Range) → IsMember S r v → x.object ≡ r
  member_object = object_of_member ts S h v x there

  module _ (w : OpName) (y : Version) (far : w ≢ v) (at : get S.versions w ≡ Some y) where
    beside_object : y.object ≢ x.object
    beside_object = elsewhere w y far at

    -- a version of its object isn't v
    other_than : (q : OpName) (u : Version) → get S.versions q ≡ Some u → u.object ≡ y.object → q ≢ v
    other_than q u e object is =
        let same = same_Some x u (sym there ∙ ap (λ k. get S.versions k) (sym is) ∙ e) in
        beside_object (sym object ∙ ap (λ (k : Version). k.object) (sym same))

    after_left : (q : OpName) → IsAfter S w y q → IsAfter T w y q
    after_left q a = record {
      version = a.version;
      there = is_there q a.version (other_than q a.version a.there a.object) a.there;
      object = a.object;
      older = a.older;
      follow = a.follow;
      link = a.link;
      back = a.back;
    }

    followed_left : (f : Follow) → IsFollowed S w y f → IsFollowed T w y f
    followed_left f b = record {
      version = b.version;
      there = is_there f.version b.version (other_than f.version b.version b.there b.object) b.there;
      object = b.object;
      younger = b.younger;
      back = b.back;
      last = b.last ∙ sym (total_left w far);
      near = λ q m. b.near q (version_was y.object q m);
    }

    linked_left : IsLinked T w y
    linked_left =
        let l = h.linked w y at in
        record {
          after = λ q e. after_left q (l.after q e);
          followed = λ f e. followed_left f (l.followed f e);
          oldest = λ e q m. l.oldest e q (version_was y.object q m);
          youngest = λ e q m. l.youngest e q (version_was y.object q m);
        }

    over_left : IsOver S y → IsOver T y
    over_left (q, z, f, before, e, next, how) =
        let a = (h.linked w y at).after q before in
        let same = same_Some a.version z (sym a.there ∙ e) in (
          q,
          z,
          f,
          before,
          is_there q z (other_than q z e (ap (λ (k : Version). k.object) (sym same) ∙ a.object)) e,
          next,
          how,
        )

    over_was : IsOver T y → IsOver S y
    over_was (q, z, f, before, e, next, how) = (q, z, f, before, (was_there q z e).1, next, how)

    storage_left : HasStorage ts T w y
    storage_left =
        let s = h.storages w y at in
        record {
          over = (λ e. over_left (s.over.0 e), λ o. s.over.1 (over_was o));
          waits = s.waits;
          home = s.home;
          input = s.input;
          alone = s.alone;
        }

  -- ---- opens and uses

  open_left : (o : OpName) (c : OpenContents) → get S.mail.opens o ≡ Some c → IsOpenInOrder ts T o c
  open_left o c e =
      let i = h.opens o c e in
      record {
        operand = i.operand;
        behind = λ q m. i.behind q (version_was c.operand.object q m);
        first = λ none.
            let k = i.first none in
            record { storage = k.storage; first = λ q m. k.first q (member_was c.operand.object q m) };
        after = λ f to.
            let k = i.after f to in
            let far : f.version ≢ v = λ is.
            alone.no_open o
            (c, e, sym (member_object c.operand.object (subst (IsMember S c.operand.object) is k.member))) in
            record {
              member = member_is c.operand.object f.version far k.member;
              older = k.older;
              near = λ q m. k.near q (member_was c.operand.object q m);
              last = k.last ∙ sym (total_left f.version far);
              way = k.way;
              alone = k.alone;
            };
      }

  use_left : (o w : OpName) → get S.mail.uses o ≡ Some w → IsUseInOrder ts T o w
  use_left o w e =
      let i = h.uses o w e in
      let far : w ≢ v = λ is.
      alone.unused (
        o,
        w,
        i.operand,
        e,
        i.there,
        sym (member_object i.operand.object (subst (IsMember S i.operand.object) is i.member)),
      ) in
      record {
        operand = i.operand;
        there = i.there;
        mode = i.mode;
        member = member_is i.operand.object w far i.member;
        older = i.older;
        alone = i.alone;
      }

  -- the chains are as good
  HasChains-alone : HasChains ts T
  HasChains-alone = record {
    one = λ r p q a b e. h.one r p q (member_was r p a) (member_was r q b) e;
    opener = λ w y e. h.opener w y (was_there w y e).1;
    linked = λ w y e. let b = was_there w y e in linked_left w y b.0 b.1;
    storages = λ w y e. let b = was_there w y e in storage_left w y b.0 b.1;
    opens = λ o c e. open_left o c (sym (ap (λ os. get os o) opens) ∙ e);
    uses = λ o w e. use_left o w (sym (ap (λ us. get us o) uses) ∙ e);
  }

-- ---- retire

module _ (m : Machine) (S : State) (facts : Facts m S) where
  open facts use {ts, control as k}

  chains_retire : (v : OpName) → get S.mail.retires v ≡ Some tt → (x : Option Version) → get S.versions v ≡ x
      → HasChains ts (retire_version m (without S (event.Retire v)) v x)
  chains_retire v may None e =
      HasChains-same ts S _ (record { versions = refl; opens = refl; uses = refl }) k.chains
  chains_retire v may (Some x) e =
      let same =
      posted_all-later (taken S.mail (event.Retire v)) (sent_by_retire v x.object x.storage)
      (sent_by_retire-later v x.object x.storage) in
      HasChains-alone ts S (retire_version m (without S (event.Retire v)) v (Some x)) k.chains v x e
      (retires_alone m S facts v x e may) refl same.opens same.uses

  -- retire
  pub HasChains-retire : (v : OpName) → get S.mail.retires v ≡ Some tt → HasChains ts (after_event m S (event.Retire v))
  unfolding after_event
  HasChains-retire v may = chains_retire v may (get S.versions v) refl
