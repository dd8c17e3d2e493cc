-- The chains after a decode: one more open, or one more use.
use Rattle.std.proofs.Common.{◌≡◌, ◌≢◌, ◌+◌, ◌≤◌, ◌<◌, ◌⊎◌, List, Some, None, sym, ap, ◌∙◌, subst, inl, inr}
use Rattle.std.specs.FinMap.{get, insert}
use Rattle.std.proofs.lemmas.Option.{none-some}
use Rattle.tss_base.specs.declared.range.Range.{Range}
use Rattle.tss_base.specs.declared.operand.OpName.{OpName}
use Rattle.tss_base.specs.declared.operand.Task.{Task}
use Rattle.tss_base.specs.declared.marks.Follow.{Follow}
use Rattle.tss_maps.proofs.Keys.{name_order}
use Rattle.tss_maps.proofs.Changes.{beside_inserted, from_inserted}
use Rattle.tss_protocol.specs.Mail.{OpenContents}
use Rattle.tss_protocol.specs.State.{State, Entry, Version}
use Rattle.tss_control.specs.Members.{IsVersionOf, IsMember, registered_of, opening_reader, uses_of, total}
use Rattle.tss_control.specs.Members.{NoWriterBetween}
use Rattle.tss_control.specs.Chains.{IsFollowed, IsLinked, IsOver, HasStorage, OpensAfter, IsOpenInOrder, IsUseInOrder}
use Rattle.tss_control.specs.Chains.{HasChains, FollowsAs}
use Rattle.tss_control.specs.Entries.{IsLive}
use Rattle.tss_control.proofs.chains.Numbers.{itself, apart_below, at_most}

-- ---- versions that are left, where totals may change

-- the versions are left, and so are the totals of those that are followed
pub record KeepsVersions (S T : State) : Type 0 where
  pub versions : T.versions ≡ S.versions
  pub all : (v : OpName) (y : Version) (f : Follow) → get S.versions v ≡ Some y → IsFollowed S v y f
      → total T v ≡ total S v

module _ (ts : List Task) (S T : State) (h : HasChains ts S) (k : KeepsVersions S T) where
  -- a version that is there was there
  pub version_was : (w : OpName) (y : Version) → get T.versions w ≡ Some y → get S.versions w ≡ Some y
  version_was w y e = sym (ap (λ m. get m w) k.versions) ∙ e

  -- and the other way round
  version_is : (w : OpName) (y : Version) → get S.versions w ≡ Some y → get T.versions w ≡ Some y
  version_is w y e = ap (λ m. get m w) k.versions ∙ e

  -- with its object
  pub versions_were : (r : Range) (w : OpName) → IsVersionOf T r w → IsVersionOf S r w
  versions_were r w m = (m.0, version_was w m.0 m.1, m.2)

  -- its neighbours
  pub linked_left : (v : OpName) (y : Version) → get S.versions v ≡ Some y → IsLinked T v y
  linked_left v y e =
      let l = h.linked v y e in
      record {
        after = λ q b.
            let a = l.after q b in
            record {
              version = a.version;
              there = version_is q a.version a.there;
              object = a.object;
              older = a.older;
              follow = a.follow;
              link = a.link;
              back = a.back;
            };
        followed = λ f b.
            let a = l.followed f b in
            record {
              version = a.version;
              there = version_is f.version a.version a.there;
              object = a.object;
              younger = a.younger;
              back = a.back;
              last = a.last ∙ sym (k.all v y f e a);
              near = λ q m. a.near q (versions_were y.object q m);
            };
        oldest = λ b q m. l.oldest b q (versions_were y.object q m);
        youngest = λ b q m. l.youngest b q (versions_were y.object q m);
      }

  over_on : (y : Version) → IsOver S y → IsOver T y
  over_on y (q, z, f, before, there, next, how) = (q, z, f, before, version_is q z there, next, how)

  over_back : (y : Version) → IsOver T y → IsOver S y
  over_back y (q, z, f, before, there, next, how) = (q, z, f, before, version_was q z there, next, how)

  -- and its storage
  pub stored_left : (v : OpName) (y : Version) → get S.versions v ≡ Some y → HasStorage ts T v y
  stored_left v y e =
      let s = h.storages v y e in
      record {
        over = (λ none. over_on y (s.over.0 none), λ over. s.over.1 (over_back y over));
        waits = s.waits;
        home = s.home;
        input = s.input;
        alone = s.alone;
      }

-- ---- one more open

module _ (ts : List Task) (S T : State) (h : HasChains ts S) (o : OpName) (c : OpenContents)
    (earlier : (q : OpName) → IsMember S c.operand.object q → q.task < o.task)
    (no_version : get S.versions o ≡ None) (no_open : get S.mail.opens o ≡ None)
    (versions : T.versions ≡ S.versions) (opens : T.mail.opens ≡ insert S.mail.opens o c)
    (uses : T.mail.uses ≡ S.mail.uses) where
  old_apart : (w : OpName) (y : Version) → get S.versions w ≡ Some y → w ≢ o
  old_apart w y e is = none-some y (sym no_version ∙ ap (λ q. get S.versions q) (sym is) ∙ e)

  open_apart : (w : OpName) (k : OpenContents) → get S.mail.opens w ≡ Some k → w ≢ o
  open_apart w k e is = none-some k (sym no_open ∙ ap (λ q. get S.mail.opens q) (sym is) ∙ e)

  total_beside : (w : OpName) → w ≢ o → total T w ≡ total S w
  total_beside w far = λ i.
      registered_of (get (versions i) w)
      + opening_reader ((ap (λ os. get os w) opens ∙ beside_inserted name_order S.mail.opens o c w far) i)
      + uses_of (uses i) w

  kept : KeepsVersions S T
  kept = record { versions = versions; all = λ v y f e b. total_beside v (old_apart v y e) }

  -- a member is the new one, or was one
  member_back : (r : Range) (w : OpName) → IsMember T r w → ((w ≡ o) × (c.operand.object ≡ r)) ⊎ IsMember S r w
  member_back r w (inl m) = inr (inl (versions_were ts S T h kept r w m))
  member_back r w (inr m) =
      elim (from_inserted name_order S.mail.opens o c w m.0 (sym (ap (λ os. get os w) opens) ∙ m.1)) [
        | inl new ↦ inl (new.0, ap (λ (k : OpenContents). k.operand.object) (sym new.1) ∙ m.2)
        | inr old ↦ inr (inr (m.0, old.1, m.2))
      ]

  -- and each that was one still is
  member_on : (r : Range) (w : OpName) → IsMember S r w → IsMember T r w
  member_on r w (inl m) = inl (m.0, version_is ts S T h kept w m.0 m.1, m.2)
  member_on r w (inr m) =
      inr (
        m.0,
        ap (λ os. get os w) opens ∙ beside_inserted name_order S.mail.opens o c w (open_apart w m.0 m.1) ∙ m.1,
        m.2,
      )

  -- and has another task
  new_apart : (r : Range) (w : OpName) → c.operand.object ≡ r → IsMember S r w → w.task ≡ o.task → ⊥
  new_apart r w object m same =
      apart_below w.task o.task (earlier w (subst (λ r. IsMember S r w) (sym object) m)) same

  one_after : (r : Range) (v w : OpName) → IsMember T r v → IsMember T r w → v.task ≡ w.task → v ≡ w
  one_after r v w a b same = elim (member_back r v a) [
    | inl new ↦ elim (member_back r w b) [
      | inl also ↦ new.0 ∙ sym also.0
      | inr old ↦
          absurd (new_apart r w new.1 old (sym same ∙ ap (λ (q : OpName). q.task) new.0))
    ]
    | inr old ↦ elim (member_back r w b) [
      | inl new ↦ absurd (new_apart r v new.1 old (same ∙ ap (λ (q : OpName). q.task) new.0))
      | inr also ↦ h.one r v w old also same
    ]
  ]

  open_left : (q : OpName) (k : OpenContents) → get S.mail.opens q ≡ Some k → IsOpenInOrder ts T q k
  open_left q k e =
      let i = h.opens q k e in
      let late : c.operand.object ≡ k.operand.object → q.task ≤ o.task =
      λ object. at_most q.task o.task (earlier q (inr (k, e, sym object))) in
      record {
        operand = i.operand;
        behind = λ w m. i.behind w (versions_were ts S T h kept k.operand.object w m);
        first = λ none.
            let t = i.first none in
            record {
              storage = t.storage;
              first = λ w m. elim (member_back k.operand.object w m) [
                | inl new ↦ subst (λ (z : OpName). q.task ≤ z.task) (sym new.0) (late new.1)
                | inr old ↦ t.first w old
              ];
            };
        after = λ f to.
            let t = i.after f to in
            record {
              member = member_on k.operand.object f.version t.member;
              older = t.older;
              near = λ w m. elim (member_back k.operand.object w m) [
                | inl new ↦ inr (subst (λ (z : OpName). q.task ≤ z.task) (sym new.0) (late new.1))
                | inr old ↦ t.near w old
              ];
              last = t.last ∙ sym (total_beside f.version (followed_apart f.version t.member));
              way = t.way;
              alone = t.alone;
            };
      }
    where
      followed_apart : (w : OpName) → IsMember S k.operand.object w → w ≢ o
      followed_apart w (inl m) = old_apart w m.0 m.1
      followed_apart w (inr m) = open_apart w m.0 m.1

  use_left : (q w : OpName) → get S.mail.uses q ≡ Some w → IsUseInOrder ts T q w
  use_left q w e =
      let i = h.uses q w e in
      record {
        operand = i.operand;
        there = i.there;
        mode = i.mode;
        member = member_on i.operand.object w i.member;
        older = i.older;
        alone = i.alone;
      }

  -- the chains with the new open, where that is in order
  pub chains_opened : IsOpenInOrder ts T o c → HasChains ts T
  chains_opened new = record {
    one = one_after;
    opener = λ v y e. h.opener v y (version_was ts S T h kept v y e);
    linked = λ v y e. linked_left ts S T h kept v y (version_was ts S T h kept v y e);
    storages = λ v y e. stored_left ts S T h kept v y (version_was ts S T h kept v y e);
    opens = λ q k e.
        elim (from_inserted name_order S.mail.opens o c q k (sym (ap (λ os. get os q) opens) ∙ e)) [
          | inl is ↦ subst (λ z. IsOpenInOrder ts T z k) (sym is.0) (subst (IsOpenInOrder ts T o) (sym is.1) new)
          | inr old ↦ open_left q k old.1
        ];
    uses = λ q w e. use_left q w (sym (ap (λ us. get us q) uses) ∙ e);
  }

  -- what is the same of every new open
  pub opens_behind : (q : OpName) → IsVersionOf T c.operand.object q → q.task < o.task
  opens_behind q m = earlier q (inl (versions_were ts S T h kept c.operand.object q m))

  -- one of an object without a member follows nothing
  pub opens_nothing : ((q : OpName) → IsMember S c.operand.object q → ⊥) → (q : OpName)
      → IsMember T c.operand.object q → o.task ≤ q.task
  opens_nothing none q m = elim (member_back c.operand.object q m) [
    | inl new ↦ subst (λ (z : OpName). o.task ≤ z.task) (sym new.0) (itself o.task)
    | inr old ↦ absurd (none q old)
  ]

  -- another follows the latest version
  pub opens_behind_latest : (e : Entry) (f : Follow) → f.version ≡ e.latest → f.last ≡ e.sent
      → IsLive S c.operand.object e
      → FollowsAs o c f → NoWriterBetween ts c.operand.object e.latest o → OpensAfter ts T o c f
  opens_behind_latest e f is last live way alone =
      let latest = subst (IsMember S c.operand.object) (sym is) live.member in
      record {
        member = member_on c.operand.object f.version latest;
        older = earlier f.version latest;
        near = λ q m. elim (member_back c.operand.object q m) [
          | inl new ↦ inr (subst (λ (z : OpName). o.task ≤ z.task) (sym new.0) (itself o.task))
          | inr old ↦ inl (subst (λ (z : OpName). q.task ≤ z.task) (sym is) (live.latest q old))
        ];
        last = last
            ∙ live.sent
            ∙ ap (total S) (sym is)
            ∙ sym (total_beside f.version
            (λ own. apart_below f.version.task o.task (earlier f.version latest)
            (ap (λ (z : OpName). z.task) own)));
        way = way;
        alone = subst (λ z. NoWriterBetween ts c.operand.object z o) (sym is) alone;
      }
