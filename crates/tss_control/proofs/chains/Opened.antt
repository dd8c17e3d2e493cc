-- The chains where an open has been taken and its version is registered.
use Rattle.std.proofs.Common.{◌≡◌, ◌≢◌, ◌≤◌, ◌<◌, ◌⊎◌, List, Option, Some, None, refl, sym, ap, ◌∙◌, subst, inl, inr}
use Rattle.std.specs.FinMap.{get}
use Rattle.std.proofs.lemmas.Option.{none-some, same_Some}
use Rattle.tss_base.specs.declared.range.Range.{Range}
use Rattle.tss_base.specs.declared.operand.OpName.{OpName}
use Rattle.tss_base.specs.declared.operand.Operand.{Operand}
use Rattle.tss_base.specs.declared.operand.Task.{Task}
use Rattle.tss_base.specs.declared.marks.Follow.{Follow}
use Rattle.tss_maps.proofs.Keys.{name_order}
use Rattle.tss_maps.proofs.Changes.{from_removed}
use Rattle.tss_protocol.specs.Mail.{OpenContents}
use Rattle.tss_protocol.specs.State.{State, Version}
use Rattle.tss_control.specs.Members.{operand_among, IsVersionOf, IsMember, total}
use Rattle.tss_control.specs.Chains.{IsAfter, IsFollowed, IsLinked, IsOver, HasStorage, IsOpenInOrder, IsUseInOrder}
use Rattle.tss_control.specs.Chains.{HasChains}
use Rattle.tss_control.proofs.chains.Numbers.{crossed, meets_at, below, at_most}
use Rattle.tss_control.proofs.chains.Registered.{Registers, linked_to, order as opened_order}
use Rattle.tss_control.proofs.chains.Registered.{old_apart as opened_old_apart, front_object as opened_front_object}
use Rattle.tss_control.proofs.chains.Registered.{front_none as opened_front_none, IsNew as opened_IsNew}
use Rattle.tss_control.proofs.chains.Registered.{IsFront as opened_IsFront, IsOld as opened_IsOld}
use Rattle.tss_control.proofs.chains.Registered.{StillVersion as opened_StillVersion, came as opened_came}
use Rattle.tss_control.proofs.chains.Registered.{version_back as opened_version_back, member_back as opened_member_back}
use Rattle.tss_control.proofs.chains.Registered.{still as opened_still, member_on as opened_member_on}
use Rattle.tss_control.proofs.chains.Registered.{total_same as opened_total_same}
use Rattle.tss_control.proofs.chains.NewVersion.{new_linked as opened_new_linked, new_stored as opened_new_stored}
use Rattle.tss_control.proofs.chains.NewVersion.{front_linked as opened_front_linked}
use Rattle.tss_control.proofs.chains.NewVersion.{front_stored as opened_front_stored}

module _ (ts : List Task) (S T : State) (h : HasChains ts S) (o : OpName) (c : OpenContents) (n : Version)
    (d : Registers S T o c n) where
  -- what was shown
  abbrev IsNew : OpName → Version → Type 0
  IsNew = opened_IsNew ts S T h o c n d

  abbrev IsFront : OpName → Version → Type 0
  IsFront = opened_IsFront ts S T h o c n d

  abbrev IsOld : OpName → Version → Type 0
  IsOld = opened_IsOld ts S T h o c n d

  abbrev StillVersion : OpName → Version → Type 0
  StillVersion = opened_StillVersion ts S T h o c n d

  order : IsOpenInOrder ts S o c
  order = opened_order ts S T h o c n d

  old_apart : (w : OpName) (y : Version) → get S.versions w ≡ Some y → w ≢ o
  old_apart = opened_old_apart ts S T h o c n d

  front_object : (f : Follow) (to : c.follows ≡ Some f) → (d.behind f to).0.object ≡ c.operand.object
  front_object = opened_front_object ts S T h o c n d

  front_none : (f : Follow) (to : c.follows ≡ Some f) → (d.behind f to).0.successor ≡ None
  front_none = opened_front_none ts S T h o c n d

  came : (w : OpName) (y : Version) → get T.versions w ≡ Some y → IsNew w y ⊎ (IsFront w y ⊎ IsOld w y)
  came = opened_came ts S T h o c n d

  version_back : (r : Range) (w : OpName) → IsVersionOf T r w
      → ((w ≡ o) × (c.operand.object ≡ r)) ⊎ IsVersionOf S r w
  version_back = opened_version_back ts S T h o c n d

  member_back : (r : Range) (w : OpName) → IsMember T r w → IsMember S r w
  member_back = opened_member_back ts S T h o c n d

  still : (w : OpName) (u : Version) → get S.versions w ≡ Some u → StillVersion w u
  still = opened_still ts S T h o c n d

  member_on : (r : Range) (w : OpName) → IsMember S r w → IsMember T r w
  member_on = opened_member_on ts S T h o c n d

  total_same : (w : OpName) → total T w ≡ total S w
  total_same = opened_total_same ts S T h o c n d

  new_linked : IsLinked T o n
  new_linked = opened_new_linked ts S T h o c n d

  new_stored : (s : Option Follow) → c.follows ≡ s → HasStorage ts T o n
  new_stored = opened_new_stored ts S T h o c n d

  front_linked : (f : Follow) (to : c.follows ≡ Some f)
      → IsLinked T f.version (linked_to o f (d.behind f to).0)
  front_linked = opened_front_linked ts S T h o c n d

  front_stored : (f : Follow) (to : c.follows ≡ Some f)
      → HasStorage ts T f.version (linked_to o f (d.behind f to).0)
  front_stored = opened_front_stored ts S T h o c n d

  -- ---- the other versions

  module _ (w : OpName) (y : Version) (at : get S.versions w ≡ Some y)
      (apart : (f : Follow) → c.follows ≡ Some f → w ≢ f.version) where
    old_link : IsLinked S w y
    old_link = h.linked w y at

    -- the version before it isn't the one that is followed
    before_other : (q : OpName) → IsAfter S w y q → (f : Follow) → c.follows ≡ Some f → q ≢ f.version
    before_other q a f to is =
        let same =
        same_Some (d.behind f to).0 a.version
        (sym (d.behind f to).1 ∙ ap (λ k. get S.versions k) (sym is) ∙ a.there) in
        none-some a.follow (sym (front_none f to) ∙ ap (λ (k : Version). k.successor) same ∙ a.link)

    before_there : (q : OpName) (a : IsAfter S w y q) → get T.versions q ≡ Some a.version
    before_there q a = d.others q (old_apart q a.version a.there) (before_other q a) ∙ a.there

    old_after : (q : OpName) → IsAfter S w y q → IsAfter T w y q
    old_after q a = record {
      version = a.version;
      there = before_there q a;
      object = a.object;
      older = a.older;
      follow = a.follow;
      link = a.link;
      back = a.back;
    }

    -- the new version is younger than all of its object
    new_younger : (g : Follow) → IsFollowed S w y g → c.operand.object ≡ y.object → g.version.task ≤ o.task
    new_younger g b object =
        at_most g.version.task o.task (order.behind g.version (b.version, b.there, b.object ∙ sym object))

    old_followed : (g : Follow) → IsFollowed S w y g → IsFollowed T w y g
    old_followed g b =
        let t = still g.version b.version b.there in
        record {
          version = t.0;
          there = t.1;
          object = t.2 ∙ b.object;
          younger = b.younger;
          back = t.4 ∙ b.back;
          last = b.last ∙ sym (total_same w);
          near = λ q m. elim (version_back y.object q m) [
            | inl new ↦
                inr (subst (λ (k : OpName). g.version.task ≤ k.task) (sym new.0) (new_younger g b new.1))
            | inr old ↦ b.near q old
          ];
        }

    -- one of its object without a successor is the one that is followed
    old_not_last : y.successor ≡ None → c.operand.object ≡ y.object → (s : Option Follow) → c.follows ≡ s → ⊥
    old_not_last e object None to =
        let m : IsVersionOf S c.operand.object w = (y, at, sym object) in
        crossed w.task o.task (order.behind w m) ((order.first to).first w (inl m))
    old_not_last e object (Some f) to =
        let m : IsVersionOf S c.operand.object w = (y, at, sym object) in
        let front : IsVersionOf S c.operand.object f.version =
        ((d.behind f to).0, (d.behind f to).1, front_object f to) in
        let late = old_link.youngest e f.version (subst (λ r. IsVersionOf S r f.version) object front) in
        elim ((order.after f to).near w (inl m)) [
          | inl close ↦
              apart f to
              (h.one c.operand.object w f.version (inl m) (inl front) (meets_at w.task f.version.task close late))
          | inr far ↦ crossed w.task o.task (order.behind w m) far
        ]

    old_youngest : y.successor ≡ None → (q : OpName) → IsVersionOf T y.object q → q.task ≤ w.task
    old_youngest e q m = elim (version_back y.object q m) [
      | inl new ↦ absurd (old_not_last e new.1 c.follows refl)
      | inr old ↦ old_link.youngest e q old
    ]

    old_oldest : y.predecessor ≡ None → (q : OpName) → IsVersionOf T y.object q → w.task ≤ q.task
    old_oldest e q m = elim (version_back y.object q m) [
      | inl new ↦
          subst (λ (k : OpName). w.task ≤ k.task) (sym new.0)
          (at_most w.task o.task (order.behind w (y, at, sym new.1)))
      | inr old ↦ old_link.oldest e q old
    ]

    old_linked : IsLinked T w y
    old_linked = record {
      after = λ q e. old_after q (old_link.after q e);
      followed = λ g e. old_followed g (old_link.followed g e);
      oldest = old_oldest;
      youngest = old_youngest;
    }

    old_stored : HasStorage ts T w y
    old_stored =
        let s = h.storages w y at in
        record {
          over = (λ e. over_on (s.over.0 e), λ over. s.over.1 (over_back over));
          waits = s.waits;
          home = s.home;
          input = s.input;
          alone = s.alone;
        }
      where
        over_on : IsOver S y → IsOver T y
        over_on (q, z, g, before, e, next, how) =
            let a = old_link.after q before in
            let same = same_Some a.version z (sym a.there ∙ e) in
            (q, a.version, g, before, before_there q a, ap (λ (k : Version). k.successor) same ∙ next, how)

        over_back : IsOver T y → IsOver S y
        over_back (q, z, g, before, e, next, how) =
            let a = old_link.after q before in
            let same = same_Some a.version z (sym (before_there q a) ∙ e) in
            (q, a.version, g, before, a.there, ap (λ (k : Version). k.successor) same ∙ next, how)

  -- ---- opens

  -- another open of the object is younger
  others_younger : (q : OpName) (k : OpenContents) → get S.mail.opens q ≡ Some k → q ≢ o
      → k.operand.object ≡ c.operand.object → o.task < q.task
  others_younger q k e far object =
      let m : IsMember S c.operand.object q = inr (k, e, object) in
      let own : IsMember S c.operand.object o = inr (c, d.opening, refl) in
      below o.task q.task (by m c.follows refl) (λ same. far (sym (h.one c.operand.object o q own m same)))
    where
      by : IsMember S c.operand.object q → (s : Option Follow) → c.follows ≡ s → o.task ≤ q.task
      by m None to = (order.first to).first q m
      by m (Some f) to =
          let front : IsVersionOf S k.operand.object f.version =
          ((d.behind f to).0, (d.behind f to).1, front_object f to ∙ sym object) in
          elim ((order.after f to).near q m) [
            | inl close ↦ absurd (crossed f.version.task q.task ((h.opens q k e).behind f.version front) close)
            | inr late ↦ late
          ]

  open_left : (q : OpName) (k : OpenContents) → get S.mail.opens q ≡ Some k → q ≢ o → IsOpenInOrder ts T q k
  open_left q k e far =
      let i = h.opens q k e in
      record {
        operand = i.operand;
        behind = λ w m. elim (version_back k.operand.object w m) [
          | inl new ↦
              subst (λ (t : OpName). t.task < q.task) (sym new.0) (others_younger q k e far (sym new.1))
          | inr old ↦ i.behind w old
        ];
        first = λ none.
            let t = i.first none in
            record { storage = t.storage; first = λ w m. t.first w (member_back k.operand.object w m) };
        after = λ f to.
            let t = i.after f to in
            record {
              member = member_on k.operand.object f.version t.member;
              older = t.older;
              near = λ w m. t.near w (member_back k.operand.object w m);
              last = t.last ∙ sym (total_same f.version);
              way = t.way;
              alone = t.alone;
            };
      }

  use_left : (q w : OpName) → get S.mail.uses q ≡ Some w → IsUseInOrder ts T q w
  use_left q w e =
      let i = h.uses q w e in
      record {
        operand = i.operand;
        there = i.there;
        mode = i.mode;
        member = member_on i.operand.object w i.member;
        older = i.older;
        alone = i.alone;
      }

  -- ---- the whole

  -- what holds of the new version, of the one that is followed, and of the others, holds of each
  each_version : (P : OpName → Version → Type 0) → P o n
      → ((f : Follow) (to : c.follows ≡ Some f) → P f.version (linked_to o f (d.behind f to).0))
      → ((w : OpName) (y : Version) → get S.versions w ≡ Some y
      → ((f : Follow) → c.follows ≡ Some f → w ≢ f.version) → P w y)
      → (w : OpName) (y : Version) → get T.versions w ≡ Some y → P w y
  each_version P new front old w y e = elim (came w y e) [
    | inl k ↦ subst (λ q. P q y) (sym k.0) (subst (P o) (sym k.1) new)
    | inr (inl k) ↦
        subst (λ q. P q y) (sym k.2)
        (subst (P k.0.version) (sym k.3) (front k.0 k.1))
    | inr (inr k) ↦ old w y k.0 k.1
  ]

  -- the chains are as good
  pub HasChains-registered : HasChains ts T
  HasChains-registered = record {
    one = λ r p q a b e. h.one r p q (member_back r p a) (member_back r q b) e;
    opener =
        each_version (λ w y. (p : Operand) × (operand_among ts w ≡ Some p) × (p.object ≡ y.object))
        (c.operand, order.operand, sym d.object)
        (λ f to. h.opener f.version (d.behind f to).0 (d.behind f to).1)
        (λ w y e apart. h.opener w y e);
    linked = each_version (IsLinked T) new_linked front_linked old_linked;
    storages = each_version (HasStorage ts T) (new_stored c.follows refl) front_stored old_stored;
    opens = λ q k e.
        let b = from_removed name_order S.mail.opens o q k (sym (ap (λ os. get os q) d.opens) ∙ e) in
        open_left q k b.1 b.0;
    uses = λ q w e. use_left q w (sym (ap (λ us. get us q) d.uses) ∙ e);
  }
