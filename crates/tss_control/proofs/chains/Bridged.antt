-- The neighbours of the versions that are left where a version has given way.
use Rattle.std.proofs.Common.{◌≡◌, ◌≢◌, ◌<◌, ◌≤◌, ◌⊎◌, List, Option, Some, None, refl, sym, ap, ◌∙◌, subst, inl, inr}
use Rattle.std.proofs.Common.{arith}
use Rattle.std.specs.FinMap.{get}
use Rattle.std.proofs.lemmas.Option.{none-some, same_Some}
use Rattle.tss_base.specs.declared.range.Range.{Range}
use Rattle.tss_base.specs.declared.operand.OpName.{OpName}
use Rattle.tss_base.specs.declared.operand.Task.{Task}
use Rattle.tss_base.specs.declared.marks.Follow.{Follow}
use Rattle.tss_maps.proofs.Keys.{name_order, decide_key}
use Rattle.tss_protocol.specs.State.{State, Version}
use Rattle.tss_protocol.specs.Versions.{followed_by}
use Rattle.tss_control.specs.Members.{IsVersionOf, total}
use Rattle.tss_control.specs.Chains.{IsAfter, IsFollowed, IsLinked, HasChains}
use Rattle.tss_control.proofs.chains.Numbers.{below_self, crossed, meets_at}
use Rattle.tss_protocol.proofs.UnlinkedVersions.{bridged}
use Rattle.tss_control.proofs.chains.GivingWay.{Departs, follows as left_follows, next_object as left_next_object}
use Rattle.tss_control.proofs.chains.GivingWay.{next_back as left_next_back, before_is as left_before_is}
use Rattle.tss_control.proofs.chains.GivingWay.{before_to as left_before_to, IsNextOne as left_IsNextOne}
use Rattle.tss_control.proofs.chains.GivingWay.{IsOneBefore as left_IsOneBefore, IsOther as left_IsOther}
use Rattle.tss_control.proofs.chains.GivingWay.{decide_named as left_decide_named}
use Rattle.tss_control.proofs.chains.GivingWay.{same_object_by as left_same_object_by}
use Rattle.tss_control.proofs.chains.GivingWay.{version_before as left_version_before}
use Rattle.tss_control.proofs.chains.GivingWay.{version_stays as left_version_stays, total_same as left_total_same}

module _ (ts : List Task) (S T : State) (h : HasChains ts S) (v : OpName) (x : Version) (f : Follow) (y z : Version)
    (d : Departs S T v x f y z) where
  -- what was shown
  follows : IsFollowed S v x f
  follows = left_follows ts S T h v x f y z d

  next_object : y.object ≡ x.object
  next_object = left_next_object ts S T h v x f y z d

  next_back : y.predecessor ≡ Some v
  next_back = left_next_back ts S T h v x f y z d

  before_is : (p : OpName) → x.predecessor ≡ Some p → IsAfter S v x p
  before_is = left_before_is ts S T h v x f y z d

  before_to : (p : OpName) (u : Version) → x.predecessor ≡ Some p → get S.versions p ≡ Some u
      → (g : Follow) × (u.successor ≡ Some g) × (g.version ≡ v)
  before_to = left_before_to ts S T h v x f y z d

  abbrev IsNextOne : OpName → Version → Version → Type 0
  IsNextOne = left_IsNextOne ts S T h v x f y z d

  abbrev IsOneBefore : OpName → Version → Version → Type 0
  IsOneBefore = left_IsOneBefore ts S T h v x f y z d

  abbrev IsOther : OpName → Version → Version → Type 0
  IsOther = left_IsOther ts S T h v x f y z d

  decide_named : (o : Option OpName) (w : OpName) → (o ≡ Some w) ⊎ (o ≡ Some w → ⊥)
  decide_named = left_decide_named ts S T h v x f y z d

  same_object_by : (w : OpName) (old new : Version)
      → IsNextOne w old new ⊎ (IsOneBefore w old new ⊎ IsOther w old new)
      → new.object ≡ old.object
  same_object_by = left_same_object_by ts S T h v x f y z d

  version_before : (r : Range) (w : OpName) → IsVersionOf T r w → IsVersionOf S r w
  version_before = left_version_before ts S T h v x f y z d

  version_stays : (r : Range) (w : OpName) → IsVersionOf T r w → w ≢ v
  version_stays = left_version_stays ts S T h v x f y z d

  total_same : (w : OpName) → w ≢ v → total T w ≡ total S w
  total_same = left_total_same ts S T h v x f y z d

  -- ---- neighbours

  -- what stands at a version that isn't before v has its successor still
  pub successor_stays : (q : OpName) (u : Version) → get S.versions q ≡ Some u → q ≢ v → (x.predecessor ≡ Some q → ⊥)
      → (t : Version) × (get T.versions q ≡ Some t) × (t.object ≡ u.object) × (t.successor ≡ u.successor)
  successor_stays q u e far first = elim (decide_key name_order q f.version) [
    | inl is ↦
        let same = same_Some y u (sym d.next ∙ ap (λ k. get S.versions k) (sym is) ∙ e) in (
          z,
          ap (λ k. get T.versions k) is ∙ d.gave.next,
          d.object ∙ ap (λ (t : Version). t.object) same,
          d.successor ∙ ap (λ (t : Version). t.successor) same,
        )
    | inr apart ↦ (u, d.gave.others q far apart first ∙ e, refl, refl)
  ]

  -- and one that isn't the next one its predecessor
  predecessor_stays : (q : OpName) (u : Version) → get S.versions q ≡ Some u → q ≢ v → q ≢ f.version
      → (t : Version) × (get T.versions q ≡ Some t) × (t.object ≡ u.object) × (t.predecessor ≡ u.predecessor)
  predecessor_stays q u e far apart = elim (decide_named x.predecessor q) [
    | inl b ↦ (bridged f.version u, d.gave.before q u b e, refl, refl)
    | inr n ↦ (u, d.gave.others q far apart n ∙ e, refl, refl)
  ]

  after_stays : (w : OpName) (old new : Version) → new.object ≡ old.object → (q : OpName) → IsAfter S w old q → q ≢ v
      → (x.predecessor ≡ Some q → ⊥) → IsAfter T w new q
  after_stays w old new object q a far first =
      let t = successor_stays q a.version a.there far first in
      record {
        version = t.0;
        there = t.1;
        object = t.2 ∙ a.object ∙ sym object;
        older = a.older;
        follow = a.follow;
        link = t.3 ∙ a.link;
        back = a.back;
      }

  followed_stays : (w : OpName) (old new : Version) → w ≢ v → new.object ≡ old.object → (g : Follow)
      → IsFollowed S w old g → g.version ≢ v → g.version ≢ f.version → IsFollowed T w new g
  followed_stays w old new stays object g b far apart =
      let t = predecessor_stays g.version b.version b.there far apart in
      record {
        version = t.0;
        there = t.1;
        object = t.2 ∙ b.object ∙ sym object;
        younger = b.younger;
        back = t.3 ∙ b.back;
        last = b.last ∙ sym (total_same w stays);
        near = λ q m. b.near q (version_before old.object q (subst (λ r. IsVersionOf T r q) object m));
      }

  -- a version that isn't older than v isn't older than the next one
  past_next : (q : OpName) → IsVersionOf T x.object q → v.task ≤ q.task → f.version.task ≤ q.task
  past_next q m late = elim (follows.near q (version_before x.object q m)) [
    | inr far ↦ far
    | inl close ↦
        absurd (version_stays x.object q m
        (h.one x.object q v (inl (version_before x.object q m)) (inl (x, d.there, refl))
        (meets_at q.task v.task close late)))
  ]

  module _ (w : OpName) (old new : Version) (there : get S.versions w ≡ Some old) (stays : w ≢ v) where
    link : IsLinked S w old
    link = h.linked w old there

    -- ---- the next one

    module _ (n : IsNextOne w old new) where
      pub next_same_object : new.object ≡ old.object
      next_same_object = same_object_by w old new (inl n)

      next_object_x : new.object ≡ x.object
      next_object_x = ap (λ (u : Version). u.object) n.2 ∙ d.object ∙ next_object

      -- it stands behind the predecessor of the one that went
      pub next_predecessor : new.predecessor ≡ x.predecessor
      next_predecessor = ap (λ (u : Version). u.predecessor) n.2 ∙ d.predecessor

      -- and keeps its successor
      pub next_successor : new.successor ≡ old.successor
      next_successor =
          ap (λ (u : Version). u.successor) n.2 ∙ d.successor ∙ ap (λ (u : Version). u.successor) (sym n.1)

      next_after : (q : OpName) → new.predecessor ≡ Some q → IsAfter T w new q
      next_after q e =
          let b = sym next_predecessor ∙ e in
          let a = before_is q b in
          let late : v.task < w.task = subst (λ (k : OpName). v.task < k.task) (sym n.0) follows.younger in
          record {
            version = bridged f.version a.version;
            there = d.gave.before q a.version b a.there;
            object = a.object ∙ sym next_object_x;
            older = omega (arith, a.older, late);
            follow = record (a.follow) { version = f.version };
            link = ap (followed_by f.version) a.link;
            back = sym n.0;
          }

      next_followed : (g : Follow) → new.successor ≡ Some g → IsFollowed T w new g
      next_followed g e =
          let b = link.followed g (sym next_successor ∙ e) in
          let late : v.task < w.task = subst (λ (k : OpName). v.task < k.task) (sym n.0) follows.younger in
          followed_stays w old new stays next_same_object g b
          (λ is. crossed w.task v.task (subst (λ (k : OpName). w.task < k.task) is b.younger)
          (omega (arith, late)))
          (λ is. below_self w.task (subst (λ (k : OpName). w.task < k.task) (is ∙ sym n.0) b.younger))

      next_oldest : new.predecessor ≡ None → (q : OpName) → IsVersionOf T new.object q → w.task ≤ q.task
      next_oldest e q m =
          let at = subst (λ r. IsVersionOf T r q) next_object_x m in
          let late = (h.linked v x d.there).oldest (sym next_predecessor ∙ e) q (version_before x.object q at) in
          subst (λ (k : OpName). k.task ≤ q.task) (sym n.0) (past_next q at late)

      -- so it stands between its neighbours
      pub next_linked : IsLinked T w new
      next_linked = record {
        after = next_after;
        followed = next_followed;
        oldest = next_oldest;
        youngest = λ e q m.
            link.youngest (sym next_successor ∙ e) q
            (version_before old.object q (subst (λ r. IsVersionOf T r q) next_same_object m));
      }

    -- ---- the one before

    module _ (b : IsOneBefore w old new) where
      before_object : new.object ≡ old.object
      before_object = ap (λ (u : Version). u.object) b.1

      before_predecessor : new.predecessor ≡ old.predecessor
      before_predecessor = ap (λ (u : Version). u.predecessor) b.1

      before_older : w.task < v.task
      before_older = (before_is w b.0).older

      before_object_x : old.object ≡ x.object
      before_object_x =
          let a = before_is w b.0 in
          ap (λ (u : Version). u.object) (same_Some old a.version (sym there ∙ a.there)) ∙ a.object

      before_after : (q : OpName) → new.predecessor ≡ Some q → IsAfter T w new q
      before_after q e =
          let a = link.after q (sym before_predecessor ∙ e) in
          let early = before_older in
          after_stays w old new before_object q a
          (λ is. crossed q.task w.task a.older
          (subst (λ (k : OpName). w.task ≤ k.task) (sym is) (omega (arith, early))))
          (λ first.
          below_self w.task (subst (λ (k : OpName). k.task < w.task) (same_Some q w (sym first ∙ b.0)) a.older))

      -- its link leads past the one that went
      pub before_successor : (g : Follow) → old.successor ≡ Some g
          → new.successor ≡ Some (record g { version = f.version })
      before_successor g to = ap (λ (u : Version). u.successor) b.1 ∙ ap (followed_by f.version) to

      before_bridge : (g : Follow) → old.successor ≡ Some g → g.version ≡ v
          → IsFollowed T w new (record g { version = f.version })
      before_bridge g to back =
          let a = link.followed g to in
          let early = before_older in
          record {
            version = z;
            there = d.gave.next;
            object = d.object ∙ next_object ∙ sym before_object_x ∙ sym before_object;
            younger = omega (arith, early, follows.younger);
            back = d.predecessor ∙ b.0;
            last = a.last ∙ sym (total_same w stays);
            near = λ q m.
                let at = subst (λ r. IsVersionOf T r q) before_object m in
                elim (a.near q (version_before old.object q at)) [
                  | inl close ↦ inl close
                  | inr far ↦
                      inr (past_next q (subst (λ r. IsVersionOf T r q) before_object_x at)
                      (subst (λ (k : OpName). k.task ≤ q.task) back far))
                ];
          }

      before_followed : (g : Follow) → new.successor ≡ Some g → IsFollowed T w new g
      before_followed g e =
          let t = before_to w old b.0 there in
          subst (IsFollowed T w new)
          (same_Some (record (t.0) { version = f.version }) g (sym (before_successor t.0 t.1) ∙ e))
          (before_bridge t.0 t.1 t.2)

      -- so it stands between its neighbours
      pub before_linked : IsLinked T w new
      before_linked = record {
        after = before_after;
        followed = before_followed;
        oldest = λ e q m.
            link.oldest (sym before_predecessor ∙ e) q
            (version_before old.object q (subst (λ r. IsVersionOf T r q) before_object m));
        youngest = λ e q m.
            let t = before_to w old b.0 there in
            absurd (none-some (record (t.0) { version = f.version }) (sym e ∙ before_successor t.0 t.1));
      }

    -- ---- the others

    module _ (o : IsOther w old new) where
      other_object : new.object ≡ old.object
      other_object = ap (λ (u : Version). u.object) o.2

      other_successor : new.successor ≡ old.successor
      other_successor = ap (λ (u : Version). u.successor) o.2

      other_predecessor : new.predecessor ≡ old.predecessor
      other_predecessor = ap (λ (u : Version). u.predecessor) o.2

      -- the version before it isn't v, nor the one before v
      pub other_not_v : (q : OpName) → IsAfter S w old q → q ≢ v
      other_not_v q a is =
          let same = same_Some x a.version (sym d.there ∙ ap (λ k. get S.versions k) (sym is) ∙ a.there) in
          let one = same_Some f a.follow (sym d.follow ∙ ap (λ (u : Version). u.successor) same ∙ a.link) in
          o.1 (sym a.back ∙ ap (λ (g : Follow). g.version) (sym one))

      -- nor the one before v
      pub other_not_before : (q : OpName) → IsAfter S w old q → x.predecessor ≡ Some q → ⊥
      other_not_before q a first =
          let t = before_to q a.version first a.there in
          let one = same_Some t.0 a.follow (sym t.1 ∙ a.link) in
          stays (sym a.back ∙ ap (λ (g : Follow). g.version) (sym one) ∙ t.2)

      other_after : (q : OpName) → new.predecessor ≡ Some q → IsAfter T w new q
      other_after q e =
          let a = link.after q (sym other_predecessor ∙ e) in
          after_stays w old new other_object q a (other_not_v q a) (other_not_before q a)

      other_followed : (g : Follow) → new.successor ≡ Some g → IsFollowed T w new g
      other_followed g e =
          let b = link.followed g (sym other_successor ∙ e) in
          followed_stays w old new stays other_object g b
          (λ is.
          let same = same_Some b.version x (sym b.there ∙ ap (λ k. get S.versions k) is ∙ d.there) in
          o.0 (ap (λ (u : Version). u.predecessor) (sym same) ∙ b.back))
          (λ is.
          let same = same_Some b.version y (sym b.there ∙ ap (λ k. get S.versions k) is ∙ d.next) in
          stays (same_Some w v (sym b.back ∙ ap (λ (u : Version). u.predecessor) same ∙ next_back)))

      -- so it stands between its neighbours
      pub other_linked : IsLinked T w new
      other_linked =
          let back : (q : OpName) → IsVersionOf T new.object q → IsVersionOf S old.object q =
          λ q m. version_before old.object q (subst (λ r. IsVersionOf T r q) other_object m) in
          record {
            after = other_after;
            followed = other_followed;
            oldest = λ e q m. link.oldest (sym other_predecessor ∙ e) q (back q m);
            youngest = λ e q m. link.youngest (sym other_successor ∙ e) q (back q m);
          }
