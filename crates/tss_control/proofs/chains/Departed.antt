-- The storages of the versions that are left where a version has given way, and all of their chains.
use Rattle.std.proofs.Common.{◌≡◌, ◌≢◌, ◌<◌, ◌≤◌, ◌⊎◌, List, Some, None, refl, sym, ap, ◌∙◌, subst, inl, inr, arith}
use Rattle.std.proofs.Common.{true≢false}
use Rattle.std.specs.FinMap.{get}
use Rattle.std.proofs.lemmas.Option.{none-some, same_Some}
use Rattle.tss_base.specs.declared.range.Range.{Range}
use Rattle.tss_base.specs.declared.operand.OpName.{OpName}
use Rattle.tss_base.specs.declared.operand.Mode.TheVariants.{Input, Inout}
use Rattle.tss_base.specs.declared.operand.Task.{Task}
use Rattle.tss_base.specs.declared.marks.How.{How}
use Rattle.tss_base.specs.declared.marks.How.TheVariants.{Beside, Over}
use Rattle.tss_base.specs.declared.marks.Follow.{Follow}
use Rattle.tss_protocol.specs.Mail.{Home, OpenContents}
use Rattle.tss_protocol.specs.State.{State, Version}
use Rattle.tss_protocol.specs.Versions.{followed_by}
use Rattle.tss_control.specs.Members.{IsOn, NoWriterBetween, IsVersionOf, IsMember, total}
use Rattle.tss_control.specs.Chains.{IsAfter, IsFollowed, IsLinked, IsOver, HasStorage, IsOpenInOrder, IsUseInOrder}
use Rattle.tss_control.specs.Chains.{HasChains}
use Rattle.tss_control.proofs.chains.Numbers.{below_self, crossed}
use Rattle.tss_control.proofs.chains.Alike.{object_of_member}
use Rattle.tss_protocol.proofs.UnlinkedVersions.{bridged}
use Rattle.tss_control.proofs.chains.GivingWay.{Departs, TakesStorage, follows as left_follows}
use Rattle.tss_control.proofs.chains.GivingWay.{next_object as left_next_object, next_back as left_next_back}
use Rattle.tss_control.proofs.chains.GivingWay.{before_is as left_before_is, before_to as left_before_to}
use Rattle.tss_control.proofs.chains.GivingWay.{IsNextOne as left_IsNextOne, IsOneBefore as left_IsOneBefore}
use Rattle.tss_control.proofs.chains.GivingWay.{IsOther as left_IsOther, Came as left_Came, came as left_came}
use Rattle.tss_control.proofs.chains.GivingWay.{same_object as left_same_object, version_before as left_version_before}
use Rattle.tss_control.proofs.chains.GivingWay.{member_before as left_member_before, member_later as left_member_later}
use Rattle.tss_control.proofs.chains.GivingWay.{total_same as left_total_same}
use Rattle.tss_control.proofs.chains.Bridged.{successor_stays as left_successor_stays}
use Rattle.tss_control.proofs.chains.Bridged.{next_same_object as left_next_same_object}
use Rattle.tss_control.proofs.chains.Bridged.{next_predecessor as left_next_predecessor}
use Rattle.tss_control.proofs.chains.Bridged.{next_successor as left_next_successor, next_linked as left_next_linked}
use Rattle.tss_control.proofs.chains.Bridged.{before_successor as left_before_successor}
use Rattle.tss_control.proofs.chains.Bridged.{before_linked as left_before_linked, other_not_v as left_other_not_v}
use Rattle.tss_control.proofs.chains.Bridged.{other_not_before as left_other_not_before}
use Rattle.tss_control.proofs.chains.Bridged.{other_linked as left_other_linked}

module _ (ts : List Task) (S T : State) (h : HasChains ts S) (v : OpName) (x : Version) (f : Follow) (y z : Version)
    (d : Departs S T v x f y z) where
  -- what was shown
  follows : IsFollowed S v x f
  follows = left_follows ts S T h v x f y z d

  next_object : y.object ≡ x.object
  next_object = left_next_object ts S T h v x f y z d

  next_back : y.predecessor ≡ Some v
  next_back = left_next_back ts S T h v x f y z d

  before_is : (p : OpName) → x.predecessor ≡ Some p → IsAfter S v x p
  before_is = left_before_is ts S T h v x f y z d

  before_to : (p : OpName) (u : Version) → x.predecessor ≡ Some p → get S.versions p ≡ Some u
      → (g : Follow) × (u.successor ≡ Some g) × (g.version ≡ v)
  before_to = left_before_to ts S T h v x f y z d

  abbrev IsNextOne : OpName → Version → Version → Type 0
  IsNextOne = left_IsNextOne ts S T h v x f y z d

  abbrev IsOneBefore : OpName → Version → Version → Type 0
  IsOneBefore = left_IsOneBefore ts S T h v x f y z d

  abbrev IsOther : OpName → Version → Version → Type 0
  IsOther = left_IsOther ts S T h v x f y z d

  abbrev Came : OpName → Version → Type 0
  Came = left_Came ts S T h v x f y z d

  came : (w : OpName) (new : Version) → get T.versions w ≡ Some new → Came w new
  came = left_came ts S T h v x f y z d

  same_object : (w : OpName) (new : Version) (c : Came w new) → new.object ≡ c.old.object
  same_object = left_same_object ts S T h v x f y z d

  version_before : (r : Range) (w : OpName) → IsVersionOf T r w → IsVersionOf S r w
  version_before = left_version_before ts S T h v x f y z d

  member_before : (r : Range) (w : OpName) → IsMember T r w → IsMember S r w
  member_before = left_member_before ts S T h v x f y z d

  member_later : (r : Range) (w : OpName) → w ≢ v → IsMember S r w → IsMember T r w
  member_later = left_member_later ts S T h v x f y z d

  total_same : (w : OpName) → w ≢ v → total T w ≡ total S w
  total_same = left_total_same ts S T h v x f y z d

  successor_stays : (q : OpName) (u : Version) → get S.versions q ≡ Some u → q ≢ v → (x.predecessor ≡ Some q → ⊥)
      → (t : Version) × (get T.versions q ≡ Some t) × (t.object ≡ u.object) × (t.successor ≡ u.successor)
  successor_stays = left_successor_stays ts S T h v x f y z d

  next_same_object : (w : OpName) (old new : Version) (there : get S.versions w ≡ Some old) (stays : w ≢ v)
      (n : IsNextOne w old new)
      → new.object ≡ old.object
  next_same_object = left_next_same_object ts S T h v x f y z d

  next_predecessor : (w : OpName) (old new : Version) (there : get S.versions w ≡ Some old) (stays : w ≢ v)
      (n : IsNextOne w old new)
      → new.predecessor ≡ x.predecessor
  next_predecessor = left_next_predecessor ts S T h v x f y z d

  next_successor : (w : OpName) (old new : Version) (there : get S.versions w ≡ Some old) (stays : w ≢ v)
      (n : IsNextOne w old new)
      → new.successor ≡ old.successor
  next_successor = left_next_successor ts S T h v x f y z d

  next_linked : (w : OpName) (old new : Version) (there : get S.versions w ≡ Some old) (stays : w ≢ v)
      (n : IsNextOne w old new)
      → IsLinked T w new
  next_linked = left_next_linked ts S T h v x f y z d

  before_successor : (w : OpName) (old new : Version) (there : get S.versions w ≡ Some old) (stays : w ≢ v)
      (b : IsOneBefore w old new)
      → (g : Follow) → old.successor ≡ Some g → new.successor ≡ Some (record g { version = f.version })
  before_successor = left_before_successor ts S T h v x f y z d

  before_linked : (w : OpName) (old new : Version) (there : get S.versions w ≡ Some old) (stays : w ≢ v)
      (b : IsOneBefore w old new)
      → IsLinked T w new
  before_linked = left_before_linked ts S T h v x f y z d

  other_not_v : (w : OpName) (old new : Version) (there : get S.versions w ≡ Some old) (stays : w ≢ v)
      (o : IsOther w old new)
      → (q : OpName) → IsAfter S w old q → q ≢ v
  other_not_v = left_other_not_v ts S T h v x f y z d

  other_not_before : (w : OpName) (old new : Version) (there : get S.versions w ≡ Some old) (stays : w ≢ v)
      (o : IsOther w old new)
      → (q : OpName) → IsAfter S w old q → x.predecessor ≡ Some q → ⊥
  other_not_before = left_other_not_before ts S T h v x f y z d

  other_linked : (w : OpName) (old new : Version) (there : get S.versions w ≡ Some old) (stays : w ≢ v)
      (o : IsOther w old new)
      → IsLinked T w new
  other_linked = left_other_linked ts S T h v x f y z d

  -- ---- storages

  -- v has a storage, so it isn't followed over
  v_stored : x.storage ≡ None → ⊥
  v_stored none = true≢false (sym d.produced ∙ ((h.storages v x d.there).waits none).0)

  v_not_over : IsOver S x → ⊥
  v_not_over over = v_stored ((h.storages v x d.there).over.1 over)

  -- nor is the version before it followed over
  before_beside : (w : OpName) (u : Version) (g : Follow) → x.predecessor ≡ Some w → get S.versions w ≡ Some u
      → u.successor ≡ Some g → g.how ≡ Over → ⊥
  before_beside w u g b e to over = v_not_over (w, u, g, b, e, to, over)

  next_stored_by : (how : How) → f.how ≡ how → TakesStorage how x y z → z.storage ≡ None → ⊥
  next_stored_by Over is same none = v_stored (sym same ∙ none)
  next_stored_by Beside is same none =
      let over = (h.storages f.version y d.next).over.0 (sym same ∙ none) in
      not_over over
    where
      not_over : IsOver S y → ⊥
      not_over (q, u, g, back, at, to, over) =
          let one = same_Some q v (sym back ∙ next_back) in
          let same = same_Some x u (sym d.there ∙ ap (λ k. get S.versions k) (sym one) ∙ at) in
          let follow = same_Some f g (sym d.follow ∙ ap (λ (t : Version). t.successor) same ∙ to) in
          beside_not_over (sym is ∙ ap (λ (t : Follow). t.how) follow ∙ over)
        where
          beside_not_over : Beside ≡ Over → ⊥
          beside_not_over e = cc

  next_home_by : (how : How) → f.how ≡ how → TakesStorage how x y z → z.storage ≡ Some Home → z.predecessor ≡ None
  next_home_by Over is same home = d.predecessor ∙ (h.storages v x d.there).home (sym same ∙ home)
  next_home_by Beside is same home =
      absurd (none-some v (sym ((h.storages f.version y d.next).home (sym same ∙ home)) ∙ next_back))

  module _ (w : OpName) (old new : Version) (there : get S.versions w ≡ Some old) (stays : w ≢ v) where
    stored : HasStorage ts S w old
    stored = h.storages w old there

    next_storage : IsNextOne w old new → HasStorage ts T w new
    next_storage n =
        let full : new.storage ≡ None → ⊥ =
        λ e. next_stored_by f.how refl d.storage (ap (λ (u : Version). u.storage) (sym n.2) ∙ e) in
        let object = next_same_object w old new there stays n in
        record {
          over = (λ e. absurd (full e), λ over. absurd (bridge_over over));
          waits = λ e. absurd (full e);
          home = λ e.
              next_predecessor w old new there stays n
              ∙ sym d.predecessor
              ∙ next_home_by f.how refl d.storage (ap (λ (u : Version). u.storage) (sym n.2) ∙ e);
          input = λ i.
              let none = stored.input (subst (λ r. IsOn ts r Input w) object i) in
              absurd (none-some v (sym none ∙ ap (λ (u : Version). u.predecessor) n.1 ∙ next_back));
          alone = λ g e over.
              subst (λ r. NoWriterBetween ts r w g.version) (sym object)
              (stored.alone g (sym (next_successor w old new there stays n) ∙ e) over);
        }
      where
        bridge_over : IsOver T new → ⊥
        bridge_over (q, u, g, back, at, to, over) =
            let b = sym (next_predecessor w old new there stays n) ∙ back in
            let a = before_is q b in
            let same = same_Some (bridged f.version a.version) u (sym (d.gave.before q a.version b a.there) ∙ at) in
            let follow =
            same_Some (record (a.follow) { version = f.version }) g
            (sym (ap (followed_by f.version) a.link) ∙ ap (λ (t : Version). t.successor) same ∙ to) in
            before_beside q a.version a.follow b a.there a.link (ap (λ (t : Follow). t.how) follow ∙ over)

    -- one whose predecessor is as it was
    module _ (object : new.object ≡ old.object) (storage : new.storage ≡ old.storage)
        (predecessor : new.predecessor ≡ old.predecessor) (produced : new.produced ≡ old.produced)
        (near : (q : OpName) → IsAfter S w old q → (q ≢ v) × (x.predecessor ≡ Some q → ⊥))
        (alone : (g : Follow) → new.successor ≡ Some g → g.how ≡ Over → NoWriterBetween ts old.object w g.version) where
      over_later : IsOver S old → IsOver T new
      over_later (q, u, g, back, at, to, over) =
          let a = (h.linked w old there).after q back in
          let t = successor_stays q u at (near q a).0 (near q a).1 in
          (q, t.0, g, predecessor ∙ back, t.1, t.3 ∙ to, over)

      over_before : IsOver T new → IsOver S old
      over_before (q, u, g, back, at, to, over) =
          let b = sym predecessor ∙ back in
          let a = (h.linked w old there).after q b in
          let t = successor_stays q a.version a.there (near q a).0 (near q a).1 in
          let same = same_Some u t.0 (sym at ∙ t.1) in
          (q, a.version, g, b, a.there, sym t.3 ∙ ap (λ (k : Version). k.successor) (sym same) ∙ to, over)

      storage_stays : HasStorage ts T w new
      storage_stays = record {
        over = (
          λ e. over_later (stored.over.0 (sym storage ∙ e)),
          λ over. storage ∙ stored.over.1 (over_before over),
        );
        waits = λ e.
            let k = stored.waits (sym storage ∙ e) in
            (produced ∙ k.0, subst (λ r. IsOn ts r Inout w) (sym object) k.1);
        home = λ e. predecessor ∙ stored.home (sym storage ∙ e);
        input = λ i. predecessor ∙ stored.input (subst (λ r. IsOn ts r Input w) object i);
        alone = λ g e over. subst (λ r. NoWriterBetween ts r w g.version) (sym object) (alone g e over);
      }

    before_storage : IsOneBefore w old new → HasStorage ts T w new
    before_storage b =
        storage_stays (ap (λ (u : Version). u.object) b.1) (ap (λ (u : Version). u.storage) b.1)
        (ap (λ (u : Version). u.predecessor) b.1) (ap (λ (u : Version). u.produced) b.1)
        (λ q a. (
          (λ is.
              crossed q.task w.task a.older
              (let early = (before_is w b.0).older in
              subst (λ (k : OpName). w.task ≤ k.task) (sym is) (omega (arith, early)))),
          (λ first.
              below_self w.task (subst (λ (k : OpName). k.task < w.task) (same_Some q w (sym first ∙ b.0)) a.older)),
        ))
        (λ g e over.
        let t = before_to w old b.0 there in
        let one =
        same_Some (record (t.0) { version = f.version }) g
        (sym (before_successor w old new there stays b t.0 t.1) ∙ e) in
        absurd (before_beside w old t.0 b.0 there t.1 (ap (λ (k : Follow). k.how) one ∙ over)))

    other_storage : IsOther w old new → HasStorage ts T w new
    other_storage o =
        storage_stays (ap (λ (u : Version). u.object) o.2) (ap (λ (u : Version). u.storage) o.2)
        (ap (λ (u : Version). u.predecessor) o.2) (ap (λ (u : Version). u.produced) o.2)
        (λ q a. (other_not_v w old new there stays o q a, other_not_before w old new there stays o q a))
        (λ g e over. stored.alone g (ap (λ (u : Version). u.successor) (sym o.2) ∙ e) over)

  -- ---- the whole

  linked_by : (w : OpName) (new : Version) (c : Came w new)
      → IsNextOne w c.old new ⊎ (IsOneBefore w c.old new ⊎ IsOther w c.old new) → IsLinked T w new
  linked_by w new c (inl n) = next_linked w c.old new c.there c.stays n
  linked_by w new c (inr (inl b)) = before_linked w c.old new c.there c.stays b
  linked_by w new c (inr (inr o)) = other_linked w c.old new c.there c.stays o

  storage_by : (w : OpName) (new : Version) (c : Came w new)
      → IsNextOne w c.old new ⊎ (IsOneBefore w c.old new ⊎ IsOther w c.old new) → HasStorage ts T w new
  storage_by w new c (inl n) = next_storage w c.old new c.there c.stays n
  storage_by w new c (inr (inl b)) = before_storage w c.old new c.there c.stays b
  storage_by w new c (inr (inr o)) = other_storage w c.old new c.there c.stays o

  -- no open follows v
  open_not_after_v : (o : OpName) (c : OpenContents) (g : Follow) → IsOpenInOrder ts S o c → c.follows ≡ Some g
      → g.version ≢ v
  open_not_after_v o c g i to is =
      let a = i.after g to in
      let object : x.object ≡ c.operand.object =
      object_of_member ts S h v x d.there c.operand.object (subst (IsMember S c.operand.object) is a.member) in
      let late = subst (λ r. IsVersionOf S r f.version) object (y, d.next, next_object) in
      elim (a.near f.version (inl late)) [
        | inl close ↦
            crossed v.task f.version.task follows.younger
            (subst (λ (k : OpName). f.version.task ≤ k.task) is close)
        | inr far ↦ crossed f.version.task o.task (i.behind f.version late) far
      ]

  open_later : (o : OpName) (c : OpenContents) → IsOpenInOrder ts S o c → IsOpenInOrder ts T o c
  open_later o c i = record {
    operand = i.operand;
    behind = λ q m. i.behind q (version_before c.operand.object q m);
    first = λ e.
        let k = i.first e in
        record { storage = k.storage; first = λ q m. k.first q (member_before c.operand.object q m) };
    after = λ g e.
        let k = i.after g e in
        let far = open_not_after_v o c g i e in
        record {
          member = member_later c.operand.object g.version far k.member;
          older = k.older;
          near = λ q m. k.near q (member_before c.operand.object q m);
          last = k.last ∙ sym (total_same g.version far);
          way = k.way;
          alone = k.alone;
        };
  }

  use_later : (o w : OpName) → get S.mail.uses o ≡ Some w → IsUseInOrder ts S o w → IsUseInOrder ts T o w
  use_later o w e i = record {
    operand = i.operand;
    there = i.there;
    mode = i.mode;
    member = member_later i.operand.object w (λ is. d.unused o (e ∙ ap Some is)) i.member;
    older = i.older;
    alone = i.alone;
  }

  -- the chains are as good
  pub HasChains-departed : HasChains ts T
  HasChains-departed = record {
    one = λ r p q m n e. h.one r p q (member_before r p m) (member_before r q n) e;
    opener = λ w new e.
        let c = came w new e in
        let p = h.opener w c.old c.there in
        (p.0, p.1, p.2 ∙ sym (same_object w new c));
    linked = λ w new e. let c = came w new e in linked_by w new c c.which;
    storages = λ w new e. let c = came w new e in storage_by w new c c.which;
    opens = λ o c e. open_later o c (h.opens o c (sym (ap (λ os. get os o) d.opens) ∙ e));
    uses = λ o w e.
        let k = sym (ap (λ us. get us o) d.uses) ∙ e in
        use_later o w k (h.uses o w k);
  }
