-- A new version in its chain, and the version that it follows.
use Rattle.std.proofs.Common.{◌≡◌, ◌≢◌, ◌≤◌, ◌<◌, ◌⊎◌, List, Option, Some, None, refl, sym, ap, ◌∙◌, subst, inl, inr}
use Rattle.std.proofs.Common.{arith}
use Rattle.std.specs.FinMap.{get}
use Rattle.std.proofs.lemmas.Option.{none-some, same_Some}
use Rattle.tss_base.specs.declared.range.Range.{Range}
use Rattle.tss_base.specs.declared.operand.OpName.{OpName}
use Rattle.tss_base.specs.declared.operand.Mode.{Mode}
use Rattle.tss_base.specs.declared.operand.Mode.TheVariants.{Input, Output, Inout}
use Rattle.tss_base.specs.declared.operand.Operand.{Operand}
use Rattle.tss_base.specs.declared.operand.Task.{Task}
use Rattle.tss_base.specs.declared.marks.How.TheVariants.{Beside, Over}
use Rattle.tss_base.specs.declared.marks.Follow.{Follow}
use Rattle.tss_protocol.specs.Mail.{Home, Buffer, OpenContents}
use Rattle.tss_protocol.specs.State.{State, Version}
use Rattle.tss_control.specs.Members.{IsOn, NoWriterBetween, IsVersionOf, IsMember, total}
use Rattle.tss_control.specs.Chains.{IsAfter, IsFollowed, IsLinked, IsOver, HasStorage, IsOpenInOrder, HasChains}
use Rattle.tss_control.proofs.chains.Numbers.{below_self, at_most}
use Rattle.tss_control.proofs.chains.Registered.{Registers, followed_version, link_to, linked_to, order as opened_order}
use Rattle.tss_control.proofs.chains.Registered.{old_apart as opened_old_apart, front_object as opened_front_object}
use Rattle.tss_control.proofs.chains.Registered.{version_back as opened_version_back, member_back as opened_member_back}
use Rattle.tss_control.proofs.chains.Registered.{total_same as opened_total_same}

module _ (ts : List Task) (S T : State) (h : HasChains ts S) (o : OpName) (c : OpenContents) (n : Version)
    (d : Registers S T o c n) where
  -- what was shown
  order : IsOpenInOrder ts S o c
  order = opened_order ts S T h o c n d

  old_apart : (w : OpName) (y : Version) → get S.versions w ≡ Some y → w ≢ o
  old_apart = opened_old_apart ts S T h o c n d

  front_object : (f : Follow) (to : c.follows ≡ Some f) → (d.behind f to).0.object ≡ c.operand.object
  front_object = opened_front_object ts S T h o c n d

  version_back : (r : Range) (w : OpName) → IsVersionOf T r w
      → ((w ≡ o) × (c.operand.object ≡ r)) ⊎ IsVersionOf S r w
  version_back = opened_version_back ts S T h o c n d

  member_back : (r : Range) (w : OpName) → IsMember T r w → IsMember S r w
  member_back = opened_member_back ts S T h o c n d

  total_same : (w : OpName) → total T w ≡ total S w
  total_same = opened_total_same ts S T h o c n d

  -- ---- the new version

  -- a version of the object that was there is older
  new_youngest : (q : OpName) → IsVersionOf T c.operand.object q → q.task ≤ o.task
  new_youngest q m = elim (version_back c.operand.object q m) [
    | inl new ↦ subst (λ (k : OpName). k.task ≤ o.task) (sym new.0) (omega arith)
    | inr old ↦ at_most q.task o.task (order.behind q old)
  ]

  new_front : (s : Option Follow) → c.follows ≡ s → (q : OpName) → followed_version s ≡ Some q
      → (f : Follow) × (c.follows ≡ Some f) × (f.version ≡ q)
  new_front None to q e = absurd (none-some q e)
  new_front (Some f) to q e = (f, to, same_Some f.version q e)

  new_after : (f : Follow) → c.follows ≡ Some f → IsAfter T o n f.version
  new_after f to = record {
    version = linked_to o f (d.behind f to).0;
    there = (d.behind f to).2;
    object = front_object f to ∙ sym d.object;
    older = (order.after f to).older;
    follow = link_to o f;
    link = refl;
    back = refl;
  }

  new_oldest : n.predecessor ≡ None → (q : OpName) → IsVersionOf T n.object q → o.task ≤ q.task
  new_oldest none q m = by c.follows refl
    where
      by : (s : Option Follow) → c.follows ≡ s → o.task ≤ q.task
      by None to =
          (order.first to).first q
          (member_back c.operand.object q (inl (subst (λ r. IsVersionOf T r q) d.object m)))
      by (Some f) to =
          absurd (none-some f.version (sym none ∙ d.predecessor ∙ ap followed_version to))

  -- so it stands between its neighbours
  pub new_linked : IsLinked T o n
  new_linked = record {
    after = λ q e.
        let f = new_front c.follows refl q (sym d.predecessor ∙ e) in
        subst (IsAfter T o n) f.2 (new_after f.0 f.1);
    followed = λ f e. absurd (none-some f (sym d.successor ∙ e));
    oldest = new_oldest;
    youngest = λ e q m. new_youngest q (subst (λ r. IsVersionOf T r q) d.object m);
  }

  -- how it follows
  over_beside : Over ≡ Beside → ⊥
  over_beside e = cc

  new_over : (f : Follow) → c.follows ≡ Some f → f.how ≡ Over → IsOver T n
  new_over f to over = (
    f.version,
    linked_to o f (d.behind f to).0,
    link_to o f,
    d.predecessor ∙ ap followed_version to,
    (d.behind f to).2,
    refl,
    over,
  )

  new_way : (f : Follow) → c.follows ≡ Some f → IsOver T n → f.how ≡ Over
  new_way f to (q, z, g, before, at, next, how) =
      let same = same_Some f.version q (sym (d.predecessor ∙ ap followed_version to) ∙ before) in
      let one =
      same_Some (linked_to o f (d.behind f to).0) z (sym (d.behind f to).2 ∙ ap (λ k. get T.versions k) same ∙ at) in
      let link = same_Some (link_to o f) g (ap (λ (k : Version). k.successor) one ∙ next) in
      ap (λ (k : Follow). k.how) link ∙ how

  -- the mode of an input
  new_mode : (mode : Mode) → IsOn ts n.object mode o → c.operand.mode ≡ mode
  new_mode mode i =
      ap (λ (p : Operand). p.mode) (same_Some c.operand i.operand (sym order.operand ∙ i.there)) ∙ i.is_mode

  new_stored_over : (f : Follow) → c.follows ≡ Some f
      → (c.operand.mode ≡ Inout) × (f.how ≡ Over) × (c.storage ≡ None) → HasStorage ts T o n
  new_stored_over f to w = record {
    over = (λ e. new_over f to w.1, λ over. d.storage ∙ w.2);
    waits = λ e. (
      d.unproduced w.2,
      record { operand = c.operand; there = order.operand; object = sym d.object; is_mode = w.0 },
    );
    home = λ e. absurd (none-some Home (sym (d.storage ∙ w.2) ∙ e));
    input = λ i. absurd (not_inout (sym (new_mode Input i) ∙ w.0));
    alone = λ g e over. absurd (none-some g (sym d.successor ∙ e));
  }
    where
      not_inout : Input ≡ Inout → ⊥
      not_inout e = cc

  new_stored_beside : (f : Follow) → c.follows ≡ Some f
      → (c.operand.mode ≡ Output) × (f.how ≡ Beside) × (c.storage ≡ Some (Buffer o)) → HasStorage ts T o n
  new_stored_beside f to w = record {
    over = (
      λ e. absurd (none-some (Buffer o) (sym e ∙ d.storage ∙ w.2)),
      λ over. absurd (over_beside (sym (new_way f to over) ∙ w.1)),
    );
    waits = λ e. absurd (none-some (Buffer o) (sym e ∙ d.storage ∙ w.2));
    home = λ e. absurd (not_home (same_Some (Buffer o) Home (sym (d.storage ∙ w.2) ∙ e)));
    input = λ i. absurd (not_output (sym (new_mode Input i) ∙ w.0));
    alone = λ g e over. absurd (none-some g (sym d.successor ∙ e));
  }
    where
      not_home : Buffer o ≡ Home → ⊥
      not_home e = cc

      not_output : Input ≡ Output → ⊥
      not_output e = cc

  new_stored_first : c.follows ≡ None → HasStorage ts T o n
  new_stored_first to =
      let storage = d.storage ∙ (order.first to).storage in
      let none = d.predecessor ∙ ap followed_version to in
      record {
        over = (
          λ e. absurd (none-some Home (sym e ∙ storage)),
          λ over. absurd (none-some over.0 (sym none ∙ over.3)),
        );
        waits = λ e. absurd (none-some Home (sym e ∙ storage));
        home = λ e. none;
        input = λ i. none;
        alone = λ g e over. absurd (none-some g (sym d.successor ∙ e));
      }

  -- and has the storage that its open says
  pub new_stored : (s : Option Follow) → c.follows ≡ s → HasStorage ts T o n
  new_stored None to = new_stored_first to
  new_stored (Some f) to = elim ((order.after f to).way) [
    | inl over ↦ new_stored_over f to over
    | inr beside ↦ new_stored_beside f to beside
  ]

  -- ---- the version that is followed

  module _ (f : Follow) (to : c.follows ≡ Some f) where
    front_link : IsLinked S f.version (d.behind f to).0
    front_link = h.linked f.version (d.behind f to).0 (d.behind f to).1

    -- what is older than it is as it was
    older_same : (q : OpName) (u : Version) → get S.versions q ≡ Some u → q.task < f.version.task
        → get T.versions q ≡ Some u
    older_same q u e older =
        d.others q (old_apart q u e)
        (λ g k is.
        let same = is ∙ ap (λ (t : Follow). t.version) (same_Some g f (sym k ∙ to)) in
        below_self f.version.task (subst (λ (k : OpName). k.task < f.version.task) same older))
        ∙ e

    front_after : (q : OpName) → IsAfter S f.version (d.behind f to).0 q
        → IsAfter T f.version (linked_to o f (d.behind f to).0) q
    front_after q a = record {
      version = a.version;
      there = older_same q a.version a.there a.older;
      object = a.object;
      older = a.older;
      follow = a.follow;
      link = a.link;
      back = a.back;
    }

    front_followed : IsFollowed T f.version (linked_to o f (d.behind f to).0) (link_to o f)
    front_followed =
        let k = order.after f to in
        record {
          version = n;
          there = d.stands;
          object = d.object ∙ sym (front_object f to);
          younger = k.older;
          back = d.predecessor ∙ ap followed_version to;
          last = k.last ∙ sym (total_same f.version);
          near = λ q m.
              k.near q
              (member_back c.operand.object q (inl (subst (λ r. IsVersionOf T r q) (front_object f to) m)));
        }

    front_oldest : (d.behind f to).0.predecessor ≡ None → (q : OpName) → IsVersionOf T (d.behind f to).0.object q
        → f.version.task ≤ q.task
    front_oldest e q m = elim (version_back (d.behind f to).0.object q m) [
      | inl new ↦
          subst (λ (k : OpName). f.version.task ≤ k.task) (sym new.0)
          (at_most f.version.task o.task (order.after f to).older)
      | inr old ↦ front_link.oldest e q old
    ]

    -- it stands between its neighbours
    pub front_linked : IsLinked T f.version (linked_to o f (d.behind f to).0)
    front_linked = record {
      after = λ q e. front_after q (front_link.after q e);
      followed = λ g e.
          subst (IsFollowed T f.version (linked_to o f (d.behind f to).0)) (same_Some (link_to o f) g e) front_followed;
      oldest = front_oldest;
      youngest = λ e q m. absurd (none-some (link_to o f) (sym e));
    }

    -- and has its storage
    pub front_stored : HasStorage ts T f.version (linked_to o f (d.behind f to).0)
    front_stored =
        let s = h.storages f.version (d.behind f to).0 (d.behind f to).1 in
        record {
          over = (λ e. over_on (s.over.0 e), λ over. s.over.1 (over_back over));
          waits = s.waits;
          home = s.home;
          input = s.input;
          alone = λ g e over.
              let k = order.after f to in
              subst (λ (k : Follow). NoWriterBetween ts (d.behind f to).0.object f.version k.version)
              (same_Some (link_to o f) g e)
              (subst (λ r. NoWriterBetween ts r f.version o) (sym (front_object f to)) k.alone);
        }
      where
        over_on : IsOver S (d.behind f to).0 → IsOver T (linked_to o f (d.behind f to).0)
        over_on (q, z, g, before, at, next, how) =
            (q, z, g, before, older_same q z at (front_link.after q before).older, next, how)

        over_back : IsOver T (linked_to o f (d.behind f to).0) → IsOver S (d.behind f to).0
        over_back (q, z, g, before, at, next, how) =
            let a = front_link.after q before in
            let same = same_Some a.version z (sym (older_same q a.version a.there a.older) ∙ at) in
            (q, a.version, g, before, a.there, ap (λ (k : Version). k.successor) same ∙ next, how)
