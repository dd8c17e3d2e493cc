-- The chains where an open has been taken and its version is registered, before the version that it follows is settled.
use Rattle.std.proofs.Common.{◌≡◌, ◌≢◌, ℕ, ◌+◌, ◌⊎◌, false, List, Option, Some, None, refl, sym, ap, ◌∙◌, subst, inl}
use Rattle.std.proofs.Common.{inr, arith}
use Rattle.std.specs.FinMap.{get, remove}
use Rattle.std.proofs.lemmas.Option.{none-some, same_Some}
use Rattle.tss_base.specs.declared.range.Range.{Range}
use Rattle.tss_base.specs.declared.operand.OpName.{OpName}
use Rattle.tss_base.specs.declared.operand.Task.{Task}
use Rattle.tss_base.specs.declared.marks.Follow.{Follow}
use Rattle.tss_maps.proofs.Keys.{name_order, decide_key}
use Rattle.tss_maps.proofs.Changes.{at_removed, beside_removed, from_removed, decide_get}
use Rattle.tss_protocol.specs.Mail.{OpenContents}
use Rattle.tss_protocol.specs.State.{State, Version}
use Rattle.tss_control.specs.Members.{IsVersionOf, IsOpenOf, IsMember, registered_of, first_reader, opening_reader}
use Rattle.tss_control.specs.Members.{uses_of, total}
use Rattle.tss_control.specs.Chains.{IsOpenInOrder, HasChains}
use Rattle.tss_control.proofs.chains.Numbers.{crossed}
use Rattle.tss_control.proofs.chains.Alike.{object_of_member}

-- ---- a version is registered

-- the version that an open follows
abbrev pub followed_version : Option Follow → Option OpName
followed_version None = None
followed_version (Some f) = Some f.version

-- the link to the version of an open
abbrev pub link_to : OpName → Follow → Follow
link_to o f = record f { version = o }

-- the version that is followed, with its link
abbrev pub linked_to : OpName → Follow → Version → Version
linked_to o f u = record u { successor = Some (link_to o f) }

-- the open o with contents c is taken, and n is registered, which the version that it follows knows
pub record Registers (S T : State) (o : OpName) (c : OpenContents) (n : Version) : Type 0 where
  pub opening : get S.mail.opens o ≡ Some c
  pub fresh : get S.versions o ≡ None
  pub stands : get T.versions o ≡ Some n
  pub behind : (f : Follow) → c.follows ≡ Some f
      → (u : Version) × (get S.versions f.version ≡ Some u) × (get T.versions f.version ≡ Some (linked_to o f u))
  pub others : (q : OpName) → q ≢ o → ((f : Follow) → c.follows ≡ Some f → q ≢ f.version)
      → get T.versions q ≡ get S.versions q
  pub opens : T.mail.opens ≡ remove S.mail.opens o
  pub uses : T.mail.uses ≡ S.mail.uses
  pub object : n.object ≡ c.operand.object
  pub storage : n.storage ≡ c.storage
  pub predecessor : n.predecessor ≡ followed_version c.follows
  pub successor : n.successor ≡ None
  pub registered : n.registered ≡ first_reader c.operand.mode c.follows
  pub unproduced : c.storage ≡ None → n.produced ≡ false

-- a first reader counts as much as its open did
swap_sum : (r k u : ℕ) → r ≡ k → r + 0 + u ≡ 0 + k + u
swap_sum r k u e = omega (arith, e)

module _ (ts : List Task) (S T : State) (h : HasChains ts S) (o : OpName) (c : OpenContents) (n : Version)
    (d : Registers S T o c n) where
  -- the open, in order
  pub order : IsOpenInOrder ts S o c
  order = h.opens o c d.opening

  -- a version that was there has another name
  pub old_apart : (w : OpName) (y : Version) → get S.versions w ≡ Some y → w ≢ o
  old_apart w y e is = none-some y (sym d.fresh ∙ ap (λ q. get S.versions q) (sym is) ∙ e)

  -- ---- the version that is followed

  -- the version that is followed is of the same object
  pub front_object : (f : Follow) (to : c.follows ≡ Some f) → (d.behind f to).0.object ≡ c.operand.object
  front_object f to =
      object_of_member ts S h f.version (d.behind f to).0 (d.behind f to).1 c.operand.object (order.after f to).member

  -- it had no successor
  front_last : (f : Follow) (to : c.follows ≡ Some f) (s : Option Follow) → (d.behind f to).0.successor ≡ s
      → (d.behind f to).0.successor ≡ None
  front_last f to None e = e
  front_last f to (Some g) e =
      let b = (h.linked f.version (d.behind f to).0 (d.behind f to).1).followed g e in
      let m : IsVersionOf S c.operand.object g.version = (b.version, b.there, b.object ∙ front_object f to) in
      elim ((order.after f to).near g.version (inl m)) [
        | inl close ↦ absurd (crossed f.version.task g.version.task b.younger close)
        | inr far ↦ absurd (crossed g.version.task o.task (order.behind g.version m) far)
      ]

  -- so it had none
  pub front_none : (f : Follow) (to : c.follows ≡ Some f) → (d.behind f to).0.successor ≡ None
  front_none f to = front_last f to (d.behind f to).0.successor refl

  -- ---- where a version came from

  -- the new version
  abbrev pub IsNew : OpName → Version → Type 0
  IsNew w y = (w ≡ o) × (y ≡ n)

  -- the one that is followed
  abbrev pub IsFront : OpName → Version → Type 0
  IsFront w y =
      (f : Follow) × (to : c.follows ≡ Some f) × (w ≡ f.version) × (y ≡ linked_to o f (d.behind f to).0)

  -- another, as it was
  abbrev pub IsOld : OpName → Version → Type 0
  IsOld w y =
      (get S.versions w ≡ Some y) × ((f : Follow) → c.follows ≡ Some f → w ≢ f.version)

  came_by : (w : OpName) (y : Version) → get T.versions w ≡ Some y → w ≢ o → (s : Option Follow) → c.follows ≡ s
      → IsFront w y ⊎ IsOld w y
  came_by w y e far None to =
      let apart : (f : Follow) → c.follows ≡ Some f → w ≢ f.version = λ f k. absurd (none-some f (sym to ∙ k)) in
      inr (sym (d.others w far apart) ∙ e, apart)
  came_by w y e far (Some f) to = elim (decide_key name_order w f.version) [
    | inl is ↦
        inl (
          f,
          to,
          is,
          same_Some y (linked_to o f (d.behind f to).0)
              (sym e ∙ ap (λ q. get T.versions q) is ∙ (d.behind f to).2),
        )
    | inr apart ↦
        let others : (g : Follow) → c.follows ≡ Some g → w ≢ g.version =
        λ g k is. apart (is ∙ ap (λ (t : Follow). t.version) (same_Some g f (sym k ∙ to))) in
        inr (sym (d.others w far others) ∙ e, others)
  ]

  -- each is one of these
  pub came : (w : OpName) (y : Version) → get T.versions w ≡ Some y → IsNew w y ⊎ (IsFront w y ⊎ IsOld w y)
  came w y e = elim (decide_key name_order w o) [
    | inl is ↦ inl (is, same_Some y n (sym e ∙ ap (λ q. get T.versions q) is ∙ d.stands))
    | inr far ↦ inr (came_by w y e far c.follows refl)
  ]

  -- ---- members

  -- a version that was there, with its object
  abbrev WasVersion : OpName → Version → Type 0
  WasVersion w y = (u : Version) × (get S.versions w ≡ Some u) × (y.object ≡ u.object)

  front_was : (w : OpName) (y : Version) → IsFront w y → WasVersion w y
  front_was w y (f, to, is, same) = (
    (d.behind f to).0,
    ap (λ q. get S.versions q) is ∙ (d.behind f to).1,
    ap (λ (u : Version). u.object) same,
  )

  -- a version is the new one, or was there
  pub version_back : (r : Range) (w : OpName) → IsVersionOf T r w
      → ((w ≡ o) × (c.operand.object ≡ r)) ⊎ IsVersionOf S r w
  version_back r w m = elim (came w m.0 m.1) [
    | inl new ↦ inl (new.0, sym d.object ∙ ap (λ (u : Version). u.object) (sym new.1) ∙ m.2)
    | inr (inl front) ↦ let u = front_was w m.0 front in inr (u.0, u.1, sym u.2 ∙ m.2)
    | inr (inr old) ↦ inr (m.0, old.0, m.2)
  ]

  -- an open that is left was there
  pub open_back : (r : Range) (w : OpName) → IsOpenOf T r w → (w ≢ o) × IsOpenOf S r w
  open_back r w m =
      let b = from_removed name_order S.mail.opens o w m.0 (sym (ap (λ os. get os w) d.opens) ∙ m.1) in
      (b.0, (m.0, b.1, m.2))

  -- so was a member
  pub member_back : (r : Range) (w : OpName) → IsMember T r w → IsMember S r w
  member_back r w (inl m) = elim (version_back r w m) [
    | inl new ↦ inr (c, ap (λ q. get S.mail.opens q) new.0 ∙ d.opening, new.1)
    | inr old ↦ inl old
  ]
  member_back r w (inr m) = inr (open_back r w m).1

  -- a version that was there still is
  abbrev pub StillVersion : OpName → Version → Type 0
  StillVersion w u = (y : Version) × (get T.versions w ≡ Some y) × (y.object ≡ u.object) × (y.registered ≡ u.registered)
      × (y.predecessor ≡ u.predecessor)

  still_by : (w : OpName) (u : Version) → get S.versions w ≡ Some u → (s : Option Follow) → c.follows ≡ s
      → StillVersion w u
  still_by w u e None to =
      (u, d.others w (old_apart w u e) (λ f k. absurd (none-some f (sym to ∙ k))) ∙ e, refl, refl, refl)
  still_by w u e (Some f) to = elim (decide_key name_order w f.version) [
    | inl is ↦
        let same = same_Some (d.behind f to).0 u (sym (d.behind f to).1 ∙ ap (λ q. get S.versions q) (sym is) ∙ e) in (
          linked_to o f (d.behind f to).0,
          ap (λ q. get T.versions q) is ∙ (d.behind f to).2,
          ap (λ (k : Version). k.object) same,
          ap (λ (k : Version). k.registered) same,
          ap (λ (k : Version). k.predecessor) same,
        )
    | inr apart ↦ (
      u,
      d.others w (old_apart w u e)
          (λ g k is. apart (is ∙ ap (λ (t : Follow). t.version) (same_Some g f (sym k ∙ to)))) ∙ e,
      refl,
      refl,
      refl,
    )
  ]

  -- each is still there
  pub still : (w : OpName) (u : Version) → get S.versions w ≡ Some u → StillVersion w u
  still w u e = still_by w u e c.follows refl

  -- a member is still one
  pub member_on : (r : Range) (w : OpName) → IsMember S r w → IsMember T r w
  member_on r w (inl m) = let t = still w m.0 m.1 in inl (t.0, t.1, t.2 ∙ m.2)
  member_on r w (inr m) = elim (decide_key name_order w o) [
    | inl is ↦
        let same = same_Some m.0 c (sym m.1 ∙ ap (λ q. get S.mail.opens q) is ∙ d.opening) in
        inl (
          n,
          ap (λ q. get T.versions q) is ∙ d.stands,
          d.object ∙ ap (λ (k : OpenContents). k.operand.object) (sym same) ∙ m.2,
        )
    | inr far ↦
        inr (m.0, ap (λ os. get os w) d.opens ∙ beside_removed name_order S.mail.opens o w far ∙ m.1, m.2)
  ]

  -- ---- as many readers were directed to each

  total_new : total T o ≡ total S o
  total_new =
      (λ i.
      registered_of (d.stands i)
      + opening_reader ((ap (λ os. get os o) d.opens ∙ at_removed name_order S.mail.opens o) i)
      + uses_of (d.uses i) o)
      ∙ swap_sum n.registered (first_reader c.operand.mode c.follows) (uses_of S.mail.uses o) d.registered
      ∙ (λ i.
      registered_of (sym d.fresh i) + opening_reader (sym d.opening i) + uses_of S.mail.uses o)

  registered_by : (w : OpName) → w ≢ o → (u : Option Version) → get S.versions w ≡ u
      → registered_of (get T.versions w) ≡ registered_of u
  registered_by w far (Some u) e = let t = still w u e in ap registered_of t.1 ∙ t.3
  registered_by w far None e = elim (decide_get T.versions w) [
    | inl none ↦ ap registered_of none
    | inr y ↦ absurd (gone (came w y.0 y.1))
  ]
    where
      gone : {y : Version} → IsNew w y ⊎ (IsFront w y ⊎ IsOld w y) → ⊥
      gone (inl new) = far new.0
      gone {y = y} (inr (inl front)) = let u = front_was w y front in none-some u.0 (sym e ∙ u.1)
      gone {y = y} (inr (inr old)) = none-some y (sym e ∙ old.0)

  total_by : (w : OpName) → w ≢ o → total T w ≡ total S w
  total_by w far = λ i.
      registered_by w far (get S.versions w) refl i
      + opening_reader ((ap (λ os. get os w) d.opens ∙ beside_removed name_order S.mail.opens o w far) i)
      + uses_of (d.uses i) w

  -- as many readers were directed to each
  pub total_same : (w : OpName) → total T w ≡ total S w
  total_same w = elim (decide_key name_order w o) [
    | inl is ↦ subst (λ k. total T k ≡ total S k) (sym is) total_new
    | inr far ↦ total_by w far
  ]
