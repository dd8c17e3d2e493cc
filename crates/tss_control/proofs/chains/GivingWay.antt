-- The chains after a produced version, to which no use is under way, has given way to the one that follows it.
use Rattle.std.proofs.Common.{◌≡◌, ◌≢◌, ◌+◌, ◌⊎◌, true, List, Option, Some, None, refl, sym, ap, ◌∙◌, inl, inr}
use Rattle.std.specs.FinMap.{get}
use Rattle.std.proofs.lemmas.Option.{none-some, same_Some}
use Rattle.tss_base.specs.declared.range.Range.{Range}
use Rattle.tss_base.specs.declared.operand.OpName.{OpName}
use Rattle.tss_base.specs.declared.operand.Task.{Task}
use Rattle.tss_base.specs.declared.marks.How.{How}
use Rattle.tss_base.specs.declared.marks.How.TheVariants.{Beside, Over}
use Rattle.tss_base.specs.declared.marks.Follow.{Follow}
use Rattle.tss_maps.proofs.Keys.{name_order, decide_key}
use Rattle.tss_protocol.specs.State.{State, Version}
use Rattle.tss_control.specs.Members.{IsVersionOf, IsOpenOf, IsMember, registered_of, opening_reader, uses_of, total}
use Rattle.tss_control.specs.Chains.{IsAfter, IsFollowed, HasChains}
use Rattle.tss_protocol.proofs.UnlinkedVersions.{bridged, GaveWay}

-- ---- what gives way to what

-- the storage of the version that follows: it keeps its own, or takes the other's
abbrev pub TakesStorage : How → Version → Version → Version → Type 0
TakesStorage Beside x y z = z.storage ≡ y.storage
TakesStorage Over x y z = z.storage ≡ x.storage

-- v, a produced version x, is followed by f, where y stands, and no use of v is under way. Afterwards v is gone, z
-- stands in the place of y, and opens and uses are as they were
pub record Departs (S T : State) (v : OpName) (x : Version) (f : Follow) (y z : Version) : Type 0 where
  pub there : get S.versions v ≡ Some x
  pub follow : x.successor ≡ Some f
  pub next : get S.versions f.version ≡ Some y
  pub produced : x.produced ≡ true
  pub unused : (o : OpName) → get S.mail.uses o ≡ Some v → ⊥
  pub gave : GaveWay S.versions T.versions v x f.version z
  pub opens : T.mail.opens ≡ S.mail.opens
  pub uses : T.mail.uses ≡ S.mail.uses
  pub object : z.object ≡ y.object
  pub predecessor : z.predecessor ≡ x.predecessor
  pub successor : z.successor ≡ y.successor
  pub same_produced : z.produced ≡ y.produced
  pub registered : z.registered ≡ y.registered
  pub storage : TakesStorage f.how x y z

module _ (ts : List Task) (S T : State) (h : HasChains ts S) (v : OpName) (x : Version) (f : Follow) (y z : Version)
    (d : Departs S T v x f y z) where
  -- ---- the versions around

  -- the version that follows
  pub follows : IsFollowed S v x f
  follows = (h.linked v x d.there).followed f d.follow

  next_is : follows.version ≡ y
  next_is = same_Some follows.version y (sym follows.there ∙ d.next)

  -- it is of the same object
  pub next_object : y.object ≡ x.object
  next_object = ap (λ (u : Version). u.object) (sym next_is) ∙ follows.object

  -- and knows v
  pub next_back : y.predecessor ≡ Some v
  next_back = ap (λ (u : Version). u.predecessor) (sym next_is) ∙ follows.back

  -- one before it
  pub before_is : (p : OpName) → x.predecessor ≡ Some p → IsAfter S v x p
  before_is p e = (h.linked v x d.there).after p e

  -- the version before v is followed by v
  pub before_to : (p : OpName) (u : Version) → x.predecessor ≡ Some p → get S.versions p ≡ Some u
      → (g : Follow) × (u.successor ≡ Some g) × (g.version ≡ v)
  before_to p u e at =
      let a = before_is p e in
      let is = same_Some a.version u (sym a.there ∙ at) in
      (a.follow, ap (λ (w : Version). w.successor) (sym is) ∙ a.link, a.back)

  -- ---- where a version came from

  -- a version that is left is the next one, the one before, or as it was
  abbrev pub IsNextOne : OpName → Version → Version → Type 0
  IsNextOne w old new = (w ≡ f.version) × (old ≡ y) × (new ≡ z)

  -- the one before
  abbrev pub IsOneBefore : OpName → Version → Version → Type 0
  IsOneBefore w old new = (x.predecessor ≡ Some w) × (new ≡ bridged f.version old)

  -- another
  abbrev pub IsOther : OpName → Version → Version → Type 0
  IsOther w old new = (x.predecessor ≡ Some w → ⊥) × (w ≢ f.version) × (new ≡ old)

  -- what stands somewhere, by what stood there
  pub record Came (w : OpName) (new : Version) : Type 0 where
    pub old : Version
    pub there : get S.versions w ≡ Some old
    pub stays : w ≢ v
    pub which : IsNextOne w old new ⊎ (IsOneBefore w old new ⊎ IsOther w old new)

  -- a name is there and is this one, or not
  pub decide_named : (o : Option OpName) (w : OpName) → (o ≡ Some w) ⊎ (o ≡ Some w → ⊥)
  decide_named None w = inr (λ e. none-some w e)
  decide_named (Some p) w = elim (decide_key name_order p w) [
    | inl same ↦ inl (ap Some same)
    | inr apart ↦ inr (λ e. apart (same_Some p w e))
  ]

  before_there : (w : OpName) → x.predecessor ≡ Some w → (u : Version) × (get S.versions w ≡ Some u)
  before_there w e = let a = before_is w e in (a.version, a.there)

  stays_after : (w : OpName) (new : Version) → get T.versions w ≡ Some new → w ≢ v
  stays_after w new e is =
      none-some new (sym (ap (λ q. get T.versions q) is ∙ d.gave.gone) ∙ e)

  came_elsewhere : (w : OpName) (new : Version) → get T.versions w ≡ Some new → w ≢ f.version → Came w new
  came_elsewhere w new e apart =
      let stays = stays_after w new e in
      elim (decide_named x.predecessor w) [
        | inl b ↦ by_before b (before_there w b)
        | inr n ↦ record {
          old = new;
          there = sym (d.gave.others w stays apart n) ∙ e;
          stays = stays;
          which = inr (inr (n, apart, refl));
        }
      ]
    where
      by_before : x.predecessor ≡ Some w → ((u : Version) × (get S.versions w ≡ Some u)) → Came w new
      by_before b u = record {
        old = u.0;
        there = u.1;
        stays = stays_after w new e;
        which = inr (inl (b, same_Some new (bridged f.version u.0) (sym e ∙ d.gave.before w u.0 b u.1)));
      }

  -- each version that is left was there
  pub came : (w : OpName) (new : Version) → get T.versions w ≡ Some new → Came w new
  came w new e = elim (decide_key name_order w f.version) [
    | inl is ↦ record {
      old = y;
      there = ap (λ q. get S.versions q) is ∙ d.next;
      stays = stays_after w new e;
      which = inl (is, refl, same_Some new z (sym e ∙ ap (λ q. get T.versions q) is ∙ d.gave.next));
    }
    | inr apart ↦ came_elsewhere w new e apart
  ]

  -- ---- what is as it was

  -- its object is as it was
  pub same_object_by : (w : OpName) (old new : Version)
      → IsNextOne w old new ⊎ (IsOneBefore w old new ⊎ IsOther w old new)
      → new.object ≡ old.object
  same_object_by w old new (inl n) =
      ap (λ (u : Version). u.object) n.2 ∙ d.object ∙ ap (λ (u : Version). u.object) (sym n.1)
  same_object_by w old new (inr (inl b)) = ap (λ (u : Version). u.object) b.1
  same_object_by w old new (inr (inr o)) = ap (λ (u : Version). u.object) o.2

  -- the same
  pub same_object : (w : OpName) (new : Version) (c : Came w new) → new.object ≡ c.old.object
  same_object w new c = same_object_by w c.old new c.which

  same_registered_by : (w : OpName) (old new : Version)
      → IsNextOne w old new ⊎ (IsOneBefore w old new ⊎ IsOther w old new) → new.registered ≡ old.registered
  same_registered_by w old new (inl n) =
      ap (λ (u : Version). u.registered) n.2 ∙ d.registered ∙ ap (λ (u : Version). u.registered) (sym n.1)
  same_registered_by w old new (inr (inl b)) = ap (λ (u : Version). u.registered) b.1
  same_registered_by w old new (inr (inr o)) = ap (λ (u : Version). u.registered) o.2

  -- a version that is left was there
  pub version_before : (r : Range) (w : OpName) → IsVersionOf T r w → IsVersionOf S r w
  version_before r w m =
      let c = came w m.0 m.1 in (c.old, c.there, sym (same_object w m.0 c) ∙ m.2)

  -- and isn't v
  pub version_stays : (r : Range) (w : OpName) → IsVersionOf T r w → w ≢ v
  version_stays r w m = (came w m.0 m.1).stays

  open_before : (r : Range) (w : OpName) → IsOpenOf T r w → IsOpenOf S r w
  open_before r w m = (m.0, sym (ap (λ os. get os w) d.opens) ∙ m.1, m.2)

  -- so was a member
  pub member_before : (r : Range) (w : OpName) → IsMember T r w → IsMember S r w
  member_before r w (inl m) = inl (version_before r w m)
  member_before r w (inr m) = inr (open_before r w m)

  -- a version stays, other than v
  version_later_by : (w : OpName) (old : Version) → get S.versions w ≡ Some old → w ≢ v → w ≢ f.version
      → (x.predecessor ≡ Some w) ⊎ (x.predecessor ≡ Some w → ⊥)
      → (new : Version) × (get T.versions w ≡ Some new)
  version_later_by w old e far apart (inl b) = (bridged f.version old, d.gave.before w old b e)
  version_later_by w old e far apart (inr n) = (old, d.gave.others w far apart n ∙ e)

  -- a version other than v is still there
  version_later : (w : OpName) (old : Version) → get S.versions w ≡ Some old → w ≢ v
      → (new : Version) × (get T.versions w ≡ Some new)
  version_later w old e far = elim (decide_key name_order w f.version) [
    | inl is ↦ (z, ap (λ q. get T.versions q) is ∙ d.gave.next)
    | inr apart ↦ version_later_by w old e far apart (decide_named x.predecessor w)
  ]

  came_from : (w : OpName) (old new : Version) → get S.versions w ≡ Some old → get T.versions w ≡ Some new
      → (c : Came w new) × (c.old ≡ old)
  came_from w old new e at = let c = came w new at in (c, same_Some c.old old (sym c.there ∙ e))

  -- so is a member
  pub member_later : (r : Range) (w : OpName) → w ≢ v → IsMember S r w → IsMember T r w
  member_later r w far (inl m) =
      let t = version_later w m.0 m.1 far in
      let c = came_from w m.0 t.0 m.1 t.1 in
      inl (t.0, t.1, same_object w t.0 c.0 ∙ ap (λ (u : Version). u.object) c.1 ∙ m.2)
  member_later r w far (inr m) = inr (m.0, ap (λ os. get os w) d.opens ∙ m.1, m.2)

  -- as many readers were directed to each version that is left
  registered_same : (w : OpName) → w ≢ v → (o : Option Version) → get S.versions w ≡ o
      → registered_of (get T.versions w) ≡ registered_of o
  registered_same w far None e = elim (decide_some (get T.versions w) refl) [
    | inl none ↦ ap registered_of none
    | inr t ↦ let c = came w t.0 t.1 in absurd (none-some c.old (sym e ∙ c.there))
  ]
    where
      decide_some : (o : Option Version) → get T.versions w ≡ o
          → (get T.versions w ≡ None) ⊎ ((u : Version) × (get T.versions w ≡ Some u))
      decide_some None e = inl e
      decide_some (Some u) e = inr (u, e)
  registered_same w far (Some old) e =
      let t = version_later w old e far in
      let c = came_from w old t.0 e t.1 in
      ap registered_of t.1
      ∙ same_registered_by w c.0.old t.0 c.0.which
      ∙ ap (λ (u : Version). u.registered) c.1

  -- as many readers were directed to each
  pub total_same : (w : OpName) → w ≢ v → total T w ≡ total S w
  total_same w far = λ i.
      registered_same w far (get S.versions w) refl i
      + opening_reader (get (d.opens i) w)
      + uses_of (d.uses i) w
