-- The chains of versions depend on a few things: on each version's object, storage and neighbours, on the opens and
-- uses under way, and on how many readers were directed to each.
use Rattle.std.proofs.Common.{◌≡◌, ◌+◌, List, Some, None, refl, sym, ap, ◌∙◌, subst, inl, inr}
use Rattle.std.specs.FinMap.{get}
use Rattle.std.proofs.lemmas.Option.{same_Some}
use Rattle.tss_base.specs.declared.range.Range.{Range}
use Rattle.tss_base.specs.declared.operand.OpName.{OpName}
use Rattle.tss_base.specs.declared.operand.Mode.TheVariants.{Input, Inout}
use Rattle.tss_base.specs.declared.operand.Operand.{Operand}
use Rattle.tss_base.specs.declared.operand.Task.{Task}
use Rattle.tss_base.specs.declared.marks.Follow.{Follow}
use Rattle.tss_protocol.specs.Mail.{OpenContents}
use Rattle.tss_protocol.specs.State.{State, Version}
use Rattle.tss_control.specs.Members.{IsOn, NoWriterBetween, IsVersionOf, IsOpenOf, IsMember, registered_of}
use Rattle.tss_control.specs.Members.{opening_reader, uses_of, total}
use Rattle.tss_control.specs.Chains.{IsAfter, IsFollowed, IsLinked, IsOver, HasStorage, OpensFirst, OpensAfter}
use Rattle.tss_control.specs.Chains.{IsOpenInOrder, IsUseInOrder, HasChains}

-- ---- what is alike

-- of two versions of one name: all that the chains say of it
pub record AreAlike (x y : Version) : Type 0 where
  pub object : y.object ≡ x.object
  pub storage : y.storage ≡ x.storage
  pub predecessor : y.predecessor ≡ x.predecessor
  pub successor : y.successor ≡ x.successor
  pub produced : x.storage ≡ None → y.produced ≡ x.produced

-- a version is like itself
pub alike_same : (x : Version) → AreAlike x x
alike_same x = record { object = refl; storage = refl; predecessor = refl; successor = refl; produced = λ e. refl }

-- of two states: the versions are alike, the opens are the same, there are no new uses, and as many readers were
-- directed to each version
pub record AreChainsAlike (S T : State) : Type 0 where
  pub kept : (v : OpName) (x : Version) → get S.versions v ≡ Some x
      → (y : Version) × (get T.versions v ≡ Some y) × AreAlike x y
  pub from : (v : OpName) (y : Version) → get T.versions v ≡ Some y
      → (x : Version) × (get S.versions v ≡ Some x) × AreAlike x y
  pub opens : T.mail.opens ≡ S.mail.opens
  pub uses : (o v : OpName) → get T.mail.uses o ≡ Some v → get S.mail.uses o ≡ Some v
  pub all : (v : OpName) → total T v ≡ total S v

-- the three maps are the same
pub record KeepsChainMaps (S T : State) : Type 0 where
  pub versions : T.versions ≡ S.versions
  pub opens : T.mail.opens ≡ S.mail.opens
  pub uses : T.mail.uses ≡ S.mail.uses

-- then the states are alike
pub alike_from_maps : (S T : State) → KeepsChainMaps S T → AreChainsAlike S T
alike_from_maps S T k = record {
  kept = λ v x e. (x, ap (λ m. get m v) k.versions ∙ e, alike_same x);
  from = λ v x e. (x, sym (ap (λ m. get m v) k.versions) ∙ e, alike_same x);
  opens = k.opens;
  uses = λ o v e. sym (ap (λ m. get m o) k.uses) ∙ e;
  all = λ v i.
      registered_of (get (k.versions i) v) + opening_reader (get (k.opens i) v) + uses_of (k.uses i) v;
}

-- ---- the chains of two states that are alike

module _ (ts : List Task) (S T : State) (a : AreChainsAlike S T) where
  version_back : (x : Range) (v : OpName) → IsVersionOf T x v → IsVersionOf S x v
  version_back x v m = let b = a.from v m.0 m.1 in (b.0, b.1, sym b.2.object ∙ m.2)

  version_on : (x : Range) (v : OpName) → IsVersionOf S x v → IsVersionOf T x v
  version_on x v m = let b = a.kept v m.0 m.1 in (b.0, b.1, b.2.object ∙ m.2)

  open_back : (x : Range) (v : OpName) → IsOpenOf T x v → IsOpenOf S x v
  open_back x v m = (m.0, sym (ap (λ os. get os v) a.opens) ∙ m.1, m.2)

  open_on : (x : Range) (v : OpName) → IsOpenOf S x v → IsOpenOf T x v
  open_on x v m = (m.0, ap (λ os. get os v) a.opens ∙ m.1, m.2)

  -- members of one are members of the other
  member_back : (x : Range) (v : OpName) → IsMember T x v → IsMember S x v
  member_back x v (inl m) = inl (version_back x v m)
  member_back x v (inr m) = inr (open_back x v m)

  -- and the other way round
  member_on : (x : Range) (v : OpName) → IsMember S x v → IsMember T x v
  member_on x v (inl m) = inl (version_on x v m)
  member_on x v (inr m) = inr (open_on x v m)

  -- ---- neighbours

  module _ (v : OpName) (x y : Version) (like : AreAlike x y) where
    after_alike : (q : OpName) → IsAfter S v x q → IsAfter T v y q
    after_alike q h =
        let b = a.kept q h.version h.there in
        record {
          version = b.0;
          there = b.1;
          object = b.2.object ∙ h.object ∙ sym like.object;
          older = h.older;
          follow = h.follow;
          link = b.2.successor ∙ h.link;
          back = h.back;
        }

    followed_alike : (f : Follow) → IsFollowed S v x f → IsFollowed T v y f
    followed_alike f h =
        let b = a.kept f.version h.version h.there in
        record {
          version = b.0;
          there = b.1;
          object = b.2.object ∙ h.object ∙ sym like.object;
          younger = h.younger;
          back = b.2.predecessor ∙ h.back;
          last = h.last ∙ sym (a.all v);
          near = λ q m. h.near q (version_back x.object q (subst (λ r. IsVersionOf T r q) like.object m));
        }

    linked_alike : IsLinked S v x → IsLinked T v y
    linked_alike h =
        let back : (q : OpName) → IsVersionOf T y.object q → IsVersionOf S x.object q =
        λ q m. version_back x.object q (subst (λ r. IsVersionOf T r q) like.object m) in
        record {
          after = λ q e. after_alike q (h.after q (sym like.predecessor ∙ e));
          followed = λ f e. followed_alike f (h.followed f (sym like.successor ∙ e));
          oldest = λ e q m. h.oldest (sym like.predecessor ∙ e) q (back q m);
          youngest = λ e q m. h.youngest (sym like.successor ∙ e) q (back q m);
        }

    -- ---- storages

    over_on : IsOver S x → IsOver T y
    over_on (q, z, f, before, there, next, how) =
        let b = a.kept q z there in
        (q, b.0, f, like.predecessor ∙ before, b.1, b.2.successor ∙ next, how)

    over_back : IsOver T y → IsOver S x
    over_back (q, z, f, before, there, next, how) =
        let b = a.from q z there in
        (q, b.0, f, sym like.predecessor ∙ before, b.1, sym b.2.successor ∙ next, how)

    storage_alike : HasStorage ts S v x → HasStorage ts T v y
    storage_alike h = record {
      over = (
        λ e. over_on (h.over.0 (sym like.storage ∙ e)),
        λ o. like.storage ∙ h.over.1 (over_back o),
      );
      waits = λ e.
          let none = sym like.storage ∙ e in
          let w = h.waits none in
          (like.produced none ∙ w.0, subst (λ r. IsOn ts r Inout v) (sym like.object) w.1);
      home = λ e. like.predecessor ∙ h.home (sym like.storage ∙ e);
      input = λ i. like.predecessor ∙ h.input (subst (λ r. IsOn ts r Input v) like.object i);
      alone = λ f e over.
          subst (λ r. NoWriterBetween ts r v f.version) (sym like.object) (h.alone f (sym like.successor ∙ e) over);
    }

  -- ---- opens and uses

  opens_first_alike : (o : OpName) (c : OpenContents) → OpensFirst S o c → OpensFirst T o c
  opens_first_alike o c h =
      record { storage = h.storage; first = λ q m. h.first q (member_back c.operand.object q m) }

  opens_after_alike : (o : OpName) (c : OpenContents) (f : Follow) → OpensAfter ts S o c f → OpensAfter ts T o c f
  opens_after_alike o c f h = record {
    member = member_on c.operand.object f.version h.member;
    older = h.older;
    near = λ q m. h.near q (member_back c.operand.object q m);
    last = h.last ∙ sym (a.all f.version);
    way = h.way;
    alone = h.alone;
  }

  open_alike : (o : OpName) (c : OpenContents) → IsOpenInOrder ts S o c → IsOpenInOrder ts T o c
  open_alike o c h = record {
    operand = h.operand;
    behind = λ q m. h.behind q (version_back c.operand.object q m);
    first = λ e. opens_first_alike o c (h.first e);
    after = λ f e. opens_after_alike o c f (h.after f e);
  }

  use_alike : (o v : OpName) → IsUseInOrder ts S o v → IsUseInOrder ts T o v
  use_alike o v h = record {
    operand = h.operand;
    there = h.there;
    mode = h.mode;
    member = member_on h.operand.object v h.member;
    older = h.older;
    alone = h.alone;
  }

  -- the chains are as good
  pub HasChains-alike : HasChains ts S → HasChains ts T
  HasChains-alike h = record {
    one = λ x v w m n e. h.one x v w (member_back x v m) (member_back x w n) e;
    opener = λ v y e.
        let b = a.from v y e in
        let p = h.opener v b.0 b.1 in
        (p.0, p.1, p.2 ∙ sym b.2.object);
    linked = λ v y e. let b = a.from v y e in linked_alike v b.0 y b.2 (h.linked v b.0 b.1);
    storages = λ v y e. let b = a.from v y e in storage_alike v b.0 y b.2 (h.storages v b.0 b.1);
    opens = λ o c e. open_alike o c (h.opens o c (sym (ap (λ os. get os o) a.opens) ∙ e));
    uses = λ o v e. use_alike o v (h.uses o v (a.uses o v e));
  }

-- ---- members

-- a registered version whose name is a member of an object is of that object
pub object_of_member : (ts : List Task) (S : State) → HasChains ts S → (v : OpName) (x : Version)
    → get S.versions v ≡ Some x → (r : Range) → IsMember S r v → x.object ≡ r
object_of_member ts S h v x there r (inl m) = ap (λ (u : Version). u.object) (same_Some x m.0 (sym there ∙ m.1)) ∙ m.2
object_of_member ts S h v x there r (inr m) =
    let p = h.opener v x there in
    sym p.2
    ∙ ap (λ (u : Operand). u.object) (same_Some p.0 m.0.operand (sym p.1 ∙ (h.opens v m.0 m.1).operand))
    ∙ m.2
