-- How versions stand, and what open and use find, follow from the laws.
use Rattle.std.proofs.Common.{◌≡◌, Option, Some, None, refl, sym, ap, ◌∙◌, inl, inr, arith}
use Rattle.std.specs.FinMap.{get}
use Rattle.std.proofs.lemmas.Option.{none-some}
use Rattle.tss_base.specs.declared.operand.OpName.{OpName}
use Rattle.tss_base.specs.declared.operand.Operand.{Operand}
use Rattle.tss_base.specs.declared.machine.Machine.{Machine}
use Rattle.tss_base.specs.declared.marks.How.TheVariants.{Beside, Over}
use Rattle.tss_base.specs.declared.marks.Follow.{Follow}
use Rattle.tss_maps.proofs.Changes.{one_value}
use Rattle.tss_protocol.specs.Mail.{OpenContents}
use Rattle.tss_protocol.specs.State.{State, Version}
use Rattle.tss_protocol.specs.Names.{bank_of}
use Rattle.tss_phases.specs.Phase.{look_ups}
use Rattle.tss_phases.proofs.OrderlyLemmas.{using_stands}
use Rattle.tss_names.proofs.CountEvents.{readers_of_runs}
use Rattle.tss_control.specs.Members.{IsVersionOf}
use Rattle.tss_control.specs.Chains.{OpensAfter}
use Rattle.tss_control.proofs.rounds.Facts.{Facts}
use Rattle.tss_control.proofs.holders.Finished.{its_operand}
use Rattle.tss_conditions.specs.Opening.{IsNextOf, IsBeforeOf, RegisteredLaw, LinksLaw, HasOpenForm, IsLastOf}
use Rattle.tss_conditions.specs.Opening.{OpeningLaw, IsUsable, UsingLaw}
use Rattle.tss_conditions.proofs.Known.{facts_reached}
use Rattle.tss_conditions.proofs.VersionRoom.{few_versions}
use Rattle.tss_conditions.proofs.Holding.{few_operands, held_in_bank}

module _ (m : Machine) (S : State) (facts : Facts m S) where
  open facts use {all, ts, ground, control as h}

  -- ---- versions

  next_of : (v : OpName) (x : Version) → get S.versions v ≡ Some x → (f : Follow) → x.successor ≡ Some f
      → IsNextOf S x.object v f
  next_of v x there f to =
      let n = (h.chains.linked v x there).followed f to in
      record {
        version = n.version;
        there = n.there;
        object = n.object;
        younger = n.younger;
        back = n.back;
        bare = λ over. (h.chains.storages f.version n.version n.there).over.1 (v, x, f, n.back, there, to, over);
      }

  before_of : (v : OpName) (x : Version) → get S.versions v ≡ Some x → (q : OpName) → x.predecessor ≡ Some q
      → IsBeforeOf S x.object v q
  before_of v x there q to =
      let n = (h.chains.linked v x there).after q to in
      record {
        version = n.version;
        there = n.there;
        object = n.object;
        older = n.older;
        follow = n.follow;
        link = n.link;
        back = n.back;
      }

  -- ---- open

  module _ (o : OpName) (c : OpenContents) (there : get S.mail.opens o ≡ Some c) where
    form_by : (f : Option Follow) → c.follows ≡ f → HasOpenForm o c f
    form_by None to = ((h.chains.opens o c there).first to).storage
    form_by (Some f) to = ((h.chains.opens o c there).after f to).way

    bare_by : (f : Follow) → c.follows ≡ Some f → f.how ≡ Over → c.storage ≡ None
    bare_by f to over = elim ((h.chains.opens o c there).after f to).way [
      | inl inout ↦ inout.2
      | inr output ↦ absurd (beside_over (sym output.1 ∙ over))
    ]
      where
        beside_over : Beside ≡ Over → ⊥
        beside_over e = cc

    last_of : (f : Follow) (x : Version) → c.follows ≡ Some f → get S.versions f.version ≡ Some x → IsLastOf S o c x f
    last_of f x to at = record {
      object = object;
      last = by x.successor refl;
      older = after.older;
    }
      where
        after : OpensAfter ts S o c f
        after = (h.chains.opens o c there).after f to

        object : x.object ≡ c.operand.object
        object = elim after.member [
          | inl y ↦ ap (λ (x : Version). x.object) (one_value S.versions f.version x y.0 at y.1) ∙ y.2
          | inr k ↦ absurd (none-some x (sym (ground.places.opens f.version k.0 k.1).1 ∙ at))
        ]

        by : (k : Option Follow) → x.successor ≡ k → x.successor ≡ None
        by None e = e
        by (Some k) e =
            let n = (h.chains.linked f.version x at).followed k e in
            let of : IsVersionOf S c.operand.object k.version = (n.version, n.there, n.object ∙ object) in
            let younger = n.younger in
            let behind = (h.chains.opens o c there).behind k.version of in
            elim (after.near k.version (inl of)) [
              | inl older ↦ absurd (omega (arith, older, younger))
              | inr later ↦ absurd (omega (arith, later, behind))
            ]

  -- ---- use

  usable : (o v : OpName) → get S.mail.uses o ≡ Some v → IsUsable S o v
  usable o v there =
      let u = h.chains.uses o v there in
      let k = (using_stands (look_ups S o) v (h.orderly o) there).1.0 in
      let own = its_operand m S facts o k.kept u.operand k.there u.there in
      record {
        operand = k.kept;
        there = k.there;
        object = λ x at. elim u.member [
          | inl y ↦
              ap (λ (x : Version). x.object) (one_value S.versions v x y.0 at y.1)
              ∙ y.2
              ∙ ap (λ (p : Operand). p.object) (sym own)
          | inr c ↦ absurd (none-some x (sym (ground.places.opens v c.0 c.1).1 ∙ at))
        ];
        older = u.older;
      }

pub registered : RegisteredLaw
registered m i S v x r there =
    let facts = facts_reached m i S r in
    let counts = readers_of_runs m i r.reachable.0 S r.accepted r.admissible r.reachable.1 in
    let most = few_operands m r.admissible in
    let few = counts.registered v x there in
    let p = facts.control.chains.opener v x there in
    record {
      settled = facts.control.retirement.settled v x there;
      after = next_of m S facts v x there;
      before = before_of m S facts v x there;
      readers = omega (arith, few, most);
      place = (facts.ground.places.versions v x there).0;
      buffer = λ b e.
          held_in_bank m i S r v b p.0 (inr (inl (x, there, e))) p.1
          ∙ ap (λ x. Some (bank_of m.sizes x)) p.2;
    }

pub links_within : LinksLaw
links_within m i S r =
    let facts = facts_reached m i S r in
    record {
      predecessor = λ v q x y at to there.
          let n = before_of m S facts v x at q to in
          ap (λ (x : Version). x.object) (one_value S.versions q y n.version there n.there) ∙ n.object;
      successor = λ v f x y at to there.
          let n = next_of m S facts v x at f to in
          ap (λ (x : Version). x.object) (one_value S.versions f.version y n.version there n.there) ∙ n.object;
    }

pub openable : OpeningLaw
openable m i S o c r there =
    let facts = facts_reached m i S r in
    record {
      fresh = (facts.ground.places.opens o c there).1;
      place = (facts.ground.places.opens o c there).0;
      buffer = λ b e.
          held_in_bank m i S r o b c.operand (inl (c, there, e)) (facts.control.chains.opens o c there).operand;
      form = form_by m S facts o c there c.follows refl;
      bare = bare_by m S facts o c there;
      follows = last_of m S facts o c there;
      room = few_versions m i S r o c there;
    }

pub uses_version : UsingLaw
uses_version m i S o v r there = usable m S (facts_reached m i S r) o v there
