-- What operands hold after a use: its operand has come to the version and waits, or is told it, and the last reader may
-- be linked to it.
use Rattle.std.proofs.Common.{◌≡◌, ◌≢◌, ◌⊎◌, Bool, true, false, cond, List, ◌∷◌, Option, Some, None, refl, sym, ap, ◌∙◌}
use Rattle.std.proofs.Common.{subst, inl, inr}
use Rattle.std.specs.FinMap.{get}
use Rattle.std.proofs.lemmas.Option.{same_Some}
use Rattle.tss_base.specs.declared.operand.OpName.{OpName}
use Rattle.tss_base.specs.declared.operand.Operand.{Operand}
use Rattle.tss_base.specs.declared.machine.Machine.{Machine}
use Rattle.tss_base.specs.declared.event.Event.TheVariants as event
use Rattle.tss_base.specs.Names.{Named}
use Rattle.tss_maps.proofs.Keys.{name_order, decide_key}
use Rattle.tss_maps.proofs.Changes.{at_inserted, beside_inserted}
use Rattle.tss_model.specs.Access.{writes}
use Rattle.tss_protocol.specs.Mail.{Source, StorageName, Message, posted_all}
use Rattle.tss_protocol.specs.State.{State, Version}
use Rattle.tss_protocol.specs.Versions.{Versioned, put_version, enlisted, ready_with, used_alone, used_behind, used_at}
use Rattle.tss_protocol.specs.Versions.{after_use}
use Rattle.tss_protocol.specs.UnitMachine.{after_event, without, use_message_taken}
use Rattle.tss_phases.specs.Phase.{look_ups}
use Rattle.tss_phases.proofs.Received.{own_name, received_all}
use Rattle.tss_phases.proofs.UseEvent.{look_ups-use-own}
use Rattle.tss_control.proofs.holders.Settled.{HeldAlike}
use Rattle.tss_control.specs.Readers.{Arrivals, Has, set_arrivals}
use Rattle.tss_control.specs.Holders.{IsTrue, IsOwnOrRead}
use Rattle.tss_control.proofs.readers.Come.{at_set, beside_set}

-- ---- what a use leaves

-- the version, the links and the operand's look-ups
pub record UsedBy (S T : State) (o v : OpName) (x : Version) : Type 0 where
  pub version : Version
  pub put : T.versions ≡ put_version S.versions v version
  pub like : HeldAlike x version
  pub links : ((q : OpName) → get T.mail.links q ≡ get S.mail.links q)
      ⊎ ((last : OpName) × (x.tail ≡ Some last) × (get T.mail.links last ≡ Some o)
      × ((q : OpName) → q ≢ last → get T.mail.links q ≡ get S.mail.links q))
  pub own : (look_ups T o ≡ record (look_ups S o) { using = None })
      ⊎ ((s : StorageName) × (x.storage ≡ Some s)
      × (look_ups T o ≡ record (look_ups S o) { using = None; telling = Some (record { version = v; storage = s }) }))

module _ (m : Machine) (S : State) (o v : OpName) (x : Version) (there : get S.mail.uses o ≡ Some v)
    (at : get S.versions v ≡ Some x) where
  abbrev T : State
  T = after_event m S (event.Use o)

  abbrev out : Option OpName → Versioned
  out t = used_behind S.versions o v x t

  used_is : after_use S.versions o v ≡ out x.tail
  used_is = ap (used_at S.versions o v) at

  versions_are : T.versions ≡ (out x.tail).part
  unfolding after_event
  versions_are =
      ap (λ y. (use_message_taken (without S (event.Use o)) o y).versions) there
      ∙ ap (λ (d : Versioned). d.part) used_is

  abbrev links_of : List Message → Named OpName
  links_of ms = (posted_all (without S (event.Use o)).mail ms).links

  links_are : T.mail.links ≡ links_of (out x.tail).sent
  unfolding after_event
  links_are =
      ap (λ y. (use_message_taken (without S (event.Use o)) o y).mail.links) there
      ∙ ap (λ (d : Versioned). links_of d.sent) used_is

  own_is : look_ups T o ≡ received_all (out x.tail).sent o (record (look_ups S o) { using = None })
  own_is =
      look_ups-use-own m S o v there
      ∙ ap (λ (d : Versioned). received_all d.sent o (record (look_ups S o) { using = None })) used_is

  told_storage : (s : Option StorageName) → links_of (ready_with o v s) ≡ S.mail.links
  told_storage None = refl
  told_storage (Some s) = refl

  told_own : (s : Option StorageName) → x.storage ≡ s
      → look_ups T o ≡ received_all (ready_with o v s) o (record (look_ups S o) { using = None })
      → (look_ups T o ≡ record (look_ups S o) { using = None })
      ⊎ ((s : StorageName) × (x.storage ≡ Some s)
      × (look_ups T o ≡ record (look_ups S o) { using = None; telling = Some (record { version = v; storage = s }) }))
  told_own None e f = inl f
  told_own (Some s) e f =
      inr (
        s,
        e,
        f ∙ (λ i. record (look_ups S o) {
          using = None;
          telling = cond (own_name o i) (Some (record { version = v; storage = s })) (get S.mail.readies o);
        }),
      )

  used_alone_by : x.tail ≡ None → (b : Bool) → x.produced ≡ b → UsedBy S T o v x
  used_alone_by tail true produced =
      let is = ap out tail ∙ ap (used_alone S.versions o v x) produced in
      record {
        version = enlisted x o;
        put = versions_are ∙ ap (λ (d : Versioned). d.part) is;
        like = record { object = refl; storage = refl; produced = refl };
        links = inl (λ q. ap (λ ls. get ls q)
            (links_are ∙ ap (λ (d : Versioned). links_of d.sent) is ∙ told_storage x.storage));
        own = told_own x.storage refl
            (own_is ∙ ap (λ (d : Versioned). received_all d.sent o (record (look_ups S o) { using = None })) is);
      }
  used_alone_by tail false produced =
      let is = ap out tail ∙ ap (used_alone S.versions o v x) produced in
      record {
        version = record (enlisted x o) { head = Some o };
        put = versions_are ∙ ap (λ (d : Versioned). d.part) is;
        like = record { object = refl; storage = refl; produced = refl };
        links = inl (λ q. ap (λ ls. get ls q) (links_are ∙ ap (λ (d : Versioned). links_of d.sent) is));
        own = inl (own_is ∙ ap (λ (d : Versioned). received_all d.sent o (record (look_ups S o) { using = None })) is);
      }

  used_by : (t : Option OpName) → x.tail ≡ t → UsedBy S T o v x
  used_by None tail = used_alone_by tail x.produced refl
  used_by (Some last) tail =
      let is = ap out tail in
      let links = links_are ∙ ap (λ (d : Versioned). links_of d.sent) is in
      record {
        version = enlisted x o;
        put = versions_are ∙ ap (λ (d : Versioned). d.part) is;
        like = record { object = refl; storage = refl; produced = refl };
        links = inr (
          last,
          tail,
          ap (λ ls. get ls last) links ∙ at_inserted name_order S.mail.links last o,
          λ q apart. ap (λ ls. get ls q) links ∙ beside_inserted name_order S.mail.links last o q apart,
        );
        own = inl (own_is ∙ ap (λ (d : Versioned). received_all d.sent o (record (look_ups S o) { using = None })) is);
      }

  -- a use leaves this
  pub used_facts : UsedBy S (after_event m S (event.Use o)) o v x
  used_facts = used_by x.tail refl

-- ---- what is held of versions with one more reader

module _ (g : Arrivals) (S T : State) (o v : OpName) (x : Version) (at : get S.versions v ≡ Some x)
    (u : UsedBy S T o v x) where
  abbrev New : Arrivals
  New = set_arrivals g v (o ∷ g v)

  -- who has come has still come
  pub has_more : (a w : OpName) → Has a (g w) → Has a (New w)
  has_more a w h = elim (decide_key name_order w v) [
    | inl same ↦
        subst (λ w. Has a (New w)) (sym same)
        (subst (Has a) (sym (at_set g v (o ∷ g v))) (inr (subst (λ w. Has a (g w)) same h)))
    | inr apart ↦ subst (Has a) (sym (beside_set g v w (o ∷ g v) apart)) h
  ]

  -- the version under each name is alike
  pub alike_used : (w : OpName) (y : Version) → get S.versions w ≡ Some y
      → (z : Version) × (get T.versions w ≡ Some z) × HeldAlike y z
  alike_used w y e = elim (decide_key name_order w v) [
    | inl same ↦ (
      u.version,
      ap (λ vs. get vs w) u.put ∙ ap (get (put_version S.versions v u.version)) same
          ∙ at_inserted name_order S.versions v u.version,
      subst (λ y. HeldAlike y u.version) (same_Some x y (sym at ∙ ap (get S.versions) (sym same) ∙ e)) u.like,
    )
    | inr apart ↦ (
      y,
      ap (λ vs. get vs w) u.put ∙ beside_inserted name_order S.versions v u.version w apart ∙ e,
      record { object = refl; storage = refl; produced = refl },
    )
  ]

  own_more : (q : OpName) (w : Bool) (s : OpName) → IsOwnOrRead g q w s → IsOwnOrRead New q w s
  own_more q true s e = e
  own_more q false s h = has_more q s h

  -- what was true is true
  pub true_used : (q : OpName) (p : Operand) (s : Source) → IsTrue g S q p s → IsTrue New T q p s
  true_used q p s t =
      let z = alike_used s.version t.version t.there in
      record {
        version = z.0;
        there = z.1;
        object = z.2.object ∙ t.object;
        storage = z.2.storage ∙ t.storage;
        own = own_more q (writes p.mode) s.version t.own;
      }
