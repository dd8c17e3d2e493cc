-- A version that asks has exactly one message of its asking under way.
use Rattle.std.proofs.Common.{◌≡◌, ◌≢◌, ℕ, suc, inl, inr, List, [], ◌∷◌, Option, Some, None, refl, sym, ap, ◌∙◌, subst}
use Rattle.std.specs.FinMap.{get, insert, remove}
use Rattle.std.proofs.lemmas.Option.{none-some, same_Some}
use Rattle.tss_base.specs.declared.operand.OpName.{OpName}
use Rattle.tss_base.specs.declared.operand.Mode.{Mode}
use Rattle.tss_base.specs.declared.operand.Mode.TheVariants.{Input, Output, Inout}
use Rattle.tss_base.specs.declared.operand.Operand.{Operand}
use Rattle.tss_base.specs.declared.event.Event.TheVariants as event
use Rattle.tss_base.specs.Names.{Named}
use Rattle.tss_maps.proofs.Keys.{name_order, decide_key}
use Rattle.tss_maps.proofs.Changes.{at_inserted, beside_inserted, from_inserted, beside_removed, from_removed}
use Rattle.tss_maps.proofs.Changes.{decide_get}
use Rattle.tss_protocol.specs.Mail.{IdleContents, GoneContents, Message}
use Rattle.tss_protocol.specs.Mail.{Idle, Nack, Retire, Gone, Mail, posted, posted_all, taken}
use Rattle.tss_protocol.specs.State.{Entry, Version}
use Rattle.tss_protocol.specs.Gateway.{decodes_from}
use Rattle.tss_protocol.specs.Renaming.{live_message, decode_message}
use Rattle.tss_protocol.specs.Versions.{put_version, drop_version, refused_once}
use Rattle.tss_names.specs.Asking.{AsksFor, AsksOnce}
use Rattle.tss_protocol.proofs.SentLemmas.{AllSent}
use Rattle.tss_names.proofs.JointLemmas.{IsJoint}

-- of the versions and the mail
abbrev pub Asking : Named Version → Mail → Type 0
Asking vs m = AsksOnce vs m.idles m.nacks m.retires

module _ (vs : Named Version) (m : Mail) (h : Asking vs m) where
  -- ---- changes

  -- a registered version, with one version written over
  still_registered : (v : OpName) (x y : Version) → get vs v ≡ Some x → y.asked ≡ x.asked → y.object ≡ x.object
      → (q : OpName) (z : Version) → get vs q ≡ Some z
      → (w : Version) × (get (insert vs v y) q ≡ Some w) × (w.asked ≡ z.asked) × (w.object ≡ z.object)
  still_registered v x y e asked object q z f = elim (decide_key name_order q v) [
    | inl same ↦
        let is = same_Some x z (sym e ∙ ap (get vs) (sym same) ∙ f) in (
          y,
          ap (get (insert vs v y)) same ∙ at_inserted name_order vs v y,
          asked ∙ ap (λ (x : Version). x.asked) is,
          object ∙ ap (λ (x : Version). x.object) is,
        )
    | inr other ↦ (z, beside_inserted name_order vs v y q other ∙ f, refl, refl)
  ]

  still_asks : (v : OpName) (x y : Version) → get vs v ≡ Some x → y.asked ≡ x.asked → y.object ≡ x.object
      → (q : OpName) (count : ℕ) → AsksFor vs q count → AsksFor (insert vs v y) q count
  still_asks v x y e asked object q count a =
      let w = still_registered v x y e asked object q a.0 a.1 in (w.0, w.1, w.2 ∙ a.2)

  asking_written : (v : OpName) (x y : Version) → get vs v ≡ Some x → y.asked ≡ x.asked → y.object ≡ x.object
      → Asking (put_version vs v y) m
  asking_written v x y e asked object = record {
    idles = λ q i f.
        let r = h.idles q i f in
        let w = still_registered v x y e asked object q r.0.0 r.0.1 in
        ((w.0, w.1, w.2 ∙ r.0.2, r.0.3 ∙ ap (λ o. o.base) (sym w.3)), r.1, r.2);
    nacks = λ q f. let r = h.nacks q f in ((r.0.0, still_asks v x y e asked object q r.0.0 r.0.1), r.1);
    retires = λ q f. let r = h.retires q f in (r.0, still_asks v x y e asked object q r.0 r.1);
    asking = λ q count a. elim (from_inserted name_order vs v y q a.0 a.1) [
      | inl here ↦
          h.asking q count
          (x, ap (get vs) here.0 ∙ e, sym asked ∙ ap (λ (z : Version). z.asked) (sym here.1) ∙ a.2)
      | inr before ↦ h.asking q count (a.0, before.1, a.2)
    ];
  }

  -- a version that doesn't ask
  module _ (v : OpName) (x : Version) (e : get vs v ≡ Some x) (quiet : x.asked ≡ None) where
    asks_not : (q : OpName) (count : ℕ) → AsksFor vs q count → q ≢ v
    asks_not q count a same =
        let is = same_Some x a.0 (sym e ∙ ap (get vs) (sym same) ∙ a.1) in
        none-some count (sym quiet ∙ ap (λ (z : Version). z.asked) is ∙ a.2)

    -- dies
    asks_beside : (q : OpName) (count : ℕ) → AsksFor vs q count → AsksFor (remove vs v) q count
    asks_beside q count a = (a.0, beside_removed name_order vs v q (asks_not q count a) ∙ a.1, a.2)

    asking_dies : (g : GoneContents) → Asking (drop_version vs v) (posted m (Gone v g))
    asking_dies g = record {
      idles = λ q i f.
          let r = h.idles q i f in
          let other = asks_not q i.count (r.0.0, r.0.1, r.0.2) in
          ((r.0.0, beside_removed name_order vs v q other ∙ r.0.1, r.0.2, r.0.3), r.1, r.2);
      nacks = λ q f. let r = h.nacks q f in ((r.0.0, asks_beside q r.0.0 r.0.1), r.1);
      retires = λ q f. let r = h.retires q f in (r.0, asks_beside q r.0 r.1);
      asking = λ q count a. h.asking q count (a.0, (from_removed name_order vs v q a.0 a.1).1, a.2);
    }

    -- or asks
    no_nack : get m.nacks v ≡ None
    no_nack = elim (decide_get m.nacks v) [
      | inl none ↦ none
      | inr there ↦
          let r = h.nacks v there.1 in absurd (asks_not v r.0.0 r.0.1 refl)
    ]

    no_retire : get m.retires v ≡ None
    no_retire = elim (decide_get m.retires v) [
      | inl none ↦ none
      | inr there ↦
          let r = h.retires v there.1 in absurd (asks_not v r.0 r.1 refl)
    ]

    asking_asks : Asking (put_version vs v (record x { asked = Some x.registered }))
        (posted m (Idle v (record { base = x.object.base; count = x.registered })))
    asking_asks =
        let y : Version = record x { asked = Some x.registered } in
        let i : IdleContents = record { base = x.object.base; count = x.registered } in
        let beside : (q : OpName) (count : ℕ) → AsksFor vs q count → AsksFor (insert vs v y) q count =
        λ q count a. (a.0, beside_inserted name_order vs v y q (asks_not q count a) ∙ a.1, a.2) in
        record {
          idles = λ q j f. elim (from_inserted name_order m.idles v i q j f) [
            | inl here ↦
                subst (λ (j : IdleContents). ((x : Version)
                × (get (insert vs v y) q ≡ Some x) × (x.asked ≡ Some j.count) × (j.base ≡ x.object.base))
                × (get m.nacks q ≡ None) × (get m.retires q ≡ None))
                (sym here.1) (
                  (y, ap (get (insert vs v y)) here.0 ∙ at_inserted name_order vs v y, refl, refl),
                  ap (get m.nacks) here.0 ∙ no_nack,
                  ap (get m.retires) here.0 ∙ no_retire,
                )
            | inr before ↦
                let r = h.idles q j before.1 in (
                  (r.0.0, beside_inserted name_order vs v y q before.0 ∙ r.0.1, r.0.2, r.0.3),
                  r.1,
                  r.2,
                )
          ];
          nacks = λ q f. let r = h.nacks q f in ((r.0.0, beside q r.0.0 r.0.1), r.1);
          retires = λ q f. let r = h.retires q f in (r.0, beside q r.0 r.1);
          asking = λ q count a. elim (from_inserted name_order vs v y q a.0 a.1) [
            | inl here ↦ inl (i, ap (get (insert m.idles v i)) here.0 ∙ at_inserted name_order m.idles v i)
            | inr before ↦ elim (h.asking q count (a.0, before.1, a.2)) [
              | inl there ↦ inl (there.0, beside_inserted name_order m.idles v i q before.0 ∙ there.1)
              | inr answer ↦ inr answer
            ]
          ];
        }

-- the changes of versions keep it
pub IsJoint-Asking : IsJoint Asking
IsJoint-Asking = record {
  write = λ vs m v x y e asked object h. asking_written vs m h v x y e asked object;
  dies = λ vs m v x g e object quiet h. asking_dies vs m h v x e quiet g;
  asks = λ vs m v x e quiet h. asking_asks vs m h v x e quiet;
  ready = λ vs m o s h. h;
  linked = λ vs m o next h. h;
  bye = λ vs m o promised h. h;
}

-- ---- messages that leave it alone

-- not of a version that asks
abbrev pub IsAside : Message → Type 0
IsAside (Idle v i) = ⊥
IsAside (Nack v) = ⊥
IsAside (Retire v) = ⊥
IsAside other = Unit {0}

asking_posted : (vs : Named Version) (m : Mail) (x : Message) → IsAside x → Asking vs m → Asking vs (posted m x)
asking_posted vs m (Idle v i) aside h = absurd aside
asking_posted vs m (Nack v) aside h = absurd aside
asking_posted vs m (Retire v) aside h = absurd aside
asking_posted vs m other aside h = h

-- so do more of them
pub asking_posted_all : (vs : Named Version) (m : Mail) (xs : List Message) → AllSent IsAside xs → Asking vs m
    → Asking vs (posted_all m xs)
asking_posted_all vs m [] aside h = h
asking_posted_all vs m (x ∷ xs) aside h =
    asking_posted_all vs (posted m x) xs aside.1 (asking_posted vs m x aside.0 h)

-- decodes are such messages
pub decodes_aside : (n place : ℕ) (os : List Operand) → AllSent IsAside (decodes_from n place os)
decodes_aside n place [] = tt
decodes_aside n place (o ∷ os) = (tt, decodes_aside n (suc place) os)

live_aside : (o : OpName) (operand : Operand) (e : Entry) (mode : Mode) → IsAside (live_message o operand e mode)
live_aside o operand e Input = tt
live_aside o operand e Output = tt
live_aside o operand e Inout = tt

-- and so is the first that decode sends
pub decode_aside : (o : OpName) (operand : Operand) (e : Option Entry) → IsAside (decode_message o operand e)
decode_aside o operand None = tt
decode_aside o operand (Some e) = live_aside o operand e operand.mode

-- ---- open, idle, nack, retire

module _ (vs : Named Version) (m : Mail) (h : Asking vs m) (v : OpName) where
  -- a new version doesn't ask
  pub asking_new : (x : Version) → get vs v ≡ None → x.asked ≡ None → Asking (put_version vs v x) m
  asking_new x none quiet =
      let beside : (q : OpName) (z : Version) → get vs q ≡ Some z → get (insert vs v x) q ≡ Some z = λ q z e.
      beside_inserted name_order vs v x q (λ same. none-some z (sym none ∙ ap (get vs) (sym same) ∙ e)) ∙ e in
      record {
        idles = λ q i f.
            let r = h.idles q i f in ((r.0.0, beside q r.0.0 r.0.1, r.0.2, r.0.3), r.1, r.2);
        nacks = λ q f. let r = h.nacks q f in ((r.0.0, (r.0.1.0, beside q r.0.1.0 r.0.1.1, r.0.1.2)), r.1);
        retires = λ q f. let r = h.retires q f in (r.0, (r.1.0, beside q r.1.0 r.1.1, r.1.2));
        asking = λ q count a. elim (from_inserted name_order vs v x q a.0 a.1) [
          | inl here ↦
              absurd (none-some count (sym quiet ∙ ap (λ (z : Version). z.asked) (sym here.1) ∙ a.2))
          | inr before ↦ h.asking q count (a.0, before.1, a.2)
        ];
      }

  -- it may not retire
  pub asking_nacked : (i : IdleContents) → get m.idles v ≡ Some i → Asking vs (posted (taken m (event.Idle v)) (Nack v))
  asking_nacked i e =
      let here = h.idles v i e in
      record {
        idles = λ q j f.
            let old = from_removed name_order m.idles v q j f in
            let r = h.idles q j old.1 in
            (r.0, beside_inserted name_order m.nacks v tt q old.0 ∙ r.1, r.2);
        nacks = λ q f. elim (from_inserted name_order m.nacks v tt q tt f) [
          | inl same ↦
              subst (λ q. ((count : ℕ) × AsksFor vs q count) × (get m.retires q ≡ None)) (sym same.0)
              ((i.count, (here.0.0, here.0.1, here.0.2)), here.2)
          | inr before ↦ h.nacks q before.1
        ];
        retires = h.retires;
        asking = λ q count a. elim (decide_key name_order q v) [
          | inl same ↦
              inr (inl (ap (get (insert m.nacks v tt)) same ∙ at_inserted name_order m.nacks v tt))
          | inr other ↦ elim (h.asking q count a) [
            | inl there ↦ inl (there.0, beside_removed name_order m.idles v q other ∙ there.1)
            | inr (inl there) ↦ inr (inl (beside_inserted name_order m.nacks v tt q other ∙ there))
            | inr (inr there) ↦ inr (inr there)
          ]
        ];
      }

  -- it may retire
  pub asking_granted : (i : IdleContents) → get m.idles v ≡ Some i
      → Asking vs (posted (taken m (event.Idle v)) (Retire v))
  asking_granted i e =
      let here = h.idles v i e in
      record {
        idles = λ q j f.
            let old = from_removed name_order m.idles v q j f in
            let r = h.idles q j old.1 in
            (r.0, r.1, beside_inserted name_order m.retires v tt q old.0 ∙ r.2);
        nacks = λ q f.
            let r = h.nacks q f in
            let other : q ≢ v = λ same. none-some tt (sym here.1 ∙ ap (get m.nacks) (sym same) ∙ f) in
            (r.0, beside_inserted name_order m.retires v tt q other ∙ r.1);
        retires = λ q f. elim (from_inserted name_order m.retires v tt q tt f) [
          | inl same ↦
              subst (λ q. (count : ℕ) × AsksFor vs q count) (sym same.0)
              (i.count, (here.0.0, here.0.1, here.0.2))
          | inr before ↦ h.retires q before.1
        ];
        asking = λ q count a. elim (decide_key name_order q v) [
          | inl same ↦
              inr (inr (ap (get (insert m.retires v tt)) same ∙ at_inserted name_order m.retires v tt))
          | inr other ↦ elim (h.asking q count a) [
            | inl there ↦ inl (there.0, beside_removed name_order m.idles v q other ∙ there.1)
            | inr (inl there) ↦ inr (inl there)
            | inr (inr there) ↦ inr (inr (beside_inserted name_order m.retires v tt q other ∙ there))
          ]
        ];
      }

  -- a version with a nack asks no more
  pub asking_refused : (x : Version) → get m.nacks v ≡ Some tt
      → Asking (put_version vs v (refused_once x)) (taken m (event.Nack v))
  asking_refused x e =
      let y = refused_once x in
      let beside : (q : OpName) → q ≢ v → (z : Version) → get vs q ≡ Some z → get (insert vs v y) q ≡ Some z =
      λ q other z f. beside_inserted name_order vs v y q other ∙ f in
      record {
        idles = λ q i f.
            let r = h.idles q i f in
            let other : q ≢ v = λ same. none-some tt (sym r.1 ∙ ap (get m.nacks) same ∙ e) in (
              (r.0.0, beside q other r.0.0 r.0.1, r.0.2, r.0.3),
              beside_removed name_order m.nacks v q other ∙ r.1,
              r.2,
            );
        nacks = λ q f.
            let old = from_removed name_order m.nacks v q tt f in
            let r = h.nacks q old.1 in
            ((r.0.0, (r.0.1.0, beside q old.0 r.0.1.0 r.0.1.1, r.0.1.2)), r.1);
        retires = λ q f.
            let r = h.retires q f in
            let other : q ≢ v = λ same.
            none-some tt (sym (h.nacks v e).1 ∙ ap (get m.retires) (sym same) ∙ f) in
            (r.0, (r.1.0, beside q other r.1.0 r.1.1, r.1.2));
        asking = λ q count a. elim (from_inserted name_order vs v y q a.0 a.1) [
          | inl here ↦ absurd (none-some count (ap (λ (z : Version). z.asked) (sym here.1) ∙ a.2))
          | inr before ↦ elim (h.asking q count (a.0, before.1, a.2)) [
            | inl there ↦ inl there
            | inr (inl there) ↦ inr (inl (beside_removed name_order m.nacks v q before.0 ∙ there))
            | inr (inr there) ↦ inr (inr there)
          ]
        ];
      }

  -- a version that may retire is dropped
  pub asking_retired : get m.retires v ≡ Some tt → Asking (drop_version vs v) (taken m (event.Retire v))
  asking_retired e =
      let beside : (q : OpName) → q ≢ v → (z : Version) → get vs q ≡ Some z → get (remove vs v) q ≡ Some z =
      λ q other z f. beside_removed name_order vs v q other ∙ f in
      let apart : (q : OpName) → get m.retires q ≡ None → q ≢ v =
      λ q none same. none-some tt (sym none ∙ ap (get m.retires) same ∙ e) in
      record {
        idles = λ q i f.
            let r = h.idles q i f in
            let other = apart q r.2 in (
              (r.0.0, beside q other r.0.0 r.0.1, r.0.2, r.0.3),
              r.1,
              beside_removed name_order m.retires v q other ∙ r.2,
            );
        nacks = λ q f.
            let r = h.nacks q f in
            let other = apart q r.1 in (
              (r.0.0, (r.0.1.0, beside q other r.0.1.0 r.0.1.1, r.0.1.2)),
              beside_removed name_order m.retires v q other ∙ r.1,
            );
        retires = λ q f.
            let old = from_removed name_order m.retires v q tt f in
            let r = h.retires q old.1 in
            (r.0, (r.1.0, beside q old.0 r.1.0 r.1.1, r.1.2));
        asking = λ q count a.
            let old = from_removed name_order vs v q a.0 a.1 in
            elim (h.asking q count (a.0, old.1, a.2)) [
              | inl there ↦ inl there
              | inr (inl there) ↦ inr (inl there)
              | inr (inr there) ↦ inr (inr (beside_removed name_order m.retires v q old.0 ∙ there))
            ];
      }
