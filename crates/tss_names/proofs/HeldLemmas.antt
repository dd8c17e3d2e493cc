-- Under each held place there is one holder, and what changes them.
use Rattle.std.proofs.Common.{◌≡◌, ◌≢◌, ℕ, inl, inr, Some, None, refl, sym, ap, ◌∙◌, subst}
use Rattle.std.specs.FinMap.{get, insert, remove}
use Rattle.std.proofs.lemmas.Option.{none-some, same_Some}
use Rattle.tss_base.specs.declared.operand.OpName.{OpName}
use Rattle.tss_base.specs.declared.machine.Sizes.{Sizes}
use Rattle.tss_base.specs.Names.{Named, Numbered}
use Rattle.tss_maps.proofs.Keys.{nat_order, name_order, decide_key}
use Rattle.tss_maps.proofs.Changes.{at_inserted, beside_inserted, from_inserted, at_removed, beside_removed}
use Rattle.tss_maps.proofs.Changes.{from_removed}
use Rattle.tss_protocol.specs.Names.{bank_of}
use Rattle.tss_protocol.specs.Mail.{OpenContents, GoneContents, Mail}
use Rattle.tss_protocol.specs.State.{Version, CopyState}
use Rattle.tss_protocol.specs.Buffers.{new_copy}
use Rattle.tss_names.specs.Held.{IsCopied, HoldsPlaces}
use Rattle.tss_names.proofs.JointLemmas.{IsJoint}
use Rattle.tss_names.proofs.PlainLemmas.{name_apart, still_none}

module _ (sizes : Sizes) (places : Named ℕ) (copies : Numbered CopyState) (vs : Named Version)
    (os : Named OpenContents) (gs : Named GoneContents) (h : HoldsPlaces sizes places copies vs os gs) where
  -- ---- decode

  -- an operand that holds nothing opens a version
  pub held_decoded : (o : OpName) (c : OpenContents) → get vs o ≡ None → get gs o ≡ None → (IsCopied copies o → ⊥)
      → HoldsPlaces sizes (insert places o (bank_of sizes c.operand.object)) copies vs (insert os o c) gs
  held_decoded o c no_version no_gone no_copy =
      let bank = bank_of sizes c.operand.object in
      record {
        held = λ v b e. elim (from_inserted name_order places o bank v b e) [
          | inl here ↦ inl (c, ap (get (insert os o c)) here.0 ∙ at_inserted name_order os o c)
          | inr before ↦ elim (h.held v b before.1) [
            | inl d ↦ inl (d.0, beside_inserted name_order os o c v before.0 ∙ d.1)
            | inr rest ↦ inr rest
          ]
        ];
        opens = λ v d e. elim (from_inserted name_order os o c v d e) [
          | inl here ↦ (
            ap (get (insert places o bank)) here.0
                ∙ at_inserted name_order places o bank
                ∙ ap (λ (d : OpenContents). Some (bank_of sizes d.operand.object)) (sym here.1),
            ap (get vs) here.0 ∙ no_version,
            ap (get gs) here.0 ∙ no_gone,
            (λ k. no_copy (subst (IsCopied copies) here.0 k)),
          )
          | inr before ↦
              let r = h.opens v d before.1 in
              (beside_inserted name_order places o bank v before.0 ∙ r.0, r.1, r.2, r.3)
        ];
        versions = λ v x e.
            let r = h.versions v x e in
            let other = name_apart vs v o x e no_version in (
              beside_inserted name_order places o bank v other ∙ r.0,
              beside_inserted name_order os o c v other ∙ r.1,
              r.2,
              r.3,
            );
        gones = λ v g e.
            let r = h.gones v g e in
            (beside_inserted name_order places o bank v (name_apart gs v o g e no_gone) ∙ r.0, r.1);
        copied = λ b d e.
            let r = h.copied b d e in
            (beside_inserted name_order places o bank d.version (λ same. no_copy (b, d, e, same)) ∙ r.0, r.1);
      }

  -- ---- open

  -- the version is put
  pub held_opened : (o : OpName) (c : OpenContents) → get os o ≡ Some c → (x : Version) → x.object ≡ c.operand.object
      → HoldsPlaces sizes places copies (insert vs o x) (remove os o) gs
  held_opened o c there x object =
      let here = h.opens o c there in
      record {
        held = λ v b e. elim (decide_key name_order v o) [
          | inl same ↦ inr (inl (x, ap (get (insert vs o x)) same ∙ at_inserted name_order vs o x))
          | inr other ↦ elim (h.held v b e) [
            | inl d ↦ inl (d.0, beside_removed name_order os o v other ∙ d.1)
            | inr (inl y) ↦ inr (inl (y.0, beside_inserted name_order vs o x v other ∙ y.1))
            | inr (inr rest) ↦ inr (inr rest)
          ]
        ];
        opens = λ v d e.
            let old = from_removed name_order os o v d e in
            let r = h.opens v d old.1 in
            (r.0, beside_inserted name_order vs o x v old.0 ∙ r.1, r.2, r.3);
        versions = λ v y e. elim (from_inserted name_order vs o x v y e) [
          | inl new ↦ (
            ap (get places) new.0
                ∙ here.0
                ∙ ap (λ r. Some (bank_of sizes r)) (sym object ∙ ap (λ (y : Version). y.object) (sym new.1)),
            ap (get (remove os o)) new.0 ∙ at_removed name_order os o,
            ap (get gs) new.0 ∙ here.2,
            (λ k. here.3 (subst (IsCopied copies) new.0 k)),
          )
          | inr before ↦
              let r = h.versions v y before.1 in (r.0, still_none os o v r.1, r.2, r.3)
        ];
        gones = h.gones;
        copied = h.copied;
      }

  -- ---- a version is written over, or gone

  -- a version of the same object takes its place
  pub held_written : (v : OpName) (x y : Version) → get vs v ≡ Some x → y.object ≡ x.object
      → HoldsPlaces sizes places copies (insert vs v y) os gs
  held_written v x y e object =
      let here = h.versions v x e in
      record {
        held = λ q b f. elim (h.held q b f) [
          | inl d ↦ inl d
          | inr (inl z) ↦ inr (inl (elim (decide_key name_order q v) [
            | inl same ↦ (y, ap (get (insert vs v y)) same ∙ at_inserted name_order vs v y)
            | inr other ↦ (z.0, beside_inserted name_order vs v y q other ∙ z.1)
          ]))
          | inr (inr rest) ↦ inr (inr rest)
        ];
        opens = λ q d f.
            let r = h.opens q d f in
            (r.0, beside_inserted name_order vs v y q (name_apart os q v d f here.1) ∙ r.1, r.2, r.3);
        versions = λ q z f. elim (from_inserted name_order vs v y q z f) [
          | inl new ↦ (
            ap (get places) new.0
                ∙ here.0
                ∙ ap (λ r. Some (bank_of sizes r)) (sym object ∙ ap (λ (y : Version). y.object) (sym new.1)),
            ap (get os) new.0 ∙ here.1,
            ap (get gs) new.0 ∙ here.2,
            (λ k. here.3 (subst (IsCopied copies) new.0 k)),
          )
          | inr before ↦ h.versions q z before.1
        ];
        gones = h.gones;
        copied = h.copied;
      }

  -- a version is gone, with its message under way
  pub held_dies : (v : OpName) (x : Version) (g : GoneContents) → get vs v ≡ Some x → g.object ≡ x.object
      → HoldsPlaces sizes places copies (remove vs v) os (insert gs v g)
  held_dies v x g e object =
      let here = h.versions v x e in
      record {
        held = λ q b f. elim (decide_key name_order q v) [
          | inl same ↦ inr (inr (inl (g, ap (get (insert gs v g)) same ∙ at_inserted name_order gs v g)))
          | inr other ↦ elim (h.held q b f) [
            | inl d ↦ inl d
            | inr (inl z) ↦ inr (inl (z.0, beside_removed name_order vs v q other ∙ z.1))
            | inr (inr (inl k)) ↦ inr (inr (inl (k.0, beside_inserted name_order gs v g q other ∙ k.1)))
            | inr (inr (inr k)) ↦ inr (inr (inr k))
          ]
        ];
        opens = λ q d f.
            let r = h.opens q d f in
            let other = name_apart os q v d f here.1 in
            (r.0, still_none vs v q r.1, beside_inserted name_order gs v g q other ∙ r.2, r.3);
        versions = λ q z f.
            let old = from_removed name_order vs v q z f in
            let r = h.versions q z old.1 in
            (r.0, r.1, beside_inserted name_order gs v g q old.0 ∙ r.2, r.3);
        gones = λ q k f. elim (from_inserted name_order gs v g q k f) [
          | inl new ↦ (
            ap (get places) new.0
                ∙ here.0
                ∙ ap (λ r. Some (bank_of sizes r)) (sym object ∙ ap (λ (k : GoneContents). k.object) (sym new.1)),
            (λ k. here.3 (subst (IsCopied copies) new.0 k)),
          )
          | inr before ↦ h.gones q k before.1
        ];
        copied = h.copied;
      }

  -- ---- retire to a copy, copy, gone

  -- its bank copies it
  pub held_copied : (v : OpName) (x : Version) (n : OpName) → get vs v ≡ Some x
      → get copies (bank_of sizes x.object) ≡ None
      → HoldsPlaces sizes places (insert copies (bank_of sizes x.object) (new_copy v x.object n)) (remove vs v) os gs
  held_copied v x n e idle =
      let here = h.versions v x e in
      let bank = bank_of sizes x.object in
      let c = new_copy v x.object n in
      let not_now : (q : OpName) → q ≢ v → (IsCopied copies q → ⊥) → IsCopied (insert copies bank c) q → ⊥ =
      λ q other none k. elim (from_inserted nat_order copies bank c k.0 k.1 k.2) [
        | inl new ↦ other (sym k.3 ∙ ap (λ (c : CopyState). c.version) new.1)
        | inr before ↦ none (k.0, k.1, before.1, k.3)
      ] in
      record {
        held = λ q b f. elim (decide_key name_order q v) [
          | inl same ↦ inr (inr (inr (bank, c, at_inserted nat_order copies bank c, sym same)))
          | inr other ↦ elim (h.held q b f) [
            | inl d ↦ inl d
            | inr (inl z) ↦ inr (inl (z.0, beside_removed name_order vs v q other ∙ z.1))
            | inr (inr (inl k)) ↦ inr (inr (inl k))
            | inr (inr (inr k)) ↦ inr (inr (inr (
              k.0,
              k.1,
              beside_inserted nat_order copies bank c k.0
                  (λ same. none-some k.1 (sym idle ∙ ap (get copies) (sym same) ∙ k.2))
                  ∙ k.2,
              k.3,
            )))
          ]
        ];
        opens = λ q d f.
            let r = h.opens q d f in
            (r.0, still_none vs v q r.1, r.2, not_now q (name_apart os q v d f here.1) r.3);
        versions = λ q z f.
            let old = from_removed name_order vs v q z f in
            let r = h.versions q z old.1 in
            (r.0, r.1, r.2, not_now q old.0 r.3);
        gones = λ q g f. let r = h.gones q g f in (r.0, not_now q (name_apart gs q v g f here.2) r.1);
        copied = λ b d f. elim (from_inserted nat_order copies bank c b d f) [
          | inl new ↦ (
            ap (λ (d : CopyState). get places d.version) new.1 ∙ here.0 ∙ ap Some (sym new.0),
            ap (λ (d : CopyState). bank_of sizes d.object) new.1 ∙ sym new.0,
          )
          | inr before ↦ h.copied b d before.1
        ];
      }

  -- another piece of a copy
  pub held_moved : (b : ℕ) (c d : CopyState) → get copies b ≡ Some c → d.version ≡ c.version → d.object ≡ c.object
      → HoldsPlaces sizes places (insert copies b d) vs os gs
  held_moved b c d e version object =
      let back : (q : OpName) → IsCopied (insert copies b d) q → IsCopied copies q = λ q k.
      elim (from_inserted nat_order copies b d k.0 k.1 k.2) [
        | inl new ↦ (b, c, e, sym version ∙ ap (λ (c : CopyState). c.version) (sym new.1) ∙ k.3)
        | inr before ↦ (k.0, k.1, before.1, k.3)
      ] in
      record {
        held = λ q a f. elim (h.held q a f) [
          | inl o ↦ inl o
          | inr (inl z) ↦ inr (inl z)
          | inr (inr (inl g)) ↦ inr (inr (inl g))
          | inr (inr (inr k)) ↦ inr (inr (inr (elim (decide_key nat_order k.0 b) [
            | inl same ↦
                let is = same_Some k.1 c (sym k.2 ∙ ap (get copies) same ∙ e) in
                (b, d, at_inserted nat_order copies b d, version ∙ ap (λ (c : CopyState). c.version) (sym is) ∙ k.3)
            | inr other ↦ (k.0, k.1, beside_inserted nat_order copies b d k.0 other ∙ k.2, k.3)
          ])))
        ];
        opens = λ q o f. let r = h.opens q o f in (r.0, r.1, r.2, (λ k. r.3 (back q k)));
        versions = λ q z f. let r = h.versions q z f in (r.0, r.1, r.2, (λ k. r.3 (back q k)));
        gones = λ q g f. let r = h.gones q g f in (r.0, (λ k. r.1 (back q k)));
        copied = λ a k f. elim (from_inserted nat_order copies b d a k f) [
          | inl new ↦
              let r = h.copied b c e in (
                ap (λ (k : CopyState). get places k.version) new.1 ∙ ap (get places) version ∙ r.0
                    ∙ ap Some (sym new.0),
                ap (λ (k : CopyState). bank_of sizes k.object) new.1
                    ∙ ap (bank_of sizes) object
                    ∙ r.1
                    ∙ sym new.0,
              )
          | inr before ↦ h.copied a k before.1
        ];
      }

  -- the last piece of one
  pub held_home : (b : ℕ) (c : CopyState) (g : GoneContents) → get copies b ≡ Some c → g.object ≡ c.object
      → HoldsPlaces sizes places (remove copies b) vs os (insert gs c.version g)
  held_home b c g e object =
      let here = h.copied b c e in
      let back : (q : OpName) → IsCopied (remove copies b) q → IsCopied copies q =
      λ q k. (k.0, k.1, (from_removed nat_order copies b k.0 k.1 k.2).1, k.3) in
      let alone : IsCopied (remove copies b) c.version → ⊥ = λ k.
      let old = from_removed nat_order copies b k.0 k.1 k.2 in
      old.0 (same_Some k.0 b
      (sym (h.copied k.0 k.1 old.1).0 ∙ ap (get places) k.3 ∙ here.0)) in
      let copied_here : IsCopied copies c.version = (b, c, e, refl) in
      record {
        held = λ q a f. elim (decide_key name_order q c.version) [
          | inl same ↦
              inr (inr (inl (g, ap (get (insert gs c.version g)) same ∙ at_inserted name_order gs c.version g)))
          | inr other ↦ elim (h.held q a f) [
            | inl o ↦ inl o
            | inr (inl z) ↦ inr (inl z)
            | inr (inr (inl k)) ↦ inr (inr (inl (k.0, beside_inserted name_order gs c.version g q other ∙ k.1)))
            | inr (inr (inr k)) ↦ inr (inr (inr (
              k.0,
              k.1,
              beside_removed nat_order copies b k.0
                  (λ same. other (sym k.3
                  ∙ ap (λ (c : CopyState). c.version)
                  (same_Some k.1 c (sym k.2 ∙ ap (get copies) same ∙ e))))
                  ∙ k.2,
              k.3,
            )))
          ]
        ];
        opens = λ q o f.
            let r = h.opens q o f in
            let other : q ≢ c.version = λ same. r.3 (subst (IsCopied copies) (sym same) copied_here) in
            (r.0, r.1, beside_inserted name_order gs c.version g q other ∙ r.2, (λ k. r.3 (back q k)));
        versions = λ q z f.
            let r = h.versions q z f in
            let other : q ≢ c.version = λ same. r.3 (subst (IsCopied copies) (sym same) copied_here) in
            (r.0, r.1, beside_inserted name_order gs c.version g q other ∙ r.2, (λ k. r.3 (back q k)));
        gones = λ q k f. elim (from_inserted name_order gs c.version g q k f) [
          | inl new ↦ (
            ap (get places) new.0
                ∙ here.0
                ∙ ap Some (sym here.1)
                ∙ ap (λ r. Some (bank_of sizes r)) (sym object ∙ ap (λ (k : GoneContents). k.object) (sym new.1)),
            (λ k. alone (subst (IsCopied (remove copies b)) new.0 k)),
          )
          | inr before ↦ let r = h.gones q k before.1 in (r.0, (λ k. r.1 (back q k)))
        ];
        copied = λ a k f. h.copied a k (from_removed nat_order copies b a k f).1;
      }

  -- a version is gone, and its place free
  pub held_gone : (v : OpName) (g : GoneContents) → get gs v ≡ Some g
      → HoldsPlaces sizes (remove places v) copies vs os (remove gs v)
  held_gone v g e =
      let here = h.gones v g e in
      record {
        held = λ q b f.
            let old = from_removed name_order places v q b f in
            elim (h.held q b old.1) [
              | inl o ↦ inl o
              | inr (inl z) ↦ inr (inl z)
              | inr (inr (inl k)) ↦ inr (inr (inl (k.0, beside_removed name_order gs v q old.0 ∙ k.1)))
              | inr (inr (inr k)) ↦ inr (inr (inr k))
            ];
        opens = λ q o f.
            let r = h.opens q o f in
            let other : q ≢ v = λ same. none-some g (sym r.2 ∙ ap (get gs) same ∙ e) in
            (beside_removed name_order places v q other ∙ r.0, r.1, still_none gs v q r.2, r.3);
        versions = λ q z f.
            let r = h.versions q z f in
            let other : q ≢ v = λ same. none-some g (sym r.2 ∙ ap (get gs) same ∙ e) in
            (beside_removed name_order places v q other ∙ r.0, r.1, still_none gs v q r.2, r.3);
        gones = λ q k f.
            let old = from_removed name_order gs v q k f in
            let r = h.gones q k old.1 in
            (beside_removed name_order places v q old.0 ∙ r.0, r.1);
        copied = λ b c f.
            let r = h.copied b c f in
            (beside_removed name_order places v c.version (λ same. here.1 (b, c, f, same)) ∙ r.0, r.1);
      }

-- of the versions and the mail
abbrev pub Holding : Sizes → Named ℕ → Numbered CopyState → Named Version → Mail → Type 0
Holding sizes places copies vs m = HoldsPlaces sizes places copies vs m.opens m.gones

-- the changes of versions keep it
pub IsJoint-Holding : (sizes : Sizes) (places : Named ℕ) (copies : Numbered CopyState)
    → IsJoint (Holding sizes places copies)
IsJoint-Holding sizes places copies = record {
  write = λ vs m v x y e asked object h. held_written sizes places copies vs m.opens m.gones h v x y e object;
  dies = λ vs m v x g e object quiet h. held_dies sizes places copies vs m.opens m.gones h v x g e object;
  asks = λ vs m v x e quiet h.
      held_written sizes places copies vs m.opens m.gones h v x (record x { asked = Some x.registered }) e refl;
  ready = λ vs m o s h. h;
  linked = λ vs m o next h. h;
  bye = λ vs m o promised h. h;
}
