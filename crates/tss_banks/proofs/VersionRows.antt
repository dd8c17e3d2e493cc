-- The rows of versioning on all banks' versions are the rows in their own banks.
use Rattle.std.proofs.Common.{◌≡◌, ℕ, ◌<◌, List, length, Option, Some, None, is_some, refl, sym, ap, ◌∙◌, inl, inr}
use Rattle.std.specs.FinMap.{empty, get}
use Rattle.tss_base.specs.declared.range.Range.{Range}
use Rattle.tss_base.specs.declared.operand.OpName.{OpName}
use Rattle.tss_base.specs.declared.marks.Follow.{Follow}
use Rattle.tss_base.specs.declared.machine.Sizes.{Sizes}
use Rattle.tss_base.specs.Names.{Named}
use Rattle.tss_maps.proofs.Keys.{name_order}
use Rattle.tss_maps.proofs.Changes.{decide_get}
use Rattle.tss_protocol.specs.Names.{bank_of}
use Rattle.tss_protocol.specs.Mail.{OpenContents, ReleaseContents}
use Rattle.tss_protocol.specs.State.{Version}
use Rattle.tss_protocol.specs.Versions.{Versioned, unchanged, after_open, is_followable, can_open, can_use, after_use}
use Rattle.tss_protocol.specs.Versions.{after_release, after_nack, after_retire}
use Rattle.tss_banks.specs.Joined.{bank, joined, IsInNoOther}
use Rattle.tss_banks.specs.Versions.{AreAlike, AreRowsAlike, VersionsInBanks, LinksIn, LinksWithinObjects, IsRowOf}
use Rattle.tss_banks.proofs.JoinedLemmas.{in_no_empty, apart_empties, bank_set, alone_set, alone_there}
use Rattle.tss_banks.proofs.JoinedLemmas.{joined_somewhere, get-joined, joined_there, decide_alone, joined_set_is}
use Rattle.tss_banks.proofs.JoinedLemmas.{each_set, apart_set}
use Rattle.tss_banks.proofs.AlikeChanges.{alike_at_first}
use Rattle.tss_banks.proofs.AlikeRows.{alike_open, alike_use, alike_release, alike_nack, alike_retire}

-- banks without a version
pub versions_at_first : (sizes : Sizes) (ms : List (Named Version)) → ((i : ℕ) → bank ms i ≡ empty)
    → VersionsInBanks sizes ms
versions_at_first sizes ms none = record {
  apart = apart_empties ms none;
  own = λ b v x there. absurd (in_no_empty ms none b v x there);
}

module _ (sizes : Sizes) (ms : List (Named Version)) (s : VersionsInBanks sizes ms) where
  -- a registered version is in the bank of its object
  pub version_in_bank : (v : OpName) (x : Version) → get (joined ms) v ≡ Some x
      → get (bank ms (bank_of sizes x.object)) v ≡ Some x
  version_in_bank v x there =
      let t = joined_somewhere name_order ms v x there in
      ap (λ i. get (bank ms i) v) (s.own t.0 v x t.1) ∙ t.1

  -- a version of the same object as one of a bank is in no other bank
  same_object_alone : (b : ℕ) (x : Version) (q : OpName) → bank_of sizes x.object ≡ b
      → ((y : Version) → get (joined ms) q ≡ Some y → y.object ≡ x.object) → IsInNoOther ms b q
  same_object_alone b x q of_bank same i other = elim (decide_get (bank ms i) q) [
    | inl none ↦ none
    | inr there ↦
        let y = there.0 in
        absurd (other
        (sym (s.own i q y there.1)
        ∙ ap (bank_of sizes) (same y (joined_there name_order ms s.apart i q y there.1))
        ∙ of_bank))
  ]

  -- links that stay within objects stay within banks
  pub links_in_bank : LinksWithinObjects (joined ms) → (b : ℕ) → LinksIn ms b
  links_in_bank within b v x there =
      let at = joined_there name_order ms s.apart b v x there in
      record {
        predecessor = λ p to.
            same_object_alone b x p (s.own b v x there) (λ y e. within.predecessor v p x y at to e);
        successor = λ f to.
            same_object_alone b x f.version (s.own b v x there) (λ y e. within.successor v f x y at to e);
      }

  module _ (b : ℕ) (within : b < length ms) (links : LinksIn ms b) where
    -- the names that are in no other bank, and the objects of this one
    abbrev OwnName : OpName → Type 0
    OwnName q = IsInNoOther ms b q

    abbrev OwnObject : Range → Type 0
    OwnObject x = bank_of sizes x ≡ b

    alike_before : AreAlike OwnName OwnObject (joined ms) (bank ms b) (joined ms) (bank ms b)
    alike_before =
        alike_at_first OwnName OwnObject (joined ms) (bank ms b) (λ q only. get-joined name_order ms b q only)
        (λ q x only there. record {
          object = s.own b q x there;
          predecessor = (links q x there).predecessor;
          successor = (links q x there).successor;
        })

    module _ (d e : Versioned) (r : AreRowsAlike OwnName OwnObject (joined ms) (bank ms b) d e) where
      left_alone : (q : OpName) (x : Version) → get e.part q ≡ Some x → IsInNoOther ms b q
      left_alone q x there = elim (decide_alone name_order ms s.apart b q) [
        | inl only ↦ only
        | inr out ↦ alone_there ms s.apart b q x (sym (r.part.beyond_own q out) ∙ there)
      ]

      row_of : IsRowOf sizes ms b d e
      row_of = record {
        part =
            joined_set_is name_order ms b within s.apart e.part d.part r.part.same
            (λ q out. (r.part.beyond_own q out, r.part.beyond_all q out));
        sent = r.sent;
        banks = record {
          apart = apart_set ms b within s.apart e.part left_alone;
          own = each_set ms b within (λ i q x. bank_of sizes x.object ≡ i) e.part s.own
              (λ q x there. (r.part.of_kind q x (left_alone q x there) there).object);
        };
        links = λ q x there.
            let at = ap (λ m. get m q) (sym (bank_set ms b e.part within)) ∙ there in
            let kind = r.part.of_kind q x (left_alone q x at) at in
            record {
              predecessor = λ p to. alone_set ms b e.part p (kind.predecessor p to);
              successor = λ f to. alone_set ms b e.part f.version (kind.successor f to);
            };
      }

    -- an open of an object of the bank, under a name of no other bank, behind a version of no other bank
    pub open_in_bank : (o : OpName) (opening : OpenContents) → IsInNoOther ms b o
        → bank_of sizes opening.operand.object ≡ b
        → ((f : Follow) → opening.follows ≡ Some f → IsInNoOther ms b f.version)
        → IsRowOf sizes ms b (after_open (joined ms) o opening) (after_open (bank ms b) o opening)
    open_in_bank o opening new of_bank before =
        row_of (after_open (joined ms) o opening) (after_open (bank ms b) o opening)
        (alike_open OwnName OwnObject (joined ms) (bank ms b) (joined ms) (bank ms b) alike_before o opening new of_bank
        before)

    -- a use of a version of no other bank
    pub use_in_bank : (o v : OpName) → IsInNoOther ms b v
        → IsRowOf sizes ms b (after_use (joined ms) o v) (after_use (bank ms b) o v)
    use_in_bank o v only =
        row_of (after_use (joined ms) o v) (after_use (bank ms b) o v)
        (alike_use OwnName OwnObject (joined ms) (bank ms b) (joined ms) (bank ms b) alike_before o v only)

    -- a release of one
    pub release_in_bank : (o : OpName) (r : ReleaseContents) → IsInNoOther ms b r.version
        → IsRowOf sizes ms b (after_release (joined ms) o r) (after_release (bank ms b) o r)
    release_in_bank o r only =
        row_of (after_release (joined ms) o r) (after_release (bank ms b) o r)
        (alike_release OwnName OwnObject (joined ms) (bank ms b) (joined ms) (bank ms b) alike_before o r only)

    -- a nack of one
    pub nack_in_bank : (v : OpName) → IsInNoOther ms b v
        → IsRowOf sizes ms b (after_nack (joined ms) v) (after_nack (bank ms b) v)
    nack_in_bank v only =
        row_of (after_nack (joined ms) v) (after_nack (bank ms b) v)
        (alike_nack OwnName OwnObject (joined ms) (bank ms b) (joined ms) (bank ms b) alike_before v only)

    -- its retirement, which sends nothing
    pub retire_in_bank : (v : OpName) → IsInNoOther ms b v
        → IsRowOf sizes ms b (unchanged (after_retire (joined ms) v)) (unchanged (after_retire (bank ms b) v))
    retire_in_bank v only =
        row_of (unchanged (after_retire (joined ms) v)) (unchanged (after_retire (bank ms b) v)) (record {
          part = alike_retire OwnName OwnObject (joined ms) (bank ms b) (joined ms) (bank ms b) alike_before v only;
          sent = refl;
        })

-- ---- what may happen

module _ (ms : List (Named Version)) (b : ℕ) where
  -- a version of no other bank is registered where it is in the bank
  can_use_in_bank : (v : OpName) → IsInNoOther ms b v → can_use (joined ms) v ≡ can_use (bank ms b) v
  can_use_in_bank v only = ap is_some (get-joined name_order ms b v only)

  followable_in_bank : (f : Option Follow) → ((g : Follow) → f ≡ Some g → IsInNoOther ms b g.version)
      → is_followable (joined ms) f ≡ is_followable (bank ms b) f
  followable_in_bank None before = refl
  followable_in_bank (Some f) before = can_use_in_bank f.version (before f refl)

  -- an open may happen where it may in the bank
  pub can_open_in_bank : (opening : OpenContents)
      → ((f : Follow) → opening.follows ≡ Some f → IsInNoOther ms b f.version)
      → can_open (joined ms) opening ≡ can_open (bank ms b) opening
  can_open_in_bank opening before = followable_in_bank opening.follows before
