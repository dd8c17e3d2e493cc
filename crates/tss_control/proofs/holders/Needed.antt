-- A produced version whose readers have all released it is needed by nobody.
use Rattle.std.proofs.Common.{◌≡◌, ◌≢◌, ◌≤◌, Bool, true, false, List, Some, refl, sym, ap, ◌∙◌, subst, inl, inr}
use Rattle.std.proofs.Common.{true≢false}
use Rattle.std.specs.FinMap.{get}
use Rattle.std.proofs.lemmas.Option.{none-some}
use Rattle.tss_base.specs.declared.operand.OpName.{OpName}
use Rattle.tss_base.specs.declared.operand.Mode.{Mode}
use Rattle.tss_base.specs.declared.operand.Mode.TheVariants.{Input, Output, Inout}
use Rattle.tss_base.specs.declared.operand.Operand.{Operand}
use Rattle.tss_base.specs.declared.operand.Task.{Task}
use Rattle.tss_model.specs.Access.{writes}
use Rattle.tss_protocol.specs.Mail.{Source}
use Rattle.tss_protocol.specs.State.{State, Version}
use Rattle.tss_phases.specs.Phase.{Phase, Waiting, Leaving, Promised}
use Rattle.tss_phases.specs.Phase.{Left, phase_of, has_released}
use Rattle.tss_phases.specs.Openers.{holds_version, has_parted, produced_opener, version_opener, opener_by}
use Rattle.tss_control.specs.Members.{operand_among}
use Rattle.tss_control.specs.Readers.{Arrivals, Has}
use Rattle.tss_control.specs.Holders.{IsTrue, IsOwnOrRead}
use Rattle.tss_control.specs.Control.{IsControlled}
use Rattle.tss_control.proofs.rounds.ReadersStates.{no_link_left, all_have_gone}
use Rattle.tss_control.proofs.holders.Fits.{Needs}

-- ---- phases

released_holds : (p : Phase) → has_released p ≡ true → holds_version p ≡ true → ⊥
released_holds Leaving r e = true≢false (sym e)
released_holds Promised r e = true≢false (sym e)
released_holds Left r e = true≢false (sym e)
released_holds other r e = true≢false (sym r)

parted_holds : (p : Phase) → has_parted p ≡ true → holds_version p ≡ true → ⊥
parted_holds Leaving r e = true≢false (sym e)
parted_holds Left r e = true≢false (sym e)
parted_holds other r e = true≢false (sym r)

-- the writer of a produced version has parted
pub writer_parted : (y : Version) (mode : Mode) (p : Phase) → y.produced ≡ true → writes mode ≡ true
    → version_opener y mode p ≡ true → has_parted p ≡ true
writer_parted y mode p produced writer opens = by mode writer (ap (opener_by y mode p) (sym produced) ∙ opens)
  where
    by : (mode : Mode) → writes mode ≡ true → produced_opener mode p ≡ true → has_parted p ≡ true
    by Input w e = absurd (true≢false (sym w))
    by Output w e = e
    by Inout w e = e

module _ (ts : List Task) (g : Arrivals) (S : State) (h : IsControlled ts g S) (v : OpName) (y : Version)
    (there : get S.versions v ≡ Some y) (produced : y.produced ≡ true) (full : y.registered ≤ y.released) where
  -- its readers have gone
  reader_gone : (o : OpName) → Has o (g v) → has_released (phase_of S o) ≡ true
  reader_gone o has = all_have_gone ts (g v) S v y (h.readers.versions v y there) full o has

  -- and its writer
  writer_needs : (p : Operand) → operand_among ts v ≡ Some p → writes p.mode ≡ true
      → Needs (phase_of S v) (get S.mail.links v) → ⊥
  writer_needs p at writer (inl holds) =
      parted_holds (phase_of S v)
      (writer_parted y p.mode (phase_of S v) produced writer (h.holders.openers v y p there at)) holds
  writer_needs p at writer (inr linked) =
      let r = h.holders.records v linked.0 linked.1 in
      none-some linked.0 (sym ((h.holders.links v p r.0 at r.1).writer writer).1 ∙ linked.1)

  reader_needs : (o : OpName) → Has o (g v) → Needs (phase_of S o) (get S.mail.links o) → ⊥
  reader_needs o has (inl holds) = released_holds (phase_of S o) (reader_gone o has) holds
  reader_needs o has (inr linked) =
      no_link_left ts (g v) S v y (h.readers.versions v y there)
      (all_have_gone ts (g v) S v y (h.readers.versions v y there) full) o linked.0 has linked.1

  -- what an operand needs isn't that version
  pub not_needed : (o : OpName) (p : Operand) (s : Source) → operand_among ts o ≡ Some p
      → Needs (phase_of S o) (get S.mail.links o) → IsTrue g S o p s → s.version ≢ v
  not_needed o p s at needs t same = by (writes p.mode) refl (subst (IsOwnOrRead g o (writes p.mode)) same t.own)
    where
      by : (w : Bool) → writes p.mode ≡ w → IsOwnOrRead g o w v → ⊥
      by true writer own =
          writer_needs p (ap (operand_among ts) own ∙ at) writer
          (subst (λ o. Needs (phase_of S o) (get S.mail.links o)) (sym own) needs)
      by false reader has = reader_needs o has needs

  -- no reader waits for it
  pub none_waits : (o : OpName) → Has o (g v) → phase_of S o ≢ Waiting
  none_waits o has e = true≢false (sym (reader_gone o has) ∙ ap has_released e)
