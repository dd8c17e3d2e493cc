-- Where an object has a version, it isn't on its way home: nothing of it is copied.
use Rattle.std.proofs.Common.{◌≡◌, inl, inr, ℕ, Bool, true, false, Some, refl, sym, subst}
use Rattle.std.specs.FinMap.{get}
use Rattle.tss_base.specs.declared.operand.OpName.{OpName}
use Rattle.tss_base.specs.declared.machine.Machine.{Machine}
use Rattle.tss_protocol.specs.State.{State, Version, CopyState}
use Rattle.tss_control.specs.Entries.{HasEntryOf, IsGoingHome}
use Rattle.tss_control.proofs.entries.OfVersions.{entry_of_version}
use Rattle.tss_control.proofs.rounds.Facts.{Facts}

module _ (m : Machine) (S : State) (facts : Facts m S) (v : OpName) (y : Version)
    (there : get S.versions v ≡ Some y) where
  open facts use {control as h}

  entry : HasEntryOf S y.object
  entry = entry_of_version m S facts v y there

  by_entry : (w : OpName) → IsGoingHome S entry.entry.object w → (b : Bool) → entry.entry.retiring ≡ b → ⊥
  by_entry w going false live =
      (h.entries.live y.object.base entry.entry entry.there live).stays w (inr going)
  by_entry w going true retiring =
      let r = h.entries.retiring y.object.base entry.entry entry.there retiring in
      let latest = r.only w (inr going) in
      r.none (subst (IsGoingHome S entry.entry.object) latest going) v (y, there, sym entry.object)

  -- its object isn't going home
  pub not_going_home : (w : OpName) → IsGoingHome S y.object w → ⊥
  not_going_home w going =
      by_entry w (subst (λ x. IsGoingHome S x w) (sym entry.object) going) entry.entry.retiring refl

  -- no bank copies it
  pub not_copied_home : (bank : ℕ) (c : CopyState) → get S.copies bank ≡ Some c → c.object ≡ y.object → ⊥
  not_copied_home bank c e object = not_going_home c.version (inl (bank, c, e, refl, object))
