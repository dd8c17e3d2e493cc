-- Objects in use are named: those with an entry, those of versions and of operands that aren't decoded, and those that
-- go home. Two of them that share an address are one.
use Rattle.std.proofs.Common.{◌≡◌, inl, inr, ℕ, true, false, Some, sym, ap, subst, ◌∙◌, nat_le, nat_lt}
use Rattle.std.specs.FinMap.{get}
use Rattle.std.proofs.lemmas.Bool.{and_from, le-leb, lt-ltb}
use Rattle.tss_base.specs.declared.range.Range.{Range}
use Rattle.tss_base.specs.declared.operand.OpName.{OpName}
use Rattle.tss_base.specs.declared.operand.Operand.{Operand}
use Rattle.tss_base.specs.declared.machine.Machine.{Machine}
use Rattle.tss_base.specs.Range.{end_of}
use Rattle.tss_model.specs.Memory.{covers}
use Rattle.tss_protocol.specs.State.{State, Entry, Version}
use Rattle.tss_phases.specs.Phase.{phase_of, is_decoded}
use Rattle.tss_phases.specs.Orderly.{AreOrderly}
use Rattle.tss_locality.specs.Rounds.{IsIn, object_in}
use Rattle.tss_locality.proofs.RoundObjects.{one_at_base}
use Rattle.tss_control.specs.Members.{operand_among, IsMember}
use Rattle.tss_control.specs.Entries.{HasEntryOf, IsGoingHome}
use Rattle.tss_control.proofs.rounds.EntryOf.{decide_entry_of}
use Rattle.tss_control.proofs.rounds.EntriesNames.{operand_of_object}
use Rattle.tss_control.proofs.rounds.Facts.{Basis, Facts}
use Rattle.tss_control.proofs.entries.OfVersions.{entry_of_member, entry_of_version}
use Rattle.tss_program_order.proofs.FlatNames.{covers-meet}
use Rattle.tss_values.proofs.Values.{IsInside, IsLive}
use Rattle.tss_values.proofs.UndecodedOperands.{undecoded_at}

-- an address inside is covered
pub inside_covers : (x : Range) (a : ℕ) → IsInside x a → covers x a ≡ true
inside_covers x a h =
    and_from (nat_le x.base a) (nat_lt a (end_of x)) (le-leb x.base a h.0) (lt-ltb a (end_of x) h.1)

module _ (m : Machine) (S : State) (basis : Basis m S) where
  open basis use {ts, ground}

  -- ---- named objects

  -- an object with an entry is named
  pub entry_named : (x : Range) → HasEntryOf S x → IsIn x S.main.epoch
  entry_named x f =
      subst (λ x. IsIn x S.main.epoch) f.object (ground.round.named.entered x.base f.entry f.there)

  -- so is that of an operand that isn't decoded
  pub undecoded_named : AreOrderly S → (o : OpName) (p : Operand) → operand_among ts o ≡ Some p
      → is_decoded (phase_of S o) ≡ false → IsIn p.object S.main.epoch
  undecoded_named orderly o p among early = elim (undecoded_at m S basis orderly o p among early) [
    | inl a ↦ ground.round.named.arriving a.0 a.1 o.place p a.2
    | inr decoding ↦ ground.round.named.decoding o p decoding
  ]

  -- ---- two of them

  -- two that share an address are one
  pub one_covered : (x y : Range) → IsIn x S.main.epoch → IsIn y S.main.epoch → (a : ℕ) → covers x a ≡ true
      → covers y a ≡ true → x ≡ y
  one_covered x y named also a in_x in_y = ground.round.separate.one x y named also (covers-meet x y a in_x in_y)

  -- so are two at one base
  pub one_based : (x y : Range) → IsIn x S.main.epoch → IsIn y S.main.epoch → x.base ≡ y.base → x ≡ y
  one_based x y named also same = one_at_base S.main.epoch ground.round.separate x y named also same

  -- the entry in whose object an address of a named object lies stands at the base of that
  pub entry_inside : (x : Range) → IsIn x S.main.epoch → (a b : ℕ) (e : Entry) → get S.entries b ≡ Some e
      → IsInside e.object a → IsInside x a → get S.entries x.base ≡ Some e
  entry_inside x named a b e at in_e in_x =
      let same = one_covered e.object x (ground.round.named.entered b e at) named a (inside_covers e.object a in_e)
      (inside_covers x a in_x) in
      ap (get S.entries)
      (ap (λ (x : Range). x.base) (sym same) ∙ (ground.round.within.named.entries b e at).1)
      ∙ at

module _ (m : Machine) (S : State) (facts : Facts m S) where
  open facts use {basis, ts, control}

  -- the object of a member is named
  pub member_named : (o : OpName) (p : Operand) → operand_among ts o ≡ Some p → (v : OpName) → IsMember S p.object v
      → IsIn p.object S.main.epoch
  member_named o p among v k = entry_named m S basis p.object (entry_of_member m S facts o p among v k)

  -- that of a version
  pub version_named : (v : OpName) (y : Version) → get S.versions v ≡ Some y → IsIn y.object S.main.epoch
  version_named v y there = entry_named m S basis y.object (entry_of_version m S facts v y there)

  -- and that of an operand that still acts on it
  pub live_named : (o : OpName) (p : Operand) → operand_among ts o ≡ Some p → IsLive S o p.object
      → IsIn p.object S.main.epoch
  live_named o p among (inl early) = undecoded_named m S basis control.orderly o p among early
  live_named o p among (inr (inl member)) = member_named o p among o member
  live_named o p among (inr (inr latest)) =
      entry_named m S basis p.object (record { entry = latest.0; there = latest.1; object = latest.3 })

  -- an object that goes home has an entry, so is named
  pub going_entry : (v : OpName) (x : Range) → object_in ts v ≡ Some x → IsGoingHome S x v → HasEntryOf S x
  going_entry v x named going = elim (decide_entry_of S x) [
    | inl f ↦ f
    | inr none ↦
        let p = operand_of_object ts v x named in
        absurd ((control.entries.absent v p.0 p.1 (λ f. none (subst (HasEntryOf S) p.2 f))).stays v
        (inr (subst (λ x. IsGoingHome S x v) (sym p.2) going)))
  ]

  pub going_named : (v : OpName) (x : Range) → object_in ts v ≡ Some x → IsGoingHome S x v → IsIn x S.main.epoch
  going_named v x named going = entry_named m S basis x (going_entry v x named going)
