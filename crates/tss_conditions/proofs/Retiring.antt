-- What idle, nack, retire and gone find follows from the laws.
use Rattle.std.proofs.Common.{◌≡◌, ℕ, Bool, true, false, Option, Some, None, refl, sym, ap, ◌∙◌, subst, inl, inr, arith}
use Rattle.std.proofs.Common.{true≢false}
use Rattle.std.specs.FinMap.{get}
use Rattle.tss_base.specs.declared.range.Range.{Range}
use Rattle.tss_base.specs.declared.operand.OpName.{OpName}
use Rattle.tss_base.specs.declared.operand.Operand.{Operand}
use Rattle.tss_base.specs.declared.machine.Machine.{Machine}
use Rattle.tss_base.specs.declared.marks.Follow.{Follow}
use Rattle.tss_protocol.specs.Names.{bank_of}
use Rattle.tss_protocol.specs.Mail.{StorageName, IdleContents, GoneContents}
use Rattle.tss_protocol.specs.State.{State, Entry, Version}
use Rattle.std.specs.Prelude.{is_some}
use Rattle.tss_protocol.specs.Buffers.{can_retire_from}
use Rattle.tss_protocol.specs.UnitMachine.{is_enabled, can_retire}
use Rattle.tss_phases.proofs.Tests.{both}
use Rattle.tss_names.proofs.PlainLemmas.{none_from_test}
use Rattle.tss_control.specs.Members.{operand_among, IsVersionOf}
use Rattle.tss_control.specs.Entries.{HasEntryOf, IsLeaving}
use Rattle.tss_control.proofs.rounds.EntryOf.{decide_entry_of}
use Rattle.tss_control.proofs.rounds.EntriesNames.{operand_of_object}
use Rattle.tss_control.proofs.rounds.Facts.{Facts}
use Rattle.tss_conditions.specs.Retiring.{IsIdle, IdleLaw, NackLaw, MayLeave, RetiringLaw, EngineLaw, GoneLaw}
use Rattle.tss_conditions.proofs.Known.{facts_reached}
use Rattle.tss_conditions.proofs.Holding.{held_in_bank}

module _ (m : Machine) (S : State) (facts : Facts m S) where
  open facts use {all, ts, g, ground, control as h}

  -- the object of a version has an entry
  entry_of_version : (v : OpName) (x : Version) → get S.versions v ≡ Some x → HasEntryOf S x.object
  entry_of_version v x there = elim (decide_entry_of S x.object) [
    | inl f ↦ f
    | inr none ↦
        let p = h.chains.opener v x there in
        absurd ((h.entries.absent v p.0 p.1 (λ f. none (subst (HasEntryOf S) p.2 f))).members v
        (inl (x, there, sym p.2)))
  ]

  -- an object that leaves has an entry, which is about to leave
  entry_leaving : (x : Range) (v o : OpName) (p : Operand) → operand_among ts o ≡ Some p → p.object ≡ x
      → IsLeaving S x v
      → (e : Entry) × (get S.entries x.base ≡ Some e) × (e.object ≡ x) × (e.retiring ≡ true)
  entry_leaving x v o p among object leaves = elim (decide_entry_of S x) [
    | inl f ↦ (f.entry, f.there, f.object, by f f.entry.retiring refl)
    | inr none ↦
        absurd ((h.entries.absent o p among (λ f. none (subst (HasEntryOf S) object f))).stays v
        (subst (λ x. IsLeaving S x v) (sym object) leaves))
  ]
    where
      by : (f : HasEntryOf S x) (b : Bool) → f.entry.retiring ≡ b → f.entry.retiring ≡ true
      by f true e = e
      by f false e =
          absurd ((h.entries.live x.base f.entry f.there e).stays v
          (subst (λ x. IsLeaving S x v) (sym f.object) leaves))

  -- ---- idle

  idles : (v : OpName) (c : IdleContents) → get S.mail.idles v ≡ Some c → IsIdle S v c
  idles v c there =
      let a = (ground.asking.idles v c there).0 in
      let f = entry_of_version v a.0 a.1 in
      record {
        asks = record { version = a.0; there = a.1; asked = a.2 };
        base = sym a.3;
        entry = f.entry;
        there = ap (get S.entries) a.3 ∙ f.there;
        object = f.object;
      }

  -- ---- retire

  module _ (v : OpName) (there : get S.mail.retires v ≡ Some tt) (count : ℕ) (x : Version)
      (at : get S.versions v ≡ Some x) (asked : x.asked ≡ Some count) where
    leaving : IsLeaving S x.object v
    leaving = inl (there, (x, at, refl))

    -- it is the only version of its object
    alone : (w : OpName) → IsVersionOf S x.object w → w ≡ v
    alone w of =
        let p = h.chains.opener v x at in
        let e = entry_leaving x.object v v p.0 p.1 p.2 leaving in
        let k = h.entries.retiring x.object.base e.0 e.1 e.3 in
        let own = k.only v (subst (λ x. IsLeaving S x v) (sym e.2) leaving) in
        let last = k.last x (ap (get S.mail.retires) (sym own) ∙ there) (ap (get S.versions) (sym own) ∙ at) in
        last.only w (subst (λ x. IsVersionOf S x w) (sym e.2) of) ∙ sym own

    no_next : (f : Option Follow) → x.successor ≡ f → x.successor ≡ None
    no_next None e = e
    no_next (Some f) e =
        let n = (h.chains.linked v x at).followed f e in
        let same = ap (λ (o : OpName). o.task) (alone f.version (n.version, n.there, n.object)) in
        let younger = n.younger in
        absurd (omega (arith, same, younger))

    stored : (s : Option StorageName) → x.storage ≡ s → (t : StorageName) × (x.storage ≡ Some t)
    stored (Some t) e = (t, e)
    stored None e =
        absurd (true≢false (sym (h.retirement.asked v x count at asked).produced
        ∙ ((h.chains.storages v x at).waits e).0))

    leaves : MayLeave S v
    leaves =
        let s = stored x.storage refl in
        record {
          count = count;
          asks = record { version = x; there = at; asked = asked };
          last = no_next x.successor refl;
          storage = s.0;
          stored = s.1;
        }

  -- ---- gone

  -- the operand of the name of one that is gone is on its object
  gone_operand : (v : OpName) (c : GoneContents) → get S.mail.gones v ≡ Some c
      → (p : Operand) × (operand_among ts v ≡ Some p) × (p.object ≡ c.object)
  gone_operand v c there =
      let x = ground.round.within.named.mail.gones v c there in
      let in_object = (ground.round.within.links v x.0 x.1).mail.gones v c x.1 there in
      let p = operand_of_object ts v x.0 x.1 in
      (p.0, p.1, p.2 ∙ sym in_object.object)

pub idle_of : IdleLaw
idle_of m i S v c r there = idles m S (facts_reached m i S r) v c there

pub nack_of : NackLaw
nack_of m i S v r there =
    let a = ((facts_reached m i S r).ground.asking.nacks v there).0 in
    (a.0, record { version = a.1.0; there = a.1.1; asked = a.1.2 })

pub may_leave : RetiringLaw
may_leave m i S v r there =
    let facts = facts_reached m i S r in
    let a = facts.ground.asking.retires v there in
    leaves m S facts v there a.0 a.1.0 a.1.1 a.1.2

pub engine_idle : EngineLaw
unfolding is_enabled
engine_idle m S v n x on there stored =
    let may = (both (is_some (get S.mail.retires v)) (can_retire m S (get S.versions v)) on).1 in
    none_from_test (get S.copies (bank_of m.sizes x.object))
    (ap (λ s. can_retire_from s (get S.copies (bank_of m.sizes x.object))) (sym stored)
    ∙ ap (can_retire m S) (sym there) ∙ may)

pub gone_of : GoneLaw
gone_of m i S v c r there =
    let facts = facts_reached m i S r in
    let p = gone_operand m S facts v c there in
    record {
      place = (facts.ground.places.gones v c there).0;
      buffer = λ b e.
          held_in_bank m i S r v b p.0 (inr (inr (inl (c, there, e)))) p.1
          ∙ ap (λ x. Some (bank_of m.sizes x)) p.2;
      entry = λ retired.
          entry_leaving m S facts c.object v v p.0 p.1 p.2 (inr (inr (c, there, retired, refl)));
    }
