-- What a release finds follows from the laws.
use Rattle.std.proofs.Common.{◌≡◌, Bool, true, false, Some, refl, sym, ap, ◌∙◌, subst, arith, true≢false}
use Rattle.std.specs.FinMap.{get}
use Rattle.tss_base.specs.declared.operand.OpName.{OpName}
use Rattle.tss_base.specs.declared.operand.Mode.{Mode}
use Rattle.tss_base.specs.declared.operand.Mode.TheVariants.{Input, Output, Inout}
use Rattle.tss_base.specs.declared.operand.Operand.{Operand}
use Rattle.tss_base.specs.declared.machine.Machine.{Machine}
use Rattle.tss_model.specs.Access.{writes}
use Rattle.tss_protocol.specs.Mail.{ReleaseContents}
use Rattle.tss_protocol.specs.State.{State, Version}
use Rattle.tss_phases.specs.Phase.{Releasing, look_ups, has_released}
use Rattle.tss_phases.specs.Openers.{produced_opener, opener_by, version_opener}
use Rattle.tss_phases.proofs.OrderlyLemmas.{releasing_stands}
use Rattle.tss_control.specs.Holders.{IsOwnOrRead}
use Rattle.tss_control.proofs.holders.Finished.{its_operand}
use Rattle.tss_control.proofs.rounds.Facts.{Facts}
use Rattle.tss_control.proofs.rounds.ReleaseFacts.{Releases, releases_facts, released_fewer}
use Rattle.tss_conditions.specs.Releasing.{IsReleasable, ReleasingLaw}
use Rattle.tss_conditions.proofs.Known.{facts_reached}

-- a writer whose release is under way has an open version
open_by : (y : Version) (mode : Mode) → writes mode ≡ true → version_opener y mode Releasing ≡ true
    → y.produced ≡ false
open_by y mode writer opens = by y.produced refl
  where
    none : (mode : Mode) → writes mode ≡ true → produced_opener mode Releasing ≡ true → ⊥
    none Input w e = true≢false (sym w)
    none Output w e = true≢false (sym e)
    none Inout w e = true≢false (sym e)

    by : (b : Bool) → y.produced ≡ b → y.produced ≡ false
    by false e = e
    by true e = absurd (none mode writer (ap (opener_by y mode Releasing) (sym e) ∙ opens))

module _ (m : Machine) (S : State) (facts : Facts m S) where
  open facts use {ts, g, ground, control as h}

  releases : (o : OpName) (c : ReleaseContents) → get S.mail.releases o ≡ Some c → IsReleasable S o c
  releases o c there =
      let kept = (releasing_stands (look_ups S o) c (h.orderly o) there).1.0.1 in
      record {
        version = k.version;
        there = k.there;
        storage = k.storage;
        stored = k.stored;
        operand = kept.kept;
        kept = kept.there;
        object =
            k.object
            ∙ ap (λ (p : Operand). p.object) (sym (its_operand m S facts o kept.kept k.operand kept.there k.among));
        own = own;
        open_still = λ producer.
            let e = own producer in
            open_by k.version k.operand.mode (sym k.producer ∙ producer)
            (ap (version_opener k.version k.operand.mode) (sym k.phase)
            ∙ h.holders.openers o k.version k.operand (ap (get S.versions) (sym e) ∙ k.there) k.among);
        readers = λ reader.
            let fewer = released_fewer ts g S h.readers c.version o k.version k.there
            (subst (λ b. IsOwnOrRead g o b c.version) (sym k.producer ∙ reader) k.own) (ap has_released k.phase) in
            omega (arith, fewer);
      }
    where
      k : Releases ts g S o c
      k = releases_facts ts g S ground.round h.orderly h.holders o c there

      own : c.producer ≡ true → c.version ≡ o
      own producer = subst (λ b. IsOwnOrRead g o b c.version) (sym k.producer ∙ producer) k.own

pub releasable : ReleasingLaw
releasable m i S o c r there = releases m S (facts_reached m i S r) o c there
