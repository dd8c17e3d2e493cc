-- Which buffers are set: those of produced versions, and of operands that let go. A start sets those of its outputs.
use Rattle.std.proofs.Common.{◌≡◌, ◌⊎◌, inl, inr, Bool, true, false, Option, Some, None, refl, sym, ap, subst, ◌∙◌}
use Rattle.std.specs.Prelude.{slice_get, option_map}
use Rattle.std.specs.FinMap.{get}
use Rattle.std.proofs.lemmas.Option.{same_Some, slice_get-map}
use Rattle.tss_base.specs.declared.operand.OpName.{OpName}
use Rattle.tss_base.specs.declared.operand.Mode.{Mode}
use Rattle.tss_base.specs.declared.operand.Mode.TheVariants.{Input, Output, Inout}
use Rattle.tss_base.specs.declared.operand.Operand.{Operand}
use Rattle.tss_base.specs.declared.machine.Machine.{Machine}
use Rattle.tss_base.specs.declared.marks.Stage.TheVariants as stage
use Rattle.tss_model.specs.Access.{operands_of, reads, writes}
use Rattle.tss_protocol.specs.Mail.{Source, Buffer}
use Rattle.tss_protocol.specs.State.{State, OperandState, Flying, Version}
use Rattle.tss_protocol.specs.Stations.{storage_of, storages_of}
use Rattle.tss_phases.specs.Phase.{Phase, Told, Ready, Releasing, Leaving}
use Rattle.tss_phases.specs.Phase.{Left, phase_of, look_ups}
use Rattle.tss_phases.specs.Openers.{holds_version, has_parted, version_opener, opener_by, open_opener}
use Rattle.tss_phases.specs.Alone.{HasRecord}
use Rattle.tss_phases.specs.Orderly.{FitsPhase}
use Rattle.tss_phases.proofs.Records.{operand_in}
use Rattle.tss_control.specs.Members.{operand_among}
use Rattle.tss_control.specs.Runners.{is_late}
use Rattle.tss_control.specs.Holders.{IsOwnOrRead, IsTrue}
use Rattle.tss_values.proofs.Values.{HasBegun, IsSet}
use Rattle.tss_names.proofs.UnreadyTasks.{unready}
use Rattle.tss_control.proofs.rounds.Facts.{Facts}

-- an element of a mapped list
from_mapped : {X Y : Type 0} (f : X → Y) (o : Option X) (y : Y) → option_map f o ≡ Some y → (x : X) × (o ≡ Some x)
from_mapped f None y e = absurd (cc)
from_mapped f (Some x) y e = (x, refl)

parted_late : (p : Phase) → has_parted p ≡ true → is_late p ≡ true
parted_late Leaving e = refl
parted_late Left e = refl
parted_late other e = absurd (cc)

module _ (m : Machine) (S : State) (facts : Facts m S) where
  open facts use {ts, g, ground, control}

  -- ---- records

  -- the operand of a name in its task, where that is in flight
  pub place_of : (v : OpName) (p : Operand) (x : Flying) → operand_among ts v ≡ Some p → get S.flight v.task ≡ Some x
      → slice_get (operands_of x.task) v.place ≡ Some p
  place_of v p x among flies =
      let of = ground.known.operands v p among in
      let flying = ground.numbers.flight v.task x flies in
      let task = same_Some of.task x.task (sym of.spawned ∙ flying.task) in
      ap (λ t. slice_get (operands_of t) v.place) (sym task) ∙ of.place

  -- and its record
  record_at : (v : OpName) (p : Operand) (x : Flying) → operand_among ts v ≡ Some p → get S.flight v.task ≡ Some x
      → (r : OperandState) × (slice_get x.operands v.place ≡ Some r)
  record_at v p x among flies =
      let flying = ground.numbers.flight v.task x flies in
      from_mapped (λ (r : OperandState). r.operand) (slice_get x.operands v.place) p
      (sym (slice_get-map (λ (r : OperandState). r.operand) x.operands v.place)
      ∙ ap (λ rs. slice_get rs v.place) flying.operands ∙ place_of v p x among flies)

  -- ---- which are set

  -- the task of an operand that lets go has begun
  pub begun_late : (v : OpName) (p : Operand) → operand_among ts v ≡ Some p → is_late (phase_of S v) ≡ true
      → HasBegun S v.task
  begun_late v p among late x flies =
      let r = record_at v p x among flies in
      let done = control.holders.runners.late v r.0 (operand_in S.flight v x flies ∙ r.1) late in
      inr (ap (λ (x : Flying). x.stage) (same_Some x done.0 (sym flies ∙ done.1)) ∙ done.2)

  set_by : (v : OpName) (y : Version) (p : Operand) → operand_among ts v ≡ Some p → (mode : Mode) → p.mode ≡ mode
      → opener_by y mode (phase_of S v) true ≡ true → IsSet ts S v
  set_by v y p among Input e opener = inl (p, among, ap reads e)
  set_by v y p among Output e opener = inr (begun_late v p among (parted_late (phase_of S v) opener))
  set_by v y p among Inout e opener = inl (p, among, ap reads e)

  -- a produced version is
  pub produced_set : (v : OpName) (y : Version) → get S.versions v ≡ Some y → y.produced ≡ true → IsSet ts S v
  produced_set v y e made =
      let p = control.chains.opener v y e in
      set_by v y p.0 p.1 (p.0).mode refl
      (ap (opener_by y (p.0).mode (phase_of S v)) (sym made) ∙ control.holders.openers v y p.0 e p.1)

  -- ---- a start

  -- a task that is queued hasn't begun
  not_begun : (v : OpName) (x : Flying) → get S.flight v.task ≡ Some x → x.stage ≡ stage.Queued → HasBegun S v.task → ⊥
  not_begun v x flies queued begun = by (begun x flies)
    where
      by : (x.stage ≡ stage.Running) ⊎ (x.stage ≡ stage.Finished) → ⊥
      by (inl e) = cc
      by (inr e) = cc

  -- nor has it an operand that isn't ready
  not_untold : (v : OpName) (x : Flying) → get S.flight v.task ≡ Some x → x.stage ≡ stage.Queued
      → HasRecord (look_ups S v) None → ⊥
  not_untold v x flies queued h =
      let at = sym (operand_in S.flight v x flies) ∙ h.there in
      let waits = (ground.stages.waiting v.task x flies).1 (unready x.operands v.place h.kept at h.told) in
      apart waits
    where
      apart : x.stage ≡ stage.Waiting → ⊥
      apart e = cc

  -- what an output was told, which holds its version
  module _ (v : OpName) (y : Version) (p : Operand) (b : OpName) (x : Flying) (there : get S.versions v ≡ Some y)
      (among : operand_among ts v ≡ Some p) (output : p.mode ≡ Output) (stored : y.storage ≡ Some (Buffer b))
      (flies : get S.flight v.task ≡ Some x) (queued : x.stage ≡ stage.Queued) where
    own_storage : (s : Source) → IsTrue g S v p s → s.storage ≡ Buffer b
    own_storage s t =
        let own = subst (λ w. IsOwnOrRead g v w s.version) (ap writes output) t.own in
        let same = same_Some t.version y (sym t.there ∙ ap (get S.versions) own ∙ there) in
        same_Some s.storage (Buffer b)
        (sym t.storage ∙ ap (λ (z : Version). z.storage) same ∙ stored)

    told_storage : (s : Source) → HasRecord (look_ups S v) (Some s)
        → (phase_of S v ≡ Ready) ⊎ (phase_of S v ≡ Releasing)
        → slice_get (storages_of x) v.place ≡ Some (Buffer b)
    told_storage s h phase =
        let t = control.holders.ready v p h.kept s among h.there h.told phase in
        slice_get-map (λ (r : OperandState). storage_of r.source) x.operands v.place
        ∙ ap (option_map (λ (r : OperandState). storage_of r.source)) (sym (operand_in S.flight v x flies) ∙ h.there)
        ∙ ap (λ z. Some (storage_of z)) h.told
        ∙ ap Some (own_storage s t)

    by_phase : (k : Phase) → phase_of S v ≡ k → FitsPhase k (look_ups S v) → holds_version k ≡ true
        → slice_get (storages_of x) v.place ≡ Some (Buffer b)
    by_phase Told e fits holds = absurd (not_untold v x flies queued fits.0)
    by_phase Ready e fits holds = told_storage fits.0.0 fits.0.1 (inl e)
    by_phase Releasing e fits holds = told_storage fits.0.0 fits.0.1 (inr e)
    by_phase other e fits holds = absurd (cc)

    by_produced : (made : Bool) → y.produced ≡ made → opener_by y Output (phase_of S v) made ≡ true
        → slice_get (storages_of x) v.place ≡ Some (Buffer b)
    by_produced true e opener =
        absurd (not_begun v x flies queued (begun_late v p among (parted_late (phase_of S v) opener)))
    by_produced false e opener =
        by_phase (phase_of S v) refl (control.orderly v).fits
        (ap (λ s. open_opener s (phase_of S v)) (sym stored) ∙ opener)

    -- an output of a queued task was told the buffer of its version
    pub queued_storage : slice_get (storages_of x) v.place ≡ Some (Buffer b)
    queued_storage =
        by_produced y.produced refl
        (ap (λ mode. version_opener y mode (phase_of S v)) (sym output) ∙ control.holders.openers v y p there among)
