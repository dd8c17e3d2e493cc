-- What the operands of a task that is queued or runs hold: each a registered version with the storage that it was told.
-- What one of them writes lies beside all other versions.
use Rattle.std.proofs.Common.{◌≡◌, ◌≢◌, inl, ℕ, Bool, true, false, List, Option, Some, None, refl, sym, ap, ◌∙◌, subst}
use Rattle.std.proofs.Common.{true≢false}
use Rattle.std.specs.Prelude.{slice_get, option_map}
use Rattle.std.specs.FinMap.{get}
use Rattle.std.proofs.lemmas.Bool.{both_ways, false_from_ne_true}
use Rattle.std.proofs.lemmas.Option.{none-some, same_Some, slice_get-map}
use Rattle.tss_base.specs.declared.operand.OpName.{OpName}
use Rattle.tss_base.specs.declared.operand.Operand.{Operand}
use Rattle.tss_base.specs.declared.operand.Task.{Task}
use Rattle.tss_base.specs.declared.machine.Machine.{Machine}
use Rattle.tss_base.specs.declared.marks.Stage.TheVariants as stage
use Rattle.tss_model.specs.Memory.{covers}
use Rattle.tss_model.specs.Access.{writes, operands_of}
use Rattle.tss_protocol.specs.Names.{operand_name}
use Rattle.tss_protocol.specs.Mail.{StorageName, Home, Source}
use Rattle.tss_protocol.specs.State.{State, OperandState, Flying, Version}
use Rattle.tss_protocol.specs.Stations.{operand_at, is_ready, is_complete, storage_of, storages_of}
use Rattle.tss_phases.specs.Phase.{Phase, Ahead, Decoding, Sent, Waiting, Told, Ready, Releasing, Leaving, Promised}
use Rattle.tss_phases.specs.Phase.{Left, look_ups, phase_of}
use Rattle.tss_phases.specs.Alone.{HasRecord}
use Rattle.tss_phases.specs.Orderly.{FitsPhase}
use Rattle.tss_phases.proofs.Records.{operand_in}
use Rattle.tss_locality.specs.Rounds.{IsIn}
use Rattle.tss_control.specs.Members.{operand_among}
use Rattle.tss_values.specs.Buffers.{HasBuffers}
use Rattle.tss_control.specs.Readers.{Arrivals}
use Rattle.tss_control.specs.Runners.{is_late}
use Rattle.tss_control.specs.Holders.{IsOwnOrRead}
use Rattle.tss_control.proofs.holders.Order.{ready_in}
use Rattle.tss_control.proofs.rounds.RoundTasks.{among_tasks}
use Rattle.tss_values.proofs.storages.Shares.{HoldsStorage, record_holds, one_buffer, one_version, reads_produced}
use Rattle.tss_values.proofs.storages.Shares.{writes_open}
use Rattle.tss_program_order.proofs.StoreFrames.{IsElsewhere}
use Rattle.tss_control.proofs.rounds.Facts.{Facts}
use Rattle.tss_values.proofs.LiveObjects.{one_covered, version_named}

-- an operand of a task, with what it was told
pub record IsHeld (ts : List Task) (g : Arrivals) (S : State) (n k : ℕ) (p : Operand) (storage : StorageName)
    : Type 0 where
  pub source : Source
  pub told : source.storage ≡ storage
  pub ready : phase_of S (operand_name n k) ≡ Ready
  pub holds : HoldsStorage ts g S (operand_name n k) p source

-- an element of a mapped list
mapped_from : {X Y : Type 0} (f : X → Y) (o : Option X) (y : Y) → option_map f o ≡ Some y
    → (x : X) × (o ≡ Some x) × (f x ≡ y)
mapped_from f None y e = absurd (none-some y e)
mapped_from f (Some x) y e = (x, refl, same_Some (f x) y e)

module _ (m : Machine) (S : State) (facts : Facts m S) where
  open facts use {basis, ts, g, ground, control}

  -- ---- operands of a task that has all it needs, and hasn't finished

  module _ (n : ℕ) (x : Flying) (flying : get S.flight n ≡ Some x) (complete : is_complete x ≡ true)
      (unfinished : x.stage ≡ stage.Finished → ⊥) where
    module _ (k : ℕ) (p : Operand) (storage : StorageName) (at : slice_get (operands_of x.task) k ≡ Some p)
        (told : slice_get (storages_of x) k ≡ Some storage) where
      -- its record
      station : (r : OperandState) × (slice_get x.operands k ≡ Some r) × (storage_of r.source ≡ storage)
      station =
          mapped_from (λ (r : OperandState). storage_of r.source) (slice_get x.operands k) storage
          (sym (slice_get-map (λ (r : OperandState). storage_of r.source) x.operands k) ∙ told)

      kept : operand_at S.flight (operand_name n k) ≡ Some station.0
      kept = operand_in S.flight (operand_name n k) x flying ∙ station.1

      source : (s : Source) × ((station.0).source ≡ Some s)
      source = by (station.0).source (ready_in x.operands k station.0 complete station.1)
        where
          by : (s : Option Source) → is_ready (record (station.0) { source = s }) ≡ true
              → (t : Source) × (s ≡ Some t)
          by None e = absurd (true≢false (sym e))
          by (Some s) e = (s, refl)

      not_told : HasRecord (look_ups S (operand_name n k)) None → ⊥
      not_told h =
          none-some source.0
          (sym h.told ∙ ap (λ (r : OperandState). r.source) (same_Some h.kept station.0 (sym h.there ∙ kept))
          ∙ source.1)

      not_late : is_late (phase_of S (operand_name n k)) ≡ true → ⊥
      not_late e =
          let late = control.holders.runners.late (operand_name n k) station.0 kept e in
          unfinished (ap (λ (x : Flying). x.stage) (same_Some x late.0 (sym flying ∙ late.1)) ∙ late.2)

      by_phase : (f : Phase) → phase_of S (operand_name n k) ≡ f → FitsPhase f (look_ups S (operand_name n k))
          → phase_of S (operand_name n k) ≡ Ready
      by_phase Ahead e h = absurd (none-some station.0 (sym h.0 ∙ kept))
      by_phase Decoding e h = absurd (not_told h.0)
      by_phase Sent e h = absurd (not_told h.0)
      by_phase Waiting e h = absurd (not_told h.0)
      by_phase Told e h = absurd (not_told h.0)
      by_phase Ready e h = e
      by_phase Releasing e h = absurd (not_late (ap is_late e))
      by_phase Leaving e h = absurd (not_late (ap is_late e))
      by_phase Promised e h = absurd (not_late (ap is_late e))
      by_phase Left e h = absurd (not_late (ap is_late e))

      ready : phase_of S (operand_name n k) ≡ Ready
      ready = by_phase (phase_of S (operand_name n k)) refl (control.orderly (operand_name n k)).fits

      among : operand_among ts (operand_name n k) ≡ Some p
      among =
          let of = ground.round.flying n x flying in
          ap (λ n. operand_among ts (operand_name n k)) (sym of.0)
          ∙ among_tasks ts ground.round.one (of.1).0 x.task (of.1).1 k p at

      -- it holds what it was told
      pub held_at : IsHeld ts g S n k p storage
      held_at = record {
        source = source.0;
        told = ap storage_of (sym source.1) ∙ station.2;
        ready = ready;
        holds =
            record_holds ts g S control (operand_name n k) p source.0 among station.0 kept source.1 (inl ready);
      }

  -- ---- what lies beside an object that is written

  -- the object of an operand that holds a version is named
  pub holder_named : (o : OpName) (p : Operand) (s : Source) → HoldsStorage ts g S o p s → IsIn p.object S.main.epoch
  holder_named o p s holds =
      subst (λ x. IsIn x S.main.epoch) holds.told.object
      (version_named m S facts s.version holds.told.version holds.told.there)

  module _ (buffers : HasBuffers ts S) (o : OpName) (p : Operand) (s : Source) (holds : HoldsStorage ts g S o p s)
      (writer : writes p.mode ≡ true) where
    -- a writer has its own version
    pub writes_own : s.version ≡ o
    writes_own = subst (λ w. IsOwnOrRead g o w s.version) writer holds.told.own

    -- another version lies elsewhere
    pub writes_beside : (v : OpName) (y : Version) (other : StorageName) → get S.versions v ≡ Some y
        → y.storage ≡ Some other → v ≢ o → (a : ℕ) → covers y.object a ≡ true
        → IsElsewhere p.object s.storage other a
    writes_beside v y other there stored apart a inside = record {
      home = λ mine its. false_from_ne_true (covers p.object a) (λ also.
          let same = one_covered m S basis p.object y.object (holder_named o p s holds)
          (version_named m S facts v y there) a also inside in
          apart (sym (one_version ts S control.chains buffers s.version v holds.told.version y holds.told.there there
          (holds.told.object ∙ same) Home (holds.told.storage ∙ ap Some mine) (stored ∙ ap Some its)) ∙ writes_own));
      buffer = λ b mine its.
          apart (sym (one_buffer ts S control.chains buffers s.version v b holds.told.version y holds.told.there there
          (holds.told.storage ∙ ap Some mine) (stored ∙ ap Some its)) ∙ writes_own);
    }

    -- another operand that holds a version holds another one
    pub holds_other : (q : OpName) (r : Operand) (t : Source) → HoldsStorage ts g S q r t → q ≢ o → t.version ≢ o
    holds_other q r t k apart same = by (writes r.mode) refl k.told.own
      where
        there : get S.versions o ≡ Some k.told.version
        there = ap (get S.versions) (sym same) ∙ k.told.there

        by : (b : Bool) → writes r.mode ≡ b → IsOwnOrRead g q b t.version → ⊥
        by true w own = apart (sym own ∙ same)
        by false w read =
            both_ways k.told.version.produced
            (writes_open ts g S control o p s holds writer k.told.version there)
            (reads_produced ts g S control q r t k read k.told.version k.told.there)
