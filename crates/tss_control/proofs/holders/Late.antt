-- An operand whose release has been sent is of a task that has finished, whatever event happens.
use Rattle.std.proofs.Common.{◌≡◌, Bool, true, false, List, Option, Some, None, refl, sym, ap, ◌∙◌, true≢false}
use Rattle.std.specs.Prelude.{slice_get, option_map}
use Rattle.std.proofs.lemmas.Option.{none-some, slice_get-map}
use Rattle.tss_base.specs.declared.operand.OpName.{OpName}
use Rattle.tss_base.specs.declared.operand.Operand.{Operand}
use Rattle.tss_base.specs.declared.marks.Stage.TheVariants as stage
use Rattle.tss_protocol.specs.State.{State, OperandState}
use Rattle.tss_protocol.specs.Stations.{operand_at}
use Rattle.tss_phases.specs.Phase.{Phase, Ahead}
use Rattle.tss_phases.specs.Phase.{phase_of}
use Rattle.tss_phases.specs.Told.{phase_told}
use Rattle.tss_phases.specs.Leaving.{phase_linked}
use Rattle.tss_phases.proofs.Records.{operand_in, task_of_record}
use Rattle.tss_control.specs.Runners.{IsAtStage, is_late}
use Rattle.tss_protocol.proofs.FrontLemmas.{ComeFrom}
use Rattle.tss_control.proofs.holders.Stages.{StayFinished}

-- in the second state an operand is late only where it was late in the first
abbrev pub NoLater : State → State → OpName → Type 0
NoLater S T q = is_late (phase_of T q) ≡ true → is_late (phase_of S q) ≡ true

-- ---- phases

-- a phase that stays
pub late_same : (S T : State) (q : OpName) → phase_of T q ≡ phase_of S q → NoLater S T q
late_same S T q e l = ap is_late (sym e) ∙ l

-- that of an operand that may be told
pub late_told : (S T : State) (q : OpName) (b : Bool) → phase_of T q ≡ phase_told b (phase_of S q) → NoLater S T q
late_told S T q true e l = absurd (true≢false (sym l ∙ ap is_late e))
late_told S T q false e l = ap is_late (sym e) ∙ l

-- an early phase after
pub late_early : (S T : State) (q : OpName) (p : Phase) → is_late p ≡ false → phase_of T q ≡ p → NoLater S T q
late_early S T q p early e l = absurd (true≢false (sym l ∙ ap is_late e ∙ early))

-- a late phase before
pub late_before : (S T : State) (q : OpName) (p : Phase) → is_late p ≡ true → phase_of S q ≡ p → NoLater S T q
late_before S T q p late e l = ap is_late e ∙ late

late_linked : (p : Phase) → is_late (phase_linked p) ≡ is_late p
late_linked Ahead = refl
late_linked other = refl

-- that of an operand that is linked
pub late_link : (S T : State) (q : OpName) → phase_of T q ≡ phase_linked (phase_of S q) → NoLater S T q
late_link S T q e l = sym (late_linked (phase_of S q)) ∙ ap is_late (sym e) ∙ l

-- ---- records

-- a record of a task that was in flight was there
pub record_came : (S T : State) → ComeFrom S.flight T.flight → (o : OpName) (r : OperandState)
    → operand_at T.flight o ≡ Some r → (k : OperandState) × (operand_at S.flight o ≡ Some k)
record_came S T come o r e =
    let y = task_of_record T.flight o r e in
    let x = come o.task y.0 y.1 in
    let same = sym (slice_get-map (λ (r : OperandState). r.operand) x.0.operands o.place)
    ∙ ap (λ (ps : List Operand). slice_get ps o.place) (sym x.2.operands)
    ∙ slice_get-map (λ (r : OperandState). r.operand) y.0.operands o.place
    ∙ ap (option_map (λ (r : OperandState). r.operand)) y.2 in
    let k = found (slice_get x.0.operands o.place) r.operand same in
    (k.0, operand_in S.flight o x.0 x.1 ∙ k.1)
  where
    found : (k : Option OperandState) (p : Operand) → option_map (λ (r : OperandState). r.operand) k ≡ Some p
        → (r : OperandState) × (k ≡ Some r)
    found None p e = absurd (none-some p e)
    found (Some r) p e = (r, refl)

-- where its operand was late, its task has finished
pub late_kept : (S T : State) → StayFinished S.flight T.flight → ComeFrom S.flight T.flight
    → ((o : OpName) (r : OperandState) → operand_at S.flight o ≡ Some r → is_late (phase_of S o) ≡ true
    → IsAtStage S.flight o.task stage.Finished)
    → (o : OpName) (r : OperandState) → NoLater S T o → operand_at T.flight o ≡ Some r
    → is_late (phase_of T o) ≡ true → IsAtStage T.flight o.task stage.Finished
late_kept S T stay come late o r before e l =
    let k = record_came S T come o r e in
    let y = task_of_record T.flight o r e in
    let x = late o k.0 k.1 (before l) in
    (y.0, y.1, stay o.task x.0 y.0 x.1 y.1 x.2)
