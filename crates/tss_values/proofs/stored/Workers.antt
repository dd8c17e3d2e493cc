-- The bytes in the storages of versions where a task that holds all its operands writes in theirs, at its start or in a
-- stretch: all other versions stay as they are, and of those that it writes nothing is said.
use Rattle.std.proofs.Common.{◌≡◌, ◌≢◌, ◌⊎◌, ℕ, Bool, true, false, List, length, Some, refl, sym, ap, ◌∙◌, subst, inl}
use Rattle.std.proofs.Common.{inr, true≢false}
use Rattle.std.specs.Prelude.{slice_get}
use Rattle.std.specs.FinMap.{get}
use Rattle.std.proofs.lemmas.Option.{same_Some}
use Rattle.tss_base.specs.declared.operand.OpName.{OpName}
use Rattle.tss_base.specs.declared.operand.Operand.{Operand}
use Rattle.tss_base.specs.declared.operand.Task.{Task}
use Rattle.tss_base.specs.declared.machine.Machine.{Machine}
use Rattle.tss_base.specs.Image.{ImageState}
use Rattle.tss_maps.proofs.Keys.{nat_order, decide_key}
use Rattle.tss_model.specs.Memory.{covers}
use Rattle.tss_model.specs.Access.{writes, operands_of}
use Rattle.tss_protocol.specs.Names.{operand_name}
use Rattle.tss_protocol.specs.Mail.{StorageName}
use Rattle.tss_protocol.specs.State.{State, Version}
use Rattle.tss_phases.specs.Phase.{Ready, Releasing, phase_of}
use Rattle.tss_control.specs.Members.{operand_among}
use Rattle.tss_names.specs.Stages.{IsOnWorker}
use Rattle.tss_names.specs.Tasks.{task_at}
use Rattle.tss_values.specs.Buffers.{HasBuffers}
use Rattle.tss_values.proofs.storages.Shares.{writes_open}
use Rattle.tss_program_order.proofs.StoreFrames.{IsElsewhere, IsBeside}
use Rattle.tss_values.proofs.Values.{content, HasStored}
use Rattle.tss_values.proofs.stored.Frames.{IsStored, stored_each, stored_at, KeepsStored, stored_kept}
use Rattle.tss_values.proofs.workers.Hold.{IsHeld, writes_beside}
use Rattle.tss_values.proofs.workers.Apart.{placed_from}
use Rattle.tss_control.proofs.rounds.Facts.{Facts}

ready_releasing : Ready ≡ Releasing → ⊥
ready_releasing e = cc

module _ (m : Machine) (i : ImageState) (S : State) (facts : Facts m S) (buffers : HasBuffers facts.ts S)
    (h : HasStored m i facts.ts S) (n : ℕ) (t : Task) (spawned : task_at facts.all n ≡ Some t)
    (ss : List StorageName) (count : length ss ≡ length (operands_of t))
    (holds : (j : ℕ) (p : Operand) (storage : StorageName) → slice_get (operands_of t) j ≡ Some p
    → slice_get ss j ≡ Some storage → IsHeld facts.ts facts.g S n j p storage) where
  open facts use {all, ts, g, ground, control as k}

  -- what the task writes lies beside a version of another task, and one of its own that it doesn't write
  version_beside : (v : OpName) (y : Version) (st : StorageName) (p : Operand) → operand_among ts v ≡ Some p
      → get S.versions v ≡ Some y → y.storage ≡ Some st → (v.task ≢ n) ⊎ (writes p.mode ≡ false) → (a : ℕ)
      → covers y.object a ≡ true → IsBeside (operands_of t) ss st a
  version_beside v y st p among there stored way a inside j o storage at told writer =
      subst (λ s. IsElsewhere o.object s st a) held.told
      (writes_beside m S facts buffers (operand_name n j) o held.source held.holds writer v y st there
      stored (λ same. apart same way) a inside)
    where
      held : IsHeld ts g S n j o storage
      held = holds j o storage at told

      apart : v ≡ operand_name n j → (v.task ≢ n) ⊎ (writes p.mode ≡ false) → ⊥
      apart same (inl other) = other (ap (λ (o : OpName). o.task) same)
      apart same (inr unwritten) =
          let is = same_Some p o (sym among ∙ ap (operand_among ts) same ∙ held.holds.among) in
          true≢false (sym writer ∙ ap (λ (p : Operand). writes p.mode) (sym is) ∙ unwritten)

  -- the task holds each of its operands
  own_held : (v : OpName) (p : Operand) → operand_among ts v ≡ Some p → v.task ≡ n
      → (storage : StorageName) × IsHeld ts g S v.task v.place p storage
  own_held v p among own =
      let is = ground.known.operands v p among in
      let one = same_Some is.task t (sym is.spawned ∙ ap (task_at all) own ∙ spawned) in
      let at = ap (λ (t : Task). slice_get (operands_of t) v.place) (sym one) ∙ is.place in
      let placed = placed_from (operands_of t) ss count v.place p at in
      (placed.0, subst (λ n. IsHeld ts g S n v.place p placed.0) (sym own) (holds v.place p placed.0 at placed.1))

  -- what is left after the event
  pub record LeavesBeside (T : State) : Type 0 where
    pub versions : T.versions ≡ S.versions
    pub phases : (q : OpName) → phase_of T q ≡ phase_of S q
    pub busy : IsOnWorker T n
    pub others : (j : ℕ) → IsOnWorker S j → IsOnWorker T j
    pub bytes : (y : Version) (st : StorageName)
        → ((a : ℕ) → covers y.object a ≡ true → IsBeside (operands_of t) ss st a)
        → content T y.object st ≡ content S y.object st

  module _ (T : State) (left : LeavesBeside T) where
    module _ (v : OpName) (y : Version) (there : get S.versions v ≡ Some y) (p : Operand)
        (among : operand_among ts v ≡ Some p) where
      keeps_beside : (v.task ≢ n) ⊎ (writes p.mode ≡ false) → KeepsStored ts S T v y y
      keeps_beside way = record {
        object = refl;
        storage = refl;
        produced = refl;
        bytes = λ st at. left.bytes y st (version_beside v y st p among there at way);
        waits = λ st q at from writer told. elim told [
          | inl e ↦ inl (sym (left.phases v) ∙ e)
          | inr e ↦ inr (sym (left.phases v) ∙ e)
        ];
        idle = λ none on. none (left.others v.task on);
        lets = λ e. sym (left.phases v) ∙ e;
      }

      stays_beside : (v.task ≢ n) ⊎ (writes p.mode ≡ false) → IsStored m i ts T v y
      stays_beside way = stored_kept m i ts S T v y y (keeps_beside way) (stored_at m i ts S h v y there)

      own_written : v.task ≡ n → writes p.mode ≡ true → IsStored m i ts T v y
      own_written own writer =
          let held = (own_held v p among own).1 in
          record {
            produced = λ st q s made at known good.
                absurd (true≢false (sym made ∙ writes_open ts g S k v p held.source held.holds writer y there));
            awaited = λ st q s at known mode waits idle. absurd (idle (subst (IsOnWorker T) (sym own) left.busy));
            releasing = λ st q s at known w lets ends.
                absurd (ready_releasing (sym held.ready ∙ sym (left.phases v) ∙ lets));
          }

      own_by : v.task ≡ n → (c : Bool) → writes p.mode ≡ c → IsStored m i ts T v y
      own_by own true writer = own_written own writer
      own_by own false unwritten = stays_beside (inr unwritten)

    each_stored : (v : OpName) (y : Version) → get S.versions v ≡ Some y → IsStored m i ts T v y
    each_stored v y there =
        let p = k.chains.opener v y there in
        elim (decide_key nat_order v.task n) [
          | inl own ↦ own_by v y there p.0 p.1 own (writes p.0.mode) refl
          | inr other ↦ stays_beside v y there p.0 p.1 (inl other)
        ]

    -- storages have the bytes of program order as before
    pub stored_beside : HasStored m i ts T
    stored_beside =
        stored_each m i ts T (λ v y e. each_stored v y (sym (ap (λ vs. get vs v) left.versions) ∙ e))
