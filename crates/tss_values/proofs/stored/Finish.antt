-- The bytes in the storages of versions after a finish: what the task wrote stands where its operands let go.
use Rattle.std.proofs.Common.{◌≡◌, ◌≢◌, ◌⊎◌, ℕ, true, cond, List, Option, Some, refl, sym, ap, ◌∙◌, subst, inl, inr}
use Rattle.std.specs.Prelude.{slice_get}
use Rattle.std.specs.FinMap.{get, remove}
use Rattle.std.proofs.lemmas.Option.{same_Some}
use Rattle.tss_base.specs.declared.operand.OpName.{OpName}
use Rattle.tss_base.specs.declared.operand.Operand.{Operand}
use Rattle.tss_base.specs.declared.operand.Task.{Task}
use Rattle.tss_base.specs.declared.machine.Machine.{Machine}
use Rattle.tss_base.specs.declared.event.Event.TheVariants as event
use Rattle.tss_base.specs.declared.marks.Stage.TheVariants as stage
use Rattle.tss_base.specs.Image.{ImageState}
use Rattle.tss_maps.proofs.Keys.{nat_order, decide_key}
use Rattle.tss_maps.proofs.Changes.{beside_removed}
use Rattle.tss_model.specs.Access.{writes, operands_of}
use Rattle.tss_model.specs.Memory.{bytes_of}
use Rattle.tss_model.specs.InOrder.{Started, end_of_started}
use Rattle.tss_protocol.specs.Mail.{StorageName}
use Rattle.tss_protocol.specs.State.{State, Flying, Busy, Version}
use Rattle.tss_protocol.specs.Stations.{is_complete, storages_of}
use Rattle.tss_protocol.specs.Workers.{placed_in, can_finish, has_ended, stored_bytes}
use Rattle.tss_protocol.specs.UnitMachine.{IsEnabled, is_enabled, after_event, after_finish, stores_of}
use Rattle.tss_phases.specs.Phase.{Told, Ready, Releasing, phase_of}
use Rattle.tss_phases.proofs.FinishEvent.{phase_of-finish, phase_of-finish-other}
use Rattle.tss_phases.proofs.Tests.{something}
use Rattle.tss_locality.proofs.LeftFields.{Leaves-after_event}
use Rattle.tss_control.specs.Members.{operand_among}
use Rattle.tss_names.specs.Stages.{IsOnWorker}
use Rattle.tss_names.specs.Tasks.{task_at}
use Rattle.tss_control.specs.Holders.{IsOwnOrRead}
use Rattle.tss_names.proofs.StageLemmas.{running≢finished}
use Rattle.tss_program_order.proofs.StoreBytes.{IsPlaced}
use Rattle.tss_program_order.proofs.StoreFollows.{HasEnd, runs-end}
use Rattle.tss_values.proofs.Values.{content, bytes_after, Starts, HasStored, HasWorkers}
use Rattle.tss_values.proofs.stored.Frames.{IsStored, stored_each, stored_at, KeepsStored, stored_kept}
use Rattle.tss_values.proofs.workers.Hold.{IsHeld, held_at}
use Rattle.tss_values.proofs.workers.Apart.{placed_from}
use Rattle.tss_control.proofs.rounds.Facts.{Facts}

-- a busy worker may finish where its task has ended
ended_by : (o : Option Busy) (b : Busy) → o ≡ Some b → can_finish o ≡ true → has_ended b ≡ true
ended_by o b e on = ap can_finish (sym e) ∙ on

released : (Releasing ≡ Told) ⊎ (Releasing ≡ Ready) → ⊥
released (inl e) = cc
released (inr e) = cc

module _ (m : Machine) (i : ImageState) (S : State) (facts : Facts m S) (h : HasStored m i facts.ts S)
    (workers : HasWorkers m i S) where
  open facts use {all, ts, g, ground, control as k}

  module _ (w : ℕ) (b : Busy) (busy : get S.workers w ≡ Some b) where
    abbrev T : State
    T = after_event m S (event.Finish w)

    abbrev x : Flying
    x = (workers.told w b busy).0

    flying : get S.flight b.task.number ≡ Some x
    flying = (workers.told w b busy).1

    its_task : x.task ≡ b.task
    its_task = (workers.told w b busy).2

    its_storages : b.storages ≡ storages_of x
    its_storages = (workers.told w b busy).3

    workers_after : T.workers ≡ remove S.workers w
    unfolding after_event
    workers_after = ap (λ y. (after_finish S w y).workers) busy

    -- no byte is written
    content_same : (y : Version) (st : StorageName) → content T y.object st ≡ content S y.object st
    content_same y st =
        let same = Leaves-after_event m S (event.Finish w) in
        λ j. stored_bytes (record { home = (same j).home; contents = (same j).contents }) y.object st

    -- ---- another task's operands

    -- another task stays on its worker
    stays : (n : ℕ) → n ≢ b.task.number → IsOnWorker S n → IsOnWorker T n
    stays n other on = (
      on.0,
      on.1,
      ap (λ ws. get ws on.0) workers_after
          ∙ beside_removed nat_order S.workers w on.0 (λ same. other (sym on.3
          ∙ ap (λ (b : Busy). b.task.number)
          (same_Some on.1 b (sym on.2 ∙ ap (get S.workers) same ∙ busy))))
          ∙ on.2,
      on.3,
    )

    keeps_other : (v : OpName) (y : Version) → v.task ≢ b.task.number → KeepsStored ts S T v y y
    keeps_other v y other =
        let same = phase_of-finish-other m S w b x busy flying v other in
        record {
          object = refl;
          storage = refl;
          produced = refl;
          bytes = λ st at. content_same y st;
          waits = λ st p at among writer told. elim told [
            | inl e ↦ inl (sym same ∙ e)
            | inr e ↦ inr (sym same ∙ e)
          ];
          idle = λ none on. none (stays v.task other on);
          lets = λ e. sym same ∙ e;
        }

    -- ---- its own

    complete : is_complete x ≡ true
    complete = (ground.stages.workers w b busy).ready.complete x flying

    unfinished : x.stage ≡ stage.Finished → ⊥
    unfinished e =
        let r = k.holders.runners.running w b busy in
        let same = same_Some r.0 x (sym r.1 ∙ flying) in
        running≢finished (sym r.2 ∙ ap (λ (x : Flying). x.stage) same ∙ e)

    module _ (v : OpName) (y : Version) (there : get S.versions v ≡ Some y) (own : v.task ≡ b.task.number)
        (p : Operand) (among : operand_among ts v ≡ Some p) where
      -- its place in the task
      operand : slice_get (operands_of b.task) v.place ≡ Some p
      operand =
          let is = ground.known.operands v p among in
          let one = same_Some is.task b.task
          (sym is.spawned ∙ ap (task_at all) own ∙ (ground.stages.workers w b busy).task) in
          ap (λ (t : Task). slice_get (operands_of t) v.place) (sym one) ∙ is.place

      -- and its storage
      placed : (storage : StorageName) × (slice_get b.storages v.place ≡ Some storage)
          × IsPlaced (placed_in (operands_of b.task) b.storages) v.place
          (record { object = p.object; storage = storage })
      placed =
          placed_from (operands_of b.task) b.storages (ground.stages.workers w b busy).storages v.place p operand

      held : IsHeld ts g S v.task v.place p placed.0
      held =
          subst (λ n. IsHeld ts g S n v.place p placed.0) (sym own)
          (held_at m S facts b.task.number x flying complete unfinished v.place p placed.0
          (ap (λ (t : Task). slice_get (operands_of t) v.place) its_task ∙ operand)
          (ap (λ (ss : List StorageName). slice_get ss v.place) (sym its_storages) ∙ placed.1))

      lets_go : phase_of T v ≡ Releasing
      lets_go = phase_of-finish m S w b x busy flying v own held.ready

      module _ (writer : writes p.mode ≡ true) (ended : has_ended b ≡ true) (s : Started)
          (starts : Starts m i v.task s) where
        its_end : HasEnd m i (stores_of S) b s
        its_end =
            let r = workers.runs w b s busy (subst (λ n. Starts m i n s) own starts) in
            subst (HasEnd m i (stores_of S) b) (sym r.1) (runs-end m i (stores_of S) b r.0 ended)

        -- a writer has its own version
        is_version : held.holds.told.version ≡ y
        is_version =
            same_Some held.holds.told.version y (sym held.holds.told.there ∙ ap (get S.versions) held_own ∙ there)
          where
            held_own : held.source.version ≡ v
            held_own = subst (λ c. IsOwnOrRead g v c held.source.version) writer held.holds.told.own

        its_bytes : (st : StorageName) → y.storage ≡ Some st → content S y.object st ≡ bytes_after m i s p
        its_bytes st at =
            let object = sym (ap (λ (y : Version). y.object) is_version) ∙ held.holds.told.object in
            let storage : st ≡ placed.0 =
            same_Some st placed.0
            (sym at ∙ sym (ap (λ (y : Version). y.storage) is_version) ∙ held.holds.told.storage
            ∙ ap Some held.told) in
            (λ j. content S (object j) (storage j))
            ∙ its_end.bytes v.place (record { object = p.object; storage = placed.0 }) placed.2
            ∙ sym (ap (λ c. cond c (bytes_of (end_of_started i m.limits s).memory p.object)
            (bytes_of s.memory p.object)) writer)

    -- ---- all

    module _ (ended : has_ended b ≡ true) where
      own_stored : (v : OpName) (y : Version) → get S.versions v ≡ Some y → v.task ≡ b.task.number
          → IsStored m i ts T v y
      own_stored v y there own = record {
        produced = λ st p s made at known good. content_same y st ∙ h.produced v y st p s there made at known good;
        awaited = λ st p s at known mode waits idle.
            absurd (released
            (subst (λ f. (f ≡ Told) ⊎ (f ≡ Ready)) (lets_go v y there own p known.operand) waits));
        releasing = λ st p s at known writer lets ends.
            content_same y st ∙ its_bytes v y there own p known.operand writer ended s known.starts st at;
      }

      stored_finished : HasStored m i ts T
      stored_finished =
          stored_each m i ts T (λ v y e.
          let there = sym (λ j. get (Leaves-after_event m S (event.Finish w) j).versions v) ∙ e in
          elim (decide_key nat_order v.task b.task.number) [
            | inl own ↦ own_stored v y there own
            | inr other ↦
                stored_kept m i ts S T v y y (keeps_other v y other) (stored_at m i ts S h v y there)
          ])

  -- finish
  pub HasStored-finish : (w : ℕ) → IsEnabled m S (event.Finish w)
      → HasStored m i ts (after_event m S (event.Finish w))
  unfolding is_enabled
  HasStored-finish w on =
      let b = something can_finish (get S.workers w) refl on in
      stored_finished w b.0 b.1 (ended_by (get S.workers w) b.0 b.1 on)
