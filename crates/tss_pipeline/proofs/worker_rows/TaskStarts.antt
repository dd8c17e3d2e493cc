-- A queued task starts over the storages that its operands were told.
use Rattle.std.proofs.Common.{◌≡◌, ℕ, zero, suc, ◌<◌, ◌≤◌, Bool, true, false, ◌&&◌, nat_lt, true≢false, List, [], ◌∷◌, length, take, drop, map, slice_get, Option, Some, None, option_map, option_and_then, refl, sym, ap, ◌∙◌, subst, inl, inr, arith}
use Rattle.std.specs.Prelude.{is_none, IsSome}
use Rattle.std.specs.FinMap.{get, insert}
use Rattle.std.proofs.lemmas.Bool.Decides.{nat_tests}
use Rattle.std.proofs.lemmas.Option.{none-some, same_Some, slice_get_within}
use Rattle.std.proofs.lemmas.List.{length-map, length-take-le}
use Rattle.tss_base.specs.declared.bounds.TheConstants.{MAX_OPERANDS}
use Rattle.tss_base.specs.declared.machine.Key.TheVariants as key
use Rattle.tss_base.specs.declared.operand.OpName.{OpName}
use Rattle.tss_base.specs.declared.operand.Operand.{Operand}
use Rattle.tss_base.specs.declared.operand.Storage.{Storage}
use Rattle.tss_base.specs.declared.operand.Task.{Task}
use Rattle.tss_base.specs.declared.marks.Stage.{Stage}
use Rattle.tss_base.specs.declared.event.Event.TheVariants as event
use Rattle.tss_base.specs.Names.{Numbered}
use Rattle.tss_maps.proofs.Keys.{nat_order}
use Rattle.tss_maps.proofs.Changes.{from_inserted}
use Rattle.tss_maps.proofs.MappedLemmas.{get-mapped, mapped-insert}
use Rattle.tss_model.specs.Memory.{Memory}
use Rattle.tss_model.specs.Access.{operands_of}
use Rattle.tss_events.specs.Events.{storage_name, source_of}
use Rattle.tss_protocol.specs.Names.{bank_of, operand_name}
use Rattle.tss_protocol.specs.Mail.{Source}
use Rattle.tss_protocol.specs.State.{Flying, OperandState}
use Rattle.tss_protocol.specs.Stations as stations
use Rattle.tss_protocol.specs.Workers as cores
use Rattle.tss_protocol.specs.Workers.{Stores, can_start, busy_at_start, outputs_zeroed}
use Rattle.tss_protocol.specs.UnitMachine as machine
use Rattle.tss_protocol.specs.UnitMachine.{is_enabled, after_event, after_start, start_task}
use Rattle.tss_stations.specs.declared.slot.Slot.{Slot}
use Rattle.tss_stations.specs.declared.operand_view.OperandView.{OperandView}
use Rattle.tss_stations.specs.Reading.{shown, found_in, started, started_by}
use Rattle.tss_stations.specs.Views as views
use Rattle.tss_stations.specs.Views.{source_by, flying_of, flight_of, views_of, view_at, view_in}
use Rattle.tss_buffers.specs.Contents.{BuffersState}
use Rattle.tss_workers.specs.declared.running.Worker.{Worker}
use Rattle.tss_workers.specs.Seats.{seats_of}
use Rattle.tss_workers.specs.Spots.{stores_of}
use Rattle.tss_workers.specs.Seen.{WorkersState, busy_of, workers_of, new_worker, CanWork, Zeroes}
use Rattle.tss_workers.specs.Agreement.{Agree, StandFor, StoresAgree}
use Rattle.tss_workers.proofs.AgreementLemmas.{start_agrees}
use Rattle.tss_conditions.specs.Reached.{Reached}
use Rattle.tss_conditions.specs.Running.{IsStartable, MayRunOver}
use Rattle.tss_conditions.proofs.Known.{reached_after}
use Rattle.tss_conditions.proofs.Running.{may_start, beside_in}
use Rattle.tss_conditions.proofs.Filling.{contents_whole}
use Rattle.tss_pipeline.specs.declared.units.Units.{Units}
use Rattle.tss_pipeline.specs.State.{state_of, contents_of}
use Rattle.tss_pipeline.specs.Does.{May}
use Rattle.tss_pipeline.specs.Fit.{IsFit, ground_of, HoldsStorage, HoldsStorages}
use Rattle.tss_pipeline.specs.Beginning.{told_name, AreHeldFor, IsStored, IsStoredAt}
use Rattle.tss_pipeline.proofs.places.BankChanges.{slice_get-map}
use Rattle.tss_pipeline.proofs.places.Lookups.{buffer_here}
use Rattle.tss_pipeline.proofs.worker_rows.BufferSeats.{place_of, contents_agree, contents_back}
use Rattle.tss_pipeline.proofs.worker_rows.SeatedTasks.{stand_for, stands_for, can_work}

-- ---- an idle worker and a queued task

pub record Begins (n w : ℕ) (o : Option Worker) (q : List ℕ) : Type 0 where
  pub task : ℕ
  pub rest : List ℕ
  pub queue : q ≡ task ∷ rest
  pub within : w < n
  pub idle : o ≡ None

both_true : (a b : Bool) → (a && b) ≡ true → (a ≡ true) × (b ≡ true)
both_true true b e = (refl, e)
both_true false b e = absurd (true≢false (sym e))

less_by : (m n : ℕ) → nat_lt m n ≡ true → m < n
less_by m n e = grind (arith, nat_tests)

idle_by : (o : Option Worker) → is_none (option_map busy_of o) ≡ true → o ≡ None
idle_by None e = refl
idle_by (Some x) e = absurd (true≢false (sym e))

begins_by : (n w : ℕ) (o : Option Worker) (q : List ℕ) → can_start n w (option_map busy_of o) q ≡ true → Begins n w o q
begins_by n w o [] e = absurd (true≢false (sym e))
begins_by n w o (t ∷ ts) e =
    let parts = both_true (nat_lt w n) (is_none (option_map busy_of o)) e in
    record { task = t; rest = ts; queue = refl; within = less_by w n parts.0; idle = idle_by o parts.1 }

-- ---- lists

same_lists : {X : Type 0} (xs ys : List X) → length xs ≡ length ys
    → ((k : ℕ) (x y : X) → slice_get xs k ≡ Some x → slice_get ys k ≡ Some y → x ≡ y) → xs ≡ ys
same_lists [] [] many each = refl
same_lists [] (y ∷ ys) many each = absurd (omega (arith, many))
same_lists (x ∷ xs) [] many each = absurd (omega (arith, many))
same_lists (x ∷ xs) (y ∷ ys) many each =
    λ i. each zero x y refl refl i ∷ same_lists xs ys (omega (arith, many)) (λ k. each (suc k)) i

taken_get : {X : Type 0} (n : ℕ) (xs : List X) (k : ℕ) → k < n → slice_get (take n xs) k ≡ slice_get xs k
taken_get zero xs k few = absurd (omega (arith, few))
taken_get (suc n) [] k few = refl
taken_get (suc n) (x ∷ xs) zero few = refl
taken_get (suc n) (x ∷ xs) (suc k) few = taken_get n xs k (omega (arith, few))

some_there : {X : Type 0} (o : Option X) (x : X) → o ≡ Some x → IsSome o
some_there None x e = absurd (none-some x e)
some_there (Some y) x e = refl

-- ---- a slot

slot_by : (o : Option Slot) (y : Flying) → option_map flying_of o ≡ Some y
    → (s : Slot) × (o ≡ Some s) × (flying_of s ≡ y)
slot_by None y e = absurd (none-some y e)
slot_by (Some s) y e = (s, refl, same_Some (flying_of s) y e)

told_source : (v : Option OpName) (st : Option Storage) (s : Source) → source_by v st ≡ Some s → s.storage
    ≡ told_name st
told_source None st s e = absurd (none-some s e)
told_source (Some v) None s e = absurd (none-some s e)
told_source (Some v) (Some x) s e = ap (λ (s : Source). s.storage) (sym (same_Some (source_of v x) s e))

shown_by : (o : Option Flying) (y : Flying) (t : Task) (stage : Stage) → o ≡ Some y
    → ◌≡◌ {A = Option (Task × Stage)} (Some (t, stage)) (option_map shown o) → y.task ≡ t
shown_by o y t stage there e =
    ap (λ (p : Task × Stage). p.0) (sym (same_Some (t, stage) (shown y) (e ∙ ap (option_map shown) there)))

module _ (u : Units) (fit : IsFit u) (w : ℕ) (may : May (event.Start w) u) where
  pub begins : Begins u.machine.sizes.workers w (get u.workers.entries w) u.queue.tasks
  unfolding is_enabled
  begins =
      begins_by u.machine.sizes.workers w (get u.workers.entries w) u.queue.tasks
      (ap (λ o. can_start u.machine.sizes.workers w o u.queue.tasks) (sym (get-mapped busy_of u.workers.entries w))
      ∙ may)

  pub start_within : w < u.workers.size
  start_within = subst (λ n. w < n) (sym fit.sized.workers) begins.within

  -- the queue has a task
  pub not_empty : None ≡ slice_get u.queue.tasks 0 → ⊥
  not_empty e = none-some begins.task (e ∙ ap (λ q. slice_get q 0) begins.queue)

  module _ (number : ℕ) (first : Some number ≡ slice_get u.queue.tasks 0) where
    queue_is : u.queue.tasks ≡ number ∷ begins.rest
    queue_is =
        begins.queue
        ∙ ap (λ t. t ∷ begins.rest) (sym (same_Some number begins.task (first ∙ ap (λ q. slice_get q 0) begins.queue)))

    pub startable : IsStartable u.machine (state_of u) number
    startable =
        may_start u.machine fit.reached.image (state_of u) number begins.rest fit.reached.reached queue_is

    pub not_lost : ◌≡◌ {A = Option (Task × Stage)} None (found_in (flight_of u.stations.slots) number) → ⊥
    not_lost e = none-some (shown startable.flying) (e ∙ ap (option_map shown) startable.there)

    slot : (s : Slot) × (get u.stations.slots number ≡ Some s) × (flying_of s ≡ startable.flying)
    slot =
        slot_by (get u.stations.slots number) startable.flying
        (sym (get-mapped flying_of u.stations.slots number) ∙ startable.there)

    views_are : startable.flying.operands ≡ map views.state_of (views_of slot.0)
    views_are = ap (λ (y : Flying). y.operands) (sym slot.2)

    -- what was told of an operand
    name_told : (k : ℕ) (v : OperandView) → slice_get (views_of slot.0) k ≡ Some v
        → slice_get (stations.storages_of startable.flying) k ≡ Some (told_name v.storage)
    name_told k v at =
        let there = ap (λ xs. slice_get xs k) views_are ∙ slice_get-map views.state_of (views_of slot.0) k v at in
        let s = startable.told k (views.state_of v) there in
        slice_get-map (λ (r : OperandState). stations.storage_of r.source) startable.flying.operands k
        (views.state_of v) there
        ∙ ap (λ s. Some (stations.storage_of s)) s.1
        ∙ ap Some (told_source v.version v.storage s.0 s.1)

    module _ (task : Task) (is : startable.flying.task ≡ task) where
      number_is : task.number ≡ number
      number_is = ap (λ t. t.number) (sym is) ∙ startable.number

      pub task_few : task.count ≤ MAX_OPERANDS
      task_few =
          let few = startable.may.proper.few in
          let same = ap (λ t. t.count) is in
          let most = (fit.reached.reached.admissible.limits key.MaxOperands u.machine.limits.max_operands refl).1 in
          omega (arith, few, same, most)

      pub listed_few : task.listed ≤ MAX_OPERANDS
      listed_few =
          let few = startable.may.proper.listed in
          let same = ap (λ t. t.listed) is in
          let most = (fit.reached.reached.admissible.limits key.MaxOperands u.machine.limits.max_operands refl).1 in
          omega (arith, few, same, most)

      may_run : MayRunOver u.machine (state_of u) task (stations.storages_of startable.flying)
      may_run = subst (λ t. MayRunOver u.machine (state_of u) t (stations.storages_of startable.flying)) is
          startable.may

      view_is : (k : ℕ) → view_in u.stations.slots (operand_name task.number k) ≡ slice_get (views_of slot.0) k
      view_is k =
          ap (λ n. option_and_then (view_at k) (get u.stations.slots n)) number_is
          ∙ ap (option_and_then (view_at k)) slot.1

      -- each buffer that was told is held
      pub are_held : AreHeldFor (ground_of u) u.stations.slots task
      are_held k o v at seen p n b told there =
          let name = name_told k v (sym (view_is k) ∙ seen) ∙ ap (λ s. Some (told_name s)) told in
          let held = may_run.buffers k o n at name in
          let q = buffer_here u.machine.sizes u.banks.items fit.placed.tables (bank_of u.machine.sizes o.object) b
          there n held in
          some_there (get b.renaming.buffers n) q.0 q.1

      -- an operand has a record
      viewed : (k : ℕ) (o : Operand) → slice_get (operands_of task) k ≡ Some o
          → (v : OperandView) × (slice_get (views_of slot.0) k ≡ Some v)
      viewed k o at =
          beside_in (operands_of task) (views_of slot.0)
          (sym may_run.storages
          ∙ length-map startable.flying.operands (λ (r : OperandState). stations.storage_of r.source)
          ∙ ap length views_are
          ∙ length-map (views_of slot.0) views.state_of) k o at

      module _ (ss : List Storage) (long : task.count ≤ length ss)
          (found : (k : ℕ) → k < task.count → IsStoredAt (ground_of u) u.stations.slots task k (slice_get ss k)) where
        stored : (k : ℕ) (o : Operand) (at : slice_get (operands_of task) k ≡ Some o)
            → IsStored (ground_of u) o (viewed k o at).0.storage (slice_get ss k)
        stored k o at =
            let within = slice_get_within (operands_of task) k o at in
            let count = may_run.proper.count in
            found k (subst (λ n. k < n) count within) o (viewed k o at).0 at (view_is k ∙ (viewed k o at).1)

        pub holds : HoldsStorages (ground_of u) (new_worker task ss)
        holds k o s at there =
            let x = stored k o at in
            subst (HoldsStorage (ground_of u) o) (same_Some x.storage s (sym x.there ∙ there)) x.held

        names_are : map storage_name (take task.count ss) ≡ stations.storages_of startable.flying
        names_are =
            same_lists (map storage_name (take task.count ss)) (stations.storages_of startable.flying)
            (length-map (take task.count ss) storage_name
            ∙ length-take-le task.count ss long
            ∙ sym may_run.proper.count
            ∙ sym may_run.storages)
            (λ k x y here there.
            let o = beside_in (stations.storages_of startable.flying) (operands_of task) may_run.storages k y there in
            let within = slice_get_within (operands_of task) k o.0 o.1 in
            let s = stored k o.0 o.1 in
            let mine = slice_get-map storage_name (take task.count ss) k s.storage
            (taken_get task.count ss k (subst (λ n. k < n) may_run.proper.count within) ∙ s.there) in
            let its = name_told k (viewed k o.0 o.1).0 (viewed k o.0 o.1).1 in
            same_Some x (storage_name s.storage) (sym here ∙ mine)
            ∙ s.name
            ∙ same_Some (told_name (viewed k o.0 o.1).0.storage) y (sym its ∙ there))

        stand : StandFor (place_of u.banks.items) (stations.storages_of startable.flying)
            (seats_of u.buffers.banks task ss)
        stand =
            subst (λ ns. StandFor (place_of u.banks.items) ns (seats_of u.buffers.banks task ss)) names_are
            (stand_for (place_of u.banks.items) u.buffers.banks task.count (operands_of task) ss may_run.proper.count
            (length-take-le task.count ss long)
            (λ k o s at there. stands_for u fit o s (holds k o s at there)))

        pub works : CanWork u.space.ranges u.buffers task ss
        works = can_work u fit task (stations.storages_of startable.flying) ss may_run stand

        -- ---- after the start

        began_is : after_event u.machine (state_of u) (event.Start w)
            ≡ start_task u.machine (state_of u) w number begins.rest (Some startable.flying)
        unfolding after_event
        began_is =
            ap (after_start u.machine (state_of u) w) queue_is
            ∙ ap (start_task u.machine (state_of u) w number begins.rest) startable.there

        reached_begun : Reached u.machine fit.reached.image
            (start_task u.machine (state_of u) w number begins.rest (Some startable.flying))
        reached_begun =
            subst (Reached u.machine fit.reached.image) began_is
            (reached_after u.machine fit.reached.image (state_of u) (event.Start w) fit.reached.reached may)

        busy_is : busy_of (new_worker task ss) ≡ busy_at_start startable.flying
        busy_is = λ i. cores.busy_with (sym is i) (names_are i)

        module _ (space : Memory) (buffers : BuffersState) (zeroed : Zeroes task ss u.space space u.buffers buffers)
          where
            stores_are : stores_of space buffers
                ≡ outputs_zeroed u.machine.limits (stores_of u.space u.buffers) (operands_of task)
                (seats_of u.buffers.banks task ss)
            stores_are = zeroed.stores u.machine.limits (sym fit.sized.object_bytes)

            agree : StoresAgree (place_of u.banks.items)
                (cores.stores_after_start u.machine.limits (machine.stores_of (state_of u)) startable.flying)
                (outputs_zeroed u.machine.limits (stores_of u.space u.buffers) (operands_of task)
                (seats_of u.buffers.banks task ss))
            agree =
                subst (λ t. StoresAgree (place_of u.banks.items)
                (outputs_zeroed u.machine.limits (machine.stores_of (state_of u)) (operands_of t)
                (stations.storages_of startable.flying))
                (outputs_zeroed u.machine.limits (stores_of u.space u.buffers) (operands_of task)
                (seats_of u.buffers.banks task ss)))
                (sym is)
                (start_agrees (place_of u.banks.items) u.machine.limits (machine.stores_of (state_of u))
                (stores_of u.space u.buffers)
                (operands_of task) (stations.storages_of startable.flying) (seats_of u.buffers.banks task ss) stand
                (record { home = refl; contents = contents_agree u fit u.buffers }))

            contents_begun : contents_of buffers u.banks.items
                ≡ (cores.stores_after_start u.machine.limits (machine.stores_of (state_of u)) startable.flying).contents
            contents_begun =
                contents_back u fit buffers
                (cores.stores_after_start u.machine.limits (machine.stores_of (state_of u)) startable.flying).contents
                (subst (Agree (place_of u.banks.items)
                (cores.stores_after_start u.machine.limits (machine.stores_of (state_of u)) startable.flying).contents)
                (ap (λ (s : Stores). s.contents) (sym stores_are)) agree.contents)
                (λ n bytes at.
                (contents_whole u.machine fit.reached.image
                (start_task u.machine (state_of u) w number begins.rest (Some startable.flying)) n bytes reached_begun
                at).0)

            pub begun_state : (queue : List ℕ) (flight : Numbered Flying) (workers : WorkersState)
                → queue ≡ drop 1 u.queue.tasks
                → flight ≡ started (flight_of u.stations.slots) number
                → workers ≡ record (u.workers) { entries = insert u.workers.entries w (new_worker task ss) }
                → record (state_of u) {
                  queue = queue;
                  flight = flight;
                  workers = workers_of workers.entries;
                  home = space;
                  contents = contents_of buffers u.banks.items;
                } ≡ after_event u.machine (state_of u) (event.Start w)
            begun_state queue flight workers q f b =
                let queued = q ∙ ap (drop 1) queue_is in
                let flies = f ∙ ap (started_by (flight_of u.stations.slots) number) startable.there in
                let busy =
                ap (λ (t : WorkersState). workers_of t.entries) b
                ∙ mapped-insert nat_order busy_of u.workers.entries w (new_worker task ss)
                ∙ ap (insert (workers_of u.workers.entries) w) busy_is in
                let home = ap (λ (s : Stores). s.home) stores_are ∙ agree.home in
                (λ i. record (state_of u) {
                  queue = queued i;
                  flight = flies i;
                  workers = busy i;
                  home = home i;
                  contents = contents_begun i;
                })
                ∙ sym began_is

        -- the new worker's storages are held, and the others' as before
        pub begun_holds : (workers : WorkersState)
            → workers ≡ record (u.workers) { entries = insert u.workers.entries w (new_worker task ss) }
            → (v : ℕ) (y : Worker) → get workers.entries v ≡ Some y → HoldsStorages (ground_of u) y
        begun_holds workers b v y at =
            elim (from_inserted nat_order u.workers.entries w (new_worker task ss) v y
            (ap (λ (t : WorkersState). get t.entries v) (sym b) ∙ at)) [
              | inl new ↦ subst (HoldsStorages (ground_of u)) (sym new.1) holds
              | inr old ↦ fit.placed.workers v y old.1
            ]

pub task_shown : (u : Units) (number : ℕ) (y : Flying) (t : Task) (stage : Stage)
    → get (flight_of u.stations.slots) number ≡ Some y
    → ◌≡◌ {A = Option (Task × Stage)} (Some (t, stage)) (found_in (flight_of u.stations.slots) number) → y.task ≡ t
task_shown u number y t stage there e = shown_by (get (flight_of u.stations.slots) number) y t stage there e
