-- A stretch of a busy worker over storages by places is that of the definitions over names.
use Rattle.std.proofs.Common.{◌≡◌, ℕ, take, Some, refl, sym, ap, ◌∙◌, subst, inl, inr}
use Rattle.std.specs.FinMap.{get, insert}
use Rattle.std.proofs.lemmas.List.{length-map}
use Rattle.tss_base.specs.declared.event.Event.TheVariants as event
use Rattle.tss_maps.proofs.Keys.{nat_order}
use Rattle.tss_maps.proofs.Changes.{from_inserted}
use Rattle.tss_maps.proofs.MappedLemmas.{mapped-insert}
use Rattle.tss_model.specs.Memory.{Memory}
use Rattle.tss_model.specs.Access.{operands_of}
use Rattle.tss_model.specs.TaskRun.{TaskState}
use Rattle.tss_events.specs.Events.{storage_name}
use Rattle.tss_protocol.specs.Workers.{Stores, exec_stretch, busy_after}
use Rattle.tss_protocol.specs.UnitMachine as machine
use Rattle.tss_protocol.specs.UnitMachine.{after_event, after_exec, with_executed}
use Rattle.tss_buffers.specs.Contents.{BuffersState}
use Rattle.tss_workers.specs.declared.running.Worker.{Worker}
use Rattle.tss_workers.specs.Seats.{seats_of}
use Rattle.tss_workers.specs.Spots.{stores_of}
use Rattle.tss_workers.specs.Seen.{WorkersState, busy_of, seated_of, workers_of, CanGoOn, ExecutesBy, worker_after}
use Rattle.tss_workers.specs.Agreement.{Agree, StandFor, TasksAgree}
use Rattle.tss_workers.proofs.AgreementLemmas.{exec_agrees}
use Rattle.tss_conditions.specs.Reached.{Reached}
use Rattle.tss_conditions.proofs.Known.{reached_after}
use Rattle.tss_conditions.proofs.Filling.{contents_whole}
use Rattle.tss_pipeline.specs.declared.units.Units.{Units}
use Rattle.tss_pipeline.specs.State.{state_of, contents_of}
use Rattle.tss_pipeline.specs.Does.{May}
use Rattle.tss_pipeline.specs.Fit.{IsFit, ground_of, HoldsStorages}
use Rattle.tss_pipeline.proofs.worker_rows.BufferSeats.{place_of, contents_agree, contents_back}
use Rattle.tss_pipeline.proofs.worker_rows.SeatedTasks.{stand_for, stands_for, can_work, are_set}
use Rattle.tss_pipeline.proofs.worker_rows.BusyLemmas.{busy_there, runs}

module _ (u : Units) (fit : IsFit u) (w : ℕ) (x : Worker) (there : get u.workers.entries w ≡ Some x) where
  -- its places stand for the names
  pub places_stand : StandFor (place_of u.banks.items) (busy_of x).storages (seats_of u.buffers.banks x.task x.storages)
  places_stand =
      let may = (runs u fit w x there).may in
      stand_for (place_of u.banks.items) u.buffers.banks x.task.count (operands_of x.task) x.storages
      may.proper.count
      (sym (length-map (take x.task.count x.storages) storage_name) ∙ may.storages ∙ may.proper.count)
      (λ k o s at stored. stands_for u fit o s (fit.placed.workers w x there k o s at stored))

  pub can_go_on : CanGoOn u.space.ranges u.buffers x
  can_go_on = record {
    works = can_work u fit x.task (busy_of x).storages x.storages (runs u fit w x there).may places_stand;
    set = are_set u fit x.task (busy_of x).storages x.storages (runs u fit w x there).may places_stand
        (runs u fit w x there).set;
  }

  -- ---- the stretch

  abbrev by_names : TaskState Stores
  by_names =
      exec_stretch u.code u.machine.limits u.machine.sizes.quantum (busy_of x) (machine.stores_of (state_of u))

  abbrev by_places : TaskState Stores
  by_places =
      exec_stretch u.code u.machine.limits u.machine.sizes.quantum (seated_of u.buffers.banks x)
      (stores_of u.space u.buffers)

  stretch_agrees : TasksAgree (place_of u.banks.items) by_names by_places
  stretch_agrees =
      exec_agrees (place_of u.banks.items) u.code u.machine.limits u.machine.sizes.quantum (busy_of x)
      (seats_of u.buffers.banks x.task x.storages) (machine.stores_of (state_of u)) (stores_of u.space u.buffers)
      places_stand (record { home = refl; contents = contents_agree u fit u.buffers })

  -- the definitions' state after it
  executed_is : after_event u.machine (state_of u) (event.Exec w)
      ≡ with_executed (state_of u) w (busy_of x) by_names
  unfolding after_event
  executed_is = ap (after_exec u.machine (state_of u) w) (busy_there u fit w x there)

  module _ (may : May (event.Exec w) u) (new : WorkersState) (space : Memory) (buffers : BuffersState)
      (e : ExecutesBy w u.code u.machine.limits.task_budget u.machine.sizes.quantum u.workers new x u.space space
      u.buffers buffers) where
    left_is : e.left ≡ worker_after x by_places
    left_is = e.executes.worker u.machine.limits refl

    stores_are : stores_of space buffers ≡ by_places.memory
    stores_are = e.executes.stores u.machine.limits refl

    busy_left : busy_of e.left ≡ busy_after (busy_of x) by_names
    busy_left =
        let agree = stretch_agrees in
        ap busy_of left_is
        ∙ (λ i. record (busy_of x) { registers = agree.registers i; scratch = agree.scratch i; trap = agree.trap i })

    workers_left : workers_of new.entries ≡ insert (workers_of u.workers.entries) w (busy_after (busy_of x) by_names)
    workers_left =
        ap (λ (t : WorkersState). workers_of t.entries) e.workers
        ∙ mapped-insert nat_order busy_of u.workers.entries w e.left
        ∙ ap (insert (workers_of u.workers.entries) w) busy_left

    home_left : space ≡ by_names.memory.home
    home_left = ap (λ (s : Stores). s.home) stores_are ∙ stretch_agrees.memory.home

    reached_executed : Reached u.machine fit.reached.image (with_executed (state_of u) w (busy_of x) by_names)
    reached_executed =
        subst (Reached u.machine fit.reached.image) executed_is
        (reached_after u.machine fit.reached.image (state_of u) (event.Exec w) fit.reached.reached may)

    contents_left : contents_of buffers u.banks.items ≡ by_names.memory.contents
    contents_left =
        contents_back u fit buffers by_names.memory.contents
        (subst (Agree (place_of u.banks.items) by_names.memory.contents)
        (ap (λ (s : Stores). s.contents) (sym stores_are)) stretch_agrees.memory.contents)
        (λ n bytes at.
        (contents_whole u.machine fit.reached.image (with_executed (state_of u) w (busy_of x) by_names)
        n bytes reached_executed at).0)

    pub executed_state : record (state_of u) {
      workers = workers_of new.entries;
      home = space;
      contents = contents_of buffers u.banks.items;
    } ≡ after_event u.machine (state_of u) (event.Exec w)
    executed_state =
        (λ i. record (state_of u) { workers = workers_left i; home = home_left i; contents = contents_left i })
        ∙ sym executed_is

    -- the worker has its storages still
    pub left_holds : (v : ℕ) (y : Worker) → get new.entries v ≡ Some y → HoldsStorages (ground_of u) y
    left_holds v y at = elim (from_inserted nat_order u.workers.entries w e.left v y
        (ap (λ (t : WorkersState). get t.entries v) (sym e.workers) ∙ at)) [
          | inl is ↦ subst (HoldsStorages (ground_of u)) (sym left_is ∙ sym is.1) (fit.placed.workers w x there)
          | inr old ↦ fit.placed.workers v y old.1
        ]
