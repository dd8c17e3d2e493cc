-- The front task of the queue runs on an idle worker.
use Rattle.std.proofs.Common.{◌≤◌, length, refl, ap, ◌∙◌, subst, arith, ◌<◌}
use Rattle.std.specs.FinMap.{get}
use Rattle.tss_base.specs.declared.event.Event.TheVariants as event
use Rattle.tss_stations.specs.Views.{flight_of}
use Rattle.tss_pipeline.specs.Fit.{ground_of}
use Rattle.tss_pipeline.proofs.places.Grounds.{does}
use Rattle.tss_pipeline.proofs.places.Placing.{placed_workers}
use Rattle.tss_pipeline.proofs.worker_rows.SeatedTasks.{some_banks}
use Rattle.tss_pipeline.proofs.worker_rows.StorageLemmas.{idle_not_busy}
use Rattle.tss_pipeline.proofs.worker_rows.TaskStarts.{begins, start_within, not_empty, startable, not_lost, task_shown, task_few, listed_few, are_held, works, begun_state, begun_holds}
use Rattle.tss_pipeline.proofs.units.Units.start.Goals as goal

pub unreachable-requires : goal.unreachable-requires
unreachable-requires c = not_empty c.args.self.now c.requires.fit c.args.w c.requires.may c.in_default.ensures.exact

pub unreachable-requires-in_default-find : goal.unreachable-requires-in_default-find
unreachable-requires-in_default-find c =
    not_lost c.args.self.now c.requires.fit c.args.w c.requires.may c.in-Some.number c.in-Some.ensures.exact
    c.in_default-find.ensures

pub storages_of-storages-requires-clause-some : goal.storages_of-storages-requires-clause-some
storages_of-storages-requires-clause-some c =
    subst (λ n. 0 < n) c.requires.fit.sized.buffer_banks (some_banks c.args.self.now c.requires.fit)

pub storages_of-storages-requires-clause-count : goal.storages_of-storages-requires-clause-count
storages_of-storages-requires-clause-count c =
    let u = c.args.self.now in
    let x = startable u c.requires.fit c.args.w c.requires.may c.in-Some.number c.in-Some.ensures.exact in
    task_few u c.requires.fit c.args.w c.requires.may c.in-Some.number c.in-Some.ensures.exact c.in-Some-find.task.now
    (task_shown u c.in-Some.number x.flying c.in-Some-find.task.now c.in-Some-find.field-0-1 x.there
    c.in-Some-find.ensures)

pub storages_of-storages-requires-clause-held : goal.storages_of-storages-requires-clause-held
storages_of-storages-requires-clause-held c =
    let u = c.args.self.now in
    let x = startable u c.requires.fit c.args.w c.requires.may c.in-Some.number c.in-Some.ensures.exact in
    are_held u c.requires.fit c.args.w c.requires.may c.in-Some.number c.in-Some.ensures.exact c.in-Some-find.task.now
    (task_shown u c.in-Some.number x.flying c.in-Some-find.task.now c.in-Some-find.field-0-1 x.there
    c.in-Some-find.ensures)

pub start-requires-clause-worker : goal.start-requires-clause-worker
start-requires-clause-worker c = start_within c.args.self.now c.requires.fit c.args.w c.requires.may

pub start-requires-clause-banks : goal.start-requires-clause-banks
start-requires-clause-banks c = some_banks c.args.self.now c.requires.fit

pub start-requires-clause-listed : goal.start-requires-clause-listed
start-requires-clause-listed c =
    let u = c.args.self.now in
    let x = startable u c.requires.fit c.args.w c.requires.may c.in-Some.number c.in-Some.ensures.exact in
    listed_few u c.requires.fit c.args.w c.requires.may c.in-Some.number c.in-Some.ensures.exact c.in-Some-find.task.now
    (task_shown u c.in-Some.number x.flying c.in-Some-find.task.now c.in-Some-find.field-0-1 x.there
    c.in-Some-find.ensures)

pub start-requires-clause-works : goal.start-requires-clause-works
start-requires-clause-works c =
    let u = c.args.self.now in
    let x = startable u c.requires.fit c.args.w c.requires.may c.in-Some.number c.in-Some.ensures.exact in
    let is = task_shown u c.in-Some.number x.flying c.in-Some-find.task.now c.in-Some-find.field-0-1 x.there
    c.in-Some-find.ensures in
    let few = task_few u c.requires.fit c.args.w c.requires.may c.in-Some.number c.in-Some.ensures.exact
    c.in-Some-find.task.now is in
    let long : c.in-Some-find.task.now.count ≤ length c.storages_of-storages.result = omega (arith, few) in
    works u c.requires.fit c.args.w c.requires.may c.in-Some.number c.in-Some.ensures.exact c.in-Some-find.task.now is
    c.storages_of-storages.result long c.storages_of-storages.ensures

pub unreachable-requires-in-Err : goal.unreachable-requires-in-Err
unreachable-requires-in-Err c =
    idle_not_busy (get c.args.self.now.workers.entries c.args.w)
    (begins c.args.self.now c.requires.fit c.args.w c.requires.may).idle (c.in-Err.ensures.blocked.0 refl)

pub returns : goal.returns
returns c =
    let u = c.args.self.now in
    let w = c.args.w in
    let fit = c.requires.fit in
    let sized = fit.sized in
    let x = startable u c.requires.fit c.args.w c.requires.may c.in-Some.number c.in-Some.ensures.exact in
    let is = task_shown u c.in-Some.number x.flying c.in-Some-find.task.now c.in-Some-find.field-0-1 x.there
    c.in-Some-find.ensures in
    let few = task_few u c.requires.fit c.args.w c.requires.may c.in-Some.number c.in-Some.ensures.exact
    c.in-Some-find.task.now is in
    let long : c.in-Some-find.task.now.count ≤ length c.storages_of-storages.result = omega (arith, few) in
    let zeroed = c.in-Ok.ensures.zeroed in
    let begun = c.in-Ok.ensures.begun in
    let sizes = zeroed.sizes in
    does (event.Start w) u _ fit c.requires.may refl
    (begun_state u fit w c.requires.may c.in-Some.number c.in-Some.ensures.exact c.in-Some-find.task.now is
    c.storages_of-storages.result long c.storages_of-storages.ensures c.start.new.space c.start.new.buffers zeroed
    c.pop.new.self.tasks (flight_of c.begin.new.self.slots) c.start.new.self
    (ap (λ q. q.tasks) c.pop.ensures.rest) c.begin.ensures.flight begun)
    (record {
      limits = sized.limits;
      window = sized.window;
      stations = ap (λ s. s.sizes) c.begin.ensures.exact ∙ sized.stations;
      queue = ap (λ q. q.size) c.pop.ensures.rest ∙ sized.queue;
      workers = ap (λ t. t.size) begun ∙ sized.workers;
      mail = sized.mail;
      banks = sized.banks;
      buffer_banks = sizes.banks ∙ sized.buffer_banks;
      buffers = sizes.each ∙ sized.buffers;
      object_bytes = sizes.bytes ∙ sized.object_bytes;
    })
    (placed_workers (ground_of u) c.start.new.self.entries fit.placed
    (begun_holds u fit w c.requires.may c.in-Some.number c.in-Some.ensures.exact c.in-Some-find.task.now is
    c.storages_of-storages.result long c.storages_of-storages.ensures c.start.new.self begun))
