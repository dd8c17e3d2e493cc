-- A worker's task goes a stretch further.
use Rattle.std.proofs.Common.{refl, sym, ap, ◌∙◌, subst, option_map}
use Rattle.std.specs.FinMap.{get}
use Rattle.tss_base.specs.declared.event.Event.TheVariants as event
use Rattle.tss_protocol.specs.Workers.{can_exec}
use Rattle.tss_workers.specs.Seen.{busy_of, WhereBusy, CanGoOn, ExecutesIn}
use Rattle.tss_pipeline.specs.Fit.{ground_of}
use Rattle.tss_pipeline.proofs.places.Grounds.{does}
use Rattle.tss_pipeline.proofs.places.Placing.{placed_workers}
use Rattle.tss_pipeline.proofs.worker_rows.BusyLemmas.{passes_not, exec_test, exec_worker}
use Rattle.tss_pipeline.proofs.worker_rows.SeatedTasks.{some_banks}
use Rattle.tss_pipeline.proofs.worker_rows.ExecLemmas.{can_go_on, executed_state, left_holds}
use Rattle.tss_pipeline.proofs.units.Units.exec.Goals as goal

pub exec-requires-clause-banks : goal.exec-requires-clause-banks
exec-requires-clause-banks c = some_banks c.args.self.now c.requires.fit

pub exec-requires-clause-going : goal.exec-requires-clause-going
exec-requires-clause-going c =
    let u = c.args.self.now in
    let x = exec_worker u c.requires.fit c.args.w c.requires.may in
    subst (WhereBusy (CanGoOn u.space.ranges u.buffers)) (sym x.1) (can_go_on u c.requires.fit c.args.w x.0 x.1)

pub unreachable-requires : goal.unreachable-requires
unreachable-requires c =
    passes_not (can_exec (option_map busy_of (get c.args.self.now.workers.entries c.args.w)))
    (exec_test c.args.self.now c.requires.fit c.args.w c.requires.may) (c.in-Err.ensures.blocked.0 refl)

pub returns : goal.returns
returns c =
    let u = c.args.self.now in
    let w = c.args.w in
    let fit = c.requires.fit in
    let sized = fit.sized in
    let x = exec_worker u fit w c.requires.may in
    let e = subst (λ o. ExecutesIn w u.code u.machine.limits.task_budget u.machine.sizes.quantum u.workers
    c.exec.new.self o
    u.space c.exec.new.space u.buffers c.exec.new.buffers) x.1 c.in-Ok.ensures.exact in
    let sizes = e.executes.sizes in
    does (event.Exec w) u _ fit c.requires.may refl
    (executed_state u fit w x.0 x.1 c.requires.may c.exec.new.self c.exec.new.space c.exec.new.buffers e)
    (record {
      limits = sized.limits;
      window = sized.window;
      stations = sized.stations;
      queue = sized.queue;
      workers = ap (λ t. t.size) e.workers ∙ sized.workers;
      mail = sized.mail;
      banks = sized.banks;
      buffer_banks = sizes.banks ∙ sized.buffer_banks;
      buffers = sizes.each ∙ sized.buffers;
      object_bytes = sizes.bytes ∙ sized.object_bytes;
    })
    (placed_workers (ground_of u) c.exec.new.self.entries fit.placed
    (left_holds u fit w x.0 x.1 c.requires.may c.exec.new.self c.exec.new.space c.exec.new.buffers e))
