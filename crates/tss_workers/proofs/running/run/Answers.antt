-- A stretch of a worker.
use Rattle.std.proofs.Common.{ℕ, List, None, take, ap, subst, ◌∙◌, rules}
use Rattle.tss_steps.specs.Tasks.{stretch_by, task_now}
use Rattle.tss_workers.specs.Spots.{AreSpotsOf, spot_terms, stores_of}
use Rattle.tss_workers.specs.declared.spots.Spot.{Spot}
use Rattle.tss_workers.proofs.RunLemmas.{executes}
use Rattle.tss_workers.proofs.running.run.Goals as goal

pub returns : goal.returns
returns c =
    let v = c.stretch-worker.new.view in
    let spots : List Spot = take c.args.worker.now.task.count c.spots_of-spots.result in
    let are : AreSpotsOf c.args.buffers.now.banks c.args.worker.now.task c.args.worker.now.storages spots =
    subst (λ (n : ℕ). AreSpotsOf n c.args.worker.now.task c.args.worker.now.storages spots) c.banks.ensures c.spots_of-spots.ensures in
    let done =
    executes c.args.code.now c.args.budget c.args.quantum c.args.worker.now c.args.space.now c.args.buffers.now spots are
    c.requires.further c.stretch-worker.new.regs v.scratch.now v.space.now v.buffers.now c.stretch-worker.result
    (c.stretch-worker.ensures.end ∙ ap (λ n. stretch_by (spot_terms c.args.code.now c.args.space.now.ranges spots) c.args.budget n
    (task_now c.args.worker.now.regs c.args.worker.now.scratch (stores_of c.args.space.now c.args.buffers.now) None)) c.from.ensures)
    c.stretch-worker.ensures.same.sizes c.stretch-worker.ensures.same.ranges in
    search (rules, done)
