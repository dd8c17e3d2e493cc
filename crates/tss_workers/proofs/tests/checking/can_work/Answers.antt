-- What holds of the spots of a task's operands holds of the task.
use Rattle.std.proofs.Common.{◌≤◌, take, rules}
use Rattle.tss_base.specs.declared.bounds.TheConstants.{MAX_OPERANDS}
use Rattle.tss_workers.proofs.CheckLemmas.{can_work_by, are_set_by}
use Rattle.tss_workers.proofs.tests.checking.can_work.Goals as goal

pub returns-clause-works : goal.returns-clause-works
returns-clause-works c works =
    let count : c.args.task.now.count ≤ MAX_OPERANDS = search rules in
    can_work_by c.args.space.now.ranges c.args.buffers.now c.args.task.now c.args.storages.now
    (take c.args.task.now.count c.spots_of-spots.result) c.banks.result c.banks.ensures c.spots_of-spots.ensures
    (c.are_workable.ensures works) count

pub returns-clause-set : goal.returns-clause-set
returns-clause-set c works =
    are_set_by c.args.space.now.ranges c.args.buffers.now c.args.task.now c.args.storages.now
    (take c.args.task.now.count c.spots_of-spots.result) c.banks.result c.banks.ensures c.spots_of-spots.ensures
    (c.are_workable.ensures works)
