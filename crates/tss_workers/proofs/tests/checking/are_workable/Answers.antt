-- All that a task needs of its spots.
use Rattle.std.proofs.Common.{sym, ◌∙◌}
use Rattle.tss_workers.proofs.CheckLemmas.{workable_from}
use Rattle.tss_workers.proofs.tests.checking.are_workable.Goals as goal

pub returns : goal.returns
returns c seated =
    workable_from c.args.space.now.ranges c.args.buffers.now c.args.spots.now c.lies_beside.ensures.ranges
    (c.lies_beside.ensures.beside c.if-not-lies_beside.false) (sym c.are_placed.ensures ∙ c.if-not-are_placed.false)
    (c.are_apart.ensures c.if-not-are_apart.false) (c.are_seated.ensures.fits seated) (c.are_seated.ensures.set seated)
