use Rattle.tss_schedule.specs.Driving.{driven}
use Rattle.tss_unit_runs.proofs.OverLemmas.{over_after, finishes_ok, finishes_err}
use Rattle.tss_unit_runs.proofs.running.finish.Goals as goal

pub invariant_of-result : goal.invariant_of-result
invariant_of-result g c =
    over_after g.S.Schedule.picks g.L.Log (driven c.args.pipeline c.args.schedule.now) (driven c.drive.new.p c.drive.new.schedule)
    c.args.log.now c.drive.new.log c.args.image c.in-Ok.peaks c.entry-entry.ensures.accepted c.requires
    c.reached.ensures.reached.reached.admissible c.in-Ok.ensures.in_order c.in-Ok.ensures.run

pub returns-in-Ok : goal.returns-in-Ok
returns-in-Ok g c =
    finishes_ok g.S.Schedule.picks g.L.Log (driven c.args.pipeline c.args.schedule.now) (driven c.drive.new.p c.drive.new.schedule)
    c.args.log.now c.drive.new.log c.args.image c.entry-entry.ensures.accepted c.requires c.in-Ok.peaks c.in-Ok.ensures.run

pub returns-in-Err : goal.returns-in-Err
returns-in-Err g c =
    finishes_err g.S.Schedule.picks g.L.Log (driven c.args.pipeline c.args.schedule.now) (driven c.drive.new.p c.drive.new.schedule)
    c.args.log.now c.drive.new.log c.args.image c.entry-entry.ensures.accepted c.requires c.in-Err.fault c.in-Err.ensures.run
