-- The picked events were done and their lines put; each takes one from what the bound leaves.
use Rattle.std.proofs.Common.{◌-◌}
use Rattle.tss_protocol.specs.Counts.{event_bound}
use Rattle.tss_schedule.specs.Driving.{driven}
use Rattle.tss_schedule.proofs.drives.DrivenSoFar.{HasDriven}
use Rattle.tss_schedule.proofs.driving.drive.Given as goal

abbrev pub invariant-loop-e : goal.invariant-loop-e
invariant-loop-e g l =
    HasDriven g.S.Schedule.picks g.L.Log (driven l.initial.p l.initial.schedule) (driven l.p l.schedule) l.initial.log l.log l.peaks

abbrev pub decreases-loop-e : goal.decreases-loop-e
decreases-loop-e g l = event_bound l.initial.p.machine - l.peaks.events
