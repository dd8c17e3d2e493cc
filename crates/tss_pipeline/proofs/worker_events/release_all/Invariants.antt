-- The releases from the place on may be posted, and with them it is the mail of the end.
use Rattle.std.proofs.Common.{◌≡◌, ◌-◌, ◌≤◌}
use Rattle.std.specs.FinMap.{get}
use Rattle.tss_base.specs.declared.bounds.TheConstants.{MAX_OPERANDS}
use Rattle.tss_protocol.specs.Mail.{posted_all}
use Rattle.tss_protocol.specs.Stations.{flight_after_finish}
use Rattle.tss_stations.specs.Views.{flight_of}
use Rattle.tss_mail.specs.Letters.{mail_of}
use Rattle.tss_conditions.specs.Posting.{MayPostAll}
use Rattle.tss_pipeline.specs.Ending.{releases_in}
use Rattle.tss_pipeline.proofs.worker_events.release_all.Given as goal

abbrev pub invariant-loop-place : goal.invariant-loop-place
invariant-loop-place l = record {
  few : l.place ≤ MAX_OPERANDS;
  may : MayPostAll l.initial.mail.size (mail_of l.mail)
      (releases_in l.task l.place (get (flight_of l.stations.slots) l.task));
  posted : posted_all (mail_of l.mail) (releases_in l.task l.place (get (flight_of l.stations.slots) l.task))
      ≡ posted_all (mail_of l.initial.mail) (flight_after_finish (flight_of l.stations.slots) l.task).sent;
  rest : l.mail ≡ record (l.initial.mail) { releases = l.mail.releases };
}

abbrev pub decreases-loop-place : goal.decreases-loop-place
decreases-loop-place l = MAX_OPERANDS - l.place
