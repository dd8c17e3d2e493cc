-- The messages that are left may be posted, and with them it is the mail of the end.
use Rattle.std.proofs.Common.{◌≡◌, length}
use Rattle.tss_protocol.specs.Mail.{posted_all}
use Rattle.tss_events.specs.Events.{messages_of}
use Rattle.tss_mail.specs.Letters.{mail_of}
use Rattle.tss_conditions.specs.Posting.{MayPostAll}
use Rattle.tss_pipeline.specs.Letters.{with_letters}
use Rattle.tss_pipeline.proofs.posting.post_all.Given as goal

abbrev pub invariant-loop-message : goal.invariant-loop-message
invariant-loop-message l = record {
  size : l.mail.size ≡ l.initial.mail.size;
  may : MayPostAll l.mail.size (mail_of l.mail) (messages_of l.sent);
  letters : with_letters l.mail l.sent ≡ with_letters l.initial.mail l.initial.sent;
  posted : posted_all (mail_of l.mail) (messages_of l.sent)
      ≡ posted_all (mail_of l.initial.mail) (messages_of l.initial.sent);
}

abbrev pub decreases-loop-message : goal.decreases-loop-message
decreases-loop-message l = length l.sent
