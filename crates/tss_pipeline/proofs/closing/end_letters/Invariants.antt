use Rattle.tss_mail.specs.Letters.{mail_of}
use Rattle.tss_protocol.specs.Mail.{message_count}
use Rattle.tss_pipeline.specs.Closing.{AreOfBanks}
use Rattle.tss_pipeline.proofs.closing.end_letters.Given as goal

abbrev pub invariant-loop-name : goal.invariant-loop-name
invariant-loop-name l = AreOfBanks l.initial.sizes l.mail

abbrev pub decreases-loop-name : goal.decreases-loop-name
decreases-loop-name l = message_count (mail_of l.mail)
