-- The place is counted from this table on.
use Rattle.std.proofs.Common.{◌≡◌, drop, slice_get}
use Rattle.tss_protocol.specs.Mail.{message_names}
use Rattle.tss_mail.specs.Letters.{mail_of}
use Rattle.tss_mail.proofs.Naming.{names_from}
use Rattle.tss_mail.proofs.mail.Mail.at.Given as goal

abbrev pub invariant-loop-number : goal.invariant-loop-number
invariant-loop-number l =
    slice_get (names_from l.number (drop l.number l.self-inside.tables.items)) l.place
    ≡ slice_get (message_names (mail_of l.initial.self)) l.i
