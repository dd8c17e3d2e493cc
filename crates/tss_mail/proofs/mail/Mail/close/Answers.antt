-- Each table is empty, as all are together.
use Rattle.std.proofs.Common.{sym, ap, ◌∙◌}
use Rattle.tss_protocol.specs.Mail.{message_count}
use Rattle.tss_mail.specs.Letters.{mail_of}
use Rattle.tss_mail.proofs.TableLemmas.{counted}
use Rattle.tss_mail.proofs.KeptLemmas.{none_in}
use Rattle.tss_mail.proofs.mail.Mail.close.Goals as goal

pub close_all-requires : goal.close_all-requires
close_all-requires c = none_in c.self.inside.tables.items
    (sym (counted c.self.inside.size c.self.inside.tables.items c.self.invariant.tables)
    ∙ ap (λ m. message_count (mail_of m)) c.self.view_is
    ∙ c.requires)
