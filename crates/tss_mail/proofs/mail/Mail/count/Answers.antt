-- The count is that of the tables.
use Rattle.std.proofs.Common.{sym, ap, ◌∙◌, arith}
use Rattle.tss_protocol.specs.Mail.{message_count}
use Rattle.tss_mail.specs.Letters.{mail_of}
use Rattle.tss_mail.proofs.TableLemmas.{counted}
use Rattle.tss_mail.proofs.mail.Mail.count.Goals as goal

pub returns-clause-exact : goal.returns-clause-exact
returns-clause-exact c =
    c.self.invariant.count
    ∙ sym (counted c.self.inside.size c.self.inside.tables.items c.self.invariant.tables)
    ∙ ap (λ m. message_count (mail_of m)) c.self.view_is

pub returns-clause-within : goal.returns-clause-within
returns-clause-within c =
    let w = c.self.invariant.within in let s = ap (λ m. m.size) c.self.view_is in omega (arith, w, s)
