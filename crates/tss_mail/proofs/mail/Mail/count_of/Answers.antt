-- There are as many as the kind's table has.
use Rattle.std.proofs.Common.{ap, ◌∙◌, length}
use Rattle.tss_mail.specs.Letters.{mail_of}
use Rattle.tss_mail.specs.KindNames.{names_of_kind}
use Rattle.tss_mail.proofs.KeptLemmas.{now_in}
use Rattle.tss_mail.proofs.KindLemmas.{counted_of}
use Rattle.tss_mail.proofs.mail.Mail.count_of.Goals as goal

pub returns : goal.returns
returns c =
    let at = now_in c.self.inside.size c.self.inside.count c.self.inside.tables.items c.self.invariant c.args.kind c.number.result c.number.ensures.exact c.index.result.now c.index.ensures in
    c.len.ensures.exact
    ∙ counted_of c.self.inside.size c.self.inside.tables.items c.args.kind c.index.result.now (ap (λ t. t.entries) at)
    ∙ ap (λ m. length (names_of_kind (mail_of m) c.args.kind)) c.self.view_is
