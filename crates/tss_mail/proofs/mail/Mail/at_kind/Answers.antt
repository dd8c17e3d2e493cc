-- The name is that of the kind's table.
use Rattle.std.proofs.Common.{Some, sym, ap, ◌∙◌, option_map}
use Rattle.std.specs.Prelude.{slice_get}
use Rattle.tss_mail.specs.Letters.{mail_of}
use Rattle.tss_mail.specs.Kinds.{event_of}
use Rattle.tss_mail.specs.KindNames.{names_of_kind}
use Rattle.tss_mail.proofs.KeptLemmas.{now_in}
use Rattle.tss_mail.proofs.KindLemmas.{named_of}
use Rattle.tss_mail.proofs.mail.Mail.at_kind.Goals as goal

pub returns-in-Some : goal.returns-in-Some
returns-in-Some c =
    let at = now_in c.self.inside.size c.self.inside.count c.self.inside.tables.items c.self.invariant c.args.kind c.number.result c.number.ensures.exact c.index.result.now c.index.ensures in
    ap Some c.event.ensures
    ∙ ap (option_map (λ o. event_of c.args.kind o)) (sym c.in-Some.is ∙ c.key_at.ensures)
    ∙ sym (named_of c.self.inside.size c.self.inside.tables.items c.args.kind c.index.result.now c.args.i (ap (λ t. t.entries) at))
    ∙ ap (λ m. slice_get (names_of_kind (mail_of m) c.args.kind) c.args.i) c.self.view_is

pub returns-in-None : goal.returns-in-None
returns-in-None c =
    let at = now_in c.self.inside.size c.self.inside.count c.self.inside.tables.items c.self.invariant c.args.kind c.number.result c.number.ensures.exact c.index.result.now c.index.ensures in
    ap (option_map (λ o. event_of c.args.kind o)) (sym c.in-None.is ∙ c.key_at.ensures)
    ∙ sym (named_of c.self.inside.size c.self.inside.tables.items c.args.kind c.index.result.now c.args.i (ap (λ t. t.entries) at))
    ∙ ap (λ m. slice_get (names_of_kind (mail_of m) c.args.kind) c.args.i) c.self.view_is
