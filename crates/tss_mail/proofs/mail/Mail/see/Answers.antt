-- The message of a name is the one in its kind's table.
use Rattle.std.proofs.Common.{sym, ap, ◌∙◌, option_map}
use Rattle.tss_protocol.specs.Mail.{message_at}
use Rattle.tss_events.specs.Events.{message_of}
use Rattle.tss_mail.specs.Letters.{mail_of, letter_at}
use Rattle.tss_mail.proofs.TableLemmas.{event_of_address}
use Rattle.tss_mail.proofs.KeptLemmas.{letter_now, message_now, seen_twice}
use Rattle.tss_mail.proofs.mail.Mail.see.Goals as goal

pub returns-clause-exact : goal.returns-clause-exact
returns-clause-exact c =
    c.get.ensures
    ∙ sym (letter_now c.self.inside.size c.self.inside.count c.self.inside.tables.items c.self.invariant c.in_ok-kind.kind c.number.result c.number.ensures.exact c.index.result.now c.index.ensures c.in_ok-kind.o)
    ∙ (λ i. letter_at (c.self.view_is i) (sym (event_of_address c.args.name.now (c.in_ok-kind.kind, c.in_ok-kind.o) (sym c.address_of.ensures ∙ c.in_ok-kind.was)) i))

pub returns-clause-message : goal.returns-clause-message
returns-clause-message c =
    seen_twice c.get.result
    ∙ ap (option_map message_of) c.get.ensures
    ∙ sym (message_now c.self.inside.size c.self.inside.count c.self.inside.tables.items c.self.invariant c.in_ok-kind.kind c.number.result c.number.ensures.exact c.index.result.now c.index.ensures c.in_ok-kind.o)
    ∙ (λ i. message_at (mail_of (c.self.view_is i)) (sym (event_of_address c.args.name.now (c.in_ok-kind.kind, c.in_ok-kind.o) (sym c.address_of.ensures ∙ c.in_ok-kind.was)) i))
