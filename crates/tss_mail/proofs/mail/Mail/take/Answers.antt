-- A message less, or none.
use Rattle.std.proofs.Common.{sym, ap, ◌∙◌, option_map}
use Rattle.tss_protocol.specs.Mail.{message_at}
use Rattle.tss_events.specs.Events.{message_of}
use Rattle.tss_mail.specs.Letters.{mail_of, letter_at, without_letter}
use Rattle.tss_mail.proofs.TableLemmas.{event_of_address, taken-without_letter}
use Rattle.tss_mail.proofs.KeptLemmas.{letter_now, message_now, some_before, kept_less, kept_same, seen_less}
use Rattle.tss_mail.proofs.mail.Mail.take.Goals as goal

pub invariant_of-self : goal.invariant_of-self
invariant_of-self c = kept_same c.self.inside.size c.self.inside.count c.self.inside.tables.items c.self.invariant c.in_ok-kind.kind c.in_ok-kind.o c.number.result c.number.ensures.exact c.index_mut.result.now c.index_mut.ensures.value c.remove.new.self c.remove.ensures.others (sym c.remove.ensures.exact ∙ c.in_err-message.was)

pub returns-in_err-message-clause-exact : goal.returns-in_err-message-clause-exact
returns-in_err-message-clause-exact c =
    c.from_residual-in_err-message.ensures ∙ sym c.in_err-message.was ∙ c.remove.ensures.exact
    ∙ sym (letter_now c.self.inside.size c.self.inside.count c.self.inside.tables.items c.self.invariant c.in_ok-kind.kind c.number.result c.number.ensures.exact c.index_mut.result.now c.index_mut.ensures.value c.in_ok-kind.o)
    ∙ (λ i. letter_at (c.self.view_is i) (sym (event_of_address c.args.name.now (c.in_ok-kind.kind, c.in_ok-kind.o) (sym c.address_of.ensures ∙ c.in_ok-kind.was)) i))

pub returns-in_err-message-clause-others : goal.returns-in_err-message-clause-others
returns-in_err-message-clause-others c =
    seen_less c.self.inside.size c.self.inside.count c.self.inside.tables.items c.self.invariant c.in_ok-kind.kind c.in_ok-kind.o c.number.result c.number.ensures.exact c.index_mut.result.now c.index_mut.ensures.value c.remove.new.self c.remove.ensures.others
    ∙ (λ i. without_letter (c.self.view_is i) (sym (event_of_address c.args.name.now (c.in_ok-kind.kind, c.in_ok-kind.o) (sym c.address_of.ensures ∙ c.in_ok-kind.was)) i))

pub returns-in_err-message-clause-message : goal.returns-in_err-message-clause-message
returns-in_err-message-clause-message c =
    ap (option_map message_of) (c.from_residual-in_err-message.ensures ∙ sym c.in_err-message.was ∙ c.remove.ensures.exact)
    ∙ sym (message_now c.self.inside.size c.self.inside.count c.self.inside.tables.items c.self.invariant c.in_ok-kind.kind c.number.result c.number.ensures.exact c.index_mut.result.now c.index_mut.ensures.value c.in_ok-kind.o)
    ∙ (λ i. message_at (mail_of (c.self.view_is i)) (sym (event_of_address c.args.name.now (c.in_ok-kind.kind, c.in_ok-kind.o) (sym c.address_of.ensures ∙ c.in_ok-kind.was)) i))

pub returns-in_err-message-clause-taken : goal.returns-in_err-message-clause-taken
returns-in_err-message-clause-taken c =
    ap mail_of (returns-in_err-message-clause-others c) ∙ taken-without_letter c.args.self.now c.args.name.now

pub overflow_sub-self : goal.overflow_sub-self
overflow_sub-self c = some_before c.self.inside.size c.self.inside.count c.self.inside.tables.items c.self.invariant c.in_ok-kind.kind c.in_ok-kind.o c.number.result c.number.ensures.exact c.index_mut.result.now c.index_mut.ensures.value c.remove.new.self c.remove.ensures.others c.in_ok-message.message (sym c.remove.ensures.exact ∙ c.in_ok-message.was)

pub invariant_of-self-2 : goal.invariant_of-self-2
invariant_of-self-2 c = kept_less c.self.inside.size c.self.inside.count c.self.inside.tables.items c.self.invariant c.in_ok-kind.kind c.in_ok-kind.o c.number.result c.number.ensures.exact c.index_mut.result.now c.index_mut.ensures.value c.remove.new.self c.remove.ensures.others c.in_ok-message.message (sym c.remove.ensures.exact ∙ c.in_ok-message.was)

pub returns-clause-exact : goal.returns-clause-exact
returns-clause-exact c =
    sym c.in_ok-message.was ∙ c.remove.ensures.exact
    ∙ sym (letter_now c.self.inside.size c.self.inside.count c.self.inside.tables.items c.self.invariant c.in_ok-kind.kind c.number.result c.number.ensures.exact c.index_mut.result.now c.index_mut.ensures.value c.in_ok-kind.o)
    ∙ (λ i. letter_at (c.self.view_is i) (sym (event_of_address c.args.name.now (c.in_ok-kind.kind, c.in_ok-kind.o) (sym c.address_of.ensures ∙ c.in_ok-kind.was)) i))

pub returns-clause-others : goal.returns-clause-others
returns-clause-others c =
    seen_less c.self.inside.size c.self.inside.count c.self.inside.tables.items c.self.invariant c.in_ok-kind.kind c.in_ok-kind.o c.number.result c.number.ensures.exact c.index_mut.result.now c.index_mut.ensures.value c.remove.new.self c.remove.ensures.others
    ∙ (λ i. without_letter (c.self.view_is i) (sym (event_of_address c.args.name.now (c.in_ok-kind.kind, c.in_ok-kind.o) (sym c.address_of.ensures ∙ c.in_ok-kind.was)) i))

pub returns-clause-message : goal.returns-clause-message
returns-clause-message c =
    ap (option_map message_of) (sym c.in_ok-message.was ∙ c.remove.ensures.exact)
    ∙ sym (message_now c.self.inside.size c.self.inside.count c.self.inside.tables.items c.self.invariant c.in_ok-kind.kind c.number.result c.number.ensures.exact c.index_mut.result.now c.index_mut.ensures.value c.in_ok-kind.o)
    ∙ (λ i. message_at (mail_of (c.self.view_is i)) (sym (event_of_address c.args.name.now (c.in_ok-kind.kind, c.in_ok-kind.o) (sym c.address_of.ensures ∙ c.in_ok-kind.was)) i))

pub returns-clause-taken : goal.returns-clause-taken
returns-clause-taken c =
    ap mail_of (returns-clause-others c) ∙ taken-without_letter c.args.self.now c.args.name.now
