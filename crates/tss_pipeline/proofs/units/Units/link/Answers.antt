-- What the operand of a link passes on may be sent.
use Rattle.std.proofs.Common.{sym, ap, ◌∙◌}
use Rattle.tss_mail.specs.Letters.{MailState}
use Rattle.tss_base.specs.declared.event.Event.TheVariants as event
use Rattle.tss_pipeline.proofs.front_rows.StationLemmas.{sent_fresh, sent_room, link_there, link_sent, does_link}
use Rattle.tss_pipeline.proofs.units.Units.link.Goals as goal

pub take_link-next-requires : goal.take_link-next-requires
take_link-next-requires c = link_there c.args.self.now c.args.o c.requires.fit c.requires.may

pub post_all-requires-clause-fresh : goal.post_all-requires-clause-fresh
post_all-requires-clause-fresh c =
    sent_fresh (event.Link c.args.o) c.args.self.now c.requires.fit c.requires.may c.take_link-next.new.mail
    c.link-sent.result c.take_link-next.ensures.taken
    (c.link-sent.ensures.sent
    ∙ sym (link_sent c.args.self.now c.args.o c.requires.fit c.requires.may c.take_link-next.result
    c.take_link-next.ensures.exact))

pub post_all-requires-clause-room : goal.post_all-requires-clause-room
post_all-requires-clause-room c =
    sent_room (event.Link c.args.o) c.args.self.now c.requires.fit c.requires.may c.take_link-next.new.mail
    c.link-sent.result c.take_link-next.ensures.taken
    (c.link-sent.ensures.sent
    ∙ sym (link_sent c.args.self.now c.args.o c.requires.fit c.requires.may c.take_link-next.result
    c.take_link-next.ensures.exact))
    (ap (λ (m : MailState). m.size) c.take_link-next.ensures.others)

pub returns : goal.returns
returns c =
    does_link c.args.self.now c.args.o c.requires.fit c.requires.may c.take_link-next.result c.take_link-next.ensures.exact
    c.link-sent.new.self c.take_link-next.new.mail c.post_all.new.mail c.link-sent.result c.link-sent.ensures.exact
    c.link-sent.ensures.flight c.link-sent.ensures.messages c.link-sent.ensures.sent c.take_link-next.ensures.others
    c.take_link-next.ensures.taken c.post_all.ensures.exact c.post_all.ensures.posted
