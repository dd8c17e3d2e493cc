-- The operand of a ready waits to be told, and what it passes on may be sent.
use Rattle.std.proofs.Common.{sym, ap, ◌∙◌}
use Rattle.tss_mail.specs.Letters.{MailState}
use Rattle.tss_base.specs.declared.event.Event.TheVariants as event
use Rattle.tss_pipeline.proofs.front_rows.StationLemmas.{sent_fresh, sent_room, ready_there, ready_sent, ready_room, does_ready}
use Rattle.tss_pipeline.proofs.units.Units.ready.Goals as goal

pub take_ready-storage-requires : goal.take_ready-storage-requires
take_ready-storage-requires c = ready_there c.args.self.now c.args.o c.requires.fit c.requires.may

pub queue_where-requires : goal.queue_where-requires
queue_where-requires c = λ complete.
    let r = c.take_ready-storage.result in
    ready_room c.args.self.now c.args.o c.requires.fit c.requires.may r.0 r.1 c.take_ready-storage.ensures.exact
    (sym c.ready-sent.ensures.queued ∙ complete)

pub post_all-requires-clause-fresh : goal.post_all-requires-clause-fresh
post_all-requires-clause-fresh c =
    let r = c.take_ready-storage.result in
    sent_fresh (event.Ready c.args.o) c.args.self.now c.requires.fit c.requires.may c.take_ready-storage.new.mail
    c.ready-sent.result.0 c.take_ready-storage.ensures.taken
    (c.ready-sent.ensures.sent
    ∙ sym (ready_sent c.args.self.now c.args.o c.requires.fit c.requires.may r.0 r.1 c.take_ready-storage.ensures.exact))

pub post_all-requires-clause-room : goal.post_all-requires-clause-room
post_all-requires-clause-room c =
    let r = c.take_ready-storage.result in
    sent_room (event.Ready c.args.o) c.args.self.now c.requires.fit c.requires.may c.take_ready-storage.new.mail
    c.ready-sent.result.0 c.take_ready-storage.ensures.taken
    (c.ready-sent.ensures.sent
    ∙ sym (ready_sent c.args.self.now c.args.o c.requires.fit c.requires.may r.0 r.1 c.take_ready-storage.ensures.exact))
    (ap (λ (m : MailState). m.size) c.take_ready-storage.ensures.others)

pub returns : goal.returns
returns c =
    let r = c.take_ready-storage.result in
    does_ready c.args.self.now c.args.o c.requires.fit c.requires.may r.0 r.1 c.take_ready-storage.ensures.exact
    c.ready-sent.new.self c.queue_where.new.queue c.take_ready-storage.new.mail c.post_all.new.mail c.ready-sent.result.0
    c.ready-sent.result.1 c.ready-sent.ensures.exact c.ready-sent.ensures.flight c.ready-sent.ensures.messages
    c.ready-sent.ensures.sent c.ready-sent.ensures.queued c.queue_where.ensures c.take_ready-storage.ensures.others
    c.take_ready-storage.ensures.taken c.post_all.ensures.exact c.post_all.ensures.posted
