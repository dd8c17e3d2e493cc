-- A version that asks is answered.
use Rattle.std.proofs.Common.{ap, ◌∙◌}
use Rattle.tss_base.specs.declared.event.Event.TheVariants as event
use Rattle.tss_protocol.specs.Mail.{posted_all}
use Rattle.tss_events.specs.Events.{messages_of}
use Rattle.tss_pipeline.specs.Letters.{with_letters}
use Rattle.tss_pipeline.proofs.renaming_rows.RenamingBanks.{some_banks}
use Rattle.tss_pipeline.proofs.renaming_rows.RenamedState.{sent_fresh, sent_room}
use Rattle.tss_pipeline.proofs.renaming_rows.IdleLemmas.{idle_letter, idle_sent, idle_does}
use Rattle.tss_pipeline.proofs.units.Units.idle.Goals as goal

pub take_idle-base-requires : goal.take_idle-base-requires
take_idle-base-requires c = idle_letter c.args.self.now c.args.v c.requires.may

pub bank_of-bank-requires-clause-some : goal.bank_of-bank-requires-clause-some
bank_of-bank-requires-clause-some c = some_banks c.args.self.now c.requires.fit

pub post_all-requires-clause-fresh : goal.post_all-requires-clause-fresh
post_all-requires-clause-fresh c =
    sent_fresh c.args.self.now c.requires.fit (event.Idle c.args.v) c.requires.may c.take_idle-base.new.mail
    (ap (λ m. m.size) c.take_idle-base.ensures.others) c.take_idle-base.ensures.taken c.idle-sent.result
    (idle_sent c.args.self.now c.requires.fit c.args.v c.take_idle-base.result.0 c.take_idle-base.result.1
    c.take_idle-base.ensures.exact c.index_mut.result.now c.bank_of-bank.result c.bank_of-bank.ensures.exact
    c.bank_of-bank.ensures.within c.index_mut.ensures.value c.idle-sent.result
    c.idle-sent.ensures.sent)

pub post_all-requires-clause-room : goal.post_all-requires-clause-room
post_all-requires-clause-room c =
    sent_room c.args.self.now c.requires.fit (event.Idle c.args.v) c.requires.may c.take_idle-base.new.mail
    (ap (λ m. m.size) c.take_idle-base.ensures.others) c.take_idle-base.ensures.taken c.idle-sent.result
    (idle_sent c.args.self.now c.requires.fit c.args.v c.take_idle-base.result.0 c.take_idle-base.result.1
    c.take_idle-base.ensures.exact c.index_mut.result.now c.bank_of-bank.result c.bank_of-bank.ensures.exact
    c.bank_of-bank.ensures.within c.index_mut.ensures.value c.idle-sent.result
    c.idle-sent.ensures.sent)

pub returns : goal.returns
returns c =
    let sent = c.idle-sent.result in
    idle_does c.args.self.now c.requires.fit c.args.v c.take_idle-base.result.0 c.take_idle-base.result.1
    c.take_idle-base.ensures.exact c.index_mut.result.now c.bank_of-bank.result c.bank_of-bank.ensures.exact
    c.bank_of-bank.ensures.within c.index_mut.ensures.value c.requires.may sent
    c.idle-sent.ensures.messages c.idle-sent.ensures.sent c.post_all.new.mail
    (c.post_all.ensures.exact ∙ ap (λ m. with_letters m sent) c.take_idle-base.ensures.others)
    (c.post_all.ensures.posted ∙ ap (λ m. posted_all m (messages_of sent)) c.take_idle-base.ensures.taken)
    c.idle-sent.new.self c.idle-sent.ensures.exact
