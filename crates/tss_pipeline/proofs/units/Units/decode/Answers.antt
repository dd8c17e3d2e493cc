-- An operand is decoded in the bank of its object.
use Rattle.std.proofs.Common.{ap, ◌∙◌, subst}
use Rattle.std.specs.Prelude.{IfSome}
use Rattle.tss_base.specs.declared.event.Event.TheVariants as event
use Rattle.tss_protocol.specs.Mail.{posted_all}
use Rattle.tss_renaming.specs.Holding.{HoldsAlone}
use Rattle.tss_events.specs.Events.{messages_of}
use Rattle.tss_pipeline.specs.Letters.{with_letters}
use Rattle.tss_pipeline.proofs.renaming_rows.RenamingBanks.{some_banks}
use Rattle.tss_pipeline.proofs.renaming_rows.RenamedState.{sent_fresh, sent_room}
use Rattle.tss_pipeline.proofs.renaming_rows.DecodingLemmas.{decode_letter_by, waits_for_nothing, new_place, new_buffer, room_for_use, has_buffer, decode_sent, decode_does}
use Rattle.tss_pipeline.proofs.units.Units.decode.Goals as goal

pub take_decode-operand-requires : goal.take_decode-operand-requires
take_decode-operand-requires c = decode_letter_by c.args.self.now c.args.o c.requires.may

pub bank_of-bank-requires-clause-some : goal.bank_of-bank-requires-clause-some
bank_of-bank-requires-clause-some c = some_banks c.args.self.now c.requires.fit

pub decode_at_once-sent-requires-clause-may : goal.decode_at_once-sent-requires-clause-may
decode_at_once-sent-requires-clause-may c =
    waits_for_nothing c.args.self.now c.requires.fit c.args.o c.take_decode-operand.result
    c.take_decode-operand.ensures.exact c.index_mut.result.now c.bank_of-bank.result
    c.bank_of-bank.ensures.exact c.bank_of-bank.ensures.within c.index_mut.ensures.value
    c.requires.may

pub decode_at_once-sent-requires-clause-place : goal.decode_at_once-sent-requires-clause-place
decode_at_once-sent-requires-clause-place c =
    new_place c.args.self.now c.requires.fit c.args.o c.take_decode-operand.result
    c.take_decode-operand.ensures.exact c.index_mut.result.now c.bank_of-bank.result
    c.bank_of-bank.ensures.exact c.bank_of-bank.ensures.within c.index_mut.ensures.value

pub decode_at_once-sent-requires-clause-buffer : goal.decode_at_once-sent-requires-clause-buffer
decode_at_once-sent-requires-clause-buffer c =
    new_buffer c.args.self.now c.requires.fit c.args.o c.take_decode-operand.result
    c.take_decode-operand.ensures.exact c.index_mut.result.now c.bank_of-bank.result
    c.bank_of-bank.ensures.exact c.bank_of-bank.ensures.within c.index_mut.ensures.value

pub decode_at_once-sent-requires-clause-uses : goal.decode_at_once-sent-requires-clause-uses
decode_at_once-sent-requires-clause-uses c =
    room_for_use c.args.self.now c.requires.fit c.args.o c.take_decode-operand.result
    c.take_decode-operand.ensures.exact c.index_mut.result.now c.bank_of-bank.result
    c.bank_of-bank.ensures.exact c.bank_of-bank.ensures.within c.index_mut.ensures.value

pub unset_if_any-requires : goal.unset_if_any-requires
unset_if_any-requires c = λ place is.
    let held =
    subst
    (λ p. IfSome p (HoldsAlone c.decode_at_once-sent.new.renaming.buffers
    c.decode_at_once-sent.new.renaming.sizes.buffers c.args.o))
    is c.buffer-buffer.ensures.alone in
    has_buffer c.args.self.now c.requires.fit c.args.o c.take_decode-operand.result
    c.take_decode-operand.ensures.exact c.index_mut.result.now c.bank_of-bank.result c.bank_of-bank.ensures.exact
    c.bank_of-bank.ensures.within c.index_mut.ensures.value c.decode_at_once-sent.result c.decode_at_once-sent.new.renaming
    c.decode_at_once-sent.ensures.exact place held.within

pub post_all-requires-clause-fresh : goal.post_all-requires-clause-fresh
post_all-requires-clause-fresh c =
    sent_fresh c.args.self.now c.requires.fit (event.Decode c.args.o) c.requires.may c.take_decode-operand.new.mail
    (ap (λ m. m.size) c.take_decode-operand.ensures.others) c.take_decode-operand.ensures.taken
    c.decode_at_once-sent.result
    (decode_sent c.args.self.now c.requires.fit c.args.o c.take_decode-operand.result
    c.take_decode-operand.ensures.exact c.index_mut.result.now c.bank_of-bank.result
    c.bank_of-bank.ensures.exact c.bank_of-bank.ensures.within c.index_mut.ensures.value
    c.decode_at_once-sent.result c.decode_at_once-sent.ensures.sent)

pub post_all-requires-clause-room : goal.post_all-requires-clause-room
post_all-requires-clause-room c =
    sent_room c.args.self.now c.requires.fit (event.Decode c.args.o) c.requires.may c.take_decode-operand.new.mail
    (ap (λ m. m.size) c.take_decode-operand.ensures.others) c.take_decode-operand.ensures.taken
    c.decode_at_once-sent.result
    (decode_sent c.args.self.now c.requires.fit c.args.o c.take_decode-operand.result
    c.take_decode-operand.ensures.exact c.index_mut.result.now c.bank_of-bank.result
    c.bank_of-bank.ensures.exact c.bank_of-bank.ensures.within c.index_mut.ensures.value
    c.decode_at_once-sent.result c.decode_at_once-sent.ensures.sent)

pub returns : goal.returns
returns c =
    let sent = c.decode_at_once-sent.result in
    decode_does c.args.self.now c.requires.fit c.args.o c.take_decode-operand.result
    c.take_decode-operand.ensures.exact c.index_mut.result.now c.bank_of-bank.result
    c.bank_of-bank.ensures.exact c.bank_of-bank.ensures.within c.index_mut.ensures.value
    c.requires.may sent c.decode_at_once-sent.new.renaming c.decode_at_once-sent.ensures.exact
    c.decode_at_once-sent.ensures.sent c.post_all.new.mail
    (c.post_all.ensures.exact ∙ ap (λ m. with_letters m sent) c.take_decode-operand.ensures.others)
    (c.post_all.ensures.posted ∙ ap (λ m. posted_all m (messages_of sent)) c.take_decode-operand.ensures.taken)
    c.buffer-buffer.result c.buffer-buffer.ensures.exact c.unset_if_any.new.buffers c.unset_if_any.ensures
