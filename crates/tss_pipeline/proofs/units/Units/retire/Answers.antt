-- A version retires.
use Rattle.std.proofs.Common.{◌≡◌, None, sym, ap, ◌∙◌, subst, arith}
use Rattle.std.specs.Vec.{with_item}
use Rattle.std.proofs.lemmas.Option.{slice_get_within}
use Rattle.tss_base.specs.declared.event.Event.TheVariants as event
use Rattle.tss_events.specs.declared.message.Message.TheVariants as message
use Rattle.tss_events.specs.Events.{message_of}
use Rattle.tss_mail.specs.Letters.{mail_of, with_letter}
use Rattle.tss_protocol.specs.Mail.{message_at, name_of, posted}
use Rattle.tss_pipeline.specs.Does.{Does}
use Rattle.tss_pipeline.proofs.version_rows.VersionLookups.{in_read}
use Rattle.tss_pipeline.proofs.version_rows.VersionRetiring.{retire_there, retire_somewhere, retire_brings, brought_now, brought_later, home_room, home_fresh, home_does, copy_does}
use Rattle.tss_pipeline.proofs.units.Units.retire.Goals as goal

pub unreachable-requires : goal.unreachable-requires
unreachable-requires c = retire_somewhere c.args.self.now c.requires.fit c.args.v c.requires.may c.in_default.ensures

pub take_retire-requires : goal.take_retire-requires
take_retire-requires c = retire_there c.args.self.now c.args.v c.requires.may

pub index_mut-bank-requires : goal.index_mut-bank-requires
index_mut-bank-requires c =
    let i = c.in-Some.ensures in
    let within = slice_get_within c.args.self.now.banks.items c.in-Some.bank i.bank i.there in
    omega (arith, within)

pub retire-gone-requires : goal.retire-gone-requires
retire-gone-requires c =
    (in_read c.args.self.now.banks.items c.args.v c.in-Some.bank c.index_mut-bank.result.now c.in-Some.ensures
    c.index_mut-bank.ensures.value).1

pub bring_home-requires : goal.bring_home-requires
bring_home-requires c =
    let u = c.args.self.now in
    let b = c.index_mut-bank.result.now in
    let t = in_read u.banks.items c.args.v c.in-Some.bank b c.in-Some.ensures c.index_mut-bank.ensures.value in
    let r = c.retire-gone in
    retire_brings u c.requires.fit c.args.v c.requires.may c.in-Some.bank b t.0 t.1 r.new.self r.ensures.exact
    r.ensures.versions r.result r.ensures.gone

pub post-requires-clause-room : goal.post-requires-clause-room
post-requires-clause-room c =
    let u = c.args.self.now in
    let b = c.index_mut-bank.result.now in
    let t = in_read u.banks.items c.args.v c.in-Some.bank b c.in-Some.ensures c.index_mut-bank.ensures.value in
    let r = c.retire-gone in
    let now = brought_now (record b { versions = r.new.self }) r.result r.result.buffer c.in-Some-bring_home.gone
    c.bring_home.new.self c.in-Some-bring_home.ensures in
    home_room u c.requires.fit c.args.v c.requires.may c.in-Some.bank b t.0 t.1 r.new.self r.ensures.exact
    r.ensures.versions r.result r.ensures.gone now.0 c.take_retire.new.mail c.take_retire.ensures.others
    c.take_retire.ensures.taken

pub post-requires-clause-fresh : goal.post-requires-clause-fresh
post-requires-clause-fresh c =
    let u = c.args.self.now in
    let b = c.index_mut-bank.result.now in
    let t = in_read u.banks.items c.args.v c.in-Some.bank b c.in-Some.ensures c.index_mut-bank.ensures.value in
    let r = c.retire-gone in
    let now = brought_now (record b { versions = r.new.self }) r.result r.result.buffer c.in-Some-bring_home.gone
    c.bring_home.new.self c.in-Some-bring_home.ensures in
    subst (λ g. message_at (mail_of c.take_retire.new.mail) (name_of (message_of (message.Gone g))) ≡ None) (sym now.1)
    (home_fresh u c.requires.fit c.args.v c.requires.may c.in-Some.bank b t.0 t.1 r.new.self r.ensures.exact
    r.ensures.versions r.result r.ensures.gone now.0 c.take_retire.new.mail c.take_retire.ensures.others
    c.take_retire.ensures.taken)

pub returns-in-Some-bring_home : goal.returns-in-Some-bring_home
returns-in-Some-bring_home c =
    let u = c.args.self.now in
    let b = c.index_mut-bank.result.now in
    let t = in_read u.banks.items c.args.v c.in-Some.bank b c.in-Some.ensures c.index_mut-bank.ensures.value in
    let r = c.retire-gone in
    let now = brought_now (record b { versions = r.new.self }) r.result r.result.buffer c.in-Some-bring_home.gone
    c.bring_home.new.self c.in-Some-bring_home.ensures in
    subst (λ x. Does (event.Retire c.args.v) u
    (record u { banks = with_item u.banks c.in-Some.bank x; mail = c.post.new.self })) (sym now.2)
    (home_does u c.requires.fit c.args.v c.requires.may c.in-Some.bank b t.0 t.1 r.new.self r.ensures.exact
    r.ensures.versions r.result r.ensures.gone now.0 c.take_retire.new.mail c.take_retire.ensures.others
    c.take_retire.ensures.taken c.post.new.self
    (c.post.ensures.exact ∙ ap (λ g. with_letter c.take_retire.new.mail (message.Gone g)) now.1)
    (c.post.ensures.posted
    ∙ ap (λ g. posted (mail_of c.take_retire.new.mail) (message_of (message.Gone g))) now.1))

pub returns-in_default-bring_home : goal.returns-in_default-bring_home
returns-in_default-bring_home c =
    let u = c.args.self.now in
    let b = c.index_mut-bank.result.now in
    let t = in_read u.banks.items c.args.v c.in-Some.bank b c.in-Some.ensures c.index_mut-bank.ensures.value in
    let r = c.retire-gone in
    let later = brought_later (record b { versions = r.new.self }) r.result r.result.buffer c.bring_home.new.self
    c.in_default-bring_home.ensures in
    subst (λ x. Does (event.Retire c.args.v) u
    (record u { banks = with_item u.banks c.in-Some.bank x; mail = c.take_retire.new.mail })) (sym later.2)
    (copy_does u c.requires.fit c.args.v c.requires.may c.in-Some.bank b t.0 t.1 r.new.self r.ensures.exact
    r.ensures.versions r.result r.ensures.gone later.0 later.1 c.take_retire.new.mail c.take_retire.ensures.others
    c.take_retire.ensures.taken)
