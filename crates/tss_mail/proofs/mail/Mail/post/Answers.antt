-- A message more.
use Rattle.std.proofs.Common.{◌≡◌, ◌<◌, None, sym, ap, subst, ◌∙◌, arith}
use Rattle.tss_protocol.specs.Mail.{message_at, message_count, name_of}
use Rattle.tss_events.specs.Events.{message_of}
use Rattle.tss_mail.specs.Letters.{mail_of, with_letter}
use Rattle.tss_mail.proofs.TableLemmas.{posted-with_letter}
use Rattle.tss_mail.proofs.KeptLemmas.{label_is, room_now, fresh_now, room_all, kept_after, seen_after}
use Rattle.tss_mail.proofs.mail.Mail.post.Goals as goal

pub add-requires-clause-room : goal.add-requires-clause-room
add-requires-clause-room c = room_now c.self.inside.size c.self.inside.count c.self.inside.tables.items c.self.invariant c.args.m c.in-Some.kind c.in-Some.o
    (label_is c.args.m _ _ _ c.name.ensures c.address_of.ensures c.in-Some.is) c.number.result c.number.ensures.exact
    c.index_mut.result.now c.index_mut.ensures.value
    (subst (λ s. message_count (mail_of s) < s.size) (sym c.self.view_is) c.requires.room)
    (subst (λ s. message_at (mail_of s) (name_of (message_of c.args.m)) ≡ None) (sym c.self.view_is) c.requires.fresh)

pub add-requires-clause-fresh : goal.add-requires-clause-fresh
add-requires-clause-fresh c = fresh_now c.self.inside.size c.self.inside.count c.self.inside.tables.items c.self.invariant c.args.m c.in-Some.kind c.in-Some.o
    (label_is c.args.m _ _ _ c.name.ensures c.address_of.ensures c.in-Some.is) c.number.result c.number.ensures.exact
    c.index_mut.result.now c.index_mut.ensures.value
    (subst (λ s. message_count (mail_of s) < s.size) (sym c.self.view_is) c.requires.room)
    (subst (λ s. message_at (mail_of s) (name_of (message_of c.args.m)) ≡ None) (sym c.self.view_is) c.requires.fresh)

pub overflow_add-self : goal.overflow_add-self
overflow_add-self c =
    let less = room_all c.self.inside.size c.self.inside.count c.self.inside.tables.items c.self.invariant c.args.m c.in-Some.kind c.in-Some.o
    (label_is c.args.m _ _ _ c.name.ensures c.address_of.ensures c.in-Some.is) c.number.result c.number.ensures.exact
    c.index_mut.result.now c.index_mut.ensures.value
    (subst (λ s. message_count (mail_of s) < s.size) (sym c.self.view_is) c.requires.room)
    (subst (λ s. message_at (mail_of s) (name_of (message_of c.args.m)) ≡ None) (sym c.self.view_is) c.requires.fresh)
    in
    let short = c.self.invariant.short in
    omega (arith, less, short)

pub invariant_of-self : goal.invariant_of-self
invariant_of-self c = kept_after c.self.inside.size c.self.inside.count c.self.inside.tables.items c.self.invariant c.args.m c.in-Some.kind c.in-Some.o
    (label_is c.args.m _ _ _ c.name.ensures c.address_of.ensures c.in-Some.is) c.number.result c.number.ensures.exact
    c.index_mut.result.now c.index_mut.ensures.value
    (subst (λ s. message_count (mail_of s) < s.size) (sym c.self.view_is) c.requires.room)
    (subst (λ s. message_at (mail_of s) (name_of (message_of c.args.m)) ≡ None) (sym c.self.view_is) c.requires.fresh)
    c.add.new.self c.add.ensures

pub returns-clause-exact : goal.returns-clause-exact
returns-clause-exact c =
    seen_after c.self.inside.size c.self.inside.count c.self.inside.tables.items c.self.invariant c.args.m c.in-Some.kind c.in-Some.o
    (label_is c.args.m _ _ _ c.name.ensures c.address_of.ensures c.in-Some.is) c.number.result c.number.ensures.exact
    c.index_mut.result.now c.index_mut.ensures.value
    (subst (λ s. message_count (mail_of s) < s.size) (sym c.self.view_is) c.requires.room)
    (subst (λ s. message_at (mail_of s) (name_of (message_of c.args.m)) ≡ None) (sym c.self.view_is) c.requires.fresh)
    c.add.new.self c.add.ensures
    ∙ ap (λ s. with_letter s c.args.m) c.self.view_is

pub returns-clause-posted : goal.returns-clause-posted
returns-clause-posted c =
    ap mail_of (returns-clause-exact c) ∙ posted-with_letter c.args.self.now c.args.m
