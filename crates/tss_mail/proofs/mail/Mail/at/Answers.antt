-- The name is of the first table in which the place lies.
use Rattle.std.proofs.Common.{◌≡◌, ◌+◌, ◌-◌, suc, length, Some, sym, ap, ◌∙◌, arith, drop}
use Rattle.std.specs.Prelude.{slice_get}
use Rattle.tss_protocol.specs.Mail.{message_names}
use Rattle.tss_mail.specs.Letters.{mail_of}
use Rattle.tss_mail.specs.Kinds.{event_of}
use Rattle.tss_mail.proofs.Naming.{names_from}
use Rattle.tss_mail.proofs.NamingLemmas.{named_here, past_here, named_later, none_left}
use Rattle.tss_mail.proofs.TableLemmas.{named}
use Rattle.tss_mail.proofs.mail.Mail.at.Goals as goal

pub loop-number-init : goal.loop-number-init
loop-number-init c =
    ap (λ es. slice_get es c.args.i) (named c.self.inside.size c.self.inside.tables.items c.self.invariant.tables
    ∙ ap (λ m. message_names (mail_of m)) c.self.view_is)

pub returns-in-Some : goal.returns-in-Some
returns-in-Some c =
    (λ i. Some ((c.event.ensures ∙ ap (λ k. event_of k c.in-Some.o) c.kind_at.ensures) i))
    ∙ sym (named_here c.self.inside.tables.items c.loop-number.number c.index-table.result.now (let h = c.loop-number-test.true in let n = c.self.invariant.tables in omega (arith, h, n)) c.index-table.ensures
    c.loop-number.place c.in-Some.o (sym c.key_at.ensures ∙ c.in-Some.is))
    ∙ c.loop-number.invariant

pub overflow_sub-place : goal.overflow_sub-place
overflow_sub-place c =
    let past = past_here c.self.inside.tables.items c.loop-number.number c.index-table.result.now (let h = c.loop-number-test.true in let n = c.self.invariant.tables in omega (arith, h, n)) c.index-table.ensures
    c.loop-number.place (sym c.key_at.ensures ∙ c.in-None.is)
    in
    omega (arith, past, c.len-place.ensures.exact)

pub loop-number-preserved : goal.loop-number-preserved
loop-number-preserved c =
    let next : c.loop-number.number + 1 ≡ suc c.loop-number.number = omega arith in
    ap (λ n. slice_get (names_from n (drop n c.self.inside.tables.items)) (c.loop-number.place - c.len-place.result)) next
    ∙ ap (λ m. slice_get (names_from (suc c.loop-number.number) (drop (suc c.loop-number.number) c.self.inside.tables.items)) (c.loop-number.place - m)) c.len-place.ensures.exact
    ∙ named_later c.self.inside.tables.items c.loop-number.number c.index-table.result.now (let h = c.loop-number-test.true in let n = c.self.invariant.tables in omega (arith, h, n)) c.index-table.ensures
    c.loop-number.place (sym c.key_at.ensures ∙ c.in-None.is)
    ∙ c.loop-number.invariant

pub returns : goal.returns
returns c =
    let n : c.loop-number.number ≡ length c.self.inside.tables.items = omega (arith, c.loop-number-test.false, c.loop-number.auto, c.self.invariant.tables) in
    sym (none_left c.self.inside.tables.items c.loop-number.number c.loop-number.place n) ∙ c.loop-number.invariant
