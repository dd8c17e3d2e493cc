-- The line of the operand's bank has room, and the operand isn't in it.
use Rattle.std.proofs.Common.{sym, ap, ◌∙◌, slice_index_or, slice_set, arith}
use Rattle.std.specs.FinMap.{get, len}
use Rattle.tss_banks.proofs.BankLines.{line_within, none_in_line}
use Rattle.tss_mail.specs.Letters.{MailState}
use Rattle.tss_pipeline.specs.Lines.{lined}
use Rattle.tss_pipeline.proofs.front_rows.LineLemmas.{own_lines, lined_joined, bank_there, from_first}
use Rattle.tss_pipeline.proofs.front.expect_operand.Goals as goal

pub expect-requires-clause-room : goal.expect-requires-clause-room
expect-requires-clause-room c =
    let b = slice_index_or c.args.banks.now c.bank_of-bank.result c.index-banks-bank.result in
    let at =
    bank_there c.args.sizes.now c.args.banks.now c.bank_of-bank.result c.index-banks-bank.result
    c.bank_of-bank.ensures.within c.requires.banks.count in
    let window = c.requires.banks.windows c.bank_of-bank.result b at in
    let line = ap len (c.requires.banks.lines c.bank_of-bank.result b at) in
    let few = line_within c.args.sizes.now c.bank_of-bank.result c.args.mail.now.decodes in
    let room = c.requires.lines in
    omega (arith, window, line, few, room)

pub expect-requires-clause-fresh : goal.expect-requires-clause-fresh
expect-requires-clause-fresh c =
    let b = slice_index_or c.args.banks.now c.bank_of-bank.result c.index-banks-bank.result in
    let at =
    bank_there c.args.sizes.now c.args.banks.now c.bank_of-bank.result c.index-banks-bank.result
    c.bank_of-bank.ensures.within c.requires.banks.count in
    ap (λ l. get l c.args.o) (c.requires.banks.lines c.bank_of-bank.result b at)
    ∙ none_in_line c.args.sizes.now c.bank_of-bank.result c.args.mail.now.decodes c.args.o c.requires.fresh

pub returns-clause-lines : goal.returns-clause-lines
returns-clause-lines c =
    let b = slice_index_or c.args.banks.now c.bank_of-bank.result c.index-banks-bank.result in
    let at =
    bank_there c.args.sizes.now c.args.banks.now c.bank_of-bank.result c.index-banks-bank.result
    c.bank_of-bank.ensures.within c.requires.banks.count in
    (λ i. slice_set c.args.banks.now c.bank_of-bank.result (record b { renaming = c.expect.ensures i }))
    ∙ lined_joined c.args.sizes.now c.args.mail.now.decodes c.args.o c.args.operand c.requires.fresh 0 c.args.banks.now
    c.bank_of-bank.result b at (sym c.bank_of-bank.ensures.exact ∙ from_first c.bank_of-bank.result)
    (own_lines c.args.sizes.now c.args.mail.now.decodes c.args.banks.now c.requires.banks)
    ∙ ap (λ (m : MailState). lined c.args.sizes.now m.decodes 0 c.args.banks.now) (sym c.post.ensures.exact)
