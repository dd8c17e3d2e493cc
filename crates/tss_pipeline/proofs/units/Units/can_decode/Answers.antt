-- An operand may be decoded where its own bank makes it wait for nothing.
use Rattle.std.proofs.Common.{sym, ap, ◌∙◌, Some, option_map, is_none}
use Rattle.std.specs.FinMap.{get}
use Rattle.tss_protocol.specs.Names.{bank_of}
use Rattle.tss_protocol.specs.Renaming.{wait_number}
use Rattle.tss_renaming.specs.Decoding.{wait_here}
use Rattle.tss_pipeline.proofs.renaming_rows.RenamingBanks.{decode_letter_there, decode_letter_none, some_banks, bank_there, wait_joined, none_to_decode, is_none_by, is_none-mapped}
use Rattle.tss_pipeline.proofs.units.Units.can_decode.Goals as goal

pub bank_of-bank-requires-clause-some : goal.bank_of-bank-requires-clause-some
bank_of-bank-requires-clause-some c = some_banks c.args.self.now c.requires

pub returns-in-Some-Decode : goal.returns-in-Some-Decode
returns-in-Some-Decode c =
    let u = c.args.self.now in
    let o = c.args.o in
    let p = c.in-Some-Decode.operand in
    let letter =
    decode_letter_there o c.in-Some-Decode.field-0-0 (get u.mail.decodes o) p
    (sym c.see.ensures.exact
    ∙ ap (option_map (λ m. m.now)) c.in-Some-Decode.is
    ∙ ap Some c.in-Some-Decode.field-0-is) in
    let b = c.index.result.now in
    let there =
    bank_there u.banks.items c.bank_of-bank.result (bank_of u.machine.sizes p.object) b c.bank_of-bank.ensures.exact
    c.bank_of-bank.ensures.within c.index.ensures in
    is_none_by c.is_none.result c.wait_of.result (sym c.is_none.ensures)
    ∙ ap is_none c.wait_of.ensures
    ∙ is_none-mapped wait_number (wait_here b.renaming o p)
    ∙ sym (wait_joined u c.requires o p b there letter)

pub returns-in_default-2 : goal.returns-in_default-2
returns-in_default-2 c =
    let u = c.args.self.now in
    let o = c.args.o in
    sym (none_to_decode u o
    (decode_letter_none o (get u.mail.decodes o)
    (sym c.see.ensures.exact ∙ ap (option_map (λ m. m.now)) c.in_default.is)))
