-- There are as many rows as a reader counts.
use Rattle.std.proofs.Common.{sym, ap, ◌∙◌}
use Rattle.std.specs.FinMap.{len, len-entries}
use Rattle.tss_state_text.specs.Items.{row_count}
use Rattle.tss_state_text.specs.StateText.{bank_entries, bank_names}
use Rattle.tss_state_text.proofs.BankLemmas.{entries_same, names_same, key_count}
use Rattle.tss_state_text.proofs.banks.row_count.Goals as goal

pub returns-in-Entries : goal.returns-in-Entries
returns-in-Entries c =
    let m = c.args.p.now.machine in
    let s = c.args.p.now.state in
    let b = c.args.bank in
    c.entry_count.ensures
    ∙ ap len (entries_same m.sizes b s.entries)
    ∙ len-entries (bank_entries m.sizes b s.entries)
    ∙ ap (λ t. row_count m s t b) (sym c.in-Entries.is)

pub returns-in-Places : goal.returns-in-Places
returns-in-Places c =
    let m = c.args.p.now.machine in
    let s = c.args.p.now.state in
    let b = c.args.bank in
    c.place_count.ensures
    ∙ ap len (names_same b s.places)
    ∙ key_count (bank_names b s.places)
    ∙ ap (λ t. row_count m s t b) (sym c.in-Places.is)

pub returns-in-Buffers : goal.returns-in-Buffers
returns-in-Buffers c =
    let m = c.args.p.now.machine in
    let s = c.args.p.now.state in
    let b = c.args.bank in
    c.buffer_count.ensures
    ∙ ap len (names_same b s.buffers)
    ∙ key_count (bank_names b s.buffers)
    ∙ ap (λ t. row_count m s t b) (sym c.in-Buffers.is)
