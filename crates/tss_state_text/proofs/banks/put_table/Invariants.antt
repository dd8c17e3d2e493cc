-- The rows before this one were put.
use Rattle.tss_text.proofs.PieceLemmas.{HasPut}
use Rattle.tss_state_lines.proofs.Ranges.{texts_from}
use Rattle.tss_state_text.specs.Items.{row_count, row_text, table_text}
use Rattle.tss_state_text.proofs.banks.put_table.Given as goal

abbrev pub invariant-loop-i : goal.invariant-loop-i
invariant-loop-i g l =
    HasPut g.K.Sink l.initial.to l.to (table_text l.p.machine l.p.state l.table l.bank)
    (texts_from (row_text l.p.machine l.p.state l.table l.bank) (row_count l.p.machine l.p.state l.table l.bank) l.i)
