-- The rows before this one were put.
use Rattle.tss_model.specs.Memory.{loaded}
use Rattle.tss_report.specs.Rows.{rows_text}
use Rattle.tss_text.proofs.PieceLemmas.{HasPut}
use Rattle.tss_report.proofs.RowLemmas.{rows_from}
use Rattle.tss_report.proofs.rows.put_rows.Given as goal

abbrev pub invariant-loop-k : goal.invariant-loop-k
invariant-loop-k g l =
    HasPut g.K.Sink l.initial.to l.to (rows_text (loaded l.image) l.space l.r) (rows_from (loaded l.image) l.space l.r l.k)
