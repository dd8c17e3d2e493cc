-- The ranges of memory before this one were put.
use Rattle.tss_model.specs.Memory.{loaded}
use Rattle.tss_report.specs.Rows.{changed_text}
use Rattle.tss_text.proofs.PieceLemmas.{HasPut}
use Rattle.tss_report.proofs.RowLemmas.{ranges_from}
use Rattle.tss_report.proofs.rows.put_changed.Given as goal

abbrev pub invariant-loop-i : goal.invariant-loop-i
invariant-loop-i g l =
    HasPut g.K.Sink l.initial.to l.to (changed_text (loaded l.image) l.space) (ranges_from (loaded l.image) l.space l.i)
