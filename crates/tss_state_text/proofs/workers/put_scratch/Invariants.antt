-- The rows before this one were put.
use Rattle.std.specs.Prelude.{◌/◌, length}
use Rattle.tss_report.specs.Rows.{row_len}
use Rattle.tss_text.proofs.PieceLemmas.{HasPut}
use Rattle.tss_state_text.specs.StateText.{scratch_row_at, scratch_text}
use Rattle.tss_state_lines.proofs.Ranges.{texts_from}
use Rattle.tss_state_text.proofs.workers.put_scratch.Given as goal

abbrev pub invariant-loop-k : goal.invariant-loop-k
invariant-loop-k g l =
    HasPut g.K.Sink l.initial.to l.to (scratch_text l.w l.scratch)
    (texts_from (scratch_row_at l.w l.scratch) (length l.scratch / row_len) l.k)
