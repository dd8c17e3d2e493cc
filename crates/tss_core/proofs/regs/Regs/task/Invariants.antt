use Rattle.std.proofs.Common.{◌≡◌}
use Rattle.tss_core.proofs.WordsLemmas.{with_words}
use Rattle.tss_core.proofs.regs.Regs.task.Given as goal

abbrev pub invariant-loop-i : goal.invariant-loop-i
invariant-loop-i l = l.values ≡ with_words l.task.bases l.i
