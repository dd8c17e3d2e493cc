-- The report of a run: how it ended, its tasks, its output, and the rows of memory that have changed.
use Rattle.std.specs.Prelude.{ℕ, List, [], ◌∷◌, ◌++◌, length, codes, Option, Some, None}
use Rattle.std.specs.Fmt.{decimal}
use Rattle.tss_text.specs.Digits.{hex_word}
use Rattle.tss_text.specs.Pieces.{joined}
use Rattle.tss_report.specs.Rows.{changed_text}
use Rattle.tss_report.specs.Peaks.{peaks_text}
use Rattle.tss_base.specs.declared.ending.Ending.{Ending}
use Rattle.tss_base.specs.declared.ending.Ending.TheVariants.{Exit, MainTrap, TaskTrap, Refused}
use Rattle.tss_base.specs.declared.counts.Counts.{Counts}
use Rattle.tss_base.specs.declared.counts.Peaks.{Peaks}
use Rattle.tss_model.specs.Memory.{Memory}
use Rattle.tss_model.specs.InOrder.{ReferenceState}

-- the lines that say how a run ended, how many tasks were spawned, and what was printed, by their parts
abbrev pub ending_text : Ending → List ℕ
ending_text (Exit status) = joined (codes "end exit " ∷ decimal status ∷ codes "\n" ∷ [])
ending_text (MainTrap t) =
    joined (codes "end main-trap " ∷ hex_word t.pc ∷ codes " " ∷ decimal t.cause ∷ codes " " ∷ hex_word t.value ∷ codes "\n" ∷ [])
ending_text (TaskTrap task t) =
    joined (codes "end task-trap " ∷ decimal task ∷ codes " " ∷ hex_word t.pc ∷ codes " " ∷ decimal t.cause ∷ codes " " ∷ hex_word t.value ∷ codes "\n" ∷ [])
ending_text (Refused number pc) =
    joined (codes "end refused " ∷ decimal number ∷ codes " " ∷ hex_word pc ∷ codes "\n" ∷ [])

abbrev pub tasks_text : ℕ → List ℕ
tasks_text n = joined (codes "tasks " ∷ decimal n ∷ codes "\n" ∷ [])

abbrev pub output_text : List ℕ → List ℕ
output_text bytes = joined (codes "output " ∷ decimal (length bytes) ∷ codes "\n" ∷ bytes ∷ codes "\n" ∷ [])

-- the part of a report that says ending, tasks and output
abbrev pub summary_text : Ending → ℕ → List ℕ → List ℕ
summary_text ending tasks output = ending_text ending ++ (tasks_text tasks ++ output_text output)

-- the rows of memory that have changed: none after a task's trap
abbrev pub memory_text : Ending → Memory → Memory → List ℕ
memory_text (TaskTrap task t) old new = []
memory_text (Exit status) old new = changed_text old new
memory_text (MainTrap t) old new = changed_text old new
memory_text (Refused number pc) old new = changed_text old new

-- the peaks, where there are any
abbrev pub told_peaks : Option Peaks → Counts → List ℕ
told_peaks None size = []
told_peaks (Some p) size = peaks_text size p

-- the report of a run that came to this: the ending, the tasks, the output, the rows by which memory differs from memory
-- as loaded, and the peaks, each with its size
abbrev pub report_text : ReferenceState → Memory → Option Peaks → Counts → List ℕ
report_text run before peaks size =
    summary_text run.ending run.tasks run.output ++ (memory_text run.ending before run.memory ++ told_peaks peaks size)
