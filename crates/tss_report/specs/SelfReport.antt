-- The report of the workload that comes with the program.
use Rattle.std.specs.Prelude.{ℕ, Bool, if◌then◌else◌, List, [], ◌∷◌, ◌++◌, codes}
use Rattle.std.specs.Fmt.{decimal}
use Rattle.hex.specs.Hex.{encode_lower}
use Rattle.tss_base.specs.declared.ending.Ending.{Ending}
use Rattle.tss_base.specs.declared.ending.Ending.TheVariants.{Exit, MainTrap, TaskTrap, Refused}
use Rattle.tss_base.specs.declared.counts.Counts.{Counts}
use Rattle.tss_base.specs.declared.counts.Peaks.{Peaks}
use Rattle.tss_text.specs.Pieces.{joined}
use Rattle.tss_report.specs.Peaks.{peaks_text}
use Rattle.tss_report.specs.Report.{summary_text}

-- what the first line has after the number: a word for the form with products, and nothing for that with shifts
abbrev pub form_text : Bool → List ℕ
form_text mul = if mul then codes " mul" else []

-- the words that the program was called with
abbrev pub words_text : ℕ → Bool → List ℕ
words_text n mul = joined (codes "self " ∷ decimal n ∷ form_text mul ∷ codes "\n" ∷ [])

-- the line of a digest
abbrev pub sum_line : List ℕ → List ℕ
sum_line sum = joined (codes "digest " ∷ encode_lower sum ∷ codes "\n" ∷ [])

-- the digest: none after a task's trap
abbrev pub sum_text : Ending → List ℕ → List ℕ
sum_text (TaskTrap task t) sum = []
sum_text (Exit status) sum = sum_line sum
sum_text (MainTrap t) sum = sum_line sum
sum_text (Refused number pc) sum = sum_line sum

-- the report of the workload with n blocks a side, in the form with products or in that with shifts: the words, the
-- ending, the tasks, the output, the digest in place of rows of memory, and the peaks, each with its size
abbrev pub self_text : ℕ → Bool → Ending → ℕ → List ℕ → List ℕ → Peaks → Counts → List ℕ
self_text n mul ending tasks output sum peaks size =
    words_text n mul ++ (summary_text ending tasks output ++ (sum_text ending sum ++ peaks_text size peaks))
