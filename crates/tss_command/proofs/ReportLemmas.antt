-- The report of a run of the unit machine is that of program order.
use Rattle.std.proofs.Common.{◌≡◌, ℕ, List, ◌++◌, Option, refl, ap, ◌∙◌}
use Rattle.tss_base.specs.declared.counts.Counts.{Counts}
use Rattle.tss_base.specs.declared.counts.Peaks.{Peaks}
use Rattle.tss_base.specs.declared.ending.Ending.{Ending}
use Rattle.tss_base.specs.declared.ending.Ending.TheVariants as ending
use Rattle.tss_base.specs.Machine.{IsAdmissible}
use Rattle.tss_base.specs.declared.machine.Key.TheVariants.{MaxOperands}
use Rattle.tss_base.specs.declared.machine.Machine.{Machine}
use Rattle.tss_model.specs.InOrder.{ReferenceState}
use Rattle.tss_model.specs.Memory.{Memory}
use Rattle.tss_report.specs.Peaks.{HasRanges}
use Rattle.tss_report.specs.Report.{summary_text, memory_text, told_peaks, report_text}
use Rattle.tss_unit_runs.specs.Finished.{HasMemory}

-- memory is told alike, which after a task's trap it isn't at all
same_memory : (e : Ending) (memory space before : Memory) → HasMemory e memory space → memory_text e before space ≡ memory_text e before memory
same_memory (ending.Exit s) memory space before same = ap (memory_text (ending.Exit s) before) same
same_memory (ending.MainTrap t) memory space before same = ap (memory_text (ending.MainTrap t) before) same
same_memory (ending.TaskTrap n t) memory space before same = refl
same_memory (ending.Refused n pc) memory space before same = ap (memory_text (ending.Refused n pc) before) same

pub same_report : (r : ReferenceState) (e : Ending) (tasks : ℕ) (output : List ℕ) (space before : Memory) (peaks : Option Peaks) (size : Counts) →
    e ≡ r.ending → tasks ≡ r.tasks → output ≡ r.output → HasMemory r.ending r.memory space →
    report_text (record { ending = e; tasks = tasks; output = output; memory = space }) before peaks size ≡ report_text r before peaks size
same_report r e tasks output space before peaks size same_ending same_tasks same_output memory =
    (λ i. summary_text (same_ending i) (same_tasks i) (same_output i) ++ (memory_text (same_ending i) before space ++ told_peaks peaks size))
    ∙ ap (λ text. summary_text r.ending r.tasks r.output ++ (text ++ told_peaks peaks size)) (same_memory r.ending r.memory space before memory)

-- the sizes of an admissible machine are in their ranges
pub has_ranges : (m : Machine) → IsAdmissible m → HasRanges m
has_ranges m admissible = record { operands = (admissible.limits MaxOperands m.limits.max_operands refl).1; sizes = admissible.sizes }
