-- The parts of a run of the workload are those of its report.
use Rattle.std.proofs.Common.{◌≡◌, ℕ, ◌++◌, Bool, List, refl, ap, ◌∙◌}
use Rattle.tss_base.specs.declared.counts.Peaks.{Peaks}
use Rattle.tss_base.specs.declared.ending.Ending.{Ending}
use Rattle.tss_base.specs.declared.ending.Ending.TheVariants.{Exit, MainTrap, TaskTrap, Refused}
use Rattle.tss_base.specs.declared.machine.Key.TheVariants.{MaxOperands}
use Rattle.tss_base.specs.declared.machine.Machine.{Machine}
use Rattle.tss_base.specs.Machine.{IsAdmissible}
use Rattle.tss_model.specs.InOrder.{ReferenceState, in_order}
use Rattle.tss_model.specs.Memory.{Memory}
use Rattle.tss_protocol.specs.Counts.{sizes_of}
use Rattle.tss_report.specs.MemoryDigest.{digest_of}
use Rattle.tss_report.specs.Peaks.{HasRanges, peaks_text}
use Rattle.tss_report.specs.Report.{summary_text}
use Rattle.tss_report.specs.SelfReport.{words_text, sum_line, sum_text, self_text}
use Rattle.tss_unit_runs.specs.Finished.{FinishedRunState, HasMemory}
use Rattle.tss_self.specs.SelfAnswer.{SelfWork, has_products, self_result, self_run, self_report, IsRunOf}

-- a machine that may run has sizes that can be printed
pub has_ranges : (m : Machine) → IsAdmissible m → HasRanges m
has_ranges m ok = record { operands = (ok.limits MaxOperands m.limits.max_operands refl).1; sizes = ok.sizes }

-- what a run comes to in program order
abbrev pub reference : FinishedRunState → ReferenceState
reference run = in_order run.image run.machine.limits

pub result_is : (run : FinishedRunState) (w : SelfWork) → IsRunOf run w → reference run ≡ self_result w
unfolding self_run self_result
result_is run w e = ap reference e

-- the digest of memory is that of program order, wherever it is told
sum_same : (e : Ending) (memory space : Memory) → HasMemory e memory space →
    sum_text e (digest_of space) ≡ sum_text e (digest_of memory)
sum_same (TaskTrap task t) memory space h = refl
sum_same (Exit status) memory space h = ap (λ m. sum_line (digest_of m)) h
sum_same (MainTrap t) memory space h = ap (λ m. sum_line (digest_of m)) h
sum_same (Refused number pc) memory space h = ap (λ m. sum_line (digest_of m)) h

-- the report by a run
abbrev report_by : SelfWork → FinishedRunState → List ℕ
report_by w run =
    self_text w.n (has_products w.form) (reference run).ending (reference run).tasks (reference run).output
    (digest_of (reference run).memory) run.peaks (sizes_of run.machine)

report_same : (run : FinishedRunState) (w : SelfWork) → IsRunOf run w → report_by w run ≡ self_report w
unfolding self_run self_result self_report
report_same run w e = ap (report_by w) e

-- the parts as they were told
pub report_is : (run : FinishedRunState) (w : SelfWork) (mul : Bool) (ending : Ending) (tasks : ℕ) (output sum : List ℕ)
    (space : Memory) (peaks : Peaks) (machine : Machine) → IsRunOf run w → mul ≡ has_products w.form →
    ending ≡ (reference run).ending → tasks ≡ (reference run).tasks → output ≡ (reference run).output →
    sum ≡ digest_of space → HasMemory (reference run).ending (reference run).memory space → peaks ≡ run.peaks →
    machine ≡ run.machine → self_text w.n mul ending tasks output sum peaks (sizes_of machine) ≡ self_report w
report_is run w mul ending tasks output sum space peaks machine is mul_is ending_is tasks_is output_is sum_is memory peaks_is
    machine_is =
    let r = reference run in
    (λ i. self_text w.n (mul_is i) (ending_is i) (tasks_is i) (output_is i) (sum_is i) (peaks_is i) (sizes_of (machine_is i)))
    ∙ ap (λ s. words_text w.n (has_products w.form) ++ (summary_text r.ending r.tasks r.output ++ (s ++ peaks_text (sizes_of run.machine) run.peaks)))
    (sum_same r.ending r.memory space memory)
    ∙ report_same run w is
