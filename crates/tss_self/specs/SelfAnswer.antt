-- What the workload that comes with the program is, how it runs, and what is told of it.
use Rattle.std.specs.Prelude.{◌≡◌, ℕ, Bool, true, false, List, []}
use Rattle.tss_base.specs.declared.event.Event.{Event}
use Rattle.tss_base.specs.Image.{ImageState}
use Rattle.tss_elf.specs.Elf.{Verdict, Refused, Accepted, image_of}
use Rattle.tss_gen.specs.declared.form.Form.{Form}
use Rattle.tss_gen.specs.declared.form.Form.TheVariants.{Shifts, Products}
use Rattle.tss_gen.specs.Workload.{workload_bytes}
use Rattle.tss_machine.specs.SelfMachine.{self_machine}
use Rattle.tss_model.specs.InOrder.{ReferenceState, in_order}
use Rattle.tss_protocol.specs.Counts.{sizes_of}
use Rattle.tss_protocol.specs.Schedule.{seeded_events}
use Rattle.tss_report.specs.MemoryDigest.{digest_of}
use Rattle.tss_report.specs.SelfReport.{self_text}
use Rattle.tss_unit_runs.specs.Finished.{FinishedRunState, IsWholeRun}
use Rattle.tss_unit_runs.specs.Runs.{run_of}

-- what is asked for: how many blocks a side has, and the form of the workload
pub record SelfWork : Type 0 where
  pub n : ℕ
  pub form : Form

-- the image that bytes are. A workload always is one; elsewhere one without segments stands in its place
abbrev pub accepted : Verdict → ImageState
accepted (Accepted image) = image
accepted (Refused n) = record { entry = 0; segments = [] }

-- the image of the workload
unfoldable pub self_image : Form → ℕ → ImageState
self_image form n = accepted (image_of (workload_bytes form n))

-- what it comes to in program order, under the limits of the machine that comes with the program
unfoldable pub self_result : SelfWork → ReferenceState
self_result w = in_order (self_image w.form w.n) self_machine.limits

-- the events that the seed n draws on that machine
abbrev pub self_events : SelfWork → List Event
self_events w = seeded_events self_machine (self_image w.form w.n) w.n

-- they are a run to its end
abbrev pub HasWholeRun : SelfWork → Type 0
HasWholeRun w = IsWholeRun self_machine (self_image w.form w.n) (self_events w)

-- the run of these events, and its peaks
unfoldable pub self_run : SelfWork → FinishedRunState
self_run w = run_of self_machine (self_image w.form w.n) (self_events w)

-- whether the form is that with products
abbrev pub has_products : Form → Bool
has_products Shifts = false
has_products Products = true

-- the report: ending, tasks, output and the digest of memory are those of program order, and the peaks those of the seed's
-- run
unfoldable pub self_report : SelfWork → List ℕ
self_report w =
    let run = self_result w in
    self_text w.n (has_products w.form) run.ending run.tasks run.output (digest_of run.memory)
    (self_run w).peaks (sizes_of self_machine)

-- a run is that of the workload
abbrev pub IsRunOf : FinishedRunState → SelfWork → Type 0
IsRunOf run w = run ≡ self_run w
