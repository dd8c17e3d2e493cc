-- What a contract sees of a run that is over, and what it has.
use Rattle.std.specs.Prelude.{◌≡◌, refl, List}
use Rattle.std.specs.Coded.{Coded, code_by, coded×}
use Rattle.tss_base.specs.declared.counts.Peaks.{Peaks}
use Rattle.tss_base.specs.contracts.counts.Peaks as peaks
use Rattle.tss_base.specs.declared.ending.Ending.{Ending}
use Rattle.tss_base.specs.declared.ending.Ending.TheVariants as ending
use Rattle.tss_base.specs.declared.event.Event.{Event}
use Rattle.tss_base.specs.declared.machine.Machine.{Machine}
use Rattle.tss_base.specs.contracts.machine.Machine as machine
use Rattle.tss_base.specs.contracts.image.Image as image
use Rattle.tss_base.specs.Image.{ImageState}
use Rattle.tss_base.specs.Machine.{IsAdmissible}
use Rattle.tss_model.specs.Memory.{Memory, loaded}
use Rattle.tss_protocol.specs.Result.{IsFinished}
use Rattle.tss_protocol.specs.Run.{IsRun}
use Rattle.tss_protocol.specs.State.{State}
use Rattle.tss_program_order.specs.Refinement.{HasReferenceResult}
use Rattle.tss_pipeline.specs.Seen.{PipelineState}

-- the machine, the image that ran on it, and the run's peaks
pub record FinishedRunState : Type 0 where
  pub machine : Machine
  pub image : ImageState
  pub peaks : Peaks

abbrev pub finished_run_code : Coded FinishedRunState
finished_run_code =
    code_by (Machine × (ImageState × Peaks))
    (coded× (machine.the_row).coded (coded× (image.the_row).coded (peaks.the_row).coded))
    (λ r. (r.machine, (r.image, r.peaks)))
    (λ r. record { machine = r.0; image = r.1.0; peaks = r.1.1 }) (λ _. refl)

-- a pipeline in which a run of an image is over: it has the result of program order
pub record IsOver (p : PipelineState) (i : ImageState) : Type 0 where
  pub admissible : IsAdmissible p.machine
  pub finished : IsFinished p.state
  pub in_order : HasReferenceResult p.machine i p.state
  pub ranges : p.state.home.ranges ≡ (loaded i).ranges

-- memory after a run with this ending, which is told unless a task trapped
abbrev pub HasMemory : Ending → Memory → Memory → Type 0
HasMemory (ending.Exit status) memory space = space ≡ memory
HasMemory (ending.MainTrap trap) memory space = space ≡ memory
HasMemory (ending.TaskTrap task trap) memory space = Unit {0}
HasMemory (ending.Refused number pc) memory space = space ≡ memory

-- these events are a run of an image from its first event to its end: the run is over in the state that they leave, which
-- has the result of program order
pub record IsWholeRun (m : Machine) (i : ImageState) (es : List Event) : Type 0 where
  pub state : State
  pub run : IsRun m i es state
  pub finished : IsFinished state
  pub in_order : HasReferenceResult m i state
