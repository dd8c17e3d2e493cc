-- States that a run reaches step by step, and their ranges of memory.
use Rattle.std.proofs.Common.{◌≡◌, Result, Ok, Err, refl, sym, ◌∙◌, subst}
use Rattle.tss_base.specs.declared.event.Event.{Event}
use Rattle.tss_base.specs.declared.machine.Machine.{Machine}
use Rattle.tss_base.specs.Image.{ImageState}
use Rattle.tss_model.specs.Memory.{loaded, memory_ranges}
use Rattle.tss_protocol.specs.State.{State}
use Rattle.tss_conditions.specs.Reached.{Reached}
use Rattle.tss_conditions.proofs.Known.{reached_after}
use Rattle.tss_conditions.proofs.Filling.{grounded}
use Rattle.tss_pipeline.specs.declared.step.NotEnabled.{NotEnabled}
use Rattle.tss_pipeline.specs.Seen.{PipelineState, StepsTo}

-- a step leaves a state that is reached
pub kept_reached : (image : ImageState) (e : Event) (old new : PipelineState) (r : Result (Unit {0}) NotEnabled) →
    StepsTo e old new r → Reached old.machine image old.state → Reached new.machine image new.state
kept_reached image e old new (Ok v) step reached =
    subst (λ (p : PipelineState). Reached p.machine image p.state) (sym step.1)
    (reached_after old.machine image old.state e reached step.0)
kept_reached image e old new (Err x) step reached =
    subst (λ (p : PipelineState). Reached p.machine image p.state) (sym step.1) reached

loaded_ranges : (image : ImageState) → memory_ranges image ≡ (loaded image).ranges
unfolding loaded
loaded_ranges image = refl

-- its ranges of memory are those of the image as loaded
pub reached_ranges : (m : Machine) (image : ImageState) (s : State) → Reached m image s → s.home.ranges ≡ (loaded image).ranges
reached_ranges m image s reached = (grounded m image s reached).ranges ∙ loaded_ranges image
