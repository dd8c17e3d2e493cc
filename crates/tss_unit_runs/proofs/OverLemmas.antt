-- A drive that came to the end leaves a pipeline in which the run is over.
use Rattle.std.proofs.Common.{◌≡◌, [], Some, Ok, Err, sym, ap, subst}
use Rattle.tss_base.specs.declared.counts.Peaks.{Peaks}
use Rattle.tss_base.specs.Image.{ImageState, IsAccepted}
use Rattle.tss_base.specs.Machine.{IsAdmissible}
use Rattle.tss_model.specs.Memory.{loaded}
use Rattle.tss_protocol.specs.State.{initial_state}
use Rattle.tss_protocol.specs.Run.{after_events, IsRun}
use Rattle.tss_protocol.specs.Result.{IsFinished}
use Rattle.tss_program_order.specs.Refinement.{HasReferenceResult}
use Rattle.tss_conditions.proofs.Filling.{grounded}
use Rattle.tss_log.specs.declared.log.Log.{Ghosts}
use Rattle.tss_schedule.specs.declared.driving.ScheduleFault.{ScheduleFault}
use Rattle.tss_schedule.specs.Picks.{Meaning, Driven, at_first}
use Rattle.tss_schedule.specs.Driving.{Answer, Drives, EndsInOrder}
use Rattle.tss_unit_runs.specs.Finished.{IsOver}
use Rattle.tss_unit_runs.specs.Runs.{Finishes}

module _ {X L : Type 0} (f : Meaning X) (g : Ghosts L) (d new : Driven X) (log log_new : L) where
  module _ (i : ImageState) (accepted : IsAccepted i) (first : d.pipeline.state ≡ initial_state i) (answer : Answer)
      (h : Drives f g d new log log_new answer) where
    -- the events are a run of the image
    pub run_of_image : IsRun d.pipeline.machine i h.events new.pipeline.state
    run_of_image = subst (λ S. after_events d.pipeline.machine S h.events ≡ Some new.pipeline.state) first h.run

    -- home has the ranges of the image
    pub ranges_of_image : IsAdmissible d.pipeline.machine → new.pipeline.state.home.ranges ≡ (loaded i).ranges
    unfolding loaded
    ranges_of_image admissible =
        (grounded d.pipeline.machine i new.pipeline.state
        (record { accepted = accepted; admissible = admissible; reachable = (h.events, run_of_image) })).ranges

  -- the run is over
  pub over_after : (i : ImageState) (peaks : Peaks) → IsAccepted i → d.pipeline.state ≡ initial_state i
      → IsAdmissible d.pipeline.machine → EndsInOrder d.pipeline new.pipeline → Drives f g d new log log_new (Ok peaks)
      → IsOver new.pipeline i
  unfolding after_events
  over_after i peaks accepted first admissible in_order h = record {
    admissible = subst IsAdmissible (sym h.machine) admissible;
    finished = subst (λ p. IsFinished p.state) (sym h.answers.0.pipeline) h.answers.0.comes.ends.1;
    in_order =
        subst (λ m. HasReferenceResult m i new.pipeline.state) (sym h.machine) (in_order i accepted ([], ap Some (sym first)));
    ranges = ranges_of_image i accepted first (Ok peaks) h admissible;
  }

module _ {X L : Type 0} (f : Meaning X) (g : Ghosts L) (d new : Driven X) (log log_new : L) (i : ImageState)
    (accepted : IsAccepted i) (first : d.pipeline.state ≡ initial_state i) where
  -- the same drive, from the image's first state
  from_first : (answer : Answer) → Drives f g d new log log_new answer
      → Drives f g (at_first d.pipeline.machine i d.schedule) new log log_new answer
  from_first answer h =
      subst (λ S. Drives f g (record { pipeline = record { machine = d.pipeline.machine; state = S }; schedule = d.schedule }) new
      log log_new answer) first h

  -- it came to the end
  pub finishes_ok : (peaks : Peaks) → Drives f g d new log log_new (Ok peaks)
      → Finishes f g d.pipeline.machine i d.schedule log log_new
      (Ok (record { machine = new.pipeline.machine; image = i; peaks = peaks }))
  finishes_ok peaks h = record {
    accepted = accepted;
    last = new;
    drives = from_first (Ok peaks) h;
    ok = λ k. record { machine = h.machine k; image = i; peaks = peaks };
  }

  -- or there was a fault
  pub finishes_err : (fault : ScheduleFault) → Drives f g d new log log_new (Err fault)
      → Finishes f g d.pipeline.machine i d.schedule log log_new (Err fault)
  finishes_err fault h = record { accepted = accepted; last = new; drives = from_first (Err fault) h; ok = tt }
