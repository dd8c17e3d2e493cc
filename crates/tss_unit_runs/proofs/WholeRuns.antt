-- The events of a seed, and those of a log that is refused for nothing, are a run to its end.
use Rattle.std.proofs.Common.{◌≡◌, ℕ, suc, Bool, true, false, cond, List, [], ◌∷◌, Option, Some, None, refl, ap, ◌∙◌}
use Rattle.std.specs.Prelude.{bytes_eq}
use Rattle.tss_base.specs.declared.event.Event.{Event}
use Rattle.tss_base.specs.declared.machine.Machine.{Machine}
use Rattle.tss_base.specs.Image.{ImageState, IsAccepted}
use Rattle.tss_base.specs.Machine.{IsAdmissible}
use Rattle.tss_protocol.specs.Result.{IsFinished, is_finished}
use Rattle.tss_protocol.specs.Run.{after_events}
use Rattle.tss_protocol.specs.Schedule.{LogFault, NotEnabled, Short, Long, Judgement, seeded, seeded_events, faulted, judged_after, judged_line, judged_from, judged_lines, judged}
use Rattle.tss_protocol.specs.State.{State, initial_state}
use Rattle.tss_protocol.specs.Text.{event_of_text, lines_of, log_header}
use Rattle.tss_protocol.specs.UnitMachine.{is_enabled, after_event}
use Rattle.tss_schedule.specs.Picks.{at_first, after_picks}
use Rattle.tss_schedule.specs.Seeds.{seeded_picks}
use Rattle.tss_schedule.proofs.SeededRuns.{run_of_seed}
use Rattle.tss_schedule.proofs.drives.PickedEvents.{picked_run}
use Rattle.tss_values.proofs.ValuesEvents.{result_of_runs}
use Rattle.tss_unit_runs.specs.Finished.{IsWholeRun}

some_none : {X : Type 0} {x : X} → Some x ≡ None → ⊥
some_none e = cc

-- from a state on these events lead to one in which the run is over
record Ends (m : Machine) (S : State) (es : List Event) : Type 0 where
  state : State
  run : after_events m S es ≡ Some state
  finished : IsFinished state

-- ---- a log's

module _ (m : Machine) (S : State) (n : ℕ) (rest : State → Judgement)
    (ends : (T : State) → (rest T).fault ≡ None → Ends m T (rest T).events) (e : Event) where
  -- an event's line, whether the run is over and whether the event may happen
  ends_event : (over on : Bool) → is_enabled m S e ≡ on
      → (cond over (faulted (Long n)) (cond on (judged_after e (rest (after_event m S e))) (faulted (NotEnabled n)))).fault ≡ None
      → Ends m S (cond over (faulted (Long n)) (cond on (judged_after e (rest (after_event m S e))) (faulted (NotEnabled n)))).events
  unfolding after_events
  ends_event true on is none = absurd (some_none none)
  ends_event false false is none = absurd (some_none none)
  ends_event false true is none =
      let r = ends (after_event m S e) none in
      record {
        state = r.state;
        run = ap (λ b. cond b (after_events m (after_event m S e) (rest (after_event m S e)).events) None) is ∙ r.run;
        finished = r.finished;
      }

ends_line : (m : Machine) (S : State) (n : ℕ) (rest : State → Judgement)
    → ((T : State) → (rest T).fault ≡ None → Ends m T (rest T).events) → (x : Option Event)
    → (judged_line m S n rest x).fault ≡ None → Ends m S (judged_line m S n rest x).events
ends_line m S n rest ends None none = absurd (some_none none)
ends_line m S n rest ends (Some e) none = ends_event m S n rest ends e (is_finished S) (is_enabled m S e) refl none

ends_from : (m : Machine) (S : State) (n : ℕ) (ls : List (List ℕ)) → (judged_from m S n ls).fault ≡ None
    → Ends m S (judged_from m S n ls).events
unfolding judged_from after_events
ends_from m S n [] none = record { state = S; run = refl; finished = over (is_finished S) refl none }
  where
    over : (b : Bool) → is_finished S ≡ b → ◌≡◌ {A = Option LogFault} (cond b None (Some (Short n))) None → IsFinished S
    over true is e = is
    over false is e = absurd (some_none e)
ends_from m S n (l ∷ ls) none =
    ends_line m S n (λ T. judged_from m T (suc n) ls) (λ T e. ends_from m T (suc n) ls e) (event_of_text l) none

ends_lines : (m : Machine) (S : State) (ls : List (List ℕ)) → (judged_lines m S ls).fault ≡ None
    → Ends m S (judged_lines m S ls).events
ends_lines m S [] none = ends_from m S 1 [] none
ends_lines m S (l ∷ ls) none = by_header (bytes_eq l log_header) none
  where
    by_header : (b : Bool) → (cond b (judged_from m S 2 ls) (judged_from m S 1 (l ∷ ls))).fault ≡ None
        → Ends m S (cond b (judged_from m S 2 ls) (judged_from m S 1 (l ∷ ls))).events
    by_header true none = ends_from m S 2 ls none
    by_header false none = ends_from m S 1 (l ∷ ls) none

-- ---- of an image

module _ (m : Machine) (i : ImageState) (accepted : IsAccepted i) (admissible : IsAdmissible m) where
  whole_by : (es : List Event) → Ends m (initial_state i) es → IsWholeRun m i es
  whole_by es e = record {
    state = e.state;
    run = e.run;
    finished = e.finished;
    in_order = result_of_runs m i es e.state accepted admissible e.run e.finished;
  }

  -- those of a log without a fault
  pub given_whole : (bytes : List ℕ) → (judged m i bytes).fault ≡ None → IsWholeRun m i (judged m i bytes).events
  given_whole bytes none = whole_by (judged m i bytes).events (ends_lines m (initial_state i) (lines_of bytes) none)

  -- those of a seed
  pub seeded_whole : (n : ℕ) → IsWholeRun m i (seeded_events m i n)
  seeded_whole n =
      let es = seeded_events m i n in
      let d = at_first m i (seeded n) in
      let comes = (run_of_seed m i n (record { events = es; fault = None }) accepted admissible).1 refl in
      whole_by es (record {
        state = (after_picks seeded_picks d es).pipeline.state;
        run = picked_run seeded_picks d es comes.done;
        finished = comes.ends.1;
      })
