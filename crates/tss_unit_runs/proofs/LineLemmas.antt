-- A drive by a given log from an image's first event: its judgement, by lines.
use Rattle.std.proofs.Common.{◌≡◌, ℕ, ◌+◌, ◌^◌, ◌≤◌, ◌<◌, Bool, true, false, cond, List, [], ◌∷◌, length, Some, None, Result, Ok, Err, refl, sym, ap, subst, ◌∙◌, arith}
use Rattle.std.specs.Prelude.{bytes_eq}
use Rattle.tss_base.specs.declared.event.Event.{Event}
use Rattle.tss_base.specs.declared.machine.Machine.{Machine}
use Rattle.tss_base.specs.declared.counts.Peaks.{Peaks}
use Rattle.tss_base.specs.Image.{ImageState, IsAccepted}
use Rattle.tss_base.specs.Machine.{IsAdmissible}
use Rattle.tss_model.specs.Memory.{loaded}
use Rattle.tss_protocol.specs.Run.{IsRun}
use Rattle.tss_protocol.specs.Counts.{peaks_of}
use Rattle.tss_protocol.specs.State.{initial_state}
use Rattle.tss_protocol.specs.Schedule as judging
use Rattle.tss_protocol.specs.Schedule.{LogFault, Judgement, judged}
use Rattle.tss_protocol.specs.Text.{lines_of, log_header}
use Rattle.tss_log.specs.declared.log.Log.{Ghosts}
use Rattle.tss_log.specs.LogLines.{LinesLeft, event_lines}
use Rattle.tss_conditions.proofs.Known.{reached_first}
use Rattle.tss_pipeline.specs.Seen.{PipelineState, IsReached}
use Rattle.tss_schedule.specs.declared.driving.ScheduleFault.{ScheduleFault}
use Rattle.tss_schedule.specs.declared.driving.ScheduleFault.TheVariants as fault
use Rattle.tss_schedule.specs.Picks.{Driven, at_first, Comes}
use Rattle.tss_schedule.specs.Givens.{given_picks, line_fault}
use Rattle.tss_schedule.specs.Driving.{Answer, IsWritten, driven, Drives}
use Rattle.tss_schedule.proofs.GivenRuns.{run_of_log}
use Rattle.tss_schedule.proofs.drives.BoundedEvents.{within_bound, bound_fits}
use Rattle.tss_outside.specs.Outside.{Rose}
use Rattle.tss_unit_runs.specs.declared.faults.GivenFault.{GivenFault}
use Rattle.tss_unit_runs.specs.declared.faults.GivenFault.TheVariants as given_fault
use Rattle.tss_unit_runs.specs.declared.faults.LineFault.{LineFault}
use Rattle.tss_unit_runs.specs.declared.faults.LineFault.TheVariants as line
use Rattle.tss_unit_runs.specs.Runs.{later_fault, fault_of, IsCounted, is_short, IsWholeOrShort}
use Rattle.tss_unit_runs.proofs.OverLemmas.{run_of_image, ranges_of_image}
use Rattle.tss_unit_runs.proofs.SeedLemmas.{never_rose}

-- at most the header comes before the first pick
pub offset_small : (ls : List (List ℕ)) → (event_lines ls).offset ≤ 1
offset_small [] = omega arith
offset_small (l ∷ ls) = by (bytes_eq l log_header)
  where
    seen : Bool → LinesLeft
    seen b = cond b (record { left = ls; offset = 1 }) (record { left = l ∷ ls; offset = 0 })

    by : (b : Bool) → (seen b).offset ≤ 1
    by true = omega arith
    by false = omega arith

module _ {L : Type 0} (g : Ghosts L) (m : Machine) (i : ImageState) (bytes : List ℕ) (last : Driven LinesLeft) (log log_new : L)
    (accepted : IsAccepted i) (admissible : IsAdmissible m) where
  abbrev given : LinesLeft
  given = event_lines (lines_of bytes)

  abbrev start : Driven LinesLeft
  start = at_first m i given

  -- the whole log was run
  pub log_whole : (peaks : Peaks) (h : Drives given_picks g start last log log_new (Ok peaks))
      → record { events = h.events; fault = None } ≡ judged m i bytes
  log_whole peaks h = run_of_log m i bytes (record { events = h.events; fault = None }) h.answers.0.comes

  pub log_peaks : (peaks : Peaks) → Drives given_picks g start last log log_new (Ok peaks)
      → peaks ≡ peaks_of m (initial_state i) (judged m i bytes).events
  log_peaks peaks h =
      h.answers.1 ∙ ap (λ (j : Judgement). peaks_of m (initial_state i) j.events) (log_whole peaks h)

  -- a fault, by its line
  log_fault : (es : List Event) (end : LogFault) → Comes given_picks start (record { events = es; fault = Some end })
      → record { events = es; fault = Some (line_fault given.offset end) } ≡ judged m i bytes
  log_fault es end comes = run_of_log m i bytes (record { events = es; fault = Some end }) comes

  pub log_judged : (fault : ScheduleFault) (h : Drives given_picks g start last log log_new (Err fault)) → IsWritten (Err fault)
      → record { events = h.events; fault = later_fault given.offset fault } ≡ judged m i bytes
  log_judged (fault.BadLine n) h written = log_fault h.events (judging.BadLine n) h.answers.comes
  log_judged (fault.NotEnabled n) h written = log_fault h.events (judging.NotEnabled n) h.answers.comes
  log_judged (fault.Short n) h written = log_fault h.events (judging.Short n) h.answers.comes
  log_judged (fault.Long n) h written = log_fault h.events (judging.Long n) h.answers.comes
  log_judged fault.WriteFault h written = absurd (written refl)

  -- its number
  reached_start : IsReached m (initial_state i)
  reached_start = record { image = i; reached = reached_first m i accepted admissible }

  counted : (es : List Event) (end : LogFault) (n : ℕ) → Comes given_picks start (record { events = es; fault = Some end })
      → n ≡ length es + 1 → n + given.offset < 2 ^ 64
  counted es end n comes is =
      let within = within_bound given_picks start reached_start es comes.done in
      let few = bound_fits m admissible in
      let small = offset_small (lines_of bytes) in
      omega (arith, within, few, small, is)

  pub log_counted : (fault : ScheduleFault) (h : Drives given_picks g start last log log_new (Err fault)) → IsWritten (Err fault)
      → IsCounted given.offset fault
  log_counted (fault.BadLine n) h written = counted h.events (judging.BadLine n) n h.answers.comes h.answers.comes.ends.0
  log_counted (fault.NotEnabled n) h written = counted h.events (judging.NotEnabled n) n h.answers.comes h.answers.comes.ends.0
  log_counted (fault.Short n) h written = counted h.events (judging.Short n) n h.answers.comes h.answers.comes.ends.0
  log_counted (fault.Long n) h written = counted h.events (judging.Long n) n h.answers.comes h.answers.comes.ends.0
  log_counted fault.WriteFault h written = absurd (written refl)

  -- by the machine and the lines that are at hand
  pub at_log : (d : Driven LinesLeft) (answer : Answer) → d ≡ start → Drives given_picks g d last log log_new answer
      → Drives given_picks g start last log log_new answer
  at_log d answer is h = subst (λ d. Drives given_picks g d last log log_new answer) is h

  -- the log's faults by lines, one by one
  pub line_judged : (fault : ScheduleFault) (k : ℕ) (r f : LineFault)
      → Drives given_picks g start last log log_new (Err fault) → IsWritten (Err fault) → k ≡ given.offset
      → Some (fault_of r) ≡ later_fault k fault → r ≡ f
      → (judged m i bytes).fault ≡ Some (fault_of f)
  line_judged fault k r f h written is told same =
      sym (ap (λ (j : Judgement). j.fault) (log_judged fault h written))
      ∙ ap (λ k. later_fault k fault) (sym is)
      ∙ sym told
      ∙ ap (λ r. Some (fault_of r)) same

-- the line of an answer
pub line_same : {T : Type 0} (r f : LineFault)
    → ◌≡◌ {A = Result T GivenFault} (Err (given_fault.Line r)) (Err (given_fault.Line f)) → r ≡ f
line_same r f e = cc

-- no log that never fails has that fault
pub written_by_none : (x : ScheduleFault) → (◌≡◌ {A = Answer} (Err x) (Err fault.WriteFault) → Rose 0 0) → IsWritten (Err x)
written_by_none x cause e = never_rose (cause e)

-- ---- the state that a log gives

true_false : false ≡ true → ⊥
true_false e = cc

-- lines that just end too early
pub short_fault : (f : LineFault) → is_short f ≡ true → IsWholeOrShort (Some (fault_of f))
short_fault (line.BadLine n) e = absurd (true_false e)
short_fault (line.NotEnabled n) e = absurd (true_false e)
short_fault (line.Short n) e = tt
short_fault (line.Long n) e = absurd (true_false e)

module _ {L : Type 0} (g : Ghosts L) (m : Machine) (i : ImageState) (bytes : List ℕ) (p : PipelineState) (s : LinesLeft)
    (last : Driven LinesLeft) (log log_new : L) (accepted : IsAccepted i) (admissible : IsAdmissible m)
    (first : p ≡ record { machine = m; state = initial_state i }) (lines : s ≡ event_lines (lines_of bytes)) where
  -- the drive from the start
  abbrev from_start : (answer : Answer) → Drives given_picks g (driven p s) last log log_new answer
      → Drives given_picks g (at_first m i (event_lines (lines_of bytes))) last log log_new answer
  from_start answer h =
      at_log g m i bytes last log log_new accepted admissible (driven p s) answer (λ k. driven (first k) (lines k)) h

  -- the run that the state comes from, and its ranges
  state_by : (answer : Answer) (h : Drives given_picks g (driven p s) last log log_new answer) (es : List Event)
      → (from_start answer h).events ≡ es → IsRun m i es last.pipeline.state
  state_by answer h es is =
      subst (λ es. IsRun m i es last.pipeline.state) is
      (run_of_image given_picks g (at_first m i (event_lines (lines_of bytes))) last log log_new i accepted refl answer
      (from_start answer h))

  pub state_ranges : (answer : Answer) → Drives given_picks g (driven p s) last log log_new answer
      → last.pipeline.state.home.ranges ≡ (loaded i).ranges
  state_ranges answer h =
      ranges_of_image given_picks g (at_first m i (event_lines (lines_of bytes))) last log log_new i accepted refl answer
      (from_start answer h) admissible

  -- after a whole run
  pub state_whole : (peaks : Peaks) → Drives given_picks g (driven p s) last log log_new (Ok peaks)
      → IsRun m i (judged m i bytes).events last.pipeline.state
  state_whole peaks h =
      state_by (Ok peaks) h (judged m i bytes).events
      (ap (λ (j : Judgement). j.events)
      (log_whole g m i bytes last log log_new accepted admissible peaks (from_start (Ok peaks) h)))

  pub fault_whole : (peaks : Peaks) → Drives given_picks g (driven p s) last log log_new (Ok peaks)
      → IsWholeOrShort (judged m i bytes).fault
  fault_whole peaks h =
      subst IsWholeOrShort
      (ap (λ (j : Judgement). j.fault)
      (log_whole g m i bytes last log log_new accepted admissible peaks (from_start (Ok peaks) h)))
      tt

  -- after a part of one
  module _ (x : ScheduleFault) (h : Drives given_picks g (driven p s) last log log_new (Err x)) (written : IsWritten (Err x)) where
    pub state_part : IsRun m i (judged m i bytes).events last.pipeline.state
    state_part =
        state_by (Err x) h (judged m i bytes).events
        (ap (λ (j : Judgement). j.events)
        (log_judged g m i bytes last log log_new accepted admissible x (from_start (Err x) h) written))

    -- the number of the fault
    pub part_counted : (k : ℕ) → k ≡ s.offset → IsCounted k x
    part_counted k is =
        subst (λ k. IsCounted k x) (sym (is ∙ ap (λ (l : LinesLeft). l.offset) lines))
        (log_counted g m i bytes last log log_new accepted admissible x (from_start (Err x) h) written)

    -- the fault itself
    pub part_fault : (k : ℕ) (r : LineFault) → k ≡ s.offset → Some (fault_of r) ≡ later_fault k x
        → (judged m i bytes).fault ≡ Some (fault_of r)
    part_fault k r is told =
        line_judged g m i bytes last log log_new accepted admissible x k r r (from_start (Err x) h) written
        (is ∙ ap (λ (l : LinesLeft). l.offset) lines) told refl
