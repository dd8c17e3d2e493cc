-- Schedules: the choice of an event by a word, the run that a seed draws, and the run that a log gives, with its first
-- fault.
use Rattle.std.specs.Prelude.{ℕ, zero, suc, ◌%◌, if◌then◌else◌, List, [], ◌∷◌, length, slice_get, bytes_eq, Option}
use Rattle.std.specs.Prelude.{Some, None}
use Rattle.rand_core.specs.Pcg32Seed.{pcg32_seed}
use Rattle.rand_pcg.specs.Lcg.{Lcg}
use Rattle.rand_pcg.specs.Pcg.{pcg32, pcg32_of_seed}
use Rattle.tss_base.specs.declared.machine.Machine.{Machine}
use Rattle.tss_base.specs.declared.event.Event.{Event}
use Rattle.tss_base.specs.Image.{ImageState}
use Rattle.tss_protocol.specs.State.{State, initial_state}
use Rattle.tss_protocol.specs.UnitMachine.{is_enabled, after_event, enabled_events}
use Rattle.tss_protocol.specs.Result.{is_finished}
use Rattle.tss_protocol.specs.Counts.{event_bound}
use Rattle.tss_protocol.specs.Text.{event_of_text, lines_of, log_header}

-- ---- by a seed

-- the enabled event at the place that the word is modulo their number, none where there is none
abbrev pub chosen_event : Machine → State → ℕ → Option Event
chosen_event m S w = slice_get (enabled_events m S) (w % length (enabled_events m S))

-- the generator of a seed
abbrev pub seeded : ℕ → Lcg
seeded n = pcg32_of_seed (pcg32_seed 16 n)

-- a drawn event, and those after it
abbrev pub seeded_on : Machine → State → (State → List Event) → Option Event → List Event
seeded_on m S rest None = []
seeded_on m S rest (Some e) = e ∷ rest (after_event m S e)

-- the events drawn by the generator's words until the state is finished, so many at most
unfoldable pub seeded_from : ℕ → Machine → State → Lcg → List Event
seeded_from zero m S g = []
seeded_from (suc n) m S g =
    if is_finished S then []
    else seeded_on m S (λ T. seeded_from n m T (pcg32 g).1) (chosen_event m S (pcg32 g).0)

-- the run of a seed
abbrev pub seeded_events : Machine → ImageState → ℕ → List Event
seeded_events m i n = seeded_from (event_bound m) m (initial_state i) (seeded n)

-- ---- by a log

-- why a log is refused, with the number of a line from 1, a header counted: it is no event's text, its event wasn't
-- enabled, the lines end before the state is finished (the number is then one more than that of the last), or the state
-- was finished before it
pub data LogFault : Type 0 where
  BadLine : ℕ → LogFault
  NotEnabled : ℕ → LogFault
  Short : ℕ → LogFault
  Long : ℕ → LogFault

-- the events that are done, and the fault that ends them
pub record Judgement : Type 0 where
  pub events : List Event
  pub fault : Option LogFault

-- a fault before any further event
abbrev pub faulted : LogFault → Judgement
faulted f = record { events = []; fault = Some f }

-- an event that is done before others
abbrev pub judged_after : Event → Judgement → Judgement
judged_after e j = record j { events = e ∷ j.events }

-- a line, by its event
abbrev pub judged_line : Machine → State → ℕ → (State → Judgement) → Option Event → Judgement
judged_line m S n rest None = faulted (BadLine n)
judged_line m S n rest (Some e) =
    if is_finished S then faulted (Long n)
    else if is_enabled m S e then judged_after e (rest (after_event m S e))
    else faulted (NotEnabled n)

-- no line is left
abbrev pub judged_end : State → ℕ → Judgement
judged_end S n = record { events = []; fault = if is_finished S then None else Some (Short n) }

-- the lines from number n on
unfoldable pub judged_from : Machine → State → ℕ → List (List ℕ) → Judgement
judged_from m S n [] = judged_end S n
judged_from m S n (l ∷ ls) = judged_line m S n (λ T. judged_from m T (suc n) ls) (event_of_text l)

-- all lines, where a header is passed over. A log without one has the older format, and its events begin at line 1
abbrev pub judged_lines : Machine → State → List (List ℕ) → Judgement
judged_lines m S [] = judged_from m S 1 []
judged_lines m S (l ∷ ls) = if bytes_eq l log_header then judged_from m S 2 ls else judged_from m S 1 (l ∷ ls)

-- what a log's bytes give
abbrev pub judged : Machine → ImageState → List ℕ → Judgement
judged m i bytes = judged_lines m (initial_state i) (lines_of bytes)
