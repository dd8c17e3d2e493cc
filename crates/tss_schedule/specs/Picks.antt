-- What a schedule does by its meaning: its picks, one after another, the events that are done by them, and how they end.
use Rattle.std.specs.Prelude.{◌≡◌, ℕ, ◌+◌, true, false, List, [], ◌∷◌, length, Option, Some, None}
use Rattle.tss_base.specs.declared.event.Event.{Event}
use Rattle.tss_base.specs.declared.machine.Machine.{Machine}
use Rattle.tss_base.specs.Image.{ImageState}
use Rattle.tss_protocol.specs.State.{initial_state}
use Rattle.tss_protocol.specs.UnitMachine.{is_enabled}
use Rattle.tss_protocol.specs.Result.{is_finished}
use Rattle.tss_protocol.specs.Schedule.{LogFault, BadLine, NotEnabled, Short, Long, Judgement}
use Rattle.tss_pipeline.specs.Seen.{PipelineState, stepped}
use Rattle.tss_schedule.specs.declared.schedule.Pick.{Pick}
use Rattle.tss_schedule.specs.declared.schedule.Pick.TheVariants as pick

-- ---- one pick

-- the meaning of a schedule: by what it holds and a unit machine, its pick, and what it holds afterwards
abbrev pub Meaning : Type 0 → Type 0
Meaning X = X → PipelineState → Pick × X

-- a unit machine, and what the schedule holds that says what it does
pub record Driven (X : Type 0) : Type 0 where
  pub pipeline : PipelineState
  pub schedule : X

-- the unit machine before the first event of an image's run, with its schedule
abbrev pub at_first : {X : Type 0} → Machine → ImageState → X → Driven X
at_first m i s = record { pipeline = record { machine = m; state = initial_state i }; schedule = s }

-- the pick
abbrev pub picked : {X : Type 0} → Meaning X → Driven X → Pick
picked f d = (f d.schedule d.pipeline).0

-- what the schedule holds after it
abbrev pub left_by : {X : Type 0} → Meaning X → Driven X → X
left_by f d = (f d.schedule d.pipeline).1

-- an event may be done: the run isn't over, and it may happen
pub record MayBeDone (p : PipelineState) (e : Event) : Type 0 where
  pub unfinished : is_finished p.state ≡ false
  pub enabled : is_enabled p.machine p.state e ≡ true

-- the pick is this event, and it may be done
pub record Does {X : Type 0} (f : Meaning X) (d : Driven X) (e : Event) : Type 0 where
  pub picked : picked f d ≡ pick.Do e
  pub may : MayBeDone d.pipeline e

-- the machine and the schedule after the event was picked and done
abbrev pub after_pick : {X : Type 0} → Meaning X → Driven X → Event → Driven X
after_pick f d e = record { pipeline = stepped d.pipeline e; schedule = left_by f d }

-- ---- one after another

-- each of these events is picked and done, in order
unfoldable pub DoesAll : {X : Type 0} → Meaning X → Driven X → List Event → Type 0
DoesAll f d [] = Unit {0}
DoesAll f d (e ∷ es) = Does f d e × DoesAll f (after_pick f d e) es

-- the machine and the schedule after these events
unfoldable pub after_picks : {X : Type 0} → Meaning X → Driven X → List Event → Driven X
after_picks f d [] = d
after_picks f d (e ∷ es) = after_picks f (after_pick f d e) es

-- a pick that has no fault: an event that may be done, or the end of a run that is over
abbrev pub Fits : PipelineState → Pick → Type 0
Fits p pick.End = is_finished p.state ≡ true
Fits p pick.Bad = ⊥
Fits p (pick.Do e) = MayBeDone p e

-- ---- how it ends

-- the pick with this number does no event. There is no fault where the schedule ends and the run is over; else it is a
-- bad line, an event that may not happen, an end before the run is over, or an event after it
abbrev pub EndsBy : PipelineState → ℕ → Pick → Option LogFault → Type 0
EndsBy p n c None = (c ≡ pick.End) × (is_finished p.state ≡ true)
EndsBy p n c (Some (BadLine k)) = (k ≡ n) × (c ≡ pick.Bad)
EndsBy p n c (Some (NotEnabled k)) =
    (k ≡ n) × (e : Event) × (c ≡ pick.Do e) × (is_finished p.state ≡ false) × (is_enabled p.machine p.state e ≡ false)
EndsBy p n c (Some (Short k)) = (k ≡ n) × (c ≡ pick.End) × (is_finished p.state ≡ false)
EndsBy p n c (Some (Long k)) = (k ≡ n) × (e : Event) × (c ≡ pick.Do e) × (is_finished p.state ≡ true)

-- what a schedule does in all: the events, and the fault of the pick after them. Picks are counted from 1
pub record Comes {X : Type 0} (f : Meaning X) (d : Driven X) (j : Judgement) : Type 0 where
  pub done : DoesAll f d j.events
  pub ends : EndsBy (after_picks f d j.events).pipeline (length j.events + 1) (picked f (after_picks f d j.events)) j.fault
