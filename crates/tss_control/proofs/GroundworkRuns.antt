-- The groundwork of every run, and the induction of what is to be shown with it.
use Rattle.std.proofs.Common.{◌≡◌, Bool, true, false, cond, List, [], ◌∷◌, Some, None, refl, subst}
use Rattle.std.proofs.lemmas.Option.{none-some, same_Some}
use Rattle.tss_base.specs.declared.operand.Task.{Task}
use Rattle.tss_base.specs.declared.machine.Machine.{Machine}
use Rattle.tss_base.specs.declared.event.Event.{Event}
use Rattle.tss_base.specs.Image.{ImageState}
use Rattle.tss_protocol.specs.State.{State, initial_state}
use Rattle.tss_protocol.specs.UnitMachine.{is_enabled, IsEnabled, after_event}
use Rattle.tss_protocol.specs.Needs.{round_after_event, round_from, round_of}
use Rattle.tss_protocol.specs.Run.{after_events, IsRun}
use Rattle.tss_locality.specs.Rounds.{IsRounded}
use Rattle.tss_locality.proofs.RunRounds.{IsRounded-after_event, IsRounded-initial_state}
use Rattle.tss_names.specs.Tasks.{HasTaskNumbers, spawned_after_event, spawned_after, spawned_tasks}
use Rattle.tss_names.specs.Names.{IsDecoded, IsEnlisted}
use Rattle.tss_control.specs.Readers.{Arrivals, arrivals_after_event, arrivals_from, no_arrivals}
use Rattle.tss_control.specs.Control.{HasGroundwork}
use Rattle.tss_names.proofs.GatewayLemmas.{has_gateway, decodes_in_order}
use Rattle.tss_names.proofs.NameEvents.{each_name}
use Rattle.tss_names.proofs.EnlistedNames.{has_openings}
use Rattle.tss_names.proofs.StageEvents.{IsStaged, IsStaged-after_event, IsStaged-initial_state, has_stages}
use Rattle.tss_names.proofs.AskingEvents.{IsAskingSound, IsAskingSound-after_event, IsAskingSound-initial_state}
use Rattle.tss_names.proofs.HeldEvents.{IsHoldingSound, IsHoldingSound-after_event, IsHoldingSound-initial_state}
use Rattle.tss_control.proofs.rounds.Rounds.{AreOfSpawned, AreOfSpawned-after_event, knows_round, no_round}

-- ---- what every event keeps

-- what the laws of every run were proved by, with the round
pub record IsGrounded (m : Machine) (all ts : List Task) (S : State) : Type 0 where
  pub held : IsHoldingSound m all S
  pub asking : IsAskingSound m all S
  pub staged : IsStaged m all S
  pub round : IsRounded S ts
  pub spawned : AreOfSpawned all ts

-- tasks are numbered by it
grounded_numbers : (m : Machine) (all ts : List Task) (S : State) → IsGrounded m all ts S → HasTaskNumbers m all S
grounded_numbers m all ts S h = h.staged.0

-- every enabled event keeps it
pub IsGrounded-after_event : (m : Machine) (all ts : List Task) (S : State) (e : Event) → IsGrounded m all ts S
    → IsEnabled m S e
    → IsGrounded m (spawned_after_event m S all e) (round_after_event m S ts e) (after_event m S e)
IsGrounded-after_event m all ts S e h on = record {
  held = IsHoldingSound-after_event m all S e h.held on;
  asking = IsAskingSound-after_event m all S e h.asking on;
  staged = IsStaged-after_event m all S e h.staged on;
  round = IsRounded-after_event m S ts h.round e on;
  spawned = AreOfSpawned-after_event m all ts S (grounded_numbers m all ts S h) h.spawned e;
}

-- the first state has it
pub IsGrounded-initial_state : (m : Machine) (i : ImageState) → IsGrounded m [] [] (initial_state i)
IsGrounded-initial_state m i = record {
  held = IsHoldingSound-initial_state m i;
  asking = IsAskingSound-initial_state m i;
  staged = IsStaged-initial_state m i;
  round = IsRounded-initial_state i;
  spawned = no_round [];
}

-- all laws follow
pub has_groundwork : (m : Machine) (all ts : List Task) (S : State) → IsGrounded m all ts S → HasGroundwork m all ts S
has_groundwork m all ts S h = record {
  numbers = grounded_numbers m all ts S h;
  gateway = has_gateway m all S h.held.0.0.0;
  decodes = decodes_in_order m all S h.held.0.0.0;
  names = each_name (IsDecoded all S) (IsEnlisted all S) S h.held.0.0.1;
  openings = has_openings m all S h.held.0;
  stages = has_stages m all S h.staged;
  asking = h.asking.1;
  places = h.held.1;
  round = h.round;
  known = knows_round all ts h.spawned;
}

-- ---- induction

-- a fact of the tasks spawned, those of the round, the readers that have come, and the state
abbrev pub RoundFact : Type 1
RoundFact = Machine → List Task → List Task → Arrivals → State → Type 0

-- each enabled event keeps it, given the groundwork before
abbrev pub IsKeptOnGround : RoundFact → Type 0
IsKeptOnGround P =
    (m : Machine) (all ts : List Task) (g : Arrivals) (S : State) (e : Event)
    → HasGroundwork m all ts S
    → P m all ts g S
    → IsEnabled m S e
    → P m (spawned_after_event m S all e) (round_after_event m S ts e) (arrivals_after_event S g e) (after_event m S e)

-- it holds with the groundwork
abbrev OnGround : RoundFact → RoundFact
OnGround P m all ts g S = IsGrounded m all ts S × P m all ts g S

-- so a list of events keeps both
kept_on_ground : (P : RoundFact) → IsKeptOnGround P → (m : Machine) (es : List Event) (all ts : List Task)
    (g : Arrivals) (S T : State) → OnGround P m all ts g S → after_events m S es ≡ Some T
    → OnGround P m (spawned_after m S all es) (round_from m S ts es) (arrivals_from m S g es) T
unfolding after_events spawned_after round_from arrivals_from
kept_on_ground P kept m [] all ts g S T h run = subst (OnGround P m all ts g) (same_Some S T run) h
kept_on_ground P kept m (e ∷ es) all ts g S T h run =
    by (is_enabled m S e) refl run
    (λ k. kept_on_ground P kept m es (spawned_after_event m S all e) (round_after_event m S ts e)
    (arrivals_after_event S g e) (after_event m S e) T k)
  where
    by : (b : Bool) → is_enabled m S e ≡ b → cond b (after_events m (after_event m S e) es) None ≡ Some T
        → (OnGround P m (spawned_after_event m S all e) (round_after_event m S ts e) (arrivals_after_event S g e)
        (after_event m S e) → after_events m (after_event m S e) es ≡ Some T
        → OnGround P m (spawned_after m (after_event m S e) (spawned_after_event m S all e) es)
        (round_from m (after_event m S e) (round_after_event m S ts e) es)
        (arrivals_from m (after_event m S e) (arrivals_after_event S g e) es) T)
        → OnGround P m (spawned_after m (after_event m S e) (spawned_after_event m S all e) es)
        (round_from m (after_event m S e) (round_after_event m S ts e) es)
        (arrivals_from m (after_event m S e) (arrivals_after_event S g e) es) T
    by true on rest go = go (
      IsGrounded-after_event m all ts S e h.0 on,
      kept m all ts g S e (has_groundwork m all ts S h.0) h.1 on,
    ) rest
    by false off rest go = absurd (none-some T rest)

-- what holds at first and is kept holds in every run
pub ground_of_runs : (P : RoundFact) → IsKeptOnGround P
    → ((m : Machine) (i : ImageState) → P m [] [] no_arrivals (initial_state i))
    → (m : Machine) (i : ImageState) (es : List Event) (S : State) → IsRun m i es S
    → OnGround P m (spawned_tasks m i es) (round_of m (initial_state i) es)
    (arrivals_from m (initial_state i) no_arrivals es) S
ground_of_runs P kept first m i es S run =
    kept_on_ground P kept m es [] [] no_arrivals (initial_state i) S (IsGrounded-initial_state m i, first m i) run

-- every run has the groundwork
pub HasGroundwork-Run : (m : Machine) (i : ImageState) (es : List Event) (S : State) → IsRun m i es S
    → HasGroundwork m (spawned_tasks m i es) (round_of m (initial_state i) es) S
HasGroundwork-Run m i es S run =
    has_groundwork m (spawned_tasks m i es) (round_of m (initial_state i) es) S
    (ground_of_runs (λ m all ts g S. Unit {0}) (λ m all ts g S e ground h on. tt) (λ m i. tt) m i es S run).0
