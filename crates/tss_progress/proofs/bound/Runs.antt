-- No run has more events than the bound: each lowers the measure, which is the bound at first.
use Rattle.std.proofs.Common.{◌≡◌, ℕ, ◌+◌, ◌*◌, ◌≤◌, Bool, true, false, cond, List, [], ◌∷◌, length, Some, None, refl}
use Rattle.std.proofs.Common.{ap, arith}
use Rattle.std.specs.Prelude.{◌-◌}
use Rattle.std.proofs.lemmas.Option.{none-some, same_Some}
use Rattle.tss_base.specs.declared.operand.OpName.{OpName}
use Rattle.tss_base.specs.declared.operand.Operand.{Operand}
use Rattle.tss_base.specs.declared.operand.Task.{Task}
use Rattle.tss_base.specs.declared.machine.Machine.{Machine}
use Rattle.tss_base.specs.declared.event.Event.{Event}
use Rattle.tss_base.specs.Image.{ImageState}
use Rattle.tss_base.specs.Machine.{IsAdmissible}
use Rattle.tss_maps.proofs.Keys.{name_order, nat_order}
use Rattle.tss_maps.proofs.Sums.{sum_empty}
use Rattle.tss_protocol.specs.Mail.{OpenContents, ReleaseContents, IdleContents, GoneContents, no_mail}
use Rattle.tss_protocol.specs.State.{State, initial_state}
use Rattle.tss_protocol.specs.Counts.{event_bound, pieces_of_object, task_events}
use Rattle.tss_protocol.specs.Needs.{round_after_event}
use Rattle.tss_protocol.specs.Run.{after_events}
use Rattle.tss_protocol.specs.UnitMachine.{is_enabled, IsEnabled, after_event}
use Rattle.tss_phases.proofs.OrderlyEvents.{orderly_at_first}
use Rattle.tss_names.specs.Tasks.{spawned_after_event}
use Rattle.tss_control.specs.Readers.{Arrivals, arrivals_after_event, no_arrivals}
use Rattle.tss_control.specs.Control.{IsControlled}
use Rattle.tss_progress.specs.Bound.{EventsLaw}
use Rattle.tss_control.proofs.GroundworkRuns.{IsGrounded, IsGrounded-after_event, IsGrounded-initial_state}
use Rattle.tss_control.proofs.GroundworkRuns.{has_groundwork}
use Rattle.tss_control.proofs.GroundworkEmpty.{IsControlled-bare, IsBare-initial_state}
use Rattle.tss_control.proofs.GroundworkJoin.{AreGroupsKept, IsControlled-event}
use Rattle.tss_control.proofs.GroundworkControl.{keeps_groups}
use Rattle.tss_progress.proofs.bound.Measure.{each_left, mail_left, flying_left, busy_left, version_left, copy_left}
use Rattle.tss_progress.proofs.bound.Measure.{measure}
use Rattle.tss_control.proofs.rounds.FitObjects.{HaveFitObjects, no_objects, HaveFitObjects-after_event}
use Rattle.tss_progress.proofs.bound.Events.{lowered_event}
use Rattle.tss_control.proofs.rounds.Facts.{facts_of}

-- ---- at first

no_mail_left : (c : ℕ) → mail_left c no_mail ≡ 0
no_mail_left c =
    let decodes = sum_empty name_order (each_left Operand (6 + c)) in
    let units = sum_empty name_order (each_left (Unit {0}) 1) in
    let opens = sum_empty name_order (each_left OpenContents (4 + c)) in
    let uses = sum_empty name_order (each_left OpName 3) in
    let releases = sum_empty name_order (each_left ReleaseContents 2) in
    let byes = sum_empty name_order (each_left Bool 1) in
    let idles = sum_empty name_order (each_left IdleContents 2) in
    let gones = sum_empty name_order (each_left GoneContents 1) in
    omega (arith, decodes, units, opens, uses, releases, byes, idles, gones)

-- all tasks are still to be spawned
none_spawned : (most each : ℕ) → (most - 0) * each ≡ most * each
none_spawned most each = let all : most - 0 ≡ most = omega arith in ap (λ n. n * each) all

-- the measure of the first state is the bound
measure_at_first : (m : Machine) (i : ImageState) → measure m (initial_state i) ≤ event_bound m
measure_at_first m i =
    let mail = no_mail_left (pieces_of_object m) in
    let flight = sum_empty nat_order (flying_left m.limits.task_budget) in
    let workers = sum_empty nat_order (busy_left m.limits.task_budget) in
    let versions = sum_empty name_order (version_left (pieces_of_object m)) in
    let copies = sum_empty nat_order copy_left in
    let share : (m.limits.max_tasks - (initial_state i).main.spawned) * task_events m
    ≡ m.limits.max_tasks * task_events m = none_spawned m.limits.max_tasks (task_events m) in
    omega (arith, mail, flight, workers, versions, copies, share)

-- ---- every run

-- a controlled state with what is proved of every run
record IsMeasured (m : Machine) (all ts : List Task) (g : Arrivals) (S : State) : Type 0 where
  pub ground : IsGrounded m all ts S
  pub control : IsControlled ts g S
  pub fit : HaveFitObjects m.limits all

module _ (kept : (e : Event) → AreGroupsKept e) (m : Machine) (admissible : IsAdmissible m) where
  -- each enabled event leaves one
  IsMeasured-after_event : (all ts : List Task) (g : Arrivals) (S : State) (e : Event) → IsMeasured m all ts g S
      → IsEnabled m S e
      → IsMeasured m (spawned_after_event m S all e) (round_after_event m S ts e) (arrivals_after_event S g e)
      (after_event m S e)
  IsMeasured-after_event all ts g S e h on =
      let facts = facts_of m all ts g S (has_groundwork m all ts S h.ground) h.control in
      record {
        ground = IsGrounded-after_event m all ts S e h.ground on;
        control =
            IsControlled-event e (kept e) m S facts on ((kept e).order m S facts on);
        fit = HaveFitObjects-after_event m all S h.fit e;
      }

  -- so events and what is left after them are no more than what was left before
  bounded_after : (es : List Event) (all ts : List Task) (g : Arrivals) (S T : State) → IsMeasured m all ts g S
      → after_events m S es ≡ Some T → length es + measure m T ≤ measure m S
  unfolding after_events
  bounded_after [] all ts g S T h run = let same = ap (measure m) (same_Some S T run) in omega (arith, same)
  bounded_after (e ∷ es) all ts g S T h run =
      by (is_enabled m S e) refl run
      (λ k. bounded_after es (spawned_after_event m S all e) (round_after_event m S ts e)
      (arrivals_after_event S g e) (after_event m S e) T k)
    where
      by : (b : Bool) → is_enabled m S e ≡ b → cond b (after_events m (after_event m S e) es) None ≡ Some T
          → (IsMeasured m (spawned_after_event m S all e) (round_after_event m S ts e) (arrivals_after_event S g e)
          (after_event m S e) → after_events m (after_event m S e) es ≡ Some T
          → length es + measure m T ≤ measure m (after_event m S e))
          → length (e ∷ es) + measure m T ≤ measure m S
      by true on rest go =
          let more = go (IsMeasured-after_event all ts g S e h on) rest in
          let facts = facts_of m all ts g S (has_groundwork m all ts S h.ground) h.control in
          let less = lowered_event m admissible S facts h.fit e on in
          omega (arith, more, less)
      by false off rest go = absurd (none-some T rest)

-- where each event keeps the control, no run has more events than the bound
bounded_of_runs : ((e : Event) → AreGroupsKept e) → EventsLaw
bounded_of_runs kept m i es S accepted admissible run =
    let most = bounded_after kept m admissible es [] [] no_arrivals (initial_state i) S (record {
      ground = IsGrounded-initial_state m i;
      control = IsControlled-bare (initial_state i) (IsBare-initial_state i) no_arrivals (orderly_at_first i);
      fit = no_objects m.limits;
    }) run in
    let first = measure_at_first m i in
    omega (arith, most, first)

-- so none has
pub events_of_runs : EventsLaw
events_of_runs = bounded_of_runs keeps_groups
