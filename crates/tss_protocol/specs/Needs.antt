-- Which tasks a task waits for, by operand lists alone, and what a needless wait is.
use Rattle.std.specs.Prelude.{◌≡◌, ℕ, ◌==◌, Bool, true, false, ◌&&◌, ◌||◌, not, nat_lt, List, [], ◌∷◌, ◌++◌, filter}
use Rattle.std.specs.Prelude.{flat_map, fold, Option, Some, None, option_to_list}
use Rattle.std.specs.List.{list_any, list_all}
use Rattle.std.specs.FinMap.{get, values}
use Rattle.tss_base.specs.declared.range.Range.{Range}
use Rattle.tss_base.specs.declared.operand.Mode.{Mode}
use Rattle.tss_base.specs.declared.operand.Mode.TheVariants.{Input, Output, Inout}
use Rattle.tss_base.specs.declared.operand.Task.{Task}
use Rattle.tss_base.specs.declared.machine.Machine.{Machine}
use Rattle.tss_base.specs.declared.event.Event.{Event}
use Rattle.tss_base.specs.declared.event.Event.TheVariants as event
use Rattle.tss_base.specs.declared.marks.Stage.{Stage}
use Rattle.tss_base.specs.declared.marks.Stage.TheVariants as stage
use Rattle.tss_model.specs.Access.{operands_of, writes}
use Rattle.tss_model.specs.Spawn.{same_range}
use Rattle.tss_model.specs.MainStep.{MainState, Call, ExitCall, Spawn, Barrier, Print, Await, Unknown, main_call}
use Rattle.tss_protocol.specs.Mail.{is_silent}
use Rattle.tss_protocol.specs.State.{State, Flying}
use Rattle.tss_protocol.specs.Stations.{has_finished}
use Rattle.tss_protocol.specs.MainEvent.{call_next}
use Rattle.tss_protocol.specs.UnitMachine.{after_event}

-- ---- the tasks of a round

-- the tasks spawned since the last barrier, after one more call of main
abbrev pub round_after_call : List Task → Call → MainState × Option Task → List Task
round_after_call round Barrier d = []
round_after_call round Spawn d = round ++ option_to_list d.1
round_after_call round ExitCall d = round
round_after_call round Print d = round
round_after_call round Await d = round
round_after_call round (Unknown n) d = round

-- the tasks after main's event, by its call
abbrev pub round_after_main : Machine → State → List Task → Option Call → List Task
round_after_main m S round None = round
round_after_main m S round (Some call) = round_after_call round call (main_call m.limits S.home S.main call)

-- only main's event changes them
abbrev pub round_after_event : Machine → State → List Task → Event → List Task
round_after_event m S round event.Main = round_after_main m S round (call_next m S)
round_after_event m S round e = round

-- the tasks after events, where these were spawned before
unfoldable pub round_from : Machine → State → List Task → List Event → List Task
round_from m S round [] = round
round_from m S round (e ∷ es) = round_from m (after_event m S e) (round_after_event m S round e) es

-- the tasks that a run from its first state has put into the inbox since its last barrier, in order
abbrev pub round_of : Machine → State → List Event → List Task
round_of m S es = round_from m S [] es

-- ---- what a task needs

-- an object in a list of tasks: the last that writes it, and those that only read it after that
pub record Users : Type 0 where
  pub writer : Option ℕ
  pub readers : List ℕ

-- a task writes an object
abbrev pub has_written : Range → Task → Bool
has_written object t = list_any (λ o. same_range o.object object && writes o.mode) (operands_of t)

-- a task only reads it
abbrev pub has_read : Range → Task → Bool
has_read object t = list_any (λ o. same_range o.object object && not (writes o.mode)) (operands_of t)

-- after one more task
abbrev pub users_with : Users → ℕ → Bool → Bool → Users
users_with u task true read = record { writer = Some task; readers = [] }
users_with u task false true = record u { readers = u.readers ++ task ∷ [] }
users_with u task false false = u

-- nobody
abbrev pub no_users : Users
no_users = record { writer = None; readers = [] }

-- after tasks in order
abbrev pub users_of : Range → List Task → Users
users_of object ts = fold (λ u t. users_with u t.number (has_written object t) (has_read object t)) no_users ts

-- an input needs the last writer, an inout the last writer and its readers since, and an output nobody
abbrev pub needs_by : Mode → Users → List ℕ
needs_by Input u = option_to_list u.writer
needs_by Output u = []
needs_by Inout u = option_to_list u.writer ++ u.readers

-- the tasks that a task needs, where these were spawned before it since the last barrier
abbrev pub needed_after : List Task → Task → List ℕ
needed_after earlier t = flat_map (λ o. needs_by o.mode (users_of o.object earlier)) (operands_of t)

-- the tasks of a round that were spawned before one
abbrev pub earlier_in : List Task → Task → List Task
earlier_in round t = filter (λ s. nat_lt s.number t.number) round

-- the tasks of a round that one of its tasks needs
abbrev pub needed_tasks : List Task → Task → List ℕ
needed_tasks round t = needed_after (earlier_in round t) t

-- a task of the round needs another by its number
abbrev pub Needs : List Task → Task → ℕ → Type 0
Needs round t n = list_any (λ k. k == n) (needed_tasks round t) ≡ true

-- ---- no false wait

-- it is past waiting
abbrev pub runs_or_finished : Stage → Bool
runs_or_finished stage.Waiting = false
runs_or_finished stage.Queued = false
runs_or_finished stage.Running = true
runs_or_finished stage.Finished = true

-- it is the task in the inbox
abbrev pub is_in_inbox : Option Task → ℕ → Bool
is_in_inbox None n = false
is_in_inbox (Some t) n = t.number == n

-- a spawned task has finished or left: it isn't in the inbox, and where it is in flight it has finished
abbrev pub is_past_by : State → ℕ → Option Flying → Bool
is_past_by S n (Some x) = has_finished x.stage
is_past_by S n None = not (is_in_inbox S.inbox n)

-- the same, by its number
abbrev pub is_past : State → ℕ → Bool
is_past S n = is_past_by S n (get S.flight n)

-- it is in the ready queue
abbrev pub is_in_queue : State → ℕ → Bool
is_in_queue S n = list_any (λ k. k == n) S.queue

-- a task in flight runs or has finished, waits for a task that it needs, or is in the ready queue
abbrev pub waits_rightly : State → List Task → Flying → Bool
waits_rightly S round x =
    runs_or_finished x.stage || not (list_all (is_past S) (needed_tasks round x.task)) || is_in_queue S x.task.number

-- where no message is under way, no task waits needlessly
abbrev pub has_no_false_wait : State → List Task → Bool
has_no_false_wait S round = not (is_silent S.mail) || list_all (waits_rightly S round) (values S.flight)

-- the fact
abbrev pub HasNoFalseWait : State → List Task → Type 0
HasNoFalseWait S round = has_no_false_wait S round ≡ true
