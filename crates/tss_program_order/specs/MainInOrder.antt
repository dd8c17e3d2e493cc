-- One event of main beside program order: where main and the bytes that it may load are those of program order, they
-- are so after the event, and what main stores lies where it may load.
use Rattle.std.specs.Prelude.{◌≡◌, ◌⊎◌, ℕ, suc, ◌≤◌, ◌<◌, Bool, false, if◌then◌else◌, List, Option, Some, None}
use Rattle.std.specs.List.{list_any}
use Rattle.std.specs.FinMap.{get}
use Rattle.tss_base.specs.declared.range.Range.{Range}
use Rattle.tss_base.specs.declared.operand.Task.{Task}
use Rattle.tss_base.specs.declared.ending.Trap.{Trap}
use Rattle.tss_base.specs.declared.ending.Ending.TheVariants.{TaskTrap}
use Rattle.tss_base.specs.declared.machine.Limits.{Limits}
use Rattle.tss_base.specs.declared.machine.Machine.{Machine}
use Rattle.tss_base.specs.declared.event.Event.{Event}
use Rattle.tss_base.specs.declared.event.Event.TheVariants as event
use Rattle.tss_base.specs.Image.{ImageState}
use Rattle.tss_model.specs.Memory.{MemoryRange, covers}
use Rattle.tss_model.specs.Access.{Loads, Granted, main_access, operands_of}
use Rattle.tss_model.specs.MainStep.{MainState, Flat, output_of}
use Rattle.tss_model.specs.InOrder.{Started, is_executed, flat_stepped, main_after, started_at, end_of_started}
use Rattle.tss_model.specs.InOrder.{in_order}
use Rattle.tss_protocol.specs.State.{State}
use Rattle.tss_protocol.specs.Result.{pieces_by}
use Rattle.tss_protocol.specs.UnitMachine.{IsEnabled, after_event}
use Rattle.tss_protocol.specs.Run.{OverRuns}

-- ---- where main stands in program order

-- the steps that main has taken: one for each instruction that it has completed, and one more where its last step
-- ended it and completed none
abbrev pub steps_taken : MainState → ℕ
steps_taken m = if is_executed m.ending then m.registers.done else suc m.registers.done

-- program order after as many steps
abbrev pub flat_beside : ImageState → Limits → MainState → Flat
flat_beside i limits m = flat_stepped i limits (steps_taken m)

-- by the rule of access main may load the byte at an address
abbrev pub MayLoad : List MemoryRange → List Range → ℕ → Type 0
MayLoad ranges named a = main_access ranges named Loads (record { base = a; len = 1 }) ≡ Granted

-- home and the memory of program order have the same byte at an address, or both have none
abbrev pub Agrees : Machine → ImageState → State → ℕ → Type 0
Agrees m i S a = get S.home.bytes a ≡ get (flat_beside i m.limits S.main).memory.bytes a

-- registers, number of spawned tasks, epoch, pieces and ending of main are those of program order after as many steps,
-- and so is home at each address that main may load
pub record FollowsInOrder (m : Machine) (i : ImageState) (S : State) : Type 0 where
  pub main : S.main ≡ (flat_beside i m.limits S.main).main
  pub home : (a : ℕ) → MayLoad S.home.ranges S.main.epoch a → Agrees m i S a

-- a task that main has spawned traps in program order, and so ends it: there is no state after as many instructions of
-- main as it has completed. What main has printed with fewer tasks spawned is the output of program order
pub record IsCutOff (i : ImageState) (limits : Limits) (main : MainState) : Type 0 where
  pub place : ℕ
  pub before : place < main.registers.done
  pub started : Started
  pub start : started_at i limits place ≡ Some started
  pub number : started.task.number ≤ main.spawned
  pub trap : Trap
  pub trapped : (end_of_started i limits started).trap ≡ Some trap
  pub none : main_after i limits main.registers.done ≡ None
  pub ending : (in_order i limits).ending ≡ TaskTrap started.task.number trap
  pub tasks : (in_order i limits).tasks ≡ started.task.number
  pub printed : output_of (pieces_by (Some (record { task = started.task.number; trap = trap })) main.pieces)
      ≡ (in_order i limits).output

-- ---- one event

-- the task that program order starts with main's next instruction, if it starts one
abbrev pub started_next : Machine → ImageState → State → Option Started
started_next m i S = started_at i m.limits S.main.registers.done

-- a started task stands in the inbox
abbrev pub inbox_with : Option Started → Option Task → Option Task
inbox_with None inbox = inbox
inbox_with (Some s) inbox = Some s.task

-- an address lies in the object of an operand of a started task
abbrev pub is_operand_of : Option Started → ℕ → Bool
is_operand_of None a = false
is_operand_of (Some s) a = list_any (λ o. covers o.object a) (operands_of s.task)

-- after an event of main, main is that of program order again, or the task that it has just spawned traps there. The
-- inbox has the task that program order starts, where it starts one. At each address beside the objects of that task,
-- and so at each that main may load afterwards, home agrees with program order if it did so before
pub record FollowsAfter (m : Machine) (i : ImageState) (S T : State) : Type 0 where
  pub main : (T.main ≡ (flat_beside i m.limits T.main).main) ⊎ IsCutOff i m.limits T.main
  pub inbox : T.inbox ≡ inbox_with (started_next m i S) S.inbox
  pub beside : (a : ℕ) → is_operand_of (started_next m i S) a ≡ false → Agrees m i S a → Agrees m i T a
  pub home : (a : ℕ) → MayLoad T.home.ranges T.main.epoch a → Agrees m i S a → Agrees m i T a

-- an event of main keeps main in program order
abbrev pub StaysInOrder : Machine → ImageState → List Event → State → Type 0
StaysInOrder m i es S =
    IsEnabled m S event.Main → FollowsInOrder m i S → FollowsAfter m i S (after_event m S event.Main)

-- where a task's trap has ended program order, it is so after an event of main
abbrev pub StaysCutOff : Machine → ImageState → List Event → State → Type 0
StaysCutOff m i es S =
    IsEnabled m S event.Main
    → IsCutOff i m.limits S.main
    → IsCutOff i m.limits (after_event m S event.Main).main

-- an event of main changes home only at addresses that main may load
abbrev pub StoresWhereItLoads : Machine → ImageState → List Event → State → Type 0
StoresWhereItLoads m i es S =
    (a : ℕ)
    → (MayLoad S.home.ranges S.main.epoch a → ⊥)
    → get (after_event m S event.Main).home.bytes a ≡ get S.home.bytes a

-- ---- the laws

-- in every run
abbrev pub MainInOrderLaw : Type 0
MainInOrderLaw = OverRuns StaysInOrder

-- the same
abbrev pub MainCutOffLaw : Type 0
MainCutOffLaw = OverRuns StaysCutOff

-- the same
abbrev pub MainStoresLaw : Type 0
MainStoresLaw = OverRuns StoresWhereItLoads
