-- The event of main: one call alone, or a stretch of steps up to the next call.
use Rattle.std.specs.Prelude.{◌==◌, Bool, true, false, ◌&&◌, not, length, Option, Some, None, is_none}
use Rattle.std.specs.List.{list_any}
use Rattle.std.specs.FinMap.{get, len}
use Rattle.tss_base.specs.declared.range.Range.{Range}
use Rattle.tss_base.specs.declared.operand.Operand.{Operand}
use Rattle.tss_base.specs.declared.operand.Task.{Task}
use Rattle.tss_base.specs.declared.machine.Machine.{Machine}
use Rattle.tss_base.specs.Names.{Named}
use Rattle.tss_maps.specs.Sums.{count_of}
use Rattle.tss_model.specs.Access.{operands_of}
use Rattle.tss_model.specs.Spawn.{same_range}
use Rattle.tss_model.specs.MainStep.{MainState, Flat, Call, ExitCall, Spawn, Barrier, Print, Await, Unknown, next_call}
use Rattle.tss_model.specs.MainStep.{main_call, main_stretch, awaited_object}
use Rattle.tss_protocol.specs.Mail.{is_silent}
use Rattle.tss_protocol.specs.State.{Entry, State}
use Rattle.tss_protocol.specs.Gateway.{is_idle}

-- no task is anywhere in the machine
abbrev pub has_no_task : State → Bool
has_no_task S =
    is_none S.inbox && is_idle S.gateway && (len S.flight == 0) && (length S.queue == 0) && (len S.workers == 0)

-- nothing is in the tables, and nothing is copied
abbrev pub has_no_object : State → Bool
has_no_object S =
    (len S.entries == 0) && (len S.places == 0) && (len S.buffers == 0) && (len S.versions == 0) && (len S.copies == 0)

-- and no message is under way
abbrev pub is_drained : State → Bool
is_drained S = has_no_task S && has_no_object S && is_silent S.mail

-- ---- main waits for an object to be at home

-- an entry of this very object
abbrev pub is_entry_of : Range → Option Entry → Bool
is_entry_of object None = false
is_entry_of object (Some e) = same_range e.object object

-- an operand with it
abbrev pub is_operand_on : Range → Operand → Bool
is_operand_on object operand = same_range operand.object object

-- the inbox's task has one
abbrev pub is_arriving : Range → Option Task → Bool
is_arriving object None = false
is_arriving object (Some t) = list_any (is_operand_on object) (operands_of t)

-- none is to be decoded
abbrev pub has_no_decode : Range → Named Operand → Bool
has_no_decode object decodes = count_of (λ o p. is_operand_on object p) decodes == 0

-- the object is at home: it has no entry, no operand of the inbox's task is on it, and none that is to be decoded. Then
-- each task that was spawned with it has finished, and its bytes have come home
abbrev pub is_at_home : State → Range → Bool
is_at_home S object =
    not (is_entry_of object (get S.entries object.base))
    && not (is_arriving object S.inbox)
    && has_no_decode object S.mail.decodes

-- an await of no named object is refused at once
abbrev pub may_await : State → Option Range → Bool
may_await S None = true
may_await S (Some object) = is_at_home S object

-- ---- the event

-- main with home as its memory
abbrev pub flat_of : State → Flat
flat_of S = record { main = S.main; memory = S.home }

-- the state with main and home of a flat machine
abbrev pub with_flat : State → Flat → State
with_flat S f = record S { main = f.main; home = f.memory }

-- the call that main's next step is, if it is one
abbrev pub call_next : Machine → State → Option Call
call_next m S = next_call S.code m.limits (flat_of S)

-- a spawn waits for an empty inbox, also where it will be refused, a barrier for a drained state, and an await for its
-- object
abbrev pub may_call : State → Option Call → Bool
may_call S None = true
may_call S (Some ExitCall) = true
may_call S (Some Spawn) = is_none S.inbox
may_call S (Some Barrier) = is_drained S
may_call S (Some Print) = true
may_call S (Some Await) = may_await S (awaited_object S.main)
may_call S (Some (Unknown n)) = true

-- main's event may happen
abbrev pub can_main : Machine → State → Bool
can_main m S = is_none S.main.ending && is_none S.trap && may_call S (call_next m S)

-- a spawned task goes to the inbox
abbrev pub after_call : State → MainState × Option Task → State
after_call S (main, None) = record S { main = main }
after_call S (main, Some t) = record S { main = main; inbox = Some t }

-- a call alone, or a stretch
abbrev pub main_by : Machine → State → Option Call → State
main_by m S None = with_flat S (main_stretch S.code m.limits m.sizes.quantum (flat_of S))
main_by m S (Some call) = after_call S (main_call m.limits S.home S.main call)

-- the state after main's event
abbrev pub after_main : Machine → State → State
after_main m S = main_by m S (call_next m S)
