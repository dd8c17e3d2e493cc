-- Runs and events whose outcomes are known from outside.
use Rattle.std.proofs.Common.{◌≡◌, ℕ, ◌+◌, Bool, true, false, List, [], ◌∷◌, Some, None, refl, ap}
use Rattle.std.specs.Prelude.{◌==◌, ◌&&◌, if◌then◌else◌}
use Rattle.std.specs.FinMap.{len, empty, len-empty}
use Rattle.std.specs.Ordering.{nat_cmp}
use Rattle.tss_base.specs.declared.operand.OpName.{OpName}
use Rattle.tss_base.specs.declared.operand.Operand.{Operand}
use Rattle.tss_base.specs.declared.ending.Ending.TheVariants.{Exit}
use Rattle.tss_base.specs.declared.machine.Machine.{Machine}
use Rattle.tss_base.specs.declared.event.Event.{Event}
use Rattle.tss_base.specs.declared.event.Event.TheVariants as event
use Rattle.tss_base.specs.Names.{name_cmp}
use Rattle.tss_base.specs.Image.{ImageState}
use Rattle.tss_isa.specs.InstrTable.{instr_of}
use Rattle.tss_model.specs.Memory.{Memory, zeros}
use Rattle.tss_model.specs.Core.{core_step}
use Rattle.tss_model.specs.TaskRun.{repeated}
use Rattle.tss_model.specs.MainStep.{MainState, main_step}
use Rattle.tss_protocol.specs.Mail.{OpenContents, Source, ReleaseContents, IdleContents, GoneContents, no_mail}
use Rattle.tss_protocol.specs.Mail.{early_count, late_count, message_count}
use Rattle.tss_protocol.specs.State.{State, Flying, Busy, Entry, Version, CopyState, initial_state}
use Rattle.tss_protocol.specs.MainEvent.{has_no_task, has_no_object, is_drained}
use Rattle.tss_protocol.specs.UnitMachine.{is_enabled, after_event}
use Rattle.tss_protocol.specs.Run.{after_events, IsRun}
use Rattle.tss_protocol.specs.Result.{IsFinished, result_of, result_with, ending_by}

-- ---- a program of three words: ADDI x10, x0, 7; ADDI x17, x0, 1; ECALL

abbrev exits : ImageState
exits = record {
  entry = 0x10000;
  segments =
      record {
        base = 0x10000;
        bytes = 0x13 ∷ 0x05 ∷ 0x70 ∷ 0 ∷ 0x93 ∷ 0x08 ∷ 0x10 ∷ 0 ∷ 0x73 ∷ 0 ∷ 0 ∷ 0 ∷ [];
        writable = false;
        code = true;
      }
      ∷ record { base = 0x20000; bytes = zeros 4096; writable = true; code = false }
      ∷ [];
}

abbrev pub small : Machine
small = record {
  limits = record {
    main_budget = 1000;
    task_budget = 100;
    max_tasks = 16;
    max_operands = 7;
    object_bytes = 128;
    epoch_objects = 16;
    output_bytes = 64;
  };
  sizes = record {
    stations = 1;
    slots = 8;
    workers = 3;
    banks = 1;
    entries = 16;
    versions = 16;
    buffers = 7;
    quantum = 100;
    window = 1;
  };
}

-- a stretch of two steps, and then the call alone
abbrev exit_events : List Event
exit_events = event.Main ∷ event.Main ∷ []

abbrev exited : State
exited = after_event small (after_event small (initial_state exits) event.Main) event.Main

exits_in_two_events : IsRun small exits exit_events exited
unfolding after_events is_enabled after_event repeated main_step core_step instr_of
exits_in_two_events = refl

-- the maps of the first state are empty
none_named : (X : Type 0) → len (empty {X = X} {R = name_cmp}) ≡ 0
none_named X = len-empty name_cmp X

none_numbered : (X : Type 0) → len (empty {X = X} {R = nat_cmp}) ≡ 0
none_numbered X = len-empty nat_cmp X

-- the first state, where only main has changed
abbrev main_only : MainState → Memory → State
main_only main home = record (initial_state exits) { main = main; home = home }

-- so no task is there, nothing is in the tables, and there is no message
no_task : (main : MainState) (home : Memory) → has_no_task (main_only main home) ≡ true
no_task main home = λ i.
    true && (none_named (Unit {0}) i == 0) && (none_numbered Flying i == 0) && true && (none_numbered Busy i == 0)

no_object : (main : MainState) (home : Memory) → has_no_object (main_only main home) ≡ true
no_object main home = λ i.
    (none_numbered Entry i == 0)
    && (none_named ℕ i == 0)
    && (none_named ℕ i == 0)
    && (none_named Version i == 0)
    && (none_numbered CopyState i == 0)

no_early : early_count no_mail ≡ 0
no_early = λ i.
    none_named Operand i
    + none_named (Unit {0}) i
    + none_named OpenContents i
    + none_named OpName i
    + none_named Source i
    + none_named OpName i

no_late : late_count no_mail ≡ 0
no_late = λ i.
    none_named ReleaseContents i
    + none_named Bool i
    + none_named IdleContents i
    + none_named (Unit {0}) i
    + none_named (Unit {0}) i

no_message : message_count no_mail ≡ 0
no_message = λ i. no_early i + no_late i + none_named GoneContents i

drained_by_main : (main : MainState) (home : Memory) → is_drained (main_only main home) ≡ true
drained_by_main main home = λ i. no_task main home i && no_object main home i && (no_message i == 0)

exited_is_drained : is_drained exited ≡ true
unfolding after_event repeated main_step core_step instr_of
exited_is_drained = drained_by_main exited.main exited.home

exited_is_finished : IsFinished exited
unfolding after_event repeated main_step core_step instr_of
exited_is_finished = ap (λ b. b && true) exited_is_drained

-- it is finished, and has exited with 7
exits_with_seven : result_of exited ≡ Some (record { ending = Exit 7; tasks = 0; output = [] })
unfolding after_event repeated main_step core_step instr_of
exits_with_seven =
    ap (λ b. if b then result_with exited (ending_by exited.trap exited.main.ending) else None) exited_is_finished
