-- The digits of the fixed numbers. A definition cites the constant that the code has, so here each is tied to its value:
-- of addresses, of bounds, of the numbers of causes, refusals and calls, and of what stands in an operand list.
use Rattle.std.specs.Prelude.{◌≡◌}
use Rattle.tss_base.specs.declared.addresses.TheConstants.{SEGMENTS_END, SCRATCH, SCRATCH_END, STACK, STACK_END, END_PC}
use Rattle.tss_base.specs.declared.bounds.TheConstants.{MAX_SEGMENTS, MAX_IMAGE_BYTES, MACHINE_FILE_BYTES, IMAGE_FILE_BYTES, SCHEDULE_FILE_BYTES, MAX_MAIN_BUDGET, MAX_TASK_BUDGET, MAX_TASKS, MAX_OPERANDS, MAX_OBJECT_BYTES, MAX_EPOCH_OBJECTS, MAX_OUTPUT_BYTES, MAX_STATIONS, MAX_SLOTS, MAX_WORKERS, MAX_BANKS, MAX_ENTRIES, MAX_VERSIONS, MAX_BUFFERS, MAX_QUANTUM, MAX_WINDOW, BANK_BYTES, COPY_BYTES}
use Rattle.tss_base.specs.declared.calls.TheConstants.{EXIT, SPAWN, BARRIER, PRINT, AWAIT}
use Rattle.tss_base.specs.declared.causes.TheConstants.{JUMP_MISALIGNED, FETCH_OUTSIDE, ILLEGAL, BREAKPOINT, LOAD_MISALIGNED, LOAD_DENIED, STORE_MISALIGNED, STORE_DENIED, CALL_IN_TASK, BUDGET_SPENT, UNKNOWN_CALL}
use Rattle.tss_base.specs.declared.refusals.TheConstants.{TOO_MANY_OPERANDS, LIST_PLACE, MAIN_TOUCH, BAD_MODE, BAD_LENGTH, BAD_BASE, OBJECT_OUTSIDE, OVERLAP, EPOCH_FULL, TOO_MANY_TASKS, MAIN_BUDGET_SPENT, OUTPUT_FULL, NOT_NAMED}
use Rattle.tss_base.specs.declared.lists.TheConstants.{ENTRY_BYTES, INPUT, OUTPUT, INOUT}

-- scratch, main's stack, and the address at which a task has ended
pub record AreAddresses : Type 0 where
  pub segments_end : SEGMENTS_END ≡ 0xFFFD0000
  pub scratch : SCRATCH ≡ record { base = 0xFFFD0000; len = 0x10000 }
  pub scratch_end : SCRATCH_END ≡ 0xFFFE0000
  pub stack : STACK ≡ record { base = 0xFFFE0000; len = 0x10000 }
  pub stack_end : STACK_END ≡ 0xFFFF0000
  pub end_pc : END_PC ≡ 0xFFFFFFF0

-- of images and files, of a machine's limits and sizes, of a bank's line and a copy's piece
pub record AreBounds : Type 0 where
  pub segments : MAX_SEGMENTS ≡ 256
  pub image_bytes : MAX_IMAGE_BYTES ≡ 67108864
  pub machine_file : MACHINE_FILE_BYTES ≡ 65536
  pub image_file : IMAGE_FILE_BYTES ≡ 33554432
  pub schedule_file : SCHEDULE_FILE_BYTES ≡ 67108864
  pub main_budget : MAX_MAIN_BUDGET ≡ 1000000000
  pub task_budget : MAX_TASK_BUDGET ≡ 100000000
  pub tasks : MAX_TASKS ≡ 65536
  pub operands : MAX_OPERANDS ≡ 7
  pub object_bytes : MAX_OBJECT_BYTES ≡ 65536
  pub epoch_objects : MAX_EPOCH_OBJECTS ≡ 65536
  pub output_bytes : MAX_OUTPUT_BYTES ≡ 1048576
  pub stations : MAX_STATIONS ≡ 16
  pub slots : MAX_SLOTS ≡ 64
  pub workers : MAX_WORKERS ≡ 64
  pub banks : MAX_BANKS ≡ 64
  pub entries : MAX_ENTRIES ≡ 256
  pub versions : MAX_VERSIONS ≡ 256
  pub buffers : MAX_BUFFERS ≡ 64
  pub quantum : MAX_QUANTUM ≡ 65536
  pub window : MAX_WINDOW ≡ 8
  pub bank_bytes : BANK_BYTES ≡ 64
  pub copy_bytes : COPY_BYTES ≡ 64

-- main's calls, in x17
pub record AreCalls : Type 0 where
  pub exit : EXIT ≡ 1
  pub spawn : SPAWN ≡ 2
  pub barrier : BARRIER ≡ 3
  pub print : PRINT ≡ 4
  pub await : AWAIT ≡ 5

-- the causes of traps
pub record AreCauses : Type 0 where
  pub jump_misaligned : JUMP_MISALIGNED ≡ 0
  pub fetch_outside : FETCH_OUTSIDE ≡ 1
  pub illegal : ILLEGAL ≡ 2
  pub breakpoint : BREAKPOINT ≡ 3
  pub load_misaligned : LOAD_MISALIGNED ≡ 4
  pub load_denied : LOAD_DENIED ≡ 5
  pub store_misaligned : STORE_MISALIGNED ≡ 6
  pub store_denied : STORE_DENIED ≡ 7
  pub call_in_task : CALL_IN_TASK ≡ 8
  pub budget_spent : BUDGET_SPENT ≡ 9
  pub unknown_call : UNKNOWN_CALL ≡ 10

-- main's refusals
pub record AreRefusals : Type 0 where
  pub too_many_operands : TOO_MANY_OPERANDS ≡ 1
  pub list_place : LIST_PLACE ≡ 2
  pub main_touch : MAIN_TOUCH ≡ 3
  pub bad_mode : BAD_MODE ≡ 4
  pub bad_length : BAD_LENGTH ≡ 5
  pub bad_base : BAD_BASE ≡ 6
  pub object_outside : OBJECT_OUTSIDE ≡ 7
  pub overlap : OVERLAP ≡ 8
  pub epoch_full : EPOCH_FULL ≡ 9
  pub too_many_tasks : TOO_MANY_TASKS ≡ 10
  pub main_budget_spent : MAIN_BUDGET_SPENT ≡ 11
  pub output_full : OUTPUT_FULL ≡ 12
  pub not_named : NOT_NAMED ≡ 13

-- an operand list's entries
pub record AreListEntries : Type 0 where
  pub entry_bytes : ENTRY_BYTES ≡ 12
  pub input : INPUT ≡ 1
  pub output : OUTPUT ≡ 2
  pub inout : INOUT ≡ 3
