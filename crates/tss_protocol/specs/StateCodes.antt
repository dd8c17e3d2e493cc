-- How the records of the units and the state are stored, for values that have parts of them.
use Rattle.std.specs.Prelude.{ℕ, Bool, List, Option, refl}
use Rattle.std.specs.Coded.{Coded, code_by, coded×, coded_ℕ, coded_bool, coded_list, coded_option}
use Rattle.tss_base.specs.declared.range.Range.{Range}
use Rattle.tss_base.specs.declared.operand.OpName.{OpName}
use Rattle.tss_base.specs.declared.operand.Operand.{Operand}
use Rattle.tss_base.specs.declared.operand.Task.{Task}
use Rattle.tss_base.specs.declared.ending.Trap.{Trap}
use Rattle.tss_base.specs.declared.marks.Stage.{Stage}
use Rattle.tss_base.specs.declared.marks.LinkState.{LinkState}
use Rattle.tss_base.specs.declared.marks.Farewell.{Farewell}
use Rattle.tss_base.specs.declared.marks.Follow.{Follow}
use Rattle.tss_base.specs.Names.{Named, Numbered}
use Rattle.tss_base.specs.Image.{SegmentState}
use Rattle.tss_model.specs.Memory.{Memory}
use Rattle.tss_model.specs.Registers.{Registers}
use Rattle.tss_model.specs.MainStep.{MainState}
use Rattle.tss_protocol.specs.Mail.{StorageName, Source, Mail}
use Rattle.tss_protocol.specs.State.{OperandState, Flying, Busy, Entry, Version, CopyState, HeldTrap, State}
use Rattle.tss_protocol.specs.Renaming.{Tables}
use Rattle.tss_protocol.specs.Codes.{range_code, name_code, operand_code, task_code, trap_code, stage_code, link_code}
use Rattle.tss_protocol.specs.Codes.{farewell_code, follow_code, named, numbered, numbers_code, nothing_code}
use Rattle.tss_protocol.specs.Codes.{segment_code, memory_code, registers_code, main_code, storage_code, source_code}
use Rattle.tss_protocol.specs.Codes.{mail_code}

-- ---- units

-- the record of an operand
abbrev pub operand_state_code : Coded OperandState
operand_state_code =
    code_by (Operand × ((Option Source) × (LinkState × Farewell)))
    (coded× operand_code (coded× (coded_option source_code) (coded× link_code farewell_code)))
    (λ x. (x.operand, (x.source, (x.link, x.farewell))))
    (λ p. record { operand = p.0; source = p.1.0; link = p.1.1.0; farewell = p.1.1.1 })
    (λ _. refl)

-- a task in flight
abbrev pub flying_code : Coded Flying
flying_code =
    code_by (Task × (Stage × (List OperandState)))
    (coded× task_code (coded× stage_code ((coded_list operand_state_code))))
    (λ x. (x.task, (x.stage, x.operands)))
    (λ p. record { task = p.0; stage = p.1.0; operands = p.1.1 })
    (λ _. refl)

-- a busy worker
abbrev pub busy_code : Coded Busy
busy_code =
    code_by (Task × ((List StorageName) × (Registers × ((List ℕ) × (Option Trap)))))
    (coded× task_code (coded× (coded_list storage_code) (coded× registers_code (coded× numbers_code ((coded_option
    trap_code))))))
    (λ x. (x.task, (x.storages, (x.registers, (x.scratch, x.trap)))))
    (λ p. record { task = p.0; storages = p.1.0; registers = p.1.1.0; scratch = p.1.1.1.0; trap = p.1.1.1.1 })
    (λ _. refl)

-- an entry
abbrev pub entry_code : Coded Entry
entry_code =
    code_by (Range × (OpName × (ℕ × Bool)))
    (coded× range_code (coded× name_code (coded× coded_ℕ coded_bool)))
    (λ x. (x.object, (x.latest, (x.sent, x.retiring))))
    (λ p. record { object = p.0; latest = p.1.0; sent = p.1.1.0; retiring = p.1.1.1 })
    (λ _. refl)

-- the renaming tables
abbrev pub tables_code : Coded Tables
tables_code =
    code_by ((Numbered Entry) × ((Named ℕ) × (Named ℕ)))
    (coded× (numbered entry_code) (coded× (named coded_ℕ) ((named coded_ℕ))))
    (λ x. (x.entries, (x.places, x.buffers)))
    (λ p. record { entries = p.0; places = p.1.0; buffers = p.1.1 })
    (λ _. refl)

-- a version
abbrev pub version_code : Coded Version
version_code =
    code_by (Range × ((Option StorageName) × (Bool × (ℕ × (ℕ × ((Option OpName) × ((Option OpName) × ((Option OpName)
    × ((Option Follow) × ((Option ℕ) × (Option ℕ)))))))))))
    (coded× range_code (coded× (coded_option storage_code) (coded× coded_bool (coded× coded_ℕ (coded× coded_ℕ (coded×
    (coded_option name_code) (coded× (coded_option name_code) (coded× (coded_option name_code) (coded× (coded_option
    follow_code) (coded× (coded_option coded_ℕ) ((coded_option coded_ℕ))))))))))))
    (λ x. (
      x.object,
      (
        x.storage,
        (
          x.produced,
          (
            x.registered,
            (
              x.released,
              (
                x.head,
                (
                  x.tail,
                  (
                    x.predecessor,
                    (x.successor, (x.asked, x.refused)),
                  ),
                ),
              ),
            ),
          ),
        ),
      ),
    ))
    (λ p. record {
      object = p.0;
      storage = p.1.0;
      produced = p.1.1.0;
      registered = p.1.1.1.0;
      released = p.1.1.1.1.0;
      head = p.1.1.1.1.1.0;
      tail = p.1.1.1.1.1.1.0;
      predecessor = p.1.1.1.1.1.1.1.0;
      successor = p.1.1.1.1.1.1.1.1.0;
      asked = p.1.1.1.1.1.1.1.1.1.0;
      refused = p.1.1.1.1.1.1.1.1.1.1;
    })
    (λ _. refl)

-- a copy
abbrev pub copy_code : Coded CopyState
copy_code =
    code_by (OpName × (Range × (OpName × ℕ)))
    (coded× name_code (coded× range_code (coded× name_code coded_ℕ)))
    (λ x. (x.version, (x.object, (x.buffer, x.moved))))
    (λ p. record { version = p.0; object = p.1.0; buffer = p.1.1.0; moved = p.1.1.1 })
    (λ _. refl)

-- a held trap
abbrev pub held_trap_code : Coded HeldTrap
held_trap_code =
    code_by (ℕ × Trap)
    (coded× coded_ℕ trap_code)
    (λ x. (x.task, x.trap))
    (λ p. record { task = p.0; trap = p.1 })
    (λ _. refl)

-- ---- the state

-- all of it
abbrev pub state_code : Coded State
state_code =
    code_by ((List SegmentState) × (MainState × (Memory × ((Option Task) × ((Named (Unit {0})) × ((Numbered Flying) ×
    ((List ℕ) × ((Numbered Busy) × ((Numbered Entry) × ((Named ℕ) × ((Named ℕ) × ((Named (List ℕ)) × ((Named Version)
    × (Mail × ((Numbered CopyState) × (Option HeldTrap))))))))))))))))
    (coded× (coded_list segment_code) (coded× main_code (coded× memory_code (coded× (coded_option task_code) (coded×
    (named nothing_code) (coded× (numbered flying_code) (coded× numbers_code (coded× (numbered busy_code) (coded×
    (numbered entry_code) (coded× (named coded_ℕ) (coded× (named coded_ℕ) (coded× (named numbers_code) (coded× (named
    version_code) (coded× mail_code (coded× (numbered copy_code) (coded_option held_trap_code))))))))))))))))
    (λ x. (
      x.code,
      (
        x.main,
        (
          x.home,
          (
            x.inbox,
            (
              x.gateway,
              (
                x.flight,
                (
                  x.queue,
                  (
                    x.workers,
                    (
                      x.entries,
                      (
                        x.places,
                        (x.buffers, (x.contents, (x.versions, (x.mail, (x.copies, x.trap))))),
                      ),
                    ),
                  ),
                ),
              ),
            ),
          ),
        ),
      ),
    ))
    (λ p. record {
      code = p.0;
      main = p.1.0;
      home = p.1.1.0;
      inbox = p.1.1.1.0;
      gateway = p.1.1.1.1.0;
      flight =
          p.1.1.1.1.1.0;
      queue = p.1.1.1.1.1.1.0;
      workers = p.1.1.1.1.1.1.1.0;
      entries = p.1.1.1.1.1.1.1.1.0;
      places =
          p.1.1.1.1.1.1.1.1.1.0;
      buffers = p.1.1.1.1.1.1.1.1.1.1.0;
      contents = p.1.1.1.1.1.1.1.1.1.1.1.0;
      versions =
          p.1.1.1.1.1.1.1.1.1.1.1.1.0;
      mail = p.1.1.1.1.1.1.1.1.1.1.1.1.1.0;
      copies = p.1.1.1.1.1.1.1.1.1.1.1.1.1.1.0;
      trap
          = p.1.1.1.1.1.1.1.1.1.1.1.1.1.1.1;
    })
    (λ _. refl)
