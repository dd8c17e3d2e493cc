-- How plain data, main, memory and messages are stored, for values that have them.
use Rattle.std.specs.Prelude.{◌≡◌, ℕ, Bool, List, Option, Some, None, refl}
use Rattle.std.specs.Coded.{Coded, code_by, coded×, coded_ℕ, coded_bool, coded_list, coded_option, prop_coded}
use Rattle.std.specs.Coded.{Unit-prop}
use Rattle.std.specs.FinMap as map
use Rattle.tss_base.specs.contracts.range.Range as range
use Rattle.tss_base.specs.contracts.operand.OpName as name
use Rattle.tss_base.specs.contracts.operand.Operand as operand
use Rattle.tss_base.specs.contracts.operand.Task as task
use Rattle.tss_base.specs.contracts.ending.Trap as trap
use Rattle.tss_base.specs.contracts.ending.Ending as ending
use Rattle.tss_base.specs.contracts.marks.Stage as stage
use Rattle.tss_base.specs.contracts.marks.LinkState as link
use Rattle.tss_base.specs.contracts.marks.Farewell as farewell
use Rattle.tss_base.specs.contracts.marks.Follow as follow
use Rattle.tss_base.specs.declared.range.Range.{Range}
use Rattle.tss_base.specs.declared.operand.OpName.{OpName}
use Rattle.tss_base.specs.declared.operand.Operand.{Operand}
use Rattle.tss_base.specs.declared.operand.Task.{Task}
use Rattle.tss_base.specs.declared.ending.Trap.{Trap}
use Rattle.tss_base.specs.declared.ending.Ending.{Ending}
use Rattle.tss_base.specs.declared.marks.Stage.{Stage}
use Rattle.tss_base.specs.declared.marks.LinkState.{LinkState}
use Rattle.tss_base.specs.declared.marks.Farewell.{Farewell}
use Rattle.tss_base.specs.declared.marks.Follow.{Follow}
use Rattle.tss_base.specs.Names.{Named, Numbered}
use Rattle.tss_base.specs.Image.{SegmentState}
use Rattle.tss_model.specs.Memory.{MemoryRange, Memory}
use Rattle.tss_model.specs.Registers.{Registers}
use Rattle.tss_model.specs.MainStep.{Piece, MainState}
use Rattle.tss_protocol.specs.Mail.{StorageName, Home, Buffer, Source, OpenContents, ReleaseContents, IdleContents}
use Rattle.tss_protocol.specs.Mail.{GoneContents, Mail}

-- ---- plain data

-- as the code has them
abbrev pub range_code : Coded Range
range_code = (range.the_row).coded

abbrev pub name_code : Coded OpName
name_code = (name.the_row).coded

abbrev pub operand_code : Coded Operand
operand_code = (operand.the_row).coded

abbrev pub task_code : Coded Task
task_code = (task.the_row).coded

abbrev pub trap_code : Coded Trap
trap_code = (trap.the_row).coded

abbrev pub ending_code : Coded Ending
ending_code = (ending.the_row).coded

abbrev pub stage_code : Coded Stage
stage_code = (stage.the_row).coded

abbrev pub link_code : Coded LinkState
link_code = (link.the_row).coded

abbrev pub farewell_code : Coded Farewell
farewell_code = (farewell.the_row).coded

abbrev pub follow_code : Coded Follow
follow_code = (follow.the_row).coded

-- a set is a map to nothing
abbrev pub nothing_code : Coded (Unit {0})
nothing_code = prop_coded Unit-prop

-- what stands under names
abbrev pub named : {X : Type 0} → Coded X → Coded (Named X)
named c = map.code name_code c

-- what stands under numbers
abbrev pub numbered : {X : Type 0} → Coded X → Coded (Numbered X)
numbered c = map.code coded_ℕ c

-- numbers, or bytes
abbrev pub numbers_code : Coded (List ℕ)
numbers_code = coded_list coded_ℕ

-- ---- of the flat machine

-- a segment of the code
abbrev pub segment_code : Coded SegmentState
segment_code =
    code_by (ℕ × ((List ℕ) × (Bool × Bool)))
    (coded× coded_ℕ (coded× numbers_code (coded× coded_bool coded_bool)))
    (λ x. (x.base, (x.bytes, (x.writable, x.code))))
    (λ p. record { base = p.0; bytes = p.1.0; writable = p.1.1.0; code = p.1.1.1 })
    (λ _. refl)

-- a range of memory
abbrev pub memory_range_code : Coded MemoryRange
memory_range_code =
    code_by (Range × Bool)
    (coded× range_code coded_bool)
    (λ x. (x.range, x.writable))
    (λ p. record { range = p.0; writable = p.1 })
    (λ _. refl)

-- memory
abbrev pub memory_code : Coded Memory
memory_code =
    code_by ((List MemoryRange) × (Numbered ℕ))
    (coded× (coded_list memory_range_code) ((numbered coded_ℕ)))
    (λ x. (x.ranges, x.bytes))
    (λ p. record { ranges = p.0; bytes = p.1 })
    (λ _. refl)

-- the registers of an actor
abbrev pub registers_code : Coded Registers
registers_code =
    code_by ((List ℕ) × (ℕ × ℕ))
    (coded× numbers_code (coded× coded_ℕ coded_ℕ))
    (λ x. (x.values, (x.pc, x.done)))
    (λ p. record { values = p.0; pc = p.1.0; done = p.1.1 })
    (λ _. refl)

-- a printed piece
abbrev pub piece_code : Coded Piece
piece_code =
    code_by (ℕ × (List ℕ))
    (coded× coded_ℕ numbers_code)
    (λ x. (x.before, x.bytes))
    (λ p. record { before = p.0; bytes = p.1 })
    (λ _. refl)

-- main
abbrev pub main_code : Coded MainState
main_code =
    code_by (Registers × (ℕ × ((List Range) × ((List Piece) × (Option Ending)))))
    (coded× registers_code (coded× coded_ℕ (coded× (coded_list range_code) (coded× (coded_list piece_code)
    (coded_option ending_code)))))
    (λ x. (x.registers, (x.spawned, (x.epoch, (x.pieces, x.ending)))))
    (λ p. record { registers = p.0; spawned = p.1.0; epoch = p.1.1.0; pieces = p.1.1.1.0; ending = p.1.1.1.1 })
    (λ _. refl)

-- ---- messages

-- a storage as the buffer that it is, or none
abbrev pub buffer_in : StorageName → Option OpName
buffer_in Home = None
buffer_in (Buffer n) = Some n

-- and back
abbrev pub storage_by : Option OpName → StorageName
storage_by None = Home
storage_by (Some n) = Buffer n

-- which gives the storage
pub storage_by-buffer_in : (s : StorageName) → storage_by (buffer_in s) ≡ s
storage_by-buffer_in Home = refl
storage_by-buffer_in (Buffer n) = refl

-- a storage
abbrev pub storage_code : Coded StorageName
storage_code = code_by (Option OpName) (coded_option name_code) buffer_in storage_by storage_by-buffer_in

-- a version with its storage
abbrev pub source_code : Coded Source
source_code =
    code_by (OpName × StorageName)
    (coded× name_code storage_code)
    (λ x. (x.version, x.storage))
    (λ p. record { version = p.0; storage = p.1 })
    (λ _. refl)

-- the contents of open
abbrev pub opening_code : Coded OpenContents
opening_code =
    code_by (Operand × ((Option StorageName) × (Option Follow)))
    (coded× operand_code (coded× (coded_option storage_code) (coded_option follow_code)))
    (λ x. (x.operand, (x.storage, x.follows)))
    (λ p. record { operand = p.0; storage = p.1.0; follows = p.1.1 })
    (λ _. refl)

-- the contents of release
abbrev pub releasing_code : Coded ReleaseContents
releasing_code =
    code_by (OpName × Bool)
    (coded× name_code coded_bool)
    (λ x. (x.version, x.producer))
    (λ p. record { version = p.0; producer = p.1 })
    (λ _. refl)

-- the contents of idle
abbrev pub asking_code : Coded IdleContents
asking_code =
    code_by (ℕ × ℕ)
    (coded× coded_ℕ coded_ℕ)
    (λ x. (x.base, x.count))
    (λ p. record { base = p.0; count = p.1 })
    (λ _. refl)

-- the contents of gone
abbrev pub going_code : Coded GoneContents
going_code =
    code_by (Range × ((Option OpName) × Bool))
    (coded× range_code (coded× (coded_option name_code) coded_bool))
    (λ x. (x.object, (x.buffer, x.retired)))
    (λ p. record { object = p.0; buffer = p.1.0; retired = p.1.1 })
    (λ _. refl)

-- the mail
abbrev pub mail_code : Coded Mail
mail_code =
    code_by ((Named Operand) × ((Named (Unit {0})) × ((Named OpenContents) × ((Named OpName) × ((Named Source) ×
    ((Named OpName) × ((Named ReleaseContents) × ((Named Bool) × ((Named IdleContents) × ((Named (Unit {0})) × ((Named
    (Unit {0})) × (Named GoneContents))))))))))))
    (coded× (named operand_code) (coded× (named nothing_code) (coded× (named opening_code) (coded× (named name_code)
    (coded× (named source_code) (coded× (named name_code) (coded× (named releasing_code) (coded× (named coded_bool)
    (coded× (named asking_code) (coded× (named nothing_code) (coded× (named nothing_code) ((named
    going_code)))))))))))))
    (λ x. (
      x.decodes,
      (
        x.acks,
        (
          x.opens,
          (
            x.uses,
            (
              x.readies,
              (
                x.links,
                (
                  x.releases,
                  (
                    x.byes,
                    (
                      x.idles,
                      (
                        x.nacks,
                        (x.retires, x.gones),
                      ),
                    ),
                  ),
                ),
              ),
            ),
          ),
        ),
      ),
    ))
    (λ p. record {
      decodes = p.0;
      acks = p.1.0;
      opens = p.1.1.0;
      uses = p.1.1.1.0;
      readies = p.1.1.1.1.0;
      links =
          p.1.1.1.1.1.0;
      releases = p.1.1.1.1.1.1.0;
      byes = p.1.1.1.1.1.1.1.0;
      idles = p.1.1.1.1.1.1.1.1.0;
      nacks =
          p.1.1.1.1.1.1.1.1.1.0;
      retires = p.1.1.1.1.1.1.1.1.1.1.0;
      gones = p.1.1.1.1.1.1.1.1.1.1.1;
    })
    (λ _. refl)
