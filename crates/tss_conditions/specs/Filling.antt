-- How full the units get, what main keeps within its limits, and the ground on which all stands.
use Rattle.std.specs.Prelude.{◌≡◌, ℕ, ◌<◌, ◌≤◌, true, not, List, length, Some}
use Rattle.std.specs.List.{list_all}
use Rattle.std.specs.FinMap.{get}
use Rattle.tss_base.specs.declared.operand.OpName.{OpName}
use Rattle.tss_base.specs.declared.machine.Machine.{Machine}
use Rattle.tss_base.specs.Range.{meets}
use Rattle.tss_base.specs.Image.{ImageState}
use Rattle.tss_model.specs.Memory.{memory_ranges, scratch_range, frozen}
use Rattle.tss_model.specs.MainStep.{Call, output_of}
use Rattle.tss_protocol.specs.Mail.{OpenContents}
use Rattle.tss_protocol.specs.State.{State, Entry, Version}
use Rattle.tss_protocol.specs.Counts.{AreWithin, counts_of, sizes_of}
use Rattle.tss_protocol.specs.MainEvent.{call_next}
use Rattle.tss_conditions.specs.Reached.{Reached}

-- no count exceeds its size
abbrev pub WithinLaw : Type 0
WithinLaw = (m : Machine) (i : ImageState) (S : State) → Reached m i S → AreWithin (counts_of m S) (sizes_of m)

-- an entry stands under the base of its object, and its latest version, registered or still to be opened, is of the
-- object
pub record IsEntered (S : State) (base : ℕ) (e : Entry) : Type 0 where
  pub base_of : e.object.base ≡ base
  pub version : (x : Version) → get S.versions e.latest ≡ Some x → x.object ≡ e.object
  pub opening : (c : OpenContents) → get S.mail.opens e.latest ≡ Some c → c.operand.object ≡ e.object

-- in every reached state
abbrev pub EntriesLaw : Type 0
EntriesLaw =
    (m : Machine) (i : ImageState) (S : State) (base : ℕ) (e : Entry)
    → Reached m i S
    → get S.entries base ≡ Some e
    → IsEntered S base e

-- a held place or buffer has the number of a bank
abbrev pub HeldBanksLaw : Type 0
HeldBanksLaw =
    (m : Machine) (i : ImageState) (S : State) (n : OpName) (bank : ℕ)
    → Reached m i S
    → (get S.places n ≡ Some bank → bank < m.sizes.banks)
    × (get S.buffers n ≡ Some bank → bank < m.sizes.banks)

-- only a held buffer has contents, with as many bytes as an object may have
abbrev pub ContentsLaw : Type 0
ContentsLaw =
    (m : Machine) (i : ImageState) (S : State) (n : OpName) (bytes : List ℕ)
    → Reached m i S
    → get S.contents n ≡ Some bytes
    → ((bank : ℕ) × (get S.buffers n ≡ Some bank)) × (length bytes ≡ m.limits.object_bytes)

-- code and the ranges of home are those of the image, and no range shares an address with a task's scratch
pub record IsGrounded (i : ImageState) (S : State) : Type 0 where
  pub code : S.code ≡ frozen i
  pub ranges : S.home.ranges ≡ memory_ranges i
  pub beside : list_all (λ m. not (meets m.range scratch_range)) S.home.ranges ≡ true

-- in every reached state
abbrev pub GroundLaw : Type 0
GroundLaw = (m : Machine) (i : ImageState) (S : State) → Reached m i S → IsGrounded i S

-- main has completed no more instructions than it may, spawned no more tasks and printed no more bytes. Where its next
-- step is a call, it has an instruction left
pub record StaysWithinLimits (m : Machine) (S : State) : Type 0 where
  pub done : S.main.registers.done ≤ m.limits.main_budget
  pub spawned : S.main.spawned ≤ m.limits.max_tasks
  pub output : length (output_of S.main.pieces) ≤ m.limits.output_bytes
  pub calls : (c : Call) → call_next m S ≡ Some c → S.main.registers.done < m.limits.main_budget

-- in every reached state
abbrev pub MainLaw : Type 0
MainLaw = (m : Machine) (i : ImageState) (S : State) → Reached m i S → StaysWithinLimits m S
