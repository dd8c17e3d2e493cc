-- What contracts see of the stations, and what each row leaves of the slots, with the places of the storages.
use Rattle.std.specs.Prelude.{◌≡◌, ℕ, ◌*◌, ◌<◌, ◌≤◌, ◌==◌, Bool, if◌then◌else◌, List, length, get_or, Option, Some, None, refl}
use Rattle.std.specs.Ordering.{nat_cmp}
use Rattle.std.specs.Coded.{Coded, code_by, coded×, coded_ℕ}
use Rattle.std.specs.FinMap.{FinMap, get, insert, remove}
use Rattle.std.specs.FinMap as map
use Rattle.tss_base.specs.contracts.machine.Sizes as sizes
use Rattle.tss_base.specs.declared.bounds.TheConstants.{MAX_STATIONS, MAX_SLOTS}
use Rattle.tss_base.specs.declared.operand.OpName.{OpName}
use Rattle.tss_base.specs.declared.operand.Storage.{Storage}
use Rattle.tss_base.specs.declared.machine.Sizes.{Sizes}
use Rattle.tss_base.specs.declared.marks.Stage.{Stage}
use Rattle.tss_base.specs.declared.marks.Stage.TheVariants as stage
use Rattle.tss_base.specs.Names.{Numbered}
use Rattle.tss_maps.specs.Sums.{count_of}
use Rattle.tss_tables.specs.Table.{TableState}
use Rattle.tss_protocol.specs.Names.{station_of}
use Rattle.tss_protocol.specs.Stations.{is_complete, is_gone}
use Rattle.tss_stations.specs.contracts.slot.Slot as slot
use Rattle.tss_stations.specs.declared.operand_view.OperandView.{OperandView}
use Rattle.tss_stations.specs.declared.slot.Slot.{Slot}
use Rattle.tss_stations.specs.Views.{flying_of, view_at, with_view, told_view, linked_view, parted_view}

-- the sizes of the machine, and the slots under the numbers of their tasks
pub record StationsState : Type 0 where
  pub sizes : Sizes
  pub slots : Numbered Slot

abbrev pub stations_code : Coded StationsState
stations_code =
    code_by (Sizes × FinMap nat_cmp Slot) (coded× (sizes.the_row).coded (map.code coded_ℕ (slot.the_row).coded))
    (λ s. (s.sizes, s.slots)) (λ p. record { sizes = p.0; slots = p.1 }) (λ _. refl)

-- ---- how they are kept

-- how many slots of a station are taken
abbrev pub taken_in : Sizes → Numbered Slot → ℕ → ℕ
taken_in sizes slots station = count_of (λ task x. station_of sizes task == station) slots

-- a table with room for every slot, and how many slots of each station are taken
pub record AreSlots (sizes : Sizes) (counts : List ℕ) (table : TableState nat_cmp Slot) : Type 0 where
  pub stations : 0 < sizes.stations
  pub few_stations : sizes.stations ≤ MAX_STATIONS
  pub few_slots : sizes.slots ≤ MAX_SLOTS
  pub stood : length counts ≡ MAX_STATIONS
  pub counted : (k : ℕ) → k < MAX_STATIONS → get_or counts k 0 ≡ taken_in sizes table.entries k
  pub within : (k : ℕ) → k < MAX_STATIONS → get_or counts k 0 ≤ sizes.slots
  pub room : table.size ≡ sizes.stations * sizes.slots

-- ---- the rows

-- a slot whose task is queued as soon as it is complete
abbrev pub awaited_slot : Slot → Slot
awaited_slot x = if is_complete (flying_of x) then record x { stage = stage.Queued } else x

-- the slots where this one was changed. One whose task has left is free
abbrev pub remaining_slots : Numbered Slot → ℕ → Slot → Numbered Slot
remaining_slots slots task x = if is_gone (flying_of x) then remove slots task else insert slots task x

-- after a ready
abbrev pub ready_by : Numbered Slot → OpName → OpName → Storage → Slot → Option OperandView → Numbered Slot
ready_by slots o v storage x None = slots
ready_by slots o v storage x (Some r) =
    insert slots o.task (awaited_slot (with_view x o.place (told_view v storage r)))

abbrev pub ready_in : Numbered Slot → OpName → OpName → Storage → Option Slot → Numbered Slot
ready_in slots o v storage None = slots
ready_in slots o v storage (Some x) = ready_by slots o v storage x (view_at o.place x)

abbrev pub slots_after_ready : Numbered Slot → OpName → OpName → Storage → Numbered Slot
slots_after_ready slots o v storage = ready_in slots o v storage (get slots o.task)

-- after a link
abbrev pub link_by : Numbered Slot → OpName → OpName → Slot → Option OperandView → Numbered Slot
link_by slots o next x None = slots
link_by slots o next x (Some r) = remaining_slots slots o.task (with_view x o.place (linked_view next r))

abbrev pub link_in : Numbered Slot → OpName → OpName → Option Slot → Numbered Slot
link_in slots o next None = slots
link_in slots o next (Some x) = link_by slots o next x (view_at o.place x)

abbrev pub slots_after_link : Numbered Slot → OpName → OpName → Numbered Slot
slots_after_link slots o next = link_in slots o next (get slots o.task)

-- after a bye
abbrev pub bye_by : Numbered Slot → OpName → Bool → Slot → Option OperandView → Numbered Slot
bye_by slots o promised x None = slots
bye_by slots o promised x (Some r) = remaining_slots slots o.task (with_view x o.place (parted_view promised r))

abbrev pub bye_in : Numbered Slot → OpName → Bool → Option Slot → Numbered Slot
bye_in slots o promised None = slots
bye_in slots o promised (Some x) = bye_by slots o promised x (view_at o.place x)

abbrev pub slots_after_bye : Numbered Slot → OpName → Bool → Numbered Slot
slots_after_bye slots o promised = bye_in slots o promised (get slots o.task)

-- after a start
abbrev pub start_in : Numbered Slot → ℕ → Option Slot → Numbered Slot
start_in slots task None = slots
start_in slots task (Some x) = insert slots task (record x { stage = stage.Running })

abbrev pub slots_after_start : Numbered Slot → ℕ → Numbered Slot
slots_after_start slots task = start_in slots task (get slots task)

-- after a finish
abbrev pub finish_in : Numbered Slot → ℕ → Option Slot → Numbered Slot
finish_in slots task None = slots
finish_in slots task (Some x) = remaining_slots slots task (record x { stage = stage.Finished })

abbrev pub slots_after_finish : Numbered Slot → ℕ → Numbered Slot
slots_after_finish slots task = finish_in slots task (get slots task)
