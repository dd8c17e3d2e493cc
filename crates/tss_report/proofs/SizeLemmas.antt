-- The sizes of the counts of a machine whose numbers lie in their ranges are small.
use Rattle.std.proofs.Common.{◌*◌, ◌≤◌, refl, arith}
use Rattle.std.proofs.lemmas.Nat.{mul-le}
use Rattle.tss_base.specs.declared.machine.Machine.{Machine}
use Rattle.tss_base.specs.declared.machine.Key.TheVariants.{Stations, Slots, Banks, Versions, Window}
use Rattle.tss_report.specs.Peaks.{HasRanges}

module _ (m : Machine) (a : HasRanges m) where
  -- the slots of all stations
  pub slots_within : m.sizes.stations * m.sizes.slots ≤ 1024
  slots_within =
      mul-le m.sizes.stations m.sizes.slots 16 64 (a.sizes Stations m.sizes.stations refl).1
      (a.sizes Slots m.sizes.slots refl).1

  -- the operands of a window of tasks
  pub decodes_within : m.sizes.window * m.limits.max_operands ≤ 56
  decodes_within = mul-le m.sizes.window m.limits.max_operands 8 7 (a.sizes Window m.sizes.window refl).1 a.operands

  -- two messages for each operand in a slot
  pub wakes_within : 2 * (m.sizes.stations * m.sizes.slots) * m.limits.max_operands ≤ 14336
  wakes_within =
      mul-le (2 * (m.sizes.stations * m.sizes.slots)) m.limits.max_operands 2048 7 (omega (arith, slots_within)) a.operands

  -- the places of all banks
  pub places_within : m.sizes.banks * m.sizes.versions ≤ 16384
  places_within =
      mul-le m.sizes.banks m.sizes.versions 64 256 (a.sizes Banks m.sizes.banks refl).1
      (a.sizes Versions m.sizes.versions refl).1
