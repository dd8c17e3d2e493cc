-- Each product of sizes in their ranges is small.
use Rattle.std.proofs.Common.{arith}
use Rattle.tss_report.proofs.SizeLemmas.{slots_within, decodes_within, wakes_within, places_within}
use Rattle.tss_report.proofs.peaks.sizes_of.Goals as goal

pub overflow_mul-slots : goal.overflow_mul-slots
overflow_mul-slots c = let slots = slots_within c.args.machine.now c.requires in omega (arith, slots)

pub overflow_mul-decodes : goal.overflow_mul-decodes
overflow_mul-decodes c = let decodes = decodes_within c.args.machine.now c.requires in omega (arith, decodes)

pub overflow_mul-wakes : goal.overflow_mul-wakes
overflow_mul-wakes c = let slots = slots_within c.args.machine.now c.requires in omega (arith, slots)

pub overflow_mul-wakes-2 : goal.overflow_mul-wakes-2
overflow_mul-wakes-2 c = let wakes = wakes_within c.args.machine.now c.requires in omega (arith, wakes)

pub overflow_mul-places : goal.overflow_mul-places
overflow_mul-places c = let places = places_within c.args.machine.now c.requires in omega (arith, places)

pub overflow_add-result : goal.overflow_add-result
overflow_add-result c =
    let decodes = decodes_within c.args.machine.now c.requires in
    let wakes = wakes_within c.args.machine.now c.requires in
    omega (arith, decodes, wakes)

pub overflow_add-result-2 : goal.overflow_add-result-2
overflow_add-result-2 c =
    let decodes = decodes_within c.args.machine.now c.requires in
    let wakes = wakes_within c.args.machine.now c.requires in
    let places = places_within c.args.machine.now c.requires in
    omega (arith, decodes, wakes, places)
