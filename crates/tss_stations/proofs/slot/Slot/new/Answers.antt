-- The parts are those of a new slot.
use Rattle.std.proofs.Common.{sym, ap, ◌∙◌}
use Rattle.std.specs.Prelude.{take}
use Rattle.tss_stations.proofs.StateLemmas.{enters_queued, enters_waiting}
use Rattle.tss_stations.proofs.slot.Slot.new.Goals as goal

pub returns-then-is_empty : goal.returns-then-is_empty
returns-then-is_empty c =
    let known = c.known.ensures ∙ ap (take c.args.task.now.count) c.new_views.ensures in
    let stage = enters_queued c.args.task.now c.known.result.now known (sym c.is_empty.ensures ∙ c.if-is_empty.true) in
    λ i. record { task = c.args.task.now; stage = stage i; operands = c.new_views.ensures i }

pub returns-else-is_empty : goal.returns-else-is_empty
returns-else-is_empty c =
    let known = c.known.ensures ∙ ap (take c.args.task.now.count) c.new_views.ensures in
    let stage = enters_waiting c.args.task.now c.known.result.now known (sym c.is_empty.ensures ∙ c.if-is_empty.false) in
    λ i. record { task = c.args.task.now; stage = stage i; operands = c.new_views.ensures i }
