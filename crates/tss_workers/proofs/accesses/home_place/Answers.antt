-- A range of an operand lies in memory.
use Rattle.std.proofs.Common.{◌∙◌}
use Rattle.std.specs.Prelude.{slice_get, IsTrue}
use Rattle.std.proofs.lemmas.Option.{none-some}
use Rattle.tss_base.specs.Range.{contains}
use Rattle.tss_memory.proofs.RangeLemmas.{some_and}
use Rattle.tss_steps.proofs.PlaceLemmas.{range_of-loaded}
use Rattle.tss_workers.specs.Spots.{operands_at}
use Rattle.tss_workers.proofs.RuleLemmas.{lies_in_operand}
use Rattle.tss_workers.proofs.accesses.home_place.Goals as goal

pub unreachable-requires : goal.unreachable-requires
unreachable-requires c =
    let s = some_and (slice_get c.args.spots.now c.args.i) (λ s. IsTrue (contains s.object c.args.r.now)) c.requires.inside in
    let own = lies_in_operand c.args.spots.now c.args.r.now c.args.i s.0 s.1 s.2 in
    let placed = range_of-loaded c.args.space.now.ranges c.requires.ground.are (operands_at c.args.spots.now) c.requires.ground.placed
    c.args.r.now c.requires.some own in
    none-some placed.0 (c.in-None.ensures.exact ∙ placed.1)
