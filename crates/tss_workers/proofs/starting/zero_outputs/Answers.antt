-- The next spot can be zeroed.
use Rattle.std.proofs.Common.{◌<◌, ◌-◌, length, arith}
use Rattle.std.proofs.lemmas.Option.{slice_get-get_or}
use Rattle.tss_workers.proofs.StartLemmas.{can_zero}
use Rattle.tss_workers.proofs.starting.zero_outputs.Goals as goal

pub zero_spot-requires : goal.zero_spot-requires
zero_spot-requires c =
    let within : c.loop-i.i - 1 < length c.args.spots.now = omega (arith, c.loop-i.invariant.within, c.loop-i-test.true) in
    can_zero c.args.space.now.ranges c.args.buffers.now c.args.spots.now c.requires.ground c.requires.seated (c.loop-i.i - 1) _
    (slice_get-get_or c.args.spots.now (c.loop-i.i - 1) _ within) c.loop-i.space.ranges c.loop-i.buffers
    c.loop-i.invariant.ranges c.loop-i.invariant.sizes
