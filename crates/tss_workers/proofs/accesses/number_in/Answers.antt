-- A number in a spot.
use Rattle.std.proofs.Common.{ap, ◌∙◌}
use Rattle.tss_buffers.specs.Contents.{seat}
use Rattle.tss_workers.specs.Spots.{storage_at}
use Rattle.tss_workers.proofs.SpotLemmas.{home_number, buffer_number}
use Rattle.tss_workers.proofs.SeatLemmas.{buffer_there, buffer_set, range_fits}
use Rattle.tss_workers.proofs.accesses.number_in.Goals as goal

pub number-requires-in-Buffer-clause-there : goal.number-requires-in-Buffer-clause-there
number-requires-in-Buffer-clause-there c =
    buffer_there c.args.space.now.ranges c.args.buffers.now c.args.spots.now c.requires.workable c.args.i c.spot_in-spot.result
    c.spot_in-spot.ensures.there c.in-Buffer.bank c.in-Buffer.place c.in-Buffer.is

pub number-requires-in-Buffer-clause-set : goal.number-requires-in-Buffer-clause-set
number-requires-in-Buffer-clause-set c =
    buffer_set c.args.space.now.ranges c.args.buffers.now c.args.spots.now c.requires.workable c.args.i c.spot_in-spot.result
    c.spot_in-spot.ensures.there c.in-Buffer.bank c.in-Buffer.place c.in-Buffer.is

pub number-requires-in-Buffer-clause-within : goal.number-requires-in-Buffer-clause-within
number-requires-in-Buffer-clause-within c =
    range_fits c.args.space.now.ranges c.args.buffers.now c.args.spots.now c.requires.workable c.args.i c.spot_in-spot.result
    c.spot_in-spot.ensures.there c.in-Buffer.bank c.in-Buffer.place c.in-Buffer.is c.args.r.now c.spot_in-spot.ensures.inside

pub returns-in-Home-clause-exact : goal.returns-in-Home-clause-exact
returns-in-Home-clause-exact c =
    c.number.ensures.exact
    ∙ home_number c.args.spots.now c.requires.workable.apart c.args.i c.spot_in-spot.result c.spot_in-spot.ensures.there
    c.args.r.now c.spot_in-spot.ensures.inside c.args.space.now c.args.buffers.now (ap storage_at c.in-Home.is)

pub returns-in-Buffer-clause-exact : goal.returns-in-Buffer-clause-exact
returns-in-Buffer-clause-exact c =
    c.number-in-Buffer.ensures.exact
    ∙ buffer_number c.args.spots.now c.requires.workable.apart c.args.i c.spot_in-spot.result c.spot_in-spot.ensures.there
    c.args.r.now c.spot_in-spot.ensures.inside c.args.space.now c.args.buffers.now (seat c.in-Buffer.bank c.in-Buffer.place)
    (ap storage_at c.in-Buffer.is)
