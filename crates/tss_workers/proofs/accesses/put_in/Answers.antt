-- A number put in a spot.
use Rattle.std.proofs.Common.{◌≡◌, true, Option, ap, sym, subst, ◌∙◌, arith}
use Rattle.std.specs.Prelude.{IsSomeAnd, IsTrue}
use Rattle.std.proofs.lemmas.Option.{same_Some}
use Rattle.tss_model.specs.Access.{writes}
use Rattle.tss_model.specs.Core.{low_bytes}
use Rattle.tss_steps.proofs.PlaceLemmas.{range_of-stored}
use Rattle.tss_steps.proofs.ViewLemmas.{width_some}
use Rattle.tss_protocol.specs.Workers.{worker_byte}
use Rattle.tss_buffers.specs.Contents.{BuffersState, seat}
use Rattle.tss_workers.specs.Spots.{AreWorkable, operands_at, placed_of, storage_at, stores_of}
use Rattle.tss_workers.specs.declared.spots.Spot.{Spot}
use Rattle.tss_workers.proofs.RuleLemmas.{lies_in_written}
use Rattle.tss_workers.proofs.SpotLemmas.{length-low_bytes, home_written, buffer_written, home_bytes, buffer_bytes-after, AreSet-written}
use Rattle.tss_workers.proofs.SeatLemmas.{buffer_fits, buffer_there, buffer_set, range_fits, starts_after}
use Rattle.tss_workers.proofs.accesses.put_in.Goals as goal

pub set_number-requires-clause-writable : goal.set_number-requires-clause-writable
set_number-requires-clause-writable c =
    let w : writes c.spot_in-spot.result.mode ≡ true =
    subst (λ (o : Option Spot). IsSomeAnd o (λ s. IsTrue (writes s.mode))) c.spot_in-spot.ensures.there c.requires.written in
    let own = lies_in_written c.args.spots.now c.args.r.now c.args.i c.spot_in-spot.result c.spot_in-spot.ensures.there
    c.spot_in-spot.ensures.inside w in
    same_Some c.home_place-found.result.writable true
    (sym c.home_place-found.ensures.within
    ∙ range_of-stored c.args.space.now.ranges c.requires.workable.ground.are (operands_at c.args.spots.now)
    c.requires.workable.ground.placed c.args.r.now (width_some c.args.r.now.len c.requires.width) own)

pub overflow_sub-at : goal.overflow_sub-at
overflow_sub-at c = starts_after c.spot_in-spot.result c.args.r.now c.spot_in-spot.ensures.inside

pub put-requires-clause-there : goal.put-requires-clause-there
put-requires-clause-there c =
    buffer_there c.args.space.now.ranges c.args.buffers.now c.args.spots.now c.requires.workable c.args.i c.spot_in-spot.result
    c.spot_in-spot.ensures.there c.in-Buffer.bank c.in-Buffer.place c.in-Buffer.is

pub put-requires-clause-set : goal.put-requires-clause-set
put-requires-clause-set c =
    buffer_set c.args.space.now.ranges c.args.buffers.now c.args.spots.now c.requires.workable c.args.i c.spot_in-spot.result
    c.spot_in-spot.ensures.there c.in-Buffer.bank c.in-Buffer.place c.in-Buffer.is

pub put-requires-clause-within : goal.put-requires-clause-within
put-requires-clause-within c =
    range_fits c.args.space.now.ranges c.args.buffers.now c.args.spots.now c.requires.workable c.args.i c.spot_in-spot.result
    c.spot_in-spot.ensures.there c.in-Buffer.bank c.in-Buffer.place c.in-Buffer.is c.args.r.now c.spot_in-spot.ensures.inside

pub returns-in-Home-clause-exact : goal.returns-in-Home-clause-exact
returns-in-Home-clause-exact c =
    home_written c.args.spots.now c.requires.workable.apart c.args.i c.spot_in-spot.result c.spot_in-spot.ensures.there
    c.args.r.now c.spot_in-spot.ensures.inside (width_some c.args.r.now.len c.requires.width) c.args.space.now c.args.buffers.now
    (low_bytes c.args.r.now.len c.args.value) (ap storage_at c.in-Home.is) c.set_number.new.self c.set_number.ensures

pub returns-in-Home-clause-bytes : goal.returns-in-Home-clause-bytes
returns-in-Home-clause-bytes c =
    home_bytes c.args.spots.now c.requires.workable.apart c.args.i c.spot_in-spot.result c.spot_in-spot.ensures.there
    c.args.r.now c.spot_in-spot.ensures.inside (width_some c.args.r.now.len c.requires.width) c.args.space.now c.args.buffers.now
    (low_bytes c.args.r.now.len c.args.value) (length-low_bytes c.args.r.now.len c.args.value) (ap storage_at c.in-Home.is)
    c.set_number.new.self c.set_number.ensures

pub returns-in-Buffer-clause-exact : goal.returns-in-Buffer-clause-exact
returns-in-Buffer-clause-exact c =
    buffer_written c.args.spots.now c.requires.workable.apart c.args.i c.spot_in-spot.result c.spot_in-spot.ensures.there
    c.args.r.now c.spot_in-spot.ensures.inside (width_some c.args.r.now.len c.requires.width) c.args.space.now c.args.buffers.now
    (low_bytes c.args.r.now.len c.args.value) (seat c.in-Buffer.bank c.in-Buffer.place) (ap storage_at c.in-Buffer.is)
    c.put.new.self c.put.ensures.exact

pub returns-in-Buffer-clause-bytes : goal.returns-in-Buffer-clause-bytes
returns-in-Buffer-clause-bytes c =
    let fits = buffer_fits c.args.space.now.ranges c.args.buffers.now c.args.spots.now c.requires.workable c.args.i c.spot_in-spot.result
    c.spot_in-spot.ensures.there c.in-Buffer.bank c.in-Buffer.place c.in-Buffer.is in
    λ a.
    ap (λ (b : BuffersState). worker_byte (placed_of c.args.spots.now) (stores_of c.args.space.now b) a) c.put.ensures.exact
    ∙ buffer_bytes-after c.args.spots.now c.requires.workable.apart c.args.i c.spot_in-spot.result c.spot_in-spot.ensures.there
    c.args.r.now c.spot_in-spot.ensures.inside (width_some c.args.r.now.len c.requires.width) c.args.space.now c.args.buffers.now
    (low_bytes c.args.r.now.len c.args.value) (length-low_bytes c.args.r.now.len c.args.value)
    (seat c.in-Buffer.bank c.in-Buffer.place) (ap storage_at c.in-Buffer.is) (omega (arith, fits.long, c.put.ensures.len)) a

pub returns-in-Buffer-clause-workable : goal.returns-in-Buffer-clause-workable
returns-in-Buffer-clause-workable c =
    subst (λ (b : BuffersState). AreWorkable c.args.space.now.ranges b c.args.spots.now) (sym c.put.ensures.exact)
    (record {
      ground = c.requires.workable.ground;
      apart = c.requires.workable.apart;
      seated = λ i p n e its.
          let fits = c.requires.workable.seated i p n e its in
          record { bank = fits.bank; place = fits.place; long = fits.long };
      set = AreSet-written c.args.buffers.now.contents (seat c.in-Buffer.bank c.in-Buffer.place) _ (placed_of c.args.spots.now) c.requires.workable.set;
    })
