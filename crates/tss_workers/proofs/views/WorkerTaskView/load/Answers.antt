-- What a task reads.
use Rattle.std.proofs.Common.{refl, sym}
use Rattle.tss_steps.proofs.ViewLemmas.{width_some}
use Rattle.tss_memory.proofs.RangeLemmas.{some_and}
use Rattle.tss_base.specs.Range.{contains}
use Rattle.std.specs.Prelude.{slice_get, IsTrue}
use Rattle.tss_steps.proofs.ViewLemmas.{access_range}
use Rattle.tss_workers.proofs.SightLemmas.{loads_there, loads_fixed, loads_denied}
use Rattle.tss_workers.proofs.views.WorkerTaskView.load.Goals as goal

pub returns-in-Some-clause-exact : goal.returns-in-Some-clause-exact
returns-in-Some-clause-exact c =
    let v = c.args.self.now in
    let s = some_and (slice_get v.spots.now c.in-Some.i) (λ s. IsTrue (contains s.object (access_range c.args.at c.args.width))) c.in-Some.ensures.inside in
    loads_there v.code.now v.space.now v.buffers.now v.spots.now v.workable v.scratch.now c.args.at c.args.width
    (width_some c.args.width c.requires) (sym c.if-contains.ensures.exact) c.in-Some.i s.0 s.1 s.2 c.number_in-number.result.0
    c.number_in-number.ensures.exact

pub returns-in-Some-fixed_place-clause-exact : goal.returns-in-Some-fixed_place-clause-exact
returns-in-Some-fixed_place-clause-exact c =
    let v = c.args.self.now in
    loads_fixed v.code.now v.space.now v.buffers.now v.spots.now v.workable v.scratch.now c.args.at c.args.width
    (width_some c.args.width c.requires) (sym c.if-contains.ensures.exact) (c.in-None.ensures.none refl)
    (c.in-Some-fixed_place.found).writable c.in-Some-fixed_place.ensures.within (sym c.in-Some-fixed_place.ensures.exact)
    c.fixed_number.result c.fixed_number.ensures.exact

pub returns-in-None-fixed_place-clause-exact : goal.returns-in-None-fixed_place-clause-exact
returns-in-None-fixed_place-clause-exact c =
    let v = c.args.self.now in
    loads_denied v.code.now v.space.now v.buffers.now v.spots.now v.workable v.scratch.now c.args.at c.args.width
    (width_some c.args.width c.requires) (sym c.if-contains.ensures.exact) (c.in-None.ensures.none refl)
    (sym c.in-None-fixed_place.ensures.exact)
