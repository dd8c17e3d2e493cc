-- All spots are seated, and their buffers set.
use Rattle.std.proofs.Common.{arith}
use Rattle.std.proofs.lemmas.Option.{slice_get_within}
use Rattle.tss_workers.proofs.CheckLemmas.{seated_from, set_from}
use Rattle.tss_workers.proofs.tests.checking.are_seated.Goals as goal

pub returns-clause-fits : goal.returns-clause-fits
returns-clause-fits c _ =
    seated_from c.args.buffers.now c.args.spots.now (λ k s n e.
    let within = slice_get_within c.args.spots.now k s e in
    c.loop-i.invariant.fits k s n (omega (arith, within, c.loop-i-test.false)) e)

pub returns-clause-set : goal.returns-clause-set
returns-clause-set c _ =
    set_from c.args.buffers.now.contents c.args.spots.now (λ k s n e.
    let within = slice_get_within c.args.spots.now k s e in
    c.loop-i.invariant.set k s n (omega (arith, within, c.loop-i-test.false)) e)
