-- As many rows as places.
use Rattle.std.proofs.Common.{arith}
use Rattle.tss_tables.proofs.StoreLemmas.{length-seen, size-seen}
use Rattle.tss_tables.proofs.store.Store.len.Goals as goal

pub returns-clause-exact : goal.returns-clause-exact
returns-clause-exact g c =
    let rows = length-seen c.self.inside.index c.self.inside.seats _ c.self.view_is c.self.invariant.held in omega (arith, rows, c.len.ensures.exact)

pub returns-clause-within : goal.returns-clause-within
returns-clause-within g c =
    let rows = length-seen c.self.inside.index c.self.inside.seats _ c.self.view_is c.self.invariant.held in
    let size = size-seen c.self.inside.index c.self.inside.seats _ c.self.view_is c.self.invariant.held in
    omega (arith, rows, size, c.len.ensures.within)
