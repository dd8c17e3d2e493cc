-- No row is left, so no place is taken.
use Rattle.std.proofs.Common.{arith}
use Rattle.tss_tables.proofs.StoreLemmas.{length-seen}
use Rattle.tss_tables.proofs.store.Store.close.Goals as goal

pub close-requires : goal.close-requires
close-requires g c =
    let rows = length-seen c.self.inside.index c.self.inside.seats _ c.self.view_is c.self.invariant.held in
    omega (arith, rows, c.requires)

pub close-requires-2 : goal.close-requires-2
close-requires-2 g c =
    let rows = length-seen c.self.inside.index c.self.inside.seats _ c.self.view_is c.self.invariant.held in
    omega (arith, rows, c.requires, c.self.invariant.taken)
