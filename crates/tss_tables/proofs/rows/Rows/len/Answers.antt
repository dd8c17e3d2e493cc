-- As many rows as keys.
use Rattle.std.proofs.Common.{◌≡◌, arith}
use Rattle.tss_tables.proofs.RowsLemmas.{length-seen}
use Rattle.tss_tables.proofs.rows.Rows.len.Goals as goal

pub overflow_cast-result : goal.overflow_cast-result
overflow_cast-result g c = omega (arith, c.self.invariant.within, c.self.invariant.short)

pub returns-clause-exact : goal.returns-clause-exact
returns-clause-exact g c =
    let rows = length-seen _ _ _ _ c.self.view_is c.self.invariant.paired in omega (arith, rows)

pub returns-clause-within : goal.returns-clause-within
returns-clause-within g c =
    let rows = length-seen _ _ _ _ c.self.view_is c.self.invariant.paired in
    let size : c.self.inside.size ≡ c.args.self.now.size = λ i. (c.self.view_is i).size in
    omega (arith, rows, size)
