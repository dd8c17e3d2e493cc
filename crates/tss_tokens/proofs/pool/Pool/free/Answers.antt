-- Places out and places free are all places.
use Rattle.std.proofs.Common.{◌≡◌, arith}
use Rattle.tss_tokens.proofs.PlacesLemmas.{len-seen}
use Rattle.tss_tokens.proofs.pool.Pool.free.Goals as goal

pub overflow_cast-result : goal.overflow_cast-result
overflow_cast-result c =
    let all = len-seen c.self.inside.number _ _ _ c.self.view_is c.self.invariant.free in
    let size : c.self.inside.size ≡ c.args.self.now.size = λ i. (c.self.view_is i).size in
    omega (arith, all, size, c.self.invariant.short)

pub returns : goal.returns
returns c =
    let all = len-seen c.self.inside.number _ _ _ c.self.view_is c.self.invariant.free in omega (arith, all)
