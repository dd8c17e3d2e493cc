-- A place given back.
use Rattle.std.proofs.Common.{◌≡◌, sym, ap, ◌∙◌, arith, subst}
use Rattle.std.specs.FinMap.{get, remove}
use Rattle.tss_maps.proofs.Entries.{len_there}
use Rattle.tss_tokens.specs.Pool.{AreFree}
use Rattle.tss_tokens.proofs.PlacesLemmas.{pool_of, len-seen, out-seen, AreFree-push, given}
use Rattle.tss_tokens.proofs.pool.Pool.give.Goals as goal

pub unreachable-requires : goal.unreachable-requires
unreachable-requires c =
    let all = len-seen c.self.inside.number _ _ _ c.self.view_is c.self.invariant.free in
    let some = len_there c.args.self.now.out c.args.token.place _ c.requires.out in
    let size : c.self.inside.size ≡ c.args.self.now.size = λ i. (c.self.view_is i).size in
    let full = c.in-Err.ensures.full in
    omega (arith, all, some, size, full, c.self.invariant.room)

pub invariant_of-self : goal.invariant_of-self
invariant_of-self c =
    let out = ap (get c.args.self.now.out) (λ i. (c.token.view_is i).place) ∙ c.requires.out in
    let here = out-seen c.self.inside.number _ _ _ c.self.view_is c.self.invariant.free c.token.inside.place out in
    record {
      free = subst (AreFree c.self.inside.size) (sym c.in-Ok.ensures.items)
          (AreFree-push c.self.inside.size c.self.inside.free.items c.token.inside.place c.self.invariant.free here);
      room = omega (arith, c.in-Ok.ensures.capacity, c.self.invariant.room);
      short = c.self.invariant.short;
    }

pub returns : goal.returns
returns c =
    let number = c.self.inside.number in
    let size = c.self.inside.size in
    ap (pool_of number size) c.in-Ok.ensures.items
    ∙ given number _ _ _ c.self.view_is c.self.invariant.free c.token.inside.place
    ∙ (λ i. record c.args.self.now { out = remove c.args.self.now.out (c.token.view_is i).place })
