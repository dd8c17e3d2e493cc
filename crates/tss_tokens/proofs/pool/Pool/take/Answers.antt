-- The last free place is taken, or none is free.
use Rattle.std.proofs.Common.{ap, arith, subst}
use Rattle.std.specs.Prelude.{is_some}
use Rattle.tss_tokens.specs.Pool.{AreFree}
use Rattle.tss_tokens.proofs.PlacesLemmas.{len-seen, used_up, no_places, taken, not_used_up, AreFree-pop}
use Rattle.tss_tokens.proofs.pool.Pool.take.Goals as goal

pub returns-in_err-place-clause-none : goal.returns-in_err-place-clause-none
returns-in_err-place-clause-none c =
    let none = no_places c.self.inside.free.items (omega (arith, c.in_err-place.ensures.cases.0)) in (
      λ _. used_up c.self.inside.number _ _ _ c.self.view_is c.self.invariant.free none,
      λ _. ap is_some c.from_residual.ensures,
    )

pub returns-in_err-place-clause-count : goal.returns-in_err-place-clause-count
returns-in_err-place-clause-count c =
    let all = len-seen c.self.inside.number _ _ _ c.self.view_is c.self.invariant.free in (
      λ _. omega (arith, all, c.in_err-place.ensures.cases.0),
      λ _. ap is_some c.from_residual.ensures,
    )

pub invariant_of-self-2 : goal.invariant_of-self-2
invariant_of-self-2 c =
    let popped =
    AreFree-pop c.self.inside.size c.pop.new.self.items c.in_ok-place.place
    (subst (AreFree c.self.inside.size) c.in_ok-place.ensures.items c.self.invariant.free)
    in
    record {
      free = popped.0;
      room = omega (arith, c.in_ok-place.ensures.capacity, c.self.invariant.room);
      short = c.self.invariant.short;
    }

pub returns-clause-none : goal.returns-clause-none
returns-clause-none c =
    let takes = taken c.self.inside.number _ _ _ c.self.view_is c.self.invariant.free _ _ c.in_ok-place.ensures.items in
    (λ no. absurd (cc), λ all. absurd (not_used_up _ _ _ takes all))

pub returns-clause-count : goal.returns-clause-count
returns-clause-count c =
    let all = len-seen c.self.inside.number _ _ _ c.self.view_is c.self.invariant.free in
    (λ no. absurd (cc), λ full. absurd (omega (arith, all, full, c.in_ok-place.ensures.cases)))

pub returns-clause-taken : goal.returns-clause-taken
returns-clause-taken c =
    taken c.self.inside.number _ _ _ c.self.view_is c.self.invariant.free _ _ c.in_ok-place.ensures.items
