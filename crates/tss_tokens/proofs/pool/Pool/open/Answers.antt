-- One place after the other is freed.
use Rattle.std.proofs.Common.{◌≡◌, ap, ◌∙◌, sym, arith, subst}
use Rattle.tss_tokens.specs.Pool.{places_out, AreFree}
use Rattle.tss_tokens.proofs.PlacesLemmas.{free_last, none_below}
use Rattle.tss_tokens.proofs.pool.Pool.open.Goals as goal

pub unreachable-requires : goal.unreachable-requires
unreachable-requires c =
    let before = c.loop-place.invariant in
    let full = c.in-Err.ensures.full in
    omega (arith, full, before.count, before.room, c.loop-place-test.true)

pub loop-place-preserved : goal.loop-place-preserved
loop-place-preserved c =
    let before = c.loop-place.invariant in
    let pushed = c.in-Ok.ensures in
    let last =
    free_last c.args.size c.loop-place.free.items c.loop-place.place c.loop-place-test.true before.free before.out
    in
    record {
      out = ap (places_out c.args.size) pushed.items ∙ last.0;
      free = subst (AreFree c.args.size) (sym pushed.items) last.1;
      count = omega (arith, pushed.len, before.count, c.loop-place-test.true);
      room = omega (arith, pushed.capacity, before.room);
    }

pub returns : goal.returns
returns c =
    let end : c.loop-place.place ≡ 0 = omega (arith, c.loop-place-test.false) in
    let out = c.loop-place.invariant.out ∙ none_below c.loop-place.place end in
    λ i. record { number = c.args.number; size = c.args.size; out = out i }
