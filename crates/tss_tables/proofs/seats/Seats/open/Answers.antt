-- The seats are free.
use Rattle.std.proofs.Common.{◌≡◌, ◌++◌, ◌∷◌, [], None, sym, ap, ◌∙◌, arith, length}
use Rattle.std.specs.Ordering.{nat_cmp}
use Rattle.std.specs.FinMap.{len, len-empty}
use Rattle.std.proofs.lemmas.Grind.{replicate_next}
use Rattle.tss_tables.specs.Seats.{seats_from}
use Rattle.tss_tables.proofs.SeatsLemmas.{seats-free}
use Rattle.tss_tables.proofs.seats.Seats.open.Goals as goal

pub loop-preserved : goal.loop-preserved
loop-preserved g c =
    let before = c.loop.invariant in
    let pushed = c.in-Ok-push.ensures in
    record {
      room = omega (arith, pushed.capacity, before.room);
      turns = omega (arith, pushed.len, before.turns);
      free = pushed.items ∙ ap (λ xs. xs ++ None ∷ []) before.free ∙ sym (replicate_next c.loop.counter None);
    }

pub invariant_of-result : goal.invariant_of-result
invariant_of-result g c = record {
  count =
      sym (ap len (ap (seats_from 0) c.loop.invariant.free ∙ seats-free 0 c.loop.counter)
      ∙ len-empty nat_cmp g.row.V.Denot);
  short = omega (arith, c.loop.invariant.turns);
}

pub returns : goal.returns
returns g c =
    let size : length c.loop.seats.items ≡ c.args.size = omega (arith, c.loop.invariant.turns) in
    let entries = ap (seats_from 0) c.loop.invariant.free ∙ seats-free 0 c.loop.counter in
    λ i. record { size = size i; entries = entries i }
