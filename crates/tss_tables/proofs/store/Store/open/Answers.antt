-- One place after the other is free.
use Rattle.std.proofs.Common.{◌-◌, ◌∙◌, sym, arith, subst}
use Rattle.std.specs.Ordering.{nat_cmp}
use Rattle.std.specs.FinMap.{empty, get-empty}
use Rattle.tss_tables.specs.Store.{AreFree}
use Rattle.tss_tables.proofs.FreeLemmas.{AreFrom, AreFrom-push, AreFree-push, below_from}
use Rattle.tss_tables.proofs.StoreLemmas.{AreStored-open}
use Rattle.tss_tables.proofs.store.Store.open.Goals as goal

pub unreachable-requires : goal.unreachable-requires
unreachable-requires g c =
    let before = c.loop-place.invariant in
    let full = c.in-Err.ensures.full in
    omega (arith, full, before.count, before.room, c.loop-place-test.true)

pub loop-place-preserved : goal.loop-place-preserved
loop-place-preserved g c =
    let before = c.loop-place.invariant in
    let pushed = c.in-Ok-push.ensures in
    let some = c.loop-place-test.true in
    let places = c.loop-place.free.items in
    let apart =
    below_from c.loop-place.place (c.loop-place.place - 1) places (omega (arith, some)) before.from in
    record {
      free =
          subst (AreFree c.args.size empty) (sym pushed.items)
          (AreFree-push c.args.size empty (c.loop-place.place - 1) places
          (omega (arith, some, c.loop-place.auto.place)) (get-empty nat_cmp (c.loop-place.place - 1)) apart before.free);
      from =
          subst (AreFrom (c.loop-place.place - 1)) (sym pushed.items)
          (AreFrom-push c.loop-place.place (c.loop-place.place - 1) places (omega (arith, some)) before.from);
      count = omega (arith, pushed.len, before.count, some);
      room = omega (arith, pushed.capacity, before.room);
    }

pub invariant_of-result-2 : goal.invariant_of-result-2
invariant_of-result-2 g c =
    let left = c.loop-place.invariant in
    let index = c.index.view_is ∙ c.in_ok-index.ensures in
    AreStored-open c.args.size c.loop-place.free _ _ index c.in_ok-open.ensures left.free
    (omega (arith, left.count, c.loop-place-test.false)) left.room
