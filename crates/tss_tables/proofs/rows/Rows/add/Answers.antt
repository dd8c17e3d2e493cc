-- A row put at its gap.
use Rattle.std.proofs.Common.{◌≡◌, sym, arith, subst}
use Rattle.tss_tables.specs.Rows.{Rises}
use Rattle.tss_tables.proofs.RowsLemmas.{found_in, gap_in, Rises-seen, length-seen, found_there, put-seen_gap}
use Rattle.tss_tables.proofs.rows.Rows.add.Goals as goal

pub place_of-requires : goal.place_of-requires
place_of-requires g c =
    let rises = Rises-seen _ _ _ _ c.self.view_is c.self.invariant.paired g.K.Ord.cmp c.requires.sorted in
    subst (Rises g.K.Ord.cmp) (sym c.as_slice.ensures.value) rises

pub unreachable-requires : goal.unreachable-requires
unreachable-requires g c =
    let found = found_in c.as_slice.ensures.value c.in_default.ensures in
    found_there _ _ _ _ c.self.view_is c.self.invariant.paired _ c.in_default.field-0 found c.requires.fresh

pub unreachable-requires-in-Err-insert : goal.unreachable-requires-in-Err-insert
unreachable-requires-in-Err-insert g c =
    let rows = length-seen _ _ _ _ c.self.view_is c.self.invariant.paired in
    let size : c.self.inside.size ≡ c.args.self.now.size = λ i. (c.self.view_is i).size in
    let full = c.in-Err-insert.ensures.full in
    omega (arith, rows, size, full, c.requires.room, c.self.invariant.room)

pub unreachable-requires-in-Err-insert-2 : goal.unreachable-requires-in-Err-insert-2
unreachable-requires-in-Err-insert-2 g c =
    let rows = length-seen _ _ _ _ c.self.view_is c.self.invariant.paired in
    let size : c.self.inside.size ≡ c.args.self.now.size = λ i. (c.self.view_is i).size in
    let full = c.in-Err-insert-2.ensures.full in
    omega (arith, rows, size, full, c.requires.room, c.self.invariant.value_room, c.self.invariant.paired)

pub invariant_of-self : goal.invariant_of-self
invariant_of-self g c =
    let rows = length-seen _ _ _ _ c.self.view_is c.self.invariant.paired in
    let size : c.self.inside.size ≡ c.args.self.now.size = λ i. (c.self.view_is i).size in
    record {
      paired = omega (arith, c.in-Ok.ensures.len, c.in-Ok-insert.ensures.len, c.self.invariant.paired);
      within = omega (arith, c.in-Ok.ensures.len, rows, size, c.requires.room);
      short = c.self.invariant.short;
      room = omega (arith, c.in-Ok.ensures.capacity, c.self.invariant.room);
      value_room = omega (arith, c.in-Ok-insert.ensures.capacity, c.self.invariant.value_room);
    }

pub returns : goal.returns
returns g c =
    let gap = gap_in c.as_slice.ensures.value c.in-Err.ensures in
    put-seen_gap _ _ _ _ c.self.view_is c.self.invariant.paired _ _ c.in-Err.place gap _ _ c.in-Ok.ensures.items
    c.in-Ok-insert.ensures.items
