-- A row taken out at its key's place, or none.
use Rattle.std.proofs.Common.{sym, arith, subst}
use Rattle.tss_tables.specs.Rows.{Rises}
use Rattle.tss_tables.proofs.RowsLemmas.{found_in, gap_in, Rises-seen, found_within, find-seen_found, find-seen_gap, without-seen_found, without-seen_gap}
use Rattle.tss_tables.proofs.rows.Rows.remove.Goals as goal

pub place_of-requires : goal.place_of-requires
place_of-requires g c =
    let rises = Rises-seen _ _ _ _ c.self.view_is c.self.invariant.paired g.K.Ord.cmp c.requires in
    subst (Rises g.K.Ord.cmp) (sym c.as_slice.ensures.value) rises

pub remove-requires : goal.remove-requires
remove-requires g c =
    let within = found_within _ _ _ c.in-Ok.ensures in omega (arith, within, c.as_slice.ensures.len)

pub remove-requires-in-Ok : goal.remove-requires-in-Ok
remove-requires-in-Ok g c =
    let within = found_within _ _ _ c.in-Ok.ensures in
    omega (arith, within, c.as_slice.ensures.len, c.self.invariant.paired)

pub invariant_of-self : goal.invariant_of-self
invariant_of-self g c = record {
  paired = omega (arith, c.remove.ensures.len, c.remove-in-Ok.ensures.len, c.self.invariant.paired);
  within = omega (arith, c.remove.ensures.len, c.self.invariant.within);
  short = c.self.invariant.short;
  room = omega (arith, c.remove.ensures.capacity, c.self.invariant.room);
  value_room = omega (arith, c.remove-in-Ok.ensures.capacity, c.self.invariant.value_room);
}

pub returns-in-Ok-clause-value : goal.returns-in-Ok-clause-value
returns-in-Ok-clause-value g c =
    let found = found_in c.as_slice.ensures.value c.in-Ok.ensures in
    let shown = c.remove-in-Ok.ensures.value in
    sym (find-seen_found _ _ _ _ c.self.view_is c.self.invariant.paired _ c.in-Ok.place _ found shown)

pub returns-in-Ok-clause-rest : goal.returns-in-Ok-clause-rest
returns-in-Ok-clause-rest g c =
    let found = found_in c.as_slice.ensures.value c.in-Ok.ensures in
    without-seen_found _ _ _ _ c.self.view_is c.self.invariant.paired _ c.in-Ok.place found _ _ c.remove.ensures.items
    c.remove-in-Ok.ensures.items

pub returns-in-Err-clause-value : goal.returns-in-Err-clause-value
returns-in-Err-clause-value g c =
    let gap = gap_in c.as_slice.ensures.value c.in-Err.ensures in
    sym (find-seen_gap _ _ _ _ c.self.view_is c.self.invariant.paired _ c.in-Err.field-0 gap)

pub returns-in-Err-clause-rest : goal.returns-in-Err-clause-rest
returns-in-Err-clause-rest g c =
    let gap = gap_in c.as_slice.ensures.value c.in-Err.ensures in
    without-seen_gap _ _ _ _ c.self.view_is c.self.invariant.paired _ c.in-Err.field-0 gap
