-- A row that the search found, or none.
use Rattle.std.proofs.Common.{sym, arith, subst}
use Rattle.tss_tables.specs.Rows.{Rises}
use Rattle.tss_tables.proofs.RowsLemmas.{found_in, gap_in, Rises-seen, found_within, find-seen_found, find-seen_gap}
use Rattle.tss_tables.proofs.rows.Rows.get.Goals as goal

pub place_of-requires : goal.place_of-requires
place_of-requires g c =
    let rises = Rises-seen _ _ _ _ c.self.view_is c.self.invariant.paired g.K.Ord.cmp c.requires in
    subst (Rises g.K.Ord.cmp) (sym c.as_slice.ensures.value) rises

pub index-requires : goal.index-requires
index-requires g c =
    let within = found_within _ _ _ c.in-Ok.ensures in
    omega (arith, within, c.as_slice.ensures.len, c.self.invariant.paired)

pub returns-in-Ok : goal.returns-in-Ok
returns-in-Ok g c =
    let found = found_in c.as_slice.ensures.value c.in-Ok.ensures in
    sym (find-seen_found _ _ _ _ c.self.view_is c.self.invariant.paired _ c.in-Ok.place _ found c.index.ensures)

pub returns-in-Err : goal.returns-in-Err
returns-in-Err g c =
    let gap = gap_in c.as_slice.ensures.value c.in-Err.ensures in
    sym (find-seen_gap _ _ _ _ c.self.view_is c.self.invariant.paired _ c.in-Err.field-0 gap)
