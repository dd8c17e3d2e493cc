-- The key at the place after the search's.
use Rattle.std.proofs.Common.{◌≡◌, sym, ap, ◌∙◌, arith, subst}
use Rattle.std.specs.Prelude.{slice_get}
use Rattle.std.specs.List.{find as find_if}
use Rattle.std.specs.Ordering.{is_lt}
use Rattle.tss_tables.specs.Rows.{Rises}
use Rattle.tss_tables.proofs.RowsLemmas.{found_in, gap_in, Rises-seen, keys-seen, found_within, find_above-found, find_above-gap}
use Rattle.tss_tables.proofs.rows.Rows.next_after.Goals.{in-Ok, in-Err}
use Rattle.tss_tables.proofs.rows.Rows.next_after.Goals as goal

pub place_of-requires : goal.place_of-requires
place_of-requires g c =
    let rises = Rises-seen _ _ _ _ c.self.view_is c.self.invariant.paired g.K.Ord.cmp c.requires in
    subst (Rises g.K.Ord.cmp) (sym c.as_slice.ensures.value) rises

pub overflow_add-place : goal.overflow_add-place
overflow_add-place g c =
    let within = found_within _ _ _ c.in-Ok.ensures in
    omega (arith, within, c.as_slice.ensures.len, c.self.invariant.within, c.self.invariant.short)

pub returns : goal.returns
returns g c =
    let keys = c.self.inside.keys.items in
    let seen = keys-seen _ _ _ _ c.self.view_is c.self.invariant.paired in
    let above : slice_get keys c.match-place_of.place ≡ find_if (λ q. is_lt (g.K.Ord.cmp c.args.key.now q)) keys =
    elim c.match-place_of.branch [
      | in-Ok w ↦
          let found = found_in c.as_slice.ensures.value w.in-Ok.ensures in
          ap (slice_get keys) w.place-is ∙ sym (find_above-found keys c.args.key.now w.in-Ok.place found)
      | in-Err w ↦
          let gap = gap_in c.as_slice.ensures.value w.in-Err.ensures in
          ap (slice_get keys) w.place-is ∙ sym (find_above-gap keys c.args.key.now w.in-Err.place gap)
    ] in
    c.key_in.ensures
    ∙ ap (λ ks. slice_get ks c.match-place_of.place) c.as_slice-2.ensures.value
    ∙ above
    ∙ ap (find_if (λ q. is_lt (g.K.Ord.cmp c.args.key.now q))) (sym seen)
