-- The keys of the rows are the keys.
use Rattle.std.proofs.Common.{sym, ap, ◌∙◌}
use Rattle.std.specs.Prelude.{slice_get}
use Rattle.tss_tables.proofs.RowsLemmas.{keys-seen}
use Rattle.tss_tables.proofs.rows.Rows.key_at.Goals as goal

pub returns : goal.returns
returns g c =
    let keys = keys-seen _ _ _ _ c.self.view_is c.self.invariant.paired in
    c.key_in.ensures ∙ ap (λ ks. slice_get ks c.args.place) (c.as_slice.ensures.value ∙ sym keys)
