-- The keys of the rows are those of the places.
use Rattle.std.proofs.Common.{ap, ◌∙◌}
use Rattle.std.specs.Prelude.{slice_get}
use Rattle.tss_tables.proofs.StoreLemmas.{keys-seen}
use Rattle.tss_tables.proofs.store.Store.key_at.Goals as goal

pub returns : goal.returns
returns g c =
    c.key_at.ensures
    ∙ ap (λ ks. slice_get ks c.args.place) (keys-seen c.self.inside.index c.self.inside.seats _ c.self.view_is c.self.invariant.held)
