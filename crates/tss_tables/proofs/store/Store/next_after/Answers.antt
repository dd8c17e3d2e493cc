-- The keys of the rows are those of the places.
use Rattle.std.proofs.Common.{ap, ◌∙◌}
use Rattle.std.specs.List.{find as find_if}
use Rattle.std.specs.Ordering.{is_lt}
use Rattle.tss_tables.proofs.StoreLemmas.{keys-seen, sorted-seen}
use Rattle.tss_tables.proofs.store.Store.next_after.Goals as goal

pub next_after-requires : goal.next_after-requires
next_after-requires g c = sorted-seen c.self.inside.index c.self.inside.seats _ c.self.view_is c.self.invariant.held g.K.Ord.cmp c.requires

pub returns : goal.returns
returns g c =
    let keys = keys-seen c.self.inside.index c.self.inside.seats _ c.self.view_is c.self.invariant.held in
    c.next_after.ensures ∙ ap (find_if (λ q. is_lt (g.K.Ord.cmp c.args.key.now q))) keys
