-- No slot is taken.
use Rattle.std.proofs.Common.{◌*◌, refl, sym, subst}
use Rattle.std.proofs.Math.ListN.{replicate}
use Rattle.tss_base.specs.declared.bounds.TheConstants.{MAX_STATIONS}
use Rattle.tss_stations.specs.Slots.{AreSlots}
use Rattle.tss_stations.proofs.KeptLemmas.{kept_open}
use Rattle.tss_stations.proofs.slots.Slots.open.Goals as goal

pub invariant_of-result : goal.invariant_of-result
invariant_of-result c =
    subst (AreSlots c.args.sizes.now (replicate MAX_STATIONS 0)) (sym c.in_ok-open.ensures)
    (kept_open c.args.sizes.now (c.args.sizes.now.stations * c.args.sizes.now.slots) c.requires.stations c.requires.slots refl)
