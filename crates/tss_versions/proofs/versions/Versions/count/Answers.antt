-- As many are registered as names have places.
use Rattle.std.proofs.Common.{sym, ap, ◌∙◌}
use Rattle.std.specs.FinMap.{get, len}
use Rattle.tss_maps.proofs.MappedLemmas.{len-mapped}
use Rattle.tss_versions.specs.Places.{kept_in}
use Rattle.tss_versions.proofs.versions.Versions.count.Goals as goal

pub returns : goal.returns
returns c =
    c.len.ensures.exact
    ∙ sym (len-mapped (λ p. kept_in (get c.self.inside.seats.entries p)) c.self.inside.index.entries)
    ∙ ap (λ s. len s.versions) c.self.view_is
