-- Each version ends, and then no place is taken.
use Rattle.std.proofs.Common.{sym, ap, ◌∙◌, arith}
use Rattle.std.specs.FinMap.{get, len}
use Rattle.std.proofs.lemmas.Option.{none-some}
use Rattle.tss_maps.proofs.Keys.{name_order}
use Rattle.tss_maps.proofs.Changes.{from_removed}
use Rattle.tss_maps.proofs.Entries.{len_removed}
use Rattle.tss_maps.proofs.MappedLemmas.{len-mapped}
use Rattle.tss_maps.proofs.OrderedLemmas.{key_there, least_none}
use Rattle.tss_versions.specs.Places.{kept_in}
use Rattle.tss_versions.proofs.PlacesLemmas.{seats_empty}
use Rattle.tss_versions.proofs.StepLemmas.{absent_site}
use Rattle.tss_versions.proofs.versions.Versions.close.Goals as goal

pub end-requires : goal.end-requires
end-requires c = c.loop-v.invariant c.in-Some-find.at.name c.remove.result c.remove.ensures.exact

pub loop-v-smaller : goal.loop-v-smaller
loop-v-smaller c =
    let new = ap (λ s. len s.versions) c.remove.ensures.others in
    let less = len_removed name_order c.loop-v.rest.versions c.in-Some-find.at.name c.remove.result c.remove.ensures.exact in
    omega (arith, new, less)

pub loop-v-preserved : goal.loop-v-preserved
loop-v-preserved c = λ v x there.
    let old = from_removed name_order c.loop-v.rest.versions c.in-Some-find.at.name v x
    (ap (λ s. get s.versions v) (sym c.remove.ensures.others) ∙ there) in
    c.loop-v.invariant v x old.1

pub unreachable-requires : goal.unreachable-requires
unreachable-requires c =
    let there = key_there name_order c.loop-v.rest.versions 0 c.in-Some.v (sym c.name_at.ensures ∙ c.in-Some.is) in
    none-some there.0
    (sym (absent_site c.loop-v.rest.versions c.in-Some.v (sym c.find.ensures ∙ c.in-None.is)) ∙ there.1)

pub close-requires : goal.close-requires
close-requires c =
    seats_empty c.rest.inside.seats c.rest.inside.index c.rest.invariant
    (sym (len-mapped (λ p. kept_in (get c.rest.inside.seats.entries p)) c.rest.inside.index.entries)
    ∙ ap (λ s. len s.versions) c.rest.view_is
    ∙ least_none name_order c.loop-v.rest.versions (sym c.name_at.ensures ∙ c.in_default.is))
