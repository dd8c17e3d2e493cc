-- One operand's storage more.
use Rattle.std.proofs.Common.{◌<◌, length, set, slice_get, refl, sym, ◌∙◌, subst, arith, inl, inr}
use Rattle.std.proofs.lemmas.List.{length-set}
use Rattle.tss_pipeline.specs.Fit.{ground_of}
use Rattle.tss_pipeline.specs.Beginning.{IsStoredAt}
use Rattle.tss_pipeline.proofs.worker_rows.StorageLemmas.{last_or_before, written_place, written_beside}
use Rattle.tss_pipeline.proofs.units.Units.storages_of.Goals as goal

pub loop-place-init : goal.loop-place-init
loop-place-init c = record { long = refl; found = λ k few. absurd (omega (arith, few)) }

pub loop-place-preserved : goal.loop-place-preserved
loop-place-preserved c =
    let u = c.args.self.now in
    let t = c.args.task.now in
    let place = c.loop-place.place in
    let xs = c.loop-place.storages in
    let s = c.storage_at.result in
    let less = c.loop-place-test.true in
    let most = c.requires.count in
    let long = c.loop-place.invariant.long in
    let within : c.loop-place.place < length c.loop-place.storages = omega (arith, less, most, long) in
    record {
      long = length-set xs place s ∙ long;
      found = λ k few. elim (last_or_before k place few) [
        | inl same ↦
            subst (λ k. IsStoredAt (ground_of u) u.stations.slots t k (slice_get (set xs place s) k)) (sym same)
            (subst (IsStoredAt (ground_of u) u.stations.slots t place) (sym (written_place xs place s within))
            c.storage_at.ensures)
        | inr before ↦
            subst (IsStoredAt (ground_of u) u.stations.slots t k)
            (sym (written_beside xs place k s (λ e. omega (arith, e, before))))
            (c.loop-place.invariant.found k before)
      ];
    }

pub returns : goal.returns
returns c = λ k few.
    let past = c.loop-place-test.false in
    c.loop-place.invariant.found k (omega (arith, few, past))
