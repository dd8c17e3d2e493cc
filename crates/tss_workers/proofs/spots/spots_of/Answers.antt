-- One more spot, and all of them.
use Rattle.std.proofs.Common.{◌≡◌, ◌+◌, ◌<◌, ◌⊎◌, inl, inr, ℕ, length, take, get_or, set, sym, ap, ◌∙◌, arith}
use Rattle.std.proofs.lemmas.List.{ext_get_or, get_or-set_same, get_or-set_other, length-set, length-take-le}
use Rattle.tss_workers.specs.Spots.{spots_in, operands_at, placed_of, storages_at}
use Rattle.tss_workers.proofs.SpotsOfLemmas.{get_or-spots_in, length-spots_in, take-spots_in, operands_at-spots_in, storages_at-spots_in, placed_of-spots_in}
use Rattle.tss_workers.proofs.spots.spots_of.Goals as goal

last_or_before : (k i : ℕ) → k < i + 1 → (k ≡ i) ⊎ (k < i)
last_or_before k i h = grind (arith, h)

pub loop-i-preserved : goal.loop-i-preserved
loop-i-preserved c =
    let spots = c.loop-i.spots in
    let all = spots_in c.args.banks c.args.task.now.operands c.args.storages.now in
    let count = c.loop-i.invariant.count in
    record {
      count = length-set spots c.loop-i.i c.spot_of.result ∙ count;
      filled = λ k d h. elim (last_or_before k c.loop-i.i h) [
        | inl same ↦
            ap (λ j. get_or (set spots c.loop-i.i c.spot_of.result) j d) same
            ∙ get_or-set_same spots c.loop-i.i c.spot_of.result d (omega (arith, count))
            ∙ c.spot_of.ensures
            ∙ sym (get_or-spots_in c.args.banks c.args.task.now.operands c.args.storages.now c.loop-i.i _ _ d (omega arith) (omega arith))
            ∙ ap (λ j. get_or all j d) (sym same)
        | inr before ↦
            get_or-set_other spots c.loop-i.i k c.spot_of.result d (λ e. omega (arith, e, before))
            ∙ c.loop-i.invariant.filled k d before
      ];
    }

pub returns : goal.returns
returns c =
    let os = c.args.task.now.operands in
    let ss = c.args.storages.now in
    let banks = c.args.banks in
    let n = c.args.task.now.count in
    let seven : length os ≡ length ss = omega arith in
    let count : length c.loop-i.spots ≡ length os = omega (arith, c.loop-i.invariant.count) in
    let turns : c.loop-i.i ≡ length os = omega arith in
    let d = c.spot_of-first.result in
    let full : c.loop-i.spots ≡ spots_in banks os ss =
    ext_get_or d c.loop-i.spots (spots_in banks os ss) (count ∙ sym (length-spots_in banks os ss seven))
    (λ k h. c.loop-i.invariant.filled k d (omega (arith, h, count, turns))) in
    let front = ap (take n) full ∙ take-spots_in banks n os ss in
    let few = length-take-le n os (omega arith) in
    record {
      operands = ap operands_at front ∙ operands_at-spots_in banks (take n os) ss (omega (arith, few));
      seats = ap storages_at front ∙ storages_at-spots_in banks (take n os) ss;
      placed = ap placed_of front ∙ placed_of-spots_in banks (take n os) ss;
    }
