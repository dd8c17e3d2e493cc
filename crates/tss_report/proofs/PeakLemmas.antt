-- The peaks one after another.
use Rattle.std.proofs.Common.{◌≡◌, ℕ, ◌+◌, ◌<◌, List, [], ◌++◌, drop, get_or, refl, ap}
use Rattle.std.specs.Prelude.{flat_map}
use Rattle.std.proofs.lemmas.List.{drop_more}
use Rattle.tss_base.specs.declared.counts.Counts.{Counts}
use Rattle.tss_report.specs.declared.peaks.Count.{Count}
use Rattle.tss_report.specs.declared.peaks.Count.TheVariants.{Messages}
use Rattle.tss_report.specs.Peaks.{all_counts, peak_text, counts_text}

-- those of the counts from a place on
unfoldable pub counts_from : Counts → Counts → ℕ → List ℕ
counts_from peaks size i = flat_map (peak_text peaks size) (drop i all_counts)

-- the count at a place
abbrev pub count_at : ℕ → Count
count_at i = get_or all_counts i Messages

module _ (peaks size : Counts) where
  -- at first all are left
  pub all_left : counts_text peaks size ≡ counts_from peaks size 0
  unfolding counts_text counts_from
  all_left = refl

  -- in the end none is
  pub none_left : counts_from peaks size 7 ≡ []
  unfolding counts_from
  none_left = refl

  -- that of a place, and those after it
  pub counts_next : (i : ℕ) → i < 7 →
      counts_from peaks size i ≡ peak_text peaks size (count_at i) ++ counts_from peaks size (i + 1)
  unfolding counts_from
  counts_next i h = ap (flat_map (peak_text peaks size)) (drop_more all_counts i Messages h)
