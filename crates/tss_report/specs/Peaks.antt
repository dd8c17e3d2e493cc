-- The greatest counts of a run, each with its size.
use Rattle.std.specs.Prelude.{ℕ, ◌≤◌, List, [], ◌∷◌, ◌++◌, codes, decimal, flat_map}
use Rattle.tss_base.specs.declared.counts.Counts.{Counts}
use Rattle.tss_base.specs.declared.counts.Peaks.{Peaks}
use Rattle.tss_base.specs.declared.machine.Machine.{Machine}
use Rattle.tss_base.specs.declared.bounds.TheConstants.{MAX_OPERANDS}
use Rattle.tss_base.specs.Machine.{AreSizes}
use Rattle.tss_report.specs.declared.peaks.Count.{Count}
use Rattle.tss_report.specs.declared.peaks.Count.TheVariants.{Messages, Slots, Ready, Workers, Entries, Versions, Buffers}
use Rattle.tss_text.specs.Pieces.{joined}

-- the counts in the order of a report
abbrev pub all_counts : List Count
all_counts = Messages ∷ Slots ∷ Ready ∷ Workers ∷ Entries ∷ Versions ∷ Buffers ∷ []

-- the count as a report has it
abbrev pub count_name : Count → List ℕ
count_name Messages = codes "messages"
count_name Slots = codes "slots"
count_name Ready = codes "ready"
count_name Workers = codes "workers"
count_name Entries = codes "entries"
count_name Versions = codes "versions"
count_name Buffers = codes "buffers"

-- its number among several
abbrev pub count_in : Counts → Count → ℕ
count_in c Messages = c.messages
count_in c Slots = c.slots
count_in c Ready = c.ready
count_in c Workers = c.workers
count_in c Entries = c.entries
count_in c Versions = c.versions
count_in c Buffers = c.buffers

-- how many events a run has
abbrev pub events_text : ℕ → List ℕ
events_text n = joined (codes "events " ∷ decimal n ∷ codes "\n" ∷ [])

-- the greatest of a count, of what it may be
abbrev pub peak_text : Counts → Counts → Count → List ℕ
peak_text peaks size k =
    joined (codes "peak " ∷ count_name k ∷ codes " " ∷ decimal (count_in peaks k)
    ∷ codes " of " ∷ decimal (count_in size k) ∷ codes "\n" ∷ [])

-- those of all counts
unfoldable pub counts_text : Counts → Counts → List ℕ
counts_text peaks size = flat_map (peak_text peaks size) all_counts

-- the number of events, and the greatest of each count
abbrev pub peaks_text : Counts → Peaks → List ℕ
peaks_text size p = events_text p.events ++ counts_text p.counts size

-- a machine whose sizes can be printed with peaks: the operands of a task and each size lie in their ranges
pub record HasRanges (m : Machine) : Type 0 where
  pub operands : m.limits.max_operands ≤ MAX_OPERANDS
  pub sizes : AreSizes m.sizes
