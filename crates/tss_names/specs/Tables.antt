-- How full the tables get.
use Rattle.std.specs.Prelude.{◌≤◌, List}
use Rattle.tss_base.specs.declared.machine.Machine.{Machine}
use Rattle.tss_base.specs.declared.event.Event.{Event}
use Rattle.tss_base.specs.Image.{ImageState}
use Rattle.tss_protocol.specs.State.{State}
use Rattle.tss_protocol.specs.Counts.{counts_of, sizes_of}
use Rattle.tss_protocol.specs.Run.{OverRuns}

-- the counts of slots, workers, entries, version places and buffers are at most their sizes
pub record StaysWithinTables (m : Machine) (i : ImageState) (es : List Event) (S : State) : Type 0 where
  pub slots : (counts_of m S).slots ≤ (sizes_of m).slots
  pub workers : (counts_of m S).workers ≤ (sizes_of m).workers
  pub entries : (counts_of m S).entries ≤ (sizes_of m).entries
  pub versions : (counts_of m S).versions ≤ (sizes_of m).versions
  pub buffers : (counts_of m S).buffers ≤ (sizes_of m).buffers

-- after every run they are
abbrev pub TablesLaw : Type 0
TablesLaw = OverRuns StaysWithinTables
