-- How full the tables are, their sizes, the peaks of a run, and the bound on its events.
use Rattle.std.specs.Prelude.{ℕ, zero, suc, ◌+◌, ◌-◌, ◌*◌, ◌/◌, ◌≤◌, max, List, [], ◌∷◌, length}
use Rattle.tss_base.specs.declared.bounds.TheConstants.{COPY_BYTES}
use Rattle.std.specs.FinMap.{len}
use Rattle.tss_base.specs.declared.machine.Machine.{Machine}
use Rattle.tss_base.specs.declared.event.Event.{Event}
use Rattle.tss_base.specs.declared.counts.Counts.{Counts}
use Rattle.tss_base.specs.declared.counts.Peaks.{Peaks}
use Rattle.tss_protocol.specs.Mail.{message_count}
use Rattle.tss_protocol.specs.State.{State}
use Rattle.tss_protocol.specs.Stations.{tasks_in}
use Rattle.tss_protocol.specs.Renaming.{entries_in, places_in, buffers_in}
use Rattle.tss_protocol.specs.UnitMachine.{after_event}

-- the greatest value of f below n, and 0 where n is 0
abbrev pub greatest : (ℕ → ℕ) → ℕ → ℕ
greatest f zero = 0
greatest f (suc n) = max (greatest f n) (f n)

-- the counts of a state: of slots the most of one station, and of entries, places and buffers the most of one bank
abbrev pub counts_of : Machine → State → Counts
counts_of m S = record {
  messages = message_count S.mail;
  slots = greatest (λ s. tasks_in m.sizes s S.flight) m.sizes.stations;
  ready = length S.queue;
  workers = len S.workers;
  entries = greatest (λ b. entries_in m.sizes b S.entries) m.sizes.banks;
  versions = greatest (λ b. places_in b S.places) m.sizes.banks;
  buffers = greatest (λ b. buffers_in b S.buffers) m.sizes.banks;
}

-- the slots of all stations
abbrev pub all_slots : Machine → ℕ
all_slots m = m.sizes.stations * m.sizes.slots

-- an upper bound of the messages: a decode or an ack for each operand of a window of tasks, two messages for each
-- operand in a slot, and one for each place
abbrev pub message_limit : Machine → ℕ
message_limit m =
    m.sizes.window * m.limits.max_operands
    + 2 * all_slots m * m.limits.max_operands
    + m.sizes.banks * m.sizes.versions

-- the size of each count
abbrev pub sizes_of : Machine → Counts
sizes_of m = record {
  messages = message_limit m;
  slots = m.sizes.slots;
  ready = all_slots m;
  workers = m.sizes.workers;
  entries = m.sizes.entries;
  versions = m.sizes.versions;
  buffers = m.sizes.buffers;
}

-- each count is at most its size
pub record AreWithin (c : Counts) (size : Counts) : Type 0 where
  pub messages : c.messages ≤ size.messages
  pub slots : c.slots ≤ size.slots
  pub ready : c.ready ≤ size.ready
  pub workers : c.workers ≤ size.workers
  pub entries : c.entries ≤ size.entries
  pub versions : c.versions ≤ size.versions
  pub buffers : c.buffers ≤ size.buffers

-- the greater of each count
abbrev pub greater_counts : Counts → Counts → Counts
greater_counts c d = record {
  messages = max c.messages d.messages;
  slots = max c.slots d.slots;
  ready = max c.ready d.ready;
  workers = max c.workers d.workers;
  entries = max c.entries d.entries;
  versions = max c.versions d.versions;
  buffers = max c.buffers d.buffers;
}

-- the greatest of each count over a state and the states after each event
unfoldable pub peak_counts : Machine → State → List Event → Counts
peak_counts m S [] = counts_of m S
peak_counts m S (e ∷ es) = greater_counts (counts_of m S) (peak_counts m (after_event m S e) es)

-- the number of events of a run, and the greatest of each count
abbrev pub peaks_of : Machine → State → List Event → Peaks
peaks_of m S es = record { events = length es; counts = peak_counts m S es }

-- how many pieces the longest object has
abbrev pub pieces_of_object : Machine → ℕ
pieces_of_object m = (m.limits.object_bytes + (COPY_BYTES - 1)) / COPY_BYTES

-- no run has more events. Of an operand: decode, ack, open or use, ready, link, release, bye, idle, its nack or retire,
-- gone, and its copies
abbrev pub operand_events : Machine → ℕ
operand_events m = 10 + pieces_of_object m

-- of a task: take, start, finish, an exec for each instruction and one more
abbrev pub task_events : Machine → ℕ
task_events m = m.limits.task_budget + 4 + m.limits.max_operands * operand_events m

-- of main: an event for each instruction and one that ends
abbrev pub event_bound : Machine → ℕ
event_bound m = m.limits.main_budget + 1 + m.limits.max_tasks * task_events m
