-- The items of each part of the state text, and the rows of each table of a bank.
use Rattle.std.specs.Prelude.{ℕ, List, length, slice_get, is_some}
use Rattle.std.specs.List.{flat_map}
use Rattle.std.specs.FinMap.{get, entries, keys, len}
use Rattle.tss_base.specs.declared.machine.Machine.{Machine}
use Rattle.tss_model.specs.Memory.{Memory}
use Rattle.tss_protocol.specs.Gateway.{held_tasks}
use Rattle.tss_protocol.specs.Mail.{message_at, message_names}
use Rattle.tss_protocol.specs.State.{State}
use Rattle.tss_protocol.specs.UnitMachine.{enabled_events}
use Rattle.tss_report.specs.Report.{ending_text}
use Rattle.tss_report.specs.Rows.{changed_text}
use Rattle.tss_state_text.specs.declared.part.Part.{Part}
use Rattle.tss_state_text.specs.declared.part.Part.TheVariants as part
use Rattle.tss_state_lines.specs.Lines.{main_line, main_registers_line, epoch_line, inbox_line, gateway_line, queue_line, entry_line, place_line, version_line, message_line, trap_line, piece_line, enabled_line}
use Rattle.tss_state_text.specs.StateText.{text_if, task_text, worker_text, bank_entries, bank_names, entries_text, places_text, buffers_text, buffer_text, copy_text}
use Rattle.tss_state_text.specs.declared.banks.Table.{Table}
use Rattle.tss_state_text.specs.declared.banks.Table.TheVariants as table

-- ---- parts

-- how many items a part has: one where it is there once, or is put as one
abbrev pub item_count : Machine → State → Part → ℕ
item_count m S part.Epoch = length S.main.epoch
item_count m S part.Gateway = length (held_tasks S.gateway)
item_count m S part.Tasks = len S.flight
item_count m S part.Queue = length S.queue
item_count m S part.Workers = m.sizes.workers
item_count m S part.Entries = m.sizes.banks
item_count m S part.Places = m.sizes.banks
item_count m S part.Buffers = m.sizes.banks
item_count m S part.Messages = length (message_names S.mail)
item_count m S part.Copies = m.sizes.banks
item_count m S part.Pieces = length S.main.pieces
item_count m S part.Main = 1
item_count m S part.Registers = 1
item_count m S part.Ending = 1
item_count m S part.Inbox = 1
item_count m S part.Versions = 1
item_count m S part.Trap = 1
item_count m S part.Rows = 1
item_count m S part.Enabled = 1

-- the item at a place, from 0
abbrev pub item_text : Memory → Machine → State → Part → ℕ → List ℕ
item_text before m S part.Main i = main_line S.main.registers S.main.spawned (is_some S.main.ending)
item_text before m S part.Registers i = main_registers_line S.main.registers
item_text before m S part.Ending i = text_if ending_text S.main.ending
item_text before m S part.Epoch i = text_if epoch_line (slice_get S.main.epoch i)
item_text before m S part.Inbox i = text_if inbox_line S.inbox
item_text before m S part.Gateway i = text_if gateway_line (slice_get (held_tasks S.gateway) i)
item_text before m S part.Tasks i = text_if task_text (slice_get (entries S.flight) i)
item_text before m S part.Queue i = text_if queue_line (slice_get S.queue i)
item_text before m S part.Workers i = worker_text i (get S.workers i)
item_text before m S part.Entries i = entries_text m.sizes S.entries i
item_text before m S part.Places i = places_text S.places i
item_text before m S part.Buffers i = buffers_text m.sizes S i
item_text before m S part.Versions i = flat_map (λ e. version_line e.0 e.1) (entries S.versions)
item_text before m S part.Messages i =
    text_if (λ name. text_if message_line (message_at S.mail name)) (slice_get (message_names S.mail) i)
item_text before m S part.Copies i = copy_text S.copies i
item_text before m S part.Trap i = text_if trap_line S.trap
item_text before m S part.Pieces i = text_if piece_line (slice_get S.main.pieces i)
item_text before m S part.Rows i = changed_text before S.home
item_text before m S part.Enabled i = enabled_line (length (enabled_events m S))

-- ---- tables of a bank

-- how many rows a table has
abbrev pub row_count : Machine → State → Table → ℕ → ℕ
row_count m S table.Entries b = length (entries (bank_entries m.sizes b S.entries))
row_count m S table.Places b = length (keys (bank_names b S.places))
row_count m S table.Buffers b = length (keys (bank_names b S.buffers))

-- the row at a place, from 0
abbrev pub row_text : Machine → State → Table → ℕ → ℕ → List ℕ
row_text m S table.Entries b i = text_if (λ e. entry_line b e.1) (slice_get (entries (bank_entries m.sizes b S.entries)) i)
row_text m S table.Places b i = text_if (place_line b) (slice_get (keys (bank_names b S.places)) i)
row_text m S table.Buffers b i = text_if (buffer_text m.sizes S b) (slice_get (keys (bank_names b S.buffers)) i)

-- all rows of a table
abbrev pub table_text : Machine → State → Table → ℕ → List ℕ
table_text m S table.Entries b = entries_text m.sizes S.entries b
table_text m S table.Places b = places_text S.places b
table_text m S table.Buffers b = buffers_text m.sizes S b
