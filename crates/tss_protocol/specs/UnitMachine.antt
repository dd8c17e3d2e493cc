-- The unit machine: for each event whether it may happen and the state after it, made of what the units say, and the
-- list of the events that may happen.
use Rattle.std.specs.Prelude.{◌≡◌, ℕ, Bool, true, false, ◌&&◌, List, [], ◌∷◌, ◌++◌, map, filter, Option, Some, None}
use Rattle.std.specs.Prelude.{is_some}
use Rattle.std.specs.List.{range_with_len}
use Rattle.std.specs.FinMap.{get, insert, remove, keys}
use Rattle.tss_base.specs.declared.operand.OpName.{OpName}
use Rattle.tss_base.specs.declared.operand.Operand.{Operand}
use Rattle.tss_base.specs.declared.operand.Task.{Task}
use Rattle.tss_base.specs.declared.machine.Machine.{Machine}
use Rattle.tss_base.specs.declared.event.Event.{Event}
use Rattle.tss_base.specs.declared.event.Event.TheVariants as event
use Rattle.tss_base.specs.declared.marks.Stage.{Stage}
use Rattle.tss_base.specs.declared.marks.Stage.TheVariants as stage
use Rattle.tss_base.specs.Names.{Numbered}
use Rattle.tss_protocol.specs.Names.{bank_of}
use Rattle.tss_protocol.specs.Mail.{Source, OpenContents, ReleaseContents, IdleContents, GoneContents, Message}
use Rattle.tss_protocol.specs.Mail.{posted_all, taken, early_names, late_names, gone_names}
use Rattle.tss_protocol.specs.State.{State, Flying, Busy, Entry, Version, CopyState, Outcome}
use Rattle.tss_protocol.specs.Gateway.{has_window, gateway_after_take, sent_by_take, gateway_after_ack}
use Rattle.tss_protocol.specs.Stations.{has_slot, entered, flight_after_take, Woken, after_ready, after_link}
use Rattle.tss_protocol.specs.Stations.{flight_after_start, flight_after_finish, after_bye}
use Rattle.tss_protocol.specs.Renaming.{Tables, can_decode, after_decode, after_idle, after_gone}
use Rattle.tss_protocol.specs.Versions.{Versioned, can_open, after_open, can_use, after_use, after_release, after_nack}
use Rattle.tss_protocol.specs.Versions.{after_retire}
use Rattle.tss_protocol.specs.Buffers.{buffer_bytes, contents_after_gone, can_retire_from, sent_by_retire}
use Rattle.tss_protocol.specs.Buffers.{copies_after_retire, home_after_copy, is_last_piece, copies_after_copy}
use Rattle.tss_protocol.specs.Buffers.{sent_by_copy}
use Rattle.tss_protocol.specs.Workers.{Stores, can_start, busy_at_start, stores_after_start, can_exec, exec_stretch}
use Rattle.tss_protocol.specs.Workers.{busy_after, can_finish, trap_after_finish}
use Rattle.tss_model.specs.TaskRun.{TaskState}
use Rattle.tss_protocol.specs.MainEvent.{can_main, after_main}

-- ---- the units' parts of the state

-- the renaming tables
abbrev pub tables_of : State → Tables
tables_of S = record { entries = S.entries; places = S.places; buffers = S.buffers }

-- the state with other tables
abbrev pub with_tables : State → Tables → State
with_tables S t = record S { entries = t.entries; places = t.places; buffers = t.buffers }

-- home and the contents of the buffers
abbrev pub stores_of : State → Stores
stores_of S = record { home = S.home; contents = S.contents }

-- the state with others
abbrev pub with_stores : State → Stores → State
with_stores S s = record S { home = s.home; contents = s.contents }

-- messages are sent
abbrev pub with_sent : State → List Message → State
with_sent S ms = record S { mail = posted_all S.mail ms }

-- the message of an event is taken
abbrev pub without : State → Event → State
without S e = record S { mail = taken S.mail e }

-- what a unit's event makes of its part, with the messages that it sends
abbrev pub with_versioned : State → Versioned → State
with_versioned S d = with_sent (record S { versions = d.part }) d.sent

-- the same of the stations
abbrev pub with_flight : State → Outcome (Numbered Flying) → State
with_flight S d = with_sent (record S { flight = d.part }) d.sent

-- a task is queued, or isn't
abbrev pub queue_with : List ℕ → ℕ → Bool → List ℕ
queue_with queue task true = queue ++ task ∷ []
queue_with queue task false = queue

-- ---- take

-- take may happen, by the inbox's task
abbrev pub can_take : Machine → State → Option Task → Bool
can_take m S None = false
can_take m S (Some t) = has_window m.sizes S.gateway && has_slot m.sizes S.flight t.number

-- the stage is queued
abbrev pub is_queued : Stage → Bool
is_queued stage.Waiting = false
is_queued stage.Queued = true
is_queued stage.Running = false
is_queued stage.Finished = false

-- a task is taken
abbrev pub take_task : State → Task → State
take_task S t = with_sent (record S {
  inbox = None;
  gateway = gateway_after_take S.gateway t;
  flight = flight_after_take S.flight t;
  queue = queue_with S.queue t.number (is_queued (entered t).stage);
}) (sent_by_take t)

-- the state after take, by the inbox
abbrev pub after_take : State → Option Task → State
after_take S None = S
after_take S (Some t) = take_task S t

-- ---- decode, ack

-- decode may happen, by its message
abbrev pub can_decode_message : Machine → State → OpName → Option Operand → Bool
can_decode_message m S o None = false
can_decode_message m S o (Some operand) = can_decode m.sizes (tables_of S) S.mail.decodes o operand

-- the state with a bank's outcome
abbrev pub with_decoded : State → Outcome Tables → State
with_decoded S d = with_sent (with_tables S d.part) d.sent

-- the state after decode, by its message
abbrev pub decode_message_taken : Machine → State → OpName → Option Operand → State
decode_message_taken m S o None = S
decode_message_taken m S o (Some operand) = with_decoded S (after_decode m.sizes (tables_of S) o operand)

-- the state after ack
abbrev pub ack_message_taken : State → OpName → State
ack_message_taken S o = record S { gateway = gateway_after_ack S.gateway o }

-- ---- open, use

-- open may happen, by its message
abbrev pub can_open_message : State → Option OpenContents → Bool
can_open_message S None = false
can_open_message S (Some opening) = can_open S.versions opening

-- the state after open, by its message
abbrev pub open_message_taken : State → OpName → Option OpenContents → State
open_message_taken S o None = S
open_message_taken S o (Some opening) = with_versioned S (after_open S.versions o opening)

-- use may happen, by its message
abbrev pub can_use_message : State → Option OpName → Bool
can_use_message S None = false
can_use_message S (Some v) = can_use S.versions v

-- the state after use, by its message
abbrev pub use_message_taken : State → OpName → Option OpName → State
use_message_taken S o None = S
use_message_taken S o (Some v) = with_versioned S (after_use S.versions o v)

-- ---- ready, link, bye

-- the state with what a ready leaves of a task
abbrev pub with_woken : State → ℕ → Woken → State
with_woken S task w = with_sent (record S { flight = w.flight; queue = queue_with S.queue task w.queued }) w.sent

-- the state after ready, by its message
abbrev pub ready_message_taken : State → OpName → Option Source → State
ready_message_taken S o None = S
ready_message_taken S o (Some source) = with_woken S o.task (after_ready S.flight o source)

-- the state after link, by its message
abbrev pub link_message_taken : State → OpName → Option OpName → State
link_message_taken S o None = S
link_message_taken S o (Some next) = with_flight S (after_link S.flight o next)

-- the state after bye, by its message
abbrev pub bye_message_taken : State → OpName → Option Bool → State
bye_message_taken S o None = S
bye_message_taken S o (Some promised) = record S { flight = after_bye S.flight o promised }

-- ---- start, exec, finish

-- a task starts, where it is in flight
abbrev pub start_task : Machine → State → ℕ → ℕ → List ℕ → Option Flying → State
start_task m S w t ts None = S
start_task m S w t ts (Some x) =
    with_stores (record S {
      queue = ts;
      flight = flight_after_start S.flight t x;
      workers = insert S.workers w (busy_at_start x);
    }) (stores_after_start m.limits (stores_of S) x)

-- the state after start, by the queue
abbrev pub after_start : Machine → State → ℕ → List ℕ → State
after_start m S w [] = S
after_start m S w (t ∷ ts) = start_task m S w t ts (get S.flight t)

-- the state with a stretch of a worker
abbrev pub with_executed : State → ℕ → Busy → TaskState Stores → State
with_executed S w b s = with_stores (record S { workers = insert S.workers w (busy_after b s) }) s.memory

-- the state after exec, by the worker
abbrev pub after_exec : Machine → State → ℕ → Option Busy → State
after_exec m S w None = S
after_exec m S w (Some b) =
    with_executed S w b (exec_stretch S.code m.limits m.sizes.quantum b (stores_of S))

-- a task finishes
abbrev pub finish_task : State → ℕ → Busy → State
finish_task S w b =
    with_flight (record S {
      workers = remove S.workers w;
      trap = trap_after_finish S.trap b.task.number b.trap;
    }) (flight_after_finish S.flight b.task.number)

-- the state after finish, by the worker
abbrev pub after_finish : State → ℕ → Option Busy → State
after_finish S w None = S
after_finish S w (Some b) = finish_task S w b

-- ---- release

-- the state after release, by its message
abbrev pub release_message_taken : State → OpName → Option ReleaseContents → State
release_message_taken S o None = S
release_message_taken S o (Some r) = with_versioned S (after_release S.versions o r)

-- ---- idle, nack, retire, copy, gone

-- the state with other entries, and messages
abbrev pub with_entries : State → Outcome (Numbered Entry) → State
with_entries S d = with_sent (record S { entries = d.part }) d.sent

-- the state after idle, by its message
abbrev pub idle_message_taken : State → OpName → Option IdleContents → State
idle_message_taken S v None = S
idle_message_taken S v (Some i) = with_entries S (after_idle S.entries v i.base i.count)

-- the state after nack
abbrev pub nack_message_taken : State → OpName → State
nack_message_taken S v = with_versioned S (after_nack S.versions v)

-- retire may happen, by its version
abbrev pub can_retire : Machine → State → Option Version → Bool
can_retire m S None = false
can_retire m S (Some x) = can_retire_from x.storage (get S.copies (bank_of m.sizes x.object))

-- the state after retire, by its version
abbrev pub retire_version : Machine → State → OpName → Option Version → State
retire_version m S v None = S
retire_version m S v (Some x) =
    with_sent (record S {
      versions = after_retire S.versions v;
      copies = copies_after_retire S.copies (bank_of m.sizes x.object) v x.object x.storage;
    }) (sent_by_retire v x.object x.storage)

-- the state after retire
abbrev pub retire_message_taken : Machine → State → OpName → State
retire_message_taken m S v = retire_version m S v (get S.versions v)

-- the state after copy, by the bank's copy
abbrev pub after_copy : State → ℕ → Option CopyState → State
after_copy S b None = S
after_copy S b (Some c) =
    with_sent (record S {
      home = home_after_copy S.home c (buffer_bytes S.contents c.buffer);
      copies = copies_after_copy S.copies b c (is_last_piece c);
    }) (sent_by_copy c (is_last_piece c))

-- the state after gone, by its message
abbrev pub gone_message_taken : State → OpName → Option GoneContents → State
gone_message_taken S v None = S
gone_message_taken S v (Some g) =
    with_tables (record S { contents = contents_after_gone S.contents g.buffer }) (after_gone (tables_of S) v g)

-- ---- the machine

-- whether an event may happen. One that takes a message may only where that is there
unfoldable pub is_enabled : Machine → State → Event → Bool
is_enabled m S event.Main = can_main m S
is_enabled m S event.Take = can_take m S S.inbox
is_enabled m S (event.Decode o) = can_decode_message m S o (get S.mail.decodes o)
is_enabled m S (event.Ack o) = is_some (get S.mail.acks o)
is_enabled m S (event.Open o) = can_open_message S (get S.mail.opens o)
is_enabled m S (event.Use o) = can_use_message S (get S.mail.uses o)
is_enabled m S (event.Ready o) = is_some (get S.mail.readies o)
is_enabled m S (event.Link o) = is_some (get S.mail.links o)
is_enabled m S (event.Start w) = can_start m.sizes.workers w (get S.workers w) S.queue
is_enabled m S (event.Exec w) = can_exec (get S.workers w)
is_enabled m S (event.Finish w) = can_finish (get S.workers w)
is_enabled m S (event.Release o) = is_some (get S.mail.releases o)
is_enabled m S (event.Bye o) = is_some (get S.mail.byes o)
is_enabled m S (event.Idle v) = is_some (get S.mail.idles v)
is_enabled m S (event.Nack v) = is_some (get S.mail.nacks v)
is_enabled m S (event.Retire v) = is_some (get S.mail.retires v) && can_retire m S (get S.versions v)
is_enabled m S (event.Copy b) = is_some (get S.copies b)
is_enabled m S (event.Gone v) = is_some (get S.mail.gones v)

-- the fact
abbrev pub IsEnabled : Machine → State → Event → Type 0
IsEnabled m S e = is_enabled m S e ≡ true

-- the state after an event. One that takes a message removes it
unfoldable pub after_event : Machine → State → Event → State
after_event m S event.Main = after_main m S
after_event m S event.Take = after_take S S.inbox
after_event m S (event.Decode o) = decode_message_taken m (without S (event.Decode o)) o (get S.mail.decodes o)
after_event m S (event.Ack o) = ack_message_taken (without S (event.Ack o)) o
after_event m S (event.Open o) = open_message_taken (without S (event.Open o)) o (get S.mail.opens o)
after_event m S (event.Use o) = use_message_taken (without S (event.Use o)) o (get S.mail.uses o)
after_event m S (event.Ready o) = ready_message_taken (without S (event.Ready o)) o (get S.mail.readies o)
after_event m S (event.Link o) = link_message_taken (without S (event.Link o)) o (get S.mail.links o)
after_event m S (event.Start w) = after_start m S w S.queue
after_event m S (event.Exec w) = after_exec m S w (get S.workers w)
after_event m S (event.Finish w) = after_finish S w (get S.workers w)
after_event m S (event.Release o) = release_message_taken (without S (event.Release o)) o (get S.mail.releases o)
after_event m S (event.Bye o) = bye_message_taken (without S (event.Bye o)) o (get S.mail.byes o)
after_event m S (event.Idle v) = idle_message_taken (without S (event.Idle v)) v (get S.mail.idles v)
after_event m S (event.Nack v) = nack_message_taken (without S (event.Nack v)) v
after_event m S (event.Retire v) = retire_message_taken m (without S (event.Retire v)) v
after_event m S (event.Copy b) = after_copy S b (get S.copies b)
after_event m S (event.Gone v) = gone_message_taken (without S (event.Gone v)) v (get S.mail.gones v)

-- ---- the events that may happen, in order

-- those of workers
abbrev pub worker_events : Machine → State → List Event
worker_events m S =
    map event.Start (range_with_len 0 m.sizes.workers)
    ++ map event.Exec (keys S.workers)
    ++ map event.Finish (keys S.workers)

-- those of banks that copy
abbrev pub copy_events : State → List Event
copy_events S = map event.Copy (keys S.copies)

-- every event that may come into question: by kind, and then by name, worker or bank
abbrev pub candidate_events : Machine → State → List Event
candidate_events m S =
    event.Main
    ∷ event.Take
    ∷ early_names S.mail ++ worker_events m S ++ late_names S.mail ++ copy_events S ++ gone_names S.mail

-- the events that may happen, in the same order
unfoldable pub enabled_events : Machine → State → List Event
enabled_events m S = filter (is_enabled m S) (candidate_events m S)
