-- The texts of events, their reading, and the text of a log.
use Rattle.std.specs.Prelude.{ℕ, ◌+◌, ◌-◌, ◌*◌, ◌==◌, Bool, ◌&&◌, if◌then◌else◌, List, [], ◌∷◌, ◌++◌, map, flat_map}
use Rattle.std.specs.Prelude.{fold, Option, Some, None, codes, decimal, bytes_eq}
use Rattle.std.specs.List.{before_first, after_first, onto_first}
use Rattle.tss_base.specs.declared.operand.OpName.{OpName}
use Rattle.tss_base.specs.declared.event.Event.{Event}
use Rattle.tss_base.specs.declared.event.Event.TheVariants.{Main, Take, Decode, Ack, Open, Use, Ready, Link, Start}
use Rattle.tss_base.specs.declared.event.Event.TheVariants.{Exec, Finish, Release, Bye, Idle, Nack, Retire, Copy, Gone}
use Rattle.tss_base.specs.Event.{fits}
use Rattle.tss_protocol.specs.Names.{operand_name}

-- ---- writing

-- a task and a place with a full stop between
abbrev pub name_text : OpName → List ℕ
name_text o = decimal o.task ++ codes "." ++ decimal o.place

-- the one spelling of an event
unfoldable pub event_text : Event → List ℕ
event_text Main = codes "main"
event_text Take = codes "take"
event_text (Decode o) = codes "decode " ++ name_text o
event_text (Ack o) = codes "ack " ++ name_text o
event_text (Open o) = codes "open " ++ name_text o
event_text (Use o) = codes "use " ++ name_text o
event_text (Ready o) = codes "ready " ++ name_text o
event_text (Link o) = codes "link " ++ name_text o
event_text (Start w) = codes "start " ++ decimal w
event_text (Exec w) = codes "exec " ++ decimal w
event_text (Finish w) = codes "finish " ++ decimal w
event_text (Release o) = codes "release " ++ name_text o
event_text (Bye o) = codes "bye " ++ name_text o
event_text (Idle v) = codes "idle " ++ name_text v
event_text (Nack v) = codes "nack " ++ name_text v
event_text (Retire v) = codes "retire " ++ name_text v
event_text (Copy b) = codes "copy " ++ decimal b
event_text (Gone v) = codes "gone " ++ name_text v

-- what ends a line
abbrev pub line_feed : ℕ
line_feed = 10

-- the first line of a log, which names its format
abbrev pub log_header : List ℕ
log_header = codes "tss-log 2"

-- a line with its end
abbrev pub ended_line : List ℕ → List ℕ
ended_line line = line ++ line_feed ∷ []

-- lines, each with its end
abbrev pub text_of_lines : List (List ℕ) → List ℕ
text_of_lines lines = flat_map ended_line lines

-- a log: the header, and a line for each event
abbrev pub log_text : List Event → List ℕ
log_text es = text_of_lines (log_header ∷ map event_text es)

-- ---- reading

-- the number that digits write. Of other bytes it is some number, whose own digits are others
abbrev pub number_in : List ℕ → ℕ
number_in digits = fold (λ n c. 10 * n + (c - 48)) 0 digits

-- what ends the word of a kind
abbrev pub is_space : ℕ → Bool
is_space c = c == 32

-- what stands between a task and a place
abbrev pub is_full_stop : ℕ → Bool
is_full_stop c = c == 46

-- the name that a text would be
abbrev pub name_in : List ℕ → OpName
name_in text = operand_name (number_in (before_first is_full_stop text)) (number_in (after_first is_full_stop text))

-- the event that a kind's word and what follows it would write
abbrev pub event_in : List ℕ → List ℕ → Option Event
event_in kind rest =
    if bytes_eq kind (codes "main") then Some Main
    else if bytes_eq kind (codes "take") then Some Take
    else if bytes_eq kind (codes "decode") then Some (Decode (name_in rest))
    else if bytes_eq kind (codes "ack") then Some (Ack (name_in rest))
    else if bytes_eq kind (codes "open") then Some (Open (name_in rest))
    else if bytes_eq kind (codes "use") then Some (Use (name_in rest))
    else if bytes_eq kind (codes "ready") then Some (Ready (name_in rest))
    else if bytes_eq kind (codes "link") then Some (Link (name_in rest))
    else if bytes_eq kind (codes "start") then Some (Start (number_in rest))
    else if bytes_eq kind (codes "exec") then Some (Exec (number_in rest))
    else if bytes_eq kind (codes "finish") then Some (Finish (number_in rest))
    else if bytes_eq kind (codes "release") then Some (Release (name_in rest))
    else if bytes_eq kind (codes "bye") then Some (Bye (name_in rest))
    else if bytes_eq kind (codes "idle") then Some (Idle (name_in rest))
    else if bytes_eq kind (codes "nack") then Some (Nack (name_in rest))
    else if bytes_eq kind (codes "retire") then Some (Retire (name_in rest))
    else if bytes_eq kind (codes "copy") then Some (Copy (number_in rest))
    else if bytes_eq kind (codes "gone") then Some (Gone (name_in rest))
    else None

-- only where it fits, and the line is its one spelling
abbrev pub event_if_spelled : List ℕ → Option Event → Option Event
event_if_spelled line None = None
event_if_spelled line (Some e) = if fits e && bytes_eq (event_text e) line then Some e else None

-- the event whose text a line is
unfoldable pub event_of_text : List ℕ → Option Event
event_of_text line = event_if_spelled line (event_in (before_first is_space line) (after_first is_space line))

-- the lines of a log: cut at each line feed, where nothing after the last line feed is no line
unfoldable pub lines_of : List ℕ → List (List ℕ)
lines_of [] = []
lines_of (c ∷ cs) = if c == line_feed then [] ∷ lines_of cs else onto_first c (lines_of cs)
