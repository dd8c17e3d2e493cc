-- A log of the older format, without a header, in the present one.
use Rattle.std.specs.Prelude.{◌≡◌, ℕ, suc, if◌then◌else◌, List, [], ◌∷◌, Option, Some, None, is_none, option_map}
use Rattle.std.specs.Prelude.{Result, Ok, Err}
use Rattle.tss_base.specs.declared.machine.Machine.{Machine}
use Rattle.tss_base.specs.Image.{ImageState}
use Rattle.tss_protocol.specs.Schedule.{LogFault, BadLine, NotEnabled, Short, Long, Judgement, judged}
use Rattle.tss_protocol.specs.Text.{event_of_text, lines_of, log_header, text_of_lines}

-- the number of the first line that is no event's text, where n is the number of the first of them
abbrev pub first_bad_line : ℕ → List (List ℕ) → Option ℕ
first_bad_line n [] = None
first_bad_line n (l ∷ ls) = if is_none (event_of_text l) then Some n else first_bad_line (suc n) ls

-- the header and then the lines, where each is an event's text
abbrev pub migrated_lines : List (List ℕ) → Option ℕ → Result (List ℕ) ℕ
migrated_lines lines None = Ok (text_of_lines (log_header ∷ lines))
migrated_lines lines (Some n) = Err n

-- the bytes of the new log, or the number of the first line that is no event's text. A header is none, so a log of the
-- present format is refused at line 1
abbrev pub migrated : List ℕ → Result (List ℕ) ℕ
migrated bytes = migrated_lines (lines_of bytes) (first_bad_line 1 (lines_of bytes))

-- the same fault, one line later
abbrev pub fault_later : LogFault → LogFault
fault_later (BadLine n) = BadLine (suc n)
fault_later (NotEnabled n) = NotEnabled (suc n)
fault_later (Short n) = Short (suc n)
fault_later (Long n) = Long (suc n)

-- the same events, and the same fault one line later
abbrev pub judged_later : Judgement → Judgement
judged_later j = record j { fault = option_map fault_later j.fault }

-- the new log gives the same run
abbrev pub KeepsRun : Type 0
KeepsRun =
    (m : Machine) (i : ImageState) (bytes log : List ℕ)
    → migrated bytes ≡ Ok log
    → judged m i log ≡ judged_later (judged m i bytes)
