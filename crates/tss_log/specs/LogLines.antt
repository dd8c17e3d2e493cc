-- The lines of a log that is given.
use Rattle.std.specs.Prelude.{ℕ, if◌then◌else◌, List, [], ◌∷◌, bytes_eq}
use Rattle.tss_protocol.specs.Text.{log_header}

-- the lines that are left, and how many were passed over before the first of all
pub record LinesLeft : Type 0 where
  pub left : List (List ℕ)
  pub offset : ℕ

-- those of events: a header is passed over
abbrev pub event_lines : List (List ℕ) → LinesLeft
event_lines [] = record { left = []; offset = 0 }
event_lines (l ∷ ls) =
    if bytes_eq l log_header then record { left = ls; offset = 1 } else record { left = l ∷ ls; offset = 0 }
