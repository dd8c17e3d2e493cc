-- The rows of memory that have changed.
use Rattle.std.specs.Prelude.{ℕ, ◌+◌, ◌-◌, ◌*◌, ◌/◌, min, if◌then◌else◌, List, [], ◌∷◌, codes, flat_map, bytes_eq}
use Rattle.std.specs.List.{range_with_len}
use Rattle.hex.specs.Hex.{encode_lower}
use Rattle.tss_base.specs.declared.range.Range.{Range}
use Rattle.tss_model.specs.Memory.{MemoryRange, Memory, bytes_of}
use Rattle.tss_report.specs.declared.rows.TheConstants.{ROW}
use Rattle.tss_text.specs.Pieces.{joined}
use Rattle.tss_text.specs.Digits.{hex_word}

-- how many bytes a row has, but for the last of a range
abbrev pub row_len : ℕ
row_len = ROW

-- the row at a place of a range, from its first byte on
abbrev pub row_at : Range → ℕ → Range
row_at r k = record { base = r.base + row_len * k; len = min row_len (r.len - row_len * k) }

-- how many rows a range has
abbrev pub row_count : Range → ℕ
row_count r = (r.len + (row_len - 1)) / row_len

-- the line of a row: its address and its bytes
abbrev pub row_line : ℕ → List ℕ → List ℕ
row_line at bytes = joined (codes "row " ∷ hex_word at ∷ codes " " ∷ encode_lower bytes ∷ codes "\n" ∷ [])

-- the line of a row in which a byte has changed, and nothing for another
abbrev pub row_text : Memory → Memory → Range → List ℕ
row_text old new row =
    if bytes_eq (bytes_of new row) (bytes_of old row) then [] else row_line row.base (bytes_of new row)

-- the rows of a range in order
abbrev pub rows_text : Memory → Memory → Range → List ℕ
rows_text old new r = flat_map (λ k. row_text old new (row_at r k)) (range_with_len 0 (row_count r))

-- those of a range of memory: none where it can't be written
abbrev pub range_text : Memory → Memory → MemoryRange → List ℕ
range_text old new m = if m.writable then rows_text old new m.range else []

-- the rows that have changed, by the ranges of memory in address order
abbrev pub changed_text : Memory → Memory → List ℕ
changed_text old new = flat_map (range_text old new) new.ranges
