-- What a bank has in use, and the operand to decode at a place in order.
use Rattle.std.specs.Prelude.{ℕ, ◌==◌, Bool, ◌&&◌, List, slice_get, Option, option_and_then, is_none}
use Rattle.std.specs.FinMap.{get, len, keys}
use Rattle.tss_base.specs.declared.operand.Operand.{Operand}
use Rattle.tss_base.specs.Names.{Named}
use Rattle.tss_protocol.specs.Renaming.{Fill}
use Rattle.tss_banks.specs.Tables.{tables_at, own_fill}
use Rattle.tss_pipeline.specs.declared.bank.Bank.{Bank}
use Rattle.tss_pipeline.specs.State.{bank_tables}

-- nothing is in the bank
abbrev pub is_empty : Bank → Bool
is_empty b =
    (len b.renaming.entries == 0) && (len b.renaming.places == 0) && (len b.renaming.buffers == 0)
    && (len b.versions.versions == 0) && is_none b.job

-- what the bank of a number has in use
abbrev pub fill_at : List Bank → ℕ → Fill
fill_at bs n = own_fill (tables_at (bank_tables bs) n)

-- the operand whose decode is at a place, by name
abbrev pub decode_at : Named Operand → ℕ → Option Operand
decode_at decodes i = option_and_then (get decodes) (slice_get (keys decodes) i)
