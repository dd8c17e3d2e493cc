-- The renaming tables of all banks, and the tables that they are together.
use Rattle.std.specs.Prelude.{◌≡◌, ℕ, ◌/◌, ◌%◌, List, [], map, get_or, slice_set, Some}
use Rattle.std.specs.FinMap.{empty, get, len}
use Rattle.tss_base.specs.declared.bounds.TheConstants.{BANK_BYTES}
use Rattle.tss_base.specs.declared.machine.Sizes.{Sizes}
use Rattle.tss_base.specs.Names.{Named, Numbered}
use Rattle.tss_protocol.specs.Names.{bank_of}
use Rattle.tss_protocol.specs.State.{Entry, Outcome}
use Rattle.tss_protocol.specs.Renaming.{Fill, Tables}
use Rattle.tss_banks.specs.Joined.{bank, joined, AreApart, AreNumbered}

-- the bank of the objects with a base
abbrev pub bank_of_base : Sizes → ℕ → ℕ
bank_of_base sizes base = base / BANK_BYTES % sizes.banks

-- tables without anything
abbrev pub no_tables : Tables
no_tables = record { entries = empty; places = empty; buffers = empty }

-- a bank's tables: empty ones where there is no such bank
abbrev pub tables_at : List Tables → ℕ → Tables
tables_at ts b = get_or ts b no_tables

-- the entries of each bank
abbrev pub entries_of : List Tables → List (Numbered Entry)
entries_of ts = map (λ (t : Tables). t.entries) ts

-- the places held of each
abbrev pub places_of : List Tables → List (Named ℕ)
places_of ts = map (λ (t : Tables). t.places) ts

-- the buffers held of each
abbrev pub buffers_of : List Tables → List (Named ℕ)
buffers_of ts = map (λ (t : Tables). t.buffers) ts

-- all banks' tables as one
abbrev pub joined_tables : List Tables → Tables
joined_tables ts = record {
  entries = joined (entries_of ts);
  places = joined (places_of ts);
  buffers = joined (buffers_of ts);
}

-- each entry stands under its object's base, in the bank of its object
pub record EntriesInBanks (sizes : Sizes) (es : List (Numbered Entry)) : Type 0 where
  pub base : (b k : ℕ) (e : Entry) → get (bank es b) k ≡ Some e → e.object.base ≡ k
  pub own : (b k : ℕ) (e : Entry) → get (bank es b) k ≡ Some e → bank_of sizes e.object ≡ b

-- held places or buffers stand in one bank each, whose number they have
pub record NamesInBanks (ms : List (Named ℕ)) : Type 0 where
  pub apart : AreApart ms
  pub own : AreNumbered ms

-- the tables are those of banks
pub record AreBankTables (sizes : Sizes) (ts : List Tables) : Type 0 where
  pub entries : EntriesInBanks sizes (entries_of ts)
  pub places : NamesInBanks (places_of ts)
  pub buffers : NamesInBanks (buffers_of ts)

-- what tables of one bank have in use
abbrev pub own_fill : Tables → Fill
own_fill t = record { entries = len t.entries; places = len t.places; buffers = len t.buffers }

-- ---- rows

-- tables of which a row leaves other entries alone
abbrev pub on_entries : Tables → Outcome (Numbered Entry) → Outcome Tables
on_entries t d = record { part = record t { entries = d.part }; sent = d.sent }

-- tables that a row leaves without a message
abbrev pub silent : Tables → Outcome Tables
silent t = record { part = t; sent = [] }

-- what a row leaves of all banks' tables is what it leaves of its bank's, with the same messages
pub record IsRowOfTables (sizes : Sizes) (ts : List Tables) (b : ℕ) (all own : Outcome Tables) : Type 0 where
  pub part : all.part ≡ joined_tables (slice_set ts b own.part)
  pub sent : all.sent ≡ own.sent
  pub banks : AreBankTables sizes (slice_set ts b own.part)
