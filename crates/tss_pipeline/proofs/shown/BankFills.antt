-- What banks have in use, by the joined tables, and what stands in one of them.
use Rattle.std.proofs.Common.{◌≡◌, ℕ, suc, ◌+◌, ◌<◌, List, length, Option, Some, refl, sym, ap, ◌∙◌, get_or, max, arith}
use Rattle.std.specs.Prelude.{slice_get}
use Rattle.std.specs.Ordering.{nat_cmp, ord_max}
use Rattle.std.proofs.lemmas.Bool.Decides.{nat_tests}
use Rattle.std.specs.FinMap.{get, len}
use Rattle.std.proofs.lemmas.Option.{slice_get_read, get_or_from_slice_get}
use Rattle.tss_base.specs.declared.machine.Key.TheVariants as key
use Rattle.tss_base.specs.declared.machine.Machine.{Machine}
use Rattle.tss_base.specs.declared.machine.Sizes.{Sizes}
use Rattle.tss_base.specs.declared.range.Range.{Range}
use Rattle.tss_maps.proofs.MappedLemmas.{len-mapped}
use Rattle.tss_protocol.specs.Names.{bank_of}
use Rattle.tss_protocol.specs.State.{Entry}
use Rattle.tss_protocol.specs.Counts.{greatest}
use Rattle.tss_protocol.specs.Renaming.{Fill, entries_in, places_in, buffers_in}
use Rattle.tss_protocol.specs.MainEvent.{is_entry_of}
use Rattle.tss_banks.specs.Tables.{AreBankTables, no_tables, own_fill, entries_of, places_of, buffers_of, joined_tables}
use Rattle.tss_banks.proofs.BankCounts.{most_entries, most_places, most_buffers, bank-entries, bank-places, bank-buffers}
use Rattle.tss_renaming.specs.Bank.{RenamingState, tables_of, fill_in}
use Rattle.tss_pipeline.specs.declared.units.Units.{Units}
use Rattle.tss_pipeline.specs.declared.bank.Bank.{Bank}
use Rattle.tss_pipeline.specs.State.{bank_tables}
use Rattle.tss_pipeline.specs.Emptiness.{fill_at}
use Rattle.tss_pipeline.specs.Fit.{AreBanks, IsFit}
use Rattle.tss_pipeline.proofs.places.BankChanges.{slice_get-map}
use Rattle.tss_pipeline.proofs.places.Lookups.{entry_here}

-- there is a bank
pub some_bank : (u : Units) → IsFit u → 0 < u.machine.sizes.banks
some_bank u fit = (fit.reached.reached.admissible.sizes key.Banks u.machine.sizes.banks refl).0

-- what a bank has in use, where numbers stand for its places
fill_told : (r : RenamingState) → own_fill (tables_of r) ≡ fill_in r
fill_told r = λ i. record {
  entries = len r.entries;
  places = len-mapped (λ p. r.bank) r.places i;
  buffers = len-mapped (λ p. r.bank) r.buffers i;
}

module _ (bs : List Bank) (n : ℕ) (b : Bank) (within : n < length bs) (read : b ≡ get_or bs n b) where
  -- a bank that was read
  pub bank_read : slice_get bs n ≡ Some b
  bank_read = slice_get_read bs (length bs) n b refl within read

-- what a bank that was read has in use
fill_there : (bs : List Bank) (n : ℕ) (b : Bank) → slice_get bs n ≡ Some b → fill_at bs n ≡ fill_in b.renaming
fill_there bs n b there =
    ap own_fill (get_or_from_slice_get (bank_tables bs) n (tables_of b.renaming) no_tables
    (slice_get-map (λ (b : Bank). tables_of b.renaming) bs n b there))
    ∙ fill_told b.renaming

one_more : (n : ℕ) → suc n ≡ n + 1
one_more n = omega arith

-- the greater of two numbers
greater : (a b : ℕ) → ord_max nat_cmp a b ≡ max a b
greater a b = grind (arith, nat_tests)

module _ (bs : List Bank) (n : ℕ) (b : Bank) (within : n < length bs) (read : b ≡ get_or bs n b)
    (most own new : ℕ) where
  -- the most with one bank more
  pub more_places : most ≡ greatest (λ b. (fill_at bs b).places) n → own ≡ len b.renaming.places
      → new ≡ ord_max nat_cmp most own → new ≡ greatest (λ b. (fill_at bs b).places) (n + 1)
  more_places before this is =
      is ∙ greater most own
      ∙ (λ i. max (before i)
      ((this ∙ sym (ap (λ (f : Fill). f.places) (fill_there bs n b (bank_read bs n b within read)))) i))
      ∙ ap (greatest (λ b. (fill_at bs b).places)) (one_more n)

  pub more_buffers : most ≡ greatest (λ b. (fill_at bs b).buffers) n → own ≡ len b.renaming.buffers
      → new ≡ ord_max nat_cmp most own → new ≡ greatest (λ b. (fill_at bs b).buffers) (n + 1)
  more_buffers before this is =
      is ∙ greater most own
      ∙ (λ i. max (before i)
      ((this ∙ sym (ap (λ (f : Fill). f.buffers) (fill_there bs n b (bank_read bs n b within read)))) i))
      ∙ ap (greatest (λ b. (fill_at bs b).buffers)) (one_more n)

module _ (m : Machine) (bs : List Bank) (sized : AreBanks m bs) (tables : AreBankTables m.sizes (bank_tables bs)) where
  pub all_entries : greatest (λ b. (fill_at bs b).entries) (length bs)
      ≡ greatest (λ b. entries_in m.sizes b (joined_tables (bank_tables bs)).entries) m.sizes.banks
  all_entries =
      ap (greatest (λ b. (fill_at bs b).entries)) sized.count
      ∙ sym (most_entries m.sizes (entries_of (bank_tables bs)) tables.entries m.sizes.banks
      ∙ (λ i. greatest (λ b. len (bank-entries (bank_tables bs) b i)) m.sizes.banks))

  pub all_places : greatest (λ b. (fill_at bs b).places) (length bs)
      ≡ greatest (λ b. places_in b (joined_tables (bank_tables bs)).places) m.sizes.banks
  all_places =
      ap (greatest (λ b. (fill_at bs b).places)) sized.count
      ∙ sym (most_places (places_of (bank_tables bs)) tables.places m.sizes.banks
      ∙ (λ i. greatest (λ b. len (bank-places (bank_tables bs) b i)) m.sizes.banks))

  pub all_buffers : greatest (λ b. (fill_at bs b).buffers) (length bs)
      ≡ greatest (λ b. buffers_in b (joined_tables (bank_tables bs)).buffers) m.sizes.banks
  all_buffers =
      ap (greatest (λ b. (fill_at bs b).buffers)) sized.count
      ∙ sym (most_buffers (buffers_of (bank_tables bs)) tables.buffers m.sizes.banks
      ∙ (λ i. greatest (λ b. len (bank-buffers (bank_tables bs) b i)) m.sizes.banks))

module _ (sizes : Sizes) (bs : List Bank) (tables : AreBankTables sizes (bank_tables bs)) (n : ℕ) (b : Bank)
    (within : n < length bs) (read : b ≡ get_or bs n b) where
  -- whether an object of the bank has an entry
  pub entry_read : (object : Range) → n ≡ bank_of sizes object → (o : Option Entry)
      → o ≡ get b.renaming.entries object.base
      → is_entry_of object o ≡ is_entry_of object (get (joined_tables (bank_tables bs)).entries object.base)
  entry_read object own o is =
      ap (is_entry_of object)
      (is ∙ sym (entry_here sizes bs tables n b (bank_read bs n b within read) object.base object refl (sym own)))
