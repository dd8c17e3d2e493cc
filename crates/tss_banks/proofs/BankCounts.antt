-- What a bank has in use, and what a decode waits for, by the bank's own tables.
use Rattle.std.proofs.Common.{◌≡◌, ◌≢◌, ◌<◌, mod-lt, ℕ, ◌==◌, ◌/◌, true, false, List, Some, sym, ap, ◌∙◌, arith, inl}
use Rattle.std.proofs.Common.{inr}
use Rattle.std.specs.FinMap.{empty, get, len}
use Rattle.std.proofs.lemmas.Bool.Decides.{nat_tests}
use Rattle.tss_base.specs.declared.bounds.TheConstants.{BANK_BYTES}
use Rattle.tss_base.specs.declared.operand.OpName.{OpName}
use Rattle.tss_base.specs.declared.operand.Operand.{Operand}
use Rattle.tss_base.specs.declared.machine.Sizes.{Sizes}
use Rattle.tss_base.specs.Names.{Named, Numbered}
use Rattle.tss_maps.proofs.Keys.{nat_order, name_order}
use Rattle.tss_maps.proofs.Changes.{decide_get}
use Rattle.tss_protocol.specs.Names.{bank_of}
use Rattle.tss_protocol.specs.State.{Entry}
use Rattle.tss_protocol.specs.Renaming.{Tables, entries_in, places_in, buffers_in, fill_of, line_of, bank_wait}
use Rattle.tss_protocol.specs.Renaming.{operand_wait}
use Rattle.tss_protocol.specs.Counts.{greatest}
use Rattle.tss_banks.specs.Joined.{bank, joined, AreApart, IsInNoOther}
use Rattle.tss_banks.specs.Tables.{bank_of_base, no_tables, tables_at, entries_of, places_of, buffers_of, joined_tables}
use Rattle.tss_banks.specs.Tables.{EntriesInBanks, NamesInBanks, AreBankTables, own_fill}
use Rattle.tss_banks.proofs.JoinedLemmas.{get_or-part, in_no_empty, alone_there, joined_somewhere, get-joined}
use Rattle.tss_banks.proofs.JoinedLemmas.{apart_empties}
use Rattle.tss_banks.proofs.JoinedSums.{count_in_bank}

-- ---- numbers

-- equal numbers pass the test
pub same_number : (a b : ℕ) → a ≡ b → (a == b) ≡ true
same_number a b e = grind (arith, nat_tests)

-- other numbers don't
pub other_number : (a b : ℕ) → a ≢ b → (a == b) ≡ false
other_number a b e = grind (arith, nat_tests)

module _ (sizes : Sizes) (es : List (Numbered Entry)) (s : EntriesInBanks sizes es) where
  -- the bank of an entry is that of its key
  bank_of_key : (b k : ℕ) (e : Entry) → get (bank es b) k ≡ Some e → b ≡ bank_of_base sizes k
  bank_of_key b k e there = sym (s.own b k e there) ∙ ap (bank_of_base sizes) (s.base b k e there)

  -- banks of entries are apart
  pub apart_entries : AreApart es
  apart_entries i j k x y e f = bank_of_key i k x e ∙ sym (bank_of_key j k y f)

  -- a base is in no bank but its own
  pub alone_base : (k : ℕ) → IsInNoOther es (bank_of_base sizes k) k
  alone_base k i apart = elim (decide_get (bank es i) k) [
    | inl none ↦ none
    | inr there ↦ absurd (apart (bank_of_key i k there.0 there.1))
  ]

  -- at a base the joined entries have what its bank has
  entry_in_bank : (k : ℕ) → get (joined es) k ≡ get (bank es (bank_of_base sizes k)) k
  entry_in_bank k = get-joined nat_order es (bank_of_base sizes k) k (alone_base k)

  -- the entries of a bank are those of its map
  entries_in_bank : (b : ℕ) → entries_in sizes b (joined es) ≡ len (bank es b)
  entries_in_bank b =
      count_in_bank nat_order (λ base e. bank_of sizes e.object == b) es b apart_entries
      (λ k e there. same_number (bank_of sizes e.object) b (s.own b k e there))
      (λ i other k e there. other_number (bank_of sizes e.object) b (λ is. other (sym (s.own i k e there) ∙ is)))

-- the bank of a base is one of them
pub bank_of_base_below : (sizes : Sizes) (k : ℕ) → 0 < sizes.banks → bank_of_base sizes k < sizes.banks
bank_of_base_below sizes k some = mod-lt (k / BANK_BYTES) some

-- banks without an entry
entries_at_first : (sizes : Sizes) (es : List (Numbered Entry)) → ((i : ℕ) → bank es i ≡ empty)
    → EntriesInBanks sizes es
entries_at_first sizes es none = record {
  base = λ b k e there. absurd (in_no_empty es none b k e there);
  own = λ b k e there. absurd (in_no_empty es none b k e there);
}

-- banks without a name
names_at_first : (ms : List (Named ℕ)) → ((i : ℕ) → bank ms i ≡ empty) → NamesInBanks ms
names_at_first ms none = record {
  apart = apart_empties ms none;
  own = λ b k n there. absurd (in_no_empty ms none b k n there);
}

module _ (ms : List (Named ℕ)) (s : NamesInBanks ms) where
  -- a name that is held is in the bank of its number
  name_in_bank : (v : OpName) (b : ℕ) → get (joined ms) v ≡ Some b → get (bank ms b) v ≡ Some b
  name_in_bank v b there =
      let t = joined_somewhere name_order ms v b there in
      ap (λ i. get (bank ms i) v) (s.own t.0 v b t.1) ∙ t.1

  -- and in no other
  pub name_alone : (v : OpName) (b : ℕ) → get (joined ms) v ≡ Some b → IsInNoOther ms b v
  name_alone v b there = alone_there ms s.apart b v b (name_in_bank v b there)

  -- the places held of a bank are those of its map
  places_in_bank : (b : ℕ) → places_in b (joined ms) ≡ len (bank ms b)
  places_in_bank b =
      count_in_bank name_order (λ v n. n == b) ms b s.apart
      (λ k n there. same_number n b (s.own b k n there))
      (λ i other k n there. other_number n b (λ is. other (sym (s.own i k n there) ∙ is)))

  -- and so are the buffers
  buffers_in_bank : (b : ℕ) → buffers_in b (joined ms) ≡ len (bank ms b)
  buffers_in_bank b = places_in_bank b

-- the most entries of one bank of so many, and the most places or buffers
pub most_entries : (sizes : Sizes) (es : List (Numbered Entry)) → EntriesInBanks sizes es → (n : ℕ)
    → greatest (λ b. entries_in sizes b (joined es)) n ≡ greatest (λ b. len (bank es b)) n
most_entries sizes es s n = λ i. greatest (λ b. entries_in_bank sizes es s b i) n

pub most_places : (ms : List (Named ℕ)) → NamesInBanks ms → (n : ℕ)
    → greatest (λ b. places_in b (joined ms)) n ≡ greatest (λ b. len (bank ms b)) n
most_places ms s n = λ i. greatest (λ b. places_in_bank ms s b i) n

pub most_buffers : (ms : List (Named ℕ)) → NamesInBanks ms → (n : ℕ)
    → greatest (λ b. buffers_in b (joined ms)) n ≡ greatest (λ b. len (bank ms b)) n
most_buffers ms s n = λ i. greatest (λ b. buffers_in_bank ms s b i) n

-- ---- lists of tables

module _ (ts : List Tables) (b : ℕ) where
  -- the entries of a bank
  pub bank-entries : bank (entries_of ts) b ≡ (tables_at ts b).entries
  bank-entries = get_or-part (λ (t : Tables). t.entries) no_tables ts b

  -- its places
  pub bank-places : bank (places_of ts) b ≡ (tables_at ts b).places
  bank-places = get_or-part (λ (t : Tables). t.places) no_tables ts b

  -- its buffers
  pub bank-buffers : bank (buffers_of ts) b ≡ (tables_at ts b).buffers
  bank-buffers = get_or-part (λ (t : Tables). t.buffers) no_tables ts b

module _ (sizes : Sizes) (ts : List Tables) (s : AreBankTables sizes ts) where
  -- what a bank has in use of all tables is what its own tables have
  fill_in_bank : (b : ℕ) → fill_of sizes (joined_tables ts) b ≡ own_fill (tables_at ts b)
  fill_in_bank b = λ i. record {
    entries = (entries_in_bank sizes (entries_of ts) s.entries b ∙ ap len (bank-entries ts b)) i;
    places = (places_in_bank (places_of ts) s.places b ∙ ap len (bank-places ts b)) i;
    buffers = (buffers_in_bank (buffers_of ts) s.buffers b ∙ ap len (bank-buffers ts b)) i;
  }

  -- at a base all tables have the entry that its bank has
  pub entry_of_own : (base : ℕ)
      → get (joined (entries_of ts)) base ≡ get (tables_at ts (bank_of_base sizes base)).entries base
  entry_of_own base =
      entry_in_bank sizes (entries_of ts) s.entries base
      ∙ ap (λ m. get m base) (bank-entries ts (bank_of_base sizes base))

  module _ (decodes : Named Operand) (o : OpName) (operand : Operand) where
    abbrev own : Tables
    own = tables_at ts (bank_of sizes operand.object)

    -- what an operand waits for is what it waits for in its bank
    pub wait_in_bank : operand_wait sizes (joined_tables ts) decodes o operand
        ≡ bank_wait sizes (own_fill (tables_at ts (bank_of sizes operand.object)))
        (line_of sizes (bank_of sizes operand.object) decodes) o
        (get (tables_at ts (bank_of sizes operand.object)).entries operand.object.base) operand.mode
    wait_in_bank = λ i. bank_wait sizes (fill_in_bank (bank_of sizes operand.object) i)
        (line_of sizes (bank_of sizes operand.object) decodes) o (entry_of_own operand.object.base i) operand.mode

-- banks without anything
pub tables_at_first : (sizes : Sizes) (ts : List Tables) → ((b : ℕ) → tables_at ts b ≡ no_tables)
    → AreBankTables sizes ts
tables_at_first sizes ts none = record {
  entries = entries_at_first sizes (entries_of ts) (λ b. bank-entries ts b ∙ ap (λ (t : Tables). t.entries) (none b));
  places = names_at_first (places_of ts) (λ b. bank-places ts b ∙ ap (λ (t : Tables). t.places) (none b));
  buffers = names_at_first (buffers_of ts) (λ b. bank-buffers ts b ∙ ap (λ (t : Tables). t.buffers) (none b));
}
