-- The rows of renaming on all banks' tables are the rows in their own banks.
use Rattle.std.proofs.Common.{◌≡◌, ℕ, ◌<◌, Bool, true, false, if◌then◌else◌, List, length, set, Option, Some, None}
use Rattle.std.proofs.Common.{refl, sym, ap, ◌∙◌, subst, inl, inr, map, get_or}
use Rattle.std.specs.FinMap.{FinMap, empty, get, insert, remove}
use Rattle.std.specs.declared.cmp.Ordering.{Ordering}
use Rattle.std.proofs.lemmas.List.{length-map, map-set}
use Rattle.tss_base.specs.declared.operand.OpName.{OpName}
use Rattle.tss_base.specs.declared.operand.Mode.{Mode}
use Rattle.tss_base.specs.declared.operand.Mode.TheVariants.{Input, Output, Inout}
use Rattle.tss_base.specs.declared.operand.Operand.{Operand}
use Rattle.tss_base.specs.declared.machine.Sizes.{Sizes}
use Rattle.tss_base.specs.Names.{Named, Numbered}
use Rattle.tss_maps.proofs.Keys.{nat_order, name_order}
use Rattle.tss_maps.proofs.Changes.{from_inserted, from_removed}
use Rattle.tss_protocol.specs.Names.{bank_of}
use Rattle.tss_protocol.specs.Mail.{GoneContents}
use Rattle.tss_protocol.specs.State.{Entry, Outcome}
use Rattle.tss_protocol.specs.Renaming.{buffers_after_decode, Tables, takes_place, takes_buffer, live_entry}
use Rattle.tss_protocol.specs.Renaming.{entry_after_decode, places_after_decode, decoded_by, after_decode, may_retire}
use Rattle.tss_protocol.specs.Renaming.{idle_by, after_idle, buffers_after_gone, after_gone}
use Rattle.tss_banks.specs.Joined.{bank, joined, IsInNoOther}
use Rattle.tss_banks.specs.Tables.{bank_of_base, no_tables, tables_at, entries_of, places_of, buffers_of, joined_tables}
use Rattle.tss_banks.specs.Tables.{EntriesInBanks, NamesInBanks, AreBankTables, on_entries, silent, IsRowOfTables}
use Rattle.tss_banks.proofs.JoinedLemmas.{get_or-part, joined_insert, joined_remove, joined_unchanged, same_banks}
use Rattle.tss_banks.proofs.JoinedLemmas.{each_set, apart_inserted, apart_removed}
use Rattle.tss_banks.proofs.BankCounts.{alone_base, bank-entries, entry_of_own}

-- ---- entries of one bank are changed

module _ (sizes : Sizes) (es : List (Numbered Entry)) (b : ℕ) where
  -- what is left of all banks' entries, and of the bank's
  record IsEntriesRow (all own : Numbered Entry) : Type 0 where
    part : all ≡ joined (set es b own)
    banks : EntriesInBanks sizes (set es b own)

module _ (sizes : Sizes) (es : List (Numbered Entry)) (s : EntriesInBanks sizes es) (b : ℕ)
    (within : b < length es) where
  -- an entry of its base and bank is put
  entries_inserted : (base : ℕ) (x : Entry) → x.object.base ≡ base → bank_of_base sizes base ≡ b
      → IsEntriesRow sizes es b (insert (joined es) base x) (insert (bank es b) base x)
  entries_inserted base x at of_bank = record {
    part =
        sym (joined_insert nat_order es b within base x
        (subst (λ b. IsInNoOther es b base) of_bank (alone_base sizes es s base)));
    banks = record {
      base = each_set es b within (λ i k e. e.object.base ≡ k) (insert (bank es b) base x) s.base
          (λ k e there. elim (from_inserted nat_order (bank es b) base x k e there) [
            | inl new ↦ ap (λ (e : Entry). e.object.base) new.1 ∙ at ∙ sym new.0
            | inr old ↦ s.base b k e old.1
          ]);
      own = each_set es b within (λ i k e. bank_of sizes e.object ≡ i) (insert (bank es b) base x) s.own
          (λ k e there. elim (from_inserted nat_order (bank es b) base x k e there) [
            | inl new ↦ ap (λ (e : Entry). bank_of sizes e.object) new.1 ∙ ap (bank_of_base sizes) at ∙ of_bank
            | inr old ↦ s.own b k e old.1
          ]);
    };
  }

  -- nothing is changed
  entries_unchanged : IsEntriesRow sizes es b (joined es) (bank es b)
  entries_unchanged = record {
    part = sym (joined_unchanged es b);
    banks = subst (EntriesInBanks sizes) (sym (same_banks es b)) s;
  }

  -- an entry of its base is removed
  entries_removed : (base : ℕ) → bank_of_base sizes base ≡ b
      → IsEntriesRow sizes es b (remove (joined es) base) (remove (bank es b) base)
  entries_removed base of_bank = record {
    part =
        sym (joined_remove nat_order es b within base
        (subst (λ b. IsInNoOther es b base) of_bank (alone_base sizes es s base)));
    banks = record {
      base = each_set es b within (λ i k e. e.object.base ≡ k) (remove (bank es b) base) s.base
          (λ k e there. s.base b k e (from_removed nat_order (bank es b) base k e there).1);
      own = each_set es b within (λ i k e. bank_of sizes e.object ≡ i) (remove (bank es b) base) s.own
          (λ k e there. s.own b k e (from_removed nat_order (bank es b) base k e there).1);
    };
  }

-- ---- names of one bank are changed

module _ (ms : List (Named ℕ)) (b : ℕ) where
  -- what is left of all banks' names, and of the bank's
  record IsNamesRow (all own : Named ℕ) : Type 0 where
    part : all ≡ joined (set ms b own)
    banks : NamesInBanks (set ms b own)

module _ (ms : List (Named ℕ)) (s : NamesInBanks ms) (b : ℕ) (within : b < length ms) where
  names_unchanged : IsNamesRow ms b (joined ms) (bank ms b)
  names_unchanged = record {
    part = sym (joined_unchanged ms b);
    banks = subst NamesInBanks (sym (same_banks ms b)) s;
  }

  names_inserted : (v : OpName) → IsInNoOther ms b v → IsNamesRow ms b (insert (joined ms) v b) (insert (bank ms b) v b)
  names_inserted v only = record {
    part = sym (joined_insert name_order ms b within v b only);
    banks = record {
      apart = apart_inserted name_order ms b within s.apart v b only;
      own = each_set ms b within (λ i k n. n ≡ i) (insert (bank ms b) v b) s.own
          (λ k n there. elim (from_inserted name_order (bank ms b) v b k n there) [
            | inl new ↦ new.1
            | inr old ↦ s.own b k n old.1
          ]);
    };
  }

  names_removed : (v : OpName) → IsInNoOther ms b v → IsNamesRow ms b (remove (joined ms) v) (remove (bank ms b) v)
  names_removed v only = record {
    part = sym (joined_remove name_order ms b within v only);
    banks = record {
      apart = apart_removed name_order ms b within s.apart v;
      own = each_set ms b within (λ i k n. n ≡ i) (remove (bank ms b) v) s.own
          (λ k n there. s.own b k n (from_removed name_order (bank ms b) v k n there).1);
    };
  }

  -- a name is taken, or not
  names_taken : (o : OpName) → IsInNoOther ms b o → (takes : Bool)
      → IsNamesRow ms b (places_after_decode (joined ms) o b takes) (places_after_decode (bank ms b) o b takes)
  names_taken o only true = names_inserted o only
  names_taken o only false = names_unchanged

  -- a name is given back, or none
  names_left : (n : Option OpName) → ((v : OpName) → n ≡ Some v → IsInNoOther ms b v)
      → IsNamesRow ms b (buffers_after_gone (joined ms) n) (buffers_after_gone (bank ms b) n)
  names_left None only = names_unchanged
  names_left (Some v) only = names_removed v (only v refl)

-- ---- a part of one bank's tables is changed

module _ {K X : Type 0} {R : K → K → Ordering} (f : Tables → FinMap R X) (nothing : f no_tables ≡ empty)
    (ts : List Tables) (b : ℕ) where
  bank_part : bank (map f ts) b ≡ f (tables_at ts b)
  bank_part = ap (λ m. get_or (map f ts) b m) (sym nothing) ∙ get_or-part f no_tables ts b

  -- the banks' parts where one bank has this, which has the change of the bank's part
  part_set : (change : FinMap R X → FinMap R X) (own : Tables) → f own ≡ change (f (tables_at ts b))
      → set (map f ts) b (change (bank (map f ts) b)) ≡ map f (set ts b own)
  part_set change own is =
      ap (λ m. set (map f ts) b (change m)) bank_part
      ∙ ap (set (map f ts) b) (sym is)
      ∙ sym (map-set f ts b own)

-- there are as many banks of each part
module _ (ts : List Tables) (b : ℕ) (within : b < length ts) where
  entries_within : b < length (entries_of ts)
  entries_within = subst (λ n. b < n) (sym (length-map ts (λ (t : Tables). t.entries))) within

  places_within : b < length (places_of ts)
  places_within = subst (λ n. b < n) (sym (length-map ts (λ (t : Tables). t.places))) within

  buffers_within : b < length (buffers_of ts)
  buffers_within = subst (λ n. b < n) (sym (length-map ts (λ (t : Tables). t.buffers))) within

module _ (sizes : Sizes) (ts : List Tables) (b : ℕ) (own : Tables) where
  -- what a change of the bank's entries leaves
  entries_left : (change : Numbered Entry → Numbered Entry) (all : Numbered Entry)
      → IsEntriesRow sizes (entries_of ts) b all (change (bank (entries_of ts) b))
      → own.entries ≡ change (tables_at ts b).entries
      → (all ≡ joined (entries_of (set ts b own))) × EntriesInBanks sizes (entries_of (set ts b own))
  entries_left change all row is =
      let same = part_set (λ (t : Tables). t.entries) refl ts b change own is in
      (row.part ∙ ap joined same, subst (EntriesInBanks sizes) same row.banks)

  -- of its places
  places_left : (change : Named ℕ → Named ℕ) (all : Named ℕ)
      → IsNamesRow (places_of ts) b all (change (bank (places_of ts) b)) → own.places ≡ change (tables_at ts b).places
      → (all ≡ joined (places_of (set ts b own))) × NamesInBanks (places_of (set ts b own))
  places_left change all row is =
      let same = part_set (λ (t : Tables). t.places) refl ts b change own is in
      (row.part ∙ ap joined same, subst NamesInBanks same row.banks)

  -- of its buffers
  buffers_left : (change : Named ℕ → Named ℕ) (all : Named ℕ)
      → IsNamesRow (buffers_of ts) b all (change (bank (buffers_of ts) b))
      → own.buffers ≡ change (tables_at ts b).buffers
      → (all ≡ joined (buffers_of (set ts b own))) × NamesInBanks (buffers_of (set ts b own))
  buffers_left change all row is =
      let same = part_set (λ (t : Tables). t.buffers) refl ts b change own is in
      (row.part ∙ ap joined same, subst NamesInBanks same row.banks)

-- the three parts together
tables_row : (sizes : Sizes) (ts : List Tables) (b : ℕ) (all own : Outcome Tables) → all.sent ≡ own.sent
    → (all.part.entries ≡ joined (entries_of (set ts b own.part)))
    × EntriesInBanks sizes (entries_of (set ts b own.part))
    → (all.part.places ≡ joined (places_of (set ts b own.part))) × NamesInBanks (places_of (set ts b own.part))
    → (all.part.buffers ≡ joined (buffers_of (set ts b own.part))) × NamesInBanks (buffers_of (set ts b own.part))
    → IsRowOfTables sizes ts b all own
tables_row sizes ts b all own sent entries places buffers = record {
  part = λ i. record { entries = entries.0 i; places = places.0 i; buffers = buffers.0 i };
  sent = sent;
  banks = record { entries = entries.1; places = places.1; buffers = buffers.1 };
}

-- ---- decode

module _ (sizes : Sizes) (ts : List Tables) (s : AreBankTables sizes ts) (o : OpName) (operand : Operand)
    (within : bank_of sizes operand.object < length ts)
    (new_place : IsInNoOther (places_of ts) (bank_of sizes operand.object) o)
    (new_buffer : IsInNoOther (buffers_of ts) (bank_of sizes operand.object) o) where
  abbrev own_bank : ℕ
  own_bank = bank_of sizes operand.object

  abbrev own_tables : Tables
  own_tables = tables_at ts own_bank

  live_base : (e : Entry) (mode : Mode) → (live_entry o e mode).object.base ≡ e.object.base
  live_base e Input = refl
  live_base e Output = refl
  live_base e Inout = refl

  decoded_base : (e : Option Entry) → get own_tables.entries operand.object.base ≡ e
      → (entry_after_decode o operand e).object.base ≡ operand.object.base
  decoded_base None at = refl
  decoded_base (Some e) at =
      live_base e operand.mode
      ∙ s.entries.base own_bank operand.object.base e
      (ap (λ m. get m operand.object.base) (bank-entries ts own_bank) ∙ at)

  -- by the entry that the bank has
  decoded_in_bank : (e : Option Entry)
      → get (tables_at ts (bank_of sizes operand.object)).entries operand.object.base ≡ e
      → IsRowOfTables sizes ts (bank_of sizes operand.object)
      (decoded_by (joined_tables ts) o operand (bank_of sizes operand.object) e)
      (decoded_by (tables_at ts (bank_of sizes operand.object)) o operand (bank_of sizes operand.object) e)
  decoded_in_bank e at =
      let all = decoded_by (joined_tables ts) o operand own_bank e in
      let own = decoded_by own_tables o operand own_bank e in
      let base = operand.object.base in
      let x = entry_after_decode o operand e in
      let place = takes_place e operand.mode in
      let buffer = takes_buffer e operand.mode in
      tables_row sizes ts own_bank all own refl
      (entries_left sizes ts own_bank own.part (λ m. insert m base x) all.part.entries
      (entries_inserted sizes (entries_of ts) s.entries own_bank (entries_within ts own_bank within) base x
      (decoded_base e at) refl)
      refl)
      (places_left sizes ts own_bank own.part (λ m. places_after_decode m o own_bank place) all.part.places
      (names_taken (places_of ts) s.places own_bank (places_within ts own_bank within) o new_place place)
      refl)
      (buffers_left sizes ts own_bank own.part (λ m. buffers_after_decode m o own_bank buffer) all.part.buffers
      (names_taken (buffers_of ts) s.buffers own_bank (buffers_within ts own_bank within) o new_buffer buffer)
      refl)

  -- a decode, which takes names of no other bank
  pub decode_in_bank : IsRowOfTables sizes ts (bank_of sizes operand.object)
      (after_decode sizes (joined_tables ts) o operand)
      (after_decode sizes (tables_at ts (bank_of sizes operand.object)) o operand)
  decode_in_bank =
      subst
      (λ e. IsRowOfTables sizes ts own_bank (decoded_by (joined_tables ts) o operand own_bank e)
      (after_decode sizes own_tables o operand))
      (sym (entry_of_own sizes ts s operand.object.base))
      (decoded_in_bank (get own_tables.entries operand.object.base) refl)

-- ---- idle

module _ (sizes : Sizes) (ts : List Tables) (s : AreBankTables sizes ts) (v : OpName) (base count : ℕ)
    (within : bank_of_base sizes base < length ts) where
  abbrev base_bank : ℕ
  base_bank = bank_of_base sizes base

  abbrev base_tables : Tables
  base_tables = tables_at ts base_bank

  -- only entries are changed
  entries_row : (change : Numbered Entry → Numbered Entry) (all own : Outcome (Numbered Entry)) → all.sent ≡ own.sent
      → own.part ≡ change base_tables.entries
      → IsEntriesRow sizes (entries_of ts) base_bank all.part (change (bank (entries_of ts) base_bank))
      → IsRowOfTables sizes ts base_bank (on_entries (joined_tables ts) all) (on_entries base_tables own)
  entries_row change all own sent is row =
      let t = (on_entries base_tables own).part in
      tables_row sizes ts base_bank (on_entries (joined_tables ts) all) (on_entries base_tables own) sent
      (entries_left sizes ts base_bank t change all.part row is)
      (places_left sizes ts base_bank t (λ m. m) (joined (places_of ts))
      (names_unchanged (places_of ts) s.places base_bank (places_within ts base_bank within)) refl)
      (buffers_left sizes ts base_bank t (λ m. m) (joined (buffers_of ts))
      (names_unchanged (buffers_of ts) s.buffers base_bank (buffers_within ts base_bank within)) refl)

  idle_row : (e : Option Entry) → get base_tables.entries base ≡ e → (may : Bool)
      → IsRowOfTables sizes ts base_bank
      (on_entries (joined_tables ts) (idle_by (joined (entries_of ts)) v base e may))
      (on_entries base_tables (idle_by base_tables.entries v base e may))
  idle_row None at true =
      entries_row (λ m. m) (idle_by (joined (entries_of ts)) v base None true)
      (idle_by base_tables.entries v base None true) refl refl
      (entries_unchanged sizes (entries_of ts) s.entries base_bank
      (entries_within ts base_bank within))
  idle_row (Some e) at true =
      entries_row (λ m. insert m base (record e { retiring = true }))
      (idle_by (joined (entries_of ts)) v base (Some e) true) (idle_by base_tables.entries v base (Some e) true) refl
      refl
      (entries_inserted sizes (entries_of ts) s.entries base_bank
      (entries_within ts base_bank within) base (record e { retiring = true })
      (s.entries.base base_bank base e (ap (λ m. get m base) (bank-entries ts base_bank) ∙ at)) refl)
  idle_row e at false =
      entries_row (λ m. m) (idle_by (joined (entries_of ts)) v base e false)
      (idle_by base_tables.entries v base e false) refl refl
      (entries_unchanged sizes (entries_of ts) s.entries base_bank
      (entries_within ts base_bank within))

  -- a version asks: its base tells the bank
  pub idle_in_bank : IsRowOfTables sizes ts (bank_of_base sizes base)
      (on_entries (joined_tables ts) (after_idle (joined_tables ts).entries v base count))
      (on_entries (tables_at ts (bank_of_base sizes base))
      (after_idle (tables_at ts (bank_of_base sizes base)).entries v base count))
  idle_in_bank =
      subst
      (λ e. IsRowOfTables sizes ts base_bank
      (on_entries (joined_tables ts) (idle_by (joined (entries_of ts)) v base e (may_retire v count e)))
      (on_entries base_tables (after_idle base_tables.entries v base count)))
      (sym (entry_of_own sizes ts s base))
      (idle_row (get base_tables.entries base) refl (may_retire v count (get base_tables.entries base)))

-- ---- gone

module _ (sizes : Sizes) (ts : List Tables) (s : AreBankTables sizes ts) (v : OpName) (g : GoneContents)
    (within : bank_of sizes g.object < length ts) (place : IsInNoOther (places_of ts) (bank_of sizes g.object) v)
    (buffer : (n : OpName) → g.buffer ≡ Some n → IsInNoOther (buffers_of ts) (bank_of sizes g.object) n) where
  abbrev gone_bank : ℕ
  gone_bank = bank_of sizes g.object

  gone_entries : (retired : Bool)
      → IsEntriesRow sizes (entries_of ts) gone_bank
      (if retired then remove (joined (entries_of ts)) g.object.base else joined (entries_of ts))
      (if retired then remove (bank (entries_of ts) gone_bank) g.object.base else bank (entries_of ts) gone_bank)
  gone_entries true =
      entries_removed sizes (entries_of ts) s.entries gone_bank
      (entries_within ts gone_bank within) g.object.base refl
  gone_entries false =
      entries_unchanged sizes (entries_of ts) s.entries gone_bank
      (entries_within ts gone_bank within)

  -- a version is gone. The version and its buffer are in no other bank
  pub gone_in_bank : IsRowOfTables sizes ts (bank_of sizes g.object) (silent (after_gone (joined_tables ts) v g))
      (silent (after_gone (tables_at ts (bank_of sizes g.object)) v g))
  gone_in_bank =
      let all = after_gone (joined_tables ts) v g in
      let own = after_gone (tables_at ts gone_bank) v g in
      tables_row sizes ts gone_bank (silent all) (silent own) refl
      (entries_left sizes ts gone_bank own (λ m. if g.retired then remove m g.object.base else m) all.entries
      (gone_entries g.retired) refl)
      (places_left sizes ts gone_bank own (λ m. remove m v) all.places
      (names_removed (places_of ts) s.places gone_bank (places_within ts gone_bank within) v place) refl)
      (buffers_left sizes ts gone_bank own (λ m. buffers_after_gone m g.buffer) all.buffers
      (names_left (buffers_of ts) s.buffers gone_bank (buffers_within ts gone_bank within) g.buffer buffer)
      refl)
