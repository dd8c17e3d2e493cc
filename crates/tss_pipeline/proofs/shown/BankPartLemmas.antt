-- The parts of a state that stand in one bank are those that the bank has.
use Rattle.std.proofs.Common.{◌≡◌, ◌≢◌, ℕ, zero, suc, List, [], ◌∷◌, map, get_or, Option, Some, None, refl, sym, ap, ◌∙◌, inl, inr}
use Rattle.std.specs.Prelude.{◌==◌, slice_get, option_and_then}
use Rattle.std.specs.FinMap.{FinMap, get, empty, get-empty}
use Rattle.std.specs.declared.cmp.Ordering.{Ordering}
use Rattle.std.proofs.lemmas.Option.{none-some}
use Rattle.tss_base.specs.declared.machine.Machine.{Machine}
use Rattle.tss_maps.specs.Ordered.{key_at, least_above}
use Rattle.tss_maps.proofs.Keys.{IsKeyOrder, nat_order, name_order, decide_key}
use Rattle.tss_maps.proofs.Changes.{decide_get, same_by_get}
use Rattle.tss_maps.proofs.OrderedLemmas.{key_there, least_above_some}
use Rattle.tss_banks.specs.Joined.{bank, joined, AreApart}
use Rattle.tss_banks.specs.Collected.{collected}
use Rattle.tss_banks.specs.Tables.{AreBankTables, no_tables, tables_at, entries_of, places_of, buffers_of, joined_tables}
use Rattle.tss_banks.specs.Versions.{VersionsInBanks}
use Rattle.tss_banks.proofs.JoinedLemmas.{absent_in_banks, joined_somewhere}
use Rattle.tss_banks.proofs.CollectedLemmas.{get-collected}
use Rattle.tss_banks.proofs.BankCounts.{same_number, other_number, apart_entries, bank-entries, bank-places, bank-buffers}
use Rattle.tss_protocol.specs.Names.{bank_of}
use Rattle.tss_protocol.specs.State.{Entry, Version}
use Rattle.tss_protocol.specs.Renaming.{Tables}
use Rattle.tss_renaming.specs.Bank.{tables_of}
use Rattle.tss_versions.specs.Known.{versions_of}
use Rattle.tss_pipeline.specs.declared.bank.Bank.{Bank}
use Rattle.tss_pipeline.specs.State.{bank_tables, bank_versions}
use Rattle.tss_pipeline.specs.BankParts.{value_if, entries_at, names_at, versions_at}
use Rattle.tss_pipeline.proofs.places.Lookups.{tables_here, versions_here}

-- ---- one of several maps that are joined

module _ {K X : Type 0} {R : K → K → Ordering} (order : IsKeyOrder R) (ms : List (FinMap R X)) (apart : AreApart ms)
    (number : X → ℕ) (own : (i : ℕ) (k : K) (x : X) → get (bank ms i) k ≡ Some x → number x ≡ i) (n : ℕ) where
  abbrev chosen : K → X → Option X
  chosen k x = value_if x (number x == n)

  none_beside : (i : ℕ) (k : K) (x : X) → get (bank ms i) k ≡ Some x → i ≢ n → get (bank ms n) k ≡ None
  none_beside i k x e other = elim (decide_get (bank ms n) k) [
    | inl none ↦ none
    | inr there ↦ absurd (other (apart i n k x there.0 e there.1))
  ]

  chosen_at : (k : K) (o : Option X) → get (joined ms) k ≡ o → option_and_then (chosen k) o ≡ get (bank ms n) k
  chosen_at k None e = sym (absent_in_banks order ms k e n)
  chosen_at k (Some x) e =
      let t = joined_somewhere order ms k x e in
      elim (decide_key nat_order t.0 n) [
        | inl here ↦
            ap (value_if x) (same_number (number x) n (own t.0 k x t.1 ∙ here))
            ∙ sym t.1
            ∙ ap (λ i. get (bank ms i) k) here
        | inr other ↦
            ap (value_if x) (other_number (number x) n (λ is. other (sym (own t.0 k x t.1) ∙ is)))
            ∙ sym (none_beside t.0 k x t.1 other)
      ]

  -- the values of a bank's number are those of its map
  pub own_part : collected chosen (joined ms) ≡ bank ms n
  own_part =
      same_by_get order _ _ (λ k. get-collected order chosen (joined ms) k ∙ chosen_at k (get (joined ms) k) refl)

-- ---- the banks

-- past the end stands what is given
past_end : {X Y : Type 0} (f : X → Y) (d : Y) (xs : List X) (n : ℕ) → slice_get xs n ≡ None → get_or (map f xs) n d ≡ d
past_end f d [] n e = refl
past_end f d (x ∷ xs) zero e = absurd (none-some x (sym e))
past_end f d (x ∷ xs) (suc n) e = past_end f d xs n e

module _ (m : Machine) (bs : List Bank) (tables : AreBankTables m.sizes (bank_tables bs))
    (versions : VersionsInBanks m.sizes (bank_versions bs)) (n : ℕ) where
  abbrev ts : List Tables
  ts = bank_tables bs

  entries_part : entries_at m.sizes n (joined_tables ts).entries ≡ (tables_at ts n).entries
  entries_part =
      own_part nat_order (entries_of ts) (apart_entries m.sizes (entries_of ts) tables.entries)
      (λ (e : Entry). bank_of m.sizes e.object) tables.entries.own n
      ∙ bank-entries ts n

  places_part : names_at n (joined_tables ts).places ≡ (tables_at ts n).places
  places_part =
      own_part name_order (places_of ts) tables.places.apart (λ b. b) (λ i k x e. tables.places.own i k x e) n
      ∙ bank-places ts n

  buffers_part : names_at n (joined_tables ts).buffers ≡ (tables_at ts n).buffers
  buffers_part =
      own_part name_order (buffers_of ts) tables.buffers.apart (λ b. b) (λ i k x e. tables.buffers.own i k x e) n
      ∙ bank-buffers ts n

  versions_part : versions_at m.sizes n (joined (bank_versions bs)) ≡ bank (bank_versions bs) n
  versions_part =
      own_part name_order (bank_versions bs) versions.apart (λ (x : Version). bank_of m.sizes x.object) versions.own n

  -- of a bank that is there
  module _ (b : Bank) (there : slice_get bs n ≡ Some b) where
    pub entries_there : entries_at m.sizes n (joined_tables ts).entries ≡ b.renaming.entries
    entries_there = entries_part ∙ ap (λ (t : Tables). t.entries) (tables_here m.sizes bs tables n b there)

    pub places_there : names_at n (joined_tables ts).places ≡ (tables_of b.renaming).places
    places_there = places_part ∙ ap (λ (t : Tables). t.places) (tables_here m.sizes bs tables n b there)

    pub buffers_there : names_at n (joined_tables ts).buffers ≡ (tables_of b.renaming).buffers
    buffers_there = buffers_part ∙ ap (λ (t : Tables). t.buffers) (tables_here m.sizes bs tables n b there)

    pub versions_there : versions_at m.sizes n (joined (bank_versions bs)) ≡ versions_of b.versions.versions
    versions_there = versions_part ∙ versions_here m.sizes bs versions n b there

  -- of one that isn't
  module _ (none : slice_get bs n ≡ None) where
    nowhere : tables_at ts n ≡ no_tables
    nowhere = past_end (λ (b : Bank). tables_of b.renaming) no_tables bs n none

    pub no_entries : entries_at m.sizes n (joined_tables ts).entries ≡ empty
    no_entries = entries_part ∙ ap (λ (t : Tables). t.entries) nowhere

    pub no_places : names_at n (joined_tables ts).places ≡ empty
    no_places = places_part ∙ ap (λ (t : Tables). t.places) nowhere

    pub no_buffers : names_at n (joined_tables ts).buffers ≡ empty
    no_buffers = buffers_part ∙ ap (λ (t : Tables). t.buffers) nowhere

    pub no_versions : versions_at m.sizes n (joined (bank_versions bs)) ≡ empty
    no_versions = versions_part ∙ past_end (λ (b : Bank). versions_of b.versions.versions) empty bs n none

-- ---- an empty map

module _ {K : Type 0} {R : K → K → Ordering} (order : IsKeyOrder R) (X : Type 0) (i : ℕ) where
  key_by : (o : Option K) → key_at (empty {X = X} {R = R}) i ≡ o → o ≡ None
  key_by None e = refl
  key_by (Some k) e =
      let t = key_there order (empty {X = X} {R = R}) i k e in absurd (none-some t.0 (sym (get-empty R k) ∙ t.1))

  pub no_key : key_at (empty {X = X} {R = R}) i ≡ None
  no_key = key_by (key_at (empty {X = X} {R = R}) i) refl

module _ {K : Type 0} {R : K → K → Ordering} (order : IsKeyOrder R) (X : Type 0) (k : K) where
  least_by : (o : Option K) → least_above R (empty {X = X} {R = R}) k ≡ o → o ≡ None
  least_by None e = refl
  least_by (Some q) e =
      let t = (least_above_some order (empty {X = X} {R = R}) k q e).there in
      absurd (none-some t.0 (sym (get-empty R q) ∙ t.1))

  pub no_least : least_above R (empty {X = X} {R = R}) k ≡ None
  no_least = least_by (least_above R (empty {X = X} {R = R}) k) refl
