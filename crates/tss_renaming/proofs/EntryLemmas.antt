-- A table of the code's entries, as one of the definitions' entries.
use Rattle.std.proofs.Common.{◌≡◌, ℕ, false, true≢false, Option, Some, None, refl, sym, ap, option_map}
use Rattle.std.specs.Prelude.{slice_get, is_some}
use Rattle.std.specs.Ordering.{nat_cmp}
use Rattle.std.specs.FinMap.{get, insert, remove, empty, len}
use Rattle.tss_maps.specs.Ordered.{key_at}
use Rattle.tss_maps.proofs.Keys.{nat_order}
use Rattle.tss_maps.proofs.MappedLemmas.{get-mapped, len-mapped, keys-mapped, mapped-empty, mapped-insert, mapped-remove}
use Rattle.tss_tables.specs.Table.{TableState}
use Rattle.tss_renaming.specs.declared.entry_view.EntryView.{EntryView}
use Rattle.tss_renaming.specs.Entries.{entry_of, entries_of}

-- where the test for something fails, nothing is there
pub absent_of : {X : Type 0} (m : Option X) → is_some m ≡ false → m ≡ None
absent_of None e = refl
absent_of (Some x) e = absurd (true≢false e)

-- an empty table
pub entries_of-empty : (size : ℕ)
    → entries_of (record { size = size; entries = empty }) ≡ record { size = size; entries = empty }
entries_of-empty size = ap (λ m. record { size = size; entries = m }) (mapped-empty nat_order entry_of)

module _ (t : TableState nat_cmp EntryView) where
  -- what stands under a base
  pub get-entries_of : (base : ℕ) → option_map entry_of (get t.entries base) ≡ get (entries_of t).entries base
  get-entries_of base = sym (get-mapped entry_of t.entries base)

  -- how many there are
  pub len-entries_of : len t.entries ≡ len (entries_of t).entries
  len-entries_of = sym (len-mapped entry_of t.entries)

  -- the bases in order
  pub key_at-entries_of : (i : ℕ) → key_at t.entries i ≡ key_at (entries_of t).entries i
  unfolding key_at
  key_at-entries_of i = ap (λ ks. slice_get ks i) (sym (keys-mapped entry_of t.entries))

  -- an entry is written
  pub entries_of-insert : (base : ℕ) (e : EntryView)
      → entries_of (record t { entries = insert t.entries base e })
      ≡ record (entries_of t) { entries = insert (entries_of t).entries base (entry_of e) }
  entries_of-insert base e =
      ap (λ m. record { size = t.size; entries = m }) (mapped-insert nat_order entry_of t.entries base e)

  -- an entry is taken out
  pub entries_of-remove : (base : ℕ)
      → entries_of (record t { entries = remove t.entries base })
      ≡ record (entries_of t) { entries = remove (entries_of t).entries base }
  entries_of-remove base =
      ap (λ m. record { size = t.size; entries = m }) (mapped-remove nat_order entry_of t.entries base)
