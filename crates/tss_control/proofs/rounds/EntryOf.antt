-- Whether an object has an entry of its own, and that it keeps it where another entry is put in or taken out.
use Rattle.std.proofs.Common.{◌≡◌, ◌≢◌, ◌⊎◌, ℕ, Some, None, refl, sym, ap, ◌∙◌, subst, inl, inr}
use Rattle.std.specs.FinMap.{get, insert, remove}
use Rattle.std.proofs.lemmas.Option.{none-some, same_Some}
use Rattle.tss_base.specs.declared.range.Range.{Range}
use Rattle.tss_maps.proofs.Keys.{nat_order, decide_key}
use Rattle.tss_maps.proofs.Changes.{decide_get, at_inserted, beside_inserted, beside_removed}
use Rattle.tss_protocol.specs.State.{State, Entry}
use Rattle.tss_locality.proofs.SeparateObjects.{decide_range}
use Rattle.tss_control.specs.Entries.{HasEntryOf}

-- it has one, or not
pub decide_entry_of : (S : State) (x : Range) → HasEntryOf S x ⊎ (HasEntryOf S x → ⊥)
decide_entry_of S x = elim (decide_get S.entries x.base) [
  | inl none ↦ inr (λ f. none-some f.entry (sym none ∙ f.there))
  | inr e ↦ elim (decide_range e.0.object x) [
    | inl same ↦ inl (record { entry = e.0; there = e.1; object = same })
    | inr other ↦ inr (λ f.
        other (ap (λ (e : Entry). e.object) (same_Some e.0 f.entry (sym e.1 ∙ f.there)) ∙ f.object))
  ]
]

-- an object without an entry at its base has none
pub no_entry_at : (S : State) (x : Range) → get S.entries x.base ≡ None → HasEntryOf S x → ⊥
no_entry_at S x none f = none-some f.entry (sym none ∙ f.there)

-- where the entries are left
pub entry_of_left : (S T : State) → T.entries ≡ S.entries → (x : Range) → HasEntryOf S x → HasEntryOf T x
entry_of_left S T same x f =
    record { entry = f.entry; there = ap (λ es. get es x.base) same ∙ f.there; object = f.object }

-- an entry is put in, or written
module _ (S T : State) (b : ℕ) (n : Entry) (entries : T.entries ≡ insert S.entries b n) (base : n.object.base ≡ b) where
  -- its object has it
  pub entry_of_new : HasEntryOf T n.object
  entry_of_new = record {
    entry = n;
    there = ap (λ es. get es n.object.base) entries ∙ ap (get (insert S.entries b n)) base
        ∙ at_inserted nat_order S.entries b n;
    object = refl;
  }

  -- and other objects keep theirs, where what stood there was of the same object
  pub entry_of_still : ((e : Entry) → get S.entries b ≡ Some e → e.object ≡ n.object) → (x : Range) → HasEntryOf S x
      → HasEntryOf T x
  entry_of_still own x f = elim (decide_key nat_order x.base b) [
    | inl same ↦
        let is = sym f.object ∙ own f.entry (ap (get S.entries) (sym same) ∙ f.there) in
        subst (HasEntryOf T) (sym is) entry_of_new
    | inr other ↦ record {
      entry = f.entry;
      there = ap (λ es. get es x.base) entries ∙ beside_inserted nat_order S.entries b n x.base other ∙ f.there;
      object = f.object;
    }
  ]

-- an entry is taken out
module _ (S T : State) (e : Entry) (at : get S.entries e.object.base ≡ Some e)
    (entries : T.entries ≡ remove S.entries e.object.base) where
  -- other objects keep theirs
  pub entry_of_beside : (x : Range) → x ≢ e.object → HasEntryOf S x → HasEntryOf T x
  entry_of_beside x other f = elim (decide_key nat_order x.base e.object.base) [
    | inl same ↦
        absurd (other (sym f.object
        ∙ ap (λ (e : Entry). e.object) (same_Some f.entry e (sym f.there ∙ ap (get S.entries) same ∙ at))))
    | inr far ↦ record {
      entry = f.entry;
      there = ap (λ es. get es x.base) entries ∙ beside_removed nat_order S.entries e.object.base x.base far ∙ f.there;
      object = f.object;
    }
  ]
