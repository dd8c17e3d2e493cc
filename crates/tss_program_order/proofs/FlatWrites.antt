-- The bytes of memory after a write: in the same way after the same write, and beside it as before.
use Rattle.std.proofs.Common.{◌≡◌, ℕ, suc, ◌+◌, ◌<◌, ◌≤◌, inl, inr, List, [], ◌∷◌, length, refl, sym, ap, ◌∙◌, arith}
use Rattle.std.specs.FinMap.{get, insert}
use Rattle.tss_base.specs.Names.{Numbered}
use Rattle.tss_maps.proofs.Keys.{nat_order, decide_key}
use Rattle.tss_maps.proofs.Changes.{at_inserted, beside_inserted}
use Rattle.tss_model.specs.Memory.{map_put}

-- where two maps agree they do so after the same insertion
insert-agrees : (m n : Numbered ℕ) (k v a : ℕ) → get m a ≡ get n a → get (insert m k v) a ≡ get (insert n k v) a
insert-agrees m n k v a same = elim (decide_key nat_order a k) [
  | inl here ↦ ap (get (insert m k v)) here ∙ at_inserted nat_order m k v ∙ sym (at_inserted nat_order n k v)
      ∙ ap (get (insert n k v)) (sym here)
  | inr apart ↦ beside_inserted nat_order m k v a apart ∙ same ∙ sym (beside_inserted nat_order n k v a apart)
]

-- and after the same bytes were put in both
pub map_put-agrees : (m n : Numbered ℕ) (at : ℕ) (bs : List ℕ) (a : ℕ) → get m a ≡ get n a
    → get (map_put m at bs) a ≡ get (map_put n at bs) a
map_put-agrees m n at [] a same = same
map_put-agrees m n at (b ∷ bs) a same =
    insert-agrees (map_put m (suc at) bs) (map_put n (suc at) bs) at b a (map_put-agrees m n (suc at) bs a same)

-- beside the bytes that are put everything stays
pub map_put-beside : (m : Numbered ℕ) (at : ℕ) (bs : List ℕ) (a : ℕ) → (at ≤ a → a < at + length bs → ⊥)
    → get (map_put m at bs) a ≡ get m a
map_put-beside m at [] a out = refl
map_put-beside m at (b ∷ bs) a out =
    beside_inserted nat_order (map_put m (suc at) bs) at b a (λ here. out (omega (arith, here)) (omega (arith, here)))
    ∙ map_put-beside m (suc at) bs a (λ low high. out (omega arith) (omega arith))
