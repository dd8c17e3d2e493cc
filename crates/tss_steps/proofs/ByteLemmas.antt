-- The byte at an address after bytes were put in a list or in memory, and numbers whose bytes agree.
use Rattle.std.proofs.Common.{◌≡◌, ℕ, zero, suc, ◌+◌, ◌-◌, ◌*◌, ◌<◌, ◌≤◌, ◌⊎◌, inl, inr, List, [], ◌∷◌, length, nat_le, nat_lt, Some, refl, sym, ap, ◌∙◌, arith, add-zero}
use Rattle.std.specs.Prelude.{◌&&◌, slice_index, unwrap_or}
use Rattle.std.specs.FinMap.{get}
use Rattle.std.proofs.lemmas.Bool.{le-leb, lt-ltb, lt-leb, le-ltb, and_from, and_left, and_right, cond-true, cond-false, cases_lt}
use Rattle.std.proofs.lemmas.List.{length-set, get_or-set_same, get_or-set_other}
use Rattle.tss_base.specs.Names.{Numbered}
use Rattle.tss_maps.proofs.Keys.{nat_order}
use Rattle.tss_maps.proofs.Changes.{at_inserted, beside_inserted}
use Rattle.tss_model.specs.Memory.{Memory, byte_at, put_bytes, list_put, map_put, number_at}
use Rattle.tss_core.specs.Views.{byte_after}

-- an address is one of those that are written, or another
pub place_of : (at n a : ℕ) → ((at ≤ a) × (a < at + n)) ⊎ ((a < at) ⊎ (at + n ≤ a))
place_of at n a =
    elim (cases_lt a at) [
      | inl low ↦ inr (inl low)
      | inr from ↦ elim (cases_lt a (at + n)) [
        | inl below ↦ inl (from, below)
        | inr behind ↦ inr (inr behind)
      ]
    ]

-- ---- the byte after a write

module _ (byte : ℕ → ℕ) (at : ℕ) (bs : List ℕ) (a : ℕ) where
  pub byte_after-inside : at ≤ a → a < at + length bs → byte_after byte (Some (record { at = at; bytes = bs })) a ≡ slice_index bs (a - at)
  byte_after-inside low high =
      cond-true (nat_le at a && nat_lt a (at + length bs)) (slice_index bs (a - at)) (byte a)
      (and_from (nat_le at a) (nat_lt a (at + length bs)) (le-leb at a low) (lt-ltb a (at + length bs) high))

  pub byte_after-outside : (a < at) ⊎ (at + length bs ≤ a) → byte_after byte (Some (record { at = at; bytes = bs })) a ≡ byte a
  byte_after-outside (inl low) =
      cond-false (nat_le at a && nat_lt a (at + length bs)) (slice_index bs (a - at)) (byte a)
      (and_left (nat_le at a) (nat_lt a (at + length bs)) (lt-leb at a low))
  byte_after-outside (inr high) =
      cond-false (nat_le at a && nat_lt a (at + length bs)) (slice_index bs (a - at)) (byte a)
      (and_right (nat_le at a) (nat_lt a (at + length bs)) (le-ltb a (at + length bs) high))

-- ---- bytes put in a list

pub length-list_put : (bs xs : List ℕ) (at : ℕ) → length (list_put xs at bs) ≡ length xs
length-list_put [] xs at = refl
length-list_put (b ∷ bs) xs at = length-set (list_put xs (suc at) bs) at b ∙ length-list_put bs xs (suc at)

pub list_put-outside : (bs xs : List ℕ) (at a : ℕ) → (a < at) ⊎ (at + length bs ≤ a) → slice_index (list_put xs at bs) a ≡ slice_index xs a
list_put-outside [] xs at a out = refl
list_put-outside (b ∷ bs) xs at a (inl low) =
    get_or-set_other (list_put xs (suc at) bs) at a b 0 (λ e. absurd (omega arith))
    ∙ list_put-outside bs xs (suc at) a (inl (omega arith))
list_put-outside (b ∷ bs) xs at a (inr high) =
    get_or-set_other (list_put xs (suc at) bs) at a b 0 (λ e. absurd (omega arith))
    ∙ list_put-outside bs xs (suc at) a (inr (omega arith))

-- by how far behind the first
list_put-at : (bs xs : List ℕ) (at j a : ℕ) → at + j ≡ a → j < length bs → at + length bs ≤ length xs → slice_index (list_put xs at bs) a ≡ slice_index bs j
list_put-at [] xs at j a e h there = absurd (omega arith)
list_put-at (b ∷ bs) xs at zero a e h there =
    let first : a ≡ at = omega arith in
    ap (slice_index (list_put xs at (b ∷ bs))) first
    ∙ get_or-set_same (list_put xs (suc at) bs) at b 0 (omega (arith, length-list_put bs xs (suc at)))
list_put-at (b ∷ bs) xs at (suc j) a e h there =
    get_or-set_other (list_put xs (suc at) bs) at a b 0 (λ s. absurd (omega arith))
    ∙ list_put-at bs xs (suc at) j a (omega arith) (omega arith) (omega arith)

pub list_put-inside : (bs xs : List ℕ) (at a : ℕ) → at ≤ a → a < at + length bs → at + length bs ≤ length xs → slice_index (list_put xs at bs) a ≡ slice_index bs (a - at)
list_put-inside bs xs at a low high there = list_put-at bs xs at (a - at) a (omega arith) (omega arith) there

-- ---- bytes put in memory

map_put-outside : (bs : List ℕ) (m : Numbered ℕ) (at a : ℕ) → (a < at) ⊎ (at + length bs ≤ a) → get (map_put m at bs) a ≡ get m a
map_put-outside [] m at a out = refl
map_put-outside (b ∷ bs) m at a (inl low) =
    beside_inserted nat_order (map_put m (suc at) bs) at b a (λ e. absurd (omega arith))
    ∙ map_put-outside bs m (suc at) a (inl (omega arith))
map_put-outside (b ∷ bs) m at a (inr high) =
    beside_inserted nat_order (map_put m (suc at) bs) at b a (λ e. absurd (omega arith))
    ∙ map_put-outside bs m (suc at) a (inr (omega arith))

map_put-at : (bs : List ℕ) (m : Numbered ℕ) (at j a : ℕ) → at + j ≡ a → j < length bs → get (map_put m at bs) a ≡ Some (slice_index bs j)
map_put-at [] m at j a e h = absurd (omega arith)
map_put-at (b ∷ bs) m at zero a e h =
    let first : a ≡ at = omega arith in
    ap (get (map_put m at (b ∷ bs))) first ∙ at_inserted nat_order (map_put m (suc at) bs) at b
map_put-at (b ∷ bs) m at (suc j) a e h =
    beside_inserted nat_order (map_put m (suc at) bs) at b a (λ s. absurd (omega arith))
    ∙ map_put-at bs m (suc at) j a (omega arith) (omega arith)

-- the byte at each address after a write
pub put_bytes-byte : (m : Memory) (at : ℕ) (bs : List ℕ) (a : ℕ) → byte_at (put_bytes m at bs) a ≡ byte_after (byte_at m) (Some (record { at = at; bytes = bs })) a
put_bytes-byte m at bs a =
    elim (place_of at (length bs) a) [
      | inl inside ↦
          ap (λ o. unwrap_or o 0) (map_put-at bs m.bytes at (a - at) a (omega arith) (omega arith))
          ∙ sym (byte_after-inside (byte_at m) at bs a inside.0 inside.1)
      | inr outside ↦
          ap (λ o. unwrap_or o 0) (map_put-outside bs m.bytes at a outside)
          ∙ sym (byte_after-outside (byte_at m) at bs a outside)
    ]

-- ---- numbers

-- numbers whose bytes agree are equal
pub number_at-same : (f g : ℕ → ℕ) (a b n : ℕ) → ((k : ℕ) → k < n → f (a + k) ≡ g (b + k)) → number_at f a n ≡ number_at g b n
number_at-same f g a b zero same = refl
number_at-same f g a b (suc n) same =
    let first : f a ≡ g b = ap f (sym (add-zero a)) ∙ same 0 (omega arith) ∙ ap g (add-zero b) in
    let rest = number_at-same f g (suc a) (suc b) n (λ k h. ap f (later a k) ∙ same (suc k) (omega arith) ∙ ap g (sym (later b k))) in
    λ t. first t + 256 * rest t
  where
    later : (x k : ℕ) → suc x + k ≡ x + suc k
    later x k = omega arith
