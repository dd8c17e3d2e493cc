-- The byte that the entries of blocks have at an address, and at the other addresses after a change of one block.
use Rattle.std.proofs.Common.{◌≡◌, ◌≢◌, ℕ, zero, suc, ◌+◌, ◌<◌, ◌≤◌, ◌⊎◌, inl, inr, Some, List, [], ◌∷◌, ◌++◌, length, cond, refl, sym, ap, subst, ◌∙◌, arith}
use Rattle.std.specs.Prelude.{slice_get, slice_set}
use Rattle.std.specs.List.{enumerate_from}
use Rattle.std.specs.Ordering.{nat_cmp, eq_by_cmp}
use Rattle.std.specs.FinMap.{find}
use Rattle.tss_maps.proofs.Keys.{nat_order, same_key, other_key}
use Rattle.tss_memory.specs.Blocks.{BlockState, block_end, entries_in}

-- an address outside a block
abbrev pub IsOutside : ℕ → BlockState → Type 0
IsOutside q b = (q < b.base) ⊎ (block_end b ≤ q)

-- ---- one list of bytes from an address on, and other entries behind it

-- an entry at another key is passed by
passed : (k q v : ℕ) (es : List (ℕ × ℕ)) → q ≢ k → find nat_cmp q ((k, v) ∷ es) ≡ find nat_cmp q es
passed k q v es ne = ap (λ t. cond t (Some v) (find nat_cmp q es)) (other_key nat_order q k ne)

-- the byte at an address that the list has
pub find-inside : (at : ℕ) (xs : List ℕ) (es : List (ℕ × ℕ)) (k q : ℕ) → at + k ≡ q → k < length xs →
    find nat_cmp q (enumerate_from at xs ++ es) ≡ slice_get xs k
find-inside at [] es k q e h = absurd (omega arith)
find-inside at (x ∷ xs) es zero q e h =
    ap (λ t. cond t (Some x) (find nat_cmp q (enumerate_from (at + 1) xs ++ es)))
    (ap (λ n. eq_by_cmp nat_cmp q n) first ∙ same_key nat_order q) where
      first : at ≡ q
      first = omega arith
find-inside at (x ∷ xs) es (suc k) q e h =
    passed at q x (enumerate_from (at + 1) xs ++ es) (λ s. absurd (omega arith))
    ∙ find-inside (at + 1) xs es k q (omega arith) (omega arith)

-- at another address stands what the other entries have
pub find-outside : (at : ℕ) (xs : List ℕ) (es : List (ℕ × ℕ)) (q : ℕ) → (q < at) ⊎ (at + length xs ≤ q) →
    find nat_cmp q (enumerate_from at xs ++ es) ≡ find nat_cmp q es
find-outside at [] es q out = refl
find-outside at (x ∷ xs) es q (inl low) =
    passed at q x (enumerate_from (at + 1) xs ++ es) (λ s. absurd (omega arith))
    ∙ find-outside (at + 1) xs es q (inl (omega arith))
find-outside at (x ∷ xs) es q (inr high) =
    passed at q x (enumerate_from (at + 1) xs ++ es) (λ s. absurd (omega arith))
    ∙ find-outside (at + 1) xs es q (inr (omega arith))

-- entries that answer alike do so behind the same entries
pub find_behind : (es xs ys : List (ℕ × ℕ)) (q : ℕ) → find nat_cmp q xs ≡ find nat_cmp q ys →
    find nat_cmp q (es ++ xs) ≡ find nat_cmp q (es ++ ys)
find_behind [] xs ys q same = same
find_behind (e ∷ es) xs ys q same = ap (λ r. cond (eq_by_cmp nat_cmp q (e.0)) (Some (e.1)) r)
    (find_behind es xs ys q same)

-- ---- blocks

-- the blocks before a place end at or before an address
abbrev pub EndBefore : List BlockState → ℕ → ℕ → Type 0
EndBefore blocks i base = (j : ℕ) (a : BlockState) → j < i → slice_get blocks j ≡ Some a → block_end a ≤ base

-- the byte at an address of the block at a place
pub entry-inside : (blocks : List BlockState) (i : ℕ) (b : BlockState) (k q : ℕ) → slice_get blocks i ≡ Some b →
    EndBefore blocks i b.base → b.base + k ≡ q → k < length b.bytes →
    find nat_cmp q (entries_in blocks) ≡ slice_get b.bytes k
entry-inside [] i b k q there before e h = absurd (cc)
entry-inside (a ∷ blocks) zero b k q there before e h =
    let same : a ≡ b = cc in
    subst (λ (x : BlockState). find nat_cmp q (enumerate_from x.base x.bytes ++ entries_in blocks)
    ≡ slice_get b.bytes k) (sym same)
    (find-inside b.base b.bytes (entries_in blocks) k q e h)
entry-inside (a ∷ blocks) (suc i) b k q there before e h =
    let first = before 0 a (omega arith) refl in
    find-outside a.base a.bytes (entries_in blocks) q (inr (omega arith))
    ∙ entry-inside blocks i b k q there (λ j x l f. before (suc j) x (omega arith) f) e h

-- another block with the same addresses in place of one changes nothing at an address outside it
pub entry-beside : (blocks : List BlockState) (i : ℕ) (b c : BlockState) (q : ℕ) → slice_get blocks i ≡ Some b →
    c.base ≡ b.base → length c.bytes ≡ length b.bytes → IsOutside q b →
    find nat_cmp q (entries_in (slice_set blocks i c)) ≡ find nat_cmp q (entries_in blocks)
entry-beside [] i b c q there base len out = absurd (cc)
entry-beside (a ∷ blocks) zero b c q there base len out =
    let same : a ≡ b = cc in
    find-outside c.base c.bytes (entries_in blocks) q
    (elim out [ inl low ↦ inl (omega arith) | inr high ↦ inr (omega arith) ])
    ∙ sym (subst (λ (x : BlockState). find nat_cmp q (enumerate_from x.base x.bytes ++ entries_in blocks)
    ≡ find nat_cmp q (entries_in blocks)) (sym same)
    (find-outside b.base b.bytes (entries_in blocks) q out))
entry-beside (a ∷ blocks) (suc i) b c q there base len out =
    find_behind (enumerate_from a.base a.bytes) (entries_in (slice_set blocks i c)) (entries_in blocks) q
    (entry-beside blocks i b c q there base len out)
