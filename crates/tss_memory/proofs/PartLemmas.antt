-- Bytes with others in place of a part: the byte at each place, and how many there are.
use Rattle.std.proofs.Common.{◌≡◌, ℕ, zero, suc, ◌+◌, ◌-◌, ◌<◌, ◌≤◌, List, [], ◌∷◌, ◌++◌, length, replicate, take, drop, get_or, refl, sym, ap, ◌∙◌, arith, length-append, length-drop}
use Rattle.std.specs.Prelude.{slice_set}
use Rattle.std.proofs.lemmas.List.{take-append-drop, length-take-le, length-replicate, get_or-take, get_or-drop, get_or_append_left, get_or-append_right}
use Rattle.std.specs.Int.{byte_at, bytes_low_first, to_le_bytes, w32}
use Rattle.tss_base.specs.declared.range.Range.{Range}
use Rattle.tss_model.specs.Memory.{Memory, list_put, put_bytes, zeroed, zeros}
use Rattle.tss_model.specs.Core.{low_bytes}
use Rattle.tss_memory.specs.Blocks.{with_part, part_of}

module _ (xs : List ℕ) (at : ℕ) (ys : List ℕ) (within : at + length ys ≤ length xs) where
  -- as many as before
  pub length-with_part : length (with_part xs at ys) ≡ length xs
  length-with_part =
      let first = length-take-le at xs (omega arith) in
      let outer = length-append (take at xs) (ys ++ drop (at + length ys) xs) in
      let inner = length-append ys (drop (at + length ys) xs) in
      let last = length-drop (at + length ys) xs in
      omega arith

  -- the bytes before the part
  pub part_before : (k d : ℕ) → k < at → get_or (with_part xs at ys) k d ≡ get_or xs k d
  part_before k d h =
      let first = length-take-le at xs (omega arith) in
      get_or_append_left (take at xs) (ys ++ drop (at + length ys) xs) d k (omega arith) ∙ get_or-take at xs k d h

  -- the part
  pub part_inside : (k j d : ℕ) → at + j ≡ k → j < length ys → get_or (with_part xs at ys) k d ≡ get_or ys j d
  part_inside k j d e h =
      let first = length-take-le at xs (omega arith) in
      let place : k - at ≡ j = omega arith in
      get_or-append_right (take at xs) (ys ++ drop (at + length ys) xs) at k d first (omega arith)
      ∙ ap (λ n. get_or (ys ++ drop (at + length ys) xs) n d) place
      ∙ get_or_append_left ys (drop (at + length ys) xs) d j h

  -- the bytes behind it
  pub part_after : (k d : ℕ) → at + length ys ≤ k → get_or (with_part xs at ys) k d ≡ get_or xs k d
  part_after k d h =
      let first = length-take-le at xs (omega arith) in
      let place : at + length ys + (k - at - length ys) ≡ k = omega arith in
      get_or-append_right (take at xs) (ys ++ drop (at + length ys) xs) at k d first (omega arith)
      ∙ get_or-append_right ys (drop (at + length ys) xs) (length ys) (k - at) d refl (omega arith)
      ∙ get_or-drop (at + length ys) xs (k - at - length ys) d
      ∙ ap (λ n. get_or xs n d) place

-- an element set at the end of the first ones
set_taken : (xs ys : List ℕ) (at b : ℕ) → at < length xs → slice_set (take (suc at) xs ++ ys) at b ≡ take at xs ++ b ∷ ys
set_taken [] ys at b h = absurd (omega arith)
set_taken (x ∷ xs) ys zero b h = refl
set_taken (x ∷ xs) ys (suc at) b h = ap (λ zs. x ∷ zs) (set_taken xs ys at b (omega arith))

-- bytes that are put from a place on are that part
pub list_put-with_part : (ys xs : List ℕ) (at : ℕ) → at + length ys ≤ length xs → list_put xs at ys ≡ with_part xs at ys
list_put-with_part [] xs at h =
    let none : at + 0 ≡ at = omega arith in
    sym (ap (λ n. take at xs ++ drop n xs) none ∙ take-append-drop at xs)
list_put-with_part (b ∷ bs) xs at h =
    let behind : suc at + length bs ≡ at + suc (length bs) = omega arith in
    ap (λ zs. slice_set zs at b) (list_put-with_part bs xs (suc at) (omega arith))
    ∙ set_taken xs (bs ++ drop (suc at + length bs) xs) at b (omega arith)
    ∙ ap (λ n. take at xs ++ b ∷ (bs ++ drop n xs)) behind

-- a number has as many low bytes as are asked for
length-bytes_low_first : (i n v : ℕ) → length (bytes_low_first i n v) ≡ n
length-bytes_low_first i zero v = refl
length-bytes_low_first i (suc n) v = ap suc (length-bytes_low_first (suc i) n v)

pub length-low_bytes : (n v : ℕ) → length (low_bytes n v) ≡ n
length-low_bytes n v = length-bytes_low_first 0 n v

-- a part is as long as it says
pub length-part_of : (xs : List ℕ) (at n : ℕ) → at + n ≤ length xs → length (part_of xs at n) ≡ n
length-part_of xs at n h =
    let rest = length-drop at xs in
    length-take-le n (drop at xs) (omega arith)

-- and has the bytes from its place on
pub get_or-part_of : (xs : List ℕ) (at n k d : ℕ) → k < n → get_or (part_of xs at n) k d ≡ get_or xs (at + k) d
get_or-part_of xs at n k d h = get_or-take n (drop at xs) k d h ∙ get_or-drop at xs k d

-- so many zeros are as many
pub length-zeros : (n : ℕ) → length (zeros n) ≡ n
unfolding zeros
length-zeros n = length-replicate n 0

-- no zeros change nothing
pub zeroed_none : (m : Memory) (r : Range) → r.len ≡ 0 → m ≡ zeroed m r
unfolding zeros
zeroed_none m r e = ap (λ n. put_bytes m r.base (replicate n 0)) (sym e)

-- the first bytes of a number
pub take-bytes_low_first : (n more i v : ℕ) → take n (bytes_low_first i (n + more) v) ≡ bytes_low_first i n v
take-bytes_low_first zero more i v = refl
take-bytes_low_first (suc n) more i v =
    ap (λ k. take (suc n) (bytes_low_first i k v)) count
    ∙ ap (λ bs. byte_at i v ∷ bs) (take-bytes_low_first n more (suc i) v) where
      count : suc n + more ≡ suc (n + more)
      count = omega arith

pub take-to_le_bytes : (n v : ℕ) → n ≤ 4 → take n (to_le_bytes w32 v) ≡ low_bytes n v
take-to_le_bytes n v h =
    let count : 4 ≡ n + (4 - n) = omega arith in
    ap (λ k. take n (bytes_low_first 0 k v)) count ∙ take-bytes_low_first n (4 - n) 0 v
