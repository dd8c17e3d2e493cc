-- What is seen of a block of buffers, where the number of one is known.
use Rattle.std.proofs.Common.{◌≡◌, ℕ, ◌+◌, ◌*◌, ◌<◌, ◌≤◌, Bool, true, false, List, length, take, drop, get_or, set, ◌++◌, [], refl, sym, ap, subst, ◌∙◌, arith, length-drop}
use Rattle.std.specs.Prelude.{IsSome, unwrap_or}
use Rattle.std.proofs.lemmas.Bool.{false≢true}
use Rattle.std.proofs.lemmas.List.{length-take-le, set-get_or}
use Rattle.std.specs.FinMap.{get, insert, remove}
use Rattle.tss_buffers.specs.Contents.{BuffersState, HasBuffer, seat}
use Rattle.tss_buffers.specs.Block.{where_set, contents_of, with_part, IsBlock}
use Rattle.tss_buffers.proofs.BlockLemmas.{take_front, fits, marked, get-contents, contents-written, contents-unset}

-- bytes that are set have the mark
set_mark : (b : Bool) (bytes : List ℕ) → IsSome (where_set b bytes) → b ≡ true
set_mark true bytes there = refl
set_mark false bytes there = absurd (false≢true there)

-- a part is as long as it says
pub length-part : (xs : List ℕ) (at n : ℕ) → at + n ≤ length xs → length (take n (drop at xs)) ≡ n
length-part xs at n h = let rest = length-drop at xs in length-take-le n (drop at xs) (omega arith)

-- a vector with as many other bytes
pub refilled : (xs ys : List ℕ) (n : ℕ) → length xs ≡ n → length ys ≡ length xs → take n (ys ++ drop (length ys) xs) ≡ ys
refilled xs ys n e same = take_front n ys (drop (length ys) xs) (same ∙ e)

-- a block, as it is seen
abbrev pub seen_block : ℕ → ℕ → ℕ → List Bool → List ℕ → BuffersState
seen_block banks each n bs bytes = record { banks = banks; each = each; object_bytes = n; contents = contents_of each n bs bytes }

module _ (banks each n : ℕ) (bs : List Bool) (bytes : List ℕ) (is : IsBlock banks each n bs bytes) (t : BuffersState)
    (view : seen_block banks each n bs bytes ≡ t) (bank place : ℕ) (there : HasBuffer t bank place)
    (k : ℕ) (e : k ≡ bank * each + place) where
  in_banks : bank < banks
  in_banks = let same : banks ≡ t.banks = λ i. (view i).banks in omega (arith, same, there.0)

  in_bank : place < each
  in_bank = let same : each ≡ t.each = λ i. (view i).each in omega (arith, same, there.1)

  -- its part lies in the block, and its mark among the marks
  pub part_fits : k * n + n ≤ length bytes
  part_fits = let h = fits banks each n bs bytes is bank place in_banks in_bank in
      let same = ap (λ j. j * n) e in omega (arith, h, same)

  pub mark_fits : k < length bs
  mark_fits = let h = marked banks each n bs bytes is bank place in_banks in_bank in omega (arith, h, e)

  -- what stands under its place
  pub seen_get : get t.contents (seat bank place) ≡ where_set (get_or bs k false) (take n (drop (k * n) bytes))
  seen_get =
      (λ i. get (sym view i).contents (seat bank place))
      ∙ get-contents banks each n bs bytes is bank place in_banks in_bank
      ∙ ap (λ j. where_set (get_or bs j false) (take n (drop (j * n) bytes))) (sym e)

  -- the bytes of one that is set
  pub seen_part : IsSome (get t.contents (seat bank place))
      → unwrap_or (get t.contents (seat bank place)) [] ≡ take n (drop (k * n) bytes)
  seen_part there =
      ap (λ o. unwrap_or o [])
      (seen_get ∙ ap (λ b. where_set b (take n (drop (k * n) bytes))) (set_mark _ _ (subst IsSome seen_get there)))

  -- one that is set has as many bytes as a buffer has
  pub seen_long : IsSome (get t.contents (seat bank place)) → length (unwrap_or (get t.contents (seat bank place)) []) ≡ t.object_bytes
  seen_long there =
      let same : n ≡ t.object_bytes = λ i. (view i).object_bytes in
      ap (λ xs. length xs) (seen_part there) ∙ length-part bytes (k * n) n part_fits ∙ same

  -- and its mark
  pub seen_mark : IsSome (get t.contents (seat bank place)) → set bs k true ≡ bs
  seen_mark there =
      ap (set bs k) (sym (set_mark _ _ (subst IsSome seen_get there))) ∙ set-get_or bs k false

  -- the buffers after it is written and set
  pub seen_written : (ys after : List ℕ) → length ys ≡ n → after ≡ with_part bytes (k * n) ys
      → seen_block banks each n (set bs k true) after ≡ record t { contents = insert t.contents (seat bank place) ys }
  seen_written ys after same left =
      ap (λ xs. seen_block banks each n (set bs k true) xs) left
      ∙ ap (λ j. seen_block banks each n (set bs j true) (with_part bytes (j * n) ys)) e
      ∙ ap (λ m. record { banks = banks; each = each; object_bytes = n; contents = m })
      (contents-written banks each n bs bytes is bank place in_banks in_bank ys same)
      ∙ (λ i. record (view i) { contents = insert (view i).contents (seat bank place) ys })

  -- and after its mark is taken away
  pub seen_unset : seen_block banks each n (set bs k false) bytes
      ≡ record t { contents = remove t.contents (seat bank place) }
  seen_unset =
      ap (λ j. seen_block banks each n (set bs j false) bytes) e
      ∙ ap (λ m. record { banks = banks; each = each; object_bytes = n; contents = m })
      (contents-unset banks each n bs bytes is bank place in_banks in_bank)
      ∙ (λ i. record (view i) { contents = remove (view i).contents (seat bank place) })
