-- The bytes after a write, in it and beside it, and those of a list after a put.
use Rattle.std.proofs.Common.{◌≡◌, ℕ, zero, suc, ◌+◌, ◌-◌, ◌<◌, ◌≤◌, List, [], ◌∷◌, length, Some, ap, sym, refl, ◌∙◌, inl, inr, arith}
use Rattle.std.specs.Prelude.{slice_index, slice_set}
use Rattle.std.proofs.lemmas.Bool.{cases_lt, cond-true, cond-false, and_from, and_left, and_right, le-leb, lt-leb, lt-ltb, le-ltb}
use Rattle.std.proofs.lemmas.List.{length-set, get_or-set_same, get_or-set_other}
use Rattle.tss_model.specs.Memory.{list_put}
use Rattle.tss_model.specs.Core.{Write}
use Rattle.tss_core.specs.Views.{byte_after}
use Rattle.tss_core.proofs.PutLemmas.{list_put-below}

module _ (byte : ℕ → ℕ) (w : Write) (a : ℕ) where
  -- a byte of the write
  pub byte_after-in : w.at ≤ a → a < w.at + length w.bytes → byte_after byte (Some w) a ≡ slice_index w.bytes (a - w.at)
  byte_after-in from to = cond-true _ _ _ (and_from _ _ (le-leb w.at a from) (lt-ltb a (w.at + length w.bytes) to))

  -- a byte below it, and one above
  pub byte_after-below : a < w.at → byte_after byte (Some w) a ≡ byte a
  byte_after-below below = cond-false _ _ _ (and_left _ _ (lt-leb w.at a below))

  pub byte_after-above : w.at + length w.bytes ≤ a → byte_after byte (Some w) a ≡ byte a
  byte_after-above above = cond-false _ _ _ (and_right _ _ (le-ltb a (w.at + length w.bytes) above))

-- a put keeps the length
pub length-list_put : (bs xs : List ℕ) (at : ℕ) → length (list_put xs at bs) ≡ length xs
length-list_put [] xs at = refl
length-list_put (b ∷ bs) xs at = length-set (list_put xs (suc at) bs) at b ∙ length-list_put bs xs (suc at)

-- a place above it keeps its byte
pub list_put-above : (bs xs : List ℕ) (at a : ℕ) → at + length bs ≤ a
    → slice_index (list_put xs at bs) a ≡ slice_index xs a
list_put-above [] xs at a above = refl
list_put-above (b ∷ bs) xs at a above =
    get_or-set_other (list_put xs (suc at) bs) at a b 0 (λ e. omega arith)
    ∙ list_put-above bs xs (suc at) a (omega arith)

-- a place of it has the byte that was put there
pub list_put-in : (bs xs : List ℕ) (at a k : ℕ) → at + length bs ≤ length xs → a ≡ at + k → k < length bs
    → slice_index (list_put xs at bs) a ≡ slice_index bs k
list_put-in [] xs at a k there here small = absurd (omega arith)
list_put-in (b ∷ bs) xs at a zero there here small =
    let within : at < length (list_put xs (suc at) bs) = omega (arith, length-list_put bs xs (suc at)) in
    let same : a ≡ at = omega arith in
    ap (slice_index (slice_set (list_put xs (suc at) bs) at b)) same
    ∙ get_or-set_same (list_put xs (suc at) bs) at b 0 within
list_put-in (b ∷ bs) xs at a (suc k) there here small =
    get_or-set_other (list_put xs (suc at) bs) at a b 0 (λ e. omega arith)
    ∙ list_put-in bs xs (suc at) a k (omega arith) (omega arith) (omega arith)

-- bytes that stay below and above a write, and are its own in it, are those after it
pub byte_after-by : (byte new : ℕ → ℕ) (w : Write)
    → ((a : ℕ) → a < w.at → new a ≡ byte a)
    → ((a : ℕ) → w.at + length w.bytes ≤ a → new a ≡ byte a)
    → ((a k : ℕ) → a ≡ w.at + k → k < length w.bytes → new a ≡ slice_index w.bytes k)
    → (a : ℕ) → new a ≡ byte_after byte (Some w) a
byte_after-by byte new w below above own a =
    elim (cases_lt a w.at) [
      | inl lower ↦ below a lower ∙ sym (byte_after-below byte w a lower)
      | inr from ↦
          elim (cases_lt a (w.at + length w.bytes)) [
            | inl to ↦
                let place : a ≡ w.at + (a - w.at) = omega arith in
                let small : a - w.at < length w.bytes = omega arith in
                own a (a - w.at) place small ∙ sym (byte_after-in byte w a from to)
            | inr higher ↦ above a higher ∙ sym (byte_after-above byte w a higher)
          ]
    ]

-- the byte at each place after a put
pub list_put-byte : (bs xs : List ℕ) (at a : ℕ) → at + length bs ≤ length xs
    → slice_index (list_put xs at bs) a ≡ byte_after (slice_index xs) (Some (record { at = at; bytes = bs })) a
list_put-byte bs xs at a there =
    byte_after-by (slice_index xs) (slice_index (list_put xs at bs)) (record { at = at; bytes = bs })
    (λ a lower. list_put-below bs xs at a lower)
    (λ a higher. list_put-above bs xs at a higher)
    (λ a k place small. list_put-in bs xs at a k there place small)
    a
