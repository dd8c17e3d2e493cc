-- Words that are no command by their number.
use Rattle.std.proofs.Common.{◌≡◌, ◌≢◌, ℕ, List, [], ◌∷◌, length, None, String, Global, refl, arith}
use Rattle.tss_command.specs.Words.{words_of, command_of}

pub other_number : (words : List (String Global)) → length words ≢ 2 → length words ≢ 3 → length words ≢ 5 → length words ≢ 7 →
    None ≡ command_of (words_of words)
other_number [] a b c d = refl
other_number (_ ∷ []) a b c d = refl
other_number (_ ∷ _ ∷ []) a b c d = absurd (a (omega arith))
other_number (_ ∷ _ ∷ _ ∷ []) a b c d = absurd (b (omega arith))
other_number (_ ∷ _ ∷ _ ∷ _ ∷ []) a b c d = refl
other_number (_ ∷ _ ∷ _ ∷ _ ∷ _ ∷ []) a b c d = absurd (c (omega arith))
other_number (_ ∷ _ ∷ _ ∷ _ ∷ _ ∷ _ ∷ []) a b c d = refl
other_number (_ ∷ _ ∷ _ ∷ _ ∷ _ ∷ _ ∷ _ ∷ []) a b c d = absurd (d (omega arith))
other_number (_ ∷ _ ∷ _ ∷ _ ∷ _ ∷ _ ∷ _ ∷ _ ∷ _) a b c d = refl
