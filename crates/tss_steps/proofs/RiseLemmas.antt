-- Pieces that rise go on rising with one piece more, or one task more.
use Rattle.std.proofs.Common.{◌≡◌, ℕ, ◌≤◌, List, [], ◌∷◌, ◌++◌, arith}
use Rattle.tss_model.specs.MainStep.{Piece}
use Rattle.tss_steps.specs.Printing.{RiseTo}

-- with more tasks spawned
pub rise_later : (from : ℕ) (ps : List Piece) (a b : ℕ) → a ≤ b → RiseTo from ps a → RiseTo from ps b
rise_later from [] a b later h = omega (arith, later, h)
rise_later from (p ∷ ps) a b later h = (h.0, rise_later p.before ps a b later h.1)

-- with one piece more
pub rise_more : (from : ℕ) (ps : List Piece) (most : ℕ) (p : Piece) → p.before ≡ most → RiseTo from ps most
    → RiseTo from (ps ++ p ∷ []) most
rise_more from [] most p own h = (omega (arith, own, h), omega (arith, own))
rise_more from (q ∷ ps) most p own h = (h.0, rise_more q.before ps most p own h.1)
