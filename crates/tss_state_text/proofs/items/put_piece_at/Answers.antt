-- The piece is the one that is shown.
use Rattle.std.proofs.Common.{ℕ, List, Bor, sym, ap, ◌∙◌}
use Rattle.std.specs.Prelude.{option_map}
use Rattle.tss_model.specs.MainStep.{Piece}
use Rattle.tss_text.proofs.PieceLemmas.{same_text}
use Rattle.tss_state_lines.specs.Lines.{piece_line}
use Rattle.tss_state_text.specs.StateText.{text_if}
use Rattle.tss_state_text.proofs.items.put_piece_at.Goals as goal

-- what is shown, as the definitions have it
abbrev piece : ℕ × Bor (List ℕ) → Piece
piece p = record { before = p.0; bytes = p.1.now }

pub returns-in-Some : goal.returns-in-Some
returns-in-Some g c =
    same_text (ap (text_if piece_line) (ap (option_map piece) (sym c.in-Some.is) ∙ c.piece_at.ensures)) c.put_piece.ensures
