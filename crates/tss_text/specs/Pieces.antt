-- A text that goes out in pieces through a sink.
use Rattle.std.specs.Prelude.{◌≡◌, ℕ, ◌≤◌, List, [], ◌∷◌, ◌++◌, Option, Some, IfSome, Result, OnOk, OnErr}
use Rattle.tss_outside.specs.declared.files.Failed.{Failed}
use Rattle.tss_outside.specs.declared.sink.Sink.{Ghosts}
use Rattle.tss_outside.specs.Outside.{Rose, AppendsWhereTold, PutsPrefix}
use Rattle.tss_text.specs.declared.piece.TheConstants.{PIECE}
use Rattle.tss_text.specs.declared.writer.PieceWriter.{PieceWriter}

-- how many bytes a piece has, but for the last
abbrev pub piece_len : ℕ
piece_len = PIECE

-- lists of bytes one after another
abbrev pub joined : List (List ℕ) → List ℕ
joined [] = []
joined (xs ∷ xss) = xs ++ joined xss

-- what was put: what the sink has, where that is told, and what is kept for the next piece; and how often the sink has
-- failed
pub record Output : Type 0 where
  pub written : Option (List ℕ)
  pub kept : List ℕ
  pub faults : ℕ

-- what is written and kept now is what was written and kept before, with this text after it, where it is told
abbrev pub Carries : Output → Output → List ℕ → Type 0
Carries old new text =
    IfSome new.written (λ b. (a p : List ℕ) × (old.written ≡ Some a) × (b ≡ a ++ p) × (p ++ new.kept ≡ old.kept ++ text))

-- a text was put, or the sink failed and a prefix of what was kept and of the text was
pub record Puts (old new : Output) (result : Result (Unit {0}) Failed) (text : List ℕ) : Type 0 where
  pub ok : OnOk result (Carries old new text)
  pub err : OnErr result (PutsPrefix old.written new.written (old.kept ++ text))
  pub cause : OnErr result (Rose old.faults new.faults)
  pub never_falls : old.faults ≤ new.faults

-- what a writer has put, by what its sink means
abbrev pub output_of : {K : Type 0} → Ghosts K → PieceWriter K → Output
output_of g w = record { written = g.written w.out.now; kept = w.kept; faults = g.faults w.out.now }

-- the writer, whose sink is the same, has put a text, or the sink failed
pub record Emits {K : Type 0} (g : Ghosts K) (old new : PieceWriter K) (result : Result (Unit {0}) Failed) (text : List ℕ) : Type 0 where
  pub same_sink : new.out.ghost_name ≡ old.out.ghost_name
  pub puts : Puts (output_of g old) (output_of g new) result text

-- a whole text was written into a sink, or the sink failed and a prefix of it was
pub record Writes {K : Type 0} (g : Ghosts K) (old new : K) (result : Result (Unit {0}) Failed) (text : List ℕ) : Type 0 where
  pub ok : OnOk result (AppendsWhereTold (g.written old) (g.written new) text)
  pub prefix : OnErr result (PutsPrefix (g.written old) (g.written new) text)
  pub cause : OnErr result (Rose (g.faults old) (g.faults new))
  pub never_falls : g.faults old ≤ g.faults new
