-- Texts put one after another.
use Rattle.std.proofs.Common.{ℕ, List, ◌++◌, IsErr, Result, Ok, Err, refl}
use Rattle.tss_outside.specs.declared.files.Failed.{Failed}
use Rattle.tss_outside.specs.declared.sink.Sink.{Ghosts}
use Rattle.tss_text.specs.declared.writer.PieceWriter.{PieceWriter}
use Rattle.tss_text.specs.Pieces.{Emits}
use Rattle.tss_text.proofs.PieceLemmas.{none_put, more_put, last_put, failed_put}

module _ {K : Type 0} {g : Ghosts K} {o p : PieceWriter K} where
  -- a text was put, and then the rest was, or failed
  pub then_put : {r : PieceWriter K} {v : Unit {0}} {result : Result (Unit {0}) Failed} (part rest : List ℕ) →
      Emits g o p (Ok v) part → Emits g p r result rest → Emits g o r result (part ++ rest)
  then_put part rest first then =
      last_put (more_put (none_put g o (part ++ rest) (part ++ rest) refl) part rest refl first) then

  -- the first text failed, so the whole did
  pub first_failed : {e : Failed} {result : Result (Unit {0}) Failed} (part rest : List ℕ) →
      Emits g o p (Err e) part → IsErr result → Emits g o p result (part ++ rest)
  first_failed part rest first failed =
      failed_put (none_put g o (part ++ rest) (part ++ rest) refl) part rest refl first failed
