-- Main as it stands after a barrier, by what is known of it before.
use Rattle.std.specs.Prelude.{ℕ, ◌==◌, if◌then◌else◌, List, [], ◌∷◌, length, None}
use Rattle.tss_model.specs.Registers.{Registers, onward}
use Rattle.tss_model.specs.MainStep.{Piece, MainState}

-- all that was printed, as one piece where there is any
abbrev pub one_piece : ℕ → List ℕ → List Piece
one_piece before output = if length output == 0 then [] else record { before = before; bytes = output } ∷ []

-- with the registers before the barrier: the call is done, and nothing is named
abbrev pub main_restarted : Registers → ℕ → List ℕ → MainState
main_restarted r spawned output = record {
  registers = onward r;
  spawned = spawned;
  epoch = [];
  pieces = one_piece spawned output;
  ending = None;
}
