-- A flat machine beside the execution in program order.
use Rattle.std.specs.Prelude.{◌≡◌, ℕ, List, Some}
use Rattle.tss_base.specs.declared.ending.Ending.{Ending}
use Rattle.tss_base.specs.Image.{ImageState}
use Rattle.tss_model.specs.Memory.{frozen}
use Rattle.tss_model.specs.MainStep.{Piece, Flat, output_of}
use Rattle.tss_model.specs.InOrder.{ReferenceState, flat_stepped, main_after, in_order}
use Rattle.tss_inorder.specs.Flats.{FlatState, flat_of}

-- a flat machine whose output was printed in these pieces
abbrev pub with_pieces : Flat → List Piece → Flat
with_pieces f pieces = record f { main = record (f.main) { pieces = pieces } }

-- it stands where program order does after some steps of main, in whatever pieces its output was printed there
pub record Follows (i : ImageState) (s : FlatState) : Type 0 where
  pub code : s.code ≡ frozen i
  pub steps : ℕ
  pub pieces : List Piece
  pub output : output_of pieces ≡ output_of s.main.pieces
  pub reached : flat_stepped i s.limits steps ≡ with_pieces (flat_of s) pieces

-- it stands where program order does after as many instructions of main as it has completed
pub record StandsInOrder (i : ImageState) (s : FlatState) : Type 0 where
  pub pieces : List Piece
  pub output : output_of pieces ≡ output_of s.main.pieces
  pub there : main_after i s.limits s.main.registers.done ≡ Some (with_pieces (flat_of s) pieces)

-- what it has come to, with an ending
abbrev pub outcome_in : FlatState → Ending → ReferenceState
outcome_in s e = record { ending = e; tasks = s.main.spawned; output = output_of s.main.pieces; memory = s.memory }

-- with this ending it has come to what program order comes to
abbrev pub EndsInOrder : ImageState → FlatState → Ending → Type 0
EndsInOrder i s e = outcome_in s e ≡ in_order i s.limits
