-- The objects of a task with their storages by places, from its operands and its storages, and the other way round.
use Rattle.std.proofs.Common.{◌≡◌, ℕ, zero, suc, List, [], ◌∷◌, Some, refl, sym}
use Rattle.std.specs.Prelude.{slice_get}
use Rattle.std.proofs.lemmas.Option.{none-some, same_Some}
use Rattle.tss_base.specs.declared.operand.Operand.{Operand}
use Rattle.tss_base.specs.declared.operand.Storage.{Storage}
use Rattle.tss_protocol.specs.Workers.{Placed, placed_in}
use Rattle.tss_workers.specs.Seats.{seat_in, seats_in}

-- an operand's object with its storage by places
abbrev pub placed_operand : ℕ → Operand → Storage → Placed
placed_operand banks o s = record { object = o.object; storage = seat_in banks o s }

-- what stands at a place
pub record PlacedFrom (banks : ℕ) (os : List Operand) (ss : List Storage) (i : ℕ) (p : Placed) : Type 0 where
  pub operand : Operand
  pub storage : Storage
  pub operand_there : slice_get os i ≡ Some operand
  pub storage_there : slice_get ss i ≡ Some storage
  pub is : p ≡ placed_operand banks operand storage

-- comes from the operand and the storage there
pub placed_from : (banks : ℕ) (os : List Operand) (ss : List Storage) (i : ℕ) (p : Placed)
    → slice_get (placed_in os (seats_in banks os ss)) i ≡ Some p → PlacedFrom banks os ss i p
placed_from banks [] ss i p e = absurd (none-some p e)
placed_from banks (o ∷ os) [] i p e = absurd (none-some p e)
placed_from banks (o ∷ os) (s ∷ ss) zero p e = record {
  operand = o;
  storage = s;
  operand_there = refl;
  storage_there = refl;
  is = sym (same_Some (placed_operand banks o s) p e);
}
placed_from banks (o ∷ os) (s ∷ ss) (suc i) p e =
    let from = placed_from banks os ss i p e in
    record {
      operand = from.operand;
      storage = from.storage;
      operand_there = from.operand_there;
      storage_there = from.storage_there;
      is = from.is;
    }

-- and they stand there
pub placed_to : (banks : ℕ) (os : List Operand) (ss : List Storage) (i : ℕ) (o : Operand) (s : Storage)
    → slice_get os i ≡ Some o → slice_get ss i ≡ Some s
    → slice_get (placed_in os (seats_in banks os ss)) i ≡ Some (placed_operand banks o s)
placed_to banks [] ss i o s e f = absurd (none-some o e)
placed_to banks (x ∷ os) [] i o s e f = absurd (none-some s f)
placed_to banks (x ∷ os) (y ∷ ss) zero o s e f =
    let operand = same_Some x o e in
    let storage = same_Some y s f in
    λ i. Some (placed_operand banks (operand i) (storage i))
placed_to banks (x ∷ os) (y ∷ ss) (suc i) o s e f = placed_to banks os ss i o s e f
