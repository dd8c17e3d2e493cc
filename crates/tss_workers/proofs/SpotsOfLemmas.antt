-- The spots of operands with their storages.
use Rattle.std.proofs.Common.{◌≡◌, ℕ, zero, suc, ◌<◌, ◌≤◌, List, [], ◌∷◌, length, take, get_or, refl, ap, arith}
use Rattle.tss_base.specs.declared.operand.Operand.{Operand}
use Rattle.tss_base.specs.declared.operand.Storage.{Storage}
use Rattle.tss_base.specs.declared.operand.Storage.TheVariants as storage
use Rattle.tss_protocol.specs.Workers.{placed_in}
use Rattle.tss_workers.specs.Seats.{seat_in, seats_in}
use Rattle.tss_workers.specs.Spots.{found_in, spot_at, spots_in, operands_at, placed_of, storage_at, storages_at}
use Rattle.tss_workers.specs.declared.spots.Spot.{Spot}

storage_is : (banks : ℕ) (o : Operand) (s : Storage) → storage_at (found_in banks o.object s) ≡ seat_in banks o s
storage_is banks o storage.Home = refl
storage_is banks o (storage.Buffer p n) = refl

pub operands_at-spots_in : (banks : ℕ) (os : List Operand) (ss : List Storage) → length os ≤ length ss → operands_at (spots_in banks os ss) ≡ os
operands_at-spots_in banks [] ss h = refl
operands_at-spots_in banks (o ∷ os) [] h = absurd (omega arith)
operands_at-spots_in banks (o ∷ os) (s ∷ ss) h = ap (λ (xs : List Operand). o ∷ xs) (operands_at-spots_in banks os ss (omega arith))

pub storages_at-spots_in : (banks : ℕ) (os : List Operand) (ss : List Storage) → storages_at (spots_in banks os ss) ≡ seats_in banks os ss
storages_at-spots_in banks [] ss = refl
storages_at-spots_in banks (o ∷ os) [] = refl
storages_at-spots_in banks (o ∷ os) (s ∷ ss) = λ i. storage_is banks o s i ∷ storages_at-spots_in banks os ss i

pub placed_of-spots_in : (banks : ℕ) (os : List Operand) (ss : List Storage)
    → placed_of (spots_in banks os ss) ≡ placed_in os (seats_in banks os ss)
placed_of-spots_in banks [] ss = refl
placed_of-spots_in banks (o ∷ os) [] = refl
placed_of-spots_in banks (o ∷ os) (s ∷ ss) =
    λ i. record { object = o.object; storage = storage_is banks o s i } ∷ placed_of-spots_in banks os ss i

pub take-spots_in : (banks n : ℕ) (os : List Operand) (ss : List Storage) → take n (spots_in banks os ss) ≡ spots_in banks (take n os) ss
take-spots_in banks zero os ss = refl
take-spots_in banks (suc n) [] ss = refl
take-spots_in banks (suc n) (o ∷ os) [] = refl
take-spots_in banks (suc n) (o ∷ os) (s ∷ ss) = ap (λ (xs : List Spot). spot_at banks o s ∷ xs) (take-spots_in banks n os ss)

pub length-spots_in : (banks : ℕ) (os : List Operand) (ss : List Storage) → length os ≡ length ss → length (spots_in banks os ss) ≡ length os
length-spots_in banks [] ss e = refl
length-spots_in banks (o ∷ os) [] e = absurd (omega arith)
length-spots_in banks (o ∷ os) (s ∷ ss) e = ap suc (length-spots_in banks os ss (omega arith))

pub get_or-spots_in : (banks : ℕ) (os : List Operand) (ss : List Storage) (i : ℕ) (o : Operand) (s : Storage) (d : Spot)
    → i < length os → i < length ss → get_or (spots_in banks os ss) i d ≡ spot_at banks (get_or os i o) (get_or ss i s)
get_or-spots_in banks [] ss i o s d h k = absurd (omega arith)
get_or-spots_in banks (x ∷ os) [] i o s d h k = absurd (omega arith)
get_or-spots_in banks (x ∷ os) (y ∷ ss) zero o s d h k = refl
get_or-spots_in banks (x ∷ os) (y ∷ ss) (suc i) o s d h k = get_or-spots_in banks os ss i o s d (omega arith) (omega arith)
