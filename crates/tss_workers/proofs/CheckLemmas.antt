-- What the tests of a task's conditions show.
use Rattle.std.proofs.Common.{◌≡◌, ℕ, suc, ◌<◌, ◌≤◌, Bool, true, false, List, [], ◌∷◌, length, Some, refl, ap, subst, ◌∙◌, arith}
use Rattle.std.specs.Prelude.{not, slice_get, IsSome}
use Rattle.std.specs.List.{list_all}
use Rattle.std.specs.FinMap.{get}
use Rattle.std.proofs.lemmas.Bool.{and_from, not_from_false}
use Rattle.std.proofs.lemmas.List.Folds.{list_all-map}
use Rattle.std.proofs.lemmas.Option.{slice_get_within}
use Rattle.tss_base.specs.declared.bounds.TheConstants.{MAX_OPERANDS}
use Rattle.tss_base.specs.declared.operand.OpName.{OpName}
use Rattle.tss_base.specs.declared.operand.Storage.{Storage}
use Rattle.tss_base.specs.declared.operand.Task.{Task}
use Rattle.tss_base.specs.Names.{Named}
use Rattle.tss_base.specs.Range.{meets}
use Rattle.tss_model.specs.Memory.{MemoryRange, scratch_range}
use Rattle.tss_memory.specs.Ranges.{AreRanges}
use Rattle.tss_protocol.specs.Mail.{Buffer}
use Rattle.tss_protocol.specs.Workers.{Placed}
use Rattle.tss_steps.specs.Placing.{IsGround, beside_scratch, is_placed}
use Rattle.tss_buffers.specs.Contents.{BuffersState}
use Rattle.tss_workers.specs.Seats.{AreApart, AreSeated, AreSet, FitsIn, placed_by}
use Rattle.tss_workers.specs.Spots.{AreSpotsOf, AreWorkable, operand_at, placed_of, storage_at}
use Rattle.tss_workers.specs.Seen.{CanWork}
use Rattle.tss_workers.specs.declared.spots.Spot.{Spot}
use Rattle.tss_workers.proofs.SpotLemmas.{spot_there}

-- what passes at each place passes as a whole
all_from : {A : Type 0} (p : A → Bool) (xs : List A) → ((k : ℕ) (x : A) → slice_get xs k ≡ Some x → p x ≡ true) → list_all p xs ≡ true
all_from p [] each = refl
all_from p (x ∷ xs) each = and_from (p x) (list_all p xs) (each 0 x refl) (all_from p xs (λ k y e. each (suc k) y e))

-- ranges of memory that each lie beside the scratch
pub beside_from : (ranges : List MemoryRange) (n : ℕ) → length ranges ≤ n
    → ((k : ℕ) (m : MemoryRange) → k < n → slice_get ranges k ≡ Some m → meets m.range scratch_range ≡ false)
    → beside_scratch ranges ≡ true
beside_from ranges n few each =
    all_from (λ m. not (meets m.range scratch_range)) ranges (λ k m e.
    let within = slice_get_within ranges k m e in
    not_from_false (meets m.range scratch_range) (each k m (omega (arith, within, few)) e))

-- ---- spots in buffers

pub seated_from : (b : BuffersState) (spots : List Spot)
    → ((k : ℕ) (s : Spot) (n : OpName) → slice_get spots k ≡ Some s → storage_at s.seat ≡ Buffer n → FitsIn b n s.object.len)
    → AreSeated b (placed_of spots)
seated_from b spots each i p n e its =
    let s = spot_there spots i p e in
    subst (λ (p : Placed). FitsIn b n p.object.len) s.2 (each i s.0 n s.1 (ap (λ (p : Placed). p.storage) s.2 ∙ its))

pub set_from : (contents : Named (List ℕ)) (spots : List Spot)
    → ((k : ℕ) (s : Spot) (n : OpName) → slice_get spots k ≡ Some s → storage_at s.seat ≡ Buffer n → IsSome (get contents n))
    → AreSet contents (placed_of spots)
set_from contents spots each i p n e its =
    let s = spot_there spots i p e in
    each i s.0 n s.1 (ap (λ (p : Placed). p.storage) s.2 ∙ its)

-- all of it
pub workable_from : (ranges : List MemoryRange) (b : BuffersState) (spots : List Spot) → AreRanges ranges → beside_scratch ranges ≡ true
    → list_all (λ s. is_placed ranges (operand_at s)) spots ≡ true → AreApart (placed_of spots) → AreSeated b (placed_of spots)
    → AreSet b.contents (placed_of spots) → AreWorkable ranges b spots
workable_from ranges b spots are beside placed apart seated set = record {
  ground = record { are = are; beside = beside; placed = list_all-map (is_placed ranges) operand_at spots ∙ placed };
  apart = apart;
  seated = seated;
  set = set;
}

-- ---- tasks

-- what holds of the spots of a task's operands holds of the task
module _ (ranges : List MemoryRange) (b : BuffersState) (t : Task) (storages : List Storage) (spots : List Spot)
    (banks : ℕ) (same : banks ≡ b.banks) (are : AreSpotsOf banks t storages spots) (works : AreWorkable ranges b spots) where
  placed : placed_of spots ≡ placed_by b.banks t storages
  placed = are.placed ∙ ap (λ n. placed_by n t storages) same

  pub can_work_by : t.count ≤ MAX_OPERANDS → CanWork ranges b t storages
  can_work_by count = record {
    count = count;
    ground = subst (IsGround ranges) are.operands works.ground;
    apart = subst AreApart placed works.apart;
    seated = subst (AreSeated b) placed works.seated;
  }

  pub are_set_by : AreSet b.contents (placed_by b.banks t storages)
  are_set_by = subst (AreSet b.contents) placed works.set
