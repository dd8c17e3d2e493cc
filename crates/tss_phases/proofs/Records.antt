-- Records of operands where a task in flight, or one of its operands, is changed.
use Rattle.std.proofs.Common.{◌≡◌, ◌≢◌, ℕ, zero, suc, Bool, true, false, cond, List, [], ◌∷◌, Option, Some, None, refl}
use Rattle.std.proofs.Common.{ap, ◌∙◌}
use Rattle.std.specs.Prelude.{slice_get, slice_set, option_and_then}
use Rattle.std.specs.FinMap.{get, insert, remove}
use Rattle.tss_base.specs.declared.operand.OpName.{OpName}
use Rattle.tss_base.specs.declared.marks.Stage.TheVariants as stage
use Rattle.tss_base.specs.Names.{Numbered}
use Rattle.tss_maps.proofs.Keys.{nat_order}
use Rattle.tss_maps.proofs.Changes.{at_inserted, beside_inserted, at_removed, beside_removed}
use Rattle.tss_protocol.specs.State.{OperandState, Flying}
use Rattle.tss_protocol.specs.Stations.{operand_at, with_operand, is_complete, awaited}

-- ---- lists

-- what is set at a place of a list stands there
at_set : {X : Type 0} (xs : List X) (k : ℕ) (x y : X) → slice_get xs k ≡ Some x
    → slice_get (slice_set xs k y) k ≡ Some y
at_set [] k x y e = absurd (cc)
at_set (z ∷ xs) zero x y e = refl
at_set (z ∷ xs) (suc k) x y e = at_set xs k x y e

-- at another place stands what stood there
beside_set : {X : Type 0} (xs : List X) (k j : ℕ) (y : X) → j ≢ k
    → slice_get (slice_set xs k y) j ≡ slice_get xs j
beside_set [] k j y apart = refl
beside_set (z ∷ xs) zero zero y apart = absurd (apart refl)
beside_set (z ∷ xs) zero (suc j) y apart = refl
beside_set (z ∷ xs) (suc k) zero y apart = refl
beside_set (z ∷ xs) (suc k) (suc j) y apart = beside_set xs k j y (λ e. apart (ap suc e))

-- ---- names

-- two operands of one task differ by their places
other_place : (q o : OpName) → q ≢ o → q.task ≡ o.task → q.place ≢ o.place
other_place q o apart same place = apart (λ i. record { task = same i; place = place i })

-- ---- records

-- the record at a place of a task that may be in flight
abbrev pub record_in : ℕ → Option Flying → Option OperandState
record_in place x = option_and_then (λ x. slice_get x.operands place) x

module _ (flight : Numbered Flying) where
  -- the record of an operand, by its task
  pub operand_in : (q : OpName) (x : Flying) → get flight q.task ≡ Some x
      → operand_at flight q ≡ slice_get x.operands q.place
  operand_in q x e = ap (record_in q.place) e

  -- a record is that of a task in flight
  pub task_of_record : (q : OpName) (r : OperandState) → operand_at flight q ≡ Some r
      → (x : Flying) × (get flight q.task ≡ Some x) × (slice_get x.operands q.place ≡ Some r)
  task_of_record q r e = by (get flight q.task) refl e
    where
      by : (x : Option Flying) → get flight q.task ≡ x
          → record_in q.place x ≡ Some r
          → (x : Flying) × (get flight q.task ≡ Some x) × (slice_get x.operands q.place ≡ Some r)
      by None at e = absurd (cc)
      by (Some x) at e = (x, at, e)

  -- of another task nothing is changed where one is put
  pub record_beside_put : (task : ℕ) (x : Flying) (q : OpName) → q.task ≢ task
      → operand_at (insert flight task x) q ≡ operand_at flight q
  record_beside_put task x q apart =
      ap (record_in q.place) (beside_inserted nat_order flight task x q.task apart)

  -- nor where one is removed
  pub record_beside_removal : (task : ℕ) (q : OpName) → q.task ≢ task
      → operand_at (remove flight task) q ≡ operand_at flight q
  record_beside_removal task q apart =
      ap (record_in q.place) (beside_removed nat_order flight task q.task apart)

  -- the records of a task that is put
  pub record_put : (task : ℕ) (x : Flying) (q : OpName) → q.task ≡ task
      → operand_at (insert flight task x) q ≡ slice_get x.operands q.place
  record_put task x q same =
      ap (λ t. record_in q.place (get (insert flight task x) t)) same
      ∙ ap (record_in q.place) (at_inserted nat_order flight task x)

  -- a task that is removed has none
  pub record_removed : (task : ℕ) (q : OpName) → q.task ≡ task → operand_at (remove flight task) q ≡ None
  record_removed task q same =
      ap (λ t. record_in q.place (get (remove flight task) t)) same
      ∙ ap (record_in q.place) (at_removed nat_order flight task)

-- a task that is queued has the same records
pub awaited_operands : (x : Flying) → (awaited x).operands ≡ x.operands
awaited_operands x = by (is_complete x)
  where
    by : (b : Bool) → (cond {A = Flying} b (record x { stage = stage.Queued }) x).operands ≡ x.operands
    by true = refl
    by false = refl

module _ (x : Flying) (o : OpName) (r : OperandState) where
  -- the record that is changed
  pub own_record : (k : OperandState) → slice_get x.operands o.place ≡ Some k
      → slice_get (with_operand x o.place r).operands o.place ≡ Some r
  own_record k e = at_set x.operands o.place k r e

  -- those of other operands of the task
  pub other_record : (q : OpName) → q ≢ o → q.task ≡ o.task
      → slice_get (with_operand x o.place r).operands q.place ≡ slice_get x.operands q.place
  other_record q apart same = beside_set x.operands o.place q.place r (other_place q o apart same)
