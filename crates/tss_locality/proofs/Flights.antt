-- What a change of one task in flight leaves of the others, and of the records of its operands beyond the scope.
use Rattle.std.proofs.Common.{◌≡◌, ◌≢◌, ℕ, zero, suc, Bool, true, false, cond, List, [], ◌∷◌, length, Option, Some}
use Rattle.std.proofs.Common.{None, refl, sym, ap, ◌∙◌, subst, inl, inr, ◌⊎◌}
use Rattle.std.specs.Prelude.{slice_get, slice_set, option_and_then, map}
use Rattle.std.specs.List.{list_all}
use Rattle.std.specs.FinMap.{get, insert, remove}
use Rattle.std.proofs.lemmas.Option.{none-some, same_Some}
use Rattle.std.proofs.lemmas.Bool.{and_parts}
use Rattle.std.proofs.lemmas.List.{length-set}
use Rattle.tss_base.specs.declared.operand.OpName.{OpName}
use Rattle.tss_base.specs.Names.{Numbered}
use Rattle.tss_maps.proofs.Keys.{nat_order, decide_key}
use Rattle.tss_maps.proofs.Changes.{at_inserted, beside_inserted, at_removed, beside_removed}
use Rattle.tss_protocol.specs.Names.{operand_name}
use Rattle.tss_protocol.specs.State.{OperandState, Flying}
use Rattle.tss_protocol.specs.Stations.{operand_at, has_left, has_finished, is_gone, remaining_tasks, with_operand}
use Rattle.tss_locality.specs.Agreement.{Beyond, SameShape, IsOut}
use Rattle.tss_locality.specs.Scopes.{Scope, beyond}
use Rattle.tss_locality.proofs.Agreements.{agree_inserted, agree_removed}
use Rattle.tss_locality.proofs.States.{FlightOn, shape_same}

-- what stands beside the place of a list that is set
slice_get-set_other : {X : Type 0} (xs : List X) (i j : ℕ) (v : X) → j ≢ i →
    slice_get (slice_set xs i v) j ≡ slice_get xs j
slice_get-set_other [] i j v apart = refl
slice_get-set_other (x ∷ xs) zero zero v apart = absurd (apart refl)
slice_get-set_other (x ∷ xs) zero (suc j) v apart = refl
slice_get-set_other (x ∷ xs) (suc i) zero v apart = refl
slice_get-set_other (x ∷ xs) (suc i) (suc j) v apart = slice_get-set_other xs i j v (λ e. apart (ap suc e))

-- what stands in a list that is set was put there, or stood there before
pub from_set : {X : Type 0} (xs : List X) (i j : ℕ) (v y : X) → slice_get (slice_set xs i v) j ≡ Some y →
    ((j ≡ i) × (y ≡ v)) ⊎ (slice_get xs j ≡ Some y)
from_set [] i j v y e = absurd (none-some y e)
from_set (x ∷ xs) zero zero v y e = inl (refl, sym (same_Some v y e))
from_set (x ∷ xs) zero (suc j) v y e = inr e
from_set (x ∷ xs) (suc i) zero v y e = inr e
from_set (x ∷ xs) (suc i) (suc j) v y e = elim (from_set xs i j v y e) [
  | inl new ↦ inl (ap suc new.0, new.1)
  | inr old ↦ inr old
]

-- what stands in a list that is mapped
pub from_mapped : {X Y : Type 0} (f : X → Y) (xs : List X) (k : ℕ) (y : Y) → slice_get (map f xs) k ≡ Some y →
    (x : X) × (slice_get xs k ≡ Some x) × (f x ≡ y)
from_mapped f [] k y e = absurd (none-some y e)
from_mapped f (x ∷ xs) zero y e = (x, refl, same_Some (f x) y e)
from_mapped f (x ∷ xs) (suc k) y e = from_mapped f xs k y e

-- where all have left, each that is there is out
all_out : (rs : List OperandState) (k : ℕ) → list_all (λ r. has_left r.farewell) rs ≡ true →
    (slice_get rs k ≡ None) ⊎ IsOut (slice_get rs k)
all_out [] k e = inl refl
all_out (r ∷ rs) zero e = inr (and_parts (has_left r.farewell) (list_all (λ r. has_left r.farewell) rs) e).0
all_out (r ∷ rs) (suc k) e = all_out rs k (and_parts (has_left r.farewell) (list_all (λ r. has_left r.farewell) rs) e).1

-- a task's change leaves the task, the number of its operands, and their records beyond the scope
pub record KeepsTask (c : Scope) (n : ℕ) (x y : Flying) : Type 0 where
  pub task : y.task ≡ x.task
  pub operands : length y.operands ≡ length x.operands
  pub records : (k : ℕ) → Beyond c.names (operand_name n k) → slice_get y.operands k ≡ slice_get x.operands k

-- what no operand's record is changed by
pub keeps_records : (c : Scope) (n : ℕ) (x y : Flying) → y.task ≡ x.task → y.operands ≡ x.operands → KeepsTask c n x y
keeps_records c n x y task same = record {
  task = task;
  operands = ap length same;
  records = λ k out. ap (λ rs. slice_get rs k) same;
}

-- a record of the scope is changed
pub keeps_with_operand : (c : Scope) (o : OpName) (x : Flying) (r : OperandState) → c.names o →
    KeepsTask c o.task x (with_operand x o.place r)
keeps_with_operand c o x r p = record {
  task = refl;
  operands = length-set x.operands o.place r;
  records = λ k out. slice_get-set_other x.operands o.place k r
      (λ same. out (subst (λ k. c.names (operand_name o.task k)) (sym same) p));
}

-- the record of an operand in its task
abbrev pub record_in : ℕ → Option Flying → Option OperandState
record_in k x = option_and_then (λ x. slice_get x.operands k) x

module _ (c : Scope) (f : Numbered Flying) (n : ℕ) (x y : Flying) (own : c.tasks n) (there : get f n ≡ Some x)
    (kept : KeepsTask c n x y) where
  shape_between : (a b : Option Flying) → a ≡ Some x → b ≡ Some y → SameShape a b
  shape_between a b ea eb =
      subst (λ a. SameShape a b) (sym ea) (subst (λ b. SameShape (Some x) b) (sym eb) (kept.task, kept.operands))

  beyond_at : (o : OpName) → o.task ≡ n → Beyond c.names o → Beyond c.names (operand_name n o.place)
  beyond_at o same out p = out (subst (λ n. c.names (operand_name n o.place)) (sym same) p)

  old_record : (o : OpName) → o.task ≡ n → operand_at f o ≡ slice_get x.operands o.place
  old_record o same = ap (record_in o.place) (ap (get f) same ∙ there)

  -- the task is changed
  pub flight_inserted : FlightOn (beyond c) f (insert f n y)
  flight_inserted = record {
    flight = agree_inserted nat_order c.tasks f n y own;
    shapes = λ q. elim (decide_key nat_order q n) [
      | inl same ↦ shape_between (get f q) (get (insert f n y) q) (ap (get f) same ∙ there)
          (ap (get (insert f n y)) same ∙ at_inserted nat_order f n y)
      | inr apart ↦
          subst (SameShape (get f q)) (sym (beside_inserted nat_order f n y q apart)) (shape_same (get f q))
    ];
    operands = λ o out. inl (elim (decide_key nat_order o.task n) [
      | inl same ↦
          ap (record_in o.place) (ap (get (insert f n y)) same ∙ at_inserted nat_order f n y)
          ∙ kept.records o.place (beyond_at o same out) ∙ sym (old_record o same)
      | inr apart ↦ ap (record_in o.place) (beside_inserted nat_order f n y o.task apart)
    ]);
  }

  left_at : (o : OpName) → o.task ≡ n → Beyond c.names o → is_gone y ≡ true →
      (operand_at f o ≡ None) ⊎ IsOut (operand_at f o)
  left_at o same out gone =
      subst (λ r. (r ≡ None) ⊎ IsOut r)
      (kept.records o.place (beyond_at o same out) ∙ sym (old_record o same))
      (all_out y.operands o.place (and_parts (has_finished y.stage) (list_all (λ r. has_left r.farewell) y.operands)
      gone).1)

  no_record : (o : OpName) → o.task ≡ n → operand_at (remove f n) o ≡ None
  no_record o same = ap (record_in o.place) (ap (get (remove f n)) same ∙ at_removed nat_order f n)

  shape_none : (a : Option Flying) → SameShape a None
  shape_none None = tt
  shape_none (Some x) = tt

  -- the task leaves
  flight_removed : is_gone y ≡ true → FlightOn (beyond c) f (remove f n)
  flight_removed gone = record {
    flight = agree_removed nat_order c.tasks f n own;
    shapes = λ q. elim (decide_key nat_order q n) [
      | inl same ↦ subst (SameShape (get f q)) (sym (ap (get (remove f n)) same ∙ at_removed nat_order f n))
          (shape_none (get f q))
      | inr apart ↦ subst (SameShape (get f q)) (sym (beside_removed nat_order f n q apart)) (shape_same (get f q))
    ];
    operands = λ o out. elim (decide_key nat_order o.task n) [
      | inl same ↦ elim (left_at o same out gone) [
        | inl none ↦ inl (no_record o same ∙ sym none)
        | inr left ↦ inr (left, no_record o same)
      ]
      | inr apart ↦ inl (ap (record_in o.place) (beside_removed nat_order f n o.task apart))
    ];
  }

  remaining_by : (b : Bool) → is_gone y ≡ b → FlightOn (beyond c) f (cond b (remove f n) (insert f n y))
  remaining_by true gone = flight_removed gone
  remaining_by false gone = flight_inserted

  -- the task is changed, or leaves
  pub flight_remaining : FlightOn (beyond c) f (remaining_tasks f n y)
  flight_remaining = remaining_by (is_gone y) refl
