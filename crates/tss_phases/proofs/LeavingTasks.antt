-- A task that leaves has finished, and the farewells of all its operands are done. Whether it leaves or not, its
-- operands have the phases that its records give.
use Rattle.std.proofs.Common.{◌≡◌, ◌≢◌, ℕ, zero, suc, Bool, true, false, List, [], ◌∷◌, Option, Some, None, refl, sym}
use Rattle.std.proofs.Common.{ap, ◌∙◌}
use Rattle.std.specs.Prelude.{slice_get, if◌then◌else◌}
use Rattle.std.specs.List.{list_all}
use Rattle.std.specs.FinMap.{insert, remove}
use Rattle.std.proofs.lemmas.Option.{none-some, same_Some}
use Rattle.tss_base.specs.declared.operand.OpName.{OpName}
use Rattle.tss_base.specs.declared.marks.Farewell.{Farewell}
use Rattle.tss_base.specs.declared.marks.Farewell.TheVariants as farewell
use Rattle.tss_base.specs.Names.{Numbered}
use Rattle.tss_protocol.specs.State.{OperandState, Flying}
use Rattle.tss_protocol.specs.Stations.{operand_at, has_left, has_finished, is_gone, remaining_tasks}
use Rattle.tss_phases.specs.Phase.{Left, record_phase, station_phase}
use Rattle.tss_phases.specs.Leaving.{HaveLeft, IsDone}
use Rattle.tss_phases.proofs.Records.{record_beside_put, record_beside_removal, record_put, record_removed}
use Rattle.tss_phases.proofs.Tests.{both}

left_from_test : (f : Farewell) → has_left f ≡ true → f ≡ farewell.Left
left_from_test farewell.Nothing e = absurd (cc)
left_from_test farewell.Promised e = absurd (cc)
left_from_test farewell.Left e = refl

each_left : (rs : List OperandState) (k : ℕ) (r : OperandState) → list_all (λ r. has_left r.farewell) rs ≡ true
    → slice_get rs k ≡ Some r → r.farewell ≡ farewell.Left
each_left [] k r all e = absurd (none-some r e)
each_left (x ∷ rs) zero r all e =
    ap (λ (r : OperandState). r.farewell) (sym (same_Some x r e))
    ∙ left_from_test x.farewell (both (has_left x.farewell) (list_all (λ r. has_left r.farewell) rs) all).0
each_left (x ∷ rs) (suc k) r all e =
    each_left rs k r (both (has_left x.farewell) (list_all (λ r. has_left r.farewell) rs) all).1 e

-- what the test says
pub done_from_test : (x : Flying) → is_gone x ≡ true → IsDone x
done_from_test x e =
    let tests = both (has_finished x.stage) (list_all (λ r. has_left r.farewell) x.operands) e in
    record { finished = tests.0; left = λ k r at. each_left x.operands k r tests.1 at }

module _ (flight : Numbered Flying) (task : ℕ) (x : Flying) where
  -- the records of other tasks stay as they were
  pub remaining_beside : (q : OpName) → q.task ≢ task
      → operand_at (remaining_tasks flight task x) q ≡ operand_at flight q
  remaining_beside q apart = by (is_gone x)
    where
      by : (b : Bool) → operand_at (if b then remove flight task else insert flight task x) q ≡ operand_at flight q
      by true = record_beside_removal flight task q apart
      by false = record_beside_put flight task x q apart

  -- whether the task leaves or not, its operands have the phases that its records give
  pub remaining_phase : (q : OpName) → q.task ≡ task
      → station_phase (operand_at (remaining_tasks flight task x) q) false
      ≡ station_phase (slice_get x.operands q.place) false
  remaining_phase q same = by (is_gone x) refl
    where
      left_place : (r : Option OperandState) → slice_get x.operands q.place ≡ r → HaveLeft x
          → Left ≡ station_phase r false
      left_place None at left = refl
      left_place (Some r) at left = λ i. record_phase (sym (left q.place r at) i) r.source

      by : (b : Bool) → is_gone x ≡ b
          → station_phase (operand_at (if b then remove flight task else insert flight task x) q) false
          ≡ station_phase (slice_get x.operands q.place) false
      by true g =
          ap (λ r. station_phase r false) (record_removed flight task q same)
          ∙ left_place (slice_get x.operands q.place) refl (done_from_test x g).left
      by false g = ap (λ r. station_phase r false) (record_put flight task x q same)

  -- a name that no operand of the task has is without a record, whether the task leaves or not
  pub remaining_absent : (q : OpName) → q.task ≡ task → slice_get x.operands q.place ≡ None
      → operand_at (remaining_tasks flight task x) q ≡ None
  remaining_absent q same none = by (is_gone x)
    where
      by : (b : Bool) → operand_at (if b then remove flight task else insert flight task x) q ≡ None
      by true = record_removed flight task q same
      by false = record_put flight task x q same ∙ none
