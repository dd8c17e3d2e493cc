-- What is left of tasks in flight, where one of them changes, is queued, runs, finishes or leaves.
use Rattle.std.proofs.Common.{◌≡◌, ℕ, zero, suc, ◌+◌, ◌*◌, ◌≤◌, Bool, true, false, List, [], ◌∷◌, length, map, Option}
use Rattle.std.proofs.Common.{Some, None, refl, sym, ap, ◌∙◌, arith}
use Rattle.std.specs.Prelude.{cond, slice_get, slice_set}
use Rattle.std.specs.FinMap.{get, insert, remove}
use Rattle.tss_base.specs.declared.operand.OpName.{OpName}
use Rattle.tss_base.specs.declared.operand.Operand.{Operand}
use Rattle.tss_base.specs.declared.marks.Stage.{Stage}
use Rattle.tss_base.specs.declared.marks.Stage.TheVariants as stage
use Rattle.tss_base.specs.Names.{Numbered}
use Rattle.tss_maps.proofs.Keys.{nat_order}
use Rattle.tss_maps.proofs.Sums.{sum_inserted, sum_written, sum_removed}
use Rattle.tss_protocol.specs.Names.{operand_name}
use Rattle.tss_protocol.specs.Mail.{Source}
use Rattle.tss_protocol.specs.State.{OperandState, Flying}
use Rattle.tss_protocol.specs.Stations.{has_finished, is_gone, is_complete, remaining_tasks, new_operand, first_stage}
use Rattle.tss_protocol.specs.Stations.{release_of, releases_from, awaited}
use Rattle.tss_progress.proofs.bound.Measure.{messages_left, left_append, record_left, records_left, stage_left}
use Rattle.tss_progress.proofs.bound.Measure.{told_left, flying_left, flight_left}

module _ (budget : ℕ) where
  -- a task that is written anew
  pub left_flying : (flight : Numbered Flying) (n : ℕ) (x y : Flying) → get flight n ≡ Some x
      → flight_left budget (insert flight n y) + flying_left budget n x
      ≡ flight_left budget flight + flying_left budget n y
  left_flying flight n x y e = sum_written nat_order (flying_left budget) flight n x y e

  -- one that may be new
  pub left_entering : (flight : Numbered Flying) (n : ℕ) (y : Flying)
      → flight_left budget (insert flight n y) ≤ flight_left budget flight + flying_left budget n y
  left_entering flight n y =
      let i = sum_inserted nat_order (flying_left budget) flight n y in omega (arith, i)

  -- one that may leave
  pub left_remaining : (flight : Numbered Flying) (n : ℕ) (x y : Flying) → get flight n ≡ Some x
      → flight_left budget (remaining_tasks flight n y) + flying_left budget n x
      ≤ flight_left budget flight + flying_left budget n y
  left_remaining flight n x y e = by (is_gone y)
    where
      by : (b : Bool) → flight_left budget (cond b (remove flight n) (insert flight n y)) + flying_left budget n x
          ≤ flight_left budget flight + flying_left budget n y
      by true = let r = sum_removed nat_order (flying_left budget) flight n x e in omega (arith, r)
      by false = let w = left_flying flight n x y e in omega (arith, w)

-- a record that is written over
pub left_record : (finished : Bool) (rs : List OperandState) (i : ℕ) (r s : OperandState) → slice_get rs i ≡ Some r
    → records_left finished (slice_set rs i s) + record_left finished r
    ≡ records_left finished rs + record_left finished s
left_record finished [] i r s e = absurd (cc)
left_record finished (x ∷ rs) zero r s e =
    let is : x ≡ r = cc in let same = ap (record_left finished) is in omega (arith, same)
left_record finished (x ∷ rs) (suc i) r s e =
    let rest = left_record finished rs i r s e in omega (arith, rest)

-- ---- take

-- a record that was told nothing weighs 4
left_new_operands : (os : List Operand) → records_left false (map new_operand os) ≡ length os * 4
left_new_operands [] = refl
left_new_operands (o ∷ os) = let rest = left_new_operands os in omega (arith, rest)

waiting_unfinished : (os : List Operand) → has_finished (first_stage os) ≡ false
waiting_unfinished [] = refl
waiting_unfinished (o ∷ os) = refl

waiting_budget : (budget : ℕ) (os : List Operand) → stage_left budget (first_stage os) ≡ budget + 3
waiting_budget budget [] = refl
waiting_budget budget (o ∷ os) = refl

-- a task that enters, with so many operands
pub left_entered : (budget n : ℕ) (stage : Stage) (os : List Operand) → first_stage os ≡ stage
    → stage_left budget stage + records_left (has_finished stage) (map new_operand os) ≡ budget + 3 + length os * 4
left_entered budget n s os e =
    let a = ap (stage_left budget) (sym e) ∙ waiting_budget budget os in
    let b = ap (λ b. records_left b (map new_operand os)) (ap has_finished (sym e) ∙ waiting_unfinished os) in
    let d = left_new_operands os in
    omega (arith, a, b, d)

-- ---- ready

-- one that waits weighs the same when it is queued
pub left_awaited : (budget n : ℕ) (y : Flying) → y.stage ≡ stage.Waiting
    → flying_left budget n (awaited y) ≡ budget + 3 + records_left false y.operands
left_awaited budget n y waits = by (is_complete y)
  where
    by : (b : Bool)
        → flying_left budget n (cond b (record y { stage = stage.Queued }) y)
        ≡ budget + 3 + records_left false y.operands
    by true = refl
    by false = ap (λ s. stage_left budget s + records_left (has_finished s) y.operands) waits

-- ---- finish

left_release : (c : ℕ) (o : OpName) (r : OperandState) (s : Option Source)
    → messages_left c (release_of o r s) ≤ told_left false s
left_release c o r None = omega arith
left_release c o r (Some s) = omega arith

-- the releases of a task weigh no more than its operands did before
pub left_releases : (c n place : ℕ) (rs : List OperandState)
    → records_left true rs + messages_left c (releases_from n place rs) ≤ records_left false rs
left_releases c n place [] = omega arith
left_releases c n place (r ∷ rs) =
    let one = left_release c (operand_name n place) r r.source in
    let rest = left_releases c n (suc place) rs in
    let both = left_append c (release_of (operand_name n place) r r.source) (releases_from n (suc place) rs) in
    omega (arith, one, rest, both)
