-- The objects of a round's operands, with one more task; that named objects are apart, and that a decode finds an entry
-- of its own object.
use Rattle.std.proofs.Common.{◌≡◌, ℕ, zero, suc, ◌<◌, Bool, true, false, List, [], ◌∷◌, ◌++◌, Option, Some, None, refl}
use Rattle.std.proofs.Common.{sym, ap, inl, inr, ◌⊎◌, arith}
use Rattle.std.specs.Prelude.{◌==◌, cond, max, min, slice_get}
use Rattle.std.proofs.lemmas.Bool.{lt-ltb}
use Rattle.std.proofs.lemmas.Option.{none-some, same_Some}
use Rattle.tss_base.specs.declared.range.Range.{Range}
use Rattle.tss_base.specs.declared.operand.OpName.{OpName}
use Rattle.tss_base.specs.declared.operand.Operand.{Operand}
use Rattle.tss_base.specs.declared.operand.Task.{Task}
use Rattle.tss_base.specs.Range.{end_of, meets, Covers}
use Rattle.tss_model.specs.Access.{operands_of}
use Rattle.tss_protocol.specs.State.{State}
use Rattle.tss_locality.specs.Agreement.{operand_in}
use Rattle.tss_locality.specs.Concerns.{FindsOwn}
use Rattle.tss_locality.specs.Rounds.{object_or, object_in, IsIn, IsTaskOf, AreSeparate, IsRounded}

-- an operand in the inbox's task is one of the task's
pub arrival_operand : (t : Task) (o : OpName) (p : Operand) → operand_in (Some t) o ≡ Some p →
    slice_get (operands_of t) o.place ≡ Some p
arrival_operand t o p e = by (t.number == o.task) refl e
  where
    by : (b : Bool) → (t.number == o.task) ≡ b → cond b (slice_get (operands_of t) o.place) None ≡ Some p →
        slice_get (operands_of t) o.place ≡ Some p
    by true same e = e
    by false other e = absurd (none-some p e)

-- a task of the list that has the operand
pub record FoundIn (ts : List Task) (o : OpName) (x : Range) : Type 0 where
  pub place : ℕ
  pub task : Task
  pub operand : Operand
  pub there : slice_get ts place ≡ Some task
  pub arrives : operand_in (Some task) o ≡ Some operand
  pub object : operand.object ≡ x

found_by : (t : Task) (ts : List Task) (o : OpName) (x : Range) → (object_in ts o ≡ Some x → FoundIn ts o x) →
    (p : Option Operand) → operand_in (Some t) o ≡ p → object_or p (object_in ts o) ≡ Some x → FoundIn (t ∷ ts) o x
found_by t ts o x rest (Some p) at e = record {
  place = 0;
  task = t;
  operand = p;
  there = refl;
  arrives = at;
  object = same_Some p.object x e;
}
found_by t ts o x rest None at e =
    let f = rest e in
    record {
      place = suc f.place;
      task = f.task;
      operand = f.operand;
      there = f.there;
      arrives = f.arrives;
      object = f.object;
    }

-- a name with an object is of one of the tasks
pub found_in_round : (ts : List Task) (o : OpName) (x : Range) → object_in ts o ≡ Some x → FoundIn ts o x
found_in_round [] o x e = absurd (none-some x e)
found_in_round (t ∷ ts) o x e = found_by t ts o x (found_in_round ts o x) (operand_in (Some t) o) refl e

-- ---- one more task

more_by : (p : Option Operand) (a b : Option Range) (x : Range) → (a ≡ Some x → b ≡ Some x) →
    object_or p a ≡ Some x → object_or p b ≡ Some x
more_by None a b x step e = step e
more_by (Some p) a b x step e = e

-- names keep their objects
pub object_in-more : (ts : List Task) (t : Task) (o : OpName) (x : Range) → object_in ts o ≡ Some x →
    object_in (ts ++ t ∷ []) o ≡ Some x
object_in-more [] t o x e = absurd (none-some x e)
object_in-more (u ∷ ts) t o x e =
    more_by (operand_in (Some u) o) (object_in ts o) (object_in (ts ++ t ∷ []) o) x (object_in-more ts t o x) e

new_by : (p : Option Operand) (a b : Option Range) (x : Range) → (a ≡ None → b ≡ Some x) → object_or p a ≡ None →
    object_or p b ≡ Some x
new_by None a b x step e = step e
new_by (Some p) a b x step e = absurd (none-some p.object (sym e))

-- and a name without one gets that of the task's operand
pub object_in-new : (ts : List Task) (t : Task) (o : OpName) (p : Operand) → object_in ts o ≡ None →
    operand_in (Some t) o ≡ Some p → object_in (ts ++ t ∷ []) o ≡ Some p.object
object_in-new [] t o p none at = ap (λ q. object_or q None) at
object_in-new (u ∷ ts) t o p none at =
    new_by (operand_in (Some u) o) (object_in ts o) (object_in (ts ++ t ∷ []) o) p.object
    (λ none. object_in-new ts t o p none at) none

-- a task of the longer list
pub from_longer : (ts : List Task) (t : Task) (k : ℕ) (u : Task) → slice_get (ts ++ t ∷ []) k ≡ Some u →
    (slice_get ts k ≡ Some u) ⊎ (t ≡ u)
from_longer [] t zero u e = inr (same_Some t u e)
from_longer [] t (suc k) u e = absurd (none-some u e)
from_longer (x ∷ ts) t zero u e = inl e
from_longer (x ∷ ts) t (suc k) u e = from_longer ts t k u e

-- the tasks of a list are tasks of the longer one
pub in_longer : (ts : List Task) (t : Task) (u : Task) → IsTaskOf ts u → IsTaskOf (ts ++ t ∷ []) u
in_longer [] t u h = absurd (none-some u h.1)
in_longer (x ∷ ts) t u (zero, e) = (0, e)
in_longer (x ∷ ts) t u (suc k, e) = let h = in_longer ts t u (k, e) in (suc h.0, h.1)

-- and so is the new one
pub last_of_longer : (ts : List Task) (t : Task) → IsTaskOf (ts ++ t ∷ []) t
last_of_longer [] t = (0, refl)
last_of_longer (x ∷ ts) t = let h = last_of_longer ts t in (suc h.0, h.1)

-- ---- apart

-- two ranges with addresses and one base meet
meet_at_base : (x y : Range) → 0 < x.len → 0 < y.len → x.base ≡ y.base → meets x y ≡ true
meet_at_base x y long longer same = lt-ltb (max x.base y.base) (min (end_of x) (end_of y))
    (omega (arith, long, longer, same))

-- two ranges that share an address meet
meet_at_address : (x y : Range) (a : ℕ) → Covers x a → Covers y a → meets x y ≡ true
meet_at_address x y a in_x in_y =
    lt-ltb (max x.base y.base) (min (end_of x) (end_of y)) (omega (arith, in_x.0, in_x.1, in_y.0, in_y.1))

module _ (epoch : List Range) (separate : AreSeparate epoch) (x y : Range) (in_x : IsIn x epoch) (in_y : IsIn y epoch)
  where
    -- two named objects with one base are one
    pub one_at_base : x.base ≡ y.base → x ≡ y
    one_at_base same =
        separate.one x y in_x in_y (meet_at_base x y (separate.some x in_x) (separate.some y in_y) same)

    -- and two that aren't one share no address
    pub no_address_shared : (x ≡ y → ⊥) → (a : ℕ) → Covers x a → Covers y a → ⊥
    no_address_shared other a covered covers = other (separate.one x y in_x in_y (meet_at_address x y a covered covers))

-- in a state with a round the entry that decode finds is of its operand's very object, since both are named
pub finds_own : (S : State) (ts : List Task) → IsRounded S ts → (o : OpName) → FindsOwn S o
finds_own S ts r o p e there at =
    one_at_base S.main.epoch r.separate e.object p.object (r.named.entered p.object.base e at)
    (r.named.decoding o p there) (r.within.named.entries p.object.base e at).1
