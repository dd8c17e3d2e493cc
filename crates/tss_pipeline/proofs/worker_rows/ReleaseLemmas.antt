-- The releases of a task's operands from a place on, and that they may be posted one after the other.
use Rattle.std.proofs.Common.{◌≡◌, ℕ, zero, suc, ◌+◌, ◌≤◌, List, [], ◌∷◌, ◌++◌, length, drop, slice_get, Option, Some, None, refl, sym, ap, ◌∙◌, arith}
use Rattle.std.specs.Prelude.{option_and_then}
use Rattle.std.specs.FinMap.{get}
use Rattle.std.proofs.lemmas.Option.{none-some, same_Some}
use Rattle.tss_base.specs.Names.{Numbered}
use Rattle.tss_protocol.specs.Names.{operand_name}
use Rattle.tss_protocol.specs.Mail.{Mail, Message, posted, posted_all}
use Rattle.tss_protocol.specs.State.{OperandState, Flying}
use Rattle.tss_protocol.specs.Stations.{operand_at, release_of, releases_from, flight_after_finish, finished_in}
use Rattle.tss_conditions.specs.Posting.{MayPostAll}
use Rattle.tss_conditions.proofs.Postable.{post_next}
use Rattle.tss_pipeline.specs.Ending.{releases_in}

-- ---- a part of the messages

-- the first may be posted
pub may_first : (most : ℕ) (m : Mail) (xs ys : List Message) → MayPostAll most m (xs ++ ys) → MayPostAll most m xs
may_first most m [] ys h = record { fresh = tt; room = let few = h.room in omega (arith, few) }
may_first most m (x ∷ xs) ys h =
    let rest = may_first most (posted m x) xs ys (post_next most m x (xs ++ ys) h).rest in
    record {
      fresh = (h.fresh.0, rest.fresh);
      room = let few = h.room in let shorter = first_shorter xs ys in omega (arith, few, shorter);
    }
  where
    first_shorter : (xs ys : List Message) → length xs ≤ length (xs ++ ys)
    first_shorter [] ys = omega arith
    first_shorter (x ∷ xs) ys = let less = first_shorter xs ys in omega (arith, less)

-- and then the others
pub may_rest : (most : ℕ) (m : Mail) (xs ys : List Message) → MayPostAll most m (xs ++ ys)
    → MayPostAll most (posted_all m xs) ys
may_rest most m [] ys h = h
may_rest most m (x ∷ xs) ys h = may_rest most (posted m x) xs ys (post_next most m x (xs ++ ys) h).rest

-- with both it is the mail with all
pub posted_both : (m : Mail) (xs ys : List Message) → posted_all (posted_all m xs) ys ≡ posted_all m (xs ++ ys)
posted_both m [] ys = refl
posted_both m (x ∷ xs) ys = posted_both (posted m x) xs ys

-- ---- the operands from a place on

drop_at : {X : Type 0} (xs : List X) (i : ℕ) (x : X) → slice_get xs i ≡ Some x → drop i xs ≡ x ∷ drop (suc i) xs
drop_at [] i x e = absurd (none-some x e)
drop_at (w ∷ ws) zero x e = ap (λ y. y ∷ ws) (same_Some w x e)
drop_at (w ∷ ws) (suc i) x e = drop_at ws i x e

drop_past : {X : Type 0} (xs : List X) (i : ℕ) → slice_get xs i ≡ None → drop i xs ≡ []
drop_past [] zero e = refl
drop_past [] (suc i) e = refl
drop_past (w ∷ ws) zero e = absurd (none-some w (sym e))
drop_past (w ∷ ws) (suc i) e = drop_past ws i e

drop_end : {X : Type 0} (xs : List X) (i : ℕ) → length xs ≤ i → drop i xs ≡ []
drop_end [] zero few = refl
drop_end [] (suc i) few = refl
drop_end (w ∷ ws) zero few = absurd (omega (arith, few))
drop_end (w ∷ ws) (suc i) few = drop_end ws i (omega (arith, few))

module _ (task : ℕ) where
  next_in : (place : ℕ) (o : Option Flying) (r : OperandState)
      → option_and_then (λ x. slice_get x.operands place) o ≡ Some r
      → releases_in task place o ≡ release_of (operand_name task place) r r.source ++ releases_in task (suc place) o
  next_in place None r e = absurd (none-some r e)
  next_in place (Some x) r e = ap (releases_from task place) (drop_at x.operands place r e)

  none_in : (place : ℕ) (o : Option Flying) → option_and_then (λ x. slice_get x.operands place) o ≡ None
      → releases_in task place o ≡ []
  none_in place None e = refl
  none_in place (Some x) e = ap (releases_from task place) (drop_past x.operands place e)

  end_in : (place : ℕ) (o : Option Flying) → ((x : Flying) → o ≡ Some x → length x.operands ≤ place)
      → releases_in task place o ≡ []
  end_in place None few = refl
  end_in place (Some x) few = ap (releases_from task place) (drop_end x.operands place (few x refl))

  all_in : (flight : Numbered Flying) (o : Option Flying) → (finished_in flight task o).sent ≡ releases_in task 0 o
  all_in flight None = refl
  all_in flight (Some x) = refl

  module _ (flight : Numbered Flying) where
    -- that of the next operand comes first
    pub next_release : (place : ℕ) (r : OperandState) → operand_at flight (operand_name task place) ≡ Some r
        → releases_in task place (get flight task)
        ≡ release_of (operand_name task place) r r.source ++ releases_in task (place + 1) (get flight task)
    next_release place r e =
        next_in place (get flight task) r e
        ∙ ap (λ n. release_of (operand_name task place) r r.source ++ releases_in task n (get flight task))
        (after place)
      where
        after : (n : ℕ) → suc n ≡ n + 1
        after n = omega arith

    -- past the last operand there is none
    pub no_release : (place : ℕ) → operand_at flight (operand_name task place) ≡ None
        → releases_in task place (get flight task) ≡ []
    no_release place e = none_in place (get flight task) e

    pub past_releases : (place : ℕ) → ((x : Flying) → get flight task ≡ Some x → length x.operands ≤ place)
        → releases_in task place (get flight task) ≡ []
    past_releases place few = end_in place (get flight task) few

    -- from the first on there are all
    pub all_releases : (flight_after_finish flight task).sent ≡ releases_in task 0 (get flight task)
    all_releases = all_in flight (get flight task)
