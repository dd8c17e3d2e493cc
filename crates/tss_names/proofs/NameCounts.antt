-- How many there are of names that pass a test: at most one under each name, so at most one for each place of each task
-- in flight.
use Rattle.std.proofs.Common.{◌≡◌, ◌≢◌, ℕ, zero, suc, ◌+◌, ◌*◌, ◌≤◌, ◌⊎◌, inl, inr, Bool, true, false, Option, Some}
use Rattle.std.proofs.Common.{refl, sym, ap, ◌∙◌, arith, true≢false}
use Rattle.std.specs.Prelude.{◌==◌, ◌&&◌, nat_lt, is_some}
use Rattle.std.specs.Ordering.{nat_cmp}
use Rattle.std.specs.FinMap.{empty, get, insert, remove, len, get-empty}
use Rattle.std.proofs.lemmas.Bool.{and_parts}
use Rattle.std.proofs.lemmas.Bool.Decides.{nat_tests}
use Rattle.std.proofs.lemmas.Option.{none-some}
use Rattle.tss_base.specs.declared.operand.OpName.{OpName}
use Rattle.tss_base.specs.Names.{Named, Numbered}
use Rattle.tss_maps.specs.Sums.{one_if, count_of}
use Rattle.tss_maps.proofs.Keys.{nat_order, name_order, decide_key}
use Rattle.tss_maps.proofs.Changes.{decide_get, beside_inserted, from_removed}
use Rattle.tss_maps.proofs.Entries.{map_induction, len_added}
use Rattle.tss_maps.proofs.Sums.{sum_at_most, sum_both, sum_removed, sum_none, count_none, count_all}
use Rattle.tss_protocol.specs.Names.{operand_name, same_name}
use Rattle.tss_phases.proofs.Received.{own_name, other_name}

-- ---- measures

-- a test of names
abbrev pub NameTest : Type 0
NameTest = OpName → Bool

-- how many there are of the names that pass a test: none where no name passes, and no more than by two tests of which
-- each name passes one
pub record IsMeasure (many : NameTest → ℕ) : Type 0 where
  pub none : (p : NameTest) → ((o : OpName) → p o ≡ false) → many p ≡ 0
  pub either : (p q r : NameTest) → ((o : OpName) → p o ≡ true → (q o ≡ true) ⊎ (r o ≡ true)) → many p ≤ many q + many r

-- those of a map
abbrev pub those_in : {X : Type 0} → Named X → NameTest → ℕ
those_in m p = count_of (λ o x. p o) m

one_if_either : (a b c : Bool) → (a ≡ true → (b ≡ true) ⊎ (c ≡ true)) → one_if a ≤ one_if b + one_if c
one_if_either false b c h = omega arith
one_if_either true true c h = omega arith
one_if_either true false true h = omega arith
one_if_either true false false h = elim (h refl) [
  | inl e ↦ absurd (true≢false (sym e))
  | inr e ↦ absurd (true≢false (sym e))
]

-- are a measure
pub IsMeasure-map : {X : Type 0} → (m : Named X) → IsMeasure (those_in m)
IsMeasure-map {X} m = record {
  none = λ p fails. count_none name_order (λ o (x : X). p o) m (λ o x e. fails o);
  either = λ p q r h.
      let most =
      sum_at_most name_order (λ o (x : X). one_if (p o)) (λ o (x : X). one_if (q o) + one_if (r o)) m
      (λ o x e. one_if_either (p o) (q o) (r o) (h o)) in
      let both = sum_both name_order (λ o (x : X). one_if (q o)) (λ o (x : X). one_if (r o)) m in
      omega (arith, most, both);
}

-- so are those of two measures
pub IsMeasure-both : (a b : NameTest → ℕ) → IsMeasure a → IsMeasure b → IsMeasure (λ p. a p + b p)
IsMeasure-both a b f g = record {
  none = λ p fails. let x = f.none p fails in let y = g.none p fails in omega (arith, x, y);
  either = λ p q r h. let x = f.either p q r h in let y = g.either p q r h in omega (arith, x, y);
}

at_most_one : (b : Bool) → one_if b ≤ 1
at_most_one true = omega arith
at_most_one false = omega arith

-- under one name a map has one where it has something
pub those_at : {X : Type 0} → (m : Named X) (k : OpName) → those_in m (λ o. same_name o k) ≤ one_if (is_some (get m k))
those_at {X} m k = elim (decide_get m k) [
  | inl absent ↦
      let z =
      count_none name_order (λ o (x : X). same_name o k) m
      (λ o x e. other_name o k (λ same. none-some x (sym absent ∙ sym (ap (get m) same) ∙ e))) in
      omega (arith, z)
  | inr there ↦
      let f = λ (o : OpName) (x : X). one_if (same_name o k) in
      let rest =
      sum_none name_order f (remove m k)
      (λ o x e. ap one_if (other_name o k (from_removed name_order m k o x e).0)) in
      let all = sum_removed name_order f m k there.0 there.1 in
      let one = at_most_one (same_name k k) in
      let here = ap (λ x. one_if (is_some x)) there.1 in
      omega (arith, rest, all, one, here)
]

-- where each entry passes, all count
pub those_all : {X : Type 0} → (m : Named X) (p : NameTest) → ((o : OpName) (x : X) → get m o ≡ Some x → p o ≡ true)
    → those_in m p ≡ len m
those_all {X} m p each = count_all name_order (λ o (x : X). p o) m each

-- ---- few names

-- of a task, at places below one
abbrev in_task : ℕ → ℕ → NameTest
in_task task places o = (o.task == task) && nat_lt o.place places

-- of tasks with an entry
abbrev pub in_tasks : {X : Type 0} → Numbered X → ℕ → NameTest
in_tasks tasks places o = is_some (get tasks o.task) && nat_lt o.place places

no_place : (b : Bool) (n : ℕ) → (b && nat_lt n 0) ≡ false
no_place true n = grind (arith, nat_tests)
no_place false n = refl

last_place : (o : OpName) (task places : ℕ) → in_task task (suc places) o ≡ true
    → (in_task task places o ≡ true) ⊎ (same_name o (operand_name task places) ≡ true)
last_place o task places e =
    let parts = and_parts (o.task == task) (nat_lt o.place (suc places)) e in
    let same : o.task ≡ task = number_from_test o.task task parts.0 in
    elim (decide_key nat_order o.place places) [
      | inl last ↦ inr (own_by o (operand_name task places) (λ i. record { task = same i; place = last i }))
      | inr before ↦ inl (below o.task o.place task places parts.0 parts.1 before)
    ]
  where
    number_from_test : (a b : ℕ) → (a == b) ≡ true → a ≡ b
    number_from_test a b e = grind (arith, nat_tests)

    own_by : (o k : OpName) → o ≡ k → same_name o k ≡ true
    own_by o k same = ap (λ q. same_name q k) same ∙ own_name k

    below : (t n task places : ℕ) → (t == task) ≡ true → nat_lt n (suc places) ≡ true → n ≢ places
        → ((t == task) && nat_lt n places) ≡ true
    below t n task places a b apart = grind (arith, nat_tests)

there_inserted : {X : Type 0} (F : Numbered X) (k : ℕ) (v : X) (n : ℕ) (b : Bool)
    → (is_some (get (insert F k v) n) && b) ≡ true
    → ((is_some (get F n) && b) ≡ true) ⊎ (((n == k) && b) ≡ true)
there_inserted F k v n b e = elim (decide_key nat_order n k) [
  | inl same ↦ inr (both (n == k) b (is_same n k same) (and_parts (is_some (get (insert F k v) n)) b e).1)
  | inr other ↦ inl (ap (λ x. is_some x && b) (sym (beside_inserted nat_order F k v n other)) ∙ e)
]
  where
    is_same : (n k : ℕ) → n ≡ k → (n == k) ≡ true
    is_same n k e = grind (arith, nat_tests)

    both : (a b : Bool) → a ≡ true → b ≡ true → (a && b) ≡ true
    both true true e f = refl
    both true false e f = f
    both false b e f = e

-- a measure that is at most one under each name
module _ (many : NameTest → ℕ) (f : IsMeasure many) (few : (k : OpName) → many (λ o. same_name o k) ≤ 1) where
  -- at places of one task there are no more than places
  few_in_task : (task places : ℕ) → many (in_task task places) ≤ places
  few_in_task task zero = let z = f.none (in_task task 0) (λ o. no_place (o.task == task) o.place) in omega (arith, z)
  few_in_task task (suc places) =
      let k = operand_name task places in
      let step = f.either (in_task task (suc places)) (in_task task places) (λ o. same_name o k)
      (λ o e. last_place o task places e) in
      let one = few k in
      let rest = few_in_task task places in
      omega (arith, step, one, rest)

  -- and of several tasks no more than that for each
  pub few_in_tasks : {X : Type 0} → (places : ℕ) (tasks : Numbered X)
      → many (in_tasks tasks places) ≤ len tasks * places
  few_in_tasks {X} places =
      map_induction nat_order (λ tasks. many (in_tasks tasks places) ≤ len tasks * places)
      (let z = f.none (in_tasks (empty {X = X} {R = nat_cmp}) places)
      (λ o. ap (λ (x : Option X). is_some x && nat_lt o.place places) (get-empty nat_cmp o.task)) in omega (arith, z))
      (λ tasks k v new before.
      let step = f.either (in_tasks (insert tasks k v) places) (in_tasks tasks places) (in_task k places)
      (λ o e. there_inserted tasks k v o.task (nat_lt o.place places) e) in
      let one = few_in_task k places in
      let more = ap (λ n. n * places) (len_added nat_order tasks k v new) in
      omega (arith, step, one, before, more))
