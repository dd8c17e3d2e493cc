-- The numbers of the tasks that the gateway holds: each is that of one of its operands, they rise, and there are no
-- more of them than of any numbers that have all of these.
use Rattle.std.proofs.Common.{◌≡◌, ◌≢◌, ℕ, zero, suc, ◌≤◌, ◌<◌, ◌⊎◌, inl, inr, Bool, true, false, List, [], ◌∷◌, length}
use Rattle.std.proofs.Common.{refl, sym, ap, ◌∙◌, subst, arith}
use Rattle.std.specs.Prelude.{◌==◌, ◌&&◌, T, map, if◌then◌else◌, slice_get, slice_index_or, Some}
use Rattle.std.specs.List.{All, AllPairs, Any}
use Rattle.std.specs.declared.cmp.Ordering.{Ordering}
use Rattle.std.specs.declared.cmp.Ordering.TheVariants.{Less, Equal, Greater}
use Rattle.std.specs.Ordering.{is_lt, nat_cmp, ordering_then}
use Rattle.std.specs.Cmp.{ranked}
use Rattle.std.proofs.lemmas.Bool.Decides.{nat_tests}
use Rattle.std.proofs.lemmas.List.{length-map}
use Rattle.std.specs.FinMap.{get, keys, entries, entries_sorted}
use Rattle.std.specs.FinMap.Entries.{below_all, is_sorted}
use Rattle.tss_base.specs.declared.operand.OpName.{OpName}
use Rattle.tss_base.specs.Names.{Named, name_cmp}
use Rattle.tss_maps.specs.Ordered.{key_at}
use Rattle.tss_maps.proofs.Keys.{name_order, below_from_less}
use Rattle.tss_maps.proofs.OrderedLemmas.{key_from_get, key_there}
use Rattle.tss_protocol.specs.Gateway.{HeldTask, first_held, held_before, runs_of, held_tasks}

first_true : (a b : Bool) → T (a && b) → T a
first_true true b p = tt
first_true false b p = absurd p

second_true : (a b : Bool) → T (a && b) → T b
second_true true b p = p
second_true false b p = absurd p

-- ---- numbers in a list

-- the number is one of them
abbrev pub IsAmong : ℕ → List ℕ → Type 0
IsAmong n [] = ⊥
IsAmong n (k ∷ ks) = (k ≡ n) ⊎ IsAmong n ks

-- it is below each of them
abbrev IsBelow : ℕ → List ℕ → Type 0
IsBelow n ks = (k : ℕ) → IsAmong k ks → n < k

-- each is below all that follow
abbrev Rise : List ℕ → Type 0
Rise [] = Unit {0}
Rise (k ∷ ks) = IsBelow k ks × Rise ks

-- a list without one of its numbers
cut : (n : ℕ) (ks : List ℕ) → IsAmong n ks
    → (js : List ℕ) × (length ks ≡ suc (length js)) × ((j : ℕ) → j ≢ n → IsAmong j ks → IsAmong j js)
cut n [] h = absurd h
cut n (k ∷ ks) (inl same) =
    (ks, refl, λ j other h. elim h [ inl is ↦ absurd (other (sym is ∙ same)) | inr rest ↦ rest ])
cut n (k ∷ ks) (inr h) =
    let r = cut n ks h in (
      k ∷ r.0,
      ap suc r.1,
      λ j other h. elim h [ inl is ↦ inl is | inr rest ↦ inr (r.2 j other rest) ],
    )

-- numbers that rise, all of them among others, are no more than these
few_among : (ks js : List ℕ) → Rise ks → ((n : ℕ) → IsAmong n ks → IsAmong n js) → length ks ≤ length js
few_among [] js rise within = omega arith
few_among (k ∷ ks) js rise within =
    let r = cut k js (within k (inl refl)) in
    let rest = few_among ks r.0 rise.1
    (λ n h. r.2 n (λ same. let below = rise.0 n h in omega (arith, same, below)) (within n (inr h))) in
    let longer = r.1 in
    omega (arith, rest, longer)

-- as positions
pub any_among : (n : ℕ) (ks : List ℕ) → IsAmong n ks → Any (λ k. k ≡ n) ks
any_among n [] h = absurd h
any_among n (k ∷ ks) (inl same) = (0, k, omega arith, refl, same)
any_among n (k ∷ ks) (inr h) = let r = any_among n ks h in (suc r.0, r.1, omega (arith, r.2), r.3, r.4)

among_at : (ks : List ℕ) (i d : ℕ) → i < length ks → IsAmong (slice_index_or ks i d) ks
among_at [] i d h = absurd (omega (arith, h))
among_at (k ∷ ks) zero d h = inl refl
among_at (k ∷ ks) (suc i) d h = inr (among_at ks i d (omega (arith, h)))

pub all_among : (P : ℕ → Type 0) (ks : List ℕ) → ((n : ℕ) → IsAmong n ks → P n) → All P ks
all_among P ks each i d within = each (slice_index_or ks i d) (among_at ks i d within)

pub pairs_rise : (ks : List ℕ) → Rise ks → AllPairs (λ n k. n < k) ks
pairs_rise [] rise i j d before within = absurd (omega (arith, within))
pairs_rise (k ∷ ks) rise zero zero d before within = absurd (omega (arith, before))
pairs_rise (k ∷ ks) rise zero (suc j) d before within =
    rise.0 (slice_index_or ks j d) (among_at ks j d (omega (arith, within)))
pairs_rise (k ∷ ks) rise (suc i) zero d before within = absurd (omega (arith, before))
pairs_rise (k ∷ ks) rise (suc i) (suc j) d before within =
    pairs_rise ks rise.1 i j d (omega (arith, before)) (omega (arith, within))

-- ---- the tasks of runs

abbrev numbers_of : List HeldTask → List ℕ
numbers_of hs = map (λ h. h.task) hs

abbrev tasks_of : List OpName → List ℕ
tasks_of os = map (λ (o : OpName). o.task) os

-- one more name adds no other task
from_before : (o : OpName) (hs : List HeldTask) (n : ℕ) → IsAmong n (numbers_of (held_before o hs))
    → (o.task ≡ n) ⊎ IsAmong n (numbers_of hs)
from_before o [] n h = h
from_before o (x ∷ hs) n h = by (o.task == x.task) refl h
  where
    by : (b : Bool) → (o.task == x.task) ≡ b
        → IsAmong n (numbers_of
        (if b then record x { operands = suc x.operands } ∷ hs else first_held o.task ∷ x ∷ hs))
        → (o.task ≡ n) ⊎ IsAmong n (numbers_of (x ∷ hs))
    by true e h = inr h
    by false e h = h

-- and keeps those that are there
into_before : (o : OpName) (hs : List HeldTask) (n : ℕ) → (o.task ≡ n) ⊎ IsAmong n (numbers_of hs)
    → IsAmong n (numbers_of (held_before o hs))
into_before o [] n h = h
into_before o (x ∷ hs) n h = by (o.task == x.task) refl h
  where
    by : (b : Bool) → (o.task == x.task) ≡ b → (o.task ≡ n) ⊎ IsAmong n (numbers_of (x ∷ hs))
        → IsAmong n (numbers_of
        (if b then record x { operands = suc x.operands } ∷ hs else first_held o.task ∷ x ∷ hs))
    by true e (inl own) = let same : o.task ≡ x.task = grind (arith, nat_tests, e) in inl (sym same ∙ own)
    by true e (inr h) = h
    by false e h = h

-- the tasks of runs are those of the names
from_runs : (os : List OpName) (n : ℕ) → IsAmong n (numbers_of (runs_of os)) → IsAmong n (tasks_of os)
from_runs [] n h = h
from_runs (o ∷ os) n h = elim (from_before o (runs_of os) n h) [
  | inl own ↦ inl own
  | inr rest ↦ inr (from_runs os n rest)
]

into_runs : (os : List OpName) (n : ℕ) → IsAmong n (tasks_of os) → IsAmong n (numbers_of (runs_of os))
into_runs [] n h = h
into_runs (o ∷ os) n (inl own) = into_before o (runs_of os) n (inl own)
into_runs (o ∷ os) n (inr h) = into_before o (runs_of os) n (inr (into_runs os n h))

-- ---- runs rise

-- no task comes before one of an earlier name
abbrev TasksRise : List OpName → Type 0
TasksRise [] = Unit {0}
TasksRise (o ∷ os) = ((n : ℕ) → IsAmong n (tasks_of os) → o.task ≤ n) × TasksRise os

before_rises : (o : OpName) (hs : List HeldTask) → ((n : ℕ) → IsAmong n (numbers_of hs) → o.task ≤ n)
    → Rise (numbers_of hs) → Rise (numbers_of (held_before o hs))
before_rises o [] least rise = (λ k h. absurd h, tt)
before_rises o (x ∷ hs) least rise = by (o.task == x.task) refl
  where
    by : (b : Bool) → (o.task == x.task) ≡ b → Rise (numbers_of
        (if b then record x { operands = suc x.operands } ∷ hs else first_held o.task ∷ x ∷ hs))
    by true e = rise
    by false e =
        let most = least x.task (inl refl) in
        let first : o.task < x.task = grind (arith, nat_tests, e, most) in (
          λ k h. elim h [
            | inl is ↦ omega (arith, first, is)
            | inr rest ↦ let r = rise.0 k rest in omega (arith, first, r)
          ],
          rise,
        )

runs_rise : (os : List OpName) → TasksRise os → Rise (numbers_of (runs_of os))
runs_rise [] h = tt
runs_rise (o ∷ os) h = before_rises o (runs_of os) (λ n i. h.0 n (from_runs os n i)) (runs_rise os h.1)

-- a lower name is of no later task
lower_task : (o p : OpName) → T (is_lt (name_cmp o p)) → o.task ≤ p.task
lower_task o p h = by (nat_cmp o.task p.task) refl h
  where
    by : (r : Ordering) → nat_cmp o.task p.task ≡ r → T (is_lt (ordering_then r (nat_cmp o.place p.place)))
        → o.task ≤ p.task
    by Less e h = let below = below_from_less o.task p.task e in omega (arith, below)
    by Equal e h = let same = ranked o.task p.task Equal (sym e) in omega (arith, same)
    by Greater e h = absurd h

module _ {X : Type 0} where
  below_first : (o : OpName) (es : List (OpName × X)) → T (below_all name_cmp o es) → (n : ℕ)
      → IsAmong n (tasks_of (map (λ e. e.0) es)) → o.task ≤ n
  below_first o [] h n i = absurd i
  below_first o (e ∷ es) h n (inl same) =
      let lower = lower_task o e.0 (first_true (is_lt (name_cmp o e.0)) (below_all name_cmp o es) h) in
      omega (arith, lower, same)
  below_first o (e ∷ es) h n (inr i) =
      below_first o es (second_true (is_lt (name_cmp o e.0)) (below_all name_cmp o es) h) n i

  sorted_rise : (es : List (OpName × X)) → T (is_sorted name_cmp es) → TasksRise (map (λ e. e.0) es)
  sorted_rise [] h = tt
  sorted_rise (e ∷ es) h = (
    below_first e.0 es (first_true (below_all name_cmp e.0 es) (is_sorted name_cmp es) h),
    sorted_rise es (second_true (below_all name_cmp e.0 es) (is_sorted name_cmp es) h),
  )

-- ---- the gateway

among_keys : (os : List OpName) (n : ℕ) → IsAmong n (tasks_of os) → (i : ℕ) × (o : OpName)
    × (slice_get os i ≡ Some o) × (o.task ≡ n)
among_keys [] n h = absurd h
among_keys (o ∷ os) n (inl same) = (0, o, refl, same)
among_keys (o ∷ os) n (inr h) = let r = among_keys os n h in (suc r.0, r.1, r.2, r.3)

keys_among : (os : List OpName) (i : ℕ) (o : OpName) → slice_get os i ≡ Some o → IsAmong o.task (tasks_of os)
keys_among [] i o e = absurd (cc)
keys_among (k ∷ os) zero o e = let same : k ≡ o = cc in inl (ap (λ (o : OpName). o.task) same)
keys_among (k ∷ os) (suc i) o e = inr (keys_among os i o e)

module _ (gateway : Named (Unit {0})) where
  -- the numbers of the tasks held
  abbrev pub held_numbers : List ℕ
  held_numbers = numbers_of (held_tasks gateway)

  -- they are as many as the tasks
  pub length-held_numbers : length held_numbers ≡ length (held_tasks gateway)
  length-held_numbers = length-map (held_tasks gateway) (λ h. h.task)

  -- they rise
  pub held_numbers_rise : Rise held_numbers
  held_numbers_rise = runs_rise (keys gateway) (sorted_rise (entries gateway) (entries_sorted gateway))

  -- each is that of an operand in the gateway
  pub held_operand : (n : ℕ) → IsAmong n held_numbers → (o : OpName) × (get gateway o ≡ Some tt) × (o.task ≡ n)
  unfolding key_at
  held_operand n h =
      let k = among_keys (keys gateway) n (from_runs (keys gateway) n h) in
      let x = key_there name_order gateway k.0 k.1 k.2 in
      (k.1, x.1, k.3)

  -- and an operand in the gateway is of one of them
  pub operand_held : (o : OpName) → get gateway o ≡ Some tt → IsAmong o.task held_numbers
  unfolding key_at
  operand_held o e =
      let k = key_from_get name_order gateway o tt e in
      into_runs (keys gateway) o.task (keys_among (keys gateway) k.0 o k.1)

-- a gateway whose operands are all of tasks of these numbers holds no more tasks than there are numbers
pub few_held : (gateway : Named (Unit {0})) (ns : List ℕ)
    → ((o : OpName) → get gateway o ≡ Some tt → IsAmong o.task ns) → length (held_tasks gateway) ≤ length ns
few_held gateway ns within =
    let few = few_among (held_numbers gateway) ns (held_numbers_rise gateway)
    (λ n h. let o = held_operand gateway n h in subst (λ n. IsAmong n ns) o.2 (within o.0 o.1)) in
    let many = length-held_numbers gateway in
    omega (arith, few, many)
