-- Runs of names of one task: the first run and the rest, and how many names so few runs have.
use Rattle.std.proofs.Common.{◌≡◌, ℕ, suc, ◌+◌, ◌*◌, ◌<◌, ◌≤◌, Bool, true, false, cond, List, [], ◌∷◌, length, get_or, drop, refl, sym, ap, ◌∙◌, arith}
use Rattle.std.specs.Prelude.{◌==◌, ◌&&◌, T, if◌then◌else◌}
use Rattle.std.proofs.lemmas.Bool.Decides.{nat_tests}
use Rattle.std.proofs.Math.Seq.{drop-cons}
use Rattle.std.proofs.Math.ListN.{drop_of_length-le}
use Rattle.std.proofs.lemmas.List.{drop-drop}
use Rattle.std.specs.declared.cmp.Ordering.{Ordering}
use Rattle.std.specs.declared.cmp.Ordering.TheVariants.{Less, Equal, Greater}
use Rattle.std.specs.Ordering.{nat_cmp, is_lt, ordering_then}
use Rattle.std.specs.Cmp.{nat_cmp_total, tied_itself}
use Rattle.std.specs.FinMap.Entries.{is_sorted, below_all}
use Rattle.tss_base.specs.declared.operand.OpName.{OpName}
use Rattle.tss_base.specs.Names.{name_cmp}
use Rattle.tss_maps.proofs.Keys.{below_from_less}
use Rattle.tss_protocol.specs.Gateway.{HeldTask, first_held, held_before, runs_of}
use Rattle.tss_gateway.specs.Names.{pairs_of, more_of, run_of, run_at, AreLow}

first : (a b : Bool) → T (a && b) → T a
first true b p = tt
first false b p = p

second : (a b : Bool) → T (a && b) → T b
second true b p = p
second false b p = absurd p

less : (r : Ordering) → T (is_lt r) → r ≡ Less
less Less p = refl
less Equal p = absurd p
less Greater p = absurd p

equal_tasks : (a b : ℕ) → (a == b) ≡ true → a ≡ b
equal_tasks a b e = grind (arith, nat_tests)

-- ---- the first run and the rest

-- the first run of names
abbrev pub first_run : OpName → List OpName → HeldTask
first_run o os = record { task = o.task; operands = suc (more_of o.task os) }

-- what comes after it
abbrev pub later_runs : OpName → List OpName → List HeldTask
later_runs o os = runs_of (drop (more_of o.task os) os)

module _ (o p : OpName) (ps : List OpName) where
  split_same : (o.task == p.task) ≡ true →
      held_before o (first_run p ps ∷ later_runs p ps) ≡ first_run o (p ∷ ps) ∷ later_runs o (p ∷ ps)
  split_same e =
      let same : p.task ≡ o.task = sym (equal_tasks o.task p.task e) in
      let h = first_run p ps in
      let hs = later_runs p ps in
      ap (λ b. if b then record h { operands = suc h.operands } ∷ hs else first_held o.task ∷ h ∷ hs) e
      ∙ (λ i. record { task = same i; operands = suc (suc (more_of (same i) ps)) } ∷ runs_of (drop (more_of (same i) ps) ps))
      ∙ sym (ap (λ b. record { task = o.task; operands = suc (if b then suc (more_of o.task ps) else 0) }
      ∷ runs_of (drop (if b then suc (more_of o.task ps) else 0) (p ∷ ps))) e)

  split_other : runs_of (p ∷ ps) ≡ first_run p ps ∷ later_runs p ps → (o.task == p.task) ≡ false →
      held_before o (first_run p ps ∷ later_runs p ps) ≡ first_run o (p ∷ ps) ∷ later_runs o (p ∷ ps)
  split_other rest e =
      let h = first_run p ps in
      let hs = later_runs p ps in
      ap (λ b. if b then record h { operands = suc h.operands } ∷ hs else first_held o.task ∷ h ∷ hs) e
      ∙ ap (λ rs. first_held o.task ∷ rs) (sym rest)
      ∙ sym (ap (λ b. record { task = o.task; operands = suc (if b then suc (more_of o.task ps) else 0) }
      ∷ runs_of (drop (if b then suc (more_of o.task ps) else 0) (p ∷ ps))) e)

split_by : (o p : OpName) (ps : List OpName) → runs_of (p ∷ ps) ≡ first_run p ps ∷ later_runs p ps →
    (b : Bool) → (o.task == p.task) ≡ b →
    held_before o (first_run p ps ∷ later_runs p ps) ≡ first_run o (p ∷ ps) ∷ later_runs o (p ∷ ps)
split_by o p ps rest true e = split_same o p ps e
split_by o p ps rest false e = split_other o p ps rest e

pub runs_split : (o : OpName) (os : List OpName) → runs_of (o ∷ os) ≡ first_run o os ∷ later_runs o os
runs_split o [] = refl
runs_split o (p ∷ ps) =
    ap (held_before o) (runs_split p ps) ∙ split_by o p ps (runs_split p ps) (o.task == p.task) refl

more_within : (task : ℕ) (os : List OpName) → more_of task os ≤ length os
more_within task [] = omega arith
more_within task (o ∷ os) =
    let rest = more_within task os in
    elim (task == o.task) as (λ b. (if b then suc (more_of task os) else 0) ≤ suc (length os)) [
      | true ↦ omega (arith, rest)
      | false ↦ omega arith
    ]

pub run_within : (os : List OpName) → run_of os ≤ length os
run_within [] = omega arith
run_within (o ∷ os) = let rest = more_within o.task os in omega (arith, rest)

-- runs from a place on: the one there, and those after it
module _ (os : List OpName) (start : ℕ) (d : OpName) (within : start < length os) where
  pub run_there : run_at os start ≡ suc (more_of (get_or os start d).task (drop (suc start) os))
  run_there = ap run_of (drop-cons os start d within)

  pub runs_at : runs_of (drop start os)
      ≡ record { task = (get_or os start d).task; operands = run_at os start } ∷ runs_of (drop (start + run_at os start) os)
  runs_at =
      let o = get_or os start d in
      let rest = drop (suc start) os in
      let more = more_of o.task rest in
      let run = run_there in
      let place : suc start + more ≡ start + run_at os start = omega (arith, run) in
      ap runs_of (drop-cons os start d within)
      ∙ runs_split o rest
      ∙ (λ i. record { task = o.task; operands = sym run i } ∷ runs_of (drop-drop more (suc start) os i))
      ∙ ap (λ n. record { task = o.task; operands = run_at os start } ∷ runs_of (drop n os)) place

-- past the names is no run
pub no_runs : (os : List OpName) (start : ℕ) → length os ≤ start → runs_of (drop start os) ≡ []
no_runs os start past = let none : drop start os ≡ [] = drop_of_length-le os past in ap runs_of none

-- ---- few runs have few names

held_len : (o : OpName) (h : HeldTask) (hs : List HeldTask) →
    length (held_before o (h ∷ hs)) ≡ cond {A = ℕ} (o.task == h.task) 0 1 + length (h ∷ hs)
held_len o h hs =
    elim (o.task == h.task) as (λ b. length (if b then record h { operands = suc h.operands } ∷ hs else first_held o.task ∷ h ∷ hs)
    ≡ cond {A = ℕ} b 0 1 + suc (length hs)) [
      | true ↦ omega arith
      | false ↦ omega arith
    ]

runs_len : (o p : OpName) (ps : List OpName) →
    length (runs_of (o ∷ p ∷ ps)) ≡ cond {A = ℕ} (o.task == p.task) 0 1 + length (runs_of (p ∷ ps))
runs_len o p ps =
    ap (λ rs. length (held_before o rs)) (runs_split p ps)
    ∙ held_len o (first_run p ps) (later_runs p ps)
    ∙ ap (λ rs. cond {A = ℕ} (o.task == p.task) 0 1 + length rs) (sym (runs_split p ps))

-- of two names of one task the first has the lower place
place_rises : (o p : OpName) → name_cmp o p ≡ Less → o.task ≡ p.task → o.place < p.place
place_rises o p below same =
    let tie : nat_cmp o.task p.task ≡ Equal = ap (nat_cmp o.task) (sym same) ∙ tied_itself nat_cmp_total o.task in
    below_from_less o.place p.place (ap (λ r. ordering_then r (nat_cmp o.place p.place)) (sym tie) ∙ below)

next_below : (o p : OpName) (ps : List OpName) → T (is_sorted name_cmp (pairs_of (o ∷ p ∷ ps))) → name_cmp o p ≡ Less
next_below o p ps s =
    less (name_cmp o p) (first (is_lt (name_cmp o p)) (below_all name_cmp o (pairs_of ps))
    (first (below_all name_cmp o (pairs_of (p ∷ ps))) (is_sorted name_cmp (pairs_of (p ∷ ps))) s))

rest_sorted : (o : OpName) (os : List OpName) → T (is_sorted name_cmp (pairs_of (o ∷ os))) → T (is_sorted name_cmp (pairs_of os))
rest_sorted o os s = second (below_all name_cmp o (pairs_of os)) (is_sorted name_cmp (pairs_of os)) s

few_by : (o p : OpName) (ps : List OpName) → T (is_sorted name_cmp (pairs_of (o ∷ p ∷ ps))) → AreLow (o ∷ p ∷ ps) →
    length (p ∷ ps) + p.place ≤ 7 * length (runs_of (p ∷ ps)) → (b : Bool) → (o.task == p.task) ≡ b →
    length (o ∷ p ∷ ps) + o.place ≤ 7 * length (runs_of (o ∷ p ∷ ps))
few_by o p ps s low rest true e =
    let n = runs_len o p ps ∙ ap (λ b. cond {A = ℕ} b 0 1 + length (runs_of (p ∷ ps))) e in
    let rises = place_rises o p (next_below o p ps s) (equal_tasks o.task p.task e) in
    omega (arith, rest, n, rises)
few_by o p ps s low rest false e =
    let n = runs_len o p ps ∙ ap (λ b. cond {A = ℕ} b 0 1 + length (runs_of (p ∷ ps))) e in
    let l = low.0 in
    omega (arith, rest, n, l)

names_few : (o : OpName) (os : List OpName) → T (is_sorted name_cmp (pairs_of (o ∷ os))) → AreLow (o ∷ os) →
    length (o ∷ os) + o.place ≤ 7 * length (runs_of (o ∷ os))
names_few o [] s low = let l = low.0 in omega (arith, l)
names_few o (p ∷ ps) s low =
    few_by o p ps s low (names_few p ps (rest_sorted o (p ∷ ps) s) low.1) (o.task == p.task) refl

pub names_within : (os : List OpName) → T (is_sorted name_cmp (pairs_of os)) → AreLow os →
    length os ≤ 7 * length (runs_of os)
names_within [] s low = omega arith
names_within (o ∷ os) s low = let few = names_few o os s low in omega (arith, few)

-- ---- how the code finds a run

-- a name of the task is one more
pub more_same : (task : ℕ) (os : List OpName) (i : ℕ) (d : OpName) → i < length os → (get_or os i d).task ≡ task →
    more_of task (drop i os) ≡ suc (more_of task (drop (suc i) os))
more_same task os i d h e =
    let is : (task == (get_or os i d).task) ≡ true = same_test task (get_or os i d).task (sym e) in
    ap (more_of task) (drop-cons os i d h)
    ∙ ap (λ b. if b then suc (more_of task (drop (suc i) os)) else 0) is
  where
    same_test : (a b : ℕ) → a ≡ b → (a == b) ≡ true
    same_test a b e = grind (arith, nat_tests)

-- another ends the run
pub more_other : (task : ℕ) (os : List OpName) (i : ℕ) (d : OpName) → i < length os → ((get_or os i d).task ≡ task → ⊥) →
    more_of task (drop i os) ≡ 0
more_other task os i d h apart =
    let is : (task == (get_or os i d).task) ≡ false = other_test task (get_or os i d).task (λ e. apart (sym e)) in
    ap (more_of task) (drop-cons os i d h)
    ∙ ap (λ b. if b then suc (more_of task (drop (suc i) os)) else 0) is
  where
    other_test : (a b : ℕ) → (a ≡ b → ⊥) → (a == b) ≡ false
    other_test a b e = grind (arith, nat_tests, e)
