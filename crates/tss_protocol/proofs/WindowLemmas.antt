-- The tasks that the gateway holds, and its window.
use Rattle.std.proofs.Common.{◌≡◌, ℕ, zero, suc, ◌≤◌, ◌<◌, true, false, cond, List, [], ◌∷◌, length, refl, sym, ap, ◌∙◌}
use Rattle.std.proofs.Common.{arith, ◌⊎◌, inl, inr}
use Rattle.std.specs.Prelude.{◌==◌}
use Rattle.std.proofs.lemmas.Bool.Decides.{nat_tests}
use Rattle.std.proofs.lemmas.List.{length-map}
use Rattle.std.specs.FinMap.{len, keys, entries, len-entries}
use Rattle.tss_base.specs.declared.operand.OpName.{OpName}
use Rattle.tss_base.specs.declared.machine.Sizes.{Sizes}
use Rattle.tss_base.specs.Names.{Named}
use Rattle.tss_protocol.specs.Gateway.{HeldTask, first_held, held_before, runs_of, held_tasks, has_window, is_idle}

-- ---- runs

-- there is one for the first name
runs_begin : (o : OpName) (hs : List HeldTask) → 1 ≤ length (held_before o hs)
runs_begin o [] = omega arith
runs_begin o (h ∷ hs) =
    elim (o.task == h.task) as (λ b. 1 ≤ length (cond b (record h { operands = suc h.operands } ∷ hs)
    (first_held o.task ∷ h ∷ hs))) [
      | true ↦ omega arith
      | false ↦ omega arith
    ]

-- no names have no run, and any have one
some_runs : (os : List OpName) → ((os ≡ []) × (runs_of os ≡ [])) ⊎ ((1 ≤ length os) × (1 ≤ length (runs_of os)))
some_runs [] = inl (refl, refl)
some_runs (o ∷ os) = inr (omega arith, runs_begin o (runs_of os))

-- ---- the gateway

module _ (gateway : Named (Unit {0})) where
  len-keys : length (keys gateway) ≡ len gateway
  len-keys = length-map (entries gateway) (λ e. e.0) ∙ sym (len-entries gateway)

  -- it holds no task where it is idle
  pub none_held_idle : len gateway ≡ 0 → held_tasks gateway ≡ []
  none_held_idle idle = elim (some_runs (keys gateway)) [
    | inl none ↦ none.1
    | inr some ↦ let n = len-keys in let h = some.0 in absurd (omega (arith, n, idle, h))
  ]

  -- and only there
  some_held : 0 < len gateway → 1 ≤ length (held_tasks gateway)
  some_held busy = elim (some_runs (keys gateway)) [
    | inl none ↦ let n = len-keys in let e = ap length none.0 in absurd (omega (arith, n, e, busy))
    | inr some ↦ some.1
  ]

  -- an idle gateway has room in any window
  pub window_when_idle : (sizes : Sizes) → 1 ≤ sizes.window → len gateway ≡ 0 → has_window sizes gateway ≡ true
  window_when_idle sizes some idle =
      let none = ap length (none_held_idle idle) in
      grind (arith, nat_tests, none, some)

  -- with a window of one task a task may be taken exactly where the gateway is idle
  pub window_of_one : (sizes : Sizes) → sizes.window ≡ 1 → has_window sizes gateway ≡ is_idle gateway
  window_of_one sizes one = by (len gateway) refl
    where
      by : (n : ℕ) → len gateway ≡ n → has_window sizes gateway ≡ (n == 0)
      by zero e = window_when_idle sizes (omega (arith, one)) e
      by (suc n) e =
          let some = some_held (omega (arith, e)) in
          grind (arith, nat_tests, some, one)
