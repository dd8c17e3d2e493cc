-- Main's await.
use Rattle.std.proofs.Common.{◌≡◌, ℕ, Bool, true, false, cond, List, [], ◌∷◌, Option, Some, None, refl, sym, ap, ◌∙◌, arith}
use Rattle.std.specs.Prelude.{◌==◌, is_some}
use Rattle.std.proofs.lemmas.Bool.Decides.{nat_tests}
use Rattle.std.proofs.lemmas.Option.{none-some, same_Some}
use Rattle.tss_base.specs.declared.range.Range.{Range}
use Rattle.tss_base.specs.declared.ending.Ending.{Ending}
use Rattle.tss_model.specs.Registers.{Registers, register_at, onward}
use Rattle.tss_model.specs.Spawn.{named_at, unnamed}
use Rattle.tss_model.specs.MainStep.{Piece, MainState, await_on}
use Rattle.tss_steps.proofs.CallLemmas.{main_with}

-- the object that is found has the base
base_is : (named : List Range) (base : ℕ) (x : Range) → named_at named base ≡ Some x → x.base ≡ base
base_is [] base x e = absurd (none-some x e)
base_is (y ∷ ys) base x e = by (y.base == base) refl (base_is ys base x) e
  where
    by : (b : Bool) → (y.base == base) ≡ b → (named_at ys base ≡ Some x → x.base ≡ base)
        → cond b (Some y) (named_at ys base) ≡ Some x → x.base ≡ base
    by true test rest e =
        let there : y.base ≡ base = grind (arith, nat_tests, test) in
        ap (λ (r : Range). r.base) (sym (same_Some y x e)) ∙ there
    by false test rest e = rest e

module _ (r : Registers) (spawned : ℕ) (objects : List Range) (pieces : List Piece) (ending : Option Ending) (base : ℕ) (at : base ≡ register_at r 10) where
  -- main as it stands
  abbrev main_here : MainState
  main_here = main_with r spawned objects pieces ending

  -- an object that is found is no longer named
  pub await_takes : (q : Registers) (left : List Range) → true ≡ is_some (named_at objects base) → q ≡ onward r → left ≡ unnamed objects base
      → main_with q spawned left pieces ending ≡ await_on main_here (named_at objects (register_at r 10))
  await_takes q left some regs leaves =
      by (named_at objects base) refl some
      ∙ ap (λ (n : ℕ). await_on main_here (named_at objects n)) at
    where
      by : (o : Option Range) → named_at objects base ≡ o → true ≡ is_some o
          → main_with q spawned left pieces ending ≡ await_on main_here (named_at objects base)
      by None e h = absurd (cc)
      by (Some x) e h =
          (λ i. main_with (regs i) spawned (leaves i) pieces ending)
          ∙ ap (λ (n : ℕ). main_with (onward r) spawned (unnamed objects n) pieces ending) (sym (base_is objects base x e))
          ∙ ap (await_on main_here) (sym e)
