-- A stretch of main stores at no address of an object that it has named.
use Rattle.std.proofs.Common.{◌≡◌, ℕ, zero, suc, ◌+◌, ◌<◌, ◌≤◌, Bool, true, false, cond, List, [], ◌∷◌, length, Some}
use Rattle.std.proofs.Common.{None, refl, sym, ◌∙◌, subst, arith}
use Rattle.std.specs.Prelude.{max, min, slice_get, is_some}
use Rattle.std.proofs.lemmas.Bool.{lt-ltb, or_parts}
use Rattle.std.proofs.lemmas.Option.{none-some, same_Some}
use Rattle.tss_base.specs.declared.range.Range.{Range}
use Rattle.tss_base.specs.declared.machine.Limits.{Limits}
use Rattle.tss_base.specs.Range.{end_of, meets, Covers}
use Rattle.tss_base.specs.Image.{SegmentState}
use Rattle.tss_model.specs.Memory.{Memory, MemoryRange, range_of, byte_at, code_word}
use Rattle.tss_model.specs.Access.{access_of, MainActor, Stores, Granted, Denied, Touch, main_may, touches}
use Rattle.tss_model.specs.Core.{Write, Stepped, Executed, Called, Ended, Trapped, Touched}
use Rattle.tss_model.specs.TaskRun.{repeated}
use Rattle.tss_base.specs.declared.refusals.TheConstants.{MAIN_BUDGET_SPENT}
use Rattle.tss_model.specs.MainStep.{Flat, main_refused, has_spent, main_on, main_core, main_step, main_stretch}
use Rattle.tss_locality.specs.Scopes.{Scope, IsInside, beyond}
use Rattle.tss_locality.proofs.States.{HomeOn}
use Rattle.tss_locality.proofs.stores.Stores.{IsWrittenIn, home_written}
use Rattle.tss_locality.proofs.stores.StoreSteps.{MayWrite, StoresWithin, core_step_within}

false_true : false ≡ true → ⊥
false_true e = cc

-- no object of a list has the address
abbrev IsOutside : List Range → ℕ → Type 0
IsOutside named a = (k : ℕ) (x : Range) → slice_get named k ≡ Some x → Covers x a → ⊥

-- two ranges that share an address meet
meets_at : (x r : Range) (a : ℕ) → Covers x a → r.base ≤ a → a < r.base + r.len → meets x r ≡ true
meets_at x r a inside low high = lt-ltb (max x.base r.base) (min (end_of x) (end_of r))
    (omega (arith, inside.0, inside.1, low, high))

-- what touches none of the objects has none of their addresses
outside_untouched : (named : List Range) (r : Range) (a : ℕ) → touches named r ≡ false → r.base ≤ a →
    a < r.base + r.len →
    IsOutside named a
outside_untouched [] r a e low high k x there inside = absurd (none-some x there)
outside_untouched (y ∷ ys) r a e low high zero x there inside =
    let apart = (or_parts (meets y r) (touches ys r) e).0 in
    false_true (sym apart ∙ meets_at y r a (subst (λ y. Covers y a) (sym (same_Some y x there)) inside) low high)
outside_untouched (y ∷ ys) r a e low high (suc k) x there inside =
    outside_untouched ys r a (or_parts (meets y r) (touches ys r) e).1 low high k x there inside

untouched_by : (may touched : Bool) → cond may (cond touched Touch Granted) Denied ≡ Granted → touched ≡ false
untouched_by true true e = absurd (cc)
untouched_by true false e = refl
untouched_by false touched e = absurd (cc)

-- a granted store touches no named object
granted_untouched : (ranges : List MemoryRange) (named : List Range) (r : Range) →
    access_of (MainActor ranges named) Stores r ≡ Granted → touches named r ≡ false
granted_untouched ranges named r e = untouched_by (main_may Stores (range_of ranges r)) (touches named r) e

module _ (c : Scope) (before : Memory) (named : List Range) (free : (a : ℕ) → IsOutside named a → IsInside c a) where
  -- main with these named objects has written inside the scope alone
  pub record FlatOnly (f : Flat) : Type 0 where
    pub epoch : f.main.epoch ≡ named
    pub home : HomeOn (beyond c) before f.memory

  store_free : (ranges : List MemoryRange) (w : Write) → MayWrite (MainActor ranges named) w →
      IsWrittenIn c w.at w.bytes
  store_free ranges w may a low high =
      let r : Range = record { base = w.at; len = length w.bytes } in
      free a (outside_untouched named r a (granted_untouched ranges named r may) low high)

  main_on_only : (f : Flat) → FlatOnly f → (ranges : List MemoryRange) (x : Stepped) →
      StoresWithin (MainActor ranges named) x →
      FlatOnly (main_on f x)
  main_on_only f o ranges (Executed r None) within = record { epoch = o.epoch; home = o.home }
  main_on_only f o ranges (Executed r (Some w)) within = record {
    epoch = o.epoch;
    home = home_written c before f.memory w.at w.bytes o.home (store_free ranges w within);
  }
  main_on_only f o ranges Called within = o
  main_on_only f o ranges Ended within = record { epoch = o.epoch; home = o.home }
  main_on_only f o ranges (Trapped t) within = record { epoch = o.epoch; home = o.home }
  main_on_only f o ranges Touched within = record { epoch = o.epoch; home = o.home }

  flat_if : (b : Bool) (x y : Flat) → FlatOnly x → FlatOnly y → FlatOnly (cond b x y)
  flat_if true x y p q = p
  flat_if false x y p q = q

  main_step_only : (code : List SegmentState) (limits : Limits) (f : Flat) → FlatOnly f →
      FlatOnly (main_step code limits f)
  unfolding main_step
  main_step_only code limits f o =
      let within = core_step_within (MainActor f.memory.ranges f.main.epoch) (byte_at f.memory) (code_word code)
      f.main.registers in
      let spent : Flat = record f { main = main_refused f.main MAIN_BUDGET_SPENT } in
      let on = main_on f (main_core code f) in
      flat_if (is_some f.main.ending) f (cond (has_spent limits f.main) spent on) o
      (flat_if (has_spent limits f.main) spent on (record { epoch = o.epoch; home = o.home })
      (main_on_only f o f.memory.ranges (main_core code f)
      (subst (λ named. StoresWithin (MainActor f.memory.ranges named) (main_core code f)) o.epoch within)))

  -- so many steps
  pub main_stretch_only : (code : List SegmentState) (limits : Limits) (n : ℕ) (f : Flat) → FlatOnly f →
      FlatOnly (main_stretch code limits n f)
  unfolding repeated
  main_stretch_only code limits zero f o = o
  main_stretch_only code limits (suc n) f o =
      main_stretch_only code limits n (main_step code limits f) (main_step_only code limits f o)
