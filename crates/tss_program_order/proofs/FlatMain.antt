-- A stretch of main: over two memories that agree where main may load it gives the same main and the same stores, and
-- it changes nothing elsewhere.
use Rattle.std.proofs.Common.{◌≡◌, ℕ, zero, suc, ◌≤◌, Bool, true, false, Some, None, List, length, refl, sym, ap, subst}
use Rattle.std.proofs.Common.{◌∙◌, arith}
use Rattle.std.specs.Prelude.{◌||◌, if◌then◌else◌, is_some, unwrap_or}
use Rattle.std.specs.FinMap.{get}
use Rattle.tss_base.specs.declared.range.Range.{Range}
use Rattle.tss_base.specs.Range.{Covers}
use Rattle.tss_base.specs.declared.machine.Limits.{Limits}
use Rattle.tss_base.specs.Image.{SegmentState}
use Rattle.tss_base.specs.declared.causes.TheConstants.{FETCH_OUTSIDE}
use Rattle.tss_base.specs.declared.refusals.TheConstants.{MAIN_TOUCH, MAIN_BUDGET_SPENT}
use Rattle.tss_model.specs.Memory.{MemoryRange, byte_at, code_word}
use Rattle.tss_model.specs.Access.{MainActor, Loads, Stores, Granted, main_access}
use Rattle.tss_model.specs.Core.{Stepped, Executed, Called, Ended, Trapped, Touched, core_step}
use Rattle.tss_model.specs.TaskRun.{repeated}
use Rattle.tss_model.specs.Registers.{trap_of}
use Rattle.tss_model.specs.MainStep.{MainState, Flat, main_trapped, main_refused, has_spent, main_on, main_core}
use Rattle.tss_model.specs.MainStep.{main_step, main_stretch, called_by, next_call}
use Rattle.tss_program_order.specs.MainInOrder.{MayLoad}
use Rattle.tss_program_order.proofs.FlatLoads.{may_load_granted}
use Rattle.tss_program_order.proofs.FlatCore.{IsStep, core_step-same, core_step-step}
use Rattle.tss_program_order.proofs.FlatWrites.{map_put-agrees, map_put-beside}
use Rattle.tss_program_order.proofs.FlatSteps.{main_step-ended, main_step-spent, main_step-core}

-- ---- one machine

-- by the rule of access main may not store the byte at an address
abbrev pub NeverStored : List MemoryRange → List Range → ℕ → Type 0
NeverStored ranges named a = (q : Range) → main_access ranges named Stores q ≡ Granted → Covers q a → ⊥

-- so it is where main may not load
pub unloaded_unstored : (ranges : List MemoryRange) (named : List Range) (a : ℕ) → (MayLoad ranges named a → ⊥)
    → NeverStored ranges named a
unloaded_unstored ranges named a out q granted covered = out (may_load_granted ranges named Stores q a granted covered)

-- what main's steps leave: the ranges of memory, the epoch, the tasks, the pieces, and each byte that main may not
-- store. Main's completed instructions don't fall
pub record Leaves (f g : Flat) : Type 0 where
  pub ranges : g.memory.ranges ≡ f.memory.ranges
  pub epoch : g.main.epoch ≡ f.main.epoch
  pub spawned : g.main.spawned ≡ f.main.spawned
  pub pieces : g.main.pieces ≡ f.main.pieces
  pub done : f.main.registers.done ≤ g.main.registers.done
  pub bytes : (a : ℕ) → NeverStored f.memory.ranges f.main.epoch a → get g.memory.bytes a ≡ get f.memory.bytes a

-- a machine leaves itself
Leaves-same : (f g : Flat) → g ≡ f → Leaves f g
Leaves-same f g e = record {
  ranges = λ i. (e i).memory.ranges;
  epoch = λ i. (e i).main.epoch;
  spawned = λ i. (e i).main.spawned;
  pieces = λ i. (e i).main.pieces;
  done =
      let same : g.main.registers.done ≡ f.main.registers.done = ap (λ (x : Flat). x.main.registers.done) e in
      omega (arith, same);
  bytes = λ a out i. get (e i).memory.bytes a;
}

-- what two steps in a row leave
Leaves-then : (f g h : Flat) → Leaves f g → Leaves g h → Leaves f h
Leaves-then f g h p q = record {
  ranges = q.ranges ∙ p.ranges;
  epoch = q.epoch ∙ p.epoch;
  spawned = q.spawned ∙ p.spawned;
  pieces = q.pieces ∙ p.pieces;
  done = omega (arith, p.done, q.done);
  bytes = λ a out.
      q.bytes a (subst (λ (x : Type 0). x) (λ i. NeverStored (sym p.ranges i) (sym p.epoch i) a) out) ∙ p.bytes a out;
}

-- where main alone changes, and only its registers and ending
with_main-leaves : (f : Flat) (m : MainState) → m.epoch ≡ f.main.epoch → m.spawned ≡ f.main.spawned
    → m.pieces ≡ f.main.pieces → f.main.registers.done ≤ m.registers.done → Leaves f (record f { main = m })
with_main-leaves f m epoch spawned pieces done = record {
  ranges = refl;
  epoch = epoch;
  spawned = spawned;
  pieces = pieces;
  done = done;
  bytes = λ a out. refl;
}

-- a step of its core does
main_on-leaves : (f : Flat) (x : Stepped) → IsStep (MainActor f.memory.ranges f.main.epoch) f.main.registers x
    → Leaves f (main_on f x)
main_on-leaves f (Executed r None) step =
    with_main-leaves f (record (f.main) { registers = r }) refl refl refl (omega (arith, step))
main_on-leaves f (Executed r (Some w)) step = record {
  ranges = refl;
  epoch = refl;
  spawned = refl;
  pieces = refl;
  done = omega (arith, step.0);
  bytes = λ a out.
      map_put-beside f.memory.bytes w.at w.bytes a
      (λ low high. out (record { base = w.at; len = length w.bytes }) step.2 (low, high));
}
main_on-leaves f Called step = Leaves-same f f refl
main_on-leaves f Ended step = with_main-leaves f _ refl refl refl (omega arith)
main_on-leaves f (Trapped t) step = with_main-leaves f _ refl refl refl (omega arith)
main_on-leaves f Touched step = with_main-leaves f _ refl refl refl (omega arith)

-- main's core takes such a step
pub main_core-step : (code : List SegmentState) (f : Flat)
    → IsStep (MainActor f.memory.ranges f.main.epoch) f.main.registers (main_core code f)
main_core-step code f =
    core_step-step (MainActor f.memory.ranges f.main.epoch) (byte_at f.memory) f.main.registers (code_word code)

module _ (code : List SegmentState) (limits : Limits) where
  -- a step of main leaves all that beside its stores
  pub main_step-leaves : (f : Flat) → Leaves f (main_step code limits f)
  main_step-leaves f = by (is_some f.main.ending) (has_spent limits f.main) refl refl
    where
      by : (e s : Bool) → is_some f.main.ending ≡ e → has_spent limits f.main ≡ s → Leaves f (main_step code limits f)
      by true s ended spent = Leaves-same f (main_step code limits f) (main_step-ended code limits f ended)
      by false true on spent =
          subst (Leaves f) (sym (main_step-spent code limits f on spent))
          (with_main-leaves f _ refl refl refl (omega arith))
      by false false on left =
          subst (Leaves f) (sym (main_step-core code limits f on left))
          (main_on-leaves f (main_core code f) (main_core-step code f))

  -- a stretch of main leaves all that beside its stores
  pub main_stretch-leaves : (n : ℕ) (f : Flat) → Leaves f (main_stretch code limits n f)
  unfolding repeated
  main_stretch-leaves zero f = Leaves-same f f refl
  main_stretch-leaves (suc n) f =
      Leaves-then f (main_step code limits f) (main_stretch code limits (suc n) f) (main_step-leaves f)
      (main_stretch-leaves n (main_step code limits f))

-- ---- two machines

-- the same main, on memories with the same ranges and the same bytes wherever main may load
pub record AreAlike (f g : Flat) : Type 0 where
  pub main : f.main ≡ g.main
  pub ranges : f.memory.ranges ≡ g.memory.ranges
  pub bytes : (a : ℕ) → MayLoad f.memory.ranges f.main.epoch a → get f.memory.bytes a ≡ get g.memory.bytes a

-- the same main afterwards, and the same stores: where the memories agreed they agree again
pub record GoTogether (f g h k : Flat) : Type 0 where
  pub main : h.main ≡ k.main
  pub bytes : (a : ℕ) → get f.memory.bytes a ≡ get g.memory.bytes a → get h.memory.bytes a ≡ get k.memory.bytes a

together_by : (f g h k p q : Flat) → p ≡ h → q ≡ k → GoTogether f g h k → GoTogether f g p q
together_by f g h k p q e d t = subst (λ (x : Flat). GoTogether f g x q) (sym e)
    (subst (λ (y : Flat). GoTogether f g h y) (sym d) t)

-- such machines stay alike
alike_after : (f g h k : Flat) → AreAlike f g → Leaves f h → Leaves g k → GoTogether f g h k → AreAlike h k
alike_after f g h k alike p q t = record {
  main = t.main;
  ranges = p.ranges ∙ alike.ranges ∙ sym q.ranges;
  bytes = λ a may. t.bytes a (alike.bytes a (subst (λ (x : Type 0). x) (λ i. MayLoad (p.ranges i) (p.epoch i) a) may));
}

module _ (code : List SegmentState) (limits : Limits) (f g : Flat) (alike : AreAlike f g) where
  -- main's core does the same on both
  main_core-alike : main_core code f ≡ main_core code g
  main_core-alike =
      core_step-same (MainActor f.memory.ranges f.main.epoch) (byte_at f.memory) (byte_at g.memory)
      (λ q a granted covered. ap (λ o. unwrap_or o 0)
      (alike.bytes a (may_load_granted f.memory.ranges f.main.epoch Loads q a granted covered))) f.main.registers
      (code_word code)
      ∙ (λ i. core_step (MainActor (alike.ranges i) (alike.main i).epoch) (byte_at g.memory) (code_word code)
      (alike.main i).registers)

  -- and so the same call comes next
  pub next_call-alike : next_call code limits f ≡ next_call code limits g
  next_call-alike i =
      if is_some (alike.main i).ending || has_spent limits (alike.main i) then None
      else called_by (alike.main i).registers (main_core-alike i)

  main_on-together : (x : Stepped) → GoTogether f g (main_on f x) (main_on g x)
  main_on-together (Executed r None) =
      record { main = λ i. record (alike.main i) { registers = r }; bytes = λ a same. same }
  main_on-together (Executed r (Some w)) = record {
    main = λ i. record (alike.main i) { registers = r };
    bytes = λ a same. map_put-agrees f.memory.bytes g.memory.bytes w.at w.bytes a same;
  }
  main_on-together Called = record { main = alike.main; bytes = λ a same. same }
  main_on-together Ended = record {
    main = λ i.
        main_trapped (alike.main i) (trap_of (alike.main i).registers FETCH_OUTSIDE (alike.main i).registers.pc);
    bytes = λ a same. same;
  }
  main_on-together (Trapped t) = record { main = λ i. main_trapped (alike.main i) t; bytes = λ a same. same }
  main_on-together Touched = record { main = λ i. main_refused (alike.main i) MAIN_TOUCH; bytes = λ a same. same }

  main_step-together : GoTogether f g (main_step code limits f) (main_step code limits g)
  main_step-together = by (is_some f.main.ending) (has_spent limits f.main) refl refl
    where
      ending : (b : Bool) → is_some f.main.ending ≡ b → is_some g.main.ending ≡ b
      ending b e = (λ i. is_some (sym alike.main i).ending) ∙ e

      spent : (b : Bool) → has_spent limits f.main ≡ b → has_spent limits g.main ≡ b
      spent b e = (λ i. has_spent limits (sym alike.main i)) ∙ e

      by : (e s : Bool) → is_some f.main.ending ≡ e → has_spent limits f.main ≡ s
          → GoTogether f g (main_step code limits f) (main_step code limits g)
      by true s e d =
          together_by f g f g _ _ (main_step-ended code limits f e) (main_step-ended code limits g (ending true e))
          (record { main = alike.main; bytes = λ a same. same })
      by false true e d =
          together_by f g _ _ _ _ (main_step-spent code limits f e d)
          (main_step-spent code limits g (ending false e) (spent true d))
          (record { main = λ i. main_refused (alike.main i) MAIN_BUDGET_SPENT; bytes = λ a same. same })
      by false false e d =
          together_by f g _ _ _ _ (main_step-core code limits f e d)
          (main_step-core code limits g (ending false e) (spent false d)
          ∙ ap (main_on g) (sym main_core-alike))
          (main_on-together (main_core code f))

module _ (code : List SegmentState) (limits : Limits) where
  -- a stretch of main on machines that are alike: the same main, with the same ending, and the same stores
  pub main_stretch-together : (n : ℕ) (f g : Flat) → AreAlike f g
      → GoTogether f g (main_stretch code limits n f) (main_stretch code limits n g)
  unfolding repeated
  main_stretch-together zero f g alike = record { main = alike.main; bytes = λ a same. same }
  main_stretch-together (suc n) f g alike =
      let step = main_step-together code limits f g alike in
      let rest = main_stretch-together n (main_step code limits f) (main_step code limits g)
      (alike_after f g (main_step code limits f) (main_step code limits g) alike (main_step-leaves code limits f)
      (main_step-leaves code limits g) step) in
      record { main = rest.main; bytes = λ a same. rest.bytes a (step.bytes a same) }

  -- and they are alike again
  pub main_stretch-alike : (n : ℕ) (f g : Flat) → AreAlike f g
      → AreAlike (main_stretch code limits n f) (main_stretch code limits n g)
  main_stretch-alike n f g alike =
      alike_after f g (main_stretch code limits n f) (main_stretch code limits n g) alike
      (main_stretch-leaves code limits n f) (main_stretch-leaves code limits n g) (main_stretch-together n f g alike)
