-- Steps of main, prints and refusals leave the number of spawned tasks and the named objects.
use Rattle.std.proofs.Common.{◌≡◌, ℕ, zero, suc, ◌+◌, Bool, true, false, cond, List, refl}
use Rattle.std.specs.Prelude.{length, ◌==◌, nat_lt, is_none, is_some}
use Rattle.tss_base.specs.declared.range.Range.{Range}
use Rattle.tss_base.specs.declared.machine.Limits.{Limits}
use Rattle.tss_base.specs.Image.{SegmentState}
use Rattle.tss_model.specs.Memory.{Memory, range_of, bytes_of}
use Rattle.tss_model.specs.Registers.{trap_of}
use Rattle.tss_model.specs.Access.{touches}
use Rattle.tss_model.specs.Core.{Stepped, Executed, Called, Ended, Trapped, Touched}
use Rattle.tss_model.specs.TaskRun.{repeated}
use Rattle.tss_base.specs.declared.causes.TheConstants.{LOAD_DENIED}
use Rattle.tss_base.specs.declared.refusals.TheConstants.{MAIN_BUDGET_SPENT, MAIN_TOUCH, OUTPUT_FULL}
use Rattle.tss_model.specs.MainStep.{MainState, Flat, main_refused, main_trapped, call_done, output_of, print_done}
use Rattle.tss_model.specs.MainStep.{print_some, has_spent, main_on, main_core, main_step, main_stretch, print_call}

-- main that has spawned as many tasks and named the same objects
pub record SameCalls (x y : MainState) : Type 0 where
  pub spawned : y.spawned ≡ x.spawned
  pub epoch : y.epoch ≡ x.epoch

calls_on : (x : MainState) (f : Flat) → SameCalls x f.main → (s : Stepped) → SameCalls x (main_on f s).main
calls_on x f k (Executed r w) = record { spawned = k.spawned; epoch = k.epoch }
calls_on x f k Called = k
calls_on x f k Ended = record { spawned = k.spawned; epoch = k.epoch }
calls_on x f k (Trapped t) = record { spawned = k.spawned; epoch = k.epoch }
calls_on x f k Touched = record { spawned = k.spawned; epoch = k.epoch }

calls_if : (x : MainState) (b : Bool) (f g : Flat) → SameCalls x f.main → SameCalls x g.main →
    SameCalls x (cond b f g).main
calls_if x true f g p q = p
calls_if x false f g p q = q

calls_step : (code : List SegmentState) (limits : Limits) (x : MainState) (f : Flat) → SameCalls x f.main →
    SameCalls x (main_step code limits f).main
unfolding main_step
calls_step code limits x f k =
    let spent : Flat = record f { main = main_refused f.main MAIN_BUDGET_SPENT } in
    let on = main_on f (main_core code f) in
    calls_if x (is_some f.main.ending) f (cond (has_spent limits f.main) spent on) k
    (calls_if x (has_spent limits f.main) spent on (record { spawned = k.spawned; epoch = k.epoch })
    (calls_on x f k (main_core code f)))

-- a stretch leaves them
pub calls_stretch : (code : List SegmentState) (limits : Limits) (x : MainState) (n : ℕ) (f : Flat) →
    SameCalls x f.main →
    SameCalls x (main_stretch code limits n f).main
unfolding repeated
calls_stretch code limits x zero f k = k
calls_stretch code limits x (suc n) f k =
    calls_stretch code limits x n (main_step code limits f) (calls_step code limits x f k)

calls_cond : (x : MainState) (b : Bool) (y z : MainState) → SameCalls x y → SameCalls x z → SameCalls x (cond b y z)
calls_cond x true y z p q = p
calls_cond x false y z p q = q

-- and a print
pub calls_print : (limits : Limits) (memory : Memory) (x : MainState) (r : Range) →
    SameCalls x (print_call limits memory x r)
calls_print limits memory x r =
    let same : (y : MainState) → y.spawned ≡ x.spawned → y.epoch ≡ x.epoch → SameCalls x y =
    λ y p q. record { spawned = p; epoch = q } in
    let full = main_refused x OUTPUT_FULL in
    let done = print_done x (bytes_of memory r) in
    let fits = cond (nat_lt limits.output_bytes (length (output_of x.pieces) + r.len)) full done in
    let touching = cond (touches x.epoch r) (main_refused x MAIN_TOUCH) fits in
    let placed = main_trapped x (trap_of x.registers LOAD_DENIED r.base) in
    calls_cond x (r.len == 0) (call_done x) (print_some limits memory x r) (same (call_done x) refl refl)
    (calls_cond x (is_none (range_of memory.ranges r)) placed touching (same placed refl refl)
    (calls_cond x (touches x.epoch r) (main_refused x MAIN_TOUCH) fits (same (main_refused x MAIN_TOUCH) refl refl)
    (calls_cond x (nat_lt limits.output_bytes (length (output_of x.pieces) + r.len)) full done (same full refl refl)
    (same done refl refl))))
