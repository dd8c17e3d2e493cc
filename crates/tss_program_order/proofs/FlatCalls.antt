-- A call of main over two memories that agree where main may load: what it prints and the operand list that it passes
-- lie there, so that it leaves the same main and spawns the same task.
use Rattle.std.proofs.Common.{◌≡◌, ℕ, zero, suc, ◌+◌, ◌*◌, ◌<◌, ◌≤◌, Bool, true, false, Option, Some, None, Result, Err}
use Rattle.std.proofs.Common.{List, [], ◌∷◌, ◌++◌, length, refl, ap, ◌∙◌, arith}
use Rattle.std.specs.Prelude.{cond, if◌then◌else◌, ◌==◌, ◌%◌, ◌&&◌, ◌||◌, not, is_none, nat_lt}
use Rattle.std.proofs.lemmas.Bool.{or_parts, lt-ltb}
use Rattle.tss_base.specs.declared.lists.TheConstants.{ENTRY_BYTES}
use Rattle.tss_base.specs.declared.range.Range.{Range}
use Rattle.tss_base.specs.declared.operand.Mode.{Mode}
use Rattle.tss_base.specs.declared.operand.Task.{Task}
use Rattle.tss_base.specs.declared.machine.Limits.{Limits}
use Rattle.tss_model.specs.Memory.{Memory, range_of, byte_at, bytes_of}
use Rattle.tss_model.specs.Access.{touches}
use Rattle.tss_model.specs.Registers.{trap_of}
use Rattle.tss_base.specs.declared.causes.TheConstants.{LOAD_DENIED}
use Rattle.tss_base.specs.declared.refusals.TheConstants.{MAIN_TOUCH, OUTPUT_FULL, TOO_MANY_OPERANDS, LIST_PLACE}
use Rattle.tss_model.specs.Spawn.{SpawnCall, Entry, entries_at, list_range, mode_of, mode_checked, with_rest}
use Rattle.tss_model.specs.Spawn.{entries_checked, task_checked, is_misplaced, spawn_of}
use Rattle.tss_model.specs.MainStep.{MainState, Call, ExitCall, Spawn, Barrier, Print, Await, Unknown, main_trapped}
use Rattle.tss_model.specs.MainStep.{main_refused, spawn_call, spawn_on, print_range, print_call, print_done, call_done}
use Rattle.tss_model.specs.MainStep.{output_of, main_call}
use Rattle.tss_program_order.specs.MainInOrder.{MayLoad}
use Rattle.tss_program_order.proofs.FlatLoads.{may_load_readable, same_number, same_bytes}

-- an option is some where it isn't none
some_from : {A : Type 0} (o : Option A) → is_none o ≡ false → (x : A) × (o ≡ Some x)
some_from (Some x) e = (x, refl)
some_from None e = absurd (cc)

-- ---- the operand list

-- the entries of two memories that agree on their bytes
entries_at-same : (h m : Memory) (at n : ℕ)
    → ((a : ℕ) → at ≤ a → a < at + ENTRY_BYTES * n → byte_at h a ≡ byte_at m a)
    → entries_at h at n ≡ entries_at m at n
entries_at-same h m at zero same = refl
entries_at-same h m at (suc n) same =
    let base = same_number (byte_at h) (byte_at m) at 4 (λ a low high. same a (omega arith) (omega arith)) in
    let len = same_number (byte_at h) (byte_at m) (at + 4) 4 (λ a low high. same a (omega arith) (omega arith)) in
    let mode = same_number (byte_at h) (byte_at m) (at + 8) 4 (λ a low high. same a (omega arith) (omega arith)) in
    let rest = entries_at-same h m (at + ENTRY_BYTES) n (λ a low high. same a (omega arith) (omega arith)) in
    λ i. record { object = record { base = base i; len = len i }; mode = mode i } ∷ rest i

-- the checks of a spawn before those of its entries
abbrev list_then : Limits → SpawnCall → Bool → Bool → Result Task ℕ → Result Task ℕ
list_then limits call misplaced touched rest =
    if nat_lt limits.max_operands call.count then Err TOO_MANY_OPERANDS
    else if misplaced then Err LIST_PLACE
    else if touched then Err MAIN_TOUCH
    else rest

-- and those that follow
abbrev rest_of : Limits → SpawnCall → List Range → ℕ → Memory → Result Task ℕ
rest_of limits call named spawned m =
    task_checked limits call named spawned (entries_checked limits m named (entries_at m call.list call.count))

module _ (limits : Limits) (h m : Memory) (ranges : h.ranges ≡ m.ranges) where
  mode_checked-same : (named : List Range) (object : Range) (mode : Option Mode)
      → mode_checked limits h named object mode ≡ mode_checked limits m named object mode
  mode_checked-same named object None = refl
  mode_checked-same named object (Some mode) =
      λ i. mode_checked limits (record { ranges = ranges i; bytes = m.bytes }) named object (Some mode)

  -- the checks look at the ranges of memory alone
  entries_checked-same : (named : List Range) (es : List Entry)
      → entries_checked limits h named es ≡ entries_checked limits m named es
  unfolding entries_checked
  entries_checked-same named [] = refl
  entries_checked-same named (e ∷ es) =
      λ i. with_rest (mode_checked-same named e.object (mode_of e.mode) i)
      (λ o. entries_checked-same (named ++ o.object ∷ []) es i)

  module _ (named : List Range) (same : (a : ℕ) → MayLoad h.ranges named a → byte_at h a ≡ byte_at m a) where
    -- a list that has entries lies where main may load
    listed-same : (call : SpawnCall) → (nat_lt 0 call.count && is_misplaced h call) ≡ false
        → (nat_lt 0 call.count && touches named (list_range call)) ≡ false
        → entries_at h call.list call.count ≡ entries_at m call.list call.count
    listed-same call placed apart =
        entries_at-same h m call.list call.count (λ a low high.
        let some : nat_lt 0 call.count ≡ true = lt-ltb 0 call.count (omega arith) in
        let inside = (or_parts _ _ (after_true (nat_lt 0 call.count) (is_misplaced h call) some placed)).1 in
        let w = some_from (range_of h.ranges (list_range call)) inside in
        same a (may_load_readable h.ranges named (list_range call) a w.0 w.1
        (after_true (nat_lt 0 call.count) (touches named (list_range call)) some apart) (low, high)))
      where
        after_true : (a b : Bool) → a ≡ true → (a && b) ≡ false → b ≡ false
        after_true true b e d = d
        after_true false b e d = absurd (cc)

    rest_same : (call : SpawnCall) (spawned : ℕ) (b t : Bool) → (nat_lt 0 call.count && is_misplaced h call) ≡ b
        → (nat_lt 0 call.count && touches named (list_range call)) ≡ t
        → list_then limits call b t (rest_of limits call named spawned h)
        ≡ list_then limits call b t (rest_of limits call named spawned m)
    rest_same call spawned true t e d = refl
    rest_same call spawned false true e d = refl
    rest_same call spawned false false e d =
        (λ i. list_then limits call false false (task_checked limits call named spawned
        (entries_checked-same named (listed-same call e d i) i)))

    -- so that the task of a spawn, or its refusal, is the same
    spawn_of-same : (call : SpawnCall) (spawned : ℕ)
        → spawn_of call h named limits spawned ≡ spawn_of call m named limits spawned
    unfolding spawn_of
    spawn_of-same call spawned =
        rest_same call spawned (nat_lt 0 call.count && is_misplaced h call)
        (nat_lt 0 call.count && touches named (list_range call)) refl refl
        ∙ (λ i. list_then limits call
        (nat_lt 0 call.count && (not (call.list % 4 == 0) || is_none (range_of (ranges i) (list_range call))))
        (nat_lt 0 call.count && touches named (list_range call)) (rest_of limits call named spawned m))

-- ---- prints

-- the checks of a print, with the bytes that it would print
abbrev print_then : Limits → MainState → Range → Bool → Bool → List ℕ → MainState
print_then limits s r outside touched bytes =
    if outside then main_trapped s (trap_of s.registers LOAD_DENIED r.base)
    else if touched then main_refused s MAIN_TOUCH
    else if nat_lt limits.output_bytes (length (output_of s.pieces) + r.len) then main_refused s OUTPUT_FULL
    else print_done s bytes

module _ (limits : Limits) (h m : Memory) (ranges : h.ranges ≡ m.ranges) (s : MainState)
    (same : (a : ℕ) → MayLoad h.ranges s.epoch a → byte_at h a ≡ byte_at m a) where
  print_some-same : (r : Range) (b t : Bool) → is_none (range_of h.ranges r) ≡ b → touches s.epoch r ≡ t
      → print_then limits s r b t (bytes_of h r) ≡ print_then limits s r b t (bytes_of m r)
  print_some-same r true t e d = refl
  print_some-same r false true e d = refl
  print_some-same r false false e d =
      let w = some_from (range_of h.ranges r) e in
      ap (print_then limits s r false false) (same_bytes (byte_at h) (byte_at m) r.base r.len
      (λ a low high. same a (may_load_readable h.ranges s.epoch r a w.0 w.1 d (low, high))))

  -- a print's bytes lie where main may load
  print_call-same : (r : Range) → print_call limits h s r ≡ print_call limits m s r
  print_call-same r =
      ap (λ (x : MainState). cond (r.len == 0) (call_done s) x)
      (print_some-same r (is_none (range_of h.ranges r)) (touches s.epoch r) refl refl
      ∙ (λ i. print_then limits s r (is_none (range_of (ranges i) r)) (touches s.epoch r) (bytes_of m r)))

  -- each call of main does the same on both
  pub main_call-same : (c : Call) → main_call limits h s c ≡ main_call limits m s c
  main_call-same ExitCall = refl
  main_call-same Spawn =
      ap (spawn_on s) (spawn_of-same limits h m ranges s.epoch same (spawn_call s.registers) s.spawned)
  main_call-same Barrier = refl
  main_call-same Print = λ i. (print_call-same (print_range s.registers) i, None)
  main_call-same Await = refl
  main_call-same (Unknown n) = refl
