-- Main completes no more instructions than it may, and prints no more bytes.
use Rattle.std.proofs.Common.{◌≡◌, ℕ, zero, suc, ◌+◌, ◌<◌, ◌≤◌, Bool, true, false, if◌then◌else◌, List, [], ◌∷◌, ◌++◌}
use Rattle.std.proofs.Common.{length, Option, Some, None, Result, Ok, Err, refl, sym, ap, ◌∙◌, subst, arith}
use Rattle.std.specs.Prelude.{◌==◌, nat_lt, is_some, is_none}
use Rattle.std.proofs.lemmas.Bool.{leb-false, ltb-false}
use Rattle.std.proofs.lemmas.Option.{none-some}
use Rattle.tss_base.specs.declared.range.Range.{Range}
use Rattle.tss_base.specs.declared.machine.Limits.{Limits}
use Rattle.tss_base.specs.declared.ending.Ending.TheVariants.{Exit}
use Rattle.tss_base.specs.declared.causes.TheConstants.{LOAD_DENIED, UNKNOWN_CALL}
use Rattle.tss_base.specs.declared.refusals.TheConstants.{MAIN_TOUCH, OUTPUT_FULL}
use Rattle.tss_base.specs.declared.operand.Task.{Task}
use Rattle.tss_base.specs.declared.machine.Machine.{Machine}
use Rattle.tss_base.specs.declared.event.Event.{Event}
use Rattle.tss_base.specs.declared.event.Event.TheVariants as event
use Rattle.tss_base.specs.Image.{ImageState, SegmentState}
use Rattle.tss_model.specs.Memory.{Memory, range_of, byte_at, bytes_of}
use Rattle.tss_model.specs.Registers.{Registers, register_at, trap_of}
use Rattle.tss_model.specs.Access.{MainActor, touches}
use Rattle.tss_model.specs.Core.{Stepped, Executed, Called, Ended, Trapped, Touched}
use Rattle.tss_model.specs.TaskRun.{repeated}
use Rattle.tss_model.specs.Spawn.{spawn_of}
use Rattle.tss_model.specs.MainStep.{Piece, MainState, Flat, Call, ExitCall, Spawn, Barrier, Print, Await, Unknown}
use Rattle.tss_model.specs.MainStep.{has_spent, main_on, main_core, main_step, main_stretch, output_of, main_ended}
use Rattle.tss_model.specs.MainStep.{main_trapped, main_refused, call_done, spawn_call, spawn_done, spawn_on}
use Rattle.tss_model.specs.MainStep.{print_range, print_done, print_call, awaited_object, await_done, await_on}
use Rattle.tss_model.specs.MainStep.{main_call}
use Rattle.tss_protocol.specs.State.{State, initial_state}
use Rattle.tss_protocol.specs.MainEvent.{flat_of, call_next, after_call, main_by}
use Rattle.tss_protocol.specs.UnitMachine.{after_event}
use Rattle.tss_protocol.specs.Run.{IsRun}
use Rattle.tss_program_order.proofs.FlatMain.{main_core-step, main_stretch-leaves}
use Rattle.tss_program_order.proofs.FlatCore.{IsStep}
use Rattle.tss_program_order.proofs.FlatSteps.{main_step-ended, main_step-spent, main_step-core, next_call-spent}
use Rattle.tss_program_order.proofs.RunKeeps.{main_keeps}
use Rattle.std.proofs.lemmas.Grind.{flat_map-append}
use Rattle.std.proofs.lemmas.List.{length-append}
use Rattle.std.proofs.lemmas.List.FromFn.{length-map-range_with_len}

-- ---- calls

-- where main's next step is a call it has an instruction left
pub call_left : (m : Machine) (S : State) (c : Call) → call_next m S ≡ Some c
    → S.main.registers.done < m.limits.main_budget
call_left m S c e = by (has_spent m.limits S.main) refl
  where
    by : (b : Bool) → has_spent m.limits S.main ≡ b → S.main.registers.done < m.limits.main_budget
    by true spent = absurd (none-some c (sym (next_call-spent S.code m.limits (flat_of S) spent) ∙ e))
    by false left = leb-false m.limits.main_budget S.main.registers.done left

-- what main has printed with one more piece
printed_more : (ps : List Piece) (p : Piece)
    → length (output_of (ps ++ p ∷ [])) ≡ length (output_of ps) + length p.bytes
printed_more ps p =
    ap length (flat_map-append (λ (p : Piece). p.bytes) ps (p ∷ []))
    ∙ length-append (output_of ps) (output_of (p ∷ []))
    ∙ ap (λ n. length (output_of ps) + n) (length-append p.bytes [])
    ∙ more (length (output_of ps)) (length p.bytes)
  where
    more : (a b : ℕ) → a + (b + 0) ≡ a + b
    more a b = omega arith

-- ---- within the limits

-- main has completed and printed no more than it may
pub record IsWithin (limits : Limits) (s : MainState) : Type 0 where
  pub done : s.registers.done ≤ limits.main_budget
  pub output : length (output_of s.pieces) ≤ limits.output_bytes

module _ (code : List SegmentState) (limits : Limits) where
  on_within : (f : Flat) (x : Stepped) → IsStep (MainActor f.memory.ranges f.main.epoch) f.main.registers x
      → f.main.registers.done < limits.main_budget → (main_on f x).main.registers.done ≤ limits.main_budget
  on_within f (Executed r None) step left = omega (arith, step, left)
  on_within f (Executed r (Some w)) step left = omega (arith, step.0, left)
  on_within f Called step left = omega (arith, left)
  on_within f Ended step left = omega (arith, left)
  on_within f (Trapped t) step left = omega (arith, left)
  on_within f Touched step left = omega (arith, left)

  -- a step completes no more
  step_within : (f : Flat) → f.main.registers.done ≤ limits.main_budget
      → (main_step code limits f).main.registers.done ≤ limits.main_budget
  step_within f few = by (is_some f.main.ending) (has_spent limits f.main) refl refl
    where
      by : (e s : Bool) → is_some f.main.ending ≡ e → has_spent limits f.main ≡ s
          → (main_step code limits f).main.registers.done ≤ limits.main_budget
      by true s ended spent =
          subst (λ (g : Flat). g.main.registers.done ≤ limits.main_budget)
          (sym (main_step-ended code limits f ended)) few
      by false true on spent =
          subst (λ (g : Flat). g.main.registers.done ≤ limits.main_budget)
          (sym (main_step-spent code limits f on spent)) few
      by false false on left =
          subst (λ (g : Flat). g.main.registers.done ≤ limits.main_budget)
          (sym (main_step-core code limits f on left))
          (on_within f (main_core code f) (main_core-step code f)
          (leb-false limits.main_budget f.main.registers.done left))

  -- nor does a stretch
  stretch_within : (n : ℕ) (f : Flat) → f.main.registers.done ≤ limits.main_budget
      → (main_stretch code limits n f).main.registers.done ≤ limits.main_budget
  unfolding repeated
  stretch_within zero f few = few
  stretch_within (suc n) f few = stretch_within n (main_step code limits f) (step_within f few)

-- ---- calls

module _ (limits : Limits) (memory : Memory) (s : MainState) (left : s.registers.done < limits.main_budget)
    (within : IsWithin limits s) where
  -- one that is done
  called : (t : MainState) → t.registers.done ≡ s.registers.done + 1 → t.pieces ≡ s.pieces → IsWithin limits t
  called t done pieces = record {
    done = omega (arith, left, done);
    output = subst (λ ps. length (output_of ps) ≤ limits.output_bytes) (sym pieces) within.output;
  }

  -- one that isn't
  refused : (t : MainState) → t.registers ≡ s.registers → t.pieces ≡ s.pieces → IsWithin limits t
  refused t registers pieces = record {
    done = subst (λ (r : Registers). r.done ≤ limits.main_budget) (sym registers) within.done;
    output = subst (λ ps. length (output_of ps) ≤ limits.output_bytes) (sym pieces) within.output;
  }

  spawn_within : (r : Result Task ℕ) → IsWithin limits (spawn_on s r).0
  spawn_within (Ok t) = called (spawn_done s t) refl refl
  spawn_within (Err n) = refused (main_refused s n) refl refl

  await_within : (x : Option Range) → IsWithin limits (await_on s x)
  await_within None = refused (await_on s None) refl refl
  await_within (Some x) = called (await_done s x) refl refl

  print_within : (r : Range) → IsWithin limits (print_call limits memory s r)
  print_within r =
      by (r.len == 0) (is_none (range_of memory.ranges r)) (touches s.epoch r)
      (nat_lt limits.output_bytes (length (output_of s.pieces) + r.len)) refl
    where
      by : (n b t o : Bool) → nat_lt limits.output_bytes (length (output_of s.pieces) + r.len) ≡ o
          → IsWithin limits (if n then call_done s
          else (if b then main_trapped s (trap_of s.registers LOAD_DENIED r.base)
          else if t then main_refused s MAIN_TOUCH
          else if o then main_refused s OUTPUT_FULL
          else print_done s (bytes_of memory r)))
      by true b t o e = called (call_done s) refl refl
      by false true t o e = refused (main_trapped s (trap_of s.registers LOAD_DENIED r.base)) refl refl
      by false false true o e = refused (main_refused s MAIN_TOUCH) refl refl
      by false false false true e = refused (main_refused s OUTPUT_FULL) refl refl
      by false false false false e =
          let room = ltb-false limits.output_bytes (length (output_of s.pieces) + r.len) e in
          let more = printed_more s.pieces (record { before = s.spawned; bytes = bytes_of memory r }) in
          let many = length-map-range_with_len (byte_at memory) r.base r.len in
          record { done = omega (arith, left); output = omega (arith, room, more, many) }

  call_within : (c : Call) → IsWithin limits (main_call limits memory s c).0
  call_within ExitCall = called (main_ended (call_done s) (Exit (register_at s.registers 10))) refl refl
  call_within Spawn =
      spawn_within (spawn_of (spawn_call s.registers) memory s.epoch limits s.spawned)
  call_within Barrier = called (record (call_done s) { epoch = [] }) refl refl
  call_within Print = print_within (print_range s.registers)
  call_within Await = await_within (awaited_object s)
  call_within (Unknown n) = refused (main_trapped s (trap_of s.registers UNKNOWN_CALL n)) refl refl

-- ---- main's event

module _ (m : Machine) (S : State) (within : IsWithin m.limits S.main) where
  by_call : (p : MainState × Option Task) → IsWithin m.limits p.0 → IsWithin m.limits (after_call S p).main
  by_call (main, None) h = h
  by_call (main, Some t) h = h

  main_within : (c : Option Call) → call_next m S ≡ c → IsWithin m.limits (main_by m S c).main
  main_within None e =
      let same = (main_stretch-leaves S.code m.limits m.sizes.quantum (flat_of S)).pieces in
      record {
        done = stretch_within S.code m.limits m.sizes.quantum (flat_of S) within.done;
        output = subst (λ ps. length (output_of ps) ≤ m.limits.output_bytes) (sym same) within.output;
      }
  main_within (Some c) e =
      by_call (main_call m.limits S.home S.main c)
      (call_within m.limits S.home S.main (call_left m S c e) within c)

  within_after : IsWithin m.limits (after_event m S event.Main).main
  unfolding after_event
  within_after = main_within (call_next m S) refl

-- so it does in every run
pub within_run : (m : Machine) (i : ImageState) (es : List Event) (S : State) → IsRun m i es S
    → IsWithin m.limits S.main
within_run m i es S run =
    main_keeps (IsWithin m.limits) m (λ S within. within_after m S within) es (initial_state i) S
    (record { done = omega arith; output = omega arith }) run
