-- A flat machine that follows program order goes on to do so, and comes to its end.
use Rattle.std.proofs.Common.{◌≡◌, ℕ, zero, suc, ◌+◌, ◌<◌, Bool, true, false, List, [], Option, Some, None, refl, sym, ap, subst, ◌∙◌, arith}
use Rattle.std.specs.Prelude.{is_some, unwrap_or}
use Rattle.std.proofs.lemmas.Bool.{both_ways, leb-false}
use Rattle.tss_base.specs.declared.operand.Task.{Task}
use Rattle.tss_base.specs.declared.range.Range.{Range}
use Rattle.tss_base.specs.declared.ending.Ending.{Ending}
use Rattle.tss_base.specs.declared.ending.Ending.TheVariants.{Refused}
use Rattle.tss_base.specs.declared.refusals.TheConstants.{MAIN_BUDGET_SPENT}
use Rattle.tss_base.specs.declared.machine.Limits.{Limits}
use Rattle.tss_base.specs.Image.{SegmentState, ImageState}
use Rattle.tss_model.specs.Memory.{Memory, frozen, loaded}
use Rattle.tss_model.specs.TaskRun.{repeated}
use Rattle.tss_model.specs.MainStep.{Flat, Call, main_start, ExitCall, Spawn, Barrier, Print, Await, Unknown, output_of, has_spent, main_step, main_stretch, main_call, next_call, awaited_object}
use Rattle.tss_model.specs.InOrder.{flat_start, flat_step, flat_stepped, main_after, in_order}
use Rattle.tss_program_order.proofs.FlatSteps.{repeated-add, repeated-still, main_step-ended, main_step-spent, next_call-spent, flat_step-main, flat_step-call, next_call-on}
use Rattle.tss_program_order.proofs.FlatOrder.{flat_stepped-ranges, steps_taken-on, main_stretch-reaches, main_after-there, executed_on}
use Rattle.tss_program_order.proofs.FlatStarts.{flat_step-taken, flat_stepped-done}
use Rattle.tss_program_order.proofs.FlatEnds.{in_order-ended}
use Rattle.tss_steps.specs.Limited.{LimitedMain}
use Rattle.tss_inorder.specs.Flats.{FlatState, flat_of, event_by, flat_event, stretched, did_spawn, did_await, did_by, did_at, did_in, GoesFurther, ByDid}
use Rattle.tss_inorder.specs.Order.{with_pieces, Follows, StandsInOrder, EndsInOrder}
use Rattle.tss_inorder.specs.declared.flat.Did.{Did}
use Rattle.tss_inorder.proofs.PieceLemmas.{flat_event-pieces}

-- ---- an event is some steps in program order

module _ (code : List SegmentState) (limits : Limits) (quantum : ℕ) where
  abbrev IsSteps : Flat → Flat → Type 0
  IsSteps f g = (n : ℕ) × (g ≡ repeated (flat_step code limits) n f)

  once : (f g : Flat) → flat_step code limits f ≡ g → IsSteps f g
  unfolding repeated
  once f g e = (1, sym e)

  event_by-steps : (f : Flat) (c : Option Call) → next_call code limits f ≡ c → IsSteps f (event_by code limits quantum f c)
  event_by-steps f None e =
      let reaches = main_stretch-reaches code limits quantum f in (reaches.steps, reaches.reached)
  event_by-steps f (Some c) e = once f _ (flat_step-call code limits f c e)

  flat_event-steps : (f : Flat) → IsSteps f (flat_event code limits quantum f)
  flat_event-steps f = event_by-steps f (next_call code limits f) refl

-- ---- following program order

-- a machine that was opened
pub follows-start : (i : ImageState) (s : FlatState) → flat_of s ≡ flat_start i → s.code ≡ frozen i → Follows i s
unfolding repeated
follows-start i s start code = record {
  code = code;
  steps = 0;
  pieces = [];
  output = ap (λ (f : Flat). output_of f.main.pieces) (sym start);
  reached = ap (λ (f : Flat). with_pieces f []) (sym start);
}

-- with these parts
pub follows-opened : (i : ImageState) (limits : Limits) (m : LimitedMain) (code : List SegmentState) (memory : Memory)
    → m ≡ record { limits = limits; main = main_start i.entry } → code ≡ frozen i → memory ≡ loaded i
    → Follows i (record { limits = m.limits; code = code; main = m.main; memory = memory })
follows-opened i limits m code memory opened frozen_code loaded_memory =
    follows-start i (record { limits = m.limits; code = code; main = m.main; memory = memory })
    (λ j. record { main = (opened j).main; memory = loaded_memory j }) frozen_code

module _ (i : ImageState) (s : FlatState) (follows : Follows i s) where
  -- after one event more
  pub follows-stretched : (quantum : ℕ) → Follows i (stretched quantum s)
  follows-stretched quantum =
      let there = flat_stepped i s.limits follows.steps in
      let more = flat_event-steps s.code s.limits quantum there in
      let alike = flat_event-pieces s.code s.limits quantum (flat_of s) follows.pieces follows.output in
      record {
        code = follows.code;
        steps = follows.steps + more.0;
        pieces = alike.pieces;
        output = alike.output;
        reached =
            repeated-add (flat_step (frozen i) s.limits) follows.steps more.0 (flat_start i)
            ∙ ap (λ (c : List SegmentState). repeated (flat_step c s.limits) more.0 there) (sym follows.code)
            ∙ sym more.1
            ∙ ap (flat_event s.code s.limits quantum) follows.reached
            ∙ alike.form;
      }

  -- where main goes on, it stands where program order does after as many instructions
  pub stands_in_order : s.main.ending ≡ None → StandsInOrder i s
  stands_in_order goes =
      let there = flat_stepped i s.limits follows.steps in
      let on : is_some there.main.ending ≡ false = ap (λ (f : Flat). is_some f.main.ending) follows.reached ∙ ap (λ (e : Option Ending). is_some e) goes in
      let done = flat_stepped-done i s.limits follows.steps on in
      let count : follows.steps ≡ s.main.registers.done = sym done ∙ ap (λ (f : Flat). f.main.registers.done) follows.reached in
      record {
        pieces = follows.pieces;
        output = follows.output;
        there =
            subst (λ (n : ℕ). main_after i s.limits n ≡ Some (with_pieces (flat_of s) follows.pieces)) count
            (main_after-there i s.limits follows.steps done (executed_on there.main.ending on) ∙ ap Some follows.reached);
      }

  -- and where it has ended, program order has come to the same
  pub ends_in_order : (e : Ending) → s.main.ending ≡ Some e → EndsInOrder i s e
  ends_in_order e ended =
      let there = flat_stepped i s.limits follows.steps in
      let over : is_some there.main.ending ≡ true = ap (λ (f : Flat). is_some f.main.ending) follows.reached ∙ ap (λ (o : Option Ending). is_some o) ended in
      sym (in_order-ended i s.limits follows.steps over
      ∙ (λ j. record {
        ending = unwrap_or (follows.reached j).main.ending (Refused MAIN_BUDGET_SPENT (follows.reached j).main.registers.pc);
        tasks = (follows.reached j).main.spawned;
        output = output_of (follows.reached j).main.pieces;
        memory = (follows.reached j).memory;
      })
      ∙ (λ j. record {
        ending = unwrap_or (ended j) (Refused MAIN_BUDGET_SPENT s.main.registers.pc);
        tasks = s.main.spawned;
        output = follows.output j;
        memory = s.memory;
      }))

-- ---- by what an event was

did_spawn-on : (s : FlatState) (o : Option Task) (on : Type 0) (over : Ending → Type 0) → on → ByDid (did_spawn s o) on over
did_spawn-on s None on over holds = holds
did_spawn-on s (Some t) on over holds = holds

did_await-on : (o : Option Range) (on : Type 0) (over : Ending → Type 0) → on → ByDid (did_await o) on over
did_await-on None on over holds = holds
did_await-on (Some object) on over holds = holds

did_by-on : (s : FlatState) (c : Option Call) (on : Type 0) (over : Ending → Type 0) → on → ByDid (did_by s c) on over
did_by-on s None on over holds = holds
did_by-on s (Some ExitCall) on over holds = holds
did_by-on s (Some Spawn) on over holds = did_spawn-on s (main_call s.limits s.memory s.main Spawn).1 on over holds
did_by-on s (Some Barrier) on over holds = holds
did_by-on s (Some Print) on over holds = holds
did_by-on s (Some Await) on over holds = did_await-on (awaited_object s.main) on over holds
did_by-on s (Some (Unknown n)) on over holds = holds

-- what holds where main goes on, and where it has ended
pub by_did : (old new : FlatState) (on : Type 0) (over : Ending → Type 0) → (new.main.ending ≡ None → on) → ((e : Ending) → new.main.ending ≡ Some e → over e)
    → (d : Did) → d ≡ did_in old new → ByDid d on over
by_did old new on over goes ends d e =
    subst (λ (x : Did). ByDid x on over) (sym e) (by new.main.ending refl)
  where
    by : (o : Option Ending) → new.main.ending ≡ o → ByDid (did_at o (did_by old (next_call old.code old.limits (flat_of old)))) on over
    by None none = did_by-on old (next_call old.code old.limits (flat_of old)) on over (goes none)
    by (Some x) some = ends x some

-- ---- further

module _ (code : List SegmentState) (limits : Limits) where
  some_none : (e : Option Ending) → e ≡ None → is_some e ≡ false
  some_none e h = ap (λ (o : Option Ending). is_some o) h

  -- a stretch of main that has ended leaves it so
  stretch-ended : (n : ℕ) (f : Flat) → is_some f.main.ending ≡ true → main_stretch code limits n f ≡ f
  stretch-ended n f ended = repeated-still (main_step code limits) n f (main_step-ended code limits f ended)

  -- so main that goes on after some steps went on before
  on_before : (n : ℕ) (f : Flat) → is_some (main_stretch code limits n f).main.ending ≡ false → is_some f.main.ending ≡ false
  on_before n f on = by (is_some f.main.ending) refl
    where
      by : (b : Bool) → is_some f.main.ending ≡ b → is_some f.main.ending ≡ false
      by true ended = absurd (both_ways _ on (ap (λ (x : Flat). is_some x.main.ending) (stretch-ended n f ended) ∙ ended))
      by false goes = goes

  first : (n : ℕ) (f : Flat) → main_stretch code limits (suc n) f ≡ main_stretch code limits n (main_step code limits f)
  unfolding repeated
  first n f = refl

  stretch-further : (n : ℕ) (f : Flat) → next_call code limits f ≡ None → is_some (main_stretch code limits (suc n) f).main.ending ≡ false
      → f.main.registers.done < (main_stretch code limits (suc n) f).main.registers.done
  stretch-further n f none on =
      let g = main_step code limits f in
      let end = main_stretch code limits n g in
      let later : is_some end.main.ending ≡ false = ap (λ (x : Flat). is_some x.main.ending) (sym (first n f)) ∙ on in
      let next = on_before n g later in
      let step = flat_step-main code limits f none in
      let taken : g.main.registers.done ≡ suc f.main.registers.done =
      ap (λ (x : Flat). x.main.registers.done) (sym step)
      ∙ flat_step-taken code limits f (on_before (suc n) f on) (ap (λ (x : Flat). is_some x.main.ending) step ∙ next) in
      let reaches = main_stretch-reaches code limits n g in
      let count : end.main.registers.done ≡ g.main.registers.done + reaches.steps =
      sym (steps_taken-on end.main later) ∙ reaches.taken ∙ ap (λ (k : ℕ). k + reaches.steps) (steps_taken-on g.main next) in
      let same = ap (λ (x : Flat). x.main.registers.done) (first n f) in
      omega (arith, taken, count, same)

  call-further : (f : Flat) (c : Call) → next_call code limits f ≡ Some c → is_some f.main.ending ≡ false → is_some (flat_step code limits f).main.ending ≡ false
      → f.main.registers.done < (flat_step code limits f).main.registers.done
  call-further f c next on goes =
      let taken = flat_step-taken code limits f on goes in
      omega (arith, taken)

  -- an event after which main goes on completes an instruction
  event-further : (n : ℕ) (f : Flat) (c : Option Call) → next_call code limits f ≡ c → is_some (event_by code limits (suc n) f c).main.ending ≡ false
      → f.main.registers.done < (event_by code limits (suc n) f c).main.registers.done
  event-further n f None e on = stretch-further n f e on
  event-further n f (Some c) e on =
      let step = flat_step-call code limits f c e in
      subst (λ (x : Flat). f.main.registers.done < x.main.registers.done) step
      (call-further f c e (next_call-on code limits f c e) (ap (λ (x : Flat). is_some x.main.ending) step ∙ on))

  -- and found budget left
  event-left : (n : ℕ) (f : Flat) → is_some (flat_event code limits (suc n) f).main.ending ≡ false → f.main.registers.done < limits.main_budget
  event-left n f on = by (has_spent limits f.main) refl
    where
      by : (b : Bool) → has_spent limits f.main ≡ b → f.main.registers.done < limits.main_budget
      by true spent =
          let none = next_call-spent code limits f spent in
          let same = ap (event_by code limits (suc n) f) none in
          let stretch_on : is_some (main_stretch code limits (suc n) f).main.ending ≡ false = ap (λ (x : Flat). is_some x.main.ending) (sym same) ∙ on in
          let step = main_step-spent code limits f (on_before (suc n) f stretch_on) spent in
          let later : is_some (main_stretch code limits n (main_step code limits f)).main.ending ≡ false = ap (λ (x : Flat). is_some x.main.ending) (sym (first n f)) ∙ stretch_on in
          absurd (both_ways _ (on_before n (main_step code limits f) later) (ap (λ (x : Flat). is_some x.main.ending) step))
      by false left = leb-false limits.main_budget f.main.registers.done left

pub goes_further : (quantum : ℕ) → 0 < quantum → (s : FlatState) → (stretched quantum s).main.ending ≡ None → GoesFurther s (stretched quantum s)
goes_further zero some s goes = absurd (omega arith)
goes_further (suc n) some s goes =
    let on = some_none s.code s.limits (stretched (suc n) s).main.ending goes in
    record {
      left = event-left s.code s.limits n (flat_of s) on;
      done = event-further s.code s.limits n (flat_of s) (next_call s.code s.limits (flat_of s)) refl on;
    }

-- the execution in program order leaves memory with the ranges that it has as loaded
pub in_order-ranges : (i : ImageState) (limits : Limits) → (in_order i limits).memory.ranges ≡ (loaded i).ranges
unfolding loaded
in_order-ranges i limits = flat_stepped-ranges i limits (suc limits.main_budget)
