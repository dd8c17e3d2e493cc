-- The state that is shown is that of the events that were done.
use Rattle.std.proofs.Common.{◌≡◌, Bool, true, false, cond, List, [], ◌∷◌, Option, Some, None, Result, Ok, Err, refl, sym}
use Rattle.tss_base.specs.declared.event.Event.{Event}
use Rattle.tss_base.specs.declared.machine.Machine.{Machine}
use Rattle.tss_protocol.specs.Run.{after_events}
use Rattle.tss_protocol.specs.Schedule.{LogFault, BadLine, NotEnabled, Short, Long}
use Rattle.tss_protocol.specs.State.{State}
use Rattle.tss_protocol.specs.UnitMachine.{is_enabled, after_event}
use Rattle.tss_unit_runs.specs.declared.faults.LineFault.{LineFault}
use Rattle.tss_unit_runs.specs.declared.faults.LineFault.TheVariants as line
use Rattle.tss_unit_runs.specs.Runs.{fault_of, is_short, IsWholeOrShort}
use Rattle.tss_command.specs.declared.outcome.Program.{Program}
use Rattle.tss_command.specs.declared.outcome.Refusal.{Refusal}
use Rattle.tss_command.specs.declared.outcome.Refusal.TheVariants as refusal
use Rattle.tss_command.specs.Work.{Deed, state_after, state_deed, state_answer}

some_same : {X : Type 0} {x y : X} → Some x ≡ Some y → x ≡ y
some_same e = cc

none_some : {X : Type 0} {x : X} → None ≡ Some x → ⊥
none_some e = cc

true_false : true ≡ false → ⊥
true_false e = cc

step_done : (b : Bool) (x : Option State) (T : State) → cond b x None ≡ Some T → x ≡ Some T
step_done true x T run = run
step_done false x T run = absurd (none_some run)

-- a run's state is that which its events leave one after another
pub state_is : (m : Machine) (S : State) (es : List Event) (T : State) → after_events m S es ≡ Some T → T ≡ state_after m S es
unfolding after_events state_after
state_is m S [] T run = sym (some_same run)
state_is m S (e ∷ es) T run =
    state_is m (after_event m S e) es T (step_done (is_enabled m S e) (after_events m (after_event m S e) es) T run)

-- where a judgement has no fault but that the lines may end too early, the state is shown
pub state_whole : (p : Program) (es : List Event) (fault : Option LogFault) → IsWholeOrShort fault → ◌≡◌ {A = Result Deed Refusal} (Ok (state_deed p es)) (state_answer p es fault)
state_whole p es None whole = refl
state_whole p es (Some (BadLine n)) whole = absurd whole
state_whole p es (Some (NotEnabled n)) whole = absurd whole
state_whole p es (Some (Short n)) whole = refl
state_whole p es (Some (Long n)) whole = absurd whole

-- and any other fault is told
pub state_refused : (p : Program) (es : List Event) (fault : LineFault) → is_short fault ≡ false →
    ◌≡◌ {A = Result Deed Refusal} (Err (refusal.Schedule fault)) (state_answer p es (Some (fault_of fault)))
state_refused p es (line.BadLine n) other = refl
state_refused p es (line.NotEnabled n) other = refl
state_refused p es (line.Short n) other = absurd (true_false other)
state_refused p es (line.Long n) other = refl
