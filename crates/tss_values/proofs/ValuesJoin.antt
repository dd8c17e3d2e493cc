-- The induction over a run of what every event keeps where a run leaves its state, and the law of the result from it.
use Rattle.std.proofs.Common.{◌≡◌, Bool, true, false, cond, List, [], ◌∷◌, ◌++◌, append-nil, Option, Some, None, refl}
use Rattle.std.proofs.Common.{sym, ap, ◌∙◌, subst}
use Rattle.std.proofs.lemmas.Bool.{and_parts}
use Rattle.std.proofs.lemmas.List.{append_assoc}
use Rattle.std.proofs.lemmas.Option.{none-some, same_Some}
use Rattle.std.specs.Prelude.{◌||◌, is_some}
use Rattle.tss_base.specs.declared.operand.Task.{Task}
use Rattle.tss_base.specs.declared.machine.Machine.{Machine}
use Rattle.tss_base.specs.declared.event.Event.{Event}
use Rattle.tss_base.specs.Image.{ImageState, IsAccepted}
use Rattle.tss_base.specs.Machine.{IsAdmissible}
use Rattle.tss_protocol.specs.State.{State, initial_state}
use Rattle.tss_protocol.specs.MainEvent.{is_drained}
use Rattle.tss_protocol.specs.UnitMachine.{is_enabled, IsEnabled, after_event}
use Rattle.tss_protocol.specs.Needs.{round_after_event, round_from, round_of}
use Rattle.tss_protocol.specs.Run.{after_events, IsRun}
use Rattle.tss_names.specs.Tasks.{spawned_after_event, spawned_after, spawned_tasks}
use Rattle.tss_program_order.specs.Refinement.{ResultLaw}
use Rattle.tss_program_order.proofs.RunKeeps.{HasGround-run}
use Rattle.tss_values.proofs.MainEndings.{EndsItself-Run, no_task_trap}
use Rattle.tss_values.proofs.ResultLemmas.{finished_result}
use Rattle.tss_values.proofs.Values.{HasValues}
use Rattle.tss_control.proofs.GroundworkControl.{Facts-Run}

-- ---- one more event

on_run : (b : Bool) (next : Option State) (T : State) → cond b next None ≡ Some T → (b ≡ true) × (next ≡ Some T)
on_run true next T e = (refl, e)
on_run false next T e = absurd (none-some T e)

module _ (m : Machine) where
  -- the events before the last, and the last
  pub after_events-push : (es : List Event) (e : Event) (S T : State) → after_events m S es ≡ Some T → IsEnabled m T e
      → after_events m S (es ++ e ∷ []) ≡ Some (after_event m T e)
  unfolding after_events
  after_events-push [] e S T run on =
      let same = same_Some S T run in
      ap (λ b. cond b (Some (after_event m S e)) None) (subst (λ S. is_enabled m S e ≡ true) (sym same) on)
      ∙ ap (λ S. Some (after_event m S e)) same
  after_events-push (x ∷ es) e S T run on =
      let k = on_run (is_enabled m S x) (after_events m (after_event m S x) es) T run in
      ap (λ b. cond b (after_events m (after_event m S x) (es ++ e ∷ [])) None) k.0
      ∙ after_events-push es e (after_event m S x) T k.1 on

  -- the tasks that are spawned with it
  spawned_after-push : (es : List Event) (e : Event) (S T : State) (ts : List Task) → after_events m S es ≡ Some T
      → spawned_after m S ts (es ++ e ∷ []) ≡ spawned_after_event m T (spawned_after m S ts es) e
  unfolding after_events spawned_after
  spawned_after-push [] e S T ts run = ap (λ S. spawned_after_event m S ts e) (same_Some S T run)
  spawned_after-push (x ∷ es) e S T ts run =
      spawned_after-push es e (after_event m S x) T (spawned_after_event m S ts x)
      (on_run (is_enabled m S x) (after_events m (after_event m S x) es) T run).1

  -- and those of the round
  round_from-push : (es : List Event) (e : Event) (S T : State) (ts : List Task) → after_events m S es ≡ Some T
      → round_from m S ts (es ++ e ∷ []) ≡ round_after_event m T (round_from m S ts es) e
  unfolding after_events round_from
  round_from-push [] e S T ts run = ap (λ S. round_after_event m S ts e) (same_Some S T run)
  round_from-push (x ∷ es) e S T ts run =
      round_from-push es e (after_event m S x) T (round_after_event m S ts x)
      (on_run (is_enabled m S x) (after_events m (after_event m S x) es) T run).1

-- ---- the induction

-- a fact of a machine, an image, the tasks spawned, those of the round, and a state
abbrev pub ValueFact : Type 1
ValueFact = Machine → ImageState → List Task → List Task → State → Type 0

-- each event keeps it in a state that a run leaves
abbrev pub IsValueKept : ValueFact → Type 0
IsValueKept P =
    (m : Machine) (i : ImageState) (es : List Event) (S : State) (e : Event)
    → IsAccepted i
    → IsAdmissible m
    → IsRun m i es S
    → P m i (spawned_tasks m i es) (round_of m (initial_state i) es) S
    → IsEnabled m S e
    → P m i (spawned_after_event m S (spawned_tasks m i es) e)
    (round_after_event m S (round_of m (initial_state i) es) e) (after_event m S e)

module _ (P : ValueFact) (kept : IsValueKept P) (m : Machine) (i : ImageState) (accepted : IsAccepted i)
    (admissible : IsAdmissible m) where
  -- after the events so far
  abbrev HoldsAfter : List Event → State → Type 0
  HoldsAfter es S = P m i (spawned_tasks m i es) (round_of m (initial_state i) es) S

  one_more : (es : List Event) (e : Event) (S : State) → IsRun m i es S → HoldsAfter es S → IsEnabled m S e
      → HoldsAfter (es ++ e ∷ []) (after_event m S e)
  one_more es e S run h on =
      subst (λ all. P m i all (round_of m (initial_state i) (es ++ e ∷ [])) (after_event m S e))
      (sym (spawned_after-push m es e (initial_state i) S [] run))
      (subst (λ ts. P m i (spawned_after_event m S (spawned_tasks m i es) e) ts (after_event m S e))
      (sym (round_from-push m es e (initial_state i) S [] run))
      (kept m i es S e accepted admissible run h on))

  rest_after : (done es : List Event) (S T : State) → IsRun m i done S → HoldsAfter done S
      → after_events m S es ≡ Some T → HoldsAfter (done ++ es) T
  unfolding after_events
  rest_after done [] S T run h e =
      subst (λ es. HoldsAfter es T) (sym (append-nil done)) (subst (HoldsAfter done) (same_Some S T e) h)
  rest_after done (x ∷ es) S T run h e =
      by (is_enabled m S x) refl e
      (λ on. rest_after (done ++ x ∷ []) es (after_event m S x) T
      (after_events-push m done x (initial_state i) S run on) (one_more done x S run h on))
    where
      by : (b : Bool) → is_enabled m S x ≡ b → cond b (after_events m (after_event m S x) es) None ≡ Some T
          → (IsEnabled m S x → after_events m (after_event m S x) es ≡ Some T → HoldsAfter ((done ++ x ∷ []) ++ es) T)
          → HoldsAfter (done ++ x ∷ es) T
      by true on e go =
          subst (λ es. HoldsAfter es T) (append_assoc done (x ∷ []) es) (go on e)
      by false off e go = absurd (none-some T e)

  -- what holds at first holds after every run
  pub values_of_run : P m i [] [] (initial_state i) → (es : List Event) (S : State) → IsRun m i es S → HoldsAfter es S
  unfolding after_events spawned_after round_from
  values_of_run first es S run = rest_after [] es (initial_state i) S refl first run

-- ---- the result

-- every run has the values
abbrev pub HaveValues : Type 0
HaveValues =
    (m : Machine) (i : ImageState) (es : List Event) (S : State)
    → IsAccepted i
    → IsAdmissible m
    → IsRun m i es S
    → HasValues m i (spawned_tasks m i es) (round_of m (initial_state i) es) S

-- then a finished run has the result of program order
pub result_of_values : HaveValues → ResultLaw
result_of_values have m i es S accepted admissible run finished =
    let values = have m i es S accepted admissible run in
    finished_result m i S (Facts-Run m i es S run) values.home
    values.main
    (HasGround-run m i es S run) (no_task_trap S.main (EndsItself-Run m i es S run))
    (and_parts (is_drained S) (is_some S.main.ending || is_some S.trap) finished).0 finished
