-- Induction over the events of a run, and over what they do to the front.
use Rattle.std.proofs.Common.{◌≡◌, Bool, true, false, if◌then◌else◌, List, [], ◌∷◌, Some, None, inl, inr, refl, sym}
use Rattle.std.proofs.Common.{subst}
use Rattle.std.proofs.lemmas.Option.{none-some, same_Some}
use Rattle.tss_base.specs.declared.operand.Task.{Task}
use Rattle.tss_base.specs.declared.machine.Machine.{Machine}
use Rattle.tss_base.specs.declared.operand.OpName.{OpName}
use Rattle.tss_base.specs.declared.event.Event.{Event}
use Rattle.tss_base.specs.declared.event.Event.TheVariants as event
use Rattle.tss_base.specs.Image.{ImageState}
use Rattle.tss_protocol.specs.State.{State, initial_state}
use Rattle.tss_protocol.specs.UnitMachine.{is_enabled, IsEnabled, after_event}
use Rattle.tss_protocol.specs.Run.{after_events}
use Rattle.tss_names.specs.Tasks.{TasksFact, OverTasks, spawned_after_event, spawned_after}
use Rattle.tss_protocol.specs.MainEvent.{call_next}
use Rattle.tss_names.specs.Tasks.{spawned_by_main}
use Rattle.tss_protocol.proofs.FrontLemmas.{all_come, ComeFrom, KeepsFront, KeepsFront-after_event}
use Rattle.tss_names.proofs.SpawnLemmas.{SpawnsNothing, SpawnsOne, SpawnsAtMostOne, spawns_main}
use Rattle.tss_names.proofs.TakeLemmas.{TakesTask, takes_take, DecodesOperand, decodes_decode, AcknowledgesOperand}
use Rattle.tss_names.proofs.TakeLemmas.{acknowledges_ack}

-- what the first fact says of a state, the second says after each enabled event
abbrev pub IsKeptAs : TasksFact → TasksFact → Type 0
IsKeptAs I J =
    (m : Machine) (ts : List Task) (S : State) (e : Event)
    → I m ts S
    → IsEnabled m S e
    → J m (spawned_after_event m S ts e) (after_event m S e)

-- each enabled event keeps the fact
abbrev pub IsKept : TasksFact → Type 0
IsKept I = IsKeptAs I I

-- so a list of events does
pub kept_after : (I : TasksFact) → IsKept I → (m : Machine) (es : List Event) (ts : List Task) (S T : State)
    → I m ts S → after_events m S es ≡ Some T → I m (spawned_after m S ts es) T
unfolding after_events spawned_after
kept_after I kept m [] ts S T h run = subst (I m ts) (same_Some S T run) h
kept_after I kept m (e ∷ es) ts S T h run =
    by (is_enabled m S e) refl run
    (λ k. kept_after I kept m es (spawned_after_event m S ts e) (after_event m S e) T k)
  where
    by : (b : Bool) → is_enabled m S e ≡ b → (if b then after_events m (after_event m S e) es else None) ≡ Some T
        → (I m (spawned_after_event m S ts e) (after_event m S e) → after_events m (after_event m S e) es ≡ Some T
        → I m (spawned_after m (after_event m S e) (spawned_after_event m S ts e) es) T)
        → I m (spawned_after m (after_event m S e) (spawned_after_event m S ts e) es) T
    by true on rest go = go (kept m ts S e h on) rest
    by false off rest go = absurd (none-some T rest)

-- what holds at first and is kept gives a law
pub law_from : (I P : TasksFact) → ((m : Machine) (i : ImageState) → I m [] (initial_state i)) → IsKept I
    → ((m : Machine) (ts : List Task) (S : State) → I m ts S → P m ts S) → OverTasks P
law_from I P first kept so m i es S accepted admissible run =
    so m _ S (kept_after I kept m es [] (initial_state i) S (first m i) run)

-- a spawn of nothing leaves the front alone
keeps_by_nothing : (ts us : List Task) (S T : State) → SpawnsNothing ts us S T → KeepsFront S T
keeps_by_nothing ts us S T q =
    record { front = q.front; flight = subst (λ b. ComeFrom S.flight b.flight) (sym q.back) (all_come S.flight) }

-- a fact is kept by every event, maybe as another one, where it is by what the events of the front do, and by what
-- leaves the front alone
module _ (I J : TasksFact)
    (spawns : (m : Machine) (ts us : List Task) (S T : State) → I m ts S → (p : SpawnsOne m ts us S T)
    → J m (p.task ∷ ts) T)
    (takes : (m : Machine) (ts : List Task) (S T : State) → I m ts S → TakesTask m S T → J m ts T)
    (decodes : (m : Machine) (ts : List Task) (S T : State) (o : OpName) → I m ts S → DecodesOperand m S T o → J m ts T)
    (acknowledges : (m : Machine) (ts : List Task) (S T : State) (o : OpName) → I m ts S → AcknowledgesOperand S T o
    → J m ts T)
    (keeps : (m : Machine) (ts : List Task) (S T : State) → I m ts S → KeepsFront S T → J m ts T) where
  kept_by_main : (m : Machine) (ts us : List Task) (S T : State) → I m ts S → SpawnsAtMostOne m ts us S T → J m us T
  kept_by_main m ts us S T h (inl q) =
      subst (λ us. J m us T) (sym q.list) (keeps m ts S T h (keeps_by_nothing ts us S T q))
  kept_by_main m ts us S T h (inr p) = subst (λ us. J m us T) (sym p.list) (spawns m ts us S T h p)

  -- then every event keeps it
  pub kept_by_front : IsKeptAs I J
  kept_by_front m ts S event.Main h on =
      kept_by_main m ts (spawned_by_main m S ts (call_next m S)) S _ h (spawns_main m ts S on)
  kept_by_front m ts S event.Take h on = takes m ts S _ h (takes_take m S on)
  kept_by_front m ts S (event.Decode o) h on = decodes m ts S _ o h (decodes_decode m S o on)
  kept_by_front m ts S (event.Ack o) h on = acknowledges m ts S _ o h (acknowledges_ack m S o on)
  kept_by_front m ts S e h on = keeps m ts S _ h (KeepsFront-after_event m S e refl)
