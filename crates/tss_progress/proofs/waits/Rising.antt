-- The tasks of a round stand in their order, in every run.
use Rattle.std.proofs.Common.{◌≡◌, ℕ, suc, ◌<◌, List, [], ◌∷◌, ◌++◌, append-nil, Option, Some, refl, sym, subst}
use Rattle.std.proofs.Common.{inl, inr, arith}
use Rattle.std.specs.Prelude.{option_to_list, slice_get, Result, Ok, Err}
use Rattle.std.proofs.lemmas.Option.{none-some}
use Rattle.tss_base.specs.declared.operand.Task.{Task}
use Rattle.tss_base.specs.declared.machine.Machine.{Machine}
use Rattle.tss_base.specs.declared.event.Event.{Event}
use Rattle.tss_base.specs.declared.event.Event.TheVariants as event
use Rattle.tss_base.specs.Image.{ImageState}
use Rattle.tss_model.specs.Spawn.{spawn_of}
use Rattle.tss_model.specs.MainStep.{Call, Spawn, Barrier, spawn_call, spawn_on}
use Rattle.tss_protocol.specs.State.{State, initial_state}
use Rattle.tss_protocol.specs.MainEvent.{call_next}
use Rattle.tss_protocol.specs.Needs.{round_after_main, round_after_event, round_of}
use Rattle.tss_protocol.specs.Run.{IsRun}
use Rattle.tss_locality.specs.Rounds.{IsRounded}
use Rattle.tss_locality.proofs.RoundObjects.{from_longer}
use Rattle.tss_names.proofs.SpawnLemmas.{IsNext-spawn_of}
use Rattle.tss_control.proofs.GroundworkRuns.{ground_of_runs}
use Rattle.tss_names.proofs.ListLemmas.{AreRising}

-- one more task comes behind all
rising_more : (ts : List Task) (t : Task) → AreRising ts
    → ((k : ℕ) (u : Task) → slice_get ts k ≡ Some u → u.number < t.number) → AreRising (ts ++ t ∷ [])
rising_more [] t rise behind = ((λ k u at. absurd (none-some u at)), tt)
rising_more (s ∷ ts) t rise behind = (
  (λ k u at. elim (from_longer ts t k u at) [
    | inl old ↦ rise.0 k u old
    | inr new ↦ subst (λ (u : Task). s.number < u.number) new (behind 0 s refl)
  ]),
  rising_more ts t rise.1 (λ k u at. behind (suc k) u at),
)

module _ (m : Machine) (ts : List Task) (S : State) (round : IsRounded S ts) (rise : AreRising ts) where
  rising_by_spawn : (x : Result Task ℕ)
      → spawn_of (spawn_call S.main.registers) S.home S.main.epoch m.limits S.main.spawned ≡ x
      → AreRising (ts ++ option_to_list (spawn_on S.main x).1)
  rising_by_spawn (Err n) e = subst AreRising (sym (append-nil ts)) rise
  rising_by_spawn (Ok t) e =
      let number =
      (IsNext-spawn_of (spawn_call S.main.registers) S.home S.main.epoch m.limits S.main.spawned t e).number in
      rising_more ts t rise (λ k u at. let low = round.numbers k u at in omega (arith, number, low))

  rising_by_call : (c : Option Call) → AreRising (round_after_main m S ts c)
  rising_by_call (Some Spawn) =
      rising_by_spawn (spawn_of (spawn_call S.main.registers) S.home S.main.epoch m.limits S.main.spawned) refl
  rising_by_call (Some Barrier) = tt
  rising_by_call other = rise

  -- every event keeps the order
  rising_after_event : (e : Event) → AreRising (round_after_event m S ts e)
  rising_after_event event.Main = rising_by_call (call_next m S)
  rising_after_event e = rise

-- in every run they stand in order
pub rising_of_runs : (m : Machine) (i : ImageState) (es : List Event) (S : State) → IsRun m i es S
    → AreRising (round_of m (initial_state i) es)
rising_of_runs m i es S run =
    (ground_of_runs (λ m all ts g S. AreRising ts)
    (λ m all ts g S e ground rise on. rising_after_event m ts S ground.round rise e) (λ m i. tt) m i es S run).1
