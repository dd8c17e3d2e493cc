-- Main's event concerns the task that it spawns, and the addresses of no object that it has named.
use Rattle.std.proofs.Common.{◌≡◌, true, Option, Some, None, refl, subst, sym}
use Rattle.std.specs.Prelude.{◌&&◌, is_none}
use Rattle.std.proofs.lemmas.Bool.{and_parts}
use Rattle.tss_base.specs.declared.operand.Task.{Task}
use Rattle.tss_base.specs.declared.machine.Machine.{Machine}
use Rattle.tss_base.specs.declared.event.Event.TheVariants as event
use Rattle.tss_model.specs.MainStep.{MainState, Call, Spawn, main_call}
use Rattle.tss_model.specs.MainStep.{main_stretch}
use Rattle.tss_protocol.specs.State.{State}
use Rattle.tss_protocol.specs.MainEvent.{flat_of, call_next, may_call, after_call, main_by}
use Rattle.tss_protocol.specs.UnitMachine.{is_enabled, IsEnabled, after_event}
use Rattle.tss_locality.specs.Scopes.{Scope, beyond, ChangesOnly}
use Rattle.tss_locality.specs.Concerns.{ConcernsTask, ConcernsMain}
use Rattle.tss_locality.proofs.States.{InboxOn, state_main, state_home, state_inbox}
use Rattle.tss_locality.proofs.Sending.{changes_none}
use Rattle.tss_locality.proofs.TakeEvent.{inbox_arrived}
use Rattle.tss_locality.proofs.stores.MainStores.{main_stretch_only}
use Rattle.tss_protocol.proofs.DrainedStates.{none_from_test}

module _ (c : Scope) (m : Machine) (S : State) (p : ConcernsMain c m S) where
  main_changed : (x : MainState) → ChangesOnly c S (record S { main = x })
  main_changed x = state_main (beyond c) S S (changes_none c S) x

  called : S.inbox ≡ None → (r : MainState × Option Task) → ((t : Task) → r.1 ≡ Some t → ConcernsTask c t) →
      ChangesOnly c S (after_call S r)
  called empty (main, None) concern = main_changed main
  called empty (main, Some t) concern =
      state_inbox (beyond c) S (record S { main = main }) (main_changed main) (Some t)
      (subst (λ i. InboxOn (beyond c) i (Some t)) (sym empty) (inbox_arrived c t (concern t refl)))

  call_only : (call : Call) → call_next m S ≡ Some call → may_call S (Some call) ≡ true →
      ChangesOnly c S (after_call S (main_call m.limits S.home S.main call))
  call_only Spawn next on =
      called (none_from_test S.inbox on) (main_call m.limits S.home S.main Spawn) (p.spawned Spawn next)
  call_only other next on = main_changed (main_call m.limits S.home S.main other).0

  by_only : (call : Option Call) → call_next m S ≡ call → may_call S call ≡ true → ChangesOnly c S (main_by m S call)
  by_only None next on =
      let f = main_stretch S.code m.limits m.sizes.quantum (flat_of S) in
      let only = main_stretch_only c S.home S.main.epoch p.addresses S.code m.limits m.sizes.quantum (flat_of S)
      (record { epoch = refl; home = record { ranges = refl; bytes = λ a out. refl } }) in
      state_home (beyond c) S (record S { main = f.main }) (main_changed f.main) f.memory only.home
  by_only (Some call) next on = call_only call next on

  -- an event of main
  pub ChangesOnly-main : IsEnabled m S event.Main → ChangesOnly c S (after_event m S event.Main)
  unfolding after_event is_enabled
  ChangesOnly-main on =
      by_only (call_next m S) refl
      (and_parts (is_none S.main.ending && is_none S.trap) (may_call S (call_next m S)) on).1
