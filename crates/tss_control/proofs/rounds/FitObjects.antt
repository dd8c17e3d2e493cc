-- The objects of spawned tasks have bytes, and no more than an object may have.
use Rattle.std.proofs.Common.{◌≡◌, ℕ, suc, ◌<◌, ◌≤◌, Bool, true, false, List, [], ◌∷◌, length, Option, Some, refl}
use Rattle.std.proofs.Common.{subst}
use Rattle.std.specs.Prelude.{◌==◌, cond, slice_get, Result, Ok, Err}
use Rattle.std.proofs.lemmas.Option.{none-some, same_Some}
use Rattle.tss_base.specs.declared.operand.Operand.{Operand}
use Rattle.tss_base.specs.declared.operand.Task.{Task}
use Rattle.tss_base.specs.declared.machine.Limits.{Limits}
use Rattle.tss_base.specs.declared.machine.Machine.{Machine}
use Rattle.tss_base.specs.declared.event.Event.{Event}
use Rattle.tss_base.specs.declared.event.Event.TheVariants as event
use Rattle.tss_model.specs.Access.{operands_of}
use Rattle.tss_model.specs.Spawn.{spawn_of}
use Rattle.tss_model.specs.MainStep.{Call, Spawn, spawn_call, spawn_on}
use Rattle.tss_protocol.specs.State.{State}
use Rattle.tss_protocol.specs.MainEvent.{call_next}
use Rattle.tss_names.specs.Tasks.{task_at, with_spawned, spawned_by_main, spawned_after_event}
use Rattle.tss_program_order.proofs.FlatEpoch.{spawn_of-spawned}
use Rattle.tss_program_order.proofs.FlatOperands.{spawned-fit}

-- a task whose objects have bytes, and not too many
abbrev HasFitObjects : Limits → Task → Type 0
HasFitObjects limits t =
    (k : ℕ) (o : Operand)
    → slice_get (operands_of t) k ≡ Some o
    → (0 < o.object.len) × (o.object.len ≤ limits.object_bytes)

-- each spawned task is one
abbrev pub HaveFitObjects : Limits → List Task → Type 0
HaveFitObjects limits all = (n : ℕ) (t : Task) → task_at all n ≡ Some t → HasFitObjects limits t

-- none is spawned yet
pub no_objects : (limits : Limits) → HaveFitObjects limits []
no_objects limits n t e = absurd (none-some t e)

module _ (m : Machine) (all : List Task) (S : State) (fit : HaveFitObjects m.limits all) where
  one_more : (t : Task) → HasFitObjects m.limits t → HaveFitObjects m.limits (t ∷ all)
  one_more t own n u e = by (n == suc (length all)) e
    where
      by : (b : Bool) → cond b (Some t) (task_at all n) ≡ Some u → HasFitObjects m.limits u
      by true e = subst (HasFitObjects m.limits) (same_Some t u e) own
      by false e = fit n u e

  fit_by_spawn : (x : Result Task ℕ)
      → spawn_of (spawn_call S.main.registers) S.home S.main.epoch m.limits S.main.spawned ≡ x
      → HaveFitObjects m.limits (with_spawned all (spawn_on S.main x).1)
  fit_by_spawn (Err n) e = fit
  fit_by_spawn (Ok t) e =
      let call = spawn_call S.main.registers in
      one_more t (λ k o at.
      let own = spawned-fit m.limits S.home S.main.epoch t
      (spawn_of-spawned call S.home S.main.epoch m.limits S.main.spawned t e) k o at in
      (own.some, own.short))

  fit_by_call : (c : Option Call) → HaveFitObjects m.limits (spawned_by_main m S all c)
  fit_by_call (Some Spawn) =
      fit_by_spawn (spawn_of (spawn_call S.main.registers) S.home S.main.epoch m.limits S.main.spawned) refl
  fit_by_call other = fit

  -- after every event they are
  pub HaveFitObjects-after_event : (e : Event) → HaveFitObjects m.limits (spawned_after_event m S all e)
  HaveFitObjects-after_event event.Main = fit_by_call (call_next m S)
  HaveFitObjects-after_event e = fit
