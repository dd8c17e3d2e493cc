-- The tasks of a round are among those spawned, and each of their operands is known by its object.
use Rattle.std.proofs.Common.{◌≡◌, ℕ, suc, List, [], ◌∷◌, ◌++◌, append-nil, length, Option, Some, None, refl, sym, ap}
use Rattle.std.proofs.Common.{◌∙◌, subst, inl, inr}
use Rattle.std.specs.Prelude.{option_to_list, slice_get, Result, Ok, Err}
use Rattle.std.proofs.lemmas.Option.{none-some, same_Some}
use Rattle.tss_base.specs.declared.operand.OpName.{OpName}
use Rattle.tss_base.specs.declared.operand.Operand.{Operand}
use Rattle.tss_base.specs.declared.operand.Task.{Task}
use Rattle.tss_base.specs.declared.machine.Machine.{Machine}
use Rattle.tss_base.specs.declared.event.Event.{Event}
use Rattle.tss_base.specs.declared.event.Event.TheVariants as event
use Rattle.tss_model.specs.Access.{operands_of}
use Rattle.tss_model.specs.Spawn.{spawn_of}
use Rattle.tss_model.specs.MainStep.{Call, Spawn, Barrier, spawn_call, spawn_on}
use Rattle.tss_protocol.specs.State.{State}
use Rattle.tss_protocol.specs.MainEvent.{call_next}
use Rattle.tss_protocol.specs.Needs.{round_after_main, round_after_event}
use Rattle.tss_locality.specs.Agreement.{operand_in}
use Rattle.tss_locality.proofs.Subjects.{arrival_task}
use Rattle.tss_locality.proofs.RoundObjects.{arrival_operand, from_longer}
use Rattle.tss_names.specs.Tasks.{task_at, with_spawned, spawned_by_main, spawned_after_event, HasTaskNumbers}
use Rattle.tss_control.specs.Members.{first_there, operand_among}
use Rattle.tss_control.specs.Control.{KnowsRound}
use Rattle.tss_names.proofs.SpawnLemmas.{IsNext-spawn_of}
use Rattle.tss_names.proofs.NumberLemmas.{at_newest, still_at}
use Rattle.tss_program_order.proofs.FlatEpoch.{spawn_of-spawned}
use Rattle.tss_program_order.proofs.FlatOperands.{spawned-single}

-- ---- the operand of a name

-- a task of the list that has it
pub record OperandFound (ts : List Task) (o : OpName) (p : Operand) : Type 0 where
  pub place : ℕ
  pub task : Task
  pub there : slice_get ts place ≡ Some task
  pub arrives : operand_in (Some task) o ≡ Some p

found_by : (t : Task) (ts : List Task) (o : OpName) (p : Operand) → (operand_among ts o ≡ Some p → OperandFound ts o p)
    → (q : Option Operand) → operand_in (Some t) o ≡ q → first_there q (operand_among ts o) ≡ Some p
    → OperandFound (t ∷ ts) o p
found_by t ts o p rest (Some q) at e = record { place = 0; task = t; there = refl; arrives = at ∙ e }
found_by t ts o p rest None at e =
    let f = rest e in
    record { place = suc f.place; task = f.task; there = f.there; arrives = f.arrives }

-- a name with an operand is of one of the tasks
pub found_among : (ts : List Task) (o : OpName) (p : Operand) → operand_among ts o ≡ Some p → OperandFound ts o p
found_among [] o p e = absurd (none-some p e)
found_among (t ∷ ts) o p e = found_by t ts o p (found_among ts o p) (operand_in (Some t) o) refl e

-- ---- a round

-- each operand of a task is known by its object
abbrev HasOwnObjects : Task → Type 0
HasOwnObjects t =
    (j k : ℕ) (p q : Operand)
    → slice_get (operands_of t) j ≡ Some p
    → slice_get (operands_of t) k ≡ Some q
    → p.object ≡ q.object
    → j ≡ k

-- each task of the round is one of those spawned
pub record AreOfSpawned (all ts : List Task) : Type 0 where
  pub spawned : (k : ℕ) (t : Task) → slice_get ts k ≡ Some t → task_at all t.number ≡ Some t
  pub own : (k : ℕ) (t : Task) → slice_get ts k ≡ Some t → HasOwnObjects t

module _ (all ts : List Task) (r : AreOfSpawned all ts) where
  -- two operands on one object with one task are one
  single_operand : (o q : OpName) (p s : Operand) → OperandFound ts o p → OperandFound ts q s → p.object ≡ s.object
      → o.task ≡ q.task → o ≡ q
  single_operand o q p s f g same task =
      let number_o = arrival_task f.task o p f.arrives in
      let number_q = arrival_task g.task q s g.arrives in
      let one : f.task ≡ g.task =
      same_Some f.task g.task (sym (r.spawned f.place f.task f.there)
      ∙ ap (task_at all) (sym number_o ∙ task ∙ number_q) ∙ r.spawned g.place g.task g.there) in
      let place : o.place ≡ q.place =
      r.own f.place f.task f.there o.place q.place p s (arrival_operand f.task o p f.arrives)
      (ap (λ t. slice_get (operands_of t) q.place) one ∙ arrival_operand g.task q s g.arrives) same in
      λ i. record { task = task i; place = place i }

  -- so the round is known
  pub knows_round : KnowsRound all ts
  knows_round = record {
    spawned = r.spawned;
    operands = λ o p e.
        let f = found_among ts o p e in
        record {
          task = f.task;
          spawned = ap (task_at all) (arrival_task f.task o p f.arrives) ∙ r.spawned f.place f.task f.there;
          place = arrival_operand f.task o p f.arrives;
        };
    single = λ o q p s e d same task. single_operand o q p s (found_among ts o p e) (found_among ts q s d) same task;
  }

-- an empty round is one
pub no_round : (all : List Task) → AreOfSpawned all []
no_round all = record {
  spawned = λ k t there. absurd (none-some t there);
  own = λ k t there. absurd (none-some t there);
}

-- ---- main

module _ (m : Machine) (all ts : List Task) (S : State) (h : HasTaskNumbers m all S) (r : AreOfSpawned all ts) where
  round_more : (t : Task) → t.number ≡ suc (length all) → HasOwnObjects t → AreOfSpawned (t ∷ all) (ts ++ t ∷ [])
  round_more t number own = record {
    spawned = λ k u there. elim (from_longer ts t k u there) [
      | inl old ↦ still_at t all u.number u (r.spawned k u old)
      | inr new ↦ subst (λ u. task_at (t ∷ all) u.number ≡ Some u) new (at_newest t all t.number number)
    ];
    own = λ k u there. elim (from_longer ts t k u there) [
      | inl old ↦ r.own k u old
      | inr new ↦ subst HasOwnObjects new own
    ];
  }

  round_by_spawn : (x : Result Task ℕ)
      → spawn_of (spawn_call S.main.registers) S.home S.main.epoch m.limits S.main.spawned ≡ x
      → AreOfSpawned (with_spawned all (spawn_on S.main x).1) (ts ++ option_to_list (spawn_on S.main x).1)
  round_by_spawn (Err n) e = subst (AreOfSpawned all) (sym (append-nil ts)) r
  round_by_spawn (Ok t) e =
      let call = spawn_call S.main.registers in
      round_more t
      ((IsNext-spawn_of call S.home S.main.epoch m.limits S.main.spawned t e).number ∙ ap suc h.spawned)
      (spawned-single m.limits S.home S.main.epoch t
      (spawn_of-spawned call S.home S.main.epoch m.limits S.main.spawned t e))

  round_by_call : (c : Option Call) → AreOfSpawned (spawned_by_main m S all c) (round_after_main m S ts c)
  round_by_call (Some Spawn) =
      round_by_spawn (spawn_of (spawn_call S.main.registers) S.home S.main.epoch m.limits S.main.spawned) refl
  round_by_call (Some Barrier) = no_round all
  round_by_call other = r

  -- after every event they are
  pub AreOfSpawned-after_event : (e : Event)
      → AreOfSpawned (spawned_after_event m S all e) (round_after_event m S ts e)
  AreOfSpawned-after_event event.Main = round_by_call (call_next m S)
  AreOfSpawned-after_event e = r
