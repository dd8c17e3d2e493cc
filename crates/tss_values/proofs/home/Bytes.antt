-- Home and the memory of program order have a byte at each address of an object of the round: it lies in a range of
-- memory, and what was loaded stays.
use Rattle.std.proofs.Common.{◌≡◌, ℕ, suc, Bool, true, false, List, [], ◌∷◌, length, Option, Some, refl, sym, ap}
use Rattle.std.proofs.Common.{◌∙◌, subst}
use Rattle.std.specs.Prelude.{◌==◌, cond, slice_get, Result, Ok, Err}
use Rattle.std.proofs.lemmas.Option.{none-some, same_Some}
use Rattle.tss_base.specs.declared.operand.OpName.{OpName}
use Rattle.tss_base.specs.declared.operand.Operand.{Operand}
use Rattle.tss_base.specs.declared.operand.Task.{Task}
use Rattle.tss_base.specs.declared.machine.Limits.{Limits}
use Rattle.tss_base.specs.declared.machine.Machine.{Machine}
use Rattle.tss_base.specs.declared.event.Event.{Event}
use Rattle.tss_base.specs.declared.event.Event.TheVariants as event
use Rattle.tss_base.specs.Range.{Covers}
use Rattle.tss_base.specs.Image.{ImageState}
use Rattle.tss_model.specs.Access.{operands_of}
use Rattle.tss_model.specs.Memory.{Memory, range_of, memory_ranges, loaded}
use Rattle.tss_model.specs.Spawn.{spawn_of}
use Rattle.tss_model.specs.InOrder.{flat_stepped}
use Rattle.tss_model.specs.MainStep.{Call, Spawn, spawn_call, spawn_on}
use Rattle.tss_protocol.specs.State.{State, initial_state}
use Rattle.tss_protocol.specs.MainEvent.{call_next}
use Rattle.tss_protocol.specs.UnitMachine.{after_event}
use Rattle.tss_control.specs.Members.{operand_among}
use Rattle.tss_names.specs.Tasks.{task_at, with_spawned, spawned_by_main, spawned_after_event}
use Rattle.tss_control.specs.Control.{KnowsRound}
use Rattle.tss_program_order.proofs.FlatEpoch.{spawn_of-spawned}
use Rattle.tss_program_order.proofs.FlatOperands.{spawned-fit}
use Rattle.tss_program_order.proofs.RunKeeps.{HasGround}
use Rattle.tss_program_order.proofs.LoadedBytes.{HasByte, loaded_covers}
use Rattle.tss_program_order.proofs.KeptBytes.{kept_in_order, kept-after_event}

-- ---- memory

-- it has all bytes that were loaded
abbrev pub HasBytes : ImageState → Memory → Type 0
HasBytes i memory = (a : ℕ) → HasByte (loaded i) a → HasByte memory a

-- program order does
pub HasBytes-in_order : (i : ImageState) (limits : Limits) (n : ℕ) → HasBytes i (flat_stepped i limits n).memory
HasBytes-in_order i limits n a h = kept_in_order a i limits n h

-- home does at first
pub HasBytes-initial_state : (i : ImageState) → HasBytes i (initial_state i).home
HasBytes-initial_state i a h = h

-- and after every event
pub HasBytes-after_event : (i : ImageState) (m : Machine) (S : State) (e : Event) → HasBytes i S.home
    → HasBytes i (after_event m S e).home
HasBytes-after_event i m S e bytes a h = kept-after_event a m S (bytes a h) e

-- ---- objects

-- the objects of a task lie in ranges of memory
abbrev HasPlacedObjects : ImageState → Task → Type 0
HasPlacedObjects i t =
    (k : ℕ) (o : Operand)
    → slice_get (operands_of t) k ≡ Some o
    → (w : Bool) × (range_of (memory_ranges i) o.object ≡ Some w)

-- those of each spawned task do
abbrev pub HavePlacedObjects : ImageState → List Task → Type 0
HavePlacedObjects i all = (n : ℕ) (t : Task) → task_at all n ≡ Some t → HasPlacedObjects i t

-- none is spawned yet
pub no_places : (i : ImageState) → HavePlacedObjects i []
no_places i n t e = absurd (none-some t e)

module _ (m : Machine) (i : ImageState) (all : List Task) (S : State) (code : HasGround i S)
    (placed : HavePlacedObjects i all) where
  one_more : (t : Task) → HasPlacedObjects i t → HavePlacedObjects i (t ∷ all)
  one_more t own n u e = by (n == suc (length all)) e
    where
      by : (b : Bool) → cond b (Some t) (task_at all n) ≡ Some u → HasPlacedObjects i u
      by true e = subst (HasPlacedObjects i) (same_Some t u e) own
      by false e = placed n u e

  placed_by_spawn : (x : Result Task ℕ)
      → spawn_of (spawn_call S.main.registers) S.home S.main.epoch m.limits S.main.spawned ≡ x
      → HavePlacedObjects i (with_spawned all (spawn_on S.main x).1)
  placed_by_spawn (Err n) e = placed
  placed_by_spawn (Ok t) e =
      let call = spawn_call S.main.registers in
      one_more t (λ k o at.
      let own = spawned-fit m.limits S.home S.main.epoch t
      (spawn_of-spawned call S.home S.main.epoch m.limits S.main.spawned t e) k o at in
      (own.writable, ap (λ ranges. range_of ranges o.object) (sym code.ranges) ∙ own.placed))

  placed_by_call : (c : Option Call) → HavePlacedObjects i (spawned_by_main m S all c)
  placed_by_call (Some Spawn) =
      placed_by_spawn (spawn_of (spawn_call S.main.registers) S.home S.main.epoch m.limits S.main.spawned) refl
  placed_by_call other = placed

  -- after every event they do
  pub HavePlacedObjects-after_event : (e : Event) → HavePlacedObjects i (spawned_after_event m S all e)
  HavePlacedObjects-after_event event.Main = placed_by_call (call_next m S)
  HavePlacedObjects-after_event e = placed

-- so the addresses of an operand's object were loaded
pub object_loaded : (i : ImageState) (all ts : List Task) → KnowsRound all ts → HavePlacedObjects i all → (o : OpName)
    (p : Operand) (a : ℕ) → operand_among ts o ≡ Some p → Covers p.object a → HasByte (loaded i) a
object_loaded i all ts known placed o p a among inside =
    let of = known.operands o p among in
    let place = placed o.task of.task of.spawned o.place p of.place in
    loaded_covers i p.object place.0 a place.1 inside
