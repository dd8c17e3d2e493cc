-- A program whose main spawns two tasks that read one object: its image, main around each spawn, and states of a run of
-- it.
use Rattle.std.proofs.Common.{◌≡◌, ℕ, Bool, true, false, List, [], ◌∷◌, ◌++◌, Option, Some, None, refl, sym, ap, ◌∙◌}
use Rattle.std.proofs.Common.{inl, inr, arith}
use Rattle.std.specs.Prelude.{replicate, flat_map, unwrap_or, Result, Ok}
use Rattle.std.specs.Int.{bytes_low_first}
use Rattle.std.specs.Cmp.{nat_cmp_total}
use Rattle.std.specs.FinMap.{get, insert, remove, empty, find, get-empty, get-from_entries, len-empty}
use Rattle.std.specs.Ordering.{nat_cmp}
use Rattle.std.proofs.lemmas.Option.{none-some}
use Rattle.tss_base.specs.declared.range.Range.{Range}
use Rattle.tss_base.specs.declared.operand.OpName.{OpName}
use Rattle.tss_base.specs.declared.operand.Mode.TheVariants.{Input}
use Rattle.tss_base.specs.declared.operand.Operand.{Operand}
use Rattle.tss_base.specs.declared.operand.Task.{Task}
use Rattle.tss_base.specs.declared.event.Event.TheVariants as event
use Rattle.tss_base.specs.Names.{Named, Numbered, name_cmp}
use Rattle.tss_base.specs.Image.{ImageState}
use Rattle.tss_isa.specs.InstrTable.{instr_of}
use Rattle.tss_model.specs.Memory.{zeros, loaded, loaded_bytes, byte_at, number_at}
use Rattle.tss_model.specs.Registers.{Registers}
use Rattle.tss_model.specs.Core.{core_step}
use Rattle.tss_model.specs.Spawn.{Entry as ListEntry, entries_at, entries_checked, spawn_of, no_operand, task_checked}
use Rattle.tss_model.specs.TaskRun.{repeated}
use Rattle.tss_model.specs.MainStep.{MainState, main_step, spawn_call, spawn_on}
use Rattle.tss_maps.specs.Sums.{count_of, one_if}
use Rattle.tss_maps.proofs.Keys.{nat_order, name_order}
use Rattle.tss_maps.proofs.Changes.{at_inserted, from_inserted, remove_inserted, insert_again}
use Rattle.tss_maps.proofs.Sums.{sum_empty}
use Rattle.tss_protocol.specs.Names.{operand_name}
use Rattle.tss_protocol.specs.Mail.{Mail, no_mail}
use Rattle.tss_protocol.specs.State.{State, Flying, Busy, Entry, Version, initial_state}
use Rattle.tss_protocol.specs.Gateway.{has_window}
use Rattle.tss_protocol.specs.Renaming.{line_of, has_earlier}
use Rattle.tss_protocol.specs.MainEvent.{after_call}
use Rattle.tss_protocol.specs.UnitMachine.{after_event}
use Rattle.tss_protocol.proofs.WindowLemmas.{window_when_idle}
use Rattle.tss_protocol.proofs.TurnLemmas.{turn_in_bank}
use Rattle.tss_protocol.proofs.KnownEvents.{small}

-- ---- the program: main spawns twice a task that reads four bytes at 0x20000

abbrev words : List ℕ
words =
    0x10537 ∷ 0x7850513 ∷ 0x105b7 ∷ 0x8058593 ∷ 0x637 ∷ 0x160613 ∷ 0x6b7 ∷ 0x68693 ∷ 0x8b7 ∷ 0x288893 ∷ 0x73 ∷
    0x10537 ∷ 0x7850513 ∷ 0x105b7 ∷ 0x8c58593 ∷ 0x637 ∷ 0x160613 ∷ 0x6b7 ∷ 0x68693 ∷ 0x8b7 ∷ 0x288893 ∷ 0x73 ∷
    0x8b7 ∷ 0x388893 ∷ 0x73 ∷ 0x537 ∷ 0x50513 ∷ 0x8b7 ∷ 0x188893 ∷ 0x73 ∷
    0x52283 ∷ 0x8067 ∷
    0x20000 ∷ 0x4 ∷ 0x1 ∷ 0x20000 ∷ 0x4 ∷ 0x1 ∷ []

abbrev pub racing : ImageState
racing = record {
  entry = 0x10000;
  segments =
      record { base = 0x10000; bytes = flat_map (bytes_low_first 0 4) words; writable = false; code = true }
      ∷ record { base = 0x20000; bytes = zeros 4096; writable = true; code = false }
      ∷ [];
}

abbrev pub x : Range
x = record { base = 0x20000; len = 4 }

abbrev pub reading : Operand
reading = record { object = x; mode = Input }

-- the task of a number
abbrev pub reader : ℕ → Task
reader n = record {
  number = n;
  entry = 0x10078;
  argument = 0;
  listed = 1;
  bases = 0x20000 ∷ replicate 6 0;
  count = 1;
  operands = reading ∷ replicate 6 no_operand;
}

-- ---- main up to and after each spawn

abbrev registers_at : ℕ → ℕ → ℕ → Registers
registers_at list pc done = record {
  values = 0 ∷ 0 ∷ 0xFFFF0000 ∷ replicate 7 0 ++ 0x10078 ∷ list ∷ 1 ∷ 0 ∷ 0 ∷ 0 ∷ 0 ∷ 2 ∷ replicate 14 0;
  pc = pc;
  done = done;
}

abbrev main_at : ℕ → ℕ → ℕ → ℕ → List Range → MainState
main_at list pc done spawned epoch =
    record { registers = registers_at list pc done; spawned = spawned; epoch = epoch; pieces = []; ending = None }

abbrev pub start : State
start = initial_state racing

abbrev pub before_first : MainState
before_first = main_at 0x10080 0x10028 10 0 []

abbrev pub after_first : MainState
after_first = main_at 0x10080 0x1002C 11 1 (x ∷ [])

pub goes_to_first : after_event small start event.Main ≡ record start { main = before_first }
unfolding after_event repeated main_step core_step instr_of
goes_to_first = refl

-- what the image has at an address
byte_is : (a : ℕ) → byte_at (loaded racing) a ≡ unwrap_or (find nat_cmp a (loaded_bytes racing)) 0
unfolding loaded
byte_is a = ap (λ o. unwrap_or o 0) (get-from_entries nat_cmp_total (loaded_bytes racing) a)

abbrev listed : ListEntry
listed = record { object = x; mode = 1 }

first_list : entries_at (loaded racing) 0x10080 1 ≡ listed ∷ []
unfolding loaded_bytes
first_list = λ i.
    record {
      object = record { base = number_at (λ a. byte_is a i) 0x10080 4; len = number_at (λ a. byte_is a i) 0x10084 4 };
      mode = number_at (λ a. byte_is a i) 0x10088 4;
    }
    ∷ []

second_list : entries_at (loaded racing) 0x1008C 1 ≡ listed ∷ []
unfolding loaded_bytes
second_list = λ i.
    record {
      object = record { base = number_at (λ a. byte_is a i) 0x1008C 4; len = number_at (λ a. byte_is a i) 0x10090 4 };
      mode = number_at (λ a. byte_is a i) 0x10094 4;
    }
    ∷ []

-- what the list of a spawn of main makes of its entries, where these objects are named and so many tasks spawned
abbrev checked : MainState → List ListEntry → Result Task ℕ
checked main es =
    task_checked small.limits (spawn_call main.registers) main.epoch main.spawned (entries_checked small.limits
    (loaded racing) main.epoch es)

first_task : spawn_of (spawn_call before_first.registers) (loaded racing) [] small.limits 0 ≡ Ok (reader 1)
unfolding spawn_of entries_checked loaded zeros
first_task = ap (checked before_first) first_list

abbrev pub before_second : MainState
before_second = main_at 0x1008C 0x10054 21 1 (x ∷ [])

abbrev pub after_second : MainState
after_second = main_at 0x1008C 0x10058 22 2 (x ∷ [])

pub second_task : spawn_of (spawn_call before_second.registers) (loaded racing) (x ∷ []) small.limits 1 ≡ Ok (reader 2)
unfolding spawn_of entries_checked loaded zeros
second_task = ap (checked before_second) second_list

-- ---- maps with one entry

abbrev pub one : {X : Type 0} → OpName → X → Named X
one k v = insert empty k v

abbrev pub only : {X : Type 0} → ℕ → X → Numbered X
only k v = insert empty k v

pub at_one : {X : Type 0} (k : OpName) (v : X) → get (one k v) k ≡ Some v
at_one k v = at_inserted name_order empty k v

pub gone_one : {X : Type 0} (k : OpName) (v : X) → remove (one k v) k ≡ empty
gone_one k v = remove_inserted name_order empty k v (get-empty name_cmp k)

pub again_one : {X : Type 0} (k : OpName) (u v : X) → insert (one k u) k v ≡ one k v
again_one k u v = insert_again name_order empty k u v

pub at_only : {X : Type 0} (k : ℕ) (v : X) → get (only k v) k ≡ Some v
at_only k v = at_inserted nat_order empty k v

pub gone_only : {X : Type 0} (k : ℕ) (v : X) → remove (only k v) k ≡ empty
gone_only k v = remove_inserted nat_order empty k v (get-empty nat_cmp k)

pub again_only : {X : Type 0} (k : ℕ) (u v : X) → insert (only k u) k v ≡ only k v
again_only k u v = insert_again nat_order empty k u v

pub none_counted : {X : Type 0} (p : ℕ → X → Bool) → count_of p (empty {R = nat_cmp}) ≡ 0
none_counted p = sum_empty nat_order (λ k x. one_if (p k x))

pub none_held : {X : Type 0} (p : OpName → X → Bool) → count_of p (empty {R = name_cmp}) ≡ 0
none_held p = sum_empty name_order (λ k x. one_if (p k x))

-- ---- the front of the units

-- an idle gateway has room for a task
pub room_for_one : has_window small.sizes (empty {R = name_cmp}) ≡ true
room_for_one = window_when_idle empty small.sizes (omega arith) (len-empty name_cmp (Unit {0}))

-- an operand that alone is to be decoded doesn't wait for its turn
pub own_turn : (k : OpName) → has_earlier k (line_of small.sizes 0 (one k reading)) ≡ false
own_turn k = turn_in_bank small.sizes 0 (one k reading) k (λ p y e before same.
    elim (from_inserted name_order empty k reading p y e) [
      | inl here ↦ let task = ap (λ (o : OpName). o.task) here.0 in omega (arith, task, before)
      | inr old ↦ none-some y (sym (get-empty name_cmp p) ∙ old.1)
    ])

-- ---- states: where main is, and what the units have

abbrev pub at : MainState → Option Task → Named (Unit {0}) → Numbered Flying → List ℕ → Numbered Busy → Numbered Entry
    → Named ℕ → Named Version → Mail → State
at main inbox gateway flight queue workers entries places versions mail = record start {
  main = main;
  inbox = inbox;
  gateway = gateway;
  flight = flight;
  queue = queue;
  workers = workers;
  entries = entries;
  places = places;
  versions = versions;
  mail = mail;
}

-- one object has an entry and one version, 1.0, which holds a place
abbrev pub with_version : MainState → Named (Unit {0}) → Numbered Flying → List ℕ → Numbered Busy → Entry → Version
    → Mail → State
with_version main gateway flight queue workers entry version mail =
    at main None gateway flight queue workers (only 0x20000 entry) (one (operand_name 1 0) 0)
    (one (operand_name 1 0) version) mail

abbrev pub idle_with : MainState → Option Task → State
idle_with main inbox = at main inbox empty empty [] empty empty empty empty no_mail

pub first_spawn : after_event small (idle_with before_first None) event.Main ≡ idle_with after_first (Some (reader 1))
unfolding after_event core_step instr_of
first_spawn = ap (λ r. after_call (idle_with before_first None) (spawn_on before_first r)) first_task

abbrev pub o1 : OpName
o1 = operand_name 1 0

abbrev pub o2 : OpName
o2 = operand_name 2 0
