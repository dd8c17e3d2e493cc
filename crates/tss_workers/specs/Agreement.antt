-- Contents of buffers under their names that are those under their places.
use Rattle.std.specs.Prelude.{◌≡◌, ℕ, List, [], ◌∷◌, Option, Some}
use Rattle.std.specs.FinMap.{get}
use Rattle.tss_base.specs.declared.operand.OpName.{OpName}
use Rattle.tss_base.specs.Names.{Named}
use Rattle.tss_model.specs.TaskRun.{TaskState}
use Rattle.tss_protocol.specs.Mail.{StorageName, Home, Buffer}
use Rattle.tss_protocol.specs.Workers.{Stores}

-- names have places, no two share one, and the contents under a name are those at its place
pub record Agree (place_of : OpName → Option OpName) (contents placed : Named (List ℕ)) : Type 0 where
  pub one : (n m p : OpName) → place_of n ≡ Some p → place_of m ≡ Some p → n ≡ m
  pub same : (n p : OpName) → place_of n ≡ Some p → get contents n ≡ get placed p

-- stores with the same home, and contents that agree
pub record StoresAgree (place_of : OpName → Option OpName) (s t : Stores) : Type 0 where
  pub home : t.home ≡ s.home
  pub contents : Agree place_of s.contents t.contents

-- a storage by its buffer's name, and the same by its place
abbrev pub StandsFor : (OpName → Option OpName) → StorageName → StorageName → Type 0
StandsFor place_of Home Home = Unit {0}
StandsFor place_of Home (Buffer p) = ⊥
StandsFor place_of (Buffer n) Home = ⊥
StandsFor place_of (Buffer n) (Buffer p) = place_of n ≡ Some p

-- storages in turn
abbrev pub StandFor : (OpName → Option OpName) → List StorageName → List StorageName → Type 0
StandFor place_of [] [] = Unit {0}
StandFor place_of [] (t ∷ ts) = ⊥
StandFor place_of (s ∷ ss) [] = ⊥
StandFor place_of (s ∷ ss) (t ∷ ts) = StandsFor place_of s t × StandFor place_of ss ts

-- a task that runs over stores that agree
pub record TasksAgree (place_of : OpName → Option OpName) (s t : TaskState Stores) : Type 0 where
  pub registers : t.registers ≡ s.registers
  pub scratch : t.scratch ≡ s.scratch
  pub trap : t.trap ≡ s.trap
  pub memory : StoresAgree place_of s.memory t.memory
