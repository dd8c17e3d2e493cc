-- Names in their order, as a list and as a set, and the runs of names of one task.
use Rattle.std.specs.Prelude.{ℕ, zero, suc, ◌<◌, ◌==◌, if◌then◌else◌, List, [], ◌∷◌, map, drop}
use Rattle.std.specs.FinMap.{from_entries}
use Rattle.tss_base.specs.declared.operand.OpName.{OpName}
use Rattle.tss_base.specs.Names.{Named}
use Rattle.tss_protocol.specs.Names.{operand_name}
use Rattle.tss_gateway.specs.declared.names.Held.{Held}

-- the names
abbrev pub names_in : List Held → List OpName
names_in held = map (λ h. h.name) held

-- the entries of the set of them
abbrev pub pairs_of : List OpName → List (OpName × Unit {0})
pairs_of os = map (λ o. (o, tt)) os

-- the set of them
abbrev pub set_of : List OpName → Named (Unit {0})
set_of os = from_entries (pairs_of os)

-- how many names of a task stand at the front
abbrev pub more_of : ℕ → List OpName → ℕ
more_of task [] = 0
more_of task (o ∷ os) = if task == o.task then suc (more_of task os) else 0

-- how many names of one task there are at the front
abbrev pub run_of : List OpName → ℕ
run_of [] = 0
run_of (o ∷ os) = suc (more_of o.task os)

-- from a place on
abbrev pub run_at : List OpName → ℕ → ℕ
run_at os start = run_of (drop start os)

-- the names of a task's places from one on
abbrev pub names_upto : ℕ → ℕ → ℕ → List OpName
names_upto task place zero = []
names_upto task place (suc n) = operand_name task place ∷ names_upto task (suc place) n

-- each place is one of seven
abbrev pub AreLow : List OpName → Type 0
AreLow [] = Unit {0}
AreLow (o ∷ os) = (o.place < 7) × AreLow os
