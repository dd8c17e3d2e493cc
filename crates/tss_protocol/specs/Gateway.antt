-- The inbox and the gateway: a spawned task waits in the inbox, and the gateway holds the operands of the tasks that
-- decode, as far as these are still to be acknowledged. It holds a window of tasks at most.
use Rattle.std.specs.Prelude.{ℕ, suc, ◌==◌, Bool, nat_lt, if◌then◌else◌, List, [], ◌∷◌, length}
use Rattle.std.specs.FinMap.{insert, remove, len, keys}
use Rattle.tss_base.specs.declared.operand.OpName.{OpName}
use Rattle.tss_base.specs.declared.operand.Operand.{Operand}
use Rattle.tss_base.specs.declared.operand.Task.{Task}
use Rattle.tss_base.specs.declared.machine.Sizes.{Sizes}
use Rattle.tss_base.specs.Names.{Named}
use Rattle.tss_model.specs.Access.{operands_of}
use Rattle.tss_protocol.specs.Names.{operand_name}
use Rattle.tss_protocol.specs.Mail.{Message, Decode}

-- the names of operands of a task from a place on
abbrev pub names_from : ℕ → ℕ → List Operand → List OpName
names_from task place [] = []
names_from task place (o ∷ os) = operand_name task place ∷ names_from task (suc place) os

-- the names of a task's operands
abbrev pub names_of : Task → List OpName
names_of t = names_from t.number 0 (operands_of t)

-- ---- the tasks that the gateway holds

-- a task of which it holds operands, and how many
pub record HeldTask : Type 0 where
  pub task : ℕ
  pub operands : ℕ

-- a task with one operand
abbrev pub first_held : ℕ → HeldTask
first_held task = record { task = task; operands = 1 }

-- one more operand before those of the tasks held: it is of the first of them, or of a task before it
abbrev pub held_before : OpName → List HeldTask → List HeldTask
held_before o [] = first_held o.task ∷ []
held_before o (h ∷ hs) =
    if o.task == h.task then record h { operands = suc h.operands } ∷ hs else first_held o.task ∷ h ∷ hs

-- the runs of equal tasks in a list of names
abbrev pub runs_of : List OpName → List HeldTask
runs_of [] = []
runs_of (o ∷ os) = held_before o (runs_of os)

-- the tasks held, in order, each with the number of its operands that are still to be acknowledged
abbrev pub held_tasks : Named (Unit {0}) → List HeldTask
held_tasks gateway = runs_of (keys gateway)

-- fewer tasks are held than the window
abbrev pub has_window : Sizes → Named (Unit {0}) → Bool
has_window sizes gateway = nat_lt (length (held_tasks gateway)) sizes.window

-- it is idle where it holds no task
abbrev pub is_idle : Named (Unit {0}) → Bool
is_idle gateway = len gateway == 0

-- ---- take: a task goes from the inbox into flight

-- the gateway with these operands to be acknowledged
abbrev pub held_with : Named (Unit {0}) → List OpName → Named (Unit {0})
held_with gateway [] = gateway
held_with gateway (o ∷ os) = held_with (insert gateway o tt) os

-- it holds the task, where that has operands, with all of them
abbrev pub gateway_after_take : Named (Unit {0}) → Task → Named (Unit {0})
gateway_after_take gateway t = held_with gateway (names_of t)

-- a decode for each operand from a place on
abbrev pub decodes_from : ℕ → ℕ → List Operand → List Message
decodes_from task place [] = []
decodes_from task place (o ∷ os) = Decode (operand_name task place) o ∷ decodes_from task (suc place) os

-- a decode for each of a task's operands
abbrev pub sent_by_take : Task → List Message
sent_by_take t = decodes_from t.number 0 (operands_of t)

-- ---- ack: an operand is acknowledged. After the last of a task it holds the task no more

-- it no longer holds the operand
abbrev pub gateway_after_ack : Named (Unit {0}) → OpName → Named (Unit {0})
gateway_after_ack gateway o = remove gateway o
