-- The measure of a state: how many events are still to come at most, as main, the tasks, the operands, the versions,
-- the messages and the copies have them.
use Rattle.std.proofs.Common.{◌≡◌, ℕ, suc, ◌+◌, ◌*◌, ◌≤◌, Bool, true, false, List, [], ◌∷◌, ◌++◌, Option, Some, None}
use Rattle.std.proofs.Common.{arith}
use Rattle.std.specs.Prelude.{cond, ◌-◌, ◌/◌}
use Rattle.std.specs.FinMap.{get}
use Rattle.tss_base.specs.declared.operand.OpName.{OpName}
use Rattle.tss_base.specs.declared.operand.Operand.{Operand}
use Rattle.tss_base.specs.declared.operand.Task.{Task}
use Rattle.tss_base.specs.declared.machine.Machine.{Machine}
use Rattle.tss_base.specs.declared.ending.Trap.{Trap}
use Rattle.tss_base.specs.declared.ending.Ending.{Ending}
use Rattle.tss_base.specs.declared.event.Event.TheVariants as event
use Rattle.tss_base.specs.declared.marks.Stage.{Stage}
use Rattle.tss_base.specs.declared.marks.Stage.TheVariants as stage
use Rattle.tss_base.specs.declared.marks.LinkState.{LinkState}
use Rattle.tss_base.specs.declared.marks.LinkState.TheVariants as link
use Rattle.tss_base.specs.Names.{Named, Numbered}
use Rattle.tss_maps.specs.Sums.{sum_of}
use Rattle.tss_maps.proofs.Keys.{name_order}
use Rattle.tss_maps.proofs.Sums.{sum_inserted, sum_removed}
use Rattle.tss_model.specs.MainStep.{MainState}
use Rattle.tss_protocol.specs.Mail.{Source, OpenContents, ReleaseContents, IdleContents, GoneContents, Message, Decode}
use Rattle.tss_protocol.specs.Mail.{Ack, Open, Use, Ready, Link, Release, Bye, Idle, Nack, Retire, Gone, Mail, posted}
use Rattle.tss_protocol.specs.Mail.{posted_all, taken}
use Rattle.tss_protocol.specs.State.{State, OperandState, Flying, Busy, Version, CopyState}
use Rattle.tss_protocol.specs.Stations.{has_finished}
use Rattle.tss_protocol.specs.Versions.{is_count}
use Rattle.tss_protocol.specs.Counts.{pieces_of_object, task_events}

-- ---- messages, where the longest object has c pieces

-- a message, by its kind
abbrev pub message_left : ℕ → Message → ℕ
message_left c (Decode o operand) = 6 + c
message_left c (Open o opening) = 4 + c
message_left c (Use o v) = 3
message_left c (Ready o source) = 0
message_left c (Link o next) = 0
message_left c (Release o releasing) = 2
message_left c (Idle v asking) = 2
message_left c other = 1

-- the messages of a list
abbrev pub messages_left : ℕ → List Message → ℕ
messages_left c [] = 0
messages_left c (x ∷ xs) = message_left c x + messages_left c xs

-- as many for each that is under way under a name
abbrev pub each_left : (X : Type 0) → ℕ → OpName → X → ℕ
each_left X n o x = n

-- those before the start of a task
abbrev early_left : ℕ → Mail → ℕ
early_left c m =
    sum_of (each_left Operand (6 + c)) m.decodes
    + sum_of (each_left (Unit {0}) 1) m.acks
    + sum_of (each_left OpenContents (4 + c)) m.opens
    + sum_of (each_left OpName 3) m.uses

-- those after its finish
abbrev late_left : Mail → ℕ
late_left m =
    sum_of (each_left ReleaseContents 2) m.releases
    + sum_of (each_left Bool 1) m.byes
    + sum_of (each_left IdleContents 2) m.idles
    + sum_of (each_left (Unit {0}) 1) m.nacks
    + sum_of (each_left (Unit {0}) 1) m.retires
    + sum_of (each_left GoneContents 1) m.gones

-- all messages under way
abbrev pub mail_left : ℕ → Mail → ℕ
mail_left c m = early_left c m + late_left m

module _ (c : ℕ) where
  -- a message that is sent adds no more than its own
  left_posted : (m : Mail) (x : Message) → mail_left c (posted m x) ≤ mail_left c m + message_left c x
  left_posted m (Decode o x) =
      let i = sum_inserted name_order (each_left Operand (6 + c)) m.decodes o x in omega (arith, i)
  left_posted m (Ack o) =
      let i = sum_inserted name_order (each_left (Unit {0}) 1) m.acks o tt in omega (arith, i)
  left_posted m (Open o x) =
      let i = sum_inserted name_order (each_left OpenContents (4 + c)) m.opens o x in omega (arith, i)
  left_posted m (Use o x) = let i = sum_inserted name_order (each_left OpName 3) m.uses o x in omega (arith, i)
  left_posted m (Ready o x) = omega arith
  left_posted m (Link o x) = omega arith
  left_posted m (Release o x) =
      let i = sum_inserted name_order (each_left ReleaseContents 2) m.releases o x in omega (arith, i)
  left_posted m (Bye o x) = let i = sum_inserted name_order (each_left Bool 1) m.byes o x in omega (arith, i)
  left_posted m (Idle o x) =
      let i = sum_inserted name_order (each_left IdleContents 2) m.idles o x in omega (arith, i)
  left_posted m (Nack o) =
      let i = sum_inserted name_order (each_left (Unit {0}) 1) m.nacks o tt in omega (arith, i)
  left_posted m (Retire o) =
      let i = sum_inserted name_order (each_left (Unit {0}) 1) m.retires o tt in omega (arith, i)
  left_posted m (Gone o x) =
      let i = sum_inserted name_order (each_left GoneContents 1) m.gones o x in omega (arith, i)

  -- nor do all of a list
  pub left_posted_all : (m : Mail) (xs : List Message)
      → mail_left c (posted_all m xs) ≤ mail_left c m + messages_left c xs
  left_posted_all m [] = omega arith
  left_posted_all m (x ∷ xs) =
      let rest = left_posted_all (posted m x) xs in let one = left_posted m x in omega (arith, rest, one)

  -- the messages of two lists
  pub left_append : (xs ys : List Message)
      → messages_left c (xs ++ ys) ≡ messages_left c xs + messages_left c ys
  left_append [] ys = omega arith
  left_append (x ∷ xs) ys = let rest = left_append xs ys in omega (arith, rest)

  -- ---- a message that is taken

  module _ (m : Mail) (o : OpName) where
    -- a decode
    pub took_decode : (x : Operand) → get m.decodes o ≡ Some x
        → mail_left c (taken m (event.Decode o)) + (6 + c) ≡ mail_left c m
    took_decode x e =
        let t = sum_removed name_order (each_left Operand (6 + c)) m.decodes o x e in omega (arith, t)

    -- an ack
    pub took_ack : get m.acks o ≡ Some tt → mail_left c (taken m (event.Ack o)) + 1 ≡ mail_left c m
    took_ack e = let t = sum_removed name_order (each_left (Unit {0}) 1) m.acks o tt e in omega (arith, t)

    -- an open
    pub took_open : (x : OpenContents) → get m.opens o ≡ Some x
        → mail_left c (taken m (event.Open o)) + (4 + c) ≡ mail_left c m
    took_open x e =
        let t = sum_removed name_order (each_left OpenContents (4 + c)) m.opens o x e in omega (arith, t)

    -- a use
    pub took_use : (x : OpName) → get m.uses o ≡ Some x → mail_left c (taken m (event.Use o)) + 3 ≡ mail_left c m
    took_use x e = let t = sum_removed name_order (each_left OpName 3) m.uses o x e in omega (arith, t)

    -- a release
    pub took_release : (x : ReleaseContents) → get m.releases o ≡ Some x
        → mail_left c (taken m (event.Release o)) + 2 ≡ mail_left c m
    took_release x e =
        let t = sum_removed name_order (each_left ReleaseContents 2) m.releases o x e in omega (arith, t)

    -- a bye
    pub took_bye : (x : Bool) → get m.byes o ≡ Some x → mail_left c (taken m (event.Bye o)) + 1 ≡ mail_left c m
    took_bye x e = let t = sum_removed name_order (each_left Bool 1) m.byes o x e in omega (arith, t)

    -- an idle
    pub took_idle : (x : IdleContents) → get m.idles o ≡ Some x
        → mail_left c (taken m (event.Idle o)) + 2 ≡ mail_left c m
    took_idle x e = let t = sum_removed name_order (each_left IdleContents 2) m.idles o x e in omega (arith, t)

    -- a nack
    pub took_nack : get m.nacks o ≡ Some tt → mail_left c (taken m (event.Nack o)) + 1 ≡ mail_left c m
    took_nack e = let t = sum_removed name_order (each_left (Unit {0}) 1) m.nacks o tt e in omega (arith, t)

    -- a retire
    pub took_retire : get m.retires o ≡ Some tt → mail_left c (taken m (event.Retire o)) + 1 ≡ mail_left c m
    took_retire e = let t = sum_removed name_order (each_left (Unit {0}) 1) m.retires o tt e in omega (arith, t)

    -- a gone
    pub took_gone : (x : GoneContents) → get m.gones o ≡ Some x
        → mail_left c (taken m (event.Gone o)) + 1 ≡ mail_left c m
    took_gone x e = let t = sum_removed name_order (each_left GoneContents 1) m.gones o x e in omega (arith, t)

-- ---- operands and tasks in flight

-- a link that hasn't come
abbrev pub link_left : LinkState → ℕ
link_left link.Nothing = 1
link_left (link.Held next) = 0
link_left link.Passed = 0

-- what it is to be told, and to let go again, until its task has finished
abbrev source_left : Option Source → ℕ
source_left None = 3
source_left (Some s) = 2

-- by whether its task has finished
abbrev pub told_left : Bool → Option Source → ℕ
told_left true s = 0
told_left false s = source_left s

-- an operand with a record
abbrev pub record_left : Bool → OperandState → ℕ
record_left finished r = link_left r.link + told_left finished r.source

-- those of a task
abbrev pub records_left : Bool → List OperandState → ℕ
records_left finished [] = 0
records_left finished (r ∷ rs) = record_left finished r + records_left finished rs

-- a task in flight until it runs, where it has so many instructions
abbrev pub stage_left : ℕ → Stage → ℕ
stage_left budget stage.Waiting = budget + 3
stage_left budget stage.Queued = budget + 3
stage_left budget stage.Running = 0
stage_left budget stage.Finished = 0

-- a task in flight with its operands
abbrev pub flying_left : ℕ → ℕ → Flying → ℕ
flying_left budget n x = stage_left budget x.stage + records_left (has_finished x.stage) x.operands

-- all of them
abbrev pub flight_left : ℕ → Numbered Flying → ℕ
flight_left budget flight = sum_of (flying_left budget) flight

-- ---- workers, versions, copies

-- a task that hasn't trapped may still
abbrev pub trap_left : Option Trap → ℕ
trap_left None = 1
trap_left (Some t) = 0

-- a busy worker: the instructions that are left, its trap, and its finish
abbrev pub busy_left : ℕ → ℕ → Busy → ℕ
busy_left budget w b = (budget - b.registers.done) + trap_left b.trap + 1

-- all of them
abbrev workers_left : ℕ → Numbered Busy → ℕ
workers_left budget workers = sum_of (busy_left budget) workers

-- the number of readers for which a version asked last
abbrev pub last_asked : Option ℕ → Option ℕ → Option ℕ
last_asked None refused = refused
last_asked (Some n) refused = Some n

-- a version that may ask again
abbrev pub asking_left : Option ℕ → ℕ → ℕ
asking_left last registered = cond {A = ℕ} (is_count last registered) 0 2

-- a version: that it asks, its copies, and that it is gone
abbrev pub version_left : ℕ → OpName → Version → ℕ
version_left c v x = asking_left (last_asked x.asked x.refused) x.registered + c + 1

-- all of them
abbrev pub versions_left : ℕ → Named Version → ℕ
versions_left c vs = sum_of (version_left c) vs

-- a copy: its pieces, of which there is one at least, and that its version is gone
abbrev pub copy_left : ℕ → CopyState → ℕ
copy_left b x = (x.object.len - x.moved - 1) / 64 + 2

-- all of them
abbrev pub copies_left : Numbered CopyState → ℕ
copies_left copies = sum_of copy_left copies

-- ---- main

-- main until it ends
abbrev pub ending_left : Option Ending → ℕ
ending_left None = 1
ending_left (Some e) = 0

-- its instructions
abbrev pub main_left : ℕ → MainState → ℕ
main_left budget main = (budget - main.registers.done) + ending_left main.ending

-- a task that is still to be taken
abbrev pub inbox_left : ℕ → Option Task → ℕ
inbox_left each None = 0
inbox_left each (Some t) = each

-- the tasks that are still to be spawned or taken
abbrev pub tasks_left : ℕ → ℕ → ℕ → Option Task → ℕ
tasks_left most each spawned inbox = (most - spawned) * each + inbox_left each inbox

-- what is left of main
abbrev pub front_left : Machine → MainState → Option Task → ℕ
front_left m main inbox =
    main_left m.limits.main_budget main + tasks_left m.limits.max_tasks (task_events m) main.spawned inbox

-- ---- the whole

-- the stations and the workers
abbrev stations_left : ℕ → State → ℕ
stations_left budget S = flight_left budget S.flight + workers_left budget S.workers

-- the tables for versioning, the messages and the copies
abbrev tables_left : ℕ → State → ℕ
tables_left c S = versions_left c S.versions + mail_left c S.mail + copies_left S.copies

-- the measure
abbrev pub measure : Machine → State → ℕ
measure m S =
    front_left m S.main S.inbox + stations_left m.limits.task_budget S + tables_left (pieces_of_object m) S

-- an event lowers it
abbrev pub IsLowered : Machine → State → State → Type 0
IsLowered m S T = suc (measure m T) ≤ measure m S
