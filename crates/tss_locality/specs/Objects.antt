-- Objects with the names of their operands: the scope of one object, that links stay within an object, and that each
-- name has its object.
use Rattle.std.specs.Prelude.{◌≡◌, ℕ, slice_get, Option, Some, None}
use Rattle.std.specs.FinMap.{get}
use Rattle.tss_base.specs.declared.range.Range.{Range}
use Rattle.tss_base.specs.declared.operand.OpName.{OpName}
use Rattle.tss_base.specs.declared.operand.Operand.{Operand}
use Rattle.tss_base.specs.declared.operand.Task.{Task}
use Rattle.tss_base.specs.declared.machine.Machine.{Machine}
use Rattle.tss_base.specs.declared.event.Event.{Event}
use Rattle.tss_base.specs.declared.event.Event.TheVariants as event
use Rattle.tss_base.specs.Names.{Named, Numbered}
use Rattle.tss_model.specs.MainStep.{Call, main_call}
use Rattle.tss_protocol.specs.Names.{operand_name}
use Rattle.tss_protocol.specs.Mail.{StorageName, Mail}
use Rattle.tss_protocol.specs.State.{OperandState, Flying, Busy, Entry, CopyState, State}
use Rattle.tss_protocol.specs.Stations.{operand_at}
use Rattle.tss_protocol.specs.MainEvent.{call_next}
use Rattle.tss_locality.specs.Agreement.{operand_in}
use Rattle.tss_locality.specs.Concerns.{FindsOwn}
use Rattle.tss_locality.specs.Scopes.{Scope, Closed}

-- the object of each operand of a task that was spawned, by its name
abbrev pub Objects : Type 0
Objects = OpName → Option Range

-- an object with the names of its operands, and these tasks
abbrev pub object_scope : Objects → Range → (ℕ → Type 0) → Scope
object_scope f x tasks = record { names = λ o. f o ≡ Some x; objects = λ y. y ≡ x; tasks = tasks }

-- every task
abbrev pub Every : ℕ → Type 0
Every n = Unit {0}

-- links stay within each object that is named
abbrev pub LinksStay : Objects → State → Type 0
LinksStay f S = (o : OpName) (x : Range) → f o ≡ Some x → Closed (object_scope f x Every) S

-- a name has an object
abbrev pub HasObject : Objects → OpName → Type 0
HasObject f o = (x : Range) × (f o ≡ Some x)

-- the operands of a spawned task have these objects
abbrev pub HasObjects : Objects → Option Task → Type 0
HasObjects f inbox = (o : OpName) (p : Operand) → operand_in inbox o ≡ Some p → f o ≡ Some p.object

-- a task that main's next call spawns has these objects
abbrev pub SpawnsWith : Objects → Machine → State → Type 0
SpawnsWith f m S =
    (x : Call) → call_next m S ≡ Some x → (t : Task) → (main_call m.limits S.home S.main x).1 ≡ Some t →
    HasObjects f (Some t)

-- each task in flight stands under its number
abbrev pub StandNumbered : State → Type 0
StandNumbered S = (n : ℕ) (x : Flying) → get S.flight n ≡ Some x → x.task.number ≡ n

-- what an event needs of the tasks
abbrev pub IsFitting : Objects → Machine → State → Event → Type 0
IsFitting f m S event.Main = SpawnsWith f m S
IsFitting f m S event.Take = Unit {0}
IsFitting f m S (event.Decode o) = FindsOwn S o
IsFitting f m S (event.Ack o) = Unit {0}
IsFitting f m S (event.Open o) = Unit {0}
IsFitting f m S (event.Use o) = Unit {0}
IsFitting f m S (event.Ready o) = Unit {0}
IsFitting f m S (event.Link o) = Unit {0}
IsFitting f m S (event.Start w) = StandNumbered S
IsFitting f m S (event.Exec w) = Unit {0}
IsFitting f m S (event.Finish w) = Unit {0}
IsFitting f m S (event.Release o) = Unit {0}
IsFitting f m S (event.Bye o) = Unit {0}
IsFitting f m S (event.Idle v) = Unit {0}
IsFitting f m S (event.Nack v) = Unit {0}
IsFitting f m S (event.Retire v) = Unit {0}
IsFitting f m S (event.Copy b) = Unit {0}
IsFitting f m S (event.Gone v) = Unit {0}

-- ---- names

-- each name under which something stands has an object
abbrev pub AreNamed : {X : Type 0} → Objects → Named X → Type 0
AreNamed {X} f m = (o : OpName) (x : X) → get m o ≡ Some x → HasObject f o

-- in each kind of messages
pub record MailNamed (f : Objects) (m : Mail) : Type 0 where
  pub decodes : AreNamed f m.decodes
  pub acks : AreNamed f m.acks
  pub opens : AreNamed f m.opens
  pub uses : AreNamed f m.uses
  pub readies : AreNamed f m.readies
  pub links : AreNamed f m.links
  pub releases : AreNamed f m.releases
  pub byes : AreNamed f m.byes
  pub idles : AreNamed f m.idles
  pub nacks : AreNamed f m.nacks
  pub retires : AreNamed f m.retires
  pub gones : AreNamed f m.gones

-- the storages that a worker has are of operands with objects
abbrev pub WorkerNamed : Objects → Busy → Type 0
WorkerNamed f b =
    (k : ℕ) (s : StorageName) → slice_get b.storages k ≡ Some s → HasObject f (operand_name b.task.number k)

-- an entry's latest version is of its object, at whose base it stands
abbrev pub EntriesNamed : Objects → Numbered Entry → Type 0
EntriesNamed f entries =
    (b : ℕ) (e : Entry) → get entries b ≡ Some e → (f e.latest ≡ Some e.object) × (e.object.base ≡ b)

-- each operand in the inbox, in flight, of a message, of a worker, of an entry, of a version, of a held place or of a
-- held buffer has its object, and what is copied is the object of its version
pub record IsNamed (f : Objects) (S : State) : Type 0 where
  pub arrivals : HasObjects f S.inbox
  pub records : (o : OpName) (r : OperandState) → operand_at S.flight o ≡ Some r → HasObject f o
  pub workers : (w : ℕ) (b : Busy) → get S.workers w ≡ Some b → WorkerNamed f b
  pub entries : EntriesNamed f S.entries
  pub places : AreNamed f S.places
  pub buffers : AreNamed f S.buffers
  pub versions : AreNamed f S.versions
  pub mail : MailNamed f S.mail
  pub copies : (b : ℕ) (k : CopyState) → get S.copies b ≡ Some k → f k.version ≡ Some k.object

-- each name has its object, and links stay within it
pub record IsWithinObjects (f : Objects) (S : State) : Type 0 where
  pub named : IsNamed f S
  pub links : LinksStay f S

-- ---- what an event is of

-- the operand or version of an event that is of one
abbrev pub subject : Event → Option OpName
subject event.Main = None
subject event.Take = None
subject (event.Decode o) = Some o
subject (event.Ack o) = Some o
subject (event.Open o) = Some o
subject (event.Use o) = Some o
subject (event.Ready o) = Some o
subject (event.Link o) = Some o
subject (event.Start w) = None
subject (event.Exec w) = None
subject (event.Finish w) = None
subject (event.Release o) = Some o
subject (event.Bye o) = Some o
subject (event.Idle v) = Some v
subject (event.Nack v) = Some v
subject (event.Retire v) = Some v
subject (event.Copy b) = None
subject (event.Gone v) = Some v
