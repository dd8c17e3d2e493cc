-- What a change may concern, that it concerns nothing else, and that the links of what it concerns stay in it.
use Rattle.std.specs.Prelude.{◌≡◌, ℕ, List, [], ◌∷◌, slice_get, Option, Some, None}
use Rattle.std.specs.FinMap.{get}
use Rattle.tss_base.specs.declared.range.Range.{Range}
use Rattle.tss_base.specs.declared.operand.OpName.{OpName}
use Rattle.tss_base.specs.declared.operand.Operand.{Operand}
use Rattle.tss_base.specs.declared.marks.LinkState.{LinkState}
use Rattle.tss_base.specs.declared.marks.LinkState.TheVariants as link
use Rattle.tss_base.specs.declared.marks.Follow.{Follow}
use Rattle.tss_base.specs.Range.{Covers}
use Rattle.tss_base.specs.Names.{Named, Numbered}
use Rattle.tss_protocol.specs.Names.{operand_name}
use Rattle.tss_protocol.specs.Mail.{StorageName, Home, Buffer, Source, OpenContents, GoneContents, Message, Decode, Ack}
use Rattle.tss_protocol.specs.Mail.{Open, Use, Ready, Link, Release, Bye, Idle, Nack, Retire, Gone, Mail}
use Rattle.tss_protocol.specs.State.{OperandState, Flying, Busy, Entry, Version, CopyState, State}
use Rattle.tss_protocol.specs.Stations.{operand_at}
use Rattle.tss_locality.specs.Agreement.{Beyond, ClosedAt, operand_in}
use Rattle.tss_locality.specs.Extents.{Extent, SameOn}

-- names of operands and versions, objects, and tasks by their numbers
pub record Scope : Type 1 where
  pub names : OpName → Type 0
  pub objects : Range → Type 0
  pub tasks : ℕ → Type 0

-- a name in it, of a task in it
abbrev pub IsOwn : Scope → OpName → Type 0
IsOwn c o = c.names o × c.tasks o.task

-- the base of an object in it
abbrev pub IsBase : Scope → ℕ → Type 0
IsBase c b = (x : Range) × c.objects x × (b ≡ x.base)

-- an address of an object in it
abbrev pub IsInside : Scope → ℕ → Type 0
IsInside c a = (x : Range) × c.objects x × Covers x a

-- all that it leaves
abbrev pub beyond : Scope → Extent
beyond c = record {
  names = Beyond c.names;
  own = Beyond (IsOwn c);
  bases = Beyond (IsBase c);
  addresses = Beyond (IsInside c);
  objects = Beyond c.objects;
  tasks = Beyond c.tasks;
}

-- a change concerns nothing beyond it
abbrev pub ChangesOnly : Scope → State → State → Type 0
ChangesOnly c S T = SameOn (beyond c) S T

-- an object, with the names of its operands, that has nothing of the scope: no name, no address, and another base than
-- each object of it
pub record IsApart (c : Scope) (operands : OpName → Type 0) (x : Range) : Type 0 where
  pub names : (o : OpName) → operands o → c.names o → ⊥
  pub base : (y : Range) → c.objects y → x.base ≡ y.base → ⊥
  pub addresses : (a : ℕ) → Covers x a → IsInside c a → ⊥

-- ---- links

-- a name that may not be there
abbrev pub NameIn : Scope → Option OpName → Type 0
NameIn c None = Unit {0}
NameIn c (Some o) = c.names o

-- the buffer of a storage
abbrev pub StorageIn : Scope → StorageName → Type 0
StorageIn c Home = Unit {0}
StorageIn c (Buffer b) = c.names b

-- of one that may not be there
abbrev pub MaybeStorageIn : Scope → Option StorageName → Type 0
MaybeStorageIn c None = Unit {0}
MaybeStorageIn c (Some s) = StorageIn c s

-- the version that is followed, or follows
abbrev pub FollowIn : Scope → Option Follow → Type 0
FollowIn c None = Unit {0}
FollowIn c (Some f) = c.names f.version

-- what an operand was told
abbrev pub SourceIn : Scope → Source → Type 0
SourceIn c s = c.names s.version × StorageIn c s.storage

-- of one that may not have been told
abbrev pub MaybeSourceIn : Scope → Option Source → Type 0
MaybeSourceIn c None = Unit {0}
MaybeSourceIn c (Some s) = SourceIn c s

-- the next operand of a held link
abbrev pub LinkIn : Scope → LinkState → Type 0
LinkIn c link.Nothing = Unit {0}
LinkIn c (link.Held next) = c.names next
LinkIn c link.Passed = Unit {0}

-- what a version names
pub record VersionIn (c : Scope) (x : Version) : Type 0 where
  pub object : c.objects x.object
  pub storage : MaybeStorageIn c x.storage
  pub head : NameIn c x.head
  pub tail : NameIn c x.tail
  pub predecessor : NameIn c x.predecessor
  pub successor : FollowIn c x.successor

-- what an operand's record names
pub record RecordIn (c : Scope) (r : OperandState) : Type 0 where
  pub source : MaybeSourceIn c r.source
  pub link : LinkIn c r.link

-- what an open message names
pub record OpeningIn (c : Scope) (x : OpenContents) : Type 0 where
  pub object : c.objects x.operand.object
  pub storage : MaybeStorageIn c x.storage
  pub follows : FollowIn c x.follows

-- what a gone message names
pub record GoingIn (c : Scope) (g : GoneContents) : Type 0 where
  pub object : c.objects g.object
  pub buffer : NameIn c g.buffer

-- what a copy names
pub record CopyIn (c : Scope) (k : CopyState) : Type 0 where
  pub version : c.names k.version
  pub buffer : c.names k.buffer

-- a message, by its name and its contents
abbrev pub MessageIn : Scope → Message → Type 0
MessageIn c (Decode o operand) = IsOwn c o × c.objects operand.object
MessageIn c (Ack o) = IsOwn c o
MessageIn c (Open o x) = IsOwn c o × OpeningIn c x
MessageIn c (Use o v) = IsOwn c o × c.names v
MessageIn c (Ready o s) = c.names o × SourceIn c s
MessageIn c (Link o next) = c.names o × c.names next
MessageIn c (Release o r) = IsOwn c o × c.names r.version
MessageIn c (Bye o promised) = IsOwn c o
MessageIn c (Idle v i) = c.names v × IsBase c i.base
MessageIn c (Nack v) = c.names v
MessageIn c (Retire v) = c.names v
MessageIn c (Gone v g) = c.names v × GoingIn c g

-- each message of a list
abbrev pub MessagesIn : Scope → List Message → Type 0
MessagesIn c [] = Unit {0}
MessagesIn c (m ∷ ms) = MessageIn c m × MessagesIn c ms

-- a message, by its name alone
abbrev pub IsSentIn : Scope → Message → Type 0
IsSentIn c (Decode o operand) = IsOwn c o
IsSentIn c (Ack o) = IsOwn c o
IsSentIn c (Open o x) = IsOwn c o
IsSentIn c (Use o v) = IsOwn c o
IsSentIn c (Ready o s) = c.names o
IsSentIn c (Link o next) = c.names o
IsSentIn c (Release o r) = IsOwn c o
IsSentIn c (Bye o promised) = IsOwn c o
IsSentIn c (Idle v i) = c.names v
IsSentIn c (Nack v) = c.names v
IsSentIn c (Retire v) = c.names v
IsSentIn c (Gone v g) = c.names v

-- each message of a list
abbrev pub AreSentIn : Scope → List Message → Type 0
AreSentIn c [] = Unit {0}
AreSentIn c (m ∷ ms) = IsSentIn c m × AreSentIn c ms

-- ---- closed

-- what the versions under names of the scope name
abbrev pub ClosedVersions : Scope → Named Version → Type 0
ClosedVersions c vs = ClosedAt c.names (VersionIn c) vs

-- what the messages under names of the scope name
pub record ClosedMail (c : Scope) (m : Mail) : Type 0 where
  pub decodes : ClosedAt c.names (λ p. c.objects p.object) m.decodes
  pub opens : ClosedAt c.names (OpeningIn c) m.opens
  pub uses : ClosedAt c.names c.names m.uses
  pub readies : ClosedAt c.names (SourceIn c) m.readies
  pub links : ClosedAt c.names c.names m.links
  pub releases : ClosedAt c.names (λ r. c.names r.version) m.releases
  pub idles : ClosedAt c.names (λ i. IsBase c i.base) m.idles
  pub gones : ClosedAt c.names (GoingIn c) m.gones

-- what the records of operands of the scope name
abbrev pub ClosedFlight : Scope → Numbered Flying → Type 0
ClosedFlight c flight = (o : OpName) (r : OperandState) → c.names o → operand_at flight o ≡ Some r → RecordIn c r

-- the latest versions of entries of its objects
abbrev pub ClosedEntries : Scope → Numbered Entry → Type 0
ClosedEntries c entries = (b : ℕ) (e : Entry) → get entries b ≡ Some e → c.objects e.object → c.names e.latest

-- what is copied of its objects
abbrev pub ClosedCopies : Scope → Numbered CopyState → Type 0
ClosedCopies c copies = (b : ℕ) (k : CopyState) → c.objects k.object → get copies b ≡ Some k → CopyIn c k

-- the storages that a worker has for operands of the scope
abbrev pub ClosedWorker : Scope → Busy → Type 0
ClosedWorker c b =
    (k : ℕ) (s : StorageName) → c.names (operand_name b.task.number k) → slice_get b.storages k ≡ Some s → StorageIn c s

-- each worker's
abbrev pub ClosedWorkers : Scope → Numbered Busy → Type 0
ClosedWorkers c workers = (w : ℕ) (b : Busy) → get workers w ≡ Some b → ClosedWorker c b

-- the links of what is in the scope stay in it
pub record Closed (c : Scope) (S : State) : Type 0 where
  pub arrivals : (o : OpName) (p : Operand) → c.names o → operand_in S.inbox o ≡ Some p → c.objects p.object
  pub flight : ClosedFlight c S.flight
  pub workers : ClosedWorkers c S.workers
  pub entries : ClosedEntries c S.entries
  pub versions : ClosedVersions c S.versions
  pub mail : ClosedMail c S.mail
  pub copies : ClosedCopies c S.copies
