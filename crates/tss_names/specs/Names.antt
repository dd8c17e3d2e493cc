-- The names that a run uses: each is of an operand that has been decoded.
use Rattle.std.specs.Prelude.{◌≡◌, ℕ, List, slice_get, Option, Some, None}
use Rattle.std.specs.declared.cmp.Ordering.{Ordering}
use Rattle.std.specs.FinMap.{FinMap, get}
use Rattle.tss_base.specs.declared.operand.OpName.{OpName}
use Rattle.tss_base.specs.declared.operand.Operand.{Operand}
use Rattle.tss_base.specs.declared.operand.Task.{Task}
use Rattle.tss_base.specs.declared.machine.Machine.{Machine}
use Rattle.tss_base.specs.declared.marks.LinkState.{LinkState}
use Rattle.tss_base.specs.declared.marks.LinkState.TheVariants as link
use Rattle.tss_base.specs.declared.marks.Follow.{Follow}
use Rattle.tss_protocol.specs.Names.{operand_name}
use Rattle.tss_protocol.specs.Mail.{StorageName, Home, Buffer, Source, Message, Decode, Ack, Open, Use, Ready, Link}
use Rattle.tss_protocol.specs.Mail.{Release, Bye, Idle, Nack, Retire, Gone, Mail}
use Rattle.tss_protocol.specs.State.{State, OperandState, Flying, Version}
use Rattle.tss_names.specs.Tasks.{IsTaken, IsOperandOf, OverTasks}

-- ---- a fact of each name

-- where there is something, it holds of that
abbrev pub WhereThere : {X : Type 0} → (X → Type 0) → Option X → Type 0
WhereThere P None = Unit {0}
WhereThere P (Some x) = P x

-- it holds of each entry of a map
abbrev pub EachEntry : {K X : Type 0} {R : K → K → Ordering} → (K → X → Type 0) → FinMap R X → Type 0
EachEntry {K} {X} P m = (k : K) (x : X) → get m k ≡ Some x → P k x

-- of each element of a list
abbrev pub EachOf : {X : Type 0} → (X → Type 0) → List X → Type 0
EachOf {X} P xs = (i : ℕ) (x : X) → slice_get xs i ≡ Some x → P x

-- of the names in a storage
abbrev pub StorageNames : (OpName → Type 0) → StorageName → Type 0
StorageNames P Home = Unit {0}
StorageNames P (Buffer n) = P n

-- of those of a version with its storage, where E holds of the names of operands that are enlisted with a version, and
-- P of all names
abbrev pub SourceNames : (OpName → Type 0) → (OpName → Type 0) → Source → Type 0
SourceNames P E s = E s.version × StorageNames P s.storage

-- of that of a held link
abbrev pub LinkNames : (OpName → Type 0) → LinkState → Type 0
LinkNames E link.Nothing = Unit {0}
LinkNames E (link.Held next) = E next
LinkNames E link.Passed = Unit {0}

-- of those in the record of an operand, and of its own where it is ready
pub record OperandNames (P E : OpName → Type 0) (o : OpName) (r : OperandState) : Type 0 where
  pub own : WhereThere (λ (s : Source). E o) r.source
  pub source : WhereThere (SourceNames P E) r.source
  pub link : LinkNames E r.link

-- of those in the records of a task in flight
abbrev pub FlyingNames : (OpName → Type 0) → (OpName → Type 0) → ℕ → Flying → Type 0
FlyingNames P E n x =
    (place : ℕ) (r : OperandState)
    → slice_get x.operands place ≡ Some r
    → OperandNames P E (operand_name n place) r

-- of those in a version
pub record VersionNames (P E : OpName → Type 0) (x : Version) : Type 0 where
  pub storage : WhereThere (StorageNames P) x.storage
  pub head : WhereThere E x.head
  pub tail : WhereThere E x.tail
  pub predecessor : WhereThere P x.predecessor
  pub successor : WhereThere (λ (f : Follow). E f.version) x.successor

-- of those in a message. A decode has none yet
abbrev pub MessageNames : (OpName → Type 0) → (OpName → Type 0) → Message → Type 0
MessageNames P E (Decode o operand) = Unit {0}
MessageNames P E (Ack o) = P o
MessageNames P E (Open o c) =
    P o × WhereThere (StorageNames P) c.storage × WhereThere (λ (f : Follow). P f.version) c.follows
MessageNames P E (Use o v) = P o × P v
MessageNames P E (Ready o source) = E o × SourceNames P E source
MessageNames P E (Link o next) = E o × E next
MessageNames P E (Release o r) = E o × E r.version
MessageNames P E (Bye o promised) = E o
MessageNames P E (Idle v asking) = E v
MessageNames P E (Nack v) = E v
MessageNames P E (Retire v) = E v
MessageNames P E (Gone v g) = E v × WhereThere P g.buffer

-- a fact of each message but decodes
pub record EachMessage (Q : Message → Type 0) (m : Mail) : Type 0 where
  pub acks : EachEntry (λ o x. Q (Ack o)) m.acks
  pub opens : EachEntry (λ o c. Q (Open o c)) m.opens
  pub uses : EachEntry (λ o v. Q (Use o v)) m.uses
  pub readies : EachEntry (λ o s. Q (Ready o s)) m.readies
  pub links : EachEntry (λ o next. Q (Link o next)) m.links
  pub releases : EachEntry (λ o r. Q (Release o r)) m.releases
  pub byes : EachEntry (λ o promised. Q (Bye o promised)) m.byes
  pub idles : EachEntry (λ v i. Q (Idle v i)) m.idles
  pub nacks : EachEntry (λ v x. Q (Nack v)) m.nacks
  pub retires : EachEntry (λ v x. Q (Retire v)) m.retires
  pub gones : EachEntry (λ v g. Q (Gone v g)) m.gones

-- of the names in the stations, the workers, the tables for renaming and versioning, the copy engines and the mail
pub record EachName (P E : OpName → Type 0) (S : State) : Type 0 where
  pub flight : EachEntry (FlyingNames P E) S.flight
  pub workers : EachEntry (λ w b. EachOf (StorageNames P) b.storages) S.workers
  pub entries : EachEntry (λ base e. P e.latest) S.entries
  pub places : EachEntry (λ v bank. P v) S.places
  pub buffers : EachEntry (λ n bank. P n) S.buffers
  pub contents : EachEntry (λ n bytes. P n) S.contents
  pub versions : EachEntry (λ v x. E v × VersionNames P E x) S.versions
  pub copies : EachEntry (λ bank c. E c.version × P c.buffer) S.copies
  pub mail : EachMessage (MessageNames P E) S.mail

-- ---- the law

-- an operand of a task that was taken, whose decode isn't under way
abbrev pub IsDecoded : List Task → State → OpName → Type 0
IsDecoded ts S o =
    IsTaken S o.task × ((operand : Operand) × IsOperandOf ts o operand) × (get S.mail.decodes o ≡ None)

-- it is enlisted with a version, or has opened one: neither its open nor its use is under way
abbrev pub IsEnlisted : List Task → State → OpName → Type 0
IsEnlisted ts S o = IsDecoded ts S o × (get S.mail.opens o ≡ None) × (get S.mail.uses o ≡ None)

-- all names are of decoded operands. Those of registered versions and copies, of readers in chains, of operands that
-- are ready, and of messages after open and use are of enlisted ones
abbrev pub HasDecodedNames : Machine → List Task → State → Type 0
HasDecodedNames m ts S = EachName (IsDecoded ts S) (IsEnlisted ts S) S

-- every run leaves such a state
abbrev pub NamesLaw : Type 0
NamesLaw = OverTasks HasDecodedNames
