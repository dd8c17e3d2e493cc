-- Operands in order: at most one message is under way for each, and its record says what its phase has it say.
use Rattle.std.specs.Prelude.{◌≡◌, ◌≢◌, ℕ, ◌≤◌, true, false, List, Some, None, ◌⊎◌}
use Rattle.std.specs.FinMap.{get}
use Rattle.tss_base.specs.declared.operand.Task.{Task}
use Rattle.tss_base.specs.declared.event.Event.{Event}
use Rattle.tss_base.specs.declared.event.Event.TheVariants as event
use Rattle.tss_base.specs.declared.operand.OpName.{OpName}
use Rattle.tss_protocol.specs.Mail.{Source, OpenContents, ReleaseContents, Message}
use Rattle.tss_protocol.specs.State.{OperandState, Flying, Busy, Version, State}
use Rattle.tss_protocol.specs.Stations.{operand_at, sent_by_ready, sent_by_link}
use Rattle.tss_protocol.specs.Versions.{after_open, after_release, after_nack}
use Rattle.tss_phases.specs.Phase.{Phase, Ahead, Decoding, Sent, Waiting, Told, Ready, Releasing, Leaving, Promised}
use Rattle.tss_phases.specs.Phase.{Left, LookUps, look_ups, phase_at, phase_of}
use Rattle.tss_phases.specs.Alone.{under_way, HasRecord}
use Rattle.tss_phases.specs.Told.{WaitsIfTold}

-- its record says nothing yet
abbrev pub IsUntold : LookUps → Type 0
IsUntold l = HasRecord l None × (l.ahead ≡ false)

-- its record has what it was told, and no farewell
abbrev pub IsInformed : LookUps → Type 0
IsInformed l = ((s : Source) × HasRecord l (Some s)) × (l.ahead ≡ false)

-- its record has what it was told, and a farewell or none
abbrev pub WasTold : LookUps → Type 0
WasTold l = (k : OperandState) × (l.station ≡ Some k) × ((s : Source) × (k.source ≡ Some s))

-- what a record says in a phase
abbrev pub FitsPhase : Phase → LookUps → Type 0
FitsPhase Ahead l = (l.station ≡ None) × (l.ahead ≡ true)
FitsPhase Decoding l = IsUntold l
FitsPhase Sent l = IsUntold l
FitsPhase Waiting l = IsUntold l
FitsPhase Told l = IsUntold l
FitsPhase Ready l = IsInformed l
FitsPhase Releasing l = IsInformed l
FitsPhase Leaving l = IsInformed l
FitsPhase Promised l = WasTold l × (l.ahead ≡ false)
FitsPhase Left l = ((l.station ≡ None) ⊎ WasTold l) × (l.ahead ≡ false)

-- one message at most is under way, and the record fits the phase
pub record IsOrderly (l : LookUps) : Type 0 where
  pub alone : under_way l ≤ 1
  pub fits : FitsPhase (phase_at l) l

-- all operands are in order
abbrev pub AreOrderly : State → Type 0
AreOrderly S = (q : OpName) → IsOrderly (look_ups S q)

-- ---- what an event needs, so that operands stay in order

-- those that messages tell are waiting
abbrev pub TellWaiting : State → List Message → Type 0
TellWaiting S ms = (q : OpName) → WaitsIfTold S ms q

-- those of them that aren't a given operand
abbrev pub TellOthersWaiting : State → OpName → List Message → Type 0
TellOthersWaiting S o ms = (q : OpName) → q ≢ o → WaitsIfTold S ms q

-- the operands of a task are ready
abbrev pub AreReady : State → ℕ → Type 0
AreReady S task =
    (q : OpName) (r : OperandState) → q.task ≡ task → operand_at S.flight q ≡ Some r → phase_of S q ≡ Ready

-- a task that is taken has been spawned
abbrev pub TakesSpawned : State → Type 0
TakesSpawned S = (t : Task) → S.inbox ≡ Some t → t.number ≤ S.main.spawned

-- an open tells those that wait, beside its own operand
abbrev pub OpensForWaiting : State → OpName → Type 0
OpensForWaiting S o =
    (c : OpenContents) → get S.mail.opens o ≡ Some c → TellOthersWaiting S o (after_open S.versions o c).sent

-- a ready tells those that wait
abbrev pub ReadiesWaiting : State → OpName → Type 0
ReadiesWaiting S o =
    (s : Source) (r : OperandState) → get S.mail.readies o ≡ Some s → operand_at S.flight o ≡ Some r
    → TellWaiting S (sent_by_ready r.link s)

-- a link is for an operand that has a record, and tells those that wait
abbrev pub LinksWaiting : State → OpName → Type 0
LinksWaiting S o =
    (next : OpName) → get S.mail.links o ≡ Some next
    → (r : OperandState) × (operand_at S.flight o ≡ Some r) × TellWaiting S (sent_by_link r.source next)

-- a worker that finishes has a task in flight, whose operands are ready
abbrev pub FinishesReady : State → ℕ → Type 0
FinishesReady S w =
    (b : Busy) → get S.workers w ≡ Some b
    → ((x : Flying) × (get S.flight b.task.number ≡ Some x)) × AreReady S b.task.number

-- a release is of a version that is registered, and tells those that wait
abbrev pub ReleasesRegistered : State → OpName → Type 0
ReleasesRegistered S o =
    (r : ReleaseContents) → get S.mail.releases o ≡ Some r
    → ((x : Version) × (get S.versions r.version ≡ Some x)) × TellWaiting S (after_release S.versions o r).sent

-- by the event: the others need nothing
abbrev pub KeepsOrder : State → Event → Type 0
KeepsOrder S event.Take = TakesSpawned S
KeepsOrder S (event.Open o) = OpensForWaiting S o
KeepsOrder S (event.Ready o) = ReadiesWaiting S o
KeepsOrder S (event.Link o) = LinksWaiting S o
KeepsOrder S (event.Finish w) = FinishesReady S w
KeepsOrder S (event.Release o) = ReleasesRegistered S o
KeepsOrder S (event.Nack v) = TellWaiting S (after_nack S.versions v).sent
KeepsOrder S e = Unit {0}
