-- What each operand of a round holds: the version that it was told, its link, and what its phase says of the version
-- that it has opened.
use Rattle.std.specs.Prelude.{◌≡◌, Bool, true, false, ◌⊎◌, List, Option, Some, None}
use Rattle.std.specs.FinMap.{get}
use Rattle.tss_base.specs.declared.operand.OpName.{OpName}
use Rattle.tss_base.specs.declared.operand.Operand.{Operand}
use Rattle.tss_base.specs.declared.operand.Task.{Task}
use Rattle.tss_base.specs.declared.marks.LinkState.{LinkState}
use Rattle.tss_base.specs.declared.marks.LinkState.TheVariants as link
use Rattle.tss_model.specs.Access.{writes}
use Rattle.tss_protocol.specs.Mail.{Source, ReleaseContents}
use Rattle.tss_protocol.specs.State.{State, OperandState, Version}
use Rattle.tss_protocol.specs.Stations.{operand_at}
use Rattle.tss_phases.specs.Phase.{Phase, Decoding, Sent, Waiting, Told, Ready, Releasing, Leaving, Promised, Left}
use Rattle.tss_phases.specs.Phase.{phase_of}
use Rattle.tss_phases.specs.Openers.{version_opener}
use Rattle.tss_control.specs.Members.{operand_among}
use Rattle.tss_control.specs.Readers.{Arrivals, Has}
use Rattle.tss_control.specs.Runners.{HasRunners}

-- ---- what an operand was told

-- it is the writer's own version, or one that the reader has come to
abbrev pub IsOwnOrRead : Arrivals → OpName → Bool → OpName → Type 0
IsOwnOrRead g o true v = v ≡ o
IsOwnOrRead g o false v = Has o (g v)

-- what an operand was told is a registered version of its object with that storage
pub record IsTrue (g : Arrivals) (S : State) (o : OpName) (p : Operand) (s : Source) : Type 0 where
  pub version : Version
  pub there : get S.versions s.version ≡ Some version
  pub object : version.object ≡ p.object
  pub storage : version.storage ≡ Some s.storage
  pub own : IsOwnOrRead g o (writes p.mode) s.version

-- ---- links

-- what a link may be in a phase
abbrev pub link_fits : Phase → LinkState → Bool
link_fits Waiting link.Passed = false
link_fits Waiting l = true
link_fits Told link.Passed = false
link_fits Told l = true
link_fits Ready (link.Held next) = false
link_fits Ready l = true
link_fits Releasing (link.Held next) = false
link_fits Releasing l = true
link_fits Leaving (link.Held next) = false
link_fits Leaving l = true
link_fits Promised link.Nothing = true
link_fits Promised l = false
link_fits Left (link.Held next) = false
link_fits Left l = true
link_fits p link.Nothing = true
link_fits p l = false

-- a promised bye is of an operand whose link has passed, or is under way
abbrev pub PromiseFits : Option OpName → LinkState → Bool → Type 0
PromiseFits under_way l true =
    ((l ≡ link.Passed) × (under_way ≡ None)) ⊎ ((l ≡ link.Nothing) × ((next : OpName) × (under_way ≡ Some next)))
PromiseFits under_way l false = (l ≡ link.Nothing) × (under_way ≡ None)

-- the links of an operand with a record
pub record HasLinks (S : State) (o : OpName) (p : Operand) (r : OperandState) : Type 0 where
  pub fits : link_fits (phase_of S o) r.link ≡ true
  pub writer : writes p.mode ≡ true → (r.link ≡ link.Nothing) × (get S.mail.links o ≡ None)
  pub under_way : (next : OpName) → get S.mail.links o ≡ Some next → r.link ≡ link.Nothing
  pub early : (phase_of S o ≡ Decoding) ⊎ (phase_of S o ≡ Sent) → get S.mail.links o ≡ None
  pub promise : (promised : Bool) → get S.mail.byes o ≡ Some promised → PromiseFits (get S.mail.links o) r.link promised
  pub promised : phase_of S o ≡ Promised → (next : OpName) × (get S.mail.links o ≡ Some next)

-- ---- the whole

-- what each operand of a round holds, and the phase of the opener of each registered version. A link under way is of an
-- operand with a record that hasn't left
pub record HasHolders (ts : List Task) (g : Arrivals) (S : State) : Type 0 where
  pub told : (o : OpName) (p : Operand) (s : Source) → operand_among ts o ≡ Some p → get S.mail.readies o ≡ Some s
      → IsTrue g S o p s
  pub ready : (o : OpName) (p : Operand) (r : OperandState) (s : Source) → operand_among ts o ≡ Some p
      → operand_at S.flight o ≡ Some r
      → r.source ≡ Some s → (phase_of S o ≡ Ready) ⊎ (phase_of S o ≡ Releasing) → IsTrue g S o p s
  pub linking : (o next : OpName) (p : Operand) (r : OperandState) (s : Source) → operand_among ts o ≡ Some p
      → operand_at S.flight o ≡ Some r
      → r.source ≡ Some s → get S.mail.links o ≡ Some next → IsTrue g S o p s
  pub releases : (o : OpName) (p : Operand) (c : ReleaseContents) → operand_among ts o ≡ Some p
      → get S.mail.releases o ≡ Some c
      → (c.producer ≡ writes p.mode)
      × ((r : OperandState) × (s : Source) × (operand_at S.flight o ≡ Some r) × (r.source ≡ Some s)
      × (s.version ≡ c.version))
  pub waiting_writer : (o : OpName) (p : Operand) → operand_among ts o ≡ Some p → writes p.mode ≡ true
      → phase_of S o ≡ Waiting
      → (y : Version) × (get S.versions o ≡ Some y) × (y.storage ≡ None)
  pub waiting_reader : (o : OpName) (p : Operand) → operand_among ts o ≡ Some p → writes p.mode ≡ false
      → phase_of S o ≡ Waiting
      → (v : OpName) × (y : Version) × (get S.versions v ≡ Some y) × Has o (g v)
  pub openers : (v : OpName) (y : Version) (p : Operand) → get S.versions v ≡ Some y → operand_among ts v ≡ Some p
      → version_opener y p.mode (phase_of S v) ≡ true
  pub records : (o next : OpName) → get S.mail.links o ≡ Some next
      → (r : OperandState) × (operand_at S.flight o ≡ Some r) × (phase_of S o ≡ Left → ⊥)
  pub links : (o : OpName) (p : Operand) (r : OperandState) → operand_among ts o ≡ Some p
      → operand_at S.flight o ≡ Some r → HasLinks S o p r
  pub runners : HasRunners S
