-- Who has a rename buffer: an open under way, a version, a gone message, or a copy, each by the name of its version.
use Rattle.std.specs.Prelude.{◌≡◌, ℕ, ◌≤◌, ◌⊎◌, List, Some}
use Rattle.std.specs.FinMap.{get}
use Rattle.tss_base.specs.declared.operand.OpName.{OpName}
use Rattle.tss_base.specs.declared.operand.Operand.{Operand}
use Rattle.tss_base.specs.declared.operand.Task.{Task}
use Rattle.tss_protocol.specs.Mail.{Buffer, OpenContents, GoneContents}
use Rattle.tss_protocol.specs.State.{State, Version, CopyState}
use Rattle.tss_control.specs.Members.{operand_among}

-- an open that is to have it
abbrev pub OpenHas : State → OpName → OpName → Type 0
OpenHas S v b = (c : OpenContents) × (get S.mail.opens v ≡ Some c) × (c.storage ≡ Some (Buffer b))

-- a version whose value it holds
abbrev pub VersionHas : State → OpName → OpName → Type 0
VersionHas S v b = (y : Version) × (get S.versions v ≡ Some y) × (y.storage ≡ Some (Buffer b))

-- a version that is gone, with the message under way
abbrev pub GoneHas : State → OpName → OpName → Type 0
GoneHas S v b = (g : GoneContents) × (get S.mail.gones v ≡ Some g) × (g.buffer ≡ Some b)

-- a version that is copied home from it
abbrev pub CopyHas : State → OpName → OpName → Type 0
CopyHas S v b =
    (k : ℕ) × (c : CopyState) × (get S.copies k ≡ Some c) × (c.version ≡ v) × (c.buffer ≡ b)

-- one of these
abbrev pub HasBuffer : State → OpName → OpName → Type 0
HasBuffer S v b = OpenHas S v b ⊎ (VersionHas S v b ⊎ (GoneHas S v b ⊎ CopyHas S v b))

-- each buffer that somebody has is held, by one name alone, and is of an operand on the same object that was decoded no
-- later
pub record HasBuffers (ts : List Task) (S : State) : Type 0 where
  pub held : (v b : OpName) → HasBuffer S v b → (bank : ℕ) × (get S.buffers b ≡ Some bank)
  pub one : (v w b : OpName) → HasBuffer S v b → HasBuffer S w b → v ≡ w
  pub own : (v b : OpName) → HasBuffer S v b
      → (p : Operand) × (q : Operand) × (operand_among ts v ≡ Some p) × (operand_among ts b ≡ Some q)
      × (q.object ≡ p.object) × (b.task ≤ v.task)
