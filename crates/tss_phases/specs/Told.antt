-- Which operands a list of messages tells, and their phases then.
use Rattle.std.specs.Prelude.{◌≡◌, Bool, true, false, ◌||◌, List, [], ◌∷◌}
use Rattle.tss_base.specs.declared.operand.OpName.{OpName}
use Rattle.tss_protocol.specs.Names.{same_name}
use Rattle.tss_protocol.specs.Mail.{Message, Ready}
use Rattle.tss_protocol.specs.State.{State}
use Rattle.tss_phases.specs.Phase.{Phase, Waiting, Told, phase_of}

-- a message is a ready for an operand
abbrev pub is_ready_for : Message → OpName → Bool
is_ready_for (Ready o source) q = same_name q o
is_ready_for m q = false

-- a list of messages has a ready for an operand
abbrev pub tells : List Message → OpName → Bool
tells [] q = false
tells (m ∷ ms) q = is_ready_for m q || tells ms q

-- the phase of an operand that is told, or isn't
abbrev pub phase_told : Bool → Phase → Phase
phase_told true p = Told
phase_told false p = p

-- an operand that messages tell is waiting
abbrev pub WaitsIfTold : State → List Message → OpName → Type 0
WaitsIfTold S ms q = tells ms q ≡ true → phase_of S q ≡ Waiting
