-- A phase that stays, or goes on to one that comes next.
use Rattle.std.proofs.Common.{◌≡◌, Bool, true, false, refl, ap, ◌∙◌}
use Rattle.tss_base.specs.declared.operand.OpName.{OpName}
use Rattle.tss_protocol.specs.State.{State}
use Rattle.tss_phases.specs.Phase.{Phase, Ahead, Sent, Waiting, Told, Leaving}
use Rattle.tss_phases.specs.Phase.{phase_of}
use Rattle.tss_phases.specs.Told.{phase_told}
use Rattle.tss_phases.specs.Leaving.{phase_linked, phase_parted}
use Rattle.tss_phases.specs.Forward.{may_follow}

-- an operand's phase goes on, or stays
abbrev pub GoesOnFrom : State → State → OpName → Type 0
GoesOnFrom S T q = may_follow (phase_of S q) (phase_of T q) ≡ true

-- a phase may stay
pub stay : (p : Phase) → may_follow p p ≡ true
stay Ahead = refl
stay other = refl

-- a phase may be linked
pub linked : (p : Phase) → may_follow p (phase_linked p) ≡ true
linked Ahead = refl
linked other = refl

-- a leaving operand may have left, or await a link
pub parted : (b : Bool) → may_follow Leaving (phase_parted b) ≡ true
parted true = refl
parted false = refl

-- a sent operand may be told, or wait
pub from_sent : (b : Bool) → may_follow Sent (phase_told b Waiting) ≡ true
from_sent true = refl
from_sent false = refl

told_on : (b : Bool) (p : Phase) → (b ≡ true → p ≡ Waiting) → may_follow p (phase_told b p) ≡ true
told_on true p waits = ap (λ p. may_follow p Told) (waits refl)
told_on false p waits = stay p

module _ (S T : State) (q : OpName) where
  -- a phase that stays
  pub stays_same : phase_of T q ≡ phase_of S q → GoesOnFrom S T q
  stays_same e = ap (may_follow (phase_of S q)) e ∙ stay (phase_of S q)

  -- a phase that is known before and after
  pub goes_between : (p r : Phase) → phase_of S q ≡ p → phase_of T q ≡ r → may_follow p r ≡ true → GoesOnFrom S T q
  goes_between p r e f g = (λ i. may_follow (e i) (f i)) ∙ g

  -- a phase of an operand that is told, or isn't
  pub goes_told : (b : Bool) → (b ≡ true → phase_of S q ≡ Waiting) → phase_of T q ≡ phase_told b (phase_of S q)
      → GoesOnFrom S T q
  goes_told b waits e = ap (may_follow (phase_of S q)) e ∙ told_on b (phase_of S q) waits
