-- What lemmas hand on of a state: the tasks that it speaks of, and what holds of them and of the state.
use Rattle.std.proofs.Common.{List}
use Rattle.tss_base.specs.declared.operand.Task.{Task}
use Rattle.tss_base.specs.declared.machine.Machine.{Machine}
use Rattle.tss_protocol.specs.State.{State}
use Rattle.tss_control.specs.Readers.{Arrivals}
use Rattle.tss_control.specs.Control.{HasGroundwork, IsControlled}

-- the tasks that were spawned and those of the round, with the groundwork
pub record Basis (m : Machine) (S : State) : Type 0 where
  pub all : List Task
  pub ts : List Task
  pub ground : HasGroundwork m all ts S

-- and the readers that have come to each version, with the control
pub record Facts (m : Machine) (S : State) : Type 0 where
  pub basis : Basis m S
  pub open basis use *
  pub g : Arrivals
  pub control : IsControlled ts g S

-- from the parts
abbrev pub facts_of : (m : Machine) (all ts : List Task) (g : Arrivals) (S : State) → HasGroundwork m all ts S
    → IsControlled ts g S → Facts m S
facts_of m all ts g S ground control = record {
  basis = record { all = all; ts = ts; ground = ground };
  g = g;
  control = control;
}
