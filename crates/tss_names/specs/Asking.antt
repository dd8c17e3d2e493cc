-- Versions that ask whether they may retire.
use Rattle.std.specs.Prelude.{◌≡◌, ◌⊎◌, ℕ, List, Some, None}
use Rattle.std.specs.FinMap.{get}
use Rattle.tss_base.specs.declared.operand.OpName.{OpName}
use Rattle.tss_base.specs.declared.operand.Task.{Task}
use Rattle.tss_base.specs.declared.machine.Machine.{Machine}
use Rattle.tss_base.specs.Names.{Named}
use Rattle.tss_protocol.specs.Mail.{IdleContents}
use Rattle.tss_protocol.specs.State.{State, Version}
use Rattle.tss_names.specs.Tasks.{OverTasks}

-- a registered version asks for this number of readers
abbrev pub AsksFor : Named Version → OpName → ℕ → Type 0
AsksFor vs v count = (x : Version) × (get vs v ≡ Some x) × (x.asked ≡ Some count)

-- a version that asks has one of three messages under way, and no other has any: it asks, with its object and number,
-- it may not retire, or it may
pub record AsksOnce (vs : Named Version) (is : Named IdleContents) (ns rs : Named (Unit {0})) : Type 0 where
  pub idles : (v : OpName) (i : IdleContents) → get is v ≡ Some i
      → ((x : Version) × (get vs v ≡ Some x) × (x.asked ≡ Some i.count) × (i.base ≡ x.object.base))
      × (get ns v ≡ None)
      × (get rs v ≡ None)
  pub nacks : (v : OpName) → get ns v ≡ Some tt → ((count : ℕ) × AsksFor vs v count) × (get rs v ≡ None)
  pub retires : (v : OpName) → get rs v ≡ Some tt → (count : ℕ) × AsksFor vs v count
  pub asking : (v : OpName) (count : ℕ) → AsksFor vs v count
      → ((i : IdleContents) × (get is v ≡ Some i)) ⊎ ((get ns v ≡ Some tt) ⊎ (get rs v ≡ Some tt))

-- in a state
abbrev pub HasAsking : Machine → List Task → State → Type 0
HasAsking m ts S = AsksOnce S.versions S.mail.idles S.mail.nacks S.mail.retires

-- every run leaves such a state
abbrev pub AskingLaw : Type 0
AskingLaw = OverTasks HasAsking
