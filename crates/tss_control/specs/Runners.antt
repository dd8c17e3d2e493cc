-- The tasks that are queued or run: each is in flight at that stage, and once. A task one of whose operands has been
-- released has finished.
use Rattle.std.specs.Prelude.{◌≡◌, ℕ, ◌==◌, Bool, true, false, List, [], ◌∷◌, Some}
use Rattle.std.specs.List.{list_any}
use Rattle.std.specs.FinMap.{get}
use Rattle.tss_base.specs.declared.operand.OpName.{OpName}
use Rattle.tss_base.specs.declared.marks.Stage.{Stage}
use Rattle.tss_base.specs.declared.marks.Stage.TheVariants as stage
use Rattle.tss_base.specs.Names.{Numbered}
use Rattle.tss_protocol.specs.State.{State, OperandState, Flying, Busy}
use Rattle.tss_protocol.specs.Stations.{operand_at}
use Rattle.tss_protocol.specs.Needs.{is_in_queue}
use Rattle.tss_phases.specs.Phase.{Phase, Releasing, Leaving, Promised, Left, phase_of}

-- a task in flight stands at a stage
abbrev pub IsAtStage : Numbered Flying → ℕ → Stage → Type 0
IsAtStage flight n s = (x : Flying) × (get flight n ≡ Some x) × (x.stage ≡ s)

-- no number stands twice in a list
abbrev pub AreApart : List ℕ → Type 0
AreApart [] = Unit {0}
AreApart (n ∷ ns) = (list_any (λ k. k == n) ns ≡ false) × AreApart ns

-- the release of an operand has been sent
abbrev pub is_late : Phase → Bool
is_late Releasing = true
is_late Leaving = true
is_late Promised = true
is_late Left = true
is_late p = false

-- what is queued or runs is in flight at that stage, and once, and an operand lets go only when its task has finished
pub record HasRunners (S : State) : Type 0 where
  pub queued : (n : ℕ) → is_in_queue S n ≡ true → IsAtStage S.flight n stage.Queued
  pub once : AreApart S.queue
  pub running : (w : ℕ) (b : Busy) → get S.workers w ≡ Some b → IsAtStage S.flight b.task.number stage.Running
  pub single : (w u : ℕ) (b c : Busy) → get S.workers w ≡ Some b → get S.workers u ≡ Some c
      → b.task.number ≡ c.task.number → w ≡ u
  pub late : (o : OpName) (r : OperandState) → operand_at S.flight o ≡ Some r → is_late (phase_of S o) ≡ true
      → IsAtStage S.flight o.task stage.Finished
