-- The lines of a busy worker.
use Rattle.std.proofs.Common.{◌≡◌, ℕ, Option, Some, None, refl, sym, ap, ◌∙◌}
use Rattle.std.specs.Prelude.{option_map}
use Rattle.std.proofs.lemmas.Option.{none-some, same_Some}
use Rattle.tss_base.specs.declared.ending.Trap.{Trap}
use Rattle.tss_protocol.specs.State.{Busy}

-- what is shown of a worker's task
abbrev pub task_shown : Busy → ℕ × Option Trap
task_shown b = (b.task.number, b.trap)

-- a worker that shows a task is busy with it
pub busy_there : (o : Option Busy) (t : ℕ × Option Trap) → Some t ≡ option_map task_shown o → (b : Busy) × (o ≡ Some b) × (task_shown b ≡ t)
busy_there None t e = absurd (none-some t (sym e))
busy_there (Some b) t e = (b, refl, sym (same_Some t (task_shown b) e))

-- and has what it shows
pub part_there : {X : Type 0} (f : Busy → X) (o : Option Busy) (b : Busy) (x : X) → o ≡ Some b → option_map f o ≡ Some x → f b ≡ x
part_there f o b x is e = same_Some (f b) x (ap (option_map f) (sym is) ∙ e)
