-- What a step answers and leaves.
use Rattle.std.specs.Prelude.{◌≡◌, Bool, true, false, Option, None}
use Rattle.tss_isa.specs.declared.instr.Instr.{Instr}
use Rattle.tss_isa.specs.InstrTable.{fits}
use Rattle.tss_model.specs.Registers.{Registers}
use Rattle.tss_model.specs.Core as model
use Rattle.tss_model.specs.Core.{Write, Stepped, Executed, execute, core_step}
use Rattle.tss_core.specs.declared.stepping.Outcome.{Outcome}
use Rattle.tss_core.specs.declared.stepping.Outcome.TheVariants.{Next, Call, Ended, Trapped, Touched}
use Rattle.tss_core.specs.declared.stepping.Stop.{Stop}
use Rattle.tss_core.specs.declared.stepping.Stop.TheVariants as stop
use Rattle.tss_core.specs.Views.{Sight, IsAfter}

-- the step of an actor by what a view shows
abbrev pub step_of : Sight → Registers → Stepped
step_of s r = core_step s.actor s.byte s.word r

-- the step is this instruction, whose fields are in their ranges
pub record Executes (s : Sight) (r : Registers) (i : Instr) : Type 0 where
  pub exact : step_of s r ≡ execute s.actor s.byte r i
  pub fits : fits i ≡ true

-- what it answers
abbrev pub outcome_of : Stepped → Outcome
outcome_of (Executed r w) = Next
outcome_of model.Called = Call
outcome_of model.Ended = Ended
outcome_of (model.Trapped t) = Trapped t
outcome_of model.Touched = Touched

-- an outcome in two parts: whether an instruction is executed, and why not
abbrev pub outcome_by : Bool → Stop → Outcome
outcome_by true s = Next
outcome_by false stop.Call = Call
outcome_by false stop.Ended = Ended
outcome_by false (stop.Trapped t) = Trapped t
outcome_by false stop.Touched = Touched

-- the registers that it leaves
abbrev pub registers_after : Registers → Stepped → Registers
registers_after old (Executed r w) = r
registers_after old s = old

-- what it writes
abbrev pub write_of : Stepped → Option Write
write_of (Executed r w) = w
write_of s = None

-- a part of a step that works on registers alone does this, and writes nothing
pub record StepsTo (s : Stepped) (old new : Registers) (outcome : Outcome) : Type 0 where
  pub exact : outcome ≡ outcome_of s
  pub registers : new ≡ registers_after old s
  pub unwritten : write_of s ≡ None

-- a step does this, with what is seen before and after it, where `Leaves` says what each write would leave
pub record IsStep (s : Stepped) (old new : Registers) (outcome : Outcome) (before after : Sight)
    (Leaves : Option Write → Type 0) : Type 0 where
  pub exact : outcome ≡ outcome_of s
  pub registers : new ≡ registers_after old s
  pub bytes : IsAfter before (write_of s) after
  pub leaves : Leaves (write_of s)
