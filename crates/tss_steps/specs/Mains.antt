-- Main that goes on: its steps over its registers and memory, whatever it has spawned, named and printed.
use Rattle.std.specs.Prelude.{◌≡◌, ℕ, suc, Bool, true, false, List, Option, Some, None}
use Rattle.tss_base.specs.declared.range.Range.{Range}
use Rattle.tss_base.specs.declared.ending.Ending.{Ending}
use Rattle.tss_base.specs.declared.ending.Ending.TheVariants.{MainTrap, Refused}
use Rattle.tss_base.specs.Image.{SegmentState}
use Rattle.tss_model.specs.Memory.{Memory}
use Rattle.tss_model.specs.Registers.{Registers, trap_of}
use Rattle.tss_base.specs.declared.causes.TheConstants.{FETCH_OUTSIDE}
use Rattle.tss_base.specs.declared.refusals.TheConstants.{MAIN_TOUCH}
use Rattle.tss_model.specs.MainStep.{Piece, Flat, main_step, main_stretch}
use Rattle.tss_model.specs.TaskRun.{repeated}
use Rattle.tss_base.specs.declared.machine.Limits.{Limits}
use Rattle.tss_core.specs.declared.stepping.Outcome.{Outcome}
use Rattle.tss_core.specs.declared.stepping.Outcome.TheVariants.{Next, Call, Ended, Trapped, Touched}
use Rattle.tss_core.specs.declared.stepping.Stop.{Stop}
use Rattle.tss_core.specs.declared.stepping.Stop.TheVariants as stop

-- what a step of main comes to: main goes on, or rests, at a call or with its ending
pub data MainTurn : Type 0 where
  Further : MainTurn
  Rests : Option Ending → MainTurn

-- in two parts: whether it goes on, and the ending where it has one
abbrev pub main_turn : Bool → Option Ending → MainTurn
main_turn true ending = Further
main_turn false ending = Rests ending

-- main as it stands, with its memory
abbrev pub flat_now : Registers → ℕ → List Range → List Piece → Option Ending → Memory → Flat
flat_now r spawned objects pieces ending memory = record {
  main = record { registers = r; spawned = spawned; epoch = objects; pieces = pieces; ending = ending };
  memory = memory;
}

-- what a core's step comes to, by the registers that it leaves. There is no word where a task ends
abbrev pub main_turn_after : Registers → Outcome → MainTurn
main_turn_after r Next = Further
main_turn_after r Call = Rests None
main_turn_after r Ended = Rests (Some (MainTrap (trap_of r FETCH_OUTSIDE r.pc)))
main_turn_after r (Trapped t) = Rests (Some (MainTrap t))
main_turn_after r Touched = Rests (Some (Refused MAIN_TOUCH r.pc))

-- the ending where a core's step executes no instruction
abbrev pub ending_of : Registers → Stop → Option Ending
ending_of r stop.Call = None
ending_of r stop.Ended = Some (MainTrap (trap_of r FETCH_OUTSIDE r.pc))
ending_of r (stop.Trapped t) = Some (MainTrap t)
ending_of r stop.Touched = Some (Refused MAIN_TOUCH r.pc)

-- a step has led from one flat machine to others: where it rests it stays so however many steps are taken
abbrev pub MainTurns : (Flat → Flat) → Flat → (Option Ending → Flat) → MainTurn → Type 0
MainTurns step f after Further = step f ≡ after None
MainTurns step f after (Rests ending) = (n : ℕ) → repeated step (suc n) f ≡ after ending

-- so it does whatever main has spawned and printed
abbrev pub StepsMain : List SegmentState → Limits → List Range → (r : Registers) → Memory → (q : Registers) → Memory → MainTurn → Type 0
StepsMain code limits objects r m q n turn =
    (spawned : ℕ) (pieces : List Piece)
    → MainTurns (main_step code limits) (flat_now r spawned objects pieces None m) (λ e. flat_now q spawned objects pieces e n) turn

-- the same of a stretch
abbrev pub StretchesMain : List SegmentState → Limits → List Range → ℕ → (r : Registers) → Memory → (q : Registers) → Memory → Option Ending → Type 0
StretchesMain code limits objects most r m q n ending =
    (spawned : ℕ) (pieces : List Piece)
    → flat_now q spawned objects pieces ending n ≡ main_stretch code limits most (flat_now r spawned objects pieces None m)

-- what is left of a stretch comes to what the whole does
abbrev pub LeftOfMain : List SegmentState → Limits → List Range → (left : ℕ) → Registers → Memory → (most : ℕ) → Registers → Memory → Type 0
LeftOfMain code limits objects left q n most r m =
    (spawned : ℕ) (pieces : List Piece)
    → main_stretch code limits left (flat_now q spawned objects pieces None n)
    ≡ main_stretch code limits most (flat_now r spawned objects pieces None m)
