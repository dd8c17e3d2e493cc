-- Images, operands and short runs whose results are known from outside.
use Rattle.std.proofs.Common.{refl}
use Rattle.std.specs.Prelude.{◌≡◌, ℕ, true, false, [], ◌∷◌, Some, None}
use Rattle.tss_base.specs.declared.range.Range.{Range}
use Rattle.tss_base.specs.declared.operand.Mode.{Mode}
use Rattle.tss_base.specs.declared.operand.Mode.TheVariants.{Input, Output, Inout}
use Rattle.tss_base.specs.declared.operand.Operand.{Operand}
use Rattle.tss_base.specs.declared.ending.Ending.TheVariants.{Exit, Refused}
use Rattle.tss_base.specs.declared.machine.Limits.{Limits}
use Rattle.tss_base.specs.Image.{ImageState}
use Rattle.tss_isa.specs.InstrTable.{instr_of}
use Rattle.tss_model.specs.Memory.{frozen, code_word}
use Rattle.tss_model.specs.Core.{core_step}
use Rattle.tss_model.specs.Spawn.{merged_operands, name_objects}
use Rattle.tss_model.specs.TaskRun.{repeated}
use Rattle.tss_model.specs.MainStep.{main_step}
use Rattle.tss_model.specs.InOrder.{flat_step, in_order}

-- ---- merging and naming

abbrev x : Range
x = record { base = 0x20000; len = 4 }

abbrev y : Range
y = record { base = 0x20040; len = 4 }

abbrev on : Range → Mode → Operand
on object mode = record { object = object; mode = mode }

inputs_merge : merged_operands (on x Input ∷ on y Input ∷ on x Input ∷ []) ≡ on x Input ∷ on y Input ∷ []
inputs_merge = refl

outputs_merge : merged_operands (on x Output ∷ on x Output ∷ []) ≡ on x Output ∷ []
outputs_merge = refl

-- a mixture is an inout, whichever comes first
mixture_merges : merged_operands (on x Output ∷ on y Output ∷ on x Input ∷ []) ≡ on x Inout ∷ on y Output ∷ []
mixture_merges = refl

inout_stays : merged_operands (on x Inout ∷ []) ≡ on x Inout ∷ []
inout_stays = refl

-- an object that is named already is named once, where it stands
named_once : name_objects (x ∷ []) (y ∷ x ∷ y ∷ []) ≡ x ∷ y ∷ []
named_once = refl

-- ---- a program of three words: ADDI x10, x0, 7; ADDI x17, x0, 1; ECALL

abbrev exits : ImageState
exits = record {
  entry = 0x10000;
  segments =
      record {
        base = 0x10000;
        bytes = 0x13 ∷ 0x05 ∷ 0x70 ∷ 0 ∷ 0x93 ∷ 0x08 ∷ 0x10 ∷ 0 ∷ 0x73 ∷ 0 ∷ 0 ∷ 0 ∷ [];
        writable = false;
        code = true;
      }
      ∷ record { base = 0x20000; bytes = 0x13 ∷ 0 ∷ 0 ∷ 0 ∷ []; writable = true; code = false }
      ∷ [];
}

last_word : code_word (frozen exits) 0x10008 ≡ Some 0x73
last_word = refl

-- no word at an address that isn't a multiple of 4, past the segment's end, or in one that isn't code
no_word_between : code_word (frozen exits) 0x10002 ≡ None
no_word_between = refl

no_word_past : code_word (frozen exits) 0x1000C ≡ None
no_word_past = refl

no_word_in_data : code_word (frozen exits) 0x20000 ≡ None
no_word_in_data = refl

abbrev budget_of : ℕ → Limits
budget_of n = record {
  main_budget = n;
  task_budget = 1;
  max_tasks = 1;
  max_operands = 1;
  object_bytes = 1;
  epoch_objects = 1;
  output_bytes = 0;
}

-- it exits with 7 after three instructions
exits_with_seven : (in_order exits (budget_of 3)).ending ≡ Exit 7
unfolding repeated flat_step main_step core_step instr_of
exits_with_seven = refl

-- with a budget of two its call is refused
refused_before : (in_order exits (budget_of 2)).ending ≡ Refused 11 0x10008
unfolding repeated flat_step main_step core_step instr_of
refused_before = refl
