-- What the rule of access says of where an access lies that it grants.
use Rattle.std.proofs.Common.{◌≡◌, ◌<◌, inl, inr, Bool, true, false, List, Option, Some, None, sym, ap, ◌∙◌}
use Rattle.std.specs.Prelude.{◌&&◌, ◌||◌, IsTrue}
use Rattle.std.specs.List.{list_any}
use Rattle.std.proofs.lemmas.Bool.{or_cases, both_ways}
use Rattle.std.proofs.lemmas.Option.{none-some, same_Some}
use Rattle.tss_base.specs.declared.range.Range.{Range}
use Rattle.tss_base.specs.declared.operand.Operand.{Operand}
use Rattle.tss_base.specs.Range.{contains}
use Rattle.tss_model.specs.Memory.{MemoryRange, range_of, scratch_range}
use Rattle.tss_model.specs.Access as model
use Rattle.tss_model.specs.Access.{main_may, task_may_within, is_fixed, writes}
use Rattle.tss_memory.specs.Ranges.{AreRanges}
use Rattle.tss_core.specs.declared.access.Purpose.{Purpose}
use Rattle.tss_core.specs.declared.access.Purpose.TheVariants.{Loads, Stores}
use Rattle.tss_core.specs.Rule.{purpose_of}
use Rattle.tss_steps.specs.Placing.{are_placed}
use Rattle.tss_steps.proofs.PlaceLemmas.{range_of-loaded, range_of-stored}

-- ---- main

-- main may access nothing that lies in no range of memory
pub main_unplaced : (p : Purpose) (w : Option Bool) → w ≡ None → IsTrue (main_may (purpose_of p) w) → ⊥
main_unplaced Loads w e h = both_ways (main_may model.Loads w) (ap (main_may model.Loads) e) h
main_unplaced Stores w e h = both_ways (main_may model.Stores w) (ap (main_may model.Stores) e) h

-- and stores only where memory can be written
pub main_stored : (p : Purpose) (o : Option Bool) (w : Bool) → o ≡ Some w → IsTrue (main_may (purpose_of p) o) → purpose_of p ≡ model.Stores → IsTrue w
main_stored Loads o w e h s = absurd (cc)
main_stored Stores o w e h s = ap (main_may model.Stores) (sym e) ∙ h

-- ---- a task

module _ (ranges : List MemoryRange) (are : AreRanges ranges) (operands : List Operand) (placed : are_placed ranges operands ≡ true)
    (r : Range) (some : 0 < r.len) (outside : contains scratch_range r ≡ false) where
  -- a task may access nothing outside its scratch that lies in no range of memory
  pub task_unplaced : (p : Purpose) (w : Option Bool) → w ≡ None → range_of ranges r ≡ None → IsTrue (task_may_within (purpose_of p) operands r w) → ⊥
  task_unplaced Loads w e unplaced h =
      elim (or_cases (contains scratch_range r) (list_any (λ o. contains o.object r) operands || is_fixed w) h) [
        | inl within ↦ both_ways (contains scratch_range r) outside within
        | inr beyond ↦ elim (or_cases (list_any (λ o. contains o.object r) operands) (is_fixed w) beyond) [
          | inl owned ↦ let there = range_of-loaded ranges are operands placed r some owned in none-some there.0 (sym unplaced ∙ there.1)
          | inr fixed ↦ both_ways (is_fixed w) (ap is_fixed e) fixed
        ]
      ]
  task_unplaced Stores w e unplaced h =
      elim (or_cases (contains scratch_range r) (list_any (λ o. writes o.mode && contains o.object r) operands) h) [
        | inl within ↦ both_ways (contains scratch_range r) outside within
        | inr owned ↦ none-some true (sym unplaced ∙ range_of-stored ranges are operands placed r some owned)
      ]

  -- and stores only where memory can be written
  pub task_stored : (p : Purpose) (o : Option Bool) (w : Bool) → range_of ranges r ≡ Some w → IsTrue (task_may_within (purpose_of p) operands r o) → purpose_of p ≡ model.Stores → IsTrue w
  task_stored Loads o w e h s = absurd (cc)
  task_stored Stores o w e h s =
      elim (or_cases (contains scratch_range r) (list_any (λ o. writes o.mode && contains o.object r) operands) h) [
        | inl within ↦ absurd (both_ways (contains scratch_range r) outside within)
        | inr owned ↦ same_Some w true (sym e ∙ range_of-stored ranges are operands placed r some owned)
      ]
