-- Where a task may load: in its operands' objects, of which some are read and the others become zeros at the start, and
-- in memory that can't be written.
use Rattle.std.proofs.Common.{◌≡◌, ◌⊎◌, ℕ, inl, inr, Bool, true, false, Option, Some, None, List, [], ◌∷◌, refl}
use Rattle.std.specs.Prelude.{◌&&◌, ◌||◌, not, cond}
use Rattle.std.specs.List.{list_any}
use Rattle.std.proofs.lemmas.Bool.{and_from, or_cases, or_left, or_right, both_ways, not_from_false, cases_Bool}
use Rattle.tss_base.specs.declared.range.Range.{Range}
use Rattle.tss_base.specs.declared.operand.Operand.{Operand}
use Rattle.tss_base.specs.Range.{Covers, contains}
use Rattle.tss_model.specs.Memory.{MemoryRange, range_of, scratch_range, covers}
use Rattle.tss_model.specs.Access.{Loads, Granted, Denied, reads, is_fixed, task_may_load, task_access}
use Rattle.tss_program_order.proofs.FlatTask.{covers_inside}

-- an address lies in the object of an input or inout operand
abbrev pub is_read : List Operand → ℕ → Bool
is_read operands a = list_any (λ o. reads o.mode && covers o.object a) operands

-- and in that of one that becomes zeros at the start
abbrev pub is_zeroed : List Operand → ℕ → Bool
is_zeroed operands a = list_any (λ o. not (reads o.mode) && covers o.object a) operands

-- an address in an object lies in one of both kinds
pub read_or_zeroed : (operands : List Operand) (a : ℕ) → list_any (λ o. covers o.object a) operands ≡ true
    → (is_read operands a ≡ true) ⊎ (is_zeroed operands a ≡ true)
read_or_zeroed [] a inside = absurd (cc)
read_or_zeroed (o ∷ operands) a inside =
    elim (or_cases (covers o.object a) (list_any (λ o. covers o.object a) operands) inside) [
      | inl here ↦ elim (cases_Bool (reads o.mode)) [
        | inl read ↦ inl (or_left _ _ (and_from _ _ read here))
        | inr unread ↦ inr (or_left _ _ (and_from _ _ (not_from_false (reads o.mode) unread) here))
      ]
      | inr later ↦ elim (read_or_zeroed operands a later) [
        | inl read ↦ inl (or_right _ _ read)
        | inr unread ↦ inr (or_right _ _ unread)
      ]
    ]

-- ---- the run

granted_load : (b : Bool) → cond b Granted Denied ≡ Granted → b ≡ true
granted_load true e = refl
granted_load false e = absurd (cc)

is_fixed-some : (w : Option Bool) → is_fixed w ≡ true → w ≡ Some false
is_fixed-some None e = absurd (cc)
is_fixed-some (Some true) e = absurd (cc)
is_fixed-some (Some false) e = refl

owned_covers : (operands : List Operand) (q : Range) (a : ℕ) → Covers q a
    → list_any (λ o. contains o.object q) operands ≡ true → list_any (λ o. covers o.object a) operands ≡ true
owned_covers [] q a covered owned = absurd (cc)
owned_covers (o ∷ operands) q a covered owned =
    elim (or_cases (contains o.object q) (list_any (λ o. contains o.object q) operands) owned) [
      | inl here ↦ or_left _ _ (covers_inside o.object q a here covered)
      | inr later ↦ or_right _ _ (owned_covers operands q a covered later)
    ]

-- what a task may load beyond its scratch lies in one of its objects, or in memory that can't be written
pub task_loads : (ranges : List MemoryRange) (operands : List Operand) (q : Range) (a : ℕ)
    → task_access ranges operands Loads q ≡ Granted → Covers q a → covers scratch_range a ≡ false
    → (list_any (λ o. covers o.object a) operands ≡ true) ⊎ (range_of ranges q ≡ Some false)
task_loads ranges operands q a granted covered outside =
    elim (or_cases (contains scratch_range q)
    (list_any (λ o. contains o.object q) operands || is_fixed (range_of ranges q))
    (granted_load (task_may_load operands q (range_of ranges q)) granted)) [
      | inl scratch ↦ absurd (both_ways (covers scratch_range a) outside
          (covers_inside scratch_range q a scratch covered))
      | inr beyond ↦ elim (or_cases (list_any (λ o. contains o.object q) operands) (is_fixed (range_of ranges q))
          beyond) [
            | inl owned ↦ inl (owned_covers operands q a covered owned)
            | inr fixed ↦ inr (is_fixed-some (range_of ranges q) fixed)
          ]
    ]
