-- The entries of an operand list, one after the other.
use Rattle.std.proofs.Common.{◌≡◌, ℕ, suc, ◌+◌, ◌-◌, ◌*◌, ◌<◌, ◌&&◌, if◌then◌else◌, nat_lt, List, [], ◌∷◌, ◌++◌, Result, Ok, Err, refl, sym, ap, ◌∙◌, arith}
use Rattle.std.proofs.lemmas.List.{append_assoc, append-nil, map_push}
use Rattle.tss_base.specs.declared.lists.TheConstants.{ENTRY_BYTES}
use Rattle.tss_base.specs.declared.range.Range.{Range}
use Rattle.tss_base.specs.declared.operand.Operand.{Operand}
use Rattle.tss_base.specs.declared.machine.Limits.{Limits}
use Rattle.tss_model.specs.Memory.{Memory}
use Rattle.tss_model.specs.Access.{touches}
use Rattle.tss_base.specs.declared.refusals.TheConstants.{LIST_PLACE, MAIN_TOUCH}
use Rattle.tss_model.specs.Spawn.{SpawnCall, is_misplaced, list_range, after_first, entries_at, entries_checked, entry_at, entry_checked, objects_of, with_rest}
use Rattle.tss_operands.specs.Spawning.{list_checked}

-- operands, and then those of the rest
abbrev pub joined : List Operand → Result (List Operand) ℕ → Result (List Operand) ℕ
joined os (Ok rest) = Ok (os ++ rest)
joined os (Err n) = Err n

-- one operand more before the rest
joined-after_first : (os : List Operand) (o : Operand) (r : Result (List Operand) ℕ)
    → joined os (after_first o r) ≡ joined (os ++ o ∷ []) r
joined-after_first os o (Ok rest) = ap Ok (sym (append_assoc os (o ∷ []) rest))
joined-after_first os o (Err n) = refl

module _ (limits : Limits) (m : Memory) (named : List Range) where
  -- these operands, and those of the entries from an address on
  abbrev pub rest_checked : List Operand → ℕ → ℕ → Result (List Operand) ℕ
  rest_checked os at n = joined os (entries_checked limits m (named ++ objects_of os) (entries_at m at n))

  -- at first there are none
  pub rest_checked-first : (at n : ℕ) → rest_checked [] at n ≡ entries_checked limits m named (entries_at m at n)
  rest_checked-first at n =
      ap (λ xs. joined [] (entries_checked limits m xs (entries_at m at n))) (append-nil named)
      ∙ before_none (entries_checked limits m named (entries_at m at n))
    where
      before_none : (r : Result (List Operand) ℕ) → joined [] r ≡ r
      before_none (Ok os) = refl
      before_none (Err n) = refl

  -- at the end no entry is left
  pub rest_checked-none : (os : List Operand) (at : ℕ) → rest_checked os at 0 ≡ Ok os
  unfolding entries_checked
  rest_checked-none os at = ap Ok (append-nil os)

  -- an entry that passes its checks adds its operand
  rest_checked-next : (os : List Operand) (at n : ℕ) (o : Operand)
      → entry_checked limits m (named ++ objects_of os) (entry_at m at) ≡ Ok o
      → rest_checked os at (suc n) ≡ rest_checked (os ++ o ∷ []) (at + ENTRY_BYTES) n
  unfolding entries_checked
  rest_checked-next os at n o passes =
      ap (λ r. joined os (with_rest r (λ p. entries_checked limits m ((named ++ objects_of os) ++ p.object ∷ [])
      (entries_at m (at + ENTRY_BYTES) n)))) passes
      ∙ joined-after_first os o _
      ∙ ap (λ xs. joined (os ++ o ∷ []) (entries_checked limits m xs (entries_at m (at + ENTRY_BYTES) n)))
      (append_assoc named (objects_of os) (o.object ∷ []) ∙ ap (λ xs. named ++ xs) (sym (map_push (λ p. p.object) os o)))

  -- and one that fails one is the end
  rest_checked-fails : (os : List Operand) (at n k : ℕ)
      → entry_checked limits m (named ++ objects_of os) (entry_at m at) ≡ Err k
      → rest_checked os at (suc n) ≡ Err k
  unfolding entries_checked
  rest_checked-fails os at n k fails =
      ap (λ r. joined os (with_rest r (λ p. entries_checked limits m ((named ++ objects_of os) ++ p.object ∷ [])
      (entries_at m (at + ENTRY_BYTES) n)))) fails

  module _ (list count i : ℕ) (os : List Operand) (more : i < count) where
    left : count - i ≡ suc (count - (i + 1))
    left = omega arith

    -- the same at the place in the list
    pub rest_checked-more : (o : Operand)
        → entry_checked limits m (named ++ objects_of os) (entry_at m (list + ENTRY_BYTES * i)) ≡ Ok o
        → rest_checked os (list + ENTRY_BYTES * i) (count - i)
        ≡ rest_checked (os ++ o ∷ []) (list + ENTRY_BYTES * (i + 1)) (count - (i + 1))
    rest_checked-more o passes =
        let next : (list + ENTRY_BYTES * i) + ENTRY_BYTES ≡ list + ENTRY_BYTES * (i + 1) = omega arith in
        ap (rest_checked os (list + ENTRY_BYTES * i)) left
        ∙ rest_checked-next os (list + ENTRY_BYTES * i) (count - (i + 1)) o passes
        ∙ ap (λ at. rest_checked (os ++ o ∷ []) at (count - (i + 1))) next

    pub rest_checked-over : (k : ℕ)
        → entry_checked limits m (named ++ objects_of os) (entry_at m (list + ENTRY_BYTES * i)) ≡ Err k
        → rest_checked os (list + ENTRY_BYTES * i) (count - i) ≡ Err k
    rest_checked-over k fails =
        ap (rest_checked os (list + ENTRY_BYTES * i)) left
        ∙ rest_checked-fails os (list + ENTRY_BYTES * i) (count - (i + 1)) k fails

-- an empty list passes
pub list_checked-none : (call : SpawnCall) (m : Memory) (named : List Range) (limits : Limits) → call.count ≡ 0
    → list_checked call m named limits ≡ Ok []
unfolding entries_checked
list_checked-none call m named limits none =
    ap (λ n.
    if nat_lt 0 n && is_misplaced m call then Err LIST_PLACE
    else if nat_lt 0 n && touches named (list_range call) then Err MAIN_TOUCH
    else entries_checked limits m named (entries_at m call.list n)) none
