-- What the rule of access says of an access beside a task's scratch, by the spot in which it lies.
use Rattle.std.proofs.Common.{◌≡◌, ℕ, zero, suc, ◌<◌, ◌⊎◌, inl, inr, Bool, true, false, List, [], ◌∷◌, Option, Some, None, refl, sym, ap, ◌∙◌, arith}
use Rattle.std.specs.Prelude.{◌&&◌, ◌||◌, cond, max, min, option_map, slice_get}
use Rattle.std.specs.List.{list_any}
use Rattle.std.proofs.lemmas.Bool.{and_left, and_right, both_ways, cases_order, false_from_ne_true, lt-ltb}
use Rattle.std.proofs.lemmas.Option.{none-some, same_Some, slice_get-map}
use Rattle.tss_base.specs.declared.range.Range.{Range}
use Rattle.tss_base.specs.declared.operand.Operand.{Operand}
use Rattle.tss_base.specs.Range.{end_of, meets, contains}
use Rattle.tss_model.specs.Memory.{MemoryRange, range_of, scratch_range}
use Rattle.tss_model.specs.Access.{Granted, Denied, Loads, Stores, task_access, is_fixed, writes}
use Rattle.tss_memory.proofs.RangeLemmas.{contains_parts}
use Rattle.tss_workers.specs.Seats.{AreApart}
use Rattle.tss_workers.specs.Spots.{LiesInNone, operand_at, operands_at, placed_spot, placed_of}
use Rattle.tss_workers.specs.declared.spots.Spot.{Spot}
use Rattle.tss_workers.proofs.SpotLemmas.{placed_there}

-- ---- lists

-- one that passes at a place
pub any_at : {A : Type 0} (p : A → Bool) (xs : List A) (i : ℕ) (x : A) → slice_get xs i ≡ Some x → p x ≡ true → list_any p xs ≡ true
any_at p [] i x e h = absurd (none-some x e)
any_at p (y ∷ ys) zero x e h = ap (λ b. b || list_any p ys) (ap p (same_Some y x e) ∙ h)
any_at p (y ∷ ys) (suc i) x e h = ap (λ b. p y || b) (any_at p ys i x e h) ∙ or_true (p y)
  where
    or_true : (b : Bool) → b || true ≡ true
    or_true true = refl
    or_true false = refl

-- none that passes
pub none_any : {A : Type 0} (p : A → Bool) (xs : List A) → ((i : ℕ) (x : A) → slice_get xs i ≡ Some x → p x ≡ false) → list_any p xs ≡ false
none_any p [] h = refl
none_any p (y ∷ ys) h =
    (λ i. h 0 y refl i || list_any p ys) ∙ none_any p ys (λ i x e. h (suc i) x e)

-- where none passes, one doesn't
pub any_false : {A : Type 0} (p : A → Bool) (xs : List A) → list_any p xs ≡ false → (i : ℕ) (x : A) → slice_get xs i ≡ Some x → p x ≡ false
any_false p xs none i x e = false_from_ne_true (p x) (λ h. both_ways (list_any p xs) none (any_at p xs i x e h))

-- ---- operands of spots

operand_there : (spots : List Spot) (i : ℕ) (s : Spot) → slice_get spots i ≡ Some s → slice_get (operands_at spots) i ≡ Some (operand_at s)
operand_there spots i s e = slice_get-map operand_at spots i ∙ ap (option_map operand_at) e

some_operand : (o : Option Spot) (p : Operand) → option_map operand_at o ≡ Some p → (s : Spot) × (o ≡ Some s) × (operand_at s ≡ p)
some_operand (Some s) p e = (s, refl, same_Some (operand_at s) p e)
some_operand None p e = absurd (none-some p e)

spot_of_operand : (spots : List Spot) (i : ℕ) (p : Operand) → slice_get (operands_at spots) i ≡ Some p
    → (s : Spot) × (slice_get spots i ≡ Some s) × (operand_at s ≡ p)
spot_of_operand spots i p e = some_operand (slice_get spots i) p (sym (slice_get-map operand_at spots i) ∙ e)

module _ (spots : List Spot) (r : Range) where
  -- a range that lies in a spot lies in an operand
  pub lies_in_operand : (i : ℕ) (s : Spot) → slice_get spots i ≡ Some s → contains s.object r ≡ true
      → list_any (λ o. contains o.object r) (operands_at spots) ≡ true
  lies_in_operand i s e inside = any_at (λ o. contains o.object r) (operands_at spots) i (operand_at s) (operand_there spots i s e) inside

  pub lies_in_written : (i : ℕ) (s : Spot) → slice_get spots i ≡ Some s → contains s.object r ≡ true → writes s.mode ≡ true
      → list_any (λ o. writes o.mode && contains o.object r) (operands_at spots) ≡ true
  lies_in_written i s e inside w =
      any_at (λ o. writes o.mode && contains o.object r) (operands_at spots) i (operand_at s) (operand_there spots i s e)
      (λ i. w i && inside i)

  -- and one in no spot in none
  pub lies_in_none : LiesInNone spots r → list_any (λ o. contains o.object r) (operands_at spots) ≡ false
  lies_in_none none =
      none_any (λ o. contains o.object r) (operands_at spots) (λ i p e.
      let s = spot_of_operand spots i p e in
      ap (λ (o : Operand). contains o.object r) (sym s.2) ∙ none i s.0 s.1)

  pub written_in_none : LiesInNone spots r
      → list_any (λ o. writes o.mode && contains o.object r) (operands_at spots) ≡ false
  written_in_none none =
      none_any (λ o. writes o.mode && contains o.object r) (operands_at spots) (λ i p e.
      let s = spot_of_operand spots i p e in
      and_right (writes p.mode) (contains p.object r)
      (ap (λ (o : Operand). contains o.object r) (sym s.2) ∙ none i s.0 s.1))

  -- nor does it lie in another spot
  pub written_elsewhere : AreApart (placed_of spots) → 0 < r.len → (i : ℕ) (s : Spot) → slice_get spots i ≡ Some s
      → contains s.object r ≡ true → writes s.mode ≡ false
      → list_any (λ o. writes o.mode && contains o.object r) (operands_at spots) ≡ false
  written_elsewhere apart some i s there inside unwritten =
      none_any (λ o. writes o.mode && contains o.object r) (operands_at spots) (λ j p e.
      let q = spot_of_operand spots j p e in by j p q.0 q.1 q.2 (cases_order j i))
    where
      both : (q : Spot) → meets q.object s.object ≡ false → contains q.object r ≡ true → ⊥
      both q h c =
          let mine = contains_parts s.object r inside in
          let its = contains_parts q.object r c in
          both_ways (meets q.object s.object) h
          (lt-ltb (max q.object.base s.object.base) (min (end_of q.object) (end_of s.object)) (omega arith))

      both_turned : (q : Spot) → meets s.object q.object ≡ false → contains q.object r ≡ true → ⊥
      both_turned q h c =
          let mine = contains_parts s.object r inside in
          let its = contains_parts q.object r c in
          both_ways (meets s.object q.object) h
          (lt-ltb (max s.object.base q.object.base) (min (end_of s.object) (end_of q.object)) (omega arith))

      other : (p : Operand) (q : Spot) → operand_at q ≡ p → (contains q.object r ≡ true → ⊥) → writes p.mode && contains p.object r ≡ false
      other p q same none =
          and_right (writes p.mode) (contains p.object r)
          (ap (λ (o : Operand). contains o.object r) (sym same) ∙ false_from_ne_true (contains q.object r) none)

      by : (j : ℕ) (p : Operand) (q : Spot) → slice_get spots j ≡ Some q → operand_at q ≡ p → (j ≡ i) ⊎ ((j < i) ⊎ (i < j))
          → writes p.mode && contains p.object r ≡ false
      by j p q at same (inl here) =
          let it = same_Some q s (sym at ∙ ap (slice_get spots) here ∙ there) in
          and_left (writes p.mode) (contains p.object r) (ap (λ (o : Operand). writes o.mode) (sym same ∙ ap operand_at it) ∙ unwritten)
      by j p q at same (inr (inl before)) =
          other p q same (both q (apart.objects j i (placed_spot q) (placed_spot s) before (placed_there spots j q at) (placed_there spots i s there)))
      by j p q at same (inr (inr behind)) =
          other p q same (both_turned q (apart.objects i j (placed_spot s) (placed_spot q) behind (placed_there spots i s there) (placed_there spots j q at)))

-- ---- the rule

module _ (ranges : List MemoryRange) (operands : List Operand) (r : Range) (outside : contains scratch_range r ≡ false) where
  pub load_granted : list_any (λ o. contains o.object r) operands ≡ true → task_access ranges operands Loads r ≡ Granted
  load_granted own i = cond (outside i || (own i || is_fixed (range_of ranges r))) Granted Denied

  pub load_fixed : list_any (λ o. contains o.object r) operands ≡ false → is_fixed (range_of ranges r) ≡ true → task_access ranges operands Loads r ≡ Granted
  load_fixed own fixed i = cond (outside i || (own i || fixed i)) Granted Denied

  pub load_denied : list_any (λ o. contains o.object r) operands ≡ false → is_fixed (range_of ranges r) ≡ false → task_access ranges operands Loads r ≡ Denied
  load_denied own fixed i = cond (outside i || (own i || fixed i)) Granted Denied

  pub store_granted : list_any (λ o. writes o.mode && contains o.object r) operands ≡ true → task_access ranges operands Stores r ≡ Granted
  store_granted own i = cond (outside i || own i) Granted Denied

  pub store_denied : list_any (λ o. writes o.mode && contains o.object r) operands ≡ false → task_access ranges operands Stores r ≡ Denied
  store_denied own i = cond (outside i || own i) Granted Denied
