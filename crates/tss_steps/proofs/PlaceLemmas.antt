-- Where ranges lie: in one range of memory, beside a task's scratch, or inside a task's operands.
use Rattle.std.proofs.Common.{◌≡◌, ℕ, zero, suc, ◌<◌, ◌≤◌, inl, inr, Bool, true, false, List, [], ◌∷◌, Option, Some, None, get_or, refl, sym, ap, subst, ◌∙◌, arith, nat_le, nat_lt}
use Rattle.std.specs.Prelude.{◌&&◌, not, max, min, find, slice_get, option_map}
use Rattle.std.specs.List.{list_any, list_all}
use Rattle.std.proofs.lemmas.Bool.{and_parts, and_from, and_right, or_cases, both_ways, not-true, leb-true, le-leb, lt-leb, ltb-true, ltb-false, false_from_ne_true}
use Rattle.std.proofs.lemmas.Option.{none-some, same_Some, slice_get_within, get_or_from_slice_get}
use Rattle.tss_base.specs.declared.range.Range.{Range}
use Rattle.tss_base.specs.declared.operand.Mode.{Mode}
use Rattle.tss_base.specs.declared.operand.Operand.{Operand}
use Rattle.tss_base.specs.Range.{end_of, meets, contains}
use Rattle.tss_maps.proofs.Places.{find_first, find_there}
use Rattle.tss_model.specs.Memory.{MemoryRange, range_of, covers, scratch_range}
use Rattle.tss_model.specs.Access.{writes}
use Rattle.tss_model.specs.Spawn.{is_outside}
use Rattle.tss_memory.specs.Ranges.{AreRanges}
use Rattle.tss_steps.specs.Placing.{beside_scratch, is_placed, are_placed}

-- ---- lists

-- what passes at each place passes at one
pub all_at : {A : Type 0} (p : A → Bool) (xs : List A) (i : ℕ) (x : A) → list_all p xs ≡ true → slice_get xs i ≡ Some x → p x ≡ true
all_at p [] i x all there = absurd (none-some x there)
all_at p (y ∷ ys) zero x all there =
    ap p (sym (same_Some y x there)) ∙ (and_parts (p y) (list_all p ys) all).0
all_at p (y ∷ ys) (suc i) x all there = all_at p ys i x ((and_parts (p y) (list_all p ys) all).1) there

-- where each passes one test and some another, one passes both
pub one_of_all : {A : Type 0} (p q : A → Bool) (xs : List A) → list_all p xs ≡ true → list_any q xs ≡ true → (x : A) × (p x ≡ true) × (q x ≡ true)
one_of_all p q [] all some = absurd (both_ways false refl some)
one_of_all p q (x ∷ xs) all some =
    let parts = and_parts (p x) (list_all p xs) all in
    elim (or_cases (q x) (list_any q xs) some) [
      | inl here ↦ (x, parts.0, here)
      | inr later ↦ one_of_all p q xs parts.1 later
    ]

-- ---- ranges

pub contains_parts : (r s : Range) → contains r s ≡ true → (r.base ≤ s.base) × (end_of s ≤ end_of r)
contains_parts r s h =
    let p = and_parts (nat_le r.base s.base) (nat_le (end_of s) (end_of r)) h in
    (leb-true r.base s.base p.0, leb-true (end_of s) (end_of r) p.1)

pub contains_from : (r s : Range) → r.base ≤ s.base → end_of s ≤ end_of r → contains r s ≡ true
contains_from r s low high =
    and_from (nat_le r.base s.base) (nat_le (end_of s) (end_of r)) (le-leb r.base s.base low) (le-leb (end_of s) (end_of r) high)

-- one that ends before the other's end
contains_not_end : (r s : Range) → end_of r < end_of s → contains r s ≡ false
contains_not_end r s h = and_right (nat_le r.base s.base) (nat_le (end_of s) (end_of r)) (lt-leb (end_of s) (end_of r) h)

-- ---- ranges of memory

some_mapped : {A B : Type 0} (f : A → B) (o : Option A) (y : B) → option_map f o ≡ Some y → (x : A) × (o ≡ Some x) × (f x ≡ y)
some_mapped f (Some x) y e = (x, refl, same_Some (f x) y e)
some_mapped f None y e = absurd (none-some y e)

-- two ranges of memory at places in order
ranges_apart : (ranges : List MemoryRange) → AreRanges ranges → (i j : ℕ) (m n : MemoryRange) → i < j
    → slice_get ranges i ≡ Some m → slice_get ranges j ≡ Some n → end_of m.range ≤ n.range.base
ranges_apart ranges are i j m n h e f =
    let both : end_of ((get_or ranges i m).range) ≤ (get_or ranges j m).range.base = are.ordered i j m h (slice_get_within ranges j n f) in
    let left : end_of m.range ≤ (get_or ranges j m).range.base = subst (λ (x : MemoryRange). end_of x.range ≤ (get_or ranges j m).range.base) (get_or_from_slice_get ranges i m m e) both in
    subst (λ (x : MemoryRange). end_of m.range ≤ x.range.base) (get_or_from_slice_get ranges j n m f) left

-- the range of memory in which a range lies, and its place
abbrev pub LiesIn : List MemoryRange → Range → Bool → Type 0
LiesIn ranges r w =
    (i : ℕ) × (m : MemoryRange) × (slice_get ranges i ≡ Some m) × (contains m.range r ≡ true) × (m.writable ≡ w)

lies_in : (ranges : List MemoryRange) (r : Range) (w : Bool) → range_of ranges r ≡ Some w → LiesIn ranges r w
lies_in ranges r w e =
    let m = some_mapped (λ m. m.writable) (find (λ m. contains m.range r) ranges) w e in
    let there = find_there (λ m. contains m.range r) ranges m.0 m.1 in
    (there.0, m.0, there.1, there.2, m.2)

-- what lies inside a range lies in the same range of memory
pub range_of-inside : (ranges : List MemoryRange) → AreRanges ranges → (o r : Range) (w : Bool) → 0 < r.len
    → contains o r ≡ true → range_of ranges o ≡ Some w → range_of ranges r ≡ Some w
range_of-inside ranges are o r w some inside e =
    let l = lies_in ranges o w e in
    let outer = contains_parts l.1.range o l.3 in
    let inner = contains_parts o r inside in
    let held : contains l.1.range r ≡ true = contains_from l.1.range r (omega arith) (omega arith) in
    ap (option_map (λ m. m.writable))
    (find_first (λ m. contains m.range r) ranges l.0
    (λ j m h there.
    let apart = ranges_apart ranges are j l.0 m l.1 h there l.2 in
    contains_not_end m.range r (omega arith))
    (λ m there. ap (λ (x : MemoryRange). contains x.range r) (same_Some m l.1 (sym there ∙ l.2)) ∙ held)
    ∙ l.2)
    ∙ ap Some l.4

-- ranges that don't meet share no address
apart_addresses : (r s : Range) (a : ℕ) → meets r s ≡ false → r.base ≤ a → a < end_of r → s.base ≤ a → a < end_of s → ⊥
apart_addresses r s a h b1 e1 b2 e2 =
    let low = ltb-false (max r.base s.base) (min (end_of r) (end_of s)) h in
    omega arith

-- an address of memory isn't one of a task's scratch
pub beside_address : (ranges : List MemoryRange) (r : Range) (w : Bool) (a : ℕ) → beside_scratch ranges ≡ true
    → range_of ranges r ≡ Some w → r.base ≤ a → a < end_of r → covers scratch_range a ≡ false
beside_address ranges r w a beside e low high =
    let l = lies_in ranges r w e in
    let parts = contains_parts l.1.range r l.3 in
    let apart = not-true (meets l.1.range scratch_range) (all_at (λ m. not (meets m.range scratch_range)) ranges l.0 l.1 beside l.2) in
    false_from_ne_true (covers scratch_range a) (λ c.
    let in_scratch = and_parts (nat_le scratch_range.base a) (nat_lt a (end_of scratch_range)) c in
    let first = leb-true scratch_range.base a in_scratch.0 in
    let last = ltb-true a (end_of scratch_range) in_scratch.1 in
    apart_addresses l.1.range scratch_range a apart (omega arith) (omega arith) first last)

-- ---- operands

-- where a placed operand lies
pub placed_in : (mode : Mode) (o : Option Bool) → not (is_outside mode o) ≡ true → (w : Bool) × (o ≡ Some w) × (writes mode ≡ true → w ≡ true)
placed_in mode None h = absurd (cc)
placed_in mode (Some true) h = (true, refl, λ e. refl)
placed_in mode (Some false) h = (false, refl, λ e. absurd (both_ways (not (writes mode && true)) (ap (λ b. not (b && true)) e) h))

module _ (ranges : List MemoryRange) (are : AreRanges ranges) (operands : List Operand) (placed : are_placed ranges operands ≡ true)
    (r : Range) (some : 0 < r.len) where
  -- what lies inside an operand lies in memory
  pub range_of-loaded : list_any (λ o. contains o.object r) operands ≡ true → (w : Bool) × (range_of ranges r ≡ Some w)
  range_of-loaded owned =
      let o = one_of_all (is_placed ranges) (λ o. contains o.object r) operands placed owned in
      let p = placed_in (o.0).mode (range_of ranges (o.0).object) o.1 in
      (p.0, range_of-inside ranges are (o.0).object r p.0 some o.2 p.1)

  -- what lies inside one that is written lies in memory that can be written
  pub range_of-stored : list_any (λ o. writes o.mode && contains o.object r) operands ≡ true → range_of ranges r ≡ Some true
  range_of-stored owned =
      let o = one_of_all (is_placed ranges) (λ o. writes o.mode && contains o.object r) operands placed owned in
      let p = placed_in (o.0).mode (range_of ranges (o.0).object) o.1 in
      let both = and_parts (writes (o.0).mode) (contains (o.0).object r) o.2 in
      range_of-inside ranges are (o.0).object r p.0 some both.1 p.1 ∙ ap Some (p.2 both.0)
