-- The two blocks that a task sees in a plain view: what stands in each, and what a write leaves of both.
use Rattle.std.proofs.Common.{◌≡◌, ℕ, zero, suc, ◌+◌, ◌-◌, ◌*◌, ◌<◌, ◌≤◌, Bool, true, false, ◌&&◌, ◌||◌, List, [], ◌∷◌, length, Option, Some, None, ap, sym, refl, ◌∙◌, inl, inr, arith}
use Rattle.std.specs.Prelude.{slice_index}
use Rattle.std.specs.List.{list_any}
use Rattle.std.proofs.lemmas.Bool.{cases_lt, cond-true, cond-false, and_from, and_left, and_right, and_parts, or_cases, or_left, or_right, le-leb, lt-leb, lt-ltb, le-ltb}
use Rattle.std.proofs.lemmas.Bool.Decides.{nat_tests}
use Rattle.tss_base.specs.declared.range.Range.{Range}
use Rattle.tss_base.specs.declared.operand.Operand.{Operand}
use Rattle.tss_base.specs.Range.{contains}
use Rattle.tss_model.specs.Memory.{scratch_range, covers, range_of, number_at, list_put}
use Rattle.tss_model.specs.Access.{Access, Granted, Denied, Touch, Purpose, Loads, Stores, TaskActor, writes, is_fixed, task_may_within}
use Rattle.std.specs.Int.{bytes_low_first}
use Rattle.tss_model.specs.Core.{Write, low_bytes}
use Rattle.tss_core.specs.Views.{Sight, IsAfter, is_width, byte_after, access_at, write_on, stored}
use Rattle.tss_core_tests.specs.Plain.{plain_range, plain_ranges, task_byte, task_sight, are_inside, lies_in, task_bytes_after, scratch_after}
use Rattle.tss_core.proofs.PutLemmas.{list_put-below}
use Rattle.tss_core_tests.proofs.PutLemmas.{byte_after-by, length-list_put, list_put-above, list_put-in}

-- ---- where an access lies

-- a part of a range that lies inside another lies there too
contains-through : (a b c : Range) → contains a b ≡ true → contains b c ≡ true → contains a c ≡ true
contains-through a b c outer inner = grind (arith, nat_tests)

-- in an operand is in the bytes, where each operand is
owned_inside : (n : ℕ) (r : Range) (os : List Operand) → are_inside n os ≡ true
    → list_any (λ o. contains o.object r) os ≡ true → contains (plain_range n) r ≡ true
owned_inside n r [] inside owned = absurd (cc)
owned_inside n r (o ∷ os) inside owned =
    let parts = and_parts _ _ inside in
    elim (or_cases _ _ owned) [
      | inl here ↦ contains-through (plain_range n) o.object r parts.0 here
      | inr later ↦ owned_inside n r os parts.1 later
    ]

-- the same for an operand that the task writes
written_inside : (n : ℕ) (r : Range) (os : List Operand) → are_inside n os ≡ true
    → list_any (λ o. writes o.mode && contains o.object r) os ≡ true → contains (plain_range n) r ≡ true
written_inside n r [] inside owned = absurd (cc)
written_inside n r (o ∷ os) inside owned =
    let parts = and_parts _ _ inside in
    elim (or_cases (writes o.mode && contains o.object r) _ owned) [
      | inl here ↦
          let in_it = and_parts (writes o.mode) (contains o.object r) here in
          contains-through (plain_range n) o.object r parts.0 in_it.1
      | inr later ↦ written_inside n r os parts.1 later
    ]

-- in memory that can't be written is in the bytes
fixed_inside : (n : ℕ) (writable : Bool) (r : Range) → is_fixed (range_of (plain_ranges n writable) r) ≡ true
    → contains (plain_range n) r ≡ true
fixed_inside n writable r fixed = grind (arith, nat_tests)

-- what a task may access lies in its scratch or in the bytes
pub lies_in-granted : (p : Purpose) (n : ℕ) (writable : Bool) (os : List Operand) (r : Range) → are_inside n os ≡ true
    → task_may_within p os r (range_of (plain_ranges n writable) r) ≡ true → lies_in n r ≡ true
lies_in-granted Loads n writable os r inside may =
    let within : Option Bool = range_of (plain_ranges n writable) r in
    let owned : Bool = list_any (λ o. contains o.object r) os in
    elim (or_cases (contains scratch_range r) (owned || is_fixed within) may) [
      | inl scratch ↦ or_left _ _ scratch
      | inr beside ↦
          elim (or_cases owned (is_fixed within) beside) [
            | inl own ↦ or_right _ _ (owned_inside n r os inside own)
            | inr fixed ↦ or_right _ _ (fixed_inside n writable r fixed)
          ]
    ]
lies_in-granted Stores n writable os r inside may =
    elim (or_cases (contains scratch_range r) (list_any (λ o. writes o.mode && contains o.object r) os) may) [
      | inl scratch ↦ or_left _ _ scratch
      | inr owned ↦ or_right _ _ (written_inside n r os inside owned)
    ]

-- ---- which block it lies in

module _ (n at width : ℕ) (placed : n ≤ 0xFFFD0000) (some : 0 < width)
    (there : lies_in n (record { base = at; len = width }) ≡ true) where
  pub in_scratch : 0xFFFD0000 ≤ at → at + width ≤ 0xFFFD0000 + 65536
  in_scratch from = grind (arith, nat_tests)

  pub in_bytes : at < 0xFFFD0000 → at + width ≤ n
  in_bytes below = grind (arith, nat_tests)

-- ---- what stands there

-- the byte at an address of the scratch, and at any other
module _ (bytes scratch : List ℕ) (a : ℕ) where
  byte_in : 0xFFFD0000 ≤ a → a < 0xFFFD0000 + 65536 → task_byte bytes scratch a ≡ slice_index scratch (a - 0xFFFD0000)
  byte_in from to = cond-true _ _ _ (and_from _ _ (le-leb 0xFFFD0000 a from) (lt-ltb a (0xFFFD0000 + 65536) to))

  byte_below : a < 0xFFFD0000 → task_byte bytes scratch a ≡ slice_index bytes a
  byte_below below = cond-false _ _ _ (and_left _ _ (lt-leb 0xFFFD0000 a below))

  byte_above : 0xFFFD0000 + 65536 ≤ a → task_byte bytes scratch a ≡ slice_index bytes a
  byte_above above = cond-false _ _ _ (and_right _ _ (le-ltb a (0xFFFD0000 + 65536) above))

-- the number in bytes that are the same, one after another
number_at-same : (f g : ℕ → ℕ) (n i at : ℕ) → ((k x y : ℕ) → k < n → x ≡ i + k → y ≡ at + k → f x ≡ g y)
    → number_at f i n ≡ number_at g at n
number_at-same f g zero i at same = refl
number_at-same f g (suc n) i at same =
    let first : f i ≡ g at = same 0 i at (omega arith) (omega arith) (omega arith) in
    let rest = number_at-same f g n (suc i) (suc at)
    (λ k x y small e d. same (suc k) x y (omega arith) (omega arith) (omega arith)) in
    λ j. first j + 256 * rest j

-- a number in the scratch, and one in the bytes
pub number-in_scratch : (bytes scratch : List ℕ) (at n : ℕ) → 0xFFFD0000 ≤ at → at + n ≤ 0xFFFD0000 + 65536
    → number_at (slice_index scratch) (at - 0xFFFD0000) n ≡ number_at (task_byte bytes scratch) at n
number-in_scratch bytes scratch at n from to =
    number_at-same (slice_index scratch) (task_byte bytes scratch) n (at - 0xFFFD0000) at
    (λ k x y small e d.
    let place : y - 0xFFFD0000 ≡ x = omega arith in
    sym (byte_in bytes scratch y (omega arith) (omega arith) ∙ ap (slice_index scratch) place))

pub number-in_bytes : (bytes scratch : List ℕ) (at n : ℕ) → at + n ≤ 0xFFFD0000
    → number_at (slice_index bytes) at n ≡ number_at (task_byte bytes scratch) at n
number-in_bytes bytes scratch at n to =
    number_at-same (slice_index bytes) (task_byte bytes scratch) n at at
    (λ k x y small e d.
    let place : y ≡ x = omega arith in
    sym (byte_below bytes scratch y (omega arith) ∙ ap (slice_index bytes) place))

-- a width is at least one
pub width_some : (n : ℕ) → is_width n ≡ true → 0 < n
width_some n h = grind (arith, nat_tests)

-- ---- what a write leaves

module _ (bytes scratch : List ℕ) (w : Write) (placed : length bytes ≤ 0xFFFD0000) where
  -- a write into the scratch, at a place of it
  in_scratch_after : (i : ℕ) → w.at ≡ 0xFFFD0000 + i → i + length w.bytes ≤ 65536 → length scratch ≡ 65536 → (a : ℕ)
      → task_byte bytes (list_put scratch i w.bytes) a ≡ byte_after (task_byte bytes scratch) (Some w) a
  in_scratch_after i at to whole =
      let new : List ℕ = list_put scratch i w.bytes in
      let there : i + length w.bytes ≤ length scratch = omega arith in
      byte_after-by (task_byte bytes scratch) (task_byte bytes new) w
      (λ a lower.
      elim (cases_lt a 0xFFFD0000) [
        | inl outside ↦ byte_below bytes new a outside ∙ sym (byte_below bytes scratch a outside)
        | inr from ↦
            byte_in bytes new a from (omega arith)
            ∙ list_put-below w.bytes scratch i (a - 0xFFFD0000) (omega arith)
            ∙ sym (byte_in bytes scratch a from (omega arith))
      ])
      (λ a higher.
      elim (cases_lt a (0xFFFD0000 + 65536)) [
        | inl inside ↦
            byte_in bytes new a (omega arith) inside
            ∙ list_put-above w.bytes scratch i (a - 0xFFFD0000) (omega arith)
            ∙ sym (byte_in bytes scratch a (omega arith) inside)
        | inr outside ↦ byte_above bytes new a outside ∙ sym (byte_above bytes scratch a outside)
      ])
      (λ a k place small.
      let here : a - 0xFFFD0000 ≡ i + k = omega arith in
      byte_in bytes new a (omega arith) (omega arith)
      ∙ list_put-in w.bytes scratch i (a - 0xFFFD0000) k there here small)

  -- a write into the bytes
  in_bytes_after : w.at + length w.bytes ≤ length bytes → (a : ℕ)
      → task_byte (list_put bytes w.at w.bytes) scratch a ≡ byte_after (task_byte bytes scratch) (Some w) a
  in_bytes_after there =
      let new : List ℕ = list_put bytes w.at w.bytes in
      byte_after-by (task_byte bytes scratch) (task_byte new scratch) w
      (λ a lower.
      let below : a < 0xFFFD0000 = omega arith in
      byte_below new scratch a below
      ∙ list_put-below w.bytes bytes w.at a lower
      ∙ sym (byte_below bytes scratch a below))
      (λ a higher.
      elim (cases_lt a 0xFFFD0000) [
        | inl below ↦
            byte_below new scratch a below
            ∙ list_put-above w.bytes bytes w.at a higher
            ∙ sym (byte_below bytes scratch a below)
        | inr from ↦
            elim (cases_lt a (0xFFFD0000 + 65536)) [
              | inl inside ↦ byte_in new scratch a from inside ∙ sym (byte_in bytes scratch a from inside)
              | inr outside ↦
                  byte_above new scratch a outside
                  ∙ list_put-above w.bytes bytes w.at a higher
                  ∙ sym (byte_above bytes scratch a outside)
            ]
      ])
      (λ a k place small.
      let below : a < 0xFFFD0000 = omega arith in
      byte_below new scratch a below ∙ list_put-in w.bytes bytes w.at a k there place small)

-- whether an address that a task may access is one of its scratch
pub covers_from : (at n : ℕ) → 0xFFFD0000 ≤ at → at + n ≤ 0xFFFD0000 + 65536 → 0 < n → covers scratch_range at ≡ true
covers_from at n from to some =
    let below : at < 0xFFFD0000 + 65536 = omega arith in
    and_from _ _ (le-leb 0xFFFD0000 at from) (lt-ltb at (0xFFFD0000 + 65536) below)

pub covers_below : (at : ℕ) → at < 0xFFFD0000 → covers scratch_range at ≡ false
covers_below at below = and_left _ _ (lt-leb 0xFFFD0000 at below)

-- a write, where there is one, lies in the scratch or in the bytes
abbrev pub LiesThere : ℕ → Option Write → Type 0
LiesThere n None = Unit {0}
LiesThere n (Some w) = (0 < length w.bytes) × (lies_in n (record { base = w.at; len = length w.bytes }) ≡ true)

module _ (bytes scratch : List ℕ) (placed : length bytes ≤ 0xFFFD0000) (whole : length scratch ≡ 65536) where
  module _ (writable : Bool) (operands : List Operand) (text : ℕ) (code : List ℕ) where
    -- the sight of the same bytes
    same_sight : (new put : List ℕ) → new ≡ bytes → put ≡ scratch
        → IsAfter (task_sight bytes writable scratch operands text code) None
        (task_sight new writable put operands text code)
    same_sight new put e d = record {
      actor = ap (λ (b : List ℕ). TaskActor (plain_ranges (length b) writable) operands) e;
      bytes = λ a. λ j. task_byte (e j) (d j) a;
      words = λ pc. refl;
    }

    -- a task sees both blocks after a write
    pub IsAfter-task_sight : (new put : List ℕ) (w : Option Write) → new ≡ task_bytes_after bytes w
        → put ≡ scratch_after scratch w → LiesThere (length bytes) w
        → IsAfter (task_sight bytes writable scratch operands text code) w
        (task_sight new writable put operands text code)
    IsAfter-task_sight new put None e d there = same_sight new put e d
    IsAfter-task_sight new put (Some w) e d there =
        let n : ℕ = length bytes in
        elim (cases_lt w.at 0xFFFD0000) [
          | inl below ↦
              let to = in_bytes n w.at (length w.bytes) placed there.0 there.1 below in
              let new_is : new ≡ list_put bytes w.at w.bytes = e ∙ cond-false _ _ _ (covers_below w.at below) in
              let put_is : put ≡ scratch = d ∙ cond-false _ _ _ (covers_below w.at below) in
              record {
                actor = ap (λ (k : ℕ). TaskActor (plain_ranges k writable) operands)
                    (ap length new_is ∙ length-list_put w.bytes bytes w.at);
                bytes = λ a. (λ j. task_byte (new_is j) (put_is j) a) ∙ in_bytes_after bytes scratch w placed to a;
                words = λ pc. refl;
              }
          | inr from ↦
              let to = in_scratch n w.at (length w.bytes) placed there.0 there.1 from in
              let covered = covers_from w.at (length w.bytes) from to there.0 in
              let i : ℕ = w.at - 0xFFFD0000 in
              let at : w.at ≡ 0xFFFD0000 + i = omega arith in
              let fits : i + length w.bytes ≤ 65536 = omega arith in
              let new_is : new ≡ bytes = e ∙ cond-true _ _ _ covered in
              let put_is : put ≡ list_put scratch i w.bytes = d ∙ cond-true _ _ _ covered in
              record {
                actor = ap (λ (b : List ℕ). TaskActor (plain_ranges (length b) writable) operands) new_is;
                bytes = λ a. (λ j. task_byte (new_is j) (put_is j) a)
                    ∙ in_scratch_after bytes scratch w placed i at fits whole a;
                words = λ pc. refl;
              }
        ]

-- so many low bytes
length-bytes_low_first : (i n value : ℕ) → length (bytes_low_first i n value) ≡ n
length-bytes_low_first i zero value = refl
length-bytes_low_first i (suc n) value = ap suc (length-bytes_low_first (suc i) n value)

-- what a store writes lies where the access does
lies_on : (a : Access) (n at width value : ℕ) → is_width width ≡ true →
    lies_in n (record { base = at; len = width }) ≡ true
    → LiesThere n (write_on a (record { at = at; bytes = low_bytes width value }))
lies_on Granted n at width value is_one there =
    let len = length-bytes_low_first 0 width value in
    let some : 0 < length (low_bytes width value) = omega (arith, len, width_some width is_one) in
    (some, ap (λ (k : ℕ). lies_in n (record { base = at; len = k })) len ∙ there)
lies_on Denied n at width value is_one there = tt
lies_on Touch n at width value is_one there = tt

pub LiesThere-stored : (s : Sight) (n at width value : ℕ) → is_width width ≡ true
    → lies_in n (record { base = at; len = width }) ≡ true → LiesThere n (stored s at width value)
LiesThere-stored s n at width value is_one there =
    lies_on (access_at s Stores at width) n at width value is_one there
