-- What main and a task read, and what they see after a write.
use Rattle.std.proofs.Common.{◌≡◌, ℕ, zero, suc, ◌+◌, ◌-◌, ◌<◌, ◌≤◌, ◌⊎◌, inl, inr, Bool, true, false, List, length, nat_le, nat_lt, Option, Some, Ok, refl, sym, ap, subst, ◌∙◌, arith}
use Rattle.std.specs.Prelude.{◌&&◌, ◌||◌, cond, slice_index, IsTrue}
use Rattle.std.specs.List.{list_any}
use Rattle.std.specs.Int.{bytes_low_first}
use Rattle.std.proofs.lemmas.Bool.{and_parts, and_from, both_ways, cases_Bool, cond-true, cond-false, le-leb, lt-ltb, leb-true}
use Rattle.tss_base.specs.declared.range.Range.{Range}
use Rattle.tss_base.specs.declared.operand.Operand.{Operand}
use Rattle.tss_base.specs.Range.{end_of, contains}
use Rattle.tss_base.specs.Image.{SegmentState}
use Rattle.tss_model.specs.Memory.{MemoryRange, Memory, range_of, scratch_range, covers, put_bytes, list_put, number_at}
use Rattle.tss_model.specs.Access.{Actor, TaskActor, Purpose, Loads, Stores, Access, Granted, Denied, main_access, task_access, access_of, writes, is_fixed}
use Rattle.tss_model.specs.Core.{Write, low_bytes}
use Rattle.tss_core.specs.Views.{IsAfter, is_width, byte_after, access_at, answer_on, load_answer, write_on, stored}
use Rattle.tss_steps.specs.Tasks.{IsLeft}
use Rattle.tss_steps.specs.Seen.{Terms, main_sight, task_sees, task_sight, scratch_after, beyond_after}
use Rattle.tss_steps.proofs.ByteLemmas.{place_of, byte_after-inside, byte_after-outside, list_put-inside, list_put-outside, put_bytes-byte, number_at-same}
use Rattle.tss_steps.proofs.PlaceLemmas.{contains_parts}

-- the range of an access
abbrev pub access_range : ℕ → ℕ → Range
access_range at width = record { base = at; len = width }

abbrev pub write_at : ℕ → ℕ → ℕ → Write
write_at at width value = record { at = at; bytes = low_bytes width value }

pub width_some : (n : ℕ) → IsTrue (is_width n) → 0 < n
width_some zero h = absurd (cc)
width_some (suc n) h = omega arith

length-bytes_low_first : (i n x : ℕ) → length (bytes_low_first i n x) ≡ n
length-bytes_low_first i zero x = refl
length-bytes_low_first i (suc n) x = ap suc (length-bytes_low_first (suc i) n x)

-- ---- main

-- what main sees after a store that is granted
pub main_after : (code : List SegmentState) (objects : List Range) (m n : Memory) (at width value : ℕ)
    → main_access m.ranges objects Stores (access_range at width) ≡ Granted → n ≡ put_bytes m at (low_bytes width value)
    → IsAfter (main_sight code objects m) (stored (main_sight code objects m) at width value) (main_sight code objects n)
main_after code objects m n at width value granted e =
    subst (λ (o : Option Write). IsAfter (main_sight code objects m) o (main_sight code objects n))
    (sym (ap (λ (a : Access). write_on a (write_at at width value)) granted))
    (subst (λ (k : Memory). IsAfter (main_sight code objects m) (Some (write_at at width value)) (main_sight code objects k)) (sym e)
    (record { actor = refl; bytes = put_bytes-byte m at (low_bytes width value); words = λ pc. refl }))

-- ---- a task: what it reads

-- an address of its scratch, and another
sees-scratch : (scratch : List ℕ) (byte : ℕ → ℕ) (a : ℕ) → covers scratch_range a ≡ true → task_sees scratch byte a ≡ slice_index scratch (a - scratch_range.base)
sees-scratch scratch byte a c = cond-true (covers scratch_range a) (slice_index scratch (a - scratch_range.base)) (byte a) c

pub sees-beyond : (scratch : List ℕ) (byte : ℕ → ℕ) (a : ℕ) → covers scratch_range a ≡ false → task_sees scratch byte a ≡ byte a
sees-beyond scratch byte a c = cond-false (covers scratch_range a) (slice_index scratch (a - scratch_range.base)) (byte a) c

-- an address of what lies inside the scratch
in_scratch : (at width a : ℕ) → contains scratch_range (access_range at width) ≡ true → at ≤ a → a < at + width → covers scratch_range a ≡ true
in_scratch at width a inside low high =
    let parts = contains_parts scratch_range (access_range at width) inside in
    and_from (nat_le scratch_range.base a) (nat_lt a (end_of scratch_range))
    (le-leb scratch_range.base a (omega arith)) (lt-ltb a (end_of scratch_range) (omega arith))

pub scratch_number : (scratch : List ℕ) (byte : ℕ → ℕ) (at width : ℕ) → contains scratch_range (access_range at width) ≡ true
    → number_at (slice_index scratch) (at - scratch_range.base) width ≡ number_at (task_sees scratch byte) at width
scratch_number scratch byte at width inside =
    let parts = contains_parts scratch_range (access_range at width) inside in
    number_at-same (slice_index scratch) (task_sees scratch byte) (at - scratch_range.base) at width (λ k h.
    let place : (at - scratch_range.base) + k ≡ (at + k) - scratch_range.base = omega arith in
    ap (slice_index scratch) place ∙ sym (sees-scratch scratch byte (at + k) (in_scratch at width (at + k) inside (omega arith) (omega arith))))

-- what lies beside the scratch is seen as it is
pub beyond_number : (scratch : List ℕ) (byte : ℕ → ℕ) (at width : ℕ) → ((a : ℕ) → at ≤ a → a < at + width → covers scratch_range a ≡ false)
    → number_at byte at width ≡ number_at (task_sees scratch byte) at width
beyond_number scratch byte at width beside =
    number_at-same byte (task_sees scratch byte) at at width (λ k h. sym (sees-beyond scratch byte (at + k) (beside (at + k) (omega arith) (omega arith))))

-- a task may access its scratch
scratch_granted : (p : Purpose) (ranges : List MemoryRange) (operands : List Operand) (r : Range) → contains scratch_range r ≡ true → task_access ranges operands p r ≡ Granted
scratch_granted Loads ranges operands r e =
    ap (λ (b : Bool). cond (b || (list_any (λ o. contains o.object r) operands || is_fixed (range_of ranges r))) Granted Denied) e
scratch_granted Stores ranges operands r e =
    ap (λ (b : Bool). cond (b || list_any (λ o. writes o.mode && contains o.object r) operands) Granted Denied) e

-- ---- a task over what its machine shows it

module _ {M : Type 0} (t : Terms M) (ranges : List MemoryRange) (operands : List Operand) (actor : t.actor ≡ TaskActor ranges operands)
    (scratch : List ℕ) (m : M) (at width : ℕ) where
  -- the answer to an access of it
  access_is : (p : Purpose) → access_at (task_sight t scratch m) p at width ≡ task_access ranges operands p (access_range at width)
  access_is p = ap (λ (a : Actor). access_of a p (access_range at width)) actor

  -- what a load in the scratch answers
  pub scratch_answer : (n : ℕ) → contains scratch_range (access_range at width) ≡ true
      → n ≡ number_at (slice_index scratch) (at - scratch_range.base) width → Ok n ≡ load_answer (task_sight t scratch m) at width
  scratch_answer n inside e =
      ap Ok (e ∙ scratch_number scratch (t.byte m) at width inside)
      ∙ sym (ap (λ (a : Access). answer_on a (number_at (task_sees scratch (t.byte m)) at width))
      (access_is Loads ∙ scratch_granted Loads ranges operands (access_range at width) inside))

  -- and one beside it
  pub beyond_answer : (n : ℕ) → ((a : ℕ) → at ≤ a → a < at + width → covers scratch_range a ≡ false)
      → task_access ranges operands Loads (access_range at width) ≡ Granted → n ≡ number_at (t.byte m) at width
      → Ok n ≡ load_answer (task_sight t scratch m) at width
  beyond_answer n beside granted e =
      ap Ok (e ∙ beyond_number scratch (t.byte m) at width beside)
      ∙ sym (ap (λ (a : Access). answer_on a (number_at (task_sees scratch (t.byte m)) at width)) (access_is Loads ∙ granted))

  -- what a granted store writes
  pub stored_some : (value : ℕ) → task_access ranges operands Stores (access_range at width) ≡ Granted
      → stored (task_sight t scratch m) at width value ≡ Some (write_at at width value)
  stored_some value granted = ap (λ (a : Access). write_on a (write_at at width value)) (access_is Stores ∙ granted)

-- ---- a task: what it sees after a store

-- the byte at each address after a write in the scratch
sees_put : (scratch : List ℕ) (byte : ℕ → ℕ) (at width value a : ℕ) → length scratch ≡ scratch_range.len → contains scratch_range (access_range at width) ≡ true
    → task_sees (list_put scratch (at - scratch_range.base) (low_bytes width value)) byte a ≡ byte_after (task_sees scratch byte) (Some (write_at at width value)) a
sees_put scratch byte at width value a long inside =
    let bs = low_bytes width value in
    let len : length bs ≡ width = length-bytes_low_first 0 width value in
    let parts = contains_parts scratch_range (access_range at width) inside in
    let put = list_put scratch (at - scratch_range.base) bs in
    elim (place_of at (length bs) a) [
      | inl within ↦
          sees-scratch put byte a (in_scratch at width a inside within.0 (omega arith))
          ∙ list_put-inside bs scratch (at - scratch_range.base) (a - scratch_range.base) (omega arith) (omega arith) (omega arith)
          ∙ ap (slice_index bs) (place a within.0 (omega arith))
          ∙ sym (byte_after-inside (task_sees scratch byte) at bs a within.0 within.1)
      | inr beyond ↦
          beside put a beyond (cases_Bool (covers scratch_range a)) parts.0
          ∙ sym (byte_after-outside (task_sees scratch byte) at bs a beyond)
    ]
  where
    place : (a : ℕ) → at ≤ a → scratch_range.base ≤ at → (a - scratch_range.base) - (at - scratch_range.base) ≡ a - at
    place a low base = omega arith

    beside : (put : List ℕ) (a : ℕ) → (a < at) ⊎ (at + length (low_bytes width value) ≤ a) → (covers scratch_range a ≡ true) ⊎ (covers scratch_range a ≡ false)
        → scratch_range.base ≤ at → task_sees (list_put scratch (at - scratch_range.base) (low_bytes width value)) byte a ≡ task_sees scratch byte a
    beside put a beyond (inl c) base =
        let first = leb-true scratch_range.base a (and_parts (nat_le scratch_range.base a) (nat_lt a (end_of scratch_range)) c).0 in
        sees-scratch _ byte a c
        ∙ list_put-outside (low_bytes width value) scratch (at - scratch_range.base) (a - scratch_range.base)
        (elim beyond [ inl low ↦ inl (omega arith) | inr high ↦ inr (omega arith) ])
        ∙ sym (sees-scratch scratch byte a c)
    beside put a beyond (inr c) base = sees-beyond _ byte a c ∙ sym (sees-beyond scratch byte a c)

-- and after one beside it, where what lies beyond has the bytes
sees_written : (scratch : List ℕ) (byte left : ℕ → ℕ) (at width value : ℕ) (a : ℕ) → ((b : ℕ) → at ≤ b → b < at + width → covers scratch_range b ≡ false)
    → ((b : ℕ) → left b ≡ byte_after byte (Some (write_at at width value)) b)
    → task_sees scratch left a ≡ byte_after (task_sees scratch byte) (Some (write_at at width value)) a
sees_written scratch byte left at width value a beside written =
    by (place_of at (length (low_bytes width value)) a) (cases_Bool (covers scratch_range a)) (length-bytes_low_first 0 width value)
  where
    by : ((at ≤ a) × (a < at + length (low_bytes width value))) ⊎ ((a < at) ⊎ (at + length (low_bytes width value) ≤ a))
        → (covers scratch_range a ≡ true) ⊎ (covers scratch_range a ≡ false) → length (low_bytes width value) ≡ width
        → task_sees scratch left a ≡ byte_after (task_sees scratch byte) (Some (write_at at width value)) a
    by (inl inside) (inl c) len = absurd (both_ways (covers scratch_range a) (beside a inside.0 (omega arith)) c)
    by (inl inside) (inr c) len =
        sees-beyond scratch left a c
        ∙ written a
        ∙ byte_after-inside byte at (low_bytes width value) a inside.0 inside.1
        ∙ sym (byte_after-inside (task_sees scratch byte) at (low_bytes width value) a inside.0 inside.1)
    by (inr outside) (inl c) len =
        sees-scratch scratch left a c
        ∙ sym (sees-scratch scratch byte a c)
        ∙ sym (byte_after-outside (task_sees scratch byte) at (low_bytes width value) a outside)
    by (inr outside) (inr c) len =
        sees-beyond scratch left a c
        ∙ written a
        ∙ byte_after-outside byte at (low_bytes width value) a outside
        ∙ sym (sees-beyond scratch byte a c)
        ∙ sym (byte_after-outside (task_sees scratch byte) at (low_bytes width value) a outside)

module _ {M : Type 0} (t u : Terms M) (ranges : List MemoryRange) (operands : List Operand) (actor : t.actor ≡ TaskActor ranges operands) (same : u ≡ t)
    (scratch : List ℕ) (m : M) (at width value : ℕ) where
  -- what a task sees after a store in its scratch
  pub scratch_stored : (after : List ℕ) → length scratch ≡ scratch_range.len → contains scratch_range (access_range at width) ≡ true
      → after ≡ list_put scratch (at - scratch_range.base) (low_bytes width value)
      → IsAfter (task_sight t scratch m) (stored (task_sight t scratch m) at width value) (task_sight u after m)
  scratch_stored after long inside e =
      subst (λ (o : Option Write). IsAfter (task_sight t scratch m) o (task_sight u after m))
      (sym (stored_some t ranges operands actor scratch m at width value (scratch_granted Stores ranges operands (access_range at width) inside)))
      (subst (λ (xs : List ℕ). IsAfter (task_sight t scratch m) (Some (write_at at width value)) (task_sight u xs m)) (sym e)
      (subst (λ (x : Terms M). IsAfter (task_sight t scratch m) (Some (write_at at width value)) (task_sight x (list_put scratch (at - scratch_range.base) (low_bytes width value)) m)) (sym same)
      (record { actor = refl; bytes = λ a. sees_put scratch (t.byte m) at width value a long inside; words = λ pc. refl })))

  -- which leaves what lies beyond it
  pub scratch_left : (after : List ℕ) → contains scratch_range (access_range at width) ≡ true → 0 < width
      → after ≡ list_put scratch (at - scratch_range.base) (low_bytes width value)
      → IsLeft t u scratch after m m (stored (task_sight t scratch m) at width value)
  scratch_left after inside some e =
      let there = in_scratch at width at inside (omega arith) (omega arith) in
      let wrote = stored_some t ranges operands actor scratch m at width value (scratch_granted Stores ranges operands (access_range at width) inside) in
      record {
        terms = same;
        scratch =
            e
            ∙ sym (ap (scratch_after scratch) wrote
            ∙ cond-true (covers scratch_range at) (list_put scratch (at - scratch_range.base) (low_bytes width value)) scratch there);
        beyond =
            sym (ap (beyond_after t.write m) wrote
            ∙ cond-true (covers scratch_range at) m (t.write m (write_at at width value)) there);
      }

  module _ (n : M) (beside : (a : ℕ) → at ≤ a → a < at + width → covers scratch_range a ≡ false) (granted : task_access ranges operands Stores (access_range at width) ≡ Granted)
      (e : n ≡ t.write m (write_at at width value)) where
    -- and after one beside it
    pub beyond_stored : ((a : ℕ) → t.byte (t.write m (write_at at width value)) a ≡ byte_after (t.byte m) (Some (write_at at width value)) a)
        → IsAfter (task_sight t scratch m) (stored (task_sight t scratch m) at width value) (task_sight u scratch n)
    beyond_stored written =
        subst (λ (o : Option Write). IsAfter (task_sight t scratch m) o (task_sight u scratch n))
        (sym (stored_some t ranges operands actor scratch m at width value granted))
        (subst (λ (k : M). IsAfter (task_sight t scratch m) (Some (write_at at width value)) (task_sight u scratch k)) (sym e)
        (subst (λ (x : Terms M). IsAfter (task_sight t scratch m) (Some (write_at at width value)) (task_sight x scratch (t.write m (write_at at width value)))) (sym same)
        (record {
          actor = refl;
          bytes = λ a. sees_written scratch (t.byte m) (t.byte (t.write m (write_at at width value))) at width value a beside written;
          words = λ pc. refl;
        })))

    -- which leaves the scratch
    pub beyond_left : 0 < width → IsLeft t u scratch scratch m n (stored (task_sight t scratch m) at width value)
    beyond_left some =
        let apart = beside at (omega arith) (omega arith) in
        let wrote = stored_some t ranges operands actor scratch m at width value granted in
        record {
          terms = same;
          scratch =
              sym (ap (scratch_after scratch) wrote
              ∙ cond-false (covers scratch_range at) (list_put scratch (at - scratch_range.base) (low_bytes width value)) scratch apart);
          beyond =
              e
              ∙ sym (ap (beyond_after t.write m) wrote
              ∙ cond-false (covers scratch_range at) m (t.write m (write_at at width value)) apart);
        }
