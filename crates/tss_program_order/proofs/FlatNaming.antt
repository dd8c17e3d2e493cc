-- What stands in a named object changes, in program order, only by the tasks that write it: it stays as long as the
-- object is named without a break and nothing writes it.
use Rattle.std.proofs.Common.{◌≡◌, ℕ, zero, suc, ◌+◌, ◌<◌, ◌≤◌, Bool, true, false, Option, Some, None, List, [], ◌∷◌}
use Rattle.std.proofs.Common.{refl, sym, ap, ◌∙◌, arith, nat_le, nat_lt}
use Rattle.std.specs.Prelude.{◌&&◌, unwrap_or}
use Rattle.std.specs.List.{list_any}
use Rattle.std.specs.FinMap.{get}
use Rattle.std.proofs.lemmas.Bool.{and_parts, and_from, or_parts, or_from, both_ways, false_from_ne_true, or_left}
use Rattle.std.proofs.lemmas.Bool.{or_right, le-leb, lt-ltb}
use Rattle.tss_base.specs.declared.range.Range.{Range}
use Rattle.tss_base.specs.declared.operand.Operand.{Operand}
use Rattle.tss_base.specs.declared.operand.Task.{Task}
use Rattle.tss_base.specs.declared.machine.Limits.{Limits}
use Rattle.tss_base.specs.Range.{end_of}
use Rattle.tss_base.specs.Image.{SegmentState, ImageState}
use Rattle.tss_model.specs.Memory.{Memory, covers, frozen, byte_at, bytes_of}
use Rattle.tss_model.specs.Access.{Loads, touches, writes, operands_of}
use Rattle.tss_model.specs.Spawn.{same_range, objects_of}
use Rattle.tss_model.specs.MainStep.{MainState, Flat, Call, next_call, main_call}
use Rattle.tss_model.specs.InOrder.{Started, flat_step, flat_stepped, call_ran, started_at, task_called, end_of_started}
use Rattle.tss_program_order.specs.MainInOrder.{MayLoad}
use Rattle.tss_program_order.proofs.FlatLoads.{byte_range, main_granted, same_bytes}
use Rattle.tss_program_order.proofs.FlatSteps.{flat_step-main, flat_step-call}
use Rattle.tss_program_order.proofs.FlatMain.{NeverStored, unloaded_unstored, main_step-leaves}
use Rattle.tss_program_order.proofs.FlatTask.{is_written, task_end-changes}
use Rattle.tss_program_order.proofs.FlatOrder.{flat_stepped-next}
use Rattle.tss_program_order.proofs.FlatStarts.{task_started, started_at-step, started-ran, started-names}
use Rattle.tss_program_order.proofs.FlatEpoch.{flat_stepped-apart}
use Rattle.tss_program_order.proofs.FlatNames.{Has, AreApart, covers-meet, covers-touch, same_range-refl}

-- ---- one step

-- main may not load what it has named
pub named_not_loaded : (f : Flat) (a : ℕ) → touches f.main.epoch (byte_range a) ≡ true
    → MayLoad f.memory.ranges f.main.epoch a → ⊥
named_not_loaded f a touched may =
    both_ways (touches f.main.epoch (byte_range a))
    (main_granted f.memory.ranges f.main.epoch Loads (byte_range a) may).1 touched

module _ (code : List SegmentState) (limits : Limits) (f : Flat) (a : ℕ)
    (unstored : NeverStored f.memory.ranges f.main.epoch a) where
  call_ran-byte : (p : MainState × Option Task) → ((t : Task) → p.1 ≡ Some t → is_written (operands_of t) a ≡ false)
      → get (call_ran code limits f.memory p).memory.bytes a ≡ get f.memory.bytes a
  call_ran-byte (main, None) unwritten = refl
  call_ran-byte (main, Some t) unwritten = (task_end-changes code limits f.memory t).bytes a (unwritten t refl)

  -- a step in program order changes a byte that main may not store only where the task that it starts writes it
  pub flat_step-byte : ((t : Task) → task_called limits f (next_call code limits f) ≡ Some t
      → is_written (operands_of t) a ≡ false) → get (flat_step code limits f).memory.bytes a ≡ get f.memory.bytes a
  flat_step-byte unwritten = by (next_call code limits f) refl
    where
      by : (c : Option Call) → next_call code limits f ≡ c
          → get (flat_step code limits f).memory.bytes a ≡ get f.memory.bytes a
      by None e =
          ap (λ (x : Flat). get x.memory.bytes a) (flat_step-main code limits f e)
          ∙ (main_step-leaves code limits f).bytes a unstored
      by (Some c) e =
          ap (λ (x : Flat). get x.memory.bytes a) (flat_step-call code limits f c e)
          ∙ call_ran-byte (main_call limits f.memory f.main c)
          (λ t is. unwritten t (ap (task_called limits f) e ∙ is))

-- so it is for a byte of a named object
flat_step-named : (code : List SegmentState) (limits : Limits) (f : Flat) (a : ℕ)
    → touches f.main.epoch (byte_range a) ≡ true
    → ((t : Task) → task_called limits f (next_call code limits f) ≡ Some t → is_written (operands_of t) a ≡ false)
    → get (flat_step code limits f).memory.bytes a ≡ get f.memory.bytes a
flat_step-named code limits f a touched unwritten =
    flat_step-byte code limits f a
    (unloaded_unstored f.memory.ranges f.main.epoch a (named_not_loaded f a touched)) unwritten

-- ---- steps in a row

-- through n steps from j on an address lies in a named object, and no task that is started writes it
record StaysNamed (i : ImageState) (limits : Limits) (a j n : ℕ) : Type 0 where
  pub named : (k : ℕ) → k < n → touches (flat_stepped i limits (j + k)).main.epoch (byte_range a) ≡ true
  pub unwritten : (k : ℕ) (t : Task) → k < n → task_started i limits (j + k) ≡ Some t
      → is_written (operands_of t) a ≡ false

-- then its byte stays
named_stays : (i : ImageState) (limits : Limits) (a j n : ℕ) → StaysNamed i limits a j n
    → get (flat_stepped i limits (j + n)).memory.bytes a ≡ get (flat_stepped i limits j).memory.bytes a
named_stays i limits a j zero stays = ap (λ (k : ℕ). get (flat_stepped i limits k).memory.bytes a) none
  where
    none : j + zero ≡ j
    none = omega arith
named_stays i limits a j (suc n) stays =
    ap (λ (k : ℕ). get (flat_stepped i limits k).memory.bytes a) more
    ∙ ap (λ (f : Flat). get f.memory.bytes a) (flat_stepped-next i limits (j + n))
    ∙ flat_step-named (frozen i) limits (flat_stepped i limits (j + n)) a (stays.named n (omega arith))
    (λ t is. stays.unwritten n t (omega arith) is)
    ∙ named_stays i limits a j n (record {
      named = λ k h. stays.named k (omega arith);
      unwritten = λ k t h is. stays.unwritten k t (omega arith) is;
    })
  where
    more : j + suc n ≡ suc (j + n)
    more = omega arith

-- ---- by objects

-- a task has an operand on the object that writes it
abbrev pub writes_object : List Operand → Range → Bool
writes_object operands x = list_any (λ o. writes o.mode && same_range o.object x) operands

-- of objects that are apart, one that no operand writes has no byte that is written
unwritten_object : (named : List Range) (operands : List Operand) (x : Range) (a : ℕ) → AreApart named
    → ((o : Range) → Has (objects_of operands) o → Has named o) → Has named x → covers x a ≡ true
    → writes_object operands x ≡ false → is_written operands a ≡ false
unwritten_object named [] x a apart among has inside none = refl
unwritten_object named (o ∷ operands) x a apart among has inside none =
    let parts = or_parts (writes o.mode && same_range o.object x) (writes_object operands x) none in
    or_from (writes o.mode && covers o.object a) (is_written operands a)
    (false_from_ne_true (writes o.mode && covers o.object a) (λ written.
    let both = and_parts (writes o.mode) (covers o.object a) written in
    let here = apart o.object x (among o.object (or_left _ _ (same_range-refl o.object))) has
    (covers-meet o.object x a both.1 inside) in
    both_ways (writes o.mode && same_range o.object x) parts.0
    (and_from (writes o.mode) (same_range o.object x) both.0
    (ap (λ y. same_range o.object y) (sym here) ∙ same_range-refl o.object))))
    (unwritten_object named operands x a apart (λ y later. among y (or_right _ _ later)) has inside parts.1)

-- ---- unbroken naming

-- an object is named from step j on through n steps, and no task that they start writes it
pub record IsUnbroken (i : ImageState) (limits : Limits) (x : Range) (j n : ℕ) : Type 0 where
  pub named : (k : ℕ) → k ≤ n → Has (flat_stepped i limits (j + k)).main.epoch x
  pub unwritten : (k : ℕ) (s : Started) → k < n → started_at i limits (j + k) ≡ Some s
      → writes_object (operands_of s.task) x ≡ false

module _ (i : ImageState) (limits : Limits) (x : Range) (j n : ℕ) (unbroken : IsUnbroken i limits x j n) where
  stays_named : (a : ℕ) → covers x a ≡ true → StaysNamed i limits a j n
  stays_named a inside = record {
    named = λ k h.
        covers-touch (flat_stepped i limits (j + k)).main.epoch x a (unbroken.named k (omega arith)) inside;
    unwritten = λ k t h is.
        let start = started_at-step i limits (j + k) t is in
        let later : j + suc k ≡ suc (j + k) = omega arith in
        unwritten_object (flat_stepped i limits (suc (j + k))).main.epoch (operands_of t) x a
        (flat_stepped-apart i limits (suc (j + k)))
        (λ o has. started-names i limits (j + k)
        (record { task = t; memory = (flat_stepped i limits (j + k)).memory }) start o has)
        (ap (λ (l : ℕ). list_any (same_range x) (flat_stepped i limits l).main.epoch) (sym later)
        ∙ unbroken.named (suc k) (omega arith))
        inside (unbroken.unwritten k (record { task = t; memory = (flat_stepped i limits (j + k)).memory }) h start);
  }

  -- then its bytes stay
  unbroken_byte : (a : ℕ) → covers x a ≡ true
      → get (flat_stepped i limits (j + n)).memory.bytes a ≡ get (flat_stepped i limits j).memory.bytes a
  unbroken_byte a inside = named_stays i limits a j n (stays_named a inside)

  -- and so do all of them
  unbroken_bytes : bytes_of (flat_stepped i limits (j + n)).memory x ≡ bytes_of (flat_stepped i limits j).memory x
  unbroken_bytes =
      same_bytes (byte_at (flat_stepped i limits (j + n)).memory) (byte_at (flat_stepped i limits j).memory)
      x.base x.len
      (λ a low high. ap (λ o. unwrap_or o 0) (unbroken_byte a
      (and_from (nat_le x.base a) (nat_lt a (end_of x)) (le-leb x.base a low) (lt-ltb a (end_of x) high))))

-- what a task leaves in an object stands there as long as the object is named without a break and nothing writes it
pub left_stays : (i : ImageState) (limits : Limits) (x : Range) (k n : ℕ) (s : Started) → started_at i limits k ≡ Some s
    → IsUnbroken i limits x (suc k) n
    → bytes_of (flat_stepped i limits (suc k + n)).memory x ≡ bytes_of (end_of_started i limits s).memory x
left_stays i limits x k n s start unbroken =
    unbroken_bytes i limits x (suc k) n unbroken ∙ ap (λ (m : Memory). bytes_of m x) (started-ran i limits k s start)

-- a task leaves an object that it doesn't write as it finds it
pub unwritten_left : (i : ImageState) (limits : Limits) (x : Range) (k : ℕ) (s : Started)
    → started_at i limits k ≡ Some s → Has (objects_of (operands_of s.task)) x
    → writes_object (operands_of s.task) x ≡ false
    → bytes_of (end_of_started i limits s).memory x ≡ bytes_of s.memory x
unwritten_left i limits x k s start has none =
    same_bytes (byte_at (end_of_started i limits s).memory) (byte_at s.memory) x.base x.len
    (λ a low high. ap (λ o. unwrap_or o 0) ((task_end-changes (frozen i) limits s.memory s.task).bytes a
    (unwritten_object (flat_stepped i limits (suc k)).main.epoch (operands_of s.task) x a
    (flat_stepped-apart i limits (suc k)) (λ o also. started-names i limits k s start o also)
    (started-names i limits k s start x has)
    (and_from (nat_le x.base a) (nat_lt a (end_of x)) (le-leb x.base a low) (lt-ltb a (end_of x) high)) none)))
