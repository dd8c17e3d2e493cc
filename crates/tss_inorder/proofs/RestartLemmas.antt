-- A flat machine that is restarted at a barrier of program order follows it from there on.
use Rattle.std.proofs.Common.{◌≡◌, ℕ, suc, ◌+◌, ◌<◌, ◌≤◌, ◌⊎◌, inl, inr, Bool, true, false, cond, nat_le, List, [], ◌∷◌, length, get_or, drop, Option, Some, None, refl, sym, ap, subst, ◌∙◌, arith}
use Rattle.std.specs.Prelude.{◌==◌, fold, slice_get, option_map}
use Rattle.std.proofs.Math.Seq.{drop-cons}
use Rattle.std.proofs.lemmas.Bool.{leb-false, cond-true, cond-false, ne_eqb}
use Rattle.std.proofs.lemmas.List.{append-nil}
use Rattle.std.proofs.lemmas.List.FromFn.{length-map-range_with_len}
use Rattle.std.proofs.lemmas.Option.{get_or_from_slice_get, slice_get_cases, slice_get_within, same_Some}
use Rattle.tss_base.specs.declared.addresses.TheConstants.{END_PC}
use Rattle.tss_base.specs.declared.range.Range.{Range}
use Rattle.tss_base.specs.Range.{end_of, contains}
use Rattle.tss_maps.proofs.Places.{find_first}
use Rattle.tss_base.specs.declared.machine.Limits.{Limits}
use Rattle.tss_base.specs.Image.{SegmentState, ImageState}
use Rattle.tss_isa.specs.declared.instr.Instr.{Instr}
use Rattle.tss_isa.specs.declared.instr.Instr.TheVariants.{Lui, Auipc, Jal, Jalr, Branch, Load, Store, OpImm, Op, Fence, Ecall, Ebreak}
use Rattle.tss_isa.specs.InstrTable.{instr_of}
use Rattle.tss_model.specs.Access.{Actor, MainActor}
use Rattle.tss_base.specs.declared.ending.Ending.{Ending}
use Rattle.tss_model.specs.Memory.{MemoryRange, Memory, byte_at, bytes_of, put_bytes, range_of, code_word, frozen, memory_ranges}
use Rattle.tss_model.specs.Registers.{Registers, register_at, onward}
use Rattle.tss_model.specs.Core.{core_step}
use Rattle.tss_model.specs.TaskRun.{repeated}
use Rattle.tss_model.specs.MainStep.{Piece, Flat, Call, Barrier, called_by, main_start, next_call, output_of}
use Rattle.tss_model.specs.InOrder.{flat_start, flat_step, flat_stepped}
use Rattle.tss_memory.specs.Ranges.{AreRanges}
use Rattle.tss_memory.proofs.RangeLemmas.{contains_from, contains_not_end}
use Rattle.tss_program_order.proofs.FlatOrder.{flat_stepped-ranges}
use Rattle.tss_program_order.proofs.FlatSteps.{repeated-add, flat_step-call, next_call-spent}
use Rattle.tss_steps.specs.Restarts.{one_piece}
use Rattle.tss_steps.proofs.CallLemmas.{called-ended, called-unfetched, called-illegal, called-ecall, called-other}
use Rattle.tss_inorder.specs.Flats.{FlatState}
use Rattle.tss_inorder.specs.Order.{Follows}
use Rattle.tss_inorder.specs.Restarts.{with_range, restarted, IsAtBarrier, StandsAtBarrier}

-- ---- whether a step is a call, the registers and the code say alone

ecall_or_not : (i : Instr) → (i ≡ Ecall) ⊎ (i ≡ Ecall → ⊥)
ecall_or_not (Lui rd imm) = inr (λ e. cc)
ecall_or_not (Auipc rd imm) = inr (λ e. cc)
ecall_or_not (Jal rd offset) = inr (λ e. cc)
ecall_or_not (Jalr rd rs1 offset) = inr (λ e. cc)
ecall_or_not (Branch test rs1 rs2 offset) = inr (λ e. cc)
ecall_or_not (Load kind rd rs1 offset) = inr (λ e. cc)
ecall_or_not (Store kind rs2 rs1 offset) = inr (λ e. cc)
ecall_or_not (OpImm op rd rs1 imm) = inr (λ e. cc)
ecall_or_not (Op op rd rs1 rs2) = inr (λ e. cc)
ecall_or_not (Fence rd rs1 bits) = inr (λ e. cc)
ecall_or_not Ecall = inl refl
ecall_or_not Ebreak = inr (λ e. cc)

called-alike : (a b : Actor) (f g : ℕ → ℕ) (word : ℕ → Option ℕ) (r : Registers)
    → called_by r (core_step a f word r) ≡ called_by r (core_step b g word r)
called-alike a b f g word r = by_pc (r.pc == END_PC) refl
  where
    by_instr : (r.pc == END_PC) ≡ false → (w : ℕ) → Some w ≡ word r.pc → (o : Option Instr) → o ≡ instr_of w
        → called_by r (core_step a f word r) ≡ called_by r (core_step b g word r)
    by_instr on w e None is = sym (called-illegal a f word r on w e is) ∙ called-illegal b g word r on w e is
    by_instr on w e (Some i) is =
        elim (ecall_or_not i) [
          | inl same ↦
              let call = ap Some (sym same) ∙ is in
              sym (called-ecall a f word r on w e call (register_at r 17) refl) ∙ called-ecall b g word r on w e call (register_at r 17) refl
          | inr other ↦ sym (called-other a f word r on w e i is other) ∙ called-other b g word r on w e i is other
        ]

    by_word : (r.pc == END_PC) ≡ false → (w : Option ℕ) → w ≡ word r.pc
        → called_by r (core_step a f word r) ≡ called_by r (core_step b g word r)
    by_word on None e = sym (called-unfetched a f word r on e) ∙ called-unfetched b g word r on e
    by_word on (Some w) e = by_instr on w e (instr_of w) refl

    by_pc : (x : Bool) → (r.pc == END_PC) ≡ x → called_by r (core_step a f word r) ≡ called_by r (core_step b g word r)
    by_pc true e = sym (called-ended a f word r e) ∙ called-ended b g word r e
    by_pc false on = by_word on (word r.pc) refl

-- ---- program order goes on after the barrier

output_of-one_piece : (before : ℕ) (output : List ℕ) → output_of (one_piece before output) ≡ output
output_of-one_piece before [] = refl
output_of-one_piece before (b ∷ bs) =
    ap output_of (cond-false (length (b ∷ bs) == 0) [] (record { before = before; bytes = b ∷ bs } ∷ []) (ne_eqb (length (b ∷ bs)) 0 (λ e. omega (arith, e))))
    ∙ append-nil (b ∷ bs)

module _ (i : ImageState) (s : FlatState) (r : Registers) (spawned : ℕ) (output : List ℕ) (memory : Memory) where
  abbrev at_barrier : List Range → List Piece → Flat
  at_barrier epoch pieces = record {
    main = record { registers = r; spawned = spawned; epoch = epoch; pieces = pieces; ending = None };
    memory = memory;
  }

  next_call-alike : (epoch : List Range) (pieces : List Piece) → IsAtBarrier s.code s.limits r memory
      → next_call s.code s.limits (at_barrier epoch pieces) ≡ Some Barrier
  next_call-alike epoch pieces barrier =
      ap (λ (o : Option Call). cond (nat_le s.limits.main_budget r.done) None o)
      (called-alike (MainActor memory.ranges epoch) (MainActor memory.ranges []) (byte_at memory) (byte_at memory) (code_word s.code) r)
      ∙ barrier

  pub follows-restarted : StandsAtBarrier i s r spawned output memory → IsAtBarrier s.code s.limits r memory
      → Follows i (restarted s r spawned output memory)
  unfolding repeated
  follows-restarted stands barrier =
      let there = at_barrier stands.epoch stands.pieces in
      let once : repeated (flat_step (frozen i) s.limits) 1 (flat_stepped i s.limits stands.steps) ≡ flat_step (frozen i) s.limits (flat_stepped i s.limits stands.steps) = refl in
      record {
        code = stands.code;
        steps = stands.steps + 1;
        pieces = stands.pieces;
        output = stands.printed ∙ sym (output_of-one_piece spawned output);
        reached =
            repeated-add (flat_step (frozen i) s.limits) stands.steps 1 (flat_start i)
            ∙ once
            ∙ (λ j. flat_step (sym stands.code j) s.limits (stands.there j))
            ∙ flat_step-call s.code s.limits there Barrier (next_call-alike stands.epoch stands.pieces barrier)
            ∙ ap (λ (m : Memory). record {
              main = record { registers = onward r; spawned = spawned; epoch = []; pieces = stands.pieces; ending = None };
              memory = m;
            }) (sym stands.rest);
      }

-- main that is at a call has budget left
pub left_at-barrier : (code : List SegmentState) (limits : Limits) (r : Registers) (memory : Memory) → IsAtBarrier code limits r memory
    → r.done < limits.main_budget
left_at-barrier code limits r memory barrier = by (nat_le limits.main_budget r.done) refl
  where
    none_some : {c : Call} → None ≡ Some c → ⊥
    none_some h = cc

    at : Flat
    at = record { main = record (main_start r.pc) { registers = r }; memory = memory }

    by : (b : Bool) → nat_le limits.main_budget r.done ≡ b → r.done < limits.main_budget
    by true spent = absurd (none_some (sym (next_call-spent code limits at spent) ∙ barrier))
    by false left = leb-false limits.main_budget r.done left

-- ---- the ranges, one after another

-- what is told of the range of memory at a place
abbrev pub told : MemoryRange → Range × Bool
told m = (m.range, m.writable)

-- the range at a place, where there is one
pub range_there : (o : Option MemoryRange) (r : Range) (w : Bool) → ◌≡◌ {A = Option (Range × Bool)} (Some (r, w)) (option_map told o)
    → o ≡ Some (record { range = r; writable = w })
range_there None r w e = absurd (cc)
range_there (Some m) r w e =
    let same : told m ≡ (r, w) = sym (same_Some (r, w) (told m) e) in
    λ j. Some (record { range = (same j).0; writable = (same j).1 })

-- and past the last
pub range_past : (ranges : List MemoryRange) (i : ℕ) → ◌≡◌ {A = Option (Range × Bool)} None (option_map told (slice_get ranges i)) → length ranges ≤ i
range_past ranges i e =
    elim (slice_get_cases ranges i).1 [
      | inl there ↦ absurd (none_some (told there.0) (e ∙ ap (option_map told) there.2))
      | inr past ↦ past.0
    ]
  where
    none_some : (x : Range × Bool) → ◌≡◌ {A = Option (Range × Bool)} None (Some x) → ⊥
    none_some x h = cc

-- it is the one in which it lies
pub range_found : (ranges : List MemoryRange) → AreRanges ranges → (i : ℕ) (m : MemoryRange) → slice_get ranges i ≡ Some m → 0 < m.range.len
    → range_of ranges m.range ≡ Some m.writable
range_found ranges are i m e some =
    ap (option_map (λ (x : MemoryRange). x.writable))
    (find_first (λ x. contains x.range m.range) ranges i
    (λ j x h there. contains_not_end x.range m.range (before j x h there))
    (λ x there. subst (λ (y : MemoryRange). contains y.range m.range ≡ true) (sym (same x there)) (contains_from m.range m.range (omega arith) (omega arith)))
    ∙ e)
  where
    same : (x : MemoryRange) → slice_get ranges i ≡ Some x → x ≡ m
    same x there = same_Some x m (sym there ∙ e)

    before : (j : ℕ) (x : MemoryRange) → j < i → slice_get ranges j ≡ Some x → end_of x.range < end_of m.range
    before j x h there =
        let both : end_of (get_or ranges j x).range ≤ (get_or ranges i x).range.base = are.ordered j i x h (slice_get_within ranges i m e) in
        let left : end_of x.range ≤ (get_or ranges i x).range.base =
        subst (λ (y : MemoryRange). end_of y.range ≤ (get_or ranges i x).range.base) (get_or_from_slice_get ranges j x x there) both in
        let right : end_of x.range ≤ m.range.base =
        subst (λ (y : MemoryRange). end_of x.range ≤ y.range.base) (get_or_from_slice_get ranges i m x e) left in
        omega (arith, right, some)

-- a range has as many bytes as it says
pub length-bytes_of : (m : Memory) (r : Range) → length (bytes_of m r) ≡ r.len
length-bytes_of m r = length-map-range_with_len (byte_at m) r.base r.len

pub copied_next : (from m : Memory) (ranges : List MemoryRange) (i : ℕ) (r : MemoryRange) → slice_get ranges i ≡ Some r
    → fold (with_range from) m (drop i ranges) ≡ fold (with_range from) (with_range from m r) (drop (i + 1) ranges)
copied_next from m ranges i r e =
    let next : suc i ≡ i + 1 = omega arith in
    ap (fold (with_range from) m) (drop-cons ranges i r (slice_get_within ranges i r e))
    ∙ ap (λ (x : MemoryRange). fold (with_range from) (with_range from m x) (drop (suc i) ranges)) (get_or_from_slice_get ranges i r r e)
    ∙ ap (λ (n : ℕ). fold (with_range from) (with_range from m r) (drop n ranges)) next

-- a range that can be written gets the bytes, and another keeps its own
pub with_range-written : (from m : Memory) (r : Range) (w : Bool) → w ≡ true
    → put_bytes m r.base (bytes_of from r) ≡ with_range from m (record { range = r; writable = w })
with_range-written from m r w e = sym (cond-true _ _ _ e)

pub with_range-kept : (from m : Memory) (r : Range) (w : Bool) → w ≡ false → m ≡ with_range from m (record { range = r; writable = w })
with_range-kept from m r w e = sym (cond-false _ _ _ e)

pub with_range-ranges : (from m : Memory) (r : Range) (w : Bool) → (with_range from m (record { range = r; writable = w })).ranges ≡ m.ranges
with_range-ranges from m r true = refl
with_range-ranges from m r false = refl

-- ---- machines of one image

-- main whose next step is a barrier call is at a barrier, whatever it has named, spawned and printed
pub at_barrier-next : (code : List SegmentState) (limits : Limits) (f : Flat) → next_call code limits f ≡ Some Barrier
    → IsAtBarrier code limits f.main.registers f.memory
at_barrier-next code limits f = by f.main.ending
  where
    none_some : {c : Call} → None ≡ Some c → ⊥
    none_some h = cc

    by : (e : Option Ending) → next_call code limits (record f { main = record f.main { ending = e } }) ≡ Some Barrier
        → IsAtBarrier code limits f.main.registers f.memory
    by (Some e) h = absurd (none_some h)
    by None h =
        ap (λ (o : Option Call). cond (nat_le limits.main_budget f.main.registers.done) None o)
        (called-alike (MainActor f.memory.ranges []) (MainActor f.memory.ranges f.main.epoch) (byte_at f.memory) (byte_at f.memory)
        (code_word code) f.main.registers)
        ∙ h

-- a machine that follows program order has the ranges of the image
pub follows-ranges : (i : ImageState) (s : FlatState) → Follows i s → s.memory.ranges ≡ memory_ranges i
follows-ranges i s follows =
    sym (ap (λ (f : Flat). f.memory.ranges) follows.reached) ∙ flat_stepped-ranges i s.limits follows.steps
