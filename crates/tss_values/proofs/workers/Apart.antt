-- The storages of the operands of a task that is queued or runs are apart, and what they show stays where each shows
-- the same.
use Rattle.std.proofs.Common.{◌≡◌, ◌≢◌, inl, inr, ℕ, zero, suc, true, false, List, [], ◌∷◌, length, Option, Some, None}
use Rattle.std.proofs.Common.{refl, sym, ap, ◌∙◌, subst, arith}
use Rattle.std.specs.Prelude.{slice_get}
use Rattle.std.specs.List.{list_any}
use Rattle.std.specs.FinMap.{get}
use Rattle.std.proofs.lemmas.Bool.{or_cases}
use Rattle.std.proofs.lemmas.Option.{none-some, same_Some}
use Rattle.tss_base.specs.declared.range.Range.{Range}
use Rattle.tss_base.specs.declared.operand.OpName.{OpName}
use Rattle.tss_base.specs.declared.operand.Operand.{Operand}
use Rattle.tss_base.specs.declared.machine.Machine.{Machine}
use Rattle.tss_base.specs.declared.marks.Stage.TheVariants as stage
use Rattle.tss_base.specs.Range.{Covers}
use Rattle.tss_model.specs.Memory.{MemoryRange, covers, byte_at, range_of}
use Rattle.tss_model.specs.Access.{operands_of}
use Rattle.tss_protocol.specs.Names.{operand_name}
use Rattle.tss_protocol.specs.Mail.{StorageName, Source}
use Rattle.tss_protocol.specs.State.{State, Flying, Version}
use Rattle.tss_protocol.specs.Stations.{is_complete, storages_of}
use Rattle.tss_protocol.specs.Workers.{Stores, Placed, placed_in, placed_at, storage_byte, byte_in, worker_byte}
use Rattle.tss_values.specs.Buffers.{HasBuffers}
use Rattle.tss_values.proofs.storages.Shares.{HoldsStorage, one_buffer}
use Rattle.tss_program_order.proofs.StoreBytes.{IsPlaced, AreSeparate, worker_byte-there}
use Rattle.tss_program_order.proofs.StoreRuns.{InScope}
use Rattle.tss_program_order.proofs.StoreStart.{placed_in-parts}
use Rattle.tss_program_order.proofs.StoreFrames.{IsElsewhere, IsBeside}
use Rattle.tss_maps.proofs.Places.{find_there}
use Rattle.tss_values.proofs.workers.Hold.{IsHeld, held_at, writes_beside, holds_other, holder_named}
use Rattle.tss_control.proofs.rounds.Facts.{Facts}
use Rattle.tss_values.proofs.LiveObjects.{one_covered}

-- an operand with its storage stands at its place
pub placed_from : (os : List Operand) (ss : List StorageName) → length ss ≡ length os → (k : ℕ) (o : Operand)
    → slice_get os k ≡ Some o
    → (storage : StorageName) × (slice_get ss k ≡ Some storage)
    × IsPlaced (placed_in os ss) k (record { object = o.object; storage = storage })
placed_from [] ss count k o e = absurd (none-some o e)
placed_from (p ∷ os) [] count k o e = absurd (omega (arith, count))
placed_from (p ∷ os) (s ∷ ss) count zero o e =
    (s, refl, ap (λ (p : Operand). Some (record { object = p.object; storage = s })) (same_Some p o e))
placed_from (p ∷ os) (s ∷ ss) count (suc k) o e = placed_from os ss (omega (arith, count)) k o e

-- the operand in whose object an address lies
owner_of : (os : List Operand) (a : ℕ) → list_any (λ o. covers o.object a) os ≡ true
    → (k : ℕ) × (o : Operand) × (slice_get os k ≡ Some o) × (covers o.object a ≡ true)
owner_of [] a any = absurd (cc)
owner_of (o ∷ os) a any = elim (or_cases (covers o.object a) (list_any (λ o. covers o.object a) os) any) [
  | inl here ↦ (0, o, refl, here)
  | inr later ↦ let r = owner_of os a later in (suc r.0, r.1, r.2, r.3)
]

-- ---- what a task may load

module _ (os : List Operand) (ss : List StorageName) (count : length ss ≡ length os)
    (separate : AreSeparate (placed_in os ss)) (s x : Stores) (ranges : List MemoryRange)
    (owned : (k : ℕ) (p : Placed) → IsPlaced (placed_in os ss) k p → (a : ℕ) → covers p.object a ≡ true
    → storage_byte x p.object p.storage a ≡ storage_byte s p.object p.storage a)
    (fixed : (q : Range) (a : ℕ) → range_of ranges q ≡ Some false → Covers q a → byte_at x.home a ≡ byte_at s.home a)
  where
    fixed_left : (q : Range) (a : ℕ) → range_of ranges q ≡ Some false → Covers q a → (o : Option Placed)
        → placed_at (placed_in os ss) a ≡ o → byte_in x o a ≡ byte_in s o a
    fixed_left q a placed covered None e = fixed q a placed covered
    fixed_left q a placed covered (Some p) e =
        let first = find_there (λ p. covers p.object a) (placed_in os ss) p e in
        owned first.0 p first.1 a first.2

    -- where each operand shows the same, and memory that can't be written does, so does all of it
    pub scope_left : (a : ℕ) → InScope ranges os a
        → worker_byte (placed_in os ss) x a ≡ worker_byte (placed_in os ss) s a
    scope_left a (inl own) =
        let o = owner_of os a own in
        let p = placed_from os ss count o.0 o.1 o.2 in
        let there : Placed = record { object = (o.1).object; storage = p.0 } in
        worker_byte-there (placed_in os ss) separate o.0 there p.2 x a o.3
        ∙ owned o.0 there p.2 a o.3
        ∙ sym (worker_byte-there (placed_in os ss) separate o.0 there p.2 s a o.3)
    scope_left a (inr f) = fixed_left f.0 a f.1 f.2 (placed_at (placed_in os ss) a) refl

-- ---- a task that is queued or runs

same_place : (n j k : ℕ) → operand_name n j ≡ operand_name n k → j ≡ k
same_place n j k e = ap (λ (o : OpName). o.place) e

module _ (m : Machine) (S : State) (facts : Facts m S) (buffers : HasBuffers facts.ts S) where
  open facts use {basis, ts, g, ground, control}

  module _ (n : ℕ) (x : Flying) (flying : get S.flight n ≡ Some x) (complete : is_complete x ≡ true)
      (unfinished : x.stage ≡ stage.Finished → ⊥) where
    -- what it holds
    pub held : (k : ℕ) (p : Operand) (storage : StorageName) → slice_get (operands_of x.task) k ≡ Some p
        → slice_get (storages_of x) k ≡ Some storage → IsHeld ts g S n k p storage
    held = held_at m S facts n x flying complete unfinished

    -- its operands are apart
    pub task_separate : AreSeparate (placed_in (operands_of x.task) (storages_of x))
    task_separate = record {
      objects = λ j k p q a e f inside also.
          let a_ = placed_in-parts (operands_of x.task) (storages_of x) j p e in
          let b_ = placed_in-parts (operands_of x.task) (storages_of x) k q f in
          let h = held j a_.0 p.storage a_.1 a_.2 in
          let l = held k b_.0 q.storage b_.1 b_.2 in
          let same = one_covered m S basis (a_.0).object (b_.0).object
          (holder_named m S facts (operand_name n j) a_.0 h.source h.holds)
          (holder_named m S facts (operand_name n k) b_.0 l.source l.holds) a
          (ap (λ (r : Range). covers r a) a_.3 ∙ inside) (ap (λ (r : Range). covers r a) b_.3 ∙ also) in
          same_place n j k (ground.known.single (operand_name n j) (operand_name n k) a_.0 b_.0 h.holds.among
          l.holds.among same refl);
      buffers = λ j k p q b e f mine its.
          let a_ = placed_in-parts (operands_of x.task) (storages_of x) j p e in
          let b_ = placed_in-parts (operands_of x.task) (storages_of x) k q f in
          let h = held j a_.0 p.storage a_.1 a_.2 in
          let l = held k b_.0 q.storage b_.1 b_.2 in
          let one = one_buffer ts S control.chains buffers h.source.version l.source.version b h.holds.told.version
          l.holds.told.version h.holds.told.there l.holds.told.there
          (h.holds.told.storage ∙ ap Some (h.told ∙ mine)) (l.holds.told.storage ∙ ap Some (l.told ∙ its)) in
          let is = same_Some h.holds.told.version l.holds.told.version
          (sym h.holds.told.there ∙ ap (get S.versions) one ∙ l.holds.told.there) in
          let same = sym h.holds.told.object ∙ ap (λ (y : Version). y.object) is ∙ l.holds.told.object in
          same_place n j k (ground.known.single (operand_name n j) (operand_name n k) a_.0 b_.0 h.holds.among
          l.holds.among same refl);
    }

    -- so it lies beside what another operand holds
    pub holder_beside : (q : OpName) (r : Operand) (t : Source) → HoldsStorage ts g S q r t → q.task ≢ n → (a : ℕ)
        → covers r.object a ≡ true → IsBeside (operands_of x.task) (storages_of x) t.storage a
    holder_beside q r t l apart a inside k o storage at told writer =
        let h = held k o storage at told in
        subst (λ s. IsElsewhere o.object s t.storage a) h.told
        (writes_beside m S facts buffers (operand_name n k) o h.source h.holds writer t.version
        l.told.version t.storage l.told.there l.told.storage
        (holds_other m S facts buffers (operand_name n k) o h.source h.holds writer q r t l
        (λ same. apart (ap (λ (o : OpName). o.task) same))) a
        (ap (λ (x : Range). covers x a) l.told.object ∙ inside))
