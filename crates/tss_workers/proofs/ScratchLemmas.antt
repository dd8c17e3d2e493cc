-- The scratches of idle workers, as workers become busy and idle.
use Rattle.std.proofs.Common.{◌≡◌, ℕ, ◌+◌, ◌<◌, ◌≤◌, ◌⊎◌, inl, inr, true, false, List, Option, Some, None, refl, sym, ap, subst, ◌∙◌, arith}
use Rattle.std.specs.Prelude.{is_none, is_some}
use Rattle.std.specs.Ordering.{nat_cmp}
use Rattle.std.specs.FinMap.{get, insert, remove, empty, get-empty}
use Rattle.tss_maps.proofs.Keys.{nat_order, decide_key}
use Rattle.tss_maps.proofs.Changes.{at_inserted, beside_inserted, at_removed, beside_removed}
use Rattle.tss_tables.specs.Table.{TableState}
use Rattle.tss_base.specs.Image.{SegmentState}
use Rattle.tss_model.specs.Memory.{Memory}
use Rattle.tss_buffers.specs.Contents.{BuffersState}
use Rattle.tss_workers.specs.Seen.{WorkersState, HasScratches, ExecutesAt, ExecutesIn}
use Rattle.tss_workers.specs.declared.running.Worker.{Worker}

-- nothing stands where something is none
none_by : {X : Type 0} (o : Option X) → is_some o ≡ false → o ≡ None
none_by None e = refl
none_by (Some x) e = absurd (cc)

module _ (t : WorkersState) (idle : TableState nat_cmp (List ℕ)) (has : HasScratches t idle) (w : ℕ) where
  -- an idle worker's is there, and a busy one's isn't
  pub scratch_there : w < t.size → get t.entries w ≡ None → get idle.entries w ≡ None → ⊥
  scratch_there h free none =
      let both : false ≡ true = ap is_some (sym none) ∙ has.each w h ∙ ap is_none free in
      absurd (cc)

  pub scratch_away : (x : Worker) → w < t.size → get t.entries w ≡ Some x → get idle.entries w ≡ None
  scratch_away x h busy = none_by (get idle.entries w) (has.each w h ∙ ap is_none busy)

  -- a busy worker changes
  pub HasScratches-written : (x y : Worker) → get t.entries w ≡ Some x → HasScratches (record t { entries = insert t.entries w y }) idle
  HasScratches-written x y busy = record {
    size = has.size;
    each = λ k h. elim (decide_key nat_order k w) [
      | inl same ↦
          has.each k h
          ∙ ap is_none (ap (get t.entries) same ∙ busy)
          ∙ sym (ap is_none (ap (get (insert t.entries w y)) same ∙ at_inserted nat_order t.entries w y))
      | inr other ↦ has.each k h ∙ sym (ap is_none (beside_inserted nat_order t.entries w y k other))
    ];
  }

  -- an idle one becomes busy
  pub HasScratches-begun : (y : Worker) → HasScratches (record t { entries = insert t.entries w y }) (record idle { entries = remove idle.entries w })
  HasScratches-begun y = record {
    size = has.size;
    each = λ k h. elim (decide_key nat_order k w) [
      | inl same ↦
          ap is_some (ap (get (remove idle.entries w)) same ∙ at_removed nat_order idle.entries w)
          ∙ sym (ap is_none (ap (get (insert t.entries w y)) same ∙ at_inserted nat_order t.entries w y))
      | inr other ↦
          ap is_some (beside_removed nat_order idle.entries w k other)
          ∙ has.each k h
          ∙ sym (ap is_none (beside_inserted nat_order t.entries w y k other))
    ];
  }

  -- and idle again
  pub HasScratches-ended : (scratch : List ℕ) → HasScratches (record t { entries = remove t.entries w }) (record idle { entries = insert idle.entries w scratch })
  HasScratches-ended scratch = record {
    size = has.size;
    each = λ k h. elim (decide_key nat_order k w) [
      | inl same ↦
          ap is_some (ap (get (insert idle.entries w scratch)) same ∙ at_inserted nat_order idle.entries w scratch)
          ∙ sym (ap is_none (ap (get (remove t.entries w)) same ∙ at_removed nat_order t.entries w))
      | inr other ↦
          ap is_some (beside_inserted nat_order idle.entries w scratch k other)
          ∙ has.each k h
          ∙ sym (ap is_none (beside_removed nat_order t.entries w k other))
    ];
  }

-- ---- as they are opened

-- the first workers have their scratches
pub record HasFirst (workers n : ℕ) (idle : TableState nat_cmp (List ℕ)) : Type 0 where
  pub size : idle.size ≡ workers
  pub first : (k : ℕ) → k < n → is_some (get idle.entries k) ≡ true
  pub rest : (k : ℕ) → n ≤ k → get idle.entries k ≡ None

pub HasFirst-none : (size : ℕ) (idle : TableState nat_cmp (List ℕ)) → idle ≡ record { size = size; entries = empty } → HasFirst size 0 idle
HasFirst-none size idle e = record {
  size = λ i. (e i).size;
  first = λ k h. absurd (omega (arith, h));
  rest = λ k h. (λ i. get (e i).entries k) ∙ get-empty nat_cmp k;
}

last_or_before : (k n : ℕ) → k < n + 1 → (k ≡ n) ⊎ (k < n)
last_or_before k n h = grind (arith, h)

pub HasFirst-more : (size n : ℕ) (old new : TableState nat_cmp (List ℕ)) (scratch : List ℕ) → HasFirst size n old
    → new ≡ record old { entries = insert old.entries n scratch } → HasFirst size (n + 1) new
HasFirst-more size n old new scratch has e = record {
  size = (λ i. (e i).size) ∙ has.size;
  first = λ k h. (λ i. is_some (get (e i).entries k)) ∙ elim (last_or_before k n h) [
    | inl same ↦ ap is_some (ap (get (insert old.entries n scratch)) same ∙ at_inserted nat_order old.entries n scratch)
    | inr before ↦ ap is_some (beside_inserted nat_order old.entries n scratch k (λ s. omega (arith, s, before))) ∙ has.first k before
  ];
  rest = λ k h. (λ i. get (e i).entries k)
      ∙ beside_inserted nat_order old.entries n scratch k (λ s. omega (arith, s, h))
      ∙ has.rest k (omega (arith, h));
}

pub HasScratches-open : (size n : ℕ) (idle : TableState nat_cmp (List ℕ)) (t : WorkersState) → HasFirst size n idle → n ≡ size
    → t ≡ record { size = size; entries = empty } → HasScratches t idle
HasScratches-open size n idle t has all e = record {
  size = has.size ∙ (λ i. (sym e i).size);
  each = λ w h.
      let same : t.size ≡ size = λ i. (e i).size in
      has.first w (omega (arith, h, same, all)) ∙ sym (ap is_none ((λ i. get (e i).entries w) ∙ get-empty nat_cmp w));
}

-- ---- after a stretch

executes_by : (w : ℕ) (code : List SegmentState) (budget quantum : ℕ) (old new : WorkersState) (o : Option Worker) (m n : Memory) (b c : BuffersState)
    (idle : TableState nat_cmp (List ℕ)) → get old.entries w ≡ o → ExecutesIn w code budget quantum old new o m n b c → HasScratches old idle → HasScratches new idle
executes_by w code budget quantum old new None m n b c idle e h has = absurd h
executes_by w code budget quantum old new (Some x) m n b c idle e h has =
    subst (λ (t : WorkersState). HasScratches t idle) (sym h.workers) (HasScratches-written old idle has w x h.left e)

pub HasScratches-executed : (w : ℕ) (code : List SegmentState) (budget quantum : ℕ) (old new : WorkersState) (m n : Memory) (b c : BuffersState)
    (idle : TableState nat_cmp (List ℕ)) → ExecutesAt w code budget quantum old new m n b c → HasScratches old idle → HasScratches new idle
HasScratches-executed w code budget quantum old new m n b c idle h has =
    executes_by w code budget quantum old new (get old.entries w) m n b c idle refl h has

-- ---- by what the two tables say

pub has_scratches : (t : WorkersState) (left : TableState nat_cmp (List ℕ)) (new : WorkersState) (after : TableState nat_cmp (List ℕ))
    → new ≡ t → after ≡ left → HasScratches t left → HasScratches new after
has_scratches t left new after e f has =
    subst (λ (x : WorkersState). HasScratches x after) (sym e)
    (subst (λ (x : TableState nat_cmp (List ℕ)). HasScratches t x) (sym f) has)
