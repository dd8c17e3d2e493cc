-- What a worker's task loads, and what it sees after a store.
use Rattle.std.proofs.Common.{◌≡◌, ℕ, ◌+◌, ◌<◌, ◌≤◌, Bool, true, false, List, Option, Some, None, Ok, Err, refl, sym, ap, subst, ◌∙◌}
use Rattle.std.specs.Prelude.{slice_get}
use Rattle.tss_base.specs.Range.{contains}
use Rattle.tss_base.specs.Image.{SegmentState}
use Rattle.tss_model.specs.Memory.{Memory, range_of, scratch_range, covers, number_at}
use Rattle.tss_model.specs.Access as model
use Rattle.tss_model.specs.Access.{Access, Granted, Denied, Loads, Stores, task_access, is_fixed, writes}
use Rattle.tss_model.specs.Core.{Write, low_bytes}
use Rattle.tss_core.specs.declared.access.Deny.TheVariants as deny
use Rattle.tss_core.specs.Views.{IsAfter, load_answer, store_answer, stored, answer_on, write_on, byte_after}
use Rattle.tss_core.specs.Rule.{allowed}
use Rattle.tss_steps.specs.Seen.{task_sight, task_sees}
use Rattle.tss_steps.specs.Tasks.{IsLeft}
use Rattle.tss_steps.proofs.PlaceLemmas.{range_of-loaded, beside_address}
use Rattle.tss_steps.proofs.ViewLemmas.{access_range, write_at, beyond_answer, beyond_stored, beyond_left}
use Rattle.tss_protocol.specs.Workers.{worker_byte, worker_write}
use Rattle.tss_buffers.specs.Contents.{BuffersState}
use Rattle.tss_workers.specs.Spots.{AreWorkable, LiesInNone, operands_at, placed_of, spot_terms, stores_of}
use Rattle.tss_workers.specs.declared.spots.Spot.{Spot}
use Rattle.tss_workers.proofs.RuleLemmas.{lies_in_operand, lies_in_written, lies_in_none, written_in_none, written_elsewhere, load_granted, load_fixed, load_denied, store_granted, store_denied}

module _ (code : List SegmentState) (m : Memory) (b : BuffersState) (spots : List Spot) (works : AreWorkable m.ranges b spots)
    (scratch : List ℕ) (at width : ℕ) (some : 0 < width) (outside : contains scratch_range (access_range at width) ≡ false) where
  -- an access in memory lies beside the scratch
  beside_in : (w : Bool) → range_of m.ranges (access_range at width) ≡ Some w → (a : ℕ) → at ≤ a → a < at + width → covers scratch_range a ≡ false
  beside_in w e a low high = beside_address m.ranges (access_range at width) w a works.ground.beside e low high

  module _ (i : ℕ) (s : Spot) (there : slice_get spots i ≡ Some s) (inside : contains s.object (access_range at width) ≡ true) where
    own : model.task_access m.ranges (operands_at spots) Loads (access_range at width) ≡ Granted
    own = load_granted m.ranges (operands_at spots) (access_range at width) outside
        (lies_in_operand spots (access_range at width) i s there inside)

    placed : (w : Bool) × (range_of m.ranges (access_range at width) ≡ Some w)
    placed = range_of-loaded m.ranges works.ground.are (operands_at spots) works.ground.placed (access_range at width) some
        (lies_in_operand spots (access_range at width) i s there inside)

    pub loads_there : (n : ℕ) → n ≡ number_at (worker_byte (placed_of spots) (stores_of m b)) at width
        → Ok n ≡ load_answer (task_sight (spot_terms code m.ranges spots) scratch (stores_of m b)) at width
    loads_there n e =
        beyond_answer (spot_terms code m.ranges spots) m.ranges (operands_at spots) refl scratch (stores_of m b) at width n
        (beside_in placed.0 placed.1) own e

    -- a store in a spot that the task writes
    module _ (written : writes s.mode ≡ true) (value : ℕ) where
      may : model.task_access m.ranges (operands_at spots) Stores (access_range at width) ≡ Granted
      may = store_granted m.ranges (operands_at spots) (access_range at width) outside
          (lies_in_written spots (access_range at width) i s there inside written)

      pub stores_there : Ok tt ≡ store_answer (task_sight (spot_terms code m.ranges spots) scratch (stores_of m b)) at width
      stores_there = ap allowed (sym may)

      module _ (n : Memory) (c : BuffersState) (ranges : n.ranges ≡ m.ranges)
          (e : stores_of n c ≡ worker_write (placed_of spots) (stores_of m b) (record { at = at; bytes = low_bytes width value })) where
        same_terms : spot_terms code n.ranges spots ≡ spot_terms code m.ranges spots
        same_terms = ap (λ rs. spot_terms code rs spots) ranges

        pub stored_there : ((a : ℕ) → worker_byte (placed_of spots) (stores_of n c) a
            ≡ byte_after (worker_byte (placed_of spots) (stores_of m b)) (Some (record { at = at; bytes = low_bytes width value })) a)
            → IsAfter (task_sight (spot_terms code m.ranges spots) scratch (stores_of m b))
            (stored (task_sight (spot_terms code m.ranges spots) scratch (stores_of m b)) at width value)
            (task_sight (spot_terms code n.ranges spots) scratch (stores_of n c))
        stored_there bytes =
            beyond_stored (spot_terms code m.ranges spots) (spot_terms code n.ranges spots) m.ranges (operands_at spots) refl same_terms
            scratch (stores_of m b) at width value (stores_of n c) (beside_in placed.0 placed.1) may e
            (λ a. ap (λ x. worker_byte (placed_of spots) x a) (sym e) ∙ bytes a)

        pub left_there : IsLeft (spot_terms code m.ranges spots) (spot_terms code n.ranges spots) scratch scratch (stores_of m b) (stores_of n c)
            (stored (task_sight (spot_terms code m.ranges spots) scratch (stores_of m b)) at width value)
        left_there =
            beyond_left (spot_terms code m.ranges spots) (spot_terms code n.ranges spots) m.ranges (operands_at spots) refl same_terms
            scratch (stores_of m b) at width value (stores_of n c) (beside_in placed.0 placed.1) may e some

    -- and one that it doesn't write
    pub may_not_there : writes s.mode ≡ false → task_access m.ranges (operands_at spots) Stores (access_range at width) ≡ Denied
    may_not_there unwritten =
        store_denied m.ranges (operands_at spots) (access_range at width) outside
        (written_elsewhere spots (access_range at width) works.apart some i s there inside unwritten)

  -- ---- an access in no spot

  module _ (nowhere : LiesInNone spots (access_range at width)) where
    pub loads_fixed : (w : Bool) → range_of m.ranges (access_range at width) ≡ Some w → is_fixed (range_of m.ranges (access_range at width)) ≡ true
        → (n : ℕ) → n ≡ number_at (worker_byte (placed_of spots) (stores_of m b)) at width
        → Ok n ≡ load_answer (task_sight (spot_terms code m.ranges spots) scratch (stores_of m b)) at width
    loads_fixed w there fixed n e =
        beyond_answer (spot_terms code m.ranges spots) m.ranges (operands_at spots) refl scratch (stores_of m b) at width n
        (beside_in w there)
        (load_fixed m.ranges (operands_at spots) (access_range at width) outside (lies_in_none spots (access_range at width) nowhere) fixed) e

    pub loads_denied : is_fixed (range_of m.ranges (access_range at width)) ≡ false
        → Err deny.Denied ≡ load_answer (task_sight (spot_terms code m.ranges spots) scratch (stores_of m b)) at width
    loads_denied fixed =
        ap (λ (a : Access). answer_on a (number_at (task_sees scratch (worker_byte (placed_of spots) (stores_of m b))) at width))
        (sym (load_denied m.ranges (operands_at spots) (access_range at width) outside (lies_in_none spots (access_range at width) nowhere) fixed))

    pub may_not_elsewhere : task_access m.ranges (operands_at spots) Stores (access_range at width) ≡ Denied
    may_not_elsewhere =
        store_denied m.ranges (operands_at spots) (access_range at width) outside (written_in_none spots (access_range at width) nowhere)

  -- ---- a store that is refused

  module _ (refused : task_access m.ranges (operands_at spots) Stores (access_range at width) ≡ Denied) where
    pub store_refused : Err deny.Denied ≡ store_answer (task_sight (spot_terms code m.ranges spots) scratch (stores_of m b)) at width
    store_refused = ap allowed (sym refused)

    -- it writes nothing
    pub writes_nothing : (value : ℕ) → stored (task_sight (spot_terms code m.ranges spots) scratch (stores_of m b)) at width value ≡ None
    writes_nothing value = ap (λ (a : Access). write_on a (write_at at width value)) refused

    pub same_sight : (value : ℕ)
        → IsAfter (task_sight (spot_terms code m.ranges spots) scratch (stores_of m b))
        (stored (task_sight (spot_terms code m.ranges spots) scratch (stores_of m b)) at width value)
        (task_sight (spot_terms code m.ranges spots) scratch (stores_of m b))
    same_sight value =
        subst (λ (w : Option Write). IsAfter (task_sight (spot_terms code m.ranges spots) scratch (stores_of m b)) w
        (task_sight (spot_terms code m.ranges spots) scratch (stores_of m b))) (sym (writes_nothing value))
        (record { actor = refl; bytes = λ a. refl; words = λ pc. refl })
