-- A task that may run over storages by names may run over the same storages by places.
use Rattle.std.proofs.Common.{◌≡◌, ℕ, zero, suc, ◌<◌, ◌≤◌, List, [], ◌∷◌, length, take, map, slice_get, Option, Some, None, refl, sym, ap, ◌∙◌, subst, arith}
use Rattle.std.specs.Prelude.{IsSome}
use Rattle.std.specs.FinMap.{get}
use Rattle.std.proofs.lemmas.Option.{none-some, same_Some, slice_get_within}
use Rattle.tss_base.specs.declared.machine.Key.TheVariants as key
use Rattle.tss_base.specs.declared.bounds.TheConstants.{MAX_OPERANDS}
use Rattle.tss_base.specs.declared.operand.OpName.{OpName}
use Rattle.tss_base.specs.declared.operand.Operand.{Operand}
use Rattle.tss_base.specs.declared.operand.Storage.{Storage}
use Rattle.tss_base.specs.declared.operand.Storage.TheVariants as storage
use Rattle.tss_base.specs.declared.operand.Task.{Task}
use Rattle.tss_base.specs.Range.{meets}
use Rattle.tss_model.specs.Access.{operands_of}
use Rattle.tss_memory.specs.Ranges.{AreRanges}
use Rattle.tss_events.specs.Events.{storage_name}
use Rattle.tss_protocol.specs.Names.{bank_of}
use Rattle.tss_protocol.specs.Mail.{StorageName, Home, Buffer}
use Rattle.tss_protocol.specs.Workers.{Placed, placed_in}
use Rattle.tss_buffers.specs.Contents.{seat}
use Rattle.tss_workers.specs.Seats.{bank_in, seat_in, seats_in, seats_of, placed_by, AreApart, AreSeated, AreSet}
use Rattle.tss_workers.specs.Seen.{CanWork}
use Rattle.tss_workers.specs.Agreement.{StandsFor, StandFor}
use Rattle.tss_conditions.specs.Running.{MayRunOver, IsSet}
use Rattle.tss_conditions.proofs.Filling.{grounded}
use Rattle.tss_conditions.proofs.Holding.{bank_below}
use Rattle.tss_pipeline.specs.declared.units.Units.{Units}
use Rattle.tss_pipeline.specs.State.{state_of}
use Rattle.tss_pipeline.specs.Fit.{IsFit, ground_of, HoldsStorage}
use Rattle.tss_pipeline.proofs.worker_rows.ImageRanges.{memory_ranges_are}
use Rattle.tss_pipeline.proofs.worker_rows.BufferSeats.{place_of, place_there, bank_exists, held_at, one_name, contents_agree}

-- ---- storages in turn

-- each stands for its name
pub stand_for : (place_of : OpName → Option OpName) (banks n : ℕ) (os : List Operand) (ss : List Storage)
    → length os ≡ n → length (take n ss) ≡ n
    → ((k : ℕ) (o : Operand) (s : Storage) → slice_get os k ≡ Some o → slice_get ss k ≡ Some s
    → StandsFor place_of (storage_name s) (seat_in banks o s))
    → StandFor place_of (map storage_name (take n ss)) (seats_in banks os ss)
stand_for place_of banks zero [] ss many long each = tt
stand_for place_of banks (suc n) [] ss many long each = absurd (omega (arith, many))
stand_for place_of banks zero (o ∷ os) ss many long each = absurd (omega (arith, many))
stand_for place_of banks (suc n) (o ∷ os) [] many long each = absurd (omega (arith, long))
stand_for place_of banks (suc n) (o ∷ os) (s ∷ ss) many long each = (
  each zero o s refl refl,
  stand_for place_of banks n os ss (omega (arith, many)) (omega (arith, long))
      (λ k. each (suc k)),
)

-- the name of a buffer that is one of them
pub name_of_seat : (place_of : OpName → Option OpName) (ns ps : List StorageName) → StandFor place_of ns ps
    → (i : ℕ) (q : OpName) → slice_get ps i ≡ Some (Buffer q)
    → (n : OpName) × (slice_get ns i ≡ Some (Buffer n)) × (place_of n ≡ Some q)
name_of_seat place_of [] [] h i q e = absurd (none-some (Buffer q) e)
name_of_seat place_of [] (p ∷ ps) h i q e = absurd h
name_of_seat place_of (n ∷ ns) [] h i q e = absurd h
name_of_seat place_of (n ∷ ns) (p ∷ ps) h zero q e =
    by n (subst (StandsFor place_of n) (same_Some p (Buffer q) e) h.0)
  where
    by : (n : StorageName) → StandsFor place_of n (Buffer q)
        → (m : OpName) × (◌≡◌ {A = Option StorageName} (Some n) (Some (Buffer m))) × (place_of m ≡ Some q)
    by Home there = absurd there
    by (Buffer m) there = (m, refl, there)
name_of_seat place_of (n ∷ ns) (p ∷ ps) h (suc i) q e = name_of_seat place_of ns ps h.1 i q e

-- an object with its storage is one of the operands'
pub record PlacedAt (os : List Operand) (ps : List StorageName) (i : ℕ) (p : Placed) : Type 0 where
  pub operand : Operand
  pub there : slice_get os i ≡ Some operand
  pub object : p.object ≡ operand.object
  pub storage : slice_get ps i ≡ Some p.storage

pub placed_at : (os : List Operand) (ps : List StorageName) (i : ℕ) (p : Placed)
    → slice_get (placed_in os ps) i ≡ Some p → PlacedAt os ps i p
placed_at [] ps i p e = absurd (none-some p e)
placed_at (o ∷ os) [] i p e = absurd (none-some p e)
placed_at (o ∷ os) (s ∷ ps) zero p e =
    let is = same_Some (record { object = o.object; storage = s }) p e in
    record {
      operand = o;
      there = refl;
      object = ap (λ (p : Placed). p.object) (sym is);
      storage = ap (λ (p : Placed). Some p.storage) is;
    }
placed_at (o ∷ os) (s ∷ ps) (suc i) p e =
    let t = placed_at os ps i p e in
    record { operand = t.operand; there = t.there; object = t.object; storage = t.storage }

-- ---- memory

module _ (u : Units) (fit : IsFit u) where
  pub ranges_are : AreRanges u.space.ranges
  ranges_are =
      subst AreRanges (sym (grounded u.machine fit.reached.image (state_of u) fit.reached.reached).ranges)
      (memory_ranges_are fit.reached.image fit.reached.reached.accepted)

  pub some_banks : 0 < u.buffers.banks
  some_banks =
      subst (λ n. 0 < n) (sym fit.sized.buffer_banks)
      ((fit.reached.reached.admissible.sizes key.Banks u.machine.sizes.banks refl).0)

  -- a storage that a bank holds stands for its name
  pub stands_for : (o : Operand) (s : Storage) → HoldsStorage (ground_of u) o s
      → StandsFor (place_of u.banks.items) (storage_name s) (seat_in u.buffers.banks o s)
  stands_for o storage.Home h = tt
  stands_for o (storage.Buffer p n) h =
      let k = bank_of u.machine.sizes o.object in
      let below = bank_below u.machine fit.reached.reached.admissible o.object in
      let within : k < length u.banks.items = subst (λ m. k < m) (sym fit.sized.banks.count) below in
      let b = bank_exists u.banks.items k within in
      place_there u fit k b.0 b.1 n p (h b.0 b.1)
      ∙ ap (λ banks. Some (seat (bank_in banks o.object.base) p)) (sym fit.sized.buffer_banks)

  -- ---- a task over storages

  module _ (t : Task) (ns : List StorageName) (ss : List Storage) (may : MayRunOver u.machine (state_of u) t ns)
      (stand : StandFor (place_of u.banks.items) ns (seats_of u.buffers.banks t ss)) where
    few : t.count ≤ MAX_OPERANDS
    few =
        let count = may.proper.few in
        let most = (fit.reached.reached.admissible.limits key.MaxOperands u.machine.limits.max_operands refl).1 in
        omega (arith, count, most)

    are_apart : AreApart (placed_by u.buffers.banks t ss)
    are_apart = record {
      objects = λ i j p q less at other.
          let x = placed_at (operands_of t) (seats_of u.buffers.banks t ss) i p at in
          let y = placed_at (operands_of t) (seats_of u.buffers.banks t ss) j q other in
          (λ z. meets (x.object z) (y.object z))
          ∙ may.apart i j x.operand y.operand x.there y.there (λ e. omega (arith, less, e));
      buffers = λ i j p q n less at other here there.
          let x = placed_at (operands_of t) (seats_of u.buffers.banks t ss) i p at in
          let y = placed_at (operands_of t) (seats_of u.buffers.banks t ss) j q other in
          let v = name_of_seat (place_of u.banks.items) ns (seats_of u.buffers.banks t ss) stand i n
          (x.storage ∙ ap Some here) in
          let w = name_of_seat (place_of u.banks.items) ns (seats_of u.buffers.banks t ss) stand j n
          (y.storage ∙ ap Some there) in
          let same = one_name u fit v.0 w.0 n v.2 w.2 in
          let e = may.single i j w.0 (v.1 ∙ ap (λ n. Some (Buffer n)) same) w.1 in
          omega (arith, less, e);
    }

    are_seated : AreSeated u.buffers (placed_by u.buffers.banks t ss)
    are_seated i p n at here =
        let x = placed_at (operands_of t) (seats_of u.buffers.banks t ss) i p at in
        let v = name_of_seat (place_of u.banks.items) ns (seats_of u.buffers.banks t ss) stand i n
        (x.storage ∙ ap Some here) in
        let h = held_at u.banks.items v.0 n v.2 in
        let sized = fit.sized.banks.each h.number h.bank h.there in
        record {
          bank =
              subst (λ (s : OpName). s.task < u.buffers.banks) (sym h.seats)
              (subst (λ m. h.number < m) (fit.sized.banks.count ∙ sym fit.sized.buffer_banks)
              (slice_get_within u.banks.items h.number h.bank h.there));
          place =
              subst (λ (s : OpName). s.place < u.buffers.each) (sym h.seats)
              (subst (λ m. h.place < m) (ap (λ s. s.buffers) sized.sizes ∙ sym fit.sized.buffers)
              ((fit.placed.own h.number h.bank h.there).apart.buffer_within v.0 h.place h.held));
          long =
              subst (λ m. p.object.len ≤ m) (sym fit.sized.object_bytes)
              (subst (λ r. r.len ≤ u.machine.limits.object_bytes) (sym x.object) (may.fits i x.operand x.there).short);
        }

    -- it may work there
    pub can_work : CanWork u.space.ranges u.buffers t ss
    can_work = record {
      count = few;
      ground = record {
        are = ranges_are;
        beside = (grounded u.machine fit.reached.image (state_of u) fit.reached.reached).beside;
        placed = may.placed;
      };
      apart = are_apart;
      seated = are_seated;
    }

    some_there : (o : Option (List ℕ)) (bytes : List ℕ) → o ≡ Some bytes → IsSome o
    some_there None bytes e = absurd (none-some bytes e)
    some_there (Some x) bytes e = refl

    -- and its buffers are set where those of its names are
    pub are_set : ((k : ℕ) (n : OpName) → slice_get ns k ≡ Some (Buffer n) → IsSet u.machine (state_of u) n)
        → AreSet u.buffers.contents (placed_by u.buffers.banks t ss)
    are_set set i p n at here =
        let x = placed_at (operands_of t) (seats_of u.buffers.banks t ss) i p at in
        let v = name_of_seat (place_of u.banks.items) ns (seats_of u.buffers.banks t ss) stand i n
        (x.storage ∙ ap Some here) in
        let bytes = set i v.0 v.1 in
        some_there (get u.buffers.contents n) bytes.0
        (sym ((contents_agree u fit u.buffers).same v.0 n v.2) ∙ bytes.1)
