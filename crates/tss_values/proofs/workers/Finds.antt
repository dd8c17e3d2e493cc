-- What a queued task finds in the storages of its operands: what program order has there, if that starts it.
use Rattle.std.proofs.Common.{◌≡◌, ◌⊎◌, inl, inr, ℕ, ◌-◌, ◌<◌, ◌≤◌, true, false, List, length, Some, refl, sym, ap, ◌∙◌}
use Rattle.std.proofs.Common.{subst, arith, true≢false}
use Rattle.std.specs.Prelude.{cond, slice_get, slice_index}
use Rattle.std.specs.FinMap.{get}
use Rattle.std.proofs.lemmas.Option.{same_Some}
use Rattle.std.proofs.lemmas.List.{get_or-take}
use Rattle.std.proofs.lemmas.List.FromFn.{get_or-map-range_with_len}
use Rattle.tss_base.specs.declared.range.Range.{Range}
use Rattle.tss_base.specs.declared.operand.OpName.{OpName}
use Rattle.tss_base.specs.declared.operand.Mode.{Mode}
use Rattle.tss_base.specs.declared.operand.Mode.TheVariants.{Input, Output, Inout}
use Rattle.tss_base.specs.declared.operand.Operand.{Operand}
use Rattle.tss_base.specs.declared.machine.Machine.{Machine}
use Rattle.tss_base.specs.declared.marks.Stage.TheVariants as stage
use Rattle.tss_base.specs.Image.{ImageState}
use Rattle.tss_model.specs.Memory.{Memory, covers, byte_at, bytes_of}
use Rattle.tss_model.specs.Access.{operands_of, reads, writes}
use Rattle.tss_model.specs.InOrder.{Started, end_of_started}
use Rattle.tss_protocol.specs.Names.{operand_name}
use Rattle.tss_protocol.specs.Mail.{StorageName, Home, Buffer}
use Rattle.tss_protocol.specs.State.{State, Flying, Version}
use Rattle.tss_protocol.specs.Stations.{is_complete, storages_of}
use Rattle.tss_protocol.specs.Buffers.{buffer_bytes}
use Rattle.tss_protocol.specs.Workers.{Stores, storage_byte, stored_bytes}
use Rattle.tss_control.specs.Members.{operand_among, NoWriterBetween}
use Rattle.tss_values.specs.Buffers.{HasBuffers}
use Rattle.tss_control.specs.Readers.{Has, IsArrival}
use Rattle.tss_names.specs.Stages.{IsOnWorker}
use Rattle.tss_control.specs.Holders.{IsOwnOrRead}
use Rattle.tss_values.proofs.room.Start.{produced_set}
use Rattle.tss_names.proofs.StageLemmas.{queued≢running, queued≢finished}
use Rattle.tss_values.proofs.storages.Shares.{reads_produced}
use Rattle.tss_program_order.proofs.StoreBytes.{covers_parts}
use Rattle.tss_values.proofs.stored.Settled.{FindsLeft}
use Rattle.tss_values.proofs.Values.{Starts, IsKnown, IsGood, IsSet, bytes_before, bytes_after, content, HasStored}
use Rattle.tss_values.proofs.Values.{HasRoom}
use Rattle.tss_values.proofs.workers.Hold.{IsHeld}
use Rattle.tss_values.proofs.workers.Apart.{held}
use Rattle.tss_control.proofs.rounds.Facts.{Facts}

-- ---- bytes one by one

-- a byte of a range
byte_of_bytes : (m : Memory) (x : Range) (a : ℕ) → covers x a ≡ true
    → slice_index (bytes_of m x) (a - x.base) ≡ byte_at m a
byte_of_bytes m x a inside =
    let p = covers_parts x a inside in
    get_or-map-range_with_len (byte_at m) x.base x.len (a - x.base) a 0 (omega (arith, p.0, p.1)) (omega (arith, p.0))

-- where the storage of an object has the bytes of a memory, each of its bytes is that of the memory
pub byte_stored : (s : Stores) (x : Range) (storage : StorageName) (m : Memory)
    → stored_bytes s x storage ≡ bytes_of m x → (a : ℕ) → covers x a ≡ true → storage_byte s x storage a ≡ byte_at m a
byte_stored s x Home m same a inside =
    sym (byte_of_bytes s.home x a inside) ∙ ap (λ (bs : List ℕ). slice_index bs (a - x.base)) same
    ∙ byte_of_bytes m x a inside
byte_stored s x (Buffer n) m same a inside =
    let p = covers_parts x a inside in
    sym (get_or-take x.len (buffer_bytes s.contents n) (a - x.base) 0 (omega (arith, p.0, p.1)))
    ∙ ap (λ (bs : List ℕ). slice_index bs (a - x.base)) same
    ∙ byte_of_bytes m x a inside

-- ---- a queued task

module _ (m : Machine) (i : ImageState) (S : State) (facts : Facts m S) (buffers : HasBuffers facts.ts S)
    (n : ℕ) (x : Flying) (flies : get S.flight n ≡ Some x) (complete : is_complete x ≡ true)
    (queued : x.stage ≡ stage.Queued) where
  open facts use {ts, g, control}

  -- it isn't on a worker
  queued_idle : IsOnWorker S n → ⊥
  queued_idle w =
      let r = control.holders.runners.running w.0 w.1 w.2 in
      let same = same_Some r.0 x (sym r.1 ∙ ap (get S.flight) w.3 ∙ flies) in
      queued≢running (sym queued ∙ ap (λ (x : Flying). x.stage) (sym same) ∙ r.2)

  -- it hasn't finished
  pub queued_unfinished : x.stage ≡ stage.Finished → ⊥
  queued_unfinished e = queued≢finished (sym queued ∙ e)

  module _ (k : ℕ) (p : Operand) (storage : StorageName) (at : slice_get (operands_of x.task) k ≡ Some p)
      (told : slice_get (storages_of x) k ≡ Some storage) where
    -- what its operand holds
    abbrev holding : IsHeld ts g S n k p storage
    holding = held m S facts buffers n x flies complete queued_unfinished k p storage at told

    abbrev version : OpName
    version = holding.source.version

    abbrev state : Version
    state = holding.holds.told.version

    there : get S.versions version ≡ Some state
    there = holding.holds.told.there

    stands : state.storage ≡ Some storage
    stands = holding.holds.told.storage ∙ ap Some holding.told

    own_written : writes p.mode ≡ true → version ≡ operand_name n k
    own_written w = subst (λ w. IsOwnOrRead g (operand_name n k) w version) w holding.holds.told.own

    own_read : writes p.mode ≡ false → Has (operand_name n k) (g version)
    own_read w = subst (λ w. IsOwnOrRead g (operand_name n k) w version) w holding.holds.told.own

    made : writes p.mode ≡ false → state.produced ≡ true
    made w =
        reads_produced ts g S control (operand_name n k) p holding.source holding.holds (own_read w) state there

    -- ---- its buffer

    module _ (room : HasRoom m ts S) where
      is_set : (mode : Mode) → p.mode ≡ mode → reads mode ≡ true → IsSet ts S version
      is_set Input e read = produced_set m S facts version state there (made (ap writes e))
      is_set Output e read = absurd (true≢false (sym read))
      is_set Inout e read =
          inl (p, ap (operand_among ts) (own_written (ap writes e)) ∙ holding.holds.among, ap reads e)

      -- it has room where it reads
      pub finds_room : (b : OpName) → storage ≡ Buffer b → reads p.mode ≡ true
          → m.limits.object_bytes ≤ length (buffer_bytes S.contents b)
      finds_room b is read =
          room.versions version state b there (stands ∙ ap Some is) (is_set p.mode refl read)

    -- ---- its value

    module _ (stored : HasStored m i ts S) (finds : FindsLeft m i ts S) (s : Started) (starts : Starts m i n s) where
      known : IsKnown m i ts (operand_name n k) p s
      known = record { operand = holding.holds.among; starts = starts }

      input_good : p.mode ≡ Input → IsGood m i s p
      input_good e w = absurd (true≢false (sym w ∙ ap writes e))

      input_after : (mode : Mode) → p.mode ≡ mode → mode ≡ Input → bytes_after m i s p ≡ bytes_before s p
      input_after Input e is =
          ap (λ b. cond b (bytes_of (end_of_started i m.limits s).memory p.object) (bytes_before s p)) (ap writes e)
      input_after Output e is = absurd (cc)
      input_after Inout e is = absurd (cc)

      by_age : p.mode ≡ Input → IsArrival ts S version state (operand_name n k)
          → (version ≡ operand_name n k) ⊎ (version.task < n) → content S state.object storage ≡ bytes_before s p
      by_age e arrival (inl own) =
          stored.produced (operand_name n k) state storage p s (ap (get S.versions) (sym own) ∙ there)
          (made (ap writes e)) stands known (input_good e)
          ∙ input_after p.mode refl e
      by_age e arrival (inr older) =
          let q = control.chains.opener version state there in
          let same = q.2 ∙ holding.holds.told.object in
          let f = finds version (operand_name n k) q.0 p s q.1 (inl (state, there, sym q.2)) known same older
          (subst (λ z. NoWriterBetween ts z version (operand_name n k)) holding.holds.told.object arrival.alone) in
          stored.produced version state storage q.0 f.0 there (made (ap writes e)) stands
          (record { operand = q.1; starts = f.1 }) f.2
          ∙ f.3

      by_mode : (mode : Mode) → p.mode ≡ mode → reads mode ≡ true
          → content S state.object storage ≡ bytes_before s p
      by_mode Input e read =
          let arrival = (control.readers.versions version state there).each (operand_name n k)
          (own_read (ap writes e)) in
          by_age e arrival arrival.younger
      by_mode Output e read = absurd (true≢false (sym read))
      by_mode Inout e read =
          stored.awaited (operand_name n k) state storage p s
          (ap (get S.versions) (sym (own_written (ap writes e))) ∙ there) stands known e (inr holding.ready) queued_idle

      -- an operand that reads finds what program order has right before the task
      pub finds_value : reads p.mode ≡ true → content S p.object storage ≡ bytes_before s p
      finds_value read =
          ap (λ z. content S z storage) (sym holding.holds.told.object) ∙ by_mode p.mode refl read
