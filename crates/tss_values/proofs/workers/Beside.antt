-- Workers stand where program order has their tasks after main's event, a copy and a gone, and after the start of
-- another.
use Rattle.std.proofs.Common.{◌≡◌, ◌≢◌, ℕ, ◌≤◌, true, false, List, length, Option, Some, None, refl, sym, ap, ◌∙◌}
use Rattle.std.proofs.Common.{subst, inl}
use Rattle.std.specs.Prelude.{◌-◌, slice_index}
use Rattle.std.specs.FinMap.{get}
use Rattle.tss_base.specs.declared.operand.OpName.{OpName}
use Rattle.tss_base.specs.declared.operand.Operand.{Operand}
use Rattle.tss_base.specs.declared.machine.Machine.{Machine}
use Rattle.tss_base.specs.declared.event.Event.TheVariants as event
use Rattle.tss_base.specs.declared.marks.Stage.TheVariants as stage
use Rattle.tss_base.specs.Image.{ImageState}
use Rattle.tss_base.specs.Names.{Named, Numbered}
use Rattle.tss_model.specs.Memory.{covers, byte_at}
use Rattle.tss_model.specs.Access.{operands_of}
use Rattle.tss_protocol.specs.Mail.{StorageName, Home, Buffer, Source, GoneContents}
use Rattle.tss_protocol.specs.State.{State, Flying, Busy, CopyState}
use Rattle.tss_protocol.specs.Stations.{is_complete, storages_of}
use Rattle.tss_protocol.specs.Buffers.{buffer_bytes, contents_after_gone}
use Rattle.tss_protocol.specs.Workers.{Stores, placed_in, storage_byte, outputs_zeroed}
use Rattle.tss_protocol.specs.UnitMachine.{stores_of, after_event, after_copy, gone_message_taken, without}
use Rattle.tss_locality.proofs.LeftFields.{Leaves-after_event}
use Rattle.tss_program_order.proofs.FlatFixed.{IsFixed}
use Rattle.tss_program_order.proofs.RunKeeps.{after_event-ground, outputs_zeroed-ranges}
use Rattle.tss_values.proofs.room.Stores.{bytes_beside_gone}
use Rattle.tss_values.proofs.storages.Shares.{HoldsStorage, version_not_gone}
use Rattle.tss_values.proofs.storages.Homes.{not_copied_home}
use Rattle.tss_program_order.proofs.StoreStart.{room_stays}
use Rattle.tss_program_order.proofs.StoreFrames.{copy-beside, outputs_zeroed-left}
use Rattle.tss_values.proofs.Values.{HasReturns}
use Rattle.tss_values.proofs.returns.Copy.{objects_apart, copy_object}
use Rattle.tss_values.proofs.returns.Main.{main_at_home}
use Rattle.tss_values.proofs.workers.Apart.{task_separate, holder_beside}
use Rattle.tss_values.proofs.workers.Runs.{SameFixed, AllRun, LeavesHeld, runs_left}
use Rattle.tss_values.proofs.WorkerFacts.{WorkerFacts}
use Rattle.tss_values.proofs.LiveObjects.{going_named}
use Rattle.tss_values.proofs.workers.Hold.{holder_named}

module _ (m : Machine) (i : ImageState) (S : State) (work : WorkerFacts m i S) where
  open work use {facts, buffers, workers, basis, all, ts, g, ground}

  -- ---- home changes

  -- what an operand holds stays where its object stays at home
  leaves_home : (x : Stores) (n : ℕ) → x.home.ranges ≡ S.home.ranges → x.contents ≡ S.contents
      → ((q : OpName) (r : Operand) (t : Source) → HoldsStorage ts g S q r t → t.storage ≡ Home → (a : ℕ)
      → covers r.object a ≡ true → byte_at x.home a ≡ byte_at S.home a)
      → ((a : ℕ) → IsFixed i a → byte_at x.home a ≡ byte_at S.home a)
      → LeavesHeld m i S work x n
  leaves_home x n ranges contents home fixed = record {
    ranges = ranges;
    long = λ q r t b l same is short room.
        subst (λ (c : Named (List ℕ)). r.object.len ≤ length (buffer_bytes c b)) (sym contents) room;
    bytes = λ q r t l same a inside. by q r t l a inside t.storage refl;
    fixed = fixed;
  }
    where
      by : (q : OpName) (r : Operand) (t : Source) → HoldsStorage ts g S q r t → (a : ℕ) → covers r.object a ≡ true
          → (st : StorageName) → t.storage ≡ st
          → storage_byte x r.object st a ≡ storage_byte (stores_of S) r.object st a
      by q r t l a inside Home e = home q r t l e a inside
      by q r t l a inside (Buffer b) e =
          ap (λ (c : Named (List ℕ)). storage_byte (record { home = x.home; contents = c }) r.object (Buffer b) a)
          contents

  -- ---- main

  -- main's event
  pub runs_main : SameFixed i S (after_event m S event.Main) → AllRun m i (after_event m S event.Main)
  runs_main fixed w b there =
      let left = Leaves-after_event m S event.Main in
      let before = ap (λ (ws : Numbered Busy). get ws w) (sym (λ j. (left j).workers)) ∙ there in
      runs_left m i S work w b before
      (stores_of (after_event m S event.Main))
      (leaves_home (stores_of (after_event m S event.Main)) b.task.number (after_event-ground m S event.Main).ranges
      (λ j. (left j).contents)
      (λ q r t l e a inside. main_at_home m S r.object (holder_named m S facts q r t l) a inside) fixed)

  -- ---- copy

  module _ (returns : HasReturns m i ts S) (k : ℕ) (c : CopyState) (at : get S.copies k ≡ Some c) where
    copy_apart : (q : OpName) (r : Operand) (t : Source) → HoldsStorage ts g S q r t → (a : ℕ)
        → covers r.object a ≡ true → covers c.object a ≡ false
    copy_apart q r t l a inside =
        objects_apart m S basis r.object c.object (holder_named m S facts q r t l)
        (going_named m S facts c.version c.object (copy_object m S basis k c at) (inl (k, c, at, refl, refl)))
        (λ same. not_copied_home m S facts t.version l.told.version l.told.there k c at
        (sym same ∙ sym l.told.object)) a inside

    copied : SameFixed i S (after_copy S k (Some c)) → AllRun m i (after_copy S k (Some c))
    copied fixed w b there =
        runs_left m i S work w b there (stores_of (after_copy S k (Some c)))
        (leaves_home (stores_of (after_copy S k (Some c))) b.task.number refl refl
        (λ q r t l e a inside.
        copy-beside S.home c (buffer_bytes S.contents c.buffer) a (returns.within k c at)
        (copy_apart q r t l a inside)) fixed)

  copy_by : HasReturns m i ts S → (k : ℕ) (c : Option CopyState) → get S.copies k ≡ c
      → SameFixed i S (after_copy S k c) → AllRun m i (after_copy S k c)
  copy_by returns k None at fixed = λ w b there s starts. workers.runs w b s there starts
  copy_by returns k (Some c) at fixed = copied returns k c at fixed

  -- a copy
  pub runs_copy : HasReturns m i ts S → (k : ℕ) → SameFixed i S (after_event m S (event.Copy k))
      → AllRun m i (after_event m S (event.Copy k))
  unfolding after_event
  runs_copy returns k fixed = copy_by returns k (get S.copies k) refl fixed

  -- ---- gone

  module _ (v : OpName) (c : GoneContents) (at : get S.mail.gones v ≡ Some c) where
    abbrev Gone : Stores
    Gone = record { home = S.home; contents = contents_after_gone S.contents c.buffer }

    not_freed : (q : OpName) (r : Operand) (t : Source) (b : OpName) → HoldsStorage ts g S q r t
        → t.storage ≡ Buffer b → c.buffer ≡ Some b → ⊥
    not_freed q r t b l is freed =
        version_not_gone m all ts S ground.places buffers t.version v b
        (l.told.version, l.told.there, l.told.storage ∙ ap Some is) (c, at, freed)

    leaves_gone : (n : ℕ) → LeavesHeld m i S work Gone n
    leaves_gone n = record {
      ranges = refl;
      long = λ q r t b l same is short room.
          subst (λ (xs : List ℕ). r.object.len ≤ length xs)
          (sym (bytes_beside_gone S.contents c.buffer b (not_freed q r t b l is))) room;
      bytes = λ q r t l same a inside. by q r t l a t.storage refl;
      fixed = λ a fixed. refl;
    }
      where
        by : (q : OpName) (r : Operand) (t : Source) → HoldsStorage ts g S q r t → (a : ℕ) → (st : StorageName)
            → t.storage ≡ st → storage_byte Gone r.object st a ≡ storage_byte (stores_of S) r.object st a
        by q r t l a Home e = refl
        by q r t l a (Buffer b) e =
            ap (λ (xs : List ℕ). slice_index xs (a - r.object.base))
            (bytes_beside_gone S.contents c.buffer b (not_freed q r t b l e))

    freed : AllRun m i (gone_message_taken (without S (event.Gone v)) v (Some c))
    freed w b there =
        runs_left m i S work w b there Gone (leaves_gone b.task.number)

  gone_by : (v : OpName) (c : Option GoneContents) → get S.mail.gones v ≡ c
      → AllRun m i (gone_message_taken (without S (event.Gone v)) v c)
  gone_by v None at = λ w b there s starts. workers.runs w b s there starts
  gone_by v (Some c) at = freed v c at

  -- a gone
  pub runs_gone : (v : OpName) → AllRun m i (after_event m S (event.Gone v))
  unfolding after_event
  runs_gone v = gone_by v (get S.mail.gones v) refl

  -- ---- a start of another

  module _ (n : ℕ) (x : Flying) (flies : get S.flight n ≡ Some x) (complete : is_complete x ≡ true)
      (unfinished : x.stage ≡ stage.Finished → ⊥) where
    abbrev Started : Stores
    Started = outputs_zeroed m.limits (stores_of S) (operands_of x.task) (storages_of x)

    -- a byte of what an operand of another task holds
    started_byte : (q : OpName) (r : Operand) (t : Source) → HoldsStorage ts g S q r t → q.task ≢ n → (a : ℕ)
        → covers r.object a ≡ true
        → storage_byte Started r.object t.storage a ≡ storage_byte (stores_of S) r.object t.storage a
    started_byte q r t l apart a inside =
        outputs_zeroed-left m.limits (stores_of S) (operands_of x.task) (storages_of x) r.object t.storage a
        (holder_beside m S facts buffers n x flies complete unfinished q r t l apart a inside)

    -- what the worker of another task holds is left
    pub leaves_started : ((a : ℕ) → IsFixed i a → byte_at Started.home a ≡ byte_at S.home a) → (k : ℕ) → k ≢ n
        → LeavesHeld m i S work Started k
    leaves_started fixed k apart = record {
      ranges = outputs_zeroed-ranges m.limits (stores_of S) (operands_of x.task) (storages_of x);
      long = λ q r t b l same is short room.
          room_stays (placed_in (operands_of x.task) (storages_of x))
          (task_separate m S facts buffers n x flies complete unfinished) m.limits (stores_of S)
          S.home (operands_of x.task) (storages_of x) b r.object.len short room;
      bytes = λ q r t l same a inside. started_byte q r t l (λ is. apart (sym same ∙ is)) a inside;
      fixed = fixed;
    }
