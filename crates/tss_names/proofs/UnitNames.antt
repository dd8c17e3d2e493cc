-- The workers, the renaming tables and the copy engines keep a fact of each name, and send messages of which it holds.
use Rattle.std.proofs.Common.{◌≡◌, ℕ, zero, suc, ◌+◌, ◌-◌, Bool, true, false, if◌then◌else◌, List, [], ◌∷◌, Option}
use Rattle.std.proofs.Common.{Some, None, refl}
use Rattle.std.specs.Prelude.{nat_le}
use Rattle.std.specs.FinMap.{get, insert, remove}
use Rattle.tss_base.specs.declared.range.Range.{Range}
use Rattle.tss_base.specs.declared.operand.OpName.{OpName}
use Rattle.tss_base.specs.declared.operand.Mode.{Mode}
use Rattle.tss_base.specs.declared.operand.Mode.TheVariants.{Input, Output, Inout}
use Rattle.tss_base.specs.declared.operand.Operand.{Operand}
use Rattle.tss_base.specs.declared.machine.Limits.{Limits}
use Rattle.tss_base.specs.Names.{Named, Numbered}
use Rattle.tss_base.specs.Image.{SegmentState}
use Rattle.tss_maps.proofs.Keys.{nat_order, name_order}
use Rattle.tss_model.specs.Memory.{covers, scratch_range, zeros, list_put}
use Rattle.tss_model.specs.Access.{Actor, reads}
use Rattle.tss_model.specs.Core.{Write, Stepped, Executed, Called, Ended, Trapped, Touched, core_step}
use Rattle.tss_model.specs.Memory.{code_word}
use Rattle.tss_base.specs.declared.causes.TheConstants.{BUDGET_SPENT}
use Rattle.tss_model.specs.Registers.{trap_of}
use Rattle.tss_model.specs.TaskRun.{TaskState, is_over, repeated, task_byte, task_write, task_trapped, task_on}
use Rattle.tss_model.specs.TaskRun.{task_step}
use Rattle.tss_protocol.specs.Mail.{StorageName, Home, Buffer}
use Rattle.tss_protocol.specs.State.{Entry, CopyState}
use Rattle.tss_protocol.specs.Workers.{Stores, Placed, placed_in, placed_at, storage_write, write_in, worker_write}
use Rattle.tss_protocol.specs.Workers.{storage_zeroed, outputs_zeroed}
use Rattle.tss_protocol.specs.Renaming.{live_entry, entry_after_decode, live_message, decode_message, sent_by_decode}
use Rattle.tss_protocol.specs.Renaming.{retiring_entry, idle_by, buffers_after_gone}
use Rattle.tss_protocol.specs.Buffers.{contents_after_gone, sent_by_retire, new_copy, copies_after_retire, piece_len}
use Rattle.tss_protocol.specs.Buffers.{copies_after_copy, sent_by_copy}
use Rattle.tss_names.specs.Names.{WhereThere, EachEntry, EachOf, StorageNames, MessageNames}
use Rattle.tss_protocol.proofs.SentLemmas.{AllSent}
use Rattle.tss_names.proofs.NameLemmas.{each_inserted, each_removed}

-- ---- a task's view of memory, whatever it is

-- a fact that each write keeps, a stretch keeps
module _ {M : Type 0} (byte : M → ℕ → ℕ) (write : M → Write → M) (budget : ℕ) (code : List SegmentState) (actor : Actor)
    (J : M → Type 0) (keeps : (v : M) (w : Write) → J v → J (write v w)) where
  memory_written : (s : TaskState M) (w : Option Write) → J s.memory → J (task_write write s w).memory
  memory_written s None h = h
  memory_written s (Some w) h =
      elim (covers scratch_range w.at)
      as (λ b. J (if b then record s { scratch = list_put s.scratch (w.at - scratch_range.base) w.bytes }
      else record s { memory = write s.memory w }).memory) [
        | true ↦ h
        | false ↦ keeps s.memory w h
      ]

  memory_on : (s : TaskState M) (x : Stepped) → J s.memory → J (task_on write s x).memory
  memory_on s (Executed r w) h = memory_written s w h
  memory_on s Called h = h
  memory_on s Ended h = h
  memory_on s (Trapped t) h = h
  memory_on s Touched h = h

  memory_step : (s : TaskState M) → J s.memory → J (task_step byte write budget code actor s).memory
  unfolding task_step
  memory_step s h = by (is_over s) (nat_le budget s.registers.done)
    where
      by : (a b : Bool)
          → J (if a then s
          else if b then task_trapped s (trap_of s.registers BUDGET_SPENT 0)
          else task_on write s (core_step actor (task_byte byte s) (code_word code) s.registers)).memory
      by true b = h
      by false true = h
      by false false = memory_on s (core_step actor (task_byte byte s) (code_word code) s.registers) h

  -- so a stretch keeps it
  pub memory_stretch : (n : ℕ) (s : TaskState M) → J s.memory
      → J (repeated (task_step byte write budget code actor) n s).memory
  unfolding repeated
  memory_stretch zero s h = h
  memory_stretch (suc n) s h = memory_stretch n (task_step byte write budget code actor s) (memory_step s h)

-- ---- contents of buffers

module _ (P E : OpName → Type 0) where
  -- of those in the contents of the buffers
  abbrev pub ContentsNames : Named (List ℕ) → Type 0
  ContentsNames contents = EachEntry (λ n bytes. P n) contents

  names_zeroed : (limits : Limits) (s : Stores) (object : Range) (storage : StorageName) → ContentsNames s.contents
      → StorageNames P storage → ContentsNames (storage_zeroed limits s object storage).contents
  names_zeroed limits s object Home each name = each
  names_zeroed limits s object (Buffer n) each name =
      each_inserted name_order (λ n bytes. P n) s.contents n (zeros limits.object_bytes) each name

  -- the buffers of outputs become zeros
  pub names_outputs_zeroed : (limits : Limits) (s : Stores) (os : List Operand) (ss : List StorageName)
      → ContentsNames s.contents → EachOf (StorageNames P) ss → ContentsNames (outputs_zeroed limits s os ss).contents
  names_outputs_zeroed limits s [] ss each names = each
  names_outputs_zeroed limits s (o ∷ os) [] each names = each
  names_outputs_zeroed limits s (o ∷ os) (storage ∷ ss) each names =
      let rest = outputs_zeroed limits s os ss in
      let before = names_outputs_zeroed limits s os ss each (λ i. names (suc i)) in
      elim (reads o.mode)
      as (λ b. ContentsNames (if b then rest else storage_zeroed limits rest o.object storage).contents) [
        | true ↦ before
        | false ↦ names_zeroed limits rest o.object storage before (names 0 storage refl)
      ]

  names_found : (os : List Operand) (ss : List StorageName) (a : ℕ) → EachOf (StorageNames P) ss
      → WhereThere (λ (p : Placed). StorageNames P p.storage) (placed_at (placed_in os ss) a)
  names_found [] ss a names = tt
  names_found (o ∷ os) [] a names = tt
  names_found (o ∷ os) (s ∷ ss) a names =
      elim (covers o.object a)
      as (λ b. WhereThere (λ (p : Placed). StorageNames P p.storage)
      (if b then Some (record { object = o.object; storage = s }) else placed_at (placed_in os ss) a)) [
        | true ↦ names 0 s refl
        | false ↦ names_found os ss a (λ i. names (suc i))
      ]

  names_written_to : (s : Stores) (object : Range) (storage : StorageName) (w : Write) → ContentsNames s.contents
      → StorageNames P storage → ContentsNames (storage_write s object storage w).contents
  names_written_to s object Home w each name = each
  names_written_to s object (Buffer n) w each name =
      each_inserted name_order (λ n bytes. P n) s.contents n _ each name

  names_written_in : (s : Stores) (p : Option Placed) (w : Write) → ContentsNames s.contents
      → WhereThere (λ (p : Placed). StorageNames P p.storage) p → ContentsNames (write_in s p w).contents
  names_written_in s None w each name = each
  names_written_in s (Some p) w each name = names_written_to s p.object p.storage w each name

  -- a worker writes to its storages
  pub names_written : (os : List Operand) (ss : List StorageName) → EachOf (StorageNames P) ss
      → (s : Stores) (w : Write)
      → ContentsNames s.contents → ContentsNames (worker_write (placed_in os ss) s w).contents
  names_written os ss names s w each =
      names_written_in s (placed_at (placed_in os ss) w.at) w each (names_found os ss w.at names)

  -- ---- decode

  -- of each entry's latest version
  abbrev pub EntriesNames : Numbered Entry → Type 0
  EntriesNames entries = EachEntry (λ base e. P e.latest) entries

  -- of each held place, or buffer
  abbrev pub HeldNames : Named ℕ → Type 0
  HeldNames held = EachEntry (λ v bank. P v) held

  module _ (o : OpName) (name : P o) where
    names_live_entry : (e : Entry) (mode : Mode) → P e.latest → P (live_entry o e mode).latest
    names_live_entry e Input latest = latest
    names_live_entry e Output latest = name
    names_live_entry e Inout latest = name

    -- the object's entry after a decode
    pub names_entry : (operand : Operand) (e : Option Entry) → WhereThere (λ (e : Entry). P e.latest) e
        → P (entry_after_decode o operand e).latest
    names_entry operand None latest = name
    names_entry operand (Some e) latest = names_live_entry e operand.mode latest

    -- one more place or buffer, where it is taken
    pub names_held : (held : Named ℕ) (bank : ℕ) (takes : Bool) → HeldNames held
        → HeldNames (if takes then insert held o bank else held)
    names_held held bank true each = each_inserted name_order (λ v bank. P v) held o bank each name
    names_held held bank false each = each

    names_live_message : (operand : Operand) (e : Entry) (mode : Mode) → P e.latest
        → MessageNames P E (live_message o operand e mode)
    names_live_message operand e Input latest = (name, latest)
    names_live_message operand e Output latest = (name, name, latest)
    names_live_message operand e Inout latest = (name, tt, latest)

    names_decode_message : (operand : Operand) (e : Option Entry) → WhereThere (λ (e : Entry). P e.latest) e
        → MessageNames P E (decode_message o operand e)
    names_decode_message operand None latest = (name, tt, tt)
    names_decode_message operand (Some e) latest = names_live_message operand e operand.mode latest

    -- what decode sends
    pub names_sent_by_decode : (operand : Operand) (e : Option Entry) → WhereThere (λ (e : Entry). P e.latest) e
        → AllSent (MessageNames P E) (sent_by_decode o operand e)
    names_sent_by_decode operand e latest = (names_decode_message operand e latest, (name, tt))

  -- what stands at a key
  pub latest_at : (entries : Numbered Entry) → EntriesNames entries → (base : ℕ) (e : Option Entry)
      → get entries base ≡ e → WhereThere (λ (e : Entry). P e.latest) e
  latest_at entries each base None is = tt
  latest_at entries each base (Some e) is = each base e is

  -- ---- idle, gone

  names_retiring : (entries : Numbered Entry) (base : ℕ) (e : Option Entry) → get entries base ≡ e
      → EntriesNames entries → EntriesNames (retiring_entry entries base e)
  names_retiring entries base None is each = each
  names_retiring entries base (Some e) is each =
      each_inserted nat_order (λ base (e : Entry). P e.latest) entries base (record e { retiring = true }) each
      (each base e is)

  -- what idle leaves
  pub names_idle_by : (entries : Numbered Entry) (v : OpName) (base : ℕ) (may : Bool) → EntriesNames entries → E v
      → EntriesNames (idle_by entries v base (get entries base) may).part
      × AllSent (MessageNames P E) (idle_by entries v base (get entries base) may).sent
  names_idle_by entries v base true each name =
      (names_retiring entries base (get entries base) refl each, (name, tt))
  names_idle_by entries v base false each name = (each, (name, tt))

  -- the buffers after gone
  pub names_buffers_gone : (buffers : Named ℕ) (b : Option OpName) → HeldNames buffers
      → HeldNames (buffers_after_gone buffers b)
  names_buffers_gone buffers None each = each
  names_buffers_gone buffers (Some b) each = each_removed name_order (λ v bank. P v) buffers b each

  -- their contents
  pub names_contents_gone : (contents : Named (List ℕ)) (b : Option OpName) → ContentsNames contents
      → ContentsNames (contents_after_gone contents b)
  names_contents_gone contents None each = each
  names_contents_gone contents (Some b) each = each_removed name_order (λ n bytes. P n) contents b each

  -- the entries
  pub names_entries_gone : (entries : Numbered Entry) (base : ℕ) (retired : Bool) → EntriesNames entries
      → EntriesNames (if retired then remove entries base else entries)
  names_entries_gone entries base true each = each_removed nat_order (λ base (e : Entry). P e.latest) entries base each
  names_entries_gone entries base false each = each

  -- ---- retire, copy

  -- of each copy's version and buffer
  abbrev pub CopiesNames : Numbered CopyState → Type 0
  CopiesNames copies = EachEntry (λ bank c. E c.version × P c.buffer) copies

  -- what retire leaves of the copies, and sends
  pub names_copies_retired : (copies : Numbered CopyState) (bank : ℕ) (v : OpName) (object : Range)
      (storage : Option StorageName) → CopiesNames copies → E v → WhereThere (StorageNames P) storage
      → CopiesNames (copies_after_retire copies bank v object storage)
      × AllSent (MessageNames P E) (sent_by_retire v object storage)
  names_copies_retired copies bank v object None each name there = (each, tt)
  names_copies_retired copies bank v object (Some Home) each name there = (each, ((name, tt), tt))
  names_copies_retired copies bank v object (Some (Buffer n)) each name there = (
    each_inserted nat_order (λ bank (c : CopyState). E c.version × P c.buffer) copies bank (new_copy v object n) each
        (name, there),
    tt,
  )

  -- what copy leaves, and sends
  pub names_copied : (copies : Numbered CopyState) (bank : ℕ) (c : CopyState) (last : Bool) → CopiesNames copies
      → E c.version × P c.buffer
      → CopiesNames (copies_after_copy copies bank c last) × AllSent (MessageNames P E) (sent_by_copy c last)
  names_copied copies bank c true each names = (
    each_removed nat_order (λ bank (c : CopyState). E c.version × P c.buffer) copies bank each,
    (names, tt),
  )
  names_copied copies bank c false each names = (
    each_inserted nat_order (λ bank (c : CopyState). E c.version × P c.buffer) copies bank
        (record c { moved = c.moved + piece_len c }) each names,
    tt,
  )
