-- No bank has more entries, places and buffers in use than there are.
use Rattle.std.proofs.Common.{◌≡◌, ℕ, zero, suc, ◌+◌, ◌<◌, ◌≤◌, inl, inr, Bool, true, false, List, [], ◌∷◌, Option}
use Rattle.std.proofs.Common.{Some, None, refl, sym, ap, arith, true≢false}
use Rattle.std.specs.Prelude.{◌==◌, nat_le, if◌then◌else◌, is_none}
use Rattle.std.specs.FinMap.{get, insert, remove}
use Rattle.std.proofs.lemmas.Bool.{leb-false}
use Rattle.std.proofs.lemmas.Bool.Decides.{nat_tests}
use Rattle.std.specs.declared.cmp.Ordering.{Ordering}
use Rattle.std.specs.FinMap.{FinMap}
use Rattle.tss_base.specs.declared.operand.OpName.{OpName}
use Rattle.tss_base.specs.declared.operand.Mode.{Mode}
use Rattle.tss_base.specs.declared.operand.Mode.TheVariants.{Input, Output, Inout}
use Rattle.tss_base.specs.declared.operand.Operand.{Operand}
use Rattle.tss_base.specs.declared.operand.Task.{Task}
use Rattle.tss_base.specs.declared.machine.Sizes.{Sizes}
use Rattle.tss_base.specs.declared.machine.Machine.{Machine}
use Rattle.tss_base.specs.declared.event.Event.TheVariants as event
use Rattle.tss_base.specs.Names.{Named, Numbered}
use Rattle.tss_base.specs.Image.{ImageState}
use Rattle.tss_maps.specs.Sums.{count_of, one_if}
use Rattle.tss_maps.proofs.Keys.{IsKeyOrder, nat_order, name_order}
use Rattle.tss_maps.proofs.Changes.{decide_get, absent_removed}
use Rattle.tss_maps.proofs.Entries.{len_below}
use Rattle.tss_maps.proofs.Sums.{sum_inserted, sum_added, sum_written, sum_removed, sum_empty}
use Rattle.tss_model.specs.MainStep.{MainState, Call, main_call}
use Rattle.tss_protocol.specs.Names.{bank_of}
use Rattle.tss_protocol.specs.Mail.{Source, OpenContents, ReleaseContents, IdleContents, GoneContents}
use Rattle.tss_protocol.specs.State.{State, Flying, Busy, Entry, Version, CopyState, initial_state}
use Rattle.tss_protocol.specs.Stations.{tasks_in}
use Rattle.tss_protocol.specs.Renaming.{Fill, Tables, entries_in, places_in, buffers_in, fill_of, line_of, has_earlier}
use Rattle.tss_protocol.specs.Renaming.{Wait, Turn, wait_or, EntriesFull, VersionsFull, BuffersFull, Retiring}
use Rattle.tss_protocol.specs.Renaming.{needs_place, needs_buffer, live_wait, decode_wait, can_decode, live_entry}
use Rattle.tss_protocol.specs.Renaming.{entry_after_decode, takes_place, takes_buffer, after_decode, may_retire}
use Rattle.tss_protocol.specs.Renaming.{retiring_entry, idle_by, buffers_after_gone, after_gone}
use Rattle.tss_protocol.proofs.TurnLemmas.{waits_for_neither}
use Rattle.tss_protocol.specs.Counts.{greatest}
use Rattle.tss_protocol.specs.MainEvent.{call_next, main_by, after_call}
use Rattle.tss_protocol.specs.UnitMachine.{is_enabled, after_event, tables_of, without, after_take, can_decode_message}
use Rattle.tss_protocol.specs.UnitMachine.{decode_message_taken, open_message_taken, use_message_taken}
use Rattle.tss_protocol.specs.UnitMachine.{ready_message_taken, link_message_taken, after_start, start_task, after_exec}
use Rattle.tss_protocol.specs.UnitMachine.{after_finish, release_message_taken, bye_message_taken, idle_message_taken}
use Rattle.tss_protocol.specs.UnitMachine.{retire_version, after_copy, gone_message_taken}
use Rattle.tss_names.specs.Tasks.{TasksFact}
use Rattle.tss_names.specs.Tables.{TablesLaw}
use Rattle.tss_names.proofs.RunLemmas.{IsKept, kept_after}
use Rattle.tss_names.proofs.SlotLemmas.{slots_of_runs}
use Rattle.tss_names.proofs.StageEvents.{stages_of_runs}

-- in each bank
pub record AreWithinBanks (sizes : Sizes) (t : Tables) : Type 0 where
  pub entries : (bank : ℕ) → entries_in sizes bank t.entries ≤ sizes.entries
  pub places : (bank : ℕ) → places_in bank t.places ≤ sizes.versions
  pub buffers : (bank : ℕ) → buffers_in bank t.buffers ≤ sizes.buffers

-- ---- room

-- nothing is waited for
waits_not : (b : Bool) (w : Wait) (rest : Option Wait) → is_none (wait_or b w rest) ≡ true
    → (b ≡ false) × (is_none rest ≡ true)
waits_not true w rest e = absurd (true≢false (sym e))
waits_not false w rest e = (refl, e)

-- where an operand can be decoded there is room for what it takes
module _ (sizes : Sizes) (f : Fill) where
  room_entry : (mode : Mode) → is_none (decode_wait sizes f None mode) ≡ true
      → (f.entries < sizes.entries) × (f.places < sizes.versions)
  room_entry mode e =
      let a = waits_not (nat_le sizes.entries f.entries) EntriesFull (needs_place sizes f None) e in
      let b = waits_not (nat_le sizes.versions f.places) VersionsFull None a.1 in
      (leb-false _ _ a.0, leb-false _ _ b.0)

  room_live : (mode : Mode) → is_none (live_wait sizes f mode) ≡ true → (e : Entry)
      → (takes_place (Some e) mode ≡ true → f.places < sizes.versions)
      × (takes_buffer (Some e) mode ≡ true → f.buffers < sizes.buffers)
  room_live Input on e = ((λ t. absurd (true≢false (sym t))), (λ t. absurd (true≢false (sym t))))
  room_live Output on e =
      let a = waits_not (nat_le sizes.versions f.places) VersionsFull (needs_buffer sizes f None) on in
      let b = waits_not (nat_le sizes.buffers f.buffers) BuffersFull None a.1 in
      ((λ t. leb-false _ _ a.0), (λ t. leb-false _ _ b.0))
  room_live Inout on e =
      let a = waits_not (nat_le sizes.versions f.places) VersionsFull None on in
      ((λ t. leb-false _ _ a.0), (λ t. absurd (true≢false (sym t))))

  room_place : (entry : Option Entry) (mode : Mode) → is_none (decode_wait sizes f entry mode) ≡ true
      → (takes_place entry mode ≡ true → f.places < sizes.versions)
      × (takes_buffer entry mode ≡ true → f.buffers < sizes.buffers)
  room_place None mode on = ((λ t. (room_entry mode on).1), (λ t. absurd (true≢false (sym t))))
  room_place (Some e) mode on =
      room_live mode (waits_not e.retiring Retiring (live_wait sizes f mode) on).1 e

-- ---- counts

-- one more in a bank that has room
one_more : (count : ℕ → ℕ) (more bank b size : ℕ) → count b ≤ size → count bank < size
    → more ≤ count b + one_if (bank == b) → more ≤ size
one_more count more bank b size within room most = by (bank == b) refl
  where
    by : (t : Bool) → (bank == b) ≡ t → more ≤ size
    by true e =
        let same : bank ≡ b = grind (arith, nat_tests) in
        let here = ap count same in
        let one = ap one_if e in
        omega (arith, here, one, room, most)
    by false e = let none = ap one_if e in omega (arith, none, within, most)

-- what is held with one more
held_more : (held : Named ℕ) (o : OpName) (bank : ℕ) (takes : Bool) (size : ℕ)
    → ((b : ℕ) → count_of (λ (v : OpName) c. c == b) held ≤ size)
    → (takes ≡ true → count_of (λ (v : OpName) c. c == bank) held < size) → (b : ℕ)
    → count_of (λ (v : OpName) c. c == b) (if takes then insert held o bank else held) ≤ size
held_more held o bank false size within room b = within b
held_more held o bank true size within room b =
    let more = sum_inserted name_order (λ (v : OpName) c. one_if (c == b)) held o bank in
    one_more (λ b. count_of (λ (v : OpName) c. c == b) held) (count_of (λ (v : OpName) c. c == b) (insert held o bank))
    bank b size (within b) (room refl) (omega (arith, more))

-- with one less
module _ {K X : Type 0} {R : K → K → Ordering} (order : IsKeyOrder R) (p : K → X → Bool) where
  count_less : (m : FinMap R X) (k : K) → count_of p (remove m k) ≤ count_of p m
  count_less m k = elim (decide_get m k) [
    | inl none ↦ let same = ap (count_of p) (absent_removed order m k none) in omega (arith, same)
    | inr there ↦ let less = sum_removed order (λ k x. one_if (p k x)) m k there.0 there.1 in omega (arith, less)
  ]

-- an entry that is written over with one of the same object
entries_written : (sizes : Sizes) (entries : Numbered Entry) (base : ℕ) (e f : Entry) → get entries base ≡ Some e
    → f.object ≡ e.object → (b : ℕ) → entries_in sizes b (insert entries base f) ≡ entries_in sizes b entries
entries_written sizes entries base e f there same b =
    let ones : ℕ → Entry → ℕ = λ base e. one_if (bank_of sizes e.object == b) in
    let w = sum_written nat_order ones entries base e f there in
    let weight = ap (λ o. one_if (bank_of sizes o == b)) same in
    omega (arith, w, weight)

object-live : (o : OpName) (e : Entry) (mode : Mode) → (live_entry o e mode).object ≡ e.object
object-live o e Input = refl
object-live o e Output = refl
object-live o e Inout = refl

-- ---- events

module _ (sizes : Sizes) (t : Tables) (h : AreWithinBanks sizes t) where
  entries_decoded : (o : OpName) (operand : Operand) (entry : Option Entry)
      → get t.entries operand.object.base ≡ entry
      → is_none (decode_wait sizes (fill_of sizes t (bank_of sizes operand.object)) entry operand.mode) ≡ true → (b : ℕ)
      → entries_in sizes b (insert t.entries operand.object.base (entry_after_decode o operand entry)) ≤ sizes.entries
  entries_decoded o operand None e on b =
      let new = entry_after_decode o operand None in
      let more = sum_added nat_order (λ (base : ℕ) (e : Entry). one_if (bank_of sizes e.object == b)) t.entries
      operand.object.base new e in
      let room = (room_entry sizes (fill_of sizes t (bank_of sizes operand.object)) operand.mode on).0 in
      one_more (λ b. entries_in sizes b t.entries) (entries_in sizes b (insert t.entries operand.object.base new))
      (bank_of sizes operand.object) b sizes.entries (h.entries b) room (omega (arith, more))
  entries_decoded o operand (Some f) e on b =
      let same = entries_written sizes t.entries operand.object.base f (live_entry o f operand.mode) e
      (object-live o f operand.mode) b in
      let within = h.entries b in
      omega (arith, same, within)

  within_decoded : (decodes : Named Operand) (o : OpName) (operand : Operand)
      → can_decode sizes t decodes o operand ≡ true
      → AreWithinBanks sizes (after_decode sizes t o operand).part
  within_decoded decodes o operand on =
      let bank = bank_of sizes operand.object in
      let entry = get t.entries operand.object.base in
      let free = (waits_for_neither (has_earlier o (line_of sizes bank decodes)) Turn
      (decode_wait sizes (fill_of sizes t bank) entry operand.mode) on).1 in
      let room = room_place sizes (fill_of sizes t bank) entry operand.mode free in
      record {
        entries = entries_decoded o operand entry refl free;
        places = held_more t.places o bank (takes_place entry operand.mode) sizes.versions h.places room.0;
        buffers = held_more t.buffers o bank (takes_buffer entry operand.mode) sizes.buffers h.buffers room.1;
      }

  within_retiring : (base : ℕ) (e : Option Entry) → get t.entries base ≡ e
      → AreWithinBanks sizes (record t { entries = retiring_entry t.entries base e })
  within_retiring base None is = record { entries = h.entries; places = h.places; buffers = h.buffers }
  within_retiring base (Some e) is = record {
    entries = λ b.
        let same = entries_written sizes t.entries base e (record e { retiring = true }) is refl b in
        let within = h.entries b in omega (arith, same, within);
    places = h.places;
    buffers = h.buffers;
  }

  within_idle_by : (v : OpName) (base : ℕ) (may : Bool)
      → AreWithinBanks sizes (record t { entries = (idle_by t.entries v base (get t.entries base) may).part })
  within_idle_by v base true = within_retiring base (get t.entries base) refl
  within_idle_by v base false = record { entries = h.entries; places = h.places; buffers = h.buffers }

  entries_gone : (base : ℕ) (retired : Bool) (b : ℕ)
      → entries_in sizes b (if retired then remove t.entries base else t.entries) ≤ sizes.entries
  entries_gone base true b =
      let less = count_less nat_order (λ (base : ℕ) (e : Entry). bank_of sizes e.object == b) t.entries base in
      let within = h.entries b in
      omega (arith, less, within)
  entries_gone base false b = h.entries b

  buffers_gone : (n : Option OpName) (b : ℕ) → buffers_in b (buffers_after_gone t.buffers n) ≤ sizes.buffers
  buffers_gone None b = h.buffers b
  buffers_gone (Some n) b =
      let less = count_less name_order (λ (v : OpName) c. c == b) t.buffers n in
      let within = h.buffers b in
      omega (arith, less, within)

  within_gone : (v : OpName) (g : GoneContents) → AreWithinBanks sizes (after_gone t v g)
  within_gone v g = record {
    entries = entries_gone g.object.base g.retired;
    places = λ b.
        let less = count_less name_order (λ (v : OpName) c. c == b) t.places v in
        let within = h.places b in omega (arith, less, within);
    buffers = buffers_gone g.buffer;
  }

-- of a state
abbrev pub StaysWithinBanks : TasksFact
StaysWithinBanks m ts S = AreWithinBanks m.sizes (tables_of S)

module _ (m : Machine) (S : State) (h : AreWithinBanks m.sizes (tables_of S)) where
  -- where only other parts change
  banks_call : (d : MainState × Option Task) → AreWithinBanks m.sizes (tables_of (after_call S d))
  banks_call (main, None) = h
  banks_call (main, Some t) = h

  banks_main : (c : Option Call) → AreWithinBanks m.sizes (tables_of (main_by m S c))
  banks_main None = h
  banks_main (Some call) = banks_call (main_call m.limits S.home S.main call)

  banks_take : (t : Option Task) → AreWithinBanks m.sizes (tables_of (after_take S t))
  banks_take None = h
  banks_take (Some t) = h

  banks_decode : (o : OpName) (c : Option Operand) → can_decode_message m S o c ≡ true
      → AreWithinBanks m.sizes (tables_of (decode_message_taken m (without S (event.Decode o)) o c))
  banks_decode o None on = h
  banks_decode o (Some operand) on = within_decoded m.sizes (tables_of S) h S.mail.decodes o operand on

  banks_open : (o : OpName) (c : Option OpenContents)
      → AreWithinBanks m.sizes (tables_of (open_message_taken (without S (event.Open o)) o c))
  banks_open o None = h
  banks_open o (Some c) = h

  banks_use : (o : OpName) (c : Option OpName)
      → AreWithinBanks m.sizes (tables_of (use_message_taken (without S (event.Use o)) o c))
  banks_use o None = h
  banks_use o (Some v) = h

  banks_ready : (o : OpName) (c : Option Source)
      → AreWithinBanks m.sizes (tables_of (ready_message_taken (without S (event.Ready o)) o c))
  banks_ready o None = h
  banks_ready o (Some source) = h

  banks_link : (o : OpName) (c : Option OpName)
      → AreWithinBanks m.sizes (tables_of (link_message_taken (without S (event.Link o)) o c))
  banks_link o None = h
  banks_link o (Some next) = h

  banks_bye : (o : OpName) (c : Option Bool)
      → AreWithinBanks m.sizes (tables_of (bye_message_taken (without S (event.Bye o)) o c))
  banks_bye o None = h
  banks_bye o (Some promised) = h

  banks_start_task : (w t : ℕ) (ts : List ℕ) (x : Option Flying)
      → AreWithinBanks m.sizes (tables_of (start_task m S w t ts x))
  banks_start_task w t ts None = h
  banks_start_task w t ts (Some x) = h

  banks_start : (w : ℕ) (queue : List ℕ) → AreWithinBanks m.sizes (tables_of (after_start m S w queue))
  banks_start w [] = h
  banks_start w (t ∷ ts) = banks_start_task w t ts (get S.flight t)

  banks_exec : (w : ℕ) (b : Option Busy) → AreWithinBanks m.sizes (tables_of (after_exec m S w b))
  banks_exec w None = h
  banks_exec w (Some b) = h

  banks_finish : (w : ℕ) (b : Option Busy) → AreWithinBanks m.sizes (tables_of (after_finish S w b))
  banks_finish w None = h
  banks_finish w (Some b) = h

  banks_release : (o : OpName) (c : Option ReleaseContents)
      → AreWithinBanks m.sizes (tables_of (release_message_taken (without S (event.Release o)) o c))
  banks_release o None = h
  banks_release o (Some r) = h

  banks_idle : (v : OpName) (c : Option IdleContents)
      → AreWithinBanks m.sizes (tables_of (idle_message_taken (without S (event.Idle v)) v c))
  banks_idle v None = h
  banks_idle v (Some i) =
      within_idle_by m.sizes (tables_of S) h v i.base (may_retire v i.count (get S.entries i.base))

  banks_retire : (v : OpName) (x : Option Version)
      → AreWithinBanks m.sizes (tables_of (retire_version m (without S (event.Retire v)) v x))
  banks_retire v None = h
  banks_retire v (Some x) = h

  banks_copy : (b : ℕ) (c : Option CopyState) → AreWithinBanks m.sizes (tables_of (after_copy S b c))
  banks_copy b None = h
  banks_copy b (Some c) = h

  banks_gone : (v : OpName) (c : Option GoneContents)
      → AreWithinBanks m.sizes (tables_of (gone_message_taken (without S (event.Gone v)) v c))
  banks_gone v None = h
  banks_gone v (Some g) = within_gone m.sizes (tables_of S) h v g

-- every event keeps it
pub StaysWithinBanks-after_event : IsKept StaysWithinBanks
unfolding is_enabled after_event
StaysWithinBanks-after_event m ts S event.Main h on = banks_main m S h (call_next m S)
StaysWithinBanks-after_event m ts S event.Take h on = banks_take m S h S.inbox
StaysWithinBanks-after_event m ts S (event.Decode o) h on = banks_decode m S h o (get S.mail.decodes o) on
StaysWithinBanks-after_event m ts S (event.Ack o) h on = h
StaysWithinBanks-after_event m ts S (event.Open o) h on = banks_open m S h o (get S.mail.opens o)
StaysWithinBanks-after_event m ts S (event.Use o) h on = banks_use m S h o (get S.mail.uses o)
StaysWithinBanks-after_event m ts S (event.Ready o) h on = banks_ready m S h o (get S.mail.readies o)
StaysWithinBanks-after_event m ts S (event.Link o) h on = banks_link m S h o (get S.mail.links o)
StaysWithinBanks-after_event m ts S (event.Start w) h on = banks_start m S h w S.queue
StaysWithinBanks-after_event m ts S (event.Exec w) h on = banks_exec m S h w (get S.workers w)
StaysWithinBanks-after_event m ts S (event.Finish w) h on = banks_finish m S h w (get S.workers w)
StaysWithinBanks-after_event m ts S (event.Release o) h on = banks_release m S h o (get S.mail.releases o)
StaysWithinBanks-after_event m ts S (event.Bye o) h on = banks_bye m S h o (get S.mail.byes o)
StaysWithinBanks-after_event m ts S (event.Idle v) h on = banks_idle m S h v (get S.mail.idles v)
StaysWithinBanks-after_event m ts S (event.Nack v) h on = h
StaysWithinBanks-after_event m ts S (event.Retire v) h on = banks_retire m S h v (get S.versions v)
StaysWithinBanks-after_event m ts S (event.Copy b) h on = banks_copy m S h b (get S.copies b)
StaysWithinBanks-after_event m ts S (event.Gone v) h on = banks_gone m S h v (get S.mail.gones v)

-- nothing is in use at first
pub StaysWithinBanks-initial_state : (m : Machine) (i : ImageState) → StaysWithinBanks m [] (initial_state i)
StaysWithinBanks-initial_state m i = record {
  entries = λ b.
      let none = sum_empty {X = Entry} nat_order (λ base e. one_if (bank_of m.sizes e.object == b)) in
      omega (arith, none);
  places = λ b. let none = sum_empty {X = ℕ} name_order (λ v c. one_if (c == b)) in omega (arith, none);
  buffers = λ b. let none = sum_empty {X = ℕ} name_order (λ v c. one_if (c == b)) in omega (arith, none);
}

-- ---- the law

-- the greatest of counts that are all within
greatest_within : (f : ℕ → ℕ) (size n : ℕ) → ((k : ℕ) → f k ≤ size) → greatest f n ≤ size
greatest_within f size zero each = omega arith
greatest_within f size (suc n) each =
    let rest = greatest_within f size n each in let one = each n in omega (arith, rest, one)

-- with the laws of slots and stages
pub tables_of_runs : TablesLaw
tables_of_runs m i es S accepted admissible run =
    let banks = kept_after StaysWithinBanks StaysWithinBanks-after_event m es [] (initial_state i) S
    (StaysWithinBanks-initial_state m i) run in
    record {
      slots =
          greatest_within (λ s. tasks_in m.sizes s S.flight) m.sizes.slots m.sizes.stations
          (slots_of_runs m i es S accepted admissible run);
      workers =
          len_below S.workers m.sizes.workers
          (λ w b e. ((stages_of_runs m i es S accepted admissible run).workers w b e).number);
      entries =
          greatest_within (λ b. entries_in m.sizes b S.entries) m.sizes.entries m.sizes.banks banks.entries;
      versions = greatest_within (λ b. places_in b S.places) m.sizes.versions m.sizes.banks banks.places;
      buffers = greatest_within (λ b. buffers_in b S.buffers) m.sizes.buffers m.sizes.banks banks.buffers;
    }
