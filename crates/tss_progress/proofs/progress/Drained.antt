-- A quiet state without a task in flight: nothing is in any table, and where no event is enabled the state is finished.
use Rattle.std.proofs.Common.{◌≡◌, ℕ, ◌⊎◌, Bool, true, false, length, Option, Some, None, refl, sym, ap, ◌∙◌, inl, inr}
use Rattle.std.proofs.Common.{arith, true≢false}
use Rattle.std.specs.Prelude.{◌==◌, ◌&&◌, ◌||◌, not, is_none, is_some}
use Rattle.std.specs.declared.cmp.Ordering.{Ordering}
use Rattle.std.specs.FinMap.{FinMap, get, len}
use Rattle.std.proofs.lemmas.Bool.{and_from, or_parts, lt-ltb}
use Rattle.std.proofs.lemmas.Bool.Decides.{nat_tests}
use Rattle.std.proofs.lemmas.Option.{none-some}
use Rattle.tss_base.specs.declared.range.Range.{Range}
use Rattle.tss_base.specs.declared.operand.OpName.{OpName}
use Rattle.tss_base.specs.declared.operand.Operand.{Operand}
use Rattle.tss_base.specs.declared.operand.Task.{Task}
use Rattle.tss_base.specs.declared.machine.Machine.{Machine}
use Rattle.tss_base.specs.declared.machine.Key.TheVariants.{Slots, Window}
use Rattle.tss_base.specs.declared.event.Event.TheVariants as event
use Rattle.tss_base.specs.declared.marks.Follow.{Follow}
use Rattle.tss_base.specs.Machine.{IsAdmissible}
use Rattle.tss_maps.proofs.Keys.{IsKeyOrder, nat_order, name_order}
use Rattle.tss_maps.proofs.Entries.{some_entry}
use Rattle.tss_maps.proofs.Sums.{count_none}
use Rattle.tss_model.specs.MainStep.{Call, ExitCall, Spawn, Barrier, Print, Await, Unknown, awaited_object}
use Rattle.tss_protocol.specs.Names.{station_of}
use Rattle.tss_protocol.specs.Mail.{Buffer, OpenContents, GoneContents, message_count}
use Rattle.tss_protocol.specs.State.{State, Entry, Version, CopyState}
use Rattle.tss_protocol.specs.Stations.{operand_at, tasks_in, has_slot}
use Rattle.tss_protocol.specs.Gateway.{has_window, is_idle}
use Rattle.tss_protocol.proofs.WindowLemmas.{window_when_idle}
use Rattle.tss_protocol.specs.MainEvent.{has_no_task, has_no_object, is_drained, call_next, may_call, is_entry_of}
use Rattle.tss_protocol.specs.MainEvent.{is_operand_on, is_arriving, has_no_decode, is_at_home, may_await}
use Rattle.tss_protocol.specs.Result.{is_finished}
use Rattle.tss_protocol.specs.UnitMachine.{is_enabled, can_take}
use Rattle.tss_locality.proofs.Flights.{record_in}
use Rattle.tss_phases.specs.Phase.{Left, is_ahead, look_ups, phase_of, is_decoded}
use Rattle.tss_phases.proofs.OrderlyLemmas.{decoding_stands, ahead_by_test, left_by_absence}
use Rattle.tss_control.proofs.rounds.EntriesNames.{name_decoded}
use Rattle.tss_progress.proofs.progress.Choice.{IsStuck}
use Rattle.tss_progress.proofs.progress.Stuck.{IsQuiet}
use Rattle.tss_progress.proofs.progress.Versions.{AllLeft, none_behind, none_alone, nothing_retires, latest_version}
use Rattle.tss_progress.proofs.progress.Oldest.{produced_when_left}
use Rattle.tss_progress.proofs.progress.Banks.{arrived_decoded}
use Rattle.tss_progress.proofs.progress.Room.{entry_of_version, version_of_place}
use Rattle.tss_control.proofs.rounds.Facts.{Facts}

-- ---- buffers

-- a buffer is that of an open under way, of a version, of a version that is gone, or of one that is copied
abbrev HoldsBuffer : State → OpName → Type 0
HoldsBuffer S n =
    ((v : OpName) × (c : OpenContents) × (get S.mail.opens v ≡ Some c) × (c.storage ≡ Some (Buffer n)))
    ⊎ (((v : OpName) × (y : Version) × (get S.versions v ≡ Some y) × (y.storage ≡ Some (Buffer n)))
    ⊎ (((v : OpName) × (g : GoneContents) × (get S.mail.gones v ≡ Some g) × (g.buffer ≡ Some n))
    ⊎ ((b : ℕ) × (c : CopyState) × (get S.copies b ≡ Some c) × (c.buffer ≡ n))))

-- each held buffer is
abbrev pub HaveHolders : State → Type 0
HaveHolders S = (n : OpName) (bank : ℕ) → get S.buffers n ≡ Some bank → HoldsBuffer S n

-- ---- plain facts

zero_test : (n : ℕ) → n ≡ 0 → (n == 0) ≡ true
zero_test n e = grind (arith, nat_tests)

-- a map in which nothing stands is empty
empty_if : {K X : Type 0} {R : K → K → Ordering} (order : IsKeyOrder R) (m : FinMap R X)
    → ((k : K) (x : X) → get m k ≡ Some x → ⊥) → len m ≡ 0
empty_if order m none = elim (some_entry order m) [
  | inl empty ↦ empty
  | inr some ↦ absurd (none some.0 some.1 some.2)
]

module _ (m : Machine) (S : State) (facts : Facts m S) (quiet : IsQuiet S) where
  open facts use {all, ground, control}

  -- ---- no task in flight

  module _ (none : (n : ℕ) → get S.flight n ≡ None) where
    no_record : (o : OpName) → operand_at S.flight o ≡ None
    no_record o = ap (record_in o.place) (none o.task)

    no_decode : (o : OpName) (p : Operand) → get S.mail.decodes o ≡ Some p → ⊥
    no_decode o p there =
        let untold = (decoding_stands (look_ups S o) p (control.orderly o) there).1.0 in
        none-some untold.kept (sym (no_record o) ∙ untold.there)

    no_gateway : (o : OpName) (u : Unit {0}) → get S.gateway o ≡ Some u → ⊥
    no_gateway o tt held = elim (ground.gateway.held o held) [
      | inl decode ↦ no_decode o decode.0 decode.1
      | inr ack ↦ none-some tt (sym (quiet.acks o) ∙ ack)
    ]

    -- all operands that were decoded have left
    decoded_left : (q : OpName) → is_decoded (phase_of S q) ≡ true → phase_of S q ≡ Left
    decoded_left q decoded = by (is_ahead S q.task) refl
      where
        by : (b : Bool) → is_ahead S q.task ≡ b → phase_of S q ≡ Left
        by true ahead =
            absurd (true≢false (sym decoded ∙ ap is_decoded (ahead_by_test (look_ups S q) (control.orderly q) ahead)))
        by false behind = left_by_absence (look_ups S q) (control.orderly q) (no_record q) behind

    version_left : (v : OpName) (y : Version) → get S.versions v ≡ Some y → phase_of S v ≡ Left
    version_left v y there =
        decoded_left v (name_decoded m all S ground.numbers control.orderly v (ground.names.versions v y there).0.0)

    readers_gone : (v : OpName) (y : Version) → get S.versions v ≡ Some y → AllLeft m S facts quiet v
    readers_gone v y there a has =
        decoded_left a
        (arrived_decoded (phase_of S a) ((control.readers.versions v y there).each a has).arrived)

    none_followed : (v : OpName) (y : Version) (f : Follow) → get S.versions v ≡ Some y → y.successor ≡ Some f → ⊥
    none_followed v y f there next =
        none_behind m S facts quiet v y f there next
        (produced_when_left m S facts quiet v y there (version_left v y there))
        (readers_gone v y there)

    last_of : (v : OpName) (y : Version) → get S.versions v ≡ Some y → (f : Option Follow) → y.successor ≡ f
        → y.successor ≡ None
    last_of v y there None e = e
    last_of v y there (Some f) e = absurd (none_followed v y f there e)

    first_of : (v : OpName) (y : Version) → get S.versions v ≡ Some y → (q : Option OpName) → y.predecessor ≡ q
        → y.predecessor ≡ None
    first_of v y there None e = e
    first_of v y there (Some q) e =
        let after = (control.chains.linked v y there).after q e in
        absurd (none_followed q after.version after.follow after.there after.link)

    no_entry : (b : ℕ) (e : Entry) → get S.entries b ≡ Some e → ⊥
    no_entry b e entry =
        let y = latest_version m S facts quiet b e entry in
        let live = control.entries.live b e entry (nothing_retires m S facts quiet b e entry) in
        none_alone m S facts quiet b e y.0 entry y.1
        (ap (λ (z : Range). z.base) y.2 ∙ (control.entries.operand b e entry).0) live.sent
        (last_of e.latest y.0 y.1 y.0.successor refl) (first_of e.latest y.0 y.1 y.0.predecessor refl)
        (produced_when_left m S facts quiet e.latest y.0 y.1 (version_left e.latest y.0 y.1))
        (readers_gone e.latest y.0 y.1)

    no_version : (v : OpName) (y : Version) → get S.versions v ≡ Some y → ⊥
    no_version v y there =
        let e = entry_of_version m S facts v y there in
        no_entry y.object.base e.0 e.1

    no_place : (v : OpName) (bank : ℕ) → get S.places v ≡ Some bank → ⊥
    no_place v bank at =
        let y = version_of_place m S facts quiet v bank at in
        no_version v y.0 y.1

    no_buffer : HaveHolders S → (n : OpName) (bank : ℕ) → get S.buffers n ≡ Some bank → ⊥
    no_buffer buffers n bank at = elim (buffers n bank at) [
      | inl opening ↦ none-some opening.1 (sym (quiet.opens opening.0) ∙ opening.2)
      | inr (inl version) ↦ no_version version.0 version.1 version.2
      | inr (inr (inl going)) ↦ none-some going.1 (sym (quiet.gones going.0) ∙ going.2)
      | inr (inr (inr copy)) ↦ none-some copy.1 (sym (quiet.copies copy.0) ∙ copy.2)
    ]

    no_message : message_count S.mail ≡ 0
    no_message =
        let decodes = empty_if name_order S.mail.decodes no_decode in
        let acks = empty_if name_order S.mail.acks (λ o x e. none-some x (sym (quiet.acks o) ∙ e)) in
        let opens = empty_if name_order S.mail.opens (λ o x e. none-some x (sym (quiet.opens o) ∙ e)) in
        let uses = empty_if name_order S.mail.uses (λ o x e. none-some x (sym (quiet.uses o) ∙ e)) in
        let readies = empty_if name_order S.mail.readies (λ o x e. none-some x (sym (quiet.readies o) ∙ e)) in
        let links = empty_if name_order S.mail.links (λ o x e. none-some x (sym (quiet.links o) ∙ e)) in
        let releases = empty_if name_order S.mail.releases (λ o x e. none-some x (sym (quiet.releases o) ∙ e)) in
        let byes = empty_if name_order S.mail.byes (λ o x e. none-some x (sym (quiet.byes o) ∙ e)) in
        let idles = empty_if name_order S.mail.idles (λ o x e. none-some x (sym (quiet.idles o) ∙ e)) in
        let nacks = empty_if name_order S.mail.nacks (λ o x e. none-some x (sym (quiet.nacks o) ∙ e)) in
        let retires = empty_if name_order S.mail.retires (λ o x e. none-some x (sym (quiet.retires o) ∙ e)) in
        let gones = empty_if name_order S.mail.gones (λ o x e. none-some x (sym (quiet.gones o) ∙ e)) in
        omega (arith, decodes, acks, opens, uses, readies, links, releases, byes, idles, nacks, retires, gones)

    -- ---- the inbox

    idle_gateway : is_idle S.gateway ≡ true
    idle_gateway = zero_test (len S.gateway) (empty_if name_order S.gateway no_gateway)

    room_in_window : IsAdmissible m → has_window m.sizes S.gateway ≡ true
    room_in_window fit =
        window_when_idle S.gateway m.sizes (fit.sizes Window m.sizes.window refl).0
        (empty_if name_order S.gateway no_gateway)

    free_slot : IsAdmissible m → (t : Task) → has_slot m.sizes S.flight t.number ≡ true
    free_slot fit t =
        let some = (fit.sizes Slots m.sizes.slots refl).0 in
        let station = station_of m.sizes t.number in
        let empty = count_none nat_order (λ task x. station_of m.sizes task == station) S.flight
        (λ k x e. absurd (none-some x (sym (none k) ∙ e))) in
        lt-ltb (tasks_in m.sizes station S.flight) m.sizes.slots (omega (arith, some, empty))

    no_inbox : IsAdmissible m → IsStuck m S → S.inbox ≡ None
    unfolding is_enabled
    no_inbox fit stuck = by S.inbox refl
      where
        by : (t : Option Task) → S.inbox ≡ t → S.inbox ≡ None
        by None e = e
        by (Some t) e =
            absurd (true≢false (sym (ap (can_take m S) e
            ∙ and_from (has_window m.sizes S.gateway) (has_slot m.sizes S.flight t.number) (room_in_window fit)
            (free_slot fit t))
            ∙ stuck event.Take))

    -- ---- the state is drained

    no_task : IsAdmissible m → IsStuck m S → has_no_task S ≡ true
    no_task fit stuck =
        let i = is_none S.inbox in
        let c = is_idle S.gateway in
        let flight = zero_test (len S.flight) (empty_if nat_order S.flight (λ k x e. none-some x (sym (none k) ∙ e))) in
        let queue = ap (λ ns. length ns == 0) quiet.queue in
        let workers = zero_test (len S.workers)
        (empty_if nat_order S.workers (λ k x e. none-some x (sym (quiet.workers k) ∙ e))) in
        let one = and_from i c (ap is_none (no_inbox fit stuck)) idle_gateway in
        let two = and_from (i && c) (len S.flight == 0) one flight in
        let three = and_from (i && c && (len S.flight == 0)) (length S.queue == 0) two queue in
        and_from (i && c && (len S.flight == 0) && (length S.queue == 0)) (len S.workers == 0) three workers

    no_object : HaveHolders S → has_no_object S ≡ true
    no_object buffers =
        let e = len S.entries == 0 in
        let p = len S.places == 0 in
        let b = len S.buffers == 0 in
        let v = len S.versions == 0 in
        let entries = zero_test (len S.entries) (empty_if nat_order S.entries no_entry) in
        let places = zero_test (len S.places) (empty_if name_order S.places no_place) in
        let held = zero_test (len S.buffers) (empty_if name_order S.buffers (no_buffer buffers)) in
        let versions = zero_test (len S.versions) (empty_if name_order S.versions no_version) in
        let copies = zero_test (len S.copies)
        (empty_if nat_order S.copies (λ k x e. none-some x (sym (quiet.copies k) ∙ e))) in
        let one = and_from e p entries places in
        let two = and_from (e && p) b one held in
        let three = and_from (e && p && b) v two versions in
        and_from (e && p && b && v) (len S.copies == 0) three copies

    drained_when_stuck : HaveHolders S → IsAdmissible m → IsStuck m S → is_drained S ≡ true
    drained_when_stuck buffers fit stuck =
        and_from (has_no_task S && has_no_object S) (message_count S.mail == 0)
        (and_from (has_no_task S) (has_no_object S) (no_task fit stuck) (no_object buffers))
        (zero_test (message_count S.mail) no_message)

    -- ---- main

    no_entry_of : (object : Range) (e : Option Entry) → get S.entries object.base ≡ e
        → not (is_entry_of object e) ≡ true
    no_entry_of object None at = refl
    no_entry_of object (Some e) at = absurd (no_entry object.base e at)

    -- each object is at home
    at_home : IsAdmissible m → IsStuck m S → (object : Range) → is_at_home S object ≡ true
    at_home fit stuck object =
        let a = not (is_entry_of object (get S.entries object.base)) in
        let b = not (is_arriving object S.inbox) in
        let decodes = count_none name_order (λ o p. is_operand_on object p) S.mail.decodes
        (λ o p e. absurd (no_decode o p e)) in
        and_from (a && b) (has_no_decode object S.mail.decodes)
        (and_from a b (no_entry_of object (get S.entries object.base) refl)
        (ap (λ i. not (is_arriving object i)) (no_inbox fit stuck)))
        (ap (λ n. n == 0) decodes)

    may_await_any : IsAdmissible m → IsStuck m S → (x : Option Range) → may_await S x ≡ true
    may_await_any fit stuck None = refl
    may_await_any fit stuck (Some object) = at_home fit stuck object

    call_may : IsAdmissible m → IsStuck m S → is_drained S ≡ true → (c : Option Call) → may_call S c ≡ true
    call_may fit stuck drained None = refl
    call_may fit stuck drained (Some ExitCall) = refl
    call_may fit stuck drained (Some Spawn) = ap is_none (no_inbox fit stuck)
    call_may fit stuck drained (Some Barrier) = drained
    call_may fit stuck drained (Some Print) = refl
    call_may fit stuck drained (Some Await) = may_await_any fit stuck (awaited_object S.main)
    call_may fit stuck drained (Some (Unknown n)) = refl

    over_when_stuck : IsAdmissible m → IsStuck m S → is_drained S ≡ true
        → (b : Bool) → (is_some S.main.ending || is_some S.trap) ≡ b → b ≡ true
    unfolding is_enabled
    over_when_stuck fit stuck drained true e = refl
    over_when_stuck fit stuck drained false e =
        let parts = or_parts (is_some S.main.ending) (is_some S.trap) e in
        let two = and_from (is_none S.main.ending) (is_none S.trap) (ap not parts.0) (ap not parts.1) in
        absurd (true≢false (sym (and_from (is_none S.main.ending && is_none S.trap) (may_call S (call_next m S)) two
        (call_may fit stuck drained (call_next m S))) ∙ stuck event.Main))

    -- and finished
    pub finished_when_stuck : HaveHolders S → IsAdmissible m → IsStuck m S → is_finished S ≡ true
    finished_when_stuck buffers fit stuck =
        let drained = drained_when_stuck buffers fit stuck in
        and_from (is_drained S) (is_some S.main.ending || is_some S.trap) drained
        (over_when_stuck fit stuck drained (is_some S.main.ending || is_some S.trap) refl)
