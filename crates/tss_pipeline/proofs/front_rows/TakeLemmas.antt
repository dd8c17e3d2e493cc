-- Take: the inbox's task, and what may be done with it.
use Rattle.std.proofs.Common.{◌≡◌, ◌<◌, ◌≤◌, ℕ, suc, ◌+◌, ◌*◌, ◌⊎◌, inl, inr, Bool, true, false, nat_eq, nat_lt, List, [], ◌∷◌, length, vec_len, Option, Some, None, refl, sym, ap, ◌∙◌, subst, arith, true≢false}
use Rattle.std.specs.Prelude.{◌&&◌}
use Rattle.std.specs.Vec.{with_items}
use Rattle.std.specs.FinMap.{insert, len}
use Rattle.std.proofs.lemmas.List.{with_items_is}
use Rattle.std.proofs.lemmas.Option.{none-some}
use Rattle.std.proofs.lemmas.Bool.Decides.{nat_tests}
use Rattle.tss_base.specs.declared.bounds.TheConstants.{MAX_OPERANDS}
use Rattle.tss_base.specs.declared.operand.Operand.{Operand}
use Rattle.tss_base.specs.declared.operand.Task.{Task}
use Rattle.tss_base.specs.declared.machine.Sizes.{Sizes}
use Rattle.tss_base.specs.declared.machine.Key.TheVariants as key
use Rattle.tss_base.specs.declared.event.Event.TheVariants as event
use Rattle.tss_model.specs.Access.{operands_of}
use Rattle.tss_protocol.specs.Mail.{posted_all, message_count}
use Rattle.tss_protocol.specs.Gateway.{held_tasks, has_window, gateway_after_take, sent_by_take}
use Rattle.tss_protocol.specs.Stations.{has_slot, first_stage, flight_after_take}
use Rattle.tss_protocol.specs.UnitMachine.{is_enabled, after_event, can_take, is_queued, queue_with, take_task, after_take}
use Rattle.tss_banks.specs.Joined.{joined}
use Rattle.tss_banks.specs.Tables.{joined_tables}
use Rattle.tss_gateway.specs.Seen.{GatewayState}
use Rattle.tss_stations.specs.Slots.{StationsState}
use Rattle.tss_stations.specs.Views.{flight_of, new_slot}
use Rattle.tss_renaming.specs.Bank.{tables_of}
use Rattle.tss_versions.specs.Known.{versions_of}
use Rattle.tss_workers.specs.Queue.{QueueState}
use Rattle.tss_mail.specs.Letters.{MailState, mail_of}
use Rattle.tss_conditions.specs.Posting.{ArePostable, sent_by_event, take_sends}
use Rattle.tss_conditions.specs.Taking.{IsArriving, HasRoomToTake}
use Rattle.tss_conditions.proofs.Posting.{may_post}
use Rattle.tss_conditions.proofs.Taking.{arriving, room_to_take}
use Rattle.tss_pipeline.specs.declared.bank.Bank.{Bank}
use Rattle.tss_pipeline.specs.declared.units.Units.{Units}
use Rattle.tss_pipeline.specs.State.{state_of, bank_tables, bank_versions, contents_in, contents_of, copies_from}
use Rattle.tss_pipeline.specs.Fit.{AreBanks, AreSized, ArePlaced, ground_of, IsFit}
use Rattle.tss_pipeline.specs.Lines.{lined, AwaitDecodes}
use Rattle.tss_pipeline.specs.Does.{May, Does}
use Rattle.tss_pipeline.proofs.places.Grounds.{does}
use Rattle.tss_pipeline.proofs.front_rows.LineLemmas.{length-lined, mapped_lined, copies_lined, banks_lined, placed_lined}
use Rattle.tss_pipeline.proofs.front_rows.DecodeLemmas.{length-decodes_from}

module _ (u : Units) where
  -- whether the inbox's task may be taken, by the inbox
  pub may_take_by : (t : Option Task) → u.gateway.inbox ≡ t
      → can_take u.machine (state_of u) t ≡ is_enabled u.machine (state_of u) event.Take
  unfolding is_enabled
  may_take_by t e = ap (can_take u.machine (state_of u)) (sym e)

  module _ (fit : IsFit u) (t : Task) (there : u.gateway.inbox ≡ Some t) where
    -- what the laws know of it
    pub arrives : IsArriving u.machine (state_of u) t
    arrives = arriving u.machine fit.reached.image (state_of u) t fit.reached.reached there

    -- by the units' tests
    pub may_take : (window slot : Bool) → window ≡ nat_lt (length (held_tasks u.gateway.gateway)) u.gateway.window
        → slot ≡ has_slot u.stations.sizes (flight_of u.stations.slots) t.number
        → (window && slot) ≡ is_enabled u.machine (state_of u) event.Take
    may_take window slot has_window has_slots =
        (λ i. (has_window ∙ ap (nat_lt (length (held_tasks u.gateway.gateway))) fit.sized.window) i
        && (has_slots ∙ ap (λ s. has_slot s (flight_of u.stations.slots) t.number) fit.sized.stations) i)
        ∙ may_take_by (Some t) there

both_true : (a b : Bool) → (a && b) ≡ true → (a ≡ true) × (b ≡ true)
both_true true b e = (refl, e)
both_true false b e = absurd (true≢false (sym e))

not_none : (k : ℕ) → false ≡ nat_eq (suc k) 0
not_none k = grind (arith, nat_tests)

-- a task without operands is queued at once
queued_by : (ops : List Operand) (n : ℕ) → length ops ≡ n → is_queued (first_stage ops) ≡ nat_eq n 0
queued_by [] n e = ap (λ m. nat_eq m 0) e
queued_by (p ∷ ps) n e = not_none (length ps) ∙ ap (λ m. nat_eq m 0) e

-- ---- take

module _ (u : Units) (fit : IsFit u) (may : May event.Take u) where
  blocked_by : (x : Option Task) → u.gateway.inbox ≡ x
      → (u.gateway.inbox ≡ None) ⊎ (u.gateway.window ≤ length (held_tasks u.gateway.gateway)) → ⊥
  blocked_by None e blocked = absurd (true≢false (sym (may_take_by u None e ∙ may)))
  blocked_by (Some t) e (inl none) = none-some t (sym none ∙ e)
  blocked_by (Some t) e (inr full) =
      let has = both_true (has_window u.machine.sizes u.gateway.gateway)
      (has_slot u.machine.sizes (flight_of u.stations.slots) t.number) (may_take_by u (Some t) e ∙ may) in
      let window = fit.sized.window in
      not_both (length (held_tasks u.gateway.gateway)) u.machine.sizes.window has.0 (omega (arith, full, window))
    where
      not_both : (n m : ℕ) → nat_lt n m ≡ true → m ≤ n → ⊥
      not_both n m less more = grind (arith, nat_tests, less, more)

  -- the gateway takes the inbox's task
  pub not_blocked : (u.gateway.inbox ≡ None) ⊎ (u.gateway.window ≤ length (held_tasks u.gateway.gateway)) → ⊥
  not_blocked = blocked_by u.gateway.inbox refl

  -- the banks await its decodes
  pub await_first : AwaitDecodes u.machine.sizes u.mail.decodes u.banks.items
  await_first = record {
    some = (fit.reached.reached.admissible.sizes key.Banks u.machine.sizes.banks refl).0;
    count = fit.sized.banks.count;
    windows = λ n b at. ap (λ (s : Sizes). s.window) (fit.sized.banks.each n b at).sizes;
    lines = λ n b at. (fit.placed.letters n b at).line;
  }

  module _ (t : Task) (there : u.gateway.inbox ≡ Some t) where
    arrival : IsArriving u.machine (state_of u) t
    arrival = arrives u fit t there

    room_for : HasRoomToTake u.machine (state_of u) t
    room_for = room_to_take u.machine fit.reached.image (state_of u) t fit.reached.reached may there

    -- its station has room
    pub slot_free : has_slot u.stations.sizes (flight_of u.stations.slots) t.number ≡ true
    slot_free =
        ap (λ s. has_slot s (flight_of u.stations.slots) t.number) fit.sized.stations
        ∙ (both_true (has_window u.machine.sizes u.gateway.gateway)
        (has_slot u.machine.sizes (flight_of u.stations.slots) t.number) (may_take_by u (Some t) there ∙ may)).1

    -- and so has the queue, where it is queued
    pub queue_free : nat_eq t.count 0 ≡ true → length u.queue.tasks < u.queue.size
    queue_free none =
        subst (λ n. length u.queue.tasks < n) (sym fit.sized.queue)
        (room_for.queue (queued_by (operands_of t) t.count arrival.proper.count ∙ none))

    pub lines_free : len u.mail.decodes + t.count ≤ u.machine.sizes.window * MAX_OPERANDS
    lines_free = let few = room_for.lines in let count = arrival.proper.count in omega (arith, few, count)

    sends : sent_by_event u.machine (state_of u) event.Take ≡ sent_by_take t
    sends = ap take_sends there

    -- its decodes may be sent
    pub decodes_fresh : ArePostable (mail_of u.mail) (sent_by_take t)
    decodes_fresh =
        subst (ArePostable (mail_of u.mail)) sends
        (may_post u.machine fit.reached.image (state_of u) event.Take fit.reached.reached may).fresh

    pub decodes_free : message_count (mail_of u.mail) + t.count ≤ u.mail.size
    decodes_free =
        let few = (may_post u.machine fit.reached.image (state_of u) event.Take fit.reached.reached may).room in
        let same = ap length sends in
        let many = length-decodes_from t.number 0 (operands_of t) in
        let count = arrival.proper.count in
        let size = fit.sized.mail in
        omega (arith, few, same, many, count, size)

    module _ (gateway : GatewayState) (stations : StationsState) (queue : QueueState) (banks : List Bank)
        (mail : MailState)
        (held : gateway ≡ record (u.gateway) { inbox = None; gateway = gateway_after_take u.gateway.gateway t })
        (enters : stations ≡ record (u.stations) { slots = insert u.stations.slots t.number (new_slot t) })
        (flight : flight_of stations.slots ≡ flight_after_take (flight_of u.stations.slots) t)
        (queued : queue ≡ record (u.queue) { tasks = queue_with u.queue.tasks t.number (nat_eq t.count 0) })
        (lines : banks ≡ lined u.machine.sizes mail.decodes 0 u.banks.items)
        (rest : mail ≡ record (u.mail) { decodes = mail.decodes })
        (sent : mail_of mail ≡ posted_all (mail_of u.mail) (sent_by_take t))
        (long : length u.banks.items ≡ vec_len u.banks)
      where
        abbrev taken_units : Units
        taken_units = record u {
          gateway = gateway;
          stations = stations;
          queue = queue;
          banks = with_items u.banks banks;
          mail = mail;
        }

        items : (with_items u.banks banks).items ≡ lined u.machine.sizes mail.decodes 0 u.banks.items
        items =
            with_items_is u.banks banks
            (ap length lines ∙ length-lined u.machine.sizes mail.decodes 0 u.banks.items ∙ long)
            ∙ lines

        tables : bank_tables (with_items u.banks banks).items ≡ bank_tables u.banks.items
        tables =
            ap bank_tables items
            ∙ mapped_lined (λ (b : Bank). tables_of b.renaming) (λ b line. refl) u.machine.sizes mail.decodes 0
            u.banks.items

        versions : bank_versions (with_items u.banks banks).items ≡ bank_versions u.banks.items
        versions =
            ap bank_versions items
            ∙ mapped_lined (λ (b : Bank). versions_of b.versions.versions) (λ b line. refl) u.machine.sizes mail.decodes 0
            u.banks.items

        contents : contents_of u.buffers (with_items u.banks banks).items ≡ contents_of u.buffers u.banks.items
        contents =
            ap (contents_of u.buffers) items
            ∙ ap joined (mapped_lined (contents_in u.buffers) (λ b line. refl) u.machine.sizes mail.decodes 0 u.banks.items)

        copies : copies_from 0 (with_items u.banks banks).items ≡ copies_from 0 u.banks.items
        copies = ap (copies_from 0) items ∙ copies_lined u.machine.sizes mail.decodes 0 0 u.banks.items

        after_taken : state_of taken_units ≡ take_task (state_of u) t
        after_taken = λ i. record (state_of (record u {
          gateway = held i;
          queue =
              (queued
              ∙ ap (λ b. record (u.queue) { tasks = queue_with u.queue.tasks t.number b })
              (sym (queued_by (operands_of t) t.count arrival.proper.count))) i;
        })) {
          flight = flight i;
          entries = (joined_tables (tables i)).entries;
          places = (joined_tables (tables i)).places;
          buffers = (joined_tables (tables i)).buffers;
          contents = contents i;
          versions = joined (versions i);
          mail = sent i;
          copies = copies i;
        }

        after_take_event : state_of taken_units ≡ after_event u.machine (state_of u) event.Take
        unfolding after_event
        after_take_event = after_taken ∙ ap (after_take (state_of u)) (sym there)

        sized : AreSized taken_units
        sized = record {
          limits = fit.sized.limits;
          window = ap (λ (g : GatewayState). g.window) held ∙ fit.sized.window;
          stations = ap (λ (s : StationsState). s.sizes) enters ∙ fit.sized.stations;
          queue = ap (λ (q : QueueState). q.size) queued ∙ fit.sized.queue;
          workers = fit.sized.workers;
          mail = ap (λ (m : MailState). m.size) rest ∙ fit.sized.mail;
          banks =
              subst (AreBanks u.machine) (sym items)
              (banks_lined u.machine u.machine.sizes mail.decodes u.banks.items fit.sized.banks);
          buffer_banks = fit.sized.buffer_banks;
          buffers = fit.sized.buffers;
          object_bytes = fit.sized.object_bytes;
        }

        placed : ArePlaced (ground_of taken_units)
        placed =
            subst ArePlaced
            (λ i. record (ground_of u) {
              banks = sym items i;
              opens = (sym rest i).opens;
              gones = (sym rest i).gones;
              decodes = mail.decodes;
            })
            (placed_lined (ground_of u) mail.decodes fit.placed)

        -- it is done
        pub does_take : Does event.Take u (record u {
          gateway = gateway;
          stations = stations;
          queue = queue;
          banks = with_items u.banks banks;
          mail = mail;
        })
        does_take = does event.Take u taken_units fit may refl after_take_event sized placed
