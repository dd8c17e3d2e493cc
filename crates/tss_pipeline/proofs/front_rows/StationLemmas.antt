-- Ready, link and bye: what the stations send, and that it is done.
use Rattle.std.proofs.Common.{◌≡◌, ◌<◌, ◌≤◌, Bool, true, List, length, Option, Some, None, option_map, refl, sym, ap, ◌∙◌, subst, arith}
use Rattle.std.specs.Prelude.{◌+◌}
use Rattle.std.specs.Option.{is_some}
use Rattle.std.specs.FinMap.{get}
use Rattle.std.proofs.lemmas.List.{length-map}
use Rattle.tss_base.specs.declared.operand.OpName.{OpName}
use Rattle.tss_base.specs.declared.operand.Storage.{Storage}
use Rattle.tss_base.specs.declared.marks.LinkState.{LinkState}
use Rattle.tss_base.specs.declared.marks.LinkState.TheVariants as link
use Rattle.tss_base.specs.declared.event.Event.{Event}
use Rattle.tss_base.specs.declared.event.Event.TheVariants as event
use Rattle.tss_maps.proofs.MappedLemmas.{get-mapped}
use Rattle.tss_protocol.specs.Mail.{taken, posted_all, message_count}
use Rattle.tss_protocol.specs.Stations.{after_ready, after_link, after_bye}
use Rattle.tss_protocol.specs.UnitMachine.{is_enabled, after_event, without, queue_with, ready_message_taken, link_message_taken, bye_message_taken}
use Rattle.tss_events.specs.declared.message.Message.{Message}
use Rattle.tss_events.specs.Events.{source_of, message_of, messages_of}
use Rattle.tss_stations.specs.declared.operand_view.OperandView.{OperandView}
use Rattle.tss_stations.specs.Slots.{StationsState, slots_after_ready, slots_after_link, slots_after_bye}
use Rattle.tss_stations.specs.Views.{flight_of, view_in}
use Rattle.tss_stations.specs.Passing.{passed_by, sent_on_ready, told_by, sent_on_link}
use Rattle.tss_workers.specs.Queue.{QueueState}
use Rattle.tss_mail.specs.Letters.{MailState, mail_of, without_letter, told_source}
use Rattle.tss_conditions.specs.Posting.{ArePostable, sent_by_event, ready_sends, link_sends}
use Rattle.tss_conditions.proofs.Posting.{may_post}
use Rattle.tss_conditions.proofs.Flying.{ready_tells}
use Rattle.tss_pipeline.specs.declared.units.Units.{Units}
use Rattle.tss_pipeline.specs.Letters.{with_letters}
use Rattle.tss_pipeline.specs.State.{state_of}
use Rattle.tss_pipeline.specs.Fit.{IsFit}
use Rattle.tss_pipeline.specs.Does.{May, Does}
use Rattle.tss_pipeline.proofs.front_rows.FrontLemmas.{KeepsRest, rest_by, does_front}

-- ---- sending

module _ (e : Event) (u : Units) (fit : IsFit u) (may : May e u) (m : MailState) (sent : List Message)
    (told : mail_of m ≡ taken (mail_of u.mail) e)
    (sends : messages_of sent ≡ sent_by_event u.machine (state_of u) e) where
  -- the messages of an event have new names, one after the other
  pub sent_fresh : ArePostable (mail_of m) (messages_of sent)
  sent_fresh =
      subst (λ n. ArePostable n (messages_of sent)) (sym told)
      (subst (ArePostable (taken (mail_of u.mail) e)) (sym sends)
      (may_post u.machine fit.reached.image (state_of u) e fit.reached.reached may).fresh)

  -- and there is room
  pub sent_room : m.size ≡ u.mail.size → message_count (mail_of m) + length sent ≤ m.size
  sent_room size =
      let few = (may_post u.machine fit.reached.image (state_of u) e fit.reached.reached may).room in
      let count = ap message_count told in
      let same = length-map sent message_of in
      let other = ap length sends in
      let all = size ∙ fit.sized.mail in
      omega (arith, few, count, same, other, all)

-- ---- ready

some_mapped : {X Y : Type 0} (f : X → Y) (x : Option X) → is_some (option_map f x) ≡ true → is_some x ≡ true
some_mapped f None e = e
some_mapped f (Some x) e = refl

-- a ready that is passed on leaves the rest of the mail
rest_passed : (m : MailState) (v : OpName) (storage : Storage) (l : LinkState)
    → KeepsRest m (with_letters m (passed_by v storage l))
rest_passed m v storage link.Nothing = record { size = refl; opens = refl; gones = refl; decodes = refl }
rest_passed m v storage (link.Held next) = record { size = refl; opens = refl; gones = refl; decodes = refl }
rest_passed m v storage link.Passed = record { size = refl; opens = refl; gones = refl; decodes = refl }

rest_on_ready : (m : MailState) (v : OpName) (storage : Storage) (r : Option OperandView)
    → KeepsRest m (with_letters m (sent_on_ready v storage r))
rest_on_ready m v storage None = record { size = refl; opens = refl; gones = refl; decodes = refl }
rest_on_ready m v storage (Some r) = rest_passed m v storage r.link

module _ (u : Units) (o : OpName) (fit : IsFit u) (may : May (event.Ready o) u) where
  ready_some : is_some (get (state_of u).mail.readies o) ≡ true
  unfolding is_enabled
  ready_some = may

  -- its message is there
  pub ready_there : is_some (get u.mail.readies o) ≡ true
  ready_there =
      some_mapped told_source (get u.mail.readies o)
      (ap is_some (sym (get-mapped told_source u.mail.readies o)) ∙ ready_some)

  module _ (v : OpName) (storage : Storage) (at : get u.mail.readies o ≡ Some (v, storage)) where
    ready_told : get (state_of u).mail.readies o ≡ Some (source_of v storage)
    ready_told = get-mapped told_source u.mail.readies o ∙ ap (option_map told_source) at

    -- what it sends
    pub ready_sent : sent_by_event u.machine (state_of u) (event.Ready o)
        ≡ (after_ready (flight_of u.stations.slots) o (source_of v storage)).sent
    ready_sent = ap (ready_sends (state_of u) o) ready_told

    -- there is room in the queue
    pub ready_room : (after_ready (flight_of u.stations.slots) o (source_of v storage)).queued ≡ true
        → length u.queue.tasks < u.queue.size
    ready_room complete =
        subst (λ n. length u.queue.tasks < n) (sym fit.sized.queue)
        ((ready_tells u.machine fit.reached.image (state_of u) o (source_of v storage) fit.reached.reached ready_told).queue
        complete)

    module _ (stations : StationsState) (queue : QueueState) (left mail : MailState) (sent : List Message)
        (complete : Bool)
        (told : stations ≡ record (u.stations) { slots = slots_after_ready u.stations.slots o v storage })
        (flight : flight_of stations.slots ≡ (after_ready (flight_of u.stations.slots) o (source_of v storage)).flight)
        (passes : sent ≡ sent_on_ready v storage (view_in u.stations.slots o))
        (sends : messages_of sent ≡ (after_ready (flight_of u.stations.slots) o (source_of v storage)).sent)
        (completes : complete ≡ (after_ready (flight_of u.stations.slots) o (source_of v storage)).queued)
        (queued : queue ≡ record (u.queue) { tasks = queue_with u.queue.tasks o.task complete })
        (taken_out : left ≡ without_letter u.mail (event.Ready o))
        (taken_mail : mail_of left ≡ taken (mail_of u.mail) (event.Ready o)) (letters : mail ≡ with_letters left sent)
        (posted : mail_of mail ≡ posted_all (mail_of left) (messages_of sent)) where
      after_told : state_of (record u { stations = stations; queue = queue; mail = mail })
          ≡ ready_message_taken (without (state_of u) (event.Ready o)) o (Some (source_of v storage))
      after_told = λ i. record (state_of (record u {
        queue = (queued ∙ ap (λ b. record (u.queue) { tasks = queue_with u.queue.tasks o.task b }) completes) i;
      })) {
        flight = flight i;
        mail = (posted ∙ (λ j. posted_all (taken_mail j) (sends j))) i;
      }

      after_ready_event : state_of (record u { stations = stations; queue = queue; mail = mail })
          ≡ after_event u.machine (state_of u) (event.Ready o)
      unfolding after_event
      after_ready_event =
          after_told ∙ ap (ready_message_taken (without (state_of u) (event.Ready o)) o) (sym ready_told)

      -- it is done
      pub does_ready : Does (event.Ready o) u (record u { stations = stations; queue = queue; mail = mail })
      does_ready =
          does_front (event.Ready o) u fit may u.gateway stations queue mail refl
          (ap (λ (s : StationsState). s.sizes) told) (ap (λ (q : QueueState). q.size) queued)
          (rest_by u.mail
          (with_letters (without_letter u.mail (event.Ready o)) (sent_on_ready v storage (view_in u.stations.slots o))) mail
          (let k = rest_on_ready (without_letter u.mail (event.Ready o)) v storage (view_in u.stations.slots o) in
          record { size = k.size; opens = k.opens; gones = k.gones; decodes = k.decodes })
          (letters ∙ (λ i. with_letters (taken_out i) (passes i))))
          after_ready_event

-- ---- link

-- a ready to the next operand leaves the rest of the mail
rest_told : (m : MailState) (next : OpName) (v : Option OpName) (storage : Option Storage)
    → KeepsRest m (with_letters m (told_by next v storage))
rest_told m next None storage = record { size = refl; opens = refl; gones = refl; decodes = refl }
rest_told m next (Some v) None = record { size = refl; opens = refl; gones = refl; decodes = refl }
rest_told m next (Some v) (Some storage) = record { size = refl; opens = refl; gones = refl; decodes = refl }

rest_on_link : (m : MailState) (next : OpName) (r : Option OperandView)
    → KeepsRest m (with_letters m (sent_on_link next r))
rest_on_link m next None = record { size = refl; opens = refl; gones = refl; decodes = refl }
rest_on_link m next (Some r) = rest_told m next r.version r.storage

module _ (u : Units) (o : OpName) (fit : IsFit u) (may : May (event.Link o) u) where
  -- its message is there
  pub link_there : is_some (get u.mail.links o) ≡ true
  unfolding is_enabled
  link_there = may

  module _ (next : OpName) (at : get u.mail.links o ≡ Some next) where
    -- what it sends
    pub link_sent : sent_by_event u.machine (state_of u) (event.Link o)
        ≡ (after_link (flight_of u.stations.slots) o next).sent
    link_sent = ap (link_sends (state_of u) o) at

    module _ (stations : StationsState) (left mail : MailState) (sent : List Message)
        (told : stations ≡ record (u.stations) { slots = slots_after_link u.stations.slots o next })
        (flight : flight_of stations.slots ≡ (after_link (flight_of u.stations.slots) o next).part)
        (passes : sent ≡ sent_on_link next (view_in u.stations.slots o))
        (sends : messages_of sent ≡ (after_link (flight_of u.stations.slots) o next).sent)
        (taken_out : left ≡ without_letter u.mail (event.Link o))
        (taken_mail : mail_of left ≡ taken (mail_of u.mail) (event.Link o)) (letters : mail ≡ with_letters left sent)
        (posted : mail_of mail ≡ posted_all (mail_of left) (messages_of sent)) where
      after_linked : state_of (record u { stations = stations; mail = mail })
          ≡ link_message_taken (without (state_of u) (event.Link o)) o (Some next)
      after_linked = λ i. record (state_of u) {
        flight = flight i;
        mail = (posted ∙ (λ j. posted_all (taken_mail j) (sends j))) i;
      }

      after_link_event : state_of (record u { stations = stations; mail = mail })
          ≡ after_event u.machine (state_of u) (event.Link o)
      unfolding after_event
      after_link_event = after_linked ∙ ap (link_message_taken (without (state_of u) (event.Link o)) o) (sym at)

      -- it is done
      pub does_link : Does (event.Link o) u (record u { stations = stations; mail = mail })
      does_link =
          does_front (event.Link o) u fit may u.gateway stations u.queue mail refl
          (ap (λ (s : StationsState). s.sizes) told) refl
          (rest_by u.mail
          (with_letters (without_letter u.mail (event.Link o)) (sent_on_link next (view_in u.stations.slots o))) mail
          (let k = rest_on_link (without_letter u.mail (event.Link o)) next (view_in u.stations.slots o) in
          record { size = k.size; opens = k.opens; gones = k.gones; decodes = k.decodes })
          (letters ∙ (λ i. with_letters (taken_out i) (passes i))))
          after_link_event

-- ---- bye

module _ (u : Units) (o : OpName) (fit : IsFit u) (may : May (event.Bye o) u) where
  -- its message is there
  pub bye_there : is_some (get u.mail.byes o) ≡ true
  unfolding is_enabled
  bye_there = may

  module _ (promised : Bool) (at : get u.mail.byes o ≡ Some promised) (stations : StationsState) (mail : MailState)
      (parted : stations ≡ record (u.stations) { slots = slots_after_bye u.stations.slots o promised })
      (flight : flight_of stations.slots ≡ after_bye (flight_of u.stations.slots) o promised)
      (taken_out : mail ≡ without_letter u.mail (event.Bye o))
      (taken_mail : mail_of mail ≡ taken (mail_of u.mail) (event.Bye o)) where
    after_parted : state_of (record u { stations = stations; mail = mail })
        ≡ bye_message_taken (without (state_of u) (event.Bye o)) o (Some promised)
    after_parted = λ i. record (state_of u) { flight = flight i; mail = taken_mail i }

    after_bye_event : state_of (record u { stations = stations; mail = mail })
        ≡ after_event u.machine (state_of u) (event.Bye o)
    unfolding after_event
    after_bye_event = after_parted ∙ ap (bye_message_taken (without (state_of u) (event.Bye o)) o) (sym at)

    -- it is done
    pub does_bye : Does (event.Bye o) u (record u { stations = stations; mail = mail })
    does_bye =
        does_front (event.Bye o) u fit may u.gateway stations u.queue mail refl
        (ap (λ (s : StationsState). s.sizes) parted) refl
        (rest_by u.mail (without_letter u.mail (event.Bye o)) mail
        (record { size = refl; opens = refl; gones = refl; decodes = refl }) taken_out)
        after_bye_event
