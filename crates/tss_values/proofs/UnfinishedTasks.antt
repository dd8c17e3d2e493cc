-- A task that hasn't finished stays in flight, and finishes by its own finish alone.
use Rattle.std.proofs.Common.{◌≡◌, ◌≢◌, ℕ, Bool, true, false, List, [], ◌∷◌, Option, Some, None, refl, sym, ap, ◌∙◌}
use Rattle.std.proofs.Common.{subst, inl, inr}
use Rattle.std.specs.Prelude.{if◌then◌else◌, ◌&&◌, slice_get}
use Rattle.std.specs.List.{list_all}
use Rattle.std.specs.FinMap.{get, insert, remove}
use Rattle.std.proofs.lemmas.Option.{same_Some}
use Rattle.tss_base.specs.declared.operand.OpName.{OpName}
use Rattle.tss_base.specs.declared.operand.Operand.{Operand}
use Rattle.tss_base.specs.declared.operand.Task.{Task}
use Rattle.tss_base.specs.declared.machine.Machine.{Machine}
use Rattle.tss_base.specs.declared.event.Event.{Event}
use Rattle.tss_base.specs.declared.event.Event.TheVariants as event
use Rattle.tss_base.specs.declared.marks.Stage.TheVariants as stage
use Rattle.tss_base.specs.Names.{Numbered}
use Rattle.tss_maps.proofs.Keys.{nat_order, decide_key}
use Rattle.tss_maps.proofs.Changes.{at_inserted, beside_inserted, beside_removed}
use Rattle.tss_model.specs.Access.{operands_of}
use Rattle.tss_protocol.specs.Mail.{Source}
use Rattle.tss_protocol.specs.State.{State, OperandState, Flying, Busy}
use Rattle.tss_protocol.specs.Stations.{has_left, has_finished, first_stage, entered, is_complete, awaited}
use Rattle.tss_protocol.specs.Stations.{with_operand, is_gone, remaining_tasks, woken_in, woken_by, task_after_ready}
use Rattle.tss_protocol.specs.Stations.{linked_in, linked_by, operand_after_link, finished_in, parted_in, parted_by}
use Rattle.tss_protocol.specs.Stations.{operand_after_bye}
use Rattle.tss_protocol.specs.UnitMachine.{after_event, without, after_take, ready_message_taken, link_message_taken}
use Rattle.tss_protocol.specs.UnitMachine.{after_start, start_task, after_finish, bye_message_taken}
use Rattle.tss_locality.proofs.LeftFields.{Leaves-after_event}

-- the task of a number is under way
abbrev IsUnder : Numbered Flying → ℕ → Type 0
IsUnder f n = (x : Flying) × (get f n ≡ Some x) × (has_finished x.stage ≡ false)

-- each that was still is
abbrev pub StayUnder : Numbered Flying → Numbered Flying → Type 0
StayUnder f k = (n : ℕ) → IsUnder f n → IsUnder k n

-- ---- changes of tasks in flight

module _ (f : Numbered Flying) where
  stay_same : StayUnder f f
  stay_same n u = u

  -- a change of one task to one that hasn't finished, where that hadn't
  stay_inserted : (t : ℕ) (z : Flying) → (IsUnder f t → has_finished z.stage ≡ false) → StayUnder f (insert f t z)
  stay_inserted t z own n u = elim (decide_key nat_order n t) [
    | inl same ↦
        (z, ap (get (insert f t z)) same ∙ at_inserted nat_order f t z, own (subst (IsUnder f) same u))
    | inr apart ↦ (u.0, beside_inserted nat_order f t z n apart ∙ u.1, u.2)
  ]

  -- a change of one task, at the same stage
  stay_remaining : (t : ℕ) (x y : Flying) → get f t ≡ Some x → y.stage ≡ x.stage → StayUnder f (remaining_tasks f t y)
  stay_remaining t x y there same n u = elim (decide_key nat_order n t) [
    | inl is ↦
        let one = same_Some u.0 x (sym u.1 ∙ ap (get f) is ∙ there) in
        let open_yet = ap has_finished (same ∙ ap (λ (x : Flying). x.stage) (sym one)) ∙ u.2 in
        let stays = not_gone y open_yet in (
          y,
          ap (get (remaining_tasks f t y)) is
              ∙ ap (λ b. get (if b then remove f t else insert f t y) t) stays
              ∙ at_inserted nat_order f t y,
          open_yet,
        )
    | inr apart ↦ by (is_gone y) n u apart
  ]
    where
      not_gone : (y : Flying) → has_finished y.stage ≡ false → is_gone y ≡ false
      not_gone y e = ap (λ b. b && list_all (λ r. has_left r.farewell) y.operands) e

      by : (b : Bool) (n : ℕ) → IsUnder f n → n ≢ t → IsUnder (if b then remove f t else insert f t y) n
      by true n u apart = (u.0, beside_removed nat_order f t n apart ∙ u.1, u.2)
      by false n u apart = (u.0, beside_inserted nat_order f t y n apart ∙ u.1, u.2)

  awaited_under : (y : Flying) → has_finished y.stage ≡ false → (b : Bool)
      → has_finished (if b then record y { stage = stage.Queued } else y).stage ≡ false
  awaited_under y e true = refl
  awaited_under y e false = e

  stay_woken_by : (o : OpName) (source : Source) (x : Flying) → get f o.task ≡ Some x → (r : Option OperandState)
      → StayUnder f (woken_by f o source x r).flight
  stay_woken_by o source x there None = stay_same
  stay_woken_by o source x there (Some r) =
      let y = task_after_ready x o.place r source in
      stay_inserted o.task (awaited y) (λ u.
      awaited_under y
      (ap (λ (x : Flying). has_finished x.stage) (same_Some x u.0 (sym there ∙ u.1)) ∙ u.2) (is_complete y))

  stay_woken : (o : OpName) (source : Source) (x : Option Flying) → get f o.task ≡ x
      → StayUnder f (woken_in f o source x).flight
  stay_woken o source None there = stay_same
  stay_woken o source (Some x) there = stay_woken_by o source x there (slice_get x.operands o.place)

  stay_linked_by : (o next : OpName) (x : Flying) → get f o.task ≡ Some x → (r : Option OperandState)
      → StayUnder f (linked_by f o next x r).part
  stay_linked_by o next x there None = stay_same
  stay_linked_by o next x there (Some r) =
      stay_remaining o.task x (with_operand x o.place (operand_after_link r next)) there refl

  stay_linked : (o next : OpName) (x : Option Flying) → get f o.task ≡ x → StayUnder f (linked_in f o next x).part
  stay_linked o next None there = stay_same
  stay_linked o next (Some x) there = stay_linked_by o next x there (slice_get x.operands o.place)

  stay_parted_by : (o : OpName) (promised : Bool) (x : Flying) → get f o.task ≡ Some x → (r : Option OperandState)
      → StayUnder f (parted_by f o promised x r)
  stay_parted_by o promised x there None = stay_same
  stay_parted_by o promised x there (Some r) =
      stay_remaining o.task x (with_operand x o.place (operand_after_bye r promised)) there refl

  stay_parted : (o : OpName) (promised : Bool) (x : Option Flying) → get f o.task ≡ x
      → StayUnder f (parted_in f o promised x)
  stay_parted o promised None there = stay_same
  stay_parted o promised (Some x) there = stay_parted_by o promised x there (slice_get x.operands o.place)

  -- another task than the one that finishes
  stay_finished : (t : ℕ) (x : Option Flying) (n : ℕ) → n ≢ t → IsUnder f n → IsUnder (finished_in f t x).part n
  stay_finished t None n apart u = u
  stay_finished t (Some x) n apart u = by (is_gone (record x { stage = stage.Finished }))
    where
      by : (b : Bool)
          → IsUnder (if b then remove f t else insert f t (record x { stage = stage.Finished })) n
      by true = (u.0, beside_removed nat_order f t n apart ∙ u.1, u.2)
      by false = (u.0, beside_inserted nat_order f t (record x { stage = stage.Finished }) n apart ∙ u.1, u.2)

-- a task that is taken hasn't finished
pub entered_under : (t : Task) → has_finished (entered t).stage ≡ false
entered_under t = by (operands_of t)
  where
    by : (os : List Operand) → has_finished (first_stage os) ≡ false
    by [] = refl
    by (o ∷ os) = refl

-- ---- events

module _ (m : Machine) (S : State) where
  stay_take : (t : Option Task) → StayUnder S.flight (after_take S t).flight
  stay_take None = stay_same S.flight
  stay_take (Some t) = stay_inserted S.flight t.number (entered t) (λ u. entered_under t)

  stay_ready : (o : OpName) (s : Option Source)
      → StayUnder S.flight (ready_message_taken (without S (event.Ready o)) o s).flight
  stay_ready o None = stay_same S.flight
  stay_ready o (Some s) = stay_woken S.flight o s (get S.flight o.task) refl

  stay_link : (o : OpName) (next : Option OpName)
      → StayUnder S.flight (link_message_taken (without S (event.Link o)) o next).flight
  stay_link o None = stay_same S.flight
  stay_link o (Some next) = stay_linked S.flight o next (get S.flight o.task) refl

  stay_bye : (o : OpName) (p : Option Bool)
      → StayUnder S.flight (bye_message_taken (without S (event.Bye o)) o p).flight
  stay_bye o None = stay_same S.flight
  stay_bye o (Some p) = stay_parted S.flight o p (get S.flight o.task) refl

  stay_start_task : (w t : ℕ) (ts : List ℕ) (x : Option Flying)
      → StayUnder S.flight (start_task m S w t ts x).flight
  stay_start_task w t ts None = stay_same S.flight
  stay_start_task w t ts (Some x) =
      stay_inserted S.flight t (record x { stage = stage.Running }) (λ u. refl)

  stay_start : (w : ℕ) (ts : List ℕ) → StayUnder S.flight (after_start m S w ts).flight
  stay_start w [] = stay_same S.flight
  stay_start w (t ∷ ts) = stay_start_task w t ts (get S.flight t)

  -- another task than a finishing worker's
  pub stay-finish : (w : ℕ) (b : Busy) → get S.workers w ≡ Some b → (n : ℕ) → n ≢ b.task.number → IsUnder S.flight n
      → IsUnder (after_event m S (event.Finish w)).flight n
  unfolding after_event
  stay-finish w b busy n apart u =
      subst (λ x. IsUnder (after_finish S w x).flight n) (sym busy)
      (stay_finished S.flight b.task.number (get S.flight b.task.number) n apart u)

  -- flights that are the same
  same_flight : (T : State) → T.flight ≡ S.flight → StayUnder S.flight T.flight
  same_flight T same n u = (u.0, ap (λ f. get f n) same ∙ u.1, u.2)

  -- each task stays under way through every event but a finish
  pub StayUnder-after_event : (e : Event) → ((w : ℕ) → e ≢ event.Finish w)
      → StayUnder S.flight (after_event m S e).flight
  unfolding after_event
  StayUnder-after_event event.Take other = stay_take S.inbox
  StayUnder-after_event (event.Ready o) other = stay_ready o (get S.mail.readies o)
  StayUnder-after_event (event.Link o) other = stay_link o (get S.mail.links o)
  StayUnder-after_event (event.Start w) other = stay_start w S.queue
  StayUnder-after_event (event.Finish w) other = absurd (other w refl)
  StayUnder-after_event (event.Bye o) other = stay_bye o (get S.mail.byes o)
  StayUnder-after_event e other = same_flight (after_event m S e) (λ i. (Leaves-after_event m S e i).flight)
