-- What holds of each task in flight under its number holds after every event, where it holds of a task that is taken.
use Rattle.std.proofs.Common.{◌≡◌, ℕ, Bool, true, false, cond, List, [], ◌∷◌, Option, Some, None, refl, sym, ap, ◌∙◌}
use Rattle.std.proofs.Common.{subst, inl, inr}
use Rattle.std.specs.Prelude.{slice_get}
use Rattle.std.specs.FinMap.{get, insert, remove, get-empty}
use Rattle.std.specs.Ordering.{nat_cmp}
use Rattle.std.proofs.lemmas.Option.{none-some}
use Rattle.tss_base.specs.declared.operand.OpName.{OpName}
use Rattle.tss_base.specs.declared.operand.Task.{Task}
use Rattle.tss_base.specs.declared.machine.Machine.{Machine}
use Rattle.tss_base.specs.declared.event.Event.{Event}
use Rattle.tss_base.specs.declared.event.Event.TheVariants as event
use Rattle.tss_base.specs.declared.marks.Stage.TheVariants as stage
use Rattle.tss_base.specs.Names.{Numbered}
use Rattle.tss_base.specs.Image.{ImageState}
use Rattle.tss_maps.proofs.Keys.{nat_order}
use Rattle.tss_maps.proofs.Changes.{from_inserted, from_removed}
use Rattle.tss_protocol.specs.Mail.{Source}
use Rattle.tss_protocol.specs.State.{OperandState, Flying, Busy, State, initial_state}
use Rattle.tss_protocol.specs.Stations.{is_gone, remaining_tasks, with_operand, is_complete, task_after_ready, woken_by}
use Rattle.tss_protocol.specs.Stations.{woken_in, operand_after_link, linked_by, linked_in, entered, finished_in}
use Rattle.tss_protocol.specs.Stations.{operand_after_bye, parted_by, parted_in}
use Rattle.tss_protocol.specs.UnitMachine.{without, after_take, ready_message_taken, link_message_taken}
use Rattle.tss_protocol.specs.UnitMachine.{bye_message_taken, start_task, after_start, after_finish, after_event}
use Rattle.tss_locality.proofs.LeftFields.{Leaves-after_event}

-- this holds of each task in flight, by its number
abbrev pub AllTasks : (ℕ → Task → Type 0) → Numbered Flying → Type 0
AllTasks P f = (n : ℕ) (x : Flying) → get f n ≡ Some x → P n x.task

-- nothing is in flight at first
pub AllTasks-initial_state : (P : ℕ → Task → Type 0) (i : ImageState) → AllTasks P (initial_state i).flight
AllTasks-initial_state P i n x e = absurd (none-some x (sym (get-empty nat_cmp n) ∙ e))

module _ (P : ℕ → Task → Type 0) (f : Numbered Flying) (all : AllTasks P f) where
  held_put : (n : ℕ) (y : Flying) → P n y.task → AllTasks P (insert f n y)
  held_put n y number q x e = elim (from_inserted nat_order f n y q x e) [
    | inl new ↦ subst (λ q. P q x.task) (sym new.0) (subst (λ (x : Flying). P n x.task) (sym new.1) number)
    | inr old ↦ all q x old.1
  ]

  held_remaining_if : (n : ℕ) (y : Flying) → P n y.task → (b : Bool) →
      AllTasks P (cond b (remove f n) (insert f n y))
  held_remaining_if n y number true q x e = all q x (from_removed nat_order f n q x e).1
  held_remaining_if n y number false q x e = held_put n y number q x e

  held_remaining : (n : ℕ) (y : Flying) → P n y.task → AllTasks P (remaining_tasks f n y)
  held_remaining n y number = held_remaining_if n y number (is_gone y)

  awaited_held : (n : ℕ) (y : Flying) → P n y.task → (b : Bool) →
      P n (cond b (record y { stage = stage.Queued }) y).task
  awaited_held n y number true = number
  awaited_held n y number false = number

  woken_by_held : (o : OpName) (s : Source) (x : Flying) → P o.task x.task → (r : Option OperandState) →
      AllTasks P (woken_by f o s x r).flight
  woken_by_held o s x number None = all
  woken_by_held o s x number (Some r) =
      let y = task_after_ready x o.place r s in
      held_put o.task (cond (is_complete y) (record y { stage = stage.Queued }) y)
      (awaited_held o.task y number (is_complete y))

  woken_in_held : (o : OpName) (s : Source) (x : Option Flying) → get f o.task ≡ x →
      AllTasks P (woken_in f o s x).flight
  woken_in_held o s None there = all
  woken_in_held o s (Some x) there =
      woken_by_held o s x (all o.task x there) (slice_get x.operands o.place)

  linked_by_held : (o next : OpName) (x : Flying) → P o.task x.task → (r : Option OperandState) →
      AllTasks P (linked_by f o next x r).part
  linked_by_held o next x number None = all
  linked_by_held o next x number (Some r) =
      held_remaining o.task (with_operand x o.place (operand_after_link r next)) number

  linked_in_held : (o next : OpName) (x : Option Flying) → get f o.task ≡ x →
      AllTasks P (linked_in f o next x).part
  linked_in_held o next None there = all
  linked_in_held o next (Some x) there =
      linked_by_held o next x (all o.task x there) (slice_get x.operands o.place)

  parted_by_held : (o : OpName) (promised : Bool) (x : Flying) → P o.task x.task →
      (r : Option OperandState) →
      AllTasks P (parted_by f o promised x r)
  parted_by_held o promised x number None = all
  parted_by_held o promised x number (Some r) =
      held_remaining o.task (with_operand x o.place (operand_after_bye r promised)) number

  parted_in_held : (o : OpName) (promised : Bool) (x : Option Flying) → get f o.task ≡ x →
      AllTasks P (parted_in f o promised x)
  parted_in_held o promised None there = all
  parted_in_held o promised (Some x) there =
      parted_by_held o promised x (all o.task x there) (slice_get x.operands o.place)

  finished_in_held : (n : ℕ) (x : Option Flying) → get f n ≡ x → AllTasks P (finished_in f n x).part
  finished_in_held n None there = all
  finished_in_held n (Some x) there =
      held_remaining n (record x { stage = stage.Finished }) (all n x there)

module _ (P : ℕ → Task → Type 0) (m : Machine) (S : State) (all : AllTasks P S.flight) where
  take_held : (t : Option Task) → ((u : Task) → t ≡ Some u → P u.number u) →
      AllTasks P (after_take S t).flight
  take_held None number = all
  take_held (Some t) number = held_put P S.flight all t.number (entered t) (number t refl)

  ready_held : (o : OpName) (s : Option Source) →
      AllTasks P (ready_message_taken (without S (event.Ready o)) o s).flight
  ready_held o None = all
  ready_held o (Some s) = woken_in_held P S.flight all o s (get S.flight o.task) refl

  link_held : (o : OpName) (next : Option OpName) →
      AllTasks P (link_message_taken (without S (event.Link o)) o next).flight
  link_held o None = all
  link_held o (Some next) = linked_in_held P S.flight all o next (get S.flight o.task) refl

  bye_held : (o : OpName) (promised : Option Bool) →
      AllTasks P (bye_message_taken (without S (event.Bye o)) o promised).flight
  bye_held o None = all
  bye_held o (Some promised) = parted_in_held P S.flight all o promised (get S.flight o.task) refl

  start_task_held : (w t : ℕ) (ts : List ℕ) (x : Option Flying) → get S.flight t ≡ x →
      AllTasks P (start_task m S w t ts x).flight
  start_task_held w t ts None there = all
  start_task_held w t ts (Some x) there =
      held_put P S.flight all t (record x { stage = stage.Running }) (all t x there)

  start_held : (w : ℕ) (queue : List ℕ) → AllTasks P (after_start m S w queue).flight
  start_held w [] = all
  start_held w (t ∷ ts) = start_task_held w t ts (get S.flight t) refl

  finish_held : (w : ℕ) (b : Option Busy) → AllTasks P (after_finish S w b).flight
  finish_held w None = all
  finish_held w (Some b) =
      finished_in_held P S.flight all b.task.number (get S.flight b.task.number) refl

  same_flight : (T : State) → T.flight ≡ S.flight → AllTasks P T.flight
  same_flight T same n x e = all n x (ap (λ f. get f n) (sym same) ∙ e)

  -- what take needs: that it holds of the inbox's task
  abbrev pub TakesWell : Event → Type 0
  TakesWell event.Take = (t : Task) → S.inbox ≡ Some t → P t.number t
  TakesWell e = Unit {0}

  -- after every event
  pub AllTasks-after_event : (e : Event) → TakesWell e → AllTasks P (after_event m S e).flight
  unfolding after_event
  AllTasks-after_event event.Take number = take_held S.inbox number
  AllTasks-after_event (event.Ready o) number = ready_held o (get S.mail.readies o)
  AllTasks-after_event (event.Link o) number = link_held o (get S.mail.links o)
  AllTasks-after_event (event.Start w) number = start_held w S.queue
  AllTasks-after_event (event.Finish w) number = finish_held w (get S.workers w)
  AllTasks-after_event (event.Bye o) number = bye_held o (get S.mail.byes o)
  AllTasks-after_event e number = same_flight (after_event m S e) (λ i. (Leaves-after_event m S e i).flight)
