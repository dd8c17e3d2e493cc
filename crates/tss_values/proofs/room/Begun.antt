-- No event but a start begins a task that is in flight.
use Rattle.std.proofs.Common.{◌≡◌, ◌≢◌, ◌⊎◌, inl, inr, ℕ, Bool, true, false, List, Option, Some, None, refl, sym, ap}
use Rattle.std.proofs.Common.{subst, ◌∙◌, arith}
use Rattle.std.specs.Prelude.{cond, slice_get}
use Rattle.std.specs.List.{list_all}
use Rattle.std.specs.FinMap.{get, insert, remove}
use Rattle.std.proofs.lemmas.Bool.{and_parts}
use Rattle.std.proofs.lemmas.Option.{same_Some}
use Rattle.tss_base.specs.declared.operand.OpName.{OpName}
use Rattle.tss_base.specs.declared.operand.Task.{Task}
use Rattle.tss_base.specs.declared.machine.Machine.{Machine}
use Rattle.tss_base.specs.declared.event.Event.TheVariants as event
use Rattle.tss_base.specs.declared.marks.Stage.{Stage}
use Rattle.tss_base.specs.declared.marks.Stage.TheVariants as stage
use Rattle.tss_base.specs.Names.{Numbered}
use Rattle.tss_maps.proofs.Keys.{nat_order, decide_key}
use Rattle.tss_maps.proofs.Changes.{at_inserted, beside_inserted, beside_removed}
use Rattle.tss_protocol.specs.Mail.{Source}
use Rattle.tss_protocol.specs.State.{State, OperandState, Flying, Busy}
use Rattle.tss_protocol.specs.Stations.{has_finished, has_left, is_gone, is_complete, remaining_tasks, entered}
use Rattle.tss_protocol.specs.Stations.{with_operand, awaited, woken_by, woken_in, task_after_ready, linked_by}
use Rattle.tss_protocol.specs.Stations.{linked_in, operand_after_link, parted_by, parted_in, operand_after_bye}
use Rattle.tss_protocol.specs.Stations.{finished_in}
use Rattle.tss_protocol.specs.UnitMachine.{after_event, without, after_take, ready_message_taken, link_message_taken}
use Rattle.tss_protocol.specs.UnitMachine.{bye_message_taken, after_finish}
use Rattle.tss_names.specs.Tasks.{taken_by, HasTaskNumbers}
use Rattle.tss_control.specs.Runners.{HasRunners}

-- it runs or has finished
abbrev IsUnderWay : Flying → Type 0
IsUnderWay x = (x.stage ≡ stage.Running) ⊎ (x.stage ≡ stage.Finished)

-- a task has begun where it is so, if it is in flight
abbrev pub BegunIn : Numbered Flying → ℕ → Type 0
BegunIn f n = (x : Flying) → get f n ≡ Some x → IsUnderWay x

-- what has begun afterwards had begun before
abbrev pub BeginsNone : Numbered Flying → Numbered Flying → Type 0
BeginsNone f h = (n : ℕ) → BegunIn h n → BegunIn f n

under_way_as : (x y : Flying) → y.stage ≡ x.stage → IsUnderWay y → IsUnderWay x
under_way_as x y same (inl runs) = inl (sym same ∙ runs)
under_way_as x y same (inr done) = inr (sym same ∙ done)

finished_is : (s : Stage) → has_finished s ≡ true → s ≡ stage.Finished
finished_is stage.Waiting e = absurd (cc)
finished_is stage.Queued e = absurd (cc)
finished_is stage.Running e = absurd (cc)
finished_is stage.Finished e = refl

-- nothing changed
pub begins_same : (f : Numbered Flying) → BeginsNone f f
begins_same f n begun = begun

module _ (f : Numbered Flying) (k : ℕ) (x : Flying) (there : get f k ≡ Some x) where
  -- a change of one task
  begins_changed : (h : Numbered Flying) → ((n : ℕ) → n ≢ k → get h n ≡ get f n) → (BegunIn h k → IsUnderWay x)
      → BeginsNone f h
  begins_changed h beside at n begun z e = elim (decide_key nat_order n k) [
    | inl same ↦
        subst IsUnderWay (same_Some x z (sym there ∙ ap (get f) (sym same) ∙ e)) (at (subst (BegunIn h) same begun))
    | inr apart ↦ begun z (beside n apart ∙ e)
  ]

  begins_written : (y : Flying) → (IsUnderWay y → IsUnderWay x) → BeginsNone f (insert f k y)
  begins_written y was =
      begins_changed (insert f k y) (λ n apart. beside_inserted nat_order f k y n apart)
      (λ begun. was (begun y (at_inserted nat_order f k y)))

  begins_remaining : (y : Flying) → y.stage ≡ x.stage → BeginsNone f (remaining_tasks f k y)
  begins_remaining y same = by (is_gone y) refl
    where
      by : (b : Bool) → is_gone y ≡ b → BeginsNone f (cond b (remove f k) (insert f k y))
      by true gone =
          let done = finished_is y.stage
          (and_parts (has_finished y.stage) (list_all (λ r. has_left r.farewell) y.operands) gone).0 in
          begins_changed (remove f k) (λ n apart. beside_removed nat_order f k n apart)
          (λ begun. inr (sym same ∙ done))
      by false stays = begins_written y (λ u. under_way_as x y same u)

  begins_awaited : (y : Flying) → y.stage ≡ x.stage → BeginsNone f (insert f k (awaited y))
  begins_awaited y same = begins_written (awaited y) (by (is_complete y))
    where
      by : (b : Bool) → IsUnderWay (cond b (record y { stage = stage.Queued }) y) → IsUnderWay x
      by true (inl e) = absurd (cc)
      by true (inr e) = absurd (cc)
      by false u = under_way_as x y same u

module _ (f : Numbered Flying) where
  ready_by : (o : OpName) (s : Source) (x : Flying) → get f o.task ≡ Some x → (r : Option OperandState)
      → BeginsNone f (woken_by f o s x r).flight
  ready_by o s x e None = begins_same f
  ready_by o s x e (Some r) = begins_awaited f o.task x e (task_after_ready x o.place r s) refl

  ready_in : (o : OpName) (s : Source) (x : Option Flying) → get f o.task ≡ x → BeginsNone f (woken_in f o s x).flight
  ready_in o s None e = begins_same f
  ready_in o s (Some x) e = ready_by o s x e (slice_get x.operands o.place)

  link_by : (o next : OpName) (x : Flying) → get f o.task ≡ Some x → (r : Option OperandState)
      → BeginsNone f (linked_by f o next x r).part
  link_by o next x e None = begins_same f
  link_by o next x e (Some r) =
      begins_remaining f o.task x e (with_operand x o.place (operand_after_link r next)) refl

  link_in : (o next : OpName) (x : Option Flying) → get f o.task ≡ x → BeginsNone f (linked_in f o next x).part
  link_in o next None e = begins_same f
  link_in o next (Some x) e = link_by o next x e (slice_get x.operands o.place)

  part_by : (o : OpName) (promised : Bool) (x : Flying) → get f o.task ≡ Some x → (r : Option OperandState)
      → BeginsNone f (parted_by f o promised x r)
  part_by o promised x e None = begins_same f
  part_by o promised x e (Some r) =
      begins_remaining f o.task x e (with_operand x o.place (operand_after_bye r promised)) refl

  part_in : (o : OpName) (promised : Bool) (x : Option Flying) → get f o.task ≡ x
      → BeginsNone f (parted_in f o promised x)
  part_in o promised None e = begins_same f
  part_in o promised (Some x) e = part_by o promised x e (slice_get x.operands o.place)

module _ (m : Machine) (S : State) where
  ready_taken : (o : OpName) (s : Option Source)
      → BeginsNone S.flight (ready_message_taken (without S (event.Ready o)) o s).flight
  ready_taken o None = begins_same S.flight
  ready_taken o (Some s) = ready_in S.flight o s (get S.flight o.task) refl

  -- a ready begins none
  pub begins-ready : (o : OpName) → BeginsNone S.flight (after_event m S (event.Ready o)).flight
  unfolding after_event
  begins-ready o = ready_taken o (get S.mail.readies o)

  link_taken : (o : OpName) (next : Option OpName)
      → BeginsNone S.flight (link_message_taken (without S (event.Link o)) o next).flight
  link_taken o None = begins_same S.flight
  link_taken o (Some next) = link_in S.flight o next (get S.flight o.task) refl

  -- nor does a link
  pub begins-link : (o : OpName) → BeginsNone S.flight (after_event m S (event.Link o)).flight
  unfolding after_event
  begins-link o = link_taken o (get S.mail.links o)

  bye_taken : (o : OpName) (promised : Option Bool)
      → BeginsNone S.flight (bye_message_taken (without S (event.Bye o)) o promised).flight
  bye_taken o None = begins_same S.flight
  bye_taken o (Some promised) = part_in S.flight o promised (get S.flight o.task) refl

  -- nor a bye
  pub begins-bye : (o : OpName) → BeginsNone S.flight (after_event m S (event.Bye o)).flight
  unfolding after_event
  begins-bye o = bye_taken o (get S.mail.byes o)

  finish_in : (n : ℕ) (x : Flying) → get S.flight n ≡ Some x → x.stage ≡ stage.Running → (y : Option Flying)
      → get S.flight n ≡ y → BeginsNone S.flight (finished_in S.flight n y).part
  finish_in n x e runs None at = begins_same S.flight
  finish_in n x e runs (Some y) at =
      let running = ap (λ (z : Flying). z.stage) (same_Some y x (sym at ∙ e)) ∙ runs in
      begins_left n y at (inl running) (is_gone (record y { stage = stage.Finished }))
    where
      begins_left : (n : ℕ) (y : Flying) → get S.flight n ≡ Some y → IsUnderWay y → (b : Bool)
          → BeginsNone S.flight
          (cond b (remove S.flight n) (insert S.flight n (record y { stage = stage.Finished })))
      begins_left n y at u true =
          begins_changed S.flight n y at (remove S.flight n) (λ k apart. beside_removed nat_order S.flight n k apart)
          (λ begun. u)
      begins_left n y at u false =
          begins_written S.flight n y at (record y { stage = stage.Finished }) (λ begun. u)

  finish_taken : HasRunners S → (w : ℕ) (b : Option Busy) → get S.workers w ≡ b
      → BeginsNone S.flight (after_finish S w b).flight
  finish_taken runners w None e = begins_same S.flight
  finish_taken runners w (Some b) e =
      let at = runners.running w b e in
      finish_in b.task.number at.0 at.1 at.2 (get S.flight b.task.number) refl

  -- nor a finish
  pub begins-finish : HasRunners S → (w : ℕ) → BeginsNone S.flight (after_event m S (event.Finish w)).flight
  unfolding after_event
  begins-finish runners w = finish_taken runners w (get S.workers w) refl

  take_taken : (all : List Task) → HasTaskNumbers m all S → (t : Option Task) → S.inbox ≡ t
      → BeginsNone S.flight (after_take S t).flight
  take_taken all numbers None e = begins_same S.flight
  take_taken all numbers (Some t) e = λ n begun z at.
      begun z (beside_inserted nat_order S.flight t.number (entered t) n (apart n z at) ∙ at)
    where
      apart : (n : ℕ) (z : Flying) → get S.flight n ≡ Some z → n ≢ t.number
      apart n z at same =
          let taken = (numbers.flight n z at).taken in
          let last = ap (λ o. taken_by o S.main.spawned) e in
          let newest = (numbers.inbox t e).number in
          omega (arith, taken.0, taken.1, last, newest, same)

  -- nor a take
  pub begins-take : (all : List Task) → HasTaskNumbers m all S
      → BeginsNone S.flight (after_event m S event.Take).flight
  unfolding after_event
  begins-take all numbers = take_taken all numbers S.inbox refl
