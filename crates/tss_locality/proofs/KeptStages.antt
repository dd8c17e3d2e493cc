-- The stage of each task in flight is the same after every event but take, ready, start and finish.
use Rattle.std.proofs.Common.{◌≡◌, ℕ, Bool, true, false, cond, Option, Some, None, refl, sym, ap, ◌∙◌, inl, inr}
use Rattle.std.specs.Prelude.{slice_get}
use Rattle.std.specs.FinMap.{get, insert, remove}
use Rattle.tss_base.specs.declared.operand.OpName.{OpName}
use Rattle.tss_base.specs.declared.machine.Machine.{Machine}
use Rattle.tss_base.specs.declared.event.Event.{Event}
use Rattle.tss_base.specs.declared.event.Event.TheVariants as event
use Rattle.tss_base.specs.Names.{Numbered}
use Rattle.tss_maps.proofs.Keys.{nat_order}
use Rattle.tss_maps.proofs.Changes.{from_inserted, from_removed}
use Rattle.tss_protocol.specs.State.{OperandState, Flying, State}
use Rattle.tss_protocol.specs.Stations.{is_gone, remaining_tasks, with_operand, operand_after_link, linked_by}
use Rattle.tss_protocol.specs.Stations.{linked_in, operand_after_bye, parted_by, parted_in}
use Rattle.tss_protocol.specs.UnitMachine.{without, link_message_taken, bye_message_taken, after_event}
use Rattle.tss_locality.proofs.LeftFields.{Leaves-after_event}

-- each task that is in flight afterwards was in flight before, in the same stage
abbrev StagesKept : Numbered Flying → Numbered Flying → Type 0
StagesKept f g = (n : ℕ) (y : Flying) → get g n ≡ Some y → (x : Flying) × (get f n ≡ Some x) × (y.stage ≡ x.stage)

module _ (f : Numbered Flying) where
  same_stages : StagesKept f f
  same_stages n y there = (y, there, refl)

  kept_remaining_if : (n : ℕ) (x y : Flying) → get f n ≡ Some x → y.stage ≡ x.stage → (b : Bool) →
      StagesKept f (cond b (remove f n) (insert f n y))
  kept_remaining_if n x y there same true q z at = (z, (from_removed nat_order f n q z at).1, refl)
  kept_remaining_if n x y there same false q z at = elim (from_inserted nat_order f n y q z at) [
    | inl new ↦ (x, ap (get f) new.0 ∙ there, ap (λ (z : Flying). z.stage) new.1 ∙ same)
    | inr old ↦ (z, old.1, refl)
  ]

  kept_remaining : (n : ℕ) (x y : Flying) → get f n ≡ Some x → y.stage ≡ x.stage → StagesKept f (remaining_tasks f n y)
  kept_remaining n x y there same = kept_remaining_if n x y there same (is_gone y)

  linked_by_kept : (o next : OpName) (x : Flying) → get f o.task ≡ Some x → (r : Option OperandState) →
      StagesKept f (linked_by f o next x r).part
  linked_by_kept o next x there None = same_stages
  linked_by_kept o next x there (Some r) =
      kept_remaining o.task x (with_operand x o.place (operand_after_link r next)) there refl

  linked_in_kept : (o next : OpName) (x : Option Flying) → get f o.task ≡ x → StagesKept f (linked_in f o next x).part
  linked_in_kept o next None there = same_stages
  linked_in_kept o next (Some x) there = linked_by_kept o next x there (slice_get x.operands o.place)

  parted_by_kept : (o : OpName) (promised : Bool) (x : Flying) → get f o.task ≡ Some x → (r : Option OperandState) →
      StagesKept f (parted_by f o promised x r)
  parted_by_kept o promised x there None = same_stages
  parted_by_kept o promised x there (Some r) =
      kept_remaining o.task x (with_operand x o.place (operand_after_bye r promised)) there refl

  parted_in_kept : (o : OpName) (promised : Bool) (x : Option Flying) → get f o.task ≡ x →
      StagesKept f (parted_in f o promised x)
  parted_in_kept o promised None there = same_stages
  parted_in_kept o promised (Some x) there = parted_by_kept o promised x there (slice_get x.operands o.place)

-- an event that changes no stage
abbrev pub ChangesNoStage : Event → Type 0
ChangesNoStage event.Take = ⊥
ChangesNoStage (event.Ready o) = ⊥
ChangesNoStage (event.Start w) = ⊥
ChangesNoStage (event.Finish w) = ⊥
ChangesNoStage e = Unit {0}

module _ (m : Machine) (S : State) where
  link_kept : (o : OpName) (next : Option OpName) →
      StagesKept S.flight (link_message_taken (without S (event.Link o)) o next).flight
  link_kept o None = same_stages S.flight
  link_kept o (Some next) = linked_in_kept S.flight o next (get S.flight o.task) refl

  bye_kept : (o : OpName) (promised : Option Bool) →
      StagesKept S.flight (bye_message_taken (without S (event.Bye o)) o promised).flight
  bye_kept o None = same_stages S.flight
  bye_kept o (Some promised) = parted_in_kept S.flight o promised (get S.flight o.task) refl

  left_kept : (T : State) → T.flight ≡ S.flight → StagesKept S.flight T.flight
  left_kept T same n y there = (y, ap (λ f. get f n) (sym same) ∙ there, refl)

  -- after such an event
  pub StagesKept-after_event : (e : Event) → ChangesNoStage e → StagesKept S.flight (after_event m S e).flight
  unfolding after_event
  StagesKept-after_event event.Take no_stage = absurd no_stage
  StagesKept-after_event (event.Ready o) no_stage = absurd no_stage
  StagesKept-after_event (event.Link o) no_stage = link_kept o (get S.mail.links o)
  StagesKept-after_event (event.Start w) no_stage = absurd no_stage
  StagesKept-after_event (event.Finish w) no_stage = absurd no_stage
  StagesKept-after_event (event.Bye o) no_stage = bye_kept o (get S.mail.byes o)
  StagesKept-after_event e no_stage = left_kept (after_event m S e) (λ i. (Leaves-after_event m S e i).flight)
