-- An event but decode decodes nothing: an operand that is decoded after it was decoded before.
use Rattle.std.proofs.Common.{◌≡◌, true, false, List, Some, refl, sym, ap, ◌∙◌, inl, inr, true≢false}
use Rattle.std.specs.Prelude.{slice_get, nat_lt, ◌||◌}
use Rattle.std.specs.FinMap.{get}
use Rattle.std.proofs.lemmas.Option.{same_Some}
use Rattle.tss_base.specs.declared.operand.OpName.{OpName}
use Rattle.tss_base.specs.declared.operand.Operand.{Operand}
use Rattle.tss_base.specs.declared.operand.Task.{Task}
use Rattle.tss_base.specs.declared.machine.Machine.{Machine}
use Rattle.tss_base.specs.declared.event.Event.{Event}
use Rattle.tss_base.specs.declared.event.Event.TheVariants as event
use Rattle.tss_maps.proofs.Keys.{nat_order, decide_key}
use Rattle.tss_model.specs.Access.{operands_of}
use Rattle.tss_protocol.specs.State.{State}
use Rattle.tss_protocol.specs.UnitMachine.{IsEnabled, is_enabled, after_event, can_take}
use Rattle.tss_phases.specs.Phase.{inbox_has, phase_of, is_decoded}
use Rattle.tss_phases.specs.Orderly.{AreOrderly}
use Rattle.tss_phases.proofs.QuietEvents.{phase_of-ack}
use Rattle.tss_phases.proofs.TakeEvent.{phase_of-take, phase_of-take-other}
use Rattle.tss_phases.proofs.Tests.{something}
use Rattle.tss_names.specs.Tasks.{task_at, IsOperandOf, HasTaskNumbers}
use Rattle.tss_protocol.proofs.FrontLemmas.{is_of_front, KeepsFront-after_event}
use Rattle.tss_control.proofs.rounds.EntriesQuiet.{decoded_before}

-- what is decoded of a spawned task after an event was decoded before
abbrev DecodesNone : List Task → State → State → Type 0
DecodesNone all S T =
    (o : OpName) (p : Operand) → IsOperandOf all o p
    → is_decoded (phase_of T o) ≡ true → is_decoded (phase_of S o) ≡ true

module _ (m : Machine) (all : List Task) (S : State) (before : AreOrderly S) where
  -- events behind the gateway
  pub later_decodes_none : (e : Event) → is_of_front e ≡ false → AreOrderly (after_event m S e)
      → (o : OpName) → is_decoded (phase_of (after_event m S e) o) ≡ true → is_decoded (phase_of S o) ≡ true
  later_decodes_none e later after o d =
      let k = KeepsFront-after_event m S e later in
      decoded_before S (after_event m S e) before after o (λ i. get (k.front i).decodes o)
      (λ i. nat_lt (k.front i).spawned o.task || inbox_has (k.front i).inbox o.task)
      d

  -- an ack
  pub ack_decodes_none : (a o : OpName) → is_decoded (phase_of (after_event m S (event.Ack a)) o) ≡ true
      → is_decoded (phase_of S o) ≡ true
  ack_decodes_none a o d = ap is_decoded (sym (phase_of-ack m S a o)) ∙ d

  -- a take
  module _ (numbers : HasTaskNumbers m all S) where
    take_own : (t : Task) → S.inbox ≡ Some t → (o : OpName) (p : Operand) → IsOperandOf all o p → o.task ≡ t.number
        → is_decoded (phase_of (after_event m S event.Take) o) ≡ true → is_decoded (phase_of S o) ≡ true
    take_own t inbox o p h same d =
        let is = same_Some h.task t (sym h.spawned ∙ ap (task_at all) same ∙ (numbers.inbox t inbox).task) in
        let at = ap (λ t. slice_get (operands_of t) o.place) (sym is) ∙ h.place in
        absurd (true≢false (sym d ∙ ap is_decoded (phase_of-take m S t inbox o p same at)))

    take_by : (t : Task) → S.inbox ≡ Some t → DecodesNone all S (after_event m S event.Take)
    take_by t inbox o p h d = elim (decide_key nat_order o.task t.number) [
      | inl same ↦ take_own t inbox o p h same d
      | inr other ↦ ap is_decoded (sym (phase_of-take-other m S t inbox o other)) ∙ d
    ]

    pub take_decodes_none : IsEnabled m S event.Take → DecodesNone all S (after_event m S event.Take)
    unfolding is_enabled
    take_decodes_none on =
        let t = something (can_take m S) S.inbox refl on in
        take_by t.0 t.1
