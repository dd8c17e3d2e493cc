-- Records of readers: whose link is held, and what stays of the records of a task that may leave.
use Rattle.std.proofs.Common.{◌≡◌, ◌⊎◌, inl, inr, ℕ, Bool, true, false, List, Some, None, refl, sym, ap, ◌∙◌, subst}
use Rattle.std.specs.Prelude.{slice_get, if◌then◌else◌}
use Rattle.std.specs.FinMap.{insert, remove}
use Rattle.std.proofs.lemmas.Option.{none-some, same_Some}
use Rattle.tss_base.specs.declared.operand.OpName.{OpName}
use Rattle.tss_base.specs.declared.operand.Operand.{Operand}
use Rattle.tss_base.specs.declared.operand.Task.{Task}
use Rattle.tss_base.specs.declared.marks.Farewell.{Farewell}
use Rattle.tss_base.specs.declared.marks.Farewell.TheVariants as farewell
use Rattle.tss_base.specs.declared.marks.LinkState.TheVariants as link
use Rattle.tss_base.specs.Names.{Numbered}
use Rattle.tss_protocol.specs.State.{State, OperandState, Flying}
use Rattle.tss_protocol.specs.Stations.{operand_at, is_gone, remaining_tasks}
use Rattle.tss_phases.specs.Phase.{Phase, Waiting, Told}
use Rattle.tss_phases.specs.Phase.{LookUps, look_ups, phase_of}
use Rattle.tss_phases.specs.Alone.{HasRecord}
use Rattle.tss_phases.specs.Orderly.{FitsPhase, AreOrderly}
use Rattle.tss_phases.proofs.Records.{record_put, record_removed}
use Rattle.tss_maps.proofs.Keys.{nat_order, decide_key}
use Rattle.tss_phases.proofs.LeavingTasks.{done_from_test, remaining_beside}
use Rattle.tss_control.specs.Members.{operand_among}
use Rattle.tss_control.specs.Readers.{Arrivals, Holds}
use Rattle.tss_control.specs.Holders.{link_fits, HasHolders}

-- ---- phases in which a link is held

-- it waits, or is told
abbrev pub IsEarly : Phase → Type 0
IsEarly p = (p ≡ Waiting) ⊎ (p ≡ Told)

fits_early : (p : Phase) (next : OpName) → link_fits p (link.Held next) ≡ true → IsEarly p
fits_early Waiting next e = inl refl
fits_early Told next e = inr refl
fits_early other next e = absurd (cc)

-- who holds a link waits, or is told
held_early : (ts : List Task) (g : Arrivals) (S : State) → HasHolders ts g S → (a c : OpName) (p : Operand)
    → operand_among ts a ≡ Some p → Holds S a c → IsEarly (phase_of S a)
held_early ts g S h a c p there held =
    fits_early (phase_of S a) c
    (ap (link_fits (phase_of S a)) (sym held.2) ∙ (h.links a p held.0 there held.1).fits)

untold_record : (l : LookUps) (r : OperandState) → HasRecord l None → l.station ≡ Some r
    → (r.source ≡ None) × (r.farewell ≡ farewell.Nothing)
untold_record l r h at =
    let same = same_Some h.kept r (sym h.there ∙ at) in (
      ap (λ (r : OperandState). r.source) (sym same) ∙ h.told,
      ap (λ (r : OperandState). r.farewell) (sym same) ∙ h.stays,
    )

-- its record says nothing yet
pub early_record : (S : State) → AreOrderly S → (a : OpName) (r : OperandState) → IsEarly (phase_of S a)
    → operand_at S.flight a ≡ Some r → (r.source ≡ None) × (r.farewell ≡ farewell.Nothing)
early_record S orderly a r (inl e) at =
    untold_record (look_ups S a) r (subst (λ p. FitsPhase p (look_ups S a)) e (orderly a).fits).0 at
early_record S orderly a r (inr e) at =
    untold_record (look_ups S a) r (subst (λ p. FitsPhase p (look_ups S a)) e (orderly a).fits).0 at

-- ---- a task that may leave

module _ (flight : Numbered Flying) (task : ℕ) (x : Flying) (q : OpName) (same : q.task ≡ task) where
  from_either : (b : Bool) (r : OperandState)
      → operand_at (if b then remove flight task else insert flight task x) q ≡ Some r
      → slice_get x.operands q.place ≡ Some r
  from_either true r e = absurd (none-some r (sym (record_removed flight task q same) ∙ e))
  from_either false r e = sym (record_put flight task x q same) ∙ e

  -- a record that is there is one of the task's
  pub record_from_remaining : (r : OperandState) → operand_at (remaining_tasks flight task x) q ≡ Some r
      → slice_get x.operands q.place ≡ Some r
  record_from_remaining r e = from_either (is_gone x) r e

  not_left : (f : Farewell) → f ≡ farewell.Nothing → f ≡ farewell.Left → ⊥
  not_left f e d = cc

  in_either : (b : Bool) → is_gone x ≡ b → (r : OperandState) → slice_get x.operands q.place ≡ Some r
      → r.farewell ≡ farewell.Nothing
      → operand_at (if b then remove flight task else insert flight task x) q ≡ Some r
  in_either true gone r at stays = absurd (not_left r.farewell stays ((done_from_test x gone).left q.place r at))
  in_either false gone r at stays = record_put flight task x q same ∙ at

  -- and one without a farewell is still there
  pub record_stays : (r : OperandState) → slice_get x.operands q.place ≡ Some r → r.farewell ≡ farewell.Nothing
      → operand_at (remaining_tasks flight task x) q ≡ Some r
  record_stays r at stays = in_either (is_gone x) refl r at stays

-- ---- records after an event of a task that may leave

module _ (S T : State) (n : ℕ) (y : Flying) (flight : T.flight ≡ remaining_tasks S.flight n y)
    (P : OpName → Type 0) where
  -- a record is one that was there, with the same link, where those of the task are
  pub station_before : ((q : OpName) (r : OperandState) → P q → q.task ≡ n → slice_get y.operands q.place ≡ Some r
      → (k : OperandState) × (operand_at S.flight q ≡ Some k) × (r.link ≡ k.link))
      → (q : OpName) (r : OperandState) → P q → operand_at T.flight q ≡ Some r
      → (k : OperandState) × (operand_at S.flight q ≡ Some k) × (r.link ≡ k.link)
  station_before mine q r fit e =
      let at = sym (ap (λ f. operand_at f q) flight) ∙ e in
      elim (decide_key nat_order q.task n) [
        | inl same ↦ mine q r fit same (record_from_remaining S.flight n y q same r at)
        | inr other ↦ (r, sym (remaining_beside S.flight n y q other) ∙ at, refl)
      ]

  -- one that holds a link is still there, where those of the task that waits or is told are
  pub holds_after : (ts : List Task) (g : Arrivals) → AreOrderly S → HasHolders ts g S
      → ((q : OpName) (r : OperandState) → P q → q.task ≡ n → operand_at S.flight q ≡ Some r → IsEarly (phase_of S q)
      → slice_get y.operands q.place ≡ Some r)
      → (a c : OpName) (p : Operand) → P a → operand_among ts a ≡ Some p → Holds S a c → Holds T a c
  holds_after ts g orderly holders mine a c p fit there k =
      let early = held_early ts g S holders a c p there k in
      let stays = (early_record S orderly a k.0 early k.1).1 in (
        k.0,
        ap (λ f. operand_at f a) flight
            ∙ elim (decide_key nat_order a.task n) [
              | inl same ↦ record_stays S.flight n y a same k.0 (mine a k.0 fit same k.1 early) stays
              | inr other ↦ remaining_beside S.flight n y a other ∙ k.1
            ],
        k.2,
      )
