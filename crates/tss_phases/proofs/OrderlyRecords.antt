-- Look-ups stay in order where the record is linked, and where the task leaves.
use Rattle.std.proofs.Common.{◌≡◌, ℕ, Bool, true, false, Option, Some, None, refl, sym, ap, ◌∙◌, subst, inl, inr}
use Rattle.std.specs.Prelude.{slice_get, if◌then◌else◌}
use Rattle.std.specs.FinMap.{insert, remove}
use Rattle.std.proofs.lemmas.Option.{none-some, same_Some}
use Rattle.tss_base.specs.declared.operand.OpName.{OpName}
use Rattle.tss_base.specs.declared.marks.Farewell.{Farewell}
use Rattle.tss_base.specs.declared.marks.Farewell.TheVariants as farewell
use Rattle.tss_base.specs.Names.{Numbered}
use Rattle.tss_protocol.specs.Mail.{Source}
use Rattle.tss_protocol.specs.State.{OperandState, Flying}
use Rattle.tss_protocol.specs.Stations.{operand_at, farewell_after_link, operand_after_link, is_gone, remaining_tasks}
use Rattle.tss_phases.specs.Phase.{Phase, Ahead, Decoding, Sent, Waiting, Told, Ready, Releasing, Leaving, Promised}
use Rattle.tss_phases.specs.Phase.{Left, LookUps, station_phase, phase_at}
use Rattle.tss_phases.specs.Alone.{HasRecord}
use Rattle.tss_phases.specs.Leaving.{phase_linked}
use Rattle.tss_phases.specs.Orderly.{WasTold, FitsPhase, IsOrderly}
use Rattle.tss_phases.proofs.PhaseLemmas.{silent_station}
use Rattle.tss_phases.proofs.Shown.{promised_shows, left_shows}
use Rattle.tss_phases.proofs.Records.{record_put, record_removed}
use Rattle.tss_phases.proofs.LeavingTasks.{done_from_test}
use Rattle.tss_phases.proofs.LinkEvent.{record_linked, linked_station}
use Rattle.tss_phases.proofs.OrderlyLemmas.{orderly_absent}

-- ---- the task leaves

module _ (l : LookUps) (r : OperandState) (kept : l.station ≡ Some r) (left : r.farewell ≡ farewell.Left) where
  clash : (f : Farewell) → r.farewell ≡ f → f ≡ farewell.Nothing → ⊥
  clash f e n = nothing_left (sym n ∙ sym e ∙ left)
    where
      nothing_left : farewell.Nothing ≡ farewell.Left → ⊥
      nothing_left e = cc

  not_staying : (s : Option Source) → HasRecord l s → ⊥
  not_staying s h =
      clash r.farewell refl (ap (λ (r : OperandState). r.farewell) (same_Some r h.kept (sym kept ∙ h.there)) ∙ h.stays)

  not_promised : phase_at l ≡ Promised → ⊥
  not_promised e =
      let shown = (promised_shows l e).1 in
      promised_left (sym shown.2
      ∙ ap (λ (r : OperandState). r.farewell) (same_Some shown.0 r (sym shown.1 ∙ kept)) ∙ left)
    where
      promised_left : farewell.Promised ≡ farewell.Left → ⊥
      promised_left e = cc

  by_phase : (p : Phase) → phase_at l ≡ p → FitsPhase p l → phase_at l ≡ Left
  by_phase Ahead e h = absurd (none-some r (sym h.0 ∙ kept))
  by_phase Decoding e h = absurd (not_staying None h.0)
  by_phase Sent e h = absurd (not_staying None h.0)
  by_phase Waiting e h = absurd (not_staying None h.0)
  by_phase Told e h = absurd (not_staying None h.0)
  by_phase Ready e h = absurd (not_staying (Some h.0.0) h.0.1)
  by_phase Releasing e h = absurd (not_staying (Some h.0.0) h.0.1)
  by_phase Leaving e h = absurd (not_staying (Some h.0.0) h.0.1)
  by_phase Promised e h = absurd (not_promised e)
  by_phase Left e h = e

  -- an operand in order whose farewell is done has left
  pub left_by_record : IsOrderly l → phase_at l ≡ Left
  left_by_record o = by_phase (phase_at l) refl o.fits

  -- and stays in order where its record is gone
  orderly_gone : IsOrderly l → IsOrderly (record l { station = None })
  orderly_gone o =
      let e = left_by_record o in
      let fits : FitsPhase Left l = subst (λ p. FitsPhase p l) e o.fits in
      orderly_absent (record l { station = None }) (silent_station l None (left_shows l e).0) refl fits.1

-- an operand of a task that may leave is in order, if it is so with its record there
pub orderly_remaining : (flight : Numbered Flying) (task : ℕ) (y : Flying) (q : OpName) (l : LookUps)
    → q.task ≡ task → IsOrderly (record l { station = slice_get y.operands q.place })
    → IsOrderly (record l { station = operand_at (remaining_tasks flight task y) q })
orderly_remaining flight task y q l same o = by (is_gone y) refl
  where
    removed : (r : Option OperandState) → slice_get y.operands q.place ≡ r → is_gone y ≡ true
        → IsOrderly (record l { station = r }) → IsOrderly (record l { station = None })
    removed None at g o = o
    removed (Some r) at g o =
        orderly_gone (record l { station = Some r }) r refl ((done_from_test y g).left q.place r at) o

    by : (b : Bool) → is_gone y ≡ b → IsOrderly (record l {
      station = operand_at (if b then remove flight task else insert flight task y) q;
    })
    by true g =
        subst (λ k. IsOrderly (record l { station = k })) (sym (record_removed flight task q same))
        (removed (slice_get y.operands q.place) refl g o)
    by false g = subst (λ k. IsOrderly (record l { station = k })) (sym (record_put flight task y q same)) o

-- ---- a link

module _ (l : LookUps) (r : OperandState) (next : OpName) (kept : l.station ≡ Some r) where
  -- the look-ups with the linked record
  abbrev with_link : LookUps
  with_link = record l { station = Some (operand_after_link r next) }

  linked_record : (s : Option Source) → HasRecord l s → HasRecord with_link s
  linked_record s h =
      let same = same_Some r h.kept (sym kept ∙ h.there) in
      record {
        kept = operand_after_link r next;
        there = refl;
        told = ap (λ (r : OperandState). r.source) same ∙ h.told;
        stays = ap farewell_after_link (ap (λ (r : OperandState). r.farewell) same ∙ h.stays);
      }

  linked_told : WasTold l → WasTold with_link
  linked_told w =
      let same = same_Some r w.0 (sym kept ∙ w.1) in
      (operand_after_link r next, refl, (w.2.0, ap (λ (r : OperandState). r.source) same ∙ w.2.1))

  linked_fits : (p : Phase) → FitsPhase p l → FitsPhase (phase_linked p) with_link
  linked_fits Ahead h = absurd (none-some r (sym h.0 ∙ kept))
  linked_fits Decoding h = (linked_record None h.0, h.1)
  linked_fits Sent h = (linked_record None h.0, h.1)
  linked_fits Waiting h = (linked_record None h.0, h.1)
  linked_fits Told h = (linked_record None h.0, h.1)
  linked_fits Ready h = ((h.0.0, linked_record (Some h.0.0) h.0.1), h.1)
  linked_fits Releasing h = ((h.0.0, linked_record (Some h.0.0) h.0.1), h.1)
  linked_fits Leaving h = ((h.0.0, linked_record (Some h.0.0) h.0.1), h.1)
  linked_fits Promised h = (inr (linked_told h.0), h.1)
  linked_fits Left h = elim h.0 [
    | inl none ↦ absurd (none-some r (sym none ∙ kept))
    | inr w ↦ (inr (linked_told w), h.1)
  ]

  -- an operand stays in order where it is linked
  pub orderly_linked : IsOrderly l → IsOrderly with_link
  orderly_linked o =
      let e = linked_station l (Some (operand_after_link r next))
      (record_linked r.farewell r.source ∙ ap (λ k. phase_linked (station_phase k l.ahead)) (sym kept)) in
      record {
        alone = o.alone;
        fits = subst (λ p. FitsPhase p with_link) (sym e) (linked_fits (phase_at l) o.fits);
      }
