-- What an operand holds where it becomes ready, is linked, lets go, and has gone.
use Rattle.std.proofs.Common.{◌≡◌, ◌≢◌, ℕ, Bool, true, false, Option, Some, None, refl, sym, ap, ◌∙◌, subst, inl, inr}
use Rattle.std.proofs.Common.{true≢false}
use Rattle.std.specs.Prelude.{if◌then◌else◌, slice_get}
use Rattle.std.specs.FinMap.{insert, remove}
use Rattle.std.proofs.lemmas.Option.{none-some, same_Some}
use Rattle.tss_base.specs.declared.operand.OpName.{OpName}
use Rattle.tss_base.specs.declared.marks.Farewell.TheVariants as farewell
use Rattle.tss_base.specs.declared.marks.LinkState.{LinkState}
use Rattle.tss_base.specs.declared.marks.LinkState.TheVariants as link
use Rattle.tss_base.specs.Names.{Numbered}
use Rattle.tss_protocol.specs.Mail.{Source}
use Rattle.tss_protocol.specs.State.{OperandState, Flying}
use Rattle.tss_protocol.specs.Stations.{operand_at, operand_after_ready, link_after_ready, operand_after_link}
use Rattle.tss_protocol.specs.Stations.{link_after_link, is_gone, remaining_tasks}
use Rattle.tss_phases.specs.Phase.{Phase, Ahead, Decoding, Sent, Waiting, Told, Ready, Releasing, Leaving, Promised}
use Rattle.tss_phases.specs.Phase.{Left, LookUps, absent_phase, station_phase, record_phase, phase_at}
use Rattle.tss_phases.specs.Alone.{IsSilent, HasRecord}
use Rattle.tss_phases.specs.Leaving.{phase_linked}
use Rattle.tss_phases.specs.Orderly.{IsInformed, FitsPhase, IsOrderly}
use Rattle.tss_phases.proofs.Shown.{left_shows}
use Rattle.tss_phases.proofs.Records.{record_put, record_removed}
use Rattle.tss_phases.proofs.LeavingTasks.{done_from_test}
use Rattle.tss_phases.proofs.LinkEvent.{record_linked, linked_station}
use Rattle.tss_phases.proofs.PhaseLemmas.{phase_silent, silent_station}
use Rattle.tss_phases.proofs.OrderlyLemmas.{leaving_stands}
use Rattle.tss_phases.proofs.OrderlyRecords.{left_by_record}
use Rattle.tss_control.specs.Holders.{link_fits, PromiseFits}
use Rattle.tss_control.proofs.holders.Fits.{LinksFit, Holding}
use Rattle.tss_control.proofs.holders.Moves.{none_left}

-- ---- one without a record

-- an operand that has no record and no message holds nothing
holding_gone : (T : Source → Type 0) (O C : Type 0) (w : Bool) (l : LookUps) (k : Option OpName) → IsSilent l
    → l.station ≡ None → Holding T O C w l k
holding_gone T O C w l k silent none = record {
  told = λ s e. absurd (none_left l.telling s silent.telling e);
  ready = λ r s e. absurd (none_left l.station r none e);
  linking = λ next r s e. absurd (none_left l.station r none e);
  releases = λ c e. absurd (none_left l.releasing c silent.releasing e);
  waiting_writer = λ x e. absurd (never e);
  waiting_reader = λ x e. absurd (never e);
  links = λ r e. absurd (none_left l.station r none e);
}
  where
    absent : (b : Bool) → absent_phase b ≡ Waiting → ⊥
    absent true e = cc
    absent false e = cc

    never : phase_at l ≡ Waiting → ⊥
    never e = absent l.ahead (sym (phase_silent l silent ∙ ap (λ k. station_phase k l.ahead) none) ∙ e)

-- one of a task that may leave holds what it holds with its record there
pub holding_remaining : (T : Source → Type 0) (O C : Type 0) (w : Bool) (flight : Numbered Flying) (task : ℕ)
    (y : Flying)
    (q : OpName) (l : LookUps) (k : Option OpName) → q.task ≡ task
    → IsOrderly (record l { station = slice_get y.operands q.place })
    → Holding T O C w (record l { station = slice_get y.operands q.place }) k
    → Holding T O C w (record l { station = operand_at (remaining_tasks flight task y) q }) k
holding_remaining T O C w flight task y q l k same o h = by (is_gone y) refl
  where
    removed : (r : Option OperandState) → slice_get y.operands q.place ≡ r → is_gone y ≡ true
        → IsOrderly (record l { station = r }) → Holding T O C w (record l { station = r }) k
        → Holding T O C w (record l { station = None }) k
    removed None at g o h = h
    removed (Some r) at g o h =
        let j : LookUps = record l { station = Some r } in
        let left = left_by_record j r refl ((done_from_test y g).left q.place r at) o in
        holding_gone T O C w (record l { station = None }) k (silent_station j None (left_shows j left).0) refl

    by : (b : Bool) → is_gone y ≡ b → Holding T O C w (record l {
      station = operand_at (if b then remove flight task else insert flight task y) q;
    }) k
    by true g =
        subst (λ s. Holding T O C w (record l { station = s }) k) (sym (record_removed flight task q same))
        (removed (slice_get y.operands q.place) refl g o h)
    by false g = subst (λ s. Holding T O C w (record l { station = s }) k) (sym (record_put flight task y q same)) h

-- ---- ready

module _ (T : Source → Type 0) (O C : Type 0) (w : Bool) (l : LookUps) (k : Option OpName)
    (h : Holding T O C w l k) where
  -- an operand that is told what is true is ready with it
  pub holding_readied : (s : Source) → l.telling ≡ Some s → phase_at l ≡ Told → IsSilent (record l { telling = None })
      → (r : OperandState) → l.station ≡ Some r → r.farewell ≡ farewell.Nothing
      → Holding T O C w (record l { telling = None; station = Some (operand_after_ready r s) }) k
  holding_readied s there at silent r kept stays = record {
    told = λ u e. absurd (none-some u e);
    ready = λ q u e f p.
        let is = ap (λ (r : OperandState). r.source) (same_Some (operand_after_ready r s) q e) ∙ f in
        subst T (same_Some s u is) (h.told s there);
    linking = λ next q u e f p.
        let is = ap (λ (r : OperandState). r.source) (same_Some (operand_after_ready r s) q e) ∙ f in
        subst T (same_Some s u is) (h.told s there);
    releases = λ c e. absurd (none_left l.releasing c silent.releasing e);
    waiting_writer = λ x e. absurd (ready_waits (sym now ∙ e));
    waiting_reader = λ x e. absurd (ready_waits (sym now ∙ e));
    links = λ q e. subst (LinksFit w j k) (same_Some (operand_after_ready r s) q e) (record {
      fits = ap (λ p. link_fits p (link_after_ready r.link)) now
          ∙ readied r.link (ap (λ p. link_fits p r.link) (sym at) ∙ before.fits);
      writer = λ x. let n = before.writer x in (ap link_after_ready n.0, n.1);
      under_way = λ next x. ap link_after_ready (before.under_way next x);
      early = λ x. elim x [
        | inl d ↦ absurd (ready_decodes (sym now ∙ d))
        | inr d ↦ absurd (ready_sent (sym now ∙ d))
      ];
      promise = λ b x. absurd (none_left l.leaving b silent.leaving x);
      promised = λ x. absurd (ready_promised (sym now ∙ x));
    });
  }
    where
      j : LookUps
      j = record l { telling = None; station = Some (operand_after_ready r s) }

      before : LinksFit w l k r
      before = h.links r kept

      now : phase_at (record l { telling = None; station = Some (operand_after_ready r s) }) ≡ Ready
      now =
          phase_silent (record l { telling = None; station = Some (operand_after_ready r s) })
          (silent_station (record l { telling = None }) (Some (operand_after_ready r s)) silent)
          ∙ ap (λ f. record_phase f (Some s)) stays

      readied : (x : LinkState) → link_fits Told x ≡ true → link_fits Ready (link_after_ready x) ≡ true
      readied link.Nothing e = refl
      readied (link.Held next) e = refl
      readied link.Passed e = absurd (true≢false (sym e))

      ready_waits : Ready ≡ Waiting → ⊥
      ready_waits e = cc

      ready_decodes : Ready ≡ Decoding → ⊥
      ready_decodes e = cc

      ready_sent : Ready ≡ Sent → ⊥
      ready_sent e = cc

      ready_promised : Ready ≡ Promised → ⊥
      ready_promised e = cc

  -- ---- link

  -- an operand that is linked holds the link, or has passed it on
  pub holding_linked : (next : OpName) → k ≡ Some next → IsOrderly l → phase_at l ≢ Left → (r : OperandState)
      → l.station ≡ Some r → Holding T O C w (record l { station = Some (operand_after_link r next) }) None
  holding_linked next there orderly stays r kept = record {
    told = h.told;
    ready = λ q s e f p. true_of s (is q s e f);
    linking = λ n q s e f g. absurd (none-some n g);
    releases = λ c e.
        let b = h.releases c e in (
          b.0,
          (
            operand_after_link r next,
            b.1.1,
            refl,
            ap (λ (r : OperandState). r.source) (same_Some r b.1.0 (sym kept ∙ b.1.2)) ∙ b.1.3,
            b.1.4,
          ),
        );
    waiting_writer = λ x e. h.waiting_writer x (was_waiting (phase_at l) (sym now ∙ e));
    waiting_reader = λ x e. h.waiting_reader x (was_waiting (phase_at l) (sym now ∙ e));
    links = λ q e. subst (LinksFit w j None) (same_Some (operand_after_link r next) q e) (record {
      fits = ap (λ p. link_fits p (link_after_link r.source next)) now ∙ fits_by (phase_at l) refl orderly.fits;
      writer = λ x. absurd (none_left k next (before.writer x).1 there);
      under_way = λ n g. absurd (none-some n g);
      early = λ x. refl;
      promise = λ b x. promise_by b ((leaving_stands l b orderly x).1) (before.promise b x);
      promised = λ x. absurd (never_promised (phase_at l) (sym now ∙ x));
    });
  }
    where
      j : LookUps
      j = record l { station = Some (operand_after_link r next) }

      before : LinksFit w l k r
      before = h.links r kept

      now : phase_at (record l { station = Some (operand_after_link r next) }) ≡ phase_linked (phase_at l)
      now =
          linked_station l (Some (operand_after_link r next))
          (record_linked r.farewell r.source ∙ ap (λ k. phase_linked (station_phase k l.ahead)) (sym kept))

      is : (q : OperandState) (s : Source) → Some (operand_after_link r next) ≡ Some q → q.source ≡ Some s
          → r.source ≡ Some s
      is q s e f = ap (λ (r : OperandState). r.source) (same_Some (operand_after_link r next) q e) ∙ f

      true_of : (s : Source) → r.source ≡ Some s → T s
      true_of s e = h.linking next r s kept e there

      source_by : (s : Option Source) → HasRecord l s → r.source ≡ s
      source_by s a = ap (λ (r : OperandState). r.source) (same_Some r a.kept (sym kept ∙ a.there)) ∙ a.told

      fits_by : (p : Phase) → phase_at l ≡ p → FitsPhase p l
          → link_fits (phase_linked p) (link_after_link r.source next) ≡ true
      fits_by Ahead e a = absurd (none_left l.station r a.0 kept)
      fits_by Decoding e a = absurd (none_left k next (before.early (inl e)) there)
      fits_by Sent e a = absurd (none_left k next (before.early (inr e)) there)
      fits_by Waiting e a = ap (λ s. link_fits Waiting (link_after_link s next)) (source_by None a.0)
      fits_by Told e a = ap (λ s. link_fits Told (link_after_link s next)) (source_by None a.0)
      fits_by Ready e a = ap (λ s. link_fits Ready (link_after_link s next)) (source_by (Some a.0.0) a.0.1)
      fits_by Releasing e a = ap (λ s. link_fits Releasing (link_after_link s next)) (source_by (Some a.0.0) a.0.1)
      fits_by Leaving e a = ap (λ s. link_fits Leaving (link_after_link s next)) (source_by (Some a.0.0) a.0.1)
      fits_by Promised e a =
          ap (λ s. link_fits Left (link_after_link s next))
          (ap (λ (r : OperandState). r.source) (same_Some r a.0.0 (sym kept ∙ a.0.1)) ∙ a.0.2.1)
      fits_by Left e a = absurd (stays e)

      promise_by : (b : Bool) → IsInformed l → PromiseFits k r.link b
          → PromiseFits None (link_after_link r.source next) b
      promise_by true i (inl x) = absurd (none_left k next x.1 there)
      promise_by true i (inr x) = inl (ap (λ s. link_after_link s next) (source_by (Some i.0.0) i.0.1), refl)
      promise_by false i x = absurd (none_left k next x.1 there)

      was_waiting : (p : Phase) → phase_linked p ≡ Waiting → p ≡ Waiting
      was_waiting Promised e = absurd (cc)
      was_waiting other e = e

      never_promised : (p : Phase) → phase_linked p ≡ Promised → ⊥
      never_promised Promised e = cc
      never_promised other e = cc
