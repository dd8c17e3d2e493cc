-- What an operand holds where its task finishes, where it releases its version, and where it says farewell. A link that
-- is sent to it.
use Rattle.std.proofs.Common.{◌≡◌, ◌⊎◌, Bool, true, false, Option, Some, None, refl, sym, ap, ◌∙◌, subst, inl, inr}
use Rattle.std.proofs.Common.{true≢false}
use Rattle.std.specs.Prelude.{◌&&◌, not}
use Rattle.std.proofs.lemmas.Option.{none-some, same_Some}
use Rattle.tss_base.specs.declared.operand.OpName.{OpName}
use Rattle.tss_base.specs.declared.marks.LinkState.{LinkState}
use Rattle.tss_base.specs.declared.marks.LinkState.TheVariants as link
use Rattle.tss_protocol.specs.Mail.{Source, ReleaseContents}
use Rattle.tss_protocol.specs.State.{OperandState}
use Rattle.tss_protocol.specs.Stations.{operand_after_bye, has_passed}
use Rattle.tss_phases.specs.Phase.{Phase, Decoding, Sent, Waiting, Told, Ready, Releasing, Leaving, Promised}
use Rattle.tss_phases.specs.Phase.{Left, LookUps, phase_at}
use Rattle.tss_phases.specs.Alone.{IsSilent, HasRecord}
use Rattle.tss_phases.specs.Openers.{holds_version}
use Rattle.tss_phases.specs.Leaving.{phase_parted}
use Rattle.tss_phases.specs.Orderly.{FitsPhase, IsOrderly}
use Rattle.tss_phases.proofs.ByeEvent.{record_parted}
use Rattle.tss_phases.proofs.PhaseLemmas.{phase_silent, phase_releasing, phase_leaving, silent_station}
use Rattle.tss_phases.proofs.OrderlyLemmas.{leaving_stands}
use Rattle.tss_control.specs.Holders.{link_fits, PromiseFits}
use Rattle.tss_control.proofs.holders.Fits.{LinksFit, Holding}
use Rattle.tss_control.proofs.holders.Moves.{none_left}

-- what may be in two phases alike
same_fits : (x : LinkState) → link_fits Ready x ≡ link_fits Releasing x
same_fits link.Nothing = refl
same_fits (link.Held next) = refl
same_fits link.Passed = refl

leaving_fits : (x : LinkState) → link_fits Releasing x ≡ link_fits Leaving x
leaving_fits link.Nothing = refl
leaving_fits (link.Held next) = refl
leaving_fits link.Passed = refl

left_fits : (x : LinkState) → link_fits Leaving x ≡ link_fits Left x
left_fits link.Nothing = refl
left_fits (link.Held next) = refl
left_fits link.Passed = refl

-- an operand that waits, or holds its version, may be linked to one that comes after it
abbrev pub may_be_linked : Phase → Bool
may_be_linked Waiting = true
may_be_linked p = holds_version p

module _ (T : Source → Type 0) (O C : Type 0) (w : Bool) (l : LookUps) (k : Option OpName)
    (h : Holding T O C w l k) where
  -- ---- finish

  -- a ready operand lets its version go
  pub holding_finished : phase_at l ≡ Ready → IsSilent l → (r : OperandState) (s : Source) → l.station ≡ Some r
      → r.source ≡ Some s → (c : ReleaseContents) → c.version ≡ s.version → c.producer ≡ w
      → Holding T O C w (record l { releasing = Some c }) k
  holding_finished at silent r s kept source c version producer = record {
    told = h.told;
    ready = λ q u e f p. h.ready q u e f (inl at);
    linking = h.linking;
    releases = λ d e.
        let is = same_Some c d e in (
          ap (λ (c : ReleaseContents). c.producer) (sym is) ∙ producer,
          (r, s, kept, source, sym version ∙ ap (λ (c : ReleaseContents). c.version) is),
        );
    waiting_writer = λ x e. absurd (not_waiting (sym now ∙ e));
    waiting_reader = λ x e. absurd (not_waiting (sym now ∙ e));
    links = λ q e.
        let b = h.links q e in
        record {
          fits = ap (λ p. link_fits p q.link) now ∙ sym (same_fits q.link) ∙ ap (λ p. link_fits p q.link) (sym at)
              ∙ b.fits;
          writer = b.writer;
          under_way = b.under_way;
          early = λ x. elim x [
            | inl d ↦ absurd (not_decoding (sym now ∙ d))
            | inr d ↦ absurd (not_sent (sym now ∙ d))
          ];
          promise = λ p x. absurd (none_left l.leaving p silent.leaving x);
          promised = λ x. absurd (not_promised (sym now ∙ x));
        };
  }
    where
      now : phase_at (record l { releasing = Some c }) ≡ Releasing
      now =
          phase_releasing (record l { releasing = Some c }) c silent.decoding silent.opening silent.using silent.telling
          refl

      not_waiting : Releasing ≡ Waiting → ⊥
      not_waiting e = cc

      not_decoding : Releasing ≡ Decoding → ⊥
      not_decoding e = cc

      not_sent : Releasing ≡ Sent → ⊥
      not_sent e = cc

      not_promised : Releasing ≡ Promised → ⊥
      not_promised e = cc

  -- ---- release

  -- it is told whether a link is to come
  pub holding_released : phase_at l ≡ Releasing → IsSilent (record l { releasing = None }) → (r : OperandState)
      → l.station ≡ Some r → (promised : Bool) → PromiseFits k r.link promised
      → Holding T O C w (record l { releasing = None; leaving = Some promised }) k
  holding_released at silent r kept promised fits = record {
    told = h.told;
    ready = λ q u e f p. absurd (not_holding p);
    linking = h.linking;
    releases = λ d e. absurd (none-some d e);
    waiting_writer = λ x e. absurd (not_waiting (sym now ∙ e));
    waiting_reader = λ x e. absurd (not_waiting (sym now ∙ e));
    links = λ q e.
        let b = h.links q e in
        record {
          fits = ap (λ p. link_fits p q.link) now ∙ sym (leaving_fits q.link) ∙ ap (λ p. link_fits p q.link) (sym at)
              ∙ b.fits;
          writer = b.writer;
          under_way = b.under_way;
          early = λ x. elim x [
            | inl d ↦ absurd (not_decoding (sym now ∙ d))
            | inr d ↦ absurd (not_sent (sym now ∙ d))
          ];
          promise = λ p x.
              subst (PromiseFits k q.link) (same_Some promised p x)
              (subst (λ (r : OperandState). PromiseFits k r.link promised) (same_Some r q (sym kept ∙ e)) fits);
          promised = λ x. absurd (not_promised (sym now ∙ x));
        };
  }
    where
      j : LookUps
      j = record l { releasing = None; leaving = Some promised }

      now : phase_at (record l { releasing = None; leaving = Some promised }) ≡ Leaving
      now =
          phase_leaving (record l { releasing = None; leaving = Some promised }) promised silent.decoding silent.opening
          silent.using silent.telling refl refl

      not_holding : (phase_at (record l { releasing = None; leaving = Some promised }) ≡ Ready)
          ⊎ (phase_at (record l { releasing = None; leaving = Some promised }) ≡ Releasing) → ⊥
      not_holding (inl e) = leaving_ready (sym now ∙ e)
        where
          leaving_ready : Leaving ≡ Ready → ⊥
          leaving_ready e = cc
      not_holding (inr e) = leaving_releasing (sym now ∙ e)
        where
          leaving_releasing : Leaving ≡ Releasing → ⊥
          leaving_releasing e = cc

      not_waiting : Leaving ≡ Waiting → ⊥
      not_waiting e = cc

      not_decoding : Leaving ≡ Decoding → ⊥
      not_decoding e = cc

      not_sent : Leaving ≡ Sent → ⊥
      not_sent e = cc

      not_promised : Leaving ≡ Promised → ⊥
      not_promised e = cc

  -- ---- bye

  -- it has left, or awaits the promised link
  pub holding_parted : (promised : Bool) → l.leaving ≡ Some promised → phase_at l ≡ Leaving
      → IsSilent (record l { leaving = None }) → (r : OperandState) → l.station ≡ Some r
      → Holding T O C w (record l { leaving = None; station = Some (operand_after_bye r promised) }) k
  holding_parted promised there at silent r kept = record {
    told = h.told;
    ready = λ q u e f p. absurd (not_held (promised && not (has_passed r.link)) (now_held p));
    linking = λ next q u e f g.
        h.linking next r u kept
        (ap (λ (r : OperandState). r.source) (same_Some (operand_after_bye r promised) q e) ∙ f) g;
    releases = λ d e. absurd (none_left l.releasing d silent.releasing e);
    waiting_writer = λ x e. absurd (not_waiting (promised && not (has_passed r.link)) (sym now ∙ e));
    waiting_reader = λ x e. absurd (not_waiting (promised && not (has_passed r.link)) (sym now ∙ e));
    links = λ q e. subst (LinksFit w j k) (same_Some (operand_after_bye r promised) q e) (record {
      fits = ap (λ p. link_fits p r.link) now
          ∙ fits_by promised r.link (before.promise promised there)
          (ap (λ p. link_fits p r.link) (sym at) ∙ before.fits);
      writer = before.writer;
      under_way = before.under_way;
      early = λ x. absurd (not_early (promised && not (has_passed r.link)) (now_early x));
      promise = λ p x. absurd (none-some p x);
      promised = λ x. next_by promised r.link (before.promise promised there) (sym now ∙ x);
    });
  }
    where
      j : LookUps
      j = record l { leaving = None; station = Some (operand_after_bye r promised) }

      before : LinksFit w l k r
      before = h.links r kept

      now : phase_at (record l { leaving = None; station = Some (operand_after_bye r promised) })
          ≡ phase_parted (promised && not (has_passed r.link))
      now =
          phase_silent (record l { leaving = None; station = Some (operand_after_bye r promised) })
          (silent_station (record l { leaving = None }) (Some (operand_after_bye r promised)) silent)
          ∙ record_parted (promised && not (has_passed r.link)) r.source

      now_early : (phase_at (record l { leaving = None; station = Some (operand_after_bye r promised) }) ≡ Decoding)
          ⊎ (phase_at (record l { leaving = None; station = Some (operand_after_bye r promised) }) ≡ Sent)
          → (phase_parted (promised && not (has_passed r.link)) ≡ Decoding)
          ⊎ (phase_parted (promised && not (has_passed r.link)) ≡ Sent)
      now_early (inl e) = inl (sym now ∙ e)
      now_early (inr e) = inr (sym now ∙ e)

      now_held : (phase_at (record l { leaving = None; station = Some (operand_after_bye r promised) }) ≡ Ready)
          ⊎ (phase_at (record l { leaving = None; station = Some (operand_after_bye r promised) }) ≡ Releasing)
          → (phase_parted (promised && not (has_passed r.link)) ≡ Ready)
          ⊎ (phase_parted (promised && not (has_passed r.link)) ≡ Releasing)
      now_held (inl e) = inl (sym now ∙ e)
      now_held (inr e) = inr (sym now ∙ e)

      not_waiting : (b : Bool) → phase_parted b ≡ Waiting → ⊥
      not_waiting true e = cc
      not_waiting false e = cc

      not_early : (b : Bool) → (phase_parted b ≡ Decoding) ⊎ (phase_parted b ≡ Sent) → ⊥
      not_early true (inl e) = cc
      not_early true (inr e) = cc
      not_early false (inl e) = cc
      not_early false (inr e) = cc

      not_held : (b : Bool) → (phase_parted b ≡ Ready) ⊎ (phase_parted b ≡ Releasing) → ⊥
      not_held true (inl e) = cc
      not_held true (inr e) = cc
      not_held false (inl e) = cc
      not_held false (inr e) = cc

      fits_by : (b : Bool) (x : LinkState) → PromiseFits k x b → link_fits Leaving x ≡ true
          → link_fits (phase_parted (b && not (has_passed x))) x ≡ true
      fits_by false x p f = sym (left_fits x) ∙ f
      fits_by true link.Nothing p f = refl
      fits_by true (link.Held next) p f = absurd (true≢false (sym f))
      fits_by true link.Passed p f = refl

      next_by : (b : Bool) (x : LinkState) → PromiseFits k x b
          → phase_parted (b && not (has_passed x)) ≡ Promised → (next : OpName) × (k ≡ Some next)
      next_by false x p e = absurd (left_promised e)
        where
          left_promised : Left ≡ Promised → ⊥
          left_promised e = cc
      next_by true x (inl p) e = absurd (left_promised (ap (λ x. phase_parted (not (has_passed x))) (sym p.0) ∙ e))
        where
          left_promised : Left ≡ Promised → ⊥
          left_promised e = cc
      next_by true x (inr p) e = p.1

  -- ---- a link is sent

  -- to one that waits or holds its version, and has no link yet
  pub holding_linking : (next : OpName) → k ≡ None → w ≡ false → IsOrderly l → (r : OperandState) → l.station ≡ Some r
      → r.link ≡ link.Nothing → may_be_linked (phase_at l) ≡ true → Holding T O C w l (Some next)
  holding_linking next none reads orderly r kept nothing may = record {
    told = h.told;
    ready = h.ready;
    linking = λ n q s e f g. true_of (phase_at l) refl orderly.fits q s e f;
    releases = h.releases;
    waiting_writer = h.waiting_writer;
    waiting_reader = h.waiting_reader;
    links = λ q e. subst (LinksFit w l (Some next)) (same_Some r q (sym kept ∙ e)) (record {
      fits = before.fits;
      writer = λ x. absurd (true≢false (sym x ∙ reads));
      under_way = λ n x. nothing;
      early = λ x. absurd (not_early x);
      promise = λ p x. absurd (other Leaving refl (leaving_now p x));
      promised = λ x. absurd (other Promised refl x);
    });
  }
    where
      before : LinksFit w l k r
      before = h.links r kept

      other : (p : Phase) → may_be_linked p ≡ false → phase_at l ≡ p → ⊥
      other p f e = true≢false (sym may ∙ ap may_be_linked e ∙ f)

      not_early : (phase_at l ≡ Decoding) ⊎ (phase_at l ≡ Sent) → ⊥
      not_early (inl e) = other Decoding refl e
      not_early (inr e) = other Sent refl e

      leaving_now : (p : Bool) → l.leaving ≡ Some p → phase_at l ≡ Leaving
      leaving_now p e =
          let s = (leaving_stands l p orderly e).0 in
          phase_leaving l p s.decoding s.opening s.using s.telling s.releasing e

      no_source : (q : OperandState) (s : Source) → HasRecord l None → l.station ≡ Some q → q.source ≡ Some s → ⊥
      no_source q s a e f =
          none_left q.source s
          (ap (λ (r : OperandState). r.source) (same_Some q a.kept (sym e ∙ a.there)) ∙ a.told) f

      true_of : (p : Phase) → phase_at l ≡ p → FitsPhase p l → (q : OperandState) (s : Source) → l.station ≡ Some q
          → q.source ≡ Some s → T s
      true_of Waiting e a q s f g = absurd (no_source q s a.0 f g)
      true_of Told e a q s f g = absurd (no_source q s a.0 f g)
      true_of Ready e a q s f g = h.ready q s f g (inl e)
      true_of Releasing e a q s f g = h.ready q s f g (inr e)
      true_of x e a q s f g = absurd (other x refl e)
