-- What an operand holds that was told nothing yet, and where it is told.
use Rattle.std.proofs.Common.{◌≡◌, ◌≢◌, Bool, true, false, cond, List, [], ◌∷◌, Option, Some, None, refl, sym, ap, ◌∙◌}
use Rattle.std.proofs.Common.{subst, inl, inr, true≢false}
use Rattle.std.proofs.lemmas.Option.{none-some, same_Some}
use Rattle.tss_base.specs.declared.operand.OpName.{OpName}
use Rattle.tss_base.specs.declared.marks.LinkState.{LinkState}
use Rattle.tss_base.specs.declared.marks.LinkState.TheVariants as link
use Rattle.tss_protocol.specs.Mail.{Source, Message, Ready}
use Rattle.tss_protocol.specs.State.{OperandState}
use Rattle.tss_phases.specs.Phase.{Decoding, Sent, Waiting, Told, Promised, LookUps, phase_at}
use Rattle.tss_phases.specs.Told.{tells}
use Rattle.tss_phases.proofs.News.{AreNews, untold, told}
use Rattle.tss_phases.proofs.Received.{received, received_all}
use Rattle.tss_phases.proofs.SettlingLemmas.{name_from_test}
use Rattle.tss_phases.proofs.Shown.{waiting_shows}
use Rattle.tss_phases.proofs.PhaseLemmas.{phase_telling}
use Rattle.tss_protocol.specs.Names.{same_name}
use Rattle.tss_control.specs.Holders.{link_fits}
use Rattle.tss_protocol.proofs.SentLemmas.{AllSent}
use Rattle.tss_control.proofs.holders.Fits.{LinksFit, Holding}

-- nothing isn't something
pub none_left : {X : Type 0} (o : Option X) (x : X) → o ≡ None → o ≡ Some x → ⊥
none_left o x n e = none-some x (sym n ∙ e)

-- ---- an operand that was told nothing yet

module _ (T : Source → Type 0) (O C : Type 0) (w : Bool) (l : LookUps) (k : Option OpName) (r : OperandState)
    (kept : l.station ≡ Some r) (fresh : r.source ≡ None) (releasing : l.releasing ≡ None) (leaving : l.leaving ≡ None)
  where
    fresh_record : (q : OperandState) (s : Source) → l.station ≡ Some q → q.source ≡ Some s → ⊥
    fresh_record q s e f =
        none_left r.source s fresh (ap (λ (r : OperandState). r.source) (same_Some r q (sym kept ∙ e)) ∙ f)

    -- its links alone are to be known, and what its phase says
    pub holding_fresh : ((s : Source) → l.telling ≡ Some s → T s) → (w ≡ true → phase_at l ≡ Waiting → O)
        → (w ≡ false → phase_at l ≡ Waiting → C) → LinksFit w l k r → Holding T O C w l k
    holding_fresh is_told opened come links = record {
      told = is_told;
      ready = λ q s e f p. absurd (fresh_record q s e f);
      linking = λ next q s e f g. absurd (fresh_record q s e f);
      releases = λ c e. absurd (none_left l.releasing c releasing e);
      waiting_writer = opened;
      waiting_reader = come;
      links = λ q e. subst (LinksFit w l k) (same_Some r q (sym kept ∙ e)) links;
    }

    -- without a link there is none to be known
    pub links_none : r.link ≡ link.Nothing → link_fits (phase_at l) link.Nothing ≡ true → k ≡ None
        → (phase_at l ≢ Promised) → LinksFit w l k r
    links_none none fits no_link other = record {
      fits = ap (link_fits (phase_at l)) none ∙ fits;
      writer = λ e. (none, no_link);
      under_way = λ next e. none;
      early = λ e. no_link;
      promise = λ b e. absurd (none_left l.leaving b leaving e);
      promised = λ e. absurd (other e);
    }

    -- with what was known of its links in another phase
    links_moved : (j : LookUps) → LinksFit w j k r
        → (link_fits (phase_at j) r.link ≡ true → link_fits (phase_at l) r.link ≡ true)
        → (phase_at l ≢ Decoding) → (phase_at l ≢ Sent) → (phase_at l ≢ Promised) → LinksFit w l k r
    links_moved j f fits not_decoding not_sent other = record {
      fits = fits f.fits;
      writer = f.writer;
      under_way = f.under_way;
      early = λ e. elim e [
        | inl d ↦ absurd (not_decoding d)
        | inr s ↦ absurd (not_sent s)
      ];
      promise = λ b e. absurd (none_left l.leaving b leaving e);
      promised = λ e. absurd (other e);
    }

-- ---- one that waits is told

-- what a message tells an operand is true
abbrev pub TellsTrue : OpName → (Source → Type 0) → Message → Type 0
TellsTrue q T (Ready o s) = q ≡ o → T s
TellsTrue q T other = Unit {0}

told_one : (T : Source → Type 0) (q : OpName) (m : Message) (l : LookUps) (s : Source) → TellsTrue q T m
    → (received m q l).telling ≡ Some s → (l.telling ≡ Some s → T s) → T s
told_one T q (Ready o u) l s t e f = by (same_name q o) refl e
  where
    by : (b : Bool) → same_name q o ≡ b → cond b (Some u) l.telling ≡ Some s → T s
    by true n e = subst T (same_Some u s e) (t (name_from_test q o n))
    by false n e = f e
told_one T q other l s t e f = f e

-- what an operand is told last is true
pub told_true : (T : Source → Type 0) (q : OpName) (ms : List Message) (l : LookUps) (s : Source)
    → AllSent (TellsTrue q T) ms → (received_all ms q l).telling ≡ Some s → (l.telling ≡ Some s → T s) → T s
told_true T q [] l s all e f = f e
told_true T q (m ∷ ms) l s all e f =
    told_true T q ms (received m q l) s all.1 e (λ g. told_one T q m l s all.0 g f)

module _ (T : Source → Type 0) (O C : Type 0) (w : Bool) (l : LookUps) (k : Option OpName) where
  -- by a ready, whatever it waited for
  pub holding_told_by : phase_at l ≡ Waiting → ((r : OperandState) → l.station ≡ Some r → LinksFit w l k r)
      → (s : Source) → T s → Holding T O C w (record l { telling = Some s }) k
  holding_told_by e links s t =
      let shown = waiting_shows l e in
      let a = shown.0 in
      let r = shown.1 in
      let j : LookUps = record l { telling = Some s } in
      let is : phase_at j ≡ Told = phase_telling j s a.decoding a.opening a.using refl in
      holding_fresh T O C w j k r.kept r.there r.told a.releasing a.leaving
      (λ u f. subst T (same_Some s u f) t)
      (λ x f. absurd (told_waits (sym is ∙ f)))
      (λ x f. absurd (told_waits (sym is ∙ f)))
      (links_moved T O C w j k r.kept r.there r.told a.releasing a.leaving l (links r.kept r.there)
      (λ f. ap (λ p. link_fits p r.kept.link) is
      ∙ fits_told r.kept.link (ap (λ p. link_fits p r.kept.link) (sym e) ∙ f))
      (λ f. told_decodes (sym is ∙ f)) (λ f. told_sent (sym is ∙ f)) (λ f. told_promised (sym is ∙ f)))
    where
      told_waits : Told ≡ Waiting → ⊥
      told_waits e = cc

      told_decodes : Told ≡ Decoding → ⊥
      told_decodes e = cc

      told_sent : Told ≡ Sent → ⊥
      told_sent e = cc

      told_promised : Told ≡ Promised → ⊥
      told_promised e = cc

      fits_told : (x : LinkState) → link_fits Waiting x ≡ true → link_fits Told x ≡ true
      fits_told link.Nothing e = refl
      fits_told (link.Held next) e = refl
      fits_told link.Passed e = absurd (true≢false (sym e))

  -- by a ready
  holding_told : phase_at l ≡ Waiting → Holding T O C w l k → (s : Source) → T s
      → Holding T O C w (record l { telling = Some s }) k
  holding_told e h s t = holding_told_by e h.links s t

  -- where news is sent, that tells it what is true or doesn't tell it
  pub holding_news : (ms : List Message) (q : OpName) → AreNews ms → (tells ms q ≡ true → phase_at l ≡ Waiting)
      → AllSent (TellsTrue q T) ms → Holding T O C w l k → Holding T O C w (received_all ms q l) k
  holding_news ms q news waits all h = by (tells ms q) refl
    where
      by : (b : Bool) → tells ms q ≡ b → Holding T O C w (received_all ms q l) k
      by false e = subst (λ l. Holding T O C w l k) (sym (untold ms q l news e)) h
      by true e =
          let t = told ms q l news e in
          let silent = (waiting_shows l (waits e)).0.telling in
          subst (λ l. Holding T O C w l k) (sym t.1)
          (holding_told (waits e) h t.0
          (told_true T q ms l t.0 all (λ i. (t.1 i).telling) (λ f. absurd (none_left l.telling t.0 silent f))))
