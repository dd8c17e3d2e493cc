-- What operands hold after an open: its own is told its version or waits, and the others are left.
use Rattle.std.proofs.Common.{◌≡◌, ◌≢◌, ◌⊎◌, suc, Bool, true, false, cond, Some, None, refl, sym, ap, ◌∙◌, subst, inl}
use Rattle.std.proofs.Common.{inr, true≢false}
use Rattle.std.specs.FinMap.{get, len}
use Rattle.std.proofs.lemmas.Option.{none-some, same_Some}
use Rattle.tss_base.specs.declared.operand.OpName.{OpName}
use Rattle.tss_base.specs.declared.operand.Mode.{Mode}
use Rattle.tss_base.specs.declared.operand.Mode.TheVariants.{Input, Output, Inout}
use Rattle.tss_base.specs.declared.operand.Operand.{Operand}
use Rattle.tss_base.specs.declared.machine.Machine.{Machine}
use Rattle.tss_base.specs.declared.event.Event.TheVariants as event
use Rattle.tss_base.specs.declared.marks.LinkState.{LinkState}
use Rattle.tss_base.specs.declared.marks.LinkState.TheVariants as link
use Rattle.tss_maps.proofs.Keys.{name_order, decide_key}
use Rattle.tss_model.specs.Access.{writes}
use Rattle.tss_protocol.specs.Mail.{StorageName, Source, OpenContents}
use Rattle.tss_protocol.specs.State.{State, Version}
use Rattle.tss_protocol.specs.Versions.{Versioned, followed, after_open, is_followable}
use Rattle.tss_protocol.specs.UnitMachine.{is_enabled, IsEnabled, after_event, can_open_message, open_message_taken}
use Rattle.tss_protocol.specs.UnitMachine.{without}
use Rattle.tss_phases.specs.Phase.{Sent, Waiting, Told, Promised, LookUps, look_ups, phase_at, phase_of}
use Rattle.tss_phases.specs.Alone.{IsSilent}
use Rattle.tss_phases.specs.Orderly.{IsUntold}
use Rattle.tss_phases.specs.Told.{tells, phase_told}
use Rattle.tss_phases.specs.Openers.{version_opener}
use Rattle.tss_phases.proofs.Tests.{something}
use Rattle.tss_phases.proofs.News.{untold}
use Rattle.tss_phases.proofs.Received.{own_name, other_name, received_all}
use Rattle.tss_phases.proofs.PhaseLemmas.{phase_silent, phase_opening, station_told}
use Rattle.tss_phases.proofs.OrderlyLemmas.{opening_stands}
use Rattle.tss_phases.proofs.OpenEvent.{open_tells, news_open, look_ups-open-own, look_ups-open-other, phase_of-open}
use Rattle.tss_control.specs.Members.{operand_among}
use Rattle.tss_control.specs.Readers.{Arrivals, Has, first_arrivals, set_arrivals, arrivals_opened}
use Rattle.tss_control.specs.Readers.{arrivals_after_event}
use Rattle.tss_control.specs.Holders.{link_fits, IsOwnOrRead, IsTrue, HasHolders}
use Rattle.tss_control.proofs.readers.Links.{links-open}
use Rattle.tss_control.proofs.holders.Told.{settle_tells_own}
use Rattle.tss_control.proofs.holders.Fits.{Needs, Holding, HasOpened, HasCome, HoldsIn, holding_of, holding_mapped}
use Rattle.tss_control.proofs.holders.Fits.{holders_by}
use Rattle.tss_control.proofs.holders.Moves.{holding_fresh, links_none, holding_news}
use Rattle.tss_control.proofs.holders.Needed.{not_needed, none_waits}
use Rattle.tss_control.proofs.holders.Sent.{tells_true, version_opener-from, opener_from, same_opener}
use Rattle.tss_control.proofs.holders.First.{OpensHeld}
use Rattle.tss_control.proofs.holders.Opened.{opens_held}
use Rattle.tss_control.proofs.holders.RunnerEvents.{HasRunners-after_event}
use Rattle.tss_control.proofs.holders.KeepsOrder.{keeps_order, AreOrderly-controlled}
use Rattle.tss_control.proofs.rounds.Facts.{Facts}

-- who is sent to its version has no link
sent_nothing : (x : LinkState) → link_fits Sent x ≡ true → x ≡ link.Nothing
sent_nothing link.Nothing e = refl
sent_nothing (link.Held next) e = absurd (true≢false (sym e))
sent_nothing link.Passed e = absurd (true≢false (sym e))

module _ (m : Machine) (S : State) (facts : Facts m S) (o : OpName) (c : OpenContents)
    (opening : get S.mail.opens o ≡ Some c) (can : is_followable S.versions c.follows ≡ true)
    (on : IsEnabled m S (event.Open o)) where
  open facts use {all, ts, g, ground, control as h}

  abbrev After : State
  After = after_event m S (event.Open o)

  abbrev come : Arrivals
  come = set_arrivals g o (first_arrivals o c.operand.mode c.follows)

  abbrev left : Versioned
  left = after_open S.versions o c

  held : OpensHeld S.versions left.part o c left.sent
  held = opens_held m S facts o c opening can

  versions : After.versions ≡ left.part
  unfolding after_event
  versions = ap (λ x. (open_message_taken (without S (event.Open o)) o x).versions) opening

  links_left : (q : OpName) → get After.mail.links q ≡ get S.mail.links q
  links_left q = ap (λ ls. get ls q) (links-open m S o)

  old_apart : (w : OpName) (y : Version) → get S.versions w ≡ Some y → w ≢ o
  old_apart w y e same =
      none-some y (sym (ground.openings.opens o c opening).no_version ∙ ap (get S.versions) (sym same) ∙ e)

  -- who had come to another version has come to it still
  come_beside : (q w : OpName) → w ≢ o → Has q (g w) → Has q (come w)
  come_beside q w apart has =
      subst (λ b. Has q (cond b (first_arrivals o c.operand.mode c.follows) (g w))) (sym (other_name w o apart)) has

  -- ---- the other operands

  not_told : (q : OpName) → q ≢ o → tells left.sent q ≡ false
  not_told q apart = by (tells left.sent q) refl
    where
      by : (b : Bool) → tells left.sent q ≡ b → tells left.sent q ≡ false
      by false e = e
      by true e = elim (open_tells S.versions o c q e) [
        | inl own ↦ absurd (apart own.0)
        | inr t ↦
            let n = suc (len (followed S.versions o c t.0)) in
            absurd (apart (settle_tells_own ts S h.chains o c opening t.0 t.1 n q t.2))
      ]

  looked_other : (q : OpName) → q ≢ o → look_ups After q ≡ look_ups S q
  looked_other q apart =
      look_ups-open-other m S o c opening q apart
      ∙ untold left.sent q (look_ups S q) (news_open S.versions o c) (not_told q apart)

  true_moved : (q : OpName) (p : Operand) (s : Source) → operand_among ts q ≡ Some p
      → Needs (phase_of S q) (get S.mail.links q) → IsTrue g S q p s → IsTrue come After q p s
  true_moved q p s at needs t = elim (held.thins s.version t.version t.there) [
    | inl stays ↦ record {
      version = stays.0;
      there = ap (λ vs. get vs s.version) versions ∙ stays.1;
      object = stays.2 ∙ t.object;
      storage = stays.3 s.storage t.storage;
      own = own_moved (writes p.mode) t.own;
    }
    | inr spent ↦ absurd (not_needed ts g S h s.version t.version t.there spent.0 spent.1 q p s at needs t refl)
  ]
    where
      own_moved : (w : Bool) → IsOwnOrRead g q w s.version → IsOwnOrRead come q w s.version
      own_moved true own = own
      own_moved false own = come_beside q s.version (old_apart s.version t.version t.there) own

  opened_moved : (q : OpName) → HasOpened S q → HasOpened After q
  opened_moved q y =
      let z = held.still q y.0 y.1 y.2 in (z.0, ap (λ vs. get vs q) versions ∙ z.1, z.2)

  come_moved : (q : OpName) → phase_of S q ≡ Waiting → HasCome g S q → HasCome come After q
  come_moved q waits k = elim (held.thins k.0 k.1 k.2) [
    | inl stays ↦ (
      k.0,
      stays.0,
      ap (λ vs. get vs k.0) versions ∙ stays.1,
      come_beside q k.0 (old_apart k.0 k.1 k.2) k.3,
    )
    | inr spent ↦ absurd (none_waits ts g S h k.0 k.1 k.2 spent.0 spent.1 q k.3 waits)
  ]

  holds_other : (q : OpName) (p : Operand) → q ≢ o → operand_among ts q ≡ Some p → HoldsIn come After q p
  holds_other q p apart at =
      let T = IsTrue come After q p in
      let O = HasOpened After q in
      let C = HasCome come After q in
      subst (λ l. Holding T O C (writes p.mode) l (get After.mail.links q)) (sym (looked_other q apart))
      (subst (λ k. Holding T O C (writes p.mode) (look_ups S q) k) (sym (links_left q))
      (holding_mapped (IsTrue g S q p) T (HasOpened S q) O (HasCome g S q) C (writes p.mode) (look_ups S q)
      (get S.mail.links q) (h.orderly q) (λ s needs. true_moved q p s at needs) (λ w waits. opened_moved q)
      (λ r waits. come_moved q waits) (holding_of ts g S h.holders q p at)))

  -- ---- its own

  stands : IsSilent (record (look_ups S o) { opening = None }) × IsUntold (look_ups S o)
  stands = opening_stands (look_ups S o) c (h.orderly o) opening

  abbrev taken : LookUps
  taken = record (look_ups S o) { opening = None }

  waits : phase_at taken ≡ Waiting
  waits = phase_silent taken stands.0 ∙ station_told (look_ups S o) None stands.1.0

  phase_now : phase_of After o ≡ phase_told (tells left.sent o) Waiting
  phase_now = phase_of-open m S o c opening (h.orderly o).alone stands.1.0

  its_operand : (p : Operand) → operand_among ts o ≡ Some p → c.operand ≡ p
  its_operand p at = same_Some c.operand p (sym (h.chains.opens o c opening).operand ∙ at)

  own_true : (p : Operand) → operand_among ts o ≡ Some p → (s : Source) (z : Version) → s.version ≡ o
      → get left.part o ≡ Some z → z.storage ≡ Some s.storage → IsTrue come After o p s
  own_true p at s z same e storage = record {
    version = z;
    there = ap (get After.versions) same ∙ ap (λ vs. get vs o) versions ∙ e;
    object =
        ap (λ (z : Version). z.object) (same_Some z held.own.version (sym e ∙ held.own.stands))
        ∙ held.own.object
        ∙ ap (λ (p : Operand). p.object) (its_operand p at);
    storage = storage;
    own = subst (λ v. IsOwnOrRead come o (writes p.mode) v) (sym same) (by p.mode
        (ap (λ (p : Operand). p.mode) (its_operand p at)));
  }
    where
      by : (mode : Mode) → c.operand.mode ≡ mode → IsOwnOrRead come o (writes mode) o
      by Output e = refl
      by Inout e = refl
      by Input e =
          subst (λ b. Has o (cond b (first_arrivals o c.operand.mode c.follows) (g o))) (sym (own_name o))
          (subst (λ x. Has o (first_arrivals o c.operand.mode x)) (sym (held.own.reader e))
          (subst (λ x. Has o (first_arrivals o x None)) (sym e) (inl refl)))

  abbrev OpenedOrTold : Type 0
  OpenedOrTold = HasOpened After o ⊎ (tells left.sent o ≡ true)

  opened_or_told : OpenedOrTold
  opened_or_told = elim held.own.state [
    | inl told ↦ inr told.0
    | inr open_yet ↦
        inl (held.own.version, ap (λ vs. get vs o) versions ∙ held.own.stands, open_yet.1)
  ]

  reader_told : (p : Operand) → operand_among ts o ≡ Some p → writes p.mode ≡ false → tells left.sent o ≡ true
  reader_told p at reads = elim held.own.state [
    | inl told ↦ told.0
    | inr open_yet ↦
        absurd (true≢false
        (sym (ap writes open_yet.3) ∙ ap (λ (p : Operand). writes p.mode) (its_operand p at) ∙ reads))
  ]

  holds_sent : (p : Operand) → operand_among ts o ≡ Some p
      → Holding (IsTrue come After o p) OpenedOrTold (tells left.sent o ≡ true) (writes p.mode)
      (received_all left.sent o taken) (get S.mail.links o)
  holds_sent p at =
      let T = IsTrue come After o p in
      let r = stands.1.0 in
      let w = writes p.mode in
      let k = get S.mail.links o in
      let sent = phase_opening (look_ups S o) c stands.0.decoding opening in
      let links = (holding_of ts g S h.holders o p at).links r.kept r.there in
      let nothing = sent_nothing r.kept.link (ap (λ p. link_fits p r.kept.link) (sym sent) ∙ links.fits) in
      let base =
      holding_fresh T OpenedOrTold (tells left.sent o ≡ true) w taken k r.kept r.there r.told stands.0.releasing
      stands.0.leaving (λ s e. absurd (none-some s (sym stands.0.telling ∙ e))) (λ x e. opened_or_told)
      (λ reads e. reader_told p at reads)
      (links_none T OpenedOrTold (tells left.sent o ≡ true) w taken k r.kept r.there r.told stands.0.releasing
      stands.0.leaving nothing (ap (λ p. link_fits p link.Nothing) waits) (links.early (inr sent))
      (λ e. waiting_promised (sym waits ∙ e))) in
      holding_news T OpenedOrTold (tells left.sent o ≡ true) w taken k left.sent o (news_open S.versions o c)
      (λ t. waits) (tells_true left.part o T left.sent held.sent (own_true p at)) base
    where
      waiting_promised : Waiting ≡ Promised → ⊥
      waiting_promised e = cc

  own_not_told : phase_of After o ≡ Waiting → tells left.sent o ≡ true → ⊥
  own_not_told waiting told = told_waits (sym (phase_now ∙ ap (λ b. phase_told b Waiting) told) ∙ waiting)
    where
      told_waits : Told ≡ Waiting → ⊥
      told_waits e = cc

  holds_own : (p : Operand) → operand_among ts o ≡ Some p → HoldsIn come After o p
  holds_own p at =
      let T = IsTrue come After o p in
      let O = HasOpened After o in
      let C = HasCome come After o in
      let w = writes p.mode in
      holding_mapped T T OpenedOrTold O (tells left.sent o ≡ true) C w (look_ups After o) (get After.mail.links o)
      (AreOrderly-controlled m S facts (event.Open o) on o) (λ s needs t. t)
      (λ x waiting k. elim k [
        | inl opened ↦ opened
        | inr told ↦ absurd (own_not_told waiting told)
      ])
      (λ x waiting told. absurd (own_not_told waiting told))
      (subst (λ l. Holding T OpenedOrTold (tells left.sent o ≡ true) w l (get After.mail.links o))
      (sym (look_ups-open-own m S o c opening))
      (subst (λ k. Holding T OpenedOrTold (tells left.sent o ≡ true) w (received_all left.sent o taken) k)
      (sym (links_left o)) (holds_sent p at)))

  own_opener : (z : Version) (p : Operand) → get left.part o ≡ Some z → operand_among ts o ≡ Some p
      → version_opener z p.mode (phase_of After o) ≡ true
  own_opener z p e at =
      ap (λ ph. version_opener z p.mode ph) phase_now
      ∙ version_opener-from z p.mode (phase_told (tells left.sent o) Waiting)
      ∙ by held.own.state
    where
      is : held.own.version ≡ z
      is = same_Some held.own.version z (sym held.own.stands ∙ e)

      mode_is : (mode : Mode) → c.operand.mode ≡ mode → p.mode ≡ mode
      mode_is mode e = ap (λ (p : Operand). p.mode) (sym (its_operand p at)) ∙ e

      by : ((tells left.sent o ≡ true) × ((s : StorageName) × (held.own.version.storage ≡ Some s))
          × ((held.own.version.produced ≡ false)
          ⊎ ((c.operand.mode ≡ Input) × (held.own.version.produced ≡ true) × (c.follows ≡ None))))
          ⊎ ((tells left.sent o ≡ false) × (held.own.version.storage ≡ None) × (held.own.version.produced ≡ false)
          × (c.operand.mode ≡ Inout))
          → opener_from z.produced z.storage p.mode (phase_told (tells left.sent o) Waiting) ≡ true
      by (inl t) = elim t.2 [
        | inl open_yet ↦ λ i. opener_from
            ((ap (λ (z : Version). z.produced) (sym is) ∙ open_yet) i)
            ((ap (λ (z : Version). z.storage) (sym is) ∙ t.1.1) i) p.mode (phase_told (t.0 i) Waiting)
        | inr input ↦ λ i. opener_from
            ((ap (λ (z : Version). z.produced) (sym is) ∙ input.1) i) z.storage (mode_is Input input.0 i)
            (phase_told (t.0 i) Waiting)
      ]
      by (inr t) = λ i. opener_from
          ((ap (λ (z : Version). z.produced) (sym is) ∙ t.2) i)
          ((ap (λ (z : Version). z.storage) (sym is) ∙ t.1) i) p.mode (phase_told (t.0 i) Waiting)

  -- ---- the whole

  no_link : (next : OpName) → get After.mail.links o ≡ Some next → ⊥
  no_link next e =
      let p = (h.chains.opens o c opening).operand in
      let r = stands.1.0 in
      let sent = phase_opening (look_ups S o) c stands.0.decoding opening in
      none-some next (sym ((h.holders.links o c.operand r.kept p r.there).early (inr sent)) ∙ sym (links_left o) ∙ e)

  -- who holds what, after it
  holders_opened : HasHolders ts come After
  holders_opened =
      holders_by ts come After
      (λ q p at. elim (decide_key name_order q o) [
        | inl same ↦
            subst (λ q. HoldsIn come After q p) (sym same) (holds_own p (ap (operand_among ts) (sym same) ∙ at))
        | inr apart ↦ holds_other q p apart at
      ])
      (λ w z p e at.
      let now = sym (ap (λ vs. get vs w) versions) ∙ e in
      elim (decide_key name_order w o) [
        | inl same ↦
            subst (λ w. version_opener z p.mode (phase_of After w) ≡ true) (sym same)
            (own_opener z p (ap (get left.part) (sym same) ∙ now) (ap (operand_among ts) (sym same) ∙ at))
        | inr apart ↦
            let y = held.from w z apart now in
            ap (λ l. version_opener z p.mode (phase_at l)) (looked_other w apart)
            ∙ same_opener y.0 z p.mode (phase_of S w) y.2
            ∙ h.holders.openers w y.0 p y.1 at
      ])
      (λ q next e. elim (decide_key name_order q o) [
        | inl same ↦ absurd (no_link next (ap (get After.mail.links) (sym same) ∙ e))
        | inr apart ↦
            let r = h.holders.records q next (sym (links_left q) ∙ e) in (
              r.0,
              ap (λ (l : LookUps). l.station) (looked_other q apart) ∙ r.1,
              λ gone. r.2 (sym (ap phase_at (looked_other q apart)) ∙ gone),
            )
      ])
      (HasRunners-after_event m all S ground.numbers ground.stages h.orderly h.holders.runners (event.Open o) on
      (keeps_order m S facts (event.Open o)))

module _ (m : Machine) (S : State) (facts : Facts m S) where
  open facts use {ts, g}

  -- open
  pub HasHolders-open : (o : OpName) → IsEnabled m S (event.Open o)
      → HasHolders ts (arrivals_after_event S g (event.Open o)) (after_event m S (event.Open o))
  unfolding is_enabled
  HasHolders-open o on =
      let c = something (can_open_message S) (get S.mail.opens o) refl on in
      let can = ap (can_open_message S) (sym c.1) ∙ on in
      subst (λ x. HasHolders ts (arrivals_opened g o x) (after_event m S (event.Open o))) (sym c.1)
      (holders_opened m S facts o c.0 c.1 can on)
