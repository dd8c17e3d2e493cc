-- What operands hold after a ready: its operand is ready, and the next one of a held link is told the same.
use Rattle.std.proofs.Common.{◌≡◌, ◌≢◌, ◌⊎◌, Bool, true, false, List, Option, Some, None, refl, sym, ap, ◌∙◌, subst}
use Rattle.std.proofs.Common.{inl, inr, true≢false}
use Rattle.std.specs.Prelude.{is_some}
use Rattle.std.specs.FinMap.{get}
use Rattle.std.proofs.lemmas.Option.{same_Some}
use Rattle.tss_base.specs.declared.operand.OpName.{OpName}
use Rattle.tss_base.specs.declared.operand.Mode.{Mode}
use Rattle.tss_base.specs.declared.operand.Mode.TheVariants.{Input, Output, Inout}
use Rattle.tss_base.specs.declared.operand.Operand.{Operand}
use Rattle.tss_base.specs.declared.operand.Task.{Task}
use Rattle.tss_base.specs.declared.machine.Machine.{Machine}
use Rattle.tss_base.specs.declared.event.Event.TheVariants as event
use Rattle.tss_base.specs.declared.marks.LinkState.{LinkState}
use Rattle.tss_base.specs.declared.marks.LinkState.TheVariants as link
use Rattle.tss_maps.proofs.Keys.{name_order, decide_key}
use Rattle.tss_model.specs.Access.{writes}
use Rattle.tss_protocol.specs.Mail.{Source, StorageName, Message}
use Rattle.tss_protocol.specs.State.{State, OperandState, Version}
use Rattle.tss_protocol.specs.Stations.{operand_at, operand_after_ready, sent_by_ready}
use Rattle.tss_protocol.specs.UnitMachine.{is_enabled, IsEnabled, after_event}
use Rattle.tss_phases.specs.Phase.{Waiting, Told, Ready, Left, LookUps, look_ups, phase_at, phase_of}
use Rattle.tss_phases.specs.Told.{tells, WaitsIfTold}
use Rattle.tss_phases.specs.Openers.{open_opener, opener_by, version_opener}
use Rattle.tss_phases.specs.Alone.{IsSilent}
use Rattle.tss_phases.specs.Orderly.{IsUntold, IsOrderly, AreOrderly, ReadiesWaiting}
use Rattle.tss_phases.proofs.Received.{received_all}
use Rattle.tss_phases.proofs.News.{AreNews, untold, told}
use Rattle.tss_phases.proofs.PhaseLemmas.{phase_telling}
use Rattle.tss_phases.proofs.Shown.{waiting_shows}
use Rattle.tss_phases.proofs.ReadyEvent.{news_ready, ready_tells, look_ups-ready-own, look_ups-ready-other, told_before}
use Rattle.tss_phases.proofs.ReadyEvent.{phase_of-ready}
use Rattle.tss_phases.proofs.ToldPhases.{not_told}
use Rattle.tss_phases.proofs.OrderlyLemmas.{telling_stands}
use Rattle.tss_phases.proofs.Tests.{something}
use Rattle.tss_control.specs.Members.{operand_among}
use Rattle.tss_control.specs.Chains.{HasChains}
use Rattle.tss_control.specs.Readers.{Arrivals, Has, HasReaders}
use Rattle.tss_control.specs.Holders.{IsTrue, IsOwnOrRead, HasHolders}
use Rattle.tss_protocol.proofs.SentLemmas.{AllSent}
use Rattle.tss_control.proofs.rounds.ReadersLists.{has_newer}
use Rattle.tss_control.proofs.rounds.HoldersNext.{WaitsBehind, held_waits}
use Rattle.tss_control.proofs.holders.Fits.{Holding, HoldsIn, HasOpened, HasCome, holding_mapped}
use Rattle.tss_control.proofs.holders.Moves.{TellsTrue, holding_news}
use Rattle.tss_control.proofs.holders.Turns.{holding_readied}
use Rattle.tss_control.proofs.holders.Frames.{IsSameHolder, IsChangedHolder, holders_kept}
use Rattle.tss_control.proofs.holders.KeepsOrder.{AreOrderly-controlled}
use Rattle.tss_control.proofs.holders.RunnerEvents.{HasRunners-after_event}
use Rattle.tss_control.proofs.readers.Links.{links-ready}
use Rattle.tss_control.proofs.rounds.Spawned.{among_object}
use Rattle.tss_locality.specs.Objects.{HasObject}
use Rattle.tss_locality.specs.Rounds.{object_in}
use Rattle.tss_locality.proofs.LeftFields.{Leaves-after_event}
use Rattle.tss_control.proofs.rounds.Facts.{Facts}

-- ---- who is told by a reader

module _ (ts : List Task) (g : Arrivals) (S : State) (chains : HasChains ts S) (readers : HasReaders ts g S)
    (holders : HasHolders ts g S) where
  -- the operand of a reader of a version is an input on the version's object
  pub reader_operand : (v : OpName) (y : Version) → get S.versions v ≡ Some y → (a : OpName) → Has a (g v)
      → (p : Operand)
      → operand_among ts a ≡ Some p → (p.object ≡ y.object) × (p.mode ≡ Input)
  reader_operand v y there a has p e =
      let on = ((readers.versions v y there).each a has).on in
      let is = same_Some p on.operand (sym e ∙ on.there) in
      (ap (λ (p : Operand). p.object) is ∙ on.object, ap (λ (p : Operand). p.mode) is ∙ on.is_mode)

  -- an input that waits has opened no version
  pub waiting_input : (q : OpName) → phase_of S q ≡ Waiting → (y : Version) → get S.versions q ≡ Some y → (p : Operand)
      → operand_among ts q ≡ Some p → p.mode ≡ Input → ⊥
  waiting_input q waits y there p e mode = by y.produced y.storage refl refl
    where
      opener : opener_by y Input Waiting y.produced ≡ true
      opener = (λ i. opener_by y (sym mode i) (sym waits i) y.produced) ∙ holders.openers q y p there e

      inout_input : Inout ≡ Input → ⊥
      inout_input e = cc

      by : (b : Bool) (s : Option StorageName) → y.produced ≡ b → y.storage ≡ s → ⊥
      by true s eb es = true≢false (sym opener ∙ ap (opener_by y Input Waiting) eb)
      by false (Some s) eb es =
          true≢false (sym opener ∙ ap (opener_by y Input Waiting) eb ∙ ap (λ s. open_opener s Waiting) es)
      by false None eb es =
          let on = ((chains.storages q y there).waits es).1 in
          let is = same_Some p on.operand (sym e ∙ on.there) in
          inout_input (sym on.is_mode ∙ ap (λ (p : Operand). p.mode) (sym is) ∙ mode)

  -- what is true of a reader is true of the next one, which waits
  module _ (a b : OpName) (behind : WaitsBehind g S a b) (pa : Operand) (s : Source)
      (among : operand_among ts a ≡ Some pa)
      (reads : writes pa.mode ≡ false) (true_of : IsTrue g S a pa s) where
    same_version : s.version ≡ behind.version
    same_version =
        readers.apart s.version behind.version a true_of.version behind.state true_of.there behind.there
        (subst (λ w. IsOwnOrRead g a w s.version) reads true_of.own) behind.older

    next_has : Has b (g s.version)
    next_has = subst (λ v. Has b (g v)) (sym same_version) (has_newer a b (g behind.version) behind.next)

    pub next_input : (p : Operand) → operand_among ts b ≡ Some p → p.mode ≡ Input
    next_input p e = (reader_operand s.version true_of.version true_of.there b next_has p e).1

    pub next_true : (p : Operand) → operand_among ts b ≡ Some p → IsTrue g S b p s
    next_true p e =
        let k = reader_operand s.version true_of.version true_of.there b next_has p e in
        record {
          version = true_of.version;
          there = true_of.there;
          object = sym k.0;
          storage = true_of.storage;
          own = subst (λ w. IsOwnOrRead g b w s.version) (sym (ap writes k.1)) next_has;
        }

-- ---- a state with the same versions

module _ (ts : List Task) (g : Arrivals) (S T : State) (versions : T.versions ≡ S.versions) (after : AreOrderly T) where
  -- what an operand holds after an event, by its look-ups then
  pub holds_after : (q : OpName) (p : Operand) (l : LookUps) (k : Option OpName) → look_ups T q ≡ l
      → get T.mail.links q ≡ k
      → Holding (IsTrue g S q p) (HasOpened S q) (HasCome g S q) (writes p.mode) l k → HoldsIn g T q p
  holds_after q p l k e f h =
      subst (λ k. Holding (IsTrue g T q p) (HasOpened T q) (HasCome g T q) (writes p.mode) (look_ups T q) k) (sym f)
      (subst (λ l. Holding (IsTrue g T q p) (HasOpened T q) (HasCome g T q) (writes p.mode) l k) (sym e)
      (holding_mapped (IsTrue g S q p) (IsTrue g T q p) (HasOpened S q) (HasOpened T q) (HasCome g S q) (HasCome g T q)
      (writes p.mode) l k (subst IsOrderly e (after q)) (λ s needs. kept s)
      (λ w x y. (y.0, ap (λ vs. get vs q) versions ∙ y.1, y.2))
      (λ w x y. (y.0, y.1, ap (λ vs. get vs y.0) versions ∙ y.2, y.3)) h))
    where
      kept : (s : Source) → IsTrue g S q p s → IsTrue g T q p s
      kept s t = record {
        version = t.version;
        there = ap (λ vs. get vs s.version) versions ∙ t.there;
        object = t.object;
        storage = t.storage;
        own = t.own;
      }

  -- an operand that may be told, and that has no version where it is
  told_or_same : HasHolders ts g S → (q : OpName) (ms : List Message) → AreNews ms → WaitsIfTold S ms q
      → look_ups T q ≡ received_all ms q (look_ups S q) → get T.mail.links q ≡ get S.mail.links q
      → ((p : Operand) → operand_among ts q ≡ Some p → AllSent (TellsTrue q (IsTrue g S q p)) ms)
      → (tells ms q ≡ true → (y : Version) (p : Operand) → get S.versions q ≡ Some y → operand_among ts q ≡ Some p → ⊥)
      → IsSameHolder ts g S T q ⊎ IsChangedHolder ts g S T q
  told_or_same holders q ms news waits looked links true_of no_version = by (tells ms q) refl
    where
      told_left : Told ≡ Left → ⊥
      told_left e = cc

      by : (b : Bool) → tells ms q ≡ b → IsSameHolder ts g S T q ⊎ IsChangedHolder ts g S T q
      by false e = inl (record { looked = looked ∙ untold ms q (look_ups S q) news e; links = links })
      by true e =
          let t = told ms q (look_ups S q) news e in
          let shown = (waiting_shows (look_ups S q) (waits e)).0 in
          let now : phase_of T q ≡ Told =
          ap phase_at (looked ∙ t.1)
          ∙ phase_telling (record
          (look_ups S q) { telling = Some t.0 }) t.0 shown.decoding shown.opening shown.using refl in
          inr (record {
            holds = λ p a h. holds_after q p (received_all ms q (look_ups S q)) (get S.mail.links q) looked links
                (holding_news (IsTrue g S q p) (HasOpened S q) (HasCome g S q) (writes p.mode) (look_ups S q)
                (get S.mail.links q) ms q news waits (true_of p a) h);
            opener = λ y p there a o. absurd (no_version e y p there a);
            records = λ next f.
                let r = holders.records q next (sym links ∙ f) in
                (r.0, ap (λ (l : LookUps). l.station) (looked ∙ t.1) ∙ r.1, λ left. told_left (sym now ∙ left));
          })

-- the operand of a name that has an object
pub named_operand : (ts : List Task) (o : OpName) → HasObject (object_in ts) o
    → (p : Operand) × (operand_among ts o ≡ Some p)
named_operand ts o named = let a = among_object ts o named.0 named.1 in (a.0, a.1)

-- ---- ready

told_to_ready : (y : Version) (mode : Mode) (b : Bool) → opener_by y mode Told b ≡ true
    → opener_by y mode Ready b ≡ true
told_to_ready y Input true e = refl
told_to_ready y Output true e = absurd (true≢false (sym e))
told_to_ready y Inout true e = absurd (true≢false (sym e))
told_to_ready y mode false e = by y.storage e
  where
    by : (s : Option StorageName) → open_opener s Told ≡ true → open_opener s Ready ≡ true
    by None e = absurd (true≢false (sym e))
    by (Some s) e = refl

ready_tells_true : (q : OpName) (P : Source → Type 0) (l : LinkState) (s : Source) → (l ≡ link.Held q → P s)
    → AllSent (TellsTrue q P) (sent_by_ready l s)
ready_tells_true q P link.Nothing s f = tt
ready_tells_true q P (link.Held next) s f = (λ same. f (ap link.Held (sym same)), tt)
ready_tells_true q P link.Passed s f = tt

module _ (m : Machine) (S : State) (facts : Facts m S) where
  open facts use {all, ts, g, ground, control as h}

  module _ (o : OpName) (on : IsEnabled m S (event.Ready o)) (order : ReadiesWaiting S o) (s : Source)
      (there : get S.mail.readies o ≡ Some s) where
    abbrev T : State
    T = after_event m S (event.Ready o)

    abbrev stands : IsSilent (record (look_ups S o) { telling = None }) × IsUntold (look_ups S o)
    stands = telling_stands (look_ups S o) s (h.orderly o) there

    abbrev r : OperandState
    r = stands.1.0.kept

    kept : operand_at S.flight o ≡ Some r
    kept = stands.1.0.there

    abbrev ms : List Message
    ms = sent_by_ready r.link s

    after : AreOrderly T
    after = AreOrderly-controlled m S facts (event.Ready o) on

    versions : T.versions ≡ S.versions
    versions = λ i. (Leaves-after_event m S (event.Ready o) i).versions

    told_now : phase_of S o ≡ Told
    told_now = told_before m S o s r there kept (h.orderly o).alone

    looked : look_ups T o ≡ record (look_ups S o) { telling = None; station = Some (operand_after_ready r s) }
    looked =
        look_ups-ready-own m S o s r there kept
        ∙ untold ms o (record (look_ups S o) { telling = None; station = Some (operand_after_ready r s) })
        (news_ready r.link s)
        (not_told ms o (look_ups S o) Told told_now told_waits (order s r there kept o))
      where
        told_waits : Told ≡ Waiting → ⊥
        told_waits e = cc

    ready_now : phase_of T o ≡ Ready
    ready_now =
        phase_of-ready m S o s r there kept (h.orderly o).alone stands.1.0.stays (order s r there kept o)

    same_link : (q : OpName) → get T.mail.links q ≡ get S.mail.links q
    same_link q = ap (λ ks. get ks q) (links-ready m S o)

    ready_own : IsChangedHolder ts g S T o
    ready_own = record {
      holds = λ p e was.
          holds_after ts g S T versions after o p
          (record (look_ups S o) { telling = None; station = Some (operand_after_ready r s) })
          (get S.mail.links o) looked
          (same_link o)
          (holding_readied (IsTrue g S o p) (HasOpened S o) (HasCome g S o) (writes p.mode) (look_ups S o)
          (get S.mail.links o) was s there told_now stands.0 r kept stands.1.0.stays);
      opener = λ y p v a was.
          ap (version_opener y p.mode) ready_now
          ∙ told_to_ready y p.mode y.produced (ap (version_opener y p.mode) (sym told_now) ∙ was);
      records = λ next f.
          (operand_after_ready r s, ap (λ (l : LookUps). l.station) looked, λ left. ready_left (sym ready_now ∙ left));
    }
      where
        ready_left : Ready ≡ Left → ⊥
        ready_left e = cc

    -- the operand reads, where it holds a link
    holds_link : (q : OpName) → r.link ≡ link.Held q → (p : Operand) → operand_among ts o ≡ Some p
        → writes p.mode ≡ false
    holds_link q held p e = by (writes p.mode) refl
      where
        nothing_held : link.Nothing ≡ link.Held q → ⊥
        nothing_held e = cc

        by : (b : Bool) → writes p.mode ≡ b → writes p.mode ≡ false
        by false w = w
        by true w = absurd (nothing_held (sym ((h.holders.links o p r e kept).writer w).0 ∙ held))

    abbrev own_operand : (p : Operand) × (operand_among ts o ≡ Some p)
    own_operand = named_operand ts o (ground.round.within.named.mail.readies o s there)

    next_told : (q : OpName) → r.link ≡ link.Held q → (p : Operand) → operand_among ts q ≡ Some p → IsTrue g S q p s
    next_told q held p e =
        let a = own_operand in
        next_true ts g S h.chains h.readers h.holders o q (held_waits ts g S h.readers o q (r, kept, held)) a.0 s a.1
        (holds_link q held a.0 a.1) (h.holders.told o a.0 s a.1 there) p e

    no_version : (q : OpName) → r.link ≡ link.Held q → (y : Version) (p : Operand) → get S.versions q ≡ Some y
        → operand_among ts q ≡ Some p → ⊥
    no_version q held y p v e =
        let a = own_operand in
        let b = held_waits ts g S h.readers o q (r, kept, held) in
        waiting_input ts g S h.chains h.readers h.holders q b.waits y v p e
        (next_input ts g S h.chains h.readers h.holders o q b a.0 s a.1 (holds_link q held a.0 a.1)
        (h.holders.told o a.0 s a.1 there) p e)

    ready_other : (q : OpName) → q ≢ o → IsSameHolder ts g S T q ⊎ IsChangedHolder ts g S T q
    ready_other q apart =
        told_or_same ts g S T versions after h.holders q ms (news_ready r.link s) (order s r there kept q)
        (look_ups-ready-other m S o s r there kept q apart) (same_link q)
        (λ p e. ready_tells_true q (IsTrue g S q p) r.link s (λ held. next_told q held p e))
        (λ t y p v e. no_version q (ready_tells r.link s q t) y p v e)

    ready_holders : HasHolders ts g T
    ready_holders =
        holders_kept ts g S T versions h.orderly
        (HasRunners-after_event m all S ground.numbers ground.stages h.orderly h.holders.runners
        (event.Ready o) on order)
        (λ q. elim (decide_key name_order q o) [
          | inl same ↦ inr (subst (IsChangedHolder ts g S T) (sym same) ready_own)
          | inr apart ↦ ready_other q apart
        ]) h.holders

  -- ready
  pub HasHolders-ready : (o : OpName) → IsEnabled m S (event.Ready o) → ReadiesWaiting S o
      → HasHolders ts g (after_event m S (event.Ready o))
  unfolding is_enabled
  HasHolders-ready o on order =
      let s = something is_some (get S.mail.readies o) refl on in
      ready_holders o on order s.0 s.1
