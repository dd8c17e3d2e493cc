-- What an operand holds, by what is looked up of it and the link that is under way for it.
use Rattle.std.proofs.Common.{◌≡◌, ◌⊎◌, Bool, true, false, List, Option, Some, None, sym, ap, ◌∙◌, subst, inl, inr}
use Rattle.std.specs.FinMap.{get}
use Rattle.tss_base.specs.declared.operand.OpName.{OpName}
use Rattle.tss_base.specs.declared.operand.Operand.{Operand}
use Rattle.tss_base.specs.declared.operand.Task.{Task}
use Rattle.tss_base.specs.declared.marks.LinkState.TheVariants as link
use Rattle.tss_model.specs.Access.{writes}
use Rattle.tss_protocol.specs.Mail.{Source, ReleaseContents}
use Rattle.tss_protocol.specs.State.{State, OperandState, Version}
use Rattle.tss_protocol.specs.Stations.{operand_at}
use Rattle.tss_phases.specs.Phase.{Phase, Decoding, Sent, Waiting, Told, Ready, Releasing, Promised, Left, LookUps}
use Rattle.tss_phases.specs.Phase.{look_ups, phase_at, phase_of}
use Rattle.tss_phases.specs.Openers.{holds_version, version_opener}
use Rattle.tss_phases.specs.Orderly.{IsOrderly, AreOrderly}
use Rattle.tss_phases.proofs.PhaseLemmas.{phase_telling}
use Rattle.tss_phases.proofs.OrderlyLemmas.{telling_stands}
use Rattle.tss_control.specs.Members.{operand_among}
use Rattle.tss_control.specs.Readers.{Arrivals, Has}
use Rattle.tss_control.specs.Holders.{IsTrue, link_fits, PromiseFits, HasHolders}
use Rattle.tss_control.specs.Runners.{HasRunners}

-- the links of an operand with a record: whether it writes, what is looked up, the link under way, and the record
pub record LinksFit (w : Bool) (l : LookUps) (k : Option OpName) (r : OperandState) : Type 0 where
  pub fits : link_fits (phase_at l) r.link ≡ true
  pub writer : w ≡ true → (r.link ≡ link.Nothing) × (k ≡ None)
  pub under_way : (next : OpName) → k ≡ Some next → r.link ≡ link.Nothing
  pub early : (phase_at l ≡ Decoding) ⊎ (phase_at l ≡ Sent) → k ≡ None
  pub promise : (promised : Bool) → l.leaving ≡ Some promised → PromiseFits k r.link promised
  pub promised : phase_at l ≡ Promised → (next : OpName) × (k ≡ Some next)

-- what it holds, where T is what is true of what it was told, O that its version is open without a storage, and C that
-- it has come to a version
pub record Holding (T : Source → Type 0) (O C : Type 0) (w : Bool) (l : LookUps) (k : Option OpName) : Type 0 where
  pub told : (s : Source) → l.telling ≡ Some s → T s
  pub ready : (r : OperandState) (s : Source) → l.station ≡ Some r → r.source ≡ Some s
      → (phase_at l ≡ Ready) ⊎ (phase_at l ≡ Releasing) → T s
  pub linking : (next : OpName) (r : OperandState) (s : Source) → l.station ≡ Some r → r.source ≡ Some s
      → k ≡ Some next → T s
  pub releases : (c : ReleaseContents) → l.releasing ≡ Some c
      → (c.producer ≡ w)
      × ((r : OperandState) × (s : Source) × (l.station ≡ Some r) × (r.source ≡ Some s) × (s.version ≡ c.version))
  pub waiting_writer : w ≡ true → phase_at l ≡ Waiting → O
  pub waiting_reader : w ≡ false → phase_at l ≡ Waiting → C
  pub links : (r : OperandState) → l.station ≡ Some r → LinksFit w l k r

-- ---- in a state

-- the version that a writer has opened has no storage yet
abbrev pub HasOpened : State → OpName → Type 0
HasOpened S o = (y : Version) × (get S.versions o ≡ Some y) × (y.storage ≡ None)

-- a reader has come to a registered version
abbrev pub HasCome : Arrivals → State → OpName → Type 0
HasCome g S o = (v : OpName) × (y : Version) × (get S.versions v ≡ Some y) × Has o (g v)

-- an operand of a state
abbrev pub HoldsIn : Arrivals → State → OpName → Operand → Type 0
HoldsIn g S o p =
    Holding (IsTrue g S o p) (HasOpened S o) (HasCome g S o) (writes p.mode) (look_ups S o) (get S.mail.links o)

-- the phase of the opener of each registered version
abbrev HasOpeners : List Task → State → Type 0
HasOpeners ts S =
    (v : OpName) (y : Version) (p : Operand) → get S.versions v ≡ Some y → operand_among ts v ≡ Some p
    → version_opener y p.mode (phase_of S v) ≡ true

-- a link is of an operand with a record that hasn't left
abbrev HasLinkRecords : State → Type 0
HasLinkRecords S =
    (o next : OpName) → get S.mail.links o ≡ Some next
    → (r : OperandState) × (operand_at S.flight o ≡ Some r) × (phase_of S o ≡ Left → ⊥)

module _ (ts : List Task) (g : Arrivals) (S : State) where
  -- what each operand holds
  pub holding_of : HasHolders ts g S → (o : OpName) (p : Operand) → operand_among ts o ≡ Some p → HoldsIn g S o p
  holding_of h o p e = record {
    told = λ s. h.told o p s e;
    ready = λ r s. h.ready o p r s e;
    linking = λ next r s. h.linking o next p r s e;
    releases = λ c. h.releases o p c e;
    waiting_writer = h.waiting_writer o p e;
    waiting_reader = h.waiting_reader o p e;
    links = λ r kept.
        let k = h.links o p r e kept in
        record {
          fits = k.fits;
          writer = k.writer;
          under_way = k.under_way;
          early = k.early;
          promise = k.promise;
          promised = k.promised;
        };
  }

  -- and the other way round
  pub holders_by : ((o : OpName) (p : Operand) → operand_among ts o ≡ Some p → HoldsIn g S o p) → HasOpeners ts S
      → HasLinkRecords S → HasRunners S → HasHolders ts g S
  holders_by each openers records runners = record {
    told = λ o p s e. (each o p e).told s;
    ready = λ o p r s e. (each o p e).ready r s;
    linking = λ o next p r s e. (each o p e).linking next r s;
    releases = λ o p c e. (each o p e).releases c;
    waiting_writer = λ o p e. (each o p e).waiting_writer;
    waiting_reader = λ o p e. (each o p e).waiting_reader;
    openers = openers;
    records = records;
    links = λ o p r e kept.
        let k = (each o p e).links r kept in
        record {
          fits = k.fits;
          writer = k.writer;
          under_way = k.under_way;
          early = k.early;
          promise = k.promise;
          promised = k.promised;
        };
    runners = runners;
  }

-- ---- the same look-ups

-- an operand holds its version in this phase, or passes it on by a link
abbrev pub Needs : Phase → Option OpName → Type 0
Needs p k = (holds_version p ≡ true) ⊎ ((next : OpName) × (k ≡ Some next))

-- what is true may be said otherwise, where it is needed
pub holding_mapped : (T U : Source → Type 0) (O P C D : Type 0) (w : Bool) (l : LookUps) (k : Option OpName)
    → IsOrderly l
    → ((s : Source) → Needs (phase_at l) k → T s → U s) → (w ≡ true → phase_at l ≡ Waiting → O → P)
    → (w ≡ false → phase_at l ≡ Waiting → C → D) → Holding T O C w l k → Holding U P D w l k
holding_mapped T U O P C D w l k orderly true_on open_on come_on h = record {
  told = λ s e. true_on s (inl (ap holds_version (is_told s e))) (h.told s e);
  ready = λ r s kept e p. true_on s (inl (known p)) (h.ready r s kept e p);
  linking = λ next r s kept e l. true_on s (inr (next, l)) (h.linking next r s kept e l);
  releases = h.releases;
  waiting_writer = λ e p. open_on e p (h.waiting_writer e p);
  waiting_reader = λ e p. come_on e p (h.waiting_reader e p);
  links = h.links;
}
  where
    is_told : (s : Source) → l.telling ≡ Some s → phase_at l ≡ Told
    is_told s e =
        let a = (telling_stands l s orderly e).0 in phase_telling l s a.decoding a.opening a.using e

    known : (phase_at l ≡ Ready) ⊎ (phase_at l ≡ Releasing) → holds_version (phase_at l) ≡ true
    known (inl e) = ap holds_version e
    known (inr e) = ap holds_version e

-- ---- a state in which nothing of this is changed

module _ (ts : List Task) (g : Arrivals) (S T : State) (same : (q : OpName) → look_ups T q ≡ look_ups S q)
    (links : T.mail.links ≡ S.mail.links) (versions : T.versions ≡ S.versions) where
  true_there : (o : OpName) (p : Operand) (s : Source) → IsTrue g S o p s → IsTrue g T o p s
  true_there o p s t = record {
    version = t.version;
    there = ap (λ vs. get vs s.version) versions ∙ t.there;
    object = t.object;
    storage = t.storage;
    own = t.own;
  }

  -- everything is held as before
  pub HasHolders-same : AreOrderly S → HasRunners T → HasHolders ts g S → HasHolders ts g T
  HasHolders-same orderly runners h =
      holders_by ts g T
      (λ o p e.
      subst (λ l. Holding (IsTrue g T o p) (HasOpened T o) (HasCome g T o) (writes p.mode) l (get T.mail.links o))
      (sym (same o))
      (subst (λ ks. Holding (IsTrue g T o p) (HasOpened T o) (HasCome g T o) (writes p.mode) (look_ups S o) (get ks o))
      (sym links)
      (holding_mapped (IsTrue g S o p) (IsTrue g T o p) (HasOpened S o) (HasOpened T o) (HasCome g S o) (HasCome g T o)
      (writes p.mode) (look_ups S o) (get S.mail.links o) (orderly o) (λ s needs. true_there o p s)
      (λ w e y. (y.0, ap (λ vs. get vs o) versions ∙ y.1, y.2))
      (λ w e y. (y.0, y.1, ap (λ vs. get vs y.0) versions ∙ y.2, y.3)) (holding_of ts g S h o p e))))
      (λ v y p there e.
      ap (version_opener y p.mode) (ap phase_at (same v))
      ∙ h.openers v y p (sym (ap (λ vs. get vs v) versions) ∙ there) e)
      (λ o next e.
      let k = h.records o next (sym (ap (λ ks. get ks o) links) ∙ e) in
      (k.0, (λ i. (same o i).station) ∙ k.1, λ left. k.2 (sym (ap phase_at (same o)) ∙ left))) runners
