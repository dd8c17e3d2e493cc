-- What operands hold after an event that leaves versions: those whose look-ups and links it leaves hold what they held.
use Rattle.std.proofs.Common.{◌≡◌, ◌⊎◌, true, List, Option, Some, sym, ap, ◌∙◌, subst, inl, inr}
use Rattle.std.specs.FinMap.{get}
use Rattle.tss_base.specs.declared.operand.OpName.{OpName}
use Rattle.tss_base.specs.declared.operand.Operand.{Operand}
use Rattle.tss_base.specs.declared.operand.Task.{Task}
use Rattle.tss_model.specs.Access.{writes}
use Rattle.tss_protocol.specs.Mail.{Source}
use Rattle.tss_protocol.specs.State.{State, OperandState, Version}
use Rattle.tss_protocol.specs.Stations.{operand_at}
use Rattle.tss_phases.specs.Phase.{Left, LookUps, look_ups, phase_at, phase_of}
use Rattle.tss_phases.specs.Openers.{version_opener}
use Rattle.tss_phases.specs.Orderly.{AreOrderly}
use Rattle.tss_control.specs.Members.{operand_among}
use Rattle.tss_control.specs.Readers.{Arrivals}
use Rattle.tss_control.specs.Holders.{IsTrue, HasHolders}
use Rattle.tss_control.specs.Runners.{HasRunners}
use Rattle.tss_control.proofs.holders.Fits.{Holding, HasOpened, HasCome, HoldsIn, holding_of, holding_mapped}
use Rattle.tss_control.proofs.holders.Fits.{holders_by}

module _ (ts : List Task) (g : Arrivals) (S T : State) where
  -- an operand of which the look-ups and the link are left
  pub record IsSameHolder (q : OpName) : Type 0 where
    pub looked : look_ups T q ≡ look_ups S q
    pub links : get T.mail.links q ≡ get S.mail.links q

  -- one that changes: what it holds after the event, as opener, and its record where a link is under way
  pub record IsChangedHolder (q : OpName) : Type 0 where
    pub holds : (p : Operand) → operand_among ts q ≡ Some p → HoldsIn g S q p → HoldsIn g T q p
    pub opener : (y : Version) (p : Operand) → get S.versions q ≡ Some y → operand_among ts q ≡ Some p
        → version_opener y p.mode (phase_of S q) ≡ true → version_opener y p.mode (phase_of T q) ≡ true
    pub records : (next : OpName) → get T.mail.links q ≡ Some next
        → (r : OperandState) × (operand_at T.flight q ≡ Some r) × (phase_of T q ≡ Left → ⊥)

  -- each is one of both
  abbrev ChangesHolders : Type 0
  ChangesHolders = (q : OpName) → IsSameHolder q ⊎ IsChangedHolder q

module _ (ts : List Task) (g : Arrivals) (S T : State) (versions : T.versions ≡ S.versions)
    (orderly : AreOrderly S) where
  -- what it was told is still true
  true_kept : (o : OpName) (p : Operand) (s : Source) → IsTrue g S o p s → IsTrue g T o p s
  true_kept o p s t = record {
    version = t.version;
    there = ap (λ vs. get vs s.version) versions ∙ t.there;
    object = t.object;
    storage = t.storage;
    own = t.own;
  }

  -- by what was looked up of it before
  pub holding_there : (o : OpName) (p : Operand) → HoldsIn g S o p
      → Holding (IsTrue g T o p) (HasOpened T o) (HasCome g T o) (writes p.mode) (look_ups S o) (get S.mail.links o)
  holding_there o p h =
      holding_mapped (IsTrue g S o p) (IsTrue g T o p) (HasOpened S o) (HasOpened T o) (HasCome g S o) (HasCome g T o)
      (writes p.mode) (look_ups S o) (get S.mail.links o) (orderly o) (λ s needs. true_kept o p s)
      (λ w e y. (y.0, ap (λ vs. get vs o) versions ∙ y.1, y.2))
      (λ w e y. (y.0, y.1, ap (λ vs. get vs y.0) versions ∙ y.2, y.3)) h

  -- by what is looked up of it after
  pub holding_after : (o : OpName) (p : Operand) (l : LookUps) (k : Option OpName) → look_ups T o ≡ l
      → get T.mail.links o ≡ k
      → Holding (IsTrue g T o p) (HasOpened T o) (HasCome g T o) (writes p.mode) l k → HoldsIn g T o p
  holding_after o p l k looked links h =
      subst (λ l. Holding (IsTrue g T o p) (HasOpened T o) (HasCome g T o) (writes p.mode) l (get T.mail.links o))
      (sym looked)
      (subst (λ next. Holding (IsTrue g T o p) (HasOpened T o) (HasCome g T o) (writes p.mode) l next) (sym links) h)

  -- an operand that is left holds what it held
  holding_kept : (o : OpName) (p : Operand) → IsSameHolder ts g S T o → HoldsIn g S o p → HoldsIn g T o p
  holding_kept o p k h = holding_after o p (look_ups S o) (get S.mail.links o) k.looked k.links (holding_there o p h)

  before : (v : OpName) (y : Version) → get T.versions v ≡ Some y → get S.versions v ≡ Some y
  before v y e = sym (ap (λ vs. get vs v) versions) ∙ e

  -- all operands hold what they are to
  pub holders_kept : HasRunners T → ChangesHolders ts g S T → HasHolders ts g S → HasHolders ts g T
  holders_kept runners change h =
      holders_by ts g T
      (λ o p e.
      let was = holding_of ts g S h o p e in
      elim (change o) [
        | inl same ↦ holding_kept o p same was
        | inr changed ↦ changed.holds p e was
      ])
      (λ v y p e at.
      let was = h.openers v y p (before v y e) at in
      elim (change v) [
        | inl same ↦ ap (λ l. version_opener y p.mode (phase_at l)) same.looked ∙ was
        | inr changed ↦ changed.opener y p (before v y e) at was
      ])
      (λ o next e. elim (change o) [
        | inl same ↦
            let r = h.records o next (sym same.links ∙ e) in
            (r.0, ap (λ (l : LookUps). l.station) same.looked ∙ r.1, λ left. r.2 (sym (ap phase_at same.looked) ∙ left))
        | inr changed ↦ changed.records next e
      ])
      runners
