-- What a state has to keep so that its readers stay as they are: what is seen of the phase, the link under way and the
-- record of each, and of each version what its readers make of it.
use Rattle.std.proofs.Common.{◌≡◌, inl, inr, Bool, true, false, List, Some, refl, sym, ap, ◌∙◌, subst}
use Rattle.std.specs.FinMap.{get}
use Rattle.tss_base.specs.declared.operand.OpName.{OpName}
use Rattle.tss_base.specs.declared.operand.Mode.TheVariants.{Input}
use Rattle.tss_base.specs.declared.operand.Task.{Task}
use Rattle.tss_protocol.specs.State.{State, OperandState, Version}
use Rattle.tss_protocol.specs.Stations.{operand_at}
use Rattle.tss_phases.specs.Phase.{Phase, Waiting, Told}
use Rattle.tss_phases.specs.Phase.{phase_of, has_released}
use Rattle.tss_phases.specs.Openers.{is_waiting}
use Rattle.tss_control.specs.Members.{IsOn, IsWriterOn}
use Rattle.tss_control.specs.Readers.{Has, head_of, has_arrived, IsArrival, Holds, AreNeighbours, IsNewest, HasArrivals}
use Rattle.tss_control.proofs.rounds.ReadersLists.{has_older, has_newer, has_oldest, has_newest, chained_at, chained_by}
use Rattle.tss_control.proofs.rounds.ReadersLists.{newest_at, newest_by}
use Rattle.tss_control.proofs.rounds.ReadersCounts.{same_released, same_tail}

-- ---- phases

-- it is told
abbrev pub is_told : Phase → Bool
is_told Told = true
is_told p = false

-- a phase that passes the test is waiting
pub waiting_from_test : (p : Phase) → is_waiting p ≡ true → p ≡ Waiting
waiting_from_test Waiting e = refl
waiting_from_test other e = absurd (cc)

-- and one that passes the other is told
pub told_from_test : (p : Phase) → is_told p ≡ true → p ≡ Told
told_from_test Told e = refl
told_from_test other e = absurd (cc)

-- what is seen of a phase is the same of another
pub record LooksAlike (p q : Phase) : Type 0 where
  pub waiting : is_waiting q ≡ is_waiting p
  pub told : is_told q ≡ is_told p
  pub released : has_released q ≡ has_released p
  pub arrived : has_arrived q ≡ has_arrived p

-- equal phases look alike
pub alike_same : (p q : Phase) → q ≡ p → LooksAlike p q
alike_same p q e = record {
  waiting = ap is_waiting e;
  told = ap is_told e;
  released = ap has_released e;
  arrived = ap has_arrived e;
}

-- waiting before, where it is after
pub waited : (p q : Phase) → is_waiting q ≡ is_waiting p → q ≡ Waiting → p ≡ Waiting
waited p q same e = waiting_from_test p (sym same ∙ ap is_waiting e)

-- waiting after, where it was before
pub still_waits : (p q : Phase) → is_waiting q ≡ is_waiting p → p ≡ Waiting → q ≡ Waiting
still_waits p q same e = waiting_from_test q (same ∙ ap is_waiting e)

-- told before, where it is after
was_told : (p q : Phase) → LooksAlike p q → q ≡ Told → p ≡ Told
was_told p q a e = told_from_test p (sym a.told ∙ ap is_told e)

-- ---- readers

-- a reader in one state is as it was in another
pub record SameReader (S T : State) (a : OpName) : Type 0 where
  pub phase : LooksAlike (phase_of S a) (phase_of T a)
  pub links : get T.mail.links a ≡ get S.mail.links a
  pub holds : (c : OpName) → Holds S a c → Holds T a c
  pub station : (r : OperandState) → operand_at T.flight a ≡ Some r
      → (q : OperandState) × (operand_at S.flight a ≡ Some q) × (r.link ≡ q.link)

module _ (S T : State) (a : OpName) (same : SameReader S T a) where
  -- it held what it holds
  held_before : (c : OpName) → Holds T a c → Holds S a c
  held_before c h =
      let k = same.station h.0 h.1 in
      (k.0, k.1, sym k.2 ∙ h.2)

  -- the newest stays so
  newest_kept : IsNewest S a → IsNewest T a
  newest_kept n = record {
    linking = λ c e. n.linking c (sym same.links ∙ e);
    record_link = λ r e. let k = same.station r e in k.2 ∙ n.record_link k.0 k.1;
  }

  -- neighbours stay so, where the newer waits as before
  pub neighbours_kept : (b : OpName) → is_waiting (phase_of T b) ≡ is_waiting (phase_of S b) → AreNeighbours S a b
      → AreNeighbours T a b
  neighbours_kept b alike n =
      let p = phase_of S b in
      let q = phase_of T b in
      let before : (q ≡ Waiting → ⊥) → p ≡ Waiting → ⊥ = λ none e. none (still_waits p q alike e) in record {
        waits = λ e. elim (n.waits (waited p q alike e)) [
          | inl l ↦ inl (same.links ∙ l)
          | inr h ↦ inr (same.holds b h)
        ];
        linking = λ c e.
            let k = n.linking c (sym same.links ∙ e) in
            (k.0, still_waits p q alike k.1, λ d h. k.2 d (held_before d h));
        holding = λ c h. let k = n.holding c (held_before c h) in (k.0, still_waits p q alike k.1);
        woken = λ none.
            let k = n.woken (before none) in (
              (λ e. k.0 (waited (phase_of S a) (phase_of T a) same.phase.waiting e)),
              (λ e. k.1 (was_told (phase_of S a) (phase_of T a) same.phase e)),
            );
        passed = λ r none at stays.
            let k = same.station r at in
            k.2 ∙ n.passed k.0 (before none) k.1 (sym same.phase.released ∙ stays);
      }

-- ---- versions

-- what readers make of a version is the same
pub record SameForReaders (y z : Version) : Type 0 where
  pub object : z.object ≡ y.object
  pub produced : z.produced ≡ y.produced
  pub registered : z.registered ≡ y.registered
  pub released : z.released ≡ y.released
  pub head : z.head ≡ y.head
  pub tail : z.tail ≡ y.tail

-- of one version
pub same_version : (y z : Version) → z ≡ y → SameForReaders y z
same_version y z e = record {
  object = λ i. (e i).object;
  produced = λ i. (e i).produced;
  registered = λ i. (e i).registered;
  released = λ i. (e i).released;
  head = λ i. (e i).head;
  tail = λ i. (e i).tail;
}

-- a reader that stays is an arrival
pub arrival_kept : (ts : List Task) (S T : State) (v : OpName) (y z : Version) (a : OpName) → z.object ≡ y.object
    → has_arrived (phase_of T a) ≡ has_arrived (phase_of S a) → IsArrival ts S v y a → IsArrival ts T v z a
arrival_kept ts S T v y z a object arrived h = record {
  on = subst (λ x. IsOn ts x Input a) (sym object) h.on;
  arrived = arrived ∙ h.arrived;
  younger = h.younger;
  alone = λ o older newer w. h.alone o older newer (subst (λ x. IsWriterOn ts x o) object w);
}

-- the readers of a version stay so
pub arrivals_kept : (ts : List Task) (xs : List OpName) (S T : State) (v : OpName) (y z : Version)
    → SameForReaders y z → ((a : OpName) → Has a xs → SameReader S T a) → HasArrivals ts xs S v y
    → HasArrivals ts xs T v z
arrivals_kept ts xs S T v y z same each h =
    let released = λ (a : OpName) (k : Has a xs). (each a k).phase.released in record {
      once = h.once;
      each = λ a k. arrival_kept ts S T v y z a same.object (each a k).phase.arrived (h.each a k);
      opener = λ on. h.opener (subst (λ x. IsOn ts x Input v) same.object on);
      own = h.own;
      registered = same.registered ∙ h.registered;
      released = same.released ∙ h.released ∙ sym (same_released S T xs released);
      head = same.head ∙ h.head ∙ ap (λ b. head_of b xs) (sym same.produced);
      tail = same.tail ∙ h.tail ∙ sym (same_tail S T xs released);
      first = λ a e.
          let k = h.first a e in
          let alike = (each a (has_oldest a xs e)).phase.waiting in (
            (λ w. same.produced ∙ k.0 (waited (phase_of S a) (phase_of T a) alike w)),
            (λ b. still_waits (phase_of S a) (phase_of T a) alike (k.1 (sym same.produced ∙ b))),
          );
      chained = chained_by T xs (λ a b n.
          neighbours_kept S T a (each a (has_older a b xs n)) b (each b (has_newer a b xs n)).phase.waiting
          (chained_at S xs h.chained a b n));
      newest = newest_by T xs (λ a e. newest_kept S T a (each a (has_newest a xs e)) (newest_at S xs h.newest a e));
    }
