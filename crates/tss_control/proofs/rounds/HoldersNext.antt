-- Who a link is for: the reader that came right after, which waits.
use Rattle.std.proofs.Common.{◌≡◌, List, Some, sym, ◌∙◌, subst, ap, inl, inr}
use Rattle.std.specs.FinMap.{get}
use Rattle.tss_base.specs.declared.operand.OpName.{OpName}
use Rattle.tss_base.specs.declared.operand.Task.{Task}
use Rattle.tss_base.specs.declared.marks.LinkState.TheVariants as link
use Rattle.tss_protocol.specs.State.{State, Version}
use Rattle.tss_phases.specs.Phase.{Waiting, phase_of}
use Rattle.tss_control.specs.Readers.{Arrivals, Has, Holds, IsLinking, HasReaders}
use Rattle.tss_control.proofs.rounds.ReadersLists.{IsNext, newest_or_older, chained_at, newest_at}

-- b waits, and came right after a to a registered version
pub record WaitsBehind (g : Arrivals) (S : State) (a b : OpName) : Type 0 where
  pub version : OpName
  pub state : Version
  pub there : get S.versions version ≡ Some state
  pub older : Has a (g version)
  pub next : IsNext a b (g version)
  pub waits : phase_of S b ≡ Waiting

module _ (ts : List Task) (g : Arrivals) (S : State) (readers : HasReaders ts g S) (a b : OpName) where
  -- by a link that is under way
  pub linking_waits : IsLinking S a b → WaitsBehind g S a b
  linking_waits l =
      let found = readers.links a b l in
      let v = found.0 in
      let all = readers.versions v found.1 found.2 in
      elim (newest_or_older a (g v) found.3) [
        | inl e ↦ absurd ((newest_at S (g v) all.newest a e).linking b l)
        | inr c ↦
            let k = (chained_at S (g v) all.chained a c.0 c.1).linking b l in
            record {
              version = v;
              state = found.1;
              there = found.2;
              older = found.3;
              next = subst (λ c. IsNext a c (g v)) (sym k.0) c.1;
              waits = ap (phase_of S) k.0 ∙ k.1;
            }
      ]

  nothing_held : link.Nothing ≡ link.Held b → ⊥
  nothing_held e = cc

  -- by one that is held
  pub held_waits : Holds S a b → WaitsBehind g S a b
  held_waits l =
      let found = readers.held a b l in
      let v = found.0 in
      let all = readers.versions v found.1 found.2 in
      elim (newest_or_older a (g v) found.3) [
        | inl e ↦ absurd (nothing_held (sym ((newest_at S (g v) all.newest a e).record_link l.0 l.1) ∙ l.2))
        | inr c ↦
            let k = (chained_at S (g v) all.chained a c.0 c.1).holding b l in
            record {
              version = v;
              state = found.1;
              there = found.2;
              older = found.3;
              next = subst (λ c. IsNext a c (g v)) (sym k.0) c.1;
              waits = ap (phase_of S) k.0 ∙ k.1;
            }
      ]
