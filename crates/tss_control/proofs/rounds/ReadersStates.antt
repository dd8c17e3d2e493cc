-- States that keep their readers, and states that lose versions whose readers have all gone.
use Rattle.std.proofs.Common.{◌≡◌, ◌⊎◌, inl, inr, ℕ, ◌≤◌, true, List, length, Some, refl, sym, ap, ◌∙◌, arith}
use Rattle.std.specs.FinMap.{get}
use Rattle.tss_base.specs.declared.operand.OpName.{OpName}
use Rattle.tss_base.specs.declared.operand.Task.{Task}
use Rattle.tss_base.specs.declared.marks.LinkState.{LinkState}
use Rattle.tss_base.specs.declared.marks.LinkState.TheVariants as link
use Rattle.tss_base.specs.Names.{Named}
use Rattle.tss_protocol.specs.State.{State, Version}
use Rattle.tss_protocol.specs.Stations.{operand_at}
use Rattle.tss_phases.specs.Phase.{Waiting, phase_of, has_released}
use Rattle.tss_phases.proofs.Tests.{not_both}
use Rattle.tss_control.specs.Readers.{Arrivals, Has, Holds, IsLinking, released_among, HasArrivals, HasReaders}
use Rattle.tss_control.proofs.rounds.ReadersLists.{newest_or_older, has_newer, chained_at, newest_at}
use Rattle.tss_control.proofs.rounds.ReadersCounts.{all_released}
use Rattle.tss_control.proofs.rounds.ReadersKept.{SameReader, SameForReaders, same_version, alike_same, arrivals_kept}

-- ---- readers that have all released their version

-- a record that has no link holds none
pub nothing_held : (l : LinkState) (b : OpName) → l ≡ link.Nothing → l ≡ link.Held b → ⊥
nothing_held l b e h = cc

module _ (ts : List Task) (xs : List OpName) (S : State) (v : OpName) (y : Version) (h : HasArrivals ts xs S v y)
    (done : (a : OpName) → Has a xs → has_released (phase_of S a) ≡ true) where
  waits_for_none : (b : OpName) → Has b xs → phase_of S b ≡ Waiting → ⊥
  waits_for_none b k e = not_both (has_released (phase_of S b)) (done b k) (ap has_released e)

  -- no link is under way for them
  pub no_link_left : (a b : OpName) → Has a xs → IsLinking S a b → ⊥
  no_link_left a b k e = elim (newest_or_older a xs k) [
    | inl n ↦ (newest_at S xs h.newest a n).linking b e
    | inr n ↦ waits_for_none n.0 (has_newer a n.0 xs n.1) ((chained_at S xs h.chained a n.0 n.1).linking b e).1
  ]

  -- and they hold none
  no_held_left : (a b : OpName) → Has a xs → Holds S a b → ⊥
  no_held_left a b k e = elim (newest_or_older a xs k) [
    | inl n ↦ nothing_held e.0.link b ((newest_at S xs h.newest a n).record_link e.0 e.1) e.2
    | inr n ↦ waits_for_none n.0 (has_newer a n.0 xs n.1) ((chained_at S xs h.chained a n.0 n.1).holding b e).1
  ]

-- all readers of a version have released it where as many have as have registered
pub all_have_gone : (ts : List Task) (xs : List OpName) (S : State) (v : OpName) (y : Version)
    → HasArrivals ts xs S v y → y.registered ≤ y.released → (a : OpName) → Has a xs
    → has_released (phase_of S a) ≡ true
all_have_gone ts xs S v y h full = all_released S xs (by y.registered y.released h.registered h.released full)
  where
    by : (n k : ℕ) → n ≡ length xs → k ≡ released_among S xs → n ≤ k → length xs ≤ released_among S xs
    by n k e f less = omega (arith, e, f, less)

-- ---- states

-- a state keeps versions and readers
pub record KeepsReaders (g : Arrivals) (S T : State) : Type 0 where
  pub versions : (v : OpName) (z : Version) → get T.versions v ≡ Some z
      → (y : Version) × (get S.versions v ≡ Some y) × SameForReaders y z
  pub stay : (v : OpName) (y : Version) → get S.versions v ≡ Some y → (z : Version) × (get T.versions v ≡ Some z)
  pub each : (v : OpName) (y : Version) (a : OpName) → get S.versions v ≡ Some y → Has a (g v) → SameReader S T a
  pub links : (a b : OpName) → IsLinking T a b → IsLinking S a b
  pub held : (a b : OpName) → Holds T a b → Holds S a b

-- its readers are in order
pub readers_kept : (ts : List Task) (g : Arrivals) (S T : State) → KeepsReaders g S T → HasReaders ts g S
    → HasReaders ts g T
readers_kept ts g S T k h = record {
  versions = λ v z at.
      let f = k.versions v z at in
      arrivals_kept ts (g v) S T v f.0 z f.2 (λ a. k.each v f.0 a f.1) (h.versions v f.0 f.1);
  apart = λ v w a y z at bt.
      let f = k.versions v y at in
      let e = k.versions w z bt in
      h.apart v w a f.0 e.0 f.1 e.1;
  links = λ a b e.
      let f = h.links a b (k.links a b e) in
      let s = k.stay f.0 f.1 f.2 in
      (f.0, s.0, s.1, f.3);
  held = λ a b e.
      let f = h.held a b (k.held a b e) in
      let s = k.stay f.0 f.1 f.2 in
      (f.0, s.0, s.1, f.3);
}

-- a version stays, or all its readers have gone
abbrev pub StaysOrGone : Named Version → OpName → Version → Type 0
StaysOrGone us v y = ((z : Version) × (get us v ≡ Some z)) ⊎ (y.registered ≤ y.released)

-- fewer versions, where all readers of those that went have gone
pub readers_fewer : (ts : List Task) (g : Arrivals) (S : State) (us : Named Version)
    → ((v : OpName) (z : Version) → get us v ≡ Some z
    → (y : Version) × (get S.versions v ≡ Some y) × SameForReaders y z)
    → ((v : OpName) (y : Version) → get S.versions v ≡ Some y → StaysOrGone us v y)
    → HasReaders ts g S → HasReaders ts g (record S { versions = us })
readers_fewer ts g S us from stay h = record {
  versions = λ v z at.
      let f = from v z at in
      arrivals_kept ts (g v) S (record S { versions = us }) v f.0 z f.2 (λ a k. same a) (h.versions v f.0 f.1);
  apart = λ v w a y z at bt.
      let f = from v y at in
      let e = from w z bt in
      h.apart v w a f.0 e.0 f.1 e.1;
  links = λ a b e.
      let f = h.links a b e in
      elim (stay f.0 f.1 f.2) [
        | inl s ↦ (f.0, s.0, s.1, f.3)
        | inr gone ↦ absurd (no_link_left ts (g f.0) S f.0 f.1 (h.versions f.0 f.1 f.2)
            (all_have_gone ts (g f.0) S f.0 f.1 (h.versions f.0 f.1 f.2) gone) a b f.3 e)
      ];
  held = λ a b e.
      let f = h.held a b e in
      elim (stay f.0 f.1 f.2) [
        | inl s ↦ (f.0, s.0, s.1, f.3)
        | inr gone ↦ absurd (no_held_left ts (g f.0) S f.0 f.1 (h.versions f.0 f.1 f.2)
            (all_have_gone ts (g f.0) S f.0 f.1 (h.versions f.0 f.1 f.2) gone) a b f.3 e)
      ];
}
  where
    same : (a : OpName) → SameReader S (record S { versions = us }) a
    same a = record {
      phase = alike_same (phase_of S a) (phase_of S a) refl;
      links = refl;
      holds = λ c h. h;
      station = λ r e. (r, e, refl);
    }

-- ---- the same versions

-- a state with the same versions and links, and records with the same links
pub record SameLinks (S T : State) : Type 0 where
  pub versions : T.versions ≡ S.versions
  pub links : T.mail.links ≡ S.mail.links
  pub flight : (a : OpName) → operand_at T.flight a ≡ operand_at S.flight a
  pub phases : (a : OpName) → phase_of T a ≡ phase_of S a

-- has its readers in order
pub HasReaders-same : (ts : List Task) (g : Arrivals) (S T : State) → SameLinks S T → HasReaders ts g S
    → HasReaders ts g T
HasReaders-same ts g S T k = readers_kept ts g S T (record {
  versions = λ v z e. (z, sym (ap (λ vs. get vs v) k.versions) ∙ e, same_version z z refl);
  stay = λ v y e. (y, ap (λ vs. get vs v) k.versions ∙ e);
  each = λ v y a e h. record {
    phase = alike_same (phase_of S a) (phase_of T a) (k.phases a);
    links = ap (λ ls. get ls a) k.links;
    holds = λ c h. (h.0, k.flight a ∙ h.1, h.2);
    station = λ r e. (r, sym (k.flight a) ∙ e, refl);
  };
  links = λ a b e. sym (ap (λ ls. get ls a) k.links) ∙ e;
  held = λ a b h. (h.0, sym (k.flight a) ∙ h.1, h.2);
})
