-- A retire keeps the entries: the last version of an object goes home.
use Rattle.std.proofs.Common.{◌≡◌, ◌≢◌, ℕ, ◌+◌, ◌⊎◌, inl, inr, true, List, Some, refl, sym, ap, ◌∙◌, subst}
use Rattle.std.specs.FinMap.{get, remove}
use Rattle.std.proofs.lemmas.Option.{none-some, same_Some}
use Rattle.tss_base.specs.declared.range.Range.{Range}
use Rattle.tss_base.specs.declared.operand.OpName.{OpName}
use Rattle.tss_base.specs.declared.operand.Operand.{Operand}
use Rattle.tss_base.specs.declared.operand.Task.{Task}
use Rattle.tss_base.specs.declared.machine.Machine.{Machine}
use Rattle.tss_maps.proofs.Keys.{name_order, decide_key}
use Rattle.tss_maps.proofs.Changes.{at_removed, beside_removed, from_removed}
use Rattle.tss_protocol.specs.State.{State, Entry, Version}
use Rattle.tss_control.specs.Members.{operand_among, IsVersionOf, IsOpenOf, IsMember, registered_of, opening_reader}
use Rattle.tss_control.specs.Members.{uses_of}
use Rattle.tss_control.specs.Entries.{IsGoingHome, IsLeaving, IsUsed, IsLive, IsRetiring, IsLastVersion, HasEntries}
use Rattle.tss_control.specs.Entries.{HasRetirement}
use Rattle.tss_control.proofs.rounds.EntriesFrames.{DecodesNoMore, KeepsLatest, KeepsLeaving, entries_kept}
use Rattle.tss_control.proofs.rounds.RetirementFrames.{cause_same}
use Rattle.tss_control.proofs.rounds.Facts.{Facts}

-- what a retire leaves
pub record Retires (ts : List Task) (S T : State) (v : OpName) (x : Version) : Type 0 where
  pub versions : T.versions ≡ remove S.versions v
  pub opens : T.mail.opens ≡ S.mail.opens
  pub uses : T.mail.uses ≡ S.mail.uses
  pub retires : T.mail.retires ≡ remove S.mail.retires v
  pub nacks : T.mail.nacks ≡ S.mail.nacks
  pub entries : T.entries ≡ S.entries
  pub back : (y : Range) (w : OpName) → IsGoingHome T y w → IsGoingHome S y w ⊎ ((w ≡ v) × (x.object ≡ y))
  pub still : (y : Range) (w : OpName) → IsGoingHome S y w → IsGoingHome T y w
  pub goes : IsGoingHome T x.object v
  pub decoded : DecodesNoMore ts S T

module _ (m : Machine) (S : State) (facts : Facts m S) (v : OpName) (x : Version)
    (at : get S.versions v ≡ Some x) (may : get S.mail.retires v ≡ Some tt) (T : State)
    (d : Retires facts.ts S T v x) where
  open facts use {ts, control as h}

  here : IsVersionOf S x.object v
  here = (x, at, refl)

  leaves : IsLeaving S x.object v
  leaves = inl (may, here)

  -- ---- what is left

  version_back : (y : Range) (w : OpName) → IsVersionOf T y w → (w ≢ v) × IsVersionOf S y w
  version_back y w k =
      let old = from_removed name_order S.versions v w k.0 (ap (λ m. get m w) (sym d.versions) ∙ k.1) in
      (old.0, (k.0, old.1, k.2))

  version_still : (y : Range) (w : OpName) → w ≢ v → IsVersionOf S y w → IsVersionOf T y w
  version_still y w apart k =
      (k.0, ap (λ m. get m w) d.versions ∙ beside_removed name_order S.versions v w apart ∙ k.1, k.2)

  open_back : (y : Range) (w : OpName) → IsOpenOf T y w → IsOpenOf S y w
  open_back y w k = (k.0, ap (λ m. get m w) (sym d.opens) ∙ k.1, k.2)

  member_back : (y : Range) (w : OpName) → IsMember T y w → IsMember S y w
  member_back y w (inl k) = inl (version_back y w k).1
  member_back y w (inr k) = inr (open_back y w k)

  use_back : (y : Range) → IsUsed ts T y → IsUsed ts S y
  use_back y u = (u.0, u.1, u.2, ap (λ m. get m u.0) (sym d.uses) ∙ u.3, u.4, u.5)

  leaving_back : (y : Range) (w : OpName) → IsLeaving T y w → IsLeaving S y w
  leaving_back y w (inl k) =
      inl (
        (from_removed name_order S.mail.retires v w tt (ap (λ m. get m w) (sym d.retires) ∙ k.0)).1,
        (version_back y w k.1).1,
      )
  leaving_back y w (inr k) = elim (d.back y w k) [
    | inl old ↦ inr old
    | inr new ↦ subst (IsLeaving S y) (sym new.0) (subst (λ y. IsLeaving S y v) new.1 leaves)
  ]

  leaving_still : (y : Range) (w : OpName) → w ≢ v → IsLeaving S y w → IsLeaving T y w
  leaving_still y w apart (inl k) =
      inl (
        ap (λ m. get m w) d.retires ∙ beside_removed name_order S.mail.retires v w apart ∙ k.0,
        version_still y w apart k.1,
      )
  leaving_still y w apart (inr k) = inr (d.still y w k)

  -- the latest version of an object is v only where it is of v's object
  latest_object : (b : ℕ) (e : Entry) → get S.entries b ≡ Some e → e.latest ≡ v → x.object ≡ e.object
  latest_object b e there same =
      let q = (h.entries.operand b e there).1 in
      let p = h.chains.opener v x at in
      sym p.2
      ∙ ap (λ (p : Operand). p.object) (same_Some p.0 q.0 (sym p.1 ∙ ap (operand_among ts) (sym same) ∙ q.1))
      ∙ q.2

  -- ---- live entries

  live_apart : (b : ℕ) (e : Entry) → get S.entries b ≡ Some e → IsLive S e.object e → e.latest ≢ v
  live_apart b e there l same =
      l.stays v (subst (λ y. IsLeaving S y v) (latest_object b e there same) leaves)

  live_member : (e : Entry) → e.latest ≢ v → IsMember S e.object e.latest → IsMember T e.object e.latest
  live_member e apart (inl k) = inl (version_still e.object e.latest apart k)
  live_member e apart (inr k) = inr (k.0, ap (λ m. get m e.latest) d.opens ∙ k.1, k.2)

  live_kept : (b : ℕ) (e : Entry) → get S.entries b ≡ Some e → IsLive S e.object e → KeepsLatest S T e
  live_kept b e there l =
      let apart = live_apart b e there l in
      record {
        member = live_member e apart l.member;
        sent =
            (λ i. registered_of (get (d.versions i) e.latest) + opening_reader (get (d.opens i) e.latest)
            + uses_of (d.uses i) e.latest)
            ∙ (λ i. registered_of (beside_removed name_order S.versions v e.latest apart i)
            + opening_reader (get S.mail.opens e.latest) + uses_of S.mail.uses e.latest);
      }

  -- ---- retiring entries

  last_other : (e : Entry) → e.latest ≢ v → IsRetiring ts S e.object e → (y : Version)
      → get T.mail.retires e.latest ≡ Some tt → get T.versions e.latest ≡ Some y → IsLastVersion T e.object e y
  last_other e apart r y k there =
      let l = r.last y
      (from_removed name_order S.mail.retires v e.latest tt (ap (λ m. get m e.latest) (sym d.retires) ∙ k)).1
      (from_removed name_order S.versions v e.latest y (ap (λ m. get m e.latest) (sym d.versions) ∙ there)).1 in
      record {
        only = λ w k. l.only w (version_back e.object w k).1;
        asked = l.asked;
        registered = l.registered;
        released = l.released;
      }

  retiring_other : (e : Entry) → e.latest ≢ v → IsRetiring ts S e.object e → KeepsLeaving S T e
  retiring_other e apart r = record {
    leaving = leaving_still e.object e.latest apart r.leaving;
    last = last_other e apart r;
    none = λ k w y. elim (d.back e.object e.latest k) [
      | inl old ↦ r.none old w (version_back e.object w y).1
      | inr new ↦ absurd (apart new.0)
    ];
  }

  -- v's own: it is the only one
  retiring_own : (e : Entry) → e.latest ≡ v → x.object ≡ e.object → IsRetiring ts S e.object e → KeepsLeaving S T e
  retiring_own e same object r = record {
    leaving = inr (subst (IsGoingHome T e.object) (sym same) (subst (λ y. IsGoingHome T y v) object d.goes));
    last = λ y k there.
        absurd (none-some tt (sym (at_removed name_order S.mail.retires v)
        ∙ ap (get (remove S.mail.retires v)) (sym same)
        ∙ ap (λ m. get m e.latest) (sym d.retires) ∙ k));
    none = λ k w y.
        let old = version_back e.object w y in
        let l = r.last x (ap (get S.mail.retires) same ∙ may) (ap (get S.versions) same ∙ at) in
        old.0 (l.only w old.1 ∙ same);
  }

  retiring_kept : (b : ℕ) (e : Entry) → get S.entries b ≡ Some e → e.retiring ≡ true → IsRetiring ts S e.object e
      → KeepsLeaving S T e
  retiring_kept b e there on r = elim (decide_key name_order e.latest v) [
    | inl same ↦ retiring_own e same (latest_object b e there same) r
    | inr other ↦ retiring_other e other r
  ]

  -- entries after a retire
  pub entries_retired : HasEntries ts T
  entries_retired = entries_kept ts S T h.entries (record {
    entries = d.entries;
    more = record { members = member_back; opens = open_back; uses = use_back; leaving = leaving_back };
    live = live_kept;
    retiring = retiring_kept;
    decoded = d.decoded;
  })

  -- asking and refusing after it
  pub retirement_retired : HasRetirement T
  retirement_retired =
      let r = h.retirement in
      let before : (w : OpName) (y : Version) → get T.versions w ≡ Some y → get S.versions w ≡ Some y =
      λ w y t. (from_removed name_order S.versions v w y (ap (λ m. get m w) (sym d.versions) ∙ t)).1 in
      record {
        asked = λ w y count t asks.
            let a = r.asked w y count (before w y t) asks in
            record { produced = a.produced; oldest = a.oldest; released = a.released };
        refused = λ w y count t no_more. cause_same S T d.entries w y count
            (r.refused w y count (before w y t) no_more);
        refusing = λ w y count t asks nack.
            cause_same S T d.entries w y count
            (r.refusing w y count (before w y t) asks (ap (λ m. get m w) (sym d.nacks) ∙ nack));
        settled = λ w y t. r.settled w y (before w y t);
      }
