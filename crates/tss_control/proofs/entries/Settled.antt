-- Entries and refusals after a settle, where all other versions were settled.
use Rattle.std.proofs.Common.{◌≡◌, ◌≢◌, ℕ, ◌+◌, ◌<◌, ◌≤◌, inl, inr, List, Some, None, sym, ap, ◌∙◌, subst, arith}
use Rattle.std.specs.FinMap.{get}
use Rattle.std.proofs.lemmas.Option.{none-some, same_Some}
use Rattle.tss_base.specs.declared.range.Range.{Range}
use Rattle.tss_base.specs.declared.operand.OpName.{OpName}
use Rattle.tss_base.specs.declared.operand.Task.{Task}
use Rattle.tss_base.specs.declared.marks.Follow.{Follow}
use Rattle.tss_maps.proofs.Changes.{decide_get}
use Rattle.tss_protocol.specs.State.{State, Entry, Version}
use Rattle.tss_control.specs.Members.{IsVersionOf, IsOpenOf, IsMember, registered_of, opening_reader, uses_of, total}
use Rattle.tss_control.specs.Chains.{HasChains}
use Rattle.tss_names.specs.Asking.{AsksFor}
use Rattle.tss_control.specs.Entries.{IsGoingHome, IsLeaving, IsUsed, IsLive, IsRetiring, IsLastVersion, HasEntries}
use Rattle.tss_control.specs.Entries.{AsksRightly, HasCause, HasRetirement}
use Rattle.tss_control.proofs.rounds.EntriesFrames.{DecodesNoMore, KeepsLatest, KeepsLeaving, entries_kept}
use Rattle.tss_control.proofs.entries.Settling.{Becomes, SettlesTo}
use Rattle.tss_control.proofs.entries.SettleCases.{KeepsSettled}

-- what a settle leaves
pub record Settled (ts : List Task) (S T : State) (v : OpName) : Type 0 where
  pub versions : SettlesTo S.versions T.versions
  pub copies : T.copies ≡ S.copies
  pub entries : T.entries ≡ S.entries
  pub mail : KeepsSettled v S.mail T.mail
  pub stays : get S.mail.gones v ≡ None
  pub decoded : DecodesNoMore ts S T

not_below_itself : (a b : ℕ) → a < b → b ≤ a → ⊥
not_below_itself a b p q = omega (arith, p, q)

module _ (ts : List Task) (S T : State) (v : OpName) (d : Settled ts S T v) where
  version_back : (x : Range) (w : OpName) → IsVersionOf T x w → IsVersionOf S x w
  version_back x w k =
      let f = d.versions.from w k.0 k.1 in (f.0, f.1, sym f.2.object ∙ k.2)

  open_back : (x : Range) (w : OpName) → IsOpenOf T x w → IsOpenOf S x w
  open_back x w k = (k.0, ap (λ m. get m w) (sym d.mail.opens) ∙ k.1, k.2)

  member_back : (x : Range) (w : OpName) → IsMember T x w → IsMember S x w
  member_back x w (inl k) = inl (version_back x w k)
  member_back x w (inr k) = inr (open_back x w k)

  use_back : (x : Range) → IsUsed ts T x → IsUsed ts S x
  use_back x u = (u.0, u.1, u.2, ap (λ m. get m u.0) (sym d.mail.uses) ∙ u.3, u.4, u.5)

  going_back : (x : Range) (w : OpName) → IsGoingHome T x w → IsGoingHome S x w
  going_back x w (inl k) = inl (k.0, k.1, ap (λ m. get m k.0) (sym d.copies) ∙ k.2, k.3, k.4)
  going_back x w (inr k) = inr (k.0, d.mail.back w k.0 k.1 k.2, k.2, k.3)

  going_still : (x : Range) (w : OpName) → IsGoingHome S x w → IsGoingHome T x w
  going_still x w (inl k) = inl (k.0, k.1, ap (λ m. get m k.0) d.copies ∙ k.2, k.3, k.4)
  going_still x w (inr k) =
      let apart : w ≢ v = λ same. none-some k.0 (sym d.stays ∙ ap (get S.mail.gones) (sym same) ∙ k.1) in
      inr (k.0, d.mail.still w k.0 apart k.1, k.2, k.3)

  leaving_back : (x : Range) (w : OpName) → IsLeaving T x w → IsLeaving S x w
  leaving_back x w (inl k) = inl (ap (λ m. get m w) (sym d.mail.retires) ∙ k.0, version_back x w k.1)
  leaving_back x w (inr k) = inr (going_back x w k)

  -- a version without a successor stays
  version_still : (x : Range) (w : OpName) → ((y : Version) → get S.versions w ≡ Some y → (f : Follow)
      → y.successor ≡ Some f → ⊥) → IsVersionOf S x w → IsVersionOf T x w
  version_still x w last k = elim (d.versions.stay w k.0 k.1) [
    | inl z ↦
        let f = d.versions.from w z.0 z.1 in
        (z.0, z.1, f.2.object ∙ ap (λ (y : Version). y.object) (same_Some f.0 k.0 (sym f.1 ∙ k.1)) ∙ k.2)
    | inr gone ↦ absurd (last k.0 k.1 gone.0 gone.1)
  ]

  registered_kept : (w : OpName) → ((y : Version) → get S.versions w ≡ Some y → (f : Follow)
      → y.successor ≡ Some f → ⊥) → registered_of (get T.versions w) ≡ registered_of (get S.versions w)
  registered_kept w last = elim (decide_get T.versions w) [
    | inl none ↦ elim (decide_get S.versions w) [
      | inl empty ↦ ap registered_of (none ∙ sym empty)
      | inr y ↦ elim (d.versions.stay w y.0 y.1) [
        | inl z ↦ absurd (none-some z.0 (sym none ∙ z.1))
        | inr gone ↦ absurd (last y.0 y.1 gone.0 gone.1)
      ]
    ]
    | inr z ↦
        let f = d.versions.from w z.0 z.1 in
        ap registered_of z.1 ∙ f.2.registered ∙ ap registered_of (sym f.1)
  ]

  total_kept : (w : OpName) → ((y : Version) → get S.versions w ≡ Some y → (f : Follow) → y.successor ≡ Some f → ⊥)
      → total T w ≡ total S w
  total_kept w last = λ i.
      registered_kept w last i + opening_reader (get (d.mail.opens i) w) + uses_of (d.mail.uses i) w

  module _ (chains : HasChains ts S) (h : HasEntries ts S) where
    -- the latest version has no successor
    latest_last : (e : Entry) → ((w : OpName) → IsVersionOf S e.object w → w.task ≤ e.latest.task) → (y : Version)
        → get S.versions e.latest ≡ Some y → y.object ≡ e.object → (f : Follow) → y.successor ≡ Some f → ⊥
    latest_last e latest y at object f to =
        let k = (chains.linked e.latest y at).followed f to in
        not_below_itself e.latest.task f.version.task k.younger
        (latest f.version (k.version, k.there, k.object ∙ object))

    -- a version of the name of an entry's latest is of its object
    latest_object : (b : ℕ) (e : Entry) → get S.entries b ≡ Some e → (y : Version) → get S.versions e.latest ≡ Some y
        → y.object ≡ e.object
    latest_object b e there y at =
        let q = (h.operand b e there).1 in
        let p = chains.opener e.latest y at in
        sym p.2 ∙ ap (λ p. p.object) (same_Some p.0 q.0 (sym p.1 ∙ q.1)) ∙ q.2

    live_member : (e : Entry) → ((y : Version) → get S.versions e.latest ≡ Some y → (f : Follow)
        → y.successor ≡ Some f → ⊥) → IsMember S e.object e.latest → IsMember T e.object e.latest
    live_member e last (inl k) = inl (version_still e.object e.latest last k)
    live_member e last (inr k) = inr (k.0, ap (λ m. get m e.latest) d.mail.opens ∙ k.1, k.2)

    live_kept : (b : ℕ) (e : Entry) → get S.entries b ≡ Some e → IsLive S e.object e → KeepsLatest S T e
    live_kept b e there l =
        let last : (y : Version) → get S.versions e.latest ≡ Some y → (f : Follow) → y.successor ≡ Some f → ⊥ = λ y at.
        latest_last e (λ w k. l.latest w (inl k)) y at (latest_object b e there y at) in
        record { member = live_member e last l.member; sent = total_kept e.latest last }

    module _ (b : ℕ) (e : Entry) (there : get S.entries b ≡ Some e) (r : IsRetiring ts S e.object e) where
      -- where the latest version may retire it is the only one
      may_last : get S.mail.retires e.latest ≡ Some tt → (y : Version) → get S.versions e.latest ≡ Some y → (f : Follow)
          → y.successor ≡ Some f → ⊥
      may_last may y at =
          let l = r.last y may at in
          latest_last e (λ w k. subst (λ (w : OpName). w.task ≤ e.latest.task) (sym (l.only w k))
          (itself e.latest.task)) y at
          (latest_object b e there y at)
        where
          itself : (a : ℕ) → a ≤ a
          itself a = omega arith

      leaving_still : IsLeaving S e.object e.latest → IsLeaving T e.object e.latest
      leaving_still (inl k) =
          inl (
            ap (λ m. get m e.latest) d.mail.retires ∙ k.0,
            version_still e.object e.latest (may_last k.0) k.1,
          )
      leaving_still (inr k) = inr (going_still e.object e.latest k)

      -- it asks as it did
      asked_still : (y z : Version) → Becomes y z → y.asked ≡ Some e.sent → z.asked ≡ Some e.sent
      asked_still y z k asked = elim (k.asked) [
        | inl same ↦ same ∙ asked
        | inr new ↦ absurd (none-some e.sent (sym new.0 ∙ asked))
      ]

      last_still : (z : Version) → get T.mail.retires e.latest ≡ Some tt → get T.versions e.latest ≡ Some z
          → IsLastVersion T e.object e z
      last_still z may at =
          let f = d.versions.from e.latest z at in
          let l = r.last f.0 (ap (λ m. get m e.latest) (sym d.mail.retires) ∙ may) f.1 in
          record {
            only = λ w k. l.only w (version_back e.object w k);
            asked = asked_still f.0 z f.2 l.asked;
            registered = f.2.registered ∙ l.registered;
            released = f.2.released ∙ l.released;
          }

      retiring_kept : KeepsLeaving S T e
      retiring_kept = record {
        leaving = leaving_still r.leaving;
        last = last_still;
        none = λ k w z. r.none (going_back e.object e.latest k) w (version_back e.object w z);
      }

    -- entries after a settle
    pub entries_settled : HasEntries ts T
    entries_settled = entries_kept ts S T h (record {
      entries = d.entries;
      more = record { members = member_back; opens = open_back; uses = use_back; leaving = leaving_back };
      live = live_kept;
      retiring = λ b e there on r. retiring_kept b e there r;
      decoded = d.decoded;
    })

-- ---- asking and refusing

-- as in a state in which some version may not be settled
pub record AsksSoundly (S : State) : Type 0 where
  pub asked : (v : OpName) (y : Version) (count : ℕ) → get S.versions v ≡ Some y → y.asked ≡ Some count
      → AsksRightly S v y count
  pub refused : (v : OpName) (y : Version) (count : ℕ) → get S.versions v ≡ Some y → y.refused ≡ Some count
      → HasCause S v y count
  pub refusing : (v : OpName) (y : Version) (count : ℕ) → get S.versions v ≡ Some y → y.asked ≡ Some count
      → get S.mail.nacks v ≡ Some tt → HasCause S v y count
  pub nacks : (v : OpName) → get S.mail.nacks v ≡ Some tt → (count : ℕ) × AsksFor S.versions v count

module _ (ts : List Task) (S T : State) (v : OpName) (d : Settled ts S T v) (h : AsksSoundly S) where
  asked_by : (w : OpName) (y z : Version) (count : ℕ) → get S.versions w ≡ Some y → Becomes y z
      → z.asked ≡ Some count → AsksRightly T w z count
  asked_by w y z count at k asks = elim (k.asked) [
    | inl same ↦
        let a = h.asked w y count at (sym same ∙ asks) in
        record {
          produced = k.produced ∙ a.produced;
          oldest = k.oldest a.oldest;
          released = subst (λ n. count ≤ n) (sym k.released) a.released;
        }
    | inr new ↦
        let number = same_Some y.registered count (sym new.1 ∙ asks) in
        record {
          produced = new.2;
          oldest = new.3;
          released = subst (λ n. count ≤ n) (sym k.released) (equal_below count y.registered y.released number new.4);
        }
  ]
    where
      equal_below : (c r l : ℕ) → r ≡ c → l ≡ r → c ≤ l
      equal_below c r l a b = omega (arith, a, b)

  cause_then : (w : OpName) (y z : Version) (count : ℕ) → Becomes y z → HasCause S w y count → HasCause T w z count
  cause_then w y z count k c =
      (c.0, ap (λ (x : Range). get T.entries x.base) k.object ∙ ap (λ m. get m y.object.base) d.entries ∙ c.1, c.2)

  refusing_by : (w : OpName) (y z : Version) (count : ℕ) → get S.versions w ≡ Some y → Becomes y z
      → z.asked ≡ Some count → get S.mail.nacks w ≡ Some tt → HasCause T w z count
  refusing_by w y z count at k asks nack = elim (k.asked) [
    | inl same ↦ cause_then w y z count k (h.refusing w y count at (sym same ∙ asks) nack)
    | inr new ↦
        let a = h.nacks w nack in
        let one = same_Some y a.1.0 (sym at ∙ a.1.1) in
        absurd (none-some a.0 (sym new.0 ∙ ap (λ (y : Version). y.asked) one ∙ a.1.2))
  ]

  -- after a settle
  pub retirement_settled : HasRetirement T
  retirement_settled = record {
    asked = λ w z count at asks. let f = d.versions.from w z at in asked_by w f.0 z count f.1 f.2 asks;
    refused = λ w z count at refused.
        let f = d.versions.from w z at in
        cause_then w f.0 z count f.2 (h.refused w f.0 count f.1 (sym f.2.refused ∙ refused));
    refusing = λ w z count at asks nack.
        let f = d.versions.from w z at in
        refusing_by w f.0 z count f.1 f.2 asks (ap (λ m. get m w) (sym d.mail.nacks) ∙ nack);
    settled = λ w z at. (d.versions.from w z at).3;
  }
