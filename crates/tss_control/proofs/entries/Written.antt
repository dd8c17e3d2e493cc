-- Entries after a version is written over with one of its object, and as many readers are directed to each version.
use Rattle.std.proofs.Common.{◌≡◌, ◌≢◌, ℕ, ◌+◌, inl, inr, true, false, List, Some, sym, ap, ◌∙◌}
use Rattle.std.specs.FinMap.{get, insert}
use Rattle.std.proofs.lemmas.Option.{same_Some}
use Rattle.tss_base.specs.declared.range.Range.{Range}
use Rattle.tss_base.specs.declared.operand.OpName.{OpName}
use Rattle.tss_base.specs.declared.operand.Operand.{Operand}
use Rattle.tss_base.specs.declared.operand.Task.{Task}
use Rattle.tss_maps.proofs.Keys.{name_order, decide_key}
use Rattle.tss_maps.proofs.Changes.{at_inserted, beside_inserted, from_inserted}
use Rattle.tss_protocol.specs.State.{State, Entry, Version}
use Rattle.tss_phases.proofs.Tests.{not_both}
use Rattle.tss_control.specs.Members.{operand_among, IsVersionOf, IsOpenOf, IsMember, registered_of, opening_reader}
use Rattle.tss_control.specs.Members.{uses_of, total}
use Rattle.tss_control.specs.Entries.{IsGoingHome, IsLeaving, IsUsed, IsRetiring, HasEntries}
use Rattle.tss_control.specs.Chains.{HasChains}
use Rattle.tss_control.proofs.rounds.EntriesFrames.{DecodesNoMore, KeepsLeaving, entries_kept}

-- as many readers were directed to each version where as many are registered at the one that is written
pub total_written : (S T : State) (v : OpName) (x y : Version) → get S.versions v ≡ Some x
    → T.versions ≡ insert S.versions v y → y.registered ≡ x.registered → T.mail.opens ≡ S.mail.opens
    → T.mail.uses ≡ S.mail.uses → (w : OpName) → total T w ≡ total S w
total_written S T v x y there versions same opens uses w =
    let registered : registered_of (get T.versions w) ≡ registered_of (get S.versions w) =
    elim (decide_key name_order w v) [
      | inl is ↦
          ap (λ m. registered_of (get m w)) versions
          ∙ ap (λ k. registered_of (get (insert S.versions v y) k)) is
          ∙ ap registered_of (at_inserted name_order S.versions v y)
          ∙ same
          ∙ ap registered_of (sym there)
          ∙ ap (λ k. registered_of (get S.versions k)) (sym is)
      | inr apart ↦
          ap (λ m. registered_of (get m w)) versions
          ∙ ap registered_of (beside_inserted name_order S.versions v y w apart)
    ] in
    λ i. registered i + opening_reader (get (opens i) w) + uses_of (uses i) w

-- what is changed
pub record WritesVersion (ts : List Task) (S T : State) (v : OpName) (x y : Version) : Type 0 where
  pub there : get S.versions v ≡ Some x
  pub versions : T.versions ≡ insert S.versions v y
  pub object : y.object ≡ x.object
  pub copies : T.copies ≡ S.copies
  pub opens : T.mail.opens ≡ S.mail.opens
  pub uses : (o w : OpName) → get T.mail.uses o ≡ Some w → get S.mail.uses o ≡ Some w
  pub retires : T.mail.retires ≡ S.mail.retires
  pub gones : T.mail.gones ≡ S.mail.gones
  pub entries : T.entries ≡ S.entries
  pub totals : (w : OpName) → total T w ≡ total S w
  pub decoded : DecodesNoMore ts S T

module _ (ts : List Task) (S T : State) (chains : HasChains ts S) (h : HasEntries ts S) (v : OpName) (x y : Version)
    (d : WritesVersion ts S T v x y)
    (awake : (e : Entry) → get S.entries x.object.base ≡ Some e → e.object ≡ x.object → e.retiring ≡ false) where
  version_back : (r : Range) (w : OpName) → IsVersionOf T r w → IsVersionOf S r w
  version_back r w k =
      elim (from_inserted name_order S.versions v y w k.0 (ap (λ m. get m w) (sym d.versions) ∙ k.1)) [
        | inl new ↦
            (x, ap (get S.versions) new.0 ∙ d.there, sym d.object ∙ ap (λ (x : Version). x.object) (sym new.1) ∙ k.2)
        | inr old ↦ (k.0, old.1, k.2)
      ]

  version_still : (r : Range) (w : OpName) → IsVersionOf S r w → IsVersionOf T r w
  version_still r w k = elim (decide_key name_order w v) [
    | inl same ↦
        let one = same_Some x k.0 (sym d.there ∙ ap (get S.versions) (sym same) ∙ k.1) in (
          y,
          ap (λ m. get m w) d.versions ∙ ap (get (insert S.versions v y)) same ∙ at_inserted name_order S.versions v y,
          d.object ∙ ap (λ (x : Version). x.object) one ∙ k.2,
        )
    | inr other ↦
        (k.0, ap (λ m. get m w) d.versions ∙ beside_inserted name_order S.versions v y w other ∙ k.1, k.2)
  ]

  open_back : (r : Range) (w : OpName) → IsOpenOf T r w → IsOpenOf S r w
  open_back r w k = (k.0, ap (λ m. get m w) (sym d.opens) ∙ k.1, k.2)

  member_back : (r : Range) (w : OpName) → IsMember T r w → IsMember S r w
  member_back r w (inl k) = inl (version_back r w k)
  member_back r w (inr k) = inr (open_back r w k)

  member_still : (r : Range) (w : OpName) → IsMember S r w → IsMember T r w
  member_still r w (inl k) = inl (version_still r w k)
  member_still r w (inr k) = inr (k.0, ap (λ m. get m w) d.opens ∙ k.1, k.2)

  use_back : (r : Range) → IsUsed ts T r → IsUsed ts S r
  use_back r u = (u.0, u.1, u.2, d.uses u.0 u.1 u.3, u.4, u.5)

  going_back : (r : Range) (w : OpName) → IsGoingHome T r w → IsGoingHome S r w
  going_back r w (inl k) = inl (k.0, k.1, ap (λ m. get m k.0) (sym d.copies) ∙ k.2, k.3, k.4)
  going_back r w (inr k) = inr (k.0, ap (λ m. get m w) (sym d.gones) ∙ k.1, k.2, k.3)

  leaving_back : (r : Range) (w : OpName) → IsLeaving T r w → IsLeaving S r w
  leaving_back r w (inl k) = inl (ap (λ m. get m w) (sym d.retires) ∙ k.0, version_back r w k.1)
  leaving_back r w (inr k) = inr (going_back r w k)

  leaving_still : (r : Range) (w : OpName) → IsLeaving S r w → IsLeaving T r w
  leaving_still r w (inl k) = inl (ap (λ m. get m w) d.retires ∙ k.0, version_still r w k.1)
  leaving_still r w (inr (inl k)) = inr (inl (k.0, k.1, ap (λ m. get m k.0) d.copies ∙ k.2, k.3, k.4))
  leaving_still r w (inr (inr k)) = inr (inr (k.0, ap (λ m. get m w) d.gones ∙ k.1, k.2, k.3))

  -- v isn't the latest version of an entry that retires
  retiring_apart : (b : ℕ) (e : Entry) → get S.entries b ≡ Some e → e.retiring ≡ true → e.latest ≢ v
  retiring_apart b e at on same =
      let q = h.operand b e at in
      let p = chains.opener v x d.there in
      let one = same_Some q.1.0 p.0 (sym q.1.1 ∙ ap (operand_among ts) same ∙ p.1) in
      let object = sym q.1.2 ∙ ap (λ (p : Operand). p.object) one ∙ p.2 in
      not_both e.retiring on
      (awake e (ap (get S.entries) (ap (λ (r : Range). r.base) (sym object) ∙ q.0) ∙ at) object)

  retiring_kept : (b : ℕ) (e : Entry) → get S.entries b ≡ Some e → e.retiring ≡ true → IsRetiring ts S e.object e
      → KeepsLeaving S T e
  retiring_kept b e at on r =
      let apart = retiring_apart b e at on in
      record {
        leaving = leaving_still e.object e.latest r.leaving;
        last = λ z may there.
            let l = r.last z (ap (λ m. get m e.latest) (sym d.retires) ∙ may)
            (sym (beside_inserted name_order S.versions v y e.latest apart)
            ∙ ap (λ m. get m e.latest) (sym d.versions) ∙ there) in
            record {
              only = λ w k. l.only w (version_back e.object w k);
              asked = l.asked;
              registered = l.registered;
              released = l.released;
            };
        none = λ k w z. r.none (going_back e.object e.latest k) w (version_back e.object w z);
      }

  -- entries after it
  pub entries_written : HasEntries ts T
  entries_written = entries_kept ts S T h (record {
    entries = d.entries;
    more = record { members = member_back; opens = open_back; uses = use_back; leaving = leaving_back };
    live = λ b e at l.
        record { member = member_still e.object e.latest l.member; sent = d.totals e.latest };
    retiring = retiring_kept;
    decoded = d.decoded;
  })
