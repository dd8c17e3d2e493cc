-- Entries after a version was told that it may retire: its object's entry retires.
use Rattle.std.proofs.Common.{◌≡◌, ◌≢◌, ℕ, ◌+◌, ◌≤◌, ◌⊎◌, inl, inr, true, List, Some, None, refl, sym, ap, ◌∙◌, subst}
use Rattle.std.proofs.Common.{arith}
use Rattle.std.specs.FinMap.{get, insert}
use Rattle.std.proofs.lemmas.Option.{none-some, same_Some}
use Rattle.tss_base.specs.declared.range.Range.{Range}
use Rattle.tss_base.specs.declared.operand.OpName.{OpName}
use Rattle.tss_base.specs.declared.operand.Operand.{Operand}
use Rattle.tss_base.specs.declared.operand.Task.{Task}
use Rattle.tss_base.specs.declared.machine.Machine.{Machine}
use Rattle.tss_maps.proofs.Keys.{nat_order, name_order}
use Rattle.tss_maps.proofs.Changes.{at_inserted, beside_inserted, from_inserted}
use Rattle.tss_maps.proofs.Sums.{counted}
use Rattle.tss_protocol.specs.Names.{same_name}
use Rattle.tss_protocol.specs.State.{State, Entry, Version}
use Rattle.tss_phases.proofs.Received.{own_name}
use Rattle.tss_phases.proofs.Tests.{not_both}
use Rattle.tss_control.proofs.rounds.EntryOf.{entry_of_new, entry_of_still}
use Rattle.tss_control.specs.Members.{operand_among, IsWriterOn, IsVersionOf, IsOpenOf, IsMember, registered_of}
use Rattle.tss_control.specs.Members.{opening_reader, uses_of, total}
use Rattle.tss_control.specs.Entries.{HasEntryOf, IsGoingHome, IsLeaving, IsUsed, IsAbsent, IsLive, IsLastVersion}
use Rattle.tss_control.specs.Entries.{IsRetiring, HasEntries}
use Rattle.tss_control.proofs.rounds.EntriesFrames.{DecodesNoMore}
use Rattle.tss_control.proofs.entries.OfVersions.{entry_awake_of, released_within, registered_within}
use Rattle.tss_control.proofs.rounds.Facts.{Facts}

-- what such an answer leaves
pub record Grants (ts : List Task) (S T : State) (v : OpName) (e : Entry) : Type 0 where
  pub versions : T.versions ≡ S.versions
  pub copies : T.copies ≡ S.copies
  pub opens : T.mail.opens ≡ S.mail.opens
  pub uses : T.mail.uses ≡ S.mail.uses
  pub retires : T.mail.retires ≡ insert S.mail.retires v tt
  pub gones : T.mail.gones ≡ S.mail.gones
  pub entries : T.entries ≡ insert S.entries e.object.base (record e { retiring = true })
  pub decoded : DecodesNoMore ts S T

module _ (m : Machine) (S : State) (facts : Facts m S) (v : OpName) (x : Version)
    (at : get S.versions v ≡ Some x) (quiet : get S.mail.retires v ≡ None) (f : HasEntryOf S x.object)
    (latest : f.entry.latest ≡ v) (asked : x.asked ≡ Some f.entry.sent) where
  open facts use {all, ts, control as h}

  -- the entry
  abbrev e : Entry
  e = f.entry

  entry_at : get S.entries e.object.base ≡ Some e
  entry_at = ap (λ (x : Range). get S.entries x.base) f.object ∙ f.there

  live : IsLive S e.object e
  live = h.entries.live e.object.base e entry_at (entry_awake_of m S facts v x at f quiet)

  -- ---- v is the only version, with all its readers back

  asks : (e.sent ≤ x.released) × (x.predecessor ≡ None)
  asks = let a = h.retirement.asked v x e.sent at asked in (a.released, a.oldest)

  sent_total : e.sent ≡ total S v
  sent_total = live.sent ∙ ap (total S) latest

  counts : (x.registered ≡ e.sent) × (x.released ≡ e.sent)
  counts =
      let a = asks.0 in
      let b = released_within m S facts v x at in
      let c = registered_within m S facts v x at in
      let d = sent_total in
      (omega (arith, a, b, c, d), omega (arith, a, b, c, d))

  no_use : uses_of S.mail.uses v ≡ 0
  no_use =
      let t = ap (λ o. registered_of o + opening_reader (get S.mail.opens v) + uses_of S.mail.uses v) at in
      nothing (total S v) x.registered (opening_reader (get S.mail.opens v)) (uses_of S.mail.uses v) t
      (counts.0 ∙ sent_total)
    where
      nothing : (n a b c : ℕ) → n ≡ a + b + c → a ≡ n → c ≡ 0
      nothing n a b c t s = omega (arith, t, s)

  -- v is of the entry's object
  here : IsVersionOf S e.object v
  here = (x, at, sym f.object)

  version_only : (w : OpName) → IsVersionOf S e.object w → w ≡ v
  version_only w k =
      let old = (h.chains.linked v x at).oldest asks.1 w (k.0, k.1, k.2 ∙ f.object) in
      let young = subst (λ l. w.task ≤ l.task) latest (live.latest w (inl k)) in
      h.chains.one e.object w v (inl k) (inl here) (omega (arith, old, young))

  no_open : (w : OpName) → IsOpenOf S e.object w → ⊥
  no_open w k =
      let behind = (h.chains.opens w k.0 k.1).behind v (x, at, sym f.object ∙ sym k.2) in
      let young = subst (λ l. w.task ≤ l.task) latest (live.latest w (inr k)) in
      omega (arith, behind, young)

  unused : IsUsed ts S e.object → ⊥
  unused u =
      let k = h.chains.uses u.0 u.1 u.3 in
      let p = same_Some k.operand u.2 (sym k.there ∙ u.4) in
      let member = subst (λ y. IsMember S y u.1) (ap (λ (p : Operand). p.object) p ∙ u.5) k.member in
      directed u.0 u.1 u.3 member
    where
      to_v : (o w : OpName) → get S.mail.uses o ≡ Some w → w ≡ v → ⊥
      to_v o w there is =
          let one = counted name_order (λ q w. same_name w v) S.mail.uses o w there
          (ap (λ w. same_name w v) is ∙ own_name v) in
          let none = no_use in
          omega (arith, one, none)

      directed : (o w : OpName) → get S.mail.uses o ≡ Some w → IsMember S e.object w → ⊥
      directed o w there (inl k) = to_v o w there (version_only w k)
      directed o w there (inr k) = no_open w k

  -- ---- after the answer

  module _ (T : State) (d : Grants ts S T v e) where
    version_back : (y : Range) (w : OpName) → IsVersionOf T y w → IsVersionOf S y w
    version_back y w k = (k.0, ap (λ m. get m w) (sym d.versions) ∙ k.1, k.2)

    version_still : (y : Range) (w : OpName) → IsVersionOf S y w → IsVersionOf T y w
    version_still y w k = (k.0, ap (λ m. get m w) d.versions ∙ k.1, k.2)

    open_back : (y : Range) (w : OpName) → IsOpenOf T y w → IsOpenOf S y w
    open_back y w k = (k.0, ap (λ m. get m w) (sym d.opens) ∙ k.1, k.2)

    member_back : (y : Range) (w : OpName) → IsMember T y w → IsMember S y w
    member_back y w (inl k) = inl (version_back y w k)
    member_back y w (inr k) = inr (open_back y w k)

    member_still : (y : Range) (w : OpName) → IsMember S y w → IsMember T y w
    member_still y w (inl k) = inl (version_still y w k)
    member_still y w (inr k) = inr (k.0, ap (λ m. get m w) d.opens ∙ k.1, k.2)

    use_back : (y : Range) → IsUsed ts T y → IsUsed ts S y
    use_back y u = (u.0, u.1, u.2, ap (λ m. get m u.0) (sym d.uses) ∙ u.3, u.4, u.5)

    going_back : (y : Range) (w : OpName) → IsGoingHome T y w → IsGoingHome S y w
    going_back y w (inl k) = inl (k.0, k.1, ap (λ m. get m k.0) (sym d.copies) ∙ k.2, k.3, k.4)
    going_back y w (inr k) = inr (k.0, ap (λ m. get m w) (sym d.gones) ∙ k.1, k.2, k.3)

    going_still : (y : Range) (w : OpName) → IsGoingHome S y w → IsGoingHome T y w
    going_still y w (inl k) = inl (k.0, k.1, ap (λ m. get m k.0) d.copies ∙ k.2, k.3, k.4)
    going_still y w (inr k) = inr (k.0, ap (λ m. get m w) d.gones ∙ k.1, k.2, k.3)

    -- what leaves then left before, or is v
    leaving_back : (y : Range) (w : OpName) → IsLeaving T y w → ((w ≡ v) × (y ≡ e.object)) ⊎ IsLeaving S y w
    leaving_back y w (inr k) = inr (inr (going_back y w k))
    leaving_back y w (inl k) =
        elim (from_inserted name_order S.mail.retires v tt w tt (ap (λ m. get m w) (sym d.retires) ∙ k.0)) [
          | inl new ↦
              let one = same_Some x k.1.0 (sym at ∙ ap (get S.versions) (sym new.0)
              ∙ ap (λ m. get m w) (sym d.versions) ∙ k.1.1) in
              inl (new.0, sym k.1.2 ∙ ap (λ (x : Version). x.object) (sym one) ∙ sym f.object)
          | inr old ↦ inr (inl (old.1, version_back y w k.1))
        ]

    leaving_back_other : (y : Range) (w : OpName) → y ≢ e.object → IsLeaving T y w → IsLeaving S y w
    leaving_back_other y w apart k = elim (leaving_back y w k) [
      | inl new ↦ absurd (apart new.1)
      | inr old ↦ old
    ]

    retires_still : (w : OpName) → get S.mail.retires w ≡ Some tt → get T.mail.retires w ≡ Some tt
    retires_still w k =
        let apart : w ≢ v = λ same. none-some tt (sym quiet ∙ ap (get S.mail.retires) (sym same) ∙ k) in
        ap (λ m. get m w) d.retires ∙ beside_inserted name_order S.mail.retires v tt w apart ∙ k

    leaving_still : (y : Range) (w : OpName) → IsLeaving S y w → IsLeaving T y w
    leaving_still y w (inl k) = inl (retires_still w k.0, version_still y w k.1)
    leaving_still y w (inr k) = inr (going_still y w k)

    -- ---- the entry

    abbrev n : Entry
    n = record e { retiring = true }

    last_version : (y : Version) → get T.versions n.latest ≡ Some y → IsLastVersion T n.object n y
    last_version y there =
        let one = same_Some x y (sym at ∙ ap (get S.versions) (sym latest)
        ∙ ap (λ m. get m n.latest) (sym d.versions) ∙ there) in
        record {
          only = λ w k. version_only w (version_back e.object w k) ∙ sym latest;
          asked = ap (λ (x : Version). x.asked) (sym one) ∙ asked;
          registered = ap (λ (x : Version). x.registered) (sym one) ∙ counts.0;
          released = ap (λ (x : Version). x.released) (sym one) ∙ counts.1;
        }

    retiring_new : IsRetiring ts T n.object n
    retiring_new = record {
      no_open = λ w k. no_open w (open_back e.object w k);
      unused = λ u. unused (use_back e.object u);
      leaving = inl (
        ap (get T.mail.retires) latest ∙ ap (λ m. get m v) d.retires ∙ at_inserted name_order S.mail.retires v tt,
        subst (IsVersionOf T e.object) (sym latest) (version_still e.object v here),
      );
      only = λ w k. elim (leaving_back e.object w k) [
        | inl new ↦ new.0 ∙ sym latest
        | inr old ↦ absurd (live.stays w old)
      ];
      last = λ y may there. last_version y there;
      none = λ k w y. absurd (live.stays e.latest (inr (going_back e.object e.latest k)));
    }

    total_same : (w : OpName) → total T w ≡ total S w
    total_same w = λ i. total (record S {
      versions = d.versions i;
      mail = record S.mail { opens = d.opens i; uses = d.uses i };
    }) w

    -- ---- all entries

    absent_after : (y : Range) → y ≢ e.object → IsAbsent ts S y → IsAbsent ts T y
    absent_after y apart a = record {
      members = λ w k. a.members w (member_back y w k);
      unused = λ u. a.unused (use_back y u);
      stays = λ w k. a.stays w (leaving_back_other y w apart k);
    }

    live_other : (c : Entry) → c.object ≢ e.object → IsLive S c.object c → IsLive T c.object c
    live_other c apart l = record {
      member = member_still c.object c.latest l.member;
      latest = λ w k. l.latest w (member_back c.object w k);
      sent = l.sent ∙ sym (total_same c.latest);
      stays = λ w k. l.stays w (leaving_back_other c.object w apart k);
    }

    retiring_other : (c : Entry) → c.object ≢ e.object → c.latest ≢ v → IsRetiring ts S c.object c
        → IsRetiring ts T c.object c
    retiring_other c apart name r = record {
      no_open = λ w k. r.no_open w (open_back c.object w k);
      unused = λ u. r.unused (use_back c.object u);
      leaving = leaving_still c.object c.latest r.leaving;
      only = λ w k. r.only w (leaving_back_other c.object w apart k);
      last = λ y may there.
          let l = r.last y (sym (beside_inserted name_order S.mail.retires v tt c.latest name)
          ∙ ap (λ m. get m c.latest) (sym d.retires) ∙ may) (ap (λ m. get m c.latest) (sym d.versions) ∙ there) in
          record {
            only = λ w k. l.only w (version_back c.object w k);
            asked = l.asked;
            registered = l.registered;
            released = l.released;
          };
      none = λ k w y. r.none (going_back c.object c.latest k) w (version_back c.object w y);
    }

    -- an entry at another base is of another object, with another latest version
    other_object : (b : ℕ) (c : Entry) → get S.entries b ≡ Some c → b ≢ e.object.base → c.object ≢ e.object
    other_object b c there apart same =
        apart (sym (h.entries.operand b c there).0 ∙ ap (λ (x : Range). x.base) same)

    other_latest : (b : ℕ) (c : Entry) → get S.entries b ≡ Some c → c.object ≢ e.object → c.latest ≢ v
    other_latest b c there apart same =
        let q = (h.entries.operand b c there).1 in
        let p = h.chains.opener v x at in
        let one = same_Some q.0 p.0 (sym q.1 ∙ ap (operand_among ts) same ∙ p.1) in
        apart (sym q.2 ∙ ap (λ (p : Operand). p.object) one ∙ p.2 ∙ sym f.object)

    from_entries : (b : ℕ) (c : Entry) → get T.entries b ≡ Some c
        → ((b ≡ e.object.base) × (c ≡ n)) ⊎ ((b ≢ e.object.base) × (get S.entries b ≡ Some c))
    from_entries b c there =
        from_inserted nat_order S.entries e.object.base n b c (ap (λ m. get m b) (sym d.entries) ∙ there)

    -- entries after the answer
    pub entries_granted : HasEntries ts T
    entries_granted = record {
      absent = λ q r among none.
          let base : n.object.base ≡ e.object.base = refl in
          absent_after r.object
          (λ same. none (subst (HasEntryOf T) (sym same) (entry_of_new S T e.object.base n d.entries base)))
          (h.entries.absent q r among (λ f. none (entry_of_still S T e.object.base n d.entries base
          (λ c at. ap (λ (c : Entry). c.object) (same_Some c e (sym at ∙ entry_at))) r.object f)));
      operand = λ b c there. elim (from_entries b c there) [
        | inl new ↦
            subst (λ c. (c.object.base ≡ b)
            × ((r : Operand) × (operand_among ts c.latest ≡ Some r) × (r.object ≡ c.object))) (sym new.1)
            (sym new.0, (h.entries.operand e.object.base e entry_at).1)
        | inr old ↦ h.entries.operand b c old.1
      ];
      live = λ b c there awake. elim (from_entries b c there) [
        | inl new ↦
            absurd (not_both true refl (sym (ap (λ (c : Entry). c.retiring) new.1) ∙ awake))
        | inr old ↦ live_other c (other_object b c old.1 old.0) (h.entries.live b c old.1 awake)
      ];
      retiring = λ b c there on. elim (from_entries b c there) [
        | inl new ↦ subst (λ (c : Entry). IsRetiring ts T c.object c) (sym new.1) retiring_new
        | inr old ↦
            let apart = other_object b c old.1 old.0 in
            retiring_other c apart (other_latest b c old.1 apart) (h.entries.retiring b c old.1 on)
      ];
      decoded = λ b c q there w k. elim (from_entries b c there) [
        | inl new ↦
            subst (λ (l : OpName). q.task ≤ l.task) (sym (ap (λ (c : Entry). c.latest) new.1))
            (h.entries.decoded e.object.base e q entry_at
            (subst (λ y. IsWriterOn ts y q) (ap (λ (c : Entry). c.object) new.1) w) (d.decoded q w.operand w.there k))
        | inr old ↦ h.entries.decoded b c q old.1 w (d.decoded q w.operand w.there k)
      ];
    }
