-- Entries after a decode that sends a use: one more reader is directed to the latest version of its object.
use Rattle.std.proofs.Common.{◌≡◌, ◌≢◌, ℕ, suc, ◌+◌, ◌≤◌, ◌⊎◌, inl, inr, true, false, Some, sym, ap, ◌∙◌, subst, arith}
use Rattle.std.specs.FinMap.{get, insert}
use Rattle.std.proofs.lemmas.Option.{same_Some}
use Rattle.tss_base.specs.declared.range.Range.{Range}
use Rattle.tss_base.specs.declared.operand.OpName.{OpName}
use Rattle.tss_base.specs.declared.operand.Mode.TheVariants.{Input}
use Rattle.tss_base.specs.declared.operand.Operand.{Operand}
use Rattle.tss_base.specs.declared.machine.Machine.{Machine}
use Rattle.tss_maps.specs.Sums.{one_if}
use Rattle.tss_maps.proofs.Keys.{nat_order, name_order}
use Rattle.tss_maps.proofs.Changes.{from_inserted}
use Rattle.tss_maps.proofs.Sums.{sum_added}
use Rattle.tss_model.specs.Access.{writes}
use Rattle.tss_protocol.specs.Names.{same_name}
use Rattle.tss_protocol.specs.State.{State, Entry}
use Rattle.tss_phases.specs.Phase.{phase_of, is_decoded}
use Rattle.tss_phases.specs.Orderly.{AreOrderly}
use Rattle.tss_phases.proofs.Received.{own_name, other_name}
use Rattle.tss_phases.proofs.Tests.{not_both}
use Rattle.tss_control.proofs.rounds.EntryOf.{entry_of_new, entry_of_still}
use Rattle.tss_control.specs.Members.{operand_among, IsWriterOn, IsOpenOf, IsMember, registered_of, opening_reader}
use Rattle.tss_control.specs.Members.{uses_of, total}
use Rattle.tss_control.specs.Entries.{HasEntryOf, IsUsed, IsAbsent, IsLive, IsRetiring, HasEntries}
use Rattle.tss_control.proofs.rounds.EntriesLeaving.{SameLeaving, leaving_turned, version_back, going_back}
use Rattle.tss_control.proofs.rounds.EntriesLeaving.{leaving_back, last_version_still}
use Rattle.tss_control.proofs.rounds.EntriesNames.{decode_among, no_use, object_of_entry}
use Rattle.tss_control.proofs.rounds.Facts.{Basis}

-- what a decode that sends a use leaves, by the entry
pub record DecodesUse (S T : State) (o : OpName) (p : Operand) (n : Entry) : Type 0 where
  pub leaving : SameLeaving S T
  pub opens : T.mail.opens ≡ S.mail.opens
  pub uses : T.mail.uses ≡ insert S.mail.uses o n.latest
  pub entries : T.entries ≡ insert S.entries p.object.base (record n { sent = suc n.sent })
  pub there : get S.entries p.object.base ≡ Some n
  pub live : n.retiring ≡ false
  pub mode : p.mode ≡ Input
  pub decoded : (q : OpName) → q ≢ o → is_decoded (phase_of T q) ≡ true → is_decoded (phase_of S q) ≡ true

module _ (m : Machine) (S : State) (basis : Basis m S) (orderly : AreOrderly S) (h : HasEntries basis.ts S)
    (o : OpName) (p : Operand) (there : get S.mail.decodes o ≡ Some p) (T : State) (n : Entry)
    (d : DecodesUse S T o p n) where
  open basis use {all, ts}

  among : operand_among ts o ≡ Some p
  among = decode_among m S basis orderly o p there

  -- what leaves, the other way round
  back : SameLeaving T S
  back = leaving_turned S T d.leaving

  open_back : (x : Range) (v : OpName) → IsOpenOf T x v → IsOpenOf S x v
  open_back x v e = (e.0, ap (λ m. get m v) (sym d.opens) ∙ e.1, e.2)

  member_back : (x : Range) (v : OpName) → IsMember T x v → IsMember S x v
  member_back x v (inl y) = inl (version_back S T d.leaving x v y)
  member_back x v (inr e) = inr (open_back x v e)

  member_still : (x : Range) (v : OpName) → IsMember S x v → IsMember T x v
  member_still x v (inl y) = inl (version_back T S back x v y)
  member_still x v (inr e) = inr (e.0, ap (λ m. get m v) d.opens ∙ e.1, e.2)

  use_back : (x : Range) → p.object ≢ x → IsUsed ts T x → IsUsed ts S x
  use_back x apart u =
      elim (from_inserted name_order S.mail.uses o n.latest u.0 u.1 (ap (λ m. get m u.0) (sym d.uses) ∙ u.3)) [
        | inl new ↦
            absurd (apart (ap (λ (p : Operand). p.object)
            (same_Some p u.2 (sym among ∙ ap (operand_among ts) (sym new.0) ∙ u.4)) ∙ u.5))
        | inr old ↦ (u.0, u.1, u.2, old.1, u.4, u.5)
      ]

  -- ---- how many readers

  uses_after : (v : OpName) → uses_of T.mail.uses v ≡ uses_of S.mail.uses v + one_if (same_name n.latest v)
  uses_after v =
      ap (λ m. uses_of m v) d.uses
      ∙ sum_added name_order (λ q w. one_if (same_name w v)) S.mail.uses o n.latest
      (no_use m S basis orderly o p there)

  total_latest : total T n.latest ≡ suc (total S n.latest)
  total_latest =
      (λ i. registered_of (get (d.leaving.versions i) n.latest) + opening_reader (get (d.opens i) n.latest)
      + uses_after n.latest i)
      ∙ (λ i. registered_of (get S.versions n.latest) + opening_reader (get S.mail.opens n.latest)
      + (uses_of S.mail.uses n.latest + one_if (own_name n.latest i)))
      ∙ one_more (registered_of (get S.versions n.latest)) (opening_reader (get S.mail.opens n.latest))
      (uses_of S.mail.uses n.latest)
    where
      one_more : (a b c : ℕ) → a + b + (c + 1) ≡ suc (a + b + c)
      one_more a b c = omega arith

  total_other : (v : OpName) → n.latest ≢ v → total T v ≡ total S v
  total_other v apart =
      (λ i. registered_of (get (d.leaving.versions i) v) + opening_reader (get (d.opens i) v) + uses_after v i)
      ∙ (λ i. registered_of (get S.versions v) + opening_reader (get S.mail.opens v)
      + (uses_of S.mail.uses v + one_if (other_name n.latest v apart i)))
      ∙ no_more (registered_of (get S.versions v)) (opening_reader (get S.mail.opens v)) (uses_of S.mail.uses v)
    where
      no_more : (a b c : ℕ) → a + b + (c + 0) ≡ a + b + c
      no_more a b c = omega arith

  -- ---- entries of other objects

  other_object : (b : ℕ) (e : Entry) → get S.entries b ≡ Some e → b ≢ p.object.base → p.object ≢ e.object
  other_object b e at apart same =
      apart (sym (h.operand b e at).0 ∙ ap (λ (x : Range). x.base) (sym same))

  -- with another latest version
  other_latest : (b : ℕ) (e : Entry) → get S.entries b ≡ Some e → b ≢ p.object.base → n.latest ≢ e.latest
  other_latest b e at apart same =
      let q = h.operand b e at in
      let r = h.operand p.object.base n d.there in
      let one = same_Some r.1.0 q.1.0 (sym r.1.1 ∙ ap (operand_among ts) same ∙ q.1.1) in
      apart (sym q.0 ∙ ap (λ (x : Range). x.base) (sym q.1.2 ∙ ap (λ (p : Operand). p.object) (sym one) ∙ r.1.2) ∙ r.0)

  absent_after : (x : Range) → p.object ≢ x → IsAbsent ts S x → IsAbsent ts T x
  absent_after x apart a = record {
    members = λ v e. a.members v (member_back x v e);
    unused = λ u. a.unused (use_back x apart u);
    stays = λ v l. a.stays v (leaving_back S T d.leaving x v l);
  }

  live_other : (e : Entry) → n.latest ≢ e.latest → IsLive S e.object e → IsLive T e.object e
  live_other e apart l = record {
    member = member_still e.object e.latest l.member;
    latest = λ v k. l.latest v (member_back e.object v k);
    sent = l.sent ∙ sym (total_other e.latest apart);
    stays = λ v k. l.stays v (leaving_back S T d.leaving e.object v k);
  }

  retiring_other : (e : Entry) → p.object ≢ e.object → IsRetiring ts S e.object e → IsRetiring ts T e.object e
  retiring_other e apart r = record {
    no_open = λ v k. r.no_open v (open_back e.object v k);
    unused = λ u. r.unused (use_back e.object apart u);
    leaving = leaving_back T S back e.object e.latest r.leaving;
    only = λ v k. r.only v (leaving_back S T d.leaving e.object v k);
    last = λ y retires version.
        last_version_still S T d.leaving e.object e y
        (r.last y (ap (λ m. get m e.latest) (sym d.leaving.retires) ∙ retires)
        (ap (λ m. get m e.latest) (sym d.leaving.versions) ∙ version));
    none = λ g v k. r.none (going_back S T d.leaving e.object e.latest g) v (version_back S T d.leaving e.object v k);
  }

  -- ---- the entry of the object

  abbrev more_sent : Entry
  more_sent = record n { sent = suc n.sent }

  live_new : IsLive T n.object more_sent
  live_new =
      let l = h.live p.object.base n d.there d.live in
      record {
        member = member_still n.object n.latest l.member;
        latest = λ v k. l.latest v (member_back n.object v k);
        sent = ap suc l.sent ∙ sym total_latest;
        stays = λ v k. l.stays v (leaving_back S T d.leaving n.object v k);
      }

  -- ---- all entries

  from_entries : (b : ℕ) (e : Entry) → get T.entries b ≡ Some e
      → ((b ≡ p.object.base) × (e ≡ more_sent)) ⊎ ((b ≢ p.object.base) × (get S.entries b ≡ Some e))
  from_entries b e at =
      from_inserted nat_order S.entries p.object.base more_sent b e (ap (λ m. get m b) (sym d.entries) ∙ at)

  -- the decoded operand isn't a writer
  writer_apart : (x : Range) (q : OpName) → IsWriterOn ts x q → q ≢ o
  writer_apart x q w same =
      let one = same_Some p w.operand (sym among ∙ ap (operand_among ts) (sym same) ∙ w.there) in
      not_both (writes w.operand.mode) w.writer
      (ap (λ (p : Operand). writes p.mode) (sym one) ∙ ap writes d.mode)

  -- entries after such a decode
  pub entries_used : HasEntries ts T
  entries_used = record {
    absent = λ q r at none.
        let base : more_sent.object.base ≡ p.object.base = (h.operand p.object.base n d.there).0 in
        let own = object_of_entry m S basis orderly h o p there n d.there in
        absent_after r.object
        (λ same. none (subst (HasEntryOf T) (own ∙ same) (entry_of_new S T p.object.base more_sent d.entries base)))
        (h.absent q r at (λ f. none (entry_of_still S T p.object.base more_sent d.entries base
        (λ e at. ap (λ (e : Entry). e.object) (same_Some e n (sym at ∙ d.there))) r.object f)));
    operand = λ b e at. elim (from_entries b e at) [
      | inl new ↦
          subst (λ e. (e.object.base ≡ b)
          × ((r : Operand) × (operand_among ts e.latest ≡ Some r) × (r.object ≡ e.object)))
          (sym new.1)
          (let q = h.operand p.object.base n d.there in (q.0 ∙ sym new.0, q.1))
      | inr old ↦ h.operand b e old.1
    ];
    live = λ b e at awakes. elim (from_entries b e at) [
      | inl new ↦ subst (λ (e : Entry). IsLive T e.object e) (sym new.1) live_new
      | inr old ↦ live_other e (other_latest b e old.1 old.0) (h.live b e old.1 awakes)
    ];
    retiring = λ b e at on. elim (from_entries b e at) [
      | inl new ↦ absurd (not_both n.retiring (ap (λ (e : Entry). e.retiring) (sym new.1) ∙ on) d.live)
      | inr old ↦ retiring_other e (other_object b e old.1 old.0) (h.retiring b e old.1 on)
    ];
    decoded = λ b e q at w k. elim (from_entries b e at) [
      | inl new ↦
          subst (λ (l : OpName). q.task ≤ l.task) (sym (ap (λ (e : Entry). e.latest) new.1))
          (h.decoded p.object.base n q d.there (subst (λ x. IsWriterOn ts x q) (ap (λ (e : Entry). e.object) new.1) w)
          (d.decoded q (writer_apart e.object q w) k))
      | inr old ↦ h.decoded b e q old.1 w (d.decoded q (writer_apart e.object q w) k)
    ];
  }
