-- Entries after a decode that sends an open: the new version is the latest of its object, with its first readers.
use Rattle.std.proofs.Common.{◌≡◌, ◌≢◌, ℕ, ◌+◌, ◌≤◌, ◌⊎◌, inl, inr, true, false, Option, Some, None, refl, sym, ap, ◌∙◌}
use Rattle.std.proofs.Common.{subst, arith}
use Rattle.std.specs.FinMap.{get, insert}
use Rattle.std.proofs.lemmas.Option.{none-some, same_Some}
use Rattle.tss_base.specs.declared.range.Range.{Range}
use Rattle.tss_base.specs.declared.operand.OpName.{OpName}
use Rattle.tss_base.specs.declared.operand.Operand.{Operand}
use Rattle.tss_base.specs.declared.machine.Machine.{Machine}
use Rattle.tss_maps.proofs.Keys.{nat_order, name_order, decide_key}
use Rattle.tss_maps.proofs.Changes.{at_inserted, beside_inserted, from_inserted}
use Rattle.tss_maps.proofs.Sums.{count_none}
use Rattle.tss_protocol.specs.Names.{same_name}
use Rattle.tss_protocol.specs.Mail.{OpenContents}
use Rattle.tss_protocol.specs.State.{State, Entry}
use Rattle.tss_phases.specs.Phase.{phase_of, is_decoded}
use Rattle.tss_phases.specs.Orderly.{AreOrderly}
use Rattle.tss_phases.proofs.Received.{other_name}
use Rattle.tss_phases.proofs.Tests.{not_both}
use Rattle.tss_control.proofs.rounds.EntryOf.{no_entry_at, entry_of_new, entry_of_still}
use Rattle.tss_control.specs.Members.{operand_among, IsWriterOn, IsOpenOf, IsMember, registered_of, first_reader}
use Rattle.tss_control.specs.Members.{opening_reader, uses_of, total}
use Rattle.tss_control.specs.Entries.{HasEntryOf, IsLeaving, IsUsed, IsAbsent, IsLive, IsRetiring, HasEntries}
use Rattle.tss_control.specs.Chains.{HasChains}
use Rattle.tss_control.proofs.rounds.EntriesLeaving.{SameLeaving, leaving_turned, version_back, going_back}
use Rattle.tss_control.proofs.rounds.EntriesLeaving.{leaving_back, last_version_still}
use Rattle.tss_control.proofs.rounds.EntriesNames.{object_of_entry, decode_among, none_later, member_operand}
use Rattle.tss_control.proofs.rounds.EntriesNames.{no_version, no_open, no_use_of, no_latest}
use Rattle.tss_control.proofs.rounds.Facts.{Basis}

-- what a decode that sends an open leaves
pub record DecodesOpen (S T : State) (o : OpName) (p : Operand) (c : OpenContents) (n : Entry) : Type 0 where
  pub leaving : SameLeaving S T
  pub opens : T.mail.opens ≡ insert S.mail.opens o c
  pub uses : T.mail.uses ≡ S.mail.uses
  pub entries : T.entries ≡ insert S.entries p.object.base n
  pub operand : c.operand ≡ p
  pub object : n.object ≡ p.object
  pub latest : n.latest ≡ o
  pub sent : n.sent ≡ first_reader c.operand.mode c.follows
  pub live : n.retiring ≡ false
  pub decoded : (q : OpName) → q ≢ o → is_decoded (phase_of T q) ≡ true → is_decoded (phase_of S q) ≡ true

module _ (m : Machine) (S : State) (basis : Basis m S) (orderly : AreOrderly S) (chains : HasChains basis.ts S)
    (h : HasEntries basis.ts S) (o : OpName) (p : Operand) (there : get S.mail.decodes o ≡ Some p) (T : State)
    (c : OpenContents) (n : Entry) (d : DecodesOpen S T o p c n) where
  open basis use {all, ts}

  among : operand_among ts o ≡ Some p
  among = decode_among m S basis orderly o p there

  c_object : c.operand.object ≡ p.object
  c_object = ap (λ (p : Operand). p.object) d.operand

  -- ---- what another object has

  -- what leaves, the other way round
  back : SameLeaving T S
  back = leaving_turned S T d.leaving

  open_back : (x : Range) (v : OpName) → p.object ≢ x → IsOpenOf T x v → IsOpenOf S x v
  open_back x v apart e =
      elim (from_inserted name_order S.mail.opens o c v e.0 (ap (λ m. get m v) (sym d.opens) ∙ e.1)) [
        | inl new ↦ absurd (apart (sym c_object ∙ ap (λ (c : OpenContents). c.operand.object) (sym new.1) ∙ e.2))
        | inr old ↦ (e.0, old.1, e.2)
      ]

  open_beside : (v : OpName) → v ≢ o → get T.mail.opens v ≡ get S.mail.opens v
  open_beside v apart = ap (λ m. get m v) d.opens ∙ beside_inserted name_order S.mail.opens o c v apart

  open_still : (x : Range) (v : OpName) → IsOpenOf S x v → IsOpenOf T x v
  open_still x v e =
      let apart : v ≢ o = λ same.
      none-some e.0 (sym (no_open m S basis orderly o p there) ∙ ap (get S.mail.opens) (sym same) ∙ e.1) in
      (e.0, open_beside v apart ∙ e.1, e.2)

  member_back : (x : Range) (v : OpName) → p.object ≢ x → IsMember T x v → IsMember S x v
  member_back x v apart (inl y) = inl (version_back S T d.leaving x v y)
  member_back x v apart (inr e) = inr (open_back x v apart e)

  member_still : (x : Range) (v : OpName) → IsMember S x v → IsMember T x v
  member_still x v (inl y) = inl (version_back T S back x v y)
  member_still x v (inr e) = inr (open_still x v e)

  use_back : (x : Range) → IsUsed ts T x → IsUsed ts S x
  use_back x u = (u.0, u.1, u.2, ap (λ m. get m u.0) (sym d.uses) ∙ u.3, u.4, u.5)

  total_beside : (v : OpName) → v ≢ o → total T v ≡ total S v
  total_beside v apart = λ i.
      registered_of (get (d.leaving.versions i) v) + opening_reader (open_beside v apart i) + uses_of (d.uses i) v

  -- ---- entries of other objects

  -- an entry at another base is of another object
  other_object : (b : ℕ) (e : Entry) → get S.entries b ≡ Some e → b ≢ p.object.base → p.object ≢ e.object
  other_object b e at apart same =
      apart (sym (h.operand b e at).0 ∙ ap (λ (x : Range). x.base) (sym same))

  absent_after : (x : Range) → p.object ≢ x → IsAbsent ts S x → IsAbsent ts T x
  absent_after x apart a = record {
    members = λ v e. a.members v (member_back x v apart e);
    unused = λ u. a.unused (use_back x u);
    stays = λ v l. a.stays v (leaving_back S T d.leaving x v l);
  }

  live_other : (e : Entry) → p.object ≢ e.object → e.latest ≢ o → IsLive S e.object e → IsLive T e.object e
  live_other e apart name l = record {
    member = member_still e.object e.latest l.member;
    latest = λ v k. l.latest v (member_back e.object v apart k);
    sent = l.sent ∙ sym (total_beside e.latest name);
    stays = λ v k. l.stays v (leaving_back S T d.leaving e.object v k);
  }

  retiring_other : (e : Entry) → p.object ≢ e.object → IsRetiring ts S e.object e → IsRetiring ts T e.object e
  retiring_other e apart r = record {
    no_open = λ v k. r.no_open v (open_back e.object v apart k);
    unused = λ u. r.unused (use_back e.object u);
    leaving = leaving_back T S back e.object e.latest r.leaving;
    only = λ v k. r.only v (leaving_back S T d.leaving e.object v k);
    last = λ y retires version.
        last_version_still S T d.leaving e.object e y
        (r.last y (ap (λ m. get m e.latest) (sym d.leaving.retires) ∙ retires)
        (ap (λ m. get m e.latest) (sym d.leaving.versions) ∙ version));
    none = λ g v k. r.none (going_back S T d.leaving e.object e.latest g) v (version_back S T d.leaving e.object v k);
  }

  -- ---- the entry of the object

  module _ (awake : (e : Entry) → get S.entries p.object.base ≡ Some e → e.retiring ≡ false) where
    stays_by : (x : Option Entry) → get S.entries p.object.base ≡ x → (v : OpName) → IsLeaving S p.object v → ⊥
    stays_by None none v l = (h.absent o p among (no_entry_at S p.object none)).stays v l
    stays_by (Some e) at v l =
        (h.live p.object.base e at (awake e at)).stays v
        (subst (λ x. IsLeaving S x v) (sym (object_of_entry m S basis orderly h o p there e at)) l)

    stays_before : (v : OpName) → IsLeaving S p.object v → ⊥
    stays_before = stays_by (get S.entries p.object.base) refl

  total_new : total T o ≡ n.sent
  total_new =
      let version = no_version m S basis orderly o p there in
      let none : uses_of S.mail.uses o ≡ 0 =
      count_none name_order (λ q w. same_name w o) S.mail.uses
      (λ q v at. other_name v o (no_use_of m S basis orderly o p there q v at)) in
      (λ i. registered_of (get (d.leaving.versions i) o) + opening_reader (get (d.opens i) o) + uses_of (d.uses i) o)
      ∙ (λ i. registered_of (version i)
      + opening_reader (at_inserted name_order S.mail.opens o c i) + none i)
      ∙ zero_right (first_reader c.operand.mode c.follows)
      ∙ sym d.sent
    where
      zero_right : (k : ℕ) → 0 + k + 0 ≡ k
      zero_right k = omega arith

  new_latest : (v : OpName) → IsMember T p.object v → v.task ≤ o.task
  new_latest v k = elim (decide_key name_order v o) [
    | inl same ↦ subst (λ v. v.task ≤ o.task) (sym same) (omega arith)
    | inr other ↦ old_latest v other k
  ]
    where
      old_member : (v : OpName) → v ≢ o → IsMember T p.object v → IsMember S p.object v
      old_member v other (inl y) = inl (version_back S T d.leaving p.object v y)
      old_member v other (inr e) = inr (e.0, sym (open_beside v other) ∙ e.1, e.2)

      old_latest : (v : OpName) → v ≢ o → IsMember T p.object v → v.task ≤ o.task
      old_latest v other k =
          let q = member_operand m S basis orderly chains p.object v (old_member v other k) in
          none_later m S basis orderly o v p q.0.0 there q.0.1 q.0.2 q.1

  live_new : ((e : Entry) → get S.entries p.object.base ≡ Some e → e.retiring ≡ false) → IsLive T n.object n
  live_new awake = record {
    member = subst (λ x. IsMember T x n.latest) (sym d.object)
        (subst (IsMember T p.object) (sym d.latest)
        (inr (c, ap (λ m. get m o) d.opens ∙ at_inserted name_order S.mail.opens o c, c_object)));
    latest = λ v k.
        subst (λ o. v.task ≤ o.task) (sym d.latest) (new_latest v (subst (λ x. IsMember T x v) d.object k));
    sent = sym total_new ∙ ap (total T) (sym d.latest);
    stays = λ v l.
        stays_before awake v (subst (λ x. IsLeaving S x v) d.object (leaving_back S T d.leaving n.object v l));
  }

  -- ---- all entries

  decoded_new : (q : OpName) → IsWriterOn ts p.object q → is_decoded (phase_of T q) ≡ true → q.task ≤ o.task
  decoded_new q w k = elim (decide_key name_order q o) [
    | inl same ↦ subst (λ v. v.task ≤ o.task) (sym same) (omega arith)
    | inr other ↦
        none_later m S basis orderly o q p w.operand there w.there w.object (d.decoded q other k)
  ]

  decoded_other : (b : ℕ) (e : Entry) (q : OpName) → get S.entries b ≡ Some e → p.object ≢ e.object
      → IsWriterOn ts e.object q → is_decoded (phase_of T q) ≡ true → q.task ≤ e.latest.task
  decoded_other b e q at apart w k =
      let other : q ≢ o = λ same.
      apart (ap (λ (p : Operand). p.object)
      (same_Some p w.operand (sym among ∙ ap (operand_among ts) (sym same) ∙ w.there)) ∙ w.object) in
      h.decoded b e q at w (d.decoded q other k)

  -- an entry after the decode
  from_entries : (b : ℕ) (e : Entry) → get T.entries b ≡ Some e
      → ((b ≡ p.object.base) × (e ≡ n)) ⊎ ((b ≢ p.object.base) × (get S.entries b ≡ Some e))
  from_entries b e at =
      from_inserted nat_order S.entries p.object.base n b e (ap (λ m. get m b) (sym d.entries) ∙ at)

  -- entries after such a decode
  pub entries_opened : ((e : Entry) → get S.entries p.object.base ≡ Some e → e.retiring ≡ false) → HasEntries ts T
  entries_opened awake = record {
    absent = λ q r at none.
        let base : n.object.base ≡ p.object.base = ap (λ (x : Range). x.base) d.object in
        absent_after r.object
        (λ same. none (subst (HasEntryOf T) (d.object ∙ same) (entry_of_new S T p.object.base n d.entries base)))
        (h.absent q r at (λ f. none (entry_of_still S T p.object.base n d.entries base
        (λ e at. object_of_entry m S basis orderly h o p there e at ∙ sym d.object) r.object f)));
    operand = λ b e at. elim (from_entries b e at) [
      | inl new ↦
          subst (λ e. (e.object.base ≡ b)
          × ((r : Operand) × (operand_among ts e.latest ≡ Some r) × (r.object ≡ e.object)))
          (sym new.1)
          (ap (λ (x : Range). x.base) d.object ∙ sym new.0, (p, ap (operand_among ts) d.latest ∙ among, sym d.object))
      | inr old ↦ h.operand b e old.1
    ];
    live = λ b e at awakes. elim (from_entries b e at) [
      | inl new ↦ subst (λ (e : Entry). IsLive T e.object e) (sym new.1) (live_new awake)
      | inr old ↦
          live_other e (other_object b e old.1 old.0) (no_latest m S basis orderly o p there b e old.1)
          (h.live b e old.1 awakes)
    ];
    retiring = λ b e at on. elim (from_entries b e at) [
      | inl new ↦ absurd (not_both n.retiring (ap (λ (e : Entry). e.retiring) (sym new.1) ∙ on) d.live)
      | inr old ↦ retiring_other e (other_object b e old.1 old.0) (h.retiring b e old.1 on)
    ];
    decoded = λ b e q at w k. elim (from_entries b e at) [
      | inl new ↦
          subst (λ (l : OpName). q.task ≤ l.task) (sym (ap (λ (e : Entry). e.latest) new.1 ∙ d.latest))
          (decoded_new q (subst (λ x. IsWriterOn ts x q) (ap (λ (e : Entry). e.object) new.1 ∙ d.object) w) k)
      | inr old ↦ decoded_other b e q old.1 (other_object b e old.1 old.0) w k
    ];
  }
