-- A gone keeps the entries: that of the last version of an object takes the object's entry with it.
use Rattle.std.proofs.Common.{◌≡◌, ◌≢◌, ℕ, inl, inr, Bool, true, false, if◌then◌else◌, List, Some, refl, sym, ap, ◌∙◌}
use Rattle.std.proofs.Common.{subst}
use Rattle.std.specs.Prelude.{is_some}
use Rattle.std.specs.FinMap.{get, remove}
use Rattle.std.proofs.lemmas.Option.{none-some, same_Some}
use Rattle.tss_base.specs.declared.range.Range.{Range}
use Rattle.tss_base.specs.declared.operand.OpName.{OpName}
use Rattle.tss_base.specs.declared.operand.Operand.{Operand}
use Rattle.tss_base.specs.declared.operand.Task.{Task}
use Rattle.tss_base.specs.declared.machine.Machine.{Machine}
use Rattle.tss_base.specs.declared.event.Event.TheVariants as event
use Rattle.tss_maps.proofs.Keys.{nat_order, name_order}
use Rattle.tss_maps.proofs.Changes.{at_removed, beside_removed, from_removed}
use Rattle.tss_protocol.specs.Mail.{GoneContents, Mail, taken}
use Rattle.tss_protocol.specs.State.{State, Entry, Version}
use Rattle.tss_protocol.specs.UnitMachine.{IsEnabled, is_enabled, after_event, without, gone_message_taken}
use Rattle.tss_phases.specs.Orderly.{AreOrderly}
use Rattle.tss_phases.proofs.Tests.{something, not_both}
use Rattle.tss_locality.proofs.LeftFields.{Leaves-after_event}
use Rattle.tss_locality.proofs.SeparateObjects.{decide_range}
use Rattle.tss_control.proofs.rounds.EntryOf.{decide_entry_of, entry_of_beside}
use Rattle.tss_control.specs.Members.{operand_among, IsVersionOf, IsOpenOf, IsMember, total}
use Rattle.tss_control.specs.Entries.{HasEntryOf, IsGoingHome, IsLeaving, IsUsed, IsAbsent, IsLive, IsRetiring}
use Rattle.tss_control.specs.Entries.{HasCause, HasEntries, HasRetirement}
use Rattle.tss_control.specs.Chains.{HasChains}
use Rattle.tss_control.proofs.rounds.EntriesFrames.{DecodesNoMore, entries_kept}
use Rattle.tss_control.proofs.entries.Decoded.{later_decodes_none}
use Rattle.tss_control.proofs.rounds.EntriesNames.{HasOperandOn, operand_of_object}
use Rattle.tss_control.proofs.entries.Copy.{going_entries}
use Rattle.tss_control.proofs.rounds.RetirementFrames.{HasRetirement-same, retirement_kept}
use Rattle.tss_control.proofs.rounds.Facts.{Basis}

-- the entry of an object whose last version is gone: that version is its latest
pub record GoneEntry (ts : List Task) (S : State) (v : OpName) (g : GoneContents) : Type 0 where
  pub operand : Operand
  pub among : operand_among ts v ≡ Some operand
  pub on : operand.object ≡ g.object
  pub entry : Entry
  pub there : get S.entries g.object.base ≡ Some entry
  pub object : entry.object ≡ g.object
  pub latest : v ≡ entry.latest

module _ (m : Machine) (S : State) (basis : Basis m S) (orderly : AreOrderly S) (chains : HasChains basis.ts S)
    (h : HasEntries basis.ts S) (v : OpName) (g : GoneContents) (there : get S.mail.gones v ≡ Some g) where
  open basis use {all, ts, ground}

  abbrev T : State
  T = after_event m S (event.Gone v)

  gone_mail : T.mail ≡ taken S.mail (event.Gone v)
  unfolding after_event
  gone_mail = ap (λ x. (gone_message_taken (without S (event.Gone v)) v x).mail) there

  versions : T.versions ≡ S.versions
  versions = λ i. (Leaves-after_event m S (event.Gone v) i).versions

  copies : T.copies ≡ S.copies
  copies = λ i. (Leaves-after_event m S (event.Gone v) i).copies

  gones : T.mail.gones ≡ remove S.mail.gones v
  gones = ap (λ (m : Mail). m.gones) gone_mail

  -- the entry leaves with an object's last version
  pub gone_entries : (b : Bool) → g.retired ≡ b → T.entries ≡ (if b then remove S.entries g.object.base else S.entries)
  unfolding after_event
  gone_entries b is =
      ap (λ x. (gone_message_taken (without S (event.Gone v)) v x).entries) there
      ∙ ap (λ b. if b then remove S.entries g.object.base else S.entries) is

  going_back : (x : Range) (w : OpName) → IsGoingHome T x w → IsGoingHome S x w
  going_back x w (inl k) = inl (k.0, k.1, ap (λ m. get m k.0) (sym copies) ∙ k.2, k.3, k.4)
  going_back x w (inr k) =
      inr (k.0, (from_removed name_order S.mail.gones v w k.0 (ap (λ m. get m w) (sym gones) ∙ k.1)).1, k.2, k.3)

  -- of another object, or where this one has died
  going_still : (x : Range) (w : OpName) → (g.retired ≡ true → g.object ≡ x → ⊥) → IsGoingHome S x w
      → IsGoingHome T x w
  going_still x w apart (inl k) = inl (k.0, k.1, ap (λ m. get m k.0) copies ∙ k.2, k.3, k.4)
  going_still x w apart (inr k) =
      let other : w ≢ v = λ same.
      let one = same_Some g k.0 (sym there ∙ ap (get S.mail.gones) (sym same) ∙ k.1) in
      apart (ap (λ (g : GoneContents). g.retired) one ∙ k.2) (ap (λ (g : GoneContents). g.object) one ∙ k.3) in
      inr (k.0, ap (λ m. get m w) gones ∙ beside_removed name_order S.mail.gones v w other ∙ k.1, k.2, k.3)

  decoded : AreOrderly T → DecodesNoMore ts S T
  decoded after o p at = later_decodes_none m all S orderly (event.Gone v) refl after o

  -- ---- a version that has died

  died_entries : g.retired ≡ false → AreOrderly T → HasEntries ts T
  died_entries died after =
      entries_kept ts S T h (going_entries ts S T (record {
        versions = versions;
        opens = ap (λ (m : Mail). m.opens) gone_mail;
        uses = ap (λ (m : Mail). m.uses) gone_mail;
        retires = ap (λ (m : Mail). m.retires) gone_mail;
        back = going_back;
        still = λ x w. going_still x w (λ on same. not_both g.retired on died);
      }) (gone_entries false died) (decoded after))

  -- ---- one that has retired

  module _ (last : g.retired ≡ true) where
    -- it is of an operand on its object
    operand : HasOperandOn (operand_among ts v) g.object
    operand =
        let x = ground.round.within.named.mail.gones v g there in
        let p = operand_of_object ts v x.0 x.1 in
        let same = ((ground.round.within.links v x.0 x.1).mail.gones v g x.1 there).object in
        (p.0, p.1, p.2 ∙ sym same)

    goes_home : IsGoingHome S g.object v
    goes_home = inr (g, there, last, refl)

    -- the object has an entry
    own_entry : HasEntryOf S g.object
    own_entry = elim (decide_entry_of S g.object) [
      | inl f ↦ f
      | inr none ↦
          let absent = h.absent v operand.0 operand.1 (λ f. none (subst (HasEntryOf S) operand.2 f)) in
          absurd (absent.stays v (inr (subst (λ x. IsGoingHome S x v) (sym operand.2) goes_home)))
    ]

    abbrev e : Entry
    e = own_entry.entry

    at : get S.entries g.object.base ≡ Some e
    at = own_entry.there

    object : e.object ≡ g.object
    object = own_entry.object

    retires_by : (b : Bool) → e.retiring ≡ b → e.retiring ≡ true
    retires_by true on = on
    retires_by false off =
        absurd ((h.live g.object.base e at off).stays v
        (inr (subst (λ x. IsGoingHome S x v) (sym object) goes_home)))

    retiring : IsRetiring ts S e.object e
    retiring = h.retiring g.object.base e at (retires_by e.retiring refl)

    -- v is the entry's latest version
    latest : v ≡ e.latest
    latest = retiring.only v (inr (subst (λ x. IsGoingHome S x v) (sym object) goes_home))

    -- all that is said of the entry
    pub gone_entry : GoneEntry ts S v g
    gone_entry = record {
      operand = operand.0;
      among = operand.1;
      on = operand.2;
      entry = e;
      there = at;
      object = object;
      latest = latest;
    }

    no_version : (w : OpName) → IsVersionOf S g.object w → ⊥
    no_version w k =
        retiring.none (subst (IsGoingHome S e.object) latest (subst (λ x. IsGoingHome S x v) (sym object) goes_home)) w
        (subst (λ x. IsVersionOf S x w) (sym object) k)

    entries : T.entries ≡ remove S.entries g.object.base
    entries = gone_entries true last

    version_back : (x : Range) (w : OpName) → IsVersionOf T x w → IsVersionOf S x w
    version_back x w k = (k.0, ap (λ m. get m w) (sym versions) ∙ k.1, k.2)

    open_back : (x : Range) (w : OpName) → IsOpenOf T x w → IsOpenOf S x w
    open_back x w k = (k.0, ap (λ (m : Mail). get m.opens w) (sym gone_mail) ∙ k.1, k.2)

    member_back : (x : Range) (w : OpName) → IsMember T x w → IsMember S x w
    member_back x w (inl k) = inl (version_back x w k)
    member_back x w (inr k) = inr (open_back x w k)

    use_back : (x : Range) → IsUsed ts T x → IsUsed ts S x
    use_back x u = (u.0, u.1, u.2, ap (λ (m : Mail). get m.uses u.0) (sym gone_mail) ∙ u.3, u.4, u.5)

    leaving_back : (x : Range) (w : OpName) → IsLeaving T x w → IsLeaving S x w
    leaving_back x w (inl k) =
        inl (ap (λ (m : Mail). get m.retires w) (sym gone_mail) ∙ k.0, version_back x w k.1)
    leaving_back x w (inr k) = inr (going_back x w k)

    member_still : (x : Range) (w : OpName) → IsMember S x w → IsMember T x w
    member_still x w (inl k) = inl (k.0, ap (λ m. get m w) versions ∙ k.1, k.2)
    member_still x w (inr k) = inr (k.0, ap (λ (m : Mail). get m.opens w) gone_mail ∙ k.1, k.2)

    leaving_still : (x : Range) (w : OpName) → g.object ≢ x → IsLeaving S x w → IsLeaving T x w
    leaving_still x w apart (inl k) =
        inl (ap (λ (m : Mail). get m.retires w) gone_mail ∙ k.0, (k.1.0, ap (λ m. get m w) versions ∙ k.1.1, k.1.2))
    leaving_still x w apart (inr k) = inr (going_still x w (λ on same. apart same) k)

    -- nothing of the object is left
    no_more : (w : OpName) → IsLeaving T g.object w → ⊥
    no_more w (inl k) = no_version w (version_back g.object w k.1)
    no_more w (inr (inl k)) =
        let back = going_back g.object w (inl k) in
        let is = retiring.only w (inr (subst (λ x. IsGoingHome S x w) (sym object) back)) ∙ sym latest in
        (ground.places.gones v g there).1 (k.0, k.1, ap (λ m. get m k.0) (sym copies) ∙ k.2, k.3 ∙ is)
    no_more w (inr (inr k)) =
        let back = going_back g.object w (inr k) in
        let is = retiring.only w (inr (subst (λ x. IsGoingHome S x w) (sym object) back)) ∙ sym latest in
        none-some k.0 (sym (at_removed name_order S.mail.gones v) ∙ ap (get (remove S.mail.gones v)) (sym is)
        ∙ ap (λ m. get m w) (sym gones) ∙ k.1)

    absent_gone : IsAbsent ts T g.object
    absent_gone = record {
      members = λ w k. elim k [
        | inl y ↦ no_version w (version_back g.object w y)
        | inr o ↦ retiring.no_open w (subst (λ x. IsOpenOf S x w) (sym object) (open_back g.object w o))
      ];
      unused = λ u. retiring.unused (subst (IsUsed ts S) (sym object) (use_back g.object u));
      stays = no_more;
    }

    absent_other : (x : Range) → IsAbsent ts S x → IsAbsent ts T x
    absent_other x a = record {
      members = λ w k. a.members w (member_back x w k);
      unused = λ u. a.unused (use_back x u);
      stays = λ w k. a.stays w (leaving_back x w k);
    }

    -- the other objects keep their entries
    still_entered : (x : Range) → x ≢ g.object → HasEntryOf S x → HasEntryOf T x
    still_entered x other f =
        entry_of_beside S T e (ap (λ (x : Range). get S.entries x.base) object ∙ at)
        (entries ∙ ap (λ (x : Range). remove S.entries x.base) (sym object)) x (λ same. other (same ∙ object)) f

    absent_by : (o : OpName) (p : Operand) → operand_among ts o ≡ Some p → (HasEntryOf T p.object → ⊥)
        → IsAbsent ts T p.object
    absent_by o p among none = elim (decide_range p.object g.object) [
      | inl same ↦ subst (IsAbsent ts T) (sym same) absent_gone
      | inr other ↦
          absent_other p.object (h.absent o p among (λ f. none (still_entered p.object other f)))
    ]

    -- entries of other objects
    from_entries : (b : ℕ) (c : Entry) → get T.entries b ≡ Some c → (b ≢ g.object.base) × (get S.entries b ≡ Some c)
    from_entries b c k = from_removed nat_order S.entries g.object.base b c (ap (λ m. get m b) (sym entries) ∙ k)

    other_object : (b : ℕ) (c : Entry) → get S.entries b ≡ Some c → b ≢ g.object.base → g.object ≢ c.object
    other_object b c k apart same = apart (sym (h.operand b c k).0 ∙ ap (λ (x : Range). x.base) (sym same))

    live_other : (c : Entry) → IsLive S c.object c → IsLive T c.object c
    live_other c l = record {
      member = member_still c.object c.latest l.member;
      latest = λ w k. l.latest w (member_back c.object w k);
      sent = l.sent ∙ sym ((λ i. total (record S {
        versions = versions i;
        mail = record S.mail { opens = (gone_mail i).opens; uses = (gone_mail i).uses };
      }) c.latest));
      stays = λ w k. l.stays w (leaving_back c.object w k);
    }

    retiring_other : (c : Entry) → g.object ≢ c.object → IsRetiring ts S c.object c → IsRetiring ts T c.object c
    retiring_other c apart r = record {
      no_open = λ w k. r.no_open w (open_back c.object w k);
      unused = λ u. r.unused (use_back c.object u);
      leaving = leaving_still c.object c.latest apart r.leaving;
      only = λ w k. r.only w (leaving_back c.object w k);
      last = λ y may version.
          let l = r.last y (ap (λ (m : Mail). get m.retires c.latest) (sym gone_mail) ∙ may)
          (ap (λ m. get m c.latest) (sym versions) ∙ version) in
          record {
            only = λ w k. l.only w (version_back c.object w k);
            asked = l.asked;
            registered = l.registered;
            released = l.released;
          };
      none = λ k w y. r.none (going_back c.object c.latest k) w (version_back c.object w y);
    }

    retired_entries : AreOrderly T → HasEntries ts T
    retired_entries after = record {
      absent = absent_by;
      operand = λ b c k. h.operand b c (from_entries b c k).1;
      live = λ b c k awake. live_other c (h.live b c (from_entries b c k).1 awake);
      retiring = λ b c k on.
          let old = from_entries b c k in
          retiring_other c (other_object b c old.1 old.0) (h.retiring b c old.1 on);
      decoded = λ b c q k w d.
          h.decoded b c q (from_entries b c k).1 w (decoded after q w.operand w.there d);
    }

    -- a refused version is of another object
    retired_cause : (w : OpName) (y : Version) (count : ℕ) → get S.versions w ≡ Some y → HasCause S w y count
        → HasCause T w y count
    retired_cause w y count version c =
        let p = chains.opener w y version in
        let own : HasEntryOf S y.object = elim (decide_entry_of S y.object) [
          | inl f ↦ f
          | inr none ↦
              absurd ((h.absent w p.0 p.1 (λ f. none (subst (HasEntryOf S) p.2 f))).members w
              (inl (y, version, sym p.2)))
        ] in
        let other : y.object.base ≢ g.object.base = λ same.
        let one = same_Some own.entry e (sym own.there ∙ ap (get S.entries) same ∙ at) in
        no_version w (y, version, sym own.object ∙ ap (λ (e : Entry). e.object) one ∙ object) in (
          c.0,
          ap (λ m. get m y.object.base) entries ∙ beside_removed nat_order S.entries g.object.base y.object.base other
              ∙ c.1,
          c.2,
        )

  gone_by : (b : Bool) → g.retired ≡ b → AreOrderly T → HasEntries ts T
  gone_by true = retired_entries
  gone_by false = died_entries

  retirement_by : (b : Bool) → g.retired ≡ b → HasRetirement S → HasRetirement T
  retirement_by true last r = retirement_kept S T versions (ap (λ (m : Mail). m.nacks) gone_mail) (retired_cause last) r
  retirement_by false died r =
      HasRetirement-same S T versions (gone_entries false died) (ap (λ (m : Mail). m.nacks) gone_mail) r

module _ (m : Machine) (S : State) (basis : Basis m S) (orderly : AreOrderly S) (chains : HasChains basis.ts S)
    (h : HasEntries basis.ts S) (v : OpName) (on : IsEnabled m S (event.Gone v)) where
  open basis use {ts}

  -- entries after a gone
  pub HasEntries-gone : AreOrderly (after_event m S (event.Gone v)) → HasEntries ts (after_event m S (event.Gone v))
  unfolding is_enabled
  HasEntries-gone after =
      let g = something is_some (get S.mail.gones v) refl on in
      gone_by m S basis orderly chains h v g.0 g.1 g.0.retired refl after

  -- asking and refusing after a gone
  pub HasRetirement-gone : HasRetirement S → HasRetirement (after_event m S (event.Gone v))
  unfolding is_enabled
  HasRetirement-gone r =
      let g = something is_some (get S.mail.gones v) refl on in
      retirement_by m S basis orderly chains h v g.0 g.1 g.0.retired refl r
