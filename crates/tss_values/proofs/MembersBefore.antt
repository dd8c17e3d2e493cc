-- What is in use after an event that isn't main's was in use before it: an operand that still acts on its object did so
-- before.
use Rattle.std.proofs.Common.{◌≡◌, ◌⊎◌, inl, inr, ℕ, true, false, ◌∷◌, Option, Some, None, refl, sym, ap, subst, ◌∙◌}
use Rattle.std.proofs.Common.{true≢false, []}
use Rattle.std.specs.FinMap.{get}
use Rattle.tss_base.specs.declared.range.Range.{Range}
use Rattle.tss_base.specs.declared.operand.OpName.{OpName}
use Rattle.tss_base.specs.declared.operand.Mode.{Mode}
use Rattle.tss_base.specs.declared.operand.Mode.TheVariants.{Input, Output, Inout}
use Rattle.tss_base.specs.declared.operand.Operand.{Operand}
use Rattle.tss_base.specs.declared.machine.Machine.{Machine}
use Rattle.tss_base.specs.declared.event.Event.{Event}
use Rattle.tss_base.specs.declared.event.Event.TheVariants as event
use Rattle.tss_base.specs.Names.{Named, Numbered}
use Rattle.tss_maps.proofs.Keys.{name_order}
use Rattle.tss_maps.proofs.Changes.{from_inserted, from_removed}
use Rattle.tss_protocol.specs.Mail.{OpenContents, Ack, taken, posted_all}
use Rattle.tss_protocol.specs.Renaming.{entry_after_decode, live_entry, live_message, sent_by_decode}
use Rattle.tss_protocol.specs.State.{State, Entry, Version}
use Rattle.tss_protocol.specs.Versions.{after_open, after_use}
use Rattle.tss_protocol.specs.UnitMachine.{IsEnabled, after_event, without, decode_message_taken, open_message_taken}
use Rattle.tss_protocol.specs.UnitMachine.{use_message_taken}
use Rattle.tss_protocol.proofs.SentLemmas.{posted_all-later, after_open-later, after_use-later}
use Rattle.tss_phases.specs.Phase.{Phase, Ahead, Decoding}
use Rattle.tss_phases.specs.Phase.{phase_of, is_decoded}
use Rattle.tss_phases.specs.Forward.{may_follow}
use Rattle.tss_phases.proofs.DecodeEvent.{decoding_before}
use Rattle.tss_phases.proofs.ForwardEvents.{forward-after_event}
use Rattle.tss_locality.proofs.LeftFields.{Leaves-after_event}
use Rattle.tss_locality.proofs.EntryChanges.{entries_decoded, entries_idle, entries_gone}
use Rattle.tss_names.proofs.OpeningFrames.{KeepsOpenings, openings_take, openings_ready, openings_link, openings_bye}
use Rattle.tss_names.proofs.OpeningFrames.{openings_start, openings_exec, openings_finish, openings_release}
use Rattle.tss_names.proofs.OpeningFrames.{openings_idle, openings_nack, openings_retire, openings_copy, openings_gone}
use Rattle.tss_names.proofs.VersionObjects.{objects_open, objects_use}
use Rattle.tss_program_order.proofs.RunKeeps.{is_main}
use Rattle.tss_control.specs.Members.{IsMember}
use Rattle.tss_control.proofs.holders.KeepsOrder.{keeps_order}
use Rattle.tss_control.proofs.rounds.Facts.{Facts}
use Rattle.tss_values.proofs.Values.{IsLive}

-- ---- what is decoded

follows_decoded : (p r : Phase) → may_follow p r ≡ true → is_decoded r ≡ false → is_decoded p ≡ false
follows_decoded Ahead r e early = refl
follows_decoded Decoding r e early = refl
follows_decoded p Ahead e early = absurd (true≢false (sym e))
follows_decoded p Decoding e early = absurd (true≢false (sym e))
follows_decoded p r e early = early

module _ (m : Machine) (S : State) where
  -- an operand isn't decoded yet
  abbrev IsEarly : OpName → Type 0
  IsEarly o = is_decoded (phase_of S o) ≡ false

  -- ---- members

  -- each member was one, or its operand wasn't decoded yet
  abbrev MembersFrom : State → Type 0
  MembersFrom T = (x : Range) (v : OpName) → IsMember T x v → IsMember S x v ⊎ IsEarly v

  -- each version was a member
  abbrev VersionsWere : Named Version → Type 0
  VersionsWere vs = (v : OpName) (y : Version) → get vs v ≡ Some y → IsMember S y.object v

  members_by : (T : State) → VersionsWere T.versions
      → ((q : OpName) (c : OpenContents) → get T.mail.opens q ≡ Some c → (get S.mail.opens q ≡ Some c) ⊎ IsEarly q)
      → MembersFrom T
  members_by T versions opens x v (inl y) = inl (subst (λ x. IsMember S x v) y.2 (versions v y.0 y.1))
  members_by T versions opens x v (inr c) = elim (opens v c.0 c.1) [
    | inl old ↦ inl (inr (c.0, old, c.2))
    | inr early ↦ inr early
  ]

  versions_left : (vs : Named Version) → vs ≡ S.versions → VersionsWere vs
  versions_left vs same v y at = inl (y, ap (λ vs. get vs v) (sym same) ∙ at, refl)

  opens_left : (os : Named OpenContents) → os ≡ S.mail.opens → (q : OpName) (c : OpenContents)
      → get os q ≡ Some c → (get S.mail.opens q ≡ Some c) ⊎ IsEarly q
  opens_left os same q c at = inl (ap (λ os. get os q) (sym same) ∙ at)

  members_kept : (T : State) → KeepsOpenings S T → MembersFrom T
  members_kept T k =
      members_by T
      (λ v y at. let z = k.versions v y at in inl (z.0, z.1, sym z.2))
      (opens_left T.mail.opens k.opens)

  -- decode opens for its own operand
  live_opens : (o : OpName) (p : Operand) (e : Entry) (mode : Mode) (q : OpName) (c : OpenContents)
      → get (posted_all (taken S.mail (event.Decode o)) (live_message o p e mode ∷ Ack o ∷ [])).opens q ≡ Some c
      → (get S.mail.opens q ≡ Some c) ⊎ (q ≡ o)
  live_opens o p e Input q c at = inl at
  live_opens o p e Output q c at = elim (from_inserted name_order S.mail.opens o _ q c at) [
    | inl new ↦ inr new.0
    | inr old ↦ inl old.1
  ]
  live_opens o p e Inout q c at = elim (from_inserted name_order S.mail.opens o _ q c at) [
    | inl new ↦ inr new.0
    | inr old ↦ inl old.1
  ]

  decode_opens : (o : OpName) (p : Operand) (e : Option Entry) (q : OpName) (c : OpenContents)
      → get (posted_all (taken S.mail (event.Decode o)) (sent_by_decode o p e)).opens q ≡ Some c
      → (get S.mail.opens q ≡ Some c) ⊎ (q ≡ o)
  decode_opens o p None q c at = elim (from_inserted name_order S.mail.opens o _ q c at) [
    | inl new ↦ inr new.0
    | inr old ↦ inl old.1
  ]
  decode_opens o p (Some e) q c at = live_opens o p e p.mode q c at

  opens_decoded : (o : OpName) (d : Option Operand) → get S.mail.decodes o ≡ d → (q : OpName) (c : OpenContents)
      → get (decode_message_taken m (without S (event.Decode o)) o d).mail.opens q ≡ Some c
      → (get S.mail.opens q ≡ Some c) ⊎ IsEarly q
  opens_decoded o None there q c at = inl at
  opens_decoded o (Some p) there q c at = elim (decode_opens o p (get S.entries p.object.base) q c at) [
    | inl old ↦ inl old
    | inr same ↦ inr (ap (λ q. is_decoded (phase_of S q)) same ∙ ap is_decoded (decoding_before m S o p there))
  ]

  members_decode : (o : OpName) → MembersFrom (after_event m S (event.Decode o))
  unfolding after_event
  members_decode o =
      members_by (after_event m S (event.Decode o))
      (versions_left (after_event m S (event.Decode o)).versions
      (λ j. (Leaves-after_event m S (event.Decode o) j).versions))
      (opens_decoded o (get S.mail.decodes o) refl)

  members_open : (o : OpName) (c : Option OpenContents) → get S.mail.opens o ≡ c
      → MembersFrom (open_message_taken (without S (event.Open o)) o c)
  members_open o None there =
      members_by (open_message_taken (without S (event.Open o)) o None) (versions_left S.versions refl)
      (λ q k at. inl (from_removed name_order S.mail.opens o q k at).1)
  members_open o (Some c) there =
      members_by (open_message_taken (without S (event.Open o)) o (Some c))
      (objects_open (λ v x. IsMember S x v) S.versions o c (λ v x at. inl (x, at, refl)) (inr (c, there, refl)))
      (λ q k at.
      inl (from_removed name_order S.mail.opens o q k
      (ap (λ os. get os q)
      (sym (posted_all-later (taken S.mail (event.Open o)) (after_open S.versions o c).sent
      (after_open-later S.versions o c)).opens) ∙ at)).1)

  members_use : (o : OpName) (v : Option OpName) → MembersFrom (use_message_taken (without S (event.Use o)) o v)
  members_use o None =
      members_by (use_message_taken (without S (event.Use o)) o None) (versions_left S.versions refl)
      (opens_left S.mail.opens refl)
  members_use o (Some v) =
      members_by (use_message_taken (without S (event.Use o)) o (Some v))
      (objects_use (λ v x. IsMember S x v) S.versions (λ v x at. inl (x, at, refl)) o v)
      (opens_left (posted_all (taken S.mail (event.Use o)) (after_use S.versions o v).sent).opens
      (posted_all-later (taken S.mail (event.Use o)) (after_use S.versions o v).sent
      (after_use-later S.versions o v)).opens)

  -- every event but main's
  members_before : (e : Event) → is_main e ≡ false → MembersFrom (after_event m S e)
  unfolding after_event
  members_before event.Main other = absurd (true≢false other)
  members_before event.Take other = members_kept _ (openings_take m S S.inbox)
  members_before (event.Decode o) other = members_decode o
  members_before (event.Ack o) other =
      members_by (after_event m S (event.Ack o)) (versions_left S.versions refl) (opens_left S.mail.opens refl)
  members_before (event.Open o) other = members_open o (get S.mail.opens o) refl
  members_before (event.Use o) other = members_use o (get S.mail.uses o)
  members_before (event.Ready o) other = members_kept _ (openings_ready m S o (get S.mail.readies o))
  members_before (event.Link o) other = members_kept _ (openings_link m S o (get S.mail.links o))
  members_before (event.Start w) other = members_kept _ (openings_start m S w S.queue)
  members_before (event.Exec w) other = members_kept _ (openings_exec m S w (get S.workers w))
  members_before (event.Finish w) other = members_kept _ (openings_finish m S w (get S.workers w))
  members_before (event.Release o) other = members_kept _ (openings_release m S o (get S.mail.releases o))
  members_before (event.Bye o) other = members_kept _ (openings_bye m S o (get S.mail.byes o))
  members_before (event.Idle v) other = members_kept _ (openings_idle m S v (get S.mail.idles v))
  members_before (event.Nack v) other = members_kept _ (openings_nack m S v)
  members_before (event.Retire v) other = members_kept _ (openings_retire m S v (get S.versions v))
  members_before (event.Copy b) other = members_kept _ (openings_copy m S b (get S.copies b))
  members_before (event.Gone v) other = members_kept _ (openings_gone m S v (get S.mail.gones v))

  -- ---- the latest of entries

  -- each entry's latest was that of an entry of its object, or wasn't decoded yet
  abbrev LatestFrom : Numbered Entry → Type 0
  LatestFrom es =
      (b : ℕ) (e : Entry) → get es b ≡ Some e
      → ((f : Entry) × (get S.entries b ≡ Some f) × (f.latest ≡ e.latest) × (f.object ≡ e.object)) ⊎ IsEarly e.latest

  latest_left : (es : Numbered Entry) → es ≡ S.entries → LatestFrom es
  latest_left es same b e at = inl (e, ap (λ es. get es b) (sym same) ∙ at, refl, refl)

  latest_live : (o : OpName) (f : Entry) (mode : Mode)
      → ((f.latest ≡ (live_entry o f mode).latest) × (f.object ≡ (live_entry o f mode).object))
      ⊎ ((live_entry o f mode).latest ≡ o)
  latest_live o f Input = inl (refl, refl)
  latest_live o f Output = inr refl
  latest_live o f Inout = inr refl

  latest_made : (o : OpName) (p : Operand) → get S.mail.decodes o ≡ Some p → (b : ℕ) → b ≡ p.object.base
      → (e : Option Entry) → get S.entries p.object.base ≡ e
      → ((f : Entry) × (get S.entries b ≡ Some f) × (f.latest ≡ (entry_after_decode o p e).latest)
      × (f.object ≡ (entry_after_decode o p e).object))
      ⊎ IsEarly (entry_after_decode o p e).latest
  latest_made o p there b base None at = inr (ap is_decoded (decoding_before m S o p there))
  latest_made o p there b base (Some f) at = elim (latest_live o f p.mode) [
    | inl same ↦ inl (f, ap (get S.entries) base ∙ at, same.0, same.1)
    | inr is ↦ inr (ap (λ q. is_decoded (phase_of S q)) is ∙ ap is_decoded (decoding_before m S o p there))
  ]

  latest_decode : (o : OpName) → LatestFrom (after_event m S (event.Decode o)).entries
  latest_decode o b e at = elim (entries_decoded m S o b e at) [
    | inl same ↦ inl (e, same, refl, refl)
    | inr made ↦
        subst
        (λ (e : Entry). ((f : Entry) × (get S.entries b ≡ Some f) × (f.latest ≡ e.latest) × (f.object ≡ e.object))
        ⊎ IsEarly e.latest)
        (sym made.entry)
        (latest_made o made.operand made.there b made.base (get S.entries made.operand.object.base) refl)
  ]

  latest_idle : (v : OpName) → LatestFrom (after_event m S (event.Idle v)).entries
  latest_idle v b e at = elim (entries_idle m S v b e at) [
    | inl same ↦ inl (e, same, refl, refl)
    | inr r ↦ inl (r.entry, r.there, sym r.same, sym r.object)
  ]

  latest_gone : (v : OpName) → LatestFrom (after_event m S (event.Gone v)).entries
  latest_gone v b e at = inl (e, entries_gone m S v b e at, refl, refl)

  -- every event but main's
  latest_before : (e : Event) → is_main e ≡ false → LatestFrom (after_event m S e).entries
  latest_before event.Main other = absurd (true≢false other)
  latest_before (event.Decode o) other = latest_decode o
  latest_before (event.Idle v) other = latest_idle v
  latest_before (event.Gone v) other = latest_gone v
  latest_before e other = latest_left (after_event m S e).entries (λ j. (Leaves-after_event m S e j).entries)

-- ---- operands that act on their objects

-- each that does after such an event did before
pub live_before : (m : Machine) (S : State) (facts : Facts m S) (e : Event) → is_main e ≡ false → IsEnabled m S e
    → (o : OpName) (x : Range) → IsLive (after_event m S e) o x → IsLive S o x
live_before m S facts e other on o x (inl early) =
    inl (follows_decoded (phase_of S o) (phase_of (after_event m S e) o)
    (forward-after_event m S facts.control.orderly e on (keeps_order m S facts e) o) early)
live_before m S facts e other on o x (inr (inl member)) = elim (members_before m S e other x o member) [
  | inl before ↦ inr (inl before)
  | inr early ↦ inl early
]
live_before m S facts e other on o x (inr (inr latest)) =
    elim (latest_before m S e other x.base latest.0 latest.1) [
      | inl f ↦ inr (inr (f.0, f.1, f.2 ∙ latest.2, f.3 ∙ latest.3))
      | inr early ↦ inl (ap (λ q. is_decoded (phase_of S q)) (sym latest.2) ∙ early)
    ]
