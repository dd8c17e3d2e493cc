-- While an open or a use waits for a version, the version isn't removed: it is registered, or it is being opened. So an
-- event that opens no version leaves it alone whether they may be taken.
use Rattle.std.proofs.Common.{◌≡◌, ◌≢◌, [], ◌∷◌, Option, Some, None, refl, sym, ap, ◌∙◌, inl, inr}
use Rattle.std.specs.Prelude.{is_some}
use Rattle.std.specs.FinMap.{get, remove, contains_key}
use Rattle.tss_base.specs.declared.range.Range.{Range}
use Rattle.tss_base.specs.declared.operand.OpName.{OpName}
use Rattle.tss_base.specs.declared.operand.Operand.{Operand}
use Rattle.tss_base.specs.declared.operand.Mode.{Mode}
use Rattle.tss_base.specs.declared.operand.Mode.TheVariants.{Input, Output, Inout}
use Rattle.tss_base.specs.declared.machine.Machine.{Machine}
use Rattle.tss_base.specs.declared.marks.Follow.{Follow}
use Rattle.tss_base.specs.declared.event.Event.TheVariants as event
use Rattle.tss_maps.proofs.Keys.{name_order}
use Rattle.tss_maps.proofs.Changes.{beside_inserted}
use Rattle.tss_locality.proofs.LeftFields.{left_versions}
use Rattle.tss_protocol.specs.Mail.{OpenContents, Mail, Ack, posted_all, taken}
use Rattle.tss_protocol.specs.State.{State, Entry}
use Rattle.tss_protocol.specs.Renaming.{sent_by_decode, live_message}
use Rattle.tss_protocol.specs.Versions.{is_followable, can_open}
use Rattle.tss_protocol.specs.UnitMachine.{after_event, without, can_open_message, can_use_message, open_message_taken, use_message_taken, decode_message_taken}
use Rattle.tss_protocol.proofs.SentLemmas.{posted_all-later, after_open-later, after_use-later}
use Rattle.tss_names.proofs.OpeningFrames.{VersionsFrom, all_from, Before}
use Rattle.tss_names.proofs.VersionObjects.{objects_use}
use Rattle.tss_control.specs.Members.{IsMember}
use Rattle.tss_control.proofs.rounds.Facts.{Facts}

module _ (m n : Machine) (S T : State) (before : Facts m S) (after : Facts n T) (opens : T.mail.opens ≡ S.mail.opens)
    (versions : VersionsFrom S.versions T.versions) where
  -- a version of an object, registered or being opened, is registered exactly where it was before
  stays : (x : Range) (v : OpName) → IsMember T x v → contains_key T.versions v ≡ contains_key S.versions v
  stays x v (inl y) = ap is_some y.1 ∙ sym (ap is_some (versions v y.0 y.1).1)
  stays x v (inr c) =
      ap is_some (after.ground.places.opens v c.0 c.1).1
      ∙ sym (ap is_some (before.ground.places.opens v c.0 (ap (λ os. get os v) (sym opens) ∙ c.1)).1)

  open_by : (o : OpName) (c : OpenContents) → get T.mail.opens o ≡ Some c → (f : Option Follow) → c.follows ≡ f
      → is_followable T.versions f ≡ is_followable S.versions f
  open_by o c at None to = refl
  open_by o c at (Some f) to = stays c.operand.object f.version ((after.control.chains.opens o c at).after f to).member

  open_message : (o : OpName) (x : Option OpenContents) → get T.mail.opens o ≡ x
      → can_open_message T x ≡ can_open_message S x
  open_message o None at = refl
  open_message o (Some c) at = open_by o c at c.follows refl

  -- so an open may be taken exactly where it could be before
  pub open_waits : (o : OpName)
      → can_open_message T (get T.mail.opens o) ≡ can_open_message S (get S.mail.opens o)
  open_waits o =
      open_message o (get T.mail.opens o) refl ∙ ap (λ os. can_open_message S (get os o)) opens

  use_message : (o : OpName) (x : Option OpName) → get T.mail.uses o ≡ x → can_use_message T x ≡ can_use_message S x
  use_message o None at = refl
  use_message o (Some v) at =
      let u = after.control.chains.uses o v at in
      stays u.operand.object v u.member

  -- and a use that is still there
  pub use_waits : (o : OpName) → get T.mail.uses o ≡ get S.mail.uses o
      → can_use_message T (get T.mail.uses o) ≡ can_use_message S (get S.mail.uses o)
  use_waits o same = use_message o (get T.mail.uses o) refl ∙ ap (can_use_message S) same

-- ---- decode sends an open or a use under its own name

module _ (mail : Mail) (o q : OpName) (other : q ≢ o) where
  -- what stands under another name is left alone
  abbrev LeavesOther : Mail → Type 0
  LeavesOther n = (get n.opens q ≡ get mail.opens q) × (get n.uses q ≡ get mail.uses q)

  live_letters : (p : Operand) (e : Entry) (mode : Mode)
      → LeavesOther (posted_all mail (live_message o p e mode ∷ Ack o ∷ []))
  live_letters p e Input = (refl, beside_inserted name_order mail.uses o e.latest q other)
  live_letters p e Output = (beside_inserted name_order mail.opens o _ q other, refl)
  live_letters p e Inout = (beside_inserted name_order mail.opens o _ q other, refl)

  decode_letters : (p : Operand) (e : Option Entry) → LeavesOther (posted_all mail (sent_by_decode o p e))
  decode_letters p None = (beside_inserted name_order mail.opens o _ q other, refl)
  decode_letters p (Some e) = live_letters p e p.mode

module _ (m : Machine) (S : State) where
  decoded_letters : (o q : OpName) (other : q ≢ o) (p : Option Operand)
      → LeavesOther S.mail o q other (decode_message_taken m (without S (event.Decode o)) o p).mail
  decoded_letters o q other None = (refl, refl)
  decoded_letters o q other (Some p) =
      decode_letters (taken S.mail (event.Decode o)) o q other p (get S.entries p.object.base)

  -- opens and uses of other names wait as they did before
  pub decode_others : (o q : OpName) → q ≢ o
      → (can_open_message (after_event m S (event.Decode o)) (get (after_event m S (event.Decode o)).mail.opens q)
      ≡ can_open_message S (get S.mail.opens q))
      × (can_use_message (after_event m S (event.Decode o)) (get (after_event m S (event.Decode o)).mail.uses q)
      ≡ can_use_message S (get S.mail.uses q))
  unfolding after_event
  decode_others o q other =
      let T = after_event m S (event.Decode o) in
      let vs = left_versions m S (event.Decode o) refl in
      let kept = decoded_letters o q other (get S.mail.decodes o) in (
        opens_by T vs (get T.mail.opens q) ∙ ap (can_open_message S) kept.0,
        uses_by T vs (get T.mail.uses q) ∙ ap (can_use_message S) kept.1,
      )
    where
      opens_by : (T : State) → T.versions ≡ S.versions → (x : Option OpenContents)
          → can_open_message T x ≡ can_open_message S x
      opens_by T vs None = refl
      opens_by T vs (Some c) = ap (λ vs. can_open vs c) vs

      uses_by : (T : State) → T.versions ≡ S.versions → (x : Option OpName)
          → can_use_message T x ≡ can_use_message S x
      uses_by T vs None = refl
      uses_by T vs (Some v) = ap (λ vs. contains_key vs v) vs

  -- ---- open takes its own message

  opened_letters : (v : OpName) (c : Option OpenContents)
      → ((open_message_taken (without S (event.Open v)) v c).mail.opens ≡ remove S.mail.opens v)
      × ((open_message_taken (without S (event.Open v)) v c).mail.uses ≡ S.mail.uses)
  opened_letters v None = (refl, refl)
  opened_letters v (Some c) =
      let same = posted_all-later (taken S.mail (event.Open v)) _ (after_open-later S.versions v c) in
      (same.opens, same.uses)

  pub open_letters : (v : OpName)
      → ((after_event m S (event.Open v)).mail.opens ≡ remove S.mail.opens v)
      × ((after_event m S (event.Open v)).mail.uses ≡ S.mail.uses)
  unfolding after_event
  open_letters v = opened_letters v (get S.mail.opens v)

  -- ---- use takes its own message, and each version was there before

  -- what it leaves
  pub record KeepsUses (o : OpName) (T : State) : Type 0 where
    pub opens : T.mail.opens ≡ S.mail.opens
    pub uses : T.mail.uses ≡ remove S.mail.uses o
    pub versions : VersionsFrom S.versions T.versions

  used_letters : (o : OpName) (v : Option OpName) → KeepsUses o (use_message_taken (without S (event.Use o)) o v)
  used_letters o None = record { opens = refl; uses = refl; versions = all_from S.versions }
  used_letters o (Some v) =
      let same = posted_all-later (taken S.mail (event.Use o)) _ (after_use-later S.versions o v) in
      record {
        opens = same.opens;
        uses = same.uses;
        versions = objects_use (Before m S) S.versions (all_from S.versions) o v;
      }

  pub use_letters : (o : OpName) → KeepsUses o (after_event m S (event.Use o))
  unfolding after_event
  use_letters o = used_letters o (get S.mail.uses o)
