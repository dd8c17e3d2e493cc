-- The events of the versioning tables, from what they find to what they leave.
use Rattle.std.proofs.Common.{◌≡◌, ℕ, zero, suc, ◌<◌, ◌-◌, ◌/◌, arith, Bool, true, false, List, [], ◌∷◌, length, Option, Some, None, option_map, refl, sym, ap, ◌∙◌, subst, true≢false}
use Rattle.std.specs.Prelude.{is_some, slice_get, IsSome, ◌^◌}
use Rattle.std.specs.FinMap.{get}
use Rattle.std.proofs.lemmas.Option.{none-some, same_Some}
use Rattle.std.proofs.lemmas.Nat.{mod_below}
use Rattle.tss_base.specs.declared.bounds.TheConstants.{BANK_BYTES}
use Rattle.tss_base.specs.declared.range.Range.{Range}
use Rattle.tss_base.specs.declared.operand.OpName.{OpName}
use Rattle.tss_base.specs.declared.event.Event.TheVariants as event
use Rattle.tss_maps.proofs.Changes.{one_value}
use Rattle.tss_maps.proofs.MappedLemmas.{get-mapped}
use Rattle.tss_banks.specs.Versions.{IsRowOf}
use Rattle.tss_banks.proofs.VersionRows.{release_in_bank, use_in_bank, nack_in_bank}
use Rattle.tss_events.specs.declared.message.Message.{Message}
use Rattle.tss_mail.specs.Letters.{MailState, mail_of, without_letter, told_release}
use Rattle.tss_protocol.specs.Names.{bank_of}
use Rattle.tss_protocol.specs.Mail.{taken}
use Rattle.tss_protocol.specs.State.{OperandState, Version}
use Rattle.tss_protocol.specs.Stations.{operand_at}
use Rattle.tss_protocol.specs.Versions.{after_release, can_use, after_use, after_nack}
use Rattle.tss_protocol.specs.UnitMachine.{is_enabled, after_event, release_message_taken, can_use_message, use_message_taken, without}
use Rattle.tss_versions.specs.declared.kept.Kept.{Kept}
use Rattle.tss_versions.specs.Known.{VersionsState, version_of, versions_of}
use Rattle.tss_versions.specs.Rows.{kept_after_release, kept_after_use, kept_after_nack}
use Rattle.tss_conditions.specs.Posting.{release_sends, use_sends}
use Rattle.tss_conditions.specs.Opening.{IsUsable}
use Rattle.tss_conditions.specs.Releasing.{IsReleasable}
use Rattle.tss_conditions.specs.Retiring.{HasAsked}
use Rattle.tss_conditions.proofs.Opening.{registered, uses_version}
use Rattle.tss_conditions.proofs.Retiring.{nack_of}
use Rattle.tss_conditions.proofs.Releasing.{releasable}
use Rattle.tss_pipeline.specs.declared.units.Units.{Units}
use Rattle.tss_pipeline.specs.declared.bank.Bank.{Bank}
use Rattle.tss_pipeline.specs.State.{state_of, bank_versions}
use Rattle.tss_pipeline.specs.Fit.{IsFit}
use Rattle.tss_pipeline.specs.Registering.{IsBankWith}
use Rattle.tss_pipeline.specs.Does.{May}
use Rattle.tss_pipeline.proofs.places.Lookups.{versions_here, version_here, version_joined, version_own}
use Rattle.tss_pipeline.proofs.version_rows.VersionLookups.{some_banks, is_some-mapped, version_alone, registered_here}
use Rattle.tss_pipeline.proofs.version_rows.VersionTokens.{release_known, use_known, nack_known}
use Rattle.tss_pipeline.proofs.version_rows.VersionSteps.{held_here, bank_number, links_here, IsRowEvent, IsCalled, IsDone, row_done}

-- the number of an object's bank is that of a bank
pub bank_in_range : (u : Units) → IsFit u → (object : Range) → bank_of u.machine.sizes object < length u.banks.items
bank_in_range u fit object =
    let some = some_banks u fit in
    subst (λ k. bank_of u.machine.sizes object < k) (sym fit.sized.banks.count)
    (mod_below (object.base / BANK_BYTES) u.machine.sizes.banks some)

-- a bank stands at each number below theirs
pub bank_found : (bs : List Bank) (n : ℕ) → n < length bs → (b : Bank) × (slice_get bs n ≡ Some b)
bank_found [] n within = absurd (omega (arith, within))
bank_found (b ∷ bs) zero within = (b, refl)
bank_found (b ∷ bs) (suc n) within = bank_found bs n (omega (arith, within))

-- ---- release

-- its message is there
pub release_there : (u : Units) (o : OpName) → May (event.Release o) u → IsSome (get u.mail.releases o)
unfolding is_enabled
release_there u o may =
    sym (is_some-mapped told_release (get u.mail.releases o))
    ∙ ap is_some (sym (get-mapped told_release u.mail.releases o))
    ∙ may

-- what there is
pub something : {X : Type 0} (o : Option X) → IsSome o → (x : X) × (o ≡ Some x)
something None h = absurd (true≢false (sym h))
something (Some x) h = (x, refl)

module _ (u : Units) (fit : IsFit u) (o : OpName) (r : OpName × Bool) (there : get u.mail.releases o ≡ Some r) where
  releases : get (state_of u).mail.releases o ≡ Some (told_release r)
  releases = get-mapped told_release u.mail.releases o ∙ ap (option_map told_release) there

  found : IsReleasable (state_of u) o (told_release r)
  found = releasable u.machine fit.reached.image (state_of u) o (told_release r) fit.reached.reached releases

  -- the operand has a record
  pub releaser_flies : IsSome (operand_at (state_of u).flight o)
  releaser_flies = subst IsSome (sym found.kept) refl

  module _ (n : ℕ) (b : Bank) (at : slice_get u.banks.items n ≡ Some b)
      (of_operand : (x : OperandState) → operand_at (state_of u).flight o ≡ Some x
      → n ≡ bank_of u.machine.sizes x.operand.object) where
    own : bank_of u.machine.sizes found.version.object ≡ n
    own = ap (bank_of u.machine.sizes) found.object ∙ sym (of_operand found.operand found.kept)

    here : (k : Kept) × (get b.versions.versions r.0 ≡ Some k) × (version_of k ≡ found.version)
    here =
        version_here u.machine.sizes u.banks.items fit.placed.versions n b at r.0 found.version found.there own

    -- the version is registered
    pub release_registered : IsSome (get b.versions.versions r.0)
    release_registered = subst IsSome (sym here.1) refl

    -- with a reader that hasn't released it
    pub release_readers : (x : Kept) → get b.versions.versions r.0 ≡ Some x → r.1 ≡ false
        → x.status.released < x.status.registered
    release_readers x kept reader =
        subst (λ (y : Version). y.released < y.registered)
        (one_value (state_of u).versions r.0 found.version (version_of x) found.there
        (version_joined u.machine.sizes u.banks.items fit.placed.versions n b at r.0 x kept))
        (found.readers reader)

    -- the row
    pub release_event : IsRowEvent u n b (event.Release o) (kept_after_release b.versions.versions o r.0 r.1)
        (after_release (state_of u).versions o (told_release r))
        (after_release (versions_of b.versions.versions) o (told_release r))
    unfolding after_event
    release_event = record {
      row =
          subst (λ m. IsRowOf u.machine.sizes (bank_versions u.banks.items) n
          (after_release (state_of u).versions o (told_release r)) (after_release m o (told_release r)))
          (versions_here u.machine.sizes u.banks.items fit.placed.versions n b at)
          (release_in_bank u.machine.sizes (bank_versions u.banks.items) fit.placed.versions n
          (bank_number u fit n b at) (links_here u fit n b at) o (told_release r)
          (version_alone u fit n b at r.0
          (λ x e. ap (λ (y : Version). bank_of u.machine.sizes y.object)
          (one_value (state_of u).versions r.0 x found.version e found.there) ∙ own)));
      after = ap (release_message_taken (without (state_of u) (event.Release o)) o) releases;
      sends = ap (release_sends (state_of u) o) releases;
      letters = fit.placed;
      size = refl;
      tokens = release_known _ _ b.versions.versions o r.0 (held_here u fit n b at) r.1;
    }

    -- what the call leaves and sends is the event
    pub release_done : May (event.Release o) u → (new : VersionsState) (sent : List Message)
        → IsCalled b.versions new sent (kept_after_release b.versions.versions o r.0 r.1)
        (after_release (versions_of b.versions.versions) o (told_release r))
        → (left : MailState) → left ≡ without_letter u.mail (event.Release o)
        → mail_of left ≡ taken (mail_of u.mail) (event.Release o) → IsDone u n b (event.Release o) new sent left
    release_done may new sent called left others took =
        row_done u fit n b at (event.Release o) may (kept_after_release b.versions.versions o r.0 r.1)
        (after_release (state_of u).versions o (told_release r))
        (after_release (versions_of b.versions.versions) o (told_release r)) release_event new sent called left others
        took

-- ---- a version of a bank

-- a version that stands in a bank is of its objects
pub own_of_bank : (u : Units) (fit : IsFit u) (n : ℕ) (b : Bank) → slice_get u.banks.items n ≡ Some b → (v : OpName)
    → IsSome (get b.versions.versions v) → (x : Version) → get (state_of u).versions v ≡ Some x
    → bank_of u.machine.sizes x.object ≡ n
own_of_bank u fit n b at v has x e =
    let k = something (get b.versions.versions v) has in
    ap (λ (y : Version). bank_of u.machine.sizes y.object)
    (one_value (state_of u).versions v x (version_of k.0) e
    (version_joined u.machine.sizes u.banks.items fit.placed.versions n b at v k.0 k.1))
    ∙ version_own u.machine.sizes u.banks.items fit.placed.versions n b at v k.0 k.1

-- one that is registered stands in a bank
pub not_without : (u : Units) (fit : IsFit u) (v : OpName) (x : Version) → get (state_of u).versions v ≡ Some x
    → IsBankWith u.banks.items v None → ⊥
not_without u fit v x there none =
    let within = bank_in_range u fit x.object in
    let b = bank_found u.banks.items (bank_of u.machine.sizes x.object) within in
    let k = version_here u.machine.sizes u.banks.items fit.placed.versions (bank_of u.machine.sizes x.object) b.0 b.1
    v x there refl in
    none-some k.0 (sym (none (bank_of u.machine.sizes x.object) b.0 b.1) ∙ k.1)

-- ---- use

module _ (u : Units) (o : OpName) (may : May (event.Use o) u) where
  uses_by : (g : Option OpName) → can_use_message (state_of u) g ≡ true
      → (v : OpName) × (g ≡ Some v) × (is_some (get (state_of u).versions v) ≡ true)
  uses_by None h = absurd (true≢false (sym h))
  uses_by (Some v) h = (v, refl, h)

  -- its message is there, with a version that is registered
  pub use_there : (v : OpName) × (get u.mail.uses o ≡ Some v) × (is_some (get (state_of u).versions v) ≡ true)
  unfolding is_enabled
  use_there = uses_by (get u.mail.uses o) may

  pub use_registered : (v : OpName) → get u.mail.uses o ≡ Some v → is_some (get (state_of u).versions v) ≡ true
  use_registered v there =
      subst (λ v. is_some (get (state_of u).versions v) ≡ true) (same_Some use_there.0 v (sym use_there.1 ∙ there))
      use_there.2

module _ (u : Units) (fit : IsFit u) (o v : OpName) (there : get u.mail.uses o ≡ Some v) (n : ℕ) (b : Bank)
    (at : slice_get u.banks.items n ≡ Some b)
    (of_operand : (x : OperandState) → operand_at (state_of u).flight o ≡ Some x
    → n ≡ bank_of u.machine.sizes x.operand.object) where
  used : IsUsable (state_of u) o v
  used = uses_version u.machine fit.reached.image (state_of u) o v fit.reached.reached there

  used_own : (x : Version) → get (state_of u).versions v ≡ Some x → bank_of u.machine.sizes x.object ≡ n
  used_own x e = ap (bank_of u.machine.sizes) (used.object x e) ∙ sym (of_operand used.operand used.there)

  -- the version has room for one more reader
  pub use_readers : (x : Kept) → get b.versions.versions v ≡ Some x → x.status.registered < 2 ^ 32 - 1
  use_readers x kept =
      (registered u.machine fit.reached.image (state_of u) v (version_of x) fit.reached.reached
      (version_joined u.machine.sizes u.banks.items fit.placed.versions n b at v x kept)).readers

  -- it is registered in the bank
  pub use_not_blocked : is_some (get (state_of u).versions v) ≡ true
      → can_use (versions_of b.versions.versions) v ≡ false → ⊥
  use_not_blocked on blocked =
      true≢false
      (sym on
      ∙ sym (registered_here u fit n b at v used_own)
      ∙ sym (is_some-mapped version_of (get b.versions.versions v))
      ∙ ap is_some (sym (get-mapped version_of b.versions.versions v))
      ∙ blocked)

  use_event : IsRowEvent u n b (event.Use o) (kept_after_use b.versions.versions o v)
      (after_use (state_of u).versions o v) (after_use (versions_of b.versions.versions) o v)
  unfolding after_event
  use_event = record {
    row =
        subst (λ m. IsRowOf u.machine.sizes (bank_versions u.banks.items) n (after_use (state_of u).versions o v)
        (after_use m o v))
        (versions_here u.machine.sizes u.banks.items fit.placed.versions n b at)
        (use_in_bank u.machine.sizes (bank_versions u.banks.items) fit.placed.versions n (bank_number u fit n b at)
        (links_here u fit n b at) o v (version_alone u fit n b at v used_own));
    after = ap (use_message_taken (without (state_of u) (event.Use o)) o) there;
    sends = ap (use_sends (state_of u) o) there;
    letters = fit.placed;
    size = refl;
    tokens = use_known _ _ b.versions.versions o v (held_here u fit n b at);
  }

  -- what the call leaves and sends is the event
  pub use_done : May (event.Use o) u → (new : VersionsState) (sent : List Message)
      → IsCalled b.versions new sent (kept_after_use b.versions.versions o v)
      (after_use (versions_of b.versions.versions) o v)
      → (left : MailState) → left ≡ without_letter u.mail (event.Use o)
      → mail_of left ≡ taken (mail_of u.mail) (event.Use o) → IsDone u n b (event.Use o) new sent left
  use_done may new sent called left others took =
      row_done u fit n b at (event.Use o) may (kept_after_use b.versions.versions o v)
      (after_use (state_of u).versions o v) (after_use (versions_of b.versions.versions) o v) use_event new sent called
      left others took

-- ---- nack

-- its message is there
pub nack_there : (u : Units) (v : OpName) → May (event.Nack v) u → IsSome (get u.mail.nacks v)
unfolding is_enabled
nack_there u v may = may

module _ (u : Units) (fit : IsFit u) (v : OpName) (may : May (event.Nack v) u) where
  refused : (count : ℕ) × HasAsked (state_of u) v count
  refused =
      let t = something (get u.mail.nacks v) (nack_there u v may) in
      nack_of u.machine fit.reached.image (state_of u) v fit.reached.reached t.1

  -- some bank has the version
  pub nack_somewhere : IsBankWith u.banks.items v None → ⊥
  nack_somewhere none = not_without u fit v refused.1.version refused.1.there none

  module _ (n : ℕ) (b : Bank) (at : slice_get u.banks.items n ≡ Some b) (has : IsSome (get b.versions.versions v)) where
    nack_event : IsRowEvent u n b (event.Nack v) (kept_after_nack b.versions.versions v)
        (after_nack (state_of u).versions v) (after_nack (versions_of b.versions.versions) v)
    unfolding after_event
    nack_event = record {
      row =
          subst (λ m. IsRowOf u.machine.sizes (bank_versions u.banks.items) n (after_nack (state_of u).versions v)
          (after_nack m v))
          (versions_here u.machine.sizes u.banks.items fit.placed.versions n b at)
          (nack_in_bank u.machine.sizes (bank_versions u.banks.items) fit.placed.versions n (bank_number u fit n b at)
          (links_here u fit n b at) v (version_alone u fit n b at v (own_of_bank u fit n b at v has)));
      after = refl;
      sends = refl;
      letters = fit.placed;
      size = refl;
      tokens = nack_known _ _ b.versions.versions v (held_here u fit n b at);
    }

    -- what the call leaves and sends is the event
    pub nack_done : (new : VersionsState) (sent : List Message)
        → IsCalled b.versions new sent (kept_after_nack b.versions.versions v)
        (after_nack (versions_of b.versions.versions) v)
        → (left : MailState) → left ≡ without_letter u.mail (event.Nack v)
        → mail_of left ≡ taken (mail_of u.mail) (event.Nack v) → IsDone u n b (event.Nack v) new sent left
    nack_done new sent called left others took =
        row_done u fit n b at (event.Nack v) may (kept_after_nack b.versions.versions v)
        (after_nack (state_of u).versions v) (after_nack (versions_of b.versions.versions) v) nack_event new sent called
        left others took
