-- The event that registers a version, from what it finds to what it leaves.
use Rattle.std.proofs.Common.{◌≡◌, ℕ, ◌<◌, Bool, true, false, List, Option, Some, None, option_map, refl, sym, ap, ◌∙◌, subst, inl, inr, true≢false}
use Rattle.std.specs.Prelude.{slice_get, IsSome}
use Rattle.std.specs.FinMap.{get, remove}
use Rattle.std.proofs.lemmas.Option.{none-some, same_Some}
use Rattle.tss_base.specs.declared.operand.OpName.{OpName}
use Rattle.tss_base.specs.declared.operand.Storage.{Storage}
use Rattle.tss_base.specs.declared.operand.Storage.TheVariants as storage
use Rattle.tss_base.specs.declared.marks.Follow.{Follow}
use Rattle.tss_base.specs.declared.event.Event.TheVariants as event
use Rattle.tss_maps.proofs.Keys.{name_order}
use Rattle.tss_maps.proofs.Changes.{from_removed}
use Rattle.tss_maps.proofs.MappedLemmas.{get-mapped}
use Rattle.tss_tokens.specs.Pool.{TokenState}
use Rattle.tss_banks.specs.Joined.{IsInNoOther}
use Rattle.tss_banks.specs.Versions.{IsRowOf}
use Rattle.tss_banks.proofs.VersionRows.{open_in_bank, can_open_in_bank}
use Rattle.tss_events.specs.declared.message.HeldBuffer.{HeldBuffer}
use Rattle.tss_events.specs.declared.message.Opening.{Opening}
use Rattle.tss_events.specs.declared.message.Message.{Message}
use Rattle.tss_events.specs.Events.{storage_name, opening_of}
use Rattle.tss_mail.specs.Letters.{MailState, mail_of, without_letter}
use Rattle.tss_protocol.specs.Names.{bank_of}
use Rattle.tss_protocol.specs.Mail.{Buffer, OpenContents, taken}
use Rattle.tss_protocol.specs.Versions.{can_open, after_open}
use Rattle.tss_protocol.specs.UnitMachine.{is_enabled, after_event, can_open_message, open_message_taken, without}
use Rattle.tss_versions.specs.Known.{VersionsState, versions_of, buffer_in, store_by}
use Rattle.tss_versions.specs.Conditions.{MayOpen, OpensBare}
use Rattle.tss_versions.specs.Rows.{kept_after_open}
use Rattle.tss_conditions.specs.Opening.{IsOpenable, HasOpenForm}
use Rattle.tss_conditions.specs.Posting.{open_sends}
use Rattle.tss_conditions.proofs.Opening.{openable}
use Rattle.tss_pipeline.specs.declared.units.Units.{Units}
use Rattle.tss_pipeline.specs.declared.bank.Bank.{Bank}
use Rattle.tss_pipeline.specs.State.{state_of, bank_versions}
use Rattle.tss_pipeline.specs.Fit.{ground_of, HoldsBuffer, HoldsOpening, IsFit}
use Rattle.tss_pipeline.specs.Does.{May}
use Rattle.tss_pipeline.proofs.places.Lookups.{versions_here, no_version_here}
use Rattle.tss_pipeline.proofs.places.Placing.{placed_fewer}
use Rattle.tss_pipeline.proofs.version_rows.VersionLookups.{version_alone}
use Rattle.tss_pipeline.proofs.version_rows.VersionTokens.{open_known}
use Rattle.tss_pipeline.proofs.version_rows.VersionSteps.{HoldsIn, held_here, bank_number, links_here, IsRowEvent, IsCalled, IsDone, row_done}

-- without a storage there is no name of one
no_storage : (s : Option Storage) → option_map storage_name s ≡ None → s ≡ None
no_storage None e = refl
no_storage (Some s) e = absurd (none-some (storage_name s) (sym e))

-- a buffer of its own name is the only storage of an open that is a buffer
own_by : (o : OpName) (c : OpenContents) (f : Option Follow) → HasOpenForm o c f → (n : OpName)
    → c.storage ≡ Some (Buffer n) → n ≡ o
own_by o c None form n e = cc
own_by o c (Some f) (inl inout) n e = absurd (none-some (Buffer n) (sym inout.2 ∙ e))
own_by o c (Some f) (inr output) n e =
    let same = sym output.2 ∙ e in
    cc

-- the store of an open has its token
store_held : (s : Option Storage) (t : Option TokenState) (o : OpName) (Q : HeldBuffer → Type 0)
    → ((n : OpName) → option_map storage_name s ≡ Some (Buffer n) → n ≡ o)
    → ((token : TokenState) → t ≡ Some token → Q (record { name = o; token = token }))
    → (h : HeldBuffer) → buffer_in (store_by s t) ≡ Some h → Q h
store_held (Some (storage.Buffer place name)) (Some token) o Q own held h e =
    subst Q (same_Some (record { name = name; token = token }) h e)
    (subst (λ n. Q (record { name = n; token = token })) (sym (own name refl)) (held token refl))
store_held (Some (storage.Buffer place name)) None o Q own held h e = absurd (none-some h e)
store_held (Some storage.Home) (Some token) o Q own held h e = absurd (none-some h e)
store_held (Some storage.Home) None o Q own held h e = absurd (none-some h e)
store_held None (Some token) o Q own held h e = absurd (none-some h e)
store_held None None o Q own held h e = absurd (none-some h e)

-- the message is there
opened_by : {X : Type 0} (g : Option X) (f : Option OpenContents) (S : (Option OpenContents → Bool))
    → S None ≡ false → (g ≡ None → f ≡ None) → S f ≡ true → IsSome g
opened_by None f S none follows on = absurd (true≢false (sym on ∙ ap S (follows refl) ∙ none))
opened_by (Some x) f S none follows on = refl

pub open_there : (u : Units) (o : OpName) → May (event.Open o) u → IsSome (get u.mail.opens o)
unfolding is_enabled
open_there u o may =
    opened_by (get u.mail.opens o) (get (state_of u).mail.opens o) (can_open_message (state_of u)) refl
    (λ none. get-mapped opening_of u.mail.opens o ∙ ap (option_map opening_of) none) may

module _ (u : Units) (fit : IsFit u) (o : OpName) (may : May (event.Open o) u) (x : Opening)
    (there : get u.mail.opens o ≡ Some x) (own : x.o ≡ o) (n : ℕ) (b : Bank)
    (of_object : n ≡ bank_of u.machine.sizes x.operand.object) (at : slice_get u.banks.items n ≡ Some b) where
  opens : get (state_of u).mail.opens o ≡ Some (opening_of x)
  opens = get-mapped opening_of u.mail.opens o ∙ ap (option_map opening_of) there

  law : IsOpenable u.machine (state_of u) o (opening_of x)
  law = openable u.machine fit.reached.image (state_of u) o (opening_of x) fit.reached.reached opens

  holds : HoldsOpening b.renaming x
  holds = (fit.placed.letters n b at).opens o x there (sym of_object)

  fresh_here : get b.versions.versions x.o ≡ None
  fresh_here =
      ap (get b.versions.versions) own
      ∙ no_version_here u.machine.sizes u.banks.items fit.placed.versions n b at o law.fresh

  -- the version may be opened
  pub open_may : MayOpen b.versions x
  open_may = record {
    held = holds.storage;
    within =
        subst (λ k. x.place.place < k)
        (ap (λ s. s.versions) (fit.sized.banks.each n b at).sizes ∙ sym (fit.sized.banks.each n b at).versions)
        ((fit.placed.own n b at).apart.place_within x.o x.place.place holds.place.place);
    free = λ w y kept same.
        let name = (fit.placed.own n b at).apart.places w x.o x.place.place
        (((fit.placed.own n b at).versions w y kept).place.place ∙ ap Some same) holds.place.place in
        none-some y (sym fresh_here ∙ ap (get b.versions.versions) (sym name) ∙ kept);
    fresh = fresh_here;
  }

  -- over another version it has no storage
  pub open_bare : OpensBare x
  open_bare f follows over = no_storage x.storage (law.bare f follows over)

  before : (f : Follow) → x.follows ≡ Some f → IsInNoOther (bank_versions u.banks.items) n f.version
  before f follows =
      version_alone u fit n b at f.version
      (λ y e. ap (bank_of u.machine.sizes) (law.follows f y follows e).object ∙ sym of_object)

  -- the version that it follows is registered
  pub open_not_blocked : can_open (versions_of b.versions.versions) (opening_of x) ≡ false → ⊥
  unfolding is_enabled
  open_not_blocked blocked =
      true≢false
      (sym may
      ∙ ap (can_open_message (state_of u)) opens
      ∙ can_open_in_bank (bank_versions u.banks.items) n (opening_of x) before
      ∙ ap (λ m. can_open m (opening_of x)) (versions_here u.machine.sizes u.banks.items fit.placed.versions n b at)
      ∙ blocked)

  open_event : IsRowEvent u n b (event.Open o) (kept_after_open b.versions.versions x)
      (after_open (state_of u).versions o (opening_of x))
      (after_open (versions_of b.versions.versions) o (opening_of x))
  unfolding after_event
  open_event = record {
    row =
        subst (λ m. IsRowOf u.machine.sizes (bank_versions u.banks.items) n
        (after_open (state_of u).versions o (opening_of x)) (after_open m o (opening_of x)))
        (versions_here u.machine.sizes u.banks.items fit.placed.versions n b at)
        (open_in_bank u.machine.sizes (bank_versions u.banks.items) fit.placed.versions n (bank_number u fit n b at)
        (links_here u fit n b at) o (opening_of x)
        (version_alone u fit n b at o (λ y e. absurd (none-some y (sym law.fresh ∙ e)))) (sym of_object) before);
    after = ap (open_message_taken (without (state_of u) (event.Open o)) o) opens;
    sends = ap (open_sends (state_of u) o) opens;
    letters =
        placed_fewer (ground_of u) (remove u.mail.opens o) u.mail.gones u.mail.decodes fit.placed
        (λ q y e. (from_removed name_order u.mail.opens o q y e).1) (λ v y e. e) (λ k. refl);
    size = refl;
    tokens =
        open_known (HoldsIn u.machine.sizes n b.renaming) (HoldsBuffer b.renaming) b.versions.versions x
        (held_here u fit n b at) (record {
          place = record { place = holds.place; own = sym of_object };
          buffer =
              store_held x.storage x.buffer x.o (HoldsBuffer b.renaming)
              (λ k e. own_by o (opening_of x) x.follows law.form k e ∙ sym own) holds.buffer;
        });
  }

  -- what the call leaves and sends is the event
  pub open_done : (new : VersionsState) (sent : List Message)
      → IsCalled b.versions new sent (kept_after_open b.versions.versions x)
      (after_open (versions_of b.versions.versions) x.o (opening_of x))
      → (left : MailState) → left ≡ without_letter u.mail (event.Open o)
      → mail_of left ≡ taken (mail_of u.mail) (event.Open o) → IsDone u n b (event.Open o) new sent left
  open_done new sent called left others took =
      row_done u fit n b at (event.Open o) may (kept_after_open b.versions.versions x)
      (after_open (state_of u).versions o (opening_of x))
      (after_open (versions_of b.versions.versions) o (opening_of x)) open_event new sent
      (subst (λ o. IsCalled b.versions new sent (kept_after_open b.versions.versions x)
      (after_open (versions_of b.versions.versions) o (opening_of x))) own called)
      left others took
