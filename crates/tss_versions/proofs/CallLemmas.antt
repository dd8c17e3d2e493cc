-- What each call leaves of the versions with their tokens is what its row leaves of the definitions' versions.
use Rattle.std.proofs.Common.{◌≡◌, suc, Bool, true, false, [], ◌∷◌, ◌++◌, Option, Some, None, refl, sym, ap, subst, ◌∙◌, option_map}
use Rattle.std.specs.Prelude.{not}
use Rattle.std.specs.FinMap.{get, insert}
use Rattle.std.proofs.lemmas.List.{map-append}
use Rattle.tss_base.specs.declared.operand.OpName.{OpName}
use Rattle.tss_base.specs.declared.operand.Mode.{Mode}
use Rattle.tss_base.specs.declared.operand.Mode.TheVariants.{Input, Output, Inout}
use Rattle.tss_base.specs.declared.operand.Storage.{Storage}
use Rattle.tss_base.specs.declared.operand.Storage.TheVariants as storage
use Rattle.tss_base.specs.declared.marks.How.{How}
use Rattle.tss_base.specs.declared.marks.How.TheVariants.{Beside, Over}
use Rattle.tss_base.specs.declared.marks.Follow.{Follow}
use Rattle.tss_base.specs.Names.{Named}
use Rattle.tss_maps.proofs.Keys.{name_order}
use Rattle.tss_maps.proofs.Changes.{at_inserted, beside_inserted, apart_absent}
use Rattle.tss_tokens.specs.Pool.{TokenState}
use Rattle.tss_protocol.specs.State.{Version}
use Rattle.tss_protocol.specs.Mail as mail
use Rattle.tss_protocol.specs.Versions.{sending, change_version, new_version, first_version, opened_first, opened_how, followed, enlisted, used_alone, used_behind, used_at, after_use, head_ready, released_by, released_at, after_release, nacked_at, after_nack, is_last, tail_without, settled}
use Rattle.tss_protocol.proofs.SettleCases.{OthersSettled}
use Rattle.tss_events.specs.Events.{storage_name, opening_of, message_of, messages_of}
use Rattle.tss_events.specs.declared.message.Opening.{Opening}
use Rattle.tss_events.specs.declared.message.Message.TheVariants as message
use Rattle.tss_versions.specs.declared.kept.Kept.{Kept}
use Rattle.tss_versions.specs.declared.status.Site.{Site}
use Rattle.tss_versions.specs.declared.status.Status.{Status}
use Rattle.tss_versions.specs.Known.{storage_in, store_by, IsHeld, version_by, version_of, versions_of, first_status, behind_status}
use Rattle.tss_versions.specs.Rows as rows
use Rattle.tss_versions.specs.Rows.{row_of, sending_first, with_status, changed_kept, ready_by, settled_kept, opened_kept, first_kept, linked_kept, behind_kept, ready_beside, followed_kept, enlisted_kept, alone_kept, used_kept, used_by, kept_after_use, head_by, produced_kept, read_kept, leaving_kept, settling_after, kept_after_release, refused_kept, nacked_by, kept_after_nack}
use Rattle.tss_versions.specs.Conditions.{AreChained, MaySettle}
use Rattle.tss_versions.proofs.RowLemmas.{get-versions_of, version_there, insert_row, change_row, ready_row, sending_row}
use Rattle.tss_versions.proofs.SettleLemmas.{settled_row}
use Rattle.tss_versions.proofs.ConditionLemmas.{may_settle_written, others_written, may_settle_followed, others_followed}

-- ---- open

-- a new version has the storage of its message
pub held_storage : (s : Option Storage) (t : Option TokenState) → IsHeld s t → storage_in (store_by s t) ≡ s
held_storage (Some (storage.Buffer place name)) (Some token) same =
    ap (λ p. Some (storage.Buffer p name)) same
held_storage (Some (storage.Buffer place name)) None held = absurd held
held_storage (Some storage.Home) (Some token) held = absurd held
held_storage (Some storage.Home) None held = refl
held_storage None (Some token) held = absurd held
held_storage None None held = refl

module _ (vs : Named Kept) (m : Opening) (held : IsHeld m.storage m.buffer) where
  opened_row : (status : Status) → version_of (opened_kept m status) ≡ version_by (option_map storage_name m.storage) status
  opened_row status = ap (λ s. version_by (option_map storage_name s) status) (held_storage m.storage m.buffer held)

  first_by : (mode : Mode) → version_by (option_map storage_name m.storage) (first_status m.o m.operand.object mode)
      ≡ first_version m.o m.operand.object (option_map storage_name m.storage) mode
  first_by Input = refl
  first_by Output = refl
  first_by Inout = refl

  -- one that follows nothing
  pub first_row : row_of (first_kept vs m) ≡ opened_first (versions_of vs) m.o (opening_of m)
  first_row = λ i. record {
    part =
        insert_row vs m.o (opened_kept m (first_status m.o m.operand.object m.operand.mode))
        (first_version m.o m.operand.object (option_map storage_name m.storage) m.operand.mode)
        (opened_row (first_status m.o m.operand.object m.operand.mode) ∙ first_by m.operand.mode) i;
    sent = ready_row m.o m.o m.storage i;
  }

  module _ (f : Follow) (before : Site) (same : before.name ≡ f.version) where
    abbrev new_kept : Kept
    new_kept = opened_kept m (behind_status m.operand.object (Some before))

    -- one behind another
    pub behind_row : versions_of (behind_kept vs m f before) ≡ followed (versions_of vs) m.o (opening_of m) f
    behind_row =
        change_row (linked_kept m f) (λ p. record p { successor = Some (record f { version = m.o }) }) (λ p. refl)
        (insert vs m.o new_kept) before.name
        ∙ (λ i. change_in (insert_row vs m.o new_kept
        (record (new_version m.operand.object (option_map storage_name m.storage)) { predecessor = Some before.name })
        (opened_row (behind_status m.operand.object (Some before))) i) before.name)
        ∙ ap (λ v. change_in (insert (versions_of vs) m.o
        (record (new_version m.operand.object (option_map storage_name m.storage)) { predecessor = Some v })) v) same
      where
        change_in : Named Version → OpName → Named Version
        change_in ws v = change_version ws v (λ p. record p { successor = Some (record f { version = m.o }) })

    module _ (fresh : get vs m.o ≡ None) (p : Kept) (there : get vs before.name ≡ Some p)
        (chained : AreChained (versions_of vs)) (bare : f.how ≡ Over → m.storage ≡ None) where
      new_absent : get (versions_of vs) m.o ≡ None
      new_absent = get-versions_of vs m.o ∙ ap (option_map version_of) fresh

      before_there : get (versions_of vs) f.version ≡ Some (version_of p)
      before_there = ap (get (versions_of vs)) (sym same) ∙ version_there vs before.name p there

      unstored : f.how ≡ Over → (opening_of m).storage ≡ None
      unstored over = ap (option_map storage_name) (bare over)

      -- the one before may be settled
      pub may_settle_behind : MaySettle (versions_of (behind_kept vs m f before)) before.name
      may_settle_behind =
          subst (MaySettle (versions_of (behind_kept vs m f before))) (sym same)
          (subst (λ ws. MaySettle ws f.version) (sym behind_row)
          (may_settle_followed (versions_of vs) m.o (opening_of m) f new_absent (version_of p) before_there chained unstored))

      others_behind : OthersSettled (versions_of (behind_kept vs m f before)) before.name
      others_behind =
          subst (OthersSettled (versions_of (behind_kept vs m f before))) (sym same)
          (subst (λ ws. OthersSettled ws f.version) (sym behind_row)
          (others_followed (versions_of vs) m.o (opening_of m) f new_absent (version_of p) before_there chained unstored))

      linked_there : (z : Kept) × (get (behind_kept vs m f before) before.name ≡ Some z)
      linked_there =
          let apart = apart_absent vs before.name m.o p there fresh in
          let still = beside_inserted name_order vs m.o new_kept before.name apart ∙ there in (
            linked_kept m f p,
            ap (λ o. get (changed_kept (insert vs m.o new_kept) before.name (linked_kept m f) o) before.name) still
                ∙ at_inserted name_order (insert vs m.o new_kept) before.name (linked_kept m f p),
          )

      how_row : (h : How) → row_of (sending_first (ready_beside m h) (settled_kept (behind_kept vs m f before) before.name))
          ≡ opened_how (versions_of vs) m.o (opening_of m) f h
      how_row h = by h
        where
          settles : row_of (settled_kept (behind_kept vs m f before) before.name)
              ≡ settled (followed (versions_of vs) m.o (opening_of m) f) f.version
          settles =
              settled_row (behind_kept vs m f before) before.name linked_there.0 linked_there.1 may_settle_behind others_behind
              ∙ (λ i. settled (behind_row i) (same i))

          by : (h : How) → row_of (sending_first (ready_beside m h) (settled_kept (behind_kept vs m f before) before.name))
              ≡ opened_how (versions_of vs) m.o (opening_of m) f h
          by Beside =
              sending_row (ready_by m.o m.o m.storage) (settled_kept (behind_kept vs m f before) before.name)
              ∙ (λ i. sending (ready_row m.o m.o m.storage i) (settles i))
          by Over = settles

      -- the whole
      pub followed_row : row_of (followed_kept vs m f before) ≡ opened_how (versions_of vs) m.o (opening_of m) f f.how
      followed_row = how_row f.how

-- ---- use

module _ (vs : Named Kept) (o v : OpName) (x : Kept) where
  alone_row : (b : Bool) → row_of (alone_kept vs o v x b) ≡ used_alone (versions_of vs) o v (version_of x) b
  alone_row true = λ i. record {
    part = insert_row vs v (enlisted_kept x o) (enlisted (version_of x) o) refl i;
    sent = ready_row o v (storage_in x.store) i;
  }
  alone_row false = λ i. record {
    part =
        insert_row vs v (with_status x (record ((enlisted_kept x o).status) { head = Some o }))
        (record (enlisted (version_of x) o) { head = Some o }) refl i;
    sent = [];
  }

  used_row_by : (tail : Option OpName) → row_of (used_kept vs o v x tail) ≡ used_behind (versions_of vs) o v (version_of x) tail
  used_row_by None = alone_row x.status.produced
  used_row_by (Some last) = λ i. record {
    part = insert_row vs v (enlisted_kept x o) (enlisted (version_of x) o) refl i;
    sent = mail.Link last o ∷ [];
  }

used_row_at : (vs : Named Kept) (o v : OpName) (k : Option Kept) →
    row_of (used_by vs o v k) ≡ used_at (versions_of vs) o v (option_map version_of k)
used_row_at vs o v None = refl
used_row_at vs o v (Some x) = used_row_by vs o v x x.status.tail

-- the whole
pub used_row : (vs : Named Kept) (o v : OpName) → row_of (kept_after_use vs o v) ≡ after_use (versions_of vs) o v
used_row vs o v = used_row_at vs o v (get vs v) ∙ ap (used_at (versions_of vs) o v) (sym (get-versions_of vs v))

-- ---- release

module _ (vs : Named Kept) (o v : OpName) (x : Kept) (there : get vs v ≡ Some x) (chained : AreChained (versions_of vs)) where
  -- a version that is written may be settled
  module _ (y : Kept) (before : (version_of y).predecessor ≡ (version_of x).predecessor)
      (after : (version_of y).successor ≡ (version_of x).successor) where
    pub may_settle_put : MaySettle (versions_of (insert vs v y)) v
    may_settle_put =
        subst (λ ws. MaySettle ws v) (sym (insert_row vs v y (version_of y) refl))
        (may_settle_written (versions_of vs) v (version_of x) (version_there vs v x there) chained (version_of y) before after)

    -- and settling it is the definitions'
    pub settled_put : row_of (settled_kept (insert vs v y) v) ≡ settled (insert (versions_of vs) v (version_of y)) v
    settled_put =
        settled_row (insert vs v y) v y (at_inserted name_order vs v y) may_settle_put
        (subst (λ ws. OthersSettled ws v) (sym (insert_row vs v y (version_of y) refl))
        (others_written (versions_of vs) v (version_of x) (version_there vs v x there) chained (version_of y) before after))
        ∙ ap (λ ws. settled ws v) (insert_row vs v y (version_of y) refl)

  -- after a task has left
  pub may_settle_left : (producer : Bool) → MaySettle (versions_of (leaving_kept vs o v x producer).part) v
  may_settle_left true = may_settle_put (with_status x (record (x.status) { produced = true; head = None })) refl refl
  may_settle_left false =
      may_settle_put
      (with_status x (record (x.status) { released = suc x.status.released; tail = tail_without o x.status.tail })) refl refl

  head_row : (head : Option OpName) →
      messages_of (head_by v (storage_in x.store) head ++ message.Bye o false ∷ [])
      ≡ head_ready v (version_of x) head ++ mail.Bye o false ∷ []
  head_row None = refl
  head_row (Some h) =
      map-append message_of (ready_by h v (storage_in x.store)) (message.Bye o false ∷ [])
      ∙ ap (λ ms. ms ++ mail.Bye o false ∷ []) (ready_row h v (storage_in x.store))

  released_row_by : (producer : Bool) →
      row_of (settling_after (leaving_kept vs o v x producer) v) ≡ released_by (versions_of vs) o v (version_of x) producer
  released_row_by true =
      sending_row (produced_kept vs o v x).sent (settled_kept (produced_kept vs o v x).part v)
      ∙ (λ i. sending (head_row x.status.head i)
      (settled_put (with_status x (record (x.status) { produced = true; head = None })) refl refl i))
  released_row_by false =
      sending_row (read_kept vs o v x).sent (settled_kept (read_kept vs o v x).part v)
      ∙ ap (sending (mail.Bye o (not (is_last o x.status.tail)) ∷ []))
      (settled_put (with_status x (record (x.status) { released = suc x.status.released; tail = tail_without o x.status.tail }))
      refl refl)

  -- the whole
  pub released_row : (producer : Bool) → row_of (kept_after_release vs o v producer)
      ≡ after_release (versions_of vs) o (record { version = v; producer = producer })
  released_row producer =
      ap (λ k. row_of (rows.released_by vs o v producer k)) there
      ∙ released_row_by producer
      ∙ ap (released_at (versions_of vs) o v producer) (sym (version_there vs v x there))

  -- ---- nack

  pub nacked_row : row_of (kept_after_nack vs v) ≡ after_nack (versions_of vs) v
  nacked_row =
      ap (λ k. row_of (nacked_by vs v k)) there
      ∙ settled_put (refused_kept x) refl refl
      ∙ ap (nacked_at (versions_of vs) v) (sym (version_there vs v x there))
