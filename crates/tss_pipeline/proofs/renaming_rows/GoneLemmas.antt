-- A version is gone: each thing that is left is in its place, since the state after it says that it is held.
use Rattle.std.proofs.Common.{◌≡◌, ℕ, zero, suc, ◌+◌, arith, List, [], ◌∷◌, take, set, Option, Some, None, option_map, refl, sym, ap, ◌∙◌, subst, inl, inr}
use Rattle.std.specs.Prelude.{slice_get}
use Rattle.std.specs.FinMap.{get, remove}
use Rattle.std.specs.Vec.{with_item}
use Rattle.std.proofs.lemmas.Option.{none-some, same_Some}
use Rattle.tss_base.specs.declared.operand.OpName.{OpName}
use Rattle.tss_base.specs.declared.operand.Operand.{Operand}
use Rattle.tss_base.specs.declared.operand.Storage.{Storage}
use Rattle.tss_base.specs.declared.operand.Storage.TheVariants as storage
use Rattle.tss_base.specs.declared.event.Event.TheVariants as event
use Rattle.tss_base.specs.declared.marks.Follow.{Follow}
use Rattle.tss_base.specs.Names.{Named}
use Rattle.tss_maps.proofs.Keys.{name_order}
use Rattle.tss_maps.proofs.Changes.{from_removed, one_value}
use Rattle.tss_maps.proofs.MappedLemmas.{get-mapped}
use Rattle.tss_tokens.specs.Pool.{TokenState}
use Rattle.tss_model.specs.Access.{operands_of}
use Rattle.tss_protocol.specs.Names.{bank_of}
use Rattle.tss_protocol.specs.Mail.{Home, Buffer, OpenContents, taken}
use Rattle.tss_protocol.specs.Renaming.{buffers_after_gone}
use Rattle.tss_protocol.specs.State.{State}
use Rattle.tss_protocol.specs.UnitMachine.{after_event}
use Rattle.tss_banks.specs.Tables.{AreBankTables}
use Rattle.tss_banks.specs.Versions.{VersionsInBanks}
use Rattle.tss_renaming.specs.Bank.{RenamingState, state_after_gone}
use Rattle.tss_versions.specs.declared.kept.Store.{Store}
use Rattle.tss_versions.specs.declared.kept.Store.TheVariants as store
use Rattle.tss_versions.specs.Known.{IsHeld, buffer_in, storage_in, version_of}
use Rattle.tss_events.specs.declared.message.Opening.{Opening}
use Rattle.tss_events.specs.declared.message.HeldBuffer.{HeldBuffer}
use Rattle.tss_events.specs.declared.message.Gone.{Gone}
use Rattle.tss_events.specs.Events.{storage_name, opening_of, gone_of}
use Rattle.tss_mail.specs.Letters.{MailState, mail_of, without_letter}
use Rattle.tss_buffers.specs.declared.copying.Copying.{Copying}
use Rattle.tss_buffers.specs.Copies.{copy_of}
use Rattle.tss_workers.specs.declared.running.Worker.{Worker}
use Rattle.tss_workers.specs.Seen.{busy_of}
use Rattle.tss_conditions.specs.Reached.{Reached}
use Rattle.tss_conditions.specs.Opening.{HasOpenForm}
use Rattle.tss_conditions.proofs.Opening.{registered, openable}
use Rattle.tss_conditions.proofs.Running.{is_running}
use Rattle.tss_conditions.proofs.Copying.{copying}
use Rattle.tss_conditions.proofs.Retiring as retiring
use Rattle.tss_pipeline.specs.declared.units.Units.{Units}
use Rattle.tss_pipeline.specs.declared.bank.Bank.{Bank}
use Rattle.tss_pipeline.specs.declared.bank.Job.{Job}
use Rattle.tss_pipeline.specs.State.{bank_tables, bank_versions, job_copy, state_of}
use Rattle.tss_pipeline.specs.Fit.{IsFit, AreSized, ArePlaced, Ground, ground_of, HoldsApart, HoldsOwn, HoldsPlace, HoldsBuffer, HoldsOpening, HoldsGone, IsEngaged}
use Rattle.tss_pipeline.specs.Does.{May, Does}
use Rattle.tss_pipeline.proofs.places.Grounds.{reached_new, does}
use Rattle.tss_pipeline.proofs.places.Holds.{place_still, buffer_still}
use Rattle.tss_pipeline.proofs.places.BankChanges.{slice_get-map, slice_get-set, tables_set, versions_kept, banks_set, get-copies_from}
use Rattle.tss_pipeline.proofs.places.Lookups.{place_here, buffer_here, version_joined, version_own}
use Rattle.tss_pipeline.proofs.places.Placing.{letters_fewer}
use Rattle.tss_pipeline.proofs.renaming_rows.GoneBanks.{gone_banks, gone_state}
use Rattle.tss_pipeline.proofs.renaming_rows.RenamedPlacing.{placed_renamed, storages_still}

-- ---- maps and lists

-- a buffer that is left was there
left_buffer : (m : Named ℕ) (o : Option OpName) (w : OpName) (p : ℕ) → get (buffers_after_gone m o) w ≡ Some p
    → get m w ≡ Some p
left_buffer m None w p e = e
left_buffer m (Some q) w p e = (from_removed name_order m q w p e).1

-- what stands at a place of as many as were taken of another list
taken_at : {X Y : Type 0} (n : ℕ) (xs : List X) (ys : List Y) (k : ℕ) (x : X) (y : Y) → slice_get (take n xs) k ≡ Some x
    → slice_get ys k ≡ Some y → slice_get (take n ys) k ≡ Some y
taken_at zero [] ys k x y e f = absurd (none-some x e)
taken_at zero (w ∷ ws) ys k x y e f = absurd (none-some x e)
taken_at (suc n) [] ys k x y e f = absurd (none-some x e)
taken_at (suc n) (w ∷ ws) [] k x y e f = absurd (none-some y f)
taken_at (suc n) (w ∷ ws) (z ∷ zs) zero x y e f = f
taken_at (suc n) (w ∷ ws) (z ∷ zs) (suc k) x y e f = taken_at n ws zs k x y e f

-- a number counted from the first
from_first : (k : ℕ) → k ≡ 0 + k
from_first k = omega arith

-- ---- storages

-- a version with this buffer lies in it
stored_in : (s : Option Store) (h : HeldBuffer) → buffer_in s ≡ Some h
    → option_map storage_name (storage_in s) ≡ Some (Buffer h.name)
stored_in None h e = absurd (none-some h e)
stored_in (Some store.Home) h e = absurd (none-some h e)
stored_in (Some (store.Buffer held)) h e = ap (λ (h : HeldBuffer). Some (Buffer h.name)) (same_Some held h e)

-- an open with a buffer's token has a buffer
held_storage : (s : Option Storage) (t : TokenState) → IsHeld s (Some t)
    → (name : OpName) × (option_map storage_name s ≡ Some (Buffer name))
held_storage None t h = absurd h
held_storage (Some storage.Home) t h = absurd h
held_storage (Some (storage.Buffer p name)) t h = (name, refl)

-- home is no buffer
home_apart : (name : OpName) → Some Home ≡ Some (Buffer name) → ⊥
home_apart name e = cc

-- and that is its own
own_storage : (o : OpName) (c : OpenContents) (f : Option Follow) → HasOpenForm o c f → (name : OpName)
    → c.storage ≡ Some (Buffer name) → c.storage ≡ Some (Buffer o)
own_storage o c None form name is = absurd (home_apart name (sym form ∙ is))
own_storage o c (Some f) form name is = elim form [
  | inl over ↦ absurd (none-some (Buffer name) (sym over.2 ∙ is))
  | inr beside ↦ beside.2
]

-- ---- after it

module _ (u : Units) (fit : IsFit u) (v : OpName) (x : Gone) (sent : get u.mail.gones v ≡ Some x) (b : Bank)
    (there : slice_get u.banks.items (bank_of u.machine.sizes x.object) ≡ Some b) (may : May (event.Gone v) u)
    (mail : MailState) (exact : mail ≡ without_letter u.mail (event.Gone v))
    (is_mail : mail_of mail ≡ taken (mail_of u.mail) (event.Gone v)) where
  abbrev n : ℕ
  n = bank_of u.machine.sizes x.object

  abbrev left : RenamingState
  left = state_after_gone b.renaming v (gone_of x)

  abbrev own : Bank
  own = record b { renaming = left }

  abbrev banks : List Bank
  banks = set u.banks.items n own

  abbrev leaver : Units
  leaver = record u { banks = with_item u.banks n own; mail = mail }

  abbrev S : State
  S = state_of leaver

  state_left : S ≡ after_event u.machine (state_of u) (event.Gone v)
  state_left = gone_state u fit v x sent b there mail is_mail

  reached : Reached u.machine fit.reached.image S
  reached = reached_new (event.Gone v) u leaver fit may refl state_left

  -- ---- look-ups in the bank

  own_there : slice_get banks n ≡ Some own
  own_there = slice_get-set u.banks.items n b own there

  tables : AreBankTables u.machine.sizes (bank_tables banks)
  tables =
      subst (AreBankTables u.machine.sizes) (sym (tables_set u.banks.items n b own there))
      (gone_banks u fit v x sent b there)

  versions : VersionsInBanks u.machine.sizes (bank_versions banks)
  versions =
      subst (VersionsInBanks u.machine.sizes) (sym (versions_kept u.banks.items n b own there refl)) fit.placed.versions

  place_left : (w : OpName) (t : TokenState) → get S.places w ≡ Some n → HoldsPlace b.renaming w t → HoldsPlace left w t
  place_left w t at h =
      let p = place_here u.machine.sizes banks tables n own own_there w at in
      place_still b.renaming left refl w t h
      (λ e. p.1 ∙ ap Some (one_value b.renaming.places w p.0 t.place
      (from_removed name_order b.renaming.places v w p.0 p.1).1 e))

  buffer_still_there : (m : OpName) (q : ℕ) → get S.buffers m ≡ Some n → get b.renaming.buffers m ≡ Some q
      → get left.buffers m ≡ Some q
  buffer_still_there m q at e =
      let p = buffer_here u.machine.sizes banks tables n own own_there m at in
      p.1 ∙ ap Some (one_value b.renaming.buffers m p.0 q
      (left_buffer b.renaming.buffers (gone_of x).buffer m p.0 p.1) e)

  buffer_left : (h : HeldBuffer) → get S.buffers h.name ≡ Some n → HoldsBuffer b.renaming h → HoldsBuffer left h
  buffer_left h at holds =
      buffer_still b.renaming left refl h holds (buffer_still_there h.name h.token.place at)

  -- ---- the bank's own

  apart_left : HoldsApart left
  apart_left =
      let h = (fit.placed.own n b there).apart in
      record {
        places = λ o q p e f.
            h.places o q p (from_removed name_order b.renaming.places v o p e).1
            (from_removed name_order b.renaming.places v q p f).1;
        buffers = λ o q p e f.
            h.buffers o q p (left_buffer b.renaming.buffers (gone_of x).buffer o p e)
            (left_buffer b.renaming.buffers (gone_of x).buffer q p f);
        place_within = λ w p e. h.place_within w p (from_removed name_order b.renaming.places v w p e).1;
        buffer_within = λ w p e. h.buffer_within w p (left_buffer b.renaming.buffers (gone_of x).buffer w p e);
      }

  engine_left : (c : Option Copying) (j : Option Job) → get S.copies n ≡ job_copy c j → IsEngaged b.renaming c j
      → IsEngaged left c j
  engine_left None None at h = tt
  engine_left None (Some j) at h = h
  engine_left (Some c) None at h = h
  engine_left (Some c) (Some j) at h =
      let law = copying u.machine fit.reached.image S n (copy_of j.version j.buffer c) reached at in
      record {
        place = place_left j.version j.place law.place h.place;
        buffer = buffer_left (record { name = j.buffer; token = c.buffer }) law.buffer h.buffer;
        object = h.object;
      }

  own_left : HoldsOwn own
  own_left =
      let h = fit.placed.own n b there in
      record {
        apart = apart_left;
        versions = λ w y e.
            let own_bank = version_own u.machine.sizes banks versions n own own_there w y e in
            let law =
            registered u.machine fit.reached.image S w (version_of y) reached
            (version_joined u.machine.sizes banks versions n own own_there w y e) in
            record {
              place = place_left w y.place (law.place ∙ ap Some own_bank) (h.versions w y e).place;
              buffer = λ held f.
                  buffer_left held (law.buffer held.name (stored_in y.store held f) ∙ ap Some own_bank)
                  ((h.versions w y e).buffer held f);
            };
        engine =
            engine_left b.engine b.job
            (ap (get S.copies) (from_first n) ∙ get-copies_from 0 banks n own own_there)
            h.engine;
      }

  -- ---- letters

  opening_at : (o : OpName) (y : Opening) → get u.mail.opens o ≡ Some y → get S.mail.opens o ≡ Some (opening_of y)
  opening_at o y e =
      get-mapped opening_of mail.opens o ∙ ap (λ m. option_map opening_of (get m.opens o)) exact
      ∙ ap (option_map opening_of) e

  opening_left : (o : OpName) (y : Opening) → get u.mail.opens o ≡ Some y → bank_of u.machine.sizes y.operand.object ≡ n
      → HoldsOpening left y
  opening_left o y e own_bank =
      let h = (fit.placed.letters n b there).opens o y e own_bank in
      let name = fit.placed.names.opening o y e in
      let law = openable u.machine fit.reached.image S o (opening_of y) reached (opening_at o y e) in
      record {
        place = place_left y.o y.place (ap (get S.places) name ∙ law.place ∙ ap Some own_bank) h.place;
        buffer = λ t f.
            let held = held_storage y.storage t (subst (IsHeld y.storage) f h.storage) in
            buffer_left (record { name = y.o; token = t })
            (ap (get S.buffers) name
            ∙ law.buffer o (own_storage o (opening_of y) y.follows law.form held.0 held.1)
            ∙ ap Some own_bank)
            (h.buffer t f);
        storage = h.storage;
      }

  gone_at : (w : OpName) (y : Gone) → get (remove u.mail.gones v) w ≡ Some y → get S.mail.gones w ≡ Some (gone_of y)
  gone_at w y e =
      get-mapped gone_of mail.gones w ∙ ap (λ m. option_map gone_of (get m.gones w)) exact ∙ ap (option_map gone_of) e

  gone_left : (w : OpName) (y : Gone) → get (remove u.mail.gones v) w ≡ Some y → bank_of u.machine.sizes y.object ≡ n
      → HoldsGone left y
  gone_left w y e own_bank =
      let was = (from_removed name_order u.mail.gones v w y e).1 in
      let h = (fit.placed.letters n b there).gones w y was own_bank in
      let name = fit.placed.names.going w y was in
      let law = retiring.gone_of u.machine fit.reached.image S w (gone_of y) reached (gone_at w y e) in
      record {
        place = place_left y.version y.place (ap (get S.places) name ∙ law.place ∙ ap Some own_bank) h.place;
        buffer = λ held f.
            buffer_left held
            (law.buffer held.name (ap (option_map (λ (b : HeldBuffer). b.name)) f) ∙ ap Some own_bank)
            (h.buffer held f);
      }

  -- ---- workers

  worker_left : (w : ℕ) (y : Worker) → get u.workers.entries w ≡ Some y → (k : ℕ) (o : Operand) (p : ℕ) (m : OpName)
      → slice_get (operands_of y.task) k ≡ Some o → slice_get y.storages k ≡ Some (storage.Buffer p m)
      → bank_of u.machine.sizes o.object ≡ n → get b.renaming.buffers m ≡ Some p → get left.buffers m ≡ Some p
  worker_left w y e k o p m at stored own_bank held =
      let law =
      is_running u.machine fit.reached.image S w (busy_of y) reached
      (get-mapped busy_of u.workers.entries w ∙ ap (option_map busy_of) e) in
      let named =
      slice_get-map storage_name (take y.task.count y.storages) k (storage.Buffer p m)
      (taken_at y.task.count y.task.operands y.storages k o (storage.Buffer p m) at stored) in
      buffer_still_there m p (law.may.buffers k o m at named ∙ ap Some own_bank) held

  -- ---- all of it

  abbrev with_left : Ground
  with_left = record (ground_of u) { banks = banks; gones = remove u.mail.gones v; decodes = u.mail.decodes }

  placed_left : ArePlaced with_left
  placed_left =
      placed_renamed (ground_of u) fit.placed n b there left (remove u.mail.gones v) u.mail.decodes
      (gone_banks u fit v x sent b there) own_left
      (λ i y other at.
      letters_fewer (ground_of u) with_left i y refl (λ o z e. e)
      (λ w z e. (from_removed name_order u.mail.gones v w z e).1) refl (fit.placed.letters i y at))
      (record { opens = opening_left; gones = gone_left; line = (fit.placed.letters n b there).line })
      (record {
        opening = fit.placed.names.opening;
        going = λ w y e. fit.placed.names.going w y (from_removed name_order u.mail.gones v w y e).1;
      })
      (λ w y e.
      storages_still (ground_of u) fit.placed n b there left (remove u.mail.gones v) u.mail.decodes y
      (worker_left w y e) (fit.placed.workers w y e))

  same_ground : ground_of leaver ≡ with_left
  same_ground = λ i. record with_left { opens = (exact i).opens; gones = (exact i).gones; decodes = (exact i).decodes }

  sized : AreSized leaver
  sized =
      let old = fit.sized.banks.each n b there in
      record {
        limits = fit.sized.limits;
        window = fit.sized.window;
        stations = fit.sized.stations;
        queue = fit.sized.queue;
        workers = fit.sized.workers;
        mail = ap (λ m. m.size) exact ∙ fit.sized.mail;
        banks = banks_set u.banks.items n b own there u.machine fit.sized.banks
            (record { bank = old.bank; sizes = old.sizes; versions = old.versions });
        buffer_banks = fit.sized.buffer_banks;
        buffers = fit.sized.buffers;
        object_bytes = fit.sized.object_bytes;
      }

  -- gone is done
  pub gone_does : Does (event.Gone v) u (record u {
    banks = with_item u.banks (bank_of u.machine.sizes x.object)
        (record b { renaming = state_after_gone b.renaming v (gone_of x) });
    mail = mail;
  })
  gone_does =
      does (event.Gone v) u leaver fit may refl state_left sized (subst ArePlaced (sym same_ground) placed_left)
