-- The event that retires a version, from what it finds to what it leaves.
use Rattle.std.proofs.Common.{◌≡◌, ℕ, ◌+◌, ◌<◌, Bool, true, false, List, [], ◌∷◌, set, Option, Some, None, option_map, refl, sym, ap, ◌∙◌, subst, inl, inr, arith, true≢false}
use Rattle.std.specs.Prelude.{is_some, is_none, slice_get, IsSome, ◌&&◌, not}
use Rattle.std.specs.Vec.{with_item}
use Rattle.std.specs.FinMap.{get, insert, remove}
use Rattle.std.proofs.lemmas.Option.{none-some, same_Some}
use Rattle.tss_base.specs.declared.operand.OpName.{OpName}
use Rattle.tss_base.specs.declared.operand.Storage.{Storage}
use Rattle.tss_base.specs.declared.operand.Storage.TheVariants as storage
use Rattle.tss_base.specs.declared.event.Event.TheVariants as event
use Rattle.tss_maps.proofs.Keys.{name_order}
use Rattle.tss_maps.proofs.Changes.{decide_get, one_value, from_removed}
use Rattle.tss_banks.specs.Joined.{joined}
use Rattle.tss_banks.specs.Tables.{joined_tables}
use Rattle.tss_banks.specs.Versions.{VersionsInBanks, IsRowOf}
use Rattle.tss_banks.proofs.VersionRows.{retire_in_bank}
use Rattle.tss_buffers.specs.declared.copying.Copying.{Copying}
use Rattle.tss_events.specs.declared.message.HeldBuffer.{HeldBuffer}
use Rattle.tss_events.specs.declared.message.Gone.{Gone}
use Rattle.tss_events.specs.declared.message.Message.TheVariants as message
use Rattle.tss_events.specs.Events.{storage_name, messages_of, message_of}
use Rattle.tss_mail.specs.Letters.{MailState, mail_of, with_letter, without_letter}
use Rattle.tss_protocol.specs.Names.{bank_of}
use Rattle.tss_protocol.specs.Mail.{StorageName, Home, Buffer, taken, posted, message_at, message_count, name_of}
use Rattle.tss_protocol.specs.Mail as mail
use Rattle.tss_protocol.specs.State.{Version, CopyState}
use Rattle.tss_protocol.specs.Versions.{after_retire, unchanged, retired}
use Rattle.tss_protocol.specs.Buffers.{can_retire_from, sent_by_retire, copies_after_retire, new_copy}
use Rattle.tss_protocol.specs.UnitMachine.{is_enabled, after_event, can_retire, retire_version, with_sent, without}
use Rattle.tss_renaming.specs.Bank.{RenamingState}
use Rattle.tss_versions.specs.declared.kept.Kept.{Kept}
use Rattle.tss_versions.specs.declared.kept.Store.{Store}
use Rattle.tss_versions.specs.declared.kept.Store.TheVariants as store
use Rattle.tss_versions.specs.Known.{VersionsState, version_of, versions_of, storage_in, buffer_in}
use Rattle.tss_versions.specs.Rows.{gone_by}
use Rattle.tss_conditions.specs.Posting.{retire_sends}
use Rattle.tss_conditions.specs.Retiring.{MayLeave}
use Rattle.tss_conditions.proofs.Retiring.{may_leave, engine_idle}
use Rattle.tss_pipeline.specs.declared.units.Units.{Units}
use Rattle.tss_pipeline.specs.declared.bank.Bank.{Bank}
use Rattle.tss_pipeline.specs.declared.bank.Job.{Job}
use Rattle.tss_pipeline.specs.Registering.{IsBankWith, lies_home, is_home, CanBringHome, BringsHome}
use Rattle.tss_pipeline.specs.State.{state_of, bank_versions, bank_copy, job_copy}
use Rattle.tss_pipeline.specs.Fit.{ground_of, ArePlaced, AreSized, HoldsOwn, IsEngaged, IsFit}
use Rattle.tss_pipeline.specs.Does.{May, Does}
use Rattle.tss_pipeline.proofs.places.Lookups.{versions_here, version_joined, version_own}
use Rattle.tss_pipeline.proofs.places.BankChanges.{tables_kept, versions_set, contents_kept, get-copies_from, copies_set, banks_set}
use Rattle.tss_pipeline.proofs.places.Placing.{placed_beside}
use Rattle.tss_pipeline.proofs.places.Grounds.{does}
use Rattle.tss_pipeline.proofs.version_rows.VersionLookups.{version_alone}
use Rattle.tss_pipeline.proofs.version_rows.VersionTokens.{removed_known, gone_known}
use Rattle.tss_pipeline.proofs.version_rows.VersionSteps.{held_here, bank_number, links_here, mailed, IsRowEvent, IsDone, row_done}
use Rattle.tss_pipeline.proofs.version_rows.VersionEvents.{something, own_of_bank, not_without}

-- ---- a bank's copy

-- a bank has no job exactly where its engine is idle
engaged_none : (x : RenamingState) (c : Option Copying) (j : Option Job) → IsEngaged x c j
    → is_none j ≡ is_none (job_copy c j)
engaged_none x None None h = refl
engaged_none x None (Some j) h = absurd h
engaged_none x (Some c) None h = absurd h
engaged_none x (Some c) (Some j) h = refl

idle_both : (x : RenamingState) (c : Option Copying) (j : Option Job) → IsEngaged x c j → job_copy c j ≡ None
    → (c ≡ None) × (j ≡ None)
idle_both x None None h e = (refl, refl)
idle_both x None (Some j) h e = absurd h
idle_both x (Some c) None h e = absurd h
idle_both x (Some c) (Some j) h e = absurd (none-some _ (sym e))

-- nothing is there where a test says so
pub none_told : {X : Type 0} (o : Option X) (b : Bool) → is_some o ≡ not b → b ≡ is_none o
none_told None true e = refl
none_told None false e = absurd (true≢false (sym e))
none_told (Some x) true e = absurd (true≢false e)
none_told (Some x) false e = refl

from_zero : (n : ℕ) → n ≡ 0 + n
from_zero n = omega arith

-- its copy in the state
pub copy_here : (u : Units) (n : ℕ) (b : Bank) → slice_get u.banks.items n ≡ Some b
    → get (state_of u).copies n ≡ bank_copy b
copy_here u n b at = ap (get (state_of u).copies) (from_zero n) ∙ get-copies_from 0 u.banks.items n b at

-- ---- whether retire may happen

both : (a b : Bool) → (a && b) ≡ true → (a ≡ true) × (b ≡ true)
both true b e = (refl, e)
both false b e = absurd (true≢false (sym e))

-- a version at home may be removed, and one in a buffer where the bank copies nothing
home_may : (s : Option Storage) (c : Option CopyState) → lies_home s ≡ true
    → true ≡ can_retire_from (option_map storage_name s) c
home_may None c home = absurd (true≢false (sym home))
home_may (Some storage.Home) c home = refl
home_may (Some (storage.Buffer place name)) c home = absurd (true≢false (sym home))

away_may : (s : Option Storage) (c : Option CopyState) (t : StorageName) → option_map storage_name s ≡ Some t
    → lies_home s ≡ false → is_none c ≡ can_retire_from (option_map storage_name s) c
away_may None c t stored away = absurd (none-some t stored)
away_may (Some storage.Home) c t stored away = absurd (true≢false away)
away_may (Some (storage.Buffer place name)) c t stored away = refl

module _ (u : Units) (fit : IsFit u) (v : OpName) where
  -- without a message nothing retires
  pub retires_not : is_some (get u.mail.retires v) ≡ false → false ≡ is_enabled u.machine (state_of u) (event.Retire v)
  unfolding is_enabled
  retires_not none = sym (ap (λ b. b && can_retire u.machine (state_of u) (get (state_of u).versions v)) none)

  nowhere : IsBankWith u.banks.items v None → get (state_of u).versions v ≡ None
  nowhere none = elim (decide_get (state_of u).versions v) [
    | inl absent ↦ absent
    | inr there ↦ absurd (not_without u fit v there.0 there.1 none)
  ]

  module _ (sent : is_some (get u.mail.retires v) ≡ true) where
    pub retires_nowhere : IsBankWith u.banks.items v None → false ≡ is_enabled u.machine (state_of u) (event.Retire v)
    unfolding is_enabled
    retires_nowhere none =
        sym (ap (λ b. b && can_retire u.machine (state_of u) (get (state_of u).versions v)) sent
        ∙ ap (can_retire u.machine (state_of u)) (nowhere none))

    leaves : MayLeave (state_of u) v
    leaves =
        let t = something (get u.mail.retires v) sent in
        may_leave u.machine fit.reached.image (state_of u) v fit.reached.reached t.1

    module _ (n : ℕ) (b : Bank) (at : slice_get u.banks.items n ≡ Some b) (k : Kept)
        (kept : get b.versions.versions v ≡ Some k) where
      pub joined_version : get (state_of u).versions v ≡ Some (version_of k)
      joined_version = version_joined u.machine.sizes u.banks.items fit.placed.versions n b at v k kept

      pub own_version : bank_of u.machine.sizes k.status.object ≡ n
      own_version = version_own u.machine.sizes u.banks.items fit.placed.versions n b at v k kept

      -- it has a storage
      pub stored_version : (s : StorageName) × (option_map storage_name (storage_in k.store) ≡ Some s)
      stored_version = (
        leaves.storage,
        ap (λ (x : Version). x.storage)
            (one_value (state_of u).versions v (version_of k) leaves.asks.version joined_version leaves.asks.there)
            ∙ leaves.stored,
      )

      by_storage : can_retire_from (option_map storage_name (storage_in k.store)) (bank_copy b)
          ≡ is_enabled u.machine (state_of u) (event.Retire v)
      unfolding is_enabled
      by_storage =
          ap (can_retire_from (option_map storage_name (storage_in k.store)))
          (sym (copy_here u n b at) ∙ ap (get (state_of u).copies) (sym own_version))
          ∙ ap (can_retire u.machine (state_of u)) (sym joined_version)
          ∙ ap (λ b. b && can_retire u.machine (state_of u) (get (state_of u).versions v)) (sym sent)

      -- at home it may be removed
      pub retires_home : is_home (get b.versions.versions v) ≡ true
          → true ≡ is_enabled u.machine (state_of u) (event.Retire v)
      retires_home home = home_may (storage_in k.store) (bank_copy b) (sym (ap is_home kept) ∙ home) ∙ by_storage

      -- and elsewhere where its bank has no job
      pub retires_away : is_home (get b.versions.versions v) ≡ false
          → is_none b.job ≡ is_enabled u.machine (state_of u) (event.Retire v)
      retires_away away =
          engaged_none b.renaming b.engine b.job (fit.placed.own n b at).engine
          ∙ away_may (storage_in k.store) (bank_copy b) stored_version.0 stored_version.1
          (sym (ap is_home kept) ∙ away)
          ∙ by_storage

-- ---- what retire finds

-- its message is there
pub retire_there : (u : Units) (v : OpName) → May (event.Retire v) u → IsSome (get u.mail.retires v)
unfolding is_enabled
retire_there u v may =
    (both (is_some (get u.mail.retires v)) (can_retire u.machine (state_of u) (get (state_of u).versions v)) may).0

-- a buffer is the storage
buffer_stored : (s : Option Store) (h : HeldBuffer) → buffer_in s ≡ Some h
    → option_map storage_name (storage_in s) ≡ Some (Buffer h.name)
buffer_stored None h e = absurd (none-some h e)
buffer_stored (Some store.Home) h e = absurd (none-some h e)
buffer_stored (Some (store.Buffer held)) h e =
    ap (λ (h : HeldBuffer). Some (Buffer h.name)) (same_Some held h e)

-- without one it is home
home_stored : (s : Option Store) (t : StorageName) → option_map storage_name (storage_in s) ≡ Some t
    → buffer_in s ≡ None → option_map storage_name (storage_in s) ≡ Some Home
home_stored None t stored e = absurd (none-some t stored)
home_stored (Some store.Home) t stored e = refl
home_stored (Some (store.Buffer held)) t stored e = absurd (none-some held (sym e))

-- what is brought home at once
pub brought_now : (b : Bank) (g : Gone) (o : Option HeldBuffer) (r : Gone) (new : Bank) → BringsHome b g o (Some r) new
    → (o ≡ None) × (r ≡ g) × (new ≡ b)
brought_now b g None r new h = (refl, same_Some r g h.0, h.1)
brought_now b g (Some held) r new h = absurd (none-some r (sym h.0))

-- what is copied home
abbrev pub copying_home : Bank → Gone → HeldBuffer → Bank
copying_home b g h = record b {
  engine = Some (record { buffer = h.token; object = g.object; moved = 0 });
  job = Some (record { version = g.version; object = g.object; place = g.place; buffer = h.name });
}

pub brought_later : (b : Bank) (g : Gone) (o : Option HeldBuffer) (new : Bank) → BringsHome b g o None new
    → (h : HeldBuffer) × (o ≡ Some h) × (new ≡ copying_home b g h)
brought_later b g None new h = absurd (none-some g h.0)
brought_later b g (Some held) new h = (held, refl, h.1)

may_bring : (b : Bank) (o : Option HeldBuffer) → ((h : HeldBuffer) → o ≡ Some h → (b.engine ≡ None) × (b.job ≡ None))
    → CanBringHome b o
may_bring b None idle = tt
may_bring b (Some h) idle = idle h refl

module _ (u : Units) (fit : IsFit u) (v : OpName) (may : May (event.Retire v) u) where
  -- some bank has the version
  pub retire_somewhere : IsBankWith u.banks.items v None → ⊥
  retire_somewhere none =
      let l = leaves u fit v (retire_there u v may) in
      not_without u fit v l.asks.version l.asks.there none

  module _ (n : ℕ) (b : Bank) (at : slice_get u.banks.items n ≡ Some b) (has : IsSome (get b.versions.versions v)) where
    abbrev k : Kept
    k = (something (get b.versions.versions v) has).0

    kept : get b.versions.versions v ≡ Some k
    kept = (something (get b.versions.versions v) has).1

    there : get (state_of u).versions v ≡ Some (version_of k)
    there = joined_version u fit v (retire_there u v may) n b at k kept

    own : bank_of u.machine.sizes k.status.object ≡ n
    own = own_version u fit v (retire_there u v may) n b at k kept

    -- where it lies in a buffer, the bank copies nothing
    idle : (h : HeldBuffer) → buffer_in k.store ≡ Some h → (b.engine ≡ None) × (b.job ≡ None)
    idle h e =
        idle_both b.renaming b.engine b.job (fit.placed.own n b at).engine
        (sym (copy_here u n b at)
        ∙ ap (get (state_of u).copies) (sym own)
        ∙ engine_idle u.machine (state_of u) v h.name (version_of k) may there (buffer_stored k.store h e))

    -- the row, in the bank of the version
    row : IsRowOf u.machine.sizes (bank_versions u.banks.items) n (unchanged (after_retire (state_of u).versions v))
        (unchanged (after_retire (versions_of b.versions.versions) v))
    row =
        subst (λ m. IsRowOf u.machine.sizes (bank_versions u.banks.items) n
        (unchanged (after_retire (state_of u).versions v)) (unchanged (after_retire m v)))
        (versions_here u.machine.sizes u.banks.items fit.placed.versions n b at)
        (retire_in_bank u.machine.sizes (bank_versions u.banks.items) fit.placed.versions n (bank_number u fit n b at)
        (links_here u fit n b at) v (version_alone u fit n b at v (own_of_bank u fit n b at v has)))

    module _ (new : VersionsState) (exact : new ≡ record b.versions { versions = remove b.versions.versions v })
        (versions : versions_of new.versions ≡ after_retire (versions_of b.versions.versions) v) (gone : Gone)
        (gone_is : (x : Kept) → get b.versions.versions v ≡ Some x → gone ≡ gone_by v x true) where
      gone_of_kept : gone ≡ gone_by v k true
      gone_of_kept = gone_is k kept

      -- it may be brought home
      pub retire_brings : CanBringHome (record b { versions = new }) gone.buffer
      retire_brings =
          may_bring (record b { versions = new }) gone.buffer
          (λ h e. idle h (sym (ap (λ (g : Gone). g.buffer) gone_of_kept) ∙ e))

      -- ---- at home

      module _ (home : gone.buffer ≡ None) (left : MailState) (others : left ≡ without_letter u.mail (event.Retire v))
          (took : mail_of left ≡ taken (mail_of u.mail) (event.Retire v)) where
        no_buffer : buffer_in k.store ≡ None
        no_buffer = sym (ap (λ (g : Gone). g.buffer) gone_of_kept) ∙ home

        stored_home : option_map storage_name (storage_in k.store) ≡ Some Home
        stored_home =
            let s = stored_version u fit v (retire_there u v may) n b at k kept in
            home_stored k.store s.0 s.1 no_buffer

        abbrev sends_home : List mail.Message
        sends_home = mail.Gone v (retired k.status.object None) ∷ []

        home_event : IsRowEvent u n b (event.Retire v)
            (record { part = remove b.versions.versions v; sent = message.Gone (gone_by v k true) ∷ [] })
            (record { part = after_retire (state_of u).versions v; sent = sends_home })
            (record { part = after_retire (versions_of b.versions.versions) v; sent = sends_home })
        unfolding after_event
        home_event = record {
          row = record { part = row.part; sent = refl; banks = row.banks; links = row.links };
          after =
              ap (retire_version u.machine (without (state_of u) (event.Retire v)) v) there
              ∙ ap (λ s. with_sent (record (without (state_of u) (event.Retire v)) {
                versions = after_retire (state_of u).versions v;
                copies =
                    copies_after_retire (state_of u).copies (bank_of u.machine.sizes k.status.object) v k.status.object
                    s;
              }) (sent_by_retire v k.status.object s)) stored_home;
          sends = ap (retire_sends v) there ∙ ap (sent_by_retire v k.status.object) stored_home;
          letters = fit.placed;
          size = refl;
          tokens = record {
            part = removed_known _ _ b.versions.versions v (held_here u fit n b at);
            sent = (gone_known _ _ v k true (held_here u fit n b at v k kept), tt);
          };
        }

        home_done : IsDone u n b (event.Retire v) new (message.Gone gone ∷ []) left
        home_done =
            row_done u fit n b at (event.Retire v) may
            (record { part = remove b.versions.versions v; sent = message.Gone (gone_by v k true) ∷ [] })
            (record { part = after_retire (state_of u).versions v; sent = sends_home })
            (record { part = after_retire (versions_of b.versions.versions) v; sent = sends_home }) home_event new
            (message.Gone gone ∷ []) (record {
              exact = exact;
              versions = versions;
              messages = ap (λ g. message.Gone g ∷ []) gone_of_kept;
              sent_own =
                  ap (λ g. messages_of (message.Gone g ∷ [])) gone_of_kept
                  ∙ ap (λ (o : Option HeldBuffer). mail.Gone v (record {
                    object = k.status.object;
                    buffer = option_map (λ b. b.name) o;
                    retired = true;
                  }) ∷ []) no_buffer;
            })
            left others took

        -- its message may be posted, and then it is done
        pub home_room : message_count (mail_of left) < left.size
        home_room =
            let room = home_done.room in
            omega (arith, room)

        pub home_fresh : message_at (mail_of left) (name_of (message_of (message.Gone gone))) ≡ None
        home_fresh = home_done.fresh.0

        pub home_does : (m : MailState) → m ≡ with_letter left (message.Gone gone)
            → mail_of m ≡ posted (mail_of left) (message_of (message.Gone gone))
            → Does (event.Retire v) u (record u {
              banks = with_item u.banks n (record b { versions = new });
              mail = m;
            })
        home_does = home_done.does

      -- ---- in a buffer

      module _ (h : HeldBuffer) (held : gone.buffer ≡ Some h) (left : MailState)
          (others : left ≡ without_letter u.mail (event.Retire v))
          (took : mail_of left ≡ taken (mail_of u.mail) (event.Retire v)) where
        in_buffer : buffer_in k.store ≡ Some h
        in_buffer = sym (ap (λ (g : Gone). g.buffer) gone_of_kept) ∙ held

        abbrev copies : Bank
        copies = copying_home (record b { versions = new }) (gone_by v k true) h

        copy_state : state_of (record u { banks = with_item u.banks n copies; mail = left })
            ≡ record (state_of u) {
              versions = joined (set (bank_versions u.banks.items) n (versions_of new.versions));
              mail = mail_of left;
              copies = insert (state_of u).copies (0 + n) (new_copy v k.status.object h.name);
            }
        copy_state i = record (state_of u) {
          entries = (joined_tables (tables_kept u.banks.items n b copies at refl i)).entries;
          places = (joined_tables (tables_kept u.banks.items n b copies at refl i)).places;
          buffers = (joined_tables (tables_kept u.banks.items n b copies at refl i)).buffers;
          contents = contents_kept u.banks.items n b copies at u.buffers refl i;
          versions = joined (versions_set u.banks.items n b copies at i);
          mail = mail_of left;
          copies = copies_set 0 u.banks.items n b copies at i;
        }

        copy_after : after_event u.machine (state_of u) (event.Retire v)
            ≡ record (state_of u) {
              versions = after_retire (state_of u).versions v;
              mail = taken (mail_of u.mail) (event.Retire v);
              copies =
                  insert (state_of u).copies (bank_of u.machine.sizes k.status.object)
                  (new_copy v k.status.object h.name);
            }
        unfolding after_event
        copy_after =
            ap (retire_version u.machine (without (state_of u) (event.Retire v)) v) there
            ∙ ap (λ s. with_sent (record (without (state_of u) (event.Retire v)) {
              versions = after_retire (state_of u).versions v;
              copies =
                  copies_after_retire (state_of u).copies (bank_of u.machine.sizes k.status.object) v k.status.object s;
            }) (sent_by_retire v k.status.object s)) (buffer_stored k.store h in_buffer)

        copy_is : state_of (record u { banks = with_item u.banks n copies; mail = left })
            ≡ after_event u.machine (state_of u) (event.Retire v)
        copy_is =
            copy_state
            ∙ (λ i. record (state_of u) {
              versions =
                  (ap (λ p. joined (set (bank_versions u.banks.items) n p)) versions ∙ sym row.part) i;
              mail = took i;
              copies =
                  insert (state_of u).copies ((sym (from_zero n) ∙ sym own) i) (new_copy v k.status.object h.name);
            })
            ∙ sym copy_after

        copy_sized : AreSized (record u { banks = with_item u.banks n copies; mail = left })
        copy_sized = record {
          limits = fit.sized.limits;
          window = fit.sized.window;
          stations = fit.sized.stations;
          queue = fit.sized.queue;
          workers = fit.sized.workers;
          mail = ap (λ m. m.size) others ∙ fit.sized.mail;
          banks =
              banks_set u.banks.items n b copies at u.machine fit.sized.banks (record {
                bank = (fit.sized.banks.each n b at).bank;
                sizes = (fit.sized.banks.each n b at).sizes;
                versions = ap (λ (s : VersionsState). s.size) exact ∙ (fit.sized.banks.each n b at).versions;
              });
          buffer_banks = fit.sized.buffer_banks;
          buffers = fit.sized.buffers;
          object_bytes = fit.sized.object_bytes;
        }

        copy_own : HoldsOwn copies
        copy_own = record {
          apart = (fit.placed.own n b at).apart;
          versions = λ w y e.
              let there = from_removed name_order b.versions.versions v w y
              (ap (λ (s : VersionsState). get s.versions w) (sym exact) ∙ e) in
              (fit.placed.own n b at).versions w y there.1;
          engine = record {
            place = ((fit.placed.own n b at).versions v k kept).place;
            buffer = ((fit.placed.own n b at).versions v k kept).buffer h in_buffer;
            object = refl;
          };
        }

        copy_placed : ArePlaced (ground_of (record u { banks = with_item u.banks n copies; mail = left }))
        copy_placed =
            subst (λ m. ArePlaced (mailed (record (ground_of u) { banks = set u.banks.items n copies }) m)) (sym others)
            (placed_beside (ground_of u) fit.placed n b copies at refl
            (subst (λ p. VersionsInBanks u.machine.sizes (set (bank_versions u.banks.items) n p)) (sym versions)
            row.banks)
            copy_own)

        -- the bank copies it, and it is done
        pub copy_does : Does (event.Retire v) u (record u {
          banks = with_item u.banks n (copying_home (record b { versions = new }) gone h);
          mail = left;
        })
        copy_does =
            subst (λ g. Does (event.Retire v) u (record u {
              banks = with_item u.banks n (copying_home (record b { versions = new }) g h);
              mail = left;
            })) (sym gone_of_kept)
            (does (event.Retire v) u (record u { banks = with_item u.banks n copies; mail = left }) fit may refl copy_is
            copy_sized copy_placed)
