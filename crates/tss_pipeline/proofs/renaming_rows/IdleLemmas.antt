-- A version that asks is answered by the bank of its object.
use Rattle.std.proofs.Common.{◌≡◌, ℕ, Bool, true, false, List, set, Option, Some, None, is_some, option_map, refl, sym, ap, ◌∙◌, subst, length, get_or, ◌<◌}
use Rattle.std.specs.Prelude.{slice_get, IsSome}
use Rattle.std.specs.FinMap.{get}
use Rattle.std.specs.Vec.{with_item}
use Rattle.tss_base.specs.declared.operand.OpName.{OpName}
use Rattle.tss_base.specs.declared.event.Event.TheVariants as event
use Rattle.tss_maps.proofs.MappedLemmas.{get-mapped}
use Rattle.tss_protocol.specs.Mail.{posted_all, taken}
use Rattle.tss_protocol.specs.Renaming.{Tables, may_retire, after_idle}
use Rattle.tss_protocol.specs.UnitMachine.{is_enabled, after_event, without, idle_message_taken}
use Rattle.tss_banks.specs.Tables.{bank_of_base, tables_at, joined_tables, on_entries, AreBankTables, IsRowOfTables}
use Rattle.tss_banks.proofs.RenamingRows.{idle_in_bank}
use Rattle.tss_renaming.specs.Bank.{RenamingState, tables_of, answered}
use Rattle.tss_events.specs.declared.message.Message.{Message}
use Rattle.tss_events.specs.Events.{messages_of}
use Rattle.tss_mail.specs.Letters.{MailState, mail_of, told_idle, without_letter}
use Rattle.tss_conditions.specs.Posting.{sent_by_event, idle_sends}
use Rattle.tss_pipeline.specs.declared.units.Units.{Units}
use Rattle.tss_pipeline.specs.declared.bank.Bank.{Bank}
use Rattle.tss_pipeline.specs.Letters.{with_letters}
use Rattle.tss_pipeline.specs.State.{bank_tables, state_of}
use Rattle.tss_pipeline.specs.Fit.{IsFit, AreSized, Ground, ArePlaced, ground_of}
use Rattle.tss_pipeline.specs.Does.{May, Does}
use Rattle.tss_pipeline.proofs.places.Grounds.{does}
use Rattle.tss_pipeline.proofs.places.BankChanges.{contents_kept, banks_set}
use Rattle.tss_pipeline.proofs.places.Holds.{HoldsAll}
use Rattle.tss_pipeline.proofs.places.Lookups.{tables_here}
use Rattle.tss_pipeline.proofs.renaming_rows.RenamingBanks.{bank_there}
use Rattle.tss_pipeline.proofs.renaming_rows.RenamedState.{state_renamed, tables_within}
use Rattle.tss_pipeline.proofs.renaming_rows.RenamedPlacing.{placed_held}

-- ---- the letter

letter_by : (x : Option (ℕ × ℕ)) → is_some (option_map told_idle x) ≡ true → IsSome x
letter_by None e = absurd cc
letter_by (Some x) e = refl

-- the message is there
pub idle_letter : (u : Units) (v : OpName) → May (event.Idle v) u → IsSome (get u.mail.idles v)
unfolding is_enabled
idle_letter u v may =
    letter_by (get u.mail.idles v) (ap is_some (sym (get-mapped told_idle u.mail.idles v)) ∙ may)

-- an answer has no token, and isn't to be decoded
answer_ground : (g : Ground) (m : MailState) (v : OpName) (a : Bool)
    → record g {
      opens = (with_letters m (answered v a)).opens;
      gones = (with_letters m (answered v a)).gones;
      decodes = (with_letters m (answered v a)).decodes;
    }
    ≡ record g { opens = m.opens; gones = m.gones; decodes = m.decodes }
answer_ground g m v true = refl
answer_ground g m v false = refl

answer_size : (m : MailState) (v : OpName) (a : Bool) → (with_letters m (answered v a)).size ≡ m.size
answer_size m v true = refl
answer_size m v false = refl

-- ---- the bank

module _ (u : Units) (fit : IsFit u) (v : OpName) (base count : ℕ) (asked : get u.mail.idles v ≡ Some (base, count))
    (b : Bank) (k : ℕ) (is : k ≡ bank_of_base u.machine.sizes base) (within : k < length u.banks.items)
    (read : b ≡ get_or u.banks.items k b) where
  there : slice_get u.banks.items (bank_of_base u.machine.sizes base) ≡ Some b
  there = bank_there u.banks.items k (bank_of_base u.machine.sizes base) b is within read

  abbrev number : ℕ
  number = bank_of_base u.machine.sizes base

  abbrev tables : List Tables
  tables = bank_tables u.banks.items

  here : tables_at tables number ≡ tables_of b.renaming
  here = tables_here u.machine.sizes u.banks.items fit.placed.tables number b there

  row : IsRowOfTables u.machine.sizes tables number
      (on_entries (joined_tables tables) (after_idle (joined_tables tables).entries v base count))
      (on_entries (tables_at tables number) (after_idle (tables_at tables number).entries v base count))
  row = idle_in_bank u.machine.sizes tables fit.placed.tables v base count
      (tables_within u number b there b.renaming u.buffers u.mail)

  told : get (mail_of u.mail).idles v ≡ Some (record { base = base; count = count })
  told = get-mapped told_idle u.mail.idles v ∙ ap (option_map told_idle) asked

  same_sent : (after_idle (joined_tables tables).entries v base count).sent
      ≡ (after_idle b.renaming.entries v base count).sent
  same_sent = row.sent ∙ ap (λ (t : Tables). (after_idle t.entries v base count).sent) here

  -- what it sends
  pub idle_sent : (sent : List Message) → messages_of sent ≡ (after_idle b.renaming.entries v base count).sent
      → messages_of sent ≡ sent_by_event u.machine (state_of u) (event.Idle v)
  idle_sent sent same = same ∙ sym same_sent ∙ ap (idle_sends (state_of u) v) (sym told)

  -- ---- after it

  abbrev left : RenamingState
  left = record b.renaming { entries = (after_idle b.renaming.entries v base count).part }

  same_part : (on_entries (tables_at tables number) (after_idle (tables_at tables number).entries v base count)).part
      ≡ tables_of left
  same_part = ap (λ (t : Tables). (on_entries t (after_idle t.entries v base count)).part) here

  abbrev after_tables : Tables
  after_tables = (on_entries (joined_tables tables) (after_idle (joined_tables tables).entries v base count)).part

  joined_left : joined_tables (set tables number (tables_of left)) ≡ after_tables
  joined_left = ap (λ t. joined_tables (set tables number t)) (sym same_part) ∙ sym row.part

  banks_left : AreBankTables u.machine.sizes (set tables number (tables_of left))
  banks_left = subst (λ t. AreBankTables u.machine.sizes (set tables number t)) same_part row.banks

  after : after_event u.machine (state_of u) (event.Idle v)
      ≡ record (state_of u) {
        entries = after_tables.entries;
        mail = posted_all (taken (mail_of u.mail) (event.Idle v))
            (after_idle (joined_tables tables).entries v base count).sent;
      }
  unfolding after_event
  after = ap (idle_message_taken (without (state_of u) (event.Idle v)) v) told

  module _ (may : May (event.Idle v) u) (sent : List Message)
      (answer : sent ≡ answered v (may_retire v count (get b.renaming.entries base)))
      (as_sent : messages_of sent ≡ (after_idle b.renaming.entries v base count).sent) (mail : MailState)
      (exact : mail ≡ with_letters (without_letter u.mail (event.Idle v)) sent)
      (posted : mail_of mail ≡ posted_all (taken (mail_of u.mail) (event.Idle v)) (messages_of sent)) where
    abbrev asker : Units
    asker = record u { banks = with_item u.banks number (record b { renaming = left }); mail = mail }

    state_left : state_of asker ≡ after_event u.machine (state_of u) (event.Idle v)
    state_left =
        state_renamed u number b there left u.buffers mail after_tables (state_of u).contents
        (posted_all (taken (mail_of u.mail) (event.Idle v))
        (after_idle (joined_tables tables).entries v base count).sent)
        joined_left
        (contents_kept u.banks.items number b (record b { renaming = left }) there u.buffers refl)
        (posted ∙ ap (posted_all (taken (mail_of u.mail) (event.Idle v))) (as_sent ∙ sym same_sent))
        ∙ sym after

    all_held : HoldsAll b.renaming left
    all_held = record { bank = refl; places = λ w p e. e; buffers = λ w p e. e }

    same_size : mail.size ≡ u.mail.size
    same_size =
        ap (λ m. m.size) exact
        ∙ ap (λ s. (with_letters (without_letter u.mail (event.Idle v)) s).size) answer
        ∙ answer_size (without_letter u.mail (event.Idle v)) v (may_retire v count (get b.renaming.entries base))

    sized : AreSized asker
    sized =
        let own = fit.sized.banks.each number b there in
        record {
          limits = fit.sized.limits;
          window = fit.sized.window;
          stations = fit.sized.stations;
          queue = fit.sized.queue;
          workers = fit.sized.workers;
          mail = same_size ∙ fit.sized.mail;
          banks = banks_set u.banks.items number b (record b { renaming = left }) there u.machine fit.sized.banks
              (record { bank = own.bank; sizes = own.sizes; versions = own.versions });
          buffer_banks = fit.sized.buffer_banks;
          buffers = fit.sized.buffers;
          object_bytes = fit.sized.object_bytes;
        }

    abbrev with_left : Ground
    with_left = record (ground_of u) { banks = set u.banks.items number (record b { renaming = left }) }

    same_ground : ground_of asker ≡ with_left
    same_ground =
        (λ i. record with_left { opens = (exact i).opens; gones = (exact i).gones; decodes = (exact i).decodes })
        ∙ ap (λ s. record with_left {
          opens = (with_letters (without_letter u.mail (event.Idle v)) s).opens;
          gones = (with_letters (without_letter u.mail (event.Idle v)) s).gones;
          decodes = (with_letters (without_letter u.mail (event.Idle v)) s).decodes;
        }) answer
        ∙ answer_ground with_left (without_letter u.mail (event.Idle v)) v
        (may_retire v count (get b.renaming.entries base))

    placed_left : ArePlaced with_left
    placed_left =
        let h = fit.placed.own number b there in
        placed_held (ground_of u) fit.placed number b there left u.mail.decodes all_held banks_left
        (record {
          places = h.apart.places;
          buffers = h.apart.buffers;
          place_within = h.apart.place_within;
          buffer_within = h.apart.buffer_within;
        })
        (fit.placed.letters number b there).line (λ i other. refl)

    -- idle is done
    pub idle_does : (r : RenamingState)
        → r ≡ record b.renaming { entries = (after_idle b.renaming.entries v base count).part }
        → Does (event.Idle v) u (record u { banks = with_item u.banks k (record b { renaming = r }); mail = mail })
    idle_does r same =
        subst
        (λ (q : ℕ × RenamingState). Does (event.Idle v) u
        (record u { banks = with_item u.banks q.0 (record b { renaming = q.1 }); mail = mail }))
        (λ i. (sym is i, sym same i))
        (does (event.Idle v) u asker fit may refl state_left sized (subst ArePlaced (sym same_ground) placed_left))
