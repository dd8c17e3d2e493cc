-- The state where one bank has other renaming tables, and the messages of a renaming event.
use Rattle.std.proofs.Common.{◌≡◌, ℕ, ◌+◌, ◌<◌, ◌≤◌, List, length, set, Some, refl, sym, ap, ◌∙◌, subst, arith}
use Rattle.std.specs.Prelude.{slice_get}
use Rattle.std.specs.Vec.{with_item}
use Rattle.std.proofs.lemmas.List.{length-map}
use Rattle.std.proofs.lemmas.Option.{slice_get_within}
use Rattle.tss_base.specs.declared.event.Event.{Event}
use Rattle.tss_base.specs.Names.{Named}
use Rattle.tss_protocol.specs.Mail as letter
use Rattle.tss_protocol.specs.Mail.{Mail, message_count, taken}
use Rattle.tss_protocol.specs.Renaming.{Tables}
use Rattle.tss_banks.specs.Joined.{joined}
use Rattle.tss_banks.specs.Tables.{joined_tables}
use Rattle.tss_renaming.specs.Bank.{RenamingState, tables_of}
use Rattle.tss_buffers.specs.Contents.{BuffersState}
use Rattle.tss_events.specs.declared.message.Message.{Message}
use Rattle.tss_events.specs.Events.{message_of, messages_of}
use Rattle.tss_mail.specs.Letters.{MailState, mail_of}
use Rattle.tss_conditions.specs.Posting.{sent_by_event, ArePostable, MayPost}
use Rattle.tss_conditions.proofs.Posting.{may_post}
use Rattle.tss_pipeline.specs.declared.units.Units.{Units}
use Rattle.tss_pipeline.specs.declared.bank.Bank.{Bank}
use Rattle.tss_pipeline.specs.State.{bank_tables, contents_of, state_of}
use Rattle.tss_pipeline.specs.Fit.{IsFit}
use Rattle.tss_pipeline.specs.Does.{May}
use Rattle.tss_pipeline.proofs.places.BankChanges.{slice_get-map, tables_set, versions_kept, copies_kept}

-- ---- messages

module _ (u : Units) (fit : IsFit u) (e : Event) (may : May e u) (mail : MailState) (size : mail.size ≡ u.mail.size)
    (letters : mail_of mail ≡ taken (mail_of u.mail) e) (sent : List Message)
    (as_sent : messages_of sent ≡ sent_by_event u.machine (state_of u) e) where
  law : MayPost u.machine (state_of u) e
  law = may_post u.machine fit.reached.image (state_of u) e fit.reached.reached may

  -- the messages of an event may be posted
  pub sent_fresh : ArePostable (mail_of mail) (messages_of sent)
  sent_fresh =
      subst (λ (p : Mail × List letter.Message). ArePostable p.0 p.1) (λ i. (sym letters i, sym as_sent i)) law.fresh

  -- and there is room for them
  pub sent_room : message_count (mail_of mail) + length sent ≤ mail.size
  sent_room =
      let room = law.room in
      let same_mail = ap message_count letters in
      let same_sent = sym (length-map sent message_of) ∙ ap length as_sent in
      let limit = size ∙ fit.sized.mail in
      omega (arith, room, same_mail, same_sent, limit)

-- ---- one bank has other renaming tables

module _ (u : Units) (n : ℕ) (b : Bank) (there : slice_get u.banks.items n ≡ Some b) (r : RenamingState)
    (buffers : BuffersState) (mail : MailState) where
  -- the units with them, and other buffers and messages
  abbrev pub renamed : Units
  renamed = record u {
    banks = with_item u.banks n (record b { renaming = r });
    buffers = buffers;
    mail = mail;
  }

  -- a bank has tables
  pub tables_within : n < length (bank_tables u.banks.items)
  tables_within =
      slice_get_within (bank_tables u.banks.items) n (tables_of b.renaming)
      (slice_get-map (λ (b : Bank). tables_of b.renaming) u.banks.items n b there)

  -- the state, by what the tables, the contents and the messages are
  pub state_renamed : (t : Tables) (contents : Named (List ℕ)) (letters : Mail)
      → joined_tables (set (bank_tables u.banks.items) n (tables_of r)) ≡ t
      → contents_of buffers (set u.banks.items n (record b { renaming = r })) ≡ contents
      → mail_of mail ≡ letters
      → state_of (record u {
        banks = with_item u.banks n (record b { renaming = r });
        buffers = buffers;
        mail = mail;
      })
      ≡ record (state_of u) {
        entries = t.entries;
        places = t.places;
        buffers = t.buffers;
        contents = contents;
        mail = letters;
      }
  state_renamed t contents letters is_tables is_contents is_mail =
      let bs = u.banks.items in
      let own = record b { renaming = r } in
      let all = ap joined_tables (tables_set bs n b own there) ∙ is_tables in
      λ i. record (state_of u) {
        entries = (all i).entries;
        places = (all i).places;
        buffers = (all i).buffers;
        contents = is_contents i;
        versions = joined (versions_kept bs n b own there refl i);
        mail = is_mail i;
        copies = copies_kept 0 bs n b own there refl i;
      }
