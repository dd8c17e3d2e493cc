-- A row of the versioning table in one bank is the event of the machine.
use Rattle.std.proofs.Common.{◌≡◌, ℕ, ◌+◌, ◌<◌, ◌≤◌, List, [], ◌∷◌, length, set, Some, refl, sym, ap, ◌∙◌, subst}
use Rattle.std.specs.Prelude.{slice_get}
use Rattle.std.specs.Vec.{with_item}
use Rattle.std.specs.FinMap.{get}
use Rattle.std.proofs.lemmas.Option.{same_Some, slice_get_within}
use Rattle.std.proofs.lemmas.List.{length-map}
use Rattle.tss_base.specs.declared.range.Range.{Range}
use Rattle.tss_base.specs.declared.operand.OpName.{OpName}
use Rattle.tss_base.specs.declared.machine.Sizes.{Sizes}
use Rattle.tss_base.specs.declared.event.Event.{Event}
use Rattle.tss_maps.proofs.Keys.{name_order}
use Rattle.tss_tokens.specs.Pool.{TokenState}
use Rattle.tss_banks.specs.Joined.{bank, joined}
use Rattle.tss_banks.specs.Tables.{joined_tables}
use Rattle.tss_banks.specs.Versions.{VersionsInBanks, LinksIn, IsRowOf}
use Rattle.tss_banks.proofs.JoinedLemmas.{joined_there}
use Rattle.tss_banks.proofs.VersionRows.{version_in_bank, links_in_bank}
use Rattle.tss_events.specs.declared.message.Message.{Message}
use Rattle.tss_events.specs.declared.message.Message.TheVariants as message
use Rattle.tss_events.specs.Events.{message_of, messages_of}
use Rattle.tss_mail.specs.Letters.{MailState, mail_of, with_letter, without_letter}
use Rattle.tss_protocol.specs.Names.{bank_of}
use Rattle.tss_protocol.specs.Mail.{message_count, posted_all, taken}
use Rattle.tss_protocol.specs.Counts.{message_limit}
use Rattle.tss_protocol.specs.State.{Version}
use Rattle.tss_protocol.specs.Versions.{Versioned}
use Rattle.tss_protocol.specs.UnitMachine.{with_versioned, without, after_event}
use Rattle.tss_versions.specs.Known.{VersionsState, versions_of}
use Rattle.tss_versions.specs.Conditions.{AreChained}
use Rattle.tss_versions.specs.Rows.{Left}
use Rattle.tss_conditions.specs.Posting.{ArePostable, sent_by_event}
use Rattle.tss_conditions.specs.Opening.{IsRegistered}
use Rattle.tss_conditions.proofs.Posting.{may_post}
use Rattle.tss_conditions.proofs.Opening.{registered, links_within}
use Rattle.tss_renaming.specs.Bank.{RenamingState}
use Rattle.tss_pipeline.specs.declared.units.Units.{Units}
use Rattle.tss_pipeline.specs.declared.bank.Bank.{Bank}
use Rattle.tss_pipeline.specs.Letters.{with_letters}
use Rattle.tss_pipeline.specs.State.{state_of, bank_versions}
use Rattle.tss_pipeline.specs.Fit.{Ground, ground_of, ArePlaced, AreSized, HoldsPlace, HoldsBuffer, HoldsGone, HoldsOwn, IsFit}
use Rattle.tss_pipeline.specs.Does.{Does, May}
use Rattle.tss_pipeline.proofs.places.LetterLemmas.{size_with_letter}
use Rattle.tss_pipeline.proofs.places.BankChanges.{slice_get-set, tables_kept, versions_set, contents_kept, copies_kept, banks_set}
use Rattle.tss_pipeline.proofs.places.Lookups.{versions_here, version_own}
use Rattle.tss_pipeline.proofs.places.Placing.{placed_beside, placed_gone}
use Rattle.tss_pipeline.proofs.places.Grounds.{does}
use Rattle.tss_pipeline.proofs.version_rows.VersionTokens.{KnowsAll, KnowsSent, KnowsEach, KnowsLeft}

-- ---- what the versions of a bank are

module _ (u : Units) (fit : IsFit u) (n : ℕ) (b : Bank) (there : slice_get u.banks.items n ≡ Some b) where
  -- a version of the bank's objects stands in the bank
  in_bank : (q : OpName) (x : Version) → get (state_of u).versions q ≡ Some x → bank_of u.machine.sizes x.object ≡ n
      → get (versions_of b.versions.versions) q ≡ Some x
  in_bank q x at own =
      ap (λ m. get m q) (sym (versions_here u.machine.sizes u.banks.items fit.placed.versions n b there))
      ∙ ap (λ i. get (bank (bank_versions u.banks.items) i) q) (sym own)
      ∙ version_in_bank u.machine.sizes (bank_versions u.banks.items) fit.placed.versions q x at

  -- and what stands there is registered, of an object of the bank
  bank_at : (v : OpName) (y : Version) → get (versions_of b.versions.versions) v ≡ Some y
      → get (bank (bank_versions u.banks.items) n) v ≡ Some y
  bank_at v y at =
      ap (λ m. get m v) (versions_here u.machine.sizes u.banks.items fit.placed.versions n b there) ∙ at

  in_state : (v : OpName) (y : Version) → get (versions_of b.versions.versions) v ≡ Some y
      → get (state_of u).versions v ≡ Some y
  in_state v y at =
      joined_there name_order (bank_versions u.banks.items) fit.placed.versions.apart n v y (bank_at v y at)

  own_object : (v : OpName) (y : Version) → get (versions_of b.versions.versions) v ≡ Some y
      → bank_of u.machine.sizes y.object ≡ n
  own_object v y at = fit.placed.versions.own n v y (bank_at v y at)

  -- how it stands there
  standing : (v : OpName) (y : Version) → get (versions_of b.versions.versions) v ≡ Some y
      → IsRegistered u.machine (state_of u) v y
  standing v y at = registered u.machine fit.reached.image (state_of u) v y fit.reached.reached (in_state v y at)

  -- they are settled and chained
  pub chained_here : AreChained (versions_of b.versions.versions)
  chained_here = record {
    settled = λ v y at. (standing v y at).settled;
    before = λ v q y at to.
        let r = (standing v y at).before q to in
        record {
          version = r.version;
          there = in_bank q r.version r.there (ap (bank_of u.machine.sizes) r.object ∙ own_object v y at);
          older = r.older;
        };
    after = λ v y f at to.
        let r = (standing v y at).after f to in
        record {
          version = r.version;
          there = in_bank f.version r.version r.there (ap (bank_of u.machine.sizes) r.object ∙ own_object v y at);
          younger = r.younger;
          bare = r.bare;
        };
  }

  -- the bank is one of the banks
  pub bank_number : n < length (bank_versions u.banks.items)
  bank_number =
      subst (λ k. n < k) (sym (length-map u.banks.items (λ (b : Bank). versions_of b.versions.versions)))
      (slice_get_within u.banks.items n b there)

  -- links stay in it
  pub links_here : LinksIn (bank_versions u.banks.items) n
  links_here =
      let l = links_within u.machine fit.reached.image (state_of u) fit.reached.reached in
      links_in_bank u.machine.sizes (bank_versions u.banks.items) fit.placed.versions
      (record { predecessor = l.predecessor; successor = l.successor }) n

-- ---- tokens

-- the place of a version of a bank's object is held there
pub record HoldsIn (sizes : Sizes) (n : ℕ) (x : RenamingState) (v : OpName) (object : Range) (token : TokenState)
    : Type 0 where
  pub place : HoldsPlace x v token
  pub own : bank_of sizes object ≡ n

module _ (u : Units) (fit : IsFit u) (n : ℕ) (b : Bank) (there : slice_get u.banks.items n ≡ Some b) where
  -- so are those of all versions that stand there
  pub held_here : KnowsAll (HoldsIn u.machine.sizes n b.renaming) (HoldsBuffer b.renaming) b.versions.versions
  held_here v x at = record {
    place = record {
      place = ((fit.placed.own n b there).versions v x at).place;
      own = version_own u.machine.sizes u.banks.items fit.placed.versions n b there v x at;
    };
    buffer = ((fit.placed.own n b there).versions v x at).buffer;
  }

-- what tokens rest on, with these messages
abbrev pub mailed : Ground → MailState → Ground
mailed g m = record g { opens = m.opens; gones = m.gones; decodes = m.decodes }

-- a message that a bank of versions sends comes with tokens of its bank
module _ (g : Ground) (n : ℕ) (b : Bank) (there : slice_get g.banks n ≡ Some b) where
  placed_letter : (m : MailState) (x : Message) → ArePlaced (mailed g m)
      → KnowsSent (HoldsIn g.sizes n b.renaming) (HoldsBuffer b.renaming) x → ArePlaced (mailed g (with_letter m x))
  placed_letter m (message.Decode o operand) placed h = absurd h
  placed_letter m (message.Ack o) placed h = placed
  placed_letter m (message.Open x) placed h = absurd h
  placed_letter m (message.Use o v) placed h = placed
  placed_letter m (message.Ready o v storage) placed h = placed
  placed_letter m (message.Link o next) placed h = placed
  placed_letter m (message.Release o v producer) placed h = placed
  placed_letter m (message.Bye o promised) placed h = placed
  placed_letter m (message.Idle v base count) placed h = placed
  placed_letter m (message.Nack v) placed h = placed
  placed_letter m (message.Retire v) placed h = placed
  placed_letter m (message.Gone x) placed h =
      placed_gone (mailed g m) x placed (λ own at.
      subst (λ (b : Bank). HoldsGone b.renaming x)
      (same_Some b own (sym there ∙ ap (slice_get g.banks) (sym h.place.own) ∙ at))
      (record { place = h.place.place; buffer = h.buffer }))

  pub placed_letters : (m : MailState) (xs : List Message) → ArePlaced (mailed g m)
      → KnowsEach (HoldsIn g.sizes n b.renaming) (HoldsBuffer b.renaming) xs
      → ArePlaced (mailed g (with_letters m xs))
  placed_letters m [] placed h = placed
  placed_letters m (x ∷ xs) placed h = placed_letters (with_letter m x) xs (placed_letter m x placed h.0) h.1

-- letters take no room away
pub size_with_letters : (m : MailState) (xs : List Message) → (with_letters m xs).size ≡ m.size
size_with_letters m [] = refl
size_with_letters m (x ∷ xs) = size_with_letters (with_letter m x) xs ∙ size_with_letter m x

-- ---- one bank with other versions, and another mail

module _ (u : Units) (n : ℕ) (b : Bank) (there : slice_get u.banks.items n ≡ Some b) (vs : VersionsState)
    (mail : MailState) where
  pub state_changed : state_of (record u { banks = with_item u.banks n (record b { versions = vs }); mail = mail })
      ≡ record (state_of u) {
        versions = joined (set (bank_versions u.banks.items) n (versions_of vs.versions));
        mail = mail_of mail;
      }
  state_changed i = record (state_of u) {
    entries = (joined_tables (tables_kept u.banks.items n b (record b { versions = vs }) there refl i)).entries;
    places = (joined_tables (tables_kept u.banks.items n b (record b { versions = vs }) there refl i)).places;
    buffers = (joined_tables (tables_kept u.banks.items n b (record b { versions = vs }) there refl i)).buffers;
    contents = contents_kept u.banks.items n b (record b { versions = vs }) there u.buffers refl i;
    versions = joined (versions_set u.banks.items n b (record b { versions = vs }) there i);
    mail = mail_of mail;
    copies = copies_kept 0 u.banks.items n b (record b { versions = vs }) there refl i;
  }

-- ---- a row

-- a row that a bank of versions does, d with its tokens, is the event: the row of all versions is that of the bank's
-- own, nothing has moved but the event's message, and the tokens are the bank's
pub record IsRowEvent (u : Units) (n : ℕ) (b : Bank) (e : Event) (d : Left) (all own : Versioned) : Type 0 where
  pub row : IsRowOf u.machine.sizes (bank_versions u.banks.items) n all own
  pub after : after_event u.machine (state_of u) e ≡ with_versioned (without (state_of u) e) all
  pub sends : sent_by_event u.machine (state_of u) e ≡ all.sent
  pub letters : ArePlaced (mailed (ground_of u) (without_letter u.mail e))
  pub size : (without_letter u.mail e).size ≡ u.mail.size
  pub tokens : KnowsLeft (HoldsIn u.machine.sizes n b.renaming) (HoldsBuffer b.renaming) d

-- what the call has left and sent
pub record IsCalled (old new : VersionsState) (sent : List Message) (d : Left) (own : Versioned) : Type 0 where
  pub exact : new ≡ record old { versions = d.part }
  pub versions : versions_of new.versions ≡ own.part
  pub messages : sent ≡ d.sent
  pub sent_own : messages_of sent ≡ own.sent

-- the mail takes its messages, and then it is done
pub record IsDone (u : Units) (n : ℕ) (b : Bank) (e : Event) (new : VersionsState) (sent : List Message)
    (left : MailState) : Type 0 where
  pub fresh : ArePostable (mail_of left) (messages_of sent)
  pub room : message_count (mail_of left) + length sent ≤ left.size
  pub does : (mail : MailState) → mail ≡ with_letters left sent
      → mail_of mail ≡ posted_all (mail_of left) (messages_of sent)
      → Does e u (record u { banks = with_item u.banks n (record b { versions = new }); mail = mail })

module _ (u : Units) (fit : IsFit u) (n : ℕ) (b : Bank) (there : slice_get u.banks.items n ≡ Some b) (e : Event)
    (may : May e u) (d : Left) (all own : Versioned) (event : IsRowEvent u n b e d all own) (new : VersionsState)
    (sent : List Message) (called : IsCalled b.versions new sent d own) where
  sends_own : sent_by_event u.machine (state_of u) e ≡ messages_of sent
  sends_own = event.sends ∙ event.row.sent ∙ sym called.sent_own

  module _ (left : MailState) (others : left ≡ without_letter u.mail e) (took : mail_of left ≡ taken (mail_of u.mail) e)
    where
      -- its messages may be posted
      row_fresh : ArePostable (mail_of left) (messages_of sent)
      row_fresh =
          subst (λ m. ArePostable m (messages_of sent)) (sym took)
          (subst (ArePostable (taken (mail_of u.mail) e)) sends_own
          (may_post u.machine fit.reached.image (state_of u) e fit.reached.reached may).fresh)

      left_size : left.size ≡ message_limit u.machine
      left_size = ap (λ m. m.size) others ∙ event.size ∙ fit.sized.mail

      row_room : message_count (mail_of left) + length sent ≤ left.size
      row_room =
          subst (λ k. message_count (mail_of left) + length sent ≤ k) (sym left_size)
          (subst (λ k. message_count (mail_of left) + k ≤ message_limit u.machine)
          (ap length sends_own ∙ length-map sent message_of)
          (subst (λ m. message_count m + length (sent_by_event u.machine (state_of u) e) ≤ message_limit u.machine)
          (sym took) (may_post u.machine fit.reached.image (state_of u) e fit.reached.reached may).room))

      module _ (mail : MailState) (posted : mail ≡ with_letters left sent)
          (seen : mail_of mail ≡ posted_all (mail_of left) (messages_of sent)) where
        row_state : state_of (record u { banks = with_item u.banks n (record b { versions = new }); mail = mail })
            ≡ after_event u.machine (state_of u) e
        row_state =
            state_changed u n b there new mail
            ∙ (λ i. record (state_of u) {
              versions =
                  (ap (λ p. joined (set (bank_versions u.banks.items) n p)) called.versions ∙ sym event.row.part) i;
              mail =
                  (seen
                  ∙ ap (λ m. posted_all m (messages_of sent)) took
                  ∙ ap (posted_all (taken (mail_of u.mail) e)) (called.sent_own ∙ sym event.row.sent)) i;
            })
            ∙ sym event.after

        row_sized : AreSized (record u { banks = with_item u.banks n (record b { versions = new }); mail = mail })
        row_sized = record {
          limits = fit.sized.limits;
          window = fit.sized.window;
          stations = fit.sized.stations;
          queue = fit.sized.queue;
          workers = fit.sized.workers;
          mail = ap (λ m. m.size) posted ∙ size_with_letters left sent ∙ left_size;
          banks =
              banks_set u.banks.items n b (record b { versions = new }) there u.machine fit.sized.banks (record {
                bank = (fit.sized.banks.each n b there).bank;
                sizes = (fit.sized.banks.each n b there).sizes;
                versions = ap (λ (s : VersionsState). s.size) called.exact ∙ (fit.sized.banks.each n b there).versions;
              });
          buffer_banks = fit.sized.buffer_banks;
          buffers = fit.sized.buffers;
          object_bytes = fit.sized.object_bytes;
        }

        row_own : HoldsOwn (record b { versions = new })
        row_own = record {
          apart = (fit.placed.own n b there).apart;
          versions = λ v y at.
              let h = event.tokens.part v y (ap (λ (s : VersionsState). get s.versions v) (sym called.exact) ∙ at) in
              record { place = h.place.place; buffer = h.buffer };
          engine = (fit.placed.own n b there).engine;
        }

        abbrev ground_beside : Ground
        ground_beside = record (ground_of u) { banks = set u.banks.items n (record b { versions = new }) }

        row_placed
            : ArePlaced (ground_of (record u {
              banks = with_item u.banks n (record b { versions = new });
              mail = mail;
            }))
        row_placed =
            let beside = placed_beside (mailed (ground_of u) (without_letter u.mail e)) event.letters n b
            (record b { versions = new }) there refl
            (subst (λ p. VersionsInBanks u.machine.sizes (set (bank_versions u.banks.items) n p)) (sym called.versions)
            event.row.banks)
            row_own in
            subst (λ m. ArePlaced (mailed ground_beside m)) (sym posted)
            (placed_letters ground_beside n (record b { versions = new })
            (slice_get-set u.banks.items n b (record b { versions = new }) there) left sent
            (subst (λ m. ArePlaced (mailed ground_beside m)) (sym others) beside)
            (subst (KnowsEach (HoldsIn u.machine.sizes n b.renaming) (HoldsBuffer b.renaming)) (sym called.messages)
            event.tokens.sent))

        row_does : Does e u (record u { banks = with_item u.banks n (record b { versions = new }); mail = mail })
        row_does =
            does e u (record u { banks = with_item u.banks n (record b { versions = new }); mail = mail }) fit may refl
            row_state row_sized row_placed

      -- and with them it is done
      pub row_done : IsDone u n b e new sent left
      row_done = record { fresh = row_fresh; room = row_room; does = row_does }
