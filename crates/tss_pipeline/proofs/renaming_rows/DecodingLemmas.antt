-- An operand is decoded in the bank of its object.
use Rattle.std.proofs.Common.{◌≡◌, ℕ, ◌+◌, ◌*◌, ◌-◌, ◌^◌, ◌<◌, Bool, true, false, List, set, Option, Some, None, is_none, refl, sym, ap, ◌∙◌, subst, inl, inr, length, get_or, arith}
use Rattle.std.specs.Prelude.{slice_get, IsSome}
use Rattle.std.specs.FinMap.{get, remove}
use Rattle.std.specs.Vec.{with_item}
use Rattle.std.proofs.lemmas.Option.{none-some, same_Some}
use Rattle.tss_base.specs.declared.operand.OpName.{OpName}
use Rattle.tss_base.specs.declared.operand.Mode.{Mode}
use Rattle.tss_base.specs.declared.operand.Mode.TheVariants.{Input, Output, Inout}
use Rattle.tss_base.specs.declared.operand.Operand.{Operand}
use Rattle.tss_base.specs.declared.event.Event.TheVariants as event
use Rattle.tss_base.specs.Names.{Named}
use Rattle.tss_maps.proofs.Keys.{name_order}
use Rattle.tss_maps.proofs.Changes.{from_inserted, beside_inserted, apart_absent}
use Rattle.tss_tokens.specs.Pool.{TokenState}
use Rattle.tss_protocol.specs.Names.{bank_of}
use Rattle.tss_protocol.specs.Mail.{taken, posted_all}
use Rattle.tss_protocol.specs.Renaming.{Tables, takes_place, takes_buffer, places_after_decode, after_decode, decoded_by}
use Rattle.tss_protocol.specs.State.{Entry, Outcome}
use Rattle.tss_protocol.specs.UnitMachine.{is_enabled, after_event, without, can_decode_message, decode_message_taken}
use Rattle.tss_banks.specs.Tables.{tables_at, places_of, buffers_of, joined_tables, AreBankTables, IsRowOfTables}
use Rattle.tss_banks.proofs.BankCounts.{entry_of_own}
use Rattle.tss_banks.proofs.BankLines.{line_left, line_left_elsewhere}
use Rattle.tss_banks.proofs.JoinedLemmas.{alone_absent}
use Rattle.tss_banks.proofs.RenamingRows.{decode_in_bank}
use Rattle.tss_renaming.specs.Bank.{RenamingState, tables_of}
use Rattle.tss_renaming.specs.Holding.{IsFree}
use Rattle.tss_renaming.specs.Decoding.{IsDecoded, decoded_in, wait_here, state_after_decode, letters_by_decode, decode_letter, live_letter, token_at, first_opening, over_opening, beside_opening}
use Rattle.tss_renaming.proofs.BankLemmas.{decoded_tables}
use Rattle.tss_renaming.proofs.DecodedLemmas.{place_held, buffer_held, places_apart, buffers_apart}
use Rattle.tss_events.specs.declared.message.Opening.{Opening}
use Rattle.tss_events.specs.declared.message.Message.{Message}
use Rattle.tss_events.specs.declared.message.Message.TheVariants as message
use Rattle.tss_events.specs.Events.{messages_of}
use Rattle.tss_mail.specs.Letters.{MailState, mail_of, with_letter, without_letter}
use Rattle.tss_buffers.specs.Contents.{BuffersState, HasBuffer}
use Rattle.tss_conditions.specs.Decoding.{IsDecodable}
use Rattle.tss_conditions.specs.Posting.{sent_by_event, decode_sends}
use Rattle.tss_conditions.proofs.Decoding.{decodable}
use Rattle.tss_pipeline.specs.declared.units.Units.{Units}
use Rattle.tss_pipeline.specs.declared.bank.Bank.{Bank}
use Rattle.tss_pipeline.specs.Letters.{with_letters}
use Rattle.tss_pipeline.specs.State.{bank_tables, state_of}
use Rattle.tss_pipeline.specs.Fit.{IsFit, AreSized, IsSized, ArePlaced, Ground, ground_of, HoldsApart, HoldsPlace, HoldsBuffer, HoldsOpening}
use Rattle.tss_pipeline.specs.Unsetting.{without_bytes}
use Rattle.tss_pipeline.specs.Does.{May, Does}
use Rattle.tss_pipeline.proofs.places.Grounds.{does}
use Rattle.tss_pipeline.proofs.places.Holds.{HoldsAll}
use Rattle.tss_pipeline.proofs.places.LetterLemmas.{size_with_letter}
use Rattle.tss_pipeline.proofs.places.BankChanges.{slice_get-set, banks_set}
use Rattle.tss_pipeline.proofs.places.Lookups.{tables_here, no_place_here, no_buffer_here}
use Rattle.tss_pipeline.proofs.places.Placing.{placed_opening}
use Rattle.tss_pipeline.proofs.renaming_rows.RenamingBanks.{bank_there, wait_joined}
use Rattle.tss_pipeline.proofs.renaming_rows.RenamedState.{state_renamed, tables_within}
use Rattle.tss_pipeline.proofs.renaming_rows.RenamedPlacing.{placed_held}
use Rattle.tss_pipeline.proofs.renaming_rows.FreshContents.{contents_fresh}

-- ---- before it

letter_by : (u : Units) (o : OpName) (p : Option Operand) → can_decode_message u.machine (state_of u) o p ≡ true
    → IsSome p
letter_by u o None e = absurd cc
letter_by u o (Some p) e = refl

-- the message is there
pub decode_letter_by : (u : Units) (o : OpName) → May (event.Decode o) u → IsSome (get u.mail.decodes o)
unfolding is_enabled
decode_letter_by u o may = letter_by u o (get u.mail.decodes o) may

-- nothing, where none is said to be
pub none_by : {X : Type 0} (o : Option X) → is_none o ≡ true → o ≡ None
none_by None e = refl
none_by (Some x) e = absurd cc

-- ---- names that are taken

-- what is held is held still
held_more : (m : Named ℕ) (o : OpName) (place : ℕ) (t : Bool) → get m o ≡ None → (w : OpName) (q : ℕ)
    → get m w ≡ Some q → get (places_after_decode m o place t) w ≡ Some q
held_more m o place true new w q e = beside_inserted name_order m o place w (apart_absent m w o q e new) ∙ e
held_more m o place false new w q e = e

-- each is one of so many
within_more : (m : Named ℕ) (size : ℕ) (o : OpName) (place : ℕ) (t : Bool) → (t ≡ true → IsFree m size place)
    → ((w : OpName) (q : ℕ) → get m w ≡ Some q → q < size)
    → (w : OpName) (q : ℕ) → get (places_after_decode m o place t) w ≡ Some q → q < size
within_more m size o place true free within w q e = elim (from_inserted name_order m o place w q e) [
  | inl new ↦ subst (λ q. q < size) (sym new.1) (free refl).within
  | inr old ↦ within w q old.1
]
within_more m size o place false free within w q e = within w q e

-- ---- the letter to the versions

module _ (g : Ground) (m : MailState) (o : OpName) (p : Operand) (own : Bank)
    (there : slice_get g.banks (bank_of g.sizes p.object) ≡ Some own) where
  abbrev posting : MailState → Ground
  posting m = record g { opens = m.opens; gones = m.gones; decodes = m.decodes }

  opening_placed : (x : Opening) → x.operand.object ≡ p.object → HoldsOpening own.renaming x → ArePlaced (posting m)
      → ArePlaced (posting (with_letter m (message.Open x)))
  opening_placed x object holds placed =
      placed_opening (posting m) x placed
      (λ b at. subst (λ (b : Bank). HoldsOpening b.renaming x)
      (same_Some own b (sym there ∙ ap (λ r. slice_get g.banks (bank_of g.sizes r)) (sym object) ∙ at)) holds)

  module _ (place buffer : TokenState) where
    live_placed : (e : Entry) (mode : Mode)
        → (takes_place (Some e) mode ≡ true → HoldsPlace own.renaming o place)
        → (takes_buffer (Some e) mode ≡ true → HoldsBuffer own.renaming (record { name = o; token = buffer }))
        → ArePlaced (posting m) → ArePlaced (posting (with_letter m (live_letter o p e place buffer mode)))
    live_placed e Input holds holds_buffer placed = placed
    live_placed e Inout holds holds_buffer placed =
        opening_placed (over_opening o p e place) refl
        (record { place = holds refl; buffer = λ t f. absurd (none-some t f); storage = tt }) placed
    live_placed e Output holds holds_buffer placed =
        opening_placed (beside_opening o p e place buffer) refl
        (record {
          place = holds refl;
          buffer = λ t f.
              subst (λ t. HoldsBuffer own.renaming (record { name = o; token = t })) (same_Some buffer t f)
              (holds_buffer refl);
          storage = refl;
        })
        placed

    letter_placed : (e : Option Entry)
        → (takes_place e p.mode ≡ true → HoldsPlace own.renaming o place)
        → (takes_buffer e p.mode ≡ true → HoldsBuffer own.renaming (record { name = o; token = buffer }))
        → ArePlaced (posting m) → ArePlaced (posting (with_letter m (decode_letter o p e place buffer)))
    letter_placed None holds holds_buffer placed =
        opening_placed (first_opening o p place) refl
        (record { place = holds refl; buffer = λ t f. absurd (none-some t f); storage = tt }) placed
    letter_placed (Some e) holds holds_buffer placed = live_placed e p.mode holds holds_buffer placed

-- ---- the bank

module _ (u : Units) (fit : IsFit u) (o : OpName) (p : Operand) (sent_for : get u.mail.decodes o ≡ Some p) (b : Bank)
    (k : ℕ) (is : k ≡ bank_of u.machine.sizes p.object) (within : k < length u.banks.items)
    (read : b ≡ get_or u.banks.items k b) where
  there : slice_get u.banks.items (bank_of u.machine.sizes p.object) ≡ Some b
  there = bank_there u.banks.items k (bank_of u.machine.sizes p.object) b is within read

  abbrev number : ℕ
  number = bank_of u.machine.sizes p.object

  abbrev tables : List Tables
  tables = bank_tables u.banks.items

  abbrev entry : Option Entry
  entry = get b.renaming.entries p.object.base

  here : tables_at tables number ≡ tables_of b.renaming
  here = tables_here u.machine.sizes u.banks.items fit.placed.tables number b there

  own_sized : IsSized u.machine number b
  own_sized = fit.sized.banks.each number b there

  law : IsDecodable u.machine (state_of u) o p
  law = decodable u.machine fit.reached.image (state_of u) o p fit.reached.reached sent_for

  -- it waits for nothing
  pub waits_for_nothing : May (event.Decode o) u → wait_here b.renaming o p ≡ None
  waits_for_nothing may =
      none_by (wait_here b.renaming o p) (sym (wait_joined u fit o p b there sent_for) ∙ may)

  -- its name is new
  pub new_place : get b.renaming.places o ≡ None
  new_place = no_place_here u.machine.sizes u.banks.items fit.placed.tables number b there o law.place

  pub new_buffer : get b.renaming.buffers o ≡ None
  new_buffer = no_buffer_here u.machine.sizes u.banks.items fit.placed.tables number b there o law.buffer

  -- its entry has room for a use
  pub room_for_use : (e : Entry) → get b.renaming.entries p.object.base ≡ Some e → e.sent < 2 ^ 32 - 1
  room_for_use e at =
      law.uses p.object.base e
      (entry_of_own u.machine.sizes tables fit.placed.tables p.object.base
      ∙ ap (λ (t : Tables). get t.entries p.object.base) here ∙ at)

  -- a buffer that the bank has after it is one of the machine's
  pub has_buffer : (sent : List Message) (r : RenamingState) → IsDecoded b.renaming r o p sent → (place : ℕ)
      → place < r.sizes.buffers → HasBuffer u.buffers k place
  has_buffer sent r done place held =
      let count = fit.sized.banks.count in
      let banks = fit.sized.buffer_banks in
      let each = fit.sized.buffers in
      let same = ap (λ s. s.sizes.buffers) done.exact in
      let sizes = ap (λ s. s.buffers) own_sized.sizes in
      (omega (arith, within, count, banks), omega (arith, held, same, sizes, each))

  row : IsRowOfTables u.machine.sizes tables number (after_decode u.machine.sizes (joined_tables tables) o p)
      (after_decode u.machine.sizes (tables_at tables number) o p)
  row =
      decode_in_bank u.machine.sizes tables fit.placed.tables o p
      (tables_within u number b there b.renaming u.buffers u.mail)
      (alone_absent name_order (places_of tables) number o law.place)
      (alone_absent name_order (buffers_of tables) number o law.buffer)

  same_row : after_decode u.machine.sizes (tables_at tables number) o p ≡ decoded_in b.renaming o p
  same_row =
      ap (λ t. after_decode u.machine.sizes t o p) here
      ∙ ap (λ n. decoded_by (tables_of b.renaming) o p n entry) (sym own_sized.bank)

  -- what it sends
  pub decode_sent : (sent : List Message) → messages_of sent ≡ (decoded_in b.renaming o p).sent
      → messages_of sent ≡ sent_by_event u.machine (state_of u) (event.Decode o)
  decode_sent sent same =
      same ∙ sym (row.sent ∙ ap (λ (d : Outcome Tables). d.sent) same_row)
      ∙ ap (decode_sends u.machine (state_of u) o) (sym sent_for)

  abbrev after_row : Outcome Tables
  after_row = after_decode u.machine.sizes (joined_tables tables) o p

  after : after_event u.machine (state_of u) (event.Decode o)
      ≡ record (state_of u) {
        entries = after_row.part.entries;
        places = after_row.part.places;
        buffers = after_row.part.buffers;
        mail = posted_all (taken (mail_of u.mail) (event.Decode o)) after_row.sent;
      }
  unfolding after_event
  after = ap (decode_message_taken u.machine (without (state_of u) (event.Decode o)) o) sent_for

  module _ (may : May (event.Decode o) u) (sent : List Message) (r : RenamingState)
      (done : IsDecoded b.renaming r o p sent)
      (as_sent : messages_of sent ≡ (decoded_in b.renaming o p).sent) (mail : MailState)
      (exact : mail ≡ with_letters (without_letter u.mail (event.Decode o)) sent)
      (posted : mail_of mail ≡ posted_all (taken (mail_of u.mail) (event.Decode o)) (messages_of sent)) where
    abbrev left : RenamingState
    left = state_after_decode b.renaming o p entry done.place done.buffer

    abbrev own : Bank
    own = record b { renaming = r }

    abbrev bytes : BuffersState
    bytes = without_bytes u.buffers number (get r.buffers o)

    abbrev opener : Units
    opener = record u { banks = with_item u.banks number own; buffers = bytes; mail = mail }

    same_bank : r.bank ≡ b.renaming.bank
    same_bank i = (done.exact i).bank

    same_part : (after_decode u.machine.sizes (tables_at tables number) o p).part ≡ tables_of r
    same_part =
        ap (λ (d : Outcome Tables). d.part) same_row
        ∙ sym (decoded_tables b.renaming o p done.place done.buffer)
        ∙ ap tables_of (sym done.exact)

    joined_left : joined_tables (set tables number (tables_of r)) ≡ after_row.part
    joined_left = ap (λ t. joined_tables (set tables number t)) (sym same_part) ∙ sym row.part

    banks_left : AreBankTables u.machine.sizes (set tables number (tables_of r))
    banks_left = subst (λ t. AreBankTables u.machine.sizes (set tables number t)) same_part row.banks

    state_left : state_of opener ≡ after_event u.machine (state_of u) (event.Decode o)
    state_left =
        state_renamed u number b there r bytes mail after_row.part (state_of u).contents
        (posted_all (taken (mail_of u.mail) (event.Decode o)) after_row.sent) joined_left
        (contents_fresh u.machine u.buffers u.banks.items fit.sized.banks number b there r same_bank o new_buffer
        (takes_buffer entry p.mode) done.buffer (λ i. (done.exact i).buffers)
        (λ takes. subst (λ s. IsFree b.renaming.buffers s done.buffer) (λ i. (own_sized.sizes i).buffers)
        (done.fresh_buffer takes)))
        (posted ∙ ap (posted_all (taken (mail_of u.mail) (event.Decode o)))
        (as_sent ∙ sym (row.sent ∙ ap (λ (d : Outcome Tables). d.sent) same_row)))
        ∙ sym after

    -- ---- places

    all_held : HoldsAll b.renaming r
    all_held = record {
      bank = same_bank;
      places = λ w q e.
          (λ i. get (done.exact i).places w)
          ∙ held_more b.renaming.places o done.place (takes_place entry p.mode) new_place w q e;
      buffers = λ w q e.
          (λ i. get (done.exact i).buffers w)
          ∙ held_more b.renaming.buffers o done.buffer (takes_buffer entry p.mode) new_buffer w q e;
    }

    apart_left : HoldsApart r
    apart_left =
        let h = (fit.placed.own number b there).apart in
        record {
          places = places_apart b.renaming r o p sent done h.places;
          buffers = buffers_apart b.renaming r o p sent done h.buffers;
          place_within =
              subst (λ (x : RenamingState). (w : OpName) (q : ℕ) → get x.places w ≡ Some q → q < x.sizes.versions)
              (sym done.exact)
              (within_more b.renaming.places b.renaming.sizes.versions o done.place (takes_place entry p.mode)
              done.fresh h.place_within);
          buffer_within =
              subst (λ (x : RenamingState). (w : OpName) (q : ℕ) → get x.buffers w ≡ Some q → q < x.sizes.buffers)
              (sym done.exact)
              (within_more b.renaming.buffers b.renaming.sizes.buffers o done.buffer (takes_buffer entry p.mode)
              done.fresh_buffer h.buffer_within);
        }

    abbrev with_left : Ground
    with_left = record (ground_of u) { banks = set u.banks.items number own }

    abbrev first_mail : MailState
    first_mail = without_letter u.mail (event.Decode o)

    taken_placed : ArePlaced (record with_left { decodes = first_mail.decodes })
    taken_placed =
        placed_held (ground_of u) fit.placed number b there r first_mail.decodes all_held banks_left apart_left
        ((λ i. (done.exact i).line)
        ∙ ap (λ l. remove l o) (fit.placed.letters number b there).line
        ∙ sym (line_left u.machine.sizes number u.mail.decodes o))
        (λ i other.
        line_left_elsewhere u.machine.sizes i u.mail.decodes o p sent_for (λ e. other (sym e)))

    abbrev place_token : TokenState
    place_token = token_at (2 * b.renaming.bank) done.place

    abbrev buffer_token : TokenState
    buffer_token = token_at (2 * b.renaming.bank + 1) done.buffer

    sent_placed : ArePlaced (record with_left {
      opens = (with_letters first_mail (letters_by_decode b.renaming.bank o p entry done.place done.buffer)).opens;
      gones = (with_letters first_mail (letters_by_decode b.renaming.bank o p entry done.place done.buffer)).gones;
      decodes = (with_letters first_mail (letters_by_decode b.renaming.bank o p entry done.place done.buffer)).decodes;
    })
    sent_placed =
        letter_placed with_left first_mail o p own (slice_get-set u.banks.items number b own there) place_token
        buffer_token entry
        (λ takes. record {
          number = ap (λ n. 2 * n) (sym same_bank);
          place = place_held b.renaming r o p sent done takes;
        })
        (λ takes. record {
          number = ap (λ n. 2 * n + 1) (sym same_bank);
          place = buffer_held b.renaming r o p sent done takes;
        })
        taken_placed

    same_mail : mail ≡ with_letters first_mail (letters_by_decode b.renaming.bank o p entry done.place done.buffer)
    same_mail = exact ∙ ap (with_letters first_mail) done.messages

    placed_left : ArePlaced (ground_of opener)
    placed_left =
        subst
        (λ (m : MailState). ArePlaced (record with_left { opens = m.opens; gones = m.gones; decodes = m.decodes }))
        (sym same_mail) sent_placed

    -- ---- sizes

    same_size : mail.size ≡ u.mail.size
    same_size =
        ap (λ m. m.size) same_mail
        ∙ size_with_letter first_mail (decode_letter o p entry place_token buffer_token)

    -- the buffers are as many as they were
    same_sizes : (n : ℕ) (place : Option ℕ)
        → (without_bytes u.buffers n place).banks ≡ u.buffers.banks
        × (without_bytes u.buffers n place).each ≡ u.buffers.each
        × (without_bytes u.buffers n place).object_bytes ≡ u.buffers.object_bytes
    same_sizes n None = (refl, refl, refl)
    same_sizes n (Some place) = (refl, refl, refl)

    sized : AreSized opener
    sized =
        let same = same_sizes number (get r.buffers o) in
        record {
          limits = fit.sized.limits;
          window = fit.sized.window;
          stations = fit.sized.stations;
          queue = fit.sized.queue;
          workers = fit.sized.workers;
          mail = same_size ∙ fit.sized.mail;
          banks = banks_set u.banks.items number b own there u.machine fit.sized.banks (record {
            bank = same_bank ∙ own_sized.bank;
            sizes = (λ i. (done.exact i).sizes) ∙ own_sized.sizes;
            versions = own_sized.versions;
          });
          buffer_banks = same.0 ∙ fit.sized.buffer_banks;
          buffers = same.1 ∙ fit.sized.buffers;
          object_bytes = same.2 ∙ fit.sized.object_bytes;
        }

    -- decode is done
    pub decode_does : (place : Option ℕ) → place ≡ get r.buffers o → (buffers : BuffersState)
        → buffers ≡ without_bytes u.buffers k place
        → Does (event.Decode o) u (record u {
          banks = with_item u.banks k (record b { renaming = r });
          buffers = buffers;
          mail = mail;
        })
    decode_does place of_name buffers without =
        let same = without ∙ (λ i. without_bytes u.buffers (is i) (of_name i)) in
        subst
        (λ (q : ℕ × BuffersState). Does (event.Decode o) u
        (record u { banks = with_item u.banks q.0 own; buffers = q.1; mail = mail }))
        (λ i. (sym is i, sym same i))
        (does (event.Decode o) u opener fit may refl state_left sized placed_left)
