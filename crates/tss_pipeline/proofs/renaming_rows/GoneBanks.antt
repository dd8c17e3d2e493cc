-- What of the banks is left where a version is gone: tables, contents, and the state.
use Rattle.std.proofs.Common.{◌≡◌, ℕ, zero, suc, true, List, [], ◌∷◌, map, set, Option, Some, None, is_some, option_map, option_and_then, refl, sym, ap, ◌∙◌, subst}
use Rattle.std.specs.Prelude.{slice_get, IsSome}
use Rattle.std.specs.FinMap.{get, empty, remove}
use Rattle.std.specs.Vec.{with_item}
use Rattle.std.proofs.lemmas.List.{map-set}
use Rattle.std.proofs.lemmas.Option.{none-some, slice_get_within, get_or_from_slice_get}
use Rattle.tss_base.specs.declared.operand.OpName.{OpName}
use Rattle.tss_base.specs.declared.event.Event.TheVariants as event
use Rattle.tss_base.specs.Names.{name_cmp, Named}
use Rattle.tss_maps.proofs.Keys.{name_order}
use Rattle.tss_maps.proofs.MappedLemmas.{get-mapped}
use Rattle.tss_protocol.specs.Names.{bank_of}
use Rattle.tss_protocol.specs.Mail.{GoneContents, taken}
use Rattle.tss_protocol.specs.Renaming.{Tables, after_gone, buffers_after_gone}
use Rattle.tss_protocol.specs.Buffers.{contents_after_gone}
use Rattle.tss_protocol.specs.UnitMachine.{is_enabled, after_event, without, gone_message_taken}
use Rattle.tss_banks.specs.Joined.{joined, IsInNoOther, HaveKeysOf}
use Rattle.tss_banks.specs.Collected.{collected}
use Rattle.tss_banks.specs.Tables.{tables_at, places_of, buffers_of, joined_tables, silent, AreBankTables, IsRowOfTables}
use Rattle.tss_banks.proofs.BankCounts.{name_alone}
use Rattle.tss_banks.proofs.CollectedLemmas.{get-collected, collected-remove}
use Rattle.tss_banks.proofs.JoinedLemmas.{get-no_bank, joined_remove, alone_within}
use Rattle.tss_banks.proofs.RenamingRows.{gone_in_bank}
use Rattle.tss_renaming.specs.Bank.{RenamingState, tables_of, state_after_gone}
use Rattle.tss_renaming.proofs.BankLemmas.{gone_tables}
use Rattle.tss_events.specs.declared.message.Gone.{Gone}
use Rattle.tss_events.specs.Events.{gone_of}
use Rattle.tss_mail.specs.Letters.{MailState, mail_of}
use Rattle.tss_buffers.specs.Contents.{BuffersState, seat}
use Rattle.tss_conditions.specs.Retiring.{HasGone}
use Rattle.tss_conditions.proofs.Retiring as retiring
use Rattle.tss_pipeline.specs.declared.units.Units.{Units}
use Rattle.tss_pipeline.specs.declared.bank.Bank.{Bank}
use Rattle.tss_pipeline.specs.State.{bank_tables, contents_in, contents_of, state_of}
use Rattle.tss_pipeline.specs.Fit.{IsFit}
use Rattle.tss_pipeline.specs.Does.{May}
use Rattle.tss_pipeline.proofs.places.BankChanges.{slice_get-map, set_there}
use Rattle.tss_pipeline.proofs.places.Lookups.{tables_here}
use Rattle.tss_pipeline.proofs.renaming_rows.RenamedState.{state_renamed, tables_within}

-- ---- contents

from_answer : {X Y : Type 0} (f : X → Option Y) (o : Option X) (y : Y) → option_and_then f o ≡ Some y
    → (x : X) × (o ≡ Some x)
from_answer f None y e = absurd (none-some y e)
from_answer f (Some x) y e = (x, refl)

-- only buffers that are held have contents
pub contents_keys : (buffers : BuffersState) (bs : List Bank)
    → HaveKeysOf (map (contents_in buffers) bs) (buffers_of (bank_tables bs))
contents_keys buffers [] i k y e = absurd (none-some y (sym (get-no_bank name_cmp i k) ∙ e))
contents_keys buffers (b ∷ bs) zero k y e =
    let f = λ (name : OpName) (place : ℕ). get buffers.contents (seat b.renaming.bank place) in
    let has = sym (get-collected name_order f b.renaming.buffers k) ∙ e in
    let held = (from_answer (f k) (get b.renaming.buffers k) y has).1 in (
      b.renaming.bank,
      get-mapped (λ p. b.renaming.bank) b.renaming.buffers k ∙ ap (option_map (λ p. b.renaming.bank)) held,
    )
contents_keys buffers (b ∷ bs) (suc i) k y e = contents_keys buffers bs i k y e

module _ (buffers : BuffersState) (bs : List Bank) (n : ℕ) (b : Bank) (there : slice_get bs n ≡ Some b) where
  abbrev contents : List (Named (List ℕ))
  contents = map (contents_in buffers) bs

  contents_at : slice_get contents n ≡ Some (contents_in buffers b)
  contents_at = slice_get-map (contents_in buffers) bs n b there

  abbrev kept_by : OpName → ℕ → Option (List ℕ)
  kept_by name place = get buffers.contents (seat b.renaming.bank place)

  own_contents_left : (o : Option OpName)
      → collected kept_by (buffers_after_gone b.renaming.buffers o)
      ≡ contents_after_gone (collected kept_by b.renaming.buffers) o
  own_contents_left None = refl
  own_contents_left (Some m) = collected-remove name_order kept_by b.renaming.buffers m

  joined_contents_left : (o : Option OpName)
      → ((m : OpName) → o ≡ Some m → IsInNoOther (buffers_of (bank_tables bs)) n m)
      → joined (set contents n (contents_after_gone (contents_in buffers b) o))
      ≡ contents_after_gone (joined contents) o
  joined_contents_left None only = ap joined (set_there contents n (contents_in buffers b) contents_at)
  joined_contents_left (Some m) only =
      ap (λ c. joined (set contents n (remove c m)))
      (sym (get_or_from_slice_get contents n (contents_in buffers b) empty contents_at))
      ∙ joined_remove name_order contents n (slice_get_within contents n (contents_in buffers b) contents_at) m
      (alone_within contents (buffers_of (bank_tables bs)) (contents_keys buffers bs) n m (only m refl))

  -- the contents without a buffer that is free
  pub contents_left : (v : OpName) (g : GoneContents)
      → ((m : OpName) → g.buffer ≡ Some m → IsInNoOther (buffers_of (bank_tables bs)) n m)
      → contents_of buffers (set bs n (record b { renaming = state_after_gone b.renaming v g }))
      ≡ contents_after_gone (contents_of buffers bs) g.buffer
  contents_left v g only =
      ap joined (map-set (contents_in buffers) bs n (record b { renaming = state_after_gone b.renaming v g })
      ∙ ap (set contents n) (own_contents_left g.buffer))
      ∙ joined_contents_left g.buffer only

-- ---- the letter

letter_by : (o : Option Gone) → is_some (option_map gone_of o) ≡ true → IsSome o
letter_by None e = absurd cc
letter_by (Some x) e = refl

-- the message is there
pub gone_letter : (u : Units) (v : OpName) → May (event.Gone v) u → IsSome (get u.mail.gones v)
unfolding is_enabled
gone_letter u v may = letter_by (get u.mail.gones v) (ap is_some (sym (get-mapped gone_of u.mail.gones v)) ∙ may)

-- ---- tables and state

module _ (u : Units) (fit : IsFit u) (v : OpName) (x : Gone) (sent : get u.mail.gones v ≡ Some x) (b : Bank)
    (there : slice_get u.banks.items (bank_of u.machine.sizes x.object) ≡ Some b) where
  abbrev number : ℕ
  number = bank_of u.machine.sizes x.object

  abbrev tables : List Tables
  tables = bank_tables u.banks.items

  here : tables_at tables number ≡ tables_of b.renaming
  here = tables_here u.machine.sizes u.banks.items fit.placed.tables number b there

  told : get (mail_of u.mail).gones v ≡ Some (gone_of x)
  told = get-mapped gone_of u.mail.gones v ∙ ap (option_map gone_of) sent

  law : HasGone u.machine (state_of u) v (gone_of x)
  law = retiring.gone_of u.machine fit.reached.image (state_of u) v (gone_of x) fit.reached.reached told

  alone_buffer : (m : OpName) → (gone_of x).buffer ≡ Some m → IsInNoOther (buffers_of tables) number m
  alone_buffer m e = name_alone (buffers_of tables) fit.placed.tables.buffers m number (law.buffer m e)

  row : IsRowOfTables u.machine.sizes tables number (silent (after_gone (joined_tables tables) v (gone_of x)))
      (silent (after_gone (tables_at tables number) v (gone_of x)))
  row =
      gone_in_bank u.machine.sizes tables fit.placed.tables v (gone_of x)
      (tables_within u number b there b.renaming u.buffers u.mail)
      (name_alone (places_of tables) fit.placed.tables.places v number law.place) alone_buffer

  abbrev left : RenamingState
  left = state_after_gone b.renaming v (gone_of x)

  same_part : after_gone (tables_at tables number) v (gone_of x) ≡ tables_of left
  same_part = ap (λ t. after_gone t v (gone_of x)) here ∙ sym (gone_tables b.renaming v (gone_of x))

  joined_left : joined_tables (set tables number (tables_of left)) ≡ after_gone (joined_tables tables) v (gone_of x)
  joined_left = ap (λ t. joined_tables (set tables number t)) (sym same_part) ∙ sym row.part

  -- the tables of the banks after it
  pub gone_banks : AreBankTables u.machine.sizes
      (set (bank_tables u.banks.items) (bank_of u.machine.sizes x.object)
      (tables_of (state_after_gone b.renaming v (gone_of x))))
  gone_banks = subst (λ t. AreBankTables u.machine.sizes (set tables number t)) same_part row.banks

  abbrev after_tables : Tables
  after_tables = after_gone (joined_tables tables) v (gone_of x)

  after : after_event u.machine (state_of u) (event.Gone v)
      ≡ record (state_of u) {
        entries = after_tables.entries;
        places = after_tables.places;
        buffers = after_tables.buffers;
        contents = contents_after_gone (state_of u).contents (gone_of x).buffer;
        mail = taken (mail_of u.mail) (event.Gone v);
      }
  unfolding after_event
  after = ap (gone_message_taken (without (state_of u) (event.Gone v)) v) told

  -- the state after it
  pub gone_state : (mail : MailState) → mail_of mail ≡ taken (mail_of u.mail) (event.Gone v)
      → state_of (record u {
        banks = with_item u.banks (bank_of u.machine.sizes x.object)
            (record b { renaming = state_after_gone b.renaming v (gone_of x) });
        mail = mail;
      })
      ≡ after_event u.machine (state_of u) (event.Gone v)
  gone_state mail is_mail =
      state_renamed u number b there left u.buffers mail after_tables
      (contents_after_gone (state_of u).contents (gone_of x).buffer) (taken (mail_of u.mail) (event.Gone v)) joined_left
      (contents_left u.buffers u.banks.items number b there v (gone_of x) alone_buffer) is_mail
      ∙ sym after
