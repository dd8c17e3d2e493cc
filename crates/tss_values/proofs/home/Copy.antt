-- What stands at home after a copy: it writes in the object that is copied alone, which has an entry that retires.
use Rattle.std.proofs.Common.{◌≡◌, ℕ, ◌+◌, ◌≤◌, Bool, true, false, Some, refl, sym, ap, ◌∙◌, subst, inl, inr, arith}
use Rattle.std.specs.Prelude.{is_some}
use Rattle.std.specs.FinMap.{get}
use Rattle.tss_base.specs.declared.range.Range.{Range}
use Rattle.tss_base.specs.declared.operand.OpName.{OpName}
use Rattle.tss_base.specs.declared.machine.Machine.{Machine}
use Rattle.tss_base.specs.declared.event.Event.TheVariants as event
use Rattle.tss_base.specs.Image.{ImageState}
use Rattle.tss_model.specs.Memory.{Memory}
use Rattle.tss_protocol.specs.Mail.{OpenContents, posted_all}
use Rattle.tss_protocol.specs.State.{State, CopyState}
use Rattle.tss_protocol.specs.Buffers.{buffer_bytes, piece_of, home_after_copy, is_last_piece, sent_by_copy}
use Rattle.tss_protocol.specs.UnitMachine.{IsEnabled, is_enabled, after_event, after_copy}
use Rattle.tss_phases.specs.Orderly.{AreOrderly}
use Rattle.tss_phases.proofs.Tests.{something}
use Rattle.tss_locality.proofs.LeftFields.{Leaves-after_event}
use Rattle.tss_control.specs.Entries.{IsGoingHome, HasEntryOf}
use Rattle.tss_program_order.proofs.FlatWrites.{map_put-beside}
use Rattle.tss_program_order.proofs.StoreFrames.{length-piece}
use Rattle.tss_control.proofs.holders.KeepsOrder.{AreOrderly-controlled}
use Rattle.tss_values.proofs.Values.{HasReturns, HasHome, IsInside}
use Rattle.tss_values.proofs.returns.Copy.{copy_object}
use Rattle.tss_values.proofs.home.Kept.{decoded_kept, EntriesStay, stay_absent, later_unclaimed}
use Rattle.tss_values.proofs.home.Beside.{SameByte, LeavesHome, home_left}
use Rattle.tss_control.proofs.rounds.Facts.{Facts}
use Rattle.tss_values.proofs.LiveObjects.{inside_covers, entry_named, one_covered, member_named, going_entry}

module _ (m : Machine) (i : ImageState) (S : State) (facts : Facts m S) (h : HasHome m i facts.ts S) (b : ℕ)
    (c : CopyState) (there : get S.copies b ≡ Some c) (moved : c.moved ≤ c.object.len)
    (after : AreOrderly (after_event m S (event.Copy b))) where
  open facts use {basis, ts, control as k}

  abbrev T : State
  T = after_event m S (event.Copy b)

  home : T.home ≡ home_after_copy S.home c (buffer_bytes S.contents c.buffer)
  unfolding after_event
  home = ap (λ x. (after_copy S b x).home) there

  opens_by : (last : Bool) → (posted_all S.mail (sent_by_copy c last)).opens ≡ S.mail.opens
  opens_by true = refl
  opens_by false = refl

  opens : T.mail.opens ≡ S.mail.opens
  unfolding after_event
  opens = ap (λ x. (after_copy S b x).mail.opens) there ∙ opens_by (is_last_piece c)

  -- beside the object that is copied home is left
  beside : (a : ℕ) → (IsInside c.object a → ⊥) → SameByte S T a
  beside a out =
      let bytes = buffer_bytes S.contents c.buffer in
      let count = length-piece c bytes in
      ap (λ (h : Memory). get h.bytes a) home
      ∙ map_put-beside S.home.bytes (c.object.base + c.moved) (piece_of c bytes) a
      (λ low high. out (omega (arith, low), omega (arith, high, count, moved)))

  goes_home : (x : Range) → c.object ≡ x → IsGoingHome S x c.version
  goes_home x same = inl (b, c, there, refl, same)

  -- the object that is copied has an entry
  own_entry : HasEntryOf S c.object
  own_entry = going_entry m S facts c.version c.object (copy_object m S basis b c there) (goes_home c.object refl)

  -- and no version of it is being opened
  none_opens : (o : OpName) (d : OpenContents) → get S.mail.opens o ≡ Some d → d.operand.object ≡ c.object → ⊥
  none_opens o d at same = by_retiring own_entry.entry.retiring refl
    where
      by_retiring : (r : Bool) → own_entry.entry.retiring ≡ r → ⊥
      by_retiring true on =
          (k.entries.retiring c.object.base own_entry.entry own_entry.there on).no_open o
          (d, at, same ∙ sym own_entry.object)
      by_retiring false off =
          (k.entries.live c.object.base own_entry.entry own_entry.there off).stays c.version
          (inr (goes_home own_entry.entry.object (sym own_entry.object)))

  stay : EntriesStay S T
  stay n e at = (e, ap (λ es. get es n) (λ j. (Leaves-after_event m S (event.Copy b) j).entries) ∙ at, refl)

  leaves : LeavesHome ts S T
  leaves = record {
    main = λ j. (Leaves-after_event m S (event.Copy b) j).main;
    entries = stay_absent S T stay;
    unclaimed = later_unclaimed m S (event.Copy b) refl stay;
    opens = λ o d at. ap (λ os. get os o) (sym opens) ∙ at;
    decoded = λ o p at. decoded_kept m S (event.Copy b) refl k.orderly after o;
    loose = λ a free. beside a (λ inside.
        free c.object.base own_entry.entry own_entry.there
        (subst (λ x. IsInside x a) (sym own_entry.object) inside));
    opening = λ o d at first a inside. beside a (λ also.
        none_opens o d at
        (one_covered m S basis d.operand.object c.object
        (member_named m S facts o d.operand (k.chains.opens o d at).operand o (inr (d, at, refl)))
        (entry_named m S basis c.object own_entry) a (inside_covers d.operand.object a inside)
        (inside_covers c.object a also)));
  }

  home_copied : HasHome m i ts T
  home_copied = home_left m i S T basis k.orderly leaves h

module _ (m : Machine) (i : ImageState) (S : State) (facts : Facts m S) where
  open facts use {ts}

  -- what stands at home after a copy
  pub HasHome-copy : HasReturns m i ts S → HasHome m i ts S → (b : ℕ) → IsEnabled m S (event.Copy b)
      → HasHome m i ts (after_event m S (event.Copy b))
  unfolding is_enabled
  HasHome-copy returns h b on =
      let c = something is_some (get S.copies b) refl on in
      home_copied m i S facts h b c.0 c.1 (returns.within b c.0 c.1)
      (AreOrderly-controlled m S facts (event.Copy b) on)
