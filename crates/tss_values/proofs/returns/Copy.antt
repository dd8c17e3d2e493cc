-- What is brought home after a copy: the next bytes of the buffer, and after the last ones all of them.
use Rattle.std.proofs.Common.{◌≡◌, ◌≢◌, ℕ, ◌+◌, ◌-◌, ◌<◌, ◌≤◌, ◌⊎◌, nat_le, Bool, true, false, List, length, take, min}
use Rattle.std.proofs.Common.{Some, refl, sym, ap, ◌∙◌, subst, inl, inr, arith}
use Rattle.std.proofs.lemmas.Bool.Decides.{nat_tests}
use Rattle.std.specs.Prelude.{is_some, slice_index}
use Rattle.std.specs.FinMap.{get}
use Rattle.tss_base.specs.declared.range.Range.{Range}
use Rattle.tss_base.specs.declared.operand.OpName.{OpName}
use Rattle.tss_base.specs.declared.operand.Operand.{Operand}
use Rattle.tss_base.specs.declared.machine.Machine.{Machine}
use Rattle.tss_base.specs.declared.event.Event.TheVariants as event
use Rattle.tss_base.specs.Image.{ImageState}
use Rattle.tss_maps.proofs.Keys.{nat_order, name_order}
use Rattle.tss_maps.proofs.Changes.{from_inserted, from_removed}
use Rattle.tss_model.specs.Memory.{byte_at, bytes_of, covers}
use Rattle.tss_model.specs.InOrder.{Started}
use Rattle.tss_protocol.specs.Names.{bank_of}
use Rattle.tss_protocol.specs.Mail.{Buffer, GoneContents, posted_all}
use Rattle.tss_protocol.specs.State.{State, CopyState}
use Rattle.tss_protocol.specs.Versions.{retired}
use Rattle.tss_protocol.specs.Buffers.{buffer_bytes, piece_len, is_last_piece, home_after_copy, copies_after_copy}
use Rattle.tss_protocol.specs.Buffers.{sent_by_copy}
use Rattle.tss_protocol.specs.UnitMachine.{IsEnabled, is_enabled, after_event, after_copy, stores_of}
use Rattle.tss_phases.proofs.Tests.{something}
use Rattle.tss_locality.specs.Rounds.{object_in, IsIn}
use Rattle.tss_locality.proofs.LeftFields.{Leaves-after_event}
use Rattle.tss_control.specs.Entries.{HasEntryOf, IsGoingHome}
use Rattle.tss_program_order.proofs.FlatNames.{covers-meet}
use Rattle.tss_program_order.proofs.StoreRuns.{stored_by}
use Rattle.tss_program_order.proofs.StoreFrames.{copy-beside, copy-moved}
use Rattle.tss_values.proofs.Values.{IsKnown, IsGood, bytes_after, HasReturns}
use Rattle.tss_values.proofs.returns.Returns.{SameAtHome, same_at_home, place_inside}
use Rattle.tss_control.proofs.rounds.Facts.{Basis, Facts}
use Rattle.tss_values.proofs.LiveObjects.{going_entry, going_named}

-- ---- objects of the round

module _ (m : Machine) (S : State) (basis : Basis m S) where
  open basis use {ts, ground}

  -- two named objects share no address, or are one
  pub objects_apart : (x y : Range) → IsIn x S.main.epoch → IsIn y S.main.epoch → x ≢ y → (a : ℕ)
      → covers x a ≡ true → covers y a ≡ false
  objects_apart x y named also apart a inside = by (covers y a) refl
    where
      by : (b : Bool) → covers y a ≡ b → covers y a ≡ false
      by false e = e
      by true e = absurd (apart (ground.round.separate.one x y named also (covers-meet x y a inside e)))

  -- the object of a copy is of the round
  pub copy_object : (bank : ℕ) (c : CopyState) → get S.copies bank ≡ Some c → object_in ts c.version ≡ Some (c.object)
  copy_object bank c at = ground.round.within.named.copies bank c at

  -- and so is that of a gone message
  pub gone_object : (v : OpName) (g : GoneContents) → get S.mail.gones v ≡ Some g → object_in ts v ≡ Some (g.object)
  gone_object v g at =
      let x = ground.round.within.named.mail.gones v g at in
      x.1 ∙ ap Some (sym ((ground.round.within.links v x.0 x.1).mail.gones v g x.1 at).object)

-- ---- an object goes home once

module _ (m : Machine) (S : State) (facts : Facts m S) where
  open facts use {basis, ts, control as k}

  -- of two versions of one object that go home both are its latest
  one_going : (x : Range) (v w : OpName) → object_in ts v ≡ Some x → IsGoingHome S x v → IsGoingHome S x w → v ≡ w
  one_going x v w named a b = by_retiring own.entry.retiring refl
    where
      own : HasEntryOf S x
      own = going_entry m S facts v x named a

      by_retiring : (b : Bool) → own.entry.retiring ≡ b → v ≡ w
      by_retiring true on =
          let r = k.entries.retiring x.base own.entry own.there on in
          r.only v (inr (subst (λ x. IsGoingHome S x v) (sym own.object) a))
          ∙ sym (r.only w (inr (subst (λ x. IsGoingHome S x w) (sym own.object) b)))
      by_retiring false off =
          absurd ((k.entries.live x.base own.entry own.there off).stays v
          (inr (subst (λ x. IsGoingHome S x v) (sym own.object) a)))

-- ---- the event

same_buffer : (a b : OpName) → Buffer a ≡ Buffer b → a ≡ b
same_buffer a b e = cc

whole_piece : (n moved : ℕ) → nat_le n (moved + 64) ≡ true → moved ≤ n → moved + min 64 (n - moved) ≡ n
whole_piece n moved e h = grind (arith, nat_tests)

piece_within : (n moved : ℕ) → moved ≤ n → moved + min 64 (n - moved) ≤ n
piece_within n moved h = grind (arith, nat_tests)

module _ (m : Machine) (i : ImageState) (S : State) (facts : Facts m S) (h : HasReturns m i facts.ts S) (b : ℕ)
    (c : CopyState) (there : get S.copies b ≡ Some c)
    (room : c.object.len ≤ length (buffer_bytes S.contents c.buffer)) where
  open facts use {basis, ts, ground}

  abbrev T : State
  T = after_event m S (event.Copy b)

  abbrev bytes : List ℕ
  bytes = buffer_bytes S.contents c.buffer

  home : T.home ≡ home_after_copy S.home c bytes
  unfolding after_event
  home = ap (λ x. (after_copy S b x).home) there

  contents : T.contents ≡ S.contents
  contents = λ j. (Leaves-after_event m S (event.Copy b) j).contents

  copies : (last : Bool) → is_last_piece c ≡ last → T.copies ≡ copies_after_copy S.copies b c last
  unfolding after_event
  copies last is = ap (λ x. (after_copy S b x).copies) there ∙ ap (copies_after_copy S.copies b c) is

  gones : (last : Bool) → is_last_piece c ≡ last → T.mail.gones ≡ (posted_all S.mail (sent_by_copy c last)).gones
  unfolding after_event
  gones last is =
      ap (λ x. (after_copy S b x).mail.gones) there ∙ ap (λ last. (posted_all S.mail (sent_by_copy c last)).gones) is

  named : IsIn c.object S.main.epoch
  named =
      going_named m S facts c.version c.object (copy_object m S basis b c there) (inl (b, c, there, refl, refl))

  -- another object is left
  pub beside : (x : Range) → IsIn x S.main.epoch → x ≢ c.object → SameAtHome S T x
  beside x also apart a inside =
      ap (λ m. byte_at m a) home
      ∙ copy-beside S.home c bytes a (h.within b c there)
      (objects_apart m S basis x c.object also named apart a inside)

  -- its own bytes come home
  comes : (n : ℕ) → n < c.moved + piece_len c → byte_at T.home (c.object.base + n) ≡ slice_index bytes n
  comes n small =
      ap (λ m. byte_at m (c.object.base + n)) home
      ∙ copy-moved S.home c bytes room (λ n small. h.moved b c n there small) n small

  -- another copy
  other_copy : (q : ℕ) (d : CopyState) → q ≢ b → get S.copies q ≡ Some d → SameAtHome S T d.object
  other_copy q d apart at =
      beside d.object
      (going_named m S facts d.version d.object (copy_object m S basis q d at) (inl (q, d, at, refl, refl)))
      (λ same. apart (sym (ground.places.copied q d at).1 ∙ ap (bank_of m.sizes) same
      ∙ (ground.places.copied b c there).1))

  -- an object that came home
  other_gone : (w : OpName) (d : GoneContents) → get S.mail.gones w ≡ Some d → d.retired ≡ true
      → SameAtHome S T d.object
  other_gone w d at last =
      let named_d = gone_object m S basis w d at in
      let home : IsGoingHome S d.object w = inr (d, at, last, refl) in
      beside d.object (going_named m S facts w d.object named_d home) (λ same.
      let one = one_going m S facts d.object w c.version named_d home
      (inl (b, c, there, refl, sym same)) in
      (ground.places.gones w d at).1 (b, c, there, sym one))

  -- ---- before the last piece

  module _ (is : is_last_piece c ≡ false) where
    abbrev more : CopyState
    more = record c { moved = c.moved + piece_len c }

    from_copies : (q : ℕ) (d : CopyState) → get T.copies q ≡ Some d
        → (d ≡ more) ⊎ ((q ≢ b) × (get S.copies q ≡ Some d))
    from_copies q d at =
        elim (from_inserted nat_order S.copies b more q d (ap (λ m. get m q) (sym (copies false is)) ∙ at)) [
          | inl new ↦ inl new.1
          | inr old ↦ inr old
        ]

    copied_by : (q : ℕ) (d : CopyState) (p : Operand) (s : Started)
        → (d ≡ more) ⊎ ((q ≢ b) × (get S.copies q ≡ Some d)) → IsKnown m i ts d.version p s → IsGood m i s p
        → take d.object.len (buffer_bytes S.contents d.buffer) ≡ bytes_after m i s p
    copied_by q d p s (inl new) known good =
        ap (λ (d : CopyState). take d.object.len (buffer_bytes S.contents d.buffer)) new
        ∙ h.copied b c p s there (subst (λ w. IsKnown m i ts w p s) (ap (λ (d : CopyState). d.version) new) known) good
    copied_by q d p s (inr old) known good = h.copied q d p s old.1 known good

    within_by : (q : ℕ) (d : CopyState) → (d ≡ more) ⊎ ((q ≢ b) × (get S.copies q ≡ Some d)) → d.moved ≤ d.object.len
    within_by q d (inl new) =
        subst (λ (d : CopyState). d.moved ≤ d.object.len) (sym new)
        (piece_within c.object.len c.moved (h.within b c there))
    within_by q d (inr old) = h.within q d old.1

    moved_by : (q : ℕ) (d : CopyState) (n : ℕ) → (d ≡ more) ⊎ ((q ≢ b) × (get S.copies q ≡ Some d)) → n < d.moved
        → byte_at T.home (d.object.base + n) ≡ slice_index (buffer_bytes S.contents d.buffer) n
    moved_by q d n (inl new) small =
        subst (λ (d : CopyState). n < d.moved
        → byte_at T.home (d.object.base + n) ≡ slice_index (buffer_bytes S.contents d.buffer) n) (sym new)
        (comes n) small
    moved_by q d n (inr old) small =
        other_copy q d old.0 old.1 (d.object.base + n) (place_inside d.object n d.moved small (h.within q d old.1))
        ∙ h.moved q d n old.1 small

    returns_more : HasReturns m i ts T
    returns_more = record {
      copied = λ q d p s at known good.
          ap (λ m. take d.object.len (buffer_bytes m d.buffer)) contents
          ∙ copied_by q d p s (from_copies q d at) known good;
      within = λ q d at. within_by q d (from_copies q d at);
      moved = λ q d n at small.
          moved_by q d n (from_copies q d at) small ∙ ap (λ m. slice_index (buffer_bytes m d.buffer) n) (sym contents);
      gone = λ w d p s at last known good.
          let old = ap (λ m. get m w) (sym (gones false is)) ∙ at in
          same_at_home S T d.object (other_gone w d old last) ∙ h.gone w d p s old last known good;
    }

  -- ---- the last piece

  module _ (is : is_last_piece c ≡ true) where
    abbrev gone : GoneContents
    gone = retired c.object (Some c.buffer)

    all_home : take c.object.len bytes ≡ bytes_of T.home c.object
    all_home =
        let whole = whole_piece c.object.len c.moved is (h.within b c there) in
        stored_by (stores_of S) T.home c.object (Buffer c.buffer)
        (λ n same. subst (λ n. c.object.len ≤ length (buffer_bytes S.contents n)) (same_buffer c.buffer n same) room)
        (λ a low high.
        let back : c.object.base + (a - c.object.base) ≡ a = omega (arith, low) in
        sym (comes (a - c.object.base) (omega (arith, low, high, whole)))
        ∙ ap (byte_at T.home) back)

    from_last : (q : ℕ) (d : CopyState) → get T.copies q ≡ Some d → (q ≢ b) × (get S.copies q ≡ Some d)
    from_last q d at = from_removed nat_order S.copies b q d (ap (λ m. get m q) (sym (copies true is)) ∙ at)

    gone_by : (w : OpName) (d : GoneContents) (p : Operand) (s : Started) → get T.mail.gones w ≡ Some d
        → d.retired ≡ true → IsKnown m i ts w p s → IsGood m i s p → bytes_of T.home d.object ≡ bytes_after m i s p
    gone_by w d p s at last known good =
        elim (from_inserted name_order S.mail.gones c.version gone w d (ap (λ m. get m w) (sym (gones true is)) ∙ at)) [
          | inl new ↦
              ap (λ (d : GoneContents). bytes_of T.home d.object) new.1
              ∙ sym all_home
              ∙ h.copied b c p s there (subst (λ w. IsKnown m i ts w p s) new.0 known) good
          | inr old ↦ same_at_home S T d.object (other_gone w d old.1 last) ∙ h.gone w d p s old.1 last known good
        ]

    returns_last : HasReturns m i ts T
    returns_last = record {
      copied = λ q d p s at known good.
          ap (λ m. take d.object.len (buffer_bytes m d.buffer)) contents
          ∙ h.copied q d p s (from_last q d at).1 known good;
      within = λ q d at. h.within q d (from_last q d at).1;
      moved = λ q d n at small.
          let old = from_last q d at in
          other_copy q d old.0 old.1 (d.object.base + n) (place_inside d.object n d.moved small (h.within q d old.1))
          ∙ h.moved q d n old.1 small
          ∙ ap (λ m. slice_index (buffer_bytes m d.buffer) n) (sym contents);
      gone = gone_by;
    }

  returns_by : (last : Bool) → is_last_piece c ≡ last → HasReturns m i ts T
  returns_by true is = returns_last is
  returns_by false is = returns_more is

module _ (m : Machine) (i : ImageState) (S : State) (facts : Facts m S) where
  open facts use {ts}

  -- what is brought home after a copy, where the buffers that are copied have room for their objects
  pub HasReturns-copy : ((bank : ℕ) (c : CopyState) → get S.copies bank ≡ Some c
      → c.object.len ≤ length (buffer_bytes S.contents c.buffer)) → HasReturns m i ts S → (b : ℕ)
      → IsEnabled m S (event.Copy b) → HasReturns m i ts (after_event m S (event.Copy b))
  unfolding is_enabled
  HasReturns-copy room h b on =
      let c = something is_some (get S.copies b) refl on in
      returns_by m i S facts h b c.0 c.1 (room b c.0 c.1) (is_last_piece c.0) refl
