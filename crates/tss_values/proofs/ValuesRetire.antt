-- What is brought home after a retire: the last version has the bytes that its operand leaves in program order.
use Rattle.std.proofs.Common.{◌≡◌, ℕ, ◌+◌, ◌<◌, ◌≤◌, ◌⊎◌, arith, true, List, take, Option, Some, None, refl, sym, ap}
use Rattle.std.proofs.Common.{◌∙◌, subst, inl, inr}
use Rattle.std.specs.Prelude.{is_some, slice_index}
use Rattle.std.specs.FinMap.{get}
use Rattle.std.proofs.lemmas.Bool.{and_parts}
use Rattle.tss_base.specs.declared.operand.OpName.{OpName}
use Rattle.tss_base.specs.declared.operand.Operand.{Operand}
use Rattle.tss_base.specs.declared.operand.Task.{Task}
use Rattle.tss_base.specs.declared.machine.Machine.{Machine}
use Rattle.tss_base.specs.declared.event.Event.TheVariants as event
use Rattle.tss_base.specs.Image.{ImageState}
use Rattle.tss_maps.proofs.Keys.{nat_order, name_order}
use Rattle.tss_maps.proofs.Changes.{from_inserted}
use Rattle.tss_model.specs.Memory.{byte_at, bytes_of}
use Rattle.tss_model.specs.InOrder.{Started}
use Rattle.tss_protocol.specs.Names.{bank_of}
use Rattle.tss_protocol.specs.Mail.{StorageName, Home, Buffer, GoneContents, posted_all, taken}
use Rattle.tss_protocol.specs.State.{State, Version, CopyState}
use Rattle.tss_protocol.specs.Versions.{retired}
use Rattle.tss_protocol.specs.Buffers.{buffer_bytes, sent_by_retire, new_copy, copies_after_retire}
use Rattle.tss_protocol.specs.UnitMachine.{IsEnabled, is_enabled, after_event, without, can_retire, retire_version}
use Rattle.tss_locality.proofs.LeftFields.{Leaves-after_event}
use Rattle.tss_names.proofs.PlainLemmas.{some_unit}
use Rattle.tss_values.proofs.Values.{IsKnown, IsGood, bytes_after, content, HasStored, HasReturns}
use Rattle.tss_control.proofs.rounds.Facts.{Facts}

none_moved : (a n : ℕ) → a ≡ 0 → a ≤ n
none_moved a n e = omega (arith, e)

none_below : (k a : ℕ) → k < a → a ≡ 0 → ⊥
none_below k a h e = omega (arith, h, e)

module _ (m : Machine) (i : ImageState) (ts : List Task) (S : State) (stored : HasStored m i ts S)
    (h : HasReturns m i ts S) (v : OpName) (x : Version) (at : get S.versions v ≡ Some x)
    (produced : x.produced ≡ true) where
  abbrev T : State
  T = after_event m S (event.Retire v)

  abbrev bank : ℕ
  bank = bank_of m.sizes x.object

  module _ (storage : Option StorageName) (lies : x.storage ≡ storage) where
    copies : T.copies ≡ copies_after_retire S.copies bank v x.object storage
    unfolding after_event
    copies =
        ap (λ x. (retire_version m (without S (event.Retire v)) v x).copies) at
        ∙ ap (copies_after_retire S.copies bank v x.object) lies

    gones : T.mail.gones ≡ (posted_all (taken S.mail (event.Retire v)) (sent_by_retire v x.object storage)).gones
    unfolding after_event
    gones =
        ap (λ x. (retire_version m (without S (event.Retire v)) v x).mail.gones) at
        ∙ ap (λ s. (posted_all (taken S.mail (event.Retire v)) (sent_by_retire v x.object s)).gones) lies

  contents : T.contents ≡ S.contents
  contents = λ j. (Leaves-after_event m S (event.Retire v) j).contents

  home : T.home ≡ S.home
  home = λ j. (Leaves-after_event m S (event.Retire v) j).home

  -- a version that goes home has the bytes of program order
  module _ (st : StorageName) (lies : x.storage ≡ Some st) where
    own : (w : OpName) → w ≡ v → (p : Operand) (s : Started) → IsKnown m i ts w p s → IsGood m i s p
        → content S x.object st ≡ bytes_after m i s p
    own w same p s known good =
        stored.produced v x st p s at produced lies (subst (λ w. IsKnown m i ts w p s) same known) good

  -- where copies are those of before, or one that has moved nothing
  module _ (copied_before : (b : ℕ) (c : CopyState) → get T.copies b ≡ Some c
      → (get S.copies b ≡ Some c) ⊎ ((n : OpName) × (x.storage ≡ Some (Buffer n)) × (c ≡ new_copy v x.object n)))
      (gone_before : (w : OpName) (g : GoneContents) → get T.mail.gones w ≡ Some g
      → (get S.mail.gones w ≡ Some g) ⊎ ((x.storage ≡ Some Home) × (w ≡ v) × (g ≡ retired x.object None))) where
    copied_by : (b : ℕ) (c : CopyState) (p : Operand) (s : Started)
        → (get S.copies b ≡ Some c) ⊎ ((n : OpName) × (x.storage ≡ Some (Buffer n)) × (c ≡ new_copy v x.object n))
        → IsKnown m i ts c.version p s → IsGood m i s p
        → take c.object.len (buffer_bytes S.contents c.buffer) ≡ bytes_after m i s p
    copied_by b c p s (inl old) known good = h.copied b c p s old known good
    copied_by b c p s (inr (n, lies, new)) known good =
        ap (λ (c : CopyState). take c.object.len (buffer_bytes S.contents c.buffer)) new
        ∙ own (Buffer n) lies c.version (ap (λ (c : CopyState). c.version) new) p s known good

    within_by : (b : ℕ) (c : CopyState)
        → (get S.copies b ≡ Some c) ⊎ ((n : OpName) × (x.storage ≡ Some (Buffer n)) × (c ≡ new_copy v x.object n))
        → c.moved ≤ c.object.len
    within_by b c (inl old) = h.within b c old
    within_by b c (inr (n, lies, new)) = none_moved c.moved c.object.len (ap (λ (c : CopyState). c.moved) new)

    moved_by : (b : ℕ) (c : CopyState) (k : ℕ)
        → (get S.copies b ≡ Some c) ⊎ ((n : OpName) × (x.storage ≡ Some (Buffer n)) × (c ≡ new_copy v x.object n))
        → k < c.moved → byte_at S.home (c.object.base + k) ≡ slice_index (buffer_bytes S.contents c.buffer) k
    moved_by b c k (inl old) small = h.moved b c k old small
    moved_by b c k (inr (n, lies, new)) small =
        absurd (none_below k c.moved small (ap (λ (c : CopyState). c.moved) new))

    gone_by : (w : OpName) (g : GoneContents) (p : Operand) (s : Started)
        → (get S.mail.gones w ≡ Some g) ⊎ ((x.storage ≡ Some Home) × (w ≡ v) × (g ≡ retired x.object None))
        → g.retired ≡ true → IsKnown m i ts w p s → IsGood m i s p → bytes_of S.home g.object ≡ bytes_after m i s p
    gone_by w g p s (inl old) last known good = h.gone w g p s old last known good
    gone_by w g p s (inr (lies, same, new)) last known good =
        ap (λ (g : GoneContents). bytes_of S.home g.object) new ∙ own Home lies w same p s known good

    returns_retired : HasReturns m i ts T
    returns_retired = record {
      copied = λ b c p s there known good.
          ap (λ m. take c.object.len (buffer_bytes m c.buffer)) contents
          ∙ copied_by b c p s (copied_before b c there) known good;
      within = λ b c there. within_by b c (copied_before b c there);
      moved = λ b c k there small.
          ap (λ m. byte_at m (c.object.base + k)) home
          ∙ moved_by b c k (copied_before b c there) small
          ∙ ap (λ m. slice_index (buffer_bytes m c.buffer) k) (sym contents);
      gone = λ w g p s there last known good.
          ap (λ m. bytes_of m g.object) home ∙ gone_by w g p s (gone_before w g there) last known good;
    }

  by_storage : (storage : Option StorageName) → x.storage ≡ storage → HasReturns m i ts T
  by_storage None lies =
      returns_retired (λ b c there. inl (ap (λ m. get m b) (sym (copies None lies)) ∙ there))
      (λ w g there. inl (ap (λ m. get m w) (sym (gones None lies)) ∙ there))
  by_storage (Some Home) lies =
      returns_retired (λ b c there. inl (ap (λ m. get m b) (sym (copies (Some Home) lies)) ∙ there))
      (λ w g there.
      elim (from_inserted name_order S.mail.gones v (retired x.object None) w g
      (ap (λ m. get m w) (sym (gones (Some Home) lies)) ∙ there)) [
        | inl new ↦ inr (lies, new.0, new.1)
        | inr old ↦ inl old.1
      ])
  by_storage (Some (Buffer n)) lies =
      returns_retired
      (λ b c there.
      elim (from_inserted nat_order S.copies bank (new_copy v x.object n) b c
      (ap (λ m. get m b) (sym (copies (Some (Buffer n)) lies)) ∙ there)) [
        | inl new ↦ inr (n, lies, new.1)
        | inr old ↦ inl old.1
      ])
      (λ w g there. inl (ap (λ m. get m w) (sym (gones (Some (Buffer n)) lies)) ∙ there))

module _ (m : Machine) (i : ImageState) (S : State) (facts : Facts m S) where
  open facts use {ts, ground, control as k}

  -- what is brought home after a retire
  pub HasReturns-retire : HasStored m i ts S → HasReturns m i ts S → (v : OpName) → IsEnabled m S (event.Retire v)
      → HasReturns m i ts (after_event m S (event.Retire v))
  unfolding is_enabled
  HasReturns-retire stored h v on =
      let both = and_parts (is_some (get S.mail.retires v)) (can_retire m S (get S.versions v)) on in
      let a = ground.asking.retires v (some_unit (get S.mail.retires v) both.0) in
      let right = k.retirement.asked v a.1.0 a.0 a.1.1 a.1.2 in
      by_storage m i ts S stored h v a.1.0 a.1.1 right.produced a.1.0.storage refl
