-- Retire and copy lower the measure: a version pays for its copies, and each piece is one.
use Rattle.std.proofs.Common.{◌≡◌, ℕ, suc, ◌+◌, ◌<◌, ◌≤◌, Bool, true, false, List, Option, Some, None, refl, ap, arith}
use Rattle.std.specs.Prelude.{◌-◌, ◌/◌, is_some, min}
use Rattle.std.specs.FinMap.{get}
use Rattle.std.proofs.lemmas.Bool.{and_parts, leb-false}
use Rattle.tss_base.specs.declared.operand.OpName.{OpName}
use Rattle.tss_base.specs.declared.operand.Task.{Task}
use Rattle.tss_base.specs.declared.machine.Machine.{Machine}
use Rattle.tss_base.specs.declared.event.Event.TheVariants as event
use Rattle.tss_maps.proofs.Keys.{nat_order}
use Rattle.tss_maps.proofs.Sums.{sum_inserted, sum_written, sum_removed}
use Rattle.tss_protocol.specs.Names.{bank_of}
use Rattle.tss_protocol.specs.Mail.{StorageName, Home, Buffer, taken}
use Rattle.tss_protocol.specs.State.{State, Version, CopyState}
use Rattle.tss_protocol.specs.Buffers.{can_retire_from, copies_after_retire, sent_by_retire, new_copy, piece_len}
use Rattle.tss_protocol.specs.Buffers.{is_last_piece, copies_after_copy, sent_by_copy}
use Rattle.tss_protocol.specs.Counts.{pieces_of_object}
use Rattle.tss_protocol.specs.UnitMachine.{IsEnabled, is_enabled, after_event, without, can_retire, retire_version}
use Rattle.tss_protocol.specs.UnitMachine.{after_copy}
use Rattle.tss_control.specs.Chains.{HasChains}
use Rattle.tss_control.specs.Control.{KnowsRound}
use Rattle.tss_progress.proofs.bound.Measure.{messages_left, left_posted_all, copy_left, copies_left, took_retire}
use Rattle.tss_progress.proofs.bound.Measure.{IsLowered}
use Rattle.tss_progress.proofs.bound.Settle.{left_drop}
use Rattle.tss_control.proofs.rounds.FitObjects.{HaveFitObjects}

-- ---- pieces

-- a piece of 64 bytes less
piece_less : (len at : ℕ) → at + 64 < len → (len - (at + min 64 (len - at)) - 1) / 64 + 1 ≤ (len - at - 1) / 64
piece_less len at more =
    let whole : min 64 (len - at) ≡ 64 = omega (arith, more) in
    let here = ap (λ n. (len - (at + n) - 1) / 64) whole in
    let step : (len - at - 1) ≡ (len - (at + 64) - 1) + 64 = omega (arith, more) in
    let divided = ap (λ n. n / 64) step in
    omega (arith, here, divided)

-- the pieces of an object, of which none has more than the longest
few_pieces : (len most : ℕ) → 0 < len → len ≤ most → (len - 0 - 1) / 64 + 1 ≤ (most + 63) / 64
few_pieces len most some short = omega (arith, some, short)

-- ---- the events

module _ (m : Machine) (S : State) where
  abbrev pieces : ℕ
  pieces = pieces_of_object m

  left_copied : (b : ℕ) (x : CopyState) → get S.copies b ≡ Some x → (last : Bool) → is_last_piece x ≡ last
      → suc (copies_left (copies_after_copy S.copies b x last) + messages_left pieces (sent_by_copy x last))
      ≤ copies_left S.copies
  left_copied b x e true last = let r = sum_removed nat_order copy_left S.copies b x e in omega (arith, r)
  left_copied b x e false more =
      let less = piece_less x.object.len x.moved (leb-false x.object.len (x.moved + 64) more) in
      let w = sum_written nat_order copy_left S.copies b x (record x { moved = x.moved + piece_len x }) e in
      omega (arith, less, w)

  copy_less : (b : ℕ) (x : Option CopyState) → get S.copies b ≡ x → is_some x ≡ true → IsLowered m S (after_copy S b x)
  copy_less b None e can = absurd (cc)
  copy_less b (Some x) e can =
      let less = left_copied b x e (is_last_piece x) refl in
      let p = left_posted_all pieces S.mail (sent_by_copy x (is_last_piece x)) in
      omega (arith, less, p)

  -- a copy moves one piece
  pub lowered_copy : (b : ℕ) → IsEnabled m S (event.Copy b) → IsLowered m S (after_event m S (event.Copy b))
  unfolding is_enabled after_event
  lowered_copy b on = copy_less b (get S.copies b) refl on

  -- ---- retire

  left_retired : (v : OpName) (x : Version) (b : ℕ) → 0 < x.object.len → x.object.len ≤ m.limits.object_bytes
      → (s : Option StorageName) → can_retire_from s (get S.copies b) ≡ true
      → copies_left (copies_after_retire S.copies b v x.object s) + messages_left pieces (sent_by_retire v x.object s)
      ≤ copies_left S.copies + pieces + 1
  left_retired v x b some short None can = absurd (cc)
  left_retired v x b some short (Some Home) can = omega arith
  left_retired v x b some short (Some (Buffer n)) can =
      let few = few_pieces x.object.len m.limits.object_bytes some short in
      let i = sum_inserted nat_order copy_left S.copies b (new_copy v x.object n) in
      omega (arith, few, i)

  retire_less : (v : OpName) (x : Option Version) → get S.versions v ≡ x → get S.mail.retires v ≡ Some tt
      → can_retire m S x ≡ true
      → ((y : Version) → x ≡ Some y → (0 < y.object.len) × (y.object.len ≤ m.limits.object_bytes))
      → IsLowered m S (retire_version m (without S (event.Retire v)) v x)
  retire_less v None e there can fit = absurd (cc)
  retire_less v (Some x) e there can fit =
      let b = bank_of m.sizes x.object in
      let t = took_retire pieces S.mail v there in
      let fits = fit x refl in
      let less = left_retired v x b fits.0 fits.1 x.storage can in
      let drops = left_drop pieces S.versions v x e in
      let p = left_posted_all pieces (taken S.mail (event.Retire v)) (sent_by_retire v x.object x.storage) in
      omega (arith, t, less, drops, p)

  retire_there : (x : Option (Unit {0})) → is_some x ≡ true → x ≡ Some tt
  retire_there None e = absurd (cc)
  retire_there (Some x) e = refl

  -- the object of a version is that of a spawned task
  pub lowered_retire : (all ts : List Task) → KnowsRound all ts → HasChains ts S → HaveFitObjects m.limits all
      → (v : OpName) → IsEnabled m S (event.Retire v) → IsLowered m S (after_event m S (event.Retire v))
  unfolding is_enabled after_event
  lowered_retire all ts known chains fit v on =
      let parts = and_parts (is_some (get S.mail.retires v)) _ on in
      retire_less v (get S.versions v) refl (retire_there (get S.mail.retires v) parts.0) parts.1 fits
    where
      fits : (y : Version) → get S.versions v ≡ Some y → (0 < y.object.len) × (y.object.len ≤ m.limits.object_bytes)
      fits y e =
          let p = chains.opener v y e in
          let of = known.operands v p.0 p.1 in
          let fits = fit v.task of.task of.spawned v.place p.0 of.place in
          let same = ap (λ r. r.len) p.2 in
          (omega (arith, same, fits.0), omega (arith, same, fits.1))
