-- A copy that is under way has bytes still to be moved.
use Rattle.std.proofs.Common.{◌≡◌, ℕ, ◌+◌, ◌-◌, ◌<◌, Bool, true, false, List, Option, Some, None, refl, sym, ◌∙◌, subst}
use Rattle.std.proofs.Common.{inl, inr, arith}
use Rattle.std.specs.Prelude.{min}
use Rattle.std.specs.FinMap.{get, insert, get-empty}
use Rattle.std.specs.Ordering.{nat_cmp}
use Rattle.std.proofs.lemmas.Bool.{leb-false}
use Rattle.std.proofs.lemmas.Option.{none-some}
use Rattle.tss_base.specs.declared.range.Range.{Range}
use Rattle.tss_base.specs.declared.operand.OpName.{OpName}
use Rattle.tss_base.specs.declared.machine.Machine.{Machine}
use Rattle.tss_base.specs.declared.event.Event.{Event}
use Rattle.tss_base.specs.declared.event.Event.TheVariants as event
use Rattle.tss_base.specs.Names.{Numbered}
use Rattle.tss_base.specs.Image.{ImageState, IsAccepted}
use Rattle.tss_base.specs.Machine.{IsAdmissible}
use Rattle.tss_maps.proofs.Keys.{nat_order}
use Rattle.tss_maps.proofs.Changes.{from_inserted, from_removed}
use Rattle.tss_protocol.specs.Names.{bank_of}
use Rattle.tss_protocol.specs.Mail.{StorageName, Home, Buffer}
use Rattle.tss_protocol.specs.State.{State, Version, CopyState}
use Rattle.tss_protocol.specs.Buffers.{new_copy, copies_after_retire, piece_len, is_last_piece, copies_after_copy}
use Rattle.tss_protocol.specs.UnitMachine.{after_event, without, retire_version, after_copy}
use Rattle.tss_protocol.specs.Run.{IsRun}
use Rattle.tss_locality.proofs.LeftFields.{Leaves-after_event}
use Rattle.tss_control.proofs.rounds.FitObjects.{HaveFitObjects}
use Rattle.tss_control.proofs.rounds.Facts.{Facts}
use Rattle.tss_control.proofs.GroundworkControl.{Facts-Run}
use Rattle.tss_values.proofs.ValuesJoin.{values_of_run}
use Rattle.tss_values.proofs.ValuesFinds.{fit_run}

-- each copy has
abbrev HaveBytesLeft : Numbered CopyState → Type 0
HaveBytesLeft copies = (b : ℕ) (c : CopyState) → get copies b ≡ Some c → c.moved < c.object.len

-- a piece that isn't the last leaves some
piece_leaves : (moved len : ℕ) → moved + 64 < len → moved + min 64 (len - moved) < len
piece_leaves moved len more = grind (arith, more)

module _ (m : Machine) (S : State) (facts : Facts m S) (fit : HaveFitObjects m.limits facts.all)
    (left : HaveBytesLeft S.copies) where
  open facts use {ground, control as h}

  put : (b : ℕ) (c : CopyState) → c.moved < c.object.len → HaveBytesLeft (insert S.copies b c)
  put b c own k x at = elim (from_inserted nat_order S.copies b c k x at) [
    | inl new ↦ subst (λ (c : CopyState). c.moved < c.object.len) (sym new.1) own
    | inr old ↦ left k x old.1
  ]

  -- the object of a version has bytes
  some_bytes : (v : OpName) (x : Version) → get S.versions v ≡ Some x → 0 < x.object.len
  some_bytes v x there =
      let p = h.chains.opener v x there in
      let o = ground.known.operands v p.0 p.1 in
      subst (λ (r : Range). 0 < r.len) p.2 (fit v.task o.task o.spawned v.place p.0 o.place).0

  retired_by : (v : OpName) (x : Version) → get S.versions v ≡ Some x → (s : Option StorageName)
      → HaveBytesLeft (copies_after_retire S.copies (bank_of m.sizes x.object) v x.object s)
  retired_by v x there None = left
  retired_by v x there (Some Home) = left
  retired_by v x there (Some (Buffer n)) =
      put (bank_of m.sizes x.object) (new_copy v x.object n) (some_bytes v x there)

  retires : (v : OpName) (x : Option Version) → get S.versions v ≡ x
      → HaveBytesLeft (retire_version m (without S (event.Retire v)) v x).copies
  retires v None e = left
  retires v (Some x) e = retired_by v x e x.storage

  copied_by : (b : ℕ) (c : CopyState) (last : Bool) → is_last_piece c ≡ last
      → HaveBytesLeft (copies_after_copy S.copies b c last)
  copied_by b c true e = λ k x at. left k x (from_removed nat_order S.copies b k x at).1
  copied_by b c false e =
      put b (record c { moved = c.moved + piece_len c })
      (piece_leaves c.moved c.object.len (leb-false c.object.len (c.moved + 64) e))

  copies : (b : ℕ) (c : Option CopyState) → HaveBytesLeft (after_copy S b c).copies
  copies b None = left
  copies b (Some c) = copied_by b c (is_last_piece c) refl

  left_retire : (v : OpName) → HaveBytesLeft (after_event m S (event.Retire v)).copies
  unfolding after_event
  left_retire v = retires v (get S.versions v) refl

  left_copy : (b : ℕ) → HaveBytesLeft (after_event m S (event.Copy b)).copies
  unfolding after_event
  left_copy b = copies b (get S.copies b)

  same : (e : Event) → (after_event m S e).copies ≡ S.copies → HaveBytesLeft (after_event m S e).copies
  same e is = subst HaveBytesLeft (sym is) left

  left_after : (e : Event) → HaveBytesLeft (after_event m S e).copies
  left_after (event.Retire v) = left_retire v
  left_after (event.Copy b) = left_copy b
  left_after e = same e (λ i. (Leaves-after_event m S e i).copies)

-- so it has in every run
pub left_run : (m : Machine) (i : ImageState) (es : List Event) (S : State) → IsAccepted i → IsAdmissible m
    → IsRun m i es S → HaveBytesLeft S.copies
left_run m i es S accepted admissible run =
    values_of_run (λ m i all ts S. HaveBytesLeft S.copies)
    (λ m i es S e accepted admissible run left on.
    left_after m S (Facts-Run m i es S run) (fit_run m i es S run) left e)
    m i accepted admissible (λ b c e. absurd (none-some c (sym (get-empty nat_cmp b) ∙ e))) es S run
