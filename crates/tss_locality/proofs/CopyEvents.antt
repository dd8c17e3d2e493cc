-- Retire and copy concern their version and its object alone.
use Rattle.std.proofs.Common.{◌≡◌, ℕ, ◌+◌, ◌-◌, ◌<◌, ◌≤◌, Bool, true, false, List, length, Option, Some, None, refl}
use Rattle.std.proofs.Common.{sym, subst, arith}
use Rattle.std.specs.Prelude.{is_none, is_some, drop, min}
use Rattle.std.specs.FinMap.{get}
use Rattle.std.proofs.lemmas.Bool.{and_parts}
use Rattle.std.proofs.lemmas.List.{length-take}
use Rattle.tss_base.specs.declared.range.Range.{Range}
use Rattle.tss_base.specs.declared.operand.OpName.{OpName}
use Rattle.tss_base.specs.declared.machine.Machine.{Machine}
use Rattle.tss_base.specs.declared.event.Event.TheVariants as event
use Rattle.tss_maps.proofs.Keys.{nat_order, name_order}
use Rattle.tss_protocol.specs.Names.{bank_of}
use Rattle.tss_protocol.specs.Mail.{StorageName, Home, Buffer}
use Rattle.tss_protocol.specs.State.{Version, CopyState, State}
use Rattle.tss_protocol.specs.Versions.{after_retire}
use Rattle.tss_protocol.specs.Buffers.{buffer_bytes, can_retire_from, sent_by_retire, new_copy, copies_after_retire}
use Rattle.tss_protocol.specs.Buffers.{piece_len, piece_of, home_after_copy, is_last_piece, copies_after_copy}
use Rattle.tss_protocol.specs.Buffers.{sent_by_copy}
use Rattle.tss_protocol.specs.UnitMachine.{without, can_retire, retire_version, after_copy, is_enabled, IsEnabled}
use Rattle.tss_protocol.specs.UnitMachine.{after_event}
use Rattle.tss_locality.specs.Agreement.{Beyond, SameFor}
use Rattle.tss_locality.specs.Scopes.{Scope, beyond, ChangesOnly, VersionIn, AreSentIn, Closed}
use Rattle.tss_locality.proofs.Agreements.{IsOther, other_none, other_some, same_for, same_for_inserted}
use Rattle.tss_locality.proofs.Agreements.{same_for_removed, agree_removed}
use Rattle.tss_locality.proofs.States.{state_home, state_versions, state_copies}
use Rattle.tss_locality.proofs.Sending.{changes_none, changes_taken, changes_sent}
use Rattle.tss_locality.proofs.stores.Stores.{IsWrittenIn, home_written}

-- a piece ends with its object at the latest
piece_ends : (base len moved left n a : ℕ) → n ≡ min (min 64 (len - moved)) left → base + moved ≤ a →
    a < base + moved + n →
    a < base + len
piece_ends base len moved left n a short low high = omega (arith, short)

module _ (c : Scope) (m : Machine) (S : State) (closed : Closed c S) where
  -- copies of objects beyond the scope
  abbrev IsCopiedElsewhere : CopyState → Type 0
  IsCopiedElsewhere k = Beyond c.objects k.object

  -- ---- retire

  nothing_copied : (b : ℕ) (k : Option CopyState) → get S.copies b ≡ k → is_none k ≡ true →
      IsOther IsCopiedElsewhere (get S.copies b)
  nothing_copied b None there free = subst (IsOther IsCopiedElsewhere) (sym there) (other_none IsCopiedElsewhere)
  nothing_copied b (Some k) there free = absurd (cc)

  copies_only : (b : ℕ) (v : OpName) (x : Range) (s : Option StorageName) → c.objects x →
      can_retire_from s (get S.copies b) ≡ true → (q : ℕ) →
      SameFor IsCopiedElsewhere (get S.copies q) (get (copies_after_retire S.copies b v x s) q)
  copies_only b v x None p on q = same_for IsCopiedElsewhere (get S.copies q)
  copies_only b v x (Some Home) p on q = same_for IsCopiedElsewhere (get S.copies q)
  copies_only b v x (Some (Buffer n)) p on q =
      same_for_inserted nat_order IsCopiedElsewhere S.copies b (nothing_copied b (get S.copies b) refl on)
      (new_copy v x n) (λ out. out p) q

  retire_sent : (v : OpName) (x : Range) (s : Option StorageName) → c.names v → AreSentIn c (sent_by_retire v x s)
  retire_sent v x None p = tt
  retire_sent v x (Some Home) p = (p, tt)
  retire_sent v x (Some (Buffer n)) p = tt

  retired : (v : OpName) → c.names v → (x : Option Version) → get S.versions v ≡ x → can_retire m S x ≡ true →
      ChangesOnly c S (retire_version m (without S (event.Retire v)) v x)
  retired v p None there on = changes_taken c S (event.Retire v) p
  retired v p (Some x) there on =
      let i : VersionIn c x = closed.versions v x p there in
      let T = without S (event.Retire v) in
      let A : State = record T { versions = after_retire S.versions v } in
      let bank = bank_of m.sizes x.object in
      let copies = copies_after_retire S.copies bank v x.object x.storage in
      changes_sent c S (record A { copies = copies })
      (state_copies (beyond c) S A
      (state_versions (beyond c) S T (changes_taken c S (event.Retire v) p) (after_retire S.versions v)
      (agree_removed name_order c.names S.versions v p))
      copies (copies_only bank v x.object x.storage i.object on))
      (sent_by_retire v x.object x.storage) (retire_sent v x.object x.storage p)

  -- retire changes only what its version's scope has
  pub ChangesOnly-retire : (v : OpName) → IsEnabled m S (event.Retire v) → c.names v →
      ChangesOnly c S (after_event m S (event.Retire v))
  unfolding after_event is_enabled
  ChangesOnly-retire v on p =
      retired v p (get S.versions v) refl
      (and_parts (is_some (get S.mail.retires v)) (can_retire m S (get S.versions v)) on).1

  -- ---- copy

  copied_here : (b : ℕ) (k : CopyState) → get S.copies b ≡ Some k → c.objects k.object →
      IsOther IsCopiedElsewhere (get S.copies b)
  copied_here b k there p = subst (IsOther IsCopiedElsewhere) (sym there)
      (other_some IsCopiedElsewhere k (λ out. out p))

  -- a piece lies inside the object that is copied
  piece_inside : (k : CopyState) (bytes : List ℕ) → c.objects k.object →
      IsWrittenIn c (k.object.base + k.moved) (piece_of k bytes)
  piece_inside k bytes p a low high =
      let short = length-take (piece_len k) (drop k.moved bytes) in
      let start : k.object.base ≤ a = omega (arith, low) in (
        k.object,
        p,
        (
          start,
          piece_ends k.object.base k.object.len k.moved (length (drop k.moved bytes))
              (length (piece_of k bytes)) a short low high,
        ),
      )

  copies_moved : (b : ℕ) (k : CopyState) → get S.copies b ≡ Some k → c.objects k.object → (last : Bool) → (q : ℕ) →
      SameFor IsCopiedElsewhere (get S.copies q) (get (copies_after_copy S.copies b k last) q)
  copies_moved b k there p true q = same_for_removed nat_order IsCopiedElsewhere S.copies b (copied_here b k there p) q
  copies_moved b k there p false q =
      same_for_inserted nat_order IsCopiedElsewhere S.copies b (copied_here b k there p)
      (record k { moved = k.moved + piece_len k }) (λ out. out p) q

  copy_sent : (k : CopyState) (last : Bool) → c.names k.version → AreSentIn c (sent_by_copy k last)
  copy_sent k true p = (p, tt)
  copy_sent k false p = tt

  copied : (b : ℕ) (k : Option CopyState) → get S.copies b ≡ k →
      ((k : CopyState) → get S.copies b ≡ Some k → c.objects k.object) →
      ChangesOnly c S (after_copy S b k)
  copied b None there p = changes_none c S
  copied b (Some k) there p =
      let object = p k there in
      let bytes = buffer_bytes S.contents k.buffer in
      let home = home_after_copy S.home k bytes in
      let A : State = record S { home = home } in
      let copies = copies_after_copy S.copies b k (is_last_piece k) in
      changes_sent c S (record A { copies = copies })
      (state_copies (beyond c) S A
      (state_home (beyond c) S S (changes_none c S) home
      (home_written c S.home S.home (k.object.base + k.moved) (piece_of k bytes)
      (record { ranges = refl; bytes = λ a out. refl }) (piece_inside k bytes object)))
      copies (copies_moved b k there object (is_last_piece k)))
      (sent_by_copy k (is_last_piece k)) (copy_sent k (is_last_piece k) (closed.copies b k object there).version)

  -- copy changes only what the scope of the copied object has
  pub ChangesOnly-copy : (b : ℕ) → ((k : CopyState) → get S.copies b ≡ Some k → c.objects k.object) →
      ChangesOnly c S (after_event m S (event.Copy b))
  unfolding after_event
  ChangesOnly-copy b p = copied b (get S.copies b) refl p
