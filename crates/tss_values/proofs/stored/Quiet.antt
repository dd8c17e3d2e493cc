-- The bytes in the storages of versions after an event that writes no byte, and leaves each version's storage.
use Rattle.std.proofs.Common.{◌≡◌, ℕ, List, Option, Some, None, refl, sym, ap, ◌∙◌, subst, inl, inr}
use Rattle.std.specs.FinMap.{get}
use Rattle.tss_base.specs.declared.range.Range.{Range}
use Rattle.tss_base.specs.declared.operand.OpName.{OpName}
use Rattle.tss_base.specs.declared.operand.Task.{Task}
use Rattle.tss_base.specs.declared.machine.Machine.{Machine}
use Rattle.tss_base.specs.declared.event.Event.TheVariants as event
use Rattle.tss_base.specs.Image.{ImageState}
use Rattle.tss_protocol.specs.Mail.{StorageName}
use Rattle.tss_protocol.specs.Workers.{stored_bytes}
use Rattle.tss_protocol.specs.State.{State, Version}
use Rattle.tss_protocol.specs.Versions.{used_at}
use Rattle.tss_protocol.specs.UnitMachine.{IsEnabled, after_event, without, use_message_taken, retire_version}
use Rattle.tss_phases.specs.Phase.{phase_of}
use Rattle.tss_phases.specs.Orderly.{KeepsOrder}
use Rattle.tss_phases.proofs.ForwardEvents.{forward-after_event}
use Rattle.tss_phases.proofs.ForwardPhases.{GoesOnFrom}
use Rattle.tss_locality.proofs.LeftFields.{Leaves-after_event}
use Rattle.tss_maps.proofs.Keys.{name_order}
use Rattle.tss_maps.proofs.Changes.{from_inserted, from_removed}
use Rattle.tss_phases.proofs.QuietEvents.{phase_of-ack, phase_of-idle, phase_of-retire}
use Rattle.tss_names.specs.Stages.{IsOnWorker}
use Rattle.tss_control.specs.Readers.{Arrivals}
use Rattle.tss_control.specs.Control.{IsControlled}
use Rattle.tss_control.proofs.holders.Late.{NoLater, late_same}
use Rattle.tss_control.proofs.holders.Later.{later-decode, later-use, later-ready, later-link, later-bye}
use Rattle.tss_control.proofs.holders.Settled.{HeldAlike}
use Rattle.tss_control.proofs.chains.Use.{used_more}
use Rattle.tss_values.proofs.Values.{content, HasStored}
use Rattle.tss_values.proofs.stored.Frames.{stored_each, stored_at, KeepsStored, stored_kept, opener_holds, told_before}
use Rattle.tss_values.proofs.stored.Frames.{lets_before}

-- no byte is written, and each worker is left
pub record LeavesBytes (S T : State) : Type 0 where
  pub home : T.home ≡ S.home
  pub contents : T.contents ≡ S.contents
  pub workers : T.workers ≡ S.workers

-- what an object has in a storage is left then
pub content_left : (S T : State) → LeavesBytes S T → (x : Range) (st : StorageName) → content T x st ≡ content S x st
content_left S T k x st = λ i. stored_bytes (record { home = k.home i; contents = k.contents i }) x st

-- and who is on a worker
worker_left : (S T : State) → LeavesBytes S T → (n : ℕ) → IsOnWorker S n → IsOnWorker T n
worker_left S T k n w = (w.0, w.1, ap (λ ws. get ws w.0) k.workers ∙ w.2, w.3)

module _ (m : Machine) (i : ImageState) (ts : List Task) (g : Arrivals) (S T : State) (k : IsControlled ts g S)
    (left : LeavesBytes S T) (on : (q : OpName) → GoesOnFrom S T q) (late : (q : OpName) → NoLater S T q) where
  -- a version that is like one that was there
  pub keeps_alike : (v : OpName) (y z : Version) → get S.versions v ≡ Some y → HeldAlike y z
      → KeepsStored ts S T v y z
  keeps_alike v y z e like = record {
    object = like.object;
    storage = like.storage;
    produced = like.produced;
    bytes = λ st at. content_left S T left y.object st;
    waits = λ st p at among writer told.
        told_before S T v (on v)
        (opener_holds y p.mode st (phase_of S v) at writer (k.holders.openers v y p e among)) told;
    idle = λ none w. none (worker_left S T left v.task w);
    lets = λ e. lets_before S T v (on v) (late v) e;
  }

  -- where each version is like one that was there
  stored_alike : ((v : OpName) (z : Version) → get T.versions v ≡ Some z
      → (y : Version) × (get S.versions v ≡ Some y) × HeldAlike y z)
      → HasStored m i ts S → HasStored m i ts T
  stored_alike from h =
      stored_each m i ts T (λ v z e.
      let f = from v z e in
      stored_kept m i ts S T v f.0 z (keeps_alike v f.0 z f.1 f.2) (stored_at m i ts S h v f.0 f.1))

  -- where the versions are the same
  stored_same : T.versions ≡ S.versions → HasStored m i ts S → HasStored m i ts T
  stored_same same h =
      stored_alike
      (λ v z e. (z, sym (ap (λ vs. get vs v) same) ∙ e, record { object = refl; produced = refl; storage = refl })) h

-- ---- events

module _ (m : Machine) (i : ImageState) (ts : List Task) (g : Arrivals) (S : State) (k : IsControlled ts g S)
    (h : HasStored m i ts S) where
  -- decode
  pub HasStored-decode : (o : OpName) → IsEnabled m S (event.Decode o)
      → HasStored m i ts (after_event m S (event.Decode o))
  HasStored-decode o on =
      let same = Leaves-after_event m S (event.Decode o) in
      stored_same m i ts g S (after_event m S (event.Decode o)) k
      (record { home = λ i. (same i).home; contents = λ i. (same i).contents; workers = λ i. (same i).workers })
      (forward-after_event m S k.orderly (event.Decode o) on tt) (later-decode m S k.orderly o on)
      (λ i. (same i).versions) h

  -- ack
  pub HasStored-ack : (o : OpName) → IsEnabled m S (event.Ack o) → HasStored m i ts (after_event m S (event.Ack o))
  HasStored-ack o on =
      let same = Leaves-after_event m S (event.Ack o) in
      let T = after_event m S (event.Ack o) in
      stored_same m i ts g S T k
      (record { home = λ i. (same i).home; contents = λ i. (same i).contents; workers = λ i. (same i).workers })
      (forward-after_event m S k.orderly (event.Ack o) on tt) (λ q. late_same S T q (phase_of-ack m S o q))
      (λ i. (same i).versions) h

  -- ready
  pub HasStored-ready : (o : OpName) → IsEnabled m S (event.Ready o) → KeepsOrder S (event.Ready o)
      → HasStored m i ts (after_event m S (event.Ready o))
  HasStored-ready o on order =
      let same = Leaves-after_event m S (event.Ready o) in
      stored_same m i ts g S (after_event m S (event.Ready o)) k
      (record { home = λ i. (same i).home; contents = λ i. (same i).contents; workers = λ i. (same i).workers })
      (forward-after_event m S k.orderly (event.Ready o) on order) (later-ready m S k.orderly o on order)
      (λ i. (same i).versions) h

  -- link
  pub HasStored-link : (o : OpName) → IsEnabled m S (event.Link o) → KeepsOrder S (event.Link o)
      → HasStored m i ts (after_event m S (event.Link o))
  HasStored-link o on order =
      let same = Leaves-after_event m S (event.Link o) in
      stored_same m i ts g S (after_event m S (event.Link o)) k
      (record { home = λ i. (same i).home; contents = λ i. (same i).contents; workers = λ i. (same i).workers })
      (forward-after_event m S k.orderly (event.Link o) on order) (later-link m S k.orderly o on order)
      (λ i. (same i).versions) h

  -- bye
  pub HasStored-bye : (o : OpName) → IsEnabled m S (event.Bye o) → HasStored m i ts (after_event m S (event.Bye o))
  HasStored-bye o on =
      let same = Leaves-after_event m S (event.Bye o) in
      stored_same m i ts g S (after_event m S (event.Bye o)) k
      (record { home = λ i. (same i).home; contents = λ i. (same i).contents; workers = λ i. (same i).workers })
      (forward-after_event m S k.orderly (event.Bye o) on tt) (later-bye m S k.orderly o on)
      (λ i. (same i).versions) h

  -- idle
  pub HasStored-idle : (v : OpName) → IsEnabled m S (event.Idle v) → HasStored m i ts (after_event m S (event.Idle v))
  HasStored-idle v on =
      let same = Leaves-after_event m S (event.Idle v) in
      let T = after_event m S (event.Idle v) in
      stored_same m i ts g S T k
      (record { home = λ i. (same i).home; contents = λ i. (same i).contents; workers = λ i. (same i).workers })
      (forward-after_event m S k.orderly (event.Idle v) on tt) (λ q. late_same S T q (phase_of-idle m S v q))
      (λ i. (same i).versions) h

  retired_versions : (v : OpName) (x : Option Version)
      → get S.versions v ≡ x → (w : OpName) (z : Version)
      → get (retire_version m (without S (event.Retire v)) v x).versions w ≡ Some z → get S.versions w ≡ Some z
  retired_versions v None e w z at = at
  retired_versions v (Some x) e w z at = (from_removed name_order S.versions v w z at).1

  retire_from : (v w : OpName) (z : Version) → get (after_event m S (event.Retire v)).versions w ≡ Some z
      → get S.versions w ≡ Some z
  unfolding after_event
  retire_from v w z at = retired_versions v (get S.versions v) refl w z at

  -- retire
  pub HasStored-retire : (v : OpName) → IsEnabled m S (event.Retire v)
      → HasStored m i ts (after_event m S (event.Retire v))
  HasStored-retire v on =
      let same = Leaves-after_event m S (event.Retire v) in
      let T = after_event m S (event.Retire v) in
      stored_alike m i ts g S T k
      (record { home = λ i. (same i).home; contents = λ i. (same i).contents; workers = λ i. (same i).workers })
      (forward-after_event m S k.orderly (event.Retire v) on tt) (λ q. late_same S T q (phase_of-retire m S v q))
      (λ w z at. (z, retire_from v w z at, record { object = refl; produced = refl; storage = refl })) h

  used_from : (o v : OpName) (x : Option Version) → get S.versions v ≡ x → (w : OpName) (z : Version)
      → get (used_at S.versions o v x).part w ≡ Some z → (y : Version) × (get S.versions w ≡ Some y) × HeldAlike y z
  used_from o v None e w z at = (z, at, record { object = refl; produced = refl; storage = refl })
  used_from o v (Some x) e w z at =
      let u = used_more S.versions o v x x.tail in
      elim (from_inserted name_order S.versions v u.version w z (sym (ap (λ vs. get vs w) u.put) ∙ at)) [
        | inl new ↦ (
          x,
          ap (λ q. get S.versions q) new.0 ∙ e,
          subst (HeldAlike x) (sym new.1)
              (record { object = u.more.like.object; produced = u.more.produced; storage = u.more.like.storage }),
        )
        | inr old ↦ (z, old.1, record { object = refl; produced = refl; storage = refl })
      ]

  use_from : (o : OpName) (c : Option OpName) (w : OpName) (z : Version)
      → get (use_message_taken (without S (event.Use o)) o c).versions w ≡ Some z
      → (y : Version) × (get S.versions w ≡ Some y) × HeldAlike y z
  use_from o None w z at = (z, at, record { object = refl; produced = refl; storage = refl })
  use_from o (Some v) w z at = used_from o v (get S.versions v) refl w z at

  use_versions : (o w : OpName) (z : Version) → get (after_event m S (event.Use o)).versions w ≡ Some z
      → (y : Version) × (get S.versions w ≡ Some y) × HeldAlike y z
  unfolding after_event
  use_versions o w z at = use_from o (get S.mail.uses o) w z at

  -- use
  pub HasStored-use : (o : OpName) → IsEnabled m S (event.Use o) → HasStored m i ts (after_event m S (event.Use o))
  HasStored-use o on =
      let same = Leaves-after_event m S (event.Use o) in
      stored_alike m i ts g S (after_event m S (event.Use o)) k
      (record { home = λ i. (same i).home; contents = λ i. (same i).contents; workers = λ i. (same i).workers })
      (forward-after_event m S k.orderly (event.Use o) on tt) (later-use m S k.orderly o on) (use_versions o) h
