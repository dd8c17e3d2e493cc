-- Each name has its object, and links stay within each object, after every event.
use Rattle.std.proofs.Common.{◌≡◌, ℕ, true, Option, Some, None, refl, sym, ap, ◌∙◌, subst}
use Rattle.std.specs.Prelude.{is_some}
use Rattle.std.specs.FinMap.{get}
use Rattle.std.proofs.lemmas.Option.{none-some, same_Some}
use Rattle.tss_base.specs.declared.range.Range.{Range}
use Rattle.tss_base.specs.declared.operand.OpName.{OpName}
use Rattle.tss_base.specs.declared.machine.Machine.{Machine}
use Rattle.tss_base.specs.declared.event.Event.{Event}
use Rattle.tss_base.specs.declared.event.Event.TheVariants as event
use Rattle.tss_base.specs.Image.{ImageState}
use Rattle.tss_protocol.specs.State.{Busy, CopyState, State, initial_state}
use Rattle.tss_protocol.specs.MainEvent.{call_next}
use Rattle.tss_protocol.specs.UnitMachine.{is_enabled, IsEnabled, after_event}
use Rattle.tss_locality.specs.Scopes.{Scope, ChangesOnly}
use Rattle.tss_locality.specs.Objects.{Objects, object_scope, Every, LinksStay, SpawnsWith, StandNumbered, IsFitting}
use Rattle.tss_locality.specs.Objects.{WorkerNamed, EntriesNamed, IsNamed, IsWithinObjects}
use Rattle.tss_locality.proofs.WorkerEvents.{ChangesOnly-finish}
use Rattle.tss_locality.proofs.EachEvent.{ChangesOnly-after_event}
use Rattle.tss_locality.proofs.LeftFields.{Leaves-after_event}
use Rattle.tss_locality.proofs.closed.ApartScopes.{OthersWere}
use Rattle.tss_locality.proofs.KeptLinks.{LinksStay-initial_state, LinksStay-after_event, others_left, others_decoded}
use Rattle.tss_locality.proofs.KeptLinks.{others_idle, others_gone}
use Rattle.tss_locality.proofs.named.NamedStates.{IsNamed-initial_state}
use Rattle.tss_locality.proofs.named.NamedRows.{known, named_after, workers_same, entries_after, copies_same, all_named}
use Rattle.tss_locality.proofs.named.NamedRows.{take_named, start_named, exec_named, finish_workers, main_named}
use Rattle.tss_locality.proofs.named.NamedRows.{retire_version_copies, copy_copies}

module _ (f : Objects) (m : Machine) (S : State) (within : IsWithinObjects f S) where
  -- the scope of an object that is named
  abbrev of_object : Range → Scope
  of_object x = object_scope f x Every

  -- links stay within each object after an enabled event
  links_after : (e : Event) → IsEnabled m S e → IsFitting f m S e → LinksStay f (after_event m S e)
  links_after e on fit =
      LinksStay-after_event f m S within.links within.named.entries e on (known f m S within.named e on fit)

  -- what an event that concerns one object changes
  one_named : (e : Event) (o : OpName) (x : Range) → f o ≡ Some x → ChangesOnly (of_object x) S (after_event m S e) →
      OthersWere (of_object x) S (after_event m S e) → LinksStay f (after_event m S e) →
      (after_event m S e).inbox ≡ S.inbox → (after_event m S e).workers ≡ S.workers →
      ((b : ℕ) (k : CopyState) → get (after_event m S e).copies b ≡ Some k → f k.version ≡ Some k.object) →
      IsNamed f (after_event m S e)
  one_named e o x fo only were links inbox workers copies =
      let T = after_event m S e in
      named_after f m S within.named (of_object x) (λ q p. (x, p)) T only inbox
      (workers_same f m S within.named T workers) (entries_after f m S within.named x T only were (links o x fo)) copies

  -- an event that leaves the entries
  left : (e : Event) (c : Scope) → (after_event m S e).entries ≡ S.entries → OthersWere c S (after_event m S e)
  left e c same = others_left f m S within.links within.named.entries c (after_event m S e) same

  start_kept : (w : ℕ) → StandNumbered S → IsNamed f (after_event m S (event.Start w))
  unfolding after_event
  start_kept w numbered = start_named f m S within.named w S.queue numbered

  take_kept : IsNamed f (after_event m S event.Take)
  unfolding after_event
  take_kept = take_named f m S within.named S.inbox refl

  main_kept : SpawnsWith f m S → IsNamed f (after_event m S event.Main)
  unfolding after_event
  main_kept spawns = main_named f m S within.named (call_next m S) spawns

  retire_copies : (v : OpName) (y : Range) → f v ≡ Some y → (q : ℕ) (k : CopyState) →
      get (after_event m S (event.Retire v)).copies q ≡ Some k → f k.version ≡ Some k.object
  unfolding after_event
  retire_copies v y fv =
      retire_version_copies f m S within.named v y fv (get S.versions v)
      (λ x there. ((within.links v y fv).versions v x fv there).object) refl

  copy_kept_copies : (b q : ℕ) (l : CopyState) → get (after_event m S (event.Copy b)).copies q ≡ Some l →
      f l.version ≡ Some l.object
  unfolding after_event
  copy_kept_copies b = copy_copies f m S within.named b (get S.copies b) refl

  none_is : (k : Option CopyState) → k ≡ None → is_some k ≡ true → ⊥
  none_is None e on = cc
  none_is (Some k) e on = none-some k (sym e)

  nothing_enabled : (b : ℕ) → IsEnabled m S (event.Copy b) → get S.copies b ≡ None → ⊥
  unfolding is_enabled
  nothing_enabled b on there = none_is (get S.copies b) there on

  copy_named : (b : ℕ) → IsEnabled m S (event.Copy b) → (k : Option CopyState) → get S.copies b ≡ k →
      IsNamed f (after_event m S (event.Copy b))
  copy_named b on None there = absurd (nothing_enabled b on there)
  copy_named b on (Some k) there =
      let fo = within.named.copies b k there in
      let this : (l : CopyState) → get S.copies b ≡ Some l → l.object ≡ k.object =
      λ l e. ap (λ (k : CopyState). k.object) (same_Some l k (sym e ∙ there)) in
      one_named (event.Copy b) k.version k.object fo
      (ChangesOnly-after_event (of_object k.object) m S (within.links k.version k.object fo) (event.Copy b) on this)
      (left (event.Copy b) (of_object k.object) (λ i. (Leaves-after_event m S (event.Copy b) i).entries))
      (links_after (event.Copy b) on tt) (λ i. (Leaves-after_event m S (event.Copy b) i).inbox)
      (λ i. (Leaves-after_event m S (event.Copy b) i).workers) (copy_kept_copies b)

  exec_kept : (w : ℕ) → IsNamed f (after_event m S (event.Exec w))
  unfolding after_event
  exec_kept w = exec_named f m S within.named w (get S.workers w) refl

  finish_kept_workers : (w q : ℕ) (x : Busy) → get (after_event m S (event.Finish w)).workers q ≡ Some x →
      WorkerNamed f x
  unfolding after_event
  finish_kept_workers w = finish_workers f m S within.named w (get S.workers w)

  finish_kept : (w : ℕ) → IsNamed f (after_event m S (event.Finish w))
  finish_kept w =
      let T = after_event m S (event.Finish w) in
      named_after f m S within.named (all_named f m S within.named) (λ o p. p) T
      (ChangesOnly-finish (all_named f m S within.named) m S w
      (λ b there. record { task = tt; names = λ o r same e. within.named.records o r e }))
      (λ i. (Leaves-after_event m S (event.Finish w) i).inbox) (finish_kept_workers w)
      (subst (EntriesNamed f) (sym (λ i. (Leaves-after_event m S (event.Finish w) i).entries)) within.named.entries)
      (copies_same f m S within.named T (λ i. (Leaves-after_event m S (event.Finish w) i).copies))

  -- each name has its object after an enabled event
  IsNamed-after_event : (e : Event) → IsEnabled m S e → IsFitting f m S e → IsNamed f (after_event m S e)
  IsNamed-after_event event.Main on fit = main_kept fit
  IsNamed-after_event event.Take on fit = take_kept
  IsNamed-after_event (event.Start w) on fit = start_kept w fit
  IsNamed-after_event (event.Exec w) on fit = exec_kept w
  IsNamed-after_event (event.Finish w) on fit = finish_kept w
  IsNamed-after_event (event.Copy b) on fit = copy_named b on (get S.copies b) refl
  IsNamed-after_event (event.Decode o) on fit =
      let h = known f m S within.named (event.Decode o) on fit in
      one_named (event.Decode o) o h.0.0 h.0.1
      (ChangesOnly-after_event (of_object h.0.0) m S (within.links o h.0.0 h.0.1) (event.Decode o) on
      ((h.0.1, tt), h.1))
      (others_decoded f m S within.links within.named.entries o h.0.0 h.0.1 h.1)
      (links_after (event.Decode o) on fit) (λ i. (Leaves-after_event m S (event.Decode o) i).inbox)
      (λ i. (Leaves-after_event m S (event.Decode o) i).workers)
      (copies_same f m S within.named (after_event m S (event.Decode o))
      (λ i. (Leaves-after_event m S (event.Decode o) i).copies))
  IsNamed-after_event (event.Ack o) on fit =
      let h = known f m S within.named (event.Ack o) on fit in
      one_named (event.Ack o) o h.0 h.1
      (ChangesOnly-after_event (of_object h.0) m S (within.links o h.0 h.1) (event.Ack o) on (h.1, tt))
      (left (event.Ack o) (of_object h.0) (λ i. (Leaves-after_event m S (event.Ack o) i).entries))
      (links_after (event.Ack o) on fit) (λ i. (Leaves-after_event m S (event.Ack o) i).inbox)
      (λ i. (Leaves-after_event m S (event.Ack o) i).workers)
      (copies_same f m S within.named (after_event m S (event.Ack o))
      (λ i. (Leaves-after_event m S (event.Ack o) i).copies))
  IsNamed-after_event (event.Open o) on fit =
      let h = known f m S within.named (event.Open o) on fit in
      one_named (event.Open o) o h.0 h.1
      (ChangesOnly-after_event (of_object h.0) m S (within.links o h.0 h.1) (event.Open o) on (h.1, tt))
      (left (event.Open o) (of_object h.0) (λ i. (Leaves-after_event m S (event.Open o) i).entries))
      (links_after (event.Open o) on fit) (λ i. (Leaves-after_event m S (event.Open o) i).inbox)
      (λ i. (Leaves-after_event m S (event.Open o) i).workers)
      (copies_same f m S within.named (after_event m S (event.Open o))
      (λ i. (Leaves-after_event m S (event.Open o) i).copies))
  IsNamed-after_event (event.Use o) on fit =
      let h = known f m S within.named (event.Use o) on fit in
      one_named (event.Use o) o h.0 h.1
      (ChangesOnly-after_event (of_object h.0) m S (within.links o h.0 h.1) (event.Use o) on (h.1, tt))
      (left (event.Use o) (of_object h.0) (λ i. (Leaves-after_event m S (event.Use o) i).entries))
      (links_after (event.Use o) on fit) (λ i. (Leaves-after_event m S (event.Use o) i).inbox)
      (λ i. (Leaves-after_event m S (event.Use o) i).workers)
      (copies_same f m S within.named (after_event m S (event.Use o))
      (λ i. (Leaves-after_event m S (event.Use o) i).copies))
  IsNamed-after_event (event.Ready o) on fit =
      let h = known f m S within.named (event.Ready o) on fit in
      one_named (event.Ready o) o h.0 h.1
      (ChangesOnly-after_event (of_object h.0) m S (within.links o h.0 h.1) (event.Ready o) on (h.1, tt))
      (left (event.Ready o) (of_object h.0) (λ i. (Leaves-after_event m S (event.Ready o) i).entries))
      (links_after (event.Ready o) on fit) (λ i. (Leaves-after_event m S (event.Ready o) i).inbox)
      (λ i. (Leaves-after_event m S (event.Ready o) i).workers)
      (copies_same f m S within.named (after_event m S (event.Ready o))
      (λ i. (Leaves-after_event m S (event.Ready o) i).copies))
  IsNamed-after_event (event.Link o) on fit =
      let h = known f m S within.named (event.Link o) on fit in
      one_named (event.Link o) o h.0 h.1
      (ChangesOnly-after_event (of_object h.0) m S (within.links o h.0 h.1) (event.Link o) on (h.1, tt))
      (left (event.Link o) (of_object h.0) (λ i. (Leaves-after_event m S (event.Link o) i).entries))
      (links_after (event.Link o) on fit) (λ i. (Leaves-after_event m S (event.Link o) i).inbox)
      (λ i. (Leaves-after_event m S (event.Link o) i).workers)
      (copies_same f m S within.named (after_event m S (event.Link o))
      (λ i. (Leaves-after_event m S (event.Link o) i).copies))
  IsNamed-after_event (event.Release o) on fit =
      let h = known f m S within.named (event.Release o) on fit in
      one_named (event.Release o) o h.0 h.1
      (ChangesOnly-after_event (of_object h.0) m S (within.links o h.0 h.1) (event.Release o) on (h.1, tt))
      (left (event.Release o) (of_object h.0) (λ i. (Leaves-after_event m S (event.Release o) i).entries))
      (links_after (event.Release o) on fit) (λ i. (Leaves-after_event m S (event.Release o) i).inbox)
      (λ i. (Leaves-after_event m S (event.Release o) i).workers)
      (copies_same f m S within.named (after_event m S (event.Release o))
      (λ i. (Leaves-after_event m S (event.Release o) i).copies))
  IsNamed-after_event (event.Bye o) on fit =
      let h = known f m S within.named (event.Bye o) on fit in
      one_named (event.Bye o) o h.0 h.1
      (ChangesOnly-after_event (of_object h.0) m S (within.links o h.0 h.1) (event.Bye o) on (h.1, tt))
      (left (event.Bye o) (of_object h.0) (λ i. (Leaves-after_event m S (event.Bye o) i).entries))
      (links_after (event.Bye o) on fit) (λ i. (Leaves-after_event m S (event.Bye o) i).inbox)
      (λ i. (Leaves-after_event m S (event.Bye o) i).workers)
      (copies_same f m S within.named (after_event m S (event.Bye o))
      (λ i. (Leaves-after_event m S (event.Bye o) i).copies))
  IsNamed-after_event (event.Idle o) on fit =
      let h = known f m S within.named (event.Idle o) on fit in
      one_named (event.Idle o) o h.0 h.1
      (ChangesOnly-after_event (of_object h.0) m S (within.links o h.0 h.1) (event.Idle o) on h.1)
      (others_idle f m S within.links within.named.entries o h.0 h.1)
      (links_after (event.Idle o) on fit) (λ i. (Leaves-after_event m S (event.Idle o) i).inbox)
      (λ i. (Leaves-after_event m S (event.Idle o) i).workers)
      (copies_same f m S within.named (after_event m S (event.Idle o))
      (λ i. (Leaves-after_event m S (event.Idle o) i).copies))
  IsNamed-after_event (event.Nack o) on fit =
      let h = known f m S within.named (event.Nack o) on fit in
      one_named (event.Nack o) o h.0 h.1
      (ChangesOnly-after_event (of_object h.0) m S (within.links o h.0 h.1) (event.Nack o) on h.1)
      (left (event.Nack o) (of_object h.0) (λ i. (Leaves-after_event m S (event.Nack o) i).entries))
      (links_after (event.Nack o) on fit) (λ i. (Leaves-after_event m S (event.Nack o) i).inbox)
      (λ i. (Leaves-after_event m S (event.Nack o) i).workers)
      (copies_same f m S within.named (after_event m S (event.Nack o))
      (λ i. (Leaves-after_event m S (event.Nack o) i).copies))
  IsNamed-after_event (event.Gone o) on fit =
      let h = known f m S within.named (event.Gone o) on fit in
      one_named (event.Gone o) o h.0 h.1
      (ChangesOnly-after_event (of_object h.0) m S (within.links o h.0 h.1) (event.Gone o) on h.1)
      (others_gone f m S within.links within.named.entries (of_object h.0) o)
      (links_after (event.Gone o) on fit) (λ i. (Leaves-after_event m S (event.Gone o) i).inbox)
      (λ i. (Leaves-after_event m S (event.Gone o) i).workers)
      (copies_same f m S within.named (after_event m S (event.Gone o))
      (λ i. (Leaves-after_event m S (event.Gone o) i).copies))
  IsNamed-after_event (event.Retire o) on fit =
      let h = known f m S within.named (event.Retire o) on fit in
      one_named (event.Retire o) o h.0 h.1
      (ChangesOnly-after_event (of_object h.0) m S (within.links o h.0 h.1) (event.Retire o) on h.1)
      (left (event.Retire o) (of_object h.0) (λ i. (Leaves-after_event m S (event.Retire o) i).entries))
      (links_after (event.Retire o) on fit) (λ i. (Leaves-after_event m S (event.Retire o) i).inbox)
      (λ i. (Leaves-after_event m S (event.Retire o) i).workers)
      (retire_copies o h.0 h.1)

  -- and links stay within each object
  pub IsWithinObjects-after_event : (e : Event) → IsEnabled m S e → IsFitting f m S e →
      IsWithinObjects f (after_event m S e)
  IsWithinObjects-after_event e on fit = record { named = IsNamed-after_event e on fit; links = links_after e on fit }

-- the first state is within its objects
pub IsWithinObjects-initial_state : (f : Objects) (i : ImageState) → IsWithinObjects f (initial_state i)
IsWithinObjects-initial_state f i = record { named = IsNamed-initial_state f i; links = LinksStay-initial_state f i }
