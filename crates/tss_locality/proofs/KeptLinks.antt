-- Links stay within each object, in the first state and after every event.
use Rattle.std.proofs.Common.{◌≡◌, ℕ, Option, Some, None, refl, sym, ap, ◌∙◌, subst, inl, inr}
use Rattle.std.specs.FinMap.{get, get-empty}
use Rattle.std.specs.Ordering.{nat_cmp}
use Rattle.std.proofs.lemmas.Option.{none-some, same_Some}
use Rattle.tss_base.specs.declared.range.Range.{Range}
use Rattle.tss_base.specs.declared.operand.OpName.{OpName}
use Rattle.tss_base.specs.declared.machine.Machine.{Machine}
use Rattle.tss_base.specs.declared.event.Event.{Event}
use Rattle.tss_base.specs.declared.event.Event.TheVariants as event
use Rattle.tss_base.specs.Names.{name_cmp}
use Rattle.tss_base.specs.Image.{ImageState}
use Rattle.tss_base.specs.declared.operand.Operand.{Operand}
use Rattle.tss_protocol.specs.State.{Entry, CopyState, State, initial_state}
use Rattle.tss_protocol.specs.UnitMachine.{IsEnabled, after_event}
use Rattle.tss_locality.proofs.Flights.{record_in}
use Rattle.tss_locality.specs.Scopes.{Scope, ChangesOnly, Closed}
use Rattle.tss_locality.specs.Concerns.{FindsOwn}
use Rattle.tss_locality.specs.Objects.{Objects, object_scope, Every, LinksStay, HasObject, SpawnsWith, StandNumbered}
use Rattle.tss_locality.specs.Objects.{EntriesNamed}
use Rattle.tss_locality.proofs.EachEvent.{ChangesOnly-after_event}
use Rattle.tss_locality.proofs.LeftFields.{Leaves-after_event}
use Rattle.tss_locality.proofs.closed.ClosedObjectEvents.{Closed-decode, Closed-open, Closed-use, Closed-ready}
use Rattle.tss_locality.proofs.closed.ClosedObjectEvents.{Closed-link, Closed-release, Closed-idle, Closed-nack}
use Rattle.tss_locality.proofs.closed.ClosedObjectEvents.{Closed-retire, Closed-copy, Closed-gone}
use Rattle.tss_locality.proofs.closed.ClosedTaskEvents.{Closed-main, Closed-take, Closed-ack, Closed-start, Closed-exec}
use Rattle.tss_locality.proofs.closed.ClosedTaskEvents.{Closed-finish, Closed-bye}
use Rattle.tss_locality.proofs.closed.ApartScopes.{AreApart, OthersWere, closed_apart}
use Rattle.tss_locality.proofs.EntryChanges.{object_found, decoded_object, entries_decoded, entries_idle, entries_gone}
use Rattle.tss_locality.proofs.SeparateObjects.{decide_range}

-- nothing stands in the first state, so nothing has a link
pub LinksStay-initial_state : (f : Objects) (i : ImageState) → LinksStay f (initial_state i)
LinksStay-initial_state f i o x named = record {
  arrivals = λ q p in_c e. absurd (none-some p e);
  flight = λ q r in_c e. absurd (none-some r
      (sym (ap (record_in q.place) (get-empty nat_cmp q.task)) ∙ e));
  workers = λ w b e. absurd (none-some b (sym (get-empty nat_cmp w) ∙ e));
  entries = λ b e there. absurd (none-some e (sym (get-empty nat_cmp b) ∙ there));
  versions = λ v y in_c e. absurd (none-some y (sym (get-empty name_cmp v) ∙ e));
  mail = record {
    decodes = λ q y in_c e. absurd (none-some y (sym (get-empty name_cmp q) ∙ e));
    opens = λ q y in_c e. absurd (none-some y (sym (get-empty name_cmp q) ∙ e));
    uses = λ q y in_c e. absurd (none-some y (sym (get-empty name_cmp q) ∙ e));
    readies = λ q y in_c e. absurd (none-some y (sym (get-empty name_cmp q) ∙ e));
    links = λ q y in_c e. absurd (none-some y (sym (get-empty name_cmp q) ∙ e));
    releases = λ q y in_c e. absurd (none-some y (sym (get-empty name_cmp q) ∙ e));
    idles = λ q y in_c e. absurd (none-some y (sym (get-empty name_cmp q) ∙ e));
    gones = λ q y in_c e. absurd (none-some y (sym (get-empty name_cmp q) ∙ e));
  };
  copies = λ b k in_c e. absurd (none-some k (sym (get-empty nat_cmp b) ∙ e));
}

-- the operand or version of an event has an object, decode finds an entry of its own object or none, and a task that
-- starts stands under its number
abbrev pub IsKnown : Objects → Machine → State → Event → Type 0
IsKnown f m S event.Main = SpawnsWith f m S
IsKnown f m S event.Take = Unit {0}
IsKnown f m S (event.Decode o) = HasObject f o × FindsOwn S o
IsKnown f m S (event.Ack o) = HasObject f o
IsKnown f m S (event.Open o) = HasObject f o
IsKnown f m S (event.Use o) = HasObject f o
IsKnown f m S (event.Ready o) = HasObject f o
IsKnown f m S (event.Link o) = HasObject f o
IsKnown f m S (event.Start w) = StandNumbered S
IsKnown f m S (event.Exec w) = Unit {0}
IsKnown f m S (event.Finish w) = Unit {0}
IsKnown f m S (event.Release o) = HasObject f o
IsKnown f m S (event.Bye o) = HasObject f o
IsKnown f m S (event.Idle v) = HasObject f v
IsKnown f m S (event.Nack v) = HasObject f v
IsKnown f m S (event.Retire v) = HasObject f v
IsKnown f m S (event.Copy b) = (k : CopyState) → get S.copies b ≡ Some k → f k.version ≡ Some k.object
IsKnown f m S (event.Gone v) = HasObject f v

module _ (f : Objects) (m : Machine) (S : State) (stay : LinksStay f S) (entries : EntriesNamed f S.entries) where
  -- the scope of an object that is named
  abbrev of_object : Range → Scope
  of_object x = object_scope f x Every

  apart_scopes : (x y : Range) → (x ≡ y → ⊥) → AreApart (of_object x) (of_object y)
  apart_scopes x y other = record {
    names = λ z in_y in_x. other (same_Some x y (sym in_x ∙ in_y));
    objects = λ z is_y is_x. other (sym is_x ∙ is_y);
  }

  -- an event that concerns one object, leaves the workers and makes no entry of another object
  keep : (e : Event) (o : OpName) (x : Range) → Closed (of_object x) (after_event m S e) →
      ChangesOnly (of_object x) S (after_event m S e) → OthersWere (of_object x) S (after_event m S e) →
      (after_event m S e).workers ≡ S.workers → LinksStay f (after_event m S e)
  keep e o x kept only were workers q y fq =
      let T = after_event m S e in
      elim (decide_range x y) [
        | inl same ↦ subst (λ x. Closed (of_object x) T) same kept
        | inr other ↦
            closed_apart (of_object x) (of_object y) S T (apart_scopes x y other) only were (stay q y fq) workers
      ]

  -- ---- entries of other objects

  -- entries that an event leaves
  pub others_left : (c : Scope) (T : State) → T.entries ≡ S.entries → OthersWere c S T
  others_left c T same b y at other = ap (λ es. get es b) (sym same) ∙ at

  found_own : (p : Operand) (e : Option Entry) → ((y : Entry) → e ≡ Some y → y.object ≡ p.object) →
      object_found p.object e ≡ p.object
  found_own p None own = refl
  found_own p (Some y) own = own y refl

  -- decode makes or changes an entry of its own object
  pub others_decoded : (o : OpName) (x : Range) → f o ≡ Some x → FindsOwn S o →
      OthersWere (of_object x) S (after_event m S (event.Decode o))
  others_decoded o x fo found b y at other = elim (entries_decoded m S o b y at) [
    | inl was ↦ was
    | inr d ↦
        let p = d.operand in
        let e = get S.entries p.object.base in
        absurd (other (ap (λ (e : Entry). e.object) d.entry ∙ decoded_object o p e
        ∙ found_own p e (λ y at. found p y d.there at) ∙ (stay o x fo).mail.decodes o p fo d.there))
  ]

  -- idle changes an entry of its version's object
  pub others_idle : (v : OpName) (x : Range) → f v ≡ Some x →
      OthersWere (of_object x) S (after_event m S (event.Idle v))
  others_idle v x fv b y at other = elim (entries_idle m S v b y at) [
    | inl was ↦ was
    | inr d ↦
        let of_latest = (entries b d.entry d.there).0 in
        absurd (other (d.object ∙ same_Some d.entry.object x (sym of_latest ∙ ap f d.latest ∙ fv)))
  ]

  -- gone makes none
  pub others_gone : (c : Scope) (v : OpName) → OthersWere c S (after_event m S (event.Gone v))
  others_gone c v b y at other = entries_gone m S v b y at

  -- ---- each event

  copy_kept : (b : ℕ) → IsEnabled m S (event.Copy b) →
      ((k : CopyState) → get S.copies b ≡ Some k → f k.version ≡ Some k.object) →
      (k : Option CopyState) → get S.copies b ≡ k → LinksStay f (after_event m S (event.Copy b))
  copy_kept b on known None there = λ o x fo.
      Closed-copy (of_object x) m S (stay o x fo) b (λ k e. absurd (none-some k (sym there ∙ e)))
  copy_kept b on known (Some k) there =
      let fo = known k there in
      let c = of_object k.object in
      let this : (l : CopyState) → get S.copies b ≡ Some l → l.object ≡ k.object =
      λ l e. ap (λ (k : CopyState). k.object) (same_Some l k (sym e ∙ there)) in
      keep (event.Copy b) k.version k.object
      (Closed-copy c m S (stay k.version k.object fo) b this)
      (ChangesOnly-after_event c m S (stay k.version k.object fo) (event.Copy b) on this)
      (others_left c (after_event m S (event.Copy b)) (λ i. (Leaves-after_event m S (event.Copy b) i).entries))
      (λ i. (Leaves-after_event m S (event.Copy b) i).workers)

  -- links stay within each object after an enabled event
  pub LinksStay-after_event : (e : Event) → IsEnabled m S e → IsKnown f m S e → LinksStay f (after_event m S e)
  LinksStay-after_event event.Main on known = λ o x fo.
      Closed-main (of_object x) m S (stay o x fo)
      (λ call next t spawned q p in_x e. same_Some p.object x (sym (known call next t spawned q p e) ∙ in_x))
  LinksStay-after_event event.Take on known = λ o x fo. Closed-take (of_object x) m S (stay o x fo)
  LinksStay-after_event (event.Ack a) on known = λ o x fo. Closed-ack (of_object x) m S (stay o x fo) a
  LinksStay-after_event (event.Start w) on known = λ o x fo. Closed-start (of_object x) m S (stay o x fo) w known
  LinksStay-after_event (event.Exec w) on known = λ o x fo. Closed-exec (of_object x) m S (stay o x fo) w
  LinksStay-after_event (event.Finish w) on known = λ o x fo. Closed-finish (of_object x) m S (stay o x fo) w
  LinksStay-after_event (event.Bye a) on known = λ o x fo. Closed-bye (of_object x) m S (stay o x fo) a
  LinksStay-after_event (event.Copy b) on known = copy_kept b on known (get S.copies b) refl
  LinksStay-after_event (event.Decode a) on known =
      let c = of_object known.0.0 in
      let closed = stay a known.0.0 known.0.1 in
      keep (event.Decode a) a known.0.0 (Closed-decode c m S closed a (known.0.1, tt) known.1)
      (ChangesOnly-after_event c m S closed (event.Decode a) on ((known.0.1, tt), known.1))
      (others_decoded a known.0.0 known.0.1 known.1)
      (λ i. (Leaves-after_event m S (event.Decode a) i).workers)
  LinksStay-after_event (event.Open a) on known =
      let c = of_object known.0 in
      let closed = stay a known.0 known.1 in
      keep (event.Open a) a known.0 (Closed-open c m S closed a (known.1, tt))
      (ChangesOnly-after_event c m S closed (event.Open a) on (known.1, tt))
      (others_left c (after_event m S (event.Open a)) (λ i. (Leaves-after_event m S (event.Open a) i).entries))
      (λ i. (Leaves-after_event m S (event.Open a) i).workers)
  LinksStay-after_event (event.Use a) on known =
      let c = of_object known.0 in
      let closed = stay a known.0 known.1 in
      keep (event.Use a) a known.0 (Closed-use c m S closed a (known.1, tt))
      (ChangesOnly-after_event c m S closed (event.Use a) on (known.1, tt))
      (others_left c (after_event m S (event.Use a)) (λ i. (Leaves-after_event m S (event.Use a) i).entries))
      (λ i. (Leaves-after_event m S (event.Use a) i).workers)
  LinksStay-after_event (event.Ready a) on known =
      let c = of_object known.0 in
      let closed = stay a known.0 known.1 in
      keep (event.Ready a) a known.0 (Closed-ready c m S closed a (known.1, tt))
      (ChangesOnly-after_event c m S closed (event.Ready a) on (known.1, tt))
      (others_left c (after_event m S (event.Ready a)) (λ i. (Leaves-after_event m S (event.Ready a) i).entries))
      (λ i. (Leaves-after_event m S (event.Ready a) i).workers)
  LinksStay-after_event (event.Link a) on known =
      let c = of_object known.0 in
      let closed = stay a known.0 known.1 in
      keep (event.Link a) a known.0 (Closed-link c m S closed a (known.1, tt))
      (ChangesOnly-after_event c m S closed (event.Link a) on (known.1, tt))
      (others_left c (after_event m S (event.Link a)) (λ i. (Leaves-after_event m S (event.Link a) i).entries))
      (λ i. (Leaves-after_event m S (event.Link a) i).workers)
  LinksStay-after_event (event.Release a) on known =
      let c = of_object known.0 in
      let closed = stay a known.0 known.1 in
      keep (event.Release a) a known.0 (Closed-release c m S closed a (known.1, tt))
      (ChangesOnly-after_event c m S closed (event.Release a) on (known.1, tt))
      (others_left c (after_event m S (event.Release a)) (λ i. (Leaves-after_event m S (event.Release a) i).entries))
      (λ i. (Leaves-after_event m S (event.Release a) i).workers)
  LinksStay-after_event (event.Idle a) on known =
      let c = of_object known.0 in
      let closed = stay a known.0 known.1 in
      keep (event.Idle a) a known.0 (Closed-idle c m S closed a)
      (ChangesOnly-after_event c m S closed (event.Idle a) on known.1) (others_idle a known.0 known.1)
      (λ i. (Leaves-after_event m S (event.Idle a) i).workers)
  LinksStay-after_event (event.Nack a) on known =
      let c = of_object known.0 in
      let closed = stay a known.0 known.1 in
      keep (event.Nack a) a known.0 (Closed-nack c m S closed a known.1)
      (ChangesOnly-after_event c m S closed (event.Nack a) on known.1)
      (others_left c (after_event m S (event.Nack a)) (λ i. (Leaves-after_event m S (event.Nack a) i).entries))
      (λ i. (Leaves-after_event m S (event.Nack a) i).workers)
  LinksStay-after_event (event.Retire a) on known =
      let c = of_object known.0 in
      let closed = stay a known.0 known.1 in
      keep (event.Retire a) a known.0 (Closed-retire c m S closed a known.1)
      (ChangesOnly-after_event c m S closed (event.Retire a) on known.1)
      (others_left c (after_event m S (event.Retire a)) (λ i. (Leaves-after_event m S (event.Retire a) i).entries))
      (λ i. (Leaves-after_event m S (event.Retire a) i).workers)
  LinksStay-after_event (event.Gone a) on known =
      let c = of_object known.0 in
      let closed = stay a known.0 known.1 in
      keep (event.Gone a) a known.0 (Closed-gone c m S closed a)
      (ChangesOnly-after_event c m S closed (event.Gone a) on known.1) (others_gone c a)
      (λ i. (Leaves-after_event m S (event.Gone a) i).workers)
