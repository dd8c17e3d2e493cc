-- Lists of the names whose events of a kind may happen: a name is put in or taken out, the names of a kind are gone
-- through, and the list is the events of the kind that may happen, in order.
use Rattle.std.proofs.Common.{◌≡◌, ◌≢◌, ◌⊎◌, ℕ, ◌+◌, ◌<◌, ◌≤◌, Bool, true, false, List, map, length, Option, Some, None, option_map, refl, sym, ap, ◌∙◌, subst, inl, inr, arith}
use Rattle.std.specs.Prelude.{filter, is_some, slice_get}
use Rattle.std.specs.FinMap.{get, insert, empty, len, keys, entries, len-entries, get-empty}
use Rattle.std.proofs.lemmas.List.{length-map}
use Rattle.std.proofs.lemmas.Option.{none-some, same_Some, slice_get-map, slice_get_within}
use Rattle.tss_base.specs.declared.operand.OpName.{OpName}
use Rattle.tss_base.specs.declared.event.Event.{Event}
use Rattle.tss_base.specs.declared.event.Event.TheVariants as event
use Rattle.tss_base.specs.Names.{Named, name_cmp}
use Rattle.tss_maps.specs.Ordered.{key_at}
use Rattle.tss_maps.proofs.Keys.{name_order, decide_key}
use Rattle.tss_maps.proofs.Changes.{at_inserted, beside_inserted, at_removed, beside_removed, from_inserted, insert_same}
use Rattle.tss_maps.proofs.Entries.{len_added, len_at_most}
use Rattle.tss_maps.proofs.OrderedLemmas.{key_from_get}
use Rattle.tss_protocol.specs.Mail.{OpenContents, Mail, message_count}
use Rattle.tss_protocol.specs.Counts.{message_limit}
use Rattle.tss_protocol.specs.State.{State}
use Rattle.tss_protocol.specs.UnitMachine.{is_enabled, can_open_message, can_use_message}
use Rattle.tss_conditions.proofs.Filling.{within_sizes}
use Rattle.tss_mail.specs.declared.kind.Kind.{Kind}
use Rattle.tss_mail.specs.declared.kind.Kind.TheVariants as kind
use Rattle.tss_mail.specs.Kinds.{event_of}
use Rattle.tss_mail.specs.KindNames.{names_of_kind}
use Rattle.tss_pipeline.specs.declared.enabling.Source.TheVariants as source
use Rattle.tss_pipeline.specs.declared.units.Units.{Units}
use Rattle.tss_pipeline.specs.Enabling.{enabled_of_kind}
use Rattle.tss_pipeline.specs.State.{state_of}
use Rattle.tss_pipeline.specs.Fit.{IsFit}
use Rattle.tss_pipeline.specs.Listing.{Names, is_listed, is_there, marked, may_happen, FitsBeside, FitsIn, AreListed, name_taken}
use Rattle.tss_pipeline.proofs.ends.EndingLemmas.{mapped_there}
use Rattle.tss_pipeline.proofs.listed.ListedKeys.{filter-map, listed_keys}

not_both : false ≡ true → ⊥
not_both e = cc

-- what stands where a test says that something does
pub value_of : {X : Type 0} (o : Option X) → is_some o ≡ true → (x : X) × (o ≡ Some x)
value_of None e = absurd (not_both e)
value_of (Some x) e = (x, refl)

-- ---- one name

module _ (es : Named (Unit {0})) (o : OpName) where
  -- a name that is put in or taken out
  pub at_marked : (b : Bool) → is_some (get (marked es o b) o) ≡ b
  at_marked true = ap is_some (at_inserted name_order es o tt)
  at_marked false = ap is_some (at_removed name_order es o)

  -- any other name
  pub beside_marked : (b : Bool) (q : OpName) → q ≢ o → get (marked es o b) q ≡ get es q
  beside_marked true q other = beside_inserted name_order es o tt q other
  beside_marked false q other = beside_removed name_order es o q other

  -- a name that is there already
  pub marked_again : is_some (get es o) ≡ true → es ≡ insert es o tt
  marked_again there = by (get es o) refl there
    where
      by : (x : Option (Unit {0})) → get es o ≡ x → is_some x ≡ true → es ≡ insert es o tt
      by None e there = absurd (not_both there)
      by (Some tt) e there = sym (insert_same name_order es o tt e)

-- the same, where a test is passed
pub marked_there : (t : Names) (o : OpName) (may : Bool) → is_some (get t.entries o) ≡ true → may ≡ true
    → t ≡ record t { entries = marked t.entries o may }
marked_there t o may there passes =
    ap (λ es. record t { entries = es }) (marked_again t.entries o there ∙ ap (marked t.entries o) (sym passes))

-- a table without names
pub empty_fits : (u : Units) (k : Kind) (t : Names) → t.size ≡ message_limit u.machine → t.entries ≡ empty → FitsIn u k t
empty_fits u k t size none = record {
  size = size;
  each = λ q there.
      absurd (not_both (sym (ap (λ es. is_some (get es q)) none ∙ ap is_some (get-empty name_cmp q)) ∙ there));
}

-- the name of a message of a kind is that of its event
named : (f g : OpName → Event) (ks : List OpName) (i : ℕ) (e : Event)
    → ((o : OpName) → option_map g (name_taken (f o)) ≡ Some (f o)) → slice_get (map f ks) i ≡ Some e
    → option_map g (name_taken e) ≡ slice_get (map f ks) i
named f g ks i e is at =
    let t = mapped_there f ks i e at in
    subst (λ e. option_map g (name_taken e) ≡ Some e) t.2 (is t.0) ∙ sym at

pub named_of_kind : (m : Mail) (k : Kind) (i : ℕ) (e : Event) → slice_get (names_of_kind m k) i ≡ Some e
    → option_map (event_of k) (name_taken e) ≡ slice_get (names_of_kind m k) i
named_of_kind m kind.Decode i e at = named event.Decode event.Decode (keys m.decodes) i e (λ o. refl) at
named_of_kind m kind.Ack i e at = named event.Ack event.Ack (keys m.acks) i e (λ o. refl) at
named_of_kind m kind.Open i e at = named event.Open event.Open (keys m.opens) i e (λ o. refl) at
named_of_kind m kind.Use i e at = named event.Use event.Use (keys m.uses) i e (λ o. refl) at
named_of_kind m kind.Ready i e at = named event.Ready event.Ready (keys m.readies) i e (λ o. refl) at
named_of_kind m kind.Link i e at = named event.Link event.Link (keys m.links) i e (λ o. refl) at
named_of_kind m kind.Release i e at = named event.Release event.Release (keys m.releases) i e (λ o. refl) at
named_of_kind m kind.Bye i e at = named event.Bye event.Bye (keys m.byes) i e (λ o. refl) at
named_of_kind m kind.Idle i e at = named event.Idle event.Idle (keys m.idles) i e (λ o. refl) at
named_of_kind m kind.Nack i e at = named event.Nack event.Nack (keys m.nacks) i e (λ o. refl) at
named_of_kind m kind.Retire i e at = named event.Retire event.Retire (keys m.retires) i e (λ o. refl) at
named_of_kind m kind.Gone i e at = named event.Gone event.Gone (keys m.gones) i e (λ o. refl) at

-- names of events of one kind are apart
pub event_apart : (k : Kind) (a b : OpName) → event_of k a ≡ event_of k b → a ≡ b
event_apart kind.Decode a b e = cc
event_apart kind.Ack a b e = cc
event_apart kind.Open a b e = cc
event_apart kind.Use a b e = cc
event_apart kind.Ready a b e = cc
event_apart kind.Link a b e = cc
event_apart kind.Release a b e = cc
event_apart kind.Bye a b e = cc
event_apart kind.Idle a b e = cc
event_apart kind.Nack a b e = cc
event_apart kind.Retire a b e = cc
event_apart kind.Gone a b e = cc

-- ---- a name whose event may happen has a message

module _ (S : State) where
  open_there : (x : Option OpenContents) → can_open_message S x ≡ true → is_some x ≡ true
  open_there None may = may
  open_there (Some c) may = refl

  use_there : (x : Option OpName) → can_use_message S x ≡ true → is_some x ≡ true
  use_there None may = may
  use_there (Some v) may = refl

pub happens_there : (u : Units) (k : Kind) → is_listed k ≡ true → (o : OpName) → may_happen u k o ≡ true
    → is_there (state_of u).mail k o ≡ true
unfolding is_enabled
happens_there u kind.Decode listed o may = absurd (not_both listed)
happens_there u kind.Ack listed o may = absurd (not_both listed)
happens_there u kind.Open listed o may = open_there (state_of u) (get (state_of u).mail.opens o) may
happens_there u kind.Use listed o may = use_there (state_of u) (get (state_of u).mail.uses o) may
happens_there u kind.Ready listed o may = absurd (not_both listed)
happens_there u kind.Link listed o may = absurd (not_both listed)
happens_there u kind.Release listed o may = absurd (not_both listed)
happens_there u kind.Bye listed o may = absurd (not_both listed)
happens_there u kind.Idle listed o may = absurd (not_both listed)
happens_there u kind.Nack listed o may = absurd (not_both listed)
happens_there u kind.Retire listed o may = absurd (not_both listed)
happens_there u kind.Gone listed o may = absurd (not_both listed)

-- ---- there is room

-- a set of names with one more is no greater than a table that has them all
one_more : {X : Type 0} (es : Named (Unit {0})) (o : OpName) (m : Named X) → get es o ≡ None
    → ((q : OpName) → q ≢ o → is_some (get es q) ≡ true → is_some (get m q) ≡ true) → is_some (get m o) ≡ true
    → len es + 1 ≤ len m
one_more es o m new others own =
    let more = len_added name_order es o tt new in
    let few = len_at_most name_order (insert es o tt) m (λ q x at. there q (from_inserted name_order es o tt q x at)) in
    omega (arith, more, few)
  where
    there : (q : OpName) {x : Unit {0}} → ((q ≡ o) × (x ≡ tt)) ⊎ ((q ≢ o) × (get es q ≡ Some x)) → (y : _) × (get m q ≡ Some y)
    there q (inl h) = value_of (get m q) (ap (λ r. is_some (get m r)) h.0 ∙ own)
    there q (inr h) = value_of (get m q) (others q h.0 (ap is_some h.1))

pub room_for_name : (u : Units) → IsFit u → (k : Kind) → is_listed k ≡ true → (o : OpName) (t : Names)
    → FitsBeside u k o t → may_happen u k o ≡ true → get t.entries o ≡ None → len t.entries < t.size
room_for_name u fit k listed o t fits may new =
    by (within_sizes u.machine fit.reached.image (state_of u) fit.reached.reached).messages k
    (happens_there u k listed o may) fits.others listed
  where
    by : message_count (state_of u).mail ≤ message_limit u.machine → (k : Kind)
        → is_there (state_of u).mail k o ≡ true
        → ((q : OpName) → q ≢ o → is_some (get t.entries q) ≡ true → is_there (state_of u).mail k q ≡ true)
        → is_listed k ≡ true → len t.entries < t.size
    by messages kind.Open own others listed =
        let more = one_more t.entries o (state_of u).mail.opens new others own in
        let size = fits.size in
        omega (arith, more, messages, size)
    by messages kind.Use own others listed =
        let more = one_more t.entries o (state_of u).mail.uses new others own in
        let size = fits.size in
        omega (arith, more, messages, size)
    by messages kind.Decode own others listed = absurd (not_both listed)
    by messages kind.Ack own others listed = absurd (not_both listed)
    by messages kind.Ready own others listed = absurd (not_both listed)
    by messages kind.Link own others listed = absurd (not_both listed)
    by messages kind.Release own others listed = absurd (not_both listed)
    by messages kind.Bye own others listed = absurd (not_both listed)
    by messages kind.Idle own others listed = absurd (not_both listed)
    by messages kind.Nack own others listed = absurd (not_both listed)
    by messages kind.Retire own others listed = absurd (not_both listed)
    by messages kind.Gone own others listed = absurd (not_both listed)

-- ---- the names of a kind one by one

module _ (u : Units) (k : Kind) where
  -- the names of the kind's messages
  abbrev pub all_names : List Event
  all_names = names_of_kind (state_of u).mail k

  -- those up to a place have been tested
  pub record AreTestedTo (t : Names) (i : ℕ) : Type 0 where
    pub fits : FitsIn u k t
    pub done : (j : ℕ) (o : OpName) → j < i → slice_get all_names j ≡ Some (event_of k o)
        → is_some (get t.entries o) ≡ may_happen u k o

-- a name with a message has a place
place_there : {X : Type 0} (m : Named X) (f : OpName → Event) (o : OpName) → is_some (get m o) ≡ true
    → (j : ℕ) × (slice_get (map f (keys m)) j ≡ Some (f o))
unfolding key_at
place_there m f o there =
    let x = value_of (get m o) there in
    let p = key_from_get name_order m o x.0 x.1 in
    (p.0, slice_get-map f (keys m) p.0 ∙ ap (option_map f) p.1)

place_of_name : (u : Units) (k : Kind) → is_listed k ≡ true → (o : OpName) → is_there (state_of u).mail k o ≡ true
    → (j : ℕ) × (slice_get (all_names u k) j ≡ Some (event_of k o))
place_of_name u kind.Decode listed o there = absurd (not_both listed)
place_of_name u kind.Ack listed o there = absurd (not_both listed)
place_of_name u kind.Open listed o there = place_there (state_of u).mail.opens event.Open o there
place_of_name u kind.Use listed o there = place_there (state_of u).mail.uses event.Use o there
place_of_name u kind.Ready listed o there = absurd (not_both listed)
place_of_name u kind.Link listed o there = absurd (not_both listed)
place_of_name u kind.Release listed o there = absurd (not_both listed)
place_of_name u kind.Bye listed o there = absurd (not_both listed)
place_of_name u kind.Idle listed o there = absurd (not_both listed)
place_of_name u kind.Nack listed o there = absurd (not_both listed)
place_of_name u kind.Retire listed o there = absurd (not_both listed)
place_of_name u kind.Gone listed o there = absurd (not_both listed)

module _ (u : Units) (k : Kind) (listed : is_listed k ≡ true) where
  -- a list with one name tested anew
  abbrev pub with_tested : Names → OpName → Names
  with_tested t o = record t { entries = marked t.entries o (may_happen u k o) }

  -- its names have messages
  tested_there : (t : Names) (o : OpName) → FitsBeside u k o t → FitsIn u k (with_tested t o)
  tested_there t o fits = record {
    size = fits.size;
    each = λ q there. by q there (decide_key name_order q o);
  }
    where
      by : (q : OpName) → is_some (get (marked t.entries o (may_happen u k o)) q) ≡ true → (q ≡ o) ⊎ (q ≢ o)
          → is_there (state_of u).mail k q ≡ true
      by q there (inl same) =
          ap (is_there (state_of u).mail k) same
          ∙ happens_there u k listed o
          (sym (at_marked t.entries o (may_happen u k o))
          ∙ ap (λ r. is_some (get (marked t.entries o (may_happen u k o)) r)) (sym same)
          ∙ there)
      by q there (inr other) =
          fits.others q other (ap is_some (sym (beside_marked t.entries o (may_happen u k o) q other)) ∙ there)

  -- a name that is tested is in the list exactly where its event may happen, and any other as before
  tested_each : (t : Names) (o q : OpName) → (q ≢ o → is_some (get t.entries q) ≡ may_happen u k q)
      → is_some (get (with_tested t o).entries q) ≡ may_happen u k q
  tested_each t o q before = elim (decide_key name_order q o) [
    | inl same ↦
        ap (λ r. is_some (get (marked t.entries o (may_happen u k o)) r)) same
        ∙ at_marked t.entries o (may_happen u k o)
        ∙ ap (may_happen u k) (sym same)
    | inr other ↦ ap is_some (beside_marked t.entries o (may_happen u k o) q other) ∙ before other
  ]

  -- so one test makes a list right that is right for all other names
  pub one_tested : (t : Names) (o : OpName) → t.size ≡ (with_tested t o).size → FitsBeside u k o t
      → ((q : OpName) → q ≢ o → is_some (get t.entries q) ≡ may_happen u k q) → AreListed u k (with_tested t o)
  one_tested t o same fits others = record {
    size = fits.size;
    each = λ q. tested_each t o q (others q);
  }

  -- nothing is tested yet
  pub none_tested : (t : Names) → FitsIn u k t → AreTestedTo u k t 0
  none_tested t fits = record { fits = fits; done = λ j o below at. absurd (omega (arith, below)) }

  -- one more
  pub more_tested : (t : Names) (i : ℕ) → AreTestedTo u k t i → (o : OpName)
      → slice_get (all_names u k) i ≡ Some (event_of k o) → AreTestedTo u k (with_tested t o) (i + 1)
  more_tested t i so_far o at = record {
    fits = tested_there t o (record { size = so_far.fits.size; others = λ q other there. so_far.fits.each q there });
    done = λ j q below stands. tested_each t o q (λ other. so_far.done j q (earlier j q below stands other) stands);
  }
    where
      earlier : (j : ℕ) (q : OpName) → j < i + 1 → slice_get (all_names u k) j ≡ Some (event_of k q) → q ≢ o → j < i
      earlier j q below stands other = elim (split j below) [
        | inl less ↦ less
        | inr same ↦ absurd (other (event_apart k q o (same_Some _ _ (sym stands ∙ ap (slice_get (all_names u k)) same ∙ at))))
      ]
        where
          split : (j : ℕ) → j < i + 1 → (j < i) ⊎ (j ≡ i)
          split j below = grind (arith, below)

  -- where there is none at a place, the names before it are all
  pub none_more : (t : Names) (i : ℕ) → AreTestedTo u k t i → slice_get (all_names u k) i ≡ None
      → AreTestedTo u k t (i + 1)
  none_more t i so_far none = record {
    fits = so_far.fits;
    done = λ j q below stands. so_far.done j q (earlier j q below stands) stands;
  }
    where
      earlier : (j : ℕ) (q : OpName) → j < i + 1 → slice_get (all_names u k) j ≡ Some (event_of k q) → j < i
      earlier j q below stands = elim (split j below) [
        | inl less ↦ less
        | inr same ↦ absurd (none-some (event_of k q) (sym none ∙ ap (slice_get (all_names u k)) (sym same) ∙ stands))
      ]
        where
          split : (j : ℕ) → j < i + 1 → (j < i) ⊎ (j ≡ i)
          split j below = grind (arith, below)

  -- all
  pub all_tested : (t : Names) (i : ℕ) → AreTestedTo u k t i → length (all_names u k) ≤ i → AreListed u k t
  all_tested t i so_far past = record {
    size = so_far.fits.size;
    each = λ o. by o (is_there (state_of u).mail k o) refl;
  }
    where
      absent : (o : OpName) → is_there (state_of u).mail k o ≡ false → (b c : Bool)
          → is_some (get t.entries o) ≡ b → may_happen u k o ≡ c → b ≡ c
      absent o none true c e f = absurd (not_both (sym none ∙ so_far.fits.each o e))
      absent o none false true e f = absurd (not_both (sym none ∙ happens_there u k listed o f))
      absent o none false false e f = refl

      by : (o : OpName) (b : Bool) → is_there (state_of u).mail k o ≡ b → is_some (get t.entries o) ≡ may_happen u k o
      by o true there =
          let p = place_of_name u k listed o there in
          let within = slice_get_within (all_names u k) p.0 (event_of k o) p.1 in
          so_far.done p.0 o (omega (arith, within, past)) p.1
      by o false none = absent o none _ _ refl refl

  -- ---- the list is the events of the kind that may happen

  kept_of : {X : Type 0} (t : Names) (m : Named X) (f : OpName → Event) → AreListed u k t
      → ((o : OpName) → event_of k o ≡ f o) → ((o : OpName) → is_there (state_of u).mail k o ≡ is_some (get m o))
      → filter (is_enabled u.machine (state_of u)) (map f (keys m)) ≡ map f (keys t.entries)
  kept_of t m f is same there =
      filter-map (is_enabled u.machine (state_of u)) f (keys m)
      ∙ ap (map f) (sym (listed_keys name_order (λ o. is_enabled u.machine (state_of u) (f o)) t.entries m
      (λ o. is.each o ∙ ap (is_enabled u.machine (state_of u)) (same o))
      (λ o may. sym (there o)
      ∙ happens_there u k listed o (ap (is_enabled u.machine (state_of u)) (same o) ∙ may))))

pub listed_kind : (u : Units) (k : Kind) → is_listed k ≡ true → (t : Names) → AreListed u k t
    → enabled_of_kind u.machine (state_of u) (source.Letters k) ≡ map (event_of k) (keys t.entries)
listed_kind u kind.Decode listed t is = absurd (not_both listed)
listed_kind u kind.Ack listed t is = absurd (not_both listed)
listed_kind u kind.Open listed t is = kept_of u kind.Open listed t (state_of u).mail.opens event.Open is (λ o. refl) (λ o. refl)
listed_kind u kind.Use listed t is = kept_of u kind.Use listed t (state_of u).mail.uses event.Use is (λ o. refl) (λ o. refl)
listed_kind u kind.Ready listed t is = absurd (not_both listed)
listed_kind u kind.Link listed t is = absurd (not_both listed)
listed_kind u kind.Release listed t is = absurd (not_both listed)
listed_kind u kind.Bye listed t is = absurd (not_both listed)
listed_kind u kind.Idle listed t is = absurd (not_both listed)
listed_kind u kind.Nack listed t is = absurd (not_both listed)
listed_kind u kind.Retire listed t is = absurd (not_both listed)
listed_kind u kind.Gone listed t is = absurd (not_both listed)

-- as many, and each at its place
pub listed_count : (u : Units) (k : Kind) → is_listed k ≡ true → (t : Names) → AreListed u k t
    → len t.entries ≡ length (enabled_of_kind u.machine (state_of u) (source.Letters k))
listed_count u k listed t is =
    len-entries t.entries
    ∙ sym (length-map (entries t.entries) (λ (e : OpName × Unit {0}). e.0))
    ∙ sym (length-map (keys t.entries) (event_of k))
    ∙ ap (λ (es : List Event). length es) (sym (listed_kind u k listed t is))

pub listed_at : (u : Units) (k : Kind) → is_listed k ≡ true → (t : Names) → AreListed u k t → (i : ℕ)
    → option_map (event_of k) (key_at t.entries i) ≡ slice_get (enabled_of_kind u.machine (state_of u) (source.Letters k)) i
unfolding key_at
listed_at u k listed t is i =
    sym (slice_get-map (event_of k) (keys t.entries) i)
    ∙ ap (λ (es : List Event). slice_get es i) (sym (listed_kind u k listed t is))
