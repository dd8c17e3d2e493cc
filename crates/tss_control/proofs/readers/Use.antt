-- Readers after a use: its operand comes to the version as the newest reader.
use Rattle.std.proofs.Common.{◌≡◌, ◌≢◌, ◌⊎◌, inl, inr, ℕ, suc, ◌<◌, Bool, true, false, List, ◌∷◌, Option, Some, None}
use Rattle.std.proofs.Common.{refl, sym, ap, ◌∙◌, subst, arith}
use Rattle.std.specs.Prelude.{is_some}
use Rattle.std.specs.FinMap.{get, contains_key}
use Rattle.std.proofs.lemmas.Option.{none-some, same_Some}
use Rattle.tss_base.specs.declared.operand.OpName.{OpName}
use Rattle.tss_base.specs.declared.operand.Task.{Task}
use Rattle.tss_base.specs.declared.machine.Machine.{Machine}
use Rattle.tss_base.specs.declared.event.Event.TheVariants as event
use Rattle.tss_base.specs.declared.marks.LinkState.{LinkState}
use Rattle.tss_base.specs.declared.marks.LinkState.TheVariants as link
use Rattle.tss_base.specs.Names.{Named}
use Rattle.tss_maps.proofs.Keys.{name_order, decide_key}
use Rattle.tss_maps.proofs.Changes.{at_inserted, beside_inserted}
use Rattle.tss_protocol.specs.Mail.{StorageName, posted_all}
use Rattle.tss_protocol.specs.State.{State, OperandState, Version}
use Rattle.tss_protocol.specs.Stations.{operand_at}
use Rattle.tss_protocol.specs.Versions.{Versioned, put_version, enlisted, used_alone, used_behind, used_at, after_use}
use Rattle.tss_protocol.specs.UnitMachine.{IsEnabled, is_enabled, after_event, without, use_message_taken}
use Rattle.tss_protocol.specs.UnitMachine.{can_use_message}
use Rattle.tss_phases.specs.Phase.{Phase, Sent, Waiting, Told, look_ups, phase_of, has_released}
use Rattle.tss_phases.specs.Told.{tells, phase_told}
use Rattle.tss_phases.specs.Orderly.{AreOrderly}
use Rattle.tss_phases.proofs.Tests.{something, not_both}
use Rattle.tss_phases.proofs.PhaseLemmas.{phase_using}
use Rattle.tss_phases.proofs.OrderlyLemmas.{using_stands}
use Rattle.tss_phases.proofs.UseEvent.{use_tells, use_tells_reader, phase_of-use, phase_of-use-other}
use Rattle.tss_locality.proofs.LeftFields.{Leaves-after_event}
use Rattle.tss_control.specs.Members.{IsWriterOn}
use Rattle.tss_control.specs.Chains.{IsUseInOrder, HasChains}
use Rattle.tss_names.specs.Openings.{HasOpenings}
use Rattle.tss_control.specs.Readers.{Arrivals, set_arrivals, arrivals_used, arrivals_after_event, Has, has_arrived}
use Rattle.tss_control.specs.Readers.{IsArrival, IsLinking, HasArrivals, HasReaders}
use Rattle.tss_control.specs.Holders.{link_fits, HasHolders}
use Rattle.tss_control.proofs.rounds.ReadersLists.{has_newest}
use Rattle.tss_control.proofs.readers.Links.{links_kept, ready_with-no_link}
use Rattle.tss_control.proofs.readers.Settled.{fails}
use Rattle.tss_control.proofs.readers.Told.{produced_has_storage}
use Rattle.tss_control.proofs.readers.Come.{Comes, readers_come}
use Rattle.tss_control.proofs.readers.Enlisted.{Enlists, tail_is_newest, enlisted_told, enlisted_head, enlisted_behind}

-- a link that fits an operand whose use or open is under way is none
pub sent_link : (p : Phase) (l : LinkState) → p ≡ Sent → link_fits p l ≡ true → l ≡ link.Nothing
sent_link p l e fits = by l (ap (λ p. link_fits p l) (sym e) ∙ fits)
  where
    by : (l : LinkState) → link_fits Sent l ≡ true → l ≡ link.Nothing
    by link.Nothing e = refl
    by (link.Held c) e = absurd (cc)
    by link.Passed e = absurd (cc)

module _ (m : Machine) (all ts : List Task) (g : Arrivals) (S : State) (h : HasReaders ts g S) (orderly : AreOrderly S)
    (chains : HasChains ts S) (holders : HasHolders ts g S) (openings : HasOpenings m all S) (o v : OpName)
    (x : Version) (there : get S.mail.uses o ≡ Some v) (at : get S.versions v ≡ Some x) where
  abbrev After : State
  After = after_event m S (event.Use o)

  abbrev New : Arrivals
  New = set_arrivals g v (o ∷ g v)

  used : IsUseInOrder ts S o v
  used = chains.uses o v there

  was_sent : phase_of S o ≡ Sent
  was_sent =
      phase_using (look_ups S o) v (using_stands (look_ups S o) v (orderly o) there).0.decoding there

  now : phase_of After o ≡ phase_told (tells (after_use S.versions o v).sent o) Waiting
  now = phase_of-use m S o v there (orderly o).alone (using_stands (look_ups S o) v (orderly o) there).1.0

  others : (a : OpName) → a ≢ o → phase_of After a ≡ phase_of S a
  others a apart = phase_of-use-other m S o v there a apart

  stations : (a : OpName) → operand_at After.flight a ≡ operand_at S.flight a
  stations a = ap (λ f. operand_at f a) (λ i. (Leaves-after_event m S (event.Use o) i).flight)

  -- it hasn't come to any version
  fresh : (w : OpName) (y : Version) → get S.versions w ≡ Some y → Has o (g w) → ⊥
  fresh w y e k =
      not_both (has_arrived (phase_of S o)) ((h.versions w y e).each o k).arrived (ap has_arrived was_sent)

  reader_apart : (w : OpName) (y : Version) (a : OpName) → get S.versions w ≡ Some y → Has a (g w) → a ≢ o
  reader_apart w y a e k same = fresh w y e (subst (λ a. Has a (g w)) same k)

  same_object : x.object ≡ used.operand.object
  same_object = elim used.member [
    | inl y ↦ ap (λ (y : Version). y.object) (same_Some x y.0 (sym at ∙ y.1)) ∙ y.2
    | inr c ↦ absurd (none-some x (sym (openings.opens v c.0 c.1).no_version ∙ at))
  ]

  less_apart : (a b : ℕ) → a < b → a ≡ b → ⊥
  less_apart a b less same = omega (arith, less, same)

  come : (b : Bool) → has_arrived (phase_told b Waiting) ≡ true
  come true = refl
  come false = refl

  unreleased : (b : Bool) → has_released (phase_told b Waiting) ≡ false
  unreleased true = refl
  unreleased false = refl

  arrival : (z : Version) → z.object ≡ x.object → IsArrival ts After v z o
  arrival z object = record {
    on = record {
      operand = used.operand;
      there = used.there;
      object = sym (object ∙ same_object);
      is_mode = used.mode;
    };
    arrived = ap has_arrived now ∙ come (tells (after_use S.versions o v).sent o);
    younger = inr used.older;
    alone = λ q older newer w. used.alone q older newer (subst (λ x. IsWriterOn ts x q) (object ∙ same_object) w);
  }

  -- its record has no link
  no_link_yet : (r : OperandState) → operand_at After.flight o ≡ Some r → r.link ≡ link.Nothing
  no_link_yet r e =
      sent_link (phase_of S o) r.link was_sent
      (holders.links o used.operand r used.there (sym (stations o) ∙ e)).fits

  -- ---- the three ways

  enlists : (z : Version) → z.object ≡ x.object → z.produced ≡ x.produced → z.registered ≡ suc x.registered
      → z.released ≡ x.released → z.tail ≡ Some o → get After.mail.links o ≡ get S.mail.links o
      → Enlists ts (g v) S After v x z o
  enlists z object produced registered released tail links = record {
    old = h.versions v x at;
    same = λ a k. others a (reader_apart v x a at k);
    station = stations;
    object = object;
    produced = produced;
    registered = registered;
    released = released;
    tail = tail;
    arrival = arrival z object;
    fresh = fresh v x at;
    other = λ e. less_apart v.task o.task used.older (ap (λ (q : OpName). q.task) e);
    late = ap has_released now ∙ unreleased (tells (after_use S.versions o v).sent o);
    no_link = λ c e. let k = h.links o c (sym links ∙ e) in fresh k.0 k.1 k.2 k.3;
    nothing = no_link_yet;
  }

  -- what the use leaves
  record Left : Type 0 where
    version : Version
    versions : After.versions ≡ put_version S.versions v version
    readers : HasArrivals ts (o ∷ g v) After v version
    links : (a : OpName) → (Has a (g v) → ⊥) → get After.mail.links a ≡ get S.mail.links a
    linked : (a b : OpName) → IsLinking After a b → IsLinking S a b ⊎ Has a (g v)

  left_versions : After.versions ≡ (used_behind S.versions o v x x.tail).part
  unfolding after_event
  left_versions =
      ap (λ y. (use_message_taken (without S (event.Use o)) o y).versions) there
      ∙ ap (λ y. (used_at S.versions o v y).part) at

  abbrev links_of : Versioned → Named OpName
  links_of d = (posted_all (without S (event.Use o)).mail d.sent).links

  left_links : After.mail.links ≡ links_of (used_behind S.versions o v x x.tail)
  unfolding after_event
  left_links =
      ap (λ y. (use_message_taken (without S (event.Use o)) o y).mail.links) there
      ∙ ap (λ y. links_of (used_at S.versions o v y)) at

  left_alone : x.tail ≡ None → (b : Bool) → x.produced ≡ b → Left
  left_alone tail true produced =
      let versions = left_versions ∙ ap (λ t. (used_behind S.versions o v x t).part) tail
      ∙ ap (λ b. (used_alone S.versions o v x b).part) produced in
      let links = left_links ∙ ap (λ t. links_of (used_behind S.versions o v x t)) tail
      ∙ ap (λ b. links_of (used_alone S.versions o v x b)) produced
      ∙ links_kept (without S (event.Use o)).mail _ (ready_with-no_link o v x.storage) in
      let same : (a : OpName) → get After.mail.links a ≡ get S.mail.links a = λ a. ap (λ ls. get ls a) links in
      record {
        version = enlisted x o;
        versions = versions;
        readers = enlisted_told ts (g v) S After v x (enlisted x o) o (enlists (enlisted x o) refl refl refl refl refl
            (same o)) tail produced (told x.storage refl) refl same;
        links = λ a out. same a;
        linked = λ a b e. inl (sym (same a) ∙ e);
      }
    where
      told : (s : Option StorageName) → x.storage ≡ s → phase_of After o ≡ Told
      told None e = absurd (produced_has_storage ts S chains v x at produced e)
      told (Some s) e =
          now
          ∙ ap (λ b. phase_told b Waiting) (use_tells_reader S.versions o v
          (record { version = x; there = at; first = tail; produced = produced; storage = s; kept = e }))
  left_alone tail false produced =
      let versions = left_versions ∙ ap (λ t. (used_behind S.versions o v x t).part) tail
      ∙ ap (λ b. (used_alone S.versions o v x b).part) produced in
      let links = left_links ∙ ap (λ t. links_of (used_behind S.versions o v x t)) tail
      ∙ ap (λ b. links_of (used_alone S.versions o v x b)) produced in
      let same : (a : OpName) → get After.mail.links a ≡ get S.mail.links a = λ a. ap (λ ls. get ls a) links in
      let z : Version = record (enlisted x o) { head = Some o } in
      record {
        version = z;
        versions = versions;
        readers = enlisted_head ts (g v) S After v x z o (enlists z refl refl refl refl refl (same o)) tail produced
            waits refl same;
        links = λ a out. same a;
        linked = λ a b e. inl (sym (same a) ∙ e);
      }
    where
      waits : phase_of After o ≡ Waiting
      waits =
          now
          ∙ ap (λ b. phase_told b Waiting) (fails (tells (after_use S.versions o v).sent o) (λ t.
          let k = (use_tells S.versions o v o t).1 in
          not_both x.produced
          (ap (λ (x : Version). x.produced) (same_Some x k.version (sym at ∙ k.there)) ∙ k.produced) produced))

  left_behind : (t : OpName) → x.tail ≡ Some t → Left
  left_behind t tail =
      let versions = left_versions ∙ ap (λ t. (used_behind S.versions o v x t).part) tail in
      let links = left_links ∙ ap (λ t. links_of (used_behind S.versions o v x t)) tail in
      let k = h.versions v x at in
      let member = has_newest t (g v) (tail_is_newest S (g v) t (sym k.tail ∙ tail)) in
      let same : (a : OpName) → a ≢ t → get After.mail.links a ≡ get S.mail.links a =
      λ a apart. ap (λ ls. get ls a) links ∙ beside_inserted name_order S.mail.links t o a apart in
      record {
        version = enlisted x o;
        versions = versions;
        readers = enlisted_behind ts (g v) S After v x (enlisted x o) o
            (enlists (enlisted x o) refl refl refl refl refl
            (same o (λ is. reader_apart v x t at member (sym is)))) t tail waits refl
            (ap (λ ls. get ls t) links ∙ at_inserted name_order S.mail.links t o) same;
        links = λ a out. same a (λ is. out (subst (λ a. Has a (g v)) (sym is) member));
        linked = λ a b e. elim (decide_key name_order a t) [
          | inl is ↦ inr (subst (λ a. Has a (g v)) (sym is) member)
          | inr apart ↦ inl (sym (same a apart) ∙ e)
        ];
      }
    where
      waits : phase_of After o ≡ Waiting
      waits =
          now
          ∙ ap (λ b. phase_told b Waiting) (fails (tells (after_use S.versions o v).sent o) (λ t.
          let k = (use_tells S.versions o v o t).1 in
          none-some _ (sym k.first ∙ ap (λ (x : Version). x.tail) (same_Some k.version x (sym k.there ∙ at)) ∙ tail)))

  left_by : (t : Option OpName) → x.tail ≡ t → Left
  left_by None e = left_alone e x.produced refl
  left_by (Some t) e = left_behind t e

  -- ---- all readers

  comes : Left → Comes ts g S After o v x
  comes l = record {
    version = l.version;
    at = at;
    versions = l.versions;
    readers = l.readers;
    links = l.links;
    linked = l.linked;
    unread = fresh;
    same = others;
    station = stations;
  }

  readers_after_use : HasReaders ts New After
  readers_after_use = readers_come ts g S After o v x h (comes (left_by x.tail refl))

-- a version passes the test where it is registered
registered_by_test : (vs : Named Version) (v : OpName) → contains_key vs v ≡ true
    → (x : Version) × (get vs v ≡ Some x)
registered_by_test vs v e = something is_some (get vs v) refl e

-- use
pub HasReaders-use : (m : Machine) (all ts : List Task) (g : Arrivals) (S : State) → HasReaders ts g S → AreOrderly S
    → HasChains ts S → HasHolders ts g S → HasOpenings m all S → (o : OpName) → IsEnabled m S (event.Use o)
    → HasReaders ts (arrivals_after_event S g (event.Use o)) (after_event m S (event.Use o))
unfolding is_enabled
HasReaders-use m all ts g S h orderly chains holders openings o enabled =
    let v = something (can_use_message S) (get S.mail.uses o) refl enabled in
    let x = registered_by_test S.versions v.0 (ap (can_use_message S) (sym v.1) ∙ enabled) in
    subst (λ u. HasReaders ts (arrivals_used g o u) (after_event m S (event.Use o))) (sym v.1)
    (readers_after_use m all ts g S h orderly chains holders openings o v.0 x.0 v.1 x.1)
