-- What the stations do to a task's records stays in a scope: ready, link, bye and finish, and a task that enters.
use Rattle.std.proofs.Common.{◌≡◌, ℕ, suc, ◌+◌, add-zero, Bool, true, false, cond, List, [], ◌∷◌, ◌++◌, Option, Some}
use Rattle.std.proofs.Common.{None, refl, sym, ap, ◌∙◌, subst, inl, inr, arith}
use Rattle.std.specs.Prelude.{◌==◌, slice_get}
use Rattle.std.proofs.lemmas.Bool.Decides.{nat_tests}
use Rattle.std.specs.FinMap.{get, insert}
use Rattle.tss_base.specs.declared.operand.OpName.{OpName}
use Rattle.tss_base.specs.declared.operand.Operand.{Operand}
use Rattle.tss_base.specs.declared.marks.Stage.TheVariants as stage
use Rattle.tss_base.specs.declared.marks.LinkState.{LinkState}
use Rattle.tss_base.specs.declared.marks.LinkState.TheVariants as link
use Rattle.tss_base.specs.Names.{Named, Numbered}
use Rattle.tss_maps.proofs.Keys.{nat_order, name_order, decide_key}
use Rattle.tss_maps.proofs.Changes.{at_inserted, beside_inserted}
use Rattle.tss_protocol.specs.Names.{operand_name}
use Rattle.tss_protocol.specs.Mail.{Source, Message}
use Rattle.tss_protocol.specs.State.{OperandState, Flying, Outcome}
use Rattle.tss_protocol.specs.Gateway.{names_from, held_with, decodes_from}
use Rattle.tss_protocol.specs.Stations.{operand_at, with_operand, is_complete, task_after_ready, operand_after_ready}
use Rattle.tss_protocol.specs.Stations.{sent_by_ready, Woken, woken_by, woken_in, after_ready, sent_by_link}
use Rattle.tss_protocol.specs.Stations.{operand_after_link, linked_by, linked_in, after_link, release_of, releases_from}
use Rattle.tss_protocol.specs.Stations.{finished_in, flight_after_finish, operand_after_bye, parted_by, parted_in}
use Rattle.tss_protocol.specs.Stations.{after_bye}
use Rattle.tss_protocol.specs.UnitMachine.{queue_with}
use Rattle.tss_locality.specs.Agreement.{Beyond, AgreeAt, SameShape, times_in}
use Rattle.tss_locality.specs.Scopes.{Scope, IsOwn, beyond, SourceIn, MaybeSourceIn, LinkIn, RecordIn, MessagesIn}
use Rattle.tss_locality.specs.Scopes.{AreSentIn, ClosedFlight}
use Rattle.tss_locality.proofs.Agreements.{agree_then, agree_inserted}
use Rattle.tss_locality.proofs.States.{FlightOn, shape_same, same_flight}
use Rattle.tss_locality.proofs.Flights.{record_in, KeepsTask, keeps_records, keeps_with_operand, flight_inserted}
use Rattle.tss_locality.proofs.Flights.{flight_remaining}

-- ---- the queue

-- numbers that differ, as a test
pub other_number : (t n : ℕ) → (t ≡ n → ⊥) → (t == n) ≡ false
other_number t n apart = by (t == n) refl
  where
    by : (b : Bool) → (t == n) ≡ b → (t == n) ≡ false
    by true e = absurd (apart (grind (arith, nat_tests)))
    by false e = e

one_more : (n t : ℕ) → (t ≡ n → ⊥) → (qs : List ℕ) → times_in n (t ∷ qs) ≡ times_in n qs
one_more n t apart qs = ap (λ b. cond b (suc (times_in n qs)) (times_in n qs)) (other_number t n apart)

-- another number at the end of a list
times_behind : (n t : ℕ) → (t ≡ n → ⊥) → (qs : List ℕ) → times_in n (qs ++ t ∷ []) ≡ times_in n qs
times_behind n t apart [] = one_more n t apart []
times_behind n t apart (q ∷ qs) = ap (λ k. cond (q == n) (suc k) k) (times_behind n t apart qs)

-- another number at the front
pub times_in_front : (n t : ℕ) → (t ≡ n → ⊥) → (qs : List ℕ) → times_in n qs ≡ times_in n (t ∷ qs)
times_in_front n t apart qs = sym (one_more n t apart qs)

-- a task is queued, or isn't
pub times_queued : (P : ℕ → Type 0) (queue : List ℕ) (t : ℕ) (queued : Bool) → P t → (n : ℕ) → Beyond P n →
    times_in n (queue_with queue t queued) ≡ times_in n queue
times_queued P queue t true p n out = times_behind n t (λ same. out (subst P same p)) queue
times_queued P queue t false p n out = refl

-- places counted on
pub shifted : (k j : ℕ) → suc k + j ≡ k + suc j
shifted k j = omega arith

-- and from the first on
pub from_zero : (j : ℕ) → 0 + j ≡ j
from_zero j = omega arith

-- what becomes of the tasks in flight, and the messages with it
pub record TasksOnly (c : Scope) (f : Numbered Flying) (d : Outcome (Numbered Flying)) : Type 0 where
  pub flight : FlightOn (beyond c) f d.part
  pub sent : MessagesIn c d.sent

module _ (c : Scope) (f : Numbered Flying) (closed : ClosedFlight c f) where
  -- the record of an operand of the scope
  recorded : (o : OpName) (x : Flying) (r : OperandState) → c.names o → get f o.task ≡ Some x →
      slice_get x.operands o.place ≡ Some r → RecordIn c r
  recorded o x r p there here = closed o r p
      (ap (record_in o.place) there ∙ here)

  -- ---- ready

  keeps_awaited : (n : ℕ) (x y : Flying) → KeepsTask c n x y → (b : Bool) →
      KeepsTask c n x (cond b (record y { stage = stage.Queued }) y)
  keeps_awaited n x y k true = record { task = k.task; operands = k.operands; records = k.records }
  keeps_awaited n x y k false = k

  ready_sent : (l : LinkState) (s : Source) → LinkIn c l → SourceIn c s → MessagesIn c (sent_by_ready l s)
  ready_sent link.Nothing s i j = tt
  ready_sent (link.Held next) s i j = ((i, j), tt)
  ready_sent link.Passed s i j = tt

  -- the tasks in flight and the messages after a ready
  pub record ReadyOnly (w : Woken) : Type 0 where
    pub flight : FlightOn (beyond c) f w.flight
    pub sent : MessagesIn c w.sent

  woken_by_only : (o : OpName) (s : Source) (x : Flying) → get f o.task ≡ Some x → IsOwn c o → SourceIn c s →
      (r : Option OperandState) → slice_get x.operands o.place ≡ r → ReadyOnly (woken_by f o s x r)
  woken_by_only o s x there own i None here = record { flight = same_flight (beyond c) f; sent = tt }
  woken_by_only o s x there own i (Some r) here =
      let y = task_after_ready x o.place r s in
      let kept = keeps_with_operand c o x (operand_after_ready r s) own.0 in
      record {
        flight = flight_inserted c f o.task x (cond (is_complete y) (record y { stage = stage.Queued }) y) own.1 there
            (keeps_awaited o.task x y kept (is_complete y));
        sent = ready_sent r.link s (recorded o x r own.0 there here).link i;
      }

  woken_in_only : (o : OpName) (s : Source) → IsOwn c o → SourceIn c s → (x : Option Flying) → get f o.task ≡ x →
      ReadyOnly (woken_in f o s x)
  woken_in_only o s own i None there = record { flight = same_flight (beyond c) f; sent = tt }
  woken_in_only o s own i (Some x) there = woken_by_only o s x there own i (slice_get x.operands o.place) refl

  -- an operand is told its version
  pub ready_only : (o : OpName) (s : Source) → IsOwn c o → SourceIn c s → ReadyOnly (after_ready f o s)
  ready_only o s own i = woken_in_only o s own i (get f o.task) refl

  -- ---- link

  link_sent : (s : Option Source) (next : OpName) → MaybeSourceIn c s → c.names next →
      MessagesIn c (sent_by_link s next)
  link_sent None next i p = tt
  link_sent (Some s) next i p = ((p, i), tt)

  linked_by_only : (o next : OpName) (x : Flying) → get f o.task ≡ Some x → IsOwn c o → c.names next →
      (r : Option OperandState) → slice_get x.operands o.place ≡ r → TasksOnly c f (linked_by f o next x r)
  linked_by_only o next x there own p None here = record { flight = same_flight (beyond c) f; sent = tt }
  linked_by_only o next x there own p (Some r) here = record {
    flight = flight_remaining c f o.task x (with_operand x o.place (operand_after_link r next)) own.1 there
        (keeps_with_operand c o x (operand_after_link r next) own.0);
    sent = link_sent r.source next (recorded o x r own.0 there here).source p;
  }

  linked_in_only : (o next : OpName) → IsOwn c o → c.names next → (x : Option Flying) → get f o.task ≡ x →
      TasksOnly c f (linked_in f o next x)
  linked_in_only o next own p None there = record { flight = same_flight (beyond c) f; sent = tt }
  linked_in_only o next own p (Some x) there = linked_by_only o next x there own p (slice_get x.operands o.place) refl

  -- an operand is told who comes next
  pub link_only : (o next : OpName) → IsOwn c o → c.names next → TasksOnly c f (after_link f o next)
  link_only o next own p = linked_in_only o next own p (get f o.task) refl

module _ (c : Scope) (f : Numbered Flying) where
  -- ---- bye

  parted_by_only : (o : OpName) (promised : Bool) (x : Flying) → get f o.task ≡ Some x → IsOwn c o →
      (r : Option OperandState) → FlightOn (beyond c) f (parted_by f o promised x r)
  parted_by_only o promised x there own None = same_flight (beyond c) f
  parted_by_only o promised x there own (Some r) =
      flight_remaining c f o.task x (with_operand x o.place (operand_after_bye r promised)) own.1 there
      (keeps_with_operand c o x (operand_after_bye r promised) own.0)

  parted_in_only : (o : OpName) (promised : Bool) → IsOwn c o → (x : Option Flying) → get f o.task ≡ x →
      FlightOn (beyond c) f (parted_in f o promised x)
  parted_in_only o promised own None there = same_flight (beyond c) f
  parted_in_only o promised own (Some x) there = parted_by_only o promised x there own (slice_get x.operands o.place)

  -- an operand says farewell
  pub bye_only : (o : OpName) (promised : Bool) → IsOwn c o → FlightOn (beyond c) f (after_bye f o promised)
  bye_only o promised own = parted_in_only o promised own (get f o.task) refl

module _ (c : Scope) (f : Numbered Flying) (n : ℕ) (own : c.tasks n) where
  -- ---- finish

  release_sent : (k : ℕ) (r : OperandState) (s : Option Source) (rest : List Message) → c.names (operand_name n k) →
      AreSentIn c rest → AreSentIn c (release_of (operand_name n k) r s ++ rest)
  release_sent k r None rest p more = more
  release_sent k r (Some s) rest p more = ((p, own), more)

  releases_sent : (k : ℕ) (rs : List OperandState) →
      ((j : ℕ) (r : OperandState) → slice_get rs j ≡ Some r → c.names (operand_name n (k + j))) →
      AreSentIn c (releases_from n k rs)
  releases_sent k [] names = tt
  releases_sent k (r ∷ rs) names =
      release_sent k r r.source (releases_from n (suc k) rs)
      (subst (λ j. c.names (operand_name n j)) (add-zero k) (names 0 r refl))
      (releases_sent (suc k) rs (λ j q e. subst (λ j. c.names (operand_name n j)) (sym (shifted k j))
      (names (suc j) q e)))

  finished_only : (x : Option Flying) → get f n ≡ x → FlightOn (beyond c) f (finished_in f n x).part
  finished_only None there = same_flight (beyond c) f
  finished_only (Some x) there =
      flight_remaining c f n x (record x { stage = stage.Finished }) own there
      (keeps_records c n x (record x { stage = stage.Finished }) refl refl)

  -- a task that finishes is changed alone
  pub finish_only : FlightOn (beyond c) f (flight_after_finish f n).part
  finish_only = finished_only (get f n) refl

  finished_sent : (x : Option Flying) → get f n ≡ x →
      ((k : ℕ) (r : OperandState) → operand_at f (operand_name n k) ≡ Some r → c.names (operand_name n k)) →
      AreSentIn c (finished_in f n x).sent
  finished_sent None there names = tt
  finished_sent (Some x) there names =
      releases_sent 0 x.operands (λ j r e. subst (λ j. c.names (operand_name n j)) (sym (from_zero j))
      (names j r (ap (record_in j) there ∙ e)))

  -- and its operands' releases are sent
  pub finish_sent : ((k : ℕ) (r : OperandState) → operand_at f (operand_name n k) ≡ Some r →
      c.names (operand_name n k)) →
      AreSentIn c (flight_after_finish f n).sent
  finish_sent names = finished_sent (get f n) refl names

  -- ---- take

  -- a decode for each operand
  pub decodes_sent : (k : ℕ) (os : List Operand) →
      ((j : ℕ) (o : Operand) → slice_get os j ≡ Some o → c.names (operand_name n (k + j))) →
      AreSentIn c (decodes_from n k os)
  decodes_sent k [] names = tt
  decodes_sent k (o ∷ os) names = (
    (subst (λ j. c.names (operand_name n j)) (add-zero k) (names 0 o refl), own),
    decodes_sent (suc k) os (λ j q e. subst (λ j. c.names (operand_name n j)) (sym (shifted k j)) (names (suc j) q e)),
  )

  -- the gateway holds them
  pub gateway_held : (g h : Named (Unit {0})) → AgreeAt (Beyond (IsOwn c)) g h → (k : ℕ) (os : List Operand) →
      ((j : ℕ) (o : Operand) → slice_get os j ≡ Some o → c.names (operand_name n (k + j))) →
      AgreeAt (Beyond (IsOwn c)) g (held_with h (names_from n k os))
  gateway_held g h same k [] names = same
  gateway_held g h same k (o ∷ os) names =
      let p : IsOwn c (operand_name n k) =
      (subst (λ j. c.names (operand_name n j)) (add-zero k) (names 0 o refl), own) in
      let more = insert h (operand_name n k) tt in
      gateway_held g more
      (agree_then (Beyond (IsOwn c)) g h more same (agree_inserted name_order (IsOwn c) h (operand_name n k) tt p))
      (suc k) os (λ j q e. subst (λ j. c.names (operand_name n j)) (sym (shifted k j)) (names (suc j) q e))

  shape_from_none : (a b : Option Flying) → a ≡ None → SameShape a b
  shape_from_none a b e = subst (λ a. SameShape a b) (sym e) tt

  no_record : (x y : Option OperandState) → x ≡ None → ((r : OperandState) → y ≡ Some r → ⊥) → y ≡ x
  no_record x None e none = sym e
  no_record x (Some r) e none = absurd (none r refl)

  -- a new task with operands of the scope enters
  pub flight_entered : (y : Flying) → get f n ≡ None →
      ((k : ℕ) (r : OperandState) → slice_get y.operands k ≡ Some r → c.names (operand_name n k)) →
      FlightOn (beyond c) f (insert f n y)
  flight_entered y new names = record {
    flight = agree_inserted nat_order c.tasks f n y own;
    shapes = λ q. elim (decide_key nat_order q n) [
      | inl same ↦ shape_from_none (get f q) (get (insert f n y) q) (ap (get f) same ∙ new)
      | inr apart ↦ subst (SameShape (get f q)) (sym (beside_inserted nat_order f n y q apart)) (shape_same (get f q))
    ];
    operands = λ o out. inl (elim (decide_key nat_order o.task n) [
      | inl same ↦
          no_record (operand_at f o) (operand_at (insert f n y) o)
          (ap (record_in o.place) (ap (get f) same ∙ new))
          (λ r e. out (subst (λ n. c.names (operand_name n o.place)) (sym same) (names o.place r
          (sym (ap (record_in o.place) (ap (get (insert f n y)) same ∙ at_inserted nat_order f n y)) ∙ e))))
      | inr apart ↦
          ap (record_in o.place) (beside_inserted nat_order f n y o.task apart)
    ]);
  }
