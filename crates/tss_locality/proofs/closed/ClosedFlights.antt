-- The records of operands stay closed under what the stations do.
use Rattle.std.proofs.Common.{◌≡◌, ℕ, suc, ◌+◌, ◌++◌, add-zero, Bool, true, false, cond, List, [], ◌∷◌, Option, Some}
use Rattle.std.proofs.Common.{None, refl, sym, ap, ◌∙◌, subst, inl, inr}
use Rattle.std.specs.Prelude.{slice_get}
use Rattle.std.specs.FinMap.{get, insert, remove}
use Rattle.std.proofs.lemmas.Option.{none-some}
use Rattle.tss_base.specs.declared.operand.OpName.{OpName}
use Rattle.tss_base.specs.declared.operand.Task.{Task}
use Rattle.tss_base.specs.declared.marks.Stage.TheVariants as stage
use Rattle.tss_base.specs.declared.marks.LinkState.{LinkState}
use Rattle.tss_base.specs.declared.marks.LinkState.TheVariants as link
use Rattle.tss_base.specs.Names.{Numbered}
use Rattle.tss_maps.proofs.Keys.{nat_order, decide_key}
use Rattle.tss_maps.proofs.Changes.{at_inserted, beside_inserted, at_removed, beside_removed}
use Rattle.tss_model.specs.Access.{operands_of}
use Rattle.tss_protocol.specs.Names.{operand_name}
use Rattle.tss_protocol.specs.Mail.{Source, Message}
use Rattle.tss_protocol.specs.State.{OperandState, Flying}
use Rattle.tss_protocol.specs.Stations.{is_gone, remaining_tasks, new_operand, with_operand, is_complete}
use Rattle.tss_protocol.specs.Stations.{task_after_ready, link_after_ready, operand_after_ready, woken_by, woken_in}
use Rattle.tss_protocol.specs.Stations.{after_ready, link_after_link, operand_after_link, linked_by, linked_in}
use Rattle.tss_protocol.specs.Stations.{after_link, release_of, releases_from, finished_in, flight_after_finish}
use Rattle.tss_protocol.specs.Stations.{operand_after_bye, parted_by, parted_in, after_bye, entered}
use Rattle.tss_locality.specs.Scopes.{Scope, MaybeSourceIn, SourceIn, LinkIn, RecordIn, ClosedFlight}
use Rattle.tss_locality.proofs.Flights.{record_in, from_set, from_mapped}
use Rattle.tss_locality.proofs.Tasks.{shifted, from_zero}
use Rattle.tss_locality.proofs.closed.ClosedMessages.{KeepAllIn}

-- the records of a task under a number are of the scope
abbrev TaskIn : Scope → ℕ → Flying → Type 0
TaskIn c n x = (k : ℕ) (r : OperandState) → c.names (operand_name n k) → slice_get x.operands k ≡ Some r → RecordIn c r

module _ (c : Scope) (f : Numbered Flying) (closed : ClosedFlight c f) where
  -- those of a task in flight are
  pub task_in : (n : ℕ) (x : Flying) → get f n ≡ Some x → TaskIn c n x
  task_in n x there k r p e = closed (operand_name n k) r p (ap (record_in k) there ∙ e)

  -- a task with records of the scope is put
  pub closed_flight_put : (n : ℕ) (y : Flying) → TaskIn c n y → ClosedFlight c (insert f n y)
  closed_flight_put n y i o r p e = elim (decide_key nat_order o.task n) [
    | inl same ↦
        i o.place r (subst (λ n. c.names (operand_name n o.place)) same p)
        (sym (ap (record_in o.place) (ap (get (insert f n y)) same ∙ at_inserted nat_order f n y)) ∙ e)
    | inr apart ↦ closed o r p (sym (ap (record_in o.place) (beside_inserted nat_order f n y o.task apart)) ∙ e)
  ]

  -- a task leaves
  closed_flight_remove : (n : ℕ) → ClosedFlight c (remove f n)
  closed_flight_remove n o r p e = elim (decide_key nat_order o.task n) [
    | inl same ↦
        absurd (none-some r (sym (ap (record_in o.place) (ap (get (remove f n)) same ∙ at_removed nat_order f n)) ∙ e))
    | inr apart ↦ closed o r p (sym (ap (record_in o.place) (beside_removed nat_order f n o.task apart)) ∙ e)
  ]

  closed_remaining_if : (n : ℕ) (y : Flying) → TaskIn c n y → (b : Bool) →
      ClosedFlight c (cond b (remove f n) (insert f n y))
  closed_remaining_if n y i true = closed_flight_remove n
  closed_remaining_if n y i false = closed_flight_put n y i

  -- a task is changed, or leaves
  closed_remaining : (n : ℕ) (y : Flying) → TaskIn c n y → ClosedFlight c (remaining_tasks f n y)
  closed_remaining n y i = closed_remaining_if n y i (is_gone y)

  -- a record is changed
  task_in_with : (o : OpName) (x : Flying) (r : OperandState) → get f o.task ≡ Some x →
      (c.names o → RecordIn c r) → TaskIn c o.task (with_operand x o.place r)
  task_in_with o x r there i k q p e = elim (from_set x.operands o.place k r q e) [
    | inl new ↦ subst (RecordIn c) (sym new.1) (i (subst (λ k. c.names (operand_name o.task k)) new.0 p))
    | inr old ↦ task_in o.task x there k q p old
  ]

  -- ---- ready

  passed_in : (l : LinkState) → LinkIn c (link_after_ready l)
  passed_in link.Nothing = tt
  passed_in (link.Held next) = tt
  passed_in link.Passed = tt

  awaited_in : (n : ℕ) (y : Flying) → TaskIn c n y → (b : Bool) →
      TaskIn c n (cond b (record y { stage = stage.Queued }) y)
  awaited_in n y i true = i
  awaited_in n y i false = i

  woken_by_closed : (o : OpName) (s : Source) (x : Flying) → get f o.task ≡ Some x → SourceIn c s →
      (r : Option OperandState) → ClosedFlight c (woken_by f o s x r).flight
  woken_by_closed o s x there i None = closed
  woken_by_closed o s x there i (Some r) =
      let y = task_after_ready x o.place r s in
      closed_flight_put o.task (cond (is_complete y) (record y { stage = stage.Queued }) y)
      (awaited_in o.task y (task_in_with o x (operand_after_ready r s) there
      (λ p. record { source = i; link = passed_in r.link }))
      (is_complete y))

  woken_in_closed : (o : OpName) (s : Source) → SourceIn c s → (x : Option Flying) → get f o.task ≡ x →
      ClosedFlight c (woken_in f o s x).flight
  woken_in_closed o s i None there = closed
  woken_in_closed o s i (Some x) there = woken_by_closed o s x there i (slice_get x.operands o.place)

  -- an operand is told a source of the scope
  pub closed_ready : (o : OpName) (s : Source) → SourceIn c s → ClosedFlight c (after_ready f o s).flight
  closed_ready o s i = woken_in_closed o s i (get f o.task) refl

  -- ---- link

  linked_in_scope : (s : Option Source) (next : OpName) → c.names next → LinkIn c (link_after_link s next)
  linked_in_scope None next p = p
  linked_in_scope (Some s) next p = tt

  linked_by_closed : (o next : OpName) (x : Flying) → get f o.task ≡ Some x → c.names next →
      (r : Option OperandState) → slice_get x.operands o.place ≡ r → ClosedFlight c (linked_by f o next x r).part
  linked_by_closed o next x there p None here = closed
  linked_by_closed o next x there p (Some r) here =
      closed_remaining o.task (with_operand x o.place (operand_after_link r next))
      (task_in_with o x (operand_after_link r next) there (λ q. record {
        source = (task_in o.task x there o.place r q here).source;
        link = linked_in_scope r.source next p;
      }))

  linked_in_closed : (o next : OpName) → c.names next → (x : Option Flying) → get f o.task ≡ x →
      ClosedFlight c (linked_in f o next x).part
  linked_in_closed o next p None there = closed
  linked_in_closed o next p (Some x) there = linked_by_closed o next x there p (slice_get x.operands o.place) refl

  -- an operand is told a next one of the scope
  pub closed_link : (o next : OpName) → c.names next → ClosedFlight c (after_link f o next).part
  closed_link o next p = linked_in_closed o next p (get f o.task) refl

  -- ---- bye

  parted_by_closed : (o : OpName) (promised : Bool) (x : Flying) → get f o.task ≡ Some x → (r : Option OperandState) →
      slice_get x.operands o.place ≡ r → ClosedFlight c (parted_by f o promised x r)
  parted_by_closed o promised x there None here = closed
  parted_by_closed o promised x there (Some r) here =
      closed_remaining o.task (with_operand x o.place (operand_after_bye r promised))
      (task_in_with o x (operand_after_bye r promised) there (λ q. record {
        source = (task_in o.task x there o.place r q here).source;
        link = (task_in o.task x there o.place r q here).link;
      }))

  parted_in_closed : (o : OpName) (promised : Bool) (x : Option Flying) → get f o.task ≡ x →
      ClosedFlight c (parted_in f o promised x)
  parted_in_closed o promised None there = closed
  parted_in_closed o promised (Some x) there = parted_by_closed o promised x there (slice_get x.operands o.place) refl

  -- an operand says farewell
  pub closed_bye : (o : OpName) (promised : Bool) → ClosedFlight c (after_bye f o promised)
  closed_bye o promised = parted_in_closed o promised (get f o.task) refl

  -- ---- finish

  finished_closed : (n : ℕ) (x : Option Flying) → get f n ≡ x → ClosedFlight c (finished_in f n x).part
  finished_closed n None there = closed
  finished_closed n (Some x) there = closed_remaining n (record x { stage = stage.Finished }) (task_in n x there)

  -- a task finishes
  pub closed_finish : (n : ℕ) → ClosedFlight c (flight_after_finish f n).part
  closed_finish n = finished_closed n (get f n) refl

  release_keeps : (n k : ℕ) (r : OperandState) (s : Option Source) (rest : List Message) →
      (c.names (operand_name n k) → MaybeSourceIn c s) → KeepAllIn c rest →
      KeepAllIn c (release_of (operand_name n k) r s ++ rest)
  release_keeps n k r None rest i more = more
  release_keeps n k r (Some s) rest i more = (λ p. (i p).0, more)

  releases_keep : (n k : ℕ) (rs : List OperandState) →
      ((j : ℕ) (r : OperandState) → c.names (operand_name n (k + j)) → slice_get rs j ≡ Some r → RecordIn c r) →
      KeepAllIn c (releases_from n k rs)
  releases_keep n k [] i = tt
  releases_keep n k (r ∷ rs) i =
      release_keeps n k r r.source (releases_from n (suc k) rs)
      (λ p. (i 0 r (subst (λ j. c.names (operand_name n j)) (sym (add-zero k)) p) refl).source)
      (releases_keep n (suc k) rs (λ j q p e. i (suc j) q (subst (λ j. c.names (operand_name n j)) (shifted k j) p) e))

  finished_keep : (n : ℕ) (x : Option Flying) → get f n ≡ x → KeepAllIn c (finished_in f n x).sent
  finished_keep n None there = tt
  finished_keep n (Some x) there = releases_keep n 0 x.operands
      (λ j r p e. task_in n x there j r (subst (λ j. c.names (operand_name n j)) (from_zero j) p) e)

  -- the releases name what the records name
  pub finish_keeps : (n : ℕ) → KeepAllIn c (flight_after_finish f n).sent
  finish_keeps n = finished_keep n (get f n) refl

  -- ---- take

  entered_in : (n : ℕ) (t : Task) → TaskIn c n (entered t)
  entered_in n t k r p e =
      let made = from_mapped new_operand (operands_of t) k r e in
      subst (RecordIn c) made.2 (record { source = tt; link = tt })

  -- a task enters
  pub closed_entered : (n : ℕ) (t : Task) → ClosedFlight c (insert f n (entered t))
  closed_entered n t = closed_flight_put n (entered t) (entered_in n t)
