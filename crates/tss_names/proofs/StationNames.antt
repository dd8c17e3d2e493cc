-- The stations keep a fact of each name, and send messages of which it holds.
use Rattle.std.proofs.Common.{◌≡◌, ℕ, zero, suc, ◌+◌, Bool, true, false, if◌then◌else◌, List, [], ◌∷◌, map, Option}
use Rattle.std.proofs.Common.{Some, None, refl, subst, arith}
use Rattle.std.specs.Prelude.{slice_get, slice_set}
use Rattle.std.specs.FinMap.{get, insert, remove}
use Rattle.std.proofs.lemmas.Option.{none-some, same_Some}
use Rattle.tss_base.specs.declared.operand.OpName.{OpName}
use Rattle.tss_base.specs.declared.operand.Operand.{Operand}
use Rattle.tss_base.specs.declared.operand.Task.{Task}
use Rattle.tss_base.specs.declared.marks.LinkState.{LinkState}
use Rattle.tss_base.specs.declared.marks.LinkState.TheVariants as link
use Rattle.tss_base.specs.declared.marks.Stage.TheVariants as stage
use Rattle.tss_base.specs.Names.{Numbered}
use Rattle.tss_maps.proofs.Keys.{nat_order}
use Rattle.tss_model.specs.Access.{operands_of}
use Rattle.tss_protocol.specs.Names.{operand_name}
use Rattle.tss_protocol.specs.Mail.{StorageName, Source}
use Rattle.tss_protocol.specs.State.{OperandState, Flying, Outcome}
use Rattle.tss_protocol.specs.Stations.{is_complete, awaited, with_operand, is_gone, remaining_tasks, new_operand}
use Rattle.tss_protocol.specs.Stations.{entered, flight_after_take, link_after_ready, operand_after_ready}
use Rattle.tss_protocol.specs.Stations.{sent_by_ready, Woken, task_after_ready, woken_by, woken_in, after_ready}
use Rattle.tss_protocol.specs.Stations.{link_after_link, sent_by_link, operand_after_link, linked_by, linked_in}
use Rattle.tss_protocol.specs.Stations.{after_link, flight_after_start, storage_of, storages_of, release_of}
use Rattle.tss_protocol.specs.Stations.{releases_from, finished_in, flight_after_finish, operand_after_bye, parted_by}
use Rattle.tss_protocol.specs.Stations.{parted_in, after_bye}
use Rattle.tss_names.specs.Names.{WhereThere, EachEntry, EachOf, StorageNames, SourceNames, LinkNames, OperandNames}
use Rattle.tss_names.specs.Names.{FlyingNames, MessageNames}
use Rattle.tss_protocol.proofs.SentLemmas.{AllSent, AllSent-append}
use Rattle.tss_names.proofs.NameLemmas.{each_inserted, each_removed}

-- ---- records of operands

module _ (P E : OpName → Type 0) where
  -- of the names in all tasks in flight
  abbrev pub FlightNames : Numbered Flying → Type 0
  FlightNames m = EachEntry (FlyingNames P E) m

  each_record_set : (f : ℕ → OpName) (rs : List OperandState) (i : ℕ) (s : OperandState)
      → ((j : ℕ) (r : OperandState) → slice_get rs j ≡ Some r → OperandNames P E (f j) r) → OperandNames P E (f i) s
      → (j : ℕ) (r : OperandState) → slice_get (slice_set rs i s) j ≡ Some r → OperandNames P E (f j) r
  each_record_set f [] i s each new j r e = absurd (none-some r e)
  each_record_set f (q ∷ rs) zero s each new zero r e = subst (OperandNames P E (f 0)) (same_Some s r e) new
  each_record_set f (q ∷ rs) zero s each new (suc j) r e = each (suc j) r e
  each_record_set f (q ∷ rs) (suc i) s each new zero r e = each 0 r e
  each_record_set f (q ∷ rs) (suc i) s each new (suc j) r e =
      each_record_set (λ k. f (suc k)) rs i s (λ k. each (suc k)) new j r e

  names_with_operand : (n : ℕ) (x : Flying) (i : ℕ) (s : OperandState) → FlyingNames P E n x
      → OperandNames P E (operand_name n i) s → FlyingNames P E n (with_operand x i s)
  names_with_operand n x i s each new = each_record_set (operand_name n) x.operands i s each new

  names_flying : (m : Numbered Flying) (n : ℕ) (x : Flying) → FlightNames m → FlyingNames P E n x
      → FlightNames (insert m n x)
  names_flying m n x each new = each_inserted nat_order (FlyingNames P E) m n x each new

  names_remaining : (m : Numbered Flying) (n : ℕ) (x : Flying) → FlightNames m → FlyingNames P E n x
      → FlightNames (remaining_tasks m n x)
  names_remaining m n x each new =
      elim (is_gone x) as (λ b. FlightNames (if b then remove m n else insert m n x)) [
        | true ↦ each_removed nat_order (FlyingNames P E) m n each
        | false ↦ names_flying m n x each new
      ]

  -- ---- take

  names_new_operands : (f : ℕ → OpName) (os : List Operand) (j : ℕ) (r : OperandState)
      → slice_get (map new_operand os) j ≡ Some r → OperandNames P E (f j) r
  names_new_operands f [] j r e = absurd (none-some r e)
  names_new_operands f (o ∷ os) zero r e =
      subst (OperandNames P E (f 0)) (same_Some (new_operand o) r e) (record { own = tt; source = tt; link = tt })
  names_new_operands f (o ∷ os) (suc j) r e = names_new_operands (λ k. f (suc k)) os j r e

  -- what take leaves
  pub names_taken : (m : Numbered Flying) (t : Task) → FlightNames m → FlightNames (flight_after_take m t)
  names_taken m t each =
      names_flying m t.number (entered t) each (names_new_operands (operand_name t.number) (operands_of t))

  -- ---- ready, link, bye

  names_link_after_ready : (l : LinkState) → LinkNames E (link_after_ready l)
  names_link_after_ready link.Nothing = tt
  names_link_after_ready (link.Held next) = tt
  names_link_after_ready link.Passed = tt

  names_sent_by_ready : (l : LinkState) (source : Source) → LinkNames E l → SourceNames P E source
      → AllSent (MessageNames P E) (sent_by_ready l source)
  names_sent_by_ready link.Nothing source next told = tt
  names_sent_by_ready (link.Held next) source name told = ((name, told), tt)
  names_sent_by_ready link.Passed source next told = tt

  names_awaited : (n : ℕ) (x : Flying) → FlyingNames P E n x → FlyingNames P E n (awaited x)
  names_awaited n x each =
      elim (is_complete x) as (λ b. FlyingNames P E n (if b then record x { stage = stage.Queued } else x)) [
        | true ↦ each
        | false ↦ each
      ]

  -- what a ready leaves and sends
  pub record WokenNames (w : Woken) : Type 0 where
    pub flight : FlightNames w.flight
    pub sent : AllSent (MessageNames P E) w.sent

  -- what a link or a finish leaves and sends
  pub record FlightOutcome (d : Outcome (Numbered Flying)) : Type 0 where
    pub part : FlightNames d.part
    pub sent : AllSent (MessageNames P E) d.sent

  module _ (m : Numbered Flying) (o : OpName) (each : FlightNames m) where
    names_woken_by : (source : Source) → E o × SourceNames P E source → (x : Flying) → FlyingNames P E o.task x
        → (r : Option OperandState) → slice_get x.operands o.place ≡ r → WokenNames (woken_by m o source x r)
    names_woken_by source told x here None e = record { flight = each; sent = tt }
    names_woken_by source told x here (Some r) e = record {
      flight =
          names_flying m o.task (awaited (task_after_ready x o.place r source)) each
          (names_awaited o.task (task_after_ready x o.place r source)
          (names_with_operand o.task x o.place (operand_after_ready r source) here
          (record { own = told.0; source = told.1; link = names_link_after_ready r.link })));
      sent = names_sent_by_ready r.link source (here o.place r e).link told.1;
    }

    names_woken_in : (source : Source) → E o × SourceNames P E source → (x : Option Flying) → get m o.task ≡ x
        → WokenNames (woken_in m o source x)
    names_woken_in source told None e = record { flight = each; sent = tt }
    names_woken_in source told (Some x) e =
        names_woken_by source told x (each o.task x e) (slice_get x.operands o.place) refl

    -- what ready leaves
    pub names_after_ready : (source : Source) → E o × SourceNames P E source → WokenNames (after_ready m o source)
    names_after_ready source told = names_woken_in source told (get m o.task) refl

    names_link_after_link : (source : Option Source) (next : OpName) → E next
        → LinkNames E (link_after_link source next)
    names_link_after_link None next name = name
    names_link_after_link (Some source) next name = tt

    names_sent_by_link : (source : Option Source) (next : OpName) → E next → WhereThere (SourceNames P E) source
        → AllSent (MessageNames P E) (sent_by_link source next)
    names_sent_by_link None next name told = tt
    names_sent_by_link (Some source) next name told = ((name, told), tt)

    names_linked_by : (next : OpName) → E next → (x : Flying) → FlyingNames P E o.task x → (r : Option OperandState)
        → slice_get x.operands o.place ≡ r → FlightOutcome (linked_by m o next x r)
    names_linked_by next name x here None e = record { part = each; sent = tt }
    names_linked_by next name x here (Some r) e =
        let before = here o.place r e in
        record {
          part =
              names_remaining m o.task (with_operand x o.place (operand_after_link r next)) each
              (names_with_operand o.task x o.place (operand_after_link r next) here
              (record {
                own = before.own;
                source = before.source;
                link = names_link_after_link r.source next name;
              }));
          sent = names_sent_by_link r.source next name before.source;
        }

    names_linked_in : (next : OpName) → E next → (x : Option Flying) → get m o.task ≡ x
        → FlightOutcome (linked_in m o next x)
    names_linked_in next name None e = record { part = each; sent = tt }
    names_linked_in next name (Some x) e =
        names_linked_by next name x (each o.task x e) (slice_get x.operands o.place) refl

    -- what link leaves
    pub names_after_link : (next : OpName) → E next → FlightOutcome (after_link m o next)
    names_after_link next name = names_linked_in next name (get m o.task) refl

    names_parted_by : (promised : Bool) (x : Flying) → FlyingNames P E o.task x → (r : Option OperandState)
        → slice_get x.operands o.place ≡ r → FlightNames (parted_by m o promised x r)
    names_parted_by promised x here None e = each
    names_parted_by promised x here (Some r) e =
        let before = here o.place r e in
        names_remaining m o.task (with_operand x o.place (operand_after_bye r promised)) each
        (names_with_operand o.task x o.place (operand_after_bye r promised) here
        (record { own = before.own; source = before.source; link = before.link }))

    names_parted_in : (promised : Bool) (x : Option Flying) → get m o.task ≡ x → FlightNames (parted_in m o promised x)
    names_parted_in promised None e = each
    names_parted_in promised (Some x) e =
        names_parted_by promised x (each o.task x e) (slice_get x.operands o.place) refl

    -- what bye leaves
    pub names_after_bye : (promised : Bool) → FlightNames (after_bye m o promised)
    names_after_bye promised = names_parted_in promised (get m o.task) refl

  -- ---- finish

  names_release_of : (o : OpName) (r : OperandState) (source : Option Source) → WhereThere (λ (s : Source). E o) source
      → WhereThere (SourceNames P E) source → AllSent (MessageNames P E) (release_of o r source)
  names_release_of o r None own told = tt
  names_release_of o r (Some source) own told = ((own, told.0), tt)

  names_releases : (n place : ℕ) (rs : List OperandState)
      → ((j : ℕ) (r : OperandState) → slice_get rs j ≡ Some r → OperandNames P E (operand_name n (place + j)) r)
      → AllSent (MessageNames P E) (releases_from n place rs)
  names_releases n place [] each = tt
  names_releases n place (r ∷ rs) each =
      let here : place + 0 ≡ place = omega arith in
      let first = subst (λ k. OperandNames P E (operand_name n k) r) here (each 0 r refl) in
      AllSent-append (MessageNames P E) (release_of (operand_name n place) r r.source) (releases_from n (suc place) rs)
      (names_release_of (operand_name n place) r r.source first.own first.source)
      (names_releases n (suc place) rs (λ j q e.
      let next : place + suc j ≡ suc place + j = omega arith in
      subst (λ k. OperandNames P E (operand_name n k) q) next (each (suc j) q e)))

  names_finished_in : (m : Numbered Flying) (n : ℕ) (x : Option Flying) → get m n ≡ x → FlightNames m
      → FlightOutcome (finished_in m n x)
  names_finished_in m n None e each = record { part = each; sent = tt }
  names_finished_in m n (Some x) e each = record {
    part = names_remaining m n (record x { stage = stage.Finished }) each (each n x e);
    sent =
        names_releases n 0 x.operands (λ j r f.
        let same : j ≡ 0 + j = omega arith in
        subst (λ k. OperandNames P E (operand_name n k) r) same (each n x e j r f));
  }

  -- what finish leaves
  pub names_after_finish : (m : Numbered Flying) (n : ℕ) → FlightNames m → FlightOutcome (flight_after_finish m n)
  names_after_finish m n each = names_finished_in m n (get m n) refl each

  -- ---- start, exec

  -- what start leaves
  pub names_started : (m : Numbered Flying) (n : ℕ) (x : Flying) → get m n ≡ Some x → FlightNames m
      → FlightNames (flight_after_start m n x)
  names_started m n x e each = names_flying m n (record x { stage = stage.Running }) each (each n x e)

  names_storage_of : (source : Option Source) → WhereThere (SourceNames P E) source → StorageNames P (storage_of source)
  names_storage_of None told = tt
  names_storage_of (Some source) told = told.1

  names_storages : (f : ℕ → OpName) (rs : List OperandState)
      → ((j : ℕ) (r : OperandState) → slice_get rs j ≡ Some r → OperandNames P E (f j) r) → (i : ℕ) (s : StorageName)
      → slice_get (map (λ r. storage_of r.source) rs) i ≡ Some s → StorageNames P s
  names_storages f [] each i s e = absurd (none-some s e)
  names_storages f (r ∷ rs) each zero s e =
      subst (StorageNames P) (same_Some (storage_of r.source) s e)
      (names_storage_of r.source (each 0 r refl).source)
  names_storages f (r ∷ rs) each (suc i) s e = names_storages (λ k. f (suc k)) rs (λ j. each (suc j)) i s e

  -- the storages of a task's operands
  pub names_storages_of : (n : ℕ) (x : Flying) → FlyingNames P E n x → EachOf (StorageNames P) (storages_of x)
  names_storages_of n x each = names_storages (operand_name n) x.operands each
