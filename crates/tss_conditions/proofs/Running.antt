-- What start, exec and finish find follows from the laws.
use Rattle.std.proofs.Common.{◌≡◌, ◌≢◌, ℕ, zero, suc, ◌≤◌, Bool, true, false, List, [], ◌∷◌, length, Option, Some, None}
use Rattle.std.proofs.Common.{refl, sym, ap, ◌∙◌, subst, inl, inr, arith, true≢false}
use Rattle.std.specs.Prelude.{◌&&◌, not, slice_get, is_some, unwrap_or}
use Rattle.std.specs.FinMap.{get}
use Rattle.std.proofs.lemmas.List.{length-map}
use Rattle.std.proofs.lemmas.Option.{none-some, same_Some}
use Rattle.tss_base.specs.declared.operand.OpName.{OpName}
use Rattle.tss_base.specs.declared.operand.Operand.{Operand}
use Rattle.tss_base.specs.declared.machine.Key.TheVariants as key
use Rattle.tss_base.specs.declared.machine.Machine.{Machine}
use Rattle.tss_base.specs.declared.marks.Stage.TheVariants as stage
use Rattle.tss_base.specs.Image.{ImageState}
use Rattle.tss_base.specs.Range.{meets}
use Rattle.tss_model.specs.Memory.{range_of}
use Rattle.tss_model.specs.Spawn.{is_outside}
use Rattle.std.proofs.lemmas.Bool.{and_from}
use Rattle.std.specs.List.{list_all}
use Rattle.tss_model.specs.Access.{operands_of, writes}
use Rattle.tss_protocol.specs.Names.{bank_of, operand_name}
use Rattle.tss_protocol.specs.Mail.{StorageName, Buffer, Source}
use Rattle.tss_protocol.specs.State.{State, Flying, Busy, Version}
use Rattle.tss_protocol.specs.Stations.{is_complete, storage_of, storages_of}
use Rattle.tss_protocol.specs.Buffers.{buffer_bytes}
use Rattle.tss_protocol.specs.Needs.{is_in_queue}
use Rattle.tss_names.proofs.QueueLemmas.{in_queue, at_front}
use Rattle.tss_names.proofs.StageLemmas.{queued≢finished, running≢finished}
use Rattle.tss_program_order.proofs.RunKeeps.{HasGround-run}
use Rattle.tss_control.specs.Holders.{IsOwnOrRead}
use Rattle.tss_names.specs.Tasks.{task_at}
use Rattle.tss_control.proofs.rounds.Facts.{Facts}
use Rattle.tss_control.proofs.holders.Order.{ready_in}
use Rattle.tss_values.proofs.Values.{IsSet as WasSet, HasBegun}
use Rattle.tss_values.proofs.room.Start.{produced_set}
use Rattle.tss_values.proofs.storages.Shares.{one_buffer, reads_produced}
use Rattle.tss_values.proofs.workers.Hold.{IsHeld, holder_named}
use Rattle.tss_values.proofs.workers.Apart.{held}
use Rattle.tss_values.proofs.workers.Finds.{finds_room}
use Rattle.tss_conditions.specs.Reached.{Reached}
use Rattle.tss_conditions.specs.Running.{HasFitObject, MayRunOver, IsSet, IsStartable, StartLaw, IsRunning, RunningLaw}
use Rattle.tss_conditions.proofs.Known.{facts_reached, counts_reached, buffers_reached, operands_reached, room_reached}
use Rattle.tss_conditions.proofs.Known.{workers_reached}
use Rattle.tss_conditions.proofs.Holding.{held_in_bank}
use Rattle.tss_conditions.proofs.Taking.{proper_task}

-- ---- lists of one length

-- what stands in one has something beside it in the other
pub beside_in : {X Y : Type 0} → (xs : List X) (ys : List Y) → length xs ≡ length ys → (k : ℕ) (x : X)
    → slice_get xs k ≡ Some x → (y : Y) × (slice_get ys k ≡ Some y)
beside_in [] ys same k x e = absurd (none-some x e)
beside_in (u ∷ xs) [] same k x e = absurd (omega (arith, same))
beside_in (u ∷ xs) (v ∷ ys) same zero x e = (v, refl)
beside_in (u ∷ xs) (v ∷ ys) same (suc k) x e = beside_in xs ys (omega (arith, same)) k x e

-- a test that passes at each place passes
all_pass : {X : Type 0} → (test : X → Bool) (xs : List X)
    → ((k : ℕ) (x : X) → slice_get xs k ≡ Some x → test x ≡ true) → list_all test xs ≡ true
all_pass test [] each = refl
all_pass test (x ∷ xs) each =
    and_from (test x) (list_all test xs) (each zero x refl) (all_pass test xs (λ k y at. each (suc k) y at))

-- an object that fits lies inside
inside : (m : Machine) (S : State) (p : Operand) → HasFitObject m S p
    → not (is_outside p.mode (range_of S.home.ranges p.object)) ≡ true
inside m S p fit =
    ap (λ r. not (is_outside p.mode r)) fit.within ∙ by (writes p.mode) fit.writable fit.written
  where
    by : (w r : Bool) → (w ≡ true → r ≡ true) → not (w && not r) ≡ true
    by false r may = refl
    by true true may = refl
    by true false may = absurd (true≢false (sym (may refl)))

-- contents with room are there
pub set_by : (m : Machine) (S : State) (b : OpName) → 1 ≤ m.limits.object_bytes
    → m.limits.object_bytes ≤ length (buffer_bytes S.contents b) → IsSet m S b
set_by m S b some room = by (get S.contents b) refl room
  where
    by : (x : Option (List ℕ)) → get S.contents b ≡ x → m.limits.object_bytes ≤ length (unwrap_or x [])
        → IsSet m S b
    by None e few = absurd (omega (arith, some, few))
    by (Some bytes) e few = (bytes, e, few)

module _ (m : Machine) (i : ImageState) (S : State) (r : Reached m i S) where
  abbrev facts : Facts m S
  facts = facts_reached m i S r

  some_bytes : 1 ≤ m.limits.object_bytes
  some_bytes = (r.admissible.limits key.ObjectBytes m.limits.object_bytes refl).0

  -- ---- a task in flight that is complete and hasn't finished

  module _ (n : ℕ) (x : Flying) (flies : get S.flight n ≡ Some x) (complete : is_complete x ≡ true)
      (unfinished : x.stage ≡ stage.Finished → ⊥) where
    holds : (k : ℕ) (p : Operand) (s : StorageName) → slice_get (operands_of x.task) k ≡ Some p
        → slice_get (storages_of x) k ≡ Some s → IsHeld facts.ts facts.g S n k p s
    holds = held m S facts (buffers_reached m i S r) n x flies complete unfinished

    many : length (storages_of x) ≡ length (operands_of x.task)
    many =
        length-map x.operands (λ r. storage_of r.source)
        ∙ sym (length-map x.operands (λ r. r.operand))
        ∙ ap length (facts.ground.numbers.flight n x flies).operands

    -- what it holds at a place
    at_place : (k : ℕ) (p : Operand) → slice_get (operands_of x.task) k ≡ Some p
        → (s : StorageName) × IsHeld facts.ts facts.g S n k p s
    at_place k p at =
        let s = beside_in (operands_of x.task) (storages_of x) (sym many) k p at in (s.0, holds k p s.0 at s.1)

    task_at_number : task_at facts.all n ≡ Some x.task
    task_at_number = (facts.ground.numbers.flight n x flies).task

    fit_object : (k : ℕ) (p : Operand) → slice_get (operands_of x.task) k ≡ Some p → HasFitObject m S p
    fit_object k p at =
        let fit = operands_reached m i S r n x.task task_at_number k p at in
        let ground = HasGround-run m i r.reachable.0 S r.reachable.1 in
        record {
          some = fit.some;
          short = fit.short;
          writable = fit.writable;
          within = ap (λ ranges. range_of ranges p.object) ground.ranges ∙ fit.placed;
          written = fit.written;
        }

    apart : (j k : ℕ) (p q : Operand) → slice_get (operands_of x.task) j ≡ Some p
        → slice_get (operands_of x.task) k ≡ Some q → j ≢ k → meets p.object q.object ≡ false
    apart j k p q a b other = by (meets p.object q.object) refl
      where
        by : (t : Bool) → meets p.object q.object ≡ t → meets p.object q.object ≡ false
        by false e = e
        by true e =
            let f = at_place j p a in
            let l = at_place k q b in
            let same = facts.ground.round.separate.one p.object q.object
            (holder_named m S facts (operand_name n j) p (f.1).source (f.1).holds)
            (holder_named m S facts (operand_name n k) q (l.1).source (l.1).holds) e in
            let one = facts.ground.known.single (operand_name n j) (operand_name n k) p q (f.1).holds.among
            (l.1).holds.among same refl in
            absurd (other (ap (λ (o : OpName). o.place) one))

    module _ (k : ℕ) (p : Operand) (b : OpName) (at : slice_get (operands_of x.task) k ≡ Some p)
        (told : slice_get (storages_of x) k ≡ Some (Buffer b)) where
      abbrev holding : IsHeld facts.ts facts.g S n k p (Buffer b)
      holding = holds k p (Buffer b) at told

      stands : holding.holds.told.version.storage ≡ Some (Buffer b)
      stands = holding.holds.told.storage ∙ ap Some holding.told

      bank : get S.buffers b ≡ Some (bank_of m.sizes p.object)
      bank =
          let o = facts.control.chains.opener holding.source.version holding.holds.told.version
          holding.holds.told.there in
          held_in_bank m i S r holding.source.version b o.0
          (inr (inl (holding.holds.told.version, holding.holds.told.there, stands))) o.1
          ∙ ap (λ y. Some (bank_of m.sizes y)) (o.2 ∙ holding.holds.told.object)

    single : (j k : ℕ) (b : OpName) → slice_get (storages_of x) j ≡ Some (Buffer b)
        → slice_get (storages_of x) k ≡ Some (Buffer b) → j ≡ k
    single j k b a c =
        let p = beside_in (storages_of x) (operands_of x.task) many j (Buffer b) a in
        let q = beside_in (storages_of x) (operands_of x.task) many k (Buffer b) c in
        let f = holds j p.0 (Buffer b) p.1 a in
        let l = holds k q.0 (Buffer b) q.1 c in
        let one = one_buffer facts.ts S facts.control.chains (buffers_reached m i S r) f.source.version
        l.source.version b f.holds.told.version l.holds.told.version f.holds.told.there l.holds.told.there
        (stands j p.0 b p.1 a) (stands k q.0 b q.1 c) in
        let is = same_Some f.holds.told.version l.holds.told.version
        (sym f.holds.told.there ∙ ap (get S.versions) one ∙ l.holds.told.there) in
        let same = sym f.holds.told.object ∙ ap (λ (y : Version). y.object) is ∙ l.holds.told.object in
        ap (λ (o : OpName). o.place)
        (facts.ground.known.single (operand_name n j) (operand_name n k) p.0 q.0 f.holds.among l.holds.among same refl)

    may_run : MayRunOver m S x.task (storages_of x)
    may_run = record {
      proper =
          proper_task m facts.all S facts.ground.numbers (counts_reached m i S r) n x.task task_at_number;
      storages = many;
      fits = fit_object;
      placed =
          all_pass (λ o. not (is_outside o.mode (range_of S.home.ranges o.object))) (operands_of x.task)
          (λ k p at. inside m S p (fit_object k p at));
      apart = apart;
      buffers = bank;
      single = single;
    }

  -- ---- start

  startable : (t : ℕ) (x : Flying) → get S.flight t ≡ Some x → x.stage ≡ stage.Queued → is_complete x ≡ true
      → IsStartable m S t
  startable t x flies queued complete = record {
    flying = x;
    there = flies;
    number = (facts.ground.numbers.flight t x flies).number;
    queued = queued;
    complete = complete;
    told = λ k y at. by y.source (ready_in x.operands k y complete at);
    may = may_run t x flies complete (λ e. queued≢finished (sym queued ∙ e));
    set = λ k p b at told read.
        set_by m S b some_bytes
        (finds_room m i S facts (buffers_reached m i S r) t x flies complete queued k p (Buffer b) at told
        (room_reached m i S r) b refl read);
  }
    where
      by : (s : Option Source) → is_some s ≡ true → (t : Source) × (s ≡ Some t)
      by None e = absurd (true≢false (sym e))
      by (Some s) e = (s, refl)

  -- ---- exec

  module _ (w : ℕ) (b : Busy) (busy : get S.workers w ≡ Some b) where
    -- its task in flight
    flying : Flying
    flying = ((workers_reached m i S r).told w b busy).0

    there : get S.flight b.task.number ≡ Some flying
    unfolding flying
    there = ((workers_reached m i S r).told w b busy).1

    task : flying.task ≡ b.task
    unfolding flying
    task = ((workers_reached m i S r).told w b busy).2

    storages : b.storages ≡ storages_of flying
    unfolding flying
    storages = ((workers_reached m i S r).told w b busy).3

    runs : flying.stage ≡ stage.Running
    runs =
        let x = facts.control.holders.runners.running w b busy in
        ap (λ (x : Flying). x.stage) (same_Some flying x.0 (sym there ∙ x.1)) ∙ x.2

    complete : is_complete flying ≡ true
    complete = (facts.ground.stages.workers w b busy).ready.complete flying there

    unfinished : flying.stage ≡ stage.Finished → ⊥
    unfinished e = running≢finished (sym runs ∙ e)

    -- a task that runs has begun
    begun : (n : ℕ) → n ≡ b.task.number → HasBegun S n
    begun n same x e =
        let one = same_Some x flying (sym e ∙ ap (get S.flight) same ∙ there) in
        inl (ap (λ (x : Flying). x.stage) one ∙ runs)

    set_at : (k : ℕ) (n : OpName) → slice_get (storages_of flying) k ≡ Some (Buffer n) → IsSet m S n
    set_at k n at =
        let same = many b.task.number flying there complete unfinished in
        let p = beside_in (storages_of flying) (operands_of flying.task) same k (Buffer n) at in
        set_by m S n some_bytes
        ((room_reached m i S r).versions (held_ p.0 p.1).source.version (held_ p.0 p.1).holds.told.version n
        (held_ p.0 p.1).holds.told.there
        (stands b.task.number flying there complete unfinished k p.0 n p.1 at)
        (was_set p.0 p.1))
      where
        held_ : (p : Operand) → slice_get (operands_of flying.task) k ≡ Some p
            → IsHeld facts.ts facts.g S b.task.number k p (Buffer n)
        held_ p e = holds b.task.number flying there complete unfinished k p (Buffer n) e at

        was_set : (p : Operand) (e : slice_get (operands_of flying.task) k ≡ Some p)
            → WasSet facts.ts S (held_ p e).source.version
        was_set p e = by (writes p.mode) refl
          where
            by : (t : Bool) → writes p.mode ≡ t → WasSet facts.ts S (held_ p e).source.version
            by true writer =
                let own = subst (λ t. IsOwnOrRead facts.g (operand_name b.task.number k) t (held_ p e).source.version)
                writer (held_ p e).holds.told.own in
                inr (begun (held_ p e).source.version.task (ap (λ (o : OpName). o.task) own))
            by false reader =
                let read = subst (λ t. IsOwnOrRead facts.g (operand_name b.task.number k) t (held_ p e).source.version)
                reader (held_ p e).holds.told.own in
                produced_set m S facts (held_ p e).source.version (held_ p e).holds.told.version
                (held_ p e).holds.told.there
                (reads_produced facts.ts facts.g S facts.control (operand_name b.task.number k) p (held_ p e).source
                (held_ p e).holds read (held_ p e).holds.told.version (held_ p e).holds.told.there)

    running : IsRunning m S w b
    running = record {
      worker = (facts.ground.stages.workers w b busy).number;
      flying = flying;
      there = there;
      task = task;
      runs = runs;
      storages = storages;
      may =
          subst (λ t. MayRunOver m S t b.storages) task
          (subst (MayRunOver m S flying.task) (sym storages)
          (may_run b.task.number flying there complete unfinished));
      set = λ k n at. set_at k n (ap (λ ss. slice_get ss k) (sym storages) ∙ at);
      budget = (facts.ground.stages.workers w b busy).budget;
    }

pub may_start : StartLaw
may_start m i S t ts r front =
    let facts = facts_reached m i S r in
    let queued : is_in_queue S t ≡ true = ap (λ q. in_queue t q) front ∙ at_front t ts in
    let x = facts.control.holders.runners.queued t queued in
    startable m i S r t x.0 x.1 x.2 ((facts.ground.stages.queue t queued).complete x.0 x.1)

pub is_running : RunningLaw
is_running m i S w b r busy = running m i S r w b busy
