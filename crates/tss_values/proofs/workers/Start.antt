-- A start: the task that begins finds its operands, and stands where program order has it. Other workers stand where
-- they stood.
use Rattle.std.proofs.Common.{◌≡◌, ◌≢◌, inl, inr, ℕ, suc, true, false, List, [], ◌∷◌, length, Option, Some, None, refl}
use Rattle.std.proofs.Common.{sym, ap, ◌∙◌, subst, arith, true≢false}
use Rattle.std.specs.Prelude.{slice_get, unwrap_or, ◌&&◌}
use Rattle.std.specs.FinMap.{get}
use Rattle.std.proofs.lemmas.Bool.{and_parts, or_cases}
use Rattle.std.proofs.lemmas.Option.{same_Some}
use Rattle.tss_base.specs.declared.range.Range.{Range}
use Rattle.tss_base.specs.declared.operand.Mode.{Mode}
use Rattle.tss_base.specs.declared.operand.Mode.TheVariants.{Input, Output, Inout}
use Rattle.tss_base.specs.declared.operand.Operand.{Operand}
use Rattle.tss_base.specs.declared.operand.Task.{Task}
use Rattle.tss_base.specs.declared.machine.Machine.{Machine}
use Rattle.tss_base.specs.declared.event.Event.TheVariants as event
use Rattle.tss_base.specs.declared.marks.Stage.TheVariants as stage
use Rattle.tss_base.specs.Image.{ImageState, IsAccepted}
use Rattle.tss_maps.proofs.Keys.{nat_order}
use Rattle.tss_maps.proofs.Changes.{from_inserted}
use Rattle.tss_maps.proofs.Places.{find_there}
use Rattle.tss_model.specs.Memory.{MemoryRange, Memory, covers, byte_at, range_of, memory_ranges, loaded}
use Rattle.tss_model.specs.Access.{operands_of, reads, writes}
use Rattle.tss_model.specs.InOrder.{started_at}
use Rattle.tss_protocol.specs.Mail.{StorageName, Buffer}
use Rattle.tss_protocol.specs.State.{State, Flying, Busy}
use Rattle.tss_protocol.specs.Stations.{is_complete, storages_of}
use Rattle.tss_protocol.specs.Workers.{Stores, Placed, placed_in, placed_at, byte_in, worker_byte, busy_with}
use Rattle.tss_protocol.specs.Workers.{busy_at_start, outputs_zeroed}
use Rattle.tss_protocol.specs.UnitMachine.{stores_of, after_event, start_task, after_start}
use Rattle.tss_program_order.proofs.FlatFixed.{IsFixed, fixed_apart, flat_stepped-fixed}
use Rattle.tss_program_order.proofs.FlatOperands.{IsFit}
use Rattle.tss_program_order.proofs.FlatOrder.{started_at-by}
use Rattle.tss_program_order.proofs.FlatStarted.{started-fit}
use Rattle.tss_program_order.proofs.FlatTaskRuns.{is_read}
use Rattle.tss_names.proofs.QueueLemmas.{in_queue, at_front}
use Rattle.tss_program_order.proofs.RunKeeps.{outputs_zeroed-ranges}
use Rattle.tss_names.proofs.StageEvents.{length-storages}
use Rattle.tss_names.proofs.StageLemmas.{queued≢running}
use Rattle.tss_values.proofs.stored.Settled.{FindsLeft}
use Rattle.tss_program_order.proofs.StoreBytes.{AreSeparate, covers_parts, worker_byte-there}
use Rattle.tss_program_order.proofs.StoreStart.{FindsOperands, placed_in-parts}
use Rattle.tss_program_order.proofs.StoreFollows.{RunsInOrder, runs-start}
use Rattle.tss_values.proofs.Values.{Starts, HasStored, HasRoom, HasMain}
use Rattle.tss_values.proofs.workers.Apart.{placed_from, task_separate}
use Rattle.tss_values.proofs.workers.Beside.{leaves_started}
use Rattle.tss_values.proofs.workers.Finds.{byte_stored, queued_unfinished, finds_room, finds_value}
use Rattle.tss_values.proofs.workers.Runs.{SameFixed, RunsAt, AllRun, runs_with, runs_left}
use Rattle.tss_values.proofs.WorkerFacts.{WorkerFacts}

-- the operand that is read at an address
reader_of : (os : List Operand) (a : ℕ) → is_read os a ≡ true
    → (k : ℕ) × (o : Operand) × (slice_get os k ≡ Some o) × (reads o.mode ≡ true) × (covers o.object a ≡ true)
reader_of [] a any = absurd (true≢false (sym any))
reader_of (o ∷ os) a any = elim (or_cases (reads o.mode && covers o.object a) (is_read os a) any) [
  | inl here ↦
      let parts = and_parts (reads o.mode) (covers o.object a) here in
      (0, o, refl, parts.0, parts.1)
  | inr later ↦ let r = reader_of os a later in (suc r.0, r.1, r.2, r.3, r.4)
]

-- who doesn't write reads
reads_unwritten : (mode : Mode) → (writes mode ≡ true → ⊥) → reads mode ≡ true
reads_unwritten Input unwritten = refl
reads_unwritten Output unwritten = absurd (unwritten refl)
reads_unwritten Inout unwritten = refl

module _ (m : Machine) (i : ImageState) (S : State) (work : WorkerFacts m i S) (accepted : IsAccepted i)
    (fixed : (a : ℕ) → IsFixed i a → byte_at S.home a ≡ byte_at (loaded i) a) (stored : HasStored m i work.ts S)
    (room : HasRoom m work.ts S) (finds : FindsLeft m i work.ts S) (main : HasMain m i work.all S) where
  open work use {facts, buffers, image, workers, all, ground, control}

  -- ---- what it finds

  module _ (n : ℕ) (x : Flying) (flies : get S.flight n ≡ Some x) (complete : is_complete x ≡ true)
      (queued : x.stage ≡ stage.Queued) (place : ℕ) (memory : Memory)
      (started : started_at i m.limits place ≡ Some (record { task = x.task; memory = memory })) where
    abbrev os : List Operand
    os = operands_of x.task

    abbrev ss : List StorageName
    ss = storages_of x

    number : x.task.number ≡ n
    number = (ground.numbers.flight n x flies).number

    starts : Starts m i n (record { task = x.task; memory = memory })
    starts = (place, started, number)

    fit : (j : ℕ) (o : Operand) → slice_get os j ≡ Some o → IsFit m.limits (memory_ranges i) o
    fit = started-fit i m.limits place (record { task = x.task; memory = memory }) started

    count : length ss ≡ length os
    count = length-storages all S n x (ground.numbers.flight n x flies)

    separate : AreSeparate (placed_in os ss)
    separate =
        task_separate m S facts buffers n x flies complete
        (queued_unfinished m i S facts buffers n x flies complete queued)

    -- a byte of an operand that reads
    byte_read : (k : ℕ) (o : Operand) → slice_get os k ≡ Some o → reads o.mode ≡ true → (a : ℕ)
        → covers o.object a ≡ true → worker_byte (placed_in os ss) (stores_of S) a ≡ byte_at memory a
    byte_read k o at read a inside =
        let p = placed_from os ss count k o at in
        worker_byte-there (placed_in os ss) separate k (record { object = o.object; storage = p.0 }) p.2 (stores_of S) a
        inside
        ∙ byte_stored (stores_of S) o.object p.0 memory
        (finds_value m i S facts buffers n x flies complete queued k o p.0 at p.1 stored finds
        (record { task = x.task; memory = memory }) starts read) a inside

    loaded_there : (a : ℕ) → IsFixed i a → byte_at S.home a ≡ byte_at memory a
    loaded_there a is =
        fixed a is
        ∙ ap (λ (b : Option ℕ). unwrap_or b 0) (sym (flat_stepped-fixed i accepted a is m.limits place))
        ∙ ap (λ (y : Memory). byte_at y a)
        (sym (started_at-by i m.limits place (record { task = x.task; memory = memory }) started).memory)

    byte_fixed : (a : ℕ) → IsFixed i a → (p : Option Placed) → placed_at (placed_in os ss) a ≡ p
        → worker_byte (placed_in os ss) (stores_of S) a ≡ byte_at memory a
    byte_fixed a is None e = ap (λ p. byte_in (stores_of S) p a) e ∙ loaded_there a is
    byte_fixed a is (Some p) e =
        let first = find_there (λ p. covers p.object a) (placed_in os ss) p e in
        let o = placed_in-parts os ss first.0 p first.1 in
        let inside = ap (λ (z : Range). covers z a) o.3 ∙ first.2 in
        let good = fit first.0 o.0 o.1 in
        byte_read first.0 o.0 o.1 (reads_unwritten (o.0).mode (λ writer.
        fixed_apart i accepted a is (o.0).object (good.placed ∙ ap Some (good.written writer))
        (covers_parts (o.0).object a inside))) a inside

    -- so it finds its operands
    finds_operands : FindsOperands m.limits S.home.ranges os ss (stores_of S) memory
    finds_operands = record {
      separate = separate;
      count = count;
      short = λ j o at. (fit j o at).short;
      room = λ j o b at is read.
          let short = (fit j o at).short in
          let long = finds_room m i S facts buffers n x flies complete queued j o (Buffer b) at is
          room b refl read in
          omega (arith, short, long);
      read = λ a read. let o = reader_of os a read in byte_read o.0 o.1 o.2 o.3 a o.4;
      fixed = λ q a placed covered.
          byte_fixed a (q, subst (λ (rs : List MemoryRange). range_of rs q ≡ Some false) image.ranges placed, covered)
          (placed_at (placed_in os ss) a) refl;
    }

    own_starts : RunsInOrder m i (outputs_zeroed m.limits (stores_of S) os ss) (busy_with x.task ss)
    own_starts =
        runs-start m i place memory x.task ss (stores_of S) started
        (outputs_zeroed-ranges m.limits (stores_of S) os ss) finds_operands

  -- ---- the event

  module _ (w n : ℕ) (rest : List ℕ) (queue : S.queue ≡ n ∷ rest) (x : Flying) (flies : get S.flight n ≡ Some x) where
    queued : x.stage ≡ stage.Queued
    queued =
        let r = control.holders.runners.queued n (ap (in_queue n) queue ∙ at_front n rest) in
        ap (λ (x : Flying). x.stage) (same_Some x r.0 (sym flies ∙ r.1)) ∙ r.2

    complete : is_complete x ≡ true
    complete = (ground.stages.queue n (ap (in_queue n) queue ∙ at_front n rest)).complete x flies

    unfinished : x.stage ≡ stage.Finished → ⊥
    unfinished = queued_unfinished m i S facts buffers n x flies complete queued

    abbrev Begun : Stores
    Begun = outputs_zeroed m.limits (stores_of S) (operands_of x.task) (storages_of x)

    own_begins : RunsAt m i Begun (busy_at_start x)
    own_begins s starts =
        let flying = ground.numbers.flight n x flies in
        let number = flying.number in
        let task : s.task ≡ x.task = main.same n x.task s flying.task (starts.0, starts.1, starts.2 ∙ number) in
        runs_with m i Begun (busy_at_start x)
        (own_starts n x flies complete queued starts.0 s.memory
        (starts.1 ∙ ap (λ (t : Task). Some (record { task = t; memory = s.memory })) task)) s starts

    others_apart : (u : ℕ) (c : Busy) → get S.workers u ≡ Some c → c.task.number ≢ n
    others_apart u c there same =
        let r = control.holders.runners.running u c there in
        let is = same_Some r.0 x (sym r.1 ∙ ap (get S.flight) same ∙ flies) in
        queued≢running (sym queued ∙ ap (λ (x : Flying). x.stage) (sym is) ∙ r.2)

    begun : SameFixed i S (start_task m S w n rest (Some x)) → AllRun m i (start_task m S w n rest (Some x))
    begun left u c there = elim (from_inserted nat_order S.workers w (busy_at_start x) u c there) [
      | inl new ↦ subst (λ c. RunsAt m i Begun c) (sym new.1) own_begins
      | inr old ↦
          runs_left m i S work u c old.1 Begun
          (leaves_started m i S work n x flies complete unfinished left
          c.task.number (others_apart u c old.1))
    ]

  by_task : (w n : ℕ) (rest : List ℕ) → S.queue ≡ n ∷ rest → (x : Option Flying) → get S.flight n ≡ x
      → SameFixed i S (start_task m S w n rest x) → AllRun m i (start_task m S w n rest x)
  by_task w n rest queue None e left = λ u c there s starts. workers.runs u c s there starts
  by_task w n rest queue (Some x) e left = begun w n rest queue x e left

  by_queue : (w : ℕ) (q : List ℕ) → S.queue ≡ q → SameFixed i S (after_start m S w q) → AllRun m i (after_start m S w q)
  by_queue w [] queue left = λ u c there s starts. workers.runs u c s there starts
  by_queue w (n ∷ rest) queue left = by_task w n rest queue (get S.flight n) refl left

  -- start
  pub runs_start : (w : ℕ) → SameFixed i S (after_event m S (event.Start w))
      → AllRun m i (after_event m S (event.Start w))
  unfolding after_event
  runs_start w left = by_queue w S.queue refl left
