-- One event of main in a state of a run: main and the bytes that it may load stay those of program order.
use Rattle.std.proofs.Common.{◌≡◌, ℕ, suc, ◌+◌, ◌<◌, ◌⊎◌, inl, inr, false, Option, Some, None, List, refl, sym, ap}
use Rattle.std.proofs.Common.{subst, ◌∙◌, arith}
use Rattle.std.specs.Prelude.{is_some, option_map, unwrap_or}
use Rattle.std.specs.List.{list_any}
use Rattle.std.specs.FinMap.{get}
use Rattle.std.proofs.lemmas.Bool.{and_parts, not-true}
use Rattle.tss_base.specs.declared.operand.Task.{Task}
use Rattle.tss_base.specs.declared.ending.Trap.{Trap}
use Rattle.tss_base.specs.declared.machine.Limits.{Limits}
use Rattle.tss_base.specs.declared.machine.Machine.{Machine}
use Rattle.tss_base.specs.declared.event.Event.{Event}
use Rattle.tss_base.specs.declared.event.Event.TheVariants as event
use Rattle.tss_base.specs.Image.{SegmentState, ImageState}
use Rattle.tss_model.specs.Memory.{covers, frozen}
use Rattle.tss_model.specs.Access.{Loads, main_access, operands_of}
use Rattle.tss_model.specs.MainStep.{MainState, Flat, Call, main_stretch, next_call, main_call, output_of}
use Rattle.tss_model.specs.InOrder.{Started, flat_start, flat_step, flat_stepped, call_ran, main_after_task, main_after}
use Rattle.tss_model.specs.InOrder.{started_in, task_called, end_of_started, in_order}
use Rattle.tss_protocol.specs.State.{State, initial_state}
use Rattle.tss_protocol.specs.Run.{IsRun}
use Rattle.tss_protocol.specs.MainEvent.{flat_of, with_flat, call_next, after_call, main_by}
use Rattle.tss_protocol.specs.UnitMachine.{is_enabled, IsEnabled, after_event}
use Rattle.tss_program_order.specs.MainInOrder.{MayLoad, Agrees, FollowsInOrder, FollowsAfter, IsCutOff, steps_taken}
use Rattle.tss_program_order.specs.MainInOrder.{flat_beside, started_next, inbox_with, is_operand_of}
use Rattle.tss_program_order.proofs.FlatSteps.{repeated-add, flat_step-call}
use Rattle.tss_program_order.proofs.FlatLoads.{byte_range}
use Rattle.tss_program_order.proofs.FlatMain.{AreAlike, unloaded_unstored, main_stretch-leaves, main_stretch-together}
use Rattle.tss_program_order.proofs.FlatMain.{next_call-alike}
use Rattle.tss_program_order.proofs.FlatCalls.{main_call-same}
use Rattle.tss_program_order.proofs.FlatTask.{task_end-changes, unwritten_beside}
use Rattle.tss_program_order.proofs.FlatOrder.{flat_stepped-ranges, steps_taken-on, Reaches, main_stretch-reaches}
use Rattle.tss_program_order.proofs.FlatOrder.{flat_stepped-next, trapped_after}
use Rattle.tss_program_order.proofs.FlatSpawn.{Rises, main_call-step, main_call-rises, main_call-spawn}
use Rattle.tss_program_order.proofs.FlatSpawn.{may_load_unnamed, IsSpawn}
use Rattle.tss_program_order.proofs.FlatEpoch.{call_ran-epoch}
use Rattle.tss_program_order.proofs.FlatNumbers.{call_ran-spawned}
use Rattle.tss_program_order.proofs.FlatEnds.{in_order-trap, in_order-tasks, in_order-output}
use Rattle.tss_program_order.proofs.FlatPieces.{NoneAfter, pieces_below, pieces_below-all, pieces_below-rises}
use Rattle.tss_program_order.proofs.FlatPieces.{NoneAfter-rises}
use Rattle.tss_program_order.proofs.MainFollows.{followed_by}
use Rattle.tss_program_order.proofs.RunKeeps.{HasGround, main_keeps}

-- an event of main may happen only where main hasn't ended
pub main_on-enabled : (m : Machine) (S : State) → IsEnabled m S event.Main → is_some S.main.ending ≡ false
unfolding is_enabled
main_on-enabled m S on = not-true (is_some S.main.ending) (and_parts _ _ (and_parts _ _ on).0).0

module _ (m : Machine) (i : ImageState) (S : State) (ground : HasGround i S) (on : is_some S.main.ending ≡ false)
    (follows : FollowsInOrder m i S) (few : NoneAfter S.main.spawned S.main.pieces) where
  -- program order there
  abbrev beside : Flat
  beside = flat_beside i m.limits S.main

  alike : AreAlike (flat_of S) beside
  alike = record {
    main = follows.main;
    ranges = ground.ranges ∙ sym (flat_stepped-ranges i m.limits (steps_taken S.main));
    bytes = follows.home;
  }

  -- it has a state after as many instructions
  after_there : main_after i m.limits S.main.registers.done ≡ Some beside
  after_there = followed_by m i S on follows

  -- and its next call is that of the unit machine
  same_call : next_call (frozen i) m.limits beside ≡ call_next m S
  same_call =
      sym (next_call-alike (frozen i) m.limits (flat_of S) beside alike)
      ∙ ap (λ (code : List SegmentState). next_call code m.limits (flat_of S)) (sym ground.code)

  start_by : (c : Option Call) → call_next m S ≡ c
      → started_next m i S
      ≡ option_map (λ t. record { task = t; memory = beside.memory }) (task_called m.limits beside c)
  start_by c e =
      ap (started_in (frozen i) m.limits) after_there
      ∙ ap (λ (c : Option Call).
      option_map (λ t. record { task = t; memory = beside.memory }) (task_called m.limits beside c))
      (same_call ∙ e)

  -- what steps lead to from there is program order again
  reaches_beside : (g : Flat) (s : MainState) → s ≡ g.main → Reaches (frozen i) m.limits beside g
      → flat_beside i m.limits s ≡ g
  reaches_beside g s same r =
      ap (flat_stepped i m.limits)
      (ap steps_taken same ∙ r.taken ∙ ap (λ n. n + r.steps) (ap steps_taken (sym follows.main)))
      ∙ repeated-add (flat_step (frozen i) m.limits) (steps_taken S.main) r.steps (flat_start i)
      ∙ sym r.reached

  -- where no task was started, home agrees where it did
  agrees_none : (T : State) → started_next m i S ≡ None
      → ((a : ℕ) → Agrees m i S a → Agrees m i T a)
      → (T.main ≡ (flat_beside i m.limits T.main).main) → T.inbox ≡ S.inbox → FollowsAfter m i S T
  agrees_none T none agrees main inbox = record {
    main = inl main;
    inbox = inbox ∙ ap (λ o. inbox_with o S.inbox) (sym none);
    beside = λ a out same. agrees a same;
    home = λ a may same. agrees a same;
  }

  -- ---- a stretch

  module _ (none : call_next m S ≡ None) where
    -- the stretch of main as the code of the image has it
    abbrev stretch : Flat
    stretch = main_stretch (frozen i) m.limits m.sizes.quantum (flat_of S)

    stretch_there : flat_beside i m.limits stretch.main ≡ main_stretch (frozen i) m.limits m.sizes.quantum beside
    stretch_there =
        reaches_beside (main_stretch (frozen i) m.limits m.sizes.quantum beside) stretch.main
        (main_stretch-together (frozen i) m.limits m.sizes.quantum (flat_of S) beside alike).main
        (main_stretch-reaches (frozen i) m.limits m.sizes.quantum beside)

    stretch_main : stretch.main ≡ (flat_beside i m.limits stretch.main).main
    stretch_main =
        (main_stretch-together (frozen i) m.limits m.sizes.quantum (flat_of S) beside alike).main
        ∙ ap (λ (f : Flat). f.main) (sym stretch_there)

    after_stretch : FollowsAfter m i S (with_flat S stretch)
    after_stretch =
        let step = main_stretch-together (frozen i) m.limits m.sizes.quantum (flat_of S) beside alike in
        agrees_none (with_flat S stretch) (start_by None none)
        (λ a same. step.bytes a same ∙ ap (λ (f : Flat). get f.memory.bytes a) (sym stretch_there)) stretch_main refl

    follows_stretch : FollowsAfter m i S (main_by m S None)
    follows_stretch =
        subst (λ (code : List SegmentState).
        FollowsAfter m i S (with_flat S (main_stretch code m.limits m.sizes.quantum (flat_of S))))
        (sym ground.code) after_stretch

  -- ---- a call

  module _ (call : Call) (next : call_next m S ≡ Some call) (main : MainState) where
    module _ (spawned : Option Task) (called : main_call m.limits S.home S.main call ≡ (main, spawned)) where
      -- program order makes the same of it
      called_beside : main_call m.limits beside.memory beside.main call ≡ (main, spawned)
      called_beside =
          ap (λ (s : MainState). main_call m.limits beside.memory s call) (sym follows.main)
          ∙ sym (main_call-same m.limits S.home beside.memory alike.ranges S.main
          (λ a may. ap (λ o. unwrap_or o 0) (follows.home a may)) call)
          ∙ called

      -- and runs the task
      there : flat_beside i m.limits main ≡ call_ran (frozen i) m.limits beside.memory (main, spawned)
      there =
          ap (flat_stepped i m.limits)
          (ap (λ (p : MainState × Option Task). steps_taken p.0) (sym called)
          ∙ main_call-step m.limits S.home S.main on call ∙ ap suc (sym (steps_taken-on S.main on)))
          ∙ flat_stepped-next i m.limits (steps_taken S.main)
          ∙ flat_step-call (frozen i) m.limits beside call (same_call ∙ next)
          ∙ ap (call_ran (frozen i) m.limits beside.memory) called_beside

      start : started_next m i S ≡ option_map (λ t. record { task = t; memory = beside.memory }) spawned
      start =
          start_by (Some call) next
          ∙ ap (λ (p : MainState × Option Task). option_map (λ t. record { task = t; memory = beside.memory }) p.1)
          called_beside

    after_none : main_call m.limits S.home S.main call ≡ (main, None) → FollowsAfter m i S (record S { main = main })
    after_none called =
        agrees_none (record S { main = main }) (start None called)
        (λ a same. same ∙ ap (λ (f : Flat). get f.memory.bytes a) (sym (there None called)))
        (ap (λ (f : Flat). f.main) (sym (there None called))) refl

    module _ (t : Task) (called : main_call m.limits S.home S.main call ≡ (main, Some t)) where
      abbrev started : Started
      started = record { task = t; memory = beside.memory }

      spawn : IsSpawn S.main main t
      spawn = main_call-spawn m.limits S.home S.main call main t called

      -- what main printed before it is the output where it traps
      printed_before : (trap : Trap) → (end_of_started i m.limits started).trap ≡ Some trap
          → output_of (pieces_below t.number main.pieces) ≡ (in_order i m.limits).output
      printed_before trap ends =
          let later : S.main.spawned < t.number = omega (arith, spawn.number) in
          ap (λ (x : MainState). output_of (pieces_below t.number x.pieces)) spawn.main_is
          ∙ ap output_of (pieces_below-all S.main.spawned t.number S.main.pieces later few)
          ∙ ap (λ (x : MainState). output_of x.pieces) follows.main
          ∙ ap (λ (n : ℕ). output_of (flat_stepped i m.limits n).main.pieces) (steps_taken-on S.main on)
          ∙ sym (in_order-output i m.limits S.main.registers.done started trap (start (Some t) called) ends)

      -- the task ends and main goes on, or it traps and is the reason that no state follows
      main_after_spawn : (o : Option Trap) → (end_of_started i m.limits started).trap ≡ o
          → (main ≡ (flat_beside i m.limits main).main) ⊎ IsCutOff i m.limits main
      main_after_spawn None ends =
          inl (sym (ap (λ (f : Flat). f.main) (there (Some t) called) ∙ ap (main_after_task main t) ends))
      main_after_spawn (Some trap) ends =
          let done : main.registers.done ≡ S.main.registers.done + 1 =
          ap (λ (x : MainState). x.registers.done) spawn.main_is in
          let count : main.spawned ≡ suc S.main.spawned = ap (λ (x : MainState). x.spawned) spawn.main_is in
          let later : S.main.registers.done < main.registers.done = omega (arith, done) in
          inr (record {
            place = S.main.registers.done;
            before = later;
            started = started;
            start = start (Some t) called;
            number = omega (arith, spawn.number, count);
            trap = trap;
            trapped = ends;
            none =
                trapped_after i m.limits S.main.registers.done started trap main.registers.done (start (Some t) called)
                ends later;
            ending = in_order-trap i m.limits S.main.registers.done started trap (start (Some t) called) ends;
            tasks = in_order-tasks i m.limits S.main.registers.done started trap (start (Some t) called) ends;
            printed = printed_before trap ends;
          })

      -- beside its objects memory stays
      agrees_beside : (a : ℕ) → list_any (λ o. covers o.object a) (operands_of t) ≡ false → Agrees m i S a
          → Agrees m i (record S { main = main; inbox = Some t }) a
      agrees_beside a out same =
          same
          ∙ sym ((task_end-changes (frozen i) m.limits beside.memory t).bytes a
          (unwritten_beside (operands_of t) a out))
          ∙ ap (λ (f : Flat). get f.memory.bytes a) (sym (there (Some t) called))

      after_spawn : FollowsAfter m i S (record S { main = main; inbox = Some t })
      after_spawn =
          record {
            main = main_after_spawn (end_of_started i m.limits started).trap refl;
            inbox = ap (λ o. inbox_with o S.inbox) (sym (start (Some t) called));
            beside = λ a out. agrees_beside a (ap (λ o. is_operand_of o a) (sym (start (Some t) called)) ∙ out);
            home = λ a may.
                agrees_beside a (may_load_unnamed S.home.ranges S.main.epoch (operands_of t) a
                (ap (λ (x : MainState). main_access S.home.ranges x.epoch Loads (byte_range a)) (sym spawn.main_is)
                ∙ may));
          }

  follows_call : (call : Call) → call_next m S ≡ Some call → FollowsAfter m i S (main_by m S (Some call))
  follows_call call next = by (main_call m.limits S.home S.main call) refl
    where
      by : (p : MainState × Option Task) → main_call m.limits S.home S.main call ≡ p
          → FollowsAfter m i S (after_call S p)
      by (main, None) called = after_none call next main called
      by (main, Some t) called = after_spawn call next main t called

  -- main's event keeps main in program order
  pub follows_main : FollowsAfter m i S (after_event m S event.Main)
  unfolding after_event
  follows_main = by (call_next m S) refl
    where
      by : (c : Option Call) → call_next m S ≡ c → FollowsAfter m i S (main_by m S c)
      by None e = follows_stretch e
      by (Some call) e = follows_call call e

  -- ---- the epoch

  -- program order has the epoch of main beside it, and as many tasks
  abbrev pub HasEpochBeside : MainState → Type 0
  HasEpochBeside s =
      ((flat_beside i m.limits s).main.epoch ≡ s.epoch) × ((flat_beside i m.limits s).main.spawned ≡ s.spawned)

  -- it does so after main's event, also where the task that main spawns has trapped
  pub epoch_beside : HasEpochBeside (after_event m S event.Main).main
  unfolding after_event
  epoch_beside = by (call_next m S) refl
    where
      called : (call : Call) → call_next m S ≡ Some call → (p : MainState × Option Task)
          → main_call m.limits S.home S.main call ≡ p → HasEpochBeside p.0
      called call next (main, spawned) e =
          let f = there call next main spawned e in (
            ap (λ (f : Flat). f.main.epoch) f
                ∙ call_ran-epoch (frozen i) m.limits beside.memory (main, spawned),
            ap (λ (f : Flat). f.main.spawned) f
                ∙ call_ran-spawned (frozen i) m.limits beside.memory (main, spawned),
          )

      after : (p : MainState × Option Task) → HasEpochBeside p.0 → HasEpochBeside (after_call S p).main
      after (main, None) has = has
      after (main, Some t) has = has

      by : (c : Option Call) → call_next m S ≡ c → HasEpochBeside (main_by m S c).main
      by None e =
          subst (λ (code : List SegmentState).
          HasEpochBeside (main_stretch code m.limits m.sizes.quantum (flat_of S)).main) (sym ground.code) (
            ap (λ (s : MainState). s.epoch) (sym (stretch_main e)),
            ap (λ (s : MainState). s.spawned) (sym (stretch_main e)),
          )
      by (Some call) e =
          after (main_call m.limits S.home S.main call)
          (called call e (main_call m.limits S.home S.main call) refl)

-- ---- without any premise

-- main's event lowers neither its instructions nor its tasks
pub main_rises : (m : Machine) (S : State) → Rises S.main (after_event m S event.Main).main
unfolding after_event
main_rises m S = by (call_next m S)
  where
    called : (p : MainState × Option Task) → Rises S.main p.0 → Rises S.main (after_call S p).main
    called (main, None) rises = rises
    called (main, Some t) rises = rises

    by : (c : Option Call) → Rises S.main (main_by m S c).main
    by None =
        let leaves = main_stretch-leaves S.code m.limits m.sizes.quantum (flat_of S) in
        record { done = leaves.done; spawned = omega (arith, leaves.spawned); pieces = inl leaves.pieces }
    by (Some call) = called (main_call m.limits S.home S.main call) (main_call-rises m.limits S.home S.main call)

-- no piece of main has more tasks before it than main has spawned
pub pieces-run : (m : Machine) (i : ImageState) (es : List Event) (S : State) → IsRun m i es S
    → NoneAfter S.main.spawned S.main.pieces
pieces-run m i es S run =
    main_keeps (λ (s : MainState). NoneAfter s.spawned s.pieces) m
    (λ S none. NoneAfter-rises S.main (after_event m S event.Main).main (main_rises m S) none) es (initial_state i) S tt
    run

-- where program order has no state any more, it has none afterwards
pub cut_off_rises : (i : ImageState) (limits : Limits) (s t : MainState) → Rises s t → IsCutOff i limits s
    → IsCutOff i limits t
cut_off_rises i limits s t rises cut =
    let later : cut.place < t.registers.done = omega (arith, rises.done, cut.before) in
    record {
      place = cut.place;
      before = later;
      started = cut.started;
      start = cut.start;
      number = omega (arith, rises.spawned, cut.number);
      trap = cut.trap;
      trapped = cut.trapped;
      none = trapped_after i limits cut.place cut.started cut.trap t.registers.done cut.start cut.trapped later;
      ending = cut.ending;
      tasks = cut.tasks;
      printed = ap output_of (pieces_below-rises cut.started.task.number s t rises cut.number) ∙ cut.printed;
    }

-- main's event changes home only where main may load
pub main_stores : (m : Machine) (S : State) (a : ℕ) → (MayLoad S.home.ranges S.main.epoch a → ⊥)
    → get (after_event m S event.Main).home.bytes a ≡ get S.home.bytes a
unfolding after_event
main_stores m S a out = by (call_next m S)
  where
    called : (p : MainState × Option Task) → get (after_call S p).home.bytes a ≡ get S.home.bytes a
    called (main, None) = refl
    called (main, Some t) = refl

    by : (c : Option Call) → get (main_by m S c).home.bytes a ≡ get S.home.bytes a
    by None =
        (main_stretch-leaves S.code m.limits m.sizes.quantum (flat_of S)).bytes a
        (unloaded_unstored S.home.ranges S.main.epoch a out)
    by (Some call) = called (main_call m.limits S.home S.main call)
