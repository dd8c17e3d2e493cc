-- The held trap is that of program order, where its task is started there. No task that traps there ends without it.
use Rattle.std.proofs.Common.{◌≡◌, ◌≢◌, ◌⊎◌, ℕ, suc, ◌+◌, ◌<◌, ◌≤◌, Bool, true, false, cond, List, Option, Some, None}
use Rattle.std.proofs.Common.{refl, sym, ap, ◌∙◌, subst, inl, inr, arith}
use Rattle.std.specs.Prelude.{◌-◌, nat_lt}
use Rattle.std.specs.FinMap.{get, insert}
use Rattle.std.proofs.lemmas.Bool.{ltb-false, ltb-true}
use Rattle.std.proofs.lemmas.Bool.Decides.{nat_tests}
use Rattle.std.proofs.lemmas.Option.{none-some, same_Some}
use Rattle.tss_base.specs.declared.operand.Task.{Task}
use Rattle.tss_base.specs.declared.ending.Trap.{Trap}
use Rattle.tss_base.specs.declared.machine.Machine.{Machine}
use Rattle.tss_base.specs.declared.event.Event.{Event}
use Rattle.tss_base.specs.declared.event.Event.TheVariants as event
use Rattle.tss_base.specs.Image.{ImageState}
use Rattle.tss_maps.proofs.Keys.{nat_order, decide_key}
use Rattle.tss_maps.proofs.Changes.{at_inserted}
use Rattle.tss_model.specs.InOrder.{Started, end_of_started}
use Rattle.tss_model.specs.MainStep.{MainState}
use Rattle.tss_protocol.specs.State.{State, Busy, HeldTrap, initial_state}
use Rattle.tss_protocol.specs.Stations.{entered}
use Rattle.tss_protocol.specs.Workers.{has_ended, can_finish, lower_trap, trap_after_finish}
use Rattle.tss_protocol.specs.UnitMachine.{is_enabled, IsEnabled, after_event, after_finish, stores_of}
use Rattle.tss_phases.proofs.Tests.{something}
use Rattle.tss_locality.proofs.LeftFields.{Leaves-after_event}
use Rattle.tss_names.specs.Tasks.{taken_by, IsTaken}
use Rattle.tss_names.proofs.SpawnLemmas.{SpawnsAtMostOne, spawns_main}
use Rattle.tss_names.proofs.TakeLemmas.{takes_take}
use Rattle.tss_names.proofs.NumberLemmas.{taken_newest, last_taken_now, last_taken_before}
use Rattle.tss_program_order.proofs.StoreFollows.{runs-end}
use Rattle.tss_values.proofs.UnfinishedTasks.{StayUnder, entered_under, stay-finish, StayUnder-after_event}
use Rattle.tss_values.proofs.Values.{Starts, HasWorkers, IsUnfinished, HoldsTrapBy}
use Rattle.tss_control.proofs.rounds.Facts.{Basis}

-- what is to be shown
pub record HasTraps (m : Machine) (i : ImageState) (S : State) : Type 0 where
  pub held : (h : HeldTrap) → S.trap ≡ Some h → (0 < h.task) × (h.task ≤ S.main.spawned)
  pub trap : (h : HeldTrap) (s : Started) → S.trap ≡ Some h → Starts m i h.task s
      → (end_of_started i m.limits s).trap ≡ Some h.trap
  pub judged : (n : ℕ) (s : Started) (t : Trap) → IsTaken S n → Starts m i n s
      → (end_of_started i m.limits s).trap ≡ Some t → IsUnfinished S n ⊎ HoldsTrapBy S n

-- ---- the lower of two traps

lower_from : (task : ℕ) (t : Trap) (held : Option HeldTrap) (k : HeldTrap) → lower_trap task t held ≡ k
    → (held ≡ Some k) ⊎ ((k.task ≡ task) × (k.trap ≡ t))
lower_from task t None k e =
    inr (ap (λ (k : HeldTrap). k.task) (sym e), ap (λ (k : HeldTrap). k.trap) (sym e))
lower_from task t (Some h) k e = by (nat_lt task h.task) e
  where
    by : (b : Bool) → cond b (record { task = task; trap = t }) h ≡ k
        → (Some h ≡ Some k) ⊎ ((k.task ≡ task) × (k.trap ≡ t))
    by true e = inr (ap (λ (k : HeldTrap). k.task) (sym e), ap (λ (k : HeldTrap). k.trap) (sym e))
    by false e = inl (ap Some e)

lower_task : (task : ℕ) (t : Trap) (held : Option HeldTrap) → (lower_trap task t held).task ≤ task
lower_task task t None = omega arith
lower_task task t (Some h) = by (nat_lt task h.task) refl
  where
    by : (b : Bool) → nat_lt task h.task ≡ b
        → (cond {A = HeldTrap} b (record { task = task; trap = t }) h).task ≤ task
    by true e = omega arith
    by false e = ltb-false task h.task e

lower_held : (task : ℕ) (t : Trap) (h : HeldTrap) → (lower_trap task t (Some h)).task ≤ h.task
lower_held task t h = by (nat_lt task h.task) refl
  where
    by : (b : Bool) → nat_lt task h.task ≡ b
        → (cond {A = HeldTrap} b (record { task = task; trap = t }) h).task ≤ h.task
    by true e = let less = ltb-true task h.task e in omega (arith, less)
    by false e = omega arith

-- ---- events that leave the held trap

-- where it is left, no fewer tasks are spawned, tasks that are taken now are under way, and the others stay so
traps_kept : (m : Machine) (i : ImageState) (S T : State) → HasTraps m i S → T.trap ≡ S.trap
    → S.main.spawned ≤ T.main.spawned → ((n : ℕ) → IsTaken T n → IsTaken S n ⊎ IsUnfinished T n)
    → StayUnder S.flight T.flight → HasTraps m i T
traps_kept m i S T h same more taken stay = record {
  held = λ k e. let a = h.held k (sym same ∙ e) in (a.0, le_after k.task S.main.spawned T.main.spawned a.1 more);
  trap = λ k s e start. h.trap k s (sym same ∙ e) start;
  judged = λ n s t now start trapped. elim (taken n now) [
    | inr under ↦ inl under
    | inl before ↦ elim (h.judged n s t before start trapped) [
      | inl under ↦ inl (stay n under)
      | inr held ↦ inr (held.0, same ∙ held.1, held.2)
    ]
  ];
}
  where
    le_after : (a b c : ℕ) → a ≤ b → b ≤ c → a ≤ c
    le_after a b c p q = omega (arith, p, q)

module _ (m : Machine) (i : ImageState) (S : State) (basis : Basis m S) (h : HasTraps m i S) where
  open basis use {all, ground}

  -- main
  taken_after_main : (us : List Task) (T : State) → SpawnsAtMostOne m all us S T
      → (S.main.spawned ≤ T.main.spawned) × ((n : ℕ) → IsTaken T n → IsTaken S n)
  taken_after_main us T (inl nothing) =
      let spawned = ap (λ f. f.spawned) nothing.front in
      let last = ap (λ f. taken_by f.inbox f.spawned) nothing.front in (
        omega (arith, spawned),
        λ n t. (t.0, let few = t.1 in omega (arith, last, few)),
      )
  taken_after_main us T (inr one) =
      let spawned = ap (λ f. f.spawned) one.front in
      let last = ap (λ f. taken_by f.inbox f.spawned) one.front in
      let before = ap (λ x. taken_by x S.main.spawned) one.empty in (
        omega (arith, spawned),
        λ n t. (
          t.0,
          let few = t.1 in fewer n (taken_by T.inbox T.main.spawned) S.main.spawned
              (taken_by S.inbox S.main.spawned) few last before,
        ),
      )
    where
      fewer : (n a s b : ℕ) → n ≤ a → a ≡ suc s - 1 → b ≡ s → n ≤ b
      fewer n a s b few now before = omega (arith, few, now, before)

  -- after main's event
  HasTraps-main : IsEnabled m S event.Main → HasTraps m i (after_event m S event.Main)
  HasTraps-main on =
      let T = after_event m S event.Main in
      let k = taken_after_main _ T (spawns_main m all S on) in
      traps_kept m i S T h (λ j. (Leaves-after_event m S event.Main j).trap) k.0 (λ n t. inl (k.1 n t))
      (StayUnder-after_event m S event.Main (λ w e. cc))

  -- take
  HasTraps-take : IsEnabled m S event.Take → HasTraps m i (after_event m S event.Take)
  HasTraps-take on =
      let T = after_event m S event.Take in
      let p = takes_take m S on in
      let newest = taken_newest m all S T ground.numbers p in
      let now = last_taken_now m all S T ground.numbers p in
      let before = last_taken_before m all S T ground.numbers p in
      let spawned = ap (λ f. f.spawned) p.front in
      let flight = ap (λ b. b.flight) p.back in
      traps_kept m i S T h (λ j. (Leaves-after_event m S event.Take j).trap) (omega (arith, spawned))
      (λ n t. elim (decide_key nat_order n p.task.number) [
        | inl same ↦ inr (
          entered p.task,
          ap (λ f. get f n) flight
              ∙ ap (get (insert S.flight p.task.number (entered p.task))) same
              ∙ at_inserted nat_order S.flight p.task.number (entered p.task),
          entered_under p.task,
        )
        | inr other ↦ inl (
          t.0,
          earlier n p.task.number (taken_by T.inbox T.main.spawned) S.main.spawned
              (taken_by S.inbox S.main.spawned) t.1 now before newest.number other,
        )
      ])
      (StayUnder-after_event m S event.Take (λ w e. cc))
    where
      earlier : (n p a s b : ℕ) → n ≤ a → a ≡ s → b + 1 ≡ s → p ≡ s → n ≢ p → n ≤ b
      earlier n p a s b few now before number other = grind (arith, nat_tests, few, now, before, number, other)

  -- events that leave main, the inbox and the held trap
  traps_left : (e : Event) → ((w : ℕ) → e ≢ event.Finish w) → (after_event m S e).trap ≡ S.trap
      → (after_event m S e).main ≡ S.main → (after_event m S e).inbox ≡ S.inbox → HasTraps m i (after_event m S e)
  traps_left e other trap main inbox =
      let T = after_event m S e in
      let spawned = ap (λ x. x.spawned) main in
      let last : taken_by T.inbox T.main.spawned ≡ taken_by S.inbox S.main.spawned =
      λ j. taken_by (inbox j) (main j).spawned in
      traps_kept m i S T h trap (omega (arith, spawned))
      (λ n t. inl (t.0, let few = t.1 in omega (arith, last, few))) (StayUnder-after_event m S e other)

  -- ---- finish

  module _ (workers : HasWorkers m i S) (w : ℕ) (b : Busy) (busy : get S.workers w ≡ Some b)
      (ended : has_ended b ≡ true) where
    abbrev Done : State
    Done = after_event m S (event.Finish w)

    trap_now : Done.trap ≡ trap_after_finish S.trap b.task.number b.trap
    unfolding after_event
    trap_now = ap (λ x. (after_finish S w x).trap) busy

    main_now : Done.main ≡ S.main
    main_now = λ j. (Leaves-after_event m S (event.Finish w) j).main

    -- what program order has for it is what the worker has
    its_end : (s : Started) → Starts m i b.task.number s → (end_of_started i m.limits s).trap ≡ b.trap
    its_end s start =
        let r = workers.runs w b s busy start in
        ap (λ s. (end_of_started i m.limits s).trap) r.1 ∙ (runs-end m i (stores_of S) b r.0 ended).trap

    -- the held trap is that of before or the worker's
    from_worker : (k : HeldTrap) → Done.trap ≡ Some k
        → (S.trap ≡ Some k) ⊎ ((k.task ≡ b.task.number) × (b.trap ≡ Some k.trap))
    from_worker k e = by b.trap refl (sym trap_now ∙ e)
      where
        by : (x : Option Trap) → b.trap ≡ x → trap_after_finish S.trap b.task.number x ≡ Some k
            → (S.trap ≡ Some k) ⊎ ((k.task ≡ b.task.number) × (b.trap ≡ Some k.trap))
        by None none e = inl e
        by (Some t) there e = elim (lower_from b.task.number t S.trap k (same_Some _ k e)) [
          | inl old ↦ inl old
          | inr new ↦ inr (new.0, there ∙ ap Some (sym new.1))
        ]

    -- its trap, or a lower one, is held now
    own_held : (t : Trap) → b.trap ≡ Some t → HoldsTrapBy Done b.task.number
    own_held t e = (
      lower_trap b.task.number t S.trap,
      trap_now ∙ ap (trap_after_finish S.trap b.task.number) e,
      lower_task b.task.number t S.trap,
    )

    -- and a trap that was held, or a lower one
    still_held : (n : ℕ) → HoldsTrapBy S n → HoldsTrapBy Done n
    still_held n k = by b.trap refl
      where
        no_more : (a b c : ℕ) → a ≤ b → b ≤ c → a ≤ c
        no_more a b c p q = omega (arith, p, q)

        by : (x : Option Trap) → b.trap ≡ x → HoldsTrapBy Done n
        by None e = (k.0, trap_now ∙ ap (trap_after_finish S.trap b.task.number) e ∙ k.1, k.2)
        by (Some t) e =
            let few = lower_held b.task.number t k.0 in
            let less = k.2 in (
              lower_trap b.task.number t (Some k.0),
              trap_now ∙ ap (trap_after_finish S.trap b.task.number) e
                  ∙ ap (λ x. Some (lower_trap b.task.number t x)) k.1,
              no_more (lower_trap b.task.number t (Some k.0)).task k.0.task n few less,
            )

    -- the task was taken
    b_taken : IsTaken S b.task.number
    b_taken = (ground.stages.workers w b busy).ready.taken

    taken_few : IsTaken S b.task.number → (0 < b.task.number) × (b.task.number ≤ S.main.spawned)
    taken_few t = (let a = t.0 in omega (arith, a), by S.inbox refl t.1)
      where
        by : (x : Option Task) → S.inbox ≡ x → b.task.number ≤ taken_by x S.main.spawned
            → b.task.number ≤ S.main.spawned
        by None e few = few
        by (Some t) e few = omega (arith, few)

    traps_finish : HasTraps m i Done
    traps_finish = record {
      held = λ k e. elim (from_worker k e) [
        | inl old ↦ let a = h.held k old in (a.0, subst (λ (x : MainState). k.task ≤ x.spawned) (sym main_now) a.1)
        | inr new ↦
            let a = taken_few b_taken in
            subst (λ n. (0 < n) × (n ≤ Done.main.spawned)) (sym new.0)
            (a.0, subst (λ (x : MainState). b.task.number ≤ x.spawned) (sym main_now) a.1)
      ];
      trap = λ k s e start. elim (from_worker k e) [
        | inl old ↦ h.trap k s old start
        | inr new ↦ its_end s (start.0, start.1, start.2 ∙ new.0) ∙ new.1
      ];
      judged = λ n s t now start trapped. elim (decide_key nat_order n b.task.number) [
        | inl same ↦
            inr (subst (HoldsTrapBy Done) (sym same)
            (own_held t (sym (its_end s (start.0, start.1, start.2 ∙ same)) ∙ trapped)))
        | inr other ↦ elim (h.judged n s t (before n now) start trapped) [
          | inl under ↦ inl (stay-finish m S w b busy n other under)
          | inr held ↦ inr (still_held n held)
        ]
      ];
    }
      where
        before : (n : ℕ) → IsTaken Done n → IsTaken S n
        before n t =
            let last : taken_by Done.inbox Done.main.spawned ≡ taken_by S.inbox S.main.spawned =
            λ j. taken_by (Leaves-after_event m S (event.Finish w) j).inbox
            (Leaves-after_event m S (event.Finish w) j).main.spawned in
            (t.0, let few = t.1 in omega (arith, last, few))

  -- finish
  HasTraps-finish : HasWorkers m i S → (w : ℕ) → IsEnabled m S (event.Finish w)
      → HasTraps m i (after_event m S (event.Finish w))
  unfolding is_enabled
  HasTraps-finish workers w on =
      let b = something can_finish (get S.workers w) refl on in
      traps_finish workers w b.0 b.1 (ap can_finish (sym b.1) ∙ on)

  -- each event keeps it
  pub HasTraps-after_event : HasWorkers m i S → (e : Event) → IsEnabled m S e → HasTraps m i (after_event m S e)
  HasTraps-after_event workers event.Main on = HasTraps-main on
  HasTraps-after_event workers event.Take on = HasTraps-take on
  HasTraps-after_event workers (event.Finish w) on = HasTraps-finish workers w on
  HasTraps-after_event workers (event.Start w) on =
      traps_left (event.Start w) (λ w e. cc) (λ j. (Leaves-after_event m S (event.Start w) j).trap)
      (λ j. (Leaves-after_event m S (event.Start w) j).main) (λ j. (Leaves-after_event m S (event.Start w) j).inbox)
  HasTraps-after_event workers (event.Exec w) on =
      traps_left (event.Exec w) (λ w e. cc) (λ j. (Leaves-after_event m S (event.Exec w) j).trap)
      (λ j. (Leaves-after_event m S (event.Exec w) j).main) (λ j. (Leaves-after_event m S (event.Exec w) j).inbox)
  HasTraps-after_event workers other on =
      traps_left other (λ w e. cc) (λ j. (Leaves-after_event m S other j).trap)
      (λ j. (Leaves-after_event m S other j).main) (λ j. (Leaves-after_event m S other j).inbox)

-- at first no trap is held
pub HasTraps-initial_state : (m : Machine) (i : ImageState) → HasTraps m i (initial_state i)
HasTraps-initial_state m i = record {
  held = λ h e. absurd (none-some h e);
  trap = λ h s e start. absurd (none-some h e);
  judged = λ n s t taken start trapped. let a = taken.0 in let b = taken.1 in absurd (omega (arith, a, b));
}
