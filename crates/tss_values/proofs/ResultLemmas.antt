-- A finished state has the result of program order, where its values are those of program order.
use Rattle.std.proofs.Common.{◌≡◌, ◌≢◌, ℕ, suc, ◌+◌, ◌<◌, ◌≤◌, true, ◌&&◌, ◌||◌, cond, List, Option, Some, None, refl}
use Rattle.std.proofs.Common.{sym, ap, ◌∙◌, subst, inl, inr, arith, true≢false}
use Rattle.std.specs.Prelude.{◌-◌, ◌==◌, is_some, is_none, length}
use Rattle.std.specs.FinMap.{get, len}
use Rattle.std.proofs.lemmas.Bool.{and_parts, cases_order}
use Rattle.std.proofs.lemmas.Bool.Decides.{nat_tests}
use Rattle.std.proofs.lemmas.Option.{none-some, same_Some}
use Rattle.tss_base.specs.declared.operand.Task.{Task}
use Rattle.tss_base.specs.declared.ending.Trap.{Trap}
use Rattle.tss_base.specs.declared.ending.Ending.{Ending}
use Rattle.tss_base.specs.declared.ending.Ending.TheVariants.{TaskTrap}
use Rattle.tss_base.specs.declared.machine.Machine.{Machine}
use Rattle.tss_base.specs.Image.{ImageState}
use Rattle.tss_maps.proofs.Keys.{nat_order, decide_key}
use Rattle.tss_maps.proofs.Changes.{same_by_get}
use Rattle.tss_model.specs.Memory.{frozen}
use Rattle.tss_model.specs.MainStep.{MainState, Flat, output_of}
use Rattle.tss_model.specs.InOrder.{Started, flat_stepped, started_in, started_at, end_of_started}
use Rattle.tss_protocol.specs.State.{State, HeldTrap}
use Rattle.tss_protocol.specs.Mail.{is_silent}
use Rattle.tss_protocol.specs.Gateway.{is_idle}
use Rattle.tss_protocol.specs.MainEvent.{is_drained, has_no_task, has_no_object}
use Rattle.tss_protocol.specs.Result.{RunResult, IsFinished, ending_by, tasks_by, tasks_of, printed_of, pieces_by}
use Rattle.tss_protocol.specs.Result.{result_with, result_of}
use Rattle.tss_names.specs.Tasks.{taken_by, IsTaken}
use Rattle.tss_program_order.specs.Refinement.{HasReferenceResult, is_task_trap}
use Rattle.tss_program_order.specs.MainInOrder.{flat_beside, steps_taken, FollowsInOrder, IsCutOff}
use Rattle.tss_program_order.proofs.FlatOrder.{flat_stepped-ranges, flat_stepped-ended, started_at-by, trapped_next}
use Rattle.tss_program_order.proofs.FlatOrder.{trapped_after}
use Rattle.tss_program_order.proofs.FlatStarts.{started-number}
use Rattle.tss_program_order.proofs.FlatNumbers.{number_there, numbers_rise, HasNumber}
use Rattle.tss_program_order.proofs.MainFollows.{follows_to_end}
use Rattle.tss_program_order.proofs.RunKeeps.{HasGround}
use Rattle.tss_control.proofs.GroundworkEmpty.{IsBare, IsBare-drained}
use Rattle.tss_values.proofs.Values.{Starts, HasHome, HasMain, IsUnfinished, HoldsTrapBy}
use Rattle.tss_control.proofs.rounds.Facts.{Facts}

-- ---- program order

module _ (m : Machine) (i : ImageState) where
  -- of two tasks that program order starts, the earlier doesn't trap
  no_start_after : (n k : ℕ) (s t : Started) (trap : Trap) → Starts m i n s → Starts m i k t
      → (end_of_started i m.limits s).trap ≡ Some trap → n < k → ⊥
  no_start_after n k s t trap first second trapped before = elim (cases_order first.0 second.0) [
    | inl same ↦
        let one = same_Some s t (sym first.1 ∙ ap (started_at i m.limits) same ∙ second.1) in
        let number = ap (λ (s : Started). s.task.number) one in
        let a = first.2 in
        let b = second.2 in
        omega (arith, number, a, b, before)
    | inr (inl earlier) ↦
        let none = trapped_after i m.limits first.0 s trap second.0 first.1 trapped earlier in
        none-some t (sym (ap (started_in (frozen i) m.limits) none) ∙ second.1)
    | inr (inr later) ↦
        let less = numbers_rise i m.limits second.0 first.0 t s second.1 first.1 later in
        let a = first.2 in
        let b = second.2 in
        omega (arith, less, a, b, before)
  ]

  -- a number that has come by so many steps starts
  pub starts_by : (n k : ℕ) → 0 < n → n ≤ (flat_stepped i m.limits k).main.spawned
      → (p : HasNumber i m.limits n k) × Starts m i n p.started
  starts_by n k some few =
      let p = number_there i m.limits n k some few in
      (p, (p.place, p.start, p.number))

  -- and so does one up to that of a task that starts
  starts_before : (n k : ℕ) (t : Started) → Starts m i k t → 0 < n → n ≤ k → (s : Started) × Starts m i n s
  starts_before n k t second some few = elim (decide_key nat_order n k) [
    | inl same ↦ (t, (second.0, second.1, second.2 ∙ sym same))
    | inr other ↦
        let number = started-number i m.limits second.0 t second.1 in
        let is = second.2 in
        let p = starts_by n second.0 some
        (below n k (flat_stepped i m.limits second.0).main.spawned t.task.number few other number is) in
        (p.0.started, p.1)
  ]
    where
      below : (n k j t : ℕ) → n ≤ k → n ≢ k → t ≡ suc j → t ≡ k → n ≤ j
      below n k j t few other a b = grind (arith, nat_tests, few, other, a, b)

-- ---- a drained state

drained_inbox : (S : State) → is_drained S ≡ true → S.inbox ≡ None
drained_inbox S drained =
    let outer = and_parts (has_no_task S && has_no_object S) (is_silent S.mail) drained in
    let inner = and_parts (has_no_task S) (has_no_object S) outer.0 in
    let i = is_none S.inbox in
    let g = is_idle S.gateway in
    let t4 = and_parts (i && g && (len S.flight == 0) && (length S.queue == 0)) (len S.workers == 0) inner.0 in
    let t3 = and_parts (i && g && (len S.flight == 0)) (length S.queue == 0) t4.0 in
    let t2 = and_parts (i && g) (len S.flight == 0) t3.0 in
    let t1 = and_parts i g t2.0 in
    by S.inbox t1.0
  where
    by : (x : Option Task) → is_none x ≡ true → x ≡ None
    by None e = refl
    by (Some t) e = absurd (true≢false (sym e))

-- ---- results

-- of an ending, if there is one, so many tasks and this output
abbrev result_parts : Option Ending → ℕ → List ℕ → Option RunResult
result_parts None tasks output = None
result_parts (Some e) tasks output = Some (record { ending = e; tasks = tasks; output = output })

result_there : (S : State) → IsFinished S
    → result_of S ≡ result_parts (ending_by S.trap S.main.ending) (tasks_of S) (printed_of S)
result_there S finished =
    ap (λ b. cond b (result_with S (ending_by S.trap S.main.ending)) None) finished
    ∙ by (ending_by S.trap S.main.ending)
  where
    by : (e : Option Ending) → result_with S e ≡ result_parts e (tasks_of S) (printed_of S)
    by None = refl
    by (Some e) = refl

module _ (m : Machine) (i : ImageState) (S : State) (facts : Facts m S) (home : HasHome m i facts.ts S)
    (main : HasMain m i facts.all S) (from : HasGround i S)
    (own : (n : ℕ) (trap : Trap) → S.main.ending ≡ Some (TaskTrap n trap) → ⊥) (drained : is_drained S ≡ true) where
  open facts use {ts, ground, control as h}

  bare : IsBare S
  bare = IsBare-drained S drained

  inbox : S.inbox ≡ None
  inbox = drained_inbox S drained

  all_taken : (n : ℕ) → 0 < n → n ≤ S.main.spawned → IsTaken S n
  all_taken n some few = (omega (arith, some), subst (λ x. n ≤ taken_by x S.main.spawned) (sym inbox) few)

  none_unfinished : (n : ℕ) → IsUnfinished S n → ⊥
  none_unfinished n u = none-some u.0 (sym (bare.flight n) ∙ u.1)

  -- where a task of main traps in program order, its trap or an earlier one's is held
  cut_held : (cut : IsCutOff i m.limits S.main) → HoldsTrapBy S cut.started.task.number
  cut_held cut =
      let n = cut.started.task.number in
      let number = started-number i m.limits cut.place cut.started cut.start in
      elim (main.judged n cut.started cut.trap (all_taken n (omega (arith, number)) cut.number)
      (cut.place, cut.start, refl) cut.trapped) [
        | inl u ↦ absurd (none_unfinished n u)
        | inr held ↦ held
      ]

  -- ---- a trap is held

  module _ (held : HeldTrap) (there : S.trap ≡ Some held) where
    -- main that follows program order has spawned no task that traps there
    not_followed : S.main ≡ (flat_beside i m.limits S.main).main → ⊥
    not_followed same =
        let k = main.held held there in
        let p = starts_by m i held.task (steps_taken S.main) k.0
        (subst (λ n. held.task ≤ n) (ap (λ (x : MainState). x.spawned) same) k.1) in
        let trapped = main.trap held p.0.started there p.1 in
        let ending = trapped_next i m.limits p.0.place p.0.started held.trap
        (started_at-by i m.limits p.0.place p.0.started p.0.start) trapped in
        let before = p.0.before in
        let count : steps_taken S.main ≡ suc p.0.place + (steps_taken S.main - suc p.0.place) = omega (arith, before) in
        let still = ap (flat_stepped i m.limits) count
        ∙ flat_stepped-ended i m.limits (suc p.0.place) (steps_taken S.main - suc p.0.place) (ap is_some ending) in
        own p.0.started.task.number held.trap
        (ap (λ (x : MainState). x.ending) same ∙ ap (λ (f : Flat). f.main.ending) still ∙ ending)

    cut : IsCutOff i m.limits S.main
    cut = elim main.follows [
      | inl same ↦ absurd (not_followed same)
      | inr c ↦ c
    ]

    -- it is the trap of that task
    same_number : held.task ≡ cut.started.task.number
    same_number =
        let k = cut_held cut in
        let is = ap (λ (x : HeldTrap). x.task) (same_Some k.0 held (sym k.1 ∙ there)) in
        let few = k.2 in
        let start : Starts m i cut.started.task.number cut.started = (cut.place, cut.start, refl) in
        let e = starts_before m i held.task cut.started.task.number cut.started start (main.held held there).0
        (omega (arith, is, few)) in
        elim (decide_key nat_order held.task cut.started.task.number) [
          | inl same ↦ same
          | inr other ↦
              absurd (no_start_after m i held.task cut.started.task.number e.0 cut.started held.trap e.1 start
              (main.trap held e.0 there e.1) (less held.task cut.started.task.number k.0.task is few other))
        ]
      where
        less : (a b c : ℕ) → c ≡ a → c ≤ b → a ≢ b → a < b
        less a b c is few other = grind (arith, nat_tests, is, few, other)

    same_trap : held.trap ≡ cut.trap
    same_trap =
        same_Some held.trap cut.trap
        (sym (main.trap held cut.started there (cut.place, cut.start, sym same_number)) ∙ cut.trapped)

    trapped_result : IsFinished S → HasReferenceResult m i S
    trapped_result finished = record {
      result =
          result_there S finished
          ∙ (λ j. result_parts (ending_by (there j) S.main.ending) (tasks_by (there j) S.main.spawned)
          (output_of (pieces_by (there j) S.main.pieces)))
          ∙ (λ j. result_parts (Some (TaskTrap (same_number j) (same_trap j))) (same_number j)
          (output_of (pieces_by (Some (record { task = same_number j; trap = same_trap j })) S.main.pieces)))
          ∙ (λ j. result_parts (Some (sym cut.ending j)) (sym cut.tasks j) (cut.printed j));
      memory = λ no_trap. absurd (true≢false (ap is_task_trap (sym cut.ending) ∙ no_trap));
    }

  -- ---- none is held

  module _ (none : S.trap ≡ None) where
    -- main follows program order
    followed : S.main ≡ (flat_beside i m.limits S.main).main
    followed = elim main.follows [
      | inl same ↦ same
      | inr c ↦ let k = cut_held c in absurd (none-some k.0 (sym none ∙ k.1))
    ]

    same_byte : (a : ℕ) → get S.home.bytes a ≡ get (flat_beside i m.limits S.main).memory.bytes a
    same_byte a =
        home.beside a followed
        (record {
          entered = λ b e at. absurd (none-some e (sym (bare.entries b) ∙ at));
          arriving = λ t at. absurd (none-some t (sym inbox ∙ at));
          decoding = λ o p at. absurd (none-some p (sym (bare.decodes o) ∙ at));
        })

    same_home : S.home ≡ (flat_beside i m.limits S.main).memory
    same_home =
        let bytes = same_by_get nat_order S.home.bytes (flat_beside i m.limits S.main).memory.bytes same_byte in
        let ranges = from.ranges ∙ sym (flat_stepped-ranges i m.limits (steps_taken S.main)) in
        λ j. record { bytes = bytes j; ranges = ranges j }

    follows : FollowsInOrder m i S
    follows = record { main = followed; home = λ a may. same_byte a }

    ended : IsFinished S → (e : Ending) × (S.main.ending ≡ Some e)
    ended finished =
        by S.main.ending S.trap none (and_parts (is_drained S) (is_some S.main.ending || is_some S.trap) finished).1
      where
        by : (e : Option Ending) (t : Option HeldTrap) → t ≡ None → (is_some e || is_some t) ≡ true
            → (x : Ending) × (e ≡ Some x)
        by (Some e) t no_trap some = (e, refl)
        by None t no_trap some = absurd (true≢false (sym some ∙ ap is_some no_trap))

    followed_result : IsFinished S → HasReferenceResult m i S
    followed_result finished =
        let e = ended finished in
        let order = follows_to_end m i S e.0 follows e.1 in
        record {
          result =
              result_there S finished
              ∙ (λ j. result_parts (ending_by (none j) (e.1 j)) (tasks_by (none j) S.main.spawned)
              (output_of (pieces_by (none j) S.main.pieces)))
              ∙ (λ j. result_parts (Some (sym order.ending j)) (sym order.tasks j) (sym order.output j));
          memory = λ no_trap. same_home ∙ sym order.memory;
        }

  -- a finished state has the result of program order
  pub finished_result : IsFinished S → HasReferenceResult m i S
  finished_result finished = by S.trap refl
    where
      by : (t : Option HeldTrap) → S.trap ≡ t → HasReferenceResult m i S
      by None none = followed_result none finished
      by (Some held) there = trapped_result held there finished
