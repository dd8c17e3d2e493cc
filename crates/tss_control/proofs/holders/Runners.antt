-- Tasks that are queued or run stay in flight at that stage, and once, whatever event happens.
use Rattle.std.proofs.Common.{◌≡◌, ◌≢◌, ℕ, inl, inr, Bool, true, false, if◌then◌else◌, List, [], ◌∷◌, ◌++◌, Option}
use Rattle.std.proofs.Common.{Some, None, refl, sym, ap, ◌∙◌, subst, arith, true≢false}
use Rattle.std.specs.Prelude.{◌==◌, ◌||◌}
use Rattle.std.specs.FinMap.{get, insert, remove}
use Rattle.std.proofs.lemmas.Bool.Decides.{nat_tests}
use Rattle.std.proofs.lemmas.Option.{none-some, same_Some}
use Rattle.tss_base.specs.declared.operand.Task.{Task}
use Rattle.tss_base.specs.declared.marks.Stage.{Stage}
use Rattle.tss_base.specs.declared.marks.Stage.TheVariants as stage
use Rattle.tss_base.specs.Names.{Numbered}
use Rattle.tss_maps.proofs.Keys.{nat_order, decide_key}
use Rattle.tss_maps.proofs.Changes.{at_inserted, beside_inserted, from_inserted, beside_removed, from_removed}
use Rattle.tss_protocol.specs.State.{Flying, Busy}
use Rattle.tss_protocol.specs.Stations.{is_gone, has_finished, remaining_tasks, entered, flight_after_take}
use Rattle.tss_protocol.specs.Stations.{flight_after_start, finished_in}
use Rattle.tss_protocol.specs.Workers.{busy_at_start}
use Rattle.tss_protocol.specs.UnitMachine.{queue_with, is_queued}
use Rattle.tss_phases.proofs.LeavingTasks.{done_from_test}
use Rattle.tss_control.specs.Runners.{IsAtStage, AreApart}
use Rattle.tss_names.proofs.BackLemmas.{Standing}
use Rattle.tss_names.proofs.QueueLemmas.{in_queue, from_queue, at_front}
use Rattle.tss_names.proofs.StageEvents.{queued_from_test}
use Rattle.tss_names.proofs.StageLemmas.{waiting≢queued, waiting≢running, queued≢running}

-- the part that speaks of where tasks stand
pub record Runs (p : Standing) : Type 0 where
  pub queued : (n : ℕ) → in_queue n p.queue ≡ true → IsAtStage p.flight n stage.Queued
  pub once : AreApart p.queue
  pub running : (w : ℕ) (b : Busy) → get p.workers w ≡ Some b → IsAtStage p.flight b.task.number stage.Running
  pub single : (w u : ℕ) (b c : Busy) → get p.workers w ≡ Some b → get p.workers u ≡ Some c
      → b.task.number ≡ c.task.number → w ≡ u

-- ---- stages

-- a task is at one stage
pub one_stage : (flight : Numbered Flying) (n k : ℕ) (s t : Stage) → IsAtStage flight n s → IsAtStage flight k t → n ≡ k
    → s ≡ t
one_stage flight n k s t a b same =
    sym a.2 ∙ ap (λ (x : Flying). x.stage) (same_Some a.0 b.0 (sym a.1 ∙ ap (get flight) same ∙ b.1)) ∙ b.2

-- beside a task that is put
stage_beside : (flight : Numbered Flying) (n : ℕ) (y : Flying) (k : ℕ) (s : Stage) → k ≢ n → IsAtStage flight k s
    → IsAtStage (insert flight n y) k s
stage_beside flight n y k s apart a = (a.0, beside_inserted nat_order flight n y k apart ∙ a.1, a.2)

-- the one that is put
stage_put : (flight : Numbered Flying) (n : ℕ) (y : Flying) (k : ℕ) (s : Stage) → k ≡ n → y.stage ≡ s
    → IsAtStage (insert flight n y) k s
stage_put flight n y k s same e = (y, ap (get (insert flight n y)) same ∙ at_inserted nat_order flight n y, e)

-- beside a task that may leave
stage_remaining : (flight : Numbered Flying) (n : ℕ) (y : Flying) (k : ℕ) (s : Stage) → k ≢ n
    → IsAtStage flight k s → IsAtStage (remaining_tasks flight n y) k s
stage_remaining flight n y k s apart a =
    elim (is_gone y) as (λ b. IsAtStage (if b then remove flight n else insert flight n y) k s) [
      | true ↦ (a.0, beside_removed nat_order flight n k apart ∙ a.1, a.2)
      | false ↦ stage_beside flight n y k s apart a
    ]

-- a task that goes on at a stage before the last stays
stage_stays : (flight : Numbered Flying) (n : ℕ) (y : Flying) (s : Stage) → has_finished s ≡ false → y.stage ≡ s
    → IsAtStage (remaining_tasks flight n y) n s
stage_stays flight n y s early e = by (is_gone y) refl
  where
    by : (b : Bool) → is_gone y ≡ b → IsAtStage (if b then remove flight n else insert flight n y) n s
    by true g = absurd (true≢false (sym (done_from_test y g).finished ∙ ap has_finished e ∙ early))
    by false g = stage_put flight n y n s refl e

-- ---- the queue

-- one more behind others that aren't it
once_more : (ns : List ℕ) (t : ℕ) → in_queue t ns ≡ false → AreApart ns → AreApart (ns ++ t ∷ [])
once_more [] t e h = (refl, tt)
once_more (n ∷ ns) t e h =
    let parts = neither_part (n == t) (in_queue t ns) e in
    (beyond ns n t (other_way n t parts.0) h.0, once_more ns t parts.1 h.1)
  where
    neither_part : (a b : Bool) → a || b ≡ false → (a ≡ false) × (b ≡ false)
    neither_part false false e = (refl, refl)
    neither_part true b e = absurd (true≢false e)
    neither_part false true e = absurd (true≢false e)

    other_way : (n t : ℕ) → (n == t) ≡ false → (t == n) ≡ false
    other_way n t e = grind (arith, nat_tests)

    beyond : (ns : List ℕ) (n t : ℕ) → (t == n) ≡ false → in_queue n ns ≡ false → in_queue n (ns ++ t ∷ []) ≡ false
    beyond [] n t e h = ap (λ b. b || false) e
    beyond (m ∷ ns) n t e h =
        let parts = neither_part (m == n) (in_queue n ns) h in
        ap (λ b. b || in_queue n (ns ++ t ∷ [])) parts.0 ∙ beyond ns n t e parts.1

-- one that isn't there isn't found
not_in_queue : (ns : List ℕ) (n : ℕ) → (in_queue n ns ≡ true → ⊥) → in_queue n ns ≡ false
not_in_queue ns n never = by (in_queue n ns) refl
  where
    by : (b : Bool) → in_queue n ns ≡ b → in_queue n ns ≡ false
    by false e = e
    by true e = absurd (never e)

-- the front isn't behind itself
front_once : (n k : ℕ) (ns : List ℕ) → AreApart (n ∷ ns) → in_queue k ns ≡ true → k ≢ n
front_once n k ns h e same = true≢false (sym e ∙ ap (λ k. in_queue k ns) same ∙ h.0)

module _ (p : Standing) (h : Runs p) where
  -- a queued task doesn't run
  queued_apart : (n w : ℕ) (b : Busy) → in_queue n p.queue ≡ true → get p.workers w ≡ Some b → n ≢ b.task.number
  queued_apart n w b e there same =
      queued≢running
      (one_stage p.flight n b.task.number stage.Queued stage.Running (h.queued n e) (h.running w b there) same)

  -- ---- a change of a task that is neither queued nor runs, or goes on at its stage

  module _ (n : ℕ) (x y : Flying) (there : get p.flight n ≡ Some x) (same : y.stage ≡ x.stage) where
    still_at : (k : ℕ) (s : Stage) → has_finished s ≡ false → IsAtStage p.flight k s
        → IsAtStage (remaining_tasks p.flight n y) k s
    still_at k s early a = elim (decide_key nat_order k n) [
      | inl is ↦
          let at = ap (λ (x : Flying). x.stage) (same_Some x a.0 (sym there ∙ ap (get p.flight) (sym is) ∙ a.1))
          ∙ a.2 in
          subst (λ k. IsAtStage (remaining_tasks p.flight n y) k s) (sym is)
          (stage_stays p.flight n y s early (same ∙ at))
      | inr other ↦ stage_remaining p.flight n y k s other a
    ]

    -- link, bye
    pub runs_went_on : Runs (record p { flight = remaining_tasks p.flight n y })
    runs_went_on = record {
      queued = λ k e. still_at k stage.Queued refl (h.queued k e);
      once = h.once;
      running = λ w b e. still_at b.task.number stage.Running refl (h.running w b e);
      single = h.single;
    }

  -- ---- ready: a task that waited is queued or not

  module _ (n : ℕ) (y : Flying) (waits : IsAtStage p.flight n stage.Waiting) where
    not_queued : in_queue n p.queue ≡ true → ⊥
    not_queued e =
        waiting≢queued (one_stage p.flight n n stage.Waiting stage.Queued waits (h.queued n e) refl)

    not_running : (w : ℕ) (b : Busy) → get p.workers w ≡ Some b → b.task.number ≢ n
    not_running w b e same =
        waiting≢running (one_stage p.flight n b.task.number stage.Waiting stage.Running waits (h.running w b e)
        (sym same))

    runs_beside : (z : Flying) (w : ℕ) (b : Busy) → get p.workers w ≡ Some b
        → IsAtStage (insert p.flight n z) b.task.number stage.Running
    runs_beside z w b e =
        stage_beside p.flight n z b.task.number stage.Running (not_running w b e) (h.running w b e)

    queued_beside : (z : Flying) (k : ℕ) → in_queue k p.queue ≡ true → IsAtStage (insert p.flight n z) k stage.Queued
    queued_beside z k e =
        stage_beside p.flight n z k stage.Queued (λ same. not_queued (ap (λ k. in_queue k p.queue) (sym same) ∙ e))
        (h.queued k e)

    -- ready
    pub runs_readied : (c : Bool) → Runs (record p {
      flight = insert p.flight n (if c then record y { stage = stage.Queued } else y);
      queue = queue_with p.queue n c;
    })
    runs_readied true =
        let z : Flying = record y { stage = stage.Queued } in
        record {
          queued = λ k e. elim (from_queue p.queue n true k e) [
            | inl before ↦ queued_beside z k before
            | inr now ↦ stage_put p.flight n z k stage.Queued now.0 refl
          ];
          once = once_more p.queue n (not_in_queue p.queue n not_queued) h.once;
          running = runs_beside z;
          single = h.single;
        }
    runs_readied false =
        record { queued = queued_beside y; once = h.once; running = runs_beside y; single = h.single }

  -- ---- take: a task comes into flight that wasn't there

  -- which tasks run, after it
  pub runs_taken : (t : Task) (inbox : Option Task) → get p.flight t.number ≡ None → Runs (record p {
    inbox = inbox;
    flight = flight_after_take p.flight t;
    queue = queue_with p.queue t.number (is_queued (entered t).stage);
  })
  runs_taken t inbox none = record {
    queued = λ k e. elim (from_queue p.queue t.number (is_queued (entered t).stage) k e) [
      | inl before ↦ stage_beside p.flight t.number (entered t) k stage.Queued
          (other k stage.Queued (h.queued k before)) (h.queued k before)
      | inr now ↦ stage_put p.flight t.number (entered t) k stage.Queued now.0
          (queued_from_test (entered t).stage now.1)
    ];
    once = more (is_queued (entered t).stage);
    running = λ w b e.
        stage_beside p.flight t.number (entered t) b.task.number stage.Running
        (other b.task.number stage.Running (h.running w b e)) (h.running w b e);
    single = h.single;
  }
    where
      other : (k : ℕ) (s : Stage) → IsAtStage p.flight k s → k ≢ t.number
      other k s a same = none-some a.0 (sym none ∙ ap (get p.flight) (sym same) ∙ a.1)

      more : (c : Bool) → AreApart (queue_with p.queue t.number c)
      more false = h.once
      more true =
          once_more p.queue t.number
          (not_in_queue p.queue t.number
          (λ e. other t.number stage.Queued (h.queued t.number e) refl)) h.once

  -- ---- start: the front of the queue runs on an idle worker

  module _ (w n : ℕ) (rest : List ℕ) (x : Flying) (queue : p.queue ≡ n ∷ rest) (idle : get p.workers w ≡ None)
      (number : x.task.number ≡ n) where
    front_queued : IsAtStage p.flight n stage.Queued
    front_queued = h.queued n (ap (in_queue n) queue ∙ at_front n rest)

    in_rest : (k : ℕ) → in_queue k rest ≡ true → (k ≢ n) × (in_queue k p.queue ≡ true)
    in_rest k e = (
      front_once n k rest (subst AreApart queue h.once) e,
      ap (in_queue k) queue ∙ behind (n == k) e,
    )
      where
        behind : (b : Bool) → in_queue k rest ≡ true → b || in_queue k rest ≡ true
        behind true e = refl
        behind false e = e

    others_run : (u : ℕ) (c : Busy) → get p.workers u ≡ Some c → c.task.number ≢ n
    others_run u c e same =
        queued≢running
        (one_stage p.flight n c.task.number stage.Queued stage.Running front_queued (h.running u c e) (sym same))

    pub runs_started : Runs (record p {
      flight = flight_after_start p.flight n x;
      queue = rest;
      workers = insert p.workers w (busy_at_start x);
    })
    runs_started =
        let y : Flying = record x { stage = stage.Running } in
        record {
          queued = λ k e.
              let r = in_rest k e in stage_beside p.flight n y k stage.Queued r.0 (h.queued k r.1);
          once = (subst AreApart queue h.once).1;
          running = λ u c e. elim (from_inserted nat_order p.workers w (busy_at_start x) u c e) [
            | inl here ↦ stage_put p.flight n y c.task.number stage.Running
                (ap (λ (c : Busy). c.task.number) here.1 ∙ number) refl
            | inr before ↦
                stage_beside p.flight n y c.task.number stage.Running (others_run u c before.1) (h.running u c before.1)
          ];
          single = λ u v c d e f same.
              elim (from_inserted nat_order p.workers w (busy_at_start x) u c e) [
                | inl a ↦ elim (from_inserted nat_order p.workers w (busy_at_start x) v d f) [
                  | inl b ↦ a.0 ∙ sym b.0
                  | inr b ↦ absurd (others_run v d b.1
                      (sym same ∙ ap (λ (c : Busy). c.task.number) a.1 ∙ number))
                ]
                | inr a ↦ elim (from_inserted nat_order p.workers w (busy_at_start x) v d f) [
                  | inl b ↦ absurd (others_run u c a.1
                      (same ∙ ap (λ (c : Busy). c.task.number) b.1 ∙ number))
                  | inr b ↦ h.single u v c d a.1 b.1 same
                ]
              ];
        }

  -- ---- exec: a worker goes on with its task

  -- which tasks run, after it
  pub runs_executed : (w : ℕ) (b c : Busy) → get p.workers w ≡ Some b → c.task ≡ b.task
      → Runs (record p { workers = insert p.workers w c })
  runs_executed w b c there task = record {
    queued = h.queued;
    once = h.once;
    running = λ u d e. let r = before u d e in subst (λ k. IsAtStage p.flight k stage.Running) r.2
        (h.running u r.0 r.1);
    single = λ u v d e f g same.
        let r = before u d f in
        let s = before v e g in
        h.single u v r.0 s.0 r.1 s.1 (r.2 ∙ same ∙ sym s.2);
  }
    where
      before : (u : ℕ) (d : Busy) → get (insert p.workers w c) u ≡ Some d
          → (a : Busy) × (get p.workers u ≡ Some a) × (a.task.number ≡ d.task.number)
      before u d e = elim (from_inserted nat_order p.workers w c u d e) [
        | inl here ↦ (
          b,
          ap (get p.workers) here.0 ∙ there,
          ap (λ (t : Task). t.number) (sym task) ∙ ap (λ (d : Busy). d.task.number) (sym here.1),
        )
        | inr old ↦ (d, old.1, refl)
      ]

  -- ---- finish: a worker is idle, and its task has finished

  -- which tasks run, after it
  pub runs_finished : (w : ℕ) (b : Busy) (x : Option Flying) → get p.workers w ≡ Some b
      → Runs (record p { flight = (finished_in p.flight b.task.number x).part; workers = remove p.workers w })
  runs_finished w b None there = record {
    queued = h.queued;
    once = h.once;
    running = λ u c e. h.running u c (from_removed nat_order p.workers w u c e).1;
    single = λ u v c d e f.
        h.single u v c d (from_removed nat_order p.workers w u c e).1 (from_removed nat_order p.workers w v d f).1;
  }
  runs_finished w b (Some x) there =
      let n = b.task.number in
      let y : Flying = record x { stage = stage.Finished } in
      record {
        queued = λ k e.
            stage_remaining p.flight n y k stage.Queued (queued_apart k w b e there) (h.queued k e);
        once = h.once;
        running = λ u c e.
            let old = from_removed nat_order p.workers w u c e in
            stage_remaining p.flight n y c.task.number stage.Running
            (λ same. old.0 (h.single u w c b old.1 there same)) (h.running u c old.1);
        single = λ u v c d e f.
            h.single u v c d (from_removed nat_order p.workers w u c e).1 (from_removed nat_order p.workers w v d f).1;
      }
