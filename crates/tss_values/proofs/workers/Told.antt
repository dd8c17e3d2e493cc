-- Every event leaves each busy worker with the task in flight under its number, and with the storages that this was
-- told.
use Rattle.std.proofs.Common.{◌≡◌, ◌≢◌, ℕ, Bool, true, false, if◌then◌else◌, List, Option, Some, None, refl, sym, ap}
use Rattle.std.proofs.Common.{◌∙◌, subst, inl, inr, arith, true≢false}
use Rattle.std.specs.FinMap.{get, insert, remove}
use Rattle.std.proofs.lemmas.Bool.{and_parts}
use Rattle.std.proofs.lemmas.Option.{none-some}
use Rattle.tss_base.specs.declared.operand.OpName.{OpName}
use Rattle.tss_base.specs.declared.operand.Task.{Task}
use Rattle.tss_base.specs.declared.machine.Machine.{Machine}
use Rattle.tss_base.specs.declared.event.Event.{Event}
use Rattle.tss_base.specs.declared.marks.Stage.TheVariants as stage
use Rattle.tss_base.specs.Names.{Numbered}
use Rattle.tss_maps.proofs.Keys.{nat_order, decide_key}
use Rattle.tss_maps.proofs.Changes.{at_inserted, beside_inserted, from_inserted, beside_removed, from_removed}
use Rattle.tss_maps.proofs.Changes.{one_value}
use Rattle.tss_protocol.specs.State.{State, Flying, Busy}
use Rattle.tss_protocol.specs.Stations.{is_gone, has_finished, remaining_tasks, entered, storages_of, finished_in}
use Rattle.tss_protocol.specs.Stations.{awaited, task_after_ready}
use Rattle.tss_protocol.specs.Workers.{busy_at_start}
use Rattle.tss_protocol.specs.UnitMachine.{IsEnabled, after_event}
use Rattle.tss_protocol.proofs.FrontLemmas.{KeepsFront}
use Rattle.tss_names.proofs.TakeLemmas.{TakesTask}
use Rattle.tss_names.proofs.NumberLemmas.{taken_newest, last_taken_before}
use Rattle.tss_names.proofs.BackLemmas.{Standing, standing_by, standing_of, ReadiesOperand, ChangesTask, StartsTask}
use Rattle.tss_names.proofs.BackLemmas.{ExecutesTask, FinishesTask, kept_by_standing}
use Rattle.tss_names.proofs.StageLemmas.{waiting≢running}
use Rattle.tss_control.proofs.holders.Stages.{IsRunning, waits}
use Rattle.tss_control.proofs.rounds.Facts.{Facts}

-- a task in flight is that of a worker, with the storages that it has
pub record IsToldTo (flight : Numbered Flying) (b : Busy) : Type 0 where
  pub flying : Flying
  pub there : get flight b.task.number ≡ Some flying
  pub task : flying.task ≡ b.task
  pub storages : b.storages ≡ storages_of flying

-- that of each busy worker
abbrev pub AreTold : Standing → Type 0
AreTold p = (w : ℕ) (b : Busy) → get p.workers w ≡ Some b → IsToldTo p.flight b

-- ---- another task in flight changes

told_other : (flight : Numbered Flying) (n : ℕ) (z : Flying) (b : Busy) → b.task.number ≢ n → IsToldTo flight b
    → IsToldTo (insert flight n z) b
told_other flight n z b apart t = record {
  flying = t.flying;
  there = beside_inserted nat_order flight n z b.task.number apart ∙ t.there;
  task = t.task;
  storages = t.storages;
}

-- or the same goes on
told_on : (flight : Numbered Flying) (n : ℕ) (z : Flying) (b : Busy)
    → ((x : Flying) → get flight n ≡ Some x → x.task ≡ b.task → (z.task ≡ x.task) × (storages_of z ≡ storages_of x))
    → IsToldTo flight b → IsToldTo (insert flight n z) b
told_on flight n z b same t = elim (decide_key nat_order b.task.number n) [
  | inl is ↦
      let s = same t.flying (ap (get flight) (sym is) ∙ t.there) t.task in
      record {
        flying = z;
        there = ap (get (insert flight n z)) is ∙ at_inserted nat_order flight n z;
        task = s.0 ∙ t.task;
        storages = t.storages ∙ sym s.1;
      }
  | inr apart ↦ told_other flight n z b apart t
]

gone_finished : (x : Flying) → is_gone x ≡ true → x.stage ≡ stage.Running → ⊥
gone_finished x gone runs =
    true≢false (sym (and_parts (has_finished x.stage) _ gone).0 ∙ ap has_finished runs)

told_remaining : (flight : Numbered Flying) (n : ℕ) (z : Flying) (b : Busy)
    → ((x : Flying) → get flight n ≡ Some x → x.task ≡ b.task
    → (z.task ≡ x.task) × (storages_of z ≡ storages_of x) × (z.stage ≡ stage.Running))
    → IsToldTo flight b → IsToldTo (remaining_tasks flight n z) b
told_remaining flight n z b same t = by (is_gone z) refl
  where
    removed : is_gone z ≡ true → b.task.number ≢ n
    removed gone is =
        gone_finished z gone (same t.flying (ap (get flight) (sym is) ∙ t.there) t.task).2

    by : (c : Bool) → is_gone z ≡ c → IsToldTo (if c then remove flight n else insert flight n z) b
    by true gone = record {
      flying = t.flying;
      there = beside_removed nat_order flight n b.task.number (removed gone) ∙ t.there;
      task = t.task;
      storages = t.storages;
    }
    by false e = told_on flight n z b (λ x at is. let s = same x at is in (s.0, s.1)) t

-- ---- the changes

-- what is known before the event
record IsToldBefore (m : Machine) (ts : List Task) (S : State) : Type 0 where
  pub running : IsRunning S.flight m ts S
  pub told : AreTold (standing_of S)

told_moved : (p q : Standing) → AreTold p → q.flight ≡ p.flight → q.workers ≡ p.workers → AreTold q
told_moved p q h f e w b at =
    subst (λ k. IsToldTo k b) (sym f) (h w b (sym (ap (λ ws. get ws w) e) ∙ at))

module _ (m : Machine) (ts : List Task) (S T : State) (h : IsToldBefore m ts S) where
  -- the task of a worker runs
  worker_runs : (w : ℕ) (b : Busy) → get S.workers w ≡ Some b → (x : Flying) → get S.flight b.task.number ≡ Some x
      → x.stage ≡ stage.Running
  worker_runs w b at x there =
      let r = h.running.runs.running w b at in
      ap (λ (y : Flying). y.stage) (one_value S.flight b.task.number x r.0 there r.1) ∙ r.2

  told_taken : TakesTask m S T → AreTold (standing_of T)
  told_taken p =
      subst AreTold (λ i. standing_by (sym p.front i) (sym p.back i))
      (λ w b at. told_other S.flight p.task.number (entered p.task) b (λ same.
      let t = h.told w b at in
      none-some t.flying (sym (absent (get S.flight p.task.number) refl) ∙ ap (get S.flight) (sym same) ∙ t.there))
      (h.told w b at))
    where
      absent : (x : Option Flying) → get S.flight p.task.number ≡ x → get S.flight p.task.number ≡ None
      absent None e = e
      absent (Some x) e =
          let a = last_taken_before m ts S T h.running.numbers p in
          let b = (taken_newest m ts S T h.running.numbers p).number in
          let c = (h.running.numbers.flight p.task.number x e).taken.1 in
          absurd (omega (arith, a, b, c))

  told_readied : (o : OpName) → KeepsFront S T → ReadiesOperand S T o → AreTold (standing_of T)
  told_readied o k c =
      subst AreTold (λ i. standing_by (sym k.front i) (sym c.back i))
      (λ w b at. told_other S.flight o.task (awaited (task_after_ready c.task o.place c.operand c.source)) b (λ same.
      let there = ap (get S.flight) same ∙ c.there in
      waiting≢running (sym (waits S.flight m ts S T h.running o c) ∙ worker_runs w b at c.task there))
      (h.told w b at))

  told_changed : (n : ℕ) → KeepsFront S T → ChangesTask S T n → AreTold (standing_of T)
  told_changed n k c =
      subst AreTold (λ i. standing_by (sym k.front i) (sym c.back i))
      (λ w b at. told_remaining S.flight n c.changed b (λ x there is.
      let same = one_value S.flight n c.task x c.there there in
      let number = (h.running.numbers.flight n x there).number in
      let flying = ap (get S.flight) (sym (ap (λ (t : Task). t.number) is) ∙ number) ∙ there in (
        c.itself ∙ ap (λ (x : Flying). x.task) same,
        c.storages ∙ ap storages_of same,
        c.stage ∙ ap (λ (x : Flying). x.stage) same ∙ worker_runs w b at x flying,
      ))
      (h.told w b at))

  told_started : (w : ℕ) → KeepsFront S T → StartsTask m S T w → AreTold (standing_of T)
  told_started w k c =
      let y : Flying = record c.task { stage = stage.Running } in
      let number = (h.running.numbers.flight c.number c.task c.there).number in
      subst AreTold (λ i. standing_by (sym k.front i) (sym c.back i))
      (λ u b at. elim (from_inserted nat_order S.workers w (busy_at_start c.task) u b at) [
        | inl new ↦ record {
          flying = y;
          there =
              ap (get (insert S.flight c.number y)) (ap (λ (b : Busy). b.task.number) new.1 ∙ number)
              ∙ at_inserted nat_order S.flight c.number y;
          task = ap (λ (b : Busy). b.task) (sym new.1);
          storages = ap (λ (b : Busy). b.storages) new.1;
        }
        | inr old ↦
            told_on S.flight c.number y b
            (λ x there is.
            let same = one_value S.flight c.number c.task x c.there there in
            (ap (λ (x : Flying). x.task) same, ap storages_of same)) (h.told u b old.1)
      ])

  told_executed : (w : ℕ) → KeepsFront S T → ExecutesTask m S T w → AreTold (standing_of T)
  told_executed w k c =
      subst AreTold (λ i. standing_by (sym k.front i) (sym c.back i))
      (λ u b at. elim (from_inserted nat_order S.workers w c.after u b at) [
        | inl new ↦
            let task = ap (λ (b : Busy). b.task) new.1 ∙ c.task in
            let t = h.told w c.busy c.there in
            record {
              flying = t.flying;
              there = ap (λ (t : Task). get S.flight t.number) task ∙ t.there;
              task = t.task ∙ sym task;
              storages = ap (λ (b : Busy). b.storages) new.1 ∙ c.storages ∙ t.storages;
            }
        | inr old ↦ h.told u b old.1
      ])

  told_after : (n : ℕ) (x : Option Flying) (b : Busy) → b.task.number ≢ n → IsToldTo S.flight b
      → IsToldTo (finished_in S.flight n x).part b
  told_after n None b apart t = t
  told_after n (Some x) b apart t = by (is_gone (record x { stage = stage.Finished }))
    where
      by : (c : Bool)
          → IsToldTo (if c then remove S.flight n else insert S.flight n (record x { stage = stage.Finished })) b
      by true = record {
        flying = t.flying;
        there = beside_removed nat_order S.flight n b.task.number apart ∙ t.there;
        task = t.task;
        storages = t.storages;
      }
      by false = told_other S.flight n (record x { stage = stage.Finished }) b apart t

  told_finished : (w : ℕ) → KeepsFront S T → FinishesTask S T w → AreTold (standing_of T)
  told_finished w k c =
      let n = c.busy.task.number in
      subst AreTold (λ i. standing_by (sym k.front i) (sym c.back i))
      (λ u b at.
      let old = from_removed nat_order S.workers w u b at in
      told_after n (get S.flight n) b (λ same. old.0 (h.running.runs.single u w b c.busy old.1 c.there same))
      (h.told u b old.1))

-- ---- all events

told_by_standing : (m : Machine) (ts : List Task) (S : State) (e : Event) → IsToldBefore m ts S → IsEnabled m S e
    → AreTold (standing_of (after_event m S e))
told_by_standing =
    kept_by_standing IsToldBefore (λ m ts S. AreTold (standing_of S))
    (λ m ts us S T h p.
    told_moved (standing_of S) (standing_of T) h.told (λ i. (p.back i).flight) (λ i. (p.back i).workers))
    (λ m ts S T h p. told_taken m ts S T h p)
    (λ m ts S T o h k c. told_readied m ts S T h o k c)
    (λ m ts S T n h k c. told_changed m ts S T h n k c)
    (λ m ts S T w h k c. told_started m ts S T h w k c)
    (λ m ts S T w h k c. told_executed m ts S T h w k c)
    (λ m ts S T w h k c. told_finished m ts S T h w k c)
    (λ m ts S T h same. subst AreTold (sym same) h.told)

-- each event keeps it
pub told_after_event : (m : Machine) (S : State) (facts : Facts m S) (e : Event) → IsEnabled m S e
    → AreTold (standing_of S)
    → AreTold (standing_of (after_event m S e))
told_after_event m S facts e on told = told_by_standing m facts.all S e (record {
  running = record {
    flight = refl;
    numbers = facts.ground.numbers;
    stages = facts.ground.stages;
    orderly = facts.control.orderly;
    runs = record {
      queued = facts.control.holders.runners.queued;
      once = facts.control.holders.runners.once;
      running = facts.control.holders.runners.running;
      single = facts.control.holders.runners.single;
    };
  };
  told = told;
}) on
