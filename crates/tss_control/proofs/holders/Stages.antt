-- Every event leaves tasks that are queued or run in flight at that stage, and one that has finished stays so.
use Rattle.std.proofs.Common.{◌≡◌, ℕ, Bool, true, false, if◌then◌else◌, List, ◌∷◌, Option, Some, None, refl, sym, ap}
use Rattle.std.proofs.Common.{◌∙◌, subst, inl, inr, arith, true≢false}
use Rattle.std.specs.Prelude.{is_some}
use Rattle.std.specs.FinMap.{get, insert, remove}
use Rattle.std.proofs.lemmas.Option.{none-some, same_Some}
use Rattle.tss_base.specs.declared.operand.OpName.{OpName}
use Rattle.tss_base.specs.declared.operand.Task.{Task}
use Rattle.tss_base.specs.declared.machine.Machine.{Machine}
use Rattle.tss_base.specs.declared.event.Event.{Event}
use Rattle.tss_base.specs.declared.marks.Stage.TheVariants as stage
use Rattle.tss_base.specs.Names.{Numbered}
use Rattle.tss_maps.proofs.Keys.{nat_order}
use Rattle.tss_maps.proofs.Changes.{from_inserted, from_removed, one_value}
use Rattle.tss_protocol.specs.State.{State, Flying}
use Rattle.tss_protocol.specs.Stations.{is_ready, is_complete, is_gone, remaining_tasks, entered, flight_after_start}
use Rattle.tss_protocol.specs.Stations.{finished_in, flight_after_finish, task_after_ready, awaited}
use Rattle.tss_protocol.specs.UnitMachine.{IsEnabled, after_event}
use Rattle.tss_phases.specs.Phase.{look_ups}
use Rattle.tss_phases.specs.Orderly.{AreOrderly}
use Rattle.tss_phases.proofs.Records.{operand_in}
use Rattle.tss_phases.proofs.OrderlyLemmas.{telling_stands}
use Rattle.tss_names.specs.Tasks.{HasTaskNumbers, spawned_after_event}
use Rattle.tss_names.specs.Stages.{HasStages}
use Rattle.tss_protocol.proofs.FrontLemmas.{KeepsFront}
use Rattle.tss_names.proofs.SpawnLemmas.{SpawnsOne}
use Rattle.tss_names.proofs.TakeLemmas.{TakesTask}
use Rattle.tss_names.proofs.NumberLemmas.{taken_newest, last_taken_before}
use Rattle.tss_names.proofs.BackLemmas.{Standing, standing_by, standing_of, ReadiesOperand, ChangesTask, StartsTask}
use Rattle.tss_names.proofs.BackLemmas.{ExecutesTask, FinishesTask, kept_by_standing}
use Rattle.tss_names.proofs.QueueLemmas.{at_front, in_queue}
use Rattle.tss_names.proofs.StageLemmas.{waiting≢finished, queued≢finished}
use Rattle.tss_control.proofs.holders.Runners.{Runs, runs_went_on, runs_readied, runs_taken, runs_started}
use Rattle.tss_control.proofs.holders.Runners.{runs_executed, runs_finished}
use Rattle.tss_control.proofs.holders.Order.{ready_in}

-- a task that has finished stays so while it is in flight
abbrev pub StayFinished : Numbered Flying → Numbered Flying → Type 0
StayFinished m k =
    (n : ℕ) (x y : Flying) → get m n ≡ Some x → get k n ≡ Some y → x.stage ≡ stage.Finished → y.stage ≡ stage.Finished

-- what is known before the event
pub record IsRunning (F : Numbered Flying) (m : Machine) (ts : List Task) (S : State) : Type 0 where
  pub flight : S.flight ≡ F
  pub numbers : HasTaskNumbers m ts S
  pub stages : HasStages m ts S
  pub orderly : AreOrderly S
  pub runs : Runs (standing_of S)

-- and what is to be known after it
pub record RunsOn (F : Numbered Flying) (m : Machine) (ts : List Task) (T : State) : Type 0 where
  pub runs : Runs (standing_of T)
  pub stay : StayFinished F T.flight

-- ---- finished tasks

stay_same : (m : Numbered Flying) → StayFinished m m
stay_same m n x y a b e = ap (λ (x : Flying). x.stage) (one_value m n y x b a) ∙ e

stay_inserted : (m : Numbered Flying) (n : ℕ) (z : Flying)
    → ((x : Flying) → get m n ≡ Some x → x.stage ≡ stage.Finished → z.stage ≡ stage.Finished)
    → StayFinished m (insert m n z)
stay_inserted m n z here k x y a b e = elim (from_inserted nat_order m n z k y b) [
  | inl is ↦ ap (λ (x : Flying). x.stage) is.1 ∙ here x (ap (get m) (sym is.0) ∙ a) e
  | inr old ↦ stay_same m k x y a old.1 e
]

stay_remaining : (m : Numbered Flying) (n : ℕ) (z : Flying)
    → ((x : Flying) → get m n ≡ Some x → x.stage ≡ stage.Finished → z.stage ≡ stage.Finished)
    → StayFinished m (remaining_tasks m n z)
stay_remaining m n z here =
    elim (is_gone z) as (λ b. StayFinished m (if b then remove m n else insert m n z)) [
      | true ↦ λ k x y a b e. stay_same m k x y a (from_removed nat_order m n k y b).1 e
      | false ↦ stay_inserted m n z here
    ]

-- ---- the front changes

runs_moved : (p q : Standing) → Runs p → q.flight ≡ p.flight → q.queue ≡ p.queue → q.workers ≡ p.workers → Runs q
runs_moved p q h f e w =
    let r = subst Runs (λ i. record p { flight = sym f i; queue = sym e i; workers = sym w i }) h in
    record { queued = r.queued; once = r.once; running = r.running; single = r.single }

module _ (F : Numbered Flying) (m : Machine) (ts : List Task) (S T : State) (h : IsRunning F m ts S) where
  stay_from : StayFinished S.flight T.flight → StayFinished F T.flight
  stay_from = subst (λ f. StayFinished S.flight T.flight → StayFinished f T.flight) h.flight (λ s. s)

  stay_in : (f : Numbered Flying) → T.flight ≡ f → StayFinished S.flight f → StayFinished F T.flight
  stay_in f e s = stay_from (subst (StayFinished S.flight) (sym e) s)

  on_spawned : (us : List Task) (p : SpawnsOne m ts us S T) → RunsOn F m (p.task ∷ ts) T
  on_spawned us p = record {
    runs =
        runs_moved (standing_of S) (standing_of T) h.runs (λ i. (p.back i).flight) (λ i. (p.back i).queue)
        (λ i. (p.back i).workers);
    stay = stay_in S.flight (λ i. (p.back i).flight) (stay_same S.flight);
  }

  on_taken : TakesTask m S T → RunsOn F m ts T
  on_taken p = record {
    runs =
        subst Runs (λ i. standing_by (sym p.front i) (sym p.back i))
        (runs_taken (standing_of S) h.runs p.task None none);
    stay =
        stay_in (insert S.flight p.task.number (entered p.task)) (λ i. (p.back i).flight)
        (stay_inserted S.flight p.task.number (entered p.task) (λ x e. absurd (none-some x (sym none ∙ e))));
  }
    where
      absent : (x : Option Flying) → get S.flight p.task.number ≡ x → get S.flight p.task.number ≡ None
      absent None e = e
      absent (Some x) e =
          let a = last_taken_before m ts S T h.numbers p in
          let b = (taken_newest m ts S T h.numbers p).number in
          let c = (h.numbers.flight p.task.number x e).taken.1 in
          absurd (omega (arith, a, b, c))

      none : get S.flight p.task.number ≡ None
      none = absent (get S.flight p.task.number) refl

  on_changed : (n : ℕ) → KeepsFront S T → ChangesTask S T n → RunsOn F m ts T
  on_changed n k c = record {
    runs =
        subst Runs (λ i. standing_by (sym k.front i) (sym c.back i))
        (runs_went_on (standing_of S) h.runs n c.task c.changed c.there c.stage);
    stay =
        stay_in (remaining_tasks S.flight n c.changed) (λ i. (c.back i).flight)
        (stay_remaining S.flight n c.changed
        (λ x e f. c.stage ∙ ap (λ (x : Flying). x.stage) (one_value S.flight n c.task x c.there e) ∙ f));
  }

  on_started : (w : ℕ) → KeepsFront S T → StartsTask m S T w → RunsOn F m ts T
  on_started w k c =
      let number = (h.numbers.flight c.number c.task c.there).number in
      let front = h.runs.queued c.number (ap (in_queue c.number) c.queue ∙ at_front c.number c.rest) in
      record {
        runs =
            subst Runs (λ i. standing_by (sym k.front i) (sym c.back i))
            (runs_started (standing_of S) h.runs w c.number c.rest c.task c.queue c.idle number);
        stay =
            stay_in (flight_after_start S.flight c.number c.task) (λ i. (c.back i).flight)
            (stay_inserted S.flight c.number (record c.task { stage = stage.Running })
            (λ x e f. absurd (queued≢finished
            (sym front.2 ∙ ap (λ (x : Flying). x.stage) (one_value S.flight c.number front.0 x front.1 e) ∙ f))));
      }

  on_executed : (w : ℕ) → KeepsFront S T → ExecutesTask m S T w → RunsOn F m ts T
  on_executed w k c = record {
    runs =
        subst Runs (λ i. standing_by (sym k.front i) (sym c.back i))
        (runs_executed (standing_of S) h.runs w c.busy c.after c.there c.task);
    stay = stay_in S.flight (λ i. (c.back i).flight) (stay_same S.flight);
  }

  stay_finished : (n : ℕ) (x : Option Flying) → StayFinished S.flight (finished_in S.flight n x).part
  stay_finished n None = stay_same S.flight
  stay_finished n (Some x) = stay_remaining S.flight n (record x { stage = stage.Finished }) (λ y e f. refl)

  on_finished : (w : ℕ) → KeepsFront S T → FinishesTask S T w → RunsOn F m ts T
  on_finished w k c =
      let n = c.busy.task.number in
      record {
        runs =
            subst Runs (λ i. standing_by (sym k.front i) (sym c.back i))
            (runs_finished (standing_of S) h.runs w c.busy (get S.flight n) c.there);
        stay =
            stay_in (flight_after_finish S.flight n).part (λ i. (c.back i).flight) (stay_finished n (get S.flight n));
      }

  on_same : standing_of T ≡ standing_of S → RunsOn F m ts T
  on_same same = record {
    runs = subst Runs (sym same) h.runs;
    stay = stay_in S.flight (λ i. (same i).flight) (stay_same S.flight);
  }

  -- ---- ready

  module _ (o : OpName) (c : ReadiesOperand S T o) where
    incomplete : is_complete c.task ≡ false
    incomplete = by (is_complete c.task) refl
      where
        by : (b : Bool) → is_complete c.task ≡ b → is_complete c.task ≡ false
        by false e = e
        by true e =
            let r = (telling_stands (look_ups S o) c.source (h.orderly o) c.sent).1.0 in
            let is = same_Some c.operand r.kept
            (sym (operand_in S.flight o c.task c.there ∙ c.place) ∙ r.there) in
            let ready = ready_in c.task.operands o.place c.operand e c.place in
            absurd (true≢false (sym ready ∙ ap is_ready is ∙ ap is_some r.told))

    -- its task waits
    pub waits : c.task.stage ≡ stage.Waiting
    waits = (h.stages.waiting o.task c.task c.there).1 incomplete

    on_readied : KeepsFront S T → RunsOn F m ts T
    on_readied k =
        let y = task_after_ready c.task o.place c.operand c.source in
        record {
          runs =
              subst Runs (λ i. standing_by (sym k.front i) (sym c.back i))
              (runs_readied (standing_of S) h.runs o.task y (c.task, c.there, waits) (is_complete y));
          stay =
              stay_in (insert S.flight o.task (awaited y)) (λ i. (c.back i).flight)
              (stay_inserted S.flight o.task (awaited y)
              (λ x e f. absurd (waiting≢finished (sym waits
              ∙ ap (λ (x : Flying). x.stage) (one_value S.flight o.task c.task x c.there e) ∙ f))));
        }

-- every event
pub runs_on : (F : Numbered Flying) (m : Machine) (ts : List Task) (S : State) (e : Event) → IsRunning F m ts S
    → IsEnabled m S e → RunsOn F m (spawned_after_event m S ts e) (after_event m S e)
runs_on F =
    kept_by_standing (IsRunning F) (RunsOn F)
    (λ m ts us S T h p. on_spawned F m ts S T h us p)
    (λ m ts S T h p. on_taken F m ts S T h p)
    (λ m ts S T o h k c. on_readied F m ts S T h o c k)
    (λ m ts S T n h k c. on_changed F m ts S T h n k c)
    (λ m ts S T w h k c. on_started F m ts S T h w k c)
    (λ m ts S T w h k c. on_executed F m ts S T h w k c)
    (λ m ts S T w h k c. on_finished F m ts S T h w k c)
    (λ m ts S T h same. on_same F m ts S T h same)
