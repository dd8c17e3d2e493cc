-- Every event leaves each busy worker with what it was told, and where program order has its task.
use Rattle.std.proofs.Common.{◌≡◌, ℕ, Option, Some, None, refl, sym, ap, ◌∙◌}
use Rattle.std.specs.FinMap.{get}
use Rattle.tss_base.specs.declared.machine.Machine.{Machine}
use Rattle.tss_base.specs.declared.event.Event.{Event}
use Rattle.tss_base.specs.declared.event.Event.TheVariants as event
use Rattle.tss_base.specs.Image.{ImageState, IsAccepted}
use Rattle.tss_base.specs.Names.{Numbered}
use Rattle.tss_maps.proofs.Keys.{nat_order}
use Rattle.tss_maps.proofs.Changes.{from_removed}
use Rattle.tss_protocol.specs.State.{State, Busy}
use Rattle.tss_protocol.specs.UnitMachine.{IsEnabled, after_event, after_finish}
use Rattle.tss_locality.proofs.LeftFields.{Leaves-after_event}
use Rattle.tss_names.proofs.BackLemmas.{standing_of}
use Rattle.tss_values.proofs.storages.FixedBytes.{HasFixed}
use Rattle.tss_values.proofs.stored.Settled.{FindsLeft}
use Rattle.tss_values.proofs.Values.{HasWorkers, HasValues}
use Rattle.tss_values.proofs.workers.Told.{AreTold, told_after_event}
use Rattle.tss_values.proofs.workers.Runs.{SameFixed, AllRun, runs_same}
use Rattle.tss_values.proofs.workers.Kept.{runs_exec}
use Rattle.tss_values.proofs.workers.Beside.{runs_main, runs_copy, runs_gone}
use Rattle.tss_values.proofs.workers.Start.{runs_start}
use Rattle.tss_values.proofs.WorkerFacts.{WorkerFacts}

module _ (m : Machine) (i : ImageState) (S : State) (work : WorkerFacts m i S) (accepted : IsAccepted i)
    (fixed : HasFixed i S) (same : (e : Event) → SameFixed i S (after_event m S e)) (finds : FindsLeft m i work.ts S)
    (values : HasValues m i work.all work.ts S) where
  open work use {facts, workers}

  -- the stores are the same, and no worker begins
  runs_still : (T : State) → T.home ≡ S.home → T.contents ≡ S.contents → T.workers ≡ S.workers → AllRun m i T
  runs_still T home contents same =
      runs_same m i S work T home contents
      (λ w b there. ap (λ (ws : Numbered Busy). get ws w) (sym same) ∙ there)

  finish_by : (w : ℕ) (b : Option Busy) → AllRun m i (after_finish S w b)
  finish_by w None = runs_still S refl refl refl
  finish_by w (Some b) =
      runs_same m i S work (after_finish S w (Some b)) refl refl
      (λ u c there. (from_removed nat_order S.workers w u c there).1)

  runs_finish : (w : ℕ) → AllRun m i (after_event m S (event.Finish w))
  unfolding after_event
  runs_finish w = finish_by w (get S.workers w)

  runs_event : (e : Event) → AllRun m i (after_event m S e)
  runs_event event.Main =
      runs_main m i S work (same event.Main)
  runs_event (event.Start w) =
      runs_start m i S work accepted fixed values.stored values.room
      finds values.main w (same (event.Start w))
  runs_event (event.Exec w) =
      runs_exec m i S work w (same (event.Exec w))
  runs_event (event.Finish w) = runs_finish w
  runs_event (event.Copy b) =
      runs_copy m i S work values.returns b (same (event.Copy b))
  runs_event (event.Gone v) = runs_gone m i S work v
  runs_event e =
      runs_still (after_event m S e) (λ j. (Leaves-after_event m S e j).home)
      (λ j. (Leaves-after_event m S e j).contents) (λ j. (Leaves-after_event m S e j).workers)

  -- what they were told
  told_before : AreTold (standing_of S)
  told_before w b there =
      let t = workers.told w b there in
      record { flying = t.0; there = t.1; task = t.2; storages = t.3 }

  -- each event keeps it
  pub HasWorkers-after_event : (e : Event) → IsEnabled m S e → HasWorkers m i (after_event m S e)
  HasWorkers-after_event e on = record {
    told = λ w b there.
        let t = told_after_event m S facts e on told_before w b there in
        (t.flying, t.there, t.task, t.storages);
    runs = λ w b s there starts. runs_event e w b there s starts;
  }
