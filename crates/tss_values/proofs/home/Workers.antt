-- What stands at home after a worker's start, and after a stretch.
use Rattle.std.proofs.Common.{◌≡◌, ℕ, false, refl, sym, ap, ◌∙◌}
use Rattle.std.specs.FinMap.{get}
use Rattle.tss_base.specs.declared.machine.Machine.{Machine}
use Rattle.tss_base.specs.declared.event.Event.{Event}
use Rattle.tss_base.specs.declared.event.Event.TheVariants as event
use Rattle.tss_base.specs.Image.{ImageState}
use Rattle.tss_base.specs.Names.{Named, Numbered}
use Rattle.tss_protocol.specs.Mail.{OpenContents}
use Rattle.tss_protocol.specs.State.{State, Entry}
use Rattle.tss_protocol.specs.UnitMachine.{IsEnabled, after_event, stores_of}
use Rattle.tss_locality.proofs.LeftFields.{Leaves-after_event}
use Rattle.tss_control.proofs.rounds.EntriesFrames.{SameObjects}
use Rattle.tss_control.proofs.rounds.EntriesQuiet.{quiet_objects}
use Rattle.tss_protocol.proofs.FrontLemmas.{is_of_front}
use Rattle.tss_control.proofs.holders.KeepsOrder.{AreOrderly-controlled}
use Rattle.tss_values.proofs.Values.{HasHome}
use Rattle.tss_values.proofs.home.Beside.{home_left}
use Rattle.tss_values.proofs.home.Kept.{decoded_kept, later_unclaimed}
use Rattle.tss_values.proofs.workers.Unseen.{LeavesAway, away_start, away_exec}
use Rattle.tss_values.proofs.WorkerFacts.{WorkerFacts}

module _ (m : Machine) (i : ImageState) (S : State) (work : WorkerFacts m i S) (h : HasHome m i work.ts S) where
  open work use {facts, basis, ts, control}

  -- where the stores leave what is away from workers, so is what stands at home
  home_away : (e : Event) → IsEnabled m S e → is_of_front e ≡ false → (after_event m S e).main ≡ S.main
      → (after_event m S e).entries ≡ S.entries → SameObjects S (after_event m S e)
      → LeavesAway ts S (stores_of (after_event m S e)) → HasHome m i ts (after_event m S e)
  home_away e on later main entries same away =
      home_left m i S (after_event m S e) basis control.orderly (record {
        main = main;
        entries = λ b none. ap (λ (x : Numbered Entry). get x b) (sym entries) ∙ none;
        unclaimed =
            later_unclaimed m S e later
            (λ b y at. (y, ap (λ (x : Numbered Entry). get x b) entries ∙ at, refl));
        opens = λ o c at. ap (λ (x : Named OpenContents). get x o) (sym same.opens) ∙ at;
        decoded = λ o p at.
            decoded_kept m S e later control.orderly (AreOrderly-controlled m S facts e on) o;
        loose = away.loose;
        opening = away.opening;
      }) h

  -- after a start
  pub HasHome-start : (w : ℕ) → IsEnabled m S (event.Start w) → HasHome m i ts (after_event m S (event.Start w))
  HasHome-start w on =
      let e = event.Start w in
      home_away e on refl (λ j. (Leaves-after_event m S e j).main) (λ j. (Leaves-after_event m S e j).entries)
      (quiet_objects m S e tt) (away_start m i S work w)

  -- and after a stretch
  pub HasHome-exec : (w : ℕ) → IsEnabled m S (event.Exec w) → HasHome m i ts (after_event m S (event.Exec w))
  HasHome-exec w on =
      let e = event.Exec w in
      home_away e on refl (λ j. (Leaves-after_event m S e j).main) (λ j. (Leaves-after_event m S e j).entries)
      (quiet_objects m S e tt) (away_exec m i S work w)
