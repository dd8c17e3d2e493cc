-- What is brought home after a worker's start, and after a stretch.
use Rattle.std.proofs.Common.{◌≡◌, ℕ, Option, Some, inl, inr, refl, sym, ap, ◌∙◌}
use Rattle.std.specs.Prelude.{unwrap_or}
use Rattle.std.specs.FinMap.{get}
use Rattle.tss_base.specs.declared.machine.Machine.{Machine}
use Rattle.tss_base.specs.declared.event.Event.TheVariants as event
use Rattle.tss_base.specs.Image.{ImageState}
use Rattle.tss_base.specs.Names.{Named, Numbered}
use Rattle.tss_protocol.specs.Mail.{GoneContents}
use Rattle.tss_protocol.specs.State.{State, CopyState}
use Rattle.tss_protocol.specs.UnitMachine.{after_event, stores_of}
use Rattle.tss_control.proofs.rounds.EntriesFrames.{SameObjects}
use Rattle.tss_control.proofs.rounds.EntriesQuiet.{quiet_objects}
use Rattle.tss_values.proofs.Values.{HasReturns}
use Rattle.tss_values.proofs.returns.Copy.{copy_object, gone_object}
use Rattle.tss_values.proofs.returns.Returns.{KeepsReturns, returns_kept}
use Rattle.tss_values.proofs.workers.Unseen.{LeavesAway, away_start, away_exec}
use Rattle.tss_control.proofs.rounds.Facts.{Basis}
use Rattle.tss_values.proofs.WorkerFacts.{WorkerFacts}

module _ (m : Machine) (S : State) (basis : Basis m S) where
  open basis use {ts}

  -- where the stores leave what is away from workers, what is brought home is left
  returns_away : (T : State) → SameObjects S T → LeavesAway ts S (stores_of T) → KeepsReturns S T
  returns_away T same away = record {
    copies = λ bank c at.
        let old : get S.copies bank ≡ Some c = ap (λ (x : Numbered CopyState). get x bank) (sym same.copies) ∙ at in (
          old,
          away.copies bank c old,
          λ a inside.
              ap (λ (o : Option ℕ). unwrap_or o 0)
              (away.going c.object c.version (copy_object m S basis bank c old)
              (inl (bank, c, old, refl, refl)) a
              inside),
        );
    gones = λ v g at last.
        let old : get S.mail.gones v ≡ Some g = ap (λ (x : Named GoneContents). get x v) (sym same.gones) ∙ at in (
          old,
          λ a inside.
              ap (λ (o : Option ℕ). unwrap_or o 0)
              (away.going g.object v (gone_object m S basis v g old) (inr (g, old, last, refl)) a inside),
        );
  }

module _ (m : Machine) (i : ImageState) (S : State) (work : WorkerFacts m i S) (h : HasReturns m i work.ts S) where
  open work use {basis, ts}

  -- after a start
  pub HasReturns-start : (w : ℕ) → HasReturns m i ts (after_event m S (event.Start w))
  HasReturns-start w =
      let T = after_event m S (event.Start w) in
      returns_kept m i ts S T
      (returns_away m S basis T (quiet_objects m S (event.Start w) tt)
      (away_start m i S work w)) h

  -- and after a stretch
  pub HasReturns-exec : (w : ℕ) → HasReturns m i ts (after_event m S (event.Exec w))
  HasReturns-exec w =
      let T = after_event m S (event.Exec w) in
      returns_kept m i ts S T
      (returns_away m S basis T (quiet_objects m S (event.Exec w) tt)
      (away_exec m i S work w)) h
