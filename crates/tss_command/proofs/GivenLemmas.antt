-- A program is read, and then a schedule for it: what comes of it, over files at three moments one after another.
use Rattle.std.proofs.Common.{◌≡◌, inr, List, ℕ, None, Result, Ok, Err, sym, subst}
use Rattle.tss_command.specs.declared.outcome.Program.{Program}
use Rattle.tss_command.specs.declared.outcome.Refusal.{Refusal}
use Rattle.tss_command.specs.Outcomes.{FilesSeen, FailedToRead, OnlyReads, AppendsAll, IsOutcomeOf}
use Rattle.tss_command.specs.Reading.{Reading, with_found, Finds, ComesTo}
use Rattle.tss_command.specs.Words.{Names}
use Rattle.tss_command.specs.Work.{Deed, Outcome, program_reading, schedule_reading}
use Rattle.tss_command.proofs.ReadingLemmas.{stops_with, goes_on}
use Rattle.tss_command.proofs.OutcomeLemmas.{read_before, read_after, only_reads_then, refused, does}

-- the reading of both, and what is then found
abbrev pub given_reading : Names → List ℕ → (Program → List ℕ → Reading Deed) → Reading Deed
given_reading names name found = with_found (λ p. with_found (found p) (schedule_reading name)) (program_reading names)

module _ (b m a : FilesSeen) (names : Names) (name : List ℕ) (found : Program → List ℕ → Reading Deed) (p : Program)
    (program : ComesTo b.held (FailedToRead b m) (program_reading names) (Ok p)) (first : OnlyReads b m) (then : OnlyReads m a) where
  by_program : (r : Result Deed Refusal)
      → ComesTo b.held (FailedToRead b a) (with_found (found p) (schedule_reading name)) r
      → ComesTo b.held (FailedToRead b a) (given_reading names name found) r
  by_program r rest =
      goes_on b.held (FailedToRead b a) (λ p. with_found (found p) (schedule_reading name)) (program_reading names) p r
      (read_before b m a (program_reading names) (Ok p) then.read_faults program) rest

  -- no schedule was found
  pub unscheduled : (o : Outcome) (e : Refusal) → o ≡ Err e
      → ComesTo m.held (FailedToRead m a) (schedule_reading name) (Err e)
      → IsOutcomeOf b a (given_reading names name found) o
  unscheduled o e is comes =
      refused b a (given_reading names name found) o e is
      (by_program (Err e) (stops_with b.held (FailedToRead b a) (found p) (schedule_reading name) e
      (read_after b m a (schedule_reading name) (Err e) first comes)))
      (only_reads_then b m a first then)

  -- one was, in these bytes
  module _ (slice bytes : List ℕ) (same : slice ≡ bytes)
      (read : ComesTo m.held (FailedToRead m a) (schedule_reading name) (Ok bytes)) where
    by_schedule : (r : Result Deed Refusal) → Finds b.held (FailedToRead b a) (found p slice) r
        → ComesTo b.held (FailedToRead b a) (given_reading names name found) r
    by_schedule r finds =
        by_program r (goes_on b.held (FailedToRead b a) (found p) (schedule_reading name) bytes r
        (read_after b m a (schedule_reading name) (Ok bytes) first read)
        (inr (subst (λ given. Finds b.held (FailedToRead b a) (found p given) r) same finds)))

    -- it is refused
    pub unfollowed : (o : Outcome) (e : Refusal) → o ≡ Err e → Finds b.held (FailedToRead b a) (found p slice) (Err e)
        → IsOutcomeOf b a (given_reading names name found) o
    unfollowed o e is finds =
        refused b a (given_reading names name found) o e is (by_schedule (Err e) finds) (only_reads_then b m a first then)

    -- it was followed, and nothing is appended
    pub followed : (o : Outcome) (d : Deed) → d.appended ≡ None → Finds b.held (FailedToRead b a) (found p slice) (Ok d)
        → o ≡ Ok d.report → IsOutcomeOf b a (given_reading names name found) o
    followed o d nothing finds is =
        does b a (given_reading names name found) d o (by_schedule (Ok d) finds) is
        (subst (AppendsAll b a) (sym nothing) (only_reads_then b m a first then).held)
