-- From an outcome that is due, and its text written or cut short, to what is claimed of a call.
use Rattle.std.proofs.Common.{◌≡◌, ◌≢◌, ◌⊎◌, inl, inr, ℕ, ◌<◌, ◌≤◌, [], Option, Some, None, IfSome, IfOk, unwrap_or, All, Result, Ok, Err, refl, sym, ap, ◌∙◌, subst, arith}
use Rattle.std.proofs.lemmas.List.{append-nil}
use Rattle.tss_base.specs.declared.ending.Ending.{Ending}
use Rattle.tss_base.specs.declared.ending.Ending.TheVariants as ending
use Rattle.tss_model.specs.InOrder.{in_order}
use Rattle.tss_self.specs.SelfAnswer.{self_result}
use Rattle.tss_outside.specs.Outside.{Held, AppendsTo}
use Rattle.tss_command.specs.declared.outcome.Refusal.{Refusal}
use Rattle.tss_command.specs.declared.outcome.Refusal.TheVariants as refusal
use Rattle.tss_command.specs.declared.outcome.Report.{Report}
use Rattle.tss_command.specs.declared.outcome.Report.TheVariants as report
use Rattle.tss_command.specs.Words.{Command, command_of}
use Rattle.tss_command.specs.Reading.{Reading, found_on, names_read, ComesTo}
use Rattle.tss_command.specs.Work.{Addition, Deed, Outcome, work_of, outcome_of, appended_by}
use Rattle.tss_command.specs.Answer.{ending_status, report_status, refusal_status, status_of}
use Rattle.tss_command.specs.Outcomes.{FilesSeen, FailedToRead, FailedToAdd, KeepsFiles, AppendsAll, AppendsPart, AppendsPartTo, IsDueTo}
use Rattle.tss_command.specs.Call.{Call, Tells, found_by, expected_by, AppendsFirst, IsComplete, AppendsExpected, AppendsPartly, ChangesNoFile, IsAnswered, TellsAll}
use Rattle.tss_command.proofs.ReadingLemmas.{follows, is_found}

some_same : {X : Type 0} {x y : X} → Some x ≡ Some y → x ≡ y
some_same e = cc

-- where something is told
pub if_told : {X : Type 0} (x : Option X) (P : X → Type 0) → ((h : X) → x ≡ Some h → P h) → IfSome x P
if_told None P f = tt
if_told (Some h) P f = f h refl

-- where an outcome is a report
if_report : (o : Outcome) (P : Type 0) → ((r : Report) → o ≡ Ok r → P) → IfOk o (λ r. P)
if_report (Ok r) P f = f r refl
if_report (Err e) P f = tt

-- ---- statuses

ending_below : (e : Ending) → ending_status e < 3
ending_below (ending.Exit s) = omega arith
ending_below (ending.MainTrap t) = omega arith
ending_below (ending.TaskTrap n t) = omega arith
ending_below (ending.Refused n pc) = omega arith

-- a report's status is below those of refusals
report_below : (r : Report) → report_status r < 3
report_below (report.Ran run) = ending_below (in_order run.image run.machine.limits).ending
report_below (report.Stopped s) = omega arith
report_below (report.Workload w) = ending_below (self_result w).ending
report_below (report.InOrder run) = ending_below run.reference.ending
report_below (report.Migrated lines) = omega arith

pub refusal_above : (e : Refusal) → 3 ≤ refusal_status e
refusal_above refusal.Usage = omega arith
refusal_above (refusal.ReadFault which) = omega arith
refusal_above (refusal.TooLong which) = omega arith
refusal_above (refusal.Machine bad) = omega arith
refusal_above (refusal.Image n) = omega arith
refusal_above (refusal.Schedule fault) = omega arith
refusal_above refusal.WriteLog = omega arith
refusal_above refusal.NoMemory = omega arith

pub not_below : (s t : ℕ) → s ≡ t → 3 ≤ t → s < 3 → ⊥
not_below s t e h k = omega (arith, e)

not_above : (s t : ℕ) → s ≡ t → t < 3 → 3 ≤ s → ⊥
not_above s t e h k = omega (arith, e)

pub eight_above : (s : ℕ) → s ≡ 8 → s < 3 → ⊥
eight_above s e h = omega (arith, e)

-- ---- what is appended

-- all of it is a part of it
whole_part : (b a : FilesSeen) (x : Option Addition) → AppendsAll b a x → AppendsPart b a x
whole_part b a None all = all
whole_part b a (Some x) all = part a.held all
  where
    part : (after : Option Held) → AppendsTo b.held after x.name x.bytes → AppendsPartTo b.held after x.name x.bytes
    part None h = tt
    part (Some held) h = (h.0, h.1, (x.bytes, ([], sym (append-nil x.bytes)), ap (λ o. unwrap_or o []) h.2), h.3)

-- and so is nothing
none_part : (b a : FilesSeen) (x : Option Addition) → KeepsFiles b a → AppendsPart b a x
none_part b a None kept = kept
none_part b a (Some x) kept = if_told a.held _ (λ h is. (h, sym kept ∙ is, ([], (x.bytes, refl), sym (append-nil (unwrap_or (h x.name) []))), λ n apart. refl))

-- what a deed appends is what is expected over what is held
module _ (b a : FilesSeen) (held : Held) (is : b.held ≡ Some held) where
  found_deed : (w : Reading Deed) (d : Deed) → ComesTo b.held (FailedToRead b a) w (Ok d) → found_on held w ≡ Some (Ok d)
  found_deed w d comes = is_found held (FailedToRead b a) w d (subst (λ told. ComesTo told (FailedToRead b a) w (Ok d)) is comes)

  expected : (k : Command) (d : Deed) → ComesTo b.held (FailedToRead b a) (work_of k) (Ok d) → d.appended ≡ expected_by (found_by held (Some k))
  expected k d comes = ap expected_by (sym (found_deed (work_of k) d comes))

  -- with the status of a report
  all_appended : (k : Option Command) (o : Outcome) → IsDueTo k b a o → status_of o < 3 → AppendsAll b a (expected_by (found_by held k))
  all_appended None o due low = due.1
  all_appended (Some k) o (inl none) low = absurd (not_below _ _ (ap status_of none.1) (refusal_above none.0) low)
  all_appended (Some k) o (inr (d, comes, inl done)) low = subst (AppendsAll b a) (expected k d comes) done.1
  all_appended (Some k) o (inr (d, comes, inr fault)) low = absurd (not_below _ _ (ap status_of fault.0) (refusal_above refusal.WriteLog) low)

  -- with any status
  part_appended : (k : Option Command) (o : Outcome) → IsDueTo k b a o → AppendsPart b a (expected_by (found_by held k))
  part_appended None o due = due.1
  part_appended (Some k) o (inl none) = none_part b a _ none.3
  part_appended (Some k) o (inr (d, comes, inl done)) = subst (AppendsPart b a) (expected k d comes) (whole_part b a d.appended done.1)
  part_appended (Some k) o (inr (d, comes, inr fault)) = subst (AppendsPart b a) (expected k d comes) fault.2

-- with the status of a refusal, but for that of a failed write
none_appended : (b a : FilesSeen) (k : Option Command) (o : Outcome) → IsDueTo k b a o → 3 ≤ status_of o → status_of o ≢ 8 → KeepsFiles b a
none_appended b a None o due high other = due.1
none_appended b a (Some k) o (inl none) high other = none.3
none_appended b a (Some k) o (inr (d, comes, inl done)) high other = absurd (not_above _ _ (ap status_of done.0) (report_below d.report) high)
none_appended b a (Some k) o (inr (d, comes, inr fault)) high other = absurd (other (ap status_of fault.0))

-- ---- completeness

-- with no fault the outcome is that of what is found in what is held, or memory ran out
module _ (b a : FilesSeen) (held : Held) (is : b.held ≡ Some held) (k : Command) (found : Result Deed Refusal) (there : found_on held (work_of k) ≡ Some found)
    (reads : All (λ n. FailedToRead b a n → ⊥) (names_read held (work_of k))) (append : FailedToAdd b a (appended_by found) → ⊥) where
  complete_refused : (o : Outcome) (e : Refusal) → o ≡ Err e → ComesTo (Some held) (FailedToRead b a) (work_of k) (Err e) → (o ≡ outcome_of found) ⊎ (o ≡ Err refusal.NoMemory)
  complete_refused o e same (inl ran_out) = inr (same ∙ ap outcome_of ran_out)
  complete_refused o e same (inr finds) = inl (same ∙ ap outcome_of (follows held (FailedToRead b a) (work_of k) found there reads (Err e) finds))

  complete_outcome : (o : Outcome) → IsDueTo (Some k) b a o → (o ≡ outcome_of found) ⊎ (o ≡ Err refusal.NoMemory)
  complete_outcome o (inl (e, same, comes, kept)) =
      complete_refused o e same (subst (λ told. ComesTo told (FailedToRead b a) (work_of k) (Err e)) is comes)
  complete_outcome o (inr (d, comes, done)) =
      let found_is = some_same (sym (found_deed b a held is (work_of k) d comes) ∙ there) in
      elim done [
        | inl whole ↦ inl (whole.0 ∙ ap outcome_of found_is)
        | inr fault ↦ absurd (append (subst (λ f. FailedToAdd b a (appended_by f)) found_is fault.1))
      ]

-- ---- a call

module _ (c : Call) (o : Outcome) (due : IsDueTo (command_of c.words) c.before.files c.after.files o) (tells : Tells c.before.sink c.after.sink c.status o) where
  -- all is appended before a report is told
  appends_first : AppendsFirst c o
  appends_first = if_report o _ (λ r is. if_told c.before.files.held _ (λ held told.
      all_appended c.before.files c.after.files held told (command_of c.words) o due
      (subst (λ s. s < 3) (sym (ap status_of is)) (report_below r))))

  pub is_answered : IsAnswered c
  is_answered = record { outcome = o; due = due; told = tells; appended_first = appends_first }

  pub is_complete : IsComplete c
  is_complete = if_told c.before.files.held _ (λ held is k found named there none. elim tells [
    | inl whole ↦ elim (complete_outcome c.before.files c.after.files held is k found there none.read none.append o (subst (λ k. IsDueTo k c.before.files c.after.files o) named due)) [
      | inl same ↦ inl (subst (TellsAll c.before.sink c.after.sink c.status) same whole)
      | inr ran_out ↦ inr (whole.0 ∙ ap status_of ran_out)
    ]
    | inr part ↦ absurd (none.write part.1)
  ])

  pub appends_expected : AppendsExpected c
  appends_expected = if_told c.before.files.held _ (λ held is low. elim tells [
    | inl whole ↦ all_appended c.before.files c.after.files held is (command_of c.words) o due (subst (λ s. s < 3) whole.0 low)
    | inr part ↦ absurd (eight_above c.status part.0 low)
  ])

  pub appends_partly : AppendsPartly c
  appends_partly = if_told c.before.files.held _ (λ held is low. part_appended c.before.files c.after.files held is (command_of c.words) o due)

  pub changes_no_file : ChangesNoFile c
  changes_no_file = λ high other. elim tells [
    | inl whole ↦ none_appended c.before.files c.after.files (command_of c.words) o due (subst (λ s. 3 ≤ s) whole.0 high) (λ e. other (whole.0 ∙ e))
    | inr part ↦ absurd (other part.0)
  ]
