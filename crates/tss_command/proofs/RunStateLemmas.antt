-- What is told of a run is the result of the state that its events leave.
use Rattle.std.proofs.Common.{◌≡◌, inl, inr, ℕ, ◌<◌, List, Option, Some, None, IfOk, Result, Ok, Err, refl, sym, ap, ◌∙◌, subst, false}
use Rattle.tss_base.specs.declared.bounds.TheConstants.{IMAGE_FILE_BYTES}
use Rattle.tss_base.specs.declared.ending.Ending.{Ending}
use Rattle.tss_base.specs.declared.ending.Ending.TheVariants as ending
use Rattle.tss_base.specs.declared.event.Event.{Event}
use Rattle.tss_base.specs.Image.{ImageState, IsAccepted}
use Rattle.tss_elf.specs.Elf.{Verdict, Refused, Accepted, IfAccepted, image_of}
use Rattle.tss_elf.proofs.Verdicts.{image_is_accepted}
use Rattle.tss_machine.specs.SelfMachine.{self_machine}
use Rattle.tss_model.specs.InOrder.{in_order}
use Rattle.tss_model.specs.Memory.{Memory, loaded}
use Rattle.tss_outside.specs.Outside.{AppendsWhereTold}
use Rattle.tss_program_order.specs.Refinement.{is_task_trap, reference_result}
use Rattle.tss_protocol.specs.Counts.{peaks_of, sizes_of}
use Rattle.tss_protocol.specs.Schedule.{LogFault, judged}
use Rattle.tss_protocol.specs.State.{initial_state}
use Rattle.tss_report.specs.MemoryDigest.{digest_of}
use Rattle.tss_unit_runs.specs.Finished.{IsWholeRun, HasMemory}
use Rattle.tss_unit_runs.specs.Runs.{run_of}
use Rattle.tss_unit_runs.proofs.WholeRuns.{given_whole, seeded_whole}
use Rattle.tss_self.specs.SelfAnswer.{SelfWork, has_products, self_image, self_events, self_run, self_result, self_report, HasWholeRun}
use Rattle.tss_self.proofs.ReportLemmas.{report_is}
use Rattle.tss_command.specs.declared.outcome.Input.TheVariants as input
use Rattle.tss_command.specs.declared.outcome.Program.{Program}
use Rattle.tss_command.specs.declared.outcome.Refusal.{Refusal}
use Rattle.tss_command.specs.declared.outcome.Refusal.TheVariants as refusal
use Rattle.tss_command.specs.declared.outcome.Report.TheVariants as report
use Rattle.tss_command.specs.Answer.{report_status, status_of, finished_text, text_of_report, text_of}
use Rattle.tss_command.specs.Call.{Call, Tells}
use Rattle.tss_command.specs.Outcomes.{FailedToRead, IsDueTo}
use Rattle.tss_command.specs.Reading.{Found, Finds}
use Rattle.tss_command.specs.RunStates.{state_report, workload_report, TellsState, TellsItsState, IsOfItsState}
use Rattle.tss_command.specs.Words.{Command, Names, RunSeeded, RunLogged, RunGiven, StateGiven, InOrder, Workload, Migrate, command_of}
use Rattle.tss_command.specs.Work.{Deed, Outcome, image_answer, accepted_image, program_of, machine_reading, image_reading, image_under, program_reading, schedule_reading, drawn, seeded_found, logged_found, given_deed, given_answer, given_found, given_under, work_of, IsSoundReport}
use Rattle.tss_command.proofs.CallLemmas.{if_told, eight_above, not_below, refusal_above}
use Rattle.tss_command.proofs.ReadingLemmas.{parts_found, file_found}
use Rattle.tss_command.proofs.ReportLemmas.{same_report}

ok_err : {T : Type 0} {x : T} {e : Refusal} → ◌≡◌ {A = Result T Refusal} (Ok x) (Err e) → ⊥
ok_err e = cc

ok_same : {T : Type 0} {x y : T} → ◌≡◌ {A = Result T Refusal} (Ok x) (Ok y) → x ≡ y
ok_same e = cc

-- ---- a program that was found

image_by : (v : Verdict) (i : ImageState) → image_answer v ≡ Ok i → IfAccepted v IsAccepted → IsAccepted i
image_by (Accepted j) i e fit = subst IsAccepted (ok_same e) fit
image_by (Refused n) i e fit = absurd (ok_err (sym e))

image_fits : (bytes : List ℕ) (i : ImageState) → accepted_image bytes ≡ Ok i → IsAccepted i
unfolding accepted_image
image_fits bytes i e = image_by (image_of bytes) i e (image_is_accepted bytes)

-- its image is accepted
found_image : (c : Call) (names : Names) (p : Program)
    → Finds c.before.files.held (FailedToRead c.before.files c.after.files) (program_reading names) (Ok p) → IsAccepted p.image
found_image c names p finds =
    let told = c.before.files.held in
    let failed = FailedToRead c.before.files c.after.files in
    let m = parts_found told failed (image_under names.image) (machine_reading names.machine) p finds in
    let i = parts_found told failed (λ i. Found (Ok (program_of m.0 i))) (image_reading names.image) p m.2 in
    let image = file_found input.Image names.image IMAGE_FILE_BYTES accepted_image told failed i.0 i.1 in
    subst (λ (q : Program). IsAccepted q.image) (sym (ok_same i.2)) (image_fits image.0 i.0 image.1)

-- ---- what is told of it

-- memory that is told is program order's
has_memory : (e : Ending) (memory home : Memory) → (is_task_trap e ≡ false → home ≡ memory) → HasMemory e memory home
has_memory (ending.Exit s) memory home same = same refl
has_memory (ending.MainTrap t) memory home same = same refl
has_memory (ending.TaskTrap n t) memory home same = tt
has_memory (ending.Refused n pc) memory home same = same refl

module _ (c : Call) where
  -- by the report of a run
  tells_run : (p : Program) (es : List Event) → IsWholeRun p.machine p.image es
      → c.status ≡ report_status (report.Ran (run_of p.machine p.image es))
      → AppendsWhereTold c.before.sink.written c.after.sink.written (finished_text (run_of p.machine p.image es))
      → TellsState c p.machine p.image es (state_report p es)
  tells_run p es w status told =
      let r = in_order p.image p.machine.limits in
      record {
        state = w.state;
        result = reference_result r;
        run = w.run;
        ends = w.in_order.result;
        status = status;
        told = subst (AppendsWhereTold c.before.sink.written c.after.sink.written)
            (sym (same_report r r.ending r.tasks r.output w.state.home (loaded p.image)
            (Some (peaks_of p.machine (initial_state p.image) es)) (sizes_of p.machine) refl refl refl
            (has_memory r.ending r.memory w.state.home w.in_order.memory)))
            told;
      }

  -- by that of the workload
  tells_workload : (w : SelfWork) → HasWholeRun w → c.status ≡ report_status (report.Workload w)
      → AppendsWhereTold c.before.sink.written c.after.sink.written (self_report w)
      → TellsState c self_machine (self_image w.form w.n) (self_events w) (workload_report w)
  unfolding self_run self_result
  tells_workload w whole status told =
      let r = in_order (self_image w.form w.n) self_machine.limits in
      let run = run_of self_machine (self_image w.form w.n) (self_events w) in
      record {
        state = whole.state;
        result = reference_result r;
        run = whole.run;
        ends = whole.in_order.result;
        status = status;
        told = subst (AppendsWhereTold c.before.sink.written c.after.sink.written)
            (sym (report_is run w (has_products w.form) r.ending r.tasks r.output (digest_of whole.state.home) whole.state.home
            run.peaks self_machine refl refl refl refl refl refl
            (has_memory r.ending r.memory whole.state.home whole.in_order.memory) refl refl))
            told;
      }

  -- ---- by each command

  module _ (d : Deed) (status : c.status ≡ report_status d.report)
      (told : AppendsWhereTold c.before.sink.written c.after.sink.written (text_of_report d.report)) where
    tells_deed : (p : Program) (es : List Event) → IsWholeRun p.machine p.image es
        → d.report ≡ report.Ran (run_of p.machine p.image es) → TellsState c p.machine p.image es (state_report p es)
    tells_deed p es w is =
        tells_run p es w (status ∙ ap report_status is)
        (subst (λ r. AppendsWhereTold c.before.sink.written c.after.sink.written (text_of_report r)) is told)

  given_is : (p : Program) (es : List Event) (d : Deed) (fault : Option LogFault) → Ok d ≡ given_answer p es fault
      → (fault ≡ None) × (d ≡ given_deed p es)
  given_is p es d None e = (refl, ok_same e)
  given_is p es d (Some f) e = absurd (ok_err e)

  tells_command : (k : Command) (d : Deed)
      → Finds c.before.files.held (FailedToRead c.before.files c.after.files) (work_of k) (Ok d)
      → IsSoundReport d.report → c.status ≡ report_status d.report
      → AppendsWhereTold c.before.sink.written c.after.sink.written (text_of_report d.report) → TellsItsState c k
  tells_command (RunSeeded names seed) d finds sound status told =
      let held = c.before.files.held in
      let failed = FailedToRead c.before.files c.after.files in
      let q = parts_found held failed (seeded_found seed) (program_reading names) d finds in
      let p = q.0 in
      let is = ap (λ (d : Deed). d.report) (ok_same q.2) in (
        p,
        (
          inr q.1,
          tells_deed d status told p (drawn p seed)
              (seeded_whole p.machine p.image (found_image c names p q.1) (subst IsSoundReport is sound) seed) is,
        ),
      )
  tells_command (RunLogged names seed log) d finds sound status told =
      let held = c.before.files.held in
      let failed = FailedToRead c.before.files c.after.files in
      let q = parts_found held failed (logged_found seed log) (program_reading names) d finds in
      let p = q.0 in
      let is = ap (λ (d : Deed). d.report) (ok_same q.2) in (
        p,
        (
          inr q.1,
          tells_deed d status told p (drawn p seed)
              (seeded_whole p.machine p.image (found_image c names p q.1) (subst IsSoundReport is sound) seed) is,
        ),
      )
  tells_command (RunGiven names schedule) d finds sound status told =
      let held = c.before.files.held in
      let failed = FailedToRead c.before.files c.after.files in
      let q = parts_found held failed (given_under schedule) (program_reading names) d finds in
      let p = q.0 in
      let s = parts_found held failed (given_found p) (schedule_reading schedule) d q.2 in
      let es = (judged p.machine p.image s.0).events in
      let given = given_is p es d (judged p.machine p.image s.0).fault s.2 in
      let is = ap (λ (d : Deed). d.report) given.1 in (
        p,
        s.0,
        inr s.1,
        (
          inr q.1,
          tells_deed d status told p es
              (given_whole p.machine p.image (found_image c names p q.1) (subst IsSoundReport is sound) s.0 given.0) is,
        ),
      )
  tells_command (Workload w) d finds sound status told =
      let is = ap (λ (d : Deed). d.report) (ok_same finds) in
      tells_workload w (subst IsSoundReport is sound) (status ∙ ap report_status is)
      (subst (λ r. AppendsWhereTold c.before.sink.written c.after.sink.written (text_of_report r)) is told)
  tells_command (StateGiven names schedule) d finds sound status told = tt
  tells_command (InOrder names) d finds sound status told = tt
  tells_command (Migrate names) d finds sound status told = tt

  -- ---- the call

  module _ (o : Outcome) (sound : IfOk o IsSoundReport) (low : c.status < 3) where
    tells_due : (k : Command) → IsDueTo (Some k) c.before.files c.after.files o → c.status ≡ status_of o
        → AppendsWhereTold c.before.sink.written c.after.sink.written (text_of o) → TellsItsState c k
    tells_due k (inl (e, same, comes, kept)) status told =
        absurd (not_below c.status _ (status ∙ ap status_of same) (refusal_above e) low)
    tells_due k (inr (d, inl ran_out, done)) status told = absurd (ok_err ran_out)
    tells_due k (inr (d, inr finds, inl done)) status told =
        tells_command k d finds (subst (λ o. IfOk o IsSoundReport) done.0 sound) (status ∙ ap status_of done.0)
        (subst (λ o. AppendsWhereTold c.before.sink.written c.after.sink.written (text_of o)) done.0 told)
    tells_due k (inr (d, inr finds, inr fault)) status told =
        absurd (not_below c.status _ (status ∙ ap status_of fault.0) (refusal_above refusal.WriteLog) low)

pub is_of_its_state : (c : Call) (o : Outcome) → IfOk o IsSoundReport
    → IsDueTo (command_of c.words) c.before.files c.after.files o → Tells c.before.sink c.after.sink c.status o → IsOfItsState c
is_of_its_state c o sound due tells = if_told (command_of c.words) _ (λ k is low. elim tells [
  | inl whole ↦ tells_due c o sound low k (subst (λ k. IsDueTo k c.before.files c.after.files o) is due) whole.0 whole.1
  | inr part ↦ absurd (eight_above c.status part.0 low)
])
