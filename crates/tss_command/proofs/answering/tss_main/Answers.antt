-- The outcome is due to the words, and it is told.
use Rattle.tss_command.specs.Call.{called}
use Rattle.tss_command.proofs.CallLemmas.{is_answered, is_complete, appends_expected, appends_partly, changes_no_file}
use Rattle.tss_command.proofs.RunStateLemmas.{is_of_its_state}
use Rattle.tss_command.proofs.answering.tss_main.Goals as goal

pub returns : goal.returns
returns g c =
    let this = called g.F.Files g.K.Sink c.args.words.now c.args.files.now c.args.out.now c.outcome-outcome.new.files c.tell-status.new.out c.tell-status.result in
    let o = c.outcome-outcome.result in
    record {
      answered = is_answered this o c.outcome-outcome.ensures.due c.tell-status.ensures;
      complete = is_complete this o c.outcome-outcome.ensures.due c.tell-status.ensures;
      of_state = is_of_its_state this o c.outcome-outcome.ensures.sound c.outcome-outcome.ensures.due c.tell-status.ensures;
      appended = appends_expected this o c.outcome-outcome.ensures.due c.tell-status.ensures;
      appended_part = appends_partly this o c.outcome-outcome.ensures.due c.tell-status.ensures;
      kept = changes_no_file this o c.outcome-outcome.ensures.due c.tell-status.ensures;
    }
