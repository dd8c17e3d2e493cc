-- The command is that of the words.
use Rattle.tss_command.specs.Outcomes.{files_seen}
use Rattle.tss_command.proofs.OutcomeLemmas.{due_to_words}
use Rattle.tss_command.proofs.answering.outcome.Goals as goal

pub returns-in-Some-InOrder-clause-due : goal.returns-in-Some-InOrder-clause-due
returns-in-Some-InOrder-clause-due g c =
    due_to_words (files_seen g.F.Files c.args.files.now) (files_seen g.F.Files c.report_in_order.new.files) c.report_in_order.result
    c.parse.ensures.exact c.in-Some-InOrder.is c.in-Some-InOrder.field-0-is c.report_in_order.ensures.due

pub returns-in-Some-Migrate-clause-due : goal.returns-in-Some-Migrate-clause-due
returns-in-Some-Migrate-clause-due g c =
    due_to_words (files_seen g.F.Files c.args.files.now) (files_seen g.F.Files c.report_migrated.new.files) c.report_migrated.result
    c.parse.ensures.exact c.in-Some-Migrate.is c.in-Some-Migrate.field-0-is c.report_migrated.ensures.due

pub returns-in-Some-RunSeeded-clause-due : goal.returns-in-Some-RunSeeded-clause-due
returns-in-Some-RunSeeded-clause-due g c =
    due_to_words (files_seen g.F.Files c.args.files.now) (files_seen g.F.Files c.report_seeded.new.files) c.report_seeded.result
    c.parse.ensures.exact c.in-Some-RunSeeded.is c.in-Some-RunSeeded.field-0-is c.report_seeded.ensures.due

pub returns-in-Some-RunLogged-clause-due : goal.returns-in-Some-RunLogged-clause-due
returns-in-Some-RunLogged-clause-due g c =
    due_to_words (files_seen g.F.Files c.args.files.now) (files_seen g.F.Files c.report_logged.new.files) c.report_logged.result
    c.parse.ensures.exact c.in-Some-RunLogged.is c.in-Some-RunLogged.field-0-is c.report_logged.ensures.due

pub returns-in-Some-RunGiven-clause-due : goal.returns-in-Some-RunGiven-clause-due
returns-in-Some-RunGiven-clause-due g c =
    due_to_words (files_seen g.F.Files c.args.files.now) (files_seen g.F.Files c.report_given.new.files) c.report_given.result
    c.parse.ensures.exact c.in-Some-RunGiven.is c.in-Some-RunGiven.field-0-is c.report_given.ensures.due

pub returns-in-Some-StateGiven-clause-due : goal.returns-in-Some-StateGiven-clause-due
returns-in-Some-StateGiven-clause-due g c =
    due_to_words (files_seen g.F.Files c.args.files.now) (files_seen g.F.Files c.report_state.new.files) c.report_state.result
    c.parse.ensures.exact c.in-Some-StateGiven.is c.in-Some-StateGiven.field-0-is c.report_state.ensures.due

pub returns-in-Some-Workload-clause-due : goal.returns-in-Some-Workload-clause-due
returns-in-Some-Workload-clause-due g c =
    let s = files_seen g.F.Files c.args.files.now in
    due_to_words s s c.report_workload.result c.parse.ensures.exact c.in-Some-Workload.is c.in-Some-Workload.field-0-is
    (c.report_workload.ensures.due s)
