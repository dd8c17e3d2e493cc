-- The bytes of the file, or why they weren't read.
use Rattle.tss_base.specs.declared.bounds.TheConstants.{SCHEDULE_FILE_BYTES}
use Rattle.tss_command.specs.declared.outcome.Input.TheVariants.{Schedule}
use Rattle.tss_command.specs.Outcomes.{files_seen, FailedToRead}
use Rattle.tss_command.proofs.ReadingLemmas.{bytes_read}
use Rattle.tss_command.proofs.inputs.schedule_in.Goals as goal

pub returns-clause-exact : goal.returns-clause-exact
returns-clause-exact g c =
    bytes_read Schedule SCHEDULE_FILE_BYTES _ (FailedToRead (files_seen g.F.Files c.args.files.now) (files_seen g.F.Files c.read.new.files)) c.args.name.now c.read.result
    c.read.ensures.read
