-- What the file's bytes come to, or why they weren't read.
use Rattle.std.proofs.Common.{subst}
use Rattle.tss_base.specs.declared.bounds.TheConstants.{IMAGE_FILE_BYTES}
use Rattle.tss_command.specs.declared.outcome.Input.TheVariants.{Image}
use Rattle.tss_command.specs.Outcomes.{files_seen, FailedToRead}
use Rattle.tss_command.specs.Reading.{Gives}
use Rattle.tss_command.specs.Work.{accepted_image}
use Rattle.tss_command.proofs.ReadingLemmas.{reads_given, reads_failed}
use Rattle.tss_command.proofs.inputs.image_in.Goals as goal

pub returns-in_err-bytes-clause-exact : goal.returns-in_err-bytes-clause-exact
returns-in_err-bytes-clause-exact g c =
    reads_failed Image IMAGE_FILE_BYTES accepted_image _
    (FailedToRead (files_seen g.F.Files c.args.files.now) (files_seen g.F.Files c.read.new.files)) c.args.name.now c.from_residual.result
    c.in_err-bytes.field-0.0 c.from_residual.ensures.1 c.in_err-bytes.ensures.read

pub returns-clause-exact : goal.returns-clause-exact
returns-clause-exact g c =
    reads_given Image IMAGE_FILE_BYTES accepted_image _
    (FailedToRead (files_seen g.F.Files c.args.files.now) (files_seen g.F.Files c.read.new.files)) c.args.name.now c.in_ok-bytes.bytes c.accepted_image.result
    c.in_ok-bytes.ensures.read
    (subst (λ b. Gives c.accepted_image.result (accepted_image b)) c.as_slice.ensures.value c.accepted_image.ensures.exact)
