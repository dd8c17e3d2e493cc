-- The machine is read, and then the image.
use Rattle.std.proofs.Common.{Ok, Err, inr, refl}
use Rattle.tss_command.specs.Outcomes.{files_seen, FailedToRead}
use Rattle.tss_command.specs.Reading.{Found}
use Rattle.tss_command.specs.Work.{machine_reading, image_reading, image_under, program_of}
use Rattle.tss_command.proofs.ReadingLemmas.{stops, goes_on}
use Rattle.tss_command.proofs.OutcomeLemmas.{read_before, read_after, only_reads_then}
use Rattle.tss_command.proofs.inputs.program_in.Goals as goal

pub returns-in_err-machine-clause-exact : goal.returns-in_err-machine-clause-exact
returns-in_err-machine-clause-exact g c =
    stops _ _ (image_under c.args.image.now) (machine_reading c.args.machine.now) c.in_err-machine.field-0.0 c.from_residual.result c.from_residual.ensures.1
    c.in_err-machine.ensures.exact

pub returns-in_err-image-clause-exact : goal.returns-in_err-image-clause-exact
returns-in_err-image-clause-exact g c =
    let b = files_seen g.F.Files c.args.files.now in
    let m = files_seen g.F.Files c.machine_in.new.files in
    let a = files_seen g.F.Files c.image_in.new.files in
    let machine = c.in_ok-machine.machine in
    let e = c.in_err-image.field-0.0 in
    let image = image_reading c.args.image.now in
    goes_on b.held (FailedToRead b a) (image_under c.args.image.now) (machine_reading c.args.machine.now) machine c.from_residual-in_err-image.result
    (read_before b m a (machine_reading c.args.machine.now) (Ok machine) c.in_err-image.ensures.only_reads.read_faults c.in_ok-machine.ensures.exact)
    (stops b.held (FailedToRead b a) (λ i. Found (Ok (program_of machine i))) image e c.from_residual-in_err-image.result c.from_residual-in_err-image.ensures.1
    (read_after b m a image (Err e) c.in_ok-machine.ensures.only_reads c.in_err-image.ensures.exact))

pub returns-in_err-image-clause-only_reads : goal.returns-in_err-image-clause-only_reads
returns-in_err-image-clause-only_reads g c =
    only_reads_then (files_seen g.F.Files c.args.files.now) (files_seen g.F.Files c.machine_in.new.files) (files_seen g.F.Files c.image_in.new.files)
    c.in_ok-machine.ensures.only_reads c.in_err-image.ensures.only_reads

pub returns-clause-exact : goal.returns-clause-exact
returns-clause-exact g c =
    let b = files_seen g.F.Files c.args.files.now in
    let m = files_seen g.F.Files c.machine_in.new.files in
    let a = files_seen g.F.Files c.image_in.new.files in
    let machine = c.in_ok-machine.machine in
    let image = image_reading c.args.image.now in
    goes_on b.held (FailedToRead b a) (image_under c.args.image.now) (machine_reading c.args.machine.now) machine _
    (read_before b m a (machine_reading c.args.machine.now) (Ok machine) c.in_ok-image.ensures.only_reads.read_faults c.in_ok-machine.ensures.exact)
    (goes_on b.held (FailedToRead b a) (λ i. Found (Ok (program_of machine i))) image c.in_ok-image.image _
    (read_after b m a image (Ok c.in_ok-image.image) c.in_ok-machine.ensures.only_reads c.in_ok-image.ensures.exact)
    (inr refl))

pub returns-clause-only_reads : goal.returns-clause-only_reads
returns-clause-only_reads g c =
    only_reads_then (files_seen g.F.Files c.args.files.now) (files_seen g.F.Files c.machine_in.new.files) (files_seen g.F.Files c.image_in.new.files)
    c.in_ok-machine.ensures.only_reads c.in_ok-image.ensures.only_reads
