-- The reader gives the image that the bytes are.
use Rattle.std.proofs.Common.{◌∙◌}
use Rattle.tss_self.proofs.WorkloadLemmas.{image_is}
use Rattle.tss_self.proofs.image.workload_image.Goals as goal

pub returns-in-Ok : goal.returns-in-Ok
returns-in-Ok c =
    image_is c.args.form c.args.n c.as_slice.result.now c.in-Ok.image
    (c.as_slice.ensures.value ∙ c.in_ok-bytes.ensures.exact) c.in-Ok.ensures.exact
