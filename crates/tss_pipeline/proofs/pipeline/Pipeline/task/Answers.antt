-- The worker's task is that of the definitions.
use Rattle.std.proofs.Common.{sym, ap, ◌∙◌}
use Rattle.tss_protocol.specs.State.{Busy}
use Rattle.tss_pipeline.specs.Seen.{PipelineState}
use Rattle.tss_pipeline.proofs.shown.ReaderLemmas.{part_of_busy}
use Rattle.tss_pipeline.proofs.pipeline.Pipeline.task.Goals as goal

pub returns : goal.returns
returns c =
    c.task.ensures
    ∙ sym (part_of_busy c.self.inside.units.workers.entries c.args.self.now
    (ap (λ (p : PipelineState). p.state.workers) c.self.view_is) c.args.w (λ (b : Busy). (b.task.number, b.trap)))
