-- The output is that of the units.
use Rattle.std.proofs.Common.{ap, ◌∙◌}
use Rattle.tss_protocol.specs.Result.{printed_of}
use Rattle.tss_pipeline.specs.Seen.{PipelineState}
use Rattle.tss_pipeline.proofs.pipeline.Pipeline.output.Goals as goal

pub returns : goal.returns
returns c = c.output.ensures ∙ ap (λ (p : PipelineState). printed_of p.state) c.self.view_is
