-- It is part of what the pipeline keeps.
use Rattle.std.proofs.Common.{subst}
use Rattle.tss_pipeline.specs.Seen.{PipelineState, IsReached}
use Rattle.tss_pipeline.proofs.pipeline.Pipeline.reached.Goals as goal

pub returns : goal.returns
returns c = record {
  reached = subst (λ (p : PipelineState). IsReached p.machine p.state) c.self.view_is c.self.invariant.fit.reached;
}
