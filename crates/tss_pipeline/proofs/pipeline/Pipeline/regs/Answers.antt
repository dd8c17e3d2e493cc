-- The worker is busy.
use Rattle.std.proofs.Common.{ap, ◌∙◌}
use Rattle.tss_protocol.specs.State.{Busy}
use Rattle.tss_pipeline.specs.Seen.{PipelineState}
use Rattle.tss_pipeline.proofs.shown.ReaderLemmas.{part_of_busy, some_busy}
use Rattle.tss_pipeline.proofs.pipeline.Pipeline.regs.Goals as goal

pub regs-requires : goal.regs-requires
regs-requires c =
    some_busy c.self.inside.units.workers.entries c.args.self.now
    (ap (λ (p : PipelineState). p.state.workers) c.self.view_is) c.args.w c.requires

pub returns : goal.returns
returns c =
    part_of_busy c.self.inside.units.workers.entries c.args.self.now
    (ap (λ (p : PipelineState). p.state.workers) c.self.view_is) c.args.w (λ (b : Busy). b.registers)
    ∙ c.regs.ensures
