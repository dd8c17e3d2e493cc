-- The worker is busy.
use Rattle.std.proofs.Common.{Some, sym, ap, ◌∙◌}
use Rattle.tss_protocol.specs.State.{Busy}
use Rattle.tss_pipeline.specs.Seen.{PipelineState}
use Rattle.tss_pipeline.proofs.shown.ReaderLemmas.{part_of_busy, some_busy}
use Rattle.tss_pipeline.proofs.pipeline.Pipeline.scratch.Goals as goal

pub scratch-requires : goal.scratch-requires
scratch-requires c =
    some_busy c.self.inside.units.workers.entries c.args.self.now
    (ap (λ (p : PipelineState). p.state.workers) c.self.view_is) c.args.w c.requires

pub returns-clause-exact : goal.returns-clause-exact
returns-clause-exact c =
    part_of_busy c.self.inside.units.workers.entries c.args.self.now
    (ap (λ (p : PipelineState). p.state.workers) c.self.view_is) c.args.w (λ (b : Busy). b.scratch)
    ∙ c.scratch.ensures
    ∙ ap Some (sym c.bytes.ensures.bytes)
