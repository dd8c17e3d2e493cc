-- The first state is reached, and so is each after it.
use Rattle.std.proofs.Common.{sym, subst}
use Rattle.tss_conditions.specs.Reached.{Reached}
use Rattle.tss_conditions.proofs.Known.{reached_first}
use Rattle.tss_pipeline.specs.Seen.{PipelineState}
use Rattle.tss_state_text_tests.proofs.tests.after.Goals as goal

pub loop-line-init : goal.loop-line-init
loop-line-init g c =
    subst (λ (p : PipelineState). Reached p.machine c.args.image.now p.state) (sym c.in_ok-p.ensures)
    (reached_first c.args.machine.now c.args.image.now c.count.ensures.accepted c.requires)
