-- The first of a task's operands, of which there are at most as many as there is room for.
use Rattle.std.proofs.Common.{ap, ◌∙◌}
use Rattle.std.specs.Prelude.{take}
use Rattle.std.proofs.lemmas.List.{take_min}
use Rattle.tss_pipeline.proofs.results.operands_of.Goals as goal

pub returns : goal.returns
returns c =
    let operands = c.args.task.now.operands in
    ap (λ n. take n operands) c.min.ensures ∙ take_min c.args.task.now.count operands
