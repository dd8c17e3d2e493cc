-- A run of the workload ends as it does in program order.
use Rattle.std.proofs.Common.{ap, ◌∙◌, subst}
use Rattle.tss_model.specs.InOrder.{ReferenceState}
use Rattle.tss_self.specs.SelfAnswer.{IsRunOf}
use Rattle.tss_self.proofs.ReportLemmas.{result_is}
use Rattle.tss_self.proofs.run.SelfRun.ending.Goals as goal

pub returns : goal.returns
returns c =
    let is : IsRunOf c.self.inside.run c.args.self.now = subst (IsRunOf c.self.inside.run) c.self.view_is c.self.invariant in
    c.ending.ensures ∙ ap (λ (r : ReferenceState). r.ending) (result_is c.self.inside.run c.args.self.now is)
