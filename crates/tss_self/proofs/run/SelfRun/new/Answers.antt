-- The run is that of the seed, on the image of the workload.
use Rattle.tss_self.proofs.WorkloadLemmas.{run_is, run_whole}
use Rattle.tss_self.proofs.run.SelfRun.new.Goals as goal

pub invariant_of-result : goal.invariant_of-result
invariant_of-result c =
    run_is (record { n = c.args.n; form = c.args.form }) c.self_machine.result c.in_ok-image.image c.from.result c.in_ok-run.run'
    c.self_machine.ensures.exact c.in_ok-image.ensures c.from.ensures c.in_ok-run.ensures

pub returns-clause-whole : goal.returns-clause-whole
returns-clause-whole c =
    run_whole (record { n = c.args.n; form = c.args.form }) c.self_machine.result c.in_ok-image.image c.self_machine.ensures.exact
    c.in_ok-image.ensures c.self_machine.ensures.admissible c.entry-entry.ensures.accepted
