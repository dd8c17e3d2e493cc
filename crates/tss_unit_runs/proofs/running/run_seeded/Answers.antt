use Rattle.std.proofs.Common.{Ok, Err, ap, ◌∙◌}
use Rattle.tss_pipeline.specs.Seen.{PipelineState}
use Rattle.tss_log.specs.contracts.log.NoLogLog.TheImpl as no_log
use Rattle.tss_unit_runs.proofs.SeedLemmas.{at_seed, seed_fault, seed_peaks, never_rose}
use Rattle.tss_unit_runs.proofs.running.run_seeded.Goals as goal

pub unreachable-requires : goal.unreachable-requires
unreachable-requires c =
    let h = c.in-Err.ensures in
    let same = ap (λ (p : PipelineState). p.machine) c.in_ok-pipeline.ensures in
    seed_fault no_log.ghosts c.args.machine c.args.image c.args.seed h.last (record {}) c.finish.new.log h.accepted c.requires
    c.in-Err.field-0
    (at_seed no_log.ghosts c.args.machine c.args.image c.args.seed h.last (record {}) c.finish.new.log h.accepted c.requires
    c.in_ok-pipeline.pipeline.machine c.new.result (Err c.in-Err.field-0) same c.new.ensures h.drives)
    (λ e. never_rose (h.drives.kept.cause e))

pub returns : goal.returns
returns c =
    let h = c.in-Ok.ensures in
    let same = ap (λ (p : PipelineState). p.machine) c.in_ok-pipeline.ensures in
    let peaks = seed_peaks no_log.ghosts c.args.machine c.args.image c.args.seed h.last (record {}) c.finish.new.log h.accepted
    c.requires c.in-Ok.over.peaks
    (at_seed no_log.ghosts c.args.machine c.args.image c.args.seed h.last (record {}) c.finish.new.log h.accepted c.requires
    c.in_ok-pipeline.pipeline.machine c.new.result (Ok c.in-Ok.over.peaks) same c.new.ensures h.drives) in
    h.ok ∙ (λ i. record { machine = same i; image = c.args.image; peaks = peaks i })
