-- There are as many busy workers as entries.
use Rattle.std.proofs.Common.{sym, ap, ◌∙◌}
use Rattle.std.specs.Prelude.{◌==◌}
use Rattle.tss_maps.proofs.MappedLemmas.{len-mapped}
use Rattle.tss_workers.specs.Seen.{busy_of}
use Rattle.tss_pipeline.proofs.units.Units.is_at_rest.Goals as goal

pub returns : goal.returns
returns c = ap (λ n. n == 0) (c.busy.ensures.exact ∙ sym (len-mapped busy_of c.args.self.now.workers.entries))
