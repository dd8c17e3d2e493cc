-- Whether a worker's task may go on is what the workers say.
use Rattle.std.proofs.Common.{◌∙◌, ap, sym}
use Rattle.tss_maps.proofs.MappedLemmas.{get-mapped}
use Rattle.tss_workers.specs.Seen.{busy_of}
use Rattle.tss_protocol.specs.Workers.{can_exec}
use Rattle.tss_protocol.specs.UnitMachine.{is_enabled}
use Rattle.tss_pipeline.proofs.units.Units.can_exec.Goals as goal

pub returns : goal.returns
unfolding is_enabled
returns c =
    c.can_exec.ensures ∙ ap can_exec (sym (get-mapped busy_of c.args.self.now.workers.entries c.args.w))
