-- A part that stands after what the file held.
use Rattle.tss_command.proofs.OutcomeLemmas.{prefix_part}
use Rattle.tss_command.proofs.migration.append.Goals as goal

pub returns-in-Err-clause-part : goal.returns-in-Err-clause-part
returns-in-Err-clause-part g c = prefix_part _ _ c.args.name.now c.args.log.now c.in-Err.ensures.prefix
