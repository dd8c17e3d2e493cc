-- No entry.
use Rattle.std.proofs.Common.{ap, ◌∙◌}
use Rattle.tss_renaming.specs.Entries.{entries_of}
use Rattle.tss_renaming.proofs.EntryLemmas.{entries_of-empty}
use Rattle.tss_renaming.proofs.entries.Entries.open.Goals as goal

pub returns : goal.returns
returns c = ap entries_of c.in_ok-open.ensures ∙ entries_of-empty c.args.size
