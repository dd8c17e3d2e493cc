-- A name that is there already stays.
use Rattle.std.proofs.Common.{sym, ◌∙◌}
use Rattle.tss_pipeline.proofs.listed.ListedNames.{marked_there}
use Rattle.tss_pipeline.proofs.listing.mark.Goals as goal

pub returns-else-not-has : goal.returns-else-not-has
returns-else-not-has c =
    marked_there c.args.list.now c.args.o c.args.may (sym c.has.ensures ∙ c.if-not-has.false) c.if-not-may.false
