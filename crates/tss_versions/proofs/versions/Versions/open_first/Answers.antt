-- No version has a link to a new one.
use Rattle.tss_versions.proofs.ConditionLemmas.{unnamed_fresh}
use Rattle.tss_versions.proofs.versions.Versions.open_first.Goals as goal

pub add-requires-clause-unnamed : goal.add-requires-clause-unnamed
add-requires-clause-unnamed c =
    unnamed_fresh c.args.self.now.versions c.args.m.o c.requires.may_open.fresh c.requires.chained
