-- There is one more to leave.
use Rattle.tss_versions.proofs.versions.Versions.part.Goals as goal

pub released_once-requires : goal.released_once-requires
released_once-requires c = c.requires.readers c.get.result.now c.get.ensures.exact
