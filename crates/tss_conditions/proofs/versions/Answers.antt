use Rattle.tss_conditions.proofs.Opening.{registered, links_within}
use Rattle.tss_conditions.proofs.versions.Goals as goal

pub returns-clause-registered : goal.returns-clause-registered
returns-clause-registered c = registered

pub returns-clause-links : goal.returns-clause-links
returns-clause-links c = links_within
