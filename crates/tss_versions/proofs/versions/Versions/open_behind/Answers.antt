-- The one before may be settled.
use Rattle.std.proofs.Common.{sym, subst}
use Rattle.tss_versions.specs.Known.{versions_of}
use Rattle.tss_versions.specs.Conditions.{MaySettle}
use Rattle.tss_versions.proofs.CallLemmas.{may_settle_behind}
use Rattle.tss_versions.proofs.versions.Versions.open_behind.Goals as goal

pub settle-requires-clause-links : goal.settle-requires-clause-links
settle-requires-clause-links c =
    subst (λ s. MaySettle (versions_of s.versions) c.args.before.name) (sym c.link.ensures.exact)
    (may_settle_behind c.args.self.now.versions c.args.m c.requires.may_open.held c.args.follow c.args.before c.requires.name
    c.requires.may_open.fresh c.requires.at.0 c.requires.at.1 c.requires.chained c.requires.bare)
