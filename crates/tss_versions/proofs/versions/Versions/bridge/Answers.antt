-- The one before stands at its site, and is only known as something else.
use Rattle.std.proofs.Common.{sym, subst}
use Rattle.tss_versions.specs.Known.{HaveSites}
use Rattle.tss_versions.specs.Conditions.{Remain}
use Rattle.tss_versions.proofs.UnlinkLemmas.{remain_written, sites_followed}
use Rattle.tss_versions.proofs.versions.Versions.bridge.Goals as goal

pub write-requires-clause-sites : goal.write-requires-clause-sites
write-requires-clause-sites c =
    subst (HaveSites c.args.self.now.versions) (sym c.followed_by.ensures)
    (sites_followed c.args.self.now.versions c.args.next c.get.result.now.status c.get.ensures.sites c.requires.next)

pub returns-in-Some-clause-remain : goal.returns-in-Some-clause-remain
returns-in-Some-clause-remain c =
    subst (λ s. Remain c.args.self.now.versions s.versions) (sym (c.write.ensures c.get.result.now c.get.ensures.exact))
    (remain_written c.args.self.now.versions c.in-Some.before.name c.get.result.now c.get.ensures.exact c.followed_by.result)
