-- The new version is linked to the one before it, and that one to the new.
use Rattle.std.proofs.Common.{sym, subst}
use Rattle.std.specs.FinMap.{insert}
use Rattle.tss_versions.specs.declared.kept.Kept.{Kept}
use Rattle.tss_versions.specs.Known.{IsAt, HaveSites}
use Rattle.tss_versions.specs.Conditions.{Remain}
use Rattle.tss_versions.proofs.ConditionLemmas.{unnamed_fresh}
use Rattle.tss_versions.proofs.UnlinkLemmas.{at_added, at_new, at_remaining, remain_written, sites_behind, sites_linked}
use Rattle.tss_versions.proofs.versions.Versions.link.Goals as goal

pub add-requires-clause-unnamed : goal.add-requires-clause-unnamed
add-requires-clause-unnamed c =
    unnamed_fresh c.args.self.now.versions c.args.m.o c.requires.may_open.fresh c.requires.chained

pub add-requires-clause-sites : goal.add-requires-clause-sites
add-requires-clause-sites c =
    let new : Kept = record { status = c.behind-status.result; store = c.store_by-store.result; place = c.args.m.place } in
    subst (HaveSites (insert c.args.self.now.versions c.args.m.o new)) (sym c.behind-status.ensures)
    (sites_behind (insert c.args.self.now.versions c.args.m.o new) c.args.m.operand.object c.args.before
    (at_added c.args.self.now.versions c.args.m.o new c.requires.may_open.fresh c.args.before c.requires.at))

pub get-requires : goal.get-requires
get-requires c =
    subst (λ s. IsAt s.versions c.args.before) (sym c.add.ensures)
    (at_added c.args.self.now.versions c.args.m.o
    (record { status = c.behind-status.result; store = c.store_by-store.result; place = c.args.m.place })
    c.requires.may_open.fresh c.args.before c.requires.at)

pub write-requires-clause-at : goal.write-requires-clause-at
write-requires-clause-at c =
    subst (λ s. IsAt s.versions c.args.before) (sym c.add.ensures)
    (at_added c.args.self.now.versions c.args.m.o
    (record { status = c.behind-status.result; store = c.store_by-store.result; place = c.args.m.place })
    c.requires.may_open.fresh c.args.before c.requires.at)

pub write-requires-clause-sites : goal.write-requires-clause-sites
write-requires-clause-sites c =
    sites_linked c.add.new.self.versions c.get.result.now.status _ c.get.ensures.sites
    (subst (λ s. IsAt s.versions (record { name = c.args.m.o; place = c.place.result })) (sym c.add.ensures)
    (at_new c.args.self.now.versions c.args.m.o
    (record { status = c.behind-status.result; store = c.store_by-store.result; place = c.args.m.place })
    c.place.result c.place.ensures))

pub returns-clause-at : goal.returns-clause-at
returns-clause-at c =
    at_remaining c.add.new.self.versions c.write.new.self.versions c.args.before
    (subst (λ s. Remain c.add.new.self.versions s.versions)
    (sym (c.write.ensures c.get.result.now c.get.ensures.exact))
    (remain_written c.add.new.self.versions c.args.before.name c.get.result.now c.get.ensures.exact _))
    (subst (λ s. IsAt s.versions c.args.before) (sym c.add.ensures)
    (at_added c.args.self.now.versions c.args.m.o
    (record { status = c.behind-status.result; store = c.store_by-store.result; place = c.args.m.place })
    c.requires.may_open.fresh c.args.before c.requires.at))
