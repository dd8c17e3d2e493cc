-- The neighbours stand where they stood.
use Rattle.std.proofs.Common.{sym, ap, subst, ◌∙◌}
use Rattle.std.specs.FinMap.{get}
use Rattle.tss_maps.proofs.Keys.{name_order}
use Rattle.tss_maps.proofs.Changes.{beside_removed}
use Rattle.tss_versions.specs.Known.{IsAt}
use Rattle.tss_versions.specs.Conditions.{Remain}
use Rattle.tss_versions.proofs.UnlinkLemmas.{at_remaining, at_beside, sites_moved, remain_written}
use Rattle.tss_versions.proofs.versions.Versions.unlink.Goals as goal

pub bridge-requires-clause-before : goal.bridge-requires-clause-before
bridge-requires-clause-before c = λ s e.
    let b = c.requires.before c.remove-kept.result s c.remove-kept.ensures.exact e in
    subst (λ t. IsAt t.versions s) (sym c.remove-kept.ensures.others) (at_beside c.args.self.now.versions c.args.v.name s b.1 b.0)

pub bridge-requires-clause-next : goal.bridge-requires-clause-next
bridge-requires-clause-next c =
    subst (λ t. IsAt t.versions c.args.next) (sym c.remove-kept.ensures.others)
    (at_beside c.args.self.now.versions c.args.v.name c.args.next c.requires.apart c.requires.ahead)

pub get-requires : goal.get-requires
get-requires c =
    at_remaining c.remove-kept.new.self.versions c.bridge.new.self.versions c.args.next c.bridge.ensures.remain
    (subst (λ t. IsAt t.versions c.args.next) (sym c.remove-kept.ensures.others)
    (at_beside c.args.self.now.versions c.args.v.name c.args.next c.requires.apart c.requires.ahead))

pub write-requires-clause-at : goal.write-requires-clause-at
write-requires-clause-at c =
    at_remaining c.remove-kept.new.self.versions c.bridge.new.self.versions c.args.next c.bridge.ensures.remain
    (subst (λ t. IsAt t.versions c.args.next) (sym c.remove-kept.ensures.others)
    (at_beside c.args.self.now.versions c.args.v.name c.args.next c.requires.apart c.requires.ahead))

pub write-requires-clause-sites : goal.write-requires-clause-sites
write-requires-clause-sites c =
    sites_moved c.bridge.new.self.versions c.remove-kept.result.status.predecessor c.get.result.now.status c.get.ensures.sites
    (λ s e.
    let b = c.requires.before c.remove-kept.result s c.remove-kept.ensures.exact e in
    at_remaining c.remove-kept.new.self.versions c.bridge.new.self.versions s c.bridge.ensures.remain
    (subst (λ t. IsAt t.versions s) (sym c.remove-kept.ensures.others) (at_beside c.args.self.now.versions c.args.v.name s b.1 b.0)))

pub returns-clause-at : goal.returns-clause-at
returns-clause-at c =
    at_remaining c.bridge.new.self.versions c.write.new.self.versions c.args.next
    (subst (λ t. Remain c.bridge.new.self.versions t.versions) (sym (c.write.ensures c.get.result.now c.get.ensures.exact))
    (remain_written c.bridge.new.self.versions c.args.next.name c.get.result.now c.get.ensures.exact
    (record (c.get.result.now.status) { predecessor = c.remove-kept.result.status.predecessor })))
    (at_remaining c.remove-kept.new.self.versions c.bridge.new.self.versions c.args.next c.bridge.ensures.remain
    (subst (λ t. IsAt t.versions c.args.next) (sym c.remove-kept.ensures.others)
    (at_beside c.args.self.now.versions c.args.v.name c.args.next c.requires.apart c.requires.ahead)))

pub returns-clause-store : goal.returns-clause-store
returns-clause-store c = λ y e.
    let still = ap (λ t. get t.versions c.args.next.name) c.remove-kept.ensures.others
    ∙ beside_removed name_order c.args.self.now.versions c.args.v.name c.args.next.name c.requires.apart
    ∙ e in
    let z = c.bridge.ensures.remain c.args.next.name y still in
    let status = record (c.get.result.now.status) { predecessor = c.remove-kept.result.status.predecessor } in
    let w = remain_written c.bridge.new.self.versions c.args.next.name c.get.result.now c.get.ensures.exact status c.args.next.name z.0 z.1 in
    (w.0, ap (λ t. get t.versions c.args.next.name) (c.write.ensures c.get.result.now c.get.ensures.exact) ∙ w.1, w.2 ∙ z.2)
