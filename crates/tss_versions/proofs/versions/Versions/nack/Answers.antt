-- A version that was refused is settled.
use Rattle.std.proofs.Common.{rules, sym, ap, subst, ◌∙◌}
use Rattle.tss_versions.specs.Known.{version_of, versions_of}
use Rattle.tss_versions.specs.Rows.{with_status}
use Rattle.tss_versions.specs.Conditions.{MaySettle, Remain}
use Rattle.tss_events.specs.Events.{messages_of}
use Rattle.tss_versions.proofs.UnlinkLemmas.{at_remaining, remain_written}
use Rattle.tss_versions.proofs.CallLemmas.{may_settle_put, nacked_row}
use Rattle.tss_versions.proofs.StepLemmas.{found_site, found_at}
use Rattle.tss_versions.specs.Known.{AreNumbered}
use Rattle.tss_versions.specs.Numbers.{AreSentNumbered}
use Rattle.tss_versions.proofs.NumberLemmas.{nack_numbers}
use Rattle.tss_versions.proofs.versions.Versions.nack.Goals as goal

pub settle-requires-clause-at : goal.settle-requires-clause-at
settle-requires-clause-at c =
    let vs = c.args.self.now.versions in
    at_remaining vs c.write.new.self.versions c.in-Some.at
    (subst (λ s. Remain vs s.versions) (sym (c.write.ensures c.get.result.now c.get.ensures.exact))
    (remain_written vs c.in-Some.at.name c.get.result.now c.get.ensures.exact c.refused_once.result))
    (found_at vs c.args.v c.in-Some.at (found_site vs c.args.v c.in-Some.at (sym c.find.ensures ∙ c.in-Some.is)))

pub settle-requires-clause-links : goal.settle-requires-clause-links
settle-requires-clause-links c =
    subst (λ s. MaySettle (versions_of s.versions) c.in-Some.at.name) (sym (c.write.ensures c.get.result.now c.get.ensures.exact))
    (may_settle_put c.args.self.now.versions c.in-Some.at.name c.in-Some.at.name c.get.result.now c.get.ensures.exact c.requires.chained
    (with_status c.get.result.now c.refused_once.result)
    (ap (λ s. (version_of (with_status c.get.result.now s)).predecessor) c.refused_once.ensures)
    (ap (λ s. (version_of (with_status c.get.result.now s)).successor) c.refused_once.ensures))

pub returns-clause-exact : goal.returns-clause-exact
returns-clause-exact c = search rules

pub returns-clause-messages : goal.returns-clause-messages
returns-clause-messages c = search rules

pub returns-clause-versions : goal.returns-clause-versions
returns-clause-versions c =
    let f = found_site c.args.self.now.versions c.args.v c.in-Some.at (sym c.find.ensures ∙ c.in-Some.is) in
    ap (λ s. versions_of s.versions) (returns-clause-exact c)
    ∙ ap (λ d. d.part) (nacked_row c.args.self.now.versions c.args.v c.args.v f.kept f.there c.requires.chained)

pub returns-clause-sent : goal.returns-clause-sent
returns-clause-sent c =
    let f = found_site c.args.self.now.versions c.args.v c.in-Some.at (sym c.find.ensures ∙ c.in-Some.is) in
    ap messages_of (returns-clause-messages c)
    ∙ ap (λ d. d.sent) (nacked_row c.args.self.now.versions c.args.v c.args.v f.kept f.there c.requires.chained)

pub returns-clause-numbers : goal.returns-clause-numbers
returns-clause-numbers c = λ p b n.
    let d = nack_numbers p b c.args.self.now.versions c.args.v c.args.v n in (
      subst (λ s. AreNumbered p b s.versions) (sym (returns-clause-exact c)) d.part,
      subst (AreSentNumbered p b) (sym (returns-clause-messages c)) d.sent,
    )
