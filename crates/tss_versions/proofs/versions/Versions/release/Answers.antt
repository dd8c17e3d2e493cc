-- A version that a task has left is settled.
use Rattle.std.proofs.Common.{◌≤◌, rules, sym, ap, subst, length, ◌∙◌}
use Rattle.std.specs.FinMap.{get}
use Rattle.tss_events.specs.Events.{messages_of}
use Rattle.tss_versions.specs.Known.{versions_of}
use Rattle.tss_versions.specs.Conditions.{MaySettle, Remain}
use Rattle.tss_versions.proofs.UnlinkLemmas.{at_remaining}
use Rattle.tss_versions.proofs.CallLemmas.{may_settle_left, released_row}
use Rattle.tss_versions.proofs.StepLemmas.{found_site, found_at, few_sent, remain_leaving}
use Rattle.tss_versions.specs.Known.{AreNumbered}
use Rattle.tss_versions.specs.Numbers.{AreSentNumbered}
use Rattle.tss_versions.proofs.NumberLemmas.{release_numbers}
use Rattle.tss_versions.proofs.versions.Versions.release.Goals as goal

pub leave-sent-requires-clause-readers : goal.leave-sent-requires-clause-readers
leave-sent-requires-clause-readers c = λ x there.
    let f = found_site c.args.self.now.versions c.args.v c.in-Some.at (sym c.find.ensures ∙ c.in-Some.is) in
    c.requires.readers x (ap (get c.args.self.now.versions) (sym f.name) ∙ there)

pub settle-requires-clause-at : goal.settle-requires-clause-at
settle-requires-clause-at c =
    let vs = c.args.self.now.versions in
    let f = found_site vs c.args.v c.in-Some.at (sym c.find.ensures ∙ c.in-Some.is) in
    let at = found_at vs c.args.v c.in-Some.at f in
    at_remaining vs c.leave-sent.new.self.versions c.in-Some.at
    (subst (λ s. Remain vs s.versions) (sym (c.leave-sent.ensures.exact at.0 at.1))
    (remain_leaving vs c.args.o c.in-Some.at.name at.0 at.1 c.args.producer))
    at

pub settle-requires-clause-links : goal.settle-requires-clause-links
settle-requires-clause-links c =
    let vs = c.args.self.now.versions in
    let at = found_at vs c.args.v c.in-Some.at (found_site vs c.args.v c.in-Some.at (sym c.find.ensures ∙ c.in-Some.is)) in
    subst (λ s. MaySettle (versions_of s.versions) c.in-Some.at.name) (sym (c.leave-sent.ensures.exact at.0 at.1))
    (may_settle_left vs c.args.o c.in-Some.at.name at.0 at.1 c.requires.chained c.args.producer)

pub settle-requires-clause-room : goal.settle-requires-clause-room
settle-requires-clause-room c =
    let vs = c.args.self.now.versions in
    let at = found_at vs c.args.v c.in-Some.at (found_site vs c.args.v c.in-Some.at (sym c.find.ensures ∙ c.in-Some.is)) in
    subst (λ ms. length ms ≤ 2) (sym (c.leave-sent.ensures.messages at.0 at.1))
    (few_sent vs c.args.o c.in-Some.at.name at.0 c.args.producer)

pub returns-clause-exact : goal.returns-clause-exact
returns-clause-exact c = search rules

pub returns-clause-messages : goal.returns-clause-messages
returns-clause-messages c = search rules

pub returns-clause-versions : goal.returns-clause-versions
returns-clause-versions c =
    let f = found_site c.args.self.now.versions c.args.v c.in-Some.at (sym c.find.ensures ∙ c.in-Some.is) in
    ap (λ s. versions_of s.versions) (returns-clause-exact c)
    ∙ ap (λ d. d.part) (released_row c.args.self.now.versions c.args.o c.args.v f.kept f.there c.requires.chained c.args.producer)

pub returns-clause-sent : goal.returns-clause-sent
returns-clause-sent c =
    let f = found_site c.args.self.now.versions c.args.v c.in-Some.at (sym c.find.ensures ∙ c.in-Some.is) in
    ap messages_of (returns-clause-messages c)
    ∙ ap (λ d. d.sent) (released_row c.args.self.now.versions c.args.o c.args.v f.kept f.there c.requires.chained c.args.producer)

pub returns-clause-numbers : goal.returns-clause-numbers
returns-clause-numbers c = λ p b n.
    let d = release_numbers p b c.args.self.now.versions c.args.o c.args.v n c.args.producer in (
      subst (λ s. AreNumbered p b s.versions) (sym (returns-clause-exact c)) d.part,
      subst (AreSentNumbered p b) (sym (returns-clause-messages c)) d.sent,
    )
