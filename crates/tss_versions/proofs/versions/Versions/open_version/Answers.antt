-- A version is opened where the one that it follows is registered.
use Rattle.std.proofs.Common.{refl, sym, ap, subst, ◌∙◌}
use Rattle.std.specs.FinMap.{get}
use Rattle.tss_protocol.specs.Versions.{is_followable, opened_by}
use Rattle.tss_events.specs.Events.{opening_of, messages_of}
use Rattle.tss_versions.specs.Known.{versions_of}
use Rattle.tss_versions.proofs.CallLemmas.{first_row, followed_row}
use Rattle.tss_versions.proofs.StepLemmas.{found_site, found_at, absent_site, registered_row, unregistered_row}
use Rattle.tss_versions.specs.Known.{AreNumbered}
use Rattle.tss_versions.specs.Numbers.{AreSentNumbered}
use Rattle.tss_versions.proofs.NumberLemmas.{opens_first, opens_behind}
use Rattle.tss_versions.proofs.versions.Versions.open_version.Goals as goal

pub returns-in_default-clause-versions : goal.returns-in_default-clause-versions
returns-in_default-clause-versions c =
    let vs = c.args.self.now.versions in
    ap (λ s. versions_of s.versions) c.open_first.ensures.exact
    ∙ ap (λ d. d.part) (first_row vs c.args.m c.requires.may_open.held
    ∙ sym (ap (opened_by (versions_of vs) c.args.m.o (opening_of c.args.m)) c.in_default.is))

pub returns-in_default-clause-sent : goal.returns-in_default-clause-sent
returns-in_default-clause-sent c =
    let vs = c.args.self.now.versions in
    ap messages_of c.open_first.ensures.messages
    ∙ ap (λ d. d.sent) (first_row vs c.args.m c.requires.may_open.held
    ∙ sym (ap (opened_by (versions_of vs) c.args.m.o (opening_of c.args.m)) c.in_default.is))

pub open_behind-requires-clause-at : goal.open_behind-requires-clause-at
open_behind-requires-clause-at c =
    let vs = c.args.self.now.versions in
    let v = c.in-Some.follow.version in
    found_at vs v c.in-Some-find.before (found_site vs v c.in-Some-find.before (sym c.find.ensures ∙ c.in-Some-find.is))

pub open_behind-requires-clause-name : goal.open_behind-requires-clause-name
open_behind-requires-clause-name c =
    (found_site c.args.self.now.versions c.in-Some.follow.version c.in-Some-find.before
    (sym c.find.ensures ∙ c.in-Some-find.is)).name

pub returns-in-Some-find-clause-blocked : goal.returns-in-Some-find-clause-blocked
returns-in-Some-find-clause-blocked c =
    let vs = c.args.self.now.versions in
    let v = c.in-Some.follow.version in
    let f = found_site vs v c.in-Some-find.before (sym c.find.ensures ∙ c.in-Some-find.is) in
    let there = ap (is_followable (versions_of vs)) c.in-Some.is ∙ registered_row vs v f.kept f.there in
    (λ e. absurd (cc), λ e. absurd (cc))

pub returns-in-Some-find-clause-versions : goal.returns-in-Some-find-clause-versions
returns-in-Some-find-clause-versions c =
    let vs = c.args.self.now.versions in
    let v = c.in-Some.follow.version in
    let f = found_site vs v c.in-Some-find.before (sym c.find.ensures ∙ c.in-Some-find.is) in
    ap (λ s. versions_of s.versions) c.open_behind.ensures.exact
    ∙ ap (λ d. d.part) (followed_row vs c.args.m c.requires.may_open.held c.in-Some.follow c.in-Some-find.before f.name
    c.requires.may_open.fresh f.kept (ap (get vs) f.name ∙ f.there) c.requires.chained (c.requires.bare c.in-Some.follow c.in-Some.is)
    ∙ sym (ap (opened_by (versions_of vs) c.args.m.o (opening_of c.args.m)) c.in-Some.is))

pub returns-in-Some-find-clause-sent : goal.returns-in-Some-find-clause-sent
returns-in-Some-find-clause-sent c =
    let vs = c.args.self.now.versions in
    let v = c.in-Some.follow.version in
    let f = found_site vs v c.in-Some-find.before (sym c.find.ensures ∙ c.in-Some-find.is) in
    ap messages_of c.open_behind.ensures.messages
    ∙ ap (λ d. d.sent) (followed_row vs c.args.m c.requires.may_open.held c.in-Some.follow c.in-Some-find.before f.name
    c.requires.may_open.fresh f.kept (ap (get vs) f.name ∙ f.there) c.requires.chained (c.requires.bare c.in-Some.follow c.in-Some.is)
    ∙ sym (ap (opened_by (versions_of vs) c.args.m.o (opening_of c.args.m)) c.in-Some.is))

pub returns-in-None-clause-blocked : goal.returns-in-None-clause-blocked
returns-in-None-clause-blocked c =
    let vs = c.args.self.now.versions in
    let v = c.in-Some.follow.version in
    let none = absent_site vs v (sym c.find.ensures ∙ c.in-None.is) in
    (λ e. ap (is_followable (versions_of vs)) c.in-Some.is ∙ unregistered_row vs v none, λ e. refl)

pub returns-in_default-clause-numbers : goal.returns-in_default-clause-numbers
returns-in_default-clause-numbers c = λ p b n h.
    let d = opens_first p b c.args.self.now.versions c.args.m n h in (
      subst (λ s. AreNumbered p b s.versions) (sym c.open_first.ensures.exact) d.part,
      subst (AreSentNumbered p b) (sym c.open_first.ensures.messages) d.sent,
    )

pub returns-in-Some-find-clause-numbers : goal.returns-in-Some-find-clause-numbers
returns-in-Some-find-clause-numbers c = λ p b n h.
    let d = opens_behind p b c.args.self.now.versions c.args.m n h c.in-Some.follow c.in-Some-find.before in (
      subst (λ s. AreNumbered p b s.versions) (sym c.open_behind.ensures.exact) d.part,
      subst (AreSentNumbered p b) (sym c.open_behind.ensures.messages) d.sent,
    )
