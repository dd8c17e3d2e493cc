-- A reader is enlisted where the version is registered.
use Rattle.std.proofs.Common.{rules, refl, sym, ap, subst, ◌∙◌}
use Rattle.tss_events.specs.Events.{messages_of}
use Rattle.tss_versions.specs.Known.{versions_of}
use Rattle.tss_versions.proofs.CallLemmas.{used_row}
use Rattle.tss_versions.proofs.StepLemmas.{found_site, absent_site, registered_row, unregistered_row}
use Rattle.tss_versions.specs.Known.{AreNumbered}
use Rattle.tss_versions.specs.Numbers.{AreSentNumbered}
use Rattle.tss_versions.proofs.NumberLemmas.{use_numbers}
use Rattle.tss_versions.proofs.versions.Versions.enlist.Goals as goal

pub returns-in_default-clause-blocked : goal.returns-in_default-clause-blocked
returns-in_default-clause-blocked c =
    let none = absent_site c.args.self.now.versions c.args.v (sym c.find.ensures ∙ c.in_default.is) in
    (λ e. unregistered_row c.args.self.now.versions c.args.v none, λ e. refl)

pub returns-clause-blocked : goal.returns-clause-blocked
returns-clause-blocked c =
    let f = found_site c.args.self.now.versions c.args.v c.in-Some.at (sym c.find.ensures ∙ c.in-Some.is) in
    let there = registered_row c.args.self.now.versions c.args.v f.kept f.there in
    (λ e. absurd (cc), λ e. absurd (cc))

pub returns-clause-exact : goal.returns-clause-exact
returns-clause-exact c = search rules

pub returns-clause-messages : goal.returns-clause-messages
returns-clause-messages c = search rules

pub returns-clause-versions : goal.returns-clause-versions
returns-clause-versions c =
    ap (λ s. versions_of s.versions) (returns-clause-exact c)
    ∙ ap (λ d. d.part) (used_row c.args.self.now.versions c.args.o c.args.v)

pub returns-clause-sent : goal.returns-clause-sent
returns-clause-sent c =
    ap messages_of (returns-clause-messages c) ∙ ap (λ d. d.sent) (used_row c.args.self.now.versions c.args.o c.args.v)

pub returns-clause-numbers : goal.returns-clause-numbers
returns-clause-numbers c = λ p b n.
    let d = use_numbers p b c.args.self.now.versions c.args.o c.args.v n in (
      subst (λ s. AreNumbered p b s.versions) (sym (returns-clause-exact c)) d.part,
      subst (AreSentNumbered p b) (sym (returns-clause-messages c)) d.sent,
    )
