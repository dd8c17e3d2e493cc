-- A version less.
use Rattle.std.proofs.Common.{true, rules, sym, ap, subst, ◌∙◌}
use Rattle.tss_maps.proofs.Keys.{name_order}
use Rattle.tss_maps.proofs.MappedLemmas.{mapped-remove}
use Rattle.tss_versions.specs.Known.{version_of, versions_of}
use Rattle.tss_versions.specs.Known.{AreNumbered}
use Rattle.tss_versions.specs.Numbers.{GoneNumbered}
use Rattle.tss_versions.proofs.NumberLemmas.{removed_numbers, gone_numbers}
use Rattle.tss_versions.proofs.StepLemmas.{found_site}
use Rattle.tss_versions.proofs.versions.Versions.retire.Goals as goal

pub returns-clause-exact : goal.returns-clause-exact
returns-clause-exact c = search rules

pub returns-clause-versions : goal.returns-clause-versions
returns-clause-versions c =
    ap (λ s. versions_of s.versions) (returns-clause-exact c)
    ∙ mapped-remove name_order version_of c.args.self.now.versions c.args.v

pub returns-clause-gone : goal.returns-clause-gone
returns-clause-gone c = search rules

pub returns-clause-numbers : goal.returns-clause-numbers
returns-clause-numbers c = λ p b n.
    let vs = c.args.self.now.versions in
    let f = found_site vs c.args.v c.in-Some.at (sym c.find.ensures ∙ c.in-Some.is) in (
      subst (λ s. AreNumbered p b s.versions) (sym (returns-clause-exact c)) (removed_numbers p b vs c.args.v n),
      subst (GoneNumbered p b) (sym (returns-clause-gone c f.kept f.there))
          (gone_numbers p b c.args.v f.kept true (n c.args.v f.kept f.there)),
    )
