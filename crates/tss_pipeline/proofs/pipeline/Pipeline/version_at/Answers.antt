-- The version stands at its place in the bank.
use Rattle.std.proofs.Common.{ap, option_map, ◌∙◌}
use Rattle.tss_maps.specs.Ordered.{key_at}
use Rattle.tss_versions.specs.declared.version_view.VersionView.{VersionView}
use Rattle.tss_pipeline.specs.BankParts.{value_at, version_shown}
use Rattle.tss_pipeline.proofs.shown.SeenBanks.{version_told_at, version_named_at, seen_versions, seen_no_version_at, seen_no_name_at}
use Rattle.tss_pipeline.proofs.pipeline.Pipeline.version_at.Goals as goal

pub returns-in-Some-clause-version : goal.returns-in-Some-clause-version
returns-in-Some-clause-version c =
    ap (option_map version_shown) c.version_at.ensures
    ∙ version_told_at c.in-Some.bank.now.versions.versions c.args.i
    ∙ ap (λ m. value_at m c.args.i)
    (seen_versions c.self.inside.units c.self.invariant.fit c.args.self.now c.self.view_is
    c.deref.result.now c.deref.ensures.value c.args.bank c.in-Some.bank.now c.in-Some.ensures)

pub returns-in-Some-clause-name : goal.returns-in-Some-clause-name
returns-in-Some-clause-name c =
    ap (option_map (λ (x : VersionView). x.name)) c.version_at.ensures
    ∙ version_named_at c.in-Some.bank.now.versions.versions c.args.i
    ∙ ap (λ m. key_at m c.args.i)
    (seen_versions c.self.inside.units c.self.invariant.fit c.args.self.now c.self.view_is
    c.deref.result.now c.deref.ensures.value c.args.bank c.in-Some.bank.now c.in-Some.ensures)

pub returns-in-None-clause-version : goal.returns-in-None-clause-version
returns-in-None-clause-version c =
    seen_no_version_at c.self.inside.units c.self.invariant.fit c.args.self.now c.self.view_is
    c.deref.result.now c.deref.ensures.value c.args.bank c.in-None.ensures c.args.i

pub returns-in-None-clause-name : goal.returns-in-None-clause-name
returns-in-None-clause-name c =
    seen_no_name_at c.self.inside.units c.self.invariant.fit c.args.self.now c.self.view_is
    c.deref.result.now c.deref.ensures.value c.args.bank c.in-None.ensures c.args.i
