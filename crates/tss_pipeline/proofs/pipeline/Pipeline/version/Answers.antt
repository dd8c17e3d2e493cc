-- The version stands in the bank.
use Rattle.std.proofs.Common.{ap, option_map, ◌∙◌}
use Rattle.std.specs.FinMap.{get}
use Rattle.tss_protocol.specs.State.{Version}
use Rattle.tss_versions.specs.declared.version_view.VersionView.{VersionView}
use Rattle.tss_pipeline.specs.BankParts.{version_shown}
use Rattle.tss_pipeline.proofs.shown.SeenBanks.{version_told, version_named, seen_versions, seen_no_version}
use Rattle.tss_pipeline.proofs.pipeline.Pipeline.version.Goals as goal

pub returns-in-Some-clause-version : goal.returns-in-Some-clause-version
returns-in-Some-clause-version c =
    ap (option_map version_shown) c.version.ensures
    ∙ version_told c.in-Some.bank.now.versions.versions c.args.v
    ∙ ap (λ m. get m c.args.v)
    (seen_versions c.self.inside.units c.self.invariant.fit c.args.self.now c.self.view_is
    c.deref.result.now c.deref.ensures.value c.args.bank c.in-Some.bank.now c.in-Some.ensures)

pub returns-in-None-clause-version : goal.returns-in-None-clause-version
returns-in-None-clause-version c =
    seen_no_version c.self.inside.units c.self.invariant.fit c.args.self.now c.self.view_is
    c.deref.result.now c.deref.ensures.value c.args.bank c.in-None.ensures c.args.v

pub returns-in-Some-clause-name : goal.returns-in-Some-clause-name
returns-in-Some-clause-name c =
    ap (option_map (λ (x : VersionView). x.name)) c.version.ensures
    ∙ version_named c.in-Some.bank.now.versions.versions c.args.v
    ∙ ap (λ m. option_map (λ (x : Version). c.args.v) (get m c.args.v))
    (seen_versions c.self.inside.units c.self.invariant.fit c.args.self.now c.self.view_is
    c.deref.result.now c.deref.ensures.value c.args.bank c.in-Some.bank.now c.in-Some.ensures)

pub returns-in-None-clause-name : goal.returns-in-None-clause-name
returns-in-None-clause-name c =
    ap (option_map (λ (x : Version). c.args.v))
    (seen_no_version c.self.inside.units c.self.invariant.fit c.args.self.now c.self.view_is
    c.deref.result.now c.deref.ensures.value c.args.bank c.in-None.ensures c.args.v)
