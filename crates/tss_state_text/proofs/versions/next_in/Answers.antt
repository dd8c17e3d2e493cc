-- The bank shows its next version.
use Rattle.std.proofs.Common.{sym, ap, ◌∙◌}
use Rattle.tss_pipeline.specs.BankParts.{versions_at}
use Rattle.tss_state_text.specs.Versions.{next_entry}
use Rattle.tss_state_text.proofs.BankVersions.{first_shown, none_shown, next_shown}
use Rattle.tss_state_text.proofs.versions.next_in.Goals as goal

pub returns-in-None : goal.returns-in-None
returns-in-None c =
    let m = versions_at c.args.p.now.machine.sizes c.args.bank c.args.p.now.state.versions in
    first_shown m c.version_at.result c.version_at.ensures.version c.version_at.ensures.name
    ∙ ap (next_entry m) (sym c.in-None.is)

pub returns-in-Some-version_after : goal.returns-in-Some-version_after
returns-in-Some-version_after c =
    let m = versions_at c.args.p.now.machine.sizes c.args.bank c.args.p.now.state.versions in
    next_shown m c.in-Some.last c.in-Some-version_after.v c.version.result
    (sym c.version_after.ensures ∙ c.in-Some-version_after.is) c.version.ensures.version c.version.ensures.name
    ∙ ap (next_entry m) (sym c.in-Some.is)

pub returns-in-None-version_after : goal.returns-in-None-version_after
returns-in-None-version_after c =
    let m = versions_at c.args.p.now.machine.sizes c.args.bank c.args.p.now.state.versions in
    none_shown m c.in-Some.last (sym c.version_after.ensures ∙ c.in-None-version_after.is)
    ∙ ap (next_entry m) (sym c.in-Some.is)
