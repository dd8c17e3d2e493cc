-- The versions go out one after another.
use Rattle.std.specs.Prelude.{Some, None, flat_map, option_map}
use Rattle.tss_text.proofs.PieceLemmas.{none_put, more_put, failed_put, all_put}
use Rattle.tss_state_lines.specs.Lines.{version_line}
use Rattle.tss_state_lines.specs.Shown.{version_of}
use Rattle.tss_state_text.specs.Versions.{next_entry}
use Rattle.tss_state_text.proofs.NextEntries.{left_of}
use Rattle.tss_state_text.proofs.VersionLines.{entry_text, left_from, first_lines, here_lines, next_lines, fewer, no_lines, shown_there}
use Rattle.tss_state_text.proofs.versions.put_versions.Goals as goal

pub loop-next-init : goal.loop-next-init
loop-next-init g c =
    let vs = c.args.p.now.state.versions in
    let next = c.next_version-next.result in (
      none_put g.K.Sink c.args.to.now _ _ (first_lines vs next c.next_version-next.ensures),
      shown_there vs None next c.next_version-next.ensures,
    )

pub returns-in_err-put_version : goal.returns-in_err-put_version
returns-in_err-put_version g c =
    let vs = c.args.p.now.state.versions in
    let v = c.in-Some.version in
    let there = c.loop-next.invariant.1 v c.in-Some.is in
    failed_put c.loop-next.invariant.0 (version_line v.name (version_of v))
    (flat_map entry_text (left_of vs (option_map (λ e. e.0) (next_entry vs (Some v.name)))))
    (here_lines vs c.loop-next.next v c.in-Some.is there) c.in_err-put_version.ensures c.from_residual.ensures.0

pub loop-next-smaller : goal.loop-next-smaller
loop-next-smaller g c =
    let vs = c.args.p.now.state.versions in
    let v = c.in-Some.version in
    let there = c.loop-next.invariant.1 v c.in-Some.is in
    fewer vs c.loop-next.next c.next_version-next-in-Some.result v c.in-Some.is there c.next_version-next-in-Some.ensures

pub loop-next-preserved : goal.loop-next-preserved
loop-next-preserved g c =
    let vs = c.args.p.now.state.versions in
    let v = c.in-Some.version in
    let next = c.next_version-next-in-Some.result in
    let there = c.loop-next.invariant.1 v c.in-Some.is in (
      more_put c.loop-next.invariant.0 (version_line v.name (version_of v)) (flat_map entry_text (left_from vs next))
          (next_lines vs c.loop-next.next next v c.in-Some.is there c.next_version-next-in-Some.ensures)
          c.in_ok-put_version.ensures,
      shown_there vs (Some v.name) next c.next_version-next-in-Some.ensures,
    )

pub returns : goal.returns
returns g c = all_put c.loop-next.invariant.0 (no_lines c.args.p.now.state.versions c.loop-next.next c.in_default.is)
