-- The versions before the next one were put.
use Rattle.std.proofs.Common.{◌≡◌, length}
use Rattle.std.specs.Prelude.{Some, option_map}
use Rattle.std.specs.List.{flat_map}
use Rattle.std.specs.FinMap.{entries, get}
use Rattle.tss_versions.specs.declared.version_view.VersionView.{VersionView}
use Rattle.tss_text.proofs.PieceLemmas.{HasPut}
use Rattle.tss_state_lines.specs.Lines.{version_line}
use Rattle.tss_state_lines.specs.Shown.{version_of}
use Rattle.tss_state_text.proofs.NextEntries.{left_of}
use Rattle.tss_state_text.proofs.versions.put_versions.Given as goal

abbrev pub invariant-loop-next : goal.invariant-loop-next
invariant-loop-next g l =
    HasPut g.K.Sink l.initial.to l.to (flat_map (λ e. version_line e.0 e.1) (entries l.p.state.versions))
    (flat_map (λ e. version_line e.0 e.1) (left_of l.p.state.versions (option_map (λ v. v.name) l.next)))
    × ((v : VersionView) → l.next ≡ Some v → get l.p.state.versions v.name ≡ Some (version_of v))

abbrev pub decreases-loop-next : goal.decreases-loop-next
decreases-loop-next g l = length (left_of l.p.state.versions (option_map (λ v. v.name) l.next))
