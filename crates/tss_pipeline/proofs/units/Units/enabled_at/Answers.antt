use Rattle.std.proofs.Common.{◌+◌, ◌-◌, ◌≤◌, ◌<◌, List, drop, ap, ◌∙◌, subst}
use Rattle.std.specs.Prelude.{slice_get}
use Rattle.tss_base.specs.declared.event.Event.{Event}
use Rattle.tss_pipeline.specs.declared.enabling.Source.TheVariants as source
use Rattle.tss_pipeline.specs.declared.enabling.TheConstants.{SOURCES}
use Rattle.tss_pipeline.specs.Enabling.{enabled_of_kinds}
use Rattle.tss_pipeline.specs.State.{state_of}
use Rattle.tss_pipeline.proofs.listed.FewEvents.{all_by_kinds, find_kind, find_further, find_none}
use Rattle.tss_pipeline.proofs.listed.KeptNumbers.{number_at}
use Rattle.tss_pipeline.proofs.units.Units.enabled_at.Goals as goal

pub loop-kind-init : goal.loop-kind-init
loop-kind-init c = ap (λ (es : List Event). slice_get es c.args.i) (all_by_kinds c.args.self.now c.requires.fit)

pub returns-then-left-count : goal.returns-then-left-count
returns-then-left-count c =
    let now =
    number_at c.args.self.now c.args.kept.now.numbers c.requires.kept.numbers c.loop-kind.kind c.loop-kind-test.true in
    c.event_in.ensures
    ∙ find_kind c.args.self.now.machine (state_of c.args.self.now) c.loop-kind.kind c.loop-kind.left c.args.i source.Main
    c.loop-kind-test.true c.loop-kind.invariant (subst (λ n. c.loop-kind.left < n) now c.if-left-count.true)

pub loop-kind-preserved : goal.loop-kind-preserved
loop-kind-preserved c =
    let m = c.args.self.now.machine in
    let S = state_of c.args.self.now in
    let now =
    number_at c.args.self.now c.args.kept.now.numbers c.requires.kept.numbers c.loop-kind.kind c.loop-kind-test.true in
    ap (λ n. slice_get (enabled_of_kinds m S (drop (c.loop-kind.kind + 1) SOURCES)) (c.loop-kind.left - n)) now
    ∙ find_further m S c.loop-kind.kind c.loop-kind.left c.args.i source.Main c.loop-kind-test.true c.loop-kind.invariant
    (subst (λ n. n ≤ c.loop-kind.left) now c.if-left-count.false)

pub returns : goal.returns
returns c =
    find_none c.args.self.now.machine (state_of c.args.self.now) c.loop-kind.kind c.loop-kind.left c.args.i
    c.loop-kind-test.false c.loop-kind.invariant
