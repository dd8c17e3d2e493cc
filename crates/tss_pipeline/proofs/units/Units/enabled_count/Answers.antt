use Rattle.std.proofs.Common.{◌+◌, List, length, drop, ap, ◌∙◌, arith}
use Rattle.tss_base.specs.declared.event.Event.{Event}
use Rattle.tss_pipeline.specs.declared.enabling.Source.TheVariants as source
use Rattle.tss_pipeline.specs.declared.enabling.TheConstants.{SOURCES}
use Rattle.tss_pipeline.specs.Enabling.{enabled_of_kinds}
use Rattle.tss_pipeline.specs.State.{state_of}
use Rattle.tss_pipeline.proofs.listed.FewEvents.{all_by_kinds, few_events, count_kind, count_all}
use Rattle.tss_pipeline.proofs.listed.KeptNumbers.{number_at}
use Rattle.tss_pipeline.proofs.units.Units.enabled_count.Goals as goal

pub loop-kind-init : goal.loop-kind-init
loop-kind-init c =
    let all = ap (λ (es : List Event). length es) (all_by_kinds c.args.self.now c.requires.fit) in
    omega (arith, all)

pub overflow_add-count : goal.overflow_add-count
overflow_add-count c =
    let few = few_events c.args.self.now c.requires.fit in
    let now =
    number_at c.args.self.now c.args.kept.now.numbers c.requires.kept.numbers c.loop-kind.kind c.loop-kind-test.true in
    let more =
    count_kind c.args.self.now.machine (state_of c.args.self.now) c.loop-kind.kind c.loop-kind.count source.Main
    c.loop-kind-test.true c.loop-kind.invariant in
    omega (arith, few, now, more)

pub loop-kind-preserved : goal.loop-kind-preserved
loop-kind-preserved c =
    let now =
    number_at c.args.self.now c.args.kept.now.numbers c.requires.kept.numbers c.loop-kind.kind c.loop-kind-test.true in
    ap (λ n. c.loop-kind.count + n + length (enabled_of_kinds c.args.self.now.machine (state_of c.args.self.now) (drop (c.loop-kind.kind + 1) SOURCES))) now
    ∙ count_kind c.args.self.now.machine (state_of c.args.self.now) c.loop-kind.kind c.loop-kind.count source.Main
    c.loop-kind-test.true c.loop-kind.invariant

pub returns : goal.returns
returns c =
    count_all c.args.self.now.machine (state_of c.args.self.now) c.loop-kind.kind c.loop-kind.count c.loop-kind-test.false
    c.loop-kind.invariant
