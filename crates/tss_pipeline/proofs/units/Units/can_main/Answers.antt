-- Main's next call is that of the definitions.
use Rattle.std.proofs.Common.{ap, ◌∙◌, option_map}
use Rattle.tss_model.specs.MainStep.{call_of}
use Rattle.tss_protocol.specs.MainEvent.{may_call}
use Rattle.tss_pipeline.specs.State.{state_of}
use Rattle.tss_pipeline.proofs.shown.MainCalls.{main_goes, main_stops, same_call}
use Rattle.tss_pipeline.proofs.units.Units.can_main.Goals as goal

pub returns-then-goes_on : goal.returns-then-goes_on
returns-then-goes_on c =
    let u = c.args.self.now in
    main_goes u c.goes_on.result c.if-goes_on.true c.goes_on.ensures c.may_call.result
    (c.may_call.ensures
    ∙ ap (may_call (state_of u))
    (same_call u c.requires (option_map call_of c.next_call.result) (c.next_call.ensures.exact u.space)))

pub returns-else-goes_on : goal.returns-else-goes_on
returns-else-goes_on c =
    main_stops c.args.self.now c.goes_on.result c.if-goes_on.false c.goes_on.ensures
