-- The tasks in flight have the numbers of the slots.
use Rattle.std.proofs.Common.{sym, subst, ap, ◌∙◌, option_and_then}
use Rattle.tss_maps.specs.Ordered.{key_at}
use Rattle.tss_stations.specs.Reading.{found_in}
use Rattle.tss_stations.specs.Views.{flight_of, flying_of}
use Rattle.tss_pipeline.specs.Seen.{PipelineState, IsReached}
use Rattle.tss_pipeline.proofs.shown.ReaderLemmas.{key_at-mapped, number_reached, number_told}
use Rattle.tss_pipeline.proofs.pipeline.Pipeline.task_at.Goals as goal

pub returns-clause-task : goal.returns-clause-task
returns-clause-task c =
    let slots = c.self.inside.units.stations.slots in
    c.task_at.ensures
    ∙ ap (option_and_then (found_in (flight_of slots))) (sym (key_at-mapped flying_of slots c.args.i))
    ∙ ap (λ (p : PipelineState). option_and_then (found_in p.state.flight) (key_at p.state.flight c.args.i))
    c.self.view_is

pub returns-clause-number : goal.returns-clause-number
returns-clause-number c =
    number_told c.args.self.now.state.flight
    (number_reached c.args.self.now
    (subst (λ (p : PipelineState). IsReached p.machine p.state) c.self.view_is c.self.invariant.fit.reached))
    c.args.i c.task_at.result (returns-clause-task c)
