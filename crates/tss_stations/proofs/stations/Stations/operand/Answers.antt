-- What is known of an operand is its record.
use Rattle.std.proofs.Common.{sym, ap, ◌∙◌, option_map}
use Rattle.std.specs.Prelude.{option_and_then}
use Rattle.std.specs.FinMap.{get}
use Rattle.tss_stations.specs.Views.{state_of, view_at}
use Rattle.tss_stations.proofs.ViewLemmas.{operand_at-flight_of}
use Rattle.tss_stations.proofs.stations.Stations.operand.Goals as goal

pub returns-in_err-get-clause-state : goal.returns-in_err-get-clause-state
returns-in_err-get-clause-state c =
    ap (option_map state_of) (c.from_residual.ensures
    ∙ ap (λ r. option_and_then (view_at c.args.o.place) (option_map (λ x. x.now) r)) (sym c.in_err-get.was)
    ∙ ap (option_and_then (view_at c.args.o.place)) (c.get.ensures ∙ ap (λ s. get s.slots c.args.o.task) c.self.view_is))
    ∙ operand_at-flight_of c.args.self.now.slots c.args.o

pub returns-clause-state : goal.returns-clause-state
returns-clause-state c =
    ap (option_map state_of) (c.operand.ensures
    ∙ ap (λ r. option_and_then (view_at c.args.o.place) (option_map (λ x. x.now) r)) (sym c.in_ok-get.was)
    ∙ ap (option_and_then (view_at c.args.o.place)) (c.get.ensures ∙ ap (λ s. get s.slots c.args.o.task) c.self.view_is))
    ∙ operand_at-flight_of c.args.self.now.slots c.args.o
