-- The slot of a task has it with its stage.
use Rattle.std.proofs.Common.{Option, sym, ap, ◌∙◌, option_map, Bor}
use Rattle.std.specs.FinMap.{get}
use Rattle.tss_stations.specs.declared.slot.Slot.{Slot}
use Rattle.tss_stations.proofs.StateLemmas.{slot_shown, lent_shown, found-flight_of}
use Rattle.tss_stations.proofs.stations.Stations.find.Goals as goal

pub returns-in_err-slot : goal.returns-in_err-slot
returns-in_err-slot c =
    ap (option_map lent_shown) c.from_residual.ensures
    ∙ ap (λ (r : Option (Bor Slot)). option_map slot_shown (option_map (λ x. x.now) r)) (sym c.in_err-slot.was)
    ∙ ap (option_map slot_shown) (c.get.ensures ∙ ap (λ s. get s.slots c.args.task) c.self.view_is)
    ∙ sym (found-flight_of c.args.self.now.slots c.args.task)

pub returns : goal.returns
returns c =
    ap (λ (r : Option (Bor Slot)). option_map slot_shown (option_map (λ x. x.now) r)) (sym c.in_ok-slot.was)
    ∙ ap (option_map slot_shown) (c.get.ensures ∙ ap (λ s. get s.slots c.args.task) c.self.view_is)
    ∙ sym (found-flight_of c.args.self.now.slots c.args.task)
