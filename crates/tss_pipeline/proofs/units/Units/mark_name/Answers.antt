-- There is room for a name whose event may happen.
use Rattle.std.proofs.Common.{sym, ap, ◌∙◌}
use Rattle.tss_protocol.specs.UnitMachine.{is_enabled}
use Rattle.tss_pipeline.specs.State.{state_of}
use Rattle.tss_pipeline.proofs.listed.ListedNames.{room_for_name}
use Rattle.tss_pipeline.proofs.units.Units.mark_name.Goals as goal

pub mark-requires : goal.mark-requires
mark-requires c =
    λ may new.
    room_for_name c.args.self.now c.requires.fit c.args.kind c.requires.kind c.args.o c.args.list.now c.requires.fits
    (sym (c.is_enabled.ensures ∙ ap (is_enabled c.args.self.now.machine (state_of c.args.self.now)) c.event.ensures) ∙ may) new
