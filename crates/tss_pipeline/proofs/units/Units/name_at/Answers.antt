-- The name of a message of a kind is that of its event.
use Rattle.std.proofs.Common.{option_map, sym, ap, ◌∙◌}
use Rattle.tss_mail.specs.Kinds.{event_of}
use Rattle.tss_pipeline.specs.State.{state_of}
use Rattle.tss_pipeline.proofs.listed.ListedNames.{named_of_kind}
use Rattle.tss_pipeline.proofs.units.Units.name_at.Goals as goal

pub returns-in-Some : goal.returns-in-Some
returns-in-Some c =
    ap (option_map (event_of c.args.kind)) c.name_taken.ensures
    ∙ named_of_kind (state_of c.args.self.now).mail c.args.kind c.args.i c.in-Some.name
    (sym c.at_kind.ensures ∙ c.in-Some.is)
